-- What holds of each element of a list. Definitions only.
use Rattle.std.specs.Prelude.{ℕ, ◌≤◌, ◌<◌, List, [], ◌∷◌}

pub data All {A : Type 0} (P : A → Type 0) : List A → Type 0 where
  none : All P []
  more : {x : A} {xs : List A} → P x → All P xs → All P (x ∷ xs)

-- each index of a list is below a bound
abbrev pub AllBelow : ℕ → List ℕ → Type 0
AllBelow bound is = All (λ (i : ℕ). i < bound) is

-- each number of a list is at most a bound
abbrev pub AllAtMost : ℕ → List ℕ → Type 0
AllAtMost bound xs = All (λ (x : ℕ). x ≤ bound) xs
