-- Centre, term and partial sum, a clause each, as equations: proofs above rewrite with these and open no definition. Assumes nothing.
use mathlib.Core.Path.{◌≡◌, refl, ap, ◌∙◌}
use mathlib.Core.List.{List, [], ◌∷◌}
use Prim.Native.Nat.{ℕ, suc, ◌+◌, ◌-◌}
use native.Mathlib.Omega.{arith}
use lib.ListN.{length}
use lib.IntN.{ℤ}
use lib.Ieee.{Float, binary64, add, sub, mul}
use Rattle.rounding.specs.Integers.{to_double}
use Rattle.definitions.specs.Table.{Table, dimension, weight, entry, coordinate, plus_zero}
use Rattle.definitions.specs.Distance.{center_from, center, term, level_term, partial}
use Rattle.definitions.specs.Seeds.{sum_from}

pub center_nil : (n : ℕ) (mu target : List Float) (level j : ℕ) (c : Float) → center_from n mu target level j [] c ≡ c
unfolding center_from
center_nil n mu target level j c = refl

pub center_cons : (n : ℕ) (mu target : List Float) (level j : ℕ) (z : ℤ) (zs : List ℤ) (c : Float) → center_from n mu target level j (z ∷ zs) c ≡ center_from n mu target level (suc j) zs (add binary64 c (mul binary64 (sub binary64 (coordinate target j) (to_double z)) (entry n mu j level)))
unfolding center_from
center_cons n mu target level j z zs c = refl

pub center_is : (t : Table) (target : List Float) (level : ℕ) (zs : List ℤ) → center t target level zs ≡ center_from (dimension t) t.mu target level (suc level) zs (coordinate target level)
unfolding center
center_is t target level zs = refl

pub term_is : (w c : Float) (z : ℤ) → term w c z ≡ mul binary64 (mul binary64 w (sub binary64 c (to_double z))) (sub binary64 c (to_double z))
unfolding term
term_is w c z = refl

pub partial_nil : (t : Table) (target : List Float) → partial t target [] ≡ plus_zero
unfolding partial
partial_nil t target = refl

pub partial_cons : (t : Table) (target : List Float) (z : ℤ) (zs : List ℤ) → partial t target (z ∷ zs) ≡ add binary64 (partial t target zs) (level_term t target z zs)
unfolding partial
partial_cons t target z zs = refl

-- ---- a partial sum and one term more
pub level_is : (t : Table) (target : List Float) (z : ℤ) (zs : List ℤ) (level : ℕ) → suc level + length zs ≡ dimension t → level_term t target z zs ≡ term (weight t level) (center t target level zs) z
unfolding level_term
level_is t target z zs level e = ap (λ (k : ℕ). term (weight t k) (center t target k zs) z) (same (length zs) (dimension t) level e)
  where
    same : (a n l : ℕ) → suc l + a ≡ n → n - suc a ≡ l
    same a n l e = omega arith

pub partial_step : (t : Table) (target : List Float) (z : ℤ) (zs : List ℤ) (level : ℕ) → suc level + length zs ≡ dimension t → partial t target (z ∷ zs) ≡ add binary64 (partial t target zs) (term (weight t level) (center t target level zs) z)
partial_step t target z zs level e = partial_cons t target z zs ∙ ap (add binary64 (partial t target zs)) (level_is t target z zs level e)

-- ---- the sum of `nearest_plane`
pub sum_from_nil : (n : ℕ) (mu : List Float) (i j : ℕ) (c : Float) → sum_from n mu i j [] c ≡ c
unfolding sum_from
sum_from_nil n mu i j c = refl

pub sum_from_cons : (n : ℕ) (mu : List Float) (i j : ℕ) (a : Float) (rest : List Float) (c : Float) → sum_from n mu i j (a ∷ rest) c ≡ sum_from n mu i (suc j) rest (add binary64 c (mul binary64 a (entry n mu j i)))
unfolding sum_from
sum_from_cons n mu i j a rest c = refl
