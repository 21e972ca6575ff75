-- A list made of what belongs to 0, 1, .., by its length and its places. Assumes nothing.
use mathlib.Core.Path.{◌≡◌, refl, sym, ap, ◌∙◌}
use mathlib.Core.List.{List, map}
use Prim.Native.Nat.{ℕ, zero, suc, ◌+◌, ◌<◌}
use native.Mathlib.Omega.{arith}
use lib.ListN.{length, get_or}
use lib.Seq.{ext_get_or}
use Rattle.definitions.specs.Checks.{count_from}

module _ {A : Type 0} (f : ℕ → A) where
  length_from : (first n : ℕ) → length (map f (count_from first n)) ≡ n
  unfolding count_from
  length_from first zero = refl
  length_from first (suc n) = ap suc (length_from (suc first) n)

  at_from : (d : A) (first n k : ℕ) → k < n → get_or (map f (count_from first n)) k d ≡ f (first + k)
  unfolding count_from
  at_from d first zero k below = absurd (omega arith)
  at_from d first (suc n) zero below = ap f (omega arith)
  at_from d first (suc n) (suc k) below = at_from d (suc first) n k (omega arith) ∙ ap f (omega arith)

  pub counted_length : (n : ℕ) → length (map f (count_from 0 n)) ≡ n
  counted_length n = length_from 0 n

  pub counted_at : (d : A) (n k : ℕ) → k < n → get_or (map f (count_from 0 n)) k d ≡ f k
  counted_at d n k below = at_from d 0 n k below ∙ ap f (omega arith)

  -- a list with these places
  pub counted_is : (d : A) (n : ℕ) (b : List A) → length b ≡ n → ((k : ℕ) → k < n → get_or b k d ≡ f k) → b ≡ map f (count_from 0 n)
  counted_is d n b same at = ext_get_or d b (map f (count_from 0 n)) (same ∙ sym (counted_length n)) (λ k below. at k (omega arith) ∙ sym (counted_at d n k (omega arith)))
