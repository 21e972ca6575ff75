-- The check that refuses the first double with a fault, by the index that `position` gives. Assumes nothing.
use mathlib.Core.Path.{◌≡◌, sym}
use mathlib.Core.Bool.{Bool, true, false}
use mathlib.Core.List.{List}
use Prim.Native.Nat.{ℕ, ◌<◌}
use lib.ListN.{length, get_or}
use lib.Ieee.{Float, nan}
use Rattle.definitions.specs.Refusals.{Refusal}
use Rattle.definitions.specs.Checks.{Verdict, pass, refuse, refuse_at_first, count_from}
use Rattle.definitions.proofs.Verdicts.{first_fault, no_fault}

module _ (fault : Float → Bool) (e : ℕ → Refusal) (xs : List Float) where
  abbrev pub first_of : Verdict
  first_of = refuse_at_first (λ k. fault (get_or xs k nan)) e (count_from 0 (length xs))

  pub refused_at : (i : ℕ) → i < length xs → ((k : ℕ) → k < i → fault (get_or xs k nan) ≡ false) → fault (get_or xs i nan) ≡ true → refuse (e i) ≡ first_of
  refused_at i below before here = sym (first_fault (λ k. fault (get_or xs k nan)) e (length xs) i below before here)

  pub none_at : ((k : ℕ) → k < length xs → fault (get_or xs k nan) ≡ false) → pass ≡ first_of
  none_at clean = sym (no_fault (λ k. fault (get_or xs k nan)) e (length xs) clean)
