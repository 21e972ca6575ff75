-- The fault of an element of a matrix, and a test of each number below n. Assumes nothing.
use mathlib.Core.Path.{◌≡◌, sym, ap, ◌∙◌}
use mathlib.Core.Bool.{Bool, true, false}
use mathlib.Core.List.{List}
use Prim.Native.Nat.{ℕ, ◌<◌}
use native.Mathlib.Omega.{arith}
use lib.ListN.{get_or, length}
use lib.IntN.{ℤ, pos}
use Rattle.std.specs.Bool.{MatchBool}
use Rattle.std.specs.List.{AllWithin, HoldsAt, range_with_len}
use Rattle.std.proofs.lemmas.List.FromFn.{length-range_with_len, get_or-range_with_len}
use Rattle.definitions.specs.Prepared.{each_below, element_fault}
use Rattle.definitions.proofs.Prepared.{each_passes, each_fails}

-- ---- the fault of an element
abbrev pub fault_at : List ℤ → ℕ → Bool
fault_at elements k = element_fault (get_or elements k (pos 0))

-- ---- the test of each number below n, by what `all` over them answers
module _ (n : ℕ) (test : ℕ → Bool) where
  abbrev pub Answered : Bool → ℕ → Type 0
  Answered b k = k < n → test k ≡ b

  itself : (k : ℕ) → k < n → get_or (range_with_len 0 n) k 0 ≡ k
  itself k below = get_or-range_with_len 0 n k 0 below ∙ omega arith

  pub each_tested : (r : Bool) → MatchBool r (AllWithin (Answered true) (range_with_len 0 n) 0 (length (range_with_len 0 n))) ((k : ℕ) × (k < length (range_with_len 0 n)) × HoldsAt (Answered false) (range_with_len 0 n) k) → r ≡ each_below n test
  each_tested true all =
      sym (each_passes n test (λ k below. let e = itself k below in ap test (sym e) ∙ all k 0 (omega arith) (omega (arith, length-range_with_len 0 n)) (omega (arith, e))))
  each_tested false (k, within, fails) =
      let below : k < n = omega (arith, length-range_with_len 0 n) in
      let e = itself k below in
      sym (each_fails n k test below (ap test (sym e) ∙ fails 0 (omega (arith, e))))
