-- What the checks of a table and a target promise, and that within these limits no centre overflows. Assumes nothing.
use mathlib.Core.Path.{◌≡◌, sym, subst}
use Prim.Native.Nat.{ℕ, suc, ◌+◌, ◌≤◌, ◌<◌}
use native.Mathlib.Nat.{le_of_eq, add-zero}
use native.Mathlib.Omega.{arith}
use mathlib.Core.List.{List, [], ◌∷◌}
use lib.Dec.{T, lit≤}
use lib.ListN.{length}
use lib.IntN.{ℤ}
use lib.Ieee.{Float, binary64, add, sub, mul}
use Rattle.rounding.specs.Integers.{to_double, is_i64}
use Rattle.rounding.specs.Kinds.{Finite}
use Rattle.rounding.proofs.Interface.{Weight, Within, within_more, within_sub, within_add, within_mul, within_of_int}
use Rattle.definitions.specs.Table.{Table, dimension, weight, entry, coordinate}
use Rattle.definitions.specs.Distance.{center_from, center}
use Rattle.definitions.specs.Admitted.{all_i64}
use Rattle.definitions.proofs.Distances.{center_nil, center_cons, center_is}
use Rattle.definitions.proofs.Admissions.{all_i64_head, all_i64_tail}

pub record Limits (t : Table) (target : List Float) : Type 0 where
  pub small : dimension t ≤ 64
  pub target_length : length target ≡ dimension t
  pub weights : (k : ℕ) → k < dimension t → Weight binary64 (weight t k)
  pub targets : (k : ℕ) → k < dimension t → Within binary64 52 (coordinate target k)
  pub entries : (j i : ℕ) → i < j → j < dimension t → Within binary64 52 (entry (dimension t) t.mu j i)

room : (a n k : ℕ) → suc k + a ≡ n → n ≤ 64 → 116 + a ≤ 1023
room a n k e h = omega arith

module _ (t : Table) (target : List Float) (limits : Limits t target) where
  -- (target[j] - z)·mu is at most 2 ^ 116
  abbrev summand : ℕ → ℕ → ℤ → Float
  summand j i z = mul binary64 (sub binary64 (coordinate target j) (to_double z)) (entry (dimension t) t.mu j i)

  summand_within : (j i : ℕ) (z : ℤ) → i < j → j < dimension t → T (is_i64 z) → Within binary64 116 (summand j i z)
  summand_within j i z h l t64 =
      within_mul binary64 64 52 (sub binary64 (coordinate target j) (to_double z)) (entry (dimension t) t.mu j i) (lit≤ tt)
      (within_sub binary64 63 (coordinate target j) (to_double z) (lit≤ tt) (within_more (lit≤ tt) (limits.targets j l)) (within_of_int binary64 z t64))
      (limits.entries j i h l)

  center_within : (i j : ℕ) (zs : List ℤ) (a : ℕ) (c : Float) → i < j → j + length zs ≡ dimension t → T (all_i64 zs) → 116 ≤ a → a + length zs ≤ 1023 → Within binary64 a c → Within binary64 (a + length zs) (center_from (dimension t) t.mu target i j zs c)
  center_within i j [] a c h e al m n p = subst (Within binary64 (a + 0)) (sym (center_nil (dimension t) t.mu target i j c)) (within_more (le_of_eq (sym (add-zero a))) p)
  center_within i j (z ∷ zs) a c h e al m n p =
      subst (Within binary64 (a + suc (length zs))) (sym (center_cons (dimension t) t.mu target i j z zs c))
      (within_more (le_of_eq (same a (length zs)))
      (center_within i (suc j) zs (suc a) (add binary64 c (summand j i z)) (omega arith) (omega arith) (all_i64_tail z zs al) (omega arith) (omega arith)
      (within_add binary64 a c (summand j i z) (top a (length zs) n) p (within_more m (summand_within j i z h (omega arith) (all_i64_head z zs al))))))
    where
      same : (a b : ℕ) → suc a + b ≡ a + suc b
      same a b = omega arith

      top : (a b : ℕ) → a + suc b ≤ 1023 → suc a ≤ 1023
      top a b h = omega arith

  -- no centre overflows
  pub center_finite : (level : ℕ) (zs : List ℤ) → T (all_i64 zs) → suc level + length zs ≡ dimension t → Finite binary64 (center t target level zs)
  center_finite level zs a e =
      subst (Finite binary64) (sym (center_is t target level zs))
      (center_within level (suc level) zs 116 (coordinate target level) (omega arith) e a (lit≤ tt) (room (length zs) (dimension t) level e limits.small)
      (within_more (lit≤ tt) (limits.targets level (omega arith)))).fin
