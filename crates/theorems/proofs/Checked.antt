-- A table and a target of doubles that pass checks 2 to 7 are within the limits on which the search's laws rest. Assumes nothing.
use mathlib.Core.Path.{◌≡◌, sym, subst}
use mathlib.Core.Bool.{Bool, true, false, not}
use mathlib.Core.List.{List, [], ◌∷◌}
use Prim.Native.Nat.{ℕ, zero, suc, ◌≤◌}
use native.Mathlib.Nat.{le_trans}
use native.Mathlib.Omega.{arith}
use lib.Dec.{T}
use lib.ListN.{length, get_or}
use lib.Ieee.{Float, nan, binary64, fits, lt}
use lib.Ieee.Fits.{and_i, and_l, and_r}
use lib.Ieee.Scale.{finite}
use Rattle.rounding.specs.Doubles.{magnitude}
use Rattle.rounding.proofs.Interface.{nan_fit, Within, within_not_above}
use Rattle.definitions.specs.Table.{Table, dimension, coordinate, coord_limit}
use Rattle.definitions.specs.Checks.{pass, not_finite, beyond_limit, target_check}
use Rattle.definitions.proofs.Tables.{CheckedTable, both_false, weight_passed, target_passed}
use Rattle.theorems.specs.Doubles.{all_doubles, of_doubles}
use Rattle.theorems.proofs.Limits.{Limits}

-- every place of a list of doubles is a double
double_at : (xs : List Float) → T (all_doubles xs) → (k : ℕ) → T (fits binary64 (get_or xs k nan))
unfolding all_doubles
double_at [] d k = nan_fit binary64
double_at (x ∷ xs) d zero = and_l (fits binary64 x) (all_doubles xs) d
double_at (x ∷ xs) d (suc k) = double_at xs (and_r (fits binary64 x) (all_doubles xs) d) k

-- and a list with a double at every place is a list of doubles; so is a table and a target in slices
pub doubles_at : (xs : List Float) → ((k : ℕ) → T (fits binary64 (get_or xs k nan))) → T (all_doubles xs)
unfolding all_doubles
doubles_at [] d = tt
doubles_at (x ∷ xs) d = and_i (fits binary64 x) (all_doubles xs) (d 0) (doubles_at xs (λ k. d (suc k)))

pub doubles_in : (t : Table) (target : List Float) → ((k : ℕ) → T (fits binary64 (get_or t.weights k nan))) → ((k : ℕ) → T (fits binary64 (get_or t.mu k nan))) → ((k : ℕ) → T (fits binary64 (get_or target k nan))) → T (of_doubles t target)
doubles_in t target w m x = and_i (all_doubles t.weights) _ (doubles_at t.weights w) (and_i (all_doubles t.mu) (all_doubles target) (doubles_at t.mu m) (doubles_at target x))

pub held : (b : Bool) → not b ≡ false → T b
held true e = tt
held false e = absurd (mathlib.Core.Bool.true≢false e)

pub failed : (b : Bool) → b ≡ false → T (not b)
failed b e = subst (λ (x : Bool). T (not x)) (sym e) tt

within_limit : (x : Float) → T (fits binary64 x) → not_finite x ≡ false → beyond_limit x ≡ false → Within binary64 52 x
within_limit x d f l = within_not_above binary64 x d (held (finite x) f) (failed (lt coord_limit (magnitude x)) l)

pub limits_of_checks : (largest : ℕ) (t : Table) (target : List Float) → largest ≤ 64 → T (of_doubles t target) → CheckedTable largest t → dimension t ≡ length target → target_check target ≡ pass → Limits t target
limits_of_checks largest t target few d checked same q =
    let w = and_l (all_doubles t.weights) _ d in
    let r = and_r (all_doubles t.weights) _ d in
    let m = and_l (all_doubles t.mu) (all_doubles target) r in
    let x = and_r (all_doubles t.mu) (all_doubles target) r in
    record {
      small = le_trans checked.small few;
      target_length = sym same;
      weights = λ k h. weight_passed _ (double_at t.weights w k) (checked.weighted k h);
      targets = λ k h. let p = both_false (not_finite (coordinate target k)) (beyond_limit (coordinate target k)) (target_passed target q k (omega arith)) in within_limit _ (double_at target x k) p.0 p.1;
      entries = λ j i h l. within_limit _ (double_at t.mu m _) (checked.finite_entry j i h l) (checked.within_limit j i h l);
    }
