-- The radius that check 8 hands on. The check and what it hands on are the same of that radius, so a call's answer at it is its answer at the call's own. It is never minus zero; where the check passed it is finite and has the sign plus. Assumes nothing.
use mathlib.Core.Path.{◌≡◌, refl, sym, ap, ◌∙◌}
use mathlib.Core.Bool.{Bool, true, false, ◌||◌, cond}
use mathlib.Core.List.{List}
use Prim.Native.Nat.{ℕ}
use borrow.Author.Tests.{not-false}
use lib.Dec.{T}
use lib.IntN.{ℤ}
use lib.Ieee.{Float, binary64, fits, le, lt, eq}
use lib.Ieee.Scale.{finite}
use Rattle.rounding.specs.Kinds.{Finite, NonNegative}
use Rattle.rounding.proofs.Interface.{number, held, plus_is_zero, minus_is_zero, minus_to_plus, never_minus, plus_zero_stays, plus_stays, zero_passes, plus_zero_above, plus_zero_below, plus_zero_finite, plus_zero_nonneg}
use Rattle.definitions.specs.Table.{Table, plus_zero, minus_zero}
use Rattle.definitions.specs.Refusals.{invalid_radius}
use Rattle.definitions.specs.Checks.{pass, refuse_if, not_finite, radius_check, handed_on}
use Rattle.definitions.specs.Calls.{nearest, nearest_seeded, list}
use Rattle.definitions.proofs.Passed.{radius_passed}
use Rattle.definitions.proofs.Answers.{nearest_checks_are, nearest_is, seeded_checks_are, seeded_is, list_checks_are, list_is}

-- ---- the radius handed on
pub never_minus_zero : (R : Float) → handed_on R ≡ minus_zero → ⊥
never_minus_zero R = never_minus R

-- minus zero itself has neither fault that check 8 refuses
pub minus_zero_passes : not_finite minus_zero || lt minus_zero plus_zero ≡ false
minus_zero_passes = zero_passes minus_zero minus_is_zero

module _ (R : Float) (double : T (fits binary64 R)) (passed : radius_check R ≡ pass) where
  pub own_finite : Finite binary64 R
  own_finite = record { fit = double; fin = held (not-false (finite R) (radius_passed R passed).0) }

  pub handed_on_finite : Finite binary64 (handed_on R)
  handed_on_finite = plus_zero_finite R own_finite

  pub handed_on_nonneg : NonNegative binary64 (handed_on R)
  handed_on_nonneg = plus_zero_nonneg R own_finite (radius_passed R passed).1

  -- the two are equal as numbers
  pub handed_on_above : T (le R (handed_on R))
  handed_on_above = plus_zero_above R (number own_finite)

  pub handed_on_below : T (le (handed_on R) R)
  handed_on_below = plus_zero_below R (number own_finite)

-- one that has the sign plus is handed on as it is
pub plus_handed_on : (R : Float) → NonNegative binary64 R → handed_on R ≡ R
plus_handed_on R p = plus_stays R p

-- ---- handed on once more
check_again : (R : Float) → radius_check (handed_on R) ≡ radius_check R
unfolding radius_check
check_again R = go (eq R plus_zero) refl
  where
    go : (b : Bool) → eq R plus_zero ≡ b → radius_check (cond b plus_zero R) ≡ radius_check R
    go true e = ap (λ (b : Bool). refuse_if b (invalid_radius plus_zero)) (zero_passes plus_zero plus_is_zero) ∙ sym (ap (λ (b : Bool). refuse_if b (invalid_radius R)) (zero_passes R e))
    go false e = refl

-- ---- the calls at the radius handed on
module _ (t : Table) (target : List Float) (R : Float) (budget : ℕ) where
  pub nearest_again : (out : List ℤ) → nearest t target out (handed_on R) budget ≡ nearest t target out R budget
  nearest_again out = rw (nearest_is t target out (handed_on R) budget, nearest_is t target out R budget, nearest_checks_are t target out (handed_on R) budget, nearest_checks_are t target out R budget, check_again R, plus_zero_stays R) refl

  pub seeded_again : (out candidate : List ℤ) → nearest_seeded t target out candidate (handed_on R) budget ≡ nearest_seeded t target out candidate R budget
  seeded_again out candidate =
      rw (seeded_is t target out candidate (handed_on R) budget, seeded_is t target out candidate R budget, seeded_checks_are t target out candidate (handed_on R) budget, seeded_checks_are t target out candidate R budget, check_again R, plus_zero_stays R)
      refl

  pub list_again : (distances : List Float) (points : List ℤ) → list t target distances points (handed_on R) budget ≡ list t target distances points R budget
  list_again distances points =
      rw (list_is t target distances points (handed_on R) budget, list_is t target distances points R budget, list_checks_are t target distances points (handed_on R) budget, list_checks_are t target distances points R budget, check_again R, plus_zero_stays R)
      refl

-- so such a call's answer at minus zero is its answer at plus zero
pub minus_as_plus : {A : Type 0} (call : Float → A) → ((R : Float) → call (handed_on R) ≡ call R) → call minus_zero ≡ call plus_zero
minus_as_plus call same = sym (same minus_zero) ∙ ap call minus_to_plus
