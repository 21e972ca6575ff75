-- The check of a job's settings tells the first that is not right. Assumes nothing.
use mathlib.Core.Path.{◌≡◌, refl, sym, ◌∙◌, subst}
use Prim.Native.Nat.{ℕ}
use native.Mathlib.Omega.{arith}
use mathlib.Core.Bool.{Bool, true, false, true≢false}
use Rattle.definitions.specs.Refusals.{setting_range}
use Rattle.definitions.specs.Settings.{Settings, largest_places, outside, FactorsInRange, settings_check}
use Rattle.definitions.proofs.Settings.{inside, outside_false, factors_pass, FactorsEnd, p_wrong, q_wrong, right, factors_end, factors_first, places_outside, settings_inside}
use Rattle.theorems.specs.Settings.{RightP, RightQ, FirstSetting, gives_0, gives_1, gives_2, passes}

pub both_right : (p q : ℕ) → FactorsInRange p q → RightP p q × RightQ q
both_right p q r =
    let most = r.p_most in
    let some = r.q_some in
    let below = r.q_below in
    ((omega arith, most, below), (some, omega arith))

pub in_range : (p q : ℕ) → RightP p q → RightQ q → FactorsInRange p q
in_range p q (some, most, below) (one, few) = record { p_most = most; q_some = one; q_below = below }

pub first_setting : (s : Settings) → FirstSetting s (settings_check s)
first_setting s = by (factors_end s.p s.q)
  where
    places : FactorsInRange s.p s.q → (b : Bool) → outside largest_places s.places ≡ b → FirstSetting s (settings_check s)
    places range true e =
        let factors = both_right s.p s.q range in
        subst (FirstSetting s) (sym (places_outside s (factors_pass s.p s.q range) e)) (gives_2 factors.0 factors.1 (λ r. true≢false (sym e ∙ inside largest_places s.places r.0 r.1)))
    places range false e =
        let factors = both_right s.p s.q range in
        subst (FirstSetting s) (sym (settings_inside s (factors_pass s.p s.q range) e)) (passes factors.0 factors.1 (outside_false largest_places s.places e))

    by : FactorsEnd s.p s.q → FirstSetting s (settings_check s)
    by (p_wrong wrong h) = subst (FirstSetting s) (sym (factors_first s (setting_range 0) h)) (gives_0 wrong)
    by (q_wrong own wrong h) = subst (FirstSetting s) (sym (factors_first s (setting_range 1) h)) (gives_1 own (λ r. omega (arith, r.0, wrong)))
    by (right range) = places range (outside largest_places s.places) refl
