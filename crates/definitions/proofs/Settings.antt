-- The settings' checks, test by test, and what they leave where they pass. Assumes nothing.
use mathlib.Core.Path.{◌≡◌, refl, sym, ap, ◌∙◌}
use Prim.Native.Nat.{ℕ, ◌≤◌, ◌<◌}
use native.Mathlib.Omega.{arith}
use mathlib.Core.Bool.{Bool, true, false, ◌||◌, cond}
use mathlib.Core.List.{[], ◌∷◌}
use borrow.Author.Tests.{ltb-true, ltb-false, le-ltb, lt-ltb}
use lib.Dec.{ltb}
use Rattle.definitions.specs.Refusals.{Refusal, setting_range}
use Rattle.definitions.specs.Checks.{Verdict, pass, refuse, refuse_at_first, count_from}
use Rattle.definitions.specs.Settings.{Settings, largest_factor, largest_places, outside, factors_check, FactorsInRange, places_check, SettingsInRange, settings_check}
use Rattle.definitions.proofs.Verdicts.{or_else, refuse≢pass, first_cons, first_alone}
use Rattle.definitions.proofs.Tables.{both_false}

-- ---- one setting
pub outside_small : (limit setting : ℕ) → setting < 1 → outside limit setting ≡ true
outside_small limit setting h = ap (λ (b : Bool). b || ltb limit setting) (lt-ltb setting 1 h)

pub outside_large : (limit setting : ℕ) → 1 ≤ setting → limit < setting → outside limit setting ≡ true
outside_large limit setting l h = ap (λ (b : Bool). b || ltb limit setting) (le-ltb setting 1 l) ∙ lt-ltb limit setting h

pub inside : (limit setting : ℕ) → 1 ≤ setting → setting ≤ limit → outside limit setting ≡ false
inside limit setting l h = ap (λ (b : Bool). b || ltb limit setting) (le-ltb setting 1 l) ∙ le-ltb limit setting h

pub outside_false : (limit setting : ℕ) → outside limit setting ≡ false → (1 ≤ setting) × (setting ≤ limit)
outside_false limit setting e =
    let both = both_false (ltb setting 1) (ltb limit setting) e in
    (ltb-false setting 1 both.0, ltb-false limit setting both.1)

-- ---- the factors
pub factors_are : (p q : ℕ) → factors_check p q ≡ cond (outside largest_factor p || ltb p q) (refuse (setting_range 0)) (cond (outside largest_factor q) (refuse (setting_range 1)) pass)
unfolding factors_check refuse_at_first count_from
factors_are p q = refl

module _ (p q : ℕ) where
  pub p_outside : outside largest_factor p ≡ true → factors_check p q ≡ refuse (setting_range 0)
  p_outside h = factors_are p q ∙ ap (λ (b : Bool). cond (b || ltb p q) (refuse (setting_range 0)) (cond (outside largest_factor q) (refuse (setting_range 1)) pass)) h

  module _ (right : outside largest_factor p ≡ false) where
    pub p_below : p < q → factors_check p q ≡ refuse (setting_range 0)
    p_below h = factors_are p q ∙ simp (right, lt-ltb p q h)

    module _ (below : q ≤ p) where
      pub q_outside : outside largest_factor q ≡ true → factors_check p q ≡ refuse (setting_range 1)
      q_outside h = factors_are p q ∙ simp (right, le-ltb p q below, h)

      pub factors_inside : outside largest_factor q ≡ false → factors_check p q ≡ pass
      factors_inside h = factors_are p q ∙ simp (right, le-ltb p q below, h)

unrefused : (b : Bool) (e : Refusal) (later : Verdict) → cond b (refuse e) later ≡ pass → (b ≡ false) × (later ≡ pass)
unrefused true e later h = absurd (refuse≢pass h)
unrefused false e later h = (refl, h)

pub factors_passed : (p q : ℕ) → factors_check p q ≡ pass → FactorsInRange p q
factors_passed p q h =
    let first = unrefused (outside largest_factor p || ltb p q) (setting_range 0) (cond (outside largest_factor q) (refuse (setting_range 1)) pass) (sym (factors_are p q) ∙ h) in
    let p_right = both_false (outside largest_factor p) (ltb p q) first.0 in
    record {
      p_most = (outside_false largest_factor p p_right.0).1;
      q_some = (outside_false largest_factor q (unrefused (outside largest_factor q) (setting_range 1) pass first.1).0).0;
      q_below = ltb-false p q p_right.1;
    }

pub factors_pass : (p q : ℕ) → FactorsInRange p q → factors_check p q ≡ pass
factors_pass p q r =
    let some = r.q_some in
    let below = r.q_below in
    let most = r.p_most in
    factors_inside p q (inside largest_factor p (omega arith) most) below (inside largest_factor q some (omega arith))

-- its three ends, in the order of its tests
pub data FactorsEnd (p q : ℕ) : Type 0 where
  p_wrong : ((1 ≤ p) × (p ≤ largest_factor) × (q ≤ p) → ⊥) → factors_check p q ≡ refuse (setting_range 0) → FactorsEnd p q
  q_wrong : (1 ≤ p) × (p ≤ largest_factor) × (q ≤ p) → q < 1 → factors_check p q ≡ refuse (setting_range 1) → FactorsEnd p q
  right : FactorsInRange p q → FactorsEnd p q

pub factors_end : (p q : ℕ) → FactorsEnd p q
factors_end p q = small (ltb p 1) refl
  where
    none : p ≤ largest_factor → q ≤ p → 1 ≤ p → (b : Bool) → ltb q 1 ≡ b → FactorsEnd p q
    none most below some true e =
        let zero = ltb-true q 1 e in
        q_wrong (some, most, below) zero (q_outside p q (inside largest_factor p some most) below (outside_small largest_factor q zero))
    none most below some false e = right (record { p_most = most; q_some = ltb-false q 1 e; q_below = below })

    order : p ≤ largest_factor → 1 ≤ p → (b : Bool) → ltb p q ≡ b → FactorsEnd p q
    order most some true e = let less = ltb-true p q e in p_wrong (λ r. omega (arith, r.2, less)) (p_below p q (inside largest_factor p some most) less)
    order most some false e = none most (ltb-false p q e) some (ltb q 1) refl

    large : 1 ≤ p → (b : Bool) → ltb largest_factor p ≡ b → FactorsEnd p q
    large some true e = let more = ltb-true largest_factor p e in p_wrong (λ r. omega (arith, r.1, more)) (p_outside p q (outside_large largest_factor p some more))
    large some false e = order (ltb-false largest_factor p e) some (ltb p q) refl

    small : (b : Bool) → ltb p 1 ≡ b → FactorsEnd p q
    small true e = let less = ltb-true p 1 e in p_wrong (λ r. omega (arith, r.0, less)) (p_outside p q (outside_small largest_factor p less))
    small false e = large (ltb-false p 1 e) (ltb largest_factor p) refl

-- ---- all three
pub settings_are : (s : Settings) → settings_check s ≡ or_else (factors_check s.p s.q) (places_check s.places)
unfolding settings_check
settings_are s = first_cons (factors_check s.p s.q) (places_check s.places ∷ []) ∙ ap (or_else (factors_check s.p s.q)) (first_alone (places_check s.places))

module _ (s : Settings) where
  pub factors_first : (e : Refusal) → factors_check s.p s.q ≡ refuse e → settings_check s ≡ refuse e
  factors_first e h = settings_are s ∙ ap (λ (v : Verdict). or_else v (places_check s.places)) h

  module _ (factors : factors_check s.p s.q ≡ pass) where
    pub places_outside : outside largest_places s.places ≡ true → settings_check s ≡ refuse (setting_range 2)
    places_outside h = settings_are s ∙ ap (λ (v : Verdict). or_else v (places_check s.places)) factors ∙ ap (λ (b : Bool). cond b (refuse (setting_range 2)) pass) h

    pub settings_inside : outside largest_places s.places ≡ false → settings_check s ≡ pass
    settings_inside h = settings_are s ∙ ap (λ (v : Verdict). or_else v (places_check s.places)) factors ∙ ap (λ (b : Bool). cond b (refuse (setting_range 2)) pass) h

pub settings_passed : (s : Settings) → settings_check s ≡ pass → SettingsInRange s
settings_passed s h = go (factors_check s.p s.q) refl (sym (settings_are s) ∙ h)
  where
    go : (v : Verdict) → factors_check s.p s.q ≡ v → or_else v (places_check s.places) ≡ pass → SettingsInRange s
    go pass e k =
        let range = outside_false largest_places s.places (unrefused (outside largest_places s.places) (setting_range 2) pass k).0 in
        record { factors = factors_passed s.p s.q e; places_some = range.0; places_most = range.1 }
    go (refuse r) e k = absurd (refuse≢pass k)

pub settings_pass : (s : Settings) → SettingsInRange s → settings_check s ≡ pass
settings_pass s r = settings_inside s (factors_pass s.p s.q r.factors) (inside largest_places s.places r.places_some r.places_most)

-- where they refuse, it is by 21
same_refusal : {d e : Refusal} → refuse d ≡ refuse e → d ≡ e
same_refusal q = cc

pub settings_number : (s : Settings) (e : Refusal) → settings_check s ≡ refuse e → e.number ≡ 21
settings_number s e h = go (outside largest_factor s.p || ltb s.p s.q) (outside largest_factor s.q) (outside largest_places s.places) (sym (settings_are s ∙ ap (λ (v : Verdict). or_else v (places_check s.places)) (factors_are s.p s.q)) ∙ h)
  where
    go : (a b c : Bool) → or_else (cond a (refuse (setting_range 0)) (cond b (refuse (setting_range 1)) pass)) (cond c (refuse (setting_range 2)) pass) ≡ refuse e → e.number ≡ 21
    go true b c k = sym (ap (λ (r : Refusal). r.number) (same_refusal k))
    go false true c k = sym (ap (λ (r : Refusal). r.number) (same_refusal k))
    go false false true k = sym (ap (λ (r : Refusal). r.number) (same_refusal k))
    go false false false k = absurd (refuse≢pass (sym k))
