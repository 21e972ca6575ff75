-- The call `ratio`: a verdict or 21, and what the verdict says of the list whose distances it is given. Assumes nothing.
use mathlib.Core.Path.{◌≡◌, sym, ap, ◌∙◌}
use mathlib.Core.List.{List, [], ◌∷◌}
use mathlib.Core.Logic.{◌⊎◌, inl, inr}
use Prim.Native.Nat.{ℕ}
use native.Mathlib.Omega.{arith}
use lib.Dec.{T}
use lib.Ieee.{Float, binary64, fits}
use Rattle.definitions.specs.Refusals.{Value, whole, real, Refusal, setting_range}
use Rattle.definitions.specs.Calls.{Answer, found, refused, list}
use Rattle.definitions.specs.Checks.{refuse}
use Rattle.definitions.specs.Settings.{factors_check, FactorsInRange}
use Rattle.definitions.specs.Ratio.{Ratio, ratio, list_ratio, ratio_call}
use Rattle.definitions.proofs.Answers.{after_pass, after_refuse, found≢refused, refused_same}
use Rattle.definitions.proofs.Settings.{factors_pass, FactorsEnd, p_wrong, q_wrong, right, factors_end}
use Rattle.definitions.proofs.Ratios.{ratio_call_is, ratio_of_written}
use Rattle.theorems.specs.Settings.{RightP, RightQ}
use Rattle.theorems.specs.Ratios.{RatioCallPromises}
use Rattle.theorems.proofs.Settings.{both_right, in_range}
use Rattle.theorems.proofs.Ratios.{list_ratio_lem}

index_in : List Value → ℕ
index_in [] = 0
index_in (whole n ∷ values) = n
index_in (real x ∷ values) = 0

other_index : setting_range 0 ≡ setting_range 1 → ⊥
unfolding index_in
other_index e = let z : ◌≡◌ {A = ℕ} 0 1 = ap (λ (r : Refusal). index_in r.values) e in omega (arith, z)

same_found : {v w : Ratio} → found v ≡ found w → v ≡ w
same_found e = cc

module _ (p q : ℕ) where
  module _ (distances : List Float) (R : Float) where
    abbrev answer : Answer Ratio
    answer = ratio_call p q distances R

    verdict_of_lem : FactorsInRange p q → answer ≡ found (ratio p q distances R)
    verdict_of_lem range = ratio_call_is p q R distances ∙ after_pass (factors_check p q) (found (ratio p q distances R)) (factors_pass p q range)

    refusal_of : (e : Refusal) → factors_check p q ≡ refuse e → answer ≡ refused e
    refusal_of e h = ratio_call_is p q R distances ∙ after_refuse (factors_check p q) (found (ratio p q distances R)) e h

    answered : FactorsEnd p q → (v : Ratio) → answer ≡ found v → RightP p q × RightQ q
    answered (p_wrong wrong h) v e = absurd (found≢refused (sym e ∙ refusal_of (setting_range 0) h))
    answered (q_wrong own wrong h) v e = absurd (found≢refused (sym e ∙ refusal_of (setting_range 1) h))
    answered (right range) v e = both_right p q range

    told_0 : FactorsEnd p q → answer ≡ refused (setting_range 0) → RightP p q → ⊥
    told_0 (p_wrong wrong h) e own = wrong own
    told_0 (q_wrong own wrong h) e _ = other_index (refused_same (sym e ∙ refusal_of (setting_range 1) h))
    told_0 (right range) e own = found≢refused (sym (verdict_of_lem range) ∙ e)

    gives_0 : FactorsEnd p q → (RightP p q → ⊥) → answer ≡ refused (setting_range 0)
    gives_0 (p_wrong wrong h) not_so = refusal_of (setting_range 0) h
    gives_0 (q_wrong own wrong h) not_so = absurd (not_so own)
    gives_0 (right range) not_so = absurd (not_so (both_right p q range).0)

    told_1 : FactorsEnd p q → answer ≡ refused (setting_range 1) → RightP p q × (RightQ q → ⊥)
    told_1 (p_wrong wrong h) e = absurd (other_index (refused_same (sym (refusal_of (setting_range 0) h) ∙ e)))
    told_1 (q_wrong own wrong h) e = (own, λ r. omega (arith, r.0, wrong))
    told_1 (right range) e = absurd (found≢refused (sym (verdict_of_lem range) ∙ e))

    gives_1 : FactorsEnd p q → RightP p q → (RightQ q → ⊥) → answer ≡ refused (setting_range 1)
    gives_1 (p_wrong wrong h) own not_so = absurd (wrong own)
    gives_1 (q_wrong own wrong h) _ not_so = refusal_of (setting_range 1) h
    gives_1 (right range) own not_so = absurd (not_so (both_right p q range).1)

    told_any : FactorsEnd p q → (e : Refusal) → answer ≡ refused e → (e ≡ setting_range 0) ⊎ (e ≡ setting_range 1)
    told_any (p_wrong wrong h) e k = inl (refused_same (sym k ∙ refusal_of (setting_range 0) h))
    told_any (q_wrong own wrong h) e k = inr (refused_same (sym k ∙ refusal_of (setting_range 1) h))
    told_any (right range) e k = absurd (found≢refused (sym (verdict_of_lem range) ∙ k))

    pub ratio_call_lem : T (fits binary64 R) → RatioCallPromises p q distances R answer
    ratio_call_lem double =
        let end = factors_end p q in
        record {
          answers = (λ (v, e). answered end v e, λ (a, b). (ratio p q distances R, verdict_of_lem (in_range p q a b)));
          gives_0 = (told_0 end, gives_0 end);
          gives_1 = (told_1 end, λ (own, not_so). gives_1 end own not_so);
          refuses = told_any end;
          of_list = λ a b t target lent points budget doubles promise same.
              let range = in_range p q a b in
              let l = list t target lent points R budget in
              let own : ratio p q distances R ≡ list_ratio p q l R = ap (λ (ds : List Float). ratio p q ds R) same ∙ ratio_of_written p q R l lent in
              let promised = list_ratio_lem p q range t target lent points R budget doubles double promise in
              record {
                means = λ v. (λ e. (promised.means v).0 (sym own ∙ same_found (sym (verdict_of_lem range) ∙ e)), λ m. verdict_of_lem range ∙ ap found (own ∙ (promised.means v).1 m));
                once = promised.once;
                zero_holds = λ listed e z. verdict_of_lem range ∙ ap found (own ∙ promised.zero_holds listed e z);
              };
        }
