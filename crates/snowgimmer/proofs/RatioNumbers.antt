-- What `snowgimmer_ratio` tells is the answer: each verdict has a number of its own, and 21 its index. Assumes nothing.
use mathlib.Core.Path.{◌≡◌, refl, sym, ap, ◌∙◌}
use mathlib.Core.Bool.{cond}
use mathlib.Core.Logic.{◌⊎◌, ◌↔◌, inl, inr}
use Prim.Native.Nat.{ℕ}
use native.Mathlib.Omega.{arith}
use lib.Dec.{eqb}
use Rattle.definitions.specs.Table.{plus_zero}
use Rattle.definitions.specs.Refusals.{Refusal, setting_range}
use Rattle.definitions.specs.Calls.{Answer, found, refused}
use Rattle.definitions.specs.Ratio.{Ratio, holds, fails, «open», none}
use Rattle.snowgimmer.specs.declared.report.Report.{Report}
use Rattle.snowgimmer.specs.Reports.{told, ratio_number, of_ratio}

abbrev ratio_by : ℕ → Ratio
ratio_by k = cond (eqb k 1) holds (cond (eqb k 2) fails (cond (eqb k 3) «open» none))

by_number : (v : Ratio) → ratio_by (ratio_number v) ≡ v
by_number holds = refl
by_number fails = refl
by_number «open» = refl
by_number none = refl

-- a refusal of the call is 21 with one of two indices
abbrev Refusals : Answer Ratio → Type 0
Refusals a = (e : Refusal) → a ≡ refused e → (e ≡ setting_range 0) ⊎ (e ≡ setting_range 1)

found_told : (a : Answer Ratio) (v : Ratio) → Refusals a → of_ratio a ≡ told 0 (ratio_number v) 0 plus_zero → a ≡ found v
found_told (found w) v only e = ap found (sym (by_number w) ∙ ap ratio_by (ap (λ (r : Report). r.first) e) ∙ by_number v)
found_told (refused d) v only e = absurd (by (only d refl))
  where
    by : (d ≡ setting_range 0) ⊎ (d ≡ setting_range 1) → ⊥
    by (inl same) = let z : ◌≡◌ {A = ℕ} 21 0 = ap (λ (x : Refusal). x.number) (sym same) ∙ ap (λ (r : Report). r.number) e in omega (arith, z)
    by (inr same) = let z : ◌≡◌ {A = ℕ} 21 0 = ap (λ (x : Refusal). x.number) (sym same) ∙ ap (λ (r : Report). r.number) e in omega (arith, z)

refused_told : (a : Answer Ratio) (i : ℕ) → Refusals a → of_ratio a ≡ told 21 i 0 plus_zero → a ≡ refused (setting_range i)
refused_told (found w) i only e = let z : ◌≡◌ {A = ℕ} 0 21 = ap (λ (r : Report). r.number) e in absurd (omega (arith, z))
refused_told (refused d) i only e = ap refused (by (only d refl))
  where
    index : (k : ℕ) → d ≡ setting_range k → k ≡ i
    index k same = ap (λ (r : Report). r.first) (sym (ap (λ (x : Refusal). of_ratio (refused x)) same) ∙ e)

    by : (d ≡ setting_range 0) ⊎ (d ≡ setting_range 1) → d ≡ setting_range i
    by (inl same) = same ∙ ap setting_range (index 0 same)
    by (inr same) = same ∙ ap setting_range (index 1 same)

module _ {r : Report} {a : Answer Ratio} (tells : r ≡ of_ratio a) (only : Refusals a) where
  pub verdict_told : (v : Ratio) {M : Type 0} → (a ≡ found v) ↔ M → (r ≡ told 0 (ratio_number v) 0 plus_zero) ↔ M
  verdict_told v {M} m = (λ e. m.0 (found_told a v only (sym tells ∙ e)), λ x. tells ∙ ap of_ratio (m.1 x))

  pub index_told : (i : ℕ) {M : Type 0} → (a ≡ refused (setting_range i)) ↔ M → (r ≡ told 21 i 0 plus_zero) ↔ M
  index_told i {M} m = (λ e. m.0 (refused_told a i only (sym tells ∙ e)), λ x. tells ∙ ap of_ratio (m.1 x))
