-- The verdict so far as two numbers: what a call tells is the verdict that the next one is handed. Assumes nothing.
use mathlib.Core.Path.{◌≡◌, refl, sym, ap, ◌∙◌}
use mathlib.Core.Bool.{Bool, true, false}
use mathlib.Core.List.{List, [], ◌∷◌, ◌++◌}
use Prim.Native.Nat.{ℕ}
use lib.Dec.{eqb}
use Rattle.definitions.specs.Table.{plus_zero}
use Rattle.definitions.specs.Checks.{Verdict, pass, not_finite, beyond_limit}
use Rattle.definitions.specs.Entries.{Entry, fed, fed_all, given_verdict}
use Rattle.theorems.specs.Entries.{RisingIndices, VerdictOn}
use Rattle.theorems.proofs.Entries.{entry_promises}
use Rattle.snowgimmer.specs.declared.report.Report.{Report}
use Rattle.snowgimmer.specs.Reports.{told, of_verdict}
use Rattle.snowgimmer.specs.Entries.{entry_report, told_from, ToldOf}

-- what is told of a verdict gives that verdict
abbrev GivenAgain : Verdict → Type 0
GivenAgain v = given_verdict (of_verdict v).number (of_verdict v).first ≡ v

given_again : (number at : ℕ) (e : Entry) → GivenAgain (fed (given_verdict number at) e)
given_again number at e = go (eqb number 0) refl (eqb number 4) refl (not_finite e.value) refl (beyond_limit e.value) refl
  where
    go : (z : Bool) → eqb number 0 ≡ z → (f : Bool) → eqb number 4 ≡ f → (n : Bool) → not_finite e.value ≡ n → (b : Bool) → beyond_limit e.value ≡ b → GivenAgain (fed (given_verdict number at) e)
    go true p f q true r b s = simp (p, r)
    go true p f q false r true s = simp (p, r, s)
    go true p f q false r false s = simp (p, r, s)
    go false p true q true r b s = simp (p, q, r)
    go false p true q false r b s = simp (p, q, r)
    go false p false q n r b s = simp (p, q)

-- so calls in turn are the entries fed in turn
told_from_lem : (r : Report) (es : List Entry) → given_verdict (told_from r es).number (told_from r es).first ≡ fed_all (given_verdict r.number r.first) es
unfolding fed_all
told_from_lem r [] = refl
told_from_lem r (e ∷ es) =
    told_from_lem (entry_report r.number r.first e) es
    ∙ ap (λ (v : Verdict). fed_all v es) (given_again r.number r.first e)

pub told_of : (es : List Entry) {number at : ℕ} → ToldOf es number at → given_verdict number at ≡ fed_all pass es
told_of es h = simp (h.1, h.2) (told_from_lem (told 0 h.0 0 plus_zero) es)

-- ---- one call more
from_last : (r : Report) (es : List Entry) (e : Entry) → told_from r (es ++ e ∷ []) ≡ entry_report (told_from r es).number (told_from r es).first e
from_last r [] e = refl
from_last r (d ∷ es) e = from_last (entry_report r.number r.first d) es e

pub told_next : (es : List Entry) (e : Entry) {number at : ℕ} {r : Report} → r ≡ entry_report number at e → ToldOf es number at → ToldOf (es ++ e ∷ []) r.number r.first
told_next es e {number} {at} {r} tells h =
    let start = told 0 h.0 0 plus_zero in
    let same : r ≡ told_from start (es ++ e ∷ []) = tells ∙ simp (h.1, h.2) (sym (from_last start es e)) in
    (h.0, ap (λ (x : Report). x.number) same, ap (λ (x : Report). x.first) same)

-- so for every list of entries with rising indices, from the start on, the last call tells the verdict of 3 and 4 over all of them
pub told_entries : (start : ℕ) (es : List Entry) (e : Entry) → RisingIndices (es ++ e ∷ []) → (v : Verdict) × (told_from (told 0 start 0 plus_zero) (es ++ e ∷ []) ≡ of_verdict v) × VerdictOn (es ++ e ∷ []) v
told_entries start es e rise =
    let first = told 0 start 0 plus_zero in
    (fed (fed_all pass es) e, from_last first es e ∙ ap (λ (v : Verdict). of_verdict (fed v e)) (told_from_lem first es), (entry_promises es e).so_far rise)
