-- What is told of an answer, by what was answered: a success, or a refusal with what it carries. Assumes nothing.
use mathlib.Core.Path.{◌≡◌, ap, ◌∙◌}
use mathlib.Core.List.{List}
use lib.ListN.{get_or}
use Rattle.std.specs.Prelude.{unwrap_or}
use Rattle.definitions.specs.Table.{plus_zero}
use Rattle.definitions.specs.Refusals.{Refusal, Value}
use Rattle.definitions.specs.Checks.{Verdict}
use Rattle.definitions.specs.Calls.{Answer, found, refused}
use Rattle.refusals.specs.Numbers.{wholes_of, real_of}
use Rattle.snowgimmer.specs.declared.report.Report.{Report}
use Rattle.snowgimmer.specs.Reports.{told, of_refusal, of_verdict}
use Rattle.snowgimmer.specs.Told.{RefusalTold, AnswerTold, VerdictTold}

refusal_told : (e : Refusal) {r : Report} → r ≡ of_refusal e → RefusalTold e r
refusal_told e {r} tells = record {
  nothing = by;
  one = λ a. by;
  two = λ a b. by;
  double = λ x. by;
  one_and_double = λ a x. by;
}
  where
    carrying : List Value → Report
    carrying vs = told e.number (get_or (wholes_of vs) 0 0) (get_or (wholes_of vs) 1 0) (unwrap_or (real_of vs) plus_zero)

    by : {vs : List Value} → e.values ≡ vs → r ≡ carrying vs
    by q = tells ∙ ap carrying q

-- what an answer is told by gives a success so, and a refusal as every call does
pub answer_told : {A : Type 0} {answer : Answer A} {of_success : A → Report} (of : Answer A → Report) {r : Report} → r ≡ of answer → ((a : A) → of (found a) ≡ of_success a) → ((e : Refusal) → of (refused e) ≡ of_refusal e) → AnswerTold answer of_success r
answer_told of tells success refusal = record {
  success = λ a q. tells ∙ ap of q ∙ success a;
  refusal = λ e q. refusal_told e (tells ∙ ap of q ∙ refusal e);
}

pub verdict_told : {verdict : Verdict} {r : Report} → r ≡ of_verdict verdict → VerdictTold verdict r
verdict_told tells = record {
  success = λ q. tells ∙ ap of_verdict q;
  refusal = λ e q. refusal_told e (tells ∙ ap of_verdict q);
}
