-- What the search of a named call answers, and what it leaves of the part. Assumes nothing.
use mathlib.Core.Path.{◌≡◌, sym, ap, ◌∙◌, subst}
use mathlib.Core.List.{List}
use Prim.Native.Nat.{ℕ, ◌-◌}
use native.Mathlib.Omega.{arith}
use lib.ListN.{length}
use lib.IntN.{ℤ}
use lib.Ieee.{Float}
use Rattle.std.specs.Prelude.{Result, Err}
use Rattle.definitions.specs.Table.{Table, table}
use Rattle.definitions.specs.Machine.{Machine, run_for}
use Rattle.definitions.specs.Kept.{Held, search_for}
use Rattle.definitions.specs.Block.{Block, written_table, written_walk, written_search}
use Rattle.definitions.proofs.Machine.{begin_nodes}
use Rattle.refusals.specs.declared.Refusal.{Refusal as CodeRefusal}
use Rattle.refusals.specs.declared.Refusal.TheVariants.{BudgetExhausted}
use Rattle.enumerate.specs.declared.NearestPoint.{NearestPoint as CodePoint}
use Rattle.enumerate.specs.View.{NearestAnswered}
use Rattle.enumerate.proofs.Answers.{answered_refused, answered_as}
use Rattle.resume.specs.declared.Walk.{Walk}
use Rattle.resume.specs.View.{machine_of}
use Rattle.resume.specs.Ready.{RanTo, Begun}
use Rattle.parts.specs.Parts.{block, Holds}
use Rattle.kept.specs.Part.{over_answer, PartNamed}
use Rattle.kept.proofs.Walks.{over_answer_lem, over_left, going_answer, going_left}

module _ (p : Block) (weights mu target : List Float) (out : List ℤ) (R : Float) (budget : ℕ) (first s : Walk) (rest : List Float) (begins : Begun weights mu target R first) (ran : RanTo weights mu target budget first rest s) where
  abbrev t : Table
  t = table weights mu

  abbrev h : Held
  h = search_for t target R budget

  -- no node is counted at the start
  starts : first.nodes ≡ 0
  starts = ap (λ (m : Machine). m.nodes) begins.begins ∙ begin_nodes t target R

  is : machine_of weights s ≡ h.walk
  is =
      ran.runs
      ∙ ap (λ (k : ℕ). run_for t target (budget - k) (machine_of weights first)) starts
      ∙ ap (λ (k : ℕ). run_for t target k (machine_of weights first)) (all budget)
      ∙ ap (run_for t target budget) begins.begins
    where
      all : (k : ℕ) → k - 0 ≡ k
      all k = omega arith

  pub over : length out ≡ length weights → s.count ≡ 0 → {r : Result CodePoint CodeRefusal} {out' : List ℤ} → NearestAnswered (over_answer R s out) out r out' → PartNamed p t target out R budget r out' p
  over e none a = record {
    answered = answered_as (sym (over_answer_lem weights s h.walk is none R out e)) a;
    part_is = sym (over_left weights s h.walk is none p (written_search h));
  }

  pub goes_on : (s.count ≡ 0 → ⊥) → {reals : List Float} {integers : List ℤ} {counts : List ℕ} → Holds (written_walk (written_table t target R) (length weights) (machine_of weights s)) reals integers counts → PartNamed p t target out R budget (Err (BudgetExhausted s.nodes s.radius)) out (block reals integers counts)
  goes_on some x = record {
    answered = answered_refused (BudgetExhausted s.nodes s.radius) out (going_answer weights s h.walk is some R);
    part_is =
        (λ i. record { reals = x.reals_are i; integers = x.integers_are i; counts = x.counts_are i })
        ∙ ap (written_walk (written_table t target R) (length weights)) is
        ∙ sym (going_left weights s h.walk is some p (written_search h));
  }

-- a walk that is written behind the same doubles
pub front_as : {f g : List Float} (n : ℕ) (m : Machine) {reals : List Float} {integers : List ℤ} {counts : List ℕ} → f ≡ g → Holds (written_walk f n m) reals integers counts → Holds (written_walk g n m) reals integers counts
front_as n m {reals = reals} {integers = integers} {counts = counts} e x = subst (λ (h : List Float). Holds (written_walk h n m) reals integers counts) e x
