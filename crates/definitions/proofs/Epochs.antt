-- `epochs`, a clause each, as equations; what its checks leave of the lengths; and that each target's answer is that of a call of `nearest`. Assumes nothing.
use mathlib.Core.Path.{◌≡◌, refl, sym, ap, ◌∙◌}
use mathlib.Core.Bool.{not, ◌||◌}
use mathlib.Core.List.{List, [], ◌∷◌, ◌++◌}
use Prim.Native.Nat.{ℕ, suc, ◌+◌, ◌*◌, ◌≤◌, ◌<◌}
use native.Mathlib.Nat.{mul_comm, mul-le-mul_right, add-mul}
use native.Mathlib.Omega.{arith}
use borrow.Author.Tests.{eqb-true, ltb-false, eq-eqb, not-false}
use lib.Dec.{ltb, eqb}
use lib.ListN.{length, drop, length-drop}
use lib.Seq.{length-take-le}
use lib.IntN.{ℤ}
use lib.Ieee.{Float}
use Rattle.lists.specs.All.{All, none, more}
use Rattle.definitions.specs.Table.{Table, dimension, largest_searched, largest_budget, largest_count}
use Rattle.definitions.specs.Refusals.{Refusal, length_mismatch, epochs_size}
use Rattle.definitions.specs.Checks.{Verdict, pass, refuse, first_refusal, refuse_if, table_checks, length_check, radius_check, handed_on, budget_check}
use Rattle.definitions.specs.Calls.{found, refused, after, nearest_within, nearest_output, target_checks, search_checks, nearest_checks, nearest}
use Rattle.definitions.specs.Named.{if_passed}
use Rattle.definitions.specs.Epochs.{part_at, epochs_size_check, checks_of_epochs, epochs_checks, checks_of_epoch, epoch_answer, answer_at, epoch_answers, epoch_outputs, epochs, epochs_output}
use Rattle.definitions.proofs.Verdicts.{first_append, first_alone, first_passes, or_else, append_passes}
use Rattle.definitions.proofs.Tables.{CheckedTable, neither}
use Rattle.definitions.proofs.Passed.{table_checked, all_passed, budget_passed}
use Rattle.definitions.proofs.Answers.{after_pass, after_refuse, nearest_checks_are, nearest_is}

-- ---- the clauses
pub answer_is : (t : Table) (target : List Float) (R : Float) (budget : ℕ) → epoch_answer t target R budget ≡ after (first_refusal (checks_of_epoch target R budget)) (nearest_within t target (handed_on R) budget)
unfolding epoch_answer
answer_is t target R budget = refl

module _ (t : Table) (target : List Float) (R : Float) (budget : ℕ) where
  pub answer_checked : first_refusal (checks_of_epoch target R budget) ≡ pass → epoch_answer t target R budget ≡ nearest_within t target (handed_on R) budget
  answer_checked q = answer_is t target R budget ∙ after_pass (first_refusal (checks_of_epoch target R budget)) (nearest_within t target (handed_on R) budget) q

  pub answer_refused : (e : Refusal) → first_refusal (checks_of_epoch target R budget) ≡ refuse e → epoch_answer t target R budget ≡ refused e
  answer_refused e q = answer_is t target R budget ∙ after_refuse (first_refusal (checks_of_epoch target R budget)) (nearest_within t target (handed_on R) budget) e q

module _ (t : Table) (targets : List Float) (R : Float) (budget : ℕ) where
  pub answers_none : epoch_answers t targets R budget 0 ≡ []
  unfolding epoch_answers
  answers_none = refl

  pub answers_more : (k : ℕ) → epoch_answers t targets R budget (suc k) ≡ epoch_answers t targets R budget k ++ answer_at t targets R budget k ∷ []
  unfolding epoch_answers
  answers_more k = refl

  pub outputs_none : (out : List ℤ) → epoch_outputs t targets R budget out 0 ≡ []
  unfolding epoch_outputs
  outputs_none out = refl

  pub outputs_more : (out : List ℤ) (k : ℕ) → epoch_outputs t targets R budget out (suc k) ≡ epoch_outputs t targets R budget out k ++ nearest_output (answer_at t targets R budget k) (part_at (dimension t) k out)
  unfolding epoch_outputs
  outputs_more out k = refl

module _ (t : Table) (targets : List Float) (count : ℕ) (out : List ℤ) where
  pub epochs_checks_are : epochs_checks t targets count out ≡ first_refusal (checks_of_epochs t targets count out)
  unfolding epochs_checks
  epochs_checks_are = refl

  module _ (R : Float) (budget : ℕ) where
    pub epochs_are : epochs t targets count out R budget ≡ after (epochs_checks t targets count out) (found (epoch_answers t targets R budget count))
    unfolding epochs
    epochs_are = refl

    output_is : epochs_output t targets count out R budget ≡ if_passed (epochs_checks t targets count out) out (epoch_outputs t targets R budget out count)
    unfolding epochs_output
    output_is = refl

    pub epochs_checked : epochs_checks t targets count out ≡ pass → epochs t targets count out R budget ≡ found (epoch_answers t targets R budget count)
    epochs_checked q = epochs_are ∙ after_pass (epochs_checks t targets count out) (found (epoch_answers t targets R budget count)) q

    pub epochs_refused : (e : Refusal) → epochs_checks t targets count out ≡ refuse e → epochs t targets count out R budget ≡ refused e
    epochs_refused e q = epochs_are ∙ after_refuse (epochs_checks t targets count out) (found (epoch_answers t targets R budget count)) e q

    pub output_checked : epochs_checks t targets count out ≡ pass → epochs_output t targets count out R budget ≡ epoch_outputs t targets R budget out count
    output_checked q = output_is ∙ ap (λ (v : Verdict). if_passed v out (epoch_outputs t targets R budget out count)) q

    pub output_kept : (e : Refusal) → epochs_checks t targets count out ≡ refuse e → epochs_output t targets count out R budget ≡ out
    output_kept e q = output_is ∙ ap (λ (v : Verdict). if_passed v out (epoch_outputs t targets R budget out count)) q

-- ---- what the checks leave
pub record EpochsPassed (t : Table) (targets : List Float) (count : ℕ) (out : List ℤ) : Type 0 where
  pub table_passes : first_refusal (table_checks largest_searched t) ≡ pass
  pub checked : CheckedTable largest_searched t
  pub few : count ≤ largest_count
  pub targets_length : length targets ≡ dimension t * count
  pub output_length : length out ≡ dimension t * count

pub epochs_passed : (t : Table) (targets : List Float) (count : ℕ) (out : List ℤ) → epochs_checks t targets count out ≡ pass → EpochsPassed t targets count out
epochs_passed t targets count out q =
    let n = dimension t in
    let p = append_passes (table_checks largest_searched t) (epochs_size_check n count (length targets) (length out) ∷ []) (sym (epochs_checks_are t targets count out) ∙ q) in
    let long = not (eqb (length out) (n * count)) in
    let sizes = neither (ltb largest_count count || not (eqb (length targets) (n * count))) long epochs_size (sym (first_alone _) ∙ p.1) in
    let both = neither (ltb largest_count count) (not (eqb (length targets) (n * count))) epochs_size (ap (λ b. refuse_if b epochs_size) sizes.0) in
    record {
      table_passes = p.0;
      checked = table_checked largest_searched t p.0;
      few = ltb-false largest_count count both.0;
      targets_length = eqb-true (length targets) (n * count) (not-false (eqb (length targets) (n * count)) both.1);
      output_length = eqb-true (length out) (n * count) (not-false (eqb (length out) (n * count)) sizes.1);
    }

-- ---- parts of n places

-- part k lies within so many parts
pub part_within : (n count k : ℕ) → k < count → k * n + n ≤ n * count
part_within n count k below =
    let h : (k + 1) * n ≤ count * n = mul-le-mul_right n (omega arith) in
    omega (arith, add-mul k 1 n, mul_comm count n)

pub part_length : {A : Type 0} (n count k : ℕ) (xs : List A) → length xs ≡ n * count → k < count → length (part_at n k xs) ≡ n
part_length n count k xs e below = length-take-le n (drop (k * n) xs) (omega (arith, length-drop (k * n) xs, part_within n count k below, e))

-- ---- as `nearest`

-- 9 has passed with the other two
pub budget_few : (target : List Float) (R : Float) (budget : ℕ) → first_refusal (checks_of_epoch target R budget) ≡ pass → budget ≤ largest_budget
budget_few target R budget q = go (all_passed (checks_of_epoch target R budget) q)
  where
    go : All (λ (v : Verdict). v ≡ pass) (checks_of_epoch target R budget) → budget ≤ largest_budget
    go (more p7 (more p8 (more p9 none))) = budget_passed budget p9

length_passes : (n m : ℕ) → m ≡ n → length_check n m ≡ pass
length_passes n m e = ap (λ b. refuse_if (not b) (length_mismatch n m)) (eq-eqb n m (sym e))

search_checks_are : (t : Table) (target : List Float) (out : List ℤ) → search_checks largest_searched t target out ≡ table_checks largest_searched t ++ target_checks (dimension t) target out
unfolding search_checks
search_checks_are t target out = refl

module _ (t : Table) (target : List Float) (out : List ℤ) (R : Float) (budget : ℕ) (passes : first_refusal (table_checks largest_searched t) ≡ pass) (target_length : length target ≡ dimension t) (output_length : length out ≡ dimension t) where
  -- 2 to 6 pass, and 7 to 9 are left
  pub checks_left : nearest_checks largest_searched t target out R budget ≡ first_refusal (checks_of_epoch target R budget)
  checks_left =
      let rest = radius_check R ∷ budget_check budget ∷ [] in
      let called = target_checks (dimension t) target out in
      nearest_checks_are t target out R budget
      ∙ ap (λ (vs : List Verdict). first_refusal (vs ++ rest)) (search_checks_are t target out)
      ∙ first_append (table_checks largest_searched t ++ called) rest
      ∙ ap (λ (v : Verdict). or_else v (first_refusal rest)) (first_append (table_checks largest_searched t) called ∙ ap (λ (v : Verdict). or_else v (first_refusal called)) passes)
      ∙ sym (first_append called rest)
      ∙ first_passes _ _ (length_passes (dimension t) (length target) target_length)
      ∙ first_passes _ _ (length_passes (dimension t) (length out) output_length)

  -- so the target gets what a call of `nearest` gives it
  pub answer_as_nearest : epoch_answer t target R budget ≡ nearest t target out R budget
  answer_as_nearest =
      answer_is t target R budget
      ∙ ap (λ (v : Verdict). after v (nearest_within t target (handed_on R) budget)) (sym checks_left)
      ∙ sym (nearest_is t target out R budget)
