-- `nearest_named` and `pick_up` keep their promises: the records of `specs/Kept.antt`. Assumes nothing.
use mathlib.Core.Path.{◌≡◌, sym, ap, ◌∙◌, subst}
use mathlib.Core.List.Memᴰ
use mathlib.Core.List.{List, [], ◌∷◌}
use mathlib.Core.Logic.{inl, inr, ⊎_elim}
use Prim.Native.Nat.{ℕ, ◌+◌, ◌-◌, ◌^◌, ◌≤◌, ◌<◌, min}
use native.Mathlib.Omega.{arith}
use lib.Dec.{T, lit≤}
use lib.ListN.{length}
use lib.IntN.{ℤ}
use lib.Ieee.{Float, binary64, fits}
use native.Mathlib.Nat.{le_trans}
use Rattle.definitions.specs.Table.{Table, dimension}
use Rattle.definitions.specs.Refusals.{Refusal, whole, budget_exhausted}
use Rattle.definitions.specs.Checks.{Verdict, first_refusal, handed_on}
use Rattle.definitions.specs.Calls.{Answer, refused, NearestPoint, nearest, nearest_output}
use Rattle.definitions.specs.Kept.{Held, holds, search_for, further, answer_of}
use Rattle.definitions.specs.Block.{Block, slot_in}
use Rattle.definitions.specs.Named.{checks_of_named, nearest_named, block_after_named, checks_of_pick_up, pick_up, block_after_pick_up}
use Rattle.definitions.proofs.Answers.{output_found, after_pass, nearest_checked, nearest_checks_are, within_small}
use Rattle.theorems.specs.Doubles.{of_doubles}
use Rattle.theorems.specs.Refusals.{NoneFits, FirstFits}
use Rattle.theorems.specs.Answers.{NoMinusZero, Under}
use Rattle.theorems.specs.Promises.{nearest_call_checks, NearestPromises}
use Rattle.theorems.specs.Running.{NearestRunning}
use Rattle.theorems.specs.Kept.{IsName, IsBlock, Keeps, Call, named, picked, after_calls, AllLeaveOrPick, budgets_for, NamedPromises, PickUpPromises}
use Rattle.theorems.proofs.FirstRefusal.{decision, first_fits, first_cases, numbered_as, first_of_number, none_passes}
use Rattle.theorems.proofs.MinusZero.{call_clear}
use Rattle.theorems.proofs.Accepted.{nearest_accepts}
use Rattle.theorems.proofs.Promises.{nearest_promises}
use Rattle.theorems.proofs.RunningCalls.{nearest_running}
use Rattle.theorems.proofs.KeptSearches.{going, search_further, search_answer}
use Rattle.theorems.proofs.KeptChecks.{named_numbered, named_indices, named_clear, named_accepts, sum_refused, pick_up_numbered, pick_up_accepts}
use Rattle.theorems.proofs.NamedCalls.{named_answer, named_demand, named_stays, named_kept, named_cases, named_block_lengths, named_as_nearest}
use Rattle.theorems.proofs.PickUpCalls.{picked_demand, picked_stays, picked_15, picked_goes_on, picked_held, picked_empty, picked_lengths}
use Rattle.theorems.proofs.KeptDecides.{named_name_and_block, named_gives_2, picked_name_and_block, picked_gives_26, picked_gives_6, picked_gives_27}
use Rattle.theorems.proofs.KeptLists.{holds≢free, named_leaves, picked_leaves, kept_on, calls_kept, reached_by}

-- ---- `nearest_named`
module _ (b : Block) (name : ℕ) (t : Table) (target : List Float) (out : List ℤ) (R : Float) (budget : ℕ) (doubles : T (of_doubles t target)) (double : T (fits binary64 R)) where
  abbrev answer : Answer NearestPoint
  answer = nearest_named b name t target out R budget

  abbrev checks : List Verdict
  checks = checks_of_named b name t target out R budget

  promises_of_nearest : IsName name → IsBlock b → dimension t ≤ 23 → NearestPromises t target out R budget answer (nearest_output answer out)
  promises_of_nearest i k few = subst (λ (a : Answer NearestPoint). NearestPromises t target out R budget a (nearest_output a out)) (sym (named_as_nearest b name t target out R budget i k few)) (nearest_promises t target out R budget doubles double)

  -- a refusal of the search is one of `nearest`
  own_clear : NoneFits checks → (e : Refusal) → answer_of (search_for t target (handed_on R) budget) ≡ refused e → NoMinusZero e
  own_clear f e q =
      let a = (named_accepts b name t target out R budget).0 f in
      (promises_of_nearest a.is_name a.is_block a.search.table_target.table.few).search.no_minus_zero e (named_answer b name t target out R budget ∙ after_pass (first_refusal checks) _ (none_passes checks f) ∙ q)

  pub named_promises : NamedPromises b name t target out R budget answer (nearest_output answer out) (block_after_named b name t target out R budget)
  named_promises = record {
    accepts = named_accepts b name t target out R budget;
    demand_1 = named_demand b name t target out R budget;
    order = named_numbered b name t target out R budget;
    name_and_block = named_name_and_block b name t target out R budget;
    gives_2 = named_gives_2 b name t target out R budget;
    first_indices = named_indices b name t target out R budget;
    no_minus_zero = call_clear (named_clear b name t target out R budget) (named_answer b name t target out R budget) own_clear;
    as_nearest = named_as_nearest b name t target out R budget;
    promises = promises_of_nearest;
    running = λ i k few. subst (λ (a : Answer NearestPoint). NearestRunning t target out R budget a (nearest_output a out)) (sym (named_as_nearest b name t target out R budget i k few)) (nearest_running t target out R budget doubles double);
    kept = named_kept b name t target out R budget;
    stays = named_stays b name t target out R budget;
    others = named_leaves b name t target out R budget;
    lengths = λ k. ⊎_elim (λ e. subst IsBlock (sym e) k) (λ q. named_block_lengths b name t target out R budget q.0 q.1) (named_cases b name t target out R budget);
    reached = λ cs e. reached_by b (named name t target out R budget) cs e;
  }

-- ---- `pick_up`
module _ (b : Block) (name : ℕ) (out : List ℤ) (budget : ℕ) where
  abbrev told : Answer NearestPoint
  told = pick_up b name out budget

  abbrev asked : List Verdict
  asked = checks_of_pick_up b name out budget

  abbrev left : Block
  left = block_after_pick_up b name out budget

  -- a refusal under 27 is that of the sum
  of_27 : (e : Refusal) → told ≡ refused e → e.number ≡ 27 → (h : Held) × (slot_in b name ≡ holds h) × (2 ^ 60 < h.walk.nodes + budget) × (e.values ≡ whole (min (h.walk.nodes + budget) (2 ^ 64 - 1)) ∷ [])
  of_27 e q n = by_first (first_of_number (pick_up_numbered b name out budget) e (((picked_demand b name out budget).refuses e).1 (q, apart)))
    where
      apart : Under 15 16 e → ⊥
      apart (inl p) = omega (arith, p, n)
      apart (inr p) = omega (arith, p, n)

      by_first : FirstFits (numbered_as e.number (25 ∷ 6 ∷ 6 ∷ 6 ∷ 26 ∷ 6 ∷ 27 ∷ []) asked) e → (h : Held) × (slot_in b name ≡ holds h) × (2 ^ 60 < h.walk.nodes + budget) × (e.values ≡ whole (min (h.walk.nodes + budget) (2 ^ 64 - 1)) ∷ [])
      by_first f = ⊎_elim (λ p. sum_refused (slot_in b name) budget e p) (λ p. absurd (Memᴰ.not-nil (first_fits p.1))) (first_cases (subst (λ (k : ℕ). FirstFits (numbered_as k (25 ∷ 6 ∷ 6 ∷ 6 ∷ 26 ∷ 6 ∷ 27 ∷ []) asked) e) n f))

  module _ (b₀ : Block) (t : Table) (target : List Float) (R : Float) (first : ℕ) (k : Keeps b₀ name t target R first) (cs : List Call) (all : AllLeaveOrPick name b₀ cs) (e : b ≡ after_calls b₀ cs) (f : NoneFits asked) where
    abbrev sum : ℕ
    sum = first + budgets_for name cs + budget

    keeps : Keeps b name t target R (first + budgets_for name cs)
    keeps =
        let a = (pick_up_accepts b name out budget).0 f in
        ⊎_elim
        (λ x. subst (λ (c : Block). Keeps c name t target R (first + budgets_for name cs)) (sym e) x)
        (λ x. absurd (holds≢free (sym a.1.held ∙ ap (λ (c : Block). slot_in c name) e ∙ x)))
        (calls_kept name k.is_name t target R cs b₀ first all (inl k))

    on : told ≡ answer_of (search_for t target (handed_on R) sum)
    on = picked_goes_on b name out budget f (search_for t target (handed_on R) (first + budgets_for name cs)) keeps.held ∙ ap answer_of (search_further t target (handed_on R) (first + budgets_for name cs) budget)

    accepted : NoneFits (nearest_call_checks t target out R sum)
    accepted =
        let a = (pick_up_accepts b name out budget).0 f in
        let slots : holds a.0 ≡ holds (search_for t target (handed_on R) (first + budgets_for name cs)) = sym a.1.held ∙ keeps.held in
        let same : a.0 ≡ search_for t target (handed_on R) (first + budgets_for name cs) = cc in
        let table = keeps.accepted.table in
        (nearest_accepts t target out R sum).1 (record {
          search = record {
            table_target = record { table = record { few = le_trans table.few (lit≤ tt); square = table.square; entries = table.entries; weights = table.weights }; target_length = keeps.accepted.target_length; targets = keeps.accepted.targets };
            output_length = subst (λ (h : Held). length out ≡ dimension h.table) same a.1.output_length;
          };
          within = record {
            is_finite = keeps.within.is_finite;
            not_negative = keeps.within.not_negative;
            budget_most = subst (λ (m : ℕ). m + budget ≤ 2 ^ 60) keeps.count (subst (λ (h : Held). h.walk.nodes + budget ≤ 2 ^ 60) same a.1.sum_most);
          };
        })

    as_one : told ≡ nearest t target out R sum
    as_one =
        on
        ∙ search_answer t target (handed_on R) sum
        ∙ sym (nearest_checked t target out R sum (nearest_checks_are t target out R sum ∙ none_passes (nearest_call_checks t target out R sum) accepted) ∙ within_small t target (handed_on R) sum keeps.accepted.table.few)

    summed_up : (told ≡ nearest t target out R sum) × (T (of_doubles t target) → T (fits binary64 R) → NearestPromises t target out R sum told (nearest_output told out)) × ((m : ℕ) (S : Float) → told ≡ refused (budget_exhausted m S) → Keeps left name t target R sum)
    summed_up = (
      as_one,
      λ doubles double. subst (λ (a : Answer NearestPoint). NearestPromises t target out R sum a (nearest_output a out)) (sym as_one) (nearest_promises t target out R sum doubles double),
      λ m S q. kept_on b name t target R (first + budgets_for name cs) keeps out budget f (going (search_for t target (handed_on R) sum) m S (sym on ∙ q)),
    )

  pub pick_up_promises : PickUpPromises b name out budget told (nearest_output told out) left
  pick_up_promises = record {
    accepts = pick_up_accepts b name out budget;
    demand_1 = picked_demand b name out budget;
    order = pick_up_numbered b name out budget;
    name_and_block = picked_name_and_block b name out budget;
    gives_26 = picked_gives_26 b name out budget;
    gives_6 = picked_gives_6 b name out budget;
    gives_27 = picked_gives_27 b name out budget;
    value_of_27 = of_27;
    writes = λ a q. ap (λ (x : Answer NearestPoint). nearest_output x out) q ∙ output_found a out;
    goes_on = λ f h e. picked_goes_on b name out budget f h e;
    kept = λ h e m S q. let f = picked_15 b name out budget (m, S, q) in picked_held b name out budget f h e (going (further h budget) m S (sym (picked_goes_on b name out budget f h e) ∙ q));
    emptied = λ f n. let a = (pick_up_accepts b name out budget).0 f in picked_empty b name out budget f a.0 a.1.held (λ m S q. n m S (picked_goes_on b name out budget f a.0 a.1.held ∙ q));
    stays = picked_stays b name out budget;
    others = picked_leaves b name out budget;
    lengths = λ k. ⊎_elim (λ some. subst IsBlock (sym (picked_stays b name out budget some.0 (first_fits some.1))) k) (λ other. let a = (pick_up_accepts b name out budget).0 other.0 in picked_lengths b name out budget other.0 a.0 a.1.held) (decision asked);
    summed = λ b₀ t target R first k cs all e f. summed_up b₀ t target R first k cs all e f;
    reached = λ cs e. reached_by b (picked name out budget) cs e;
  }
