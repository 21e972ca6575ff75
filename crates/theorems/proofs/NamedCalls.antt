-- `nearest_named`: its answer, and what it leaves of the block. Assumes nothing.
use mathlib.Core.Path.{◌≡◌, refl, sym, ap, ◌∙◌, subst}
use mathlib.Core.Bool.{Bool, not, ◌||◌}
use mathlib.Core.List.{List, [], ◌∷◌, ◌++◌}
use mathlib.Core.Logic.{◌⊎◌, inl, inr, ⊎_elim}
use Prim.Native.Nat.{ℕ, ◌*◌, ◌≤◌}
use native.Mathlib.Omega.{arith}
use borrow.Author.Tests.{le-ltb}
use lib.Dec.{eqb}
use lib.ListN.{length}
use lib.IntN.{ℤ}
use lib.Ieee.{Float}
use Rattle.lists.specs.All.{more}
use Rattle.definitions.specs.Table.{Table, dimension, largest_dimension, largest_searched}
use Rattle.definitions.specs.Machine.{Frame, outcome_of}
use Rattle.definitions.specs.Refusals.{Refusal, table_size, budget_exhausted}
use Rattle.definitions.specs.Checks.{Verdict, refuse_if, first_refusal, mu_non_finite_check, mu_range_check, weight_range_check, table_checks, radius_check, handed_on, budget_check}
use Rattle.definitions.specs.Calls.{Answer, refused, after, NearestPoint, target_checks, search_checks, checks_of_nearest, nearest_checks, nearest, nearest_output}
use Rattle.definitions.specs.Kept.{Held, holds, search_for, answer_of, if_over, name_check}
use Rattle.definitions.specs.Block.{Block, part_slot, written_search, part_of, slot_in, with_part, block_checks}
use Rattle.definitions.specs.Named.{if_passed, checks_of_named, nearest_named, block_after_named}
use Rattle.definitions.proofs.Verdicts.{or_else, first_append}
use Rattle.definitions.proofs.Answers.{after_pass, nearest_checks_are, nearest_is, within_small}
use Rattle.definitions.proofs.Named.{named_checks_are, named_is, after_named_is}
use Rattle.theorems.specs.Refusals.{Fits, NoneFits}
use Rattle.theorems.specs.Answers.{Demand1}
use Rattle.theorems.specs.Running.{Exhausted, Ended}
use Rattle.theorems.specs.Kept.{IsName, IsBlock, OthersStay, Keeps, NamedAccepted}
use Rattle.theorems.proofs.FirstRefusal.{decision, first_fits, none_passes, fitting_refuses, numbers_apart}
use Rattle.theorems.proofs.RefusedCalls.{demand_apart, output_unchanged, nearest_own_numbers}
use Rattle.theorems.proofs.Accepted.{none_fits}
use Rattle.theorems.proofs.KeptParts.{HeldFits, search_part, search_read}
use Rattle.theorems.proofs.KeptBlocks.{part_written, block_written, others_written}
use Rattle.theorems.proofs.KeptSearches.{Going, over_or_going, exhausts, going, if_going, if_ended, search_answer, search_nodes, search_fits}
use Rattle.theorems.proofs.KeptChecks.{name_passes, block_passing, named_numbered, named_accepts}

-- up to dimension 23, 2 is the same with either largest n
same_checks : (t : Table) (target : List Float) (out : List ℤ) (R : Float) (budget : ℕ) → dimension t ≤ 23 → checks_of_nearest largest_dimension t target out R budget ≡ checks_of_nearest largest_searched t target out R budget
unfolding search_checks table_checks
same_checks t target out R budget few =
    ap (λ (large : Bool). refuse_if (large || not (eqb (length t.mu) (dimension t * dimension t))) (table_size (dimension t)) ∷ mu_non_finite_check t ∷ mu_range_check t ∷ weight_range_check t ∷ target_checks (dimension t) target out ++ radius_check R ∷ budget_check budget ∷ [])
    (le-ltb 23 (dimension t) few ∙ sym (le-ltb 64 (dimension t) (omega arith)))

module _ (b : Block) (name : ℕ) (t : Table) (target : List Float) (out : List ℤ) (R : Float) (budget : ℕ) where
  abbrev checks : List Verdict
  checks = checks_of_named b name t target out R budget

  abbrev h : Held
  h = search_for t target (handed_on R) budget

  abbrev answer : Answer NearestPoint
  answer = nearest_named b name t target out R budget

  abbrev b' : Block
  b' = block_after_named b name t target out R budget

  pub named_answer : answer ≡ after (first_refusal checks) (answer_of h)
  named_answer = named_is b name t target out R budget ∙ ap (λ (v : Verdict). after v (answer_of h)) (named_checks_are b name t target out R budget)

  pub named_demand : Demand1 checks 15 16 answer (nearest_output answer out ≡ out)
  named_demand = demand_apart (numbers_apart 15 16 (named_numbered b name t target out R budget) tt) (λ f. nearest_own_numbers (handed_on R) (outcome_of h.walk)) named_answer (output_unchanged answer out) (decision checks)

  named_passed : NoneFits checks → answer ≡ answer_of h
  named_passed f = named_answer ∙ after_pass (first_refusal checks) (answer_of h) (none_passes checks f)

  -- the block after a refusal by a check, and after none
  block_refused : (e : Refusal) → Fits checks e → b' ≡ b
  block_refused e m =
      let d = fitting_refuses checks e m in
      after_named_is b name t target out R budget
      ∙ ap (λ (v : Verdict). if_passed v b (if_over h.walk.stack b (with_part b name (written_search h)))) (named_checks_are b name t target out R budget ∙ d.1)

  block_passed : NoneFits checks → b' ≡ if_over h.walk.stack b (with_part b name (written_search h))
  block_passed f =
      after_named_is b name t target out R budget
      ∙ ap (λ (v : Verdict). if_passed v b (if_over h.walk.stack b (with_part b name (written_search h)))) (named_checks_are b name t target out R budget ∙ none_passes checks f)

  pub named_stays : Ended answer → b' ≡ b
  named_stays e = ⊎_elim (λ some. block_refused some.0 (first_fits some.1)) (λ other. block_passed other.0 ∙ if_ended h b _ (λ m S q. e m S (named_passed other.0 ∙ q))) (decision checks)

  -- 15 comes of the search
  named_15 : Exhausted answer → NoneFits checks
  named_15 (m, S, q) = named_demand.answers.1 (inr (budget_exhausted m S, q, inl refl))

  module _ (f : NoneFits checks) (g : Going h) where
    ok : NamedAccepted b name t target out R budget
    ok = (named_accepts b name t target out R budget).0 f

    can_be_written : HeldFits h
    can_be_written = search_fits t target (handed_on R) ok.search.table_target.table.few ok.search.table_target.table.square ok.search.table_target.target_length budget ok.within.budget_most g

    pub named_block : b' ≡ with_part b name (written_search h)
    named_block = block_passed f ∙ if_going h b (with_part b name (written_search h)) g

    pub named_block_lengths : IsBlock b'
    named_block_lengths = subst IsBlock (sym named_block) (block_written b name (written_search h) ok.is_name ok.is_block (search_part h can_be_written))

    pub named_others : OthersStay name b b'
    named_others other i d = ap (λ (x : Block). part_of x other) named_block ∙ others_written b name (written_search h) ok.is_name ok.is_block (search_part h can_be_written) other i d

    named_held : slot_in b' name ≡ holds h
    named_held = ap (λ (x : Block). slot_in x name) named_block ∙ ap part_slot (part_written b name (written_search h) ok.is_name ok.is_block (search_part h can_be_written)) ∙ search_read h can_be_written

    pub named_keeps : Keeps b' name t target R budget
    named_keeps = record { is_name = ok.is_name; held = named_held; exhausts = exhausts h g; count = search_nodes t target (handed_on R) budget g; accepted = ok.search.table_target; within = ok.within }

  pub named_kept : (m : ℕ) (S : Float) → answer ≡ refused (budget_exhausted m S) → Keeps b' name t target R budget
  named_kept m S q = let f = named_15 (m, S, q) in named_keeps f (going h m S (sym (named_passed f) ∙ q))

  -- what a call leaves, whatever it answers: the block, or a search that is written
  pub named_cases : (b' ≡ b) ⊎ (NoneFits checks × Going h)
  named_cases = ⊎_elim (λ some. inl (block_refused some.0 (first_fits some.1))) (λ other. by other.0 (over_or_going h)) (decision checks)
    where
      by : NoneFits checks → (h.walk.stack ≡ []) ⊎ Going h → (b' ≡ b) ⊎ (NoneFits checks × Going h)
      by f (inl e) = inl (block_passed f ∙ ap (λ (s : List Frame). if_over s b (with_part b name (written_search h))) e)
      by f (inr g) = inr (f, g)

  -- of a name, a block and at most 23 weights the answer is that of `nearest`
  pub named_as_nearest : IsName name → IsBlock b → dimension t ≤ 23 → answer ≡ nearest t target out R budget
  named_as_nearest i k few =
      named_answer
      ∙ ap (λ (v : Verdict). after v (answer_of h)) (first_four_pass i k ∙ ap first_refusal (same_checks t target out R budget few) ∙ sym (nearest_checks_are t target out R budget))
      ∙ ap (after (nearest_checks largest_searched t target out R budget)) (search_answer t target (handed_on R) budget ∙ sym (within_small t target (handed_on R) budget few))
      ∙ sym (nearest_is t target out R budget)
    where
      first_four_pass : IsName name → IsBlock b → first_refusal checks ≡ first_refusal (checks_of_nearest largest_dimension t target out R budget)
      first_four_pass i k =
          first_append (name_check name ∷ block_checks b) (checks_of_nearest largest_dimension t target out R budget)
          ∙ ap (λ (v : Verdict). or_else v (first_refusal (checks_of_nearest largest_dimension t target out R budget))) (none_passes (name_check name ∷ block_checks b) (none_fits (more (name_passes name i) (block_passing b k))))
