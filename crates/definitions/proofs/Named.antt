-- `nearest_named` and `pick_up`, a clause each, as equations; and what a name and a block that pass their checks are. Assumes nothing.
use mathlib.Core.Path.{◌≡◌, refl, sym, ap, ◌∙◌}
use Prim.Native.Nat.{ℕ, ◌≤◌}
use native.Mathlib.Omega.{arith}
use mathlib.Core.Bool.{Bool, true, false, not, ◌&&◌}
use mathlib.Core.List.{List, ◌∷◌, ◌++◌}
use lib.Dec.{leb}
use lib.ListN.{length}
use borrow.Author.Tests.{leb-true}
use lib.IntN.{ℤ}
use lib.Ieee.{Float}
use Rattle.definitions.specs.Table.{Table, largest_dimension}
use Rattle.lists.specs.All.{All, none, more}
use Rattle.definitions.specs.Refusals.{Refusal, name_range}
use Rattle.definitions.specs.Checks.{Verdict, pass, refuse_if, first_refusal, handed_on}
use Rattle.definitions.specs.Calls.{after, checks_of_nearest, nearest_checks}
use Rattle.definitions.specs.Kept.{search_for, answer_of, if_over, name_check}
use Rattle.definitions.specs.Block.{Block, written_search, rewritten, part_of, slot_in, with_part, block_checks}
use Rattle.definitions.proofs.Verdicts.{refuse≢pass, or_else, first_append}
use Rattle.definitions.proofs.Passed.{all_passed, length_passed}
use Rattle.definitions.specs.Named.{if_passed, checks_of_named, named_checks, nearest_named, block_after_named, checks_of_pick_up, pick_up_checks, further_answer, further_slot, pick_up, block_after_pick_up}

module _ (b : Block) (name : ℕ) (t : Table) (target : List Float) (out : List ℤ) (R : Float) (budget : ℕ) where
  pub named_checks_are : named_checks b name t target out R budget ≡ first_refusal (checks_of_named b name t target out R budget)
  unfolding named_checks
  named_checks_are = refl

  pub named_is : nearest_named b name t target out R budget ≡ after (named_checks b name t target out R budget) (answer_of (search_for t target (handed_on R) budget))
  unfolding nearest_named
  named_is = refl

  pub after_named_is : block_after_named b name t target out R budget ≡ if_passed (named_checks b name t target out R budget) b (if_over (search_for t target (handed_on R) budget).walk.stack b (with_part b name (written_search (search_for t target (handed_on R) budget))))
  unfolding block_after_named
  after_named_is = refl

module _ (b : Block) (name : ℕ) (out : List ℤ) (budget : ℕ) where
  pub pick_up_checks_are : pick_up_checks b name out budget ≡ first_refusal (checks_of_pick_up b name out budget)
  unfolding pick_up_checks
  pick_up_checks_are = refl

  pub pick_up_is : pick_up b name out budget ≡ after (pick_up_checks b name out budget) (further_answer budget (slot_in b name))
  unfolding pick_up
  pick_up_is = refl

  pub after_pick_up_is : block_after_pick_up b name out budget ≡ if_passed (pick_up_checks b name out budget) b (with_part b name (rewritten (part_of b name) (further_slot budget (slot_in b name))))
  unfolding block_after_pick_up
  after_pick_up_is = refl

-- ---- what passes
not_refused_so : (b : Bool) (e : Refusal) → refuse_if b e ≡ pass → b ≡ false
not_refused_so true e q = absurd (refuse≢pass q)
not_refused_so false e q = refl

pub both_true : (a b : Bool) → not (a && b) ≡ false → (a ≡ true) × (b ≡ true)
both_true true true e = (refl, refl)
both_true true false e = let z : ◌≡◌ {A = ℕ} 0 1 = cc in absurd (omega arith)
both_true false b e = let z : ◌≡◌ {A = ℕ} 0 1 = cc in absurd (omega arith)

pub name_passed : (name : ℕ) → name_check name ≡ pass → (1 ≤ name) × (name ≤ 8)
name_passed name e =
    let q = both_true (leb 1 name) (leb name 8) (not_refused_so (not (leb 1 name && leb name 8)) name_range e) in
    (leb-true 1 name q.0, leb-true name 8 q.1)

pub record BlockPassed (b : Block) (name : ℕ) : Type 0 where
  pub least : 1 ≤ name
  pub most : name ≤ 8
  pub reals_length : length b.reals ≡ 5168
  pub integers_length : length b.integers ≡ 736
  pub counts_length : length b.counts ≡ 768

pub block_passed : (b : Block) (name : ℕ) → first_refusal (name_check name ∷ block_checks b) ≡ pass → BlockPassed b name
block_passed b name e = go (all_passed (name_check name ∷ block_checks b) e)
  where
    go : All (λ (v : Verdict). v ≡ pass) (name_check name ∷ block_checks b) → BlockPassed b name
    go (more p (more q (more r (more s none)))) =
        let n = name_passed name p in
        record {
          least = n.0;
          most = n.1;
          reals_length = sym (length_passed 5168 (length b.reals) q);
          integers_length = sym (length_passed 736 (length b.integers) r);
          counts_length = sym (length_passed 768 (length b.counts) s);
        }

-- ---- the calls once the name and the block have passed
module _ (b : Block) (name : ℕ) (ok : first_refusal (name_check name ∷ block_checks b) ≡ pass) where
  pub checks_left : (vs : List Verdict) → first_refusal ((name_check name ∷ block_checks b) ++ vs) ≡ first_refusal vs
  checks_left vs = first_append (name_check name ∷ block_checks b) vs ∙ ap (λ (v : Verdict). or_else v (first_refusal vs)) ok

-- the checks of a search of at most 23 levels
pub search_checks_are : (t : Table) (target : List Float) (out : List ℤ) (R : Float) (budget : ℕ) → nearest_checks largest_dimension t target out R budget ≡ first_refusal (checks_of_nearest largest_dimension t target out R budget)
unfolding nearest_checks
search_checks_are t target out R budget = refl
