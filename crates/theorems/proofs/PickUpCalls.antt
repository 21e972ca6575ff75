-- `pick_up`: its answer, and what it leaves of the block, whoever wrote that. Assumes nothing.
use mathlib.Core.Path.{◌≡◌, refl, sym, ap, ◌∙◌, subst}
use mathlib.Core.Bool.{Bool, true, false, cond}
use mathlib.Core.List.{List, []}
use mathlib.Core.Logic.{inl, inr, ⊎_elim}
use Prim.Native.Nat.{ℕ, zero, suc, ◌+◌, ◌≤◌}
use native.Mathlib.Omega.{arith}
use lib.IntN.{ℤ}
use Rattle.definitions.specs.Table.{largest_budget}
use Rattle.definitions.specs.Machine.{Frame, Machine, run_for, outcome_of}
use Rattle.definitions.specs.Refusals.{Refusal, budget_exhausted}
use Rattle.definitions.specs.Checks.{Verdict, first_refusal}
use Rattle.definitions.specs.Calls.{Answer, refused, after, NearestPoint, nearest_output}
use Rattle.definitions.specs.Kept.{Held, Slot, free, holds, further, answer_of, if_over, slot_for}
use Rattle.definitions.specs.Block.{Block, part_open, is_sound, part_table, part_frames, part_machine, part_held, part_slot, zero_part, rewritten, part_of, slot_in, with_part}
use Rattle.definitions.specs.Named.{if_passed, checks_of_pick_up, further_answer, further_slot, pick_up, block_after_pick_up}
use Rattle.definitions.proofs.Answers.{after_pass}
use Rattle.definitions.proofs.Block.{frames_more, sound_counts}
use Rattle.definitions.proofs.Named.{pick_up_checks_are, pick_up_is, after_pick_up_is}
use Rattle.theorems.specs.Refusals.{Fits, NoneFits}
use Rattle.theorems.specs.Answers.{Under, Demand1}
use Rattle.theorems.specs.Running.{Exhausted, Ended}
use Rattle.theorems.specs.Kept.{IsName, IsBlock, OthersStay, PickUpAccepted}
use Rattle.theorems.proofs.FirstRefusal.{decision, none_passes, fitting_refuses, numbers_apart}
use Rattle.theorems.proofs.RefusedCalls.{demand_apart, output_unchanged, nearest_own_numbers}
use Rattle.theorems.proofs.KeptWalks.{WalkFits, run_fits}
use Rattle.theorems.proofs.Written.{IsPart}
use Rattle.theorems.proofs.KeptParts.{zero_part_lem, zero_read}
use Rattle.theorems.proofs.SoundParts.{SoundPart, part_fits, picked_part, picked_read}
use Rattle.theorems.proofs.KeptBlocks.{part_written, block_written, others_written, part_lengths}
use Rattle.theorems.proofs.KeptSearches.{Going, over_or_going, if_going, if_ended, further_nodes}
use Rattle.theorems.proofs.KeptChecks.{pick_up_numbered, pick_up_accepts}

-- a part that holds a search is sound, and it is the search that its numbers say
pub slot_holds : (p : Block) (h : Held) → part_slot p ≡ holds h → (is_sound p.counts ≡ true) × (part_held p ≡ h)
slot_holds p h e = go (is_sound p.counts) refl e
  where
    go : (c : Bool) → is_sound p.counts ≡ c → cond c (holds (part_held p)) free ≡ holds h → (is_sound p.counts ≡ true) × (part_held p ≡ h)
    go true c q = (c, cc)
    go false c q = let z : ◌≡◌ {A = ℕ} 0 1 = cc in absurd (omega arith)

-- what a name holds has a sound part
pub slot_sound : (b : Block) (name : ℕ) → IsName name → IsBlock b → (h : Held) → slot_in b name ≡ holds h → SoundPart (part_of b name)
slot_sound b name i k h held = let l = part_lengths b name i k in record { reals_length = l.reals_length; integers_length = l.integers_length; sound = (slot_holds (part_of b name) h held).0 }

-- and is not over
pub held_going : (p : Block) (h : Held) → part_slot p ≡ holds h → Going h
held_going p h e =
    let q = slot_holds p h e in
    subst Going q.1 (opens (part_open p.counts) (sound_counts p.counts q.0).some)
  where
    opens : (k : ℕ) → 1 ≤ k → part_frames p 0 k ≡ [] → ⊥
    opens zero l r = omega arith
    opens (suc k) l r = let q = sym (frames_more p 0 k) ∙ r in let z : ◌≡◌ {A = ℕ} 0 1 = cc in omega arith

-- and counts at most 2^60 nodes
pub held_few : (p : Block) (h : Held) → part_slot p ≡ holds h → h.walk.nodes ≤ largest_budget
held_few p h e = let q = slot_holds p h e in subst (λ (x : Held). x.walk.nodes ≤ largest_budget) q.1 (sound_counts p.counts q.0).few_nodes

module _ (b : Block) (name : ℕ) (out : List ℤ) (budget : ℕ) where
  abbrev asked : List Verdict
  asked = checks_of_pick_up b name out budget

  abbrev told : Answer NearestPoint
  told = pick_up b name out budget

  abbrev left : Block
  left = block_after_pick_up b name out budget

  pub picked_answer : told ≡ after (first_refusal asked) (further_answer budget (slot_in b name))
  picked_answer = pick_up_is b name out budget ∙ ap (λ (v : Verdict). after v (further_answer budget (slot_in b name))) (pick_up_checks_are b name out budget)

  -- once the checks have passed, the walk's own refusals alone are left
  own_numbers : NoneFits asked → (e : Refusal) → further_answer budget (slot_in b name) ≡ refused e → Under 15 16 e
  own_numbers f e q =
      let a = (pick_up_accepts b name out budget).0 f in
      nearest_own_numbers a.0.radius (outcome_of (further a.0 budget).walk) e (sym (ap (further_answer budget) a.1.held) ∙ q)

  pub picked_demand : Demand1 asked 15 16 told (nearest_output told out ≡ out)
  picked_demand = demand_apart (numbers_apart 15 16 (pick_up_numbered b name out budget) tt) own_numbers picked_answer (output_unchanged told out) (decision asked)

  pub picked_stays : (e : Refusal) → Fits asked e → left ≡ b
  picked_stays e m =
      let d = fitting_refuses asked e m in
      after_pick_up_is b name out budget
      ∙ ap (λ (v : Verdict). if_passed v b (with_part b name (rewritten (part_of b name) (further_slot budget (slot_in b name))))) (pick_up_checks_are b name out budget ∙ d.1)

  pub picked_15 : Exhausted told → NoneFits asked
  picked_15 (m, S, q) = picked_demand.answers.1 (inr (budget_exhausted m S, q, inl refl))

  module _ (f : NoneFits asked) (h : Held) (held : slot_in b name ≡ holds h) where
    pub picked_goes_on : told ≡ answer_of (further h budget)
    picked_goes_on = picked_answer ∙ after_pass (first_refusal asked) _ (none_passes asked f) ∙ ap (further_answer budget) held

    ok : PickUpAccepted b name out budget h
    ok =
        let a = (pick_up_accepts b name out budget).0 f in
        let slots : holds a.0 ≡ holds h = sym a.1.held ∙ held in
        let searches : a.0 ≡ h = cc in
        subst (PickUpAccepted b name out budget) searches a.1

    abbrev p : Block
    p = part_of b name

    sound : SoundPart p
    sound = slot_sound b name ok.is_name ok.is_block h held

    same : part_held p ≡ h
    same = (slot_holds p h held).1

    pub block_is : left ≡ with_part b name (rewritten p (slot_for (further h budget)))
    block_is =
        after_pick_up_is b name out budget
        ∙ ap (λ (v : Verdict). if_passed v b (with_part b name (rewritten p (further_slot budget (slot_in b name))))) (pick_up_checks_are b name out budget ∙ none_passes asked f)
        ∙ ap (λ (x : Slot). with_part b name (rewritten p (further_slot budget x))) held

    -- ---- it goes on
    module _ (g : Going (further h budget)) where
      abbrev s : Machine
      s = run_for (part_table p) (part_held p).target budget (part_machine p)

      going_part : Going (further (part_held p) budget)
      going_part = subst (λ (x : Held). Going (further x budget)) (sym same) g

      few : s.nodes ≤ largest_budget
      few = subst (λ (m : ℕ). m ≤ largest_budget) (sym (further_nodes (part_held p) budget going_part)) (subst (λ (x : Held). x.walk.nodes + budget ≤ largest_budget) (sym same) ok.sum_most)

      walks : WalkFits (part_table p) s
      walks = run_fits (part_table p) (part_held p).target budget (part_machine p) (part_fits p sound)

      part_is : rewritten p (slot_for (further h budget)) ≡ rewritten p (holds (further (part_held p) budget))
      part_is = ap (rewritten p) (if_going (further h budget) free (holds (further h budget)) g ∙ ap (λ (x : Held). holds (further x budget)) (sym same))

      part_good : IsPart (rewritten p (slot_for (further h budget)))
      part_good = subst IsPart (sym part_is) (picked_part p sound s few walks going_part)

      pub picked_held : slot_in left name ≡ holds (further h budget)
      picked_held =
          ap (λ (x : Block). slot_in x name) block_is
          ∙ ap part_slot (part_written b name (rewritten p (slot_for (further h budget))) ok.is_name ok.is_block part_good ∙ part_is)
          ∙ picked_read p sound s few walks going_part
          ∙ ap (λ (x : Held). holds (further x budget)) same

    -- ---- it is over
    module _ (e : Ended (answer_of (further h budget))) where
      over_is : rewritten p (slot_for (further h budget)) ≡ zero_part
      over_is = ap (rewritten p) (if_ended (further h budget) free (holds (further h budget)) e)

      pub picked_empty : (part_of left name ≡ zero_part) × (slot_in left name ≡ free)
      picked_empty =
          let q = ap (λ (x : Block). part_of x name) (block_is ∙ ap (with_part b name) over_is) ∙ part_written b name zero_part ok.is_name ok.is_block zero_part_lem in
          (q, ap part_slot q ∙ zero_read)

    -- in both cases
    written_part : IsPart (rewritten p (slot_for (further h budget)))
    written_part = ⊎_elim (λ o. subst IsPart (sym (ap (λ (x : List Frame). rewritten p (if_over x free (holds (further h budget)))) o)) zero_part_lem) part_good (over_or_going (further h budget))

    pub picked_lengths : IsBlock left
    picked_lengths = subst IsBlock (sym block_is) (block_written b name (rewritten p (slot_for (further h budget))) ok.is_name ok.is_block written_part)

    pub picked_others : OthersStay name b left
    picked_others other i d = ap (λ (x : Block). part_of x other) block_is ∙ others_written b name (rewritten p (slot_for (further h budget))) ok.is_name ok.is_block written_part other i d
