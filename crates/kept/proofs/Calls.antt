-- The two calls by what their part does. Assumes nothing.
use mathlib.Core.Path.{◌≡◌, refl, sym, ap, ◌∙◌, subst}
use mathlib.Core.List.{List, [], ◌∷◌, ◌++◌}
use Prim.Native.Nat.{ℕ}
use lib.IntN.{ℤ}
use lib.Ieee.{Float}
use Rattle.std.specs.Prelude.{Result, Err}
use Rattle.std.specs.Result.{IsErr, IsErrAnd}
use Rattle.definitions.specs.Table.{Table, largest_dimension}
use Rattle.definitions.specs.Machine.{Frame}
use Rattle.definitions.specs.Checks.{Verdict, pass, refuse, first_refusal, handed_on}
use Rattle.definitions.specs.Calls.{Answer, NearestPoint, after, checks_of_nearest}
use Rattle.definitions.specs.Kept.{Held, Slot, search_for, answer_of, if_over, name_check}
use Rattle.definitions.specs.Block.{Block, written_search, rewritten, part_of, slot_in, with_part, block_checks}
use Rattle.definitions.specs.Named.{if_passed, named_checks, nearest_named, block_after_named, pick_up_checks, further_answer, further_slot, pick_up, block_after_pick_up}
use Rattle.definitions.proofs.Verdicts.{or_else, first_append}
use Rattle.definitions.proofs.Answers.{after_pass, after_refuse}
use Rattle.definitions.proofs.Named.{named_checks_are, named_is, after_named_is, pick_up_checks_are, pick_up_is, after_pick_up_is, checks_left}
use Rattle.refusals.specs.Numbers.{numbered}
use Rattle.refusals.specs.declared.Refusal.{Refusal as CodeRefusal}
use Rattle.refusals.proofs.Early.{handed_up}
use Rattle.enumerate.specs.declared.NearestPoint.{NearestPoint as CodePoint}
use Rattle.enumerate.proofs.Answers.{answered_refused, answered_as}
use Rattle.kept.specs.Part.{part_checks, PartPickedUp, PartNamed}
use Rattle.kept.specs.Calls.{KeptAnswered}
use Rattle.kept.proofs.Blocks.{part_same}

-- the exit of a `?`: what holds of a refusal holds of it
pub refused_up : {a : Answer NearestPoint} {b b' : Block} {out out' : List ℤ} (e : CodeRefusal) (r : Result CodePoint CodeRefusal) → IsErr r × IsErrAnd r (λ y. y ≡ e) → KeptAnswered a b out (Err e) out' b' → KeptAnswered a b out r out' b'
refused_up {a} {b} {b'} {out} {out'} e r up = subst (λ (x : Result CodePoint CodeRefusal). KeptAnswered a b out x out' b') (sym (handed_up r up.1))

-- a refusal of the first checks is that of all
stops : (vs ws : List Verdict) (e : CodeRefusal) → first_refusal vs ≡ refuse (numbered e) → first_refusal (vs ++ ws) ≡ refuse (numbered e)
stops vs ws e q = first_append vs ws ∙ ap (λ (v : Verdict). or_else v (first_refusal ws)) q

-- ---- `pick_up`
module _ (b : Block) (name : ℕ) (out : List ℤ) (budget : ℕ) where
  abbrev x : Slot
  x = slot_in b name

  pub pick_up_refused : (e : CodeRefusal) → first_refusal (name_check name ∷ block_checks b) ≡ refuse (numbered e) → KeptAnswered (pick_up b name out budget) (block_after_pick_up b name out budget) out (Err e) out b
  pick_up_refused e q =
      let v = pick_up_checks_are b name out budget ∙ stops (name_check name ∷ block_checks b) (part_checks x out budget) e q in
      record {
        answered = answered_refused e out (pick_up_is b name out budget ∙ after_refuse (pick_up_checks b name out budget) (further_answer budget x) (numbered e) v);
        block_is = sym (after_pick_up_is b name out budget ∙ ap (λ (w : Verdict). if_passed w b (with_part b name (rewritten (part_of b name) (further_slot budget x)))) v);
      }

  done : first_refusal (name_check name ∷ block_checks b) ≡ pass → {r : Result CodePoint CodeRefusal} {out' : List ℤ} (p' : Block) → PartPickedUp (part_of b name) out budget r out' p' → KeptAnswered (pick_up b name out budget) (block_after_pick_up b name out budget) out r out' (with_part b name p')
  done ok p' d =
      let v = pick_up_checks_are b name out budget ∙ checks_left b name ok (part_checks x out budget) in
      record {
        answered = answered_as (sym (pick_up_is b name out budget ∙ ap (λ (w : Verdict). after w (further_answer budget x)) v)) d.answered;
        block_is = ap (with_part b name) d.part_is ∙ by (first_refusal (part_checks x out budget)) ∙ sym (after_pick_up_is b name out budget ∙ ap (λ (w : Verdict). if_passed w b (with_part b name (rewritten (part_of b name) (further_slot budget x)))) v);
      }
    where
      by : (w : Verdict) → with_part b name (if_passed w (part_of b name) (rewritten (part_of b name) (further_slot budget x))) ≡ if_passed w b (with_part b name (rewritten (part_of b name) (further_slot budget x)))
      by (refuse e) = part_same b name
      by pass = refl

  -- the part as it was lent, and the block when it is back
  pub pick_up_done : first_refusal (name_check name ∷ block_checks b) ≡ pass → {r : Result CodePoint CodeRefusal} {out' : List ℤ} (p p' b' : Block) → p ≡ part_of b name → b' ≡ with_part b name p' → PartPickedUp p out budget r out' p' → KeptAnswered (pick_up b name out budget) (block_after_pick_up b name out budget) out r out' b'
  pick_up_done ok {r} {out'} p p' b' e f d =
      subst (KeptAnswered (pick_up b name out budget) (block_after_pick_up b name out budget) out r out') (sym f)
      (done ok p' (subst (λ (q : Block). PartPickedUp q out budget r out' p') e d))

-- ---- `nearest_named`
module _ (b : Block) (name : ℕ) (t : Table) (target : List Float) (out : List ℤ) (R : Float) (budget : ℕ) where
  abbrev h : Held
  h = search_for t target (handed_on R) budget

  refused_so : (e : CodeRefusal) → named_checks b name t target out R budget ≡ refuse (numbered e) → KeptAnswered (nearest_named b name t target out R budget) (block_after_named b name t target out R budget) out (Err e) out b
  refused_so e v = record {
    answered = answered_refused e out (named_is b name t target out R budget ∙ after_refuse (named_checks b name t target out R budget) (answer_of h) (numbered e) v);
    block_is = sym (after_named_is b name t target out R budget ∙ ap (λ (w : Verdict). if_passed w b (if_over h.walk.stack b (with_part b name (written_search h)))) v);
  }

  pub named_refused : (e : CodeRefusal) → first_refusal (name_check name ∷ block_checks b) ≡ refuse (numbered e) → KeptAnswered (nearest_named b name t target out R budget) (block_after_named b name t target out R budget) out (Err e) out b
  named_refused e q = refused_so e (named_checks_are b name t target out R budget ∙ stops (name_check name ∷ block_checks b) (checks_of_nearest largest_dimension t target out R budget) e q)

  module _ (ok : first_refusal (name_check name ∷ block_checks b) ≡ pass) where
    pub named_refused_later : (e : CodeRefusal) → first_refusal (checks_of_nearest largest_dimension t target out R budget) ≡ refuse (numbered e) → KeptAnswered (nearest_named b name t target out R budget) (block_after_named b name t target out R budget) out (Err e) out b
    named_refused_later e q = refused_so e (named_checks_are b name t target out R budget ∙ checks_left b name ok (checks_of_nearest largest_dimension t target out R budget) ∙ q)

    written : first_refusal (checks_of_nearest largest_dimension t target out R budget) ≡ pass → {r : Result CodePoint CodeRefusal} {out' : List ℤ} (p' : Block) → PartNamed (part_of b name) t target out (handed_on R) budget r out' p' → KeptAnswered (nearest_named b name t target out R budget) (block_after_named b name t target out R budget) out r out' (with_part b name p')
    written q p' d =
        let v = named_checks_are b name t target out R budget ∙ checks_left b name ok (checks_of_nearest largest_dimension t target out R budget) ∙ q in
        record {
          answered = answered_as (sym (named_is b name t target out R budget ∙ after_pass (named_checks b name t target out R budget) (answer_of h) v)) d.answered;
          block_is = ap (with_part b name) d.part_is ∙ by h.walk.stack ∙ sym (after_named_is b name t target out R budget ∙ ap (λ (w : Verdict). if_passed w b (if_over h.walk.stack b (with_part b name (written_search h)))) v);
        }
      where
        by : (fs : List Frame) → with_part b name (if_over fs (part_of b name) (written_search h)) ≡ if_over fs b (with_part b name (written_search h))
        by [] = part_same b name
        by (f ∷ fs) = refl

    -- the part as it was lent, with the radius that was handed on, and the block when it is back
    pub named_done : first_refusal (checks_of_nearest largest_dimension t target out R budget) ≡ pass → {r : Result CodePoint CodeRefusal} {out' : List ℤ} (S : Float) (p p' b' : Block) → S ≡ handed_on R → p ≡ part_of b name → b' ≡ with_part b name p' → PartNamed p t target out S budget r out' p' → KeptAnswered (nearest_named b name t target out R budget) (block_after_named b name t target out R budget) out r out' b'
    named_done q {r} {out'} S p p' b' s e f d =
        subst (KeptAnswered (nearest_named b name t target out R budget) (block_after_named b name t target out R budget) out r out') (sym f)
        (written q p' (subst (λ (x : Block). PartNamed x t target out (handed_on R) budget r out' p') e (subst (λ (T : Float). PartNamed p t target out T budget r out' p') s d)))
