-- What a turn tells and leaves: a refusal by a check, or what serving the name does. Assumes nothing.
use mathlib.Core.Path.{◌≡◌, sym, ap, ◌∙◌, subst}
use mathlib.Core.Bool.{Bool, not}
use mathlib.Core.List.{List, [], ◌∷◌}
use Prim.Native.Nat.{ℕ}
use borrow.Author.Tests.{eq-eqb, ne_eqb}
use lib.ListN.{length}
use lib.IntN.{ℤ}
use Rattle.definitions.specs.Refusals.{none_held, length_mismatch}
use Rattle.definitions.specs.Checks.{Verdict, pass, refuse, refuse_if, first_refusal, length_check}
use Rattle.definitions.specs.Calls.{Answer, NearestPoint}
use Rattle.definitions.specs.Kept.{Slot}
use Rattle.definitions.specs.Block.{Block, rewritten, part_of, slot_in, with_part, block_checks}
use Rattle.definitions.specs.Named.{if_passed}
use Rattle.definitions.specs.Turn.{served, slice_check, served_check, slice_answer, slice_slot, slot_dimension, checks_of_turn, turn_checks, turn_output}
use Rattle.definitions.proofs.Verdicts.{or_else, first_append, first_passes, first_refuses, first_alone}
use Rattle.definitions.proofs.Answers.{after_pass, after_refuse}
use Rattle.definitions.proofs.Named.{BlockPassed}
use Rattle.definitions.proofs.Turn.{after_held, turn_checks_are, turn_name_is, turn_n_is, turn_answer_is, after_turn_is, last_after_turn_is, turn_output_refused}
use Rattle.refusals.specs.Numbers.{numbered}
use Rattle.refusals.specs.declared.Refusal.{Refusal as CodeRefusal}
use Rattle.refusals.specs.declared.Refusal.TheVariants.{NoneHeld, LengthMismatch}
use Rattle.turns.specs.declared.TurnAnswer.{TurnAnswer}
use Rattle.turns.specs.Turns.{refused_turn, ServeReady, NameServed, TurnAnswered}

module _ (b : Block) (last : ℕ) (out : List ℤ) (slice : ℕ) where
  abbrev slot : Slot
  slot = slot_in b (served b last)

  abbrev front : List Verdict
  front = slice_check slice ∷ block_checks b

  abbrev rest : List Verdict
  rest = served_check (served b last) ∷ length_check 23 (length out) ∷ []

  -- ---- by the verdict of its checks
  refused_so : (e : CodeRefusal) → first_refusal (checks_of_turn b last out slice) ≡ refuse (numbered e) → TurnAnswered b last out slice (refused_turn e) out b last
  refused_so e q =
      let v = turn_checks_are b last out slice ∙ q in
      let a = turn_answer_is b last out slice ∙ after_refuse (turn_checks b last out slice) (slice_answer slice slot) (numbered e) v in
      record {
        tells = sym (λ i. record {
          name = (turn_name_is b last out slice ∙ ap (λ (w : Verdict). if_passed w 0 (served b last)) v) i;
          n = (turn_n_is b last out slice ∙ ap (λ (w : Verdict). if_passed w 0 (slot_dimension slot)) v) i;
          answer = a i;
        });
        writes = sym (ap (λ (x : Answer NearestPoint). turn_output x out) a ∙ turn_output_refused (numbered e) out);
        block_is = sym (after_turn_is b last out slice ∙ ap (λ (w : Verdict). if_passed w b (with_part b (served b last) (rewritten (part_of b (served b last)) (slice_slot slice slot)))) v);
        last_is = sym (last_after_turn_is b last out slice ∙ ap (λ (w : Verdict). if_passed w last (served b last)) v);
      }

  served_so : first_refusal (checks_of_turn b last out slice) ≡ pass → {r : TurnAnswer} {out' : List ℤ} {b' : Block} → NameServed b out (served b last) slice r out' b' → TurnAnswered b last out slice r out' b' (served b last)
  served_so q d =
      let v = turn_checks_are b last out slice ∙ q in
      let a = turn_answer_is b last out slice ∙ after_pass (turn_checks b last out slice) (slice_answer slice slot) v in
      record {
        tells = d.tells ∙ sym (λ i. record {
          name = (turn_name_is b last out slice ∙ ap (λ (w : Verdict). if_passed w 0 (served b last)) v) i;
          n = (turn_n_is b last out slice ∙ ap (λ (w : Verdict). if_passed w 0 (slot_dimension slot)) v) i;
          answer = a i;
        });
        writes = d.writes ∙ sym (ap (λ (x : Answer NearestPoint). turn_output x out) a);
        block_is = d.block_is ∙ sym (after_turn_is b last out slice ∙ ap (λ (w : Verdict). if_passed w b (with_part b (served b last) (rewritten (part_of b (served b last)) (slice_slot slice slot)))) v);
        last_is = sym (last_after_turn_is b last out slice ∙ ap (λ (w : Verdict). if_passed w last (served b last)) v);
      }

  -- ---- 28, or 6 of the block
  pub refused_first : (e : CodeRefusal) → first_refusal front ≡ refuse (numbered e) → TurnAnswered b last out slice (refused_turn e) out b last
  refused_first e q = refused_so e (first_append front rest ∙ ap (λ (w : Verdict). or_else w (first_refusal rest)) q)

  -- ---- then 29, and 6 of the output
  module _ (ok : first_refusal front ≡ pass) where
    left : first_refusal (checks_of_turn b last out slice) ≡ first_refusal rest
    left = first_append front rest ∙ ap (λ (w : Verdict). or_else w (first_refusal rest)) ok

    pub refused_none : served b last ≡ 0 → TurnAnswered b last out slice (refused_turn NoneHeld) out b last
    refused_none e =
        let v : served_check (served b last) ≡ refuse none_held = ap (λ (c : Bool). refuse_if c none_held) (eq-eqb (served b last) 0 e) in
        refused_so NoneHeld (left ∙ first_refuses (served_check (served b last)) (length_check 23 (length out) ∷ []) v ∙ v)

    module _ (some : served b last ≡ 0 → ⊥) where
      length_left : first_refusal (checks_of_turn b last out slice) ≡ length_check 23 (length out)
      length_left =
          left
          ∙ first_passes (served_check (served b last)) (length_check 23 (length out) ∷ []) (ap (λ (c : Bool). refuse_if c none_held) (ne_eqb (served b last) 0 some))
          ∙ first_alone (length_check 23 (length out))

      pub refused_length : (length out ≡ 23 → ⊥) → TurnAnswered b last out slice (refused_turn (LengthMismatch 23 (length out))) out b last
      refused_length d = refused_so (LengthMismatch 23 (length out)) (length_left ∙ ap (λ (c : Bool). refuse_if (not c) (length_mismatch 23 (length out))) (ne_eqb 23 (length out) (λ e. d (sym e))))

      module _ (long : length out ≡ 23) where
        pub turn_served : {r : TurnAnswer} {out' : List ℤ} {b' : Block} (name : ℕ) → name ≡ served b last → NameServed b out name slice r out' b' → TurnAnswered b last out slice r out' b' name
        turn_served {r} {out'} {b'} name e d =
            subst (TurnAnswered b last out slice r out' b') (sym e)
            (served_so (length_left ∙ ap (λ (c : Bool). refuse_if (not c) (length_mismatch 23 (length out))) (eq-eqb 23 (length out) (sym long)))
            (subst (λ (m : ℕ). NameServed b out m slice r out' b') e d))

-- what serving a name asks for
pub serve_ready : (b : Block) (last : ℕ) (out : List ℤ) → BlockPassed b 1 → (name : ℕ) → name ≡ served b last → (name ≡ 0 → ⊥) → length out ≡ 23 → ServeReady b out name
serve_ready b last out k name e some long =
    let f = after_held 8 b last (λ q. some (e ∙ q)) in
    subst (ServeReady b out) (sym e) (record {
      least = f.least;
      most = f.most;
      reals_length = k.reals_length;
      integers_length = k.integers_length;
      counts_length = k.counts_length;
      sound = f.sound;
      output_length = long;
    })
