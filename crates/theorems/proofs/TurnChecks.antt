-- The checks of `turn`: their numbers, where none of them fits, and which refusal they give, fault by fault. Assumes nothing.
use mathlib.Core.Path.{◌≡◌, refl, sym, ap, ◌∙◌}
use mathlib.Core.Bool.{Bool, true, false, not, ◌&&◌}
use mathlib.Core.List.{List, [], ◌∷◌}
use mathlib.Core.Logic.{◌↔◌}
use Prim.Native.Nat.{ℕ, ◌^◌, ◌≤◌}
use native.Mathlib.Omega.{arith}
use borrow.Author.Tests.{leb-true, le-leb, eqb-false, eq-eqb, ne_eqb}
use lib.Dec.{leb, eqb}
use lib.ListN.{length}
use lib.IntN.{ℤ}
use Rattle.lists.specs.All.{none, more}
use Rattle.lists.proofs.Each.{all_append}
use Rattle.definitions.specs.Refusals.{length_mismatch, slice_range, none_held}
use Rattle.definitions.specs.Checks.{Verdict, pass, refuse, refuse_if, first_refusal, length_check}
use Rattle.definitions.specs.Calls.{Answer, after, NearestPoint}
use Rattle.definitions.specs.Kept.{Held, free, holds}
use Rattle.definitions.specs.Block.{Block, slot_in}
use Rattle.definitions.specs.Turn.{served, slice_check, served_check, checks_of_turn}
use Rattle.definitions.proofs.Passed.{length_passed}
use Rattle.definitions.proofs.Named.{both_true}
use Rattle.theorems.specs.Refusals.{NoneFits, HasNumber, Numbered, no_checks, check}
use Rattle.theorems.specs.Kept.{IsName}
use Rattle.theorems.specs.Turns.{NextHeld, TurnAccepted, TurnRefused}
use Rattle.theorems.proofs.CheckNumbers.{by_test, length_number}
use Rattle.theorems.proofs.Accepted.{Passing, passing, none_fits, and_true, not_refused, length_passes}
use Rattle.theorems.proofs.KeptChecks.{not_refused_so, block_passing, block_then, is_block}
use Rattle.theorems.proofs.KeptDecides.{on, stop, length_refuses, first_decides, reals_decide, integers_decide, counts_decide, others_decide}
use Rattle.theorems.proofs.Rounds.{next_held, none_served, served_held}

-- ---- each by itself
slice_number : (slice : ℕ) → HasNumber 28 (slice_check slice)
slice_number slice = by_test (not (leb 1 slice && leb slice (2 ^ 20))) slice_range

slice_passed : (slice : ℕ) → slice_check slice ≡ pass → (1 ≤ slice) × (slice ≤ 2 ^ 20)
slice_passed slice e =
    let q = both_true (leb 1 slice) (leb slice (2 ^ 20)) (not_refused_so (not (leb 1 slice && leb slice (2 ^ 20))) slice_range e) in
    (leb-true 1 slice q.0, leb-true slice (2 ^ 20) q.1)

slice_passes : (slice : ℕ) → 1 ≤ slice → slice ≤ 2 ^ 20 → slice_check slice ≡ pass
slice_passes slice l m = not_refused slice_range (ap not (and_true (le-leb 1 slice l) (le-leb slice (2 ^ 20) m)))

slice_refuses : (slice : ℕ) → ((1 ≤ slice) × (slice ≤ 2 ^ 20) → ⊥) → slice_check slice ≡ refuse slice_range
slice_refuses slice d = go (leb 1 slice) (leb slice (2 ^ 20)) refl refl
  where
    go : (a b : Bool) → leb 1 slice ≡ a → leb slice (2 ^ 20) ≡ b → refuse_if (not (a && b)) slice_range ≡ refuse slice_range
    go true true p q = absurd (d (leb-true 1 slice p, leb-true slice (2 ^ 20) q))
    go true false p q = refl
    go false b p q = refl

served_number : (name : ℕ) → HasNumber 29 (served_check name)
served_number name = by_test (eqb name 0) none_held

module _ (b : Block) (last : ℕ) where
  -- a name is held: then one is served
  served_passes : (a : ℕ) → IsName a → (h : Held) → slot_in b a ≡ holds h → served_check (served b last) ≡ pass
  served_passes a i h e = not_refused none_held (ne_eqb (served b last) 0 (λ z. some (served b last) (next_held b last a i h e).is_name z))
    where
      some : (name : ℕ) → IsName name → name ≡ 0 → ⊥
      some name i z = omega (arith, i.least, z)

  served_refuses : ((name : ℕ) → IsName name → slot_in b name ≡ free) → served_check (served b last) ≡ refuse none_held
  served_refuses all = ap (λ (c : Bool). refuse_if c none_held) (eq-eqb (served b last) 0 (none_served b last all))

module _ (b : Block) (last : ℕ) (out : List ℤ) (slice : ℕ) where
  abbrev asked : List Verdict
  asked = checks_of_turn b last out slice

  pub turn_numbered : Numbered (28 ∷ 6 ∷ 6 ∷ 6 ∷ 29 ∷ 6 ∷ []) asked
  turn_numbered = check (slice_number slice) (block_then b (check (served_number (served b last)) (check (length_number 23 (length out)) no_checks)))

  pub turn_accepts : NoneFits asked ↔ TurnAccepted b last out slice
  turn_accepts = (λ f. go (passing asked f), λ a. none_fits (back a))
    where
      go : Passing asked → TurnAccepted b last out slice
      go (more p28 (more q (more r (more s (more p29 (more p6 none)))))) =
          let w = slice_passed slice p28 in
          record {
            slice_least = w.0;
            slice_most = w.1;
            is_block = is_block b q r s;
            some_held = served_held b last (eqb-false (served b last) 0 (not_refused_so (eqb (served b last) 0) none_held p29));
            output_length = sym (length_passed 23 (length out) p6);
          }

      back : TurnAccepted b last out slice → Passing asked
      back a =
          let (name, i, (h, e)) = a.some_held in
          more (slice_passes slice a.slice_least a.slice_most) (all_append (block_passing b a.is_block) (more (served_passes b last name i h e) (more (length_passes 23 (length out) a.output_length) none)))

  -- the name that an accepted turn serves
  pub turn_next : NoneFits asked → NextHeld b last (served b last)
  turn_next f = let (name, i, (h, e)) = (turn_accepts.0 f).some_held in next_held b last name i h e

  -- ---- which refusal, of any answer behind these checks
  module _ (end answer : Answer NearestPoint) (is : answer ≡ after (first_refusal asked) end) where
    abbrev output : List Verdict
    output = length_check 23 (length out) ∷ []

    abbrev behind : List Verdict
    behind = served_check (served b last) ∷ output

    pub turn_refused : TurnRefused b last out slice answer
    turn_refused = record {
      gives_28 = λ d. first_decides b (slice_check slice) behind end answer is slice_range (slice_refuses slice d);
      reals_6 = λ l m. reals_decide b (slice_check slice) behind end answer is (slice_passes slice l m);
      integers_6 = λ l m. integers_decide b (slice_check slice) behind end answer is (slice_passes slice l m);
      counts_6 = λ l m. counts_decide b (slice_check slice) behind end answer is (slice_passes slice l m);
      gives_29 = λ l m k all. others_decide b (slice_check slice) behind end answer is (slice_passes slice l m) k none_held (stop (served_check (served b last)) output none_held (served_refuses b last all));
      gives_6 = λ l m k name i h e d. others_decide b (slice_check slice) behind end answer is (slice_passes slice l m) k (length_mismatch 23 (length out)) (on (served_check (served b last)) output (served_passes b last name i h e) ∙ stop (length_check 23 (length out)) [] (length_mismatch 23 (length out)) (length_refuses 23 (length out) d));
    }
