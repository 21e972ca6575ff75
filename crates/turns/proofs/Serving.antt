-- What a slice for the search of a part answers and leaves: the pickup's, or 15 and an empty part; and what that is for its name. Assumes nothing.
use mathlib.Core.Path.{◌≡◌, sym, ap, ◌∙◌, subst}
use mathlib.Core.Bool.{Bool, true, false, cond}
use mathlib.Core.List.{List, ◌++◌}
use Prim.Native.Nat.{ℕ, ◌+◌, ◌≤◌, ◌<◌}
use native.Mathlib.Omega.{arith}
use borrow.Author.Tests.{lt-ltb, le-ltb}
use lib.Dec.{lit≤}
use lib.ListN.{length, get_or, take, drop, take-append-drop}
use lib.Seq.{take-append_seam, length-take-le, get_or-take, get_or-drop}
use lib.IntN.{ℤ}
use lib.Ieee.{Float}
use Rattle.std.specs.Prelude.{Result, Err}
use Rattle.definitions.specs.Table.{largest_budget}
use Rattle.definitions.specs.Refusals.{budget_exhausted}
use Rattle.definitions.specs.Checks.{Verdict, first_refusal}
use Rattle.definitions.specs.Calls.{Answer, found, refused, NearestPoint, nearest_output}
use Rattle.definitions.specs.Kept.{Held, Slot, free, holds}
use Rattle.definitions.specs.Block.{Block, part_dimension, part_nodes, part_held, part_slot, rewritten, part_of, slot_in, with_part}
use Rattle.definitions.specs.Named.{if_passed, further_answer, further_slot}
use Rattle.definitions.specs.Turn.{passes, slice_answer, slice_slot, slot_dimension, turn_output}
use Rattle.definitions.proofs.Answers.{after_pass, output_found, output_refused}
use Rattle.definitions.proofs.Block.{sound_counts}
use Rattle.definitions.proofs.Turn.{turn_output_found, turn_output_refused}
use Rattle.refusals.specs.declared.Refusal.{Refusal as CodeRefusal}
use Rattle.refusals.specs.declared.Refusal.TheVariants.{BudgetExhausted}
use Rattle.enumerate.specs.declared.NearestPoint.{NearestPoint as CodePoint}
use Rattle.enumerate.specs.View.{nearest_answer}
use Rattle.enumerate.proofs.Answers.{answered_refused, answered_as}
use Rattle.parts.specs.Parts.{block, PartLengths, Holds, zeros}
use Rattle.kept.specs.Part.{part_checks, PartPickedUp}
use Rattle.kept.proofs.Blocks.{part_lengths}
use Rattle.kept.proofs.Checks.{part_passes}
use Rattle.kept.proofs.PickingUp.{holds_block, zeros_are, part_held_lem, dimension_is}
use Rattle.turns.specs.Turns.{PartReady, PartServed, ServeReady, NameServed}

module _ (p : Block) (out : List ℤ) (slice : ℕ) (ready : PartReady p out) where
  abbrev h : Held
  h = part_held p

  held : part_slot p ≡ holds h
  held = part_held_lem p ready.sound

  -- what is answered and left, by whether the sum would pass the limit
  answer_is : (c : Bool) → passes h slice ≡ c → slice_answer slice (part_slot p) ≡ cond c (refused (budget_exhausted h.walk.nodes h.walk.standing)) (further_answer slice (holds h))
  answer_is c e = ap (slice_answer slice) held ∙ ap (λ (c : Bool). cond c (refused (budget_exhausted h.walk.nodes h.walk.standing)) (further_answer slice (holds h))) e

  slot_is : (c : Bool) → passes h slice ≡ c → slice_slot slice (part_slot p) ≡ cond c free (further_slot slice (holds h))
  slot_is c e = ap (slice_slot slice) held ∙ ap (λ (c : Bool). cond c free (further_slot slice (holds h))) e

  pub served_past : largest_budget < part_nodes p.counts + slice → {reals : List Float} {integers : List ℤ} {counts : List ℕ} → Holds (zeros p) reals integers counts → PartServed p out slice (Err (BudgetExhausted h.walk.nodes h.walk.standing)) out (block reals integers counts)
  served_past l x =
      let e = lt-ltb largest_budget (part_nodes p.counts + slice) l in
      record {
        answered = answered_refused (BudgetExhausted h.walk.nodes h.walk.standing) out (answer_is true e);
        part_is = holds_block x ∙ zeros_are p ready.lengths ∙ sym (ap (rewritten p) (slot_is true e));
      }

  pub served_within : part_nodes p.counts + slice ≤ largest_budget → {r : Result CodePoint CodeRefusal} {out' : List ℤ} {p' : Block} → PartPickedUp p out slice r out' p' → PartServed p out slice r out' p'
  served_within l d =
      let e = le-ltb largest_budget (part_nodes p.counts + slice) l in
      let v = part_passes out slice (part_slot p) h held (ready.output_length ∙ sym (dimension_is p ready.lengths out slice ready.sound)) l in
      record {
        answered = answered_as (after_pass (first_refusal (part_checks (part_slot p) out slice)) (further_answer slice (part_slot p)) v ∙ ap (further_answer slice) held ∙ sym (answer_is false e)) d.answered;
        part_is = d.part_is ∙ ap (λ (w : Verdict). if_passed w p (rewritten p (further_slot slice (part_slot p)))) v ∙ ap (λ (x : Slot). rewritten p (further_slot slice x)) held ∙ sym (ap (rewritten p) (slot_is false e));
      }

-- ---- a name's search

-- n stands first in the counts of the name's part
pub n_of_part : (counts : List ℕ) (at : ℕ) → get_or counts at 0 ≡ get_or (take 96 (drop at counts)) 0 0
n_of_part counts at = ap (λ (i : ℕ). get_or counts i 0) (none at) ∙ sym (get_or-take 96 (drop at counts) 0 0 (lit≤ tt) ∙ get_or-drop at counts 0 0)
  where
    none : (at : ℕ) → at ≡ at + 0
    none at = omega arith

module _ (b : Block) (out : List ℤ) (name slice : ℕ) (ready : ServeReady b out name) where
  abbrev p : Block
  p = part_of b name

  lengths : PartLengths p
  lengths = part_lengths b name (record { least = ready.least; most = ready.most; reals_length = ready.reals_length; integers_length = ready.integers_length; counts_length = ready.counts_length })

  -- the part, and the places of out that are lent with it
  module _ (m : ℕ) (is : m ≡ part_dimension p.counts) where
    pub n_small : m ≤ 23
    n_small = subst (λ (k : ℕ). k ≤ 23) (sym is) (sound_counts p.counts ready.sound).small

    pub lent_length : length (take m out) ≡ m
    lent_length = length-take-le m out (subst (λ (k : ℕ). m ≤ k) (sym ready.output_length) n_small)

    pub part_ready : (q : Block) → q ≡ p → PartReady q (take m out)
    part_ready q e = subst (λ (x : Block). PartReady x (take m out)) (sym e) (record { lengths = lengths; sound = ready.sound; output_length = lent_length ∙ is })

    held_here : slot_in b name ≡ holds (part_held p)
    held_here = part_held_lem p ready.sound

    n_is : m ≡ slot_dimension (slot_in b name)
    n_is = is ∙ sym (dimension_is p lengths out slice ready.sound) ∙ ap slot_dimension (sym held_here)

    -- what stands in out, by the answer
    left_in_out : (a : Answer NearestPoint) (o' : List ℤ) → length o' ≡ m → o' ≡ nearest_output a (take m out) → o' ++ drop m out ≡ turn_output a out
    left_in_out (found x) o' l e =
        let same : o' ≡ x.point = e ∙ output_found x (take m out) in
        ap (λ (k : ℕ). o' ++ drop k out) (sym l) ∙ ap (λ (zs : List ℤ). zs ++ drop (length zs) out) same ∙ sym (turn_output_found x out)
    left_in_out (refused r) o' l e = ap (λ (zs : List ℤ). zs ++ drop m out) (e ∙ output_refused r (take m out)) ∙ take-append-drop m out ∙ sym (turn_output_refused r out)

    pub name_served : {r : Result CodePoint CodeRefusal} {o' : List ℤ} (q p' b' : Block) → q ≡ p → b' ≡ with_part b name p' → length o' ≡ length (take m out) → PartServed q (take m out) slice r o' p' → NameServed b out name slice (record { name = name; n = m; answer = r }) (o' ++ drop m out) b'
    name_served {r} {o'} q p' b' e f l d =
        let s : PartServed p (take m out) slice r o' p' = subst (λ (x : Block). PartServed x (take m out) slice r o' p') e d in
        let k : length o' ≡ m = l ∙ lent_length in
        record {
          tells = λ i. record { name = name; n = n_is i; answer = (ap (nearest_answer r) (ap (λ (j : ℕ). take j (o' ++ drop m out)) (sym k) ∙ take-append_seam o' (drop m out)) ∙ s.answered.tells) i };
          writes = left_in_out (slice_answer slice (slot_in b name)) o' k s.answered.writes;
          block_is = f ∙ ap (with_part b name) s.part_is;
        }
