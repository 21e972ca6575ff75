-- What a pickup of a part answers and leaves, for each of its ends. Assumes nothing.
use mathlib.Core.Path.{◌≡◌, sym, ap, ◌∙◌}
use mathlib.Core.Bool.{Bool, true, false, cond}
use mathlib.Core.List.{List}
use Prim.Native.Nat.{ℕ, ◌+◌, ◌-◌, ◌^◌, ◌≤◌, ◌<◌, min}
use native.Mathlib.Omega.{arith}
use lib.ListN.{length, get_or, take, replicate}
use lib.Seq.{length-take-le}
use lib.IntN.{ℤ, pos}
use lib.Ieee.{Float, nan}
use Rattle.std.specs.Prelude.{Result, Err}
use Rattle.definitions.specs.Table.{dimension, plus_zero, largest_budget}
use Rattle.definitions.specs.Machine.{run_for}
use Rattle.definitions.specs.Refusals.{sum_range, length_mismatch}
use Rattle.definitions.specs.Checks.{Verdict, pass, refuse, first_refusal}
use Rattle.definitions.specs.Calls.{after}
use Rattle.definitions.specs.Kept.{Held, Slot, free, holds, further, answer_of, if_over}
use Rattle.definitions.specs.Block.{Block, part_dimension, part_nodes, is_sound, part_table, part_target, part_machine, part_held, part_slot, written_walk, zero_part, rewritten}
use Rattle.definitions.specs.Named.{if_passed, further_answer, further_slot}
use Rattle.definitions.proofs.Block.{sound_counts}
use Rattle.definitions.proofs.Answers.{after_pass, after_refuse}
use Rattle.refusals.specs.Numbers.{numbered}
use Rattle.refusals.specs.declared.Refusal.{Refusal as CodeRefusal}
use Rattle.refusals.specs.declared.Refusal.TheVariants.{LengthMismatch, BudgetExhausted, NameEmpty, SumRange}
use Rattle.enumerate.specs.declared.NearestPoint.{NearestPoint as CodePoint}
use Rattle.enumerate.specs.View.{NearestAnswered}
use Rattle.enumerate.proofs.Answers.{answered_refused, answered_as}
use Rattle.resume.specs.declared.Walk.{Walk}
use Rattle.resume.specs.View.{machine_of}
use Rattle.parts.specs.Parts.{block, PartLengths, Holds, zeros}
use Rattle.kept.specs.Part.{over_answer, WentOn, part_checks, PartPickedUp}
use Rattle.kept.proofs.Checks.{part_empty, part_length, part_sum, part_passes}
use Rattle.kept.proofs.Walks.{over_answer_lem, over_left, going_answer, going_left}

-- three slices that hold a part, and a part of zeros
pub holds_block : {q : Block} {reals : List Float} {integers : List ℤ} {counts : List ℕ} → Holds q reals integers counts → block reals integers counts ≡ q
holds_block x = λ i. record { reals = x.reals_are i; integers = x.integers_are i; counts = x.counts_are i }

pub zeros_are : (p : Block) → PartLengths p → zeros p ≡ zero_part
zeros_are p lengths = λ i. record { reals = replicate (lengths.reals_length i) plus_zero; integers = replicate (lengths.integers_length i) (pos 0); counts = replicate (lengths.counts_length i) 0 }

-- a sound part holds its search
pub part_held_lem : (p : Block) → is_sound p.counts ≡ true → part_slot p ≡ holds (part_held p)
part_held_lem p sound = ap (λ (b : Bool). cond b (holds (part_held p)) free) sound

module _ (p : Block) (lengths : PartLengths p) (out : List ℤ) (budget : ℕ) where
  abbrev verdict : Verdict
  verdict = first_refusal (part_checks (part_slot p) out budget)

  -- a refusal by a check
  refused_so : (e : CodeRefusal) → verdict ≡ refuse (numbered e) → PartPickedUp p out budget (Err e) out p
  refused_so e q = record {
    answered = answered_refused e out (after_refuse verdict (further_answer budget (part_slot p)) (numbered e) q);
    part_is = sym (ap (λ (v : Verdict). if_passed v p (rewritten p (further_slot budget (part_slot p)))) q);
  }

  pub unsound : is_sound p.counts ≡ false → PartPickedUp p out budget (Err NameEmpty) out p
  unsound e = refused_so NameEmpty (part_empty out budget (part_slot p) (ap (λ (b : Bool). cond b (holds (part_held p)) free) e))

  module _ (sound : is_sound p.counts ≡ true) where
    abbrev n : ℕ
    n = part_dimension p.counts

    held : part_slot p ≡ holds (part_held p)
    held = part_held_lem p sound

    pub dimension_is : dimension (part_table p) ≡ n
    dimension_is = length-take-le n p.reals (omega (arith, lengths.reals_length, (sound_counts p.counts sound).small))

    pub wrong_length : (length out ≡ n → ⊥) → PartPickedUp p out budget (Err (LengthMismatch n (length out))) out p
    wrong_length d = refused_so (LengthMismatch n (length out)) (part_length out budget (part_slot p) (part_held p) held (λ e. d (e ∙ dimension_is)) ∙ ap (λ (k : ℕ). refuse (length_mismatch k (length out))) dimension_is)

    module _ (e : length out ≡ n) where
      pub too_much : largest_budget < part_nodes p.counts + budget → (told : ℕ) → told ≡ min (part_nodes p.counts + budget) (2 ^ 64 - 1) → PartPickedUp p out budget (Err (SumRange told)) out p
      too_much l told q = refused_so (SumRange told) (part_sum out budget (part_slot p) (part_held p) held (e ∙ sym dimension_is) l ∙ ap (λ (k : ℕ). refuse (sum_range k)) (sym q))

      module _ (l : part_nodes p.counts + budget ≤ largest_budget) (s : Walk) (went : WentOn p (part_nodes p.counts + budget) s) where
        abbrev w : List Float
        w = (part_table p).weights

        abbrev h : Held
        h = further (part_held p) budget

        passes : verdict ≡ pass
        passes = part_passes out budget (part_slot p) (part_held p) held (e ∙ sym dimension_is) l

        is : machine_of w s ≡ h.walk
        is = went.goes ∙ ap (λ (k : ℕ). run_for (part_table p) (part_target p) k (part_machine p)) (back (part_nodes p.counts) budget)
          where
            back : (a b : ℕ) → a + b - a ≡ b
            back a b = omega arith

        -- the answer and the part, once the checks have passed
        answer_is : after verdict (further_answer budget (part_slot p)) ≡ answer_of h
        answer_is = after_pass verdict (further_answer budget (part_slot p)) passes ∙ ap (further_answer budget) held

        part_left : if_passed verdict p (rewritten p (further_slot budget (part_slot p))) ≡ rewritten p (if_over h.walk.stack free (holds h))
        part_left = ap (λ (v : Verdict). if_passed v p (rewritten p (further_slot budget (part_slot p)))) passes ∙ ap (λ (x : Slot). rewritten p (further_slot budget x)) held

        pub over : s.count ≡ 0 → {reals : List Float} {integers : List ℤ} {counts : List ℕ} → Holds (zeros p) reals integers counts → {r : Result CodePoint CodeRefusal} {out' : List ℤ} → NearestAnswered (over_answer (get_or p.reals 575 nan) s out) out r out' → PartPickedUp p out budget r out' (block reals integers counts)
        over none x a = record {
          answered = answered_as (sym (answer_is ∙ over_answer_lem w s h.walk is none (get_or p.reals 575 nan) out (e ∙ sym dimension_is))) a;
          part_is = holds_block x ∙ zeros_are p lengths ∙ sym (part_left ∙ ap (rewritten p) (over_left w s h.walk is none free (holds h)));
        }

        pub goes_on : (s.count ≡ 0 → ⊥) → {reals : List Float} {integers : List ℤ} {counts : List ℕ} → Holds (written_walk (take 576 p.reals) n (machine_of w s)) reals integers counts → PartPickedUp p out budget (Err (BudgetExhausted s.nodes s.radius)) out (block reals integers counts)
        goes_on some x = record {
          answered = answered_refused (BudgetExhausted s.nodes s.radius) out (answer_is ∙ going_answer w s h.walk is some h.radius);
          part_is =
              holds_block x
              ∙ ap (written_walk (take 576 p.reals) n) is
              ∙ ap (λ (k : ℕ). written_walk (take 576 p.reals) k h.walk) (sym dimension_is)
              ∙ sym (part_left ∙ ap (rewritten p) (going_left w s h.walk is some free (holds h)));
        }
