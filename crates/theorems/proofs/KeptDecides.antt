-- Which refusal `nearest_named` and `pick_up` give, fault by fault: 25, 6 of the block, 2; 26, 6 of the output, 27. Assumes nothing.
use mathlib.Core.Path.{◌≡◌, refl, sym, ap, ◌∙◌}
use mathlib.Core.Bool.{Bool, true, false, not, ◌&&◌, ◌||◌}
use mathlib.Core.List.{List, [], ◌∷◌, ◌++◌}
use Prim.Native.Nat.{ℕ, ◌+◌, ◌-◌, ◌*◌, ◌^◌, ◌≤◌, ◌<◌, min}
use borrow.Author.Tests.{leb-true, lt-ltb, ne_eqb}
use lib.Dec.{leb, eqb}
use lib.ListN.{length}
use lib.IntN.{ℤ}
use lib.Ieee.{Float}
use Rattle.definitions.specs.Table.{Table, dimension, largest_dimension, largest_budget}
use Rattle.definitions.specs.Refusals.{Refusal, table_size, length_mismatch, name_range, name_empty, sum_range}
use Rattle.definitions.specs.Checks.{Verdict, pass, refuse, refuse_if, first_refusal, table_size_check, table_checks, length_check, handed_on}
use Rattle.definitions.specs.Calls.{Answer, refused, after, NearestPoint, search_checks, checks_of_nearest}
use Rattle.definitions.specs.Kept.{Held, Slot, free, holds, search_for, answer_of, name_check, held_check, output_check, sum_check}
use Rattle.definitions.specs.Block.{Block, slot_in, block_checks}
use Rattle.definitions.specs.Named.{nearest_named, further_answer, pick_up}
use Rattle.definitions.proofs.Verdicts.{or_else, first_append, first_cons}
use Rattle.definitions.proofs.Answers.{after_refuse}
use Rattle.theorems.specs.Kept.{IsName, IsBlock, NameAndBlock}
use Rattle.theorems.proofs.FirstRefusal.{none_passes}
use Rattle.theorems.proofs.Accepted.{none_fits, length_passes}
use Rattle.theorems.proofs.KeptChecks.{name_passes, block_passing}
use Rattle.theorems.proofs.NamedCalls.{named_answer}
use Rattle.theorems.proofs.PickUpCalls.{picked_answer}
use Rattle.lists.specs.All.{more}

-- ---- a check that passes, and one that refuses
pub on : (v : Verdict) (vs : List Verdict) → v ≡ pass → first_refusal (v ∷ vs) ≡ first_refusal vs
on v vs e = first_cons v vs ∙ ap (λ (w : Verdict). or_else w (first_refusal vs)) e

pub stop : (v : Verdict) (vs : List Verdict) (e : Refusal) → v ≡ refuse e → first_refusal (v ∷ vs) ≡ refuse e
stop v vs e q = first_cons v vs ∙ ap (λ (w : Verdict). or_else w (first_refusal vs)) q

pub length_refuses : (expected found : ℕ) → (found ≡ expected → ⊥) → length_check expected found ≡ refuse (length_mismatch expected found)
length_refuses expected found d = ap (λ (b : Bool). refuse_if (not b) (length_mismatch expected found)) (ne_eqb expected found (λ e. d (sym e)))

name_refuses : (name : ℕ) → (IsName name → ⊥) → name_check name ≡ refuse name_range
name_refuses name d = go (leb 1 name) (leb name 8) refl refl
  where
    go : (a b : Bool) → leb 1 name ≡ a → leb name 8 ≡ b → refuse_if (not (a && b)) name_range ≡ refuse name_range
    go true true p q = absurd (d (record { least = leb-true 1 name p; most = leb-true name 8 q }))
    go true false p q = refl
    go false b p q = refl

-- ---- any call whose checks begin with one and those of the block
module _ (b : Block) (v : Verdict) (vs : List Verdict) (end answer : Answer NearestPoint) (is : answer ≡ after (first_refusal ((v ∷ block_checks b) ++ vs)) end) where
  by : (e : Refusal) → first_refusal ((v ∷ block_checks b) ++ vs) ≡ refuse e → answer ≡ refused e
  by e q = is ∙ after_refuse (first_refusal ((v ∷ block_checks b) ++ vs)) end e q

  abbrev lengths : List Verdict
  lengths = block_checks b ++ vs

  abbrev from_integers : List Verdict
  from_integers = length_check 736 (length b.integers) ∷ length_check 768 (length b.counts) ∷ vs

  pub first_decides : (e : Refusal) → v ≡ refuse e → answer ≡ refused e
  first_decides e q = by e (stop v lengths e q)

  -- it passes: the block's lengths decide
  module _ (first : v ≡ pass) where
    pub reals_decide : (length b.reals ≡ 5168 → ⊥) → answer ≡ refused (length_mismatch 5168 (length b.reals))
    reals_decide d = by _ (on v lengths first ∙ stop (length_check 5168 (length b.reals)) from_integers _ (length_refuses 5168 (length b.reals) d))

    pub integers_decide : length b.reals ≡ 5168 → (length b.integers ≡ 736 → ⊥) → answer ≡ refused (length_mismatch 736 (length b.integers))
    integers_decide r d = by _ (on v lengths first ∙ on (length_check 5168 (length b.reals)) from_integers (length_passes 5168 (length b.reals) r) ∙ stop (length_check 736 (length b.integers)) (length_check 768 (length b.counts) ∷ vs) _ (length_refuses 736 (length b.integers) d))

    pub counts_decide : length b.reals ≡ 5168 → length b.integers ≡ 736 → (length b.counts ≡ 768 → ⊥) → answer ≡ refused (length_mismatch 768 (length b.counts))
    counts_decide r n d = by _ (on v lengths first ∙ on (length_check 5168 (length b.reals)) from_integers (length_passes 5168 (length b.reals) r) ∙ on (length_check 736 (length b.integers)) (length_check 768 (length b.counts) ∷ vs) (length_passes 736 (length b.integers) n) ∙ stop (length_check 768 (length b.counts)) vs _ (length_refuses 768 (length b.counts) d))

    -- the block is right too: the others decide
    pub others_decide : IsBlock b → (e : Refusal) → first_refusal vs ≡ refuse e → answer ≡ refused e
    others_decide k e q =
        by e (first_append (v ∷ block_checks b) vs
        ∙ ap (λ (w : Verdict). or_else w (first_refusal vs)) (none_passes (v ∷ block_checks b) (none_fits (more first (block_passing b k))))
        ∙ q)

-- of a name
module _ (b : Block) (name : ℕ) (vs : List Verdict) (end answer : Answer NearestPoint) (is : answer ≡ after (first_refusal ((name_check name ∷ block_checks b) ++ vs)) end) where
  name_and_block : NameAndBlock b name answer
  name_and_block = record {
    gives_25 = λ d. first_decides b (name_check name) vs end answer is name_range (name_refuses name d);
    reals_6 = λ i. reals_decide b (name_check name) vs end answer is (name_passes name i);
    integers_6 = λ i. integers_decide b (name_check name) vs end answer is (name_passes name i);
    counts_6 = λ i. counts_decide b (name_check name) vs end answer is (name_passes name i);
  }

-- ---- `nearest_named`
too_large : (t : Table) (target : List Float) (out : List ℤ) (R : Float) (budget : ℕ) → 24 ≤ dimension t → first_refusal (checks_of_nearest largest_dimension t target out R budget) ≡ refuse (table_size (dimension t))
unfolding search_checks table_checks
too_large t target out R budget l = stop (table_size_check largest_dimension t) _ (table_size (dimension t)) (ap (λ (b : Bool). refuse_if (b || not (eqb (length t.mu) (dimension t * dimension t))) (table_size (dimension t))) (lt-ltb 23 (dimension t) l))

module _ (b : Block) (name : ℕ) (t : Table) (target : List Float) (out : List ℤ) (R : Float) (budget : ℕ) where
  pub named_name_and_block : NameAndBlock b name (nearest_named b name t target out R budget)
  named_name_and_block = name_and_block b name (checks_of_nearest largest_dimension t target out R budget) (answer_of (search_for t target (handed_on R) budget)) (nearest_named b name t target out R budget) (named_answer b name t target out R budget)

  pub named_gives_2 : IsName name → IsBlock b → 24 ≤ dimension t → nearest_named b name t target out R budget ≡ refused (table_size (dimension t))
  named_gives_2 i k l = others_decide b (name_check name) (checks_of_nearest largest_dimension t target out R budget) (answer_of (search_for t target (handed_on R) budget)) (nearest_named b name t target out R budget) (named_answer b name t target out R budget) (name_passes name i) k (table_size (dimension t)) (too_large t target out R budget l)

-- ---- `pick_up`
module _ (b : Block) (name : ℕ) (out : List ℤ) (budget : ℕ) where
  abbrev rest : Slot → List Verdict
  rest x = held_check x ∷ output_check x (length out) ∷ sum_check x budget ∷ []

  pub picked_name_and_block : NameAndBlock b name (pick_up b name out budget)
  picked_name_and_block = name_and_block b name (rest (slot_in b name)) (further_answer budget (slot_in b name)) (pick_up b name out budget) (picked_answer b name out budget)

  decides : IsName name → IsBlock b → (x : Slot) → slot_in b name ≡ x → (e : Refusal) → first_refusal (rest x) ≡ refuse e → pick_up b name out budget ≡ refused e
  decides i k x s e q = others_decide b (name_check name) (rest (slot_in b name)) (further_answer budget (slot_in b name)) (pick_up b name out budget) (picked_answer b name out budget) (name_passes name i) k e (ap (λ (y : Slot). first_refusal (rest y)) s ∙ q)

  pub picked_gives_26 : IsName name → IsBlock b → slot_in b name ≡ free → pick_up b name out budget ≡ refused name_empty
  picked_gives_26 i k s = decides i k free s name_empty (stop (held_check free) _ name_empty refl)

  pub picked_gives_6 : IsName name → IsBlock b → (h : Held) → slot_in b name ≡ holds h → (length out ≡ dimension h.table → ⊥) → pick_up b name out budget ≡ refused (length_mismatch (dimension h.table) (length out))
  picked_gives_6 i k h s d = decides i k (holds h) s _ (on pass _ refl ∙ stop (length_check (dimension h.table) (length out)) _ _ (length_refuses (dimension h.table) (length out) d))

  pub picked_gives_27 : IsName name → IsBlock b → (h : Held) → slot_in b name ≡ holds h → length out ≡ dimension h.table → 2 ^ 60 < h.walk.nodes + budget → pick_up b name out budget ≡ refused (sum_range (min (h.walk.nodes + budget) (2 ^ 64 - 1)))
  picked_gives_27 i k h s e l =
      decides i k (holds h) s _
      (on pass _ refl
      ∙ on (length_check (dimension h.table) (length out)) _ (length_passes (dimension h.table) (length out) e)
      ∙ stop (sum_check (holds h) budget) [] _ (ap (λ (c : Bool). refuse_if c (sum_range (min (h.walk.nodes + budget) (2 ^ 64 - 1)))) (lt-ltb largest_budget (h.walk.nodes + budget) l)))
