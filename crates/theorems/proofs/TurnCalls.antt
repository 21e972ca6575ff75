-- `turn`: what it tells, and what it leaves of the block and of the name last served. An accepted one is a pickup of the name that it serves, or empties it. Assumes nothing.
use mathlib.Core.Path.{◌≡◌, refl, sym, ap, ◌∙◌, subst}
use mathlib.Core.Bool.{Bool, true, false, cond}
use mathlib.Core.List.{List}
use mathlib.Core.Logic.{◌⊎◌, inl, inr, ⊎_elim}
use Prim.Native.Nat.{ℕ, ◌+◌, ◌^◌, ◌≤◌, ◌<◌}
use native.Mathlib.Omega.{arith}
use borrow.Author.Tests.{ltb-true, ltb-false, lt-ltb, le-ltb, eq-eqb, ne_eqb}
use lib.Dec.{ltb, eqb}
use lib.ListN.{length, take}
use lib.Seq.{length-take-le}
use lib.IntN.{ℤ}
use Rattle.definitions.specs.Table.{dimension, largest_budget}
use Rattle.definitions.specs.Refusals.{Refusal, budget_exhausted}
use Rattle.definitions.specs.Checks.{Verdict, first_refusal}
use Rattle.definitions.specs.Calls.{refused, after}
use Rattle.definitions.specs.Kept.{Held, Slot, free, holds, further, answer_of, slot_for}
use Rattle.definitions.specs.Block.{Block, part_slot, zero_part, rewritten, part_of, slot_in, with_part}
use Rattle.definitions.specs.Named.{if_passed, checks_of_pick_up, pick_up, block_after_pick_up}
use Rattle.definitions.specs.Turn.{served, slice_answer, slice_slot, slot_dimension, checks_of_turn, turn_checks, turn, block_after_turn, last_after_turn}
use Rattle.definitions.proofs.Answers.{after_pass}
use Rattle.definitions.proofs.Turn.{turn_checks_are, turn_name_is, turn_n_is, turn_answer_is, after_turn_is, last_after_turn_is}
use Rattle.theorems.specs.Refusals.{Fits, NoneFits}
use Rattle.theorems.specs.Kept.{IsName, IsBlock, OthersStay}
use Rattle.theorems.specs.Turns.{TurnAccepted}
use Rattle.theorems.proofs.FirstRefusal.{decision, first_fits, none_passes, fitting_refuses}
use Rattle.theorems.proofs.KeptParts.{zero_part_lem, zero_read}
use Rattle.theorems.proofs.SoundParts.{passed, part_dimension_lem}
use Rattle.theorems.proofs.KeptBlocks.{part_written, block_written, others_written}
use Rattle.theorems.proofs.KeptSearches.{further_zero, answer_going}
use Rattle.theorems.proofs.KeptChecks.{pick_up_accepts}
use Rattle.theorems.proofs.PickUpCalls.{slot_holds, slot_sound, held_going, held_few, picked_goes_on, block_is, picked_lengths, picked_others}
use Rattle.theorems.proofs.KeptLists.{stays_others}
use Rattle.theorems.proofs.TurnChecks.{turn_accepts, turn_next}

-- a search that is held has at most 23 levels
pub held_small : (b : Block) (name : ℕ) → IsName name → IsBlock b → (h : Held) → slot_in b name ≡ holds h → dimension h.table ≤ 23
held_small b name i k h held =
    let p = part_of b name in
    let s = slot_sound b name i k h held in
    subst (λ (x : Held). dimension x.table ≤ 23) (slot_holds p h held).1 (subst (λ (m : ℕ). m ≤ 23) (sym (part_dimension_lem p s)) (passed p s).small)

module _ (b : Block) (last : ℕ) (out : List ℤ) (slice : ℕ) where
  abbrev asked : List Verdict
  asked = checks_of_turn b last out slice

  abbrev name : ℕ
  name = served b last

  abbrev p : Block
  p = part_of b name

  abbrev left : Block
  left = block_after_turn b last out slice

  -- what stands after a refusal by a check, and after none
  refuses : (e : Refusal) → Fits asked e → {A : Type 0} (was becomes : A) → if_passed (turn_checks b last out slice) was becomes ≡ was
  refuses e m was becomes = ap (λ (v : Verdict). if_passed v was becomes) (turn_checks_are b last out slice ∙ (fitting_refuses asked e m).1)

  passes_all : NoneFits asked → {A : Type 0} (was becomes : A) → if_passed (turn_checks b last out slice) was becomes ≡ becomes
  passes_all f was becomes = ap (λ (v : Verdict). if_passed v was becomes) (turn_checks_are b last out slice ∙ none_passes asked f)

  pub turned_stays : (e : Refusal) → Fits asked e → (left ≡ b) × (last_after_turn b last out slice ≡ last)
  turned_stays e m = (after_turn_is b last out slice ∙ refuses e m b _, last_after_turn_is b last out slice ∙ refuses e m last name)

  pub turned_none : (e : Refusal) → Fits asked e → ((turn b last out slice).name ≡ 0) × ((turn b last out slice).n ≡ 0)
  turned_none e m = (turn_name_is b last out slice ∙ refuses e m 0 name, turn_n_is b last out slice ∙ refuses e m 0 (slot_dimension (slot_in b name)))

  pub turned_last : NoneFits asked → last_after_turn b last out slice ≡ served b last
  turned_last f = last_after_turn_is b last out slice ∙ passes_all f last name

  pub turned_name : NoneFits asked → (turn b last out slice).name ≡ served b last
  turned_name f = turn_name_is b last out slice ∙ passes_all f 0 name

  pub turned_n : NoneFits asked → (h : Held) → slot_in b (served b last) ≡ holds h → (turn b last out slice).n ≡ dimension h.table
  turned_n f h held = turn_n_is b last out slice ∙ passes_all f 0 (slot_dimension (slot_in b name)) ∙ ap slot_dimension held

  pub turned_answer : (turn b last out slice).answer ≡ after (first_refusal asked) (slice_answer slice (slot_in b (served b last)))
  turned_answer = turn_answer_is b last out slice ∙ ap (λ (v : Verdict). after v (slice_answer slice (slot_in b name))) (turn_checks_are b last out slice)

  -- a name is told exactly where the turn is accepted
  pub turned_counts : NoneFits asked → ◌≡◌ {A = ℕ} (cond (eqb (turn b last out slice).name 0) 0 1) 1
  turned_counts f = ap (λ (c : Bool). cond c 0 1) (ne_eqb (turn b last out slice).name 0 (λ z. some name (turn_next b last out slice f).is_name (sym (turned_name f) ∙ z)))
    where
      some : (m : ℕ) → IsName m → m ≡ 0 → ⊥
      some m i z = omega (arith, i.least, z)

  pub refused_counts : (e : Refusal) → Fits asked e → ◌≡◌ {A = ℕ} (cond (eqb (turn b last out slice).name 0) 0 1) 0
  refused_counts e m = ap (λ (c : Bool). cond c 0 1) (eq-eqb (turn b last out slice).name 0 (turned_none e m).0)

  -- ---- an accepted turn, of the search that the name holds
  module _ (f : NoneFits asked) (h : Held) (held : slot_in b (served b last) ≡ holds h) where
    ok : TurnAccepted b last out slice
    ok = (turn_accepts b last out slice).0 f

    is_name : IsName name
    is_name = (turn_next b last out slice f).is_name

    abbrev n : ℕ
    n = dimension h.table

    pub turned_length : length (take n out) ≡ n
    turned_length = length-take-le n out (omega (arith, held_small b name is_name ok.is_block h held, ok.output_length))

    by_limit : (c : Bool) → ltb largest_budget (h.walk.nodes + slice) ≡ c →
        ((turn b last out slice).answer ≡ cond c (refused (budget_exhausted h.walk.nodes h.walk.standing)) (answer_of (further h slice)))
        × (left ≡ with_part b name (rewritten p (cond c free (slot_for (further h slice)))))
    by_limit c e = (
      turned_answer ∙ after_pass (first_refusal asked) _ (none_passes asked f) ∙ ap (slice_answer slice) held ∙ ap (λ (x : Bool). cond x (refused (budget_exhausted h.walk.nodes h.walk.standing)) (answer_of (further h slice))) e,
      after_turn_is b last out slice ∙ passes_all f b _ ∙ ap (λ (x : Slot). with_part b name (rewritten p (slice_slot slice x))) held ∙ ap (λ (x : Bool). with_part b name (rewritten p (cond x free (slot_for (further h slice))))) e,
    )

    -- within the limit
    pub turned_as_pick_up : h.walk.nodes + slice ≤ 2 ^ 60 →
        ((turn b last out slice).answer ≡ pick_up b (served b last) (take (dimension h.table) out) slice)
        × (left ≡ block_after_pick_up b (served b last) (take (dimension h.table) out) slice)
        × NoneFits (checks_of_pick_up b (served b last) (take (dimension h.table) out) slice)
    turned_as_pick_up l =
        let g = (pick_up_accepts b name (take n out) slice).1 (h, record { is_name = is_name; is_block = ok.is_block; held = held; output_length = turned_length; sum_most = l }) in
        let q = by_limit false (le-ltb largest_budget (h.walk.nodes + slice) l) in
        (q.0 ∙ sym (picked_goes_on b name (take n out) slice g h held), q.1 ∙ sym (block_is b name (take n out) slice g h held), g)

    -- past it
    pub emptied_block : 2 ^ 60 < h.walk.nodes + slice → left ≡ with_part b name zero_part
    emptied_block l = (by_limit true (lt-ltb largest_budget (h.walk.nodes + slice) l)).1

    pub turned_past : 2 ^ 60 < h.walk.nodes + slice →
        ((turn b last out slice).answer ≡ refused (budget_exhausted h.walk.nodes h.walk.standing))
        × (part_of left (served b last) ≡ zero_part)
        × (slot_in left (served b last) ≡ free)
    turned_past l =
        let q = ap (λ (x : Block). part_of x name) (emptied_block l) ∙ part_written b name zero_part is_name ok.is_block zero_part_lem in
        ((by_limit true (lt-ltb largest_budget (h.walk.nodes + slice) l)).0, q, ap part_slot q ∙ zero_read)

    -- as a pickup without a budget would tell
    pub turned_as_told : 2 ^ 60 < h.walk.nodes + slice → (turn b last out slice).answer ≡ pick_up b (served b last) (take (dimension h.table) out) 0
    turned_as_told l =
        let g = (pick_up_accepts b name (take n out) 0).1 (h, record { is_name = is_name; is_block = ok.is_block; held = held; output_length = turned_length; sum_most = plain h.walk.nodes (2 ^ 60) (held_few p h held) }) in
        (turned_past l).0 ∙ sym (picked_goes_on b name (take n out) 0 g h held ∙ ap answer_of (further_zero h) ∙ answer_going h (held_going p h held))
      where
        plain : (m most : ℕ) → m ≤ most → m + 0 ≤ most
        plain m most l = omega arith

    -- one or the other
    pub within_or_past : (h.walk.nodes + slice ≤ 2 ^ 60) ⊎ (2 ^ 60 < h.walk.nodes + slice)
    within_or_past = go (ltb largest_budget (h.walk.nodes + slice)) refl
      where
        go : (c : Bool) → ltb largest_budget (h.walk.nodes + slice) ≡ c → (h.walk.nodes + slice ≤ 2 ^ 60) ⊎ (2 ^ 60 < h.walk.nodes + slice)
        go true e = inr (ltb-true largest_budget (h.walk.nodes + slice) e)
        go false e = inl (ltb-false largest_budget (h.walk.nodes + slice) e)

    accepted_others : OthersStay name b left
    accepted_others other i d =
        ⊎_elim
        (λ l. let q = turned_as_pick_up l in ap (λ (x : Block). part_of x other) q.1 ∙ picked_others b name (take n out) slice q.2 h held other i d)
        (λ l. ap (λ (x : Block). part_of x other) (emptied_block l) ∙ others_written b name zero_part is_name ok.is_block zero_part_lem other i d)
        within_or_past

    accepted_lengths : IsBlock left
    accepted_lengths =
        ⊎_elim
        (λ l. let q = turned_as_pick_up l in subst IsBlock (sym q.1) (picked_lengths b name (take n out) slice q.2 h held))
        (λ l. subst IsBlock (sym (emptied_block l)) (block_written b name zero_part is_name ok.is_block zero_part_lem))
        within_or_past

  pub turned_others : OthersStay (served b last) b left
  turned_others =
      ⊎_elim
      (λ some. stays_others name b left (turned_stays some.0 (first_fits some.1)).0)
      (λ other. let (h, e) = (turn_next b last out slice other.0).held in accepted_others other.0 h e)
      (decision asked)

  pub turned_lengths : IsBlock b → IsBlock left
  turned_lengths k =
      ⊎_elim
      (λ some. subst IsBlock (sym (turned_stays some.0 (first_fits some.1)).0) k)
      (λ other. let (h, e) = (turn_next b last out slice other.0).held in accepted_lengths other.0 h e)
      (decision asked)

  -- every name but the one told
  pub told_others : OthersStay (turn b last out slice).name b left
  told_others =
      ⊎_elim
      (λ some. stays_others (turn b last out slice).name b left (turned_stays some.0 (first_fits some.1)).0)
      (λ other. subst (λ (m : ℕ). OthersStay m b left) (sym (turned_name other.0)) turned_others)
      (decision asked)

  -- n is 23 at most
  pub turned_n_most : (turn b last out slice).n ≤ 23
  turned_n_most =
      ⊎_elim
      (λ some. none (turn b last out slice).n (turned_none some.0 (first_fits some.1)).1)
      (λ other. by other.0)
      (decision asked)
    where
      none : (m : ℕ) → m ≡ 0 → m ≤ 23
      none m e = omega arith

      by : NoneFits asked → (turn b last out slice).n ≤ 23
      by f =
          let s = turn_next b last out slice f in
          let (h, held) = s.held in
          subst (λ (m : ℕ). m ≤ 23) (sym (turned_n f h held)) (held_small b name s.is_name ((turn_accepts b last out slice).0 f).is_block h held)
