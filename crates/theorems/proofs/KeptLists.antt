-- Calls in a row: a kept search goes through those for other names and those that pick it up, and from zeros every name is empty or keeps a search. Assumes nothing.
use mathlib.Core.Path.{◌≡◌, refl, sym, ap, ◌∙◌, subst}
use mathlib.Core.Bool.{Bool, true, false, cond}
use mathlib.Core.List.{List, [], ◌∷◌}
use mathlib.Core.Logic.{◌⊎◌, inl, inr, ⊎_elim}
use Prim.Native.Nat.{ℕ, ◌+◌, ◌-◌, ◌*◌, ◌^◌, ◌≤◌}
use native.Mathlib.Omega.{arith}
use borrow.Author.Tests.{eqb-true, eqb-false}
use lib.Dec.{eqb}
use lib.ListN.{replicate, length-replicate}
use lib.IntN.{ℤ, pos}
use lib.Ieee.{Float}
use Rattle.lists.proofs.Segments.{part_same}
use Rattle.definitions.specs.Table.{Table, plus_zero}
use Rattle.definitions.specs.Checks.{handed_on}
use Rattle.definitions.specs.Kept.{Held, free, holds, search_for, answer_of}
use Rattle.definitions.specs.Block.{Block, is_sound, part_slot, part_held, part_of, slot_in}
use Rattle.definitions.specs.Named.{checks_of_named, block_after_named, checks_of_pick_up, block_after_pick_up}
use Rattle.theorems.specs.Refusals.{NoneFits}
use Rattle.theorems.specs.Running.{Ended}
use Rattle.theorems.specs.Kept.{IsName, zero_block, OthersStay, Keeps, PickUpAccepted, Call, named, picked, after_call, after_calls, LeavesOrPicks, AllLeaveOrPick, budget_for, budgets_for, Sound, Reached}
use Rattle.theorems.proofs.FirstRefusal.{decision, first_fits}
use Rattle.theorems.proofs.KeptSearches.{Going, over_or_going, exhausts, ends, search_further, search_nodes}
use Rattle.theorems.proofs.KeptChecks.{pick_up_accepts}
use Rattle.theorems.proofs.NamedCalls.{named_stays, named_cases, named_others, named_keeps, named_block_lengths}
use Rattle.theorems.proofs.PickUpCalls.{picked_stays, picked_held, picked_empty, picked_lengths, picked_others}

pub holds≢free : {h : Held} → holds h ≡ free → ⊥
holds≢free e = let z : ◌≡◌ {A = ℕ} 0 1 = cc in omega arith

-- ---- what other names' calls leave
pub stays_others : (name : ℕ) (b b' : Block) → b' ≡ b → OthersStay name b b'
stays_others name b b' e other i d = ap (λ (x : Block). part_of x other) e

pub named_leaves : (b : Block) (name : ℕ) (t : Table) (target : List Float) (out : List ℤ) (R : Float) (budget : ℕ) → OthersStay name b (block_after_named b name t target out R budget)
named_leaves b name t target out R budget = ⊎_elim (stays_others name b (block_after_named b name t target out R budget)) (λ q. named_others b name t target out R budget q.0 q.1) (named_cases b name t target out R budget)

pub picked_leaves : (b : Block) (name : ℕ) (out : List ℤ) (budget : ℕ) → OthersStay name b (block_after_pick_up b name out budget)
picked_leaves b name out budget =
    ⊎_elim
    (λ some. stays_others name b (block_after_pick_up b name out budget) (picked_stays b name out budget some.0 (first_fits some.1)))
    (λ other. let a = (pick_up_accepts b name out budget).0 other.0 in picked_others b name out budget other.0 a.0 a.1.held)
    (decision (checks_of_pick_up b name out budget))

-- a search that is kept under a name is kept where that name's part is the same
keeps_same : {b b' : Block} {name : ℕ} {t : Table} {target : List Float} {R : Float} {sum : ℕ} → part_of b' name ≡ part_of b name → Keeps b name t target R sum → Keeps b' name t target R sum
keeps_same e k = record { is_name = k.is_name; held = ap part_slot e ∙ k.held; exhausts = k.exhausts; count = k.count; accepted = k.accepted; within = k.within }

-- ---- a pickup of a search that is kept
module _ (b : Block) (name : ℕ) (t : Table) (target : List Float) (R : Float) (sum : ℕ) (k : Keeps b name t target R sum) (out : List ℤ) (budget : ℕ) (f : NoneFits (checks_of_pick_up b name out budget)) where
  abbrev h : Held
  h = search_for t target (handed_on R) sum

  pub kept_on : Going (search_for t target (handed_on R) (sum + budget)) → Keeps (block_after_pick_up b name out budget) name t target R (sum + budget)
  kept_on g =
      let a = (pick_up_accepts b name out budget).0 f in
      record {
        is_name = k.is_name;
        held = picked_held b name out budget f h k.held (subst Going (sym (search_further t target (handed_on R) sum budget)) g) ∙ ap holds (search_further t target (handed_on R) sum budget);
        exhausts = exhausts (search_for t target (handed_on R) (sum + budget)) g;
        count = search_nodes t target (handed_on R) (sum + budget) g;
        accepted = k.accepted;
        within = record { is_finite = k.within.is_finite; not_negative = k.within.not_negative; budget_most = within a.0 a.1 };
      }
    where
      within : (g : Held) → PickUpAccepted b name out budget g → sum + budget ≤ 2 ^ 60
      within g a =
          let same : holds g ≡ holds h = sym a.held ∙ k.held in
          let e : g ≡ h = cc in
          subst (λ (m : ℕ). m + budget ≤ 2 ^ 60) k.count (subst (λ (x : Held). x.walk.nodes + budget ≤ 2 ^ 60) e a.sum_most)

  pub kept_or_free : Keeps (block_after_pick_up b name out budget) name t target R (sum + budget) ⊎ (slot_in (block_after_pick_up b name out budget) name ≡ free)
  kept_or_free =
      ⊎_elim
      (λ o. inr (picked_empty b name out budget f h k.held (subst (λ (x : Held). Ended (answer_of x)) (sym (search_further t target (handed_on R) sum budget)) (ends (search_for t target (handed_on R) (sum + budget)) o))).1)
      (λ g. inl (kept_on g))
      (over_or_going (search_for t target (handed_on R) (sum + budget)))

-- ---- calls in a row
module _ (name : ℕ) (is : IsName name) (t : Table) (target : List Float) (R : Float) where
  abbrev pub KeptOrFree : Block → ℕ → Type 0
  KeptOrFree b sum = Keeps b name t target R sum ⊎ (slot_in b name ≡ free)

  pub others_kept : (b b' : Block) (other sum : ℕ) → (other ≡ name → ⊥) → OthersStay other b b' → KeptOrFree b sum → KeptOrFree b' sum
  others_kept b b' other sum d o (inl k) = inl (keeps_same (o name is (λ e. d (sym e))) k)
  others_kept b b' other sum d o (inr e) = inr (ap part_slot (o name is (λ e. d (sym e))) ∙ e)

  -- after one
  pub call_kept : (b : Block) (c : Call) (sum : ℕ) → LeavesOrPicks name b c → KeptOrFree b sum → KeptOrFree (after_call b c) (sum + budget_for name c)
  call_kept b (named other u v out S budget) sum d x = subst (KeptOrFree (after_call b (named other u v out S budget))) (more sum) (go (eqb other name) refl)
    where
      more : (sum : ℕ) → sum ≡ sum + 0
      more sum = omega arith

      go : (c : Bool) → eqb other name ≡ c → KeptOrFree (block_after_named b other u v out S budget) sum
      go true e = subst (λ (y : Block). KeptOrFree y sum) (sym (named_stays b other u v out S budget (d (eqb-true other name e)))) x
      go false e = others_kept b (block_after_named b other u v out S budget) other sum (eqb-false other name e) (named_leaves b other u v out S budget) x
  call_kept b (picked other out budget) sum d x = go (eqb other name) refl
    where
      more : (sum : ℕ) → sum ≡ sum + 0
      more sum = omega arith

      own : other ≡ name → NoneFits (checks_of_pick_up b other out budget) → KeptOrFree b sum → KeptOrFree (block_after_pick_up b other out budget) (sum + budget)
      own e f (inl k) = subst (λ (m : ℕ). KeptOrFree (block_after_pick_up b m out budget) (sum + budget)) (sym e) (kept_or_free b name t target R sum k out budget (subst (λ (m : ℕ). NoneFits (checks_of_pick_up b m out budget)) e f))
      own e f (inr q) = let a = (pick_up_accepts b other out budget).0 f in absurd (holds≢free (sym a.1.held ∙ ap (slot_in b) e ∙ q))

      go : (c : Bool) → eqb other name ≡ c → KeptOrFree (block_after_pick_up b other out budget) (sum + cond c budget 0)
      go true e = let q = eqb-true other name e in own q (d q) x
      go false e = subst (KeptOrFree (block_after_pick_up b other out budget)) (more sum) (others_kept b (block_after_pick_up b other out budget) other sum (eqb-false other name e) (picked_leaves b other out budget) x)

  -- after all of them
  pub calls_kept : (cs : List Call) (b : Block) (sum : ℕ) → AllLeaveOrPick name b cs → KeptOrFree b sum → KeptOrFree (after_calls b cs) (sum + budgets_for name cs)
  calls_kept [] b sum d x = subst (KeptOrFree b) (more sum) x
    where
      more : (sum : ℕ) → sum ≡ sum + 0
      more sum = omega arith
  calls_kept (c ∷ cs) b sum d x = subst (KeptOrFree (after_calls (after_call b c) cs)) (moved (budget_for name c) (budgets_for name cs)) (calls_kept cs (after_call b c) (sum + budget_for name c) d.1 (call_kept b c sum d.0 x))
    where
      moved : (x y : ℕ) → sum + x + y ≡ sum + (x + y)
      moved x y = omega arith

-- ---- from zeros
zeros_unsound : is_sound (replicate 96 0) ≡ false
unfolding is_sound
zeros_unsound = refl

zero_free : (name : ℕ) → IsName name → slot_in zero_block name ≡ free
zero_free name i = ap (λ (c : Bool). cond c (holds (part_held (part_of zero_block name))) free) (ap is_sound (part_same {A = ℕ} 768 ((name - 1) * 96) 96 0 (omega (arith, i.least, i.most))) ∙ zeros_unsound)

pub zero_reached : Reached zero_block
zero_reached = record {
  block = record { reals_length = length-replicate 5168 plus_zero; integers_length = length-replicate 736 (pos 0); counts_length = length-replicate {A = ℕ} 768 0 };
  sound = λ name i. inl (zero_free name i);
}

-- every name but this one is as it was
others_sound : (name : ℕ) (b b' : Block) → OthersStay name b b' → Sound b → (other : ℕ) → IsName other → (other ≡ name → ⊥) → (slot_in b' other ≡ free) ⊎ ((t : Table) × (target : List Float) × (R : Float) × (sum : ℕ) × Keeps b' other t target R sum)
others_sound name b b' o s other i d =
    ⊎_elim
    (λ e. inl (ap part_slot (o other i d) ∙ e))
    (λ k. inr (k.0, k.1, k.2, k.3, keeps_same (o other i d) k.4))
    (s other i)

-- a name, and the others
pub by_name : (name : ℕ) (b b' : Block) → OthersStay name b b' → Sound b → (slot_in b' name ≡ free) ⊎ ((t : Table) × (target : List Float) × (R : Float) × (sum : ℕ) × Keeps b' name t target R sum) → Sound b'
by_name name b b' o s own other i = go (eqb other name) refl
  where
    go : (c : Bool) → eqb other name ≡ c → (slot_in b' other ≡ free) ⊎ ((t : Table) × (target : List Float) × (R : Float) × (sum : ℕ) × Keeps b' other t target R sum)
    go true e = subst (λ (m : ℕ). (slot_in b' m ≡ free) ⊎ ((t : Table) × (target : List Float) × (R : Float) × (sum : ℕ) × Keeps b' m t target R sum)) (sym (eqb-true other name e)) own
    go false e = others_sound name b b' o s other i (eqb-false other name e)

named_reached : (b : Block) (name : ℕ) (t : Table) (target : List Float) (out : List ℤ) (R : Float) (budget : ℕ) → Reached b → Reached (block_after_named b name t target out R budget)
named_reached b name t target out R budget r = ⊎_elim (λ e. subst Reached (sym e) r) (λ q. by q.0 q.1) (named_cases b name t target out R budget)
  where
    by : NoneFits (checks_of_named b name t target out R budget) → Going (search_for t target (handed_on R) budget) → Reached (block_after_named b name t target out R budget)
    by f g = record {
      block = named_block_lengths b name t target out R budget f g;
      sound = by_name name b (block_after_named b name t target out R budget) (named_others b name t target out R budget f g) r.sound (inr (t, target, R, budget, named_keeps b name t target out R budget f g));
    }

pub picked_reached : (b : Block) (name : ℕ) (out : List ℤ) (budget : ℕ) → Reached b → Reached (block_after_pick_up b name out budget)
picked_reached b name out budget r = ⊎_elim (λ some. subst Reached (sym (picked_stays b name out budget some.0 (first_fits some.1))) r) (λ other. by other.0) (decision (checks_of_pick_up b name out budget))
  where
    b' : Block
    b' = block_after_pick_up b name out budget

    by : NoneFits (checks_of_pick_up b name out budget) → Reached b'
    by f =
        let a = (pick_up_accepts b name out budget).0 f in
        record {
          block = picked_lengths b name out budget f a.0 a.1.held;
          sound = by_name name b b' (picked_leaves b name out budget) r.sound (own a.0 a.1.held (r.sound name a.1.is_name));
        }
      where
        own : (h : Held) → slot_in b name ≡ holds h → (slot_in b name ≡ free) ⊎ ((t : Table) × (target : List Float) × (R : Float) × (sum : ℕ) × Keeps b name t target R sum) → (slot_in b' name ≡ free) ⊎ ((t : Table) × (target : List Float) × (R : Float) × (sum : ℕ) × Keeps b' name t target R sum)
        own h e (inl q) = absurd (holds≢free (sym e ∙ q))
        own h e (inr (t, target, R, sum, k)) = ⊎_elim (λ x. inr (t, target, R, sum + budget, x)) (λ x. inl x) (kept_or_free b name t target R sum k out budget f)

pub call_reached : (b : Block) (c : Call) → Reached b → Reached (after_call b c)
call_reached b (named name t target out R budget) r = named_reached b name t target out R budget r
call_reached b (picked name out budget) r = picked_reached b name out budget r

pub reached : (cs : List Call) (b : Block) → Reached b → Reached (after_calls b cs)
reached [] b r = r
reached (c ∷ cs) b r = reached cs (after_call b c) (call_reached b c r)

-- a call after calls from zeros
pub reached_by : (b : Block) (c : Call) (cs : List Call) → b ≡ after_calls zero_block cs → Reached b × Reached (after_call b c)
reached_by b c cs e = let r = subst Reached (sym e) (reached cs zero_block zero_reached) in (r, call_reached b c r)
