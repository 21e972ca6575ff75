-- The checks of `nearest_named` and `pick_up`: their numbers and indices, that they carry no minus zero, and where none of them fits. Assumes nothing.
use mathlib.Core.Path.{◌≡◌, refl, sym, ap, ◌∙◌}
use mathlib.Core.Bool.{Bool, true, false, not, ◌&&◌}
use mathlib.Core.List.{List, [], ◌∷◌, ◌++◌}
use mathlib.Core.Logic.{◌↔◌}
use Prim.Native.Nat.{ℕ, ◌+◌, ◌-◌, ◌^◌, ◌≤◌, ◌<◌, min}
use borrow.Author.Tests.{ltb-true, ltb-false, le-leb, le-ltb}
use lib.Dec.{leb, ltb}
use lib.ListN.{length}
use lib.IntN.{ℤ}
use lib.Ieee.{Float}
use Rattle.lists.specs.All.{All, none, more}
use Rattle.lists.proofs.Each.{all_append}
use Rattle.definitions.specs.Table.{Table, dimension, largest_dimension, largest_budget}
use Rattle.definitions.specs.Refusals.{Refusal, whole, name_range, name_empty, sum_range}
use Rattle.definitions.specs.Checks.{Verdict, pass, refuse, refuse_if, target_fault, length_check}
use Rattle.definitions.specs.Calls.{search_checks}
use Rattle.definitions.specs.Kept.{Held, Slot, free, holds, name_check, held_check, output_check, sum_check}
use Rattle.definitions.specs.Block.{Block, slot_in, block_checks}
use Rattle.definitions.specs.Named.{checks_of_named, checks_of_pick_up}
use Rattle.definitions.proofs.Verdicts.{refuse≢pass}
use Rattle.definitions.proofs.Passed.{length_passed, budget_passes}
use Rattle.definitions.proofs.Named.{name_passed as within}
use Rattle.theorems.specs.Refusals.{NoneFits, HasNumber, Numbered, no_checks, check, FirstIndices}
use Rattle.theorems.specs.Kept.{IsName, IsBlock, NamedAccepted, PickUpAccepted}
use Rattle.theorems.proofs.FirstFaults.{target_first}
use Rattle.theorems.proofs.FirstRefusal.{first_indices}
use Rattle.theorems.proofs.CheckNumbers.{by_test, length_number, radius_number, budget_number, search_then}
use Rattle.theorems.proofs.MinusZero.{Clear, one_whole, no_values, length_clear, radius_clear, budget_clear, search_clear}
use Rattle.theorems.proofs.MinusZero as clear
use Rattle.theorems.proofs.Accepted.{Passing, passing, none_fits, and_true, not_refused, length_passes, search_accepted, search_passing, radius_accepted, radius_pass}

-- ---- each by itself
pub not_refused_so : (b : Bool) (e : Refusal) → refuse_if b e ≡ pass → b ≡ false
not_refused_so true e q = absurd (refuse≢pass q)
not_refused_so false e q = refl

name_number : (name : ℕ) → HasNumber 25 (name_check name)
name_number name = by_test (not (leb 1 name && leb name 8)) name_range

name_clear : (name : ℕ) → Clear (name_check name)
name_clear name = clear.by_test (not (leb 1 name && leb name 8)) name_range (λ q. no_values)

pub name_passed : (name : ℕ) → name_check name ≡ pass → IsName name
name_passed name e = let q = within name e in record { least = q.0; most = q.1 }

pub name_passes : (name : ℕ) → IsName name → name_check name ≡ pass
name_passes name i = not_refused name_range (ap not (and_true (le-leb 1 name i.least) (le-leb name 8 i.most)))

-- ---- the block
pub block_passing : (b : Block) → IsBlock b → Passing (block_checks b)
block_passing b i =
    more (length_passes 5168 (length b.reals) i.reals_length)
    (more (length_passes 736 (length b.integers) i.integers_length)
    (more (length_passes 768 (length b.counts) i.counts_length) none))

pub block_then : (b : Block) {ns : List ℕ} {vs : List Verdict} → Numbered ns vs → Numbered (6 ∷ 6 ∷ 6 ∷ ns) (block_checks b ++ vs)
block_then b rest = check (length_number 5168 (length b.reals)) (check (length_number 736 (length b.integers)) (check (length_number 768 (length b.counts)) rest))

block_clear : (b : Block) {vs : List Verdict} → All Clear vs → All Clear (block_checks b ++ vs)
block_clear b rest = more (length_clear 5168 (length b.reals)) (more (length_clear 736 (length b.integers)) (more (length_clear 768 (length b.counts)) rest))

pub is_block : (b : Block) → length_check 5168 (length b.reals) ≡ pass → length_check 736 (length b.integers) ≡ pass → length_check 768 (length b.counts) ≡ pass → IsBlock b
is_block b p q r = record {
  reals_length = sym (length_passed 5168 (length b.reals) p);
  integers_length = sym (length_passed 736 (length b.integers) q);
  counts_length = sym (length_passed 768 (length b.counts) r);
}

-- ---- `nearest_named`
module _ (b : Block) (name : ℕ) (t : Table) (target : List Float) (out : List ℤ) (R : Float) (budget : ℕ) where
  pub named_numbered : Numbered (25 ∷ 6 ∷ 6 ∷ 6 ∷ 2 ∷ 3 ∷ 4 ∷ 5 ∷ 6 ∷ 6 ∷ 7 ∷ 8 ∷ 9 ∷ []) (checks_of_named b name t target out R budget)
  named_numbered = check (name_number name) (block_then b (search_then largest_dimension t target out (check (radius_number R) (check (budget_number budget) no_checks))))

  pub named_indices : FirstIndices (checks_of_named b name t target out R budget) t target_fault target
  unfolding search_checks
  named_indices = first_indices named_numbered refl refl refl refl (target_first target)

  pub named_clear : All Clear (checks_of_named b name t target out R budget)
  named_clear = more (name_clear name) (block_clear b (search_clear largest_dimension t target out (more (radius_clear R) (more (budget_clear budget) none))))

  pub named_accepts : NoneFits (checks_of_named b name t target out R budget) ↔ NamedAccepted b name t target out R budget
  unfolding search_checks
  named_accepts = (
    λ f. go (passing (checks_of_named b name t target out R budget) f),
    λ a. none_fits (more (name_passes name a.is_name) (all_append (block_passing b a.is_block) (all_append (search_passing largest_dimension t target out a.search) (more (radius_pass R budget a.within) (more (budget_passes budget a.within.budget_most) none))))),
  )
    where
      go : Passing (checks_of_named b name t target out R budget) → NamedAccepted b name t target out R budget
      go (more p25 (more q (more r (more s (more p2 (more p3 (more p4 (more p5 (more c (more d (more p7 (more p8 (more p9 none))))))))))))) =
          record { is_name = name_passed name p25; is_block = is_block b q r s; search = search_accepted largest_dimension t target out p2 p3 p4 p5 c d p7; within = radius_accepted R budget p8 p9 }

-- ---- `pick_up`
held_number : (x : Slot) → HasNumber 26 (held_check x)
held_number free e q = let r : e ≡ name_empty = cc in ap (λ (d : Refusal). d.number) r
held_number (holds h) e q = absurd (refuse≢pass (sym q))

output_number : (x : Slot) (found : ℕ) → HasNumber 6 (output_check x found)
output_number free found e q = absurd (refuse≢pass (sym q))
output_number (holds h) found e q = length_number (dimension h.table) found e q

sum_number : (x : Slot) (budget : ℕ) → HasNumber 27 (sum_check x budget)
sum_number free budget e q = absurd (refuse≢pass (sym q))
sum_number (holds h) budget e q = by_test (ltb largest_budget (h.walk.nodes + budget)) (sum_range (min (h.walk.nodes + budget) (2 ^ 64 - 1))) e q

-- what 27 says
pub sum_refused : (x : Slot) (budget : ℕ) (e : Refusal) → sum_check x budget ≡ refuse e → (h : Held) × (x ≡ holds h) × (2 ^ 60 < h.walk.nodes + budget) × (e.values ≡ whole (min (h.walk.nodes + budget) (2 ^ 64 - 1)) ∷ [])
sum_refused free budget e q = absurd (refuse≢pass (sym q))
sum_refused (holds h) budget e q = go (ltb largest_budget (h.walk.nodes + budget)) refl q
  where
    go : (c : Bool) → ltb largest_budget (h.walk.nodes + budget) ≡ c → refuse_if c (sum_range (min (h.walk.nodes + budget) (2 ^ 64 - 1))) ≡ refuse e → (g : Held) × (holds h ≡ holds g) × (2 ^ 60 < g.walk.nodes + budget) × (e.values ≡ whole (min (g.walk.nodes + budget) (2 ^ 64 - 1)) ∷ [])
    go true c q = let r : sum_range (min (h.walk.nodes + budget) (2 ^ 64 - 1)) ≡ e = cc in (h, refl, ltb-true largest_budget (h.walk.nodes + budget) c, ap (λ (d : Refusal). d.values) (sym r))
    go false c q = absurd (refuse≢pass (sym q))

module _ (b : Block) (name : ℕ) (out : List ℤ) (budget : ℕ) where
  pub pick_up_numbered : Numbered (25 ∷ 6 ∷ 6 ∷ 6 ∷ 26 ∷ 6 ∷ 27 ∷ []) (checks_of_pick_up b name out budget)
  pick_up_numbered = check (name_number name) (block_then b (check (held_number (slot_in b name)) (check (output_number (slot_in b name) (length out)) (check (sum_number (slot_in b name) budget) no_checks))))

  pub pick_up_accepts : NoneFits (checks_of_pick_up b name out budget) ↔ ((h : Held) × PickUpAccepted b name out budget h)
  pick_up_accepts = (λ f. go (passing (checks_of_pick_up b name out budget) f), λ a. none_fits (back a.0 a.1))
    where
      sums : (h : Held) → sum_check (holds h) budget ≡ pass → h.walk.nodes + budget ≤ 2 ^ 60
      sums h q = ltb-false largest_budget (h.walk.nodes + budget) (not_refused_so (ltb largest_budget (h.walk.nodes + budget)) (sum_range (min (h.walk.nodes + budget) (2 ^ 64 - 1))) q)

      by : (x : Slot) → slot_in b name ≡ x → IsName name → IsBlock b → held_check x ≡ pass → output_check x (length out) ≡ pass → sum_check x budget ≡ pass → (h : Held) × PickUpAccepted b name out budget h
      by free e i k p q r = absurd (refuse≢pass p)
      by (holds h) e i k p q r = (h, record { is_name = i; is_block = k; held = e; output_length = sym (length_passed (dimension h.table) (length out) q); sum_most = sums h r })

      go : Passing (checks_of_pick_up b name out budget) → (h : Held) × PickUpAccepted b name out budget h
      go (more p25 (more q (more r (more s (more p26 (more p6 (more p27 none))))))) = by (slot_in b name) refl (name_passed name p25) (is_block b q r s) p26 p6 p27

      back : (h : Held) → PickUpAccepted b name out budget h → Passing (checks_of_pick_up b name out budget)
      back h a =
          more (name_passes name a.is_name) (all_append (block_passing b a.is_block)
          (more (ap held_check a.held)
          (more (ap (λ (x : Slot). output_check x (length out)) a.held ∙ length_passes (dimension h.table) (length out) a.output_length)
          (more (ap (λ (x : Slot). sum_check x budget) a.held ∙ not_refused (sum_range (min (h.walk.nodes + budget) (2 ^ 64 - 1))) (le-ltb largest_budget (h.walk.nodes + budget) a.sum_most)) none))))
