-- The checks of a name, of the block and of a part, one after another. Assumes nothing.
use mathlib.Core.Path.{◌≡◌, refl, sym, ap, ◌∙◌}
use mathlib.Core.Bool.{Bool, not, ◌&&◌}
use mathlib.Core.List.{List, [], ◌∷◌}
use Prim.Native.Nat.{ℕ, ◌+◌, ◌-◌, ◌^◌, ◌≤◌, ◌<◌, min}
use lib.Dec.{leb}
use lib.ListN.{length}
use lib.IntN.{ℤ}
use borrow.Author.Tests.{le-leb, lt-leb, lt-ltb, le-ltb, eq-eqb, ne_eqb}
use Rattle.definitions.specs.Table.{dimension, largest_budget}
use Rattle.definitions.specs.Refusals.{name_range, name_empty, sum_range, length_mismatch}
use Rattle.definitions.specs.Checks.{Verdict, pass, refuse, refuse_if, first_refusal, length_check}
use Rattle.definitions.specs.Kept.{Held, Slot, free, holds, name_check, sum_check}
use Rattle.definitions.proofs.Verdicts.{or_else, first_alone, first_cons}
use Rattle.kept.specs.Part.{part_checks}

-- a check that passes, and one that refuses
passes : (v : Verdict) (vs : List Verdict) → v ≡ pass → first_refusal (v ∷ vs) ≡ first_refusal vs
passes v vs e = first_cons v vs ∙ ap (λ (w : Verdict). or_else w (first_refusal vs)) e

module _ (vs : List Verdict) where
  -- ---- the name
  pub name_low : (name : ℕ) → name < 1 → refuse name_range ≡ first_refusal (name_check name ∷ vs)
  name_low name l = sym (first_cons (name_check name) vs ∙ ap (λ (b : Bool). or_else (refuse_if (not (b && leb name 8)) name_range) (first_refusal vs)) (lt-leb 1 name l))

  pub name_high : (name : ℕ) → 1 ≤ name → 8 < name → refuse name_range ≡ first_refusal (name_check name ∷ vs)
  name_high name l h =
      sym (first_cons (name_check name) vs
      ∙ ap (λ (b : Bool). or_else (refuse_if (not (b && leb name 8)) name_range) (first_refusal vs)) (le-leb 1 name l)
      ∙ ap (λ (b : Bool). or_else (refuse_if (not b) name_range) (first_refusal vs)) (lt-leb name 8 h))

  pub name_passes : (name : ℕ) → 1 ≤ name → name ≤ 8 → first_refusal (name_check name ∷ vs) ≡ first_refusal vs
  name_passes name l h = passes (name_check name) vs (ap (λ (b : Bool). refuse_if (not (b && leb name 8)) name_range) (le-leb 1 name l) ∙ ap (λ (b : Bool). refuse_if (not b) name_range) (le-leb name 8 h))

  -- ---- a length
  pub length_refuses : (expected found : ℕ) → (found ≡ expected → ⊥) → refuse (length_mismatch expected found) ≡ first_refusal (length_check expected found ∷ vs)
  length_refuses expected found d = sym (first_cons (length_check expected found) vs ∙ ap (λ (b : Bool). or_else (refuse_if (not b) (length_mismatch expected found)) (first_refusal vs)) (ne_eqb expected found (λ e. d (sym e))))

  pub length_passes : (expected found : ℕ) → found ≡ expected → first_refusal (length_check expected found ∷ vs) ≡ first_refusal vs
  length_passes expected found e = passes (length_check expected found) vs (ap (λ (b : Bool). refuse_if (not b) (length_mismatch expected found)) (eq-eqb expected found (sym e)))

pub no_check_left : first_refusal [] ≡ pass
unfolding first_refusal
no_check_left = refl

-- ---- a part
module _ (out : List ℤ) (budget : ℕ) where
  pub part_empty : (x : Slot) → x ≡ free → first_refusal (part_checks x out budget) ≡ refuse name_empty
  part_empty x e = ap (λ (y : Slot). first_refusal (part_checks y out budget)) e ∙ first_cons (refuse name_empty) _

  module _ (x : Slot) (h : Held) (held : x ≡ holds h) where
    holding : first_refusal (part_checks x out budget) ≡ first_refusal (length_check (dimension h.table) (length out) ∷ sum_check (holds h) budget ∷ [])
    holding = ap (λ (y : Slot). first_refusal (part_checks y out budget)) held ∙ passes pass _ refl

    pub part_length : (length out ≡ dimension h.table → ⊥) → first_refusal (part_checks x out budget) ≡ refuse (length_mismatch (dimension h.table) (length out))
    part_length d = holding ∙ sym (length_refuses (sum_check (holds h) budget ∷ []) (dimension h.table) (length out) d)

    module _ (e : length out ≡ dimension h.table) where
      sum_left : first_refusal (part_checks x out budget) ≡ sum_check (holds h) budget
      sum_left = holding ∙ length_passes (sum_check (holds h) budget ∷ []) (dimension h.table) (length out) e ∙ first_alone (sum_check (holds h) budget)

      pub part_sum : largest_budget < h.walk.nodes + budget → first_refusal (part_checks x out budget) ≡ refuse (sum_range (min (h.walk.nodes + budget) (2 ^ 64 - 1)))
      part_sum l = sum_left ∙ ap (λ (b : Bool). refuse_if b (sum_range (min (h.walk.nodes + budget) (2 ^ 64 - 1)))) (lt-ltb largest_budget (h.walk.nodes + budget) l)

      pub part_passes : h.walk.nodes + budget ≤ largest_budget → first_refusal (part_checks x out budget) ≡ pass
      part_passes l = sum_left ∙ ap (λ (b : Bool). refuse_if b (sum_range (min (h.walk.nodes + budget) (2 ^ 64 - 1)))) (le-ltb largest_budget (h.walk.nodes + budget) l)
