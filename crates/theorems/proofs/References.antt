-- The promises of `change_reference`: a second change to the same coordinate brings the first point back, one to another gives the direct change with two coordinates exchanged. Assumes nothing.
use mathlib.Core.Path.{◌≡◌, refl, sym, ap, ◌∙◌, subst}
use mathlib.Core.Bool.{Bool, true, false, not, cond}
use mathlib.Core.List.{List, [], ◌∷◌}
use mathlib.Core.Logic.{◌⊎◌, inl, inr, ⊎_elim, ◌↔◌}
use Prim.Native.Nat.{ℕ, ◌≤◌, ◌<◌}
use native.Mathlib.Omega.{arith}
use borrow.Author.Tests.{eqb-true, eqb-false, eq-eqb, ne_eqb}
use lib.Dec.{T, ltb, eqb}
use lib.ListN.{length, set, length-set}
use lib.Seq.{ext_get_or, get_or-set_same, get_or-set_other}
use lib.IntN.{ℤ, pos, neg_ℤ, ◌+ℤ◌, ◌-ℤ◌, +ℤ_assoc, +ℤ_comm, +ℤ_idl, +ℤ_invl, neg_ℤ-+ℤ, neg_ℤ-neg_ℤ, -ℤ-+ℤ_cancel}
use Rattle.rounding.specs.Integers.{is_i64}
use Rattle.rounding.proofs.Interface.{split}
use Rattle.definitions.specs.Admitted.{all_i64}
use Rattle.definitions.specs.Refusals.{Refusal, reference_index, changed_range}
use Rattle.definitions.specs.Checks.{pass, refuse}
use Rattle.definitions.specs.Reference.{cycles, changed, changed_point, changed_fault, changed_range_check, checks_of_change, change_reference, Accepted}
use Rattle.definitions.proofs.Verdicts.{first_fault}
use Rattle.definitions.proofs.Admissions.{all_i64_at}
use Rattle.definitions.proofs.References.{changed_length, changed_at, change_is, index_outside, index_inside, change_written, change_refused, change_accepted, accepted_change}
use Rattle.theorems.specs.Refusals.{FirstFault, Numbered, no_checks, check}
use Rattle.theorems.specs.Answers.{VerdictDemand1}
use Rattle.theorems.specs.Reference.{exchanged, left_by, AcceptedPromises, ReferencePromises}
use Rattle.theorems.proofs.Booleans.{to_true}
use Rattle.theorems.proofs.FirstFaults.{carrying, AtFirst, counted_first}
use Rattle.theorems.proofs.FirstRefusal.{decision, first_fits, first_least, carries_first}
use Rattle.theorems.proofs.CheckNumbers.{by_test, by_index}
use Rattle.theorems.proofs.RefusedCalls.{verdict_demand_1}

-- ---- sums of integers
reversed : (x y : ℤ) → neg_ℤ (x -ℤ y) ≡ y -ℤ x
reversed x y = neg_ℤ-+ℤ x (neg_ℤ y) ∙ ap (λ (z : ℤ). neg_ℤ x +ℤ z) (neg_ℤ-neg_ℤ y) ∙ +ℤ_comm (neg_ℤ x) y

restored : (x y : ℤ) → x -ℤ y -ℤ neg_ℤ y ≡ x
restored x y = ap (λ (z : ℤ). x -ℤ y +ℤ z) (neg_ℤ-neg_ℤ y) ∙ -ℤ-+ℤ_cancel x y

from_negated : (x y : ℤ) → neg_ℤ x +ℤ (x -ℤ y) ≡ neg_ℤ y
from_negated x y = sym (+ℤ_assoc (neg_ℤ x) x (neg_ℤ y)) ∙ ap (λ (z : ℤ). z +ℤ neg_ℤ y) (+ℤ_invl x) ∙ +ℤ_idl (neg_ℤ y)

own_onward : (x y : ℤ) → neg_ℤ x -ℤ (y -ℤ x) ≡ neg_ℤ y
own_onward x y = ap (λ (z : ℤ). neg_ℤ x +ℤ z) (reversed y x) ∙ from_negated x y

other_onward : (x y z : ℤ) → z -ℤ x -ℤ (y -ℤ x) ≡ z -ℤ y
other_onward x y z =
    ap (λ (w : ℤ). z -ℤ x +ℤ w) (reversed y x)
    ∙ +ℤ_assoc z (neg_ℤ x) (x -ℤ y)
    ∙ ap (λ (w : ℤ). z +ℤ w) (from_negated x y)

-- ---- a coordinate after a change
same_or_not : (k r : ℕ) → (k ≡ r) ⊎ (k ≡ r → ⊥)
same_or_not k r = go (eqb k r) refl
  where
    go : (t : Bool) → eqb k r ≡ t → (k ≡ r) ⊎ (k ≡ r → ⊥)
    go true e = inl (eqb-true k r e)
    go false e = inr (eqb-false k r e)

module _ (a : List ℤ) (r : ℕ) where
  changed_own : changed a r r ≡ neg_ℤ (cycles a r)
  changed_own = ap (λ (t : Bool). cond t (neg_ℤ (cycles a r)) (cycles a r -ℤ cycles a r)) (eq-eqb r r refl)

  changed_other : (k : ℕ) → (k ≡ r → ⊥) → changed a r k ≡ cycles a k -ℤ cycles a r
  changed_other k other = ap (λ (t : Bool). cond t (neg_ℤ (cycles a r)) (cycles a k -ℤ cycles a r)) (ne_eqb k r other)

-- ---- a second change, of what the first has left
module _ (a : List ℤ) (r : ℕ) (below : r < length a) where
  abbrev a' : List ℤ
  a' = changed_point a r

  own_left : cycles a' r ≡ neg_ℤ (cycles a r)
  own_left = changed_at a r r below ∙ changed_own a r

  other_left : (k : ℕ) → k < length a → (k ≡ r → ⊥) → cycles a' k ≡ cycles a k -ℤ cycles a r
  other_left k h other = changed_at a r k h ∙ changed_other a r k other

  -- to the same coordinate: the first point
  back_at : (k : ℕ) → k < length a → changed a' r k ≡ cycles a k
  back_at k h = go (same_or_not k r)
    where
      go : (k ≡ r) ⊎ (k ≡ r → ⊥) → changed a' r k ≡ cycles a k
      go (inl same) =
          ap (changed a' r) same ∙ changed_own a' r ∙ ap neg_ℤ own_left ∙ neg_ℤ-neg_ℤ (cycles a r) ∙ ap (cycles a) (sym same)
      go (inr other) =
          changed_other a' r k other
          ∙ ap (λ (z : ℤ). z -ℤ cycles a' r) (other_left k h other)
          ∙ ap (λ (z : ℤ). cycles a k -ℤ cycles a r -ℤ z) own_left
          ∙ restored (cycles a k) (cycles a r)

  back_point : changed_point a' r ≡ a
  back_point =
      let l = changed_length a r in
      ext_get_or (pos 0) (changed_point a' r) a (changed_length a' r ∙ l)
      (λ k h. let i : k < length a = omega (arith, h, changed_length a' r, l) in changed_at a' r k (omega (arith, i, l)) ∙ back_at k i)

  back_accepted : T (all_i64 a) → Accepted a' r
  back_accepted integers =
      let l = changed_length a r in
      record {
        index = omega (arith, below, l);
        inside = λ k h. let i : k < length a = omega (arith, h, l) in ap is_i64 (back_at k i) ∙ to_true (is_i64 (cycles a k)) (all_i64_at a k integers i);
      }

  -- to another coordinate s: what a change of a to s makes of s at r, of r at s, and of each other at its place
  module _ (s : ℕ) (apart : r ≡ s → ⊥) (within : s < length a) where
    apart' : s ≡ r → ⊥
    apart' q = apart (sym q)

    onward_at_s : changed a' s s ≡ changed a s r
    onward_at_s = changed_own a' s ∙ ap neg_ℤ (other_left s within apart') ∙ reversed (cycles a s) (cycles a r) ∙ sym (changed_other a s r apart)

    onward_at_r : changed a' s r ≡ changed a s s
    onward_at_r =
        changed_other a' s r apart
        ∙ ap (λ (z : ℤ). z -ℤ cycles a' s) own_left
        ∙ ap (λ (z : ℤ). neg_ℤ (cycles a r) -ℤ z) (other_left s within apart')
        ∙ own_onward (cycles a r) (cycles a s)
        ∙ sym (changed_own a s)

    onward_at : (k : ℕ) → k < length a → (k ≡ r → ⊥) → (k ≡ s → ⊥) → changed a' s k ≡ changed a s k
    onward_at k h not_r not_s =
        changed_other a' s k not_s
        ∙ ap (λ (z : ℤ). z -ℤ cycles a' s) (other_left k h not_r)
        ∙ ap (λ (z : ℤ). cycles a k -ℤ cycles a r -ℤ z) (other_left s within apart')
        ∙ other_onward (cycles a r) (cycles a s) (cycles a k)
        ∙ sym (changed_other a s k not_s)

    onward_accepted : Accepted a s → Accepted a' s
    onward_accepted t =
        let l = changed_length a r in
        record { index = omega (arith, within, l); inside = λ k h. at k (omega (arith, h, l)) (same_or_not k s) (same_or_not k r) }
      where
        at : (k : ℕ) → k < length a → (k ≡ s) ⊎ (k ≡ s → ⊥) → (k ≡ r) ⊎ (k ≡ r → ⊥) → is_i64 (changed a' s k) ≡ true
        at k h (inl q) d = ap is_i64 (ap (changed a' s) q ∙ onward_at_s) ∙ t.inside r below
        at k h (inr p) (inl q) = ap is_i64 (ap (changed a' s) q ∙ onward_at_r) ∙ t.inside s within
        at k h (inr p) (inr q) = ap is_i64 (onward_at k h q p) ∙ t.inside k h

    direct_accepted : Accepted a' s → Accepted a s
    direct_accepted t = record { index = within; inside = λ k h. at k h (same_or_not k s) (same_or_not k r) }
      where
        inside : (k : ℕ) → k < length a → is_i64 (changed a' s k) ≡ true
        inside k h = t.inside k (omega (arith, h, changed_length a r))

        at : (k : ℕ) → k < length a → (k ≡ s) ⊎ (k ≡ s → ⊥) → (k ≡ r) ⊎ (k ≡ r → ⊥) → is_i64 (changed a s k) ≡ true
        at k h (inl q) d = ap is_i64 (ap (changed a s) q ∙ sym onward_at_r) ∙ inside r below
        at k h (inr p) (inl q) = ap is_i64 (ap (changed a s) q ∙ sym onward_at_s) ∙ inside s within
        at k h (inr p) (inr q) = ap is_i64 (sym (onward_at k h q p)) ∙ inside k h

    -- what a change of a to s leaves, and this with its coordinate s at r too
    abbrev direct : List ℤ
    direct = changed_point a s

    abbrev half : List ℤ
    half = set direct r (cycles direct s)

    half_length : length half ≡ length a
    half_length = length-set direct r (cycles direct s) ∙ changed_length a s

    onward_point : changed_point a' s ≡ exchanged r s direct
    onward_point =
        let l = changed_length a r in
        ext_get_or (pos 0) (changed_point a' s) (exchanged r s direct) (changed_length a' s ∙ l ∙ sym (length-set half s (cycles direct r) ∙ half_length))
        (λ k h. let i : k < length a = omega (arith, h, changed_length a' s, l) in changed_at a' s k (omega (arith, i, l)) ∙ at k i (same_or_not k s) (same_or_not k r))
      where
        at : (k : ℕ) → k < length a → (k ≡ s) ⊎ (k ≡ s → ⊥) → (k ≡ r) ⊎ (k ≡ r → ⊥) → changed a' s k ≡ cycles (exchanged r s direct) k
        at k h (inl q) d =
            ap (changed a' s) q
            ∙ onward_at_s
            ∙ sym (changed_at a s r below)
            ∙ sym (get_or-set_same half s (cycles direct r) (pos 0) (omega (arith, within, half_length)))
            ∙ ap (cycles (exchanged r s direct)) (sym q)
        at k h (inr p) (inl q) =
            ap (changed a' s) q
            ∙ onward_at_r
            ∙ sym (changed_at a s s within)
            ∙ sym (get_or-set_same direct r (cycles direct s) (pos 0) (omega (arith, below, changed_length a s)))
            ∙ sym (get_or-set_other half s r (cycles direct r) (pos 0) apart)
            ∙ ap (cycles (exchanged r s direct)) (sym q)
        at k h (inr p) (inr q) =
            onward_at k h q p
            ∙ sym (changed_at a s k h)
            ∙ sym (get_or-set_other direct r k (cycles direct s) (pos 0) q)
            ∙ sym (get_or-set_other half s k (cycles direct r) (pos 0) p)

-- ---- the numbers of its checks, and the index of 20
module _ (a : List ℤ) (r : ℕ) where
  changed_first : AtFirst (changed_range_check a r) 20 (λ k. k < length a) (changed_fault a r)
  changed_first = counted_first (carrying 20) (changed_fault a r) (length a)

  change_numbered : Numbered (19 ∷ 20 ∷ []) (checks_of_change a r)
  change_numbered = check (by_test (not (ltb r (length a))) reference_index) (check (by_index changed_first) no_checks)

  -- ---- when it is refused, and when not
  abbrev First : ℕ → Type 0
  First i = FirstFault (λ k. k < length a) (changed_fault a r) i

  demand : VerdictDemand1 (checks_of_change a r) (change_reference a r) (left_by a r ≡ a)
  demand = verdict_demand_1 (change_is a r) (λ e. change_refused a r (change_reference a r)) (decision (checks_of_change a r))

  outside : length a ≤ r → change_reference a r ≡ refuse reference_index
  outside h = change_is a r ∙ index_outside a r h

  -- a refusal of a change whose r is an index is 20
  by_20 : r < length a → (e : Refusal) → change_reference a r ≡ refuse e → e.number ≡ 20
  by_20 h e q = by_index changed_first e (sym (change_is a r ∙ index_inside a r h) ∙ q)

  gives_19 : (change_reference a r ≡ refuse reference_index) ↔ (length a ≤ r)
  gives_19 = (λ q. ⊎_elim (λ h. h) (λ h. absurd (omega (arith, by_20 h reference_index q))) (split (length a) r), outside)

  gives_20 : (i : ℕ) → (change_reference a r ≡ refuse (changed_range i)) ↔ ((r < length a) × First i)
  gives_20 i = (
    λ q. (⊎_elim (λ h. absurd (not_19 (sym q ∙ outside h))) (λ h. h) (split (length a) r), carries_first changed_first change_numbered refl i (first_fits ((demand.refuses (changed_range i)).1 q))),
    λ p. change_is a r ∙ index_inside a r p.0 ∙ first_fault (changed_fault a r) changed_range (length a) i p.1.index (λ k less. p.1.first k (omega (arith, less, p.1.index)) less) p.1.faulty,
  )
    where
      not_19 : refuse (changed_range i) ≡ refuse reference_index → ⊥
      not_19 q = let same : changed_range i ≡ reference_index = cc in omega (arith, ap (λ (e : Refusal). e.number) same)

  accepted_promises : T (all_i64 a) → change_reference a r ≡ pass → AcceptedPromises a r (changed_point a r)
  accepted_promises integers q = record {
    same_length = changed_length a r;
    own = own_left a r below;
    other = other_left a r below;
    back = λ p. change_written (changed_point a r) r _ p ∙ back_point a r below;
    back_accepted = accepted_change (changed_point a r) r (back_accepted a r below integers);
    onward = λ s apart p direct. change_written (changed_point a r) s _ p ∙ onward_point a r below s apart (change_accepted a s direct).index ∙ ap (exchanged r s) (sym (change_written a s _ direct));
    onward_accepted = λ s apart. (
      λ p. let t = change_accepted (changed_point a r) s p in accepted_change a s (direct_accepted a r below s apart (omega (arith, t.index, changed_length a r)) t),
      λ p. let t = change_accepted a s p in accepted_change (changed_point a r) s (onward_accepted a r below s apart t.index t),
    );
  }
    where
      below : r < length a
      below = (change_accepted a r q).index

  pub reference_promises : T (all_i64 a) → ReferencePromises a r (change_reference a r) (left_by a r)
  reference_promises integers = record {
    demand_1 = demand;
    least_number = first_least 0 change_numbered tt;
    gives_19 = gives_19;
    gives_20 = gives_20;
    accepts = (change_accepted a r, accepted_change a r);
    accepted = λ q. subst (AcceptedPromises a r) (sym (change_written a r (change_reference a r) q)) (accepted_promises integers q);
  }
