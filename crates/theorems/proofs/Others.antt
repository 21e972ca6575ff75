-- Of a list of exactly the admitted vectors in their order: its first point is a nearest vector, and every other vector is at least as far as the second point, or as the radius if there is none. Assumes nothing.
use mathlib.Core.Path.{◌≡◌, refl, sym, ap, ◌∙◌, subst}
use mathlib.Core.Logic.{inl, inr}
use Prim.Native.Nat.{ℕ, ◌+◌, ◌<◌}
use native.Mathlib.Nat.{lt_irrefl}
use native.Mathlib.Omega.{arith}
use mathlib.Core.Bool.{Bool, true, false, not}
use mathlib.Core.List.{List, [], ◌∷◌}
use lib.Dec.{T, not_T}
use lib.IntN.{ℤ}
use lib.Ieee.{Float, binary64, le, lt}
use Rattle.rounding.specs.Kinds.{Number, Finite, NonNegative}
use Rattle.rounding.proofs.Interface.{number, float_le_refl, float_le_trans, lt→le, le→not_lt}
use Rattle.definitions.specs.Table.{Table, dimension, plus_zero}
use Rattle.definitions.specs.Distance.{distance}
use Rattle.definitions.specs.Admitted.{is_vector, admitted}
use Rattle.definitions.specs.Listing.{ListPoint, listed_before}
use Rattle.definitions.specs.Calls.{ListAnswer}
use Rattle.definitions.proofs.ListedOrder.{Listed as Comparable, before_of}
use Rattle.theorems.specs.Counting.{same_vector, tally, count}
use Rattle.theorems.specs.Ordered.{vectors_of, OwnDistances, BeforeAll, StrictlyOrdered}
use Rattle.theorems.specs.Answers.{Nearest, Listed, SameAdmitted, RadiusBounds}
use Rattle.theorems.specs.Ratios.{Other}
use Rattle.theorems.proofs.Booleans.{of_true, of_false, to_true, tally_true, tally_most, tally_some}
use Rattle.theorems.proofs.Limits.{Limits}
use Rattle.theorems.proofs.Counts.{count_same, count_head, count_cases}
use Rattle.theorems.proofs.Sums.{distance_nonneg, not_admitted_beyond, admitted_within, admitted_distance}
use Rattle.theorems.proofs.Sorting.{Every, comparable, listed_vector}

-- a finite radius that is not negative: it may be minus zero
pub record Radius (R : Float) : Type 0 where
  pub finite : Finite binary64 R
  pub plus : T (not (lt R plus_zero))

-- a list found at R
pub record OwnList (t : Table) (target : List Float) (R : Float) (a : ListAnswer) : Type 0 where
  pub limits : Limits t target
  pub radius : Radius R
  pub listed : Listed t target R a.points a.nodes
  pub ordered : StrictlyOrdered a.points

pub bounds_at : {t : Table} {target : List Float} {R : Float} → Limits t target → Radius R → RadiusBounds t target R
bounds_at {t} {target} {R} limits r = record {
  within = λ y h. (admitted_distance t target limits R r.finite r.plus y h, admitted_within t target limits R r.finite r.plus y h);
  beyond = not_admitted_beyond t target limits R r.finite;
}

-- the list of the vectors that S admits is that of the vectors that R admits, if both admit the same
pub listed_same : {t : Table} {target : List Float} {R S : Float} {ps : List ListPoint} {m : ℕ} → SameAdmitted t target R S → Listed t target S ps m → Listed t target R ps m
listed_same same l = record {
  exact = λ y. l.exact y ∙ ap tally (sym (same.admits y));
  own = l.own;
  nodes = let n = l.nodes in record { all = n.all; once = λ zs. n.once zs ∙ ap tally (sym (same.opens zs)); long = n.long };
}

-- ---- p comes before these points: none of them is nearer
module _ (t : Table) (target : List Float) where
  none_nearer : (p : ListPoint) (rest : List ListPoint) → Comparable (dimension t) p → Every (Comparable (dimension t)) rest → OwnDistances t target rest → BeforeAll p rest → (y : List ℤ) → 0 < count y (vectors_of rest) → T (le p.distance (distance t target y))
  none_nearer p [] c cs own before y h = absurd (lt_irrefl 0 h)
  none_nearer p (q ∷ rest) c cs own before y h =
      elim (count_cases y q.point (vectors_of rest) h) [
        | inl e ↦ subst (λ (d : Float). T (le p.distance d)) (own.0 ∙ ap (distance t target) (sym e)) here
        | inr k ↦ none_nearer p rest c cs.1 own.1 before.1 y k
      ]
    where
      here : T (le p.distance q.distance)
      here =
          elim (before_of (dimension t) p q c cs.0 (to_true (listed_before p q) before.0)) [
            | inl nearer ↦ lt→le p.distance q.distance nearer
            | inr same ↦ subst (λ (d : Float). T (le p.distance d)) same.0 (float_le_refl binary64 c.distance.num)
          ]

  -- p and the points after it: none is nearer than p
  pub none_before : (p : ListPoint) (rest : List ListPoint) → Every (Comparable (dimension t)) (p ∷ rest) → OwnDistances t target (p ∷ rest) → StrictlyOrdered (p ∷ rest) → (y : List ℤ) → 0 < count y (vectors_of (p ∷ rest)) → T (le p.distance (distance t target y))
  none_before p rest cs own ordered y h =
      elim (count_cases y p.point (vectors_of rest) h) [
        | inl e ↦ subst (λ (d : Float). T (le p.distance d)) (own.0 ∙ ap (distance t target) (sym e)) (float_le_refl binary64 cs.0.distance.num)
        | inr k ↦ none_nearer p rest cs.0 cs.1 own.1 ordered.0 y k
      ]

module _ {t : Table} {target : List Float} (limits : Limits t target) {R : Float} (radius : Radius R) where
  -- what is at most R, and at most the distance of every vector of a list, is at most that of every vector that is in the list or not admitted
  far : (x : Float) → Number binary64 x → T (le x R) → (vectors : List (List ℤ)) → ((y : List ℤ) → 0 < count y vectors → T (le x (distance t target y))) → (y : List ℤ) → T (is_vector t y) → (T (admitted t target R y) → 0 < count y vectors) → T (le x (distance t target y))
  far x n within vectors near y v stands = go (admitted t target R y) refl
    where
      go : (b : Bool) → admitted t target R y ≡ b → T (le x (distance t target y))
      go true e = near y (stands (of_true e))
      go false e = float_le_trans binary64 n (number radius.finite) (distance_nonneg t target limits y v).num within (not_admitted_beyond t target limits R radius.finite y v (of_false e))

  module _ {a : ListPoint} {rest : List ListPoint} {m : ℕ} (l : Listed t target R (a ∷ rest) m) (ordered : StrictlyOrdered (a ∷ rest)) where
    all : Every (Comparable (dimension t)) (a ∷ rest)
    all = comparable t target limits (a ∷ rest) l.own (listed_vector l)

    listed : (y : List ℤ) → T (admitted t target R y) → 0 < count y (vectors_of (a ∷ rest))
    listed y h = subst (λ (k : ℕ). 0 < k) (sym (l.exact y ∙ tally_true (admitted t target R y) h)) (omega arith)

    -- what stands in the list is admitted
    admits : (y : List ℤ) → 0 < count y (vectors_of (a ∷ rest)) → T (admitted t target R y)
    admits y h = tally_some (admitted t target R y) (subst (λ (k : ℕ). 0 < k) (l.exact y) h)

    -- an admitted vector other than the first point stands in the rest
    in_rest : (y : List ℤ) → Other t a.point y → T (admitted t target R y) → 0 < count y (vectors_of rest)
    in_rest y o h = elim (count_cases y a.point (vectors_of rest) (listed y h)) [ inl e ↦ absurd (o.differs e) | inr k ↦ k ]

    first_admitted : T (admitted t target R a.point)
    first_admitted = admits a.point (count_head a.point (vectors_of rest))

    pub first_nonneg : NonNegative binary64 a.distance
    first_nonneg = all.0.distance

    -- the first point
    pub first_nearest : Nearest t target R a.point
    first_nearest = record {
      vector = listed_vector l a.point (count_head a.point (vectors_of rest));
      admits = first_admitted;
      least = λ y v.
          le→not_lt binary64 first_number.num (distance_nonneg t target limits y v).num
          (subst (λ (d : Float). T (le d (distance t target y))) l.own.0
          (far a.distance first_nonneg.num within (vectors_of (a ∷ rest)) (none_before t target a rest all l.own ordered) y v (listed y)));
    }
      where
        first_number : NonNegative binary64 (distance t target a.point)
        first_number = subst (NonNegative binary64) l.own.0 first_nonneg

        within : T (le a.distance R)
        within = subst (λ (d : Float). T (le d R)) (sym l.own.0) (admitted_within t target limits R radius.finite radius.plus a.point first_admitted)

  -- one point alone: no other vector is admitted, and each has a distance of at least R
  pub others_beyond : {a : ListPoint} {m : ℕ} → Listed t target R (a ∷ []) m → StrictlyOrdered (a ∷ []) → (y : List ℤ) → Other t a.point y → T (not (admitted t target R y)) × T (le R (distance t target y))
  others_beyond l ordered y o =
      let n : T (not (admitted t target R y)) = not_T (admitted t target R y) (λ h. lt_irrefl 0 (in_rest l ordered y o h)) in
      (n, not_admitted_beyond t target limits R radius.finite y o.vector n)

  -- no point: no vector is admitted, and each has a distance of at least R
  pub all_beyond : {m : ℕ} → Listed t target R [] m → (y : List ℤ) → T (is_vector t y) → T (not (admitted t target R y)) × T (le R (distance t target y))
  all_beyond l y v =
      let n : T (not (admitted t target R y)) = not_T (admitted t target R y) (λ h. lt_irrefl 0 (subst (λ (k : ℕ). 0 < k) (sym (l.exact y ∙ tally_true (admitted t target R y) h)) (omega arith))) in
      (n, not_admitted_beyond t target limits R radius.finite y v n)

  -- two points or more
  module _ {a b : ListPoint} {rest : List ListPoint} {m : ℕ} (l : Listed t target R (a ∷ b ∷ rest) m) (ordered : StrictlyOrdered (a ∷ b ∷ rest)) where
    second_listed : 0 < count b.point (vectors_of (a ∷ b ∷ rest))
    second_listed = more (tally (same_vector b.point a.point)) (count b.point (vectors_of (b ∷ rest))) (count_head b.point (vectors_of rest))
      where
        more : (i j : ℕ) → 0 < j → 0 < i + j
        more i j h = omega arith

    pub second_admitted : T (admitted t target R b.point)
    second_admitted = admits l ordered b.point second_listed

    pub second_other : Other t a.point b.point
    second_other = record { vector = listed_vector l b.point second_listed; differs = λ e. twice e }
      where
        twice : b.point ≡ a.point → ⊥
        twice e =
            let two = count_same b.point a.point (vectors_of (b ∷ rest)) e in
            let one = count_same b.point b.point (vectors_of rest) refl in
            let most = tally_most (admitted t target R b.point) in
            let once = l.exact b.point in
            omega (arith, two, one, most, once)

    pub second_nonneg : NonNegative binary64 b.distance
    second_nonneg = (all l ordered).1.0.distance

    pub second_within : T (le b.distance R)
    second_within = subst (λ (d : Float). T (le d R)) (sym l.own.1.0) (admitted_within t target limits R radius.finite radius.plus b.point second_admitted)

    -- no other vector is nearer than the second
    pub second_least : (y : List ℤ) → Other t a.point y → T (le b.distance (distance t target y))
    second_least y o = far b.distance second_nonneg.num second_within (vectors_of (b ∷ rest)) (none_before t target b rest (all l ordered).1 l.own.1 ordered.1) y o.vector (in_rest l ordered y o)
