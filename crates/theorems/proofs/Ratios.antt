-- The verdict on a list is each of the four exactly where what it means is so (`specs/Ratios.antt`), for all factors in range and for every table, target, radius, budget and slices of a call `list`. Assumes nothing.
use mathlib.Core.Path.{◌≡◌, refl, sym, ap, ◌∙◌, subst}
use mathlib.Core.Logic.{◌↔◌, inl, inr}
use Prim.Native.Nat.{ℕ, ◌≤◌, ◌<◌}
use native.Mathlib.Omega.{arith}
use mathlib.Core.Bool.{Bool, true, false, not, ◌&&◌, cond}
use mathlib.Core.List.{List, [], ◌∷◌, map}
use lib.Dec.{T, T_not}
use lib.IntN.{ℤ}
use lib.Ieee.{Float, binary64, fits, le, lt}
use lib.Ieee.Scale.{finite}
use lib.Ieee.Fits.{and_l, and_r}
use Rattle.rounding.specs.Kinds.{Number, NonNegative}
use Rattle.rounding.proofs.Interface.{number, zero_nonneg, float_le_trans, not_lt→le, not_le→lt, le→not_lt, nonneg_not_lt}
use Rattle.definitions.specs.Table.{Table, dimension, plus_zero}
use Rattle.definitions.specs.Distance.{distance}
use Rattle.definitions.specs.Admitted.{admitted}
use Rattle.definitions.specs.Listing.{ListPoint}
use Rattle.definitions.specs.Refusals.{Refusal}
use Rattle.definitions.specs.Calls.{Answer, found, refused, ListAnswer, list}
use Rattle.definitions.specs.Settings.{FactorsInRange}
use Rattle.definitions.specs.Ratio.{Ratio, holds, fails, «open», none, times, met, ratio, list_ratio}
use Rattle.definitions.proofs.Answers.{found≢refused}
use Rattle.definitions.proofs.Ratios.{times_number, times_mono, times_zero, times_once, met_is, ratio_nothing, ratio_alone, ratio_more, list_ratio_found, list_ratio_refused}
use Rattle.theorems.specs.Doubles.{of_doubles}
use Rattle.theorems.specs.Ordered.{BeginsAt, StrictlyOrdered}
use Rattle.theorems.specs.Answers.{Listed}
use Rattle.theorems.specs.Ratios.{Other, First, Short, Holds, Fails, Open, None, Means, RatioPromises, MeaningPromised}
use Rattle.theorems.proofs.Booleans.{of_true, of_false, to_true}
use Rattle.theorems.proofs.Limits.{Limits}
use Rattle.theorems.proofs.Sums.{distance_nonneg}
use Rattle.theorems.proofs.Others.{Radius, first_nonneg, first_nearest, others_beyond, all_beyond, second_admitted, second_other, second_nonneg, second_within, second_least}
use Rattle.theorems.proofs.Promises.{own_list}

abbrev distances_of : List ListPoint → List Float
distances_of ps = map (λ (p : ListPoint). p.distance) ps

-- ---- the test
module _ {p q : ℕ} (range : FactorsInRange p q) where
  p_some : 0 < p
  p_some = omega (arith, range.q_some, range.q_below)

  q_most : q ≤ 1000
  q_most = omega (arith, range.p_most, range.q_below)

  p_number : {d : Float} → Number binary64 d → Number binary64 (times p d)
  p_number = times_number p p_some range.p_most

  q_number : {d : Float} → Number binary64 d → Number binary64 (times q d)
  q_number = times_number q range.q_some q_most

  q_mono : {d e : Float} → Number binary64 d → Number binary64 e → T (not (lt d plus_zero)) → T (le d e) → T (le (times q d) (times q e))
  q_mono = times_mono q range.q_some q_most

  -- not met, it falls short; and it is not met where it falls short
  short_of : (d1 d : Float) → Number binary64 d1 → Number binary64 d → met p q d1 d ≡ false → Short p q d1 d
  short_of d1 d n m e = go (finite (times p d1)) refl
    where
      go : (b : Bool) → finite (times p d1) ≡ b → Short p q d1 d
      go false h = inl (of_false h)
      go true h = inr (not_le→lt binary64 (p_number n) (q_number m) (of_false (sym (ap (λ (b : Bool). b && le (times p d1) (times q d)) h) ∙ sym (met_is p q d1 d) ∙ e)))

  not_short : (d1 d : Float) → Number binary64 d1 → Number binary64 d → T (finite (times p d1)) → T (le (times p d1) (times q d)) → Short p q d1 d → ⊥
  not_short d1 d n m product least (inl overflows) = T_not (finite (times p d1)) overflows product
  not_short d1 d n m product least (inr less) = T_not (lt (times q d) (times p d1)) (le→not_lt binary64 (p_number n) (q_number m) least) less

met_both : (p q : ℕ) (d1 d : Float) → met p q d1 d ≡ true → T (finite (times p d1)) × T (le (times p d1) (times q d))
met_both p q d1 d e =
    let both : T (finite (times p d1) && le (times p d1) (times q d)) = of_true (sym (met_is p q d1 d) ∙ e) in
    (and_l (finite (times p d1)) (le (times p d1) (times q d)) both, and_r (finite (times p d1)) (le (times p d1) (times q d)) both)

-- ---- no two of the meanings are so together
module _ {t : Table} {target : List Float} {R : Float} {answer : Answer ListAnswer} where
  -- there is one first point
  same_first : {a b : ListPoint} → First t target R answer a → First t target R answer b → a ≡ b
  same_first {a} {b} f g =
      let both : found f.list ≡ found g.list = sym f.is ∙ g.is in
      let c = f.begins in
      let d = g.begins in
      cc

  not_none : {a : ListPoint} → First t target R answer a → None t target R answer → ⊥
  not_none f (inl (e, h)) = found≢refused (sym f.is ∙ h)
  not_none {a} f (inr all) = T_not (admitted t target R a.point) (all a.point f.nearest.vector).0 f.nearest.admits

  fails_not_open : (p q : ℕ) → Fails p q t target R answer → Open p q t target R answer → ⊥
  fails_not_open p q a b =
      let other : Other t b.point.point a.rival = subst (λ (x : ListPoint). Other t x.point a.rival) (same_first a.first b.first) a.other in
      T_not (admitted t target R a.rival) (b.others a.rival other).0 a.admits

  module _ (limits : Limits t target) (radius : Radius R) {p q : ℕ} (range : FactorsInRange p q) where
    first_number : {a : ListPoint} → First t target R answer a → Number binary64 a.distance
    first_number {a} f = subst (Number binary64) (sym f.own) (distance_nonneg t target limits a.point f.nearest.vector).num

    holds_not_fails : Holds p q t target R answer → Fails p q t target R answer → ⊥
    holds_not_fails a b =
        let same = same_first b.first a.first in
        let other : Other t a.point.point b.rival = subst (λ (x : ListPoint). Other t x.point b.rival) same b.other in
        not_short range a.point.distance (distance t target b.rival) (first_number a.first) (distance_nonneg t target limits b.rival b.other.vector).num a.product (a.apart b.rival other)
        (subst (λ (x : ListPoint). Short p q x.distance (distance t target b.rival)) same b.near)

    holds_not_open : Holds p q t target R answer → Open p q t target R answer → ⊥
    holds_not_open a b =
        not_short range a.point.distance R (first_number a.first) (number radius.finite) a.product a.reached
        (subst (λ (x : ListPoint). Short p q x.distance R) (same_first b.first a.first) b.short)

module _ (p q : ℕ) (t : Table) (target : List Float) (R : Float) (answer : Answer ListAnswer) where
  abbrev Meaning : Ratio → Type 0
  Meaning v = Means p q t target R answer v

  exclusive : FactorsInRange p q → Limits t target → Radius R → (v w : Ratio) → Meaning v → Meaning w → v ≡ w
  exclusive range limits radius holds holds a b = refl
  exclusive range limits radius holds fails a b = absurd (holds_not_fails limits radius range a b)
  exclusive range limits radius holds «open» a b = absurd (holds_not_open limits radius range a b)
  exclusive range limits radius holds none a b = absurd (not_none a.first b)
  exclusive range limits radius fails holds a b = absurd (holds_not_fails limits radius range b a)
  exclusive range limits radius fails fails a b = refl
  exclusive range limits radius fails «open» a b = absurd (fails_not_open p q a b)
  exclusive range limits radius fails none a b = absurd (not_none a.first b)
  exclusive range limits radius «open» holds a b = absurd (holds_not_open limits radius range b a)
  exclusive range limits radius «open» fails a b = absurd (fails_not_open p q b a)
  exclusive range limits radius «open» «open» a b = refl
  exclusive range limits radius «open» none a b = absurd (not_none a.first b)
  exclusive range limits radius none holds a b = absurd (not_none b.first a)
  exclusive range limits radius none fails a b = absurd (not_none b.first a)
  exclusive range limits radius none «open» a b = absurd (not_none b.first a)
  exclusive range limits radius none none a b = refl

  -- without a list the verdict is none, and nothing else is so
  refused_none : (e : Refusal) → answer ≡ refused e → (v : Ratio) → Meaning v → v ≡ none
  refused_none e h holds m = absurd (found≢refused (sym m.first.is ∙ h))
  refused_none e h fails m = absurd (found≢refused (sym m.first.is ∙ h))
  refused_none e h «open» m = absurd (found≢refused (sym m.first.is ∙ h))
  refused_none e h none m = refl

-- ---- what the verdict says of a list found
module _ {p q : ℕ} (range : FactorsInRange p q) {t : Table} {target : List Float} {R : Float} (limits : Limits t target) (radius : Radius R) {answer : Answer ListAnswer} {found_list : ListAnswer} (is : answer ≡ found found_list) where
  first_of : (a : ListPoint) (rest : List ListPoint) {m : ℕ} → found_list.points ≡ a ∷ rest → Listed t target R (a ∷ rest) m → StrictlyOrdered (a ∷ rest) → First t target R answer a
  first_of a rest begins l ordered = record { list = found_list; rest = rest; is = is; begins = begins; own = l.own.0; nearest = first_nearest limits radius l ordered }

  -- from a distance that meets the test, or R, on to one that is as large
  onward : (d1 : Float) {d e : Float} → Number binary64 d1 → Number binary64 d → Number binary64 e → T (not (lt d plus_zero)) → T (le (times p d1) (times q d)) → T (le d e) → T (le (times p d1) (times q e))
  onward d1 n m k plus least h = float_le_trans binary64 (p_number range n) (q_number range m) (q_number range k) least (q_mono range m k plus h)

  points_mean : (ps : List ListPoint) {m : ℕ} → found_list.points ≡ ps → Listed t target R ps m → StrictlyOrdered ps → Means p q t target R answer (ratio p q (distances_of ps) R)
  points_mean [] begins l ordered = subst (Means p q t target R answer) (sym (ratio_nothing p q R)) (inr (all_beyond limits radius l))
  points_mean (a ∷ []) begins l ordered = subst (Means p q t target R answer) (sym (ratio_alone p q R a.distance)) (go (met p q a.distance R) refl)
    where
      d1 : Number binary64 a.distance
      d1 = (first_nonneg limits radius l ordered).num

      go : (b : Bool) → met p q a.distance R ≡ b → Means p q t target R answer (cond b holds «open»)
      go true e = let meets = met_both p q a.distance R e in record {
        point = a;
        first = first_of a [] begins l ordered;
        product = meets.0;
        apart = λ y o. onward a.distance d1 (number radius.finite) (distance_nonneg t target limits y o.vector).num radius.plus meets.1 (others_beyond limits radius l ordered y o).1;
        reached = meets.1;
      }
      go false e = record {
        point = a;
        first = first_of a [] begins l ordered;
        others = others_beyond limits radius l ordered;
        short = short_of range a.distance R d1 (number radius.finite) e;
      }
  points_mean (a ∷ b ∷ rest) begins l ordered = subst (Means p q t target R answer) (sym (ratio_more p q R a.distance b.distance (distances_of rest))) (go (met p q a.distance b.distance) refl)
    where
      d1 : Number binary64 a.distance
      d1 = (first_nonneg limits radius l ordered).num

      second : NonNegative binary64 b.distance
      second = second_nonneg limits radius l ordered

      go : (c : Bool) → met p q a.distance b.distance ≡ c → Means p q t target R answer (cond c holds fails)
      go true e = let meets = met_both p q a.distance b.distance e in record {
        point = a;
        first = first_of a (b ∷ rest) begins l ordered;
        product = meets.0;
        apart = λ y o. onward a.distance d1 second.num (distance_nonneg t target limits y o.vector).num (nonneg_not_lt second) meets.1 (second_least limits radius l ordered y o);
        reached = onward a.distance d1 second.num (number radius.finite) (nonneg_not_lt second) meets.1 (second_within limits radius l ordered);
      }
      go false e = record {
        point = a;
        first = first_of a (b ∷ rest) begins l ordered;
        rival = b.point;
        other = second_other limits radius l ordered;
        admits = second_admitted limits radius l ordered;
        near = subst (Short p q a.distance) l.own.1.0 (short_of range a.distance b.distance d1 second.num e);
        least = λ y o. subst (λ (d : Float). T (le d (distance t target y))) l.own.1.0 (second_least limits radius l ordered y o);
      }

-- ---- a first distance of 0: p·0 is 0, and no q·R and no q·d of a list is below it
module _ {p q : ℕ} (range : FactorsInRange p q) where
  zero_met : (d1 d : Float) → d1 ≡ plus_zero → Number binary64 d → T (not (lt d plus_zero)) → met p q d1 d ≡ true
  zero_met d1 d z n plus =
      ap (λ (x : Float). met p q x d) z
      ∙ met_is p q plus_zero d
      ∙ ap (λ (x : Float). finite x && le x (times q d)) (times_zero p (p_some range) range.p_most)
      ∙ to_true (le plus_zero (times q d))
      (subst (λ (x : Float). T (le x (times q d))) (times_zero q range.q_some (q_most range))
      (q_mono range (zero_nonneg binary64).num n (nonneg_not_lt (zero_nonneg binary64)) (not_lt→le binary64 n (zero_nonneg binary64).num plus)))

  module _ {t : Table} {target : List Float} {R : Float} (limits : Limits t target) (radius : Radius R) where
    zero_points : (ps : List ListPoint) {m : ℕ} → Listed t target R ps m → StrictlyOrdered ps → BeginsAt plus_zero ps → ratio p q (distances_of ps) R ≡ holds
    zero_points [] l ordered z = absurd z
    zero_points (a ∷ []) l ordered z =
        ratio_alone p q R a.distance ∙ ap (λ (b : Bool). cond b holds «open») (zero_met a.distance R z (number radius.finite) radius.plus)
    zero_points (a ∷ b ∷ rest) l ordered z =
        let second = second_nonneg limits radius l ordered in
        ratio_more p q R a.distance b.distance (distances_of rest)
        ∙ ap (λ (c : Bool). cond c holds fails) (zero_met a.distance b.distance z second.num (nonneg_not_lt second))

-- ---- the theorem, over the call
module _ (p q : ℕ) (range : FactorsInRange p q) (t : Table) (target distances : List Float) (points : List ℤ) (R : Float) (budget : ℕ) (doubles : T (of_doubles t target)) (double : T (fits binary64 R)) (promised : MeaningPromised t (list t target distances points R budget)) where
  abbrev answer : Answer ListAnswer
  answer = list t target distances points R budget

  small : (a : ListAnswer) → answer ≡ found a → dimension t ≤ 23
  small a h = elim promised [ inl few ↦ few | inr (e, q) ↦ absurd (found≢refused (sym h ∙ q)) ]

  verdict_of_lem : (a : ListAnswer) → answer ≡ found a → list_ratio p q answer R ≡ ratio p q (distances_of a.points) R
  verdict_of_lem a h = ap (λ (x : Answer ListAnswer). list_ratio p q x R) h ∙ list_ratio_found p q R a

  by_answer : (x : Answer ListAnswer) → answer ≡ x → (v : Ratio) → (list_ratio p q answer R ≡ v) ↔ Means p q t target R answer v
  by_answer (found a) h v =
      let own = own_list t target distances points R budget doubles double (small a h) a h in
      let mean = subst (Means p q t target R answer) (sym (verdict_of_lem a h)) (points_mean range own.limits own.radius h a.points refl own.listed own.ordered) in
      (λ e. subst (Means p q t target R answer) e mean, λ m. exclusive p q t target R answer range own.limits own.radius (list_ratio p q answer R) v mean m)
  by_answer (refused e) h v =
      let verdict : list_ratio p q answer R ≡ none = ap (λ (x : Answer ListAnswer). list_ratio p q x R) h ∙ list_ratio_refused p q R e in
      (λ k. subst (Means p q t target R answer) (sym verdict ∙ k) (inl (e, h)), λ m. verdict ∙ sym (refused_none p q t target R answer e h v m))

  same_once : q ≡ 1 → (d : Float) → Number binary64 d → times q d ≡ d
  same_once one d n = ap (λ (k : ℕ). times k d) one ∙ times_once n

  pub list_ratio_lem : RatioPromises p q t target R answer
  list_ratio_lem = record {
    means = by_answer answer refl;
    zero_holds = λ a h z. let own = own_list t target distances points R budget doubles double (small a h) a h in verdict_of_lem a h ∙ zero_points range own.limits own.radius a.points own.listed own.ordered z;
    once = λ one h.
        let own = own_list t target distances points R budget doubles double (small h.first.list h.first.is) h.first.list h.first.is in
        let d1 = h.point.distance in (
          subst (λ (d : Float). T (le (times p d1) d)) (same_once one R (number own.radius.finite)) h.reached,
          λ y o. subst (λ (d : Float). T (le (times p d1) d)) (same_once one (distance t target y) (distance_nonneg t target own.limits y o.vector).num) (h.apart y o),
        );
  }
