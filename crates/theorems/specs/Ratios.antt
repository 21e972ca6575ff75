-- What each verdict on a list says of the vectors, for all factors p and q together: R is the call's radius, d1 the distance of the list's first point, and each product is rounded once. Definitions only.
-- A vector without a computed distance has an infinite one here, whose product is infinite too, so what is said of every other vector needs no premise that it has one.
use Rattle.std.specs.Prelude.{◌≡◌, not, List, ◌∷◌, ◌⊎◌, ◌↔◌, ℕ, ◌≤◌, T, take, ℤ, Float}
use Rattle.std.specs.Float.Ieee.{le, lt}
use Rattle.std.specs.Float.Ieee.Scale.{finite}
use Rattle.definitions.specs.Table.{Table, dimension, plus_zero}
use Rattle.definitions.specs.Distance.{distance}
use Rattle.definitions.specs.Admitted.{is_vector, admitted}
use Rattle.definitions.specs.Listing.{ListPoint}
use Rattle.definitions.specs.Refusals.{Refusal, setting_range}
use Rattle.definitions.specs.Calls.{Answer, found, refused, ListAnswer, points_in, list, list_distances}
use Rattle.definitions.specs.Ratio.{Ratio, holds, fails, «open», none, times, list_ratio}
use Rattle.theorems.specs.Doubles.{of_doubles}
use Rattle.theorems.specs.Settings.{RightP, RightQ}
use Rattle.theorems.specs.Ordered.{BeginsAt}
use Rattle.theorems.specs.Answers.{Nearest}

-- a vector of n signed 64-bit integers other than z
pub record Other (t : Table) (z y : List ℤ) : Type 0 where
  pub vector : T (is_vector t y)
  pub differs : y ≡ z → ⊥

module _ (t : Table) (target : List Float) (R : Float) (answer : Answer ListAnswer) where
  -- there is a list and this is its first point: it has its own distance, it is admitted, and no vector is nearer
  pub record First (first : ListPoint) : Type 0 where
    pub list : ListAnswer
    pub rest : List ListPoint
    pub is : answer ≡ found list
    pub begins : list.points ≡ first ∷ rest
    pub own : first.distance ≡ distance t target first.point
    pub nearest : Nearest t target R first.point

  -- none: there is no list; or no vector is admitted, and each has a distance of at least R
  abbrev pub None : Type 0
  None = ((e : Refusal) × (answer ≡ refused e)) ⊎ ((y : List ℤ) → T (is_vector t y) → T (not (admitted t target R y)) × T (le R (distance t target y)))

-- p·d1 overflows, or q·d is below it
abbrev pub Short : ℕ → ℕ → Float → Float → Type 0
Short p q d1 d = T (not (finite (times p d1))) ⊎ T (lt (times q d) (times p d1))

module _ (p q : ℕ) (t : Table) (target : List Float) (R : Float) (answer : Answer ListAnswer) where
  -- holds: p·d1 does not overflow, q·R is at least p·d1, and every other vector's q·D is
  pub record Holds : Type 0 where
    pub point : ListPoint
    pub first : First t target R answer point
    pub product : T (finite (times p point.distance))
    pub reached : T (le (times p point.distance) (times q R))
    pub apart : (y : List ℤ) → Other t point.point y → T (le (times p point.distance) (times q (distance t target y)))

  -- fails: another admitted vector falls short, and none of the other vectors has a smaller distance
  pub record Fails : Type 0 where
    pub point : ListPoint
    pub first : First t target R answer point
    pub rival : List ℤ
    pub other : Other t point.point rival
    pub admits : T (admitted t target R rival)
    pub near : Short p q point.distance (distance t target rival)
    pub least : (y : List ℤ) → Other t point.point y → T (le (distance t target rival) (distance t target y))

  -- open: no other vector is admitted, each has a distance of at least R, and R falls short
  pub record Open : Type 0 where
    pub point : ListPoint
    pub first : First t target R answer point
    pub others : (y : List ℤ) → Other t point.point y → T (not (admitted t target R y)) × T (le R (distance t target y))
    pub short : Short p q point.distance R

  abbrev pub Means : Ratio → Type 0
  Means holds = Holds
  Means fails = Fails
  Means «open» = Open
  Means none = None t target R answer

  -- what is promised where Is says which the verdict is: each of the four exactly where what it means is so
  pub record RatioMeans (Is : Ratio → Type 0) : Type 0 where
    pub means : (verdict : Ratio) → Is verdict ↔ Means verdict
    -- where q is 1, as without settings, "holds" speaks of R and of every other distance themselves
    pub once : q ≡ 1 → (h : Holds) →
        T (le (times p h.point.distance) R)
        × ((y : List ℤ) → Other t h.point.point y → T (le (times p h.point.distance) (distance t target y)))
    -- it holds if d1 is 0, whatever the other distances are
    pub zero_holds : (l : ListAnswer) → answer ≡ found l → BeginsAt plus_zero l.points → Is holds

  -- of the verdict on a list
  abbrev pub RatioPromises : Type 0
  RatioPromises = RatioMeans (λ verdict. list_ratio p q answer R ≡ verdict)

-- where a verdict's meaning is promised: up to dimension 23, and of a list that was refused
abbrev pub MeaningPromised : Table → Answer ListAnswer → Type 0
MeaningPromised t l = (dimension t ≤ 23) ⊎ ((e : Refusal) × (l ≡ refused e))

-- ---- the call `ratio`, on the distances that a `list` at R wrote or on any others
pub record RatioCallPromises (p q : ℕ) (distances : List Float) (R : Float) (answer : Answer Ratio) : Type 0 where
  -- a verdict exactly where both are right
  pub answers : ((verdict : Ratio) × (answer ≡ found verdict)) ↔ (RightP p q × RightQ q)
  -- 21 with index 0 exactly where p is not, with 1 exactly where p is and q is not, and no other refusal
  pub gives_0 : (answer ≡ refused (setting_range 0)) ↔ (RightP p q → ⊥)
  pub gives_1 : (answer ≡ refused (setting_range 1)) ↔ (RightP p q × (RightQ q → ⊥))
  pub refuses : (e : Refusal) → answer ≡ refused e → (e ≡ setting_range 0) ⊎ (e ≡ setting_range 1)
  -- handed the distances that a `list` at R left, as many as it has points, whatever its table of dimension up to 23, target, budget and slices,
  -- and none of a list that was refused, whatever its dimension: what is promised of the verdict on that list is so of the answer
  pub of_list : RightP p q → RightQ q → (t : Table) (target lent : List Float) (points : List ℤ) (budget : ℕ) → T (of_doubles t target) →
      let l = list t target lent points R budget in
      MeaningPromised t l → distances ≡ take (points_in l) (list_distances l lent) → RatioMeans p q t target R l (λ verdict. answer ≡ found verdict)
