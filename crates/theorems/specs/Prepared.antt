-- What `prepared_nearest_ml` promises of its answer and of out at exit, for every input of doubles: of the search at the transformed target, and of the mapped point. Definitions only.
use Rattle.std.specs.Prelude.{◌≡◌, true, false, not, cond, List, [], ◌∷◌, ◌++◌, ◌⊎◌, ◌↔◌, ℕ, zero, suc, ◌+◌, ◌*◌, ◌^◌, ◌≤◌, ◌<◌, T, eqb, length, get_or, ℤ, pos, nat_abs, ◌*ℤ◌, Float}
use Rattle.std.specs.Float.{binary64}
use Rattle.std.specs.Float.Ieee.{add, mul, lt}
use Rattle.std.specs.Float.Ieee.Scale.{finite}
use Rattle.rounding.specs.Integers.{is_i64, to_double}
use Rattle.lists.specs.Sums.{sum_of}
use Rattle.definitions.specs.Table.{Table, dimension, coordinate, plus_zero, largest_dimension}
use Rattle.definitions.specs.Distance.{distance, has_distance}
use Rattle.definitions.specs.Admitted.{is_vector, opened}
use Rattle.definitions.specs.Walk.{Walked, ended, exhausted}
use Rattle.definitions.specs.Nearest.{Best, no_best, best, nearest_walk}
use Rattle.definitions.specs.Seeds.{nearest_plane, widened}
use Rattle.definitions.specs.Refusals.{Refusal, length_mismatch, non_finite, budget_exhausted, matrix_range, mapped_range}
use Rattle.definitions.specs.Checks.{Verdict, target_fault}
use Rattle.definitions.specs.Calls.{Answer, found, refused, NearestPoint, ml_radius, nearest_ml}
use Rattle.definitions.specs.Prepared.{element_fault, mapped_point, transformed_of, mapped_answer, given_checks, checks_of_prepared}
use Rattle.theorems.specs.Counting.{NumberOf}
use Rattle.theorems.specs.Refusals.{NoneFits, Numbered, FirstFault, FirstIndices}
use Rattle.theorems.specs.Accepted.{Bounded, SearchAccepted}
use Rattle.theorems.specs.Answers.{Nearest, NoMinusZero, Demand1}
use Rattle.theorems.specs.Promises.{NearestNodes, PointWritten}

-- ---- sums over the elements of a matrix, which lies row by row, in words of their own

-- of an element of a product, in the whole numbers
abbrev pub product_sum : ℕ → List ℤ → List ℤ → ℕ → ℕ → ℤ
product_sum n a b row column = sum_of n (λ k. get_or a (row * n + k) (pos 0) *ℤ get_or b (k * n + column) (pos 0))

-- of a point times a column, in the whole numbers
abbrev pub column_sum : ℕ → List ℤ → List ℤ → ℕ → ℤ
column_sum n matrix point column = sum_of n (λ row. get_or point row (pos 0) *ℤ get_or matrix (row * n + column) (pos 0))

-- f 0 + f 1 + .., k of them, from plus zero; each addition is rounded
unfoldable pub rounded_sum : ℕ → (ℕ → Float) → Float
unfolding add
rounded_sum zero f = plus_zero
rounded_sum (suc k) f = add binary64 (rounded_sum k f) (f k)

-- ---- the matrices

-- 22: n·n elements, none above 2^52 in magnitude
pub record MatrixAccepted (n : ℕ) (m : List ℤ) : Type 0 where
  pub square : length m ≡ n * n
  pub elements : (k : ℕ) → k < n * n → nat_abs (get_or m k (pos 0)) ≤ 2 ^ 52

-- 23: inverse to each other, in the whole numbers
pub record Inverses (n : ℕ) (transform inverse : List ℤ) : Type 0 where
  pub transform_inverse : (row column : ℕ) → row < n → column < n → product_sum n transform inverse row column ≡ cond (eqb row column) (pos 1) (pos 0)
  pub inverse_transform : (row column : ℕ) → row < n → column < n → product_sum n inverse transform row column ≡ cond (eqb row column) (pos 1) (pos 0)

-- mapping by the one and then by the other changes no vector of n integers
pub record MapsInverse (n : ℕ) (transform inverse : List ℤ) : Type 0 where
  pub inverse_after_transform : (z : List ℤ) → length z ≡ n → mapped_point n inverse (mapped_point n transform z) ≡ z
  pub transform_after_inverse : (z : List ℤ) → length z ≡ n → mapped_point n transform (mapped_point n inverse z) ≡ z

-- what 22 carries: 0 for a length; else the first index of an element above 2^52, the transform's before the inverse's
abbrev pub MatrixIndex : ℕ → List ℤ → List ℤ → ℕ → Type 0
MatrixIndex n transform inverse i =
    (((length transform ≡ n * n) × (length inverse ≡ n * n) → ⊥) × (i ≡ 0))
    ⊎ ((length transform ≡ n * n) × (length inverse ≡ n * n) × FirstFault (λ k. k < n * n + n * n) (λ k. element_fault (get_or (transform ++ inverse) k (pos 0))) i)

-- ---- what 6 and 7 carry, x being the transformed target

-- n and the target's length; or, where that is right, n and the output's
abbrev pub WrongLength : ℕ → List Float → List ℤ → ℕ → ℕ → Type 0
WrongLength n target out a b = (a ≡ n) × (b ≡ n → ⊥) × ((b ≡ length target) ⊎ ((length target ≡ n) × (b ≡ length out)))

-- the first faulty index of the given target; or, where that has none, the first faulty column of x
abbrev pub TargetIndex : ℕ → List Float → List Float → ℕ → Type 0
TargetIndex n target x i =
    FirstFault (λ k. k < length target) (λ k. target_fault (coordinate target k)) i
    ⊎ (((k : ℕ) → k < length target → target_fault (coordinate target k) ≡ false) × FirstFault (λ k. k < n) (λ k. target_fault (coordinate x k)) i)

-- ---- 24

-- the mapped coordinates of z are signed 64-bit integers; or c is the first that is not
abbrev pub MapsInside : ℕ → List ℤ → List ℤ → Type 0
MapsInside n transform z = (column : ℕ) → column < n → is_i64 (column_sum n transform z column) ≡ true

abbrev pub FirstOutside : ℕ → List ℤ → List ℤ → ℕ → Type 0
FirstOutside n transform z c = FirstFault (λ k. k < n) (λ k. not (is_i64 (column_sum n transform z k))) c

-- ---- the call
module _ (t : Table) (transform inverse : List ℤ) (target : List Float) (out : List ℤ) (budget : ℕ) where
  abbrev pub prepared_call_checks : List Verdict
  prepared_call_checks = checks_of_prepared largest_dimension t transform inverse target out budget

  abbrev n : ℕ
  n = dimension t

  -- the target in the table's coordinates, and the radius that its walk starts from
  abbrev x : List Float
  x = transformed_of t inverse target

  abbrev R : Float
  R = widened n (ml_radius t x)

  abbrev walk : Walked Best
  walk = nearest_walk t x R budget

  -- which inputs are accepted
  pub record PreparedAccepted : Type 0 where
    pub search : SearchAccepted 23 t target out
    pub transform_accepted : MatrixAccepted n transform
    pub inverse_accepted : MatrixAccepted n inverse
    pub inverses : Inverses n transform inverse
    pub transformed : (i : ℕ) → i < n → Bounded (coordinate x i)
    pub budget_most : budget ≤ 2 ^ 60
    pub candidate_finite : T (finite (ml_radius t x))
    pub widened_finite : T (finite R)

  -- the answer and out at exit, for each end of the walk: its point mapped, or 24, or 15; it never ends with nothing
  pub record EndsMapped (answer : Answer NearestPoint) (out' : List ℤ) : Type 0 where
    pub point : (z : List ℤ) (S : Float) (m : ℕ) → walk ≡ ended (best z) S m → MapsInside n transform z →
        (answer ≡ found (record { nodes = m; distance = S; point = mapped_point n transform z })) × (out' ≡ mapped_point n transform z)
    pub outside : (z : List ℤ) (S : Float) (m : ℕ) → walk ≡ ended (best z) S m → (c : ℕ) → FirstOutside n transform z c → (answer ≡ refused (mapped_range c)) × (out' ≡ out)
    pub exhaustion : (m : ℕ) (S : Float) → walk ≡ exhausted m S → (answer ≡ refused (budget_exhausted m S)) × (out' ≡ out)
    pub always_a_best : (S : Float) (m : ℕ) → walk ≡ ended no_best S m → ⊥

  -- z is the point before mapping of what was found, and out' is z mapped
  pub record MappedFrom (a : NearestPoint) (out' : List ℤ) (z : List ℤ) : Type 0 where
    -- no vector of reduced coordinates has a smaller computed distance from the transformed target
    pub nearest : Nearest t x R z
    pub own_distance : (a.distance ≡ distance t x z) × T (has_distance t x z)
    -- each coordinate of out' is the sum of z[row]·transform[row, column] in the whole numbers, and a signed 64-bit integer
    pub mapped : (column : ℕ) → column < n → get_or out' column (pos 0) ≡ column_sum n transform z column
    pub vector : T (is_vector t out')
    -- nothing is lost: the inverse maps out' back to z
    pub mapped_back : mapped_point n inverse out' ≡ z

  -- 24 at this column, out as it was
  abbrev pub MappedOutside : Answer NearestPoint → List ℤ → ℕ → Type 0
  MappedOutside answer out' c = (answer ≡ refused (mapped_range c)) × (out' ≡ out)

  -- what the search from the nearest-plane point promises, its checks having passed
  pub record FromPlane (answer : Answer NearestPoint) (out' : List ℤ) : Type 0 where
    -- n of 1 or more: R is strictly above the candidate's distance
    pub above : 1 ≤ n → T (lt (distance t x (nearest_plane t x).point) R)
    -- n = 0: the empty point, without a node
    pub empty_point : n ≡ 0 → (answer ≡ found (record { nodes = 0; distance = plus_zero; point = [] })) × (out' ≡ [])
    -- a budget with a node for every prefix opened at R: a point is written, or 24
    pub gives_point : (prefixes : ℕ) → NumberOf (opened t x R) prefixes → prefixes ≤ budget → PointWritten answer out' ⊎ ((c : ℕ) × MappedOutside answer out' c)
    -- every budget: a point is written, or 24, or 15; nothing else
    pub point_or_refused : (PointWritten answer out' ⊎ ((c : ℕ) × MappedOutside answer out' c)) ⊎ ((S : Float) × (answer ≡ refused (budget_exhausted budget S)) × (out' ≡ out))

  pub record PreparedPromises (answer : Answer NearestPoint) (out' : List ℤ) : Type 0 where
    -- each coordinate of x is the sum of target[row] times inverse[row, column], from row 0 on; each product is rounded, then the sum
    pub transformed : (column : ℕ) → column < n → coordinate x column ≡ rounded_sum n (λ row. mul binary64 (coordinate target row) (to_double (get_or inverse (row * n + column) (pos 0))))
    -- no check fits exactly where the input is one that the call accepts
    pub accepts : NoneFits prepared_call_checks ↔ PreparedAccepted
    -- refused by the first check that fits, in the order that the call has, with its number and values; where none fits, a point or 15 or 24;
    -- a refusal leaves out as it was
    pub demand_1 : Demand1 prepared_call_checks 15 24 answer (out' ≡ out)
    -- the numbers of its checks, in their order: they do not rise
    pub order : Numbered (2 ∷ 3 ∷ 4 ∷ 5 ∷ 22 ∷ 22 ∷ 22 ∷ 23 ∷ 6 ∷ 6 ∷ 7 ∷ 7 ∷ 9 ∷ 11 ∷ 13 ∷ []) prepared_call_checks
    -- 6 carries n and the wrong length, the target's before the output's
    pub length_values : (a b : ℕ) → answer ≡ refused (length_mismatch a b) → WrongLength n target out a b
    -- 3, 4, 5 carry the first index; so do 7 and 22
    pub given_indices : FirstIndices (given_checks largest_dimension t transform inverse target out) t target_fault target
    pub target_index : (i : ℕ) → answer ≡ refused (non_finite i) → TargetIndex n target x i
    pub matrix_index : (i : ℕ) → answer ≡ refused (matrix_range i) → MatrixIndex n transform inverse i
    -- no refusal carries minus zero
    pub no_minus_zero : (e : Refusal) → answer ≡ refused e → NoMinusZero e
    -- where no check fits: the matrices lose no vector
    pub maps_inverse : NoneFits prepared_call_checks → MapsInverse n transform inverse
    -- where no check fits: the walk's point mapped with its count and distance, or 24, or 15 with the walk's numbers; and out
    pub ends : NoneFits prepared_call_checks → EndsMapped answer out'
    -- a point found: out holds the nearest vector of reduced coordinates, mapped
    pub point : (a : NearestPoint) → answer ≡ found a → (z : List ℤ) × MappedFrom a out' z
    -- 24: the nearest vector of reduced coordinates leaves the signed 64-bit integers at that column, and at none before it
    pub nearest_of_24 : (c : ℕ) → answer ≡ refused (mapped_range c) → (z : List ℤ) × Nearest t x R z × FirstOutside n transform z c
    -- where no check fits: the number of opened prefixes, and what it says of the budget and the count
    pub nodes : NoneFits prepared_call_checks → NearestNodes t x R budget answer
    pub from_plane : NoneFits prepared_call_checks → FromPlane answer out'
    -- where none of the checks before x fits: the answer of `nearest_ml` at x, mapped; so 7 of x, 9, 11 and 13 are those of that call
    pub as_ml : NoneFits (given_checks largest_dimension t transform inverse target out) → answer ≡ mapped_answer n transform (nearest_ml t x out budget)
