-- What each exported call tells, leaves in the lent slices, and promises. r is its number and its three values; ' marks what a slice holds at exit.
-- The answer that the promises speak of is the definition's, which r tells and the slices hold. Definitions only.
use Rattle.std.specs.Prelude.{◌≡◌, List, [], ◌∷◌, ◌++◌, ◌↔◌, ℕ, ◌≤◌, T, length, take, ℤ, Float}
use Rattle.definitions.specs.Table.{Table, dimension, plus_zero}
use Rattle.definitions.specs.Refusals.{Refusal, whole, real}
use Rattle.definitions.specs.Checks.{Verdict, pass, refuse}
use Rattle.definitions.specs.Calls as C
use Rattle.definitions.specs.Prepared.{mapped_point, transformed_of, prepared_nearest_ml}
use Rattle.definitions.specs.Block.{Block}
use Rattle.definitions.specs.Named.{nearest_named, block_after_named, pick_up, block_after_pick_up}
use Rattle.definitions.specs.Turn.{turn, block_after_turn, last_after_turn, turn_output}
use Rattle.definitions.specs.Ratio.{ratio_call}
use Rattle.definitions.specs.Reference.{change_reference, change_output}
use Rattle.definitions.specs.Entries.{Entry, fed, given_verdict}
use Rattle.theorems.specs.Promises.{NearestPromises, SeededPromises, MlPromises, DistancePromises, ListPromises, RoundPromises, PlanePromises}
use Rattle.theorems.specs.Running.{NearestRunning, ListRunning}
use Rattle.theorems.specs.Prepared.{PreparedPromises}
use Rattle.theorems.specs.Kept.{NamedPromises, PickUpPromises}
use Rattle.theorems.specs.Turns.{TurnPromises}
use Rattle.theorems.specs.Doubles.{of_doubles}
use Rattle.theorems.specs.Settings.{RightP, RightQ}
use Rattle.theorems.specs.Ratios.{Holds, Fails, Open, None, MeaningPromised, RatioCallPromises}
use Rattle.theorems.specs.Reference.{ReferencePromises}
use Rattle.theorems.specs.Entries.{EntryPromises}
use Rattle.listing.specs.View.{counts_of}
use Rattle.snowgimmer.specs.declared.report.Report.{Report}
use Rattle.snowgimmer.specs.Reports.{told, of_nearest, of_distance, of_counts, of_ratio, of_verdict}
use Rattle.snowgimmer.specs.Entries.{entry_report, ToldOf}

-- ---- the number and the three values, by what was answered

-- a refusal: its number, and what it carries in its order, whole numbers in the first two values and a double in the third, 0 for what is missing
pub record RefusalTold (e : Refusal) (r : Report) : Type 0 where
  pub nothing : e.values ≡ [] → r ≡ told e.number 0 0 plus_zero
  pub one : (a : ℕ) → e.values ≡ whole a ∷ [] → r ≡ told e.number a 0 plus_zero
  pub two : (a b : ℕ) → e.values ≡ whole a ∷ whole b ∷ [] → r ≡ told e.number a b plus_zero
  pub double : (x : Float) → e.values ≡ real x ∷ [] → r ≡ told e.number 0 0 x
  pub one_and_double : (a : ℕ) (x : Float) → e.values ≡ whole a ∷ real x ∷ [] → r ≡ told e.number a 0 x

-- an answer: of a success what is given here, which has the number 0
pub record AnswerTold {A : Type 0} (answer : C.Answer A) (of_success : A → Report) (r : Report) : Type 0 where
  pub success : (a : A) → answer ≡ C.found a → r ≡ of_success a
  pub refusal : (e : Refusal) → answer ≡ C.refused e → RefusalTold e r

pub record VerdictTold (verdict : Verdict) (r : Report) : Type 0 where
  pub success : verdict ≡ pass → r ≡ told 0 0 0 plus_zero
  pub refusal : (e : Refusal) → verdict ≡ refuse e → RefusalTold e r

-- the nodes and the distance of a point found
abbrev pub PointTold : C.Answer C.NearestPoint → Report → Type 0
PointTold answer r = AnswerTold answer (λ a. told 0 a.nodes 0 a.distance) r

-- ---- the calls

-- up to dimension 23 the call `distance` gives, of the point written, the distance that a nearest search told
abbrev pub DistanceAgrees : Table → List Float → C.Answer C.NearestPoint → List ℤ → Type 0
DistanceAgrees t target answer out' = dimension t ≤ 23 → (a : C.NearestPoint) → answer ≡ C.found a → C.point_distance t target out' ≡ C.found a.distance

pub record NearestTold (t : Table) (target : List Float) (out : List ℤ) (radius : Float) (budget : ℕ) (r : Report) (out' : List ℤ) : Type 0 where
  pub tells : r ≡ of_nearest (C.nearest t target out radius budget)
  pub told_as : PointTold (C.nearest t target out radius budget) r
  pub writes : out' ≡ C.nearest_output (C.nearest t target out radius budget) out
  pub promises : NearestPromises t target out radius budget (C.nearest t target out radius budget) out'
  pub distance_agrees : DistanceAgrees t target (C.nearest t target out radius budget) out'
  pub running : NearestRunning t target out radius budget (C.nearest t target out radius budget) out'

pub record SeededTold (t : Table) (target : List Float) (out candidate : List ℤ) (radius : Float) (budget : ℕ) (r : Report) (out' : List ℤ) : Type 0 where
  pub tells : r ≡ of_nearest (C.nearest_seeded t target out candidate radius budget)
  pub told_as : PointTold (C.nearest_seeded t target out candidate radius budget) r
  pub writes : out' ≡ C.nearest_output (C.nearest_seeded t target out candidate radius budget) out
  pub promises : SeededPromises t target out candidate radius budget (C.nearest_seeded t target out candidate radius budget) out'
  pub distance_agrees : DistanceAgrees t target (C.nearest_seeded t target out candidate radius budget) out'

pub record MlTold (t : Table) (target : List Float) (out : List ℤ) (budget : ℕ) (r : Report) (out' : List ℤ) : Type 0 where
  pub tells : r ≡ of_nearest (C.nearest_ml t target out budget)
  pub told_as : PointTold (C.nearest_ml t target out budget) r
  pub writes : out' ≡ C.nearest_output (C.nearest_ml t target out budget) out
  pub promises : MlPromises t target out budget (C.nearest_ml t target out budget) out'
  pub distance_agrees : DistanceAgrees t target (C.nearest_ml t target out budget) out'

pub record DistanceTold (t : Table) (target : List Float) (point : List ℤ) (r : Report) : Type 0 where
  pub tells : r ≡ of_distance (C.point_distance t target point)
  pub told_as : AnswerTold (C.point_distance t target point) (λ d. told 0 0 0 d) r
  pub promises : DistancePromises t target point (C.point_distance t target point)

pub record ListTold (t : Table) (target distances : List Float) (points : List ℤ) (radius : Float) (budget : ℕ) (r : Report) (distances' : List Float) (points' : List ℤ) : Type 0 where
  pub tells : r ≡ of_counts (counts_of (C.list t target distances points radius budget))
  -- the nodes and the number of points
  pub told_as : AnswerTold (C.list t target distances points radius budget) (λ l. told 0 l.nodes (length l.points) plus_zero) r
  pub writes_distances : distances' ≡ C.list_distances (C.list t target distances points radius budget) distances
  pub writes_points : points' ≡ C.list_points (C.list t target distances points radius budget) points
  pub promises : ListPromises t target distances points radius budget (C.list t target distances points radius budget) distances' points'
  pub running : ListRunning t target distances points radius budget (C.list t target distances points radius budget) distances' points'

pub record RoundTold (coefficients : List Float) (out : List ℤ) (r : Report) (out' : List ℤ) : Type 0 where
  pub tells : r ≡ of_verdict (C.round coefficients out)
  pub told_as : VerdictTold (C.round coefficients out) r
  pub writes : out' ≡ C.round_output (C.round coefficients out) coefficients out
  pub promises : RoundPromises coefficients out (C.round coefficients out) out'

pub record PlaneTold (t : Table) (coefficients : List Float) (out : List ℤ) (r : Report) (coefficients' : List Float) (out' : List ℤ) : Type 0 where
  pub tells : r ≡ of_verdict (C.plane t coefficients out)
  pub told_as : VerdictTold (C.plane t coefficients out) r
  pub writes : out' ≡ C.plane_output (C.plane t coefficients out) t coefficients out
  pub leaves : coefficients' ≡ C.plane_coefficients (C.plane t coefficients out) t coefficients
  pub promises : PlanePromises t coefficients out (C.plane t coefficients out) coefficients' out'

pub record ChangeTold (a : List ℤ) (index : ℕ) (r : Report) (a' : List ℤ) : Type 0 where
  pub tells : r ≡ of_verdict (change_reference a index)
  pub told_as : VerdictTold (change_reference a index) r
  pub writes : a' ≡ change_output (change_reference a index) a index
  pub promises : ReferencePromises a index (change_reference a index) a'

-- number and at are the verdict so far, e is the entry
pub record EntryTold (number at : ℕ) (e : Entry) (r : Report) : Type 0 where
  -- whatever is handed in
  pub tells : r ≡ entry_report number at e
  -- what the calls for the entries before e have told being handed in: what is promised of the answer, and what is told is to be handed
  -- in with the next entry
  pub promises : (before : List Entry) → ToldOf before number at → EntryPromises before e (fed (given_verdict number at) e)
  pub hands_on : (before : List Entry) → ToldOf before number at → ToldOf (before ++ e ∷ []) r.number r.first

-- the number of each verdict is told exactly where what the verdict means is so
pub record RatioNumbers (p q : ℕ) (t : Table) (target : List Float) (radius : Float) (l : C.Answer C.ListAnswer) (r : Report) : Type 0 where
  pub none : (r ≡ told 0 0 0 plus_zero) ↔ None t target radius l
  pub holds : (r ≡ told 0 1 0 plus_zero) ↔ Holds p q t target radius l
  pub fails : (r ≡ told 0 2 0 plus_zero) ↔ Fails p q t target radius l
  pub opens : (r ≡ told 0 3 0 plus_zero) ↔ Open p q t target radius l

pub record RatioTold (distances : List Float) (radius : Float) (p q : ℕ) (r : Report) : Type 0 where
  pub tells : r ≡ of_ratio (ratio_call p q distances radius)
  pub promises : RatioCallPromises p q distances radius (ratio_call p q distances radius)
  -- handed the distances that a list of dimension up to 23 at the radius left, as many as it has points, or none of a list that was refused
  pub numbers : RightP p q → RightQ q → (t : Table) (target lent : List Float) (points : List ℤ) (budget : ℕ) → T (of_doubles t target) →
      let l = C.list t target lent points radius budget in
      MeaningPromised t l → distances ≡ take (C.points_in l) (C.list_distances l lent) → RatioNumbers p q t target radius l r
  -- 21 and its index
  pub gives_0 : (r ≡ told 21 0 0 plus_zero) ↔ (RightP p q → ⊥)
  pub gives_1 : (r ≡ told 21 1 0 plus_zero) ↔ (RightP p q × (RightQ q → ⊥))

pub record PreparedTold (t : Table) (transform inverse : List ℤ) (target : List Float) (out : List ℤ) (budget : ℕ) (r : Report) (out' : List ℤ) : Type 0 where
  pub tells : r ≡ of_nearest (prepared_nearest_ml t transform inverse target out budget)
  pub told_as : PointTold (prepared_nearest_ml t transform inverse target out budget) r
  pub writes : out' ≡ C.nearest_output (prepared_nearest_ml t transform inverse target out budget) out
  pub promises : PreparedPromises t transform inverse target out budget (prepared_nearest_ml t transform inverse target out budget) out'
  -- the distance told is that of out' mapped back, from the transformed target
  pub distance_agrees : (a : C.NearestPoint) → prepared_nearest_ml t transform inverse target out budget ≡ C.found a →
      C.point_distance t (transformed_of t inverse target) (mapped_point (dimension t) inverse out') ≡ C.found a.distance

-- b is the block at entry, b' at exit
pub record NamedTold (b : Block) (name : ℕ) (t : Table) (target : List Float) (out : List ℤ) (radius : Float) (budget : ℕ) (r : Report) (out' : List ℤ) (b' : Block) : Type 0 where
  pub tells : r ≡ of_nearest (nearest_named b name t target out radius budget)
  pub told_as : PointTold (nearest_named b name t target out radius budget) r
  pub writes : out' ≡ C.nearest_output (nearest_named b name t target out radius budget) out
  pub leaves : b' ≡ block_after_named b name t target out radius budget
  pub promises : NamedPromises b name t target out radius budget (nearest_named b name t target out radius budget) out' b'
  pub distance_agrees : DistanceAgrees t target (nearest_named b name t target out radius budget) out'

pub record PickUpTold (b : Block) (name : ℕ) (out : List ℤ) (budget : ℕ) (r : Report) (out' : List ℤ) (b' : Block) : Type 0 where
  pub tells : r ≡ of_nearest (pick_up b name out budget)
  pub told_as : PointTold (pick_up b name out budget) r
  pub writes : out' ≡ C.nearest_output (pick_up b name out budget) out
  pub leaves : b' ≡ block_after_pick_up b name out budget
  pub promises : PickUpPromises b name out budget (pick_up b name out budget) out' b'

-- name and n are told beside the report; ' marks what is there at exit
pub record TurnTold (b : Block) (last : ℕ) (out : List ℤ) (slice : ℕ) (name n : ℕ) (r : Report) (out' : List ℤ) (b' : Block) (last' : ℕ) : Type 0 where
  pub tells_name : name ≡ (turn b last out slice).name
  pub tells_n : n ≡ (turn b last out slice).n
  pub tells : r ≡ of_nearest (turn b last out slice).answer
  pub told_as : PointTold (turn b last out slice).answer r
  pub writes : out' ≡ turn_output (turn b last out slice).answer out
  pub leaves : b' ≡ block_after_turn b last out slice
  pub leaves_last : last' ≡ last_after_turn b last out slice
  pub promises : TurnPromises b last out slice (turn b last out slice) out' b' last'
