-- `list_into` meets its contract: the walk's ending is the answer's, and the points found are written in their order. Assumes nothing.
use mathlib.Core.Path.{◌≡◌, refl, ap, sym, ◌∙◌}
use mathlib.Core.List.{List, reverse}
use Prim.Native.Nat.{ℕ, ◌*◌, ◌≤◌, ◌<◌, min}
use native.Mathlib.Nat.{le_trans, lt_of_le_of_lt, mul_comm, mul-le-mul, mul-le-mul_right}
use native.Mathlib.Omega.{arith}
use lib.Dec.{T, lit<}
use lib.ListN.{length, length-reverse}
use lib.Seq.{take_all, length-take-le}
use lib.IntN.{ℤ}
use lib.Ieee.{Float, binary64, fits}
use borrow.Author.Tests.{lt-ltb, le-ltb}
use Rattle.std.specs.Prelude.{Result, Ok}
use Rattle.refusals.specs.declared.Refusal.TheVariants.{BudgetExhausted}
use Rattle.refusals.proofs.Early.{handed_up}
use Rattle.definitions.specs.Table.{Table, table, dimension, weight, largest_searched}
use Rattle.definitions.specs.Walk.{Walked, ended}
use Rattle.definitions.specs.Listing.{ListPoint, sorted}
use Rattle.definitions.specs.Running.{list_search}
use Rattle.definitions.specs.Refusals.{budget_exhausted, list_full}
use Rattle.definitions.specs.Checks.{pass, handed_on}
use Rattle.definitions.specs.Calls.{found, refused, end_of_list, list_checks, list}
use Rattle.definitions.proofs.Passed.{ListPassed, list_passed}
use Rattle.definitions.proofs.Answers.{list_checked, list_exhausted, list_full_lem, list_sorted}
use Rattle.lists.specs.All.{All}
use Rattle.definitions.specs.Rows.{rows}
use Rattle.definitions.proofs.ListedOrder.{Listed}
use Rattle.listing.specs.View.{list_answer, ListAnswered}
use Rattle.listing.specs.Ready.{ListWalked, ListWritten}
use Rattle.listing.specs.declared.ListFound.{ListFound}
use Rattle.listing.specs.declared.Exhausted.{Exhausted}
use Rattle.listing.proofs.WalkEnds.{walked_as}
use Rattle.listing.proofs.Found.{found_listed}
use Rattle.listing.proofs.Ordering.{stored_nonneg, stored_sorted}
use Rattle.listing.proofs.Endings.{ending_exhausted, ending_ended, first_places, answer_refused, answer_found}
use Rattle.listing.proofs.list_into.Goals as goal
use Rattle.listing.proofs.list_into.Goals.{After-search_walk}

-- ---- what the checks and the walk leave
-- a call whose checks have passed, the end of its walk and what that left in the private slices, which have `room` places
record Left : Type 0 where
  t : Table
  doubles : (i : ℕ) → T (fits binary64 (weight t i))
  target : List Float
  distances : List Float
  points : List ℤ
  radius : Float
  budget : ℕ
  passed : list_checks largest_searched t target distances points radius budget ≡ pass
  room : ℕ
  end : Result ListFound Exhausted
  measured : List Float
  vectors : List ℤ
  walked : ListWalked (dimension t) room (list_search t target (handed_on radius) budget) end measured vectors

module _ (w : Left) where
  abbrev n : ℕ
  n = dimension w.t

  abbrev places : ℕ
  places = length w.distances

  abbrev walk : Walked (List ListPoint)
  walk = list_search w.t w.target (handed_on w.radius) w.budget

  known : ListPassed largest_searched w.t w.target w.distances w.points w.radius w.budget
  known = list_passed largest_searched w.t w.target w.distances w.points w.radius w.budget w.passed

  -- what the walk stored, if there were places for all
  stored : (ps : List ListPoint) (S : Float) (m : ℕ) → walk ≡ ended ps S m → length ps ≤ w.room → rows n (length ps) w.measured w.vectors ≡ reverse ps
  stored ps S m e h =
      let all : length ps ≡ min (length ps) w.room = omega arith in
      ap (λ (k : ℕ). rows n k w.measured w.vectors) all ∙ w.walked.stored ps S m e ∙ take_all w.room (reverse ps) (omega (arith, length-reverse ps))

  -- the points found have distances that are not negative
  listed : (ps : List ListPoint) (S : Float) (m : ℕ) → walk ≡ ended ps S m → All (Listed n) ps
  listed = found_listed w.t w.doubles known.checked.weighted w.target (handed_on w.radius) w.budget

  -- and the private slices keep their shape
  shape : length w.vectors ≡ length w.measured * n
  shape = w.walked.points_length ∙ ap (λ (k : ℕ). k * n) (sym w.walked.distances_length)

-- ---- where all points have a place
record Placed : Type 0 where
  left : Left
  found : ListFound
  ends : left.end ≡ Ok found
  own : found.points ≤ length left.distances

module _ (e : Placed) where
  abbrev w : Left
  w = e.left

  -- what was found
  points_found : (ps : List ListPoint) × (S : Float) × (walk w ≡ ended ps S e.found.nodes) × (length ps ≡ e.found.points)
  points_found = ending_ended (walk w) e.found (sym w.walked.ending ∙ e.ends)

  found_stored : e.found.points ≤ w.room → rows (n w) e.found.points w.measured w.vectors ≡ reverse points_found.0
  found_stored fits =
      let f = points_found in
      ap (λ (k : ℕ). rows (n w) k w.measured w.vectors) (sym f.3) ∙ stored w f.0 f.1 e.found.nodes f.2 (omega (arith, f.3, fits))

  all_listed : All (Listed (n w)) points_found.0
  all_listed = let f = points_found in listed w f.0 f.1 e.found.nodes f.2

  -- there are coordinates for so many
  size_fits : e.found.points * n w ≤ length w.points
  size_fits = omega (arith, mul-le-mul_right (n w) e.own, (known w).room, mul_comm (n w) (places w))

  -- what was found, where it was stored or sorted
  answered : {qs : List ListPoint} {distances' : List Float} {points' : List ℤ} → qs ≡ sorted points_found.0 → ListWritten qs w.distances distances' w.points points' →
      ListAnswered (list w.t w.target w.distances w.points w.radius w.budget) (Ok e.found) w.distances distances' w.points points'
  answered same written =
      let f = points_found in
      let few : length f.0 ≤ places w = omega (arith, f.3, e.own) in
      let q =
      list_checked w.t w.target w.distances w.points w.radius w.budget w.passed
      ∙ ap (end_of_list (places w)) f.2
      ∙ list_sorted (places w) f.0 f.1 e.found.nodes (le-ltb (places w) (length f.0) few)
      in
      answer_found (list w.t w.target w.distances w.points w.radius w.budget) _ w.distances w.points e.found.nodes f.0 (ap (λ (k : ℕ). found (record { nodes = e.found.nodes; points = k })) (sym f.3)) q same written

-- ---- the place after the walk: it starts from the radius that is handed on
module _ (v : After-search_walk) where
  from_handed_on : let a = v.args in list_search (table a.weights.now a.mu.now) a.target.now v.handed_on-start.result a.budget ≡ list_search (table a.weights.now a.mu.now) a.target.now (handed_on a.radius) a.budget
  from_handed_on = let a = v.args in ap (λ (R : Float). list_search (table a.weights.now a.mu.now) a.target.now R a.budget) v.handed_on-start.ensures

  abbrev left : Left
  left = record {
    t = table v.args.weights.now v.args.mu.now;
    doubles = v.type_inv.weights;
    target = v.args.target.now;
    distances = v.args.distances.now;
    points = v.args.points.now;
    radius = v.args.radius;
    budget = v.args.budget;
    passed = v.requires.passed;
    room = length v.args.measured.now;
    end = v.search_walk.result;
    measured = v.search_walk.new.distances;
    vectors = v.search_walk.new.points;
    walked = walked_as from_handed_on v.search_walk.ensures;
  }

  abbrev placed : (f : ListFound) → v.search_walk.result ≡ Ok f → f.points ≤ length v.args.distances.now → Placed
  placed f ends own = record { left = left; found = f; ends = ends; own = own }

-- ---- the goals
pub search_walk-requires : goal.search_walk-requires
search_walk-requires c =
    let a = c.args in
    let p = list_passed largest_searched (table a.weights.now a.mu.now) a.target.now a.distances.now a.points.now a.radius a.budget c.requires.passed in
    record { shape = p.shape; few = omega (arith, c.requires.measured_within, p.places); points_length = c.requires.vectors_length; bounded = p.few }

pub returns-in_err-found : goal.returns-in_err-found
returns-in_err-found c =
    let w = left (goal.at.returns-in_err-found c).After-search_walk in
    let x = c.in_err-found.field-0.0 in
    let e = ending_exhausted (walk w) x (sym w.walked.ending ∙ c.in_err-found.was) in
    let q = list_checked w.t w.target w.distances w.points w.radius w.budget w.passed ∙ ap (end_of_list (places w)) e ∙ list_exhausted (places w) x.nodes x.radius in
    let up = handed_up {e = BudgetExhausted x.nodes x.radius} _ c.from_residual.ensures.1 in
    answer_refused (list w.t w.target w.distances w.points w.radius w.budget) _ w.distances w.points (budget_exhausted x.nodes x.radius) (ap list_answer up) q

pub returns-then-k-distances : goal.returns-then-k-distances
returns-then-k-distances c =
    let w = left (goal.at.returns-then-k-distances c).After-search_walk in
    let m = c.in_ok-found.found.nodes in
    let k = c.in_ok-found.found.points in
    let f = ending_ended (walk w) c.in_ok-found.found (sym w.walked.ending ∙ c.in_ok-found.was) in
    let above : places w < length f.0 = omega (arith, f.3, c.if-k-distances.true) in
    let q =
    list_checked w.t w.target w.distances w.points w.radius w.budget w.passed
    ∙ ap (end_of_list (places w)) f.2
    ∙ list_full_lem (places w) f.0 f.1 m (lt-ltb (places w) (length f.0) above)
    ∙ ap (λ (j : ℕ). refused (list_full j)) f.3
    in
    answer_refused (list w.t w.target w.distances w.points w.radius w.budget) _ w.distances w.points (list_full k) refl q

-- ---- where the private arrays have no room for all
pub overflow_mul-size : goal.overflow_mul-size
overflow_mul-size c =
    let e = placed (goal.at.overflow_mul-size c).After-search_walk c.in_ok-found.found c.in_ok-found.was c.if-k-distances.false in
    let p = known e.left in
    record { fits = lt_of_le_of_lt (mul-le-mul (le_trans e.own p.places) p.checked.small) (lit< tt) }

pub slice_bounds-walk_in_place-end-then-k-measured-2 : goal.slice_bounds-walk_in_place-end-then-k-measured-2
slice_bounds-walk_in_place-end-then-k-measured-2 c = size_fits (placed (goal.at.slice_bounds-walk_in_place-end-then-k-measured-2 c).After-search_walk c.in_ok-found.found c.in_ok-found.was c.if-k-distances.false)

pub slice_bounds-walk_in_place-end-then-k-measured-3 : goal.slice_bounds-walk_in_place-end-then-k-measured-3
slice_bounds-walk_in_place-end-then-k-measured-3 c =
    let e = placed (goal.at.slice_bounds-walk_in_place-end-then-k-measured-3 c).After-search_walk c.in_ok-found.found c.in_ok-found.was c.if-k-distances.false in
    sym (length-take-le (e.found.points * n e.left) e.left.points (size_fits e))

pub walk_in_place-requires : goal.walk_in_place-requires
walk_in_place-requires c =
    let v = (goal.at.walk_in_place-requires c).After-search_walk in
    let e = placed v c.in_ok-found.found c.in_ok-found.was c.if-k-distances.false in
    let w = e.left in
    let p = known w in
    let f = points_found e in
    let many = length-take-le e.found.points w.distances e.own in
    record {
      ready = record {
        shape = p.shape;
        few = omega (arith, many, e.own, p.places);
        points_length = length-take-le (e.found.points * n w) w.points (size_fits e) ∙ ap (λ (k : ℕ). k * n w) (sym many);
        bounded = p.few;
      };
      weighted = p.checked.weighted;
      found = f.0;
      stood = f.1;
      nodes = e.found.nodes;
      walk = from_handed_on v ∙ f.2;
      count = f.3 ∙ sym many;
    }

pub returns-then-k-measured : goal.returns-then-k-measured
returns-then-k-measured c =
    let v = (goal.at.returns-then-k-measured c).After-search_walk in
    let e = placed v c.in_ok-found.found c.in_ok-found.was c.if-k-distances.false in
    let f = points_found e in
    let again = from_handed_on v ∙ f.2 in
    let written = c.walk_in_place.ensures in
    answered e refl (first_places f.0 e.left.distances e.left.points e.found.points (n e.left) f.3 (all_listed e) (written.writes_distances f.0 f.1 e.found.nodes again) (written.writes_points f.0 f.1 e.found.nodes again))

-- ---- where they have
pub write_first-requires : goal.write_first-requires
write_first-requires c =
    let e = placed (goal.at.write_first-requires c).After-search_walk c.in_ok-found.found c.in_ok-found.was c.if-k-distances.false in
    let w = e.left in
    let p = known w in
    let within : e.found.points ≤ length w.measured = omega (arith, c.if-k-measured.false) in
    let room : e.found.points ≤ w.room = omega (arith, within, w.walked.distances_length) in
    record {
      small = p.checked.small;
      few = omega (arith, e.own, p.places);
      measured_fit = within;
      vectors_length = shape w;
      distances_plus = stored_nonneg (n w) e.found.points w.measured w.vectors (points_found e).0 (found_stored e room) (all_listed e) within;
      order_fits = omega (arith, room, c.requires.order_length);
      spare_fits = omega (arith, room, c.requires.spare_length);
      distances_fit = e.own;
      points_fit = size_fits e;
    }

pub returns : goal.returns
returns c =
    let e = placed (goal.at.returns c).After-search_walk c.in_ok-found.found c.in_ok-found.was c.if-k-distances.false in
    let w = e.left in
    let room : e.found.points ≤ w.room = omega (arith, c.if-k-measured.false, w.walked.distances_length) in
    answered e (stored_sorted (n w) e.found.points w.measured w.vectors (points_found e).0 (found_stored e room) (all_listed e)) c.write_first.ensures
