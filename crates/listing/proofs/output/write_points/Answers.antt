-- `write_points`: the rows passed hold the points' coordinates in the order. Assumes nothing.
use mathlib.Core.Path.{◌≡◌, refl, ap, sym, ◌∙◌}
use mathlib.Core.List.{List, [], map}
use Prim.Native.Nat.{ℕ, ◌+◌, ◌*◌, ◌≤◌}
use native.Mathlib.Omega.{arith}
use lib.ListN.{length, get_or, take}
use lib.Seq.{take_all, length-take-le}
use lib.IntN.{ℤ}
use Rattle.definitions.specs.Listing.{ListPoint}
use Rattle.definitions.specs.Calls.{written, coordinates}
use Rattle.definitions.proofs.Answers.{coordinates_nil}
use Rattle.definitions.specs.Rows.{row}
use Rattle.lists.specs.Over.{over}
use Rattle.lists.proofs.Each.{at_place, all_take}
use Rattle.sorting.proofs.Comparison.{row_within}
use Rattle.sorting.proofs.Rows.{coordinates_more}
use Rattle.lists.proofs.Segments.{mapped_more}
use Rattle.listing.proofs.Writing.{written_run, row_copied}
use Rattle.listing.proofs.Coordinates.{coordinates_alone, coordinates_count}
use Rattle.listing.proofs.output.write_points.Goals as goal
use Rattle.listing.proofs.output.write_points.Goals.{In-loop-i}

pub loop-i-init : goal.loop-i-init
loop-i-init c = (omega arith, refl, sym (ap (λ (l : List ℤ). written l c.args.points.now) coordinates_nil))

-- the row of the place that is written
place_within : (c : In-loop-i) →
    let a = c.args in
    get_or a.order.now c.loop-i.i 0 * a.n + a.n ≤ length a.found.now
place_within c =
    row_within c.args.n (length c.args.order.now) (length c.args.found.now) _ c.requires.found_length (at_place c.loop-i.i 0 c.requires.below (omega arith))

-- and the row that it goes to
row_in : (c : In-loop-i) →
    let a = c.args in
    c.loop-i.i * a.n + a.n ≤ length c.loop-i.points
row_in c =
    omega (arith, row_within c.args.n (length c.args.order.now) (length c.args.found.now) c.loop-i.i c.requires.found_length (omega arith), c.loop-i.invariant.1, c.requires.found_fits)

pub overflow_mul-from : goal.overflow_mul-from
overflow_mul-from c = omega (arith, place_within (goal.at.overflow_mul-from c).In-loop-i)

pub overflow_add-from_end : goal.overflow_add-from_end
overflow_add-from_end c = omega (arith, place_within (goal.at.overflow_add-from_end c).In-loop-i)

pub offset_bounds-found-from : goal.offset_bounds-found-from
offset_bounds-found-from c = omega (arith, place_within (goal.at.offset_bounds-found-from c).In-loop-i)

pub slice_bounds-copy_from_slice-end-in-loop-i : goal.slice_bounds-copy_from_slice-end-in-loop-i
slice_bounds-copy_from_slice-end-in-loop-i c = omega (arith, place_within (goal.at.slice_bounds-copy_from_slice-end-in-loop-i c).In-loop-i)

pub loop-i-preserved : goal.loop-i-preserved
loop-i-preserved c =
    let at = (goal.at.loop-i-preserved c).In-loop-i in
    let a = c.args in
    let i = c.loop-i.i in
    let place = get_or a.order.now i 0 in
    let f : ℕ → ListPoint = row a.n [] a.found.now in
    let xs = coordinates (map f (take i a.order.now)) in
    let count : length xs ≡ i * a.n =
    coordinates_count a.n a.found.now [] (length a.order.now) c.requires.found_length (all_take i c.requires.below)
    ∙ ap (λ (k : ℕ). k * a.n) (length-take-le i a.order.now c.loop-i.invariant.0)
    in
    let copied = row_copied c.loop-i.points a.found.now (i * a.n) (place * a.n) a.n c.copy_from_slice.new.self (row_in at) (place_within at) c.copy_from_slice.ensures.after in (
      omega arith,
      ap (λ (ps : List ℤ). length ps) copied.0 ∙ copied.1 ∙ c.loop-i.invariant.1,
      copied.0
          ∙ ap (λ (ps : List ℤ). over ps (i * a.n) (f place).point) c.loop-i.invariant.2
          ∙ written_run xs (f place).point a.points.now (i * a.n) count
          ∙ ap (λ (ps : List ℤ). written ps a.points.now) (sym (ap coordinates (mapped_more f a.order.now i 0 (omega arith)) ∙ coordinates_more (map f (take i a.order.now)) (f place))),
    )

pub returns : goal.returns
returns c ds =
    let a = c.args in
    c.loop-i.invariant.2
    ∙ ap (λ (is : List ℕ). written (coordinates (map (row a.n [] a.found.now) is)) a.points.now) (take_all c.loop-i.i a.order.now (omega arith))
    ∙ ap (λ (ps : List ℤ). written ps a.points.now) (coordinates_alone a.n a.found.now [] ds a.order.now)
