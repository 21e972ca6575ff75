-- `list_part`: the arrays at exit hold what the text lists. Assumes nothing.
use mathlib.Core.Path.{◌≡◌, ap, sym, ◌∙◌}
use mathlib.Core.List.{◌++◌}
use Prim.Native.Nat.{◌*◌, ◌≤◌}
use native.Mathlib.Nat.{mul-le-mul_right, mul_comm}
use native.Mathlib.Omega.{arith}
use lib.ListN.{length, drop, replicate}
use lib.Seq.{length-take-le}
use lib.IntN.{pos}
use lib.Ieee.{binary64, of_bits}
use Rattle.definitions.specs.Settings.{largest_places, SettingsInRange}
use Rattle.definitions.specs.Calls as C
use Rattle.definitions.specs.Ratio.{list_ratio}
use Rattle.definitions.specs.JobText.{list_lines, ratio_line}
use Rattle.definitions.proofs.Settings.{settings_passed}
use Rattle.lists.proofs.Repeats.{repeat_prefix}
use Rattle.reading.specs.Parts.{ArrayHolds}
use Rattle.reading.specs.View.{settings_read}
use Rattle.writing.proofs.Texts.{appended_length, appended_then, appended_as}
use Rattle.job_answer.specs.Texts.{points_of}
use Rattle.job_answer.proofs.Jobs.{coordinate_places, points_fit, list_lent, list_coordinates, distances_held, first_held, points_held}
use Rattle.job_answer.proofs.Lists.{part_text, points_few}
use Rattle.job_answer.proofs.list_part.Goals as goal
use Rattle.job_answer.proofs.list_part.Goals.{After-list-answer, Start}

-- the settings have passed
passed : (s : Start) → SettingsInRange (settings_read s.args.job.now.settings)
passed s = settings_passed _ s.requires.settings

-- the arrays after the list
module _ (c : After-list-answer) where
  limit : c.args.job.now.settings.places ≤ largest_places
  limit = (settings_passed _ c.requires.settings).places_most

  lent_distances : length c.list-answer.new.distances ≡ c.args.job.now.settings.places
  lent_distances =
      let whole = repeat_prefix largest_places c.args.job.now.settings.places (of_bits binary64 0) limit in
      omega (arith, whole, c.list-answer.auto.distances)

  lent_points : length c.list-answer.new.points ≡ c.args.job.now.n * c.args.job.now.settings.places
  lent_points =
      let whole = repeat_prefix coordinate_places (c.args.job.now.n * c.args.job.now.settings.places) (pos 0) (points_fit c.requires.shape limit) in
      omega (arith, whole, c.list-answer.auto.points)

  distances : ArrayHolds largest_places c.args.job.now.settings.places c.list-answer.new.distances (c.list-answer.new.distances ++ drop c.args.job.now.settings.places (replicate largest_places (of_bits binary64 0)))
  distances = distances_held c.requires.shape limit c.list-answer.ensures lent_distances

  points : ArrayHolds coordinate_places (c.args.job.now.n * c.args.job.now.settings.places) c.list-answer.new.points (c.list-answer.new.points ++ drop (c.args.job.now.n * c.args.job.now.settings.places) (replicate coordinate_places (pos 0)))
  points = points_held c.requires.shape limit c.list-answer.ensures lent_points

  -- no more points than places
  few : points_of c.list-answer.result ≤ c.args.job.now.settings.places
  few =
      let places = repeat_prefix largest_places c.args.job.now.settings.places (of_bits binary64 0) limit in
      let most = points_few c.list-answer.ensures c.list-answer.auto.distances in
      omega (arith, places, most)

pub overflow_mul-coordinates : goal.overflow_mul-coordinates
overflow_mul-coordinates c =
    let most = points_fit c.requires.shape (passed (goal.at.overflow_mul-coordinates c).Start).places_most in
    record { fits = omega arith }

pub slice_bounds-distances-end : goal.slice_bounds-distances-end
slice_bounds-distances-end c = (passed (goal.at.slice_bounds-distances-end c).Start).places_most

pub slice_bounds-list-end-4 : goal.slice_bounds-list-end-4
slice_bounds-list-end-4 c =
    let s = (goal.at.slice_bounds-list-end-4 c).Start in
    sym (repeat_prefix largest_places s.args.job.now.settings.places (of_bits binary64 0) (passed s).places_most)

pub slice_bounds-points-end : goal.slice_bounds-points-end
slice_bounds-points-end c = let s = (goal.at.slice_bounds-points-end c).Start in points_fit s.requires.shape (passed s).places_most

pub slice_bounds-list-end-5 : goal.slice_bounds-list-end-5
slice_bounds-list-end-5 c =
    let s = (goal.at.slice_bounds-list-end-5 c).Start in
    sym (repeat_prefix coordinate_places (s.args.job.now.n * s.args.job.now.settings.places) (pos 0) (points_fit s.requires.shape (passed s).places_most))

pub slice_bounds-distances-end-2 : goal.slice_bounds-distances-end-2
slice_bounds-distances-end-2 c =
    let s = (goal.at.slice_bounds-distances-end-2 c).After-list-answer in
    omega (arith, (distances s).size, limit s)

pub slice_bounds-list_lines-end : goal.slice_bounds-list_lines-end
slice_bounds-list_lines-end c =
    let s = (goal.at.slice_bounds-list_lines-end c).After-list-answer in
    sym (length-take-le _ _ (omega (arith, (distances s).size, limit s)))

pub slice_bounds-points-end-2 : goal.slice_bounds-points-end-2
slice_bounds-points-end-2 c =
    let s = (goal.at.slice_bounds-points-end-2 c).After-list-answer in
    omega (arith, (points s).size, points_fit c.requires.shape (limit s))

pub slice_bounds-list_lines-end-2 : goal.slice_bounds-list_lines-end-2
slice_bounds-list_lines-end-2 c =
    let s = (goal.at.slice_bounds-list_lines-end-2 c).After-list-answer in
    sym (length-take-le _ _ (omega (arith, (points s).size, points_fit c.requires.shape (limit s))))

pub list_lines-requires : goal.list_lines-requires
list_lines-requires c =
    let s = (goal.at.list_lines-requires c).After-list-answer in
    let n = c.args.job.now.n in
    let wide = mul-le-mul_right n (few s) in
    let product = mul_comm c.args.job.now.settings.places n in
    record {
      room = omega (arith, c.requires.room, few s, limit s);
      small = c.requires.shape.small;
      few_distances = omega (arith, few s, ap length (distances s).first, lent_distances s);
      few_points = omega (arith, wide, product, ap length (points s).first, lent_points s);
    }

pub slice_bounds-distances-end-3 : goal.slice_bounds-distances-end-3
slice_bounds-distances-end-3 c =
    let s = (goal.at.slice_bounds-distances-end-3 c).After-list-answer in
    omega (arith, (distances s).size, limit s, few s, c.points_of-found.ensures)

pub slice_bounds-verdict-end : goal.slice_bounds-verdict-end
slice_bounds-verdict-end c =
    let s = (goal.at.slice_bounds-verdict-end c).After-list-answer in
    sym (length-take-le _ _ (omega (arith, (distances s).size, limit s, few s, c.points_of-found.ensures)))

pub verdict-ratio-requires : goal.verdict-ratio-requires
verdict-ratio-requires c = (passed (goal.at.verdict-ratio-requires c).Start).factors

pub ratio_line-requires : goal.ratio_line-requires
ratio_line-requires c =
    let s = (goal.at.ratio_line-requires c).After-list-answer in
    omega (arith, c.requires.room, c.list_lines.ensures.within, appended_length c.list_lines.ensures, few s, limit s)

pub returns : goal.returns
returns c =
    let s = (goal.at.returns c).After-list-answer in
    let shape = c.requires.shape in
    let j = c.args.job.now in
    let most = few s in
    let those = first_held shape (limit s) c.list-answer.ensures (lent_distances s) c.points_of-found.ensures most in
    let text = part_text c.list-answer.ensures j.settings.p j.settings.q j.radius (list_coordinates shape _ _) (distances s).first (points s).first those c.verdict-ratio.ensures in
    let same = text ∙ ap (λ (l : C.Answer C.ListAnswer). list_lines l ++ ratio_line (list_ratio j.settings.p j.settings.q l j.radius)) (list_lent shape (limit s)) in
    appended_as (appended_then c.list_lines.ensures c.ratio_line.ensures) same (omega (arith, most, limit s))
