-- `list` meets its contract: a refusal of its checks leaves both slices, and a pass goes on to arrays that are long enough. Assumes nothing.
use mathlib.Core.Path.{◌≡◌, ap, sym, ◌∙◌}
use mathlib.Core.List.{List}
use Prim.Native.Nat.{ℕ, ◌≤◌}
use lib.ListN.{length}
use lib.IntN.{ℤ}
use lib.Ieee.{Float}
use Rattle.definitions.specs.Table.{Table, table, largest_searched, largest_list}
use Rattle.definitions.specs.Checks.{pass}
use Rattle.definitions.specs.Calls as C
use Rattle.definitions.proofs.Passed.{list_passed}
use Rattle.definitions.proofs.Answers.{list_checks_are, list_refused}
use Rattle.refusals.specs.Numbers.{numbered}
use Rattle.refusals.proofs.Early.{handed_up}
use Rattle.listing.specs.View.{list_answer}
use Rattle.listing.specs.Ready.{ListFits}
use Rattle.listing.proofs.Endings.{answer_refused}
use Rattle.listing.proofs.list.Goals as goal
use Rattle.listing.proofs.list.Goals.{In_ok-list_check}

-- ---- once the checks have passed
module _ (c : In_ok-list_check) where
  -- the slices at entry
  abbrev own : List Float
  own = c.args.distances.now

  abbrev coordinates : List ℤ
  coordinates = c.args.points.now

  abbrev t : Table
  t = table c.args.weights.now c.args.mu.now

  passed : C.list_checks largest_searched t c.args.target.now own coordinates c.args.radius c.args.budget ≡ pass
  passed = list_checks_are t c.args.target.now own coordinates c.args.radius c.args.budget ∙ sym c.in_ok-list_check.ensures

  few : length own ≤ largest_list
  few = (list_passed largest_searched t c.args.target.now own coordinates c.args.radius c.args.budget passed).places

  fits : (places : ℕ) → length own ≤ places → ListFits t c.args.target.now own coordinates c.args.radius c.args.budget places
  fits places h = record { passed = passed; places_fit = h }

pub returns-in_err-list_check : goal.returns-in_err-list_check
returns-in_err-list_check c =
    let a = c.args in
    let t = table a.weights.now a.mu.now in
    let e = numbered c.in_err-list_check.field-0.0 in
    let q = list_refused t a.target.now a.distances.now a.points.now a.radius a.budget e (list_checks_are t a.target.now a.distances.now a.points.now a.radius a.budget ∙ sym c.in_err-list_check.ensures) in
    answer_refused (C.list t a.target.now a.distances.now a.points.now a.radius a.budget) _ a.distances.now a.points.now e (ap list_answer (handed_up _ c.from_residual.ensures.1)) q

pub list_with-requires-clause-fits : goal.list_with-requires-clause-fits
list_with-requires-clause-fits c = fits (goal.at.list_with-requires-clause-fits c).In_ok-list_check 256 c.if-distances-le-SHORT_LIST.true

pub list_with-requires-then-points-le-BROAD_LIST_POINTS-clause-fits : goal.list_with-requires-then-points-le-BROAD_LIST_POINTS-clause-fits
list_with-requires-then-points-le-BROAD_LIST_POINTS-clause-fits c =
    fits (goal.at.list_with-requires-then-points-le-BROAD_LIST_POINTS-clause-fits c).In_ok-list_check 256 c.if-distances-le-SHORT_LIST-2.true

pub list_with-requires-then-distances-le-SHORT_LIST-3-clause-fits : goal.list_with-requires-then-distances-le-SHORT_LIST-3-clause-fits
list_with-requires-then-distances-le-SHORT_LIST-3-clause-fits c =
    fits (goal.at.list_with-requires-then-distances-le-SHORT_LIST-3-clause-fits c).In_ok-list_check 256 c.if-distances-le-SHORT_LIST-3.true

pub list_with-requires-then-points-le-MIDDLE_LIST_POINTS-clause-fits : goal.list_with-requires-then-points-le-MIDDLE_LIST_POINTS-clause-fits
list_with-requires-then-points-le-MIDDLE_LIST_POINTS-clause-fits c =
    let h = (goal.at.list_with-requires-then-points-le-MIDDLE_LIST_POINTS-clause-fits c).In_ok-list_check in
    fits h largest_list (few h)

pub list_with-requires-2-clause-fits : goal.list_with-requires-2-clause-fits
list_with-requires-2-clause-fits c = let h = (goal.at.list_with-requires-2-clause-fits c).In_ok-list_check in fits h largest_list (few h)
