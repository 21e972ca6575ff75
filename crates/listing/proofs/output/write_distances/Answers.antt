-- `write_distances`: the places passed hold the distances in the order. Assumes nothing.
use mathlib.Core.Path.{ap, sym, ◌∙◌}
use mathlib.Core.List.{List, map}
use Prim.Native.Nat.{ℕ}
use native.Mathlib.Omega.{arith}
use lib.ListN.{length, get_or, set, take, length-set}
use lib.Ieee.{Float, nan}
use borrow.Author.Rules.{rules, scaled_Fits}
use Rattle.definitions.specs.Calls.{written}
use Rattle.lists.proofs.Each.{at_place}
use Rattle.lists.proofs.Segments.{mapped_more, mapped_length}
use Rattle.listing.proofs.Writing.{written_more}
use Rattle.listing.proofs.output.write_distances.Goals as goal

pub offset_bounds-found-place : goal.offset_bounds-found-place
offset_bounds-found-place c =
    scaled_Fits _ (length c.args.found.now) 8 (at_place c.loop-i.i 0 c.requires.below (omega arith)) (search rules)

pub bounds-found-place : goal.bounds-found-place
bounds-found-place c = at_place c.loop-i.i 0 c.requires.below (omega arith)

pub loop-i-preserved : goal.loop-i-preserved
loop-i-preserved c =
    let a = c.args in
    let i = c.loop-i.i in
    let f : ℕ → Float = λ j. get_or a.found.now j nan in
    let y = f (get_or a.order.now i 0) in (
      omega arith,
      length-set c.loop-i.distances i y ∙ c.loop-i.invariant.1,
      ap (λ (ds : List Float). set ds i y) c.loop-i.invariant.2
          ∙ written_more (map f (take i a.order.now)) a.distances.now i y (mapped_length f a.order.now i c.loop-i.invariant.0) (omega arith)
          ∙ ap (λ (ds : List Float). written ds a.distances.now) (sym (mapped_more f a.order.now i 0 (omega arith))),
    )
