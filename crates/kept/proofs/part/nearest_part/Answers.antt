-- `nearest_part` meets its contract: the walk begins, runs for its budget, and is over or is written. Assumes nothing.
use mathlib.Core.Path.{◌≡◌, refl, ap, ◌∙◌}
use mathlib.Core.List.{List, ◌++◌}
use lib.ListN.{length, take, drop}
use lib.Seq.{take_at}
use lib.Ieee.{Float}
use Rattle.definitions.specs.Table.{table}
use Rattle.definitions.specs.Block.{written_table}
use Rattle.definitions.proofs.Block.{table_length}
use Rattle.resume.specs.View.{machine_of}
use Rattle.parts.specs.Parts.{block}
use Rattle.kept.proofs.Naming.{over, goes_on, front_as}
use Rattle.kept.proofs.part.nearest_part.Goals as goal
use Rattle.kept.proofs.part.nearest_part.Goals.{After-write_table}

pub returns-then-s-eq0 : goal.returns-then-s-eq0
returns-then-s-eq0 c =
    let a = c.args in
    over (block a.reals.now a.integers.now a.counts.now) a.weights.now a.mu.now a.target.now a.out.now a.radius a.budget c.begun-first.result c.run_to-s.result _ c.begun-first.ensures c.run_to-s.ensures c.requires.shape.shape.output_length c.if-s-eq0.true c.end_of.ensures

-- the doubles once the table is written
module _ (w : After-write_table) where
  abbrev front : List Float
  front = let a = w.args in written_table (table a.weights.now a.mu.now) a.target.now a.radius

  front_length : length front ≡ 576
  front_length =
      let a = w.args in
      let shape = w.requires.shape.shape.shape in
      table_length (table a.weights.now a.mu.now) a.target.now a.radius shape.small shape.square shape.target_length

  front_there : (reals : List Float) → reals ≡ front ++ drop 576 w.args.reals.now → take 576 reals ≡ front
  front_there reals e = ap (take 576) e ∙ take_at front (drop 576 w.args.reals.now) 576 front_length

pub returns : goal.returns
returns c =
    let w = (goal.at.returns c).After-write_table in
    let a = c.args in
    let x = c.write_walk.ensures a.weights.now refl in
    goes_on (block a.reals.now a.integers.now a.counts.now) a.weights.now a.mu.now a.target.now a.out.now a.radius a.budget c.begun-first.result c.run_to-s.result _ c.begun-first.ensures c.run_to-s.ensures c.if-s-eq0.false
    (front_as (length a.weights.now) (machine_of a.weights.now c.run_to-s.result) (front_there w _ c.write_table.ensures) x)
