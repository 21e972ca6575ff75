-- `serve_part` meets its contract: the part is cleared, or picked up. Assumes nothing.
use native.Mathlib.Omega.{arith}
use Rattle.definitions.specs.Block.{Block}
use Rattle.definitions.proofs.Block.{SoundCounts, sound_counts}
use Rattle.parts.specs.Parts.{block}
use Rattle.turns.proofs.Serving.{served_past, served_within}
use Rattle.turns.proofs.serve_part.Goals as goal
use Rattle.turns.proofs.serve_part.Goals.{Start}

abbrev part : Start → Block
part s = let a = s.args in block a.reals.now a.integers.now a.counts.now

passed : (s : Start) → SoundCounts (part s).counts
passed s = sound_counts (part s).counts s.requires.sound

pub overflow_sub-nodes : goal.overflow_sub-nodes
overflow_sub-nodes c = (passed (goal.at.overflow_sub-nodes c).Start).few_nodes

pub returns-then-slice-nodes : goal.returns-then-slice-nodes
returns-then-slice-nodes c =
    let s = (goal.at.returns-then-slice-nodes c).Start in
    served_past (part s) s.args.out.now s.args.slice s.requires (omega (arith, c.if-slice-nodes.true, (passed s).few_nodes)) c.clear.ensures

pub returns : goal.returns
returns c =
    let s = (goal.at.returns c).Start in
    served_within (part s) s.args.out.now s.args.slice s.requires (omega (arith, c.if-slice-nodes.false, (passed s).few_nodes)) c.pick_up_part.ensures
