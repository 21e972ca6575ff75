-- `waiting` is the level by its definition: the child and the nearest integer, which are signed, are what they were. Assumes nothing.
use mathlib.Core.Path.{sym, ap}
use mir.Syntax.{w64}
use mir.Val.{SFits}
use mir.ValLaws.{to_z-of_z}
use Rattle.resume.specs.View.{waiting_of}
use Rattle.resume.proofs.waiting.Goals as goal

pub returns : goal.returns
returns c =
    let a = c.args in
    let x : SFits w64 c.in-Some.g.nearest = record { sfits = c.struct_told-1.given.1.1.1.0.1 } in
    let y : SFits w64 c.in-Some.trial.z = record { sfits = c.struct_told-2-1.given.0.1 } in
    rw (to_z-of_z w64 _ x, to_z-of_z w64 _ y) (ap (waiting_of a.level a.partial a.other) (sym c.in-Some.is))
