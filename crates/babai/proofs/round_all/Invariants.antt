-- `round_all`: the places passed hold the rounded coefficients. Assumes nothing.
use mathlib.Core.Path.{◌≡◌}
use mathlib.Core.List.{map}
use lib.ListN.{take}
use Rattle.rounding.specs.Integers.{round_away}
use Rattle.babai.proofs.round_all.Given as goal

abbrev pub invariant-loop-i : goal.invariant-loop-i
invariant-loop-i l = take l.i l.out ≡ map round_away (take l.i l.coefficients)
