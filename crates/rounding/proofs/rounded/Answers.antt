-- `rounding::rounded` meets its contract: the sum with itself is exact and its whole part counts the halves. Assumes nothing.
use Rattle.std.proofs.Common.{ℕ, ◌+◌, ◌/◌, ◌%◌, sym, subst}
use Rattle.rounding.proofs.Comparison.{held}
use Rattle.rounding.specs.Rounded.{Rounds}
use Rattle.rounding.proofs.Doubling.{doubled}
use Rattle.rounding.proofs.rounded.Goals as goal

pub truncating_f64_to_u64-halves-requires : goal.truncating_f64_to_u64-halves-requires
truncating_f64_to_u64-halves-requires c =
    let d = doubled c.args.x (held c.well_formed.0.1) c.requires.above c.requires.below in
    record { lower_bound = d.above; upper_bound = d.below }

pub returns : goal.returns
returns c =
    let x = c.args.x in
    let d = doubled x (held c.well_formed.0.1) c.requires.above c.requires.below in
    subst (λ (h : ℕ). Rounds x (h / 2 + h % 2)) (sym c.truncating_f64_to_u64-halves.ensures) d.rounds
