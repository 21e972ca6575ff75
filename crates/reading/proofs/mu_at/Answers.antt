-- `mu_at`: the places lent hold mu's rows. Assumes nothing.
use mathlib.Core.Path.{ap, ◌∙◌}
use Prim.Native.Nat.{ℕ, ◌*◌}
use lib.ListN.{replicate}
use lib.Ieee.{binary64, of_bits}
use Rattle.rounding.proofs.Interface.{zero_is}
use Rattle.definitions.specs.Table.{largest_dimension}
use Rattle.reading.proofs.Arrays.{square_fits, take_replicate}
use Rattle.reading.proofs.mu_at.Goals as goal

abbrev largest : ℕ
largest = largest_dimension * largest_dimension

pub rows_at-requires : goal.rows_at-requires
rows_at-requires c =
    let size = c.args.n * c.args.n in
    record { items = c.requires; zeros = take_replicate size largest (of_bits binary64 0) (square_fits c.args.n c.requires.small) ∙ ap (replicate size) zero_is }
