-- `list_within` lends the first places of its arrays, with lengths that fit. Assumes nothing.
use Rattle.definitions.specs.Table.{table, largest_searched}
use Rattle.definitions.proofs.Passed.{list_passed}
use Rattle.listing.proofs.list_within.Goals as goal

pub rooms-room-requires : goal.rooms-room-requires
rooms-room-requires c =
    let a = c.args in
    let p = list_passed largest_searched (table a.weights.now a.mu.now) a.target.now a.distances.now a.points.now a.radius a.budget c.requires.passed in
    record { small = p.checked.small; few = p.places }
