-- `copy_places`: a copy over zeros. Assumes nothing.
use lib.IntN.{pos}
use lib.ListN.{length}
use Rattle.lists.proofs.Parts.{places_copied}
use Rattle.parts.proofs.filling.copy_places.Goals as goal

pub returns : goal.returns
returns c =
    let a = c.args in
    places_copied (pos 0) (length a.to.now) a.low a.end a.from.now c.fill.new.self c.copy.new.to (c.fill.ensures.after (λ y h. h)) c.requires.order c.requires.long c.requires.room c.copy.ensures
