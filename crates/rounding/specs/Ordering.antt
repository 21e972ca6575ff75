-- The logic's orderings as the code's. Definitions only.
use Prim.Native.Nat.{Ordering as Order}
use Rattle.std.specs.declared.cmp.Ordering.{Ordering}
use Rattle.std.specs.declared.cmp.Ordering.TheVariants.{Less, Equal, Greater}

abbrev pub ordering_of : Order → Ordering
ordering_of Order.lt = Less
ordering_of Order.eq = Equal
ordering_of Order.gt = Greater
