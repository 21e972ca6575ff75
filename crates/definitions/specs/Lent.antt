-- What a lent slice holds when a function is entered and, where it may be written, when it returns, for contracts. Definitions only.
use Rattle.std.specs.Prelude.{List, Float}
use Rattle.std.specs.Borrow.{Bor, MutBor}
use denote.Triple.Both.{Both}
use Rattle.definitions.specs.Table.{Table, table}

abbrev pub at_entry : {X S : Type 0} → Both (Bor X) S → X
at_entry x = x.entry.now

abbrev pub at_exit : {E X : Type 0} → Both E (MutBor X) → X
at_exit x = x.exit.now

-- the table that two slices hold at entry
abbrev pub table_at : {S S' : Type 0} → Both (Bor (List Float)) S → Both (Bor (List Float)) S' → Table
table_at weights mu = table (at_entry weights) (at_entry mu)
