-- A list with a part of it overwritten. Definitions only.
use Rattle.std.specs.Prelude.{ℕ, ◌+◌, List, ◌++◌, length, take, drop}

-- old with new written from at on
abbrev pub over : {A : Type 0} → List A → ℕ → List A → List A
over old at new = take at old ++ new ++ drop (at + length new) old
