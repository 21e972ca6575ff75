-- A part of a list by its places. Definitions only.
use Rattle.std.specs.Prelude.{ℕ, List, take, drop}

-- of the first n places those from d on
abbrev pub places : {A : Type 0} → ℕ → ℕ → List A → List A
places n d xs = drop d (take n xs)
