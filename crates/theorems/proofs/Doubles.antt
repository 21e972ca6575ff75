-- A list of doubles, by its test and element by element. Assumes nothing.
use mathlib.Core.List.{List, [], ◌∷◌}
use lib.Dec.{T}
use lib.Ieee.{Float, binary64, fits}
use lib.Ieee.Fits.{and_i, and_l, and_r}
use Rattle.lists.specs.All.{All, none, more}
use Rattle.theorems.specs.Doubles.{all_doubles}

abbrev pub AllDouble : List Float → Type 0
AllDouble xs = All (λ (x : Float). T (fits binary64 x)) xs

pub all_double : (xs : List Float) → T (all_doubles xs) → AllDouble xs
unfolding all_doubles
all_double [] d = none
all_double (x ∷ xs) d = more (and_l (fits binary64 x) (all_doubles xs) d) (all_double xs (and_r (fits binary64 x) (all_doubles xs) d))

pub doubles_tested : {xs : List Float} → AllDouble xs → T (all_doubles xs)
unfolding all_doubles
doubles_tested none = tt
doubles_tested (more {x = x} {xs = xs} d a) = and_i (fits binary64 x) (all_doubles xs) d (doubles_tested a)
