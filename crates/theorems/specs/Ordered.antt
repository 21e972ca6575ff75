-- What is said of a list of points: its vectors, the distance that it begins at, that each point has its own distance, and that they are strictly in the list's order. Definitions only.
use Rattle.std.specs.Prelude.{◌≡◌, List, [], ◌∷◌, T, ℤ, Float}
use Rattle.definitions.specs.Table.{Table}
use Rattle.definitions.specs.Distance.{distance}
use Rattle.definitions.specs.Listing.{ListPoint, listed_before}

-- the vectors of the points
abbrev pub vectors_of : List ListPoint → List (List ℤ)
vectors_of [] = []
vectors_of (a ∷ rest) = a.point ∷ vectors_of rest

-- there is a first of these points, and its distance is d
abbrev pub BeginsAt : Float → List ListPoint → Type 0
BeginsAt d [] = ⊥
BeginsAt d (a ∷ rest) = a.distance ≡ d

-- each point has its own distance
abbrev pub OwnDistances : Table → List Float → List ListPoint → Type 0
OwnDistances t target [] = Unit {0}
OwnDistances t target (a ∷ rest) = (a.distance ≡ distance t target a.point) × OwnDistances t target rest

-- a comes before each of these
abbrev pub BeforeAll : ListPoint → List ListPoint → Type 0
BeforeAll a [] = Unit {0}
BeforeAll a (b ∷ rest) = T (listed_before a b) × BeforeAll a rest

-- each comes before all after it
abbrev pub StrictlyOrdered : List ListPoint → Type 0
StrictlyOrdered [] = Unit {0}
StrictlyOrdered (a ∷ rest) = BeforeAll a rest × StrictlyOrdered rest
