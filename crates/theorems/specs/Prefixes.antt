-- The opened prefixes and the admitted vectors as lists, in the order in which the list walk comes to them. Definitions only.
use Rattle.std.specs.Prelude.{ℕ, zero, suc, cond, List, [], ◌∷◌, ◌++◌, ℤ, Float}
use Rattle.std.specs.Float.{binary64}
use Rattle.std.specs.Float.Ieee.{sub}
use Rattle.definitions.specs.Table.{Table, dimension, weight}
use Rattle.definitions.specs.Distance.{center, partial}
use Rattle.definitions.specs.Admitted.{second_test}
use Rattle.theorems.specs.Children.{children}

-- a list of lists, one for each integer, end to end
abbrev pub joined : (ℤ → List (List ℤ)) → List ℤ → List (List ℤ)
joined f [] = []
joined f (z ∷ zs) = f z ++ joined f zs

-- the children of a level at the radius R, zs being the coordinates above it
abbrev pub level_children : Table → List Float → Float → ℕ → List ℤ → List ℤ
level_children t target R level zs = children (center t target level zs) (sub binary64 R (partial t target zs)) (weight t level)

-- the opened prefixes below zs, with so many levels left
unfoldable pub opened_below : Table → List Float → Float → ℕ → List ℤ → List (List ℤ)
unfolding children center partial sub second_test
opened_below t target R zero zs = []
opened_below t target R (suc level) zs =
    joined (λ z. (z ∷ zs) ∷ cond (second_test t target R z zs) (opened_below t target R level (z ∷ zs)) []) (level_children t target R level zs)

-- the admitted vectors that end in zs
unfoldable pub admitted_below : Table → List Float → Float → ℕ → List ℤ → List (List ℤ)
unfolding children center partial sub second_test
admitted_below t target R zero zs = zs ∷ []
admitted_below t target R (suc level) zs =
    joined (λ z. cond (second_test t target R z zs) (admitted_below t target R level (z ∷ zs)) []) (level_children t target R level zs)

-- all opened prefixes, all admitted vectors
abbrev pub opened_prefixes : Table → List Float → Float → List (List ℤ)
opened_prefixes t target R = opened_below t target R (dimension t) []

abbrev pub admitted_vectors : Table → List Float → Float → List (List ℤ)
admitted_vectors t target R = admitted_below t target R (dimension t) []
