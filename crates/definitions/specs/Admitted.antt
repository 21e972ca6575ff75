-- Vectors and prefixes, and which are admitted and opened at a radius R: docs/SPECIFICATION.md, "Distance". Definitions only.
use Rattle.std.specs.Prelude.{Bool, true, false, ◌&&◌, List, [], ◌∷◌, leb, eqb, length, ℤ, Float}
use Rattle.std.specs.Float.{binary64}
use Rattle.std.specs.Float.Ieee.{sub, le}
use Rattle.rounding.specs.Integers.{is_i64}
use Rattle.definitions.specs.Table.{Table, dimension}
use Rattle.definitions.specs.Distance.{level_term, partial}

-- each is a signed 64-bit integer
unfoldable pub all_i64 : List ℤ → Bool
all_i64 [] = true
all_i64 (z ∷ zs) = is_i64 z && all_i64 zs

-- a vector of n signed 64-bit integers
unfoldable pub is_vector : Table → List ℤ → Bool
unfolding all_i64
is_vector t zs = eqb (length zs) (dimension t) && all_i64 zs

-- a prefix: at least one coordinate and at most n, of the highest levels
unfoldable pub is_prefix : Table → List ℤ → Bool
unfolding all_i64
is_prefix t zs = (leb 1 (length zs) && leb (length zs) (dimension t)) && all_i64 zs

-- the first test, of the coordinate z below zs: term ≤ R - partial, the difference rounded
unfoldable pub first_test : Table → List Float → Float → ℤ → List ℤ → Bool
unfolding level_term partial sub le
first_test t target R z zs = le (level_term t target z zs) (sub binary64 R (partial t target zs))

-- the second test: partial + term ≤ R, the sum rounded
unfoldable pub second_test : Table → List Float → Float → ℤ → List ℤ → Bool
unfolding partial le
second_test t target R z zs = le (partial t target (z ∷ zs)) R

-- every level passes both tests
unfoldable pub passes : Table → List Float → Float → List ℤ → Bool
unfolding first_test second_test
passes t target R [] = true
passes t target R (z ∷ zs) = passes t target R zs && (first_test t target R z zs && second_test t target R z zs)

-- admitted at R: a vector whose every level passes both tests
unfoldable pub admitted : Table → List Float → Float → List ℤ → Bool
unfolding is_vector passes
admitted t target R zs = is_vector t zs && passes t target R zs

-- the lowest level passes the first test, all above it both
unfoldable pub passes_first : Table → List Float → Float → List ℤ → Bool
unfolding passes first_test
passes_first t target R [] = false
passes_first t target R (z ∷ zs) = passes t target R zs && first_test t target R z zs

-- opened at R: a prefix whose levels pass so
unfoldable pub opened : Table → List Float → Float → List ℤ → Bool
unfolding is_prefix passes_first
opened t target R zs = is_prefix t zs && passes_first t target R zs
