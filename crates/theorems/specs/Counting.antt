-- How often a vector stands in a list, lists that hold just the vectors that pass a test, each once, and the number of those. Definitions only.
use Rattle.std.specs.Prelude.{◌≡◌, ℕ, ◌+◌, Bool, true, false, ◌&&◌, List, [], ◌∷◌, eqb, length, ℤ, pos, negsuc}

abbrev pub eq_z : ℤ → ℤ → Bool
eq_z (pos a) (pos b) = eqb a b
eq_z (pos a) (negsuc b) = false
eq_z (negsuc a) (pos b) = false
eq_z (negsuc a) (negsuc b) = eqb a b

abbrev pub same_vector : List ℤ → List ℤ → Bool
same_vector [] [] = true
same_vector [] (y ∷ ys) = false
same_vector (x ∷ xs) [] = false
same_vector (x ∷ xs) (y ∷ ys) = eq_z x y && same_vector xs ys

abbrev pub tally : Bool → ℕ
tally true = 1
tally false = 0

-- how often zs stands in the list
abbrev pub count : List ℤ → List (List ℤ) → ℕ
count zs [] = 0
count zs (ys ∷ rest) = tally (same_vector zs ys) + count zs rest

-- the list holds each zs that passes the test once, and nothing else
abbrev pub EachOnce : (List ℤ → Bool) → List (List ℤ) → Type 0
EachOnce test list = (zs : List ℤ) → count zs list ≡ tally (test zs)

-- k is the number of those that pass the test: some list holds each of them once, and is k long
pub record NumberOf (test : List ℤ → Bool) (k : ℕ) : Type 0 where
  pub all : List (List ℤ)
  pub once : EachOnce test all
  pub long : length all ≡ k
