-- A list of the vectors that a radius admits begins with the distance of a nearest vector which it admits. Assumes nothing.
use mathlib.Core.Path.{sym, ◌∙◌, subst}
use Prim.Native.Nat.{ℕ, ◌<◌}
use native.Mathlib.Nat.{suc-ne-zero, le_antisymm}
use native.Mathlib.Omega.{arith}
use mathlib.Core.List.{List, [], ◌∷◌}
use lib.Dec.{T}
use lib.IntN.{ℤ}
use lib.Ieee.{Float, binary64, le}
use Rattle.rounding.specs.Kinds.{NonNegative}
use Rattle.rounding.proofs.Interface.{le→ord, not_lt→le, nonneg_same}
use Rattle.definitions.specs.Table.{Table, dimension}
use Rattle.definitions.specs.Distance.{distance}
use Rattle.definitions.specs.Admitted.{admitted}
use Rattle.definitions.specs.Listing.{ListPoint}
use Rattle.definitions.proofs.ListedOrder.{Listed as Comparable}
use Rattle.theorems.specs.Ordered.{vectors_of, BeginsAt, StrictlyOrdered}
use Rattle.theorems.specs.Answers.{Nearest, Listed}
use Rattle.theorems.proofs.Booleans.{tally_true}
use Rattle.theorems.proofs.Limits.{Limits}
use Rattle.theorems.proofs.Counts.{count_head}
use Rattle.theorems.proofs.Sums.{distance_nonneg}
use Rattle.theorems.proofs.Sorting.{Every, comparable, listed_vector}
use Rattle.theorems.proofs.Others.{none_before}

pub first_listed : (t : Table) (target : List Float) (limits : Limits t target) (R : Float) (z : List ℤ) → Nearest t target R z → (ps : List ListPoint) (m : ℕ) → Listed t target R ps m → StrictlyOrdered ps → BeginsAt (distance t target z) ps
first_listed t target limits R z n [] m l s = suc-ne-zero 0 (sym (l.exact z ∙ tally_true (admitted t target R z) n.admits))
first_listed t target limits R z n (p ∷ rest) m l s =
    nonneg_same binary64 p.distance (distance t target z) all.0.distance nearest
    (le_antisymm (le→ord binary64 all.0.distance.num nearest.num no_farther) (le→ord binary64 nearest.num all.0.distance.num no_nearer))
  where
    all : Every (Comparable (dimension t)) (p ∷ rest)
    all = comparable t target limits (p ∷ rest) l.own (listed_vector l)

    nearest : NonNegative binary64 (distance t target z)
    nearest = distance_nonneg t target limits z n.vector

    no_farther : T (le p.distance (distance t target z))
    no_farther = none_before t target p rest all l.own s z (subst (λ (k : ℕ). 0 < k) (sym (l.exact z ∙ tally_true (admitted t target R z) n.admits)) (omega arith))

    no_nearer : T (le (distance t target z) p.distance)
    no_nearer =
        subst (λ (d : Float). T (le (distance t target z) d)) (sym l.own.0)
        (not_lt→le binary64 (subst (NonNegative binary64) l.own.0 all.0.distance).num nearest.num (n.least p.point (listed_vector l p.point (count_head p.point (vectors_of rest)))))
