-- `consider` is the leaf of `nearest`: each exit is a law of `search`'s `NearestLeaf`. Assumes nothing.
use mathlib.Core.Path.{◌≡◌, ap, sym, ◌∙◌}
use mathlib.Core.Bool.{true, false}
use mathlib.Core.List.{List}
use Prim.Native.Nat.{ℕ, ◌<◌}
use native.Mathlib.Omega.{arith}
use lib.IntN.{ℤ}
use lib.ListN.{length}
use Rattle.search.specs.declared.RecursiveSearch.{RecursiveSearch}
use Rattle.search.specs.View.{with_best}
use Rattle.search.proofs.NearestLeaf.{better, replaced, stayed}
use Rattle.running.specs.declared.Standing.{Standing}
use Rattle.running.specs.Call.{search_of, ConsideredBy}
use Rattle.running.proofs.leaves.consider.Goals as goal
use Rattle.running.proofs.leaves.consider.Goals.{Start}

-- the search at the start, and what is left of it
abbrev given : Start → RecursiveSearch
given b = search_of b.args.point.now b.args.best.now b.args.s

abbrev Ends : Start → List ℤ → Standing → ℕ → Type 0
Ends b best r found = ConsideredBy b.args.n b.args.point.now b.args.best.now b.args.s b.args.distance b.args.found.now best r found

-- the point is taken, or it is not
takes : (b : Start) (best : List ℤ) (r : Standing) → search_of b.args.point.now best r ≡ with_best (given b) b.args.distance → (found : ℕ) → 0 < found → better b.args.n (given b) b.args.distance b.args.found.now ≡ true → Ends b best r found
takes b best r e found h is = record {
  considered = replaced b.args.n (given b) b.args.distance b.args.found.now (search_of b.args.point.now best r) e found h is;
  best_length = ap (λ (x : RecursiveSearch). length x.best) e ∙ b.requires.point_length;
}

leaves : (b : Start) → better b.args.n (given b) b.args.distance b.args.found.now ≡ false → Ends b b.args.best.now b.args.s b.args.found.now
leaves b is = record { considered = stayed b.args.n (given b) b.args.distance b.args.found.now is; best_length = b.requires.best_length }

pub returns-then-not-replaces : goal.returns-then-not-replaces
returns-then-not-replaces c = leaves (goal.at.returns-then-not-replaces c).Start (sym c.replaces.ensures ∙ c.if-not-replaces.true)

pub returns : goal.returns
returns c = takes (goal.at.returns c).Start _ c.taken.result c.taken.ensures 1 (omega arith) (sym c.replaces.ensures ∙ c.if-not-replaces.false)
