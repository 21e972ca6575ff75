-- The leaf of `nearest`: when it replaces the best. Assumes nothing.
use mathlib.Core.Path.{◌≡◌, refl, ap, sym, ◌∙◌}
use mathlib.Core.Bool.{Bool, true, false, cond}
use mathlib.Core.List.{List}
use Prim.Native.Nat.{ℕ, ◌<◌}
use borrow.Author.Tests.{lt-ltb}
use lib.IntN.{ℤ}
use lib.ListN.{length, take}
use lib.Ieee.{Float}
use Rattle.definitions.specs.Walk.{Walked, ended, exhausted}
use Rattle.definitions.specs.Nearest.{best, no_best, replaces}
use Rattle.search.specs.Kept.{Kept, leaf}
use Rattle.search.specs.declared.RecursiveSearch.{RecursiveSearch}
use Rattle.search.specs.View.{Search, carried, best_of, kept, seen, with_best, Considered}

-- a search that is not exhausted, and what it keeps
abbrev pub held : Search → Kept → Walked Kept
held s k = ended k s.radius s.nodes

-- what `seen` says, with what it keeps given
abbrev pub shown : Search → Kept → Walked Kept
shown s k = cond s.exhausted (exhausted s.nodes s.radius) (held s k)

pub shown_held : (s : Search) (k : Kept) → s.exhausted ≡ false → shown s k ≡ held s k
shown_held s k e = ap (λ (b : Bool). cond b (exhausted s.nodes s.radius) (held s k)) e

pub shown_exhausted : (s : Search) (k : Kept) → s.exhausted ≡ true → shown s k ≡ exhausted s.nodes s.radius
shown_exhausted s k e = ap (λ (b : Bool). cond b (exhausted s.nodes s.radius) (held s k)) e

-- ---- the definitions, a clause each
abbrev with_point : List ℤ → Kept → Kept
with_point zs k = record { best = best zs; count = k.count; stored = k.stored }

pub considers_is : (room : ℕ) (zs : List ℤ) (d : Float) (k : Kept) (R : Float) (m : ℕ) → leaf false room zs d k R m ≡ cond (replaces zs d k.best R) (ended (with_point zs k) d m) (ended k R m)
unfolding leaf
considers_is room zs d k R m = refl

-- ---- a leaf of the code
module _ (n : ℕ) (s : RecursiveSearch) (d : Float) (found : ℕ) where
  abbrev pub better : Bool
  better = replaces (take n s.point) d (best_of n (carried false s found false)) s.radius

  abbrev old : List Float → List ℤ → Kept
  old distances points = kept n (carried false s found false) distances points

  leaf_by : (b : Bool) → better ≡ b → (distances : List Float) (points : List ℤ) → leaf false (length distances) (take n s.point) d (old distances points) s.radius s.nodes ≡ cond b (ended (with_point (take n s.point) (old distances points)) d s.nodes) (ended (old distances points) s.radius s.nodes)
  leaf_by b e distances points =
      considers_is (length distances) (take n s.point) d (old distances points) s.radius s.nodes
      ∙ ap (λ (x : Bool). cond x (ended (with_point (take n s.point) (old distances points)) d s.nodes) (ended (old distances points) s.radius s.nodes)) e

  -- with a best, what is kept
  with_point_lem : (found' : ℕ) → 0 < found' → (distances : List Float) (points : List ℤ) → seen n (carried false (with_best s d) found' false) distances points ≡ ended (with_point (take n s.point) (old distances points)) d s.nodes
  with_point_lem found' h distances points = ap (λ (b : Bool). ended (record { best = cond b (best (take n s.point)) no_best; count = 0; stored = (old distances points).stored }) d s.nodes) (lt-ltb 0 found' h)

  pub replaced : (r : RecursiveSearch) → r ≡ with_best s d → (found' : ℕ) → 0 < found' → better ≡ true → Considered n s d found r found'
  replaced r e found' l h = record {
    seen_as = λ distances points. ap (λ (x : RecursiveSearch). seen n (carried false x found' false) distances points) e ∙ with_point_lem found' l distances points ∙ sym (leaf_by true h distances points);
    point = ap (λ (x : RecursiveSearch). x.point) e;
    nodes = ap (λ (x : RecursiveSearch). x.nodes) e;
  }

  pub stayed : better ≡ false → Considered n s d found s found
  stayed h = record { seen_as = λ distances points. sym (leaf_by false h distances points); point = refl; nodes = refl }
