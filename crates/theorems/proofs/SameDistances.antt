-- Tables with the same entries that are read give the same centres and the same partial sums. Assumes nothing.
use mathlib.Core.Path.{◌≡◌, refl, sym, ap, ◌∙◌}
use mathlib.Core.List.{List, [], ◌∷◌}
use Prim.Native.Nat.{ℕ, suc, ◌+◌, ◌-◌, ◌≤◌, ◌<◌}
use native.Mathlib.Omega.{arith}
use lib.ListN.{length}
use lib.IntN.{ℤ}
use lib.Ieee.{Float, binary64, add, sub, mul}
use Rattle.rounding.specs.Integers.{to_double}
use Rattle.definitions.specs.Table.{Table, table, dimension, weight, entry, coordinate}
use Rattle.definitions.specs.Distance.{center_from, center, term, partial}
use Rattle.definitions.proofs.Distances.{partial_step}
use Rattle.theorems.specs.SameRead.{SameRead}

module _ (t : Table) (mu' : List Float) (same : SameRead t (table t.weights mu')) (target : List Float) where
  abbrev t' : Table
  t' = table t.weights mu'

  abbrev n : ℕ
  n = dimension t

  same_center_from : (level j : ℕ) (zs : List ℤ) (c : Float) → level < j → j + length zs ≤ n → center_from n t.mu target level j zs c ≡ center_from n mu' target level j zs c
  unfolding center_from
  same_center_from level j [] c above fits = refl
  same_center_from level j (z ∷ zs) c above fits =
      let added : Float → Float = λ e. add binary64 c (mul binary64 (sub binary64 (coordinate target j) (to_double z)) e) in
      ap (λ (e : Float). center_from n t.mu target level (suc j) zs (added e)) (same.entries j level above (omega arith))
      ∙ same_center_from level (suc j) zs (added (entry n mu' j level)) (omega arith) (omega arith)

  pub same_center : (level : ℕ) (zs : List ℤ) → suc level + length zs ≡ n → center t target level zs ≡ center t' target level zs
  unfolding center
  same_center level zs e = same_center_from level (suc level) zs (coordinate target level) (omega arith) (omega arith)

  pub same_partial : (zs : List ℤ) → length zs ≤ n → partial t target zs ≡ partial t' target zs
  unfolding partial
  same_partial [] fits = refl
  same_partial (z ∷ zs) fits =
      let level = n - suc (length zs) in
      let e : suc level + length zs ≡ n = omega arith in
      partial_step t target z zs level e
      ∙ (λ i. add binary64 (same_partial zs (omega arith) i) (term (weight t level) (same_center level zs e i) z))
      ∙ sym (partial_step t' target z zs level e)
