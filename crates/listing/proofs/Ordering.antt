-- The points at the first places, and what is known of them once they are those found. Assumes nothing.
use mathlib.Core.Path.{◌≡◌, refl, ap, sym, ◌∙◌, subst}
use mathlib.Core.List.{List, [], ◌∷◌, ◌++◌, map, reverse}
use Prim.Native.Nat.{ℕ, ◌+◌, ◌*◌, ◌≤◌, ◌<◌}
use native.Mathlib.Nat.{mul-le-mul_right}
use native.Mathlib.Omega.{arith}
use lib.ListN.{length, get_or, take, drop, length-drop, take-append-drop}
use lib.Seq.{length-take-le, get_or-take, drop-append-le, take-append-le}
use lib.IntN.{ℤ}
use lib.Ieee.{Float, nan, binary64}
use Rattle.rounding.specs.Kinds.{NonNegative}
use Rattle.definitions.specs.Listing.{ListPoint, sorted}
use Rattle.lists.specs.All.{All, none, more}
use Rattle.lists.specs.All.{AllBelow}
use Rattle.definitions.specs.Rows.{row, rows}
use Rattle.lists.proofs.Permutations.{reversed, all_kept}
use Rattle.definitions.proofs.Verdicts.{counted_below}
use Rattle.definitions.proofs.ListedOrder.{Listed, listed_order}
use Rattle.sorting.proofs.Mapping.{rows_counted}
use Rattle.sorting.proofs.Rows.{rows_distances, all_nonneg}
use Rattle.sorting.proofs.Comparison.{row_fits}
use Rattle.sorting.proofs.Sorted.{sorted_reversed}

-- ---- the distances at some places

module _ (n : ℕ) (distances : List Float) (points : List ℤ) where
  pub distances_at : (is : List ℕ) → map (λ (i : ℕ). get_or distances i nan) is ≡ map (λ (p : ListPoint). p.distance) (map (row n distances points) is)
  distances_at [] = refl
  distances_at (i ∷ is) = ap (λ (l : List Float). get_or distances i nan ∷ l) (distances_at is)

-- ---- the first places alone

-- n elements that lie in the front part
front : (n j : ℕ) (xs ys : List ℤ) → j + n ≤ length xs → take n (drop j (xs ++ ys)) ≡ take n (drop j xs)
front n j xs ys h =
    let a : j ≤ length xs = omega arith in
    let b : n ≤ length (drop j xs) = simp length-drop (omega arith) in
    ap (λ (l : List ℤ). take n l) (drop-append-le j xs ys a) ∙ take-append-le n (drop j xs) ys b

module _ (n k : ℕ) (distances : List Float) (points : List ℤ) (places : k ≤ length distances) (points_length : length points ≡ length distances * n) where
  abbrev firsts : List Float
  firsts = take k distances

  abbrev heads : List ℤ
  heads = take (k * n) points

  pub firsts_length : length firsts ≡ k
  firsts_length = length-take-le k distances places

  size_within : k * n ≤ length points
  size_within = omega (arith, mul-le-mul_right n places)

  pub heads_length : length heads ≡ k * n
  heads_length = length-take-le (k * n) points size_within

  row_first : (i : ℕ) → i < k → row n firsts heads i ≡ row n distances points i
  row_first i h =
      let fits : i * n + n ≤ length heads = omega (arith, row_fits n k i h, heads_length) in
      ap (λ (d : Float). record { distance = d; point = take n (drop (i * n) heads) }) (get_or-take k distances i nan h)
      ∙ ap (λ (l : List ℤ). record { distance = get_or distances i nan; point = l })
      (sym (front n (i * n) heads (drop (k * n) points) fits) ∙ ap (λ (l : List ℤ). take n (drop (i * n) l)) (take-append-drop (k * n) points))

  rows_first : {is : List ℕ} → AllBelow k is → map (row n firsts heads) is ≡ map (row n distances points) is
  rows_first none = refl
  rows_first (more {x = i} {xs = is} h rest) =
      ap (λ (p : ListPoint). p ∷ map (row n firsts heads) is) (row_first i h) ∙ ap (λ (l : List ListPoint). row n distances points i ∷ l) (rows_first rest)

  pub firsts_rows : rows n (length firsts) firsts heads ≡ rows n k distances points
  firsts_rows =
      ap (λ (j : ℕ). rows n j firsts heads) firsts_length
      ∙ rows_counted n firsts heads k
      ∙ rows_first (counted_below 0 k k (omega arith))
      ∙ sym (rows_counted n distances points k)

-- ---- where they hold the points found

module _ (n k : ℕ) (distances : List Float) (points : List ℤ) (ps : List ListPoint) (stored : rows n k distances points ≡ reverse ps) (listed : All (Listed n) ps) where
  pub stored_nonneg : k ≤ length distances → All (NonNegative binary64) (take k distances)
  stored_nonneg h = subst (All (NonNegative binary64)) (rows_distances n distances points k h) (all_nonneg (subst (All (Listed n)) (sym stored) (all_kept (reversed ps) listed)))

  pub stored_sorted : sorted (rows n k distances points) ≡ sorted ps
  stored_sorted = ap sorted stored ∙ sorted_reversed (listed_order n) ps listed
