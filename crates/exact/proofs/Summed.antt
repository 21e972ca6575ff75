-- The sum after some rows: it is the rows' own, and its magnitude is at most so many products'. Assumes nothing.
use mathlib.Core.Path.{◌≡◌, ap, sym, ◌∙◌}
use mathlib.Core.List.{List}
use Prim.Native.Nat.{ℕ, ◌+◌, ◌*◌, ◌^◌, ◌<◌, ◌≤◌}
use native.Mathlib.Nat.{mul-le-mul}
use native.Mathlib.Numerals.{add-one}
use native.Mathlib.Omega.{arith}
use lib.IntN.{ℤ, pos, nat_abs, ◌+ℤ◌, ◌*ℤ◌}
use lib.ListN.{get_or}
use lib.Signed.{nat_abs-le}
use mir.Syntax.{w64, w128}
use mir.Val.{SFits, to_z, of_z}
use mir.ValLaws.{to_z-of_z}
use Rattle.std.proofs.lemmas.Int.{ints, unsigned_abs-mul, fits_signed_from_abs}
use Rattle.lists.specs.Sums.{sum_of}
use Rattle.lists.proofs.Sums.{sum_none, sum_next}

plus_bound : (x y : ℤ) → nat_abs (x +ℤ y) ≤ nat_abs x + nat_abs y
plus_bound x y = omega (arith, ints)

-- ---- a product
-- p and q widened to 128 bits and multiplied
abbrev wide_product : ℤ → ℤ → ℤ
wide_product p q = to_z w128 (of_z w128 (to_z w128 (of_z w128 p) *ℤ to_z w128 (of_z w128 q)))

module _ (x y p q : ℤ) (x-fits : SFits w64 x) (y-small : nat_abs y ≤ 2 ^ 52) (p-is : p ≡ to_z w64 (of_z w64 x)) (q-is : q ≡ to_z w64 (of_z w64 y)) where
  product_bound : nat_abs (x *ℤ y) ≤ 2 ^ 115
  product_bound = omega (arith, unsigned_abs-mul x y, mul-le-mul (nat_abs-le x x-fits.sfits) y-small)

  product_is : wide_product p q ≡ x *ℤ y
  product_is =
      let p-x : to_z w128 (of_z w128 p) ≡ x = omega (arith, ints) in
      let q-y : to_z w128 (of_z w128 q) ≡ y = omega (arith, ints) in
      rw (p-x, q-y) (to_z-of_z w128 (x *ℤ y) (fits_signed_from_abs w128 (x *ℤ y) (omega (arith, product_bound))))

-- ---- the sum after some of n rows
module _ (left : List ℤ) (first : ℕ) (matrix : List ℤ) (n column : ℕ) where
  -- a row's product
  abbrev term : ℕ → ℤ
  term k = get_or left (first + k) (pos 0) *ℤ get_or matrix (k * n + column) (pos 0)

  pub record Summed (sum : ℤ) (row : ℕ) : Type 0 where
    pub rows : row ≤ n
    pub is : sum ≡ sum_of row term
    pub bound : nat_abs sum ≤ row * 2 ^ 115

  pub summed_none : Summed (pos 0) 0
  summed_none = record { rows = omega arith; is = sym (sum_none term); bound = omega arith }

  summed_next : (sum : ℤ) (row : ℕ) → row < n → Summed sum row → nat_abs (term row) ≤ 2 ^ 115 → Summed (sum +ℤ term row) (row + 1)
  summed_next sum row more s small = record {
    rows = omega arith;
    is = ap (λ (z : ℤ). z +ℤ term row) s.is ∙ sym (ap (λ (k : ℕ). sum_of k term) (add-one row) ∙ sum_next row term);
    bound = omega (arith, plus_bound sum (term row), s.bound);
  }

  -- a row more: 64 products are below 2^127
  pub record RowAdded (sum : ℤ) (row : ℕ) : Type 0 where
    pub fits : SFits w128 sum
    pub next : Summed (to_z w128 (of_z w128 sum)) (row + 1)

  module _ (sum : ℤ) (row : ℕ) (p q : ℤ) where
    abbrev x : ℤ
    x = get_or left (first + row) (pos 0)

    abbrev y : ℤ
    y = get_or matrix (row * n + column) (pos 0)

    pub row_added : n ≤ 64 → row < n → Summed sum row → SFits w64 x → nat_abs y ≤ 2 ^ 52 → p ≡ to_z w64 (of_z w64 x) → q ≡ to_z w64 (of_z w64 y) → RowAdded (sum +ℤ wide_product p q) row
    row_added few more s x-fits y-small p-is q-is =
        let next : Summed (sum +ℤ wide_product p q) (row + 1) =
        rw (product_is x y p q x-fits y-small p-is q-is) (summed_next sum row more s (product_bound x y p q x-fits y-small p-is q-is)) in
        let fits : SFits w128 (sum +ℤ wide_product p q) = fits_signed_from_abs w128 (sum +ℤ wide_product p q) (omega (arith, next.bound)) in
        record { fits = fits; next = rw (to_z-of_z w128 _ fits) next }
