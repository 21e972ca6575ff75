-- The first places of an array made by repetition. Assumes nothing.
use mathlib.Core.Path.{◌≡◌, ap, sym, subst, ◌∙◌}
use mathlib.Core.List.{List, ◌++◌}
use Prim.Native.Nat.{ℕ, ◌+◌, ◌-◌, ◌*◌, ◌≤◌}
use native.Mathlib.Nat.{mul-le-mul}
use native.Mathlib.Omega.{arith}
use lib.ListN.{length, take, drop, replicate, length-append, length-drop, length-replicate, replicate-append-replicate}
use lib.Seq.{take_at}
use Rattle.definitions.specs.Table.{largest_dimension}
use Rattle.reading.specs.Parts.{ArrayHolds}

-- the entries of mu fit its array
pub square_fits : (n : ℕ) → n ≤ largest_dimension → n * n ≤ largest_dimension * largest_dimension
square_fits n h = mul-le-mul h h

pub take_replicate : {A : Type 0} (k n : ℕ) (a : A) → k ≤ n → take k (replicate n a) ≡ replicate k a
take_replicate k n a h =
    let e : n ≡ k + (n - k) = omega (arith, h) in
    ap (λ (m : ℕ). take k (replicate m a)) e
    ∙ ap (take k) (sym (replicate-append-replicate k (n - k) a))
    ∙ take_at (replicate k a) (replicate (n - k) a) k (length-replicate k a)

-- the first k places, lent and given back as xs
pub array_holds : {A : Type 0} (n k : ℕ) (a : A) (xs ys : List A) → k ≤ n → ys ≡ xs → length xs ≡ k → ArrayHolds n k xs (ys ++ drop k (replicate n a))
array_holds {A} n k a xs ys h same size = subst (λ (zs : List A). ArrayHolds n k xs (zs ++ drop k (replicate n a))) (sym same) (record {
  size =
      let l = length-append xs (drop k (replicate n a)) in
      let d = length-drop k (replicate n a) in
      let r = length-replicate n a in
      omega (arith, l, d, r, size);
  first = take_at xs (drop k (replicate n a)) k size;
})
