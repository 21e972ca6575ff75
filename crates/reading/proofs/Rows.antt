-- mu's rows, one after another, over zeros. Assumes nothing.
use mathlib.Core.Path.{◌≡◌, ap, sym, subst, ◌∙◌}
use mathlib.Core.List.{List, ◌∷◌, ◌++◌, append_assoc, append-nil, map-append}
use Prim.Native.Nat.{ℕ, zero, suc, ◌+◌, ◌-◌, ◌*◌, ◌≤◌, ◌<◌}
use native.Mathlib.Nat.{le_of_eq, suc-mul, zero-mul, add-mul, add-zero, add-suc, zero-add, suc-add}
use native.Mathlib.Omega.{arith}
use lib.ListN.{length, take, drop, replicate, length-append, length-drop, length-map, length-replicate, replicate-append-replicate}
use lib.Seq.{length-take-le, take_at, drop_at, drop-append-add, drop-drop}
use borrow.Rule.Slice.PartMut.{put_mid, post_of}
use lib.Ieee.{Float, binary64, of_bits}
use Rattle.definitions.specs.Table.{plus_zero}
use Rattle.definitions.specs.JobLayout.{number_at, items_at, doubles, triangle, mu_rows}
use Rattle.definitions.proofs.Triangles.{triangle_suc}
use Rattle.definitions.proofs.JobSections.{length_items}

-- ---- n(n-1)/2
pub triangle_more : (j k : ℕ) → triangle j ≤ triangle (j + k)
triangle_more j zero = let e = ap triangle (add-zero j) in omega (arith, e)
triangle_more j (suc k) =
    let e = ap triangle (add-suc j k) in
    let s = triangle_suc (j + k) in
    let i = triangle_more j k in
    omega (arith, e, s, i)

-- ---- the items of a part
items_more : (input : List ℕ) (offset a b : ℕ) → items_at input offset (a + b) ≡ items_at input offset a ++ items_at input (offset + 8 * a) b
unfolding items_at
items_more input offset zero b = ap (items_at input offset) (zero-add b) ∙ ap (λ (o : ℕ). items_at input o b) (sym (add-zero offset))
items_more input offset (suc a) b =
    let there : offset + 8 + 8 * a ≡ offset + 8 * suc a = omega arith in
    ap (items_at input offset) (suc-add a b)
    ∙ ap (λ (xs : List ℕ). number_at input offset 8 ∷ xs) (items_more input (offset + 8) a b)
    ∙ ap (λ (o : ℕ). number_at input offset 8 ∷ (items_at input (offset + 8) a ++ items_at input o b)) there

doubles_more : (input : List ℕ) (offset a b : ℕ) → doubles (items_at input offset (a + b)) ≡ doubles (items_at input offset a) ++ doubles (items_at input (offset + 8 * a) b)
doubles_more input offset a b = ap doubles (items_more input offset a b) ∙ map-append (of_bits binary64) (items_at input offset a) (items_at input (offset + 8 * a) b)

pub length_doubles : (input : List ℕ) (offset k : ℕ) → length (doubles (items_at input offset k)) ≡ k
length_doubles input offset k = length-map (items_at input offset k) (of_bits binary64) ∙ length_items input offset k

-- j items from the k-th on, out of n
pub part : (input : List ℕ) (offset k j n : ℕ) → k + j ≤ n → take j (drop k (doubles (items_at input offset n))) ≡ doubles (items_at input (offset + 8 * k) j)
part input offset k j n h =
    let e : n ≡ k + (j + (n - (k + j))) = omega (arith, h) in
    let here = offset + 8 * k in
    ap (λ (m : ℕ). take j (drop k (doubles (items_at input offset m)))) e
    ∙ ap (λ (xs : List Float). take j (drop k xs)) (doubles_more input offset k (j + (n - (k + j))))
    ∙ ap (take j) (drop_at (doubles (items_at input offset k)) (doubles (items_at input here (j + (n - (k + j))))) k (length_doubles input offset k))
    ∙ ap (take j) (doubles_more input here j (n - (k + j)))
    ∙ take_at (doubles (items_at input here j)) (doubles (items_at input (here + 8 * j) (n - (k + j)))) j (length_doubles input here j)

-- ---- rows
module _ (n : ℕ) (entries : List Float) (enough : triangle n ≤ length entries) where
  rest_of : (j : ℕ) → j < n → suc j + (n - suc j) ≡ n
  rest_of j h = omega (arith, h)

  row_length : (j : ℕ) → j < n → length (take j (drop (triangle j) entries)) ≡ j
  row_length j h =
      let more : triangle (suc j) ≤ triangle n = subst (λ (m : ℕ). triangle (suc j) ≤ triangle m) (rest_of j h) (triangle_more (suc j) (n - suc j)) in
      let s = triangle_suc j in
      let l = length-drop (triangle j) entries in
      length-take-le j (drop (triangle j) entries) (omega (arith, more, s, l, enough))

  pub length_rows : (j : ℕ) → j ≤ n → length (mu_rows n entries j) ≡ j * n
  unfolding mu_rows
  length_rows zero h = sym (zero-mul n)
  length_rows (suc j) h =
      let row = take j (drop (triangle j) entries) in
      let a : length (mu_rows n entries (suc j)) ≡ length (mu_rows n entries j ++ row) + length (replicate (n - j) plus_zero) = length-append (mu_rows n entries j ++ row) (replicate (n - j) plus_zero) in
      let b = length-append (mu_rows n entries j) row in
      let c = length-replicate (n - j) plus_zero in
      let i = length_rows j (omega (arith, h)) in
      let r = row_length j h in
      let m = suc-mul j n in
      omega (arith, a, b, c, i, r, m)

  -- the rows below j over zeros
  abbrev pub rows_over_zeros : ℕ → List Float
  rows_over_zeros j = mu_rows n entries j ++ replicate ((n - j) * n) plus_zero

  -- the zeros from row j on: those of the row's own places, of the rest of the row, and of the later rows
  zeros : (j : ℕ) → j < n → replicate ((n - j) * n) plus_zero ≡ replicate j plus_zero ++ (replicate (n - j) plus_zero ++ replicate ((n - suc j) * n) plus_zero)
  zeros j h =
      let up : n - j ≡ suc (n - suc j) = omega (arith, h) in
      let m = suc-mul (n - suc j) n in
      let e = ap (λ (k : ℕ). k * n) up in
      let sum : (n - j) * n ≡ j + (n - j + (n - suc j) * n) = omega (arith, e, m, h) in
      ap (λ (k : ℕ). replicate k plus_zero) sum
      ∙ sym (replicate-append-replicate j (n - j + (n - suc j) * n) plus_zero)
      ∙ ap (λ (xs : List Float). replicate j plus_zero ++ xs) (sym (replicate-append-replicate (n - j) ((n - suc j) * n) plus_zero))

  pub length_over_zeros : (j : ℕ) → j ≤ n → length (rows_over_zeros j) ≡ n * n
  length_over_zeros j h =
      let a = length-append (mu_rows n entries j) (replicate ((n - j) * n) plus_zero) in
      let b = length_rows j h in
      let c = length-replicate ((n - j) * n) plus_zero in
      let d = add-mul j (n - j) n in
      let e : j + (n - j) ≡ n = omega (arith, h) in
      let f = ap (λ (k : ℕ). k * n) e in
      omega (arith, a, b, c, d, f)

  -- one more row, in the place of its zeros
  pub next_row : (j : ℕ) → j < n → (k : ℕ) → k ≡ j → put_mid (j * n) k (rows_over_zeros j) (take j (drop (triangle j) entries)) ≡ rows_over_zeros (suc j)
  unfolding mu_rows
  next_row j h k same =
      let before = mu_rows n entries j in
      let row = take j (drop (triangle j) entries) in
      let own = replicate (n - j) plus_zero in
      let later = replicate ((n - suc j) * n) plus_zero in
      let l = length_rows j (omega (arith, h)) in
      let left = ap (λ (i : ℕ). drop (i + j) (rows_over_zeros j)) (sym l) ∙ drop-append-add before (replicate ((n - j) * n) plus_zero) j ∙ ap (drop j) (zeros j h) ∙ drop_at (replicate j plus_zero) (own ++ later) j (length-replicate j plus_zero) in
      ap (λ (i : ℕ). put_mid (j * n) i (rows_over_zeros j) row) same
      ∙ ap (λ (xs : List Float). xs ++ (row ++ post_of (j * n) j (rows_over_zeros j))) (take_at before (replicate ((n - j) * n) plus_zero) (j * n) l)
      ∙ ap (λ (xs : List Float). before ++ (row ++ xs)) (drop-drop j (j * n) (rows_over_zeros j) ∙ left)
      ∙ sym (append_assoc before row (own ++ later))
      ∙ sym (append_assoc (before ++ row) own later)

  pub no_rows : rows_over_zeros 0 ≡ replicate (n * n) plus_zero
  unfolding mu_rows
  no_rows = let e : n - 0 ≡ n = omega arith in ap (λ (k : ℕ). replicate (k * n) plus_zero) e

  pub all_rows : rows_over_zeros n ≡ mu_rows n entries n
  all_rows =
      let e : n - n ≡ 0 = omega arith in
      ap (λ (k : ℕ). mu_rows n entries n ++ replicate k plus_zero) (ap (λ (k : ℕ). k * n) e ∙ zero-mul n) ∙ append-nil (mu_rows n entries n)

-- ---- the entries of mu in a section
abbrev pub entries : List ℕ → ℕ → ℕ → List Float
entries input section n = doubles (items_at input (section + 4) (triangle n))

pub enough : (input : List ℕ) (section n : ℕ) → triangle n ≤ length (entries input section n)
enough input section n = le_of_eq (sym (length_doubles input (section + 4) (triangle n)))
