-- mu's entries that are read, with plus zero in the other places, are mu. Assumes nothing.
use mathlib.Core.Path.{◌≡◌, refl, ap, sym, ◌∙◌}
use mathlib.Core.List.{List, [], ◌++◌, append_assoc, append-nil}
use Prim.Native.Nat.{ℕ, zero, suc, ◌+◌, ◌-◌, ◌*◌, ◌≤◌, ◌<◌}
use native.Mathlib.Nat.{zero-add, suc-add, zero-mul, suc-mul, mul-le-mul_right}
use native.Mathlib.Omega.{arith}
use lib.ListN.{length, get_or, take, drop, replicate, length-append, length-drop, length-replicate, get_or-replicate}
use lib.Seq.{length-take-le, take_at, drop_at, take-add, take-length, get_or-take, get_or-drop, ext_get_or}
use lib.Ieee.{Float, nan}
use Rattle.definitions.specs.Table.{entry, plus_zero}
use Rattle.definitions.specs.JobLayout.{triangle, mu_rows}
use Rattle.definitions.specs.JobEncoding.{read_entries}
use Rattle.definitions.proofs.Tables.{row_within}
use Rattle.definitions.proofs.Triangles.{triangle_suc}

module _ (n : ℕ) (mu : List Float) (square : length mu ≡ n * n) where
  abbrev row : ℕ → List Float
  row j = take j (drop (j * n) mu)

  row_length : (j : ℕ) → j < n → length (row j) ≡ j
  row_length j below = length-take-le j (drop (j * n) mu) (omega (arith, length-drop (j * n) mu, row_within n j below))

  pub entries_length : (j : ℕ) → j ≤ n → length (read_entries n mu j) ≡ triangle j
  unfolding read_entries
  entries_length zero h = refl
  entries_length (suc j) h = omega (arith, length-append (read_entries n mu j) (row j), entries_length j (omega arith), row_length j h, triangle_suc j)

  -- later rows stand after earlier ones
  more_rows : (j d : ℕ) → (rest : List Float) × (read_entries n mu (d + j) ≡ read_entries n mu j ++ rest)
  unfolding read_entries
  more_rows j zero = ([], ap (read_entries n mu) (zero-add j) ∙ sym (append-nil (read_entries n mu j)))
  more_rows j (suc d) =
      let earlier = more_rows j d in
      (earlier.0 ++ row (d + j), ap (read_entries n mu) (suc-add d j) ∙ ap (λ (xs : List Float). xs ++ row (d + j)) earlier.1 ∙ append_assoc (read_entries n mu j) earlier.0 (row (d + j)))

  row_read : (j : ℕ) → j < n → take j (drop (triangle j) (read_entries n mu n)) ≡ row j
  unfolding read_entries
  row_read j below =
      let later = more_rows (suc j) (n - suc j) in
      let all : n - suc j + suc j ≡ n = omega arith in
      let parts = ap (read_entries n mu) (sym all) ∙ later.1 ∙ append_assoc (read_entries n mu j) (row j) later.0 in
      ap (λ (xs : List Float). take j (drop (triangle j) xs)) parts
      ∙ ap (take j) (drop_at (read_entries n mu j) (row j ++ later.0) (triangle j) (entries_length j (omega arith)))
      ∙ take_at (row j) later.0 j (row_length j below)

  module _ (unread : (j i : ℕ) → j ≤ i → i < n → entry n mu j i ≡ plus_zero) where
    -- the rest of a row
    zeros_read : (j : ℕ) → j < n → replicate (n - j) plus_zero ≡ take (n - j) (drop (j * n + j) mu)
    zeros_read j below =
        let size = length-replicate (n - j) plus_zero in
        let inside : suc j * n ≤ n * n = mul-le-mul_right n below in
        let long : n - j ≤ length (drop (j * n + j) mu) = omega (arith, suc-mul j n, length-drop (j * n + j) mu) in
        ext_get_or nan (replicate (n - j) plus_zero) (take (n - j) (drop (j * n + j) mu)) (size ∙ sym (length-take-le (n - j) (drop (j * n + j) mu) long)) λ i h.
        let less : i < n - j = omega (arith, size) in
        let same : j * n + j + i ≡ j * n + (j + i) = omega arith in
        get_or-replicate (n - j) i plus_zero nan less
        ∙ sym (get_or-take (n - j) (drop (j * n + j) mu) i nan less ∙ get_or-drop (j * n + j) mu i nan ∙ ap (λ (k : ℕ). get_or mu k nan) same ∙ unread j (j + i) (omega arith) (omega arith))

    rows_first : (j : ℕ) → j ≤ n → mu_rows n (read_entries n mu n) j ≡ take (j * n) mu
    unfolding mu_rows
    rows_first zero h = ap (λ (k : ℕ). take k mu) (sym (zero-mul n))
    rows_first (suc j) h =
        let whole : j * n + j + (n - j) ≡ suc j * n = omega (arith, suc-mul j n) in
        (λ k. rows_first j (omega arith) k ++ row_read j h k ++ zeros_read j h k)
        ∙ ap (λ (xs : List Float). xs ++ take (n - j) (drop (j * n + j) mu)) (sym (take-add (j * n) j mu))
        ∙ sym (take-add (j * n + j) (n - j) mu)
        ∙ ap (λ (k : ℕ). take k mu) whole

    pub rows_read : mu_rows n (read_entries n mu n) n ≡ mu
    rows_read = rows_first n (omega arith) ∙ ap (λ (k : ℕ). take k mu) (sym square) ∙ take-length mu
