-- Rows of the table added to the centres, an entry at a time and a row at a time. Assumes nothing.
use mathlib.Core.Path.{◌≡◌, refl, ap, sym, ◌∙◌}
use mathlib.Core.List.{List, [], ◌∷◌, ◌++◌, append_assoc}
use Prim.Native.Nat.{ℕ, zero, suc, ◌+◌, ◌*◌, ◌-◌, ◌<◌, ◌≤◌}
use native.Mathlib.Nat.{mul-le-mul_right, add-mul, not-suc-le-zero, le_of_suc-le-suc}
use native.Mathlib.Numerals.{add-one}
use native.Mathlib.Omega.{arith}
use lib.ListN.{length, take, drop, get_or, set, length-drop, length-set, take-append-drop}
use lib.Seq.{drop-cons, take-suc-set, drop-set-lt, take_all, drop-length, length-take-le}
use lib.Ieee.{Float, nan, binary64, add, mul}
use Rattle.definitions.specs.Table.{coordinate}
use Rattle.definitions.specs.Running.{add_row, add_rows, row_of}
use Rattle.running.specs.Centers.{start_centers}

-- ---- the definitions, a clause each
row_nil : (f : Float) (cs : List Float) → add_row f [] cs ≡ cs
unfolding add_row
row_nil f cs = refl

row_cons : (f m c : Float) (ms cs : List Float) → add_row f (m ∷ ms) (c ∷ cs) ≡ add binary64 c (mul binary64 f m) ∷ add_row f ms cs
unfolding add_row
row_cons f m c ms cs = refl

row_none : (f m : Float) (ms : List Float) → add_row f (m ∷ ms) [] ≡ []
unfolding add_row
row_none f m ms = refl

rows_none : (n : ℕ) (mu target cs : List Float) → add_rows n mu target 0 cs ≡ cs
unfolding add_rows
rows_none n mu target cs = refl

rows_suc : (n : ℕ) (mu target : List Float) (j : ℕ) (cs : List Float) → add_rows n mu target (suc j) cs ≡ add_row (coordinate target j) (row_of n mu j) (add_rows n mu target j cs)
unfolding add_rows
rows_suc n mu target j cs = refl

-- ---- a row
pub row_length : (f : Float) (ms cs : List Float) → length (add_row f ms cs) ≡ length cs
row_length f [] cs = ap length (row_nil f cs)
row_length f (m ∷ ms) [] = ap length (row_none f m ms)
row_length f (m ∷ ms) (c ∷ cs) = ap length (row_cons f m c ms cs) ∙ ap suc (row_length f ms cs)

-- a row of at most n entries changes the first n centres alone
pub row_take : (f : Float) (ms : List Float) (n : ℕ) (cs : List Float) → length ms ≤ n → take n (add_row f ms cs) ≡ add_row f ms (take n cs)
row_take f [] n cs h = ap (take n) (row_nil f cs) ∙ sym (row_nil f (take n cs))
row_take f (m ∷ ms) zero cs h = absurd (not-suc-le-zero h)
row_take f (m ∷ ms) (suc n) [] h = ap (take (suc n)) (row_none f m ms) ∙ sym (row_none f m ms)
row_take f (m ∷ ms) (suc n) (c ∷ cs) h =
    ap (take (suc n)) (row_cons f m c ms cs)
    ∙ ap (λ (l : List Float). add binary64 c (mul binary64 f m) ∷ l) (row_take f ms n cs (le_of_suc-le-suc h))
    ∙ sym (row_cons f m c ms (take n cs))

-- ---- the loop over a row: the first i entries are added
module _ (f : Float) (row : List Float) where
  -- the rest of the row over the rest of the centres
  abbrev rest : ℕ → List Float → List Float
  rest i cs = take i cs ++ add_row f (drop i row) (drop i cs)

  rest_next : (cs : List Float) (i : ℕ) → i < length row → i < length cs → rest (i + 1) (set cs i (add binary64 (get_or cs i nan) (mul binary64 f (get_or row i nan)))) ≡ rest i cs
  rest_next cs i h k =
      ap (λ (j : ℕ). rest j (set cs i v)) (add-one i)
      ∙ ap (λ (l : List Float). l ++ add_row f (drop (suc i) row) (drop (suc i) (set cs i v))) (take-suc-set cs i v k)
      ∙ ap (λ (l : List Float). (take i cs ++ v ∷ []) ++ add_row f (drop (suc i) row) l) (drop-set-lt (suc i) cs i v (omega arith))
      ∙ append_assoc (take i cs) (v ∷ []) (add_row f (drop (suc i) row) (drop (suc i) cs))
      ∙ ap (λ (l : List Float). take i cs ++ l) (sym (ap (λ (l : List Float). add_row f l (drop i cs)) (drop-cons row i nan h) ∙ ap (add_row f (get_or row i nan ∷ drop (suc i) row)) (drop-cons cs i nan k) ∙ row_cons f (get_or row i nan) (get_or cs i nan) (drop (suc i) row) (drop (suc i) cs)))
    where
      v : Float
      v = add binary64 (get_or cs i nan) (mul binary64 f (get_or row i nan))

  rest_end : (cs : List Float) (i : ℕ) → length row ≡ i → rest i cs ≡ cs
  rest_end cs i e =
      ap (λ (l : List Float). take i cs ++ add_row f l (drop i cs)) (ap (λ (j : ℕ). drop j row) (sym e) ∙ drop-length row)
      ∙ ap (λ (l : List Float). take i cs ++ l) (row_nil f (drop i cs))
      ∙ take-append-drop i cs

  pub record Added (entry centers : List Float) (i : ℕ) : Type 0 where
    pub bounded : i ≤ length row
    pub same_length : length centers ≡ length entry
    pub same : rest i centers ≡ add_row f row entry

  pub added_none : (centers : List Float) → Added centers centers 0
  added_none centers = record { bounded = omega arith; same_length = refl; same = refl }

  module _ {entry centers : List Float} {i : ℕ} (a : Added entry centers i) where
    pub added_next : length row ≤ length entry → i < length row → Added entry (set centers i (add binary64 (get_or centers i nan) (mul binary64 f (get_or row i nan)))) (i + 1)
    added_next fits h = record {
      bounded = omega arith;
      same_length = length-set centers i _ ∙ a.same_length;
      same = rest_next centers i h (omega (arith, a.same_length, fits)) ∙ a.same;
    }

    pub added_all : length row ≤ i → centers ≡ add_row f row entry
    added_all h = sym (rest_end centers i (omega (arith, a.bounded))) ∙ a.same

-- ---- a row in the table
-- it lies in the n·n entries
pub row_inside : (n j : ℕ) → j < n → j * n + j ≤ n * n
row_inside n j h = let a : (j + 1) * n ≤ n * n = mul-le-mul_right n (omega arith) in omega (arith, add-mul j 1 n)

-- as `&mu[start..end]` lends it
pub row_lent : (n j : ℕ) (mu : List Float) → take (j * n + j - j * n) (drop (j * n) mu) ≡ row_of n mu j
row_lent n j mu = let e : j * n + j - j * n ≡ j = omega arith in ap (λ (k : ℕ). take k (drop (j * n) mu)) e

pub row_of_length : (n j : ℕ) (mu : List Float) → j * n + j ≤ length mu → length (row_of n mu j) ≡ j
row_of_length n j mu h = length-take-le j (drop (j * n) mu) (simp length-drop (omega arith))

-- ---- the loop over the rows: the first j are added
module _ (mu target : List Float) where
  pub record Begun (n : ℕ) (centers : List Float) (j : ℕ) : Type 0 where
    pub bounded : j ≤ n
    pub centers_length : length centers ≡ n
    pub same : centers ≡ add_rows n mu target j target

  pub begun_none : (entry centers : List Float) → length entry ≡ length target → centers ≡ take (length entry) target → Begun (length target) centers 0
  begun_none entry centers same copied =
      let is : centers ≡ target = copied ∙ take_all (length entry) target (omega (arith, same)) in
      record { bounded = omega arith; centers_length = ap length is; same = is ∙ sym (rows_none (length target) mu target target) }

  module _ {n : ℕ} {centers : List Float} {j : ℕ} (b : Begun n centers j) where
    pub begun_next : j < n → (centers' : List Float) → centers' ≡ add_row (coordinate target j) (take (j * n + j - j * n) (drop (j * n) mu)) centers → Begun n centers' (j + 1)
    begun_next h centers' e = record {
      bounded = omega arith;
      centers_length = ap length e ∙ row_length (coordinate target j) (take (j * n + j - j * n) (drop (j * n) mu)) centers ∙ b.centers_length;
      same =
          e
          ∙ ap (λ (l : List Float). add_row (coordinate target j) l centers) (row_lent n j mu)
          ∙ ap (add_row (coordinate target j) (row_of n mu j)) b.same
          ∙ sym (rows_suc n mu target j target)
          ∙ ap (λ (k : ℕ). add_rows n mu target k target) (sym (add-one j));
    }

  pub begun_all : {centers : List Float} {j : ℕ} → Begun (length target) centers j → length target ≤ j → centers ≡ start_centers mu target
  begun_all {centers} {j} b h = let e : j ≡ length target = omega (arith, b.bounded) in b.same ∙ ap (λ (k : ℕ). add_rows (length target) mu target k target) e

pub start_length : (mu target : List Float) → length (start_centers mu target) ≡ length target
start_length mu target = by (length target)
  where
    by : (j : ℕ) → length (add_rows (length target) mu target j target) ≡ length target
    by zero = ap length (rows_none (length target) mu target target)
    by (suc j) = ap length (rows_suc (length target) mu target j target) ∙ row_length (coordinate target j) (row_of (length target) mu j) (add_rows (length target) mu target j target) ∙ by j
