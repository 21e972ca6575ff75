-- The running centres of the start, and those after a level has taken an integer, index by index: each is the sum that the specification names, its products added one by one. Assumes nothing.
use mathlib.Core.Path.{◌≡◌, refl, sym, ap, ◌∙◌, subst}
use Prim.Native.Nat.{ℕ, zero, suc, ◌+◌, ◌*◌, ◌-◌, ◌≤◌, ◌<◌}
use native.Mathlib.Nat.{add-zero, suc-mul, mul-le-mul_right}
use native.Mathlib.Omega.{arith}
use mathlib.Core.Bool.{Bool, true, false, true≢false}
use mathlib.Core.List.{List, [], ◌∷◌}
use lib.ListN.{length, get_or, drop, length-take, length-drop, get_or-replicate}
use lib.Seq.{length-take-le, get_or-take, get_or-drop, get_or-set_same, get_or-set_other}
use lib.IntN.{ℤ, pos}
use lib.Ieee.{Float, nan, binary64, add, sub, mul}
use Rattle.rounding.specs.Integers.{to_double}
use Rattle.definitions.specs.Table.{Table, dimension, entry, coordinate}
use Rattle.definitions.specs.Running.{Running, add_row, row_of, add_rows, initialize_centers, same_integer, update_centers}
use Rattle.definitions.proofs.Prepared.{same_integer_lem, integer_same}
use Rattle.definitions.proofs.Running.{add_row_nil, add_row_short, add_row_cons, add_rows_zero, add_rows_suc, add_rows_length, initialize_is, update_same, update_other}
use Rattle.theorems.specs.Running.{products_from, StartsAs, ChangedBy}

-- ---- a row added, index by index
module _ (factor : Float) where
  add_row_at : (ms cs : List Float) (k : ℕ) → k < length ms → k < length cs → get_or (add_row factor ms cs) k nan ≡ add binary64 (get_or cs k nan) (mul binary64 factor (get_or ms k nan))
  add_row_at [] cs k h l = absurd (omega arith)
  add_row_at (m ∷ ms) [] k h l = absurd (omega arith)
  add_row_at (m ∷ ms) (c ∷ cs) zero h l = rw (add_row_cons factor m ms c cs)
  add_row_at (m ∷ ms) (c ∷ cs) (suc k) h l = rw (add_row_cons factor m ms c cs) (add_row_at ms cs k (omega arith) (omega arith))

  add_row_beyond : (ms cs : List Float) (k : ℕ) → length ms ≤ k → get_or (add_row factor ms cs) k nan ≡ get_or cs k nan
  add_row_beyond [] cs k h = rw (add_row_nil factor cs)
  add_row_beyond (m ∷ ms) [] k h = rw (add_row_short factor m ms)
  add_row_beyond (m ∷ ms) (c ∷ cs) zero h = absurd (omega arith)
  add_row_beyond (m ∷ ms) (c ∷ cs) (suc k) h = rw (add_row_cons factor m ms c cs) (add_row_beyond ms cs k (omega arith))

module _ (n : ℕ) (mu : List Float) where
  -- row j reaches each centre below level j
  row_below : length mu ≡ n * n → (factor : Float) (cs : List Float) (j i : ℕ) → j < n → i < j → i < length cs → get_or (add_row factor (row_of n mu j) cs) i nan ≡ add binary64 (get_or cs i nan) (mul binary64 factor (entry n mu j i))
  row_below square factor cs j i h l m =
      let inside : suc j * n ≤ n * n = mul-le-mul_right n h in
      let long : j ≤ length (drop (j * n) mu) = simp length-drop (omega (arith, suc-mul j n)) in
      let whole : length (row_of n mu j) ≡ j = length-take-le j (drop (j * n) mu) long in
      let at : get_or (row_of n mu j) i nan ≡ entry n mu j i = get_or-take j (drop (j * n) mu) i nan l ∙ get_or-drop (j * n) mu i nan in
      add_row_at factor (row_of n mu j) cs i (omega arith) m ∙ ap (λ (m : Float). add binary64 (get_or cs i nan) (mul binary64 factor m)) at

  -- and no other
  row_above : (factor : Float) (cs : List Float) (j i : ℕ) → j ≤ i → get_or (add_row factor (row_of n mu j) cs) i nan ≡ get_or cs i nan
  row_above factor cs j i h = add_row_beyond factor (row_of n mu j) cs i (simp length-take (omega arith))

-- ---- the start
module _ (n : ℕ) (mu target : List Float) where
  -- one more product is added last
  products_last : (level j k : ℕ) (c : Float) → products_from n mu target level j (suc k) c ≡ add binary64 (products_from n mu target level j k c) (mul binary64 (coordinate target (j + k)) (entry n mu (j + k) level))
  products_last level j zero c = rw add-zero
  products_last level j (suc k) c =
      let e : suc j + k ≡ j + suc k = omega arith in
      subst (λ (x : ℕ). products_from n mu target level j (suc (suc k)) c ≡ add binary64 (products_from n mu target level j (suc k) c) (mul binary64 (coordinate target x) (entry n mu x level))) e
      (products_last level (suc j) k (add binary64 c (mul binary64 (coordinate target j) (entry n mu j level))))

  abbrev rows_at : ℕ → ℕ → Float
  rows_at j i = get_or (add_rows n mu target j target) i nan

  -- the rows up to a level's own leave its target
  rows_above : (j i : ℕ) → j ≤ suc i → rows_at j i ≡ coordinate target i
  rows_above zero i h = ap (λ (cs : List Float). get_or cs i nan) (add_rows_zero n mu target target)
  rows_above (suc j) i h =
      ap (λ (cs : List Float). get_or cs i nan) (add_rows_suc n mu target j target)
      ∙ row_above n mu (coordinate target j) (add_rows n mu target j target) j i (omega arith)
      ∙ rows_above j i (omega arith)

  -- each row above adds its product
  rows_below : length target ≡ n → length mu ≡ n * n → (i k : ℕ) → suc i + k ≤ n → rows_at (suc i + k) i ≡ products_from n mu target i (suc i) k (coordinate target i)
  rows_below long square i zero h = rows_above (suc i + 0) i (omega arith)
  rows_below long square i (suc k) h =
      let j = suc i + k in
      let next : suc i + suc k ≡ suc j = omega arith in
      let last = mul binary64 (coordinate target j) (entry n mu j i) in
      ap (λ (x : ℕ). rows_at x i) next
      ∙ ap (λ (cs : List Float). get_or cs i nan) (add_rows_suc n mu target j target)
      ∙ row_below n mu square (coordinate target j) (add_rows n mu target j target) j i (omega arith) (omega arith) (omega (arith, add_rows_length n mu target j target))
      ∙ ap (λ (c : Float). add binary64 c last) (rows_below long square i k (omega arith))
      ∙ sym (products_last i (suc i) k (coordinate target i))

pub starts_as : (t : Table) (target : List Float) → length target ≡ dimension t → length t.mu ≡ dimension t * dimension t → StartsAs t target (initialize_centers t target)
starts_as t target long square =
    subst (StartsAs t target) (sym (initialize_is t target))
    (record {
      coordinates = λ level h. get_or-replicate (dimension t) level (pos 0) (pos 0) h;
      centers_are = λ level h.
          let all : suc level + (dimension t - suc level) ≡ dimension t = omega arith in
          ap (λ (j : ℕ). get_or (add_rows (dimension t) t.mu target j target) level nan) (sym all) ∙ rows_below (dimension t) t.mu target long square level (dimension t - suc level) (omega arith);
    })

-- ---- a level takes z
pub changed_by : (t : Table) → length t.mu ≡ dimension t * dimension t → (level : ℕ) → level < dimension t → (z : ℤ) → (r : Running) → length r.point ≡ dimension t → length r.centers ≡ dimension t → ChangedBy t level z r (update_centers t level z r)
changed_by t square level h z r points centers = go (same_integer old z) refl
  where
    old : ℤ
    old = get_or r.point level (pos 0)

    change : Float
    change = sub binary64 (to_double old) (to_double z)

    go : (b : Bool) → same_integer old z ≡ b → ChangedBy t level z r (update_centers t level z r)
    go true e =
        let is : old ≡ z = same_integer_lem old z e in
        subst (ChangedBy t level z r) (sym (update_same t level z r e))
        (record {
          taken = is;
          other_coordinates = λ k other. refl;
          same = λ p. refl;
          below = λ other. absurd (other (sym is));
          not_below = λ k l. refl;
        })
    go false e =
        subst (ChangedBy t level z r) (sym (update_other t level z r e))
        (record {
          taken = get_or-set_same r.point level z (pos 0) (omega arith);
          other_coordinates = λ k other. get_or-set_other r.point level k z (pos 0) other;
          same = λ p. absurd (true≢false (sym (integer_same old) ∙ ap (same_integer old) (sym p) ∙ e));
          below = λ other lower l. row_below (dimension t) t.mu square change r.centers level lower h l (omega arith);
          not_below = λ k l. row_above (dimension t) t.mu change r.centers level k l;
        })
