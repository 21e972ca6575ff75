-- Within the limits no running centre overflows, however long the walk: 2 ^ 200 bounds each, and what an update adds is at most 2 ^ 116, so the rounded sum keeps that bound. Assumes nothing.
use mathlib.Core.Path.{◌≡◌, refl, sym, ◌∙◌, subst}
use Prim.Native.Nat.{ℕ, zero, suc, ◌*◌, ◌≤◌, ◌<◌}
use native.Mathlib.Nat.{le_refl}
use native.Mathlib.Omega.{arith}
use mathlib.Core.Bool.{Bool, true, false}
use mathlib.Core.List.{List, [], ◌∷◌}
use lib.Dec.{T, lit≤}
use lib.ListN.{length, get_or, drop, length-take, length-set, length-replicate}
use lib.Seq.{get_or-take, get_or-drop}
use lib.IntN.{ℤ, pos}
use lib.Ieee.{Float, nan, binary64, sub, mul}
use Rattle.rounding.specs.Integers.{is_i64, to_double}
use Rattle.rounding.specs.Kinds.{Finite}
use Rattle.rounding.proofs.Interface.{Within, within_more, within_sub, within_absorb, within_mul, within_of_int}
use Rattle.definitions.specs.Table.{Table, dimension, entry, coordinate}
use Rattle.definitions.specs.Admitted.{all_i64}
use Rattle.definitions.specs.Running.{Running, add_row, row_of, add_rows, initialize_centers, same_integer, update_centers}
use Rattle.definitions.proofs.Admissions.{all_i64_at, all_i64_set, all_i64_zeros}
use Rattle.definitions.proofs.Running.{add_row_nil, add_row_cons, add_row_length, add_rows_zero, add_rows_suc, add_rows_length, initialize_is, update_same, update_other}
use Rattle.theorems.specs.Running.{Reached, starts, takes}
use Rattle.theorems.proofs.Limits.{Limits}

-- what holds of the running centres at every node
pub record Steady (t : Table) (r : Running) : Type 0 where
  pub point_length : length r.point ≡ dimension t
  pub integers : T (all_i64 r.point)
  pub centers_length : length r.centers ≡ dimension t
  pub within : (level : ℕ) → level < dimension t → Within binary64 200 (get_or r.centers level nan)

-- a row whose products are small keeps the bound
add_row_within : (factor : Float) (ms cs : List Float) → ((k : ℕ) → k < length ms → Within binary64 116 (mul binary64 factor (get_or ms k nan))) → ((k : ℕ) → k < length cs → Within binary64 200 (get_or cs k nan)) → (k : ℕ) → k < length cs → Within binary64 200 (get_or (add_row factor ms cs) k nan)
add_row_within factor [] cs small p k h = rw (add_row_nil factor cs) (p k h)
add_row_within factor (m ∷ ms) [] small p k h = absurd (omega arith)
add_row_within factor (m ∷ ms) (c ∷ cs) small p zero h = rw (add_row_cons factor m ms c cs) (within_absorb c (mul binary64 factor m) (p 0 (omega arith)) (small 0 (omega arith)))
add_row_within factor (m ∷ ms) (c ∷ cs) small p (suc k) h = rw (add_row_cons factor m ms c cs) (add_row_within factor ms cs (λ i l. small (suc i) (omega arith)) (λ i l. p (suc i) (omega arith)) k (omega arith))

module _ (t : Table) (target : List Float) (limits : Limits t target) where
  -- an entry of a row, times a factor of at most 2 ^ 64, is at most 2 ^ 116
  row_within : (factor : Float) → Within binary64 64 factor → (j : ℕ) → j < dimension t → (k : ℕ) → k < length (row_of (dimension t) t.mu j) → Within binary64 116 (mul binary64 factor (get_or (row_of (dimension t) t.mu j) k nan))
  row_within factor p j h k l =
      let below : k < j = omega (arith, length-take j (drop (j * dimension t) t.mu)) in
      let at : get_or (row_of (dimension t) t.mu j) k nan ≡ entry (dimension t) t.mu j k = get_or-take j (drop (j * dimension t) t.mu) k nan below ∙ get_or-drop (j * dimension t) t.mu k nan in
      within_mul binary64 64 52 factor (get_or (row_of (dimension t) t.mu j) k nan) (lit≤ tt) p (subst (Within binary64 52) (sym at) (limits.entries j k below h))

  rows_within : (j : ℕ) → j ≤ dimension t → (cs : List Float) → ((k : ℕ) → k < length cs → Within binary64 200 (get_or cs k nan)) → (k : ℕ) → k < length cs → Within binary64 200 (get_or (add_rows (dimension t) t.mu target j cs) k nan)
  rows_within zero h cs p k l = rw (add_rows_zero (dimension t) t.mu target cs) (p k l)
  rows_within (suc j) h cs p k l =
      let before = add_rows (dimension t) t.mu target j cs in
      let same : length before ≡ length cs = add_rows_length (dimension t) t.mu target j cs in
      rw (add_rows_suc (dimension t) t.mu target j cs)
      (add_row_within (coordinate target j) (row_of (dimension t) t.mu j) before (row_within (coordinate target j) (within_more (lit≤ tt) (limits.targets j (omega arith))) j (omega arith)) (λ i m. rows_within j (omega arith) cs p i (omega arith)) k (omega arith))

  pub steady_start : Steady t (initialize_centers t target)
  steady_start =
      subst (Steady t) (sym (initialize_is t target))
      (record {
        point_length = length-replicate (dimension t) (pos 0);
        integers = all_i64_zeros (dimension t);
        centers_length = add_rows_length (dimension t) t.mu target (dimension t) target ∙ limits.target_length;
        within = λ level h. rows_within (dimension t) (le_refl (dimension t)) target (λ k l. within_more (lit≤ tt) (limits.targets k (omega (arith, limits.target_length)))) level (omega (arith, limits.target_length));
      })

  pub steady_update : (level : ℕ) → level < dimension t → (z : ℤ) → T (is_i64 z) → (r : Running) → Steady t r → Steady t (update_centers t level z r)
  steady_update level h z i r s = go (same_integer old z) refl
    where
      old : ℤ
      old = get_or r.point level (pos 0)

      change : Float
      change = sub binary64 (to_double old) (to_double z)

      small : Within binary64 64 change
      small = within_sub binary64 63 (to_double old) (to_double z) (lit≤ tt) (within_of_int binary64 old (all_i64_at r.point level s.integers (omega arith))) (within_of_int binary64 z i)

      row : List Float
      row = row_of (dimension t) t.mu level

      go : (b : Bool) → same_integer old z ≡ b → Steady t (update_centers t level z r)
      go true e = subst (Steady t) (sym (update_same t level z r e)) s
      go false e =
          subst (Steady t) (sym (update_other t level z r e))
          (record {
            point_length = length-set r.point level z ∙ s.point_length;
            integers = all_i64_set r.point level z s.integers i;
            centers_length = add_row_length change row r.centers ∙ s.centers_length;
            within = λ k l. add_row_within change row r.centers (row_within change small level h) (λ k m. s.within k (omega arith)) k (omega arith);
          })

  pub reached_steady : {r : Running} → Reached t target r → Steady t r
  reached_steady starts = steady_start
  reached_steady (takes r p level h z i) = steady_update level h z i r (reached_steady p)

  -- no running centre overflows
  pub reached_finite : (r : Running) → Reached t target r → (level : ℕ) → level < dimension t → Finite binary64 (get_or r.centers level nan)
  reached_finite r p level h = ((reached_steady p).within level h).fin
