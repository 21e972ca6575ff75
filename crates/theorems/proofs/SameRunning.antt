-- Tables with the same entries that are read give the same running centres, and so the same walk with them. Assumes nothing.
use mathlib.Core.Path.{◌≡◌, refl, sym, ap, ◌∙◌}
use mathlib.Core.Bool.{cond}
use mathlib.Core.List.{List, []}
use Prim.Native.Nat.{ℕ, zero, suc, ◌*◌, ◌≤◌, ◌<◌}
use native.Mathlib.Nat.{lt_of_lt_of_le}
use native.Mathlib.Omega.{arith}
use lib.ListN.{length, get_or, take, drop, set, replicate, length-take, length-drop}
use lib.Seq.{get_or-take, get_or-drop, ext_get_or}
use lib.IntN.{ℤ, pos}
use lib.Ieee.{Float, nan, binary64, sub}
use Rattle.rounding.specs.Integers.{to_double}
use Rattle.definitions.specs.Table.{Table, table, dimension, coordinate, plus_zero}
use Rattle.definitions.specs.Walk.{ended, Leaf, walk}
use Rattle.definitions.specs.Running.{Running, add_row, row_of, add_rows, initialize_centers, same_integer, update_centers, beside, only_kept, leaf_beside, running_centers, running_walk}
use Rattle.theorems.specs.SameRead.{SameRead}
use Rattle.theorems.proofs.SameWalks.{same_walk}

module _ (t : Table) (mu' : List Float) (same : SameRead t (table t.weights mu')) where
  abbrev t' : Table
  t' = table t.weights mu'

  abbrev n : ℕ
  n = dimension t

  row_length : (j : ℕ) → length (row_of n t.mu j) ≡ length (row_of n mu' j)
  row_length j = simp (length-take, length-drop, same.mu_length)

  same_row : (j : ℕ) → j < n → row_of n t.mu j ≡ row_of n mu' j
  same_row j h = ext_get_or nan (row_of n t.mu j) (row_of n mu' j) (row_length j) at
    where
      within : (xs : List Float) → length (take j xs) ≤ j
      within xs = simp length-take (omega arith)

      at : (i : ℕ) → i < length (row_of n t.mu j) → get_or (row_of n t.mu j) i nan ≡ get_or (row_of n mu' j) i nan
      at i l =
          let left : i < j = lt_of_lt_of_le l (within (drop (j * n) t.mu)) in
          get_or-take j (drop (j * n) t.mu) i nan left
          ∙ get_or-drop (j * n) t.mu i nan
          ∙ same.entries j i left h
          ∙ sym (get_or-drop (j * n) mu' i nan)
          ∙ sym (get_or-take j (drop (j * n) mu') i nan left)

  same_rows : (target : List Float) (j : ℕ) → j ≤ n → (cs : List Float) → add_rows n t.mu target j cs ≡ add_rows n mu' target j cs
  unfolding add_rows
  same_rows target zero h cs = refl
  same_rows target (suc j) h cs = (λ i. add_row (coordinate target j) (same_row j h i) (same_rows target j (omega arith) cs i))

  same_start : (target : List Float) → initialize_centers t target ≡ initialize_centers t' target
  unfolding initialize_centers
  same_start target = ap (λ (cs : List Float). record { point = replicate n (pos 0); centers = cs }) (same_rows target n (omega arith) target)

  -- what an update makes of the row
  abbrev updated : List Float → ℕ → ℤ → Running → Running
  updated row level z r =
      let old = get_or r.point level (pos 0) in
      cond (same_integer old z) r (record { point = set r.point level z; centers = add_row (sub binary64 (to_double old) (to_double z)) row r.centers })

  same_update : (level : ℕ) → level < n → (z : ℤ) (r : Running) → update_centers t level z r ≡ update_centers t' level z r
  unfolding update_centers
  same_update level h z r = ap (λ (row : List Float). updated row level z r) (same_row level h)

  pub same_running_walk : {K : Type 0} (leaf : Leaf K) (target : List Float) (k : K) (R : Float) (budget : ℕ) → running_walk leaf t target k R budget ≡ running_walk leaf t' target k R budget
  unfolding running_walk
  same_running_walk {K} leaf target k R budget =
      ap (λ (r : Running). only_kept (walk (leaf_beside leaf) (running_centers t) t budget n [] plus_zero (ended (beside k r) R 0))) (same_start target)
      ∙ ap only_kept
      (same_walk (leaf_beside leaf) (running_centers t) (running_centers t') t mu' budget n (record { same_at = λ level zs e b. refl; same_moved = λ level h z b. ap (beside b.kept) (same_update level h z b.running) }) n [] (omega arith) plus_zero
      (ended (beside k (initialize_centers t' target)) R 0))
