-- A level takes another integer: what `update_centers` leaves is what the definition says. Assumes nothing.
use mathlib.Core.Path.{◌≡◌, refl, ap, sym, ◌∙◌}
use mathlib.Core.Bool.{Bool, true, false, cond}
use mathlib.Core.List.{List}
use Prim.Native.Nat.{ℕ, ◌+◌, ◌*◌, ◌-◌, ◌≤◌}
use native.Mathlib.Omega.{arith}
use lib.IntN.{ℤ, pos}
use lib.ListN.{length, take, drop, get_or, set, length-set}
use lib.Seq.{get_or-take, take-set-lt, set-get_or}
use lib.Ieee.{Float, binary64, sub}
use Rattle.rounding.specs.Integers.{to_double}
use Rattle.definitions.specs.Table.{Table, dimension}
use Rattle.definitions.specs.Running.{Running, add_row, row_of, same_integer, update_centers}
use Rattle.definitions.proofs.Prepared.{same_integer_lem, integer_same}
use Rattle.running.specs.Centers.{running_of, UpdateReady, Updated}
use Rattle.running.proofs.Rows.{row_length, row_take, row_inside, row_lent, row_of_length}

-- ---- the definition by its test
-- the change of a coordinate, as doubles
abbrev pub change : ℤ → ℤ → Float
change old z = sub binary64 (to_double old) (to_double z)

update_by : (t : Table) (level : ℕ) (z : ℤ) (r : Running) (b : Bool) → same_integer (get_or r.point level (pos 0)) z ≡ b → update_centers t level z r ≡ cond b r (record { point = set r.point level z; centers = add_row (change (get_or r.point level (pos 0)) z) (row_of (dimension t) t.mu level) r.centers })
unfolding update_centers
update_by t level z r b e = ap (λ (x : Bool). cond x r (record { point = set r.point level z; centers = add_row (change (get_or r.point level (pos 0)) z) (row_of (dimension t) t.mu level) r.centers })) e

same : (a b : ℤ) → a ≡ b → same_integer a b ≡ true
same a b e = ap (same_integer a) (sym e) ∙ integer_same a

different : (a b : ℤ) → (a ≡ b → ⊥) → same_integer a b ≡ false
different a b d = by (same_integer a b) refl
  where
    by : (x : Bool) → same_integer a b ≡ x → x ≡ false
    by true e = absurd (d (same_integer_lem a b e))
    by false e = refl

-- ---- the two exits of the code
module _ {t : Table} {point : List ℤ} {centers : List Float} {level : ℕ} {z : ℤ} {value : Float} (ready : UpdateReady t point centers level z value) where
  abbrev n : ℕ
  n = dimension t

  abbrev old : ℤ
  old = get_or point level (pos 0)

  old_at : get_or (take n point) level (pos 0) ≡ old
  old_at = get_or-take n point level (pos 0) ready.below

  pub stays : old ≡ z → Updated t level z point point centers centers
  stays e = record {
    updates = sym (update_by t level z (running_of n point centers) true (same (get_or (take n point) level (pos 0)) z (old_at ∙ e)));
    point_is = sym (ap (set point level) (sym e) ∙ set-get_or point level (pos 0));
    point_length = ready.point_length;
    centers_length = ready.centers_length;
  }

  -- `stored` is the integer as the code has it, and the row is lent as `&mu[start..end]`
  pub moves : (old ≡ z → ⊥) → (stored : ℤ) → stored ≡ z → (by : Float) → by ≡ change old z → (centers' : List Float) → centers' ≡ add_row by (take (level * n + level - level * n) (drop (level * n) t.mu)) centers → Updated t level z point (set point level stored) centers centers'
  moves d stored e by f centers' g =
      let added : centers' ≡ add_row (change old z) (row_of n t.mu level) centers = g ∙ ap (λ (l : List Float). add_row by l centers) (row_lent n level t.mu) ∙ ap (λ (x : Float). add_row x (row_of n t.mu level) centers) f in
      record {
        updates =
            ap (λ (l : List Float). running_of n (set point level stored) l) added
            ∙ ap (λ (x : ℤ). running_of n (set point level x) (add_row (change old z) (row_of n t.mu level) centers)) e
            ∙ ap (λ (l : List Float). record { point = take n (set point level z); centers = l }) (row_take (change old z) (row_of n t.mu level) n centers (omega (arith, row_of_length n level t.mu fits, ready.below)))
            ∙ ap (λ (l : List ℤ). record { point = l; centers = add_row (change old z) (row_of n t.mu level) (take n centers) }) (take-set-lt n point level z ready.below)
            ∙ ap (λ (x : ℤ). record { point = set (take n point) level z; centers = add_row (change x z) (row_of n t.mu level) (take n centers) }) (sym old_at)
            ∙ sym (update_by t level z (running_of n point centers) false (different (get_or (take n point) level (pos 0)) z (λ h. d (sym old_at ∙ h))));
        point_is = ap (set point level) e;
        point_length = length-set point level stored ∙ ready.point_length;
        centers_length = ap length added ∙ row_length (change old z) (row_of n t.mu level) centers ∙ ready.centers_length;
      }
    where
      fits : level * n + level ≤ length t.mu
      fits = omega (arith, row_inside n level ready.below, ready.square)
