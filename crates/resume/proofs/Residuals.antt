-- Residuals beside a point: from one level up they give those from each higher level, and so a walk that is sound is ready. Assumes nothing.
use mathlib.Core.Path.{◌≡◌, ap, sym, ◌∙◌, subst}
use mathlib.Core.List.{List, ◌∷◌}
use Prim.Native.Nat.{ℕ, zero, suc, ◌+◌, ◌-◌, ◌<◌, ◌≤◌}
use native.Mathlib.Numerals.{add-one}
use native.Mathlib.Omega.{arith}
use lib.IntN.{ℤ, pos}
use lib.ListN.{length, get_or, set}
use lib.Ieee.{Float, nan, binary64, sub}
use Rattle.rounding.specs.Integers.{to_double}
use Rattle.lists.specs.Places.{places}
use Rattle.lists.proofs.Places.{places_cons, places_none, places_kept}
use Rattle.definitions.specs.Table.{coordinate}
use Rattle.distance.specs.Residuals.{residuals}
use Rattle.distance.proofs.Centers.{residuals_nil, residuals_cons}
use Rattle.resume.specs.declared.Walk.{Walk}
use Rattle.resume.specs.declared.OpenLevel.{OpenLevel}
use Rattle.resume.specs.View.{level_at}
use Rattle.resume.specs.Ready.{Falling, Sound, Beside, Ready, ResidualsOf}
use Rattle.resume.proofs.Levels.{falling_between}

module _ (n : ℕ) (target rest : List Float) (point : List ℤ) (rest_fits : n ≤ length rest) (point_fits : n ≤ length point) where
  -- above the highest level there are none
  pub beside_none : (d : ℕ) → n ≤ d → Beside n target rest point d
  beside_none d h =
      places_none n rest rest_fits d h
      ∙ sym (ap (residuals target d) (places_none n point point_fits d h) ∙ residuals_nil target d)

  -- a level's residual before those above it
  beside_more : (d : ℕ) → d < n → get_or rest d nan ≡ sub binary64 (coordinate target d) (to_double (get_or point d (pos 0))) → Beside n target rest point (d + 1) → Beside n target rest point d
  beside_more d h e b =
      let r = sub binary64 (coordinate target d) (to_double (get_or point d (pos 0))) in
      places_cons n rest rest_fits d nan h
      ∙ ap (λ (x : Float). x ∷ places n (d + 1) rest) e
      ∙ ap (λ (l : List Float). r ∷ l) (b ∙ ap (λ (k : ℕ). residuals target k (places n (d + 1) point)) (add-one d))
      ∙ sym (ap (residuals target d) (places_cons n point point_fits d (pos 0) h) ∙ residuals_cons target d (get_or point d (pos 0)) (places n (d + 1) point))

  -- if each is written, they are those beside the point from every level up
  pub beside_written : ((k : ℕ) → k < n → get_or rest k nan ≡ sub binary64 (coordinate target k) (to_double (get_or point k (pos 0)))) → (d : ℕ) → d ≤ n → Beside n target rest point d
  beside_written w d h = subst (Beside n target rest point) (same d h) (down (n - d) (omega arith))
    where
      same : (d : ℕ) → d ≤ n → n - (n - d) ≡ d
      same d h = omega arith

      higher : (k : ℕ) → suc k ≤ n → n - k ≡ n - suc k + 1
      higher k h = omega arith

      down : (k : ℕ) → k ≤ n → Beside n target rest point (n - k)
      down zero h = beside_none (n - 0) (omega arith)
      down (suc k) h = beside_more (n - suc k) (omega arith) (w (n - suc k) (omega arith)) (subst (Beside n target rest point) (higher k h) (down k (omega arith)))

  -- a coordinate and its residual set leave those above
  pub beside_kept : (d : ℕ) → d < n → (v : Float) (z : ℤ) → Beside n target rest point (d + 1) → Beside n target (set rest d v) (set point d z) (d + 1)
  beside_kept d h v z b =
      places_kept n rest rest_fits d v h
      ∙ b
      ∙ sym (ap (residuals target (d + 1)) (places_kept n point point_fits d z h))

  beside_next : (d : ℕ) → d < n → Beside n target rest point d → Beside n target rest point (d + 1)
  beside_next d h b =
      let e : get_or rest d nan ∷ places n (d + 1) rest ≡ sub binary64 (coordinate target d) (to_double (get_or point d (pos 0))) ∷ residuals target (suc d) (places n (d + 1) point) =
      sym (places_cons n rest rest_fits d nan h) ∙ b ∙ ap (residuals target d) (places_cons n point point_fits d (pos 0) h) ∙ residuals_cons target d (get_or point d (pos 0)) (places n (d + 1) point) in
      let f : places n (d + 1) rest ≡ residuals target (suc d) (places n (d + 1) point) = cc in
      f ∙ ap (λ (k : ℕ). residuals target k (places n (d + 1) point)) (sym (add-one d))

  beside_further : (k d : ℕ) → d + k ≤ n → Beside n target rest point d → Beside n target rest point (d + k)
  beside_further zero d h b = subst (Beside n target rest point) (same d) b
    where
      same : (d : ℕ) → d ≡ d + 0
      same d = omega arith
  beside_further (suc k) d h b = subst (Beside n target rest point) (same d) (beside_next (d + k) (omega arith) (beside_further k d (omega arith) b))
    where
      same : (d : ℕ) → d + k + 1 ≡ d + suc k
      same d = omega arith

  pub beside_above : (d e : ℕ) → d ≤ e → e ≤ n → Beside n target rest point d → Beside n target rest point e
  beside_above d e h g b = subst (Beside n target rest point) (same d e h) (beside_further (e - d) d (omega arith) b)
    where
      same : (d e : ℕ) → d ≤ e → d + (e - d) ≡ e
      same d e h = omega arith

  -- above each open level, if above the lowest
  pub beside_levels : (nodes : ℕ) (levels : List OpenLevel) (low count : ℕ) → Falling n nodes levels low count → Beside n target rest point (low + 1) → (i : ℕ) → i < count → Beside n target rest point ((level_at levels i).level + 1)
  beside_levels nodes levels low count f b i h =
      let k = falling_between n nodes levels low count f i h in
      beside_above (low + 1) ((level_at levels i).level + 1) (omega (arith, k.0)) (omega (arith, k.1)) b

-- ---- a walk that is picked up
pub ready_with : {weights mu target : List Float} {s : Walk} → Sound weights mu target s → (rest : List Float) → ResidualsOf target s.point rest → Ready weights mu target rest s
ready_with {weights} {mu} {target} {s} sound rest of = record {
  sound = sound;
  rest_length = of.rest_length;
  beside = λ i h. beside i (falling_between (length weights) s.nodes s.levels 0 s.count sound.falling i h).1;
}
  where
    beside : (i : ℕ) → (level_at s.levels i).level < length weights → Beside (length weights) target rest s.point ((level_at s.levels i).level + 1)
    beside i h = subst (λ (n : ℕ). Beside n target rest s.point ((level_at s.levels i).level + 1)) sound.shape.target_length (of.beside ((level_at s.levels i).level + 1) (omega (arith, sound.shape.target_length)))
