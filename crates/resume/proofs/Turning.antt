-- A turn of the loop of `run_to` leads one node further, and the walk is ready again. Assumes nothing.
use mathlib.Core.Path.{◌≡◌, refl, sym, ap, ◌∙◌, subst}
use Prim.Native.Nat.{ℕ, suc, ◌+◌, ◌≤◌, ◌<◌}
use native.Mathlib.Numerals.{add-one}
use native.Mathlib.Omega.{arith}
use mathlib.Core.Bool.{Bool, true, false, cond}
use mathlib.Core.List.{List, ◌∷◌}
use lib.ListN.{length, take, set, length-set}
use lib.Ieee.{Float, binary64, sub, le}
use Rattle.rounding.specs.Integers.{to_double}
use Rattle.lists.specs.Places.{places}
use Rattle.definitions.specs.Table.{Table, table, coordinate, largest_dimension}
use Rattle.definitions.specs.Distance.{center}
use Rattle.definitions.specs.Nearest.{replaces}
use Rattle.definitions.specs.Machine.{step}
use Rattle.distance.specs.Residuals.{residuals, center_sum}
use Rattle.distance.proofs.Centers.{center_below, residuals_below}
use Rattle.resume.specs.declared.Walk.{Walk}
use Rattle.resume.specs.View.{best_of, machine_of, with_best, considered_of}
use Rattle.resume.specs.Ready.{Falling, Beside, Ready}
use Rattle.resume.proofs.Levels.{falling_lower, falling_room}
use Rattle.resume.proofs.Residuals.{beside_kept, beside_levels}
use Rattle.resume.proofs.Storing.{falling_entered}
use Rattle.resume.proofs.Stepping.{Turn, top, lowest, counted, inside, point_fits, rest_fits, sum, moved, above, taken_places, falling_moved, starts, deeper, pruned, leaf, level_opened}

-- What a turn from s leads to.
pub record Stepped (weights mu target : List Float) (s : Walk) (rest' : List Float) (s' : Walk) : Type 0 where
  pub steps : step (table weights mu) target (machine_of weights s) ≡ machine_of weights s'
  pub nodes : s'.nodes ≡ s.nodes + 1
  pub ready : Ready weights mu target rest' s'

-- ---- the child is taken, and v stored beside it
module _ {weights mu target rest : List Float} {s : Walk} (u : Turn weights mu target rest s) (v : Float) where
  abbrev n : ℕ
  n = length weights

  abbrev t : Table
  t = table weights mu

  abbrev pub stored : List Float
  stored = set rest (lowest u).level v

  beside_top : Beside n target rest s.point ((lowest u).level + 1)
  beside_top = u.ready.beside (top u) (omega (arith, counted u))

  stored_fits : n ≤ length stored
  stored_fits = omega (arith, length-set rest (lowest u).level v, rest_fits u)

  moved_fits : n ≤ length (moved u).point
  moved_fits = omega (arith, length-set s.point (lowest u).level (lowest u).waiting, point_fits u)

  moved_levels : length (moved u).levels ≡ largest_dimension
  moved_levels = length-set s.levels (top u) _ ∙ u.ready.sound.levels_length

  pub moved_ready : Ready weights mu target stored (moved u)
  moved_ready = record {
    sound = record {
      shape = u.ready.sound.shape;
      bounded = omega (arith, u.below);
      point_length = length-set s.point (lowest u).level (lowest u).waiting ∙ u.ready.sound.point_length;
      best_length = u.ready.sound.best_length;
      levels_length = moved_levels;
      falling = falling_lower n (s.nodes + 1) (moved u).levels (lowest u).level 0 (moved u).count (omega arith) (falling_moved u);
    };
    rest_length = length-set rest (lowest u).level v ∙ u.ready.rest_length;
    beside =
        beside_levels n target stored (moved u).point stored_fits moved_fits (s.nodes + 1) (moved u).levels (lowest u).level (moved u).count (falling_moved u)
        (beside_kept n target rest s.point (rest_fits u) (point_fits u) (lowest u).level (inside u) v (lowest u).waiting beside_top);
  }

  pub step_pruned : le (sum u) s.radius ≡ false → Stepped weights mu target s stored (moved u)
  step_pruned e = record { steps = pruned u e; nodes = refl; ready = moved_ready }

  -- a leaf: the best is the point under trial, or stays
  pub step_leaf : le (sum u) s.radius ≡ true → (lowest u).level ≡ 0 → Stepped weights mu target s stored (considered_of n (moved u) (sum u))
  step_leaf e z = record { steps = leaf u e z; nodes = counts better; ready = again better }
    where
      better : Bool
      better = replaces (take n (moved u).point) (sum u) (best_of n (moved u)) (moved u).radius

      counts : (b : Bool) → (cond b (with_best (moved u) (sum u)) (moved u)).nodes ≡ s.nodes + 1
      counts true = refl
      counts false = refl

      again : (b : Bool) → Ready weights mu target stored (cond b (with_best (moved u) (sum u)) (moved u))
      again false = moved_ready
      again true =
          let q = moved_ready.sound in
          record {
            sound = record { shape = q.shape; bounded = q.bounded; point_length = q.point_length; best_length = q.point_length; levels_length = q.levels_length; falling = q.falling };
            rest_length = moved_ready.rest_length;
            beside = moved_ready.beside;
          }

  -- level l below is opened
  module _ (l : ℕ) (deep : (lowest u).level ≡ suc l) where
    pub free : (moved u).count < largest_dimension
    free = omega (arith, deep, falling_room n (s.nodes + 1) (moved u).levels (lowest u).level (moved u).count (falling_moved u), u.ready.sound.shape.small)

    abbrev centre : Float
    centre = center_sum t target stored l

    abbrev pub lower : Walk
    lower = deeper u l centre

    room : (moved u).count < length (moved u).levels
    room = omega (arith, free, moved_levels)

    falling_lowered : Falling n (s.nodes + 1) lower.levels l lower.count
    falling_lowered =
        falling_entered weights (moved u).levels (moved u).count l (sum u) centre (lowest u) room (s.nodes + 1) l (omega arith) (omega (arith, deep, inside u))
        (subst (λ (k : ℕ). Falling n (s.nodes + 1) (moved u).levels k (moved u).count) deep (falling_moved u))
        (sub binary64 s.radius (sum u)) (starts u l centre) refl

    -- v being the residual of the child
    module _ (is : v ≡ sub binary64 (coordinate target (lowest u).level) (to_double (lowest u).waiting)) where
      above_l : places n (l + 1) stored ≡ residuals target (l + 1) ((lowest u).waiting ∷ above u)
      above_l =
          subst (λ (d : ℕ). places n d stored ≡ residuals target d ((lowest u).waiting ∷ above u)) (deep ∙ sym (add-one l))
          (residuals_below t target rest (rest_fits u) ((lowest u).level + 1) (lowest u).level refl (above u) beside_top (inside u) (lowest u).waiting v is)

      beside_l : Beside n target stored (moved u).point (l + 1)
      beside_l = above_l ∙ ap (residuals target (l + 1)) (taken_places u ∙ ap (λ (d : ℕ). places n d (moved u).point) (deep ∙ sym (add-one l)))

      centered : centre ≡ center t target l ((lowest u).waiting ∷ above u)
      centered = center_below t target stored stored_fits (l + 1) l refl ((lowest u).waiting ∷ above u) above_l centre refl

      pub step_deeper : le (sum u) s.radius ≡ true → Stepped weights mu target s stored lower
      step_deeper e = record {
        steps = level_opened u e l deep centre centered room;
        nodes = refl;
        ready =
            let q = moved_ready.sound in
            record {
              sound = record {
                shape = q.shape;
                bounded = q.bounded;
                point_length = q.point_length;
                best_length = q.best_length;
                levels_length = length-set (moved u).levels (moved u).count _ ∙ moved_levels;
                falling = falling_lower n (s.nodes + 1) lower.levels l 0 lower.count (omega arith) falling_lowered;
              };
              rest_length = moved_ready.rest_length;
              beside = beside_levels n target stored (moved u).point stored_fits moved_fits (s.nodes + 1) lower.levels l lower.count falling_lowered beside_l;
            };
      }
