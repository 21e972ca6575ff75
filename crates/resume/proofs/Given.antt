-- The turns as the code makes them, by what its calls say of their results. Assumes nothing.
use Rattle.children.specs.declared.Trial.{Trial}
use Rattle.std.proofs.Common.{Option}
use mathlib.Core.Path.{◌≡◌, sym, ap, ◌∙◌, subst}
use Prim.Native.Nat.{ℕ, suc, ◌+◌, ◌-◌, ◌<◌}
use native.Mathlib.Omega.{arith}
use mathlib.Core.Bool.{true, false}
use mathlib.Core.List.{List}
use lib.ListN.{length, set}
use lib.IntN.{ℤ}
use lib.Ieee.{Float, binary64, add, sub, mul, le}
use Rattle.rounding.specs.Integers.{to_double}
use Rattle.definitions.specs.Table.{table, weight, coordinate, largest_dimension}
use Rattle.definitions.specs.Zigzag.{start}
use Rattle.definitions.specs.Zigzag as Z
use Rattle.definitions.proofs.Distances.{term_is}
use Rattle.distance.specs.Residuals.{center_sum}
use Rattle.children.specs.View.{zigzag, child_of}
use Rattle.children.specs.declared.Children.{Children}
use Rattle.resume.specs.declared.OpenLevel.{OpenLevel}
use Rattle.resume.specs.declared.Walk.{Walk}
use Rattle.resume.specs.View.{generator_of, waiting_of, count_of, entered_of, considered_of}
use Rattle.resume.proofs.Stepping.{Turn, top, lowest, sum, following, moved, starts, deeper}
use Rattle.resume.proofs.Turning.{Stepped, stored, step_pruned, step_leaf, free, step_deeper}

-- What the calls of a turn have given: with each, what is known of it.
pub record Given {weights mu target rest : List Float} {s : Walk} (u : Turn weights mu target rest s) : Type 0 where
  pub child : ℤ
  pub child_is : child ≡ (lowest u).waiting
  pub value : Float
  pub value_is : value ≡ to_double child
  pub term : Float
  pub term_is : term ≡ mul binary64 (mul binary64 (weight (table weights mu) (lowest u).level) (sub binary64 (lowest u).center value)) (sub binary64 (lowest u).center value)
  pub generator : Children
  pub generator_is : generator ≡ generator_of (weight (table weights mu) (lowest u).level) (lowest u)
  pub next : Option (Trial × Children)
  pub next_is : next ≡ child_of (Z.next (zigzag generator))
  pub level : OpenLevel
  pub level_is : level ≡ waiting_of (lowest u).level (lowest u).partial (lowest u) next
  pub count : ℕ
  pub count_is : count ≡ count_of (top u) next

module _ {weights mu target rest : List Float} {s : Walk} {u : Turn weights mu target rest s} (k : Given u) where
  -- the sum with the child's term, and its residual
  abbrev pub total : Float
  total = add binary64 (lowest u).partial k.term

  abbrev pub residual : Float
  residual = sub binary64 (coordinate target (lowest u).level) k.value

-- What those have given that open the level below.
pub record GivenBelow {weights mu target rest : List Float} {s : Walk} {u : Turn weights mu target rest s} (k : Given u) : Type 0 where
  pub first : Option (Trial × Children)
  pub first_is : first ≡ entered_of (start (center_sum (table weights mu) target (stored u (residual k)) ((lowest u).level - 1)) (sub binary64 s.radius (total k)) (weight (table weights mu) ((lowest u).level - 1)))
  pub level : OpenLevel
  pub level_is : level ≡ waiting_of ((lowest u).level - 1) (total k) (lowest u) first
  pub count : ℕ
  pub count_is : count ≡ count_of k.count first

module _ {weights mu target rest : List Float} {s : Walk} {u : Turn weights mu target rest s} (k : Given u) where
  abbrev w : Float
  w = weight (table weights mu) (lowest u).level

  double_is : k.value ≡ to_double (lowest u).waiting
  double_is = k.value_is ∙ ap to_double k.child_is

  total_is : total k ≡ sum u
  total_is =
      ap (add binary64 (lowest u).partial)
      (k.term_is
      ∙ ap (λ (x : Float). mul binary64 (mul binary64 w (sub binary64 (lowest u).center x)) (sub binary64 (lowest u).center x)) double_is
      ∙ sym (term_is w (lowest u).center (lowest u).waiting))

  residual_is : residual k ≡ sub binary64 (coordinate target (lowest u).level) (to_double (lowest u).waiting)
  residual_is = ap (sub binary64 (coordinate target (lowest u).level)) double_is

  -- the walk with a child and levels stored
  abbrev walk_with : ℤ → List OpenLevel → ℕ → Walk
  walk_with z levels count = record {
    point = set s.point (lowest u).level z;
    best = s.best;
    levels = levels;
    count = count;
    radius = s.radius;
    nodes = s.nodes + 1;
    found = s.found;
  }

  abbrev pub taken : Walk
  taken = walk_with k.child (set s.levels (top u) k.level) k.count

  next_of : k.next ≡ child_of (following u)
  next_of = k.next_is ∙ ap (λ (g : Children). child_of (Z.next (zigzag g))) k.generator_is

  levels_of : set s.levels (top u) k.level ≡ (moved u).levels
  levels_of = ap (set s.levels (top u)) (k.level_is ∙ ap (waiting_of (lowest u).level (lowest u).partial (lowest u)) next_of)

  count_of_lem : k.count ≡ (moved u).count
  count_of_lem = k.count_is ∙ ap (count_of (top u)) next_of

  taken_is : taken ≡ moved u
  taken_is =
      ap (λ (z : ℤ). walk_with z (set s.levels (top u) k.level) k.count) k.child_is
      ∙ ap (λ (l : List OpenLevel). walk_with (lowest u).waiting l k.count) levels_of
      ∙ ap (walk_with (lowest u).waiting (moved u).levels) count_of_lem

  pub turn_pruned : le (total k) s.radius ≡ false → Stepped weights mu target s (stored u (residual k)) taken
  turn_pruned e = subst (Stepped weights mu target s (stored u (residual k))) (sym taken_is) (step_pruned u (residual k) (ap (λ (x : Float). le x s.radius) (sym total_is) ∙ e))

  module _ (passes : le (total k) s.radius ≡ true) where
    within : le (sum u) s.radius ≡ true
    within = ap (λ (x : Float). le x s.radius) (sym total_is) ∙ passes

    pub turn_leaf : (lowest u).level ≡ 0 → (r : Walk) → r ≡ considered_of (length weights) taken (total k) → Stepped weights mu target s (stored u (residual k)) r
    turn_leaf z r e =
        subst (Stepped weights mu target s (stored u (residual k)))
        (sym (e ∙ ap (λ (x : Walk). considered_of (length weights) x (total k)) taken_is ∙ ap (considered_of (length weights) (moved u)) total_is))
        (step_leaf u (residual k) within z)

    module _ (above_zero : (lowest u).level ≡ 0 → ⊥) where
      abbrev l : ℕ
      l = (lowest u).level - 1

      deep : (lowest u).level ≡ suc l
      deep = omega (arith, above_zero)

      pub turn_free : k.count < largest_dimension
      turn_free = omega (arith, count_of_lem, free u (residual k) l deep)

      pub turn_deeper : (o : GivenBelow k) → Stepped weights mu target s (stored u (residual k)) (walk_with k.child (set (set s.levels (top u) k.level) k.count o.level) o.count)
      turn_deeper o = subst (Stepped weights mu target s (stored u (residual k))) (sym same) (step_deeper u (residual k) l deep residual_is within)
        where
          c : Float
          c = center_sum (table weights mu) target (stored u (residual k)) l

          first : Option (Trial × Children)
          first = entered_of (starts u l c)

          first_of : o.first ≡ first
          first_of = o.first_is ∙ ap (λ (y : Float). entered_of (start c (sub binary64 s.radius y) (weight (table weights mu) l))) total_is

          level_of_lem : o.level ≡ waiting_of l (sum u) (lowest u) first
          level_of_lem = o.level_is ∙ ap (λ (y : Float). waiting_of l y (lowest u) o.first) total_is ∙ ap (waiting_of l (sum u) (lowest u)) first_of

          same : walk_with k.child (set (set s.levels (top u) k.level) k.count o.level) o.count ≡ deeper u l c
          same =
              ap (λ (z : ℤ). walk_with z (set (set s.levels (top u) k.level) k.count o.level) o.count) k.child_is
              ∙ ap (λ (m : List OpenLevel). walk_with (lowest u).waiting (set m k.count o.level) o.count) levels_of
              ∙ ap (λ (f : OpenLevel). walk_with (lowest u).waiting (set (moved u).levels k.count f) o.count) level_of_lem
              ∙ ap (walk_with (lowest u).waiting (set (moved u).levels k.count (waiting_of l (sum u) (lowest u) first))) (o.count_is ∙ ap (count_of k.count) first_of)
              ∙ ap (λ (j : ℕ). walk_with (lowest u).waiting (set (moved u).levels j (waiting_of l (sum u) (lowest u) first)) (count_of j first)) count_of_lem
