-- The start of a walk is the machine's, and it is ready with any residuals. Assumes nothing.
use Rattle.children.specs.declared.Children.{Children}
use Rattle.children.specs.declared.Trial.{Trial}
use Rattle.std.proofs.Common.{Option}
use mathlib.Core.Path.{◌≡◌, refl, sym, ap, ◌∙◌, subst}
use Prim.Native.Nat.{ℕ, suc, ◌+◌, ◌-◌, ◌≤◌}
use native.Mathlib.Omega.{arith}
use mathlib.Core.Bool.{Bool, false, cond}
use mathlib.Core.List.{List, []}
use lib.ListN.{length, take, set, replicate}
use lib.IntN.{ℤ, pos}
use lib.Ieee.{Float, binary64, sub, of_bits}
use Rattle.rounding.proofs.Interface.{zero_is}
use Rattle.lists.specs.Places.{places}
use Rattle.lists.proofs.Places.{places_none}
use Rattle.definitions.specs.Table.{Table, table, weight, plus_zero, largest_dimension}
use Rattle.definitions.specs.Shapes.{Shaped}
use Rattle.definitions.specs.Distance.{center}
use Rattle.definitions.specs.Nearest.{best, no_best}
use Rattle.definitions.specs.Zigzag.{Start, start}
use Rattle.definitions.specs.Machine.{Frame, machine, opened, descend, begin}
use Rattle.definitions.proofs.Leaves.{replaces_none}
use Rattle.definitions.proofs.Machine.{descend_leaf, descend_level, begin_is}
use Rattle.distance.specs.Residuals.{center_sum}
use Rattle.distance.proofs.Centers.{residuals_nil, center_below}
use Rattle.resume.specs.declared.OpenLevel.{OpenLevel}
use Rattle.resume.specs.declared.Walk.{Walk}
use Rattle.resume.specs.View.{waiting_of, count_of, entered_of, stack_of, machine_of, with_best}
use Rattle.resume.specs.Ready.{Falling, Begun}
use Rattle.resume.proofs.Levels.{stack_zero, falling_none, falling_lower}
use Rattle.resume.proofs.Residuals.{beside_none, beside_levels}
use Rattle.resume.proofs.Storing.{stack_entered, falling_entered}

-- ---- what the code starts from
abbrev zero : Float
zero = of_bits binary64 0

abbrev none : OpenLevel
none = record {
  level = 0;
  partial = zero;
  center = zero;
  remaining = zero;
  nearest = pos 0;
  step = 0;
  waiting = pos 0;
  positive_done = false;
  negative_done = false;
}

abbrev zeros : List ℤ
zeros = replicate largest_dimension (pos 0)

abbrev levels : List OpenLevel
levels = replicate largest_dimension none

abbrev pub walk_with : Float → List OpenLevel → ℕ → Walk
walk_with radius levels count = record {
  point = zeros;
  best = zeros;
  levels = levels;
  count = count;
  radius = radius;
  nodes = 0;
  found = false;
}

module _ {weights mu target : List Float} (shape : Shaped largest_dimension weights mu target) (radius : Float) where
  abbrev n : ℕ
  n = length weights

  abbrev t : Table
  t = table weights mu

  begins_at : (d : ℕ) → n ≡ d → begin t target radius ≡ descend t target d [] plus_zero [] no_best radius 0
  begins_at d e = begin_is t target radius ∙ ap (λ (k : ℕ). descend t target k [] plus_zero [] no_best radius 0) e

  -- ---- n is 0: a leaf
  pub begun_over : n ≡ 0 → Begun weights mu target radius (with_best (walk_with radius levels 0) zero)
  begun_over e = record {
    begins =
        ap (λ (fs : List Frame). machine fs (best (take n zeros)) zero 0) (stack_zero weights zeros levels)
        ∙ ap (λ (k : ℕ). machine [] (best (take k zeros)) zero 0) e
        ∙ ap (λ (x : Float). machine [] (best []) x 0) zero_is
        ∙ ap (λ (b : Bool). machine [] (cond b (best []) no_best) (cond b plus_zero radius) 0) (sym (replaces_none [] plus_zero radius))
        ∙ sym (begins_at 0 e ∙ descend_leaf t target [] plus_zero [] no_best radius 0);
    ready = λ rest rest_length. record {
      sound = record {
        shape = shape;
        bounded = omega arith;
        point_length = refl;
        best_length = refl;
        levels_length = refl;
        falling = falling_none n 0 levels 0 (omega arith);
      };
      rest_length = rest_length;
      beside = λ i h. absurd (omega arith);
    };
  }

  -- ---- else level n - 1 is opened
  module _ (some : n ≡ 0 → ⊥) where
    abbrev l : ℕ
    l = n - 1

    highest : n ≡ suc l
    highest = omega (arith, some)

    -- no residual is read
    abbrev c : Float
    c = center_sum t target (replicate largest_dimension zero) l

    abbrev starts : Float → Float → Start
    starts v p = start v (sub binary64 radius p) (weight t l)

    abbrev first : Option (Trial × Children)
    first = entered_of (starts c plus_zero)

    abbrev walk : Walk
    walk = walk_with radius (set levels 0 (waiting_of l plus_zero none first)) (count_of 0 first)

    nothing_above : {A : Type 0} (xs : List A) → length xs ≡ largest_dimension → places n (l + 1) xs ≡ []
    nothing_above xs e = places_none n xs (omega (arith, shape.small)) (l + 1) (omega (arith, highest))

    centered : c ≡ center t target l []
    centered = center_below t target (replicate largest_dimension zero) shape.small (l + 1) l refl [] (nothing_above (replicate largest_dimension zero) refl ∙ sym (residuals_nil target (l + 1))) c refl

    begins : machine_of weights walk ≡ begin t target radius
    begins =
        ap (λ (fs : List Frame). machine fs no_best radius 0) (
        stack_entered weights levels 0 l plus_zero c none (omega arith) zeros (sub binary64 radius plus_zero) (starts c plus_zero) refl
        ∙ ap (λ (zs : List ℤ). opened l zs plus_zero c (starts c plus_zero) (stack_of weights zeros levels 0)) (nothing_above zeros refl)
        ∙ ap (opened l [] plus_zero c (starts c plus_zero)) (stack_zero weights zeros levels)
        ∙ ap (λ (v : Float). opened l [] plus_zero v (starts v plus_zero) []) centered
        )
        ∙ sym (begins_at (suc l) highest ∙ descend_level t target l [] plus_zero [] no_best radius 0)

    falling : Falling n 0 walk.levels l walk.count
    falling =
        falling_entered weights levels 0 l plus_zero c none (omega arith) 0 l (omega arith) (omega (arith, highest))
        (falling_none n 0 levels (suc l) (omega (arith, highest)))
        (sub binary64 radius plus_zero) (starts c plus_zero) refl

    begun_walk : Begun weights mu target radius walk
    begun_walk = record {
      begins = begins;
      ready = λ rest e.
          let fits : n ≤ length rest = omega (arith, e, shape.small) in
          record {
            sound = record {
              shape = shape;
              bounded = omega arith;
              point_length = refl;
              best_length = refl;
              levels_length = refl;
              falling = falling_lower n 0 walk.levels l 0 walk.count (omega arith) falling;
            };
            rest_length = e;
            beside = beside_levels n target rest zeros fits shape.small 0 walk.levels l walk.count falling (beside_none n target rest zeros fits shape.small (l + 1) (omega (arith, highest)));
          };
    }

    -- as the code has it, with its first child x, its level and the number of open levels
    pub begun_open : (x : Option (Trial × Children)) → x ≡ entered_of (starts c zero) → (f : OpenLevel) → f ≡ waiting_of l zero none x → (count : ℕ) → count ≡ count_of 0 x → Begun weights mu target radius (walk_with radius (set levels 0 f) count)
    begun_open x e f g count h = subst (Begun weights mu target radius) (sym same) begun_walk
      where
        first_of : x ≡ first
        first_of = e ∙ ap (λ (p : Float). entered_of (starts c p)) zero_is

        same : walk_with radius (set levels 0 f) count ≡ walk
        same =
            ap (λ (y : OpenLevel). walk_with radius (set levels 0 y) count) (g ∙ ap (λ (p : Float). waiting_of l p none x) zero_is ∙ ap (waiting_of l plus_zero none) first_of)
            ∙ ap (walk_with radius walk.levels) (h ∙ ap (count_of 0) first_of)
