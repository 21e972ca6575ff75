-- The machine's definitions, a clause each, as equations; and that one that is over stays as it is. Assumes nothing.
use mathlib.Core.Path.{◌≡◌, refl, ap, ◌∙◌}
use Prim.Native.Nat.{ℕ, zero, suc}
use mathlib.Core.Bool.{true, false}
use mathlib.Core.List.{List, [], ◌∷◌}
use lib.IntN.{ℤ}
use lib.Ieee.{Float, binary64, add, sub, le}
use Rattle.definitions.specs.Table.{Table, dimension, weight, plus_zero}
use Rattle.definitions.specs.Distance.{term, center}
use Rattle.definitions.specs.Zigzag.{Zigzag, child, none, open_level, no_children, start, next}
use Rattle.definitions.specs.Walk.{ended, exhausted}
use Rattle.definitions.specs.Nearest.{Best, no_best}
use Rattle.definitions.specs.Machine.{Frame, Machine, machine, push, opened, best_after, standing_after, descend, visited, advance, step, run_for, begin, came}

module _ (level : ℕ) (zs : List ℤ) (p c : Float) (fs : List Frame) where
  pub push_child : (z : ℤ) (g : Zigzag) → push level zs p c (child z g) fs ≡ record { level = level; above = zs; partial = p; center = c; waiting = z; generator = g } ∷ fs
  unfolding push
  push_child z g = refl

  pub push_none : (g : Zigzag) → push level zs p c (none g) fs ≡ fs
  unfolding push
  push_none g = refl

  pub opened_open : (g : Zigzag) → opened level zs p c (open_level g) fs ≡ push level zs p c (next g) fs
  unfolding opened
  opened_open g = refl

  pub opened_closed : opened level zs p c no_children fs ≡ fs
  unfolding opened
  opened_closed = refl

module _ (t : Table) (target : List Float) where
  pub descend_leaf : (zs : List ℤ) (p : Float) (fs : List Frame) (k : Best) (S : Float) (m : ℕ) → descend t target 0 zs p fs k S m ≡ machine fs (best_after zs p k S) (standing_after zs p k S) m
  unfolding descend
  descend_leaf zs p fs k S m = refl

  pub descend_level : (level : ℕ) (zs : List ℤ) (p : Float) (fs : List Frame) (k : Best) (S : Float) (m : ℕ) → descend t target (suc level) zs p fs k S m ≡ machine (opened level zs p (center t target level zs) (start (center t target level zs) (sub binary64 S p) (weight t level)) fs) k S m
  unfolding descend
  descend_level level zs p fs k S m = refl

  module _ (f : Frame) (sum : Float) (fs : List Frame) (k : Best) (S : Float) (m : ℕ) where
    pub visited_true : visited t target true f sum fs k S m ≡ descend t target f.level (f.waiting ∷ f.above) sum fs k S m
    unfolding visited
    visited_true = refl

    pub visited_false : visited t target false f sum fs k S m ≡ machine fs k S m
    unfolding visited
    visited_false = refl

  pub advance_over : (k : Best) (S : Float) (m : ℕ) → advance t target [] k S m ≡ machine [] k S m
  unfolding advance
  advance_over k S m = refl

  pub advance_child : (f : Frame) (fs : List Frame) (k : Best) (S : Float) (m : ℕ) → advance t target (f ∷ fs) k S m ≡ visited t target (le (add binary64 f.partial (term (weight t f.level) f.center f.waiting)) S) f (add binary64 f.partial (term (weight t f.level) f.center f.waiting)) (push f.level f.above f.partial f.center (next f.generator) fs) k S (suc m)
  unfolding advance
  advance_child f fs k S m = refl

  pub step_is : (s : Machine) → step t target s ≡ advance t target s.stack s.kept s.standing s.nodes
  unfolding step
  step_is s = refl

  pub run_zero : (s : Machine) → run_for t target 0 s ≡ s
  unfolding run_for
  run_zero s = refl

  pub run_suc : (b : ℕ) (s : Machine) → run_for t target (suc b) s ≡ run_for t target b (step t target s)
  unfolding run_for
  run_suc b s = refl

  pub begin_is : (R : Float) → begin t target R ≡ descend t target (dimension t) [] plus_zero [] no_best R 0
  unfolding begin
  begin_is R = refl

  -- a descent counts no node, and the start has none
  pub descend_nodes : (depth : ℕ) (zs : List ℤ) (p : Float) (fs : List Frame) (k : Best) (S : Float) (m : ℕ) → (descend t target depth zs p fs k S m).nodes ≡ m
  descend_nodes zero zs p fs k S m = ap (λ (s : Machine). s.nodes) (descend_leaf zs p fs k S m)
  descend_nodes (suc level) zs p fs k S m = ap (λ (s : Machine). s.nodes) (descend_level level zs p fs k S m)

  pub begin_nodes : (R : Float) → (begin t target R).nodes ≡ 0
  begin_nodes R = ap (λ (s : Machine). s.nodes) (begin_is R) ∙ descend_nodes (dimension t) [] plus_zero [] no_best R 0

  pub over_stays : (b : ℕ) (k : Best) (S : Float) (m : ℕ) → run_for t target b (machine [] k S m) ≡ machine [] k S m
  over_stays zero k S m = run_zero (machine [] k S m)
  over_stays (suc b) k S m =
      run_suc b (machine [] k S m)
      ∙ ap (run_for t target b) (step_is (machine [] k S m) ∙ advance_over k S m)
      ∙ over_stays b k S m

module _ (k : Best) (S : Float) (m : ℕ) where
  pub came_over : came [] k S m ≡ ended k S m
  unfolding came
  came_over = refl

  pub came_waiting : (f : Frame) (fs : List Frame) → came (f ∷ fs) k S m ≡ exhausted m S
  unfolding came
  came_waiting f fs = refl
