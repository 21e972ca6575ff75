-- A machine that runs for a budget ends as the nearest walk does with it, and one that is picked up with further budgets as the walk with their sum. Assumes nothing.
use mathlib.Core.Path.{◌≡◌, sym, ap, ◌∙◌}
use Prim.Native.Nat.{ℕ, zero, suc, ◌+◌}
use native.Mathlib.Omega.{arith}
use mathlib.Core.Bool.{Bool, true, false}
use mathlib.Core.List.{List, [], ◌∷◌}
use lib.Ieee.{Float}
use Rattle.definitions.specs.Table.{Table, dimension, plus_zero}
use Rattle.definitions.specs.Walk.{Walked, ended, exhausted}
use Rattle.definitions.specs.Nearest.{Best, no_best, nearest_walk}
use Rattle.definitions.specs.Machine.{Frame, Machine, machine, descend, visited, advance, step, run_for, begin, outcome_of}
use Rattle.definitions.proofs.Leaves.{nearest_walk_is, ended_is_not_exhausted}
use Rattle.definitions.proofs.Machine.{visited_true, visited_false, advance_child, step_is, run_zero, run_suc, begin_is, over_stays, descend_nodes, came_over, came_waiting}
use Rattle.theorems.proofs.Resumed.{resume, resume_nil, descend_resumes, stops, goes_on}

module _ (t : Table) (target : List Float) where
  -- ---- the budgets of pickups add up, whatever the machine holds
  pub run_sum : (a b : ℕ) (s : Machine) → run_for t target (a + b) s ≡ run_for t target b (run_for t target a s)
  run_sum zero b s = ap (λ (n : ℕ). run_for t target n s) (plain b) ∙ ap (run_for t target b) (sym (run_zero t target s))
    where
      plain : (b : ℕ) → 0 + b ≡ b
      plain b = omega arith
  run_sum (suc a) b s =
      ap (λ (n : ℕ). run_for t target n s) (moved a b)
      ∙ run_suc t target (a + b) s
      ∙ run_sum a b (step t target s)
      ∙ ap (run_for t target b) (sym (run_suc t target a s))
    where
      moved : (a b : ℕ) → suc a + b ≡ suc (a + b)
      moved a b = omega arith

  -- ---- a step of a machine that is not over costs one node
  visited_nodes : (b : Bool) (f : Frame) (sum : Float) (fs : List Frame) (k : Best) (S : Float) (m : ℕ) → (visited t target b f sum fs k S m).nodes ≡ m
  visited_nodes true f sum fs k S m = ap (λ (s : Machine). s.nodes) (visited_true t target f sum fs k S m) ∙ descend_nodes t target f.level (f.waiting ∷ f.above) sum fs k S m
  visited_nodes false f sum fs k S m = ap (λ (s : Machine). s.nodes) (visited_false t target f sum fs k S m)

  advance_nodes : (f : Frame) (fs : List Frame) (k : Best) (S : Float) (m : ℕ) → (advance t target (f ∷ fs) k S m).nodes ≡ suc m
  advance_nodes f fs k S m = ap (λ (s : Machine). s.nodes) (advance_child t target f fs k S m) ∙ visited_nodes _ f _ _ k S (suc m)

  -- a run by one more node
  run_more : (b : ℕ) (f : Frame) (fs : List Frame) (k : Best) (S : Float) (m : ℕ) → run_for t target (suc b) (machine (f ∷ fs) k S m) ≡ run_for t target b (advance t target (f ∷ fs) k S m)
  run_more b f fs k S m = run_suc t target b (machine (f ∷ fs) k S m) ∙ ap (run_for t target b) (step_is t target (machine (f ∷ fs) k S m))

  -- what is over ends with what it has
  over_ends : (b : ℕ) (k : Best) (S : Float) (m : ℕ) → outcome_of (run_for t target b (machine [] k S m)) ≡ ended k S m
  over_ends b k S m = ap outcome_of (over_stays t target b k S m) ∙ came_over k S m

  -- in 15 the count is the budget
  pub run_nodes : (b : ℕ) (stack : List Frame) (k : Best) (S : Float) (m n : ℕ) (R : Float) → outcome_of (run_for t target b (machine stack k S m)) ≡ exhausted n R → n ≡ m + b
  run_nodes zero [] k S m n R e = absurd (ended_is_not_exhausted k S m n R (sym (over_ends zero k S m) ∙ e))
  run_nodes (suc b) [] k S m n R e = absurd (ended_is_not_exhausted k S m n R (sym (over_ends (suc b) k S m) ∙ e))
  run_nodes zero (f ∷ fs) k S m n R e = same (sym (ap outcome_of (run_zero t target (machine (f ∷ fs) k S m)) ∙ came_waiting k S m f fs) ∙ e)
    where
      same : ◌≡◌ {A = Walked Best} (exhausted m S) (exhausted n R) → n ≡ m + 0
      same q = let r : m ≡ n = cc in omega arith
  run_nodes (suc b) (f ∷ fs) k S m n R e =
      let s = advance t target (f ∷ fs) k S m in
      next_one s (advance_nodes f fs k S m) (run_nodes b s.stack s.kept s.standing s.nodes n R (sym (ap outcome_of (run_more b f fs k S m)) ∙ e))
    where
      next_one : (s : Machine) → s.nodes ≡ suc m → n ≡ s.nodes + b → n ≡ m + suc b
      next_one s e q = omega arith

  -- ---- a machine stands for the recursive walk
  module _ (budget : ℕ) where
    runs : (b : ℕ) (stack : List Frame) (k : Best) (S : Float) (m : ℕ) → m + b ≡ budget → outcome_of (run_for t target b (machine stack k S m)) ≡ resume t target budget stack (ended k S m)
    runs zero [] k S m h = over_ends zero k S m ∙ sym (resume_nil t target budget (ended k S m))
    runs (suc b) [] k S m h = over_ends (suc b) k S m ∙ sym (resume_nil t target budget (ended k S m))
    runs zero (f ∷ fs) k S m h =
        ap outcome_of (run_zero t target (machine (f ∷ fs) k S m))
        ∙ came_waiting k S m f fs
        ∙ sym (stops t target budget f fs k S m (omega arith))
    runs (suc b) (f ∷ fs) k S m h =
        let s = advance t target (f ∷ fs) k S m in
        ap outcome_of (run_more b f fs k S m)
        ∙ runs b s.stack s.kept s.standing s.nodes (counted s (advance_nodes f fs k S m))
        ∙ goes_on t target budget f fs k S m (omega arith)
      where
        counted : (s : Machine) → s.nodes ≡ suc m → s.nodes + b ≡ budget
        counted s e = omega arith

    -- from its start, with a budget, it ends as the nearest walk does
    pub nearest_runs : (R : Float) → outcome_of (run_for t target budget (begin t target R)) ≡ nearest_walk t target R budget
    nearest_runs R =
        let s = descend t target (dimension t) [] plus_zero [] no_best R 0 in
        ap (λ (s : Machine). outcome_of (run_for t target budget s)) (begin_is t target R)
        ∙ runs budget s.stack s.kept s.standing s.nodes (start s (descend_nodes t target (dimension t) [] plus_zero [] no_best R 0))
        ∙ descend_resumes t target budget (dimension t) [] plus_zero [] no_best R 0
        ∙ resume_nil t target budget _
        ∙ sym (nearest_walk_is t target R budget)
      where
        start : (s : Machine) → s.nodes ≡ 0 → s.nodes + budget ≡ budget
        start s e = omega arith
