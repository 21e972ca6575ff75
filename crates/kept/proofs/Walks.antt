-- A walk of the code as a machine that is over, or is not. Assumes nothing.
use mathlib.Core.Path.{◌≡◌, sym, ap, ◌∙◌}
use mathlib.Core.List.{List, [], ◌∷◌}
use Prim.Native.Nat.{ℕ, suc, ◌-◌}
use native.Mathlib.Omega.{arith}
use lib.ListN.{length}
use lib.IntN.{ℤ}
use lib.Ieee.{Float}
use Rattle.definitions.specs.Walk.{ended}
use Rattle.definitions.specs.Machine.{Frame, Machine, came, outcome_of}
use Rattle.definitions.specs.Refusals.{budget_exhausted}
use Rattle.definitions.specs.Calls.{refused, end_of_nearest}
use Rattle.definitions.specs.Kept.{if_over}
use Rattle.definitions.proofs.Machine.{came_over, came_waiting}
use Rattle.definitions.proofs.Answers.{end_exhausted}
use Rattle.resume.specs.declared.Walk.{Walk}
use Rattle.resume.specs.View.{stack_of, frame_of, level_at, best_of, machine_of}
use Rattle.resume.proofs.Levels.{stack_zero, stack_suc}
use Rattle.kept.specs.Part.{over_answer}

module _ (weights : List Float) (s : Walk) (m : Machine) (is : machine_of weights s ≡ m) where
  -- ---- no open level is left
  module _ (none : s.count ≡ 0) where
    stack_over : (machine_of weights s).stack ≡ []
    stack_over = ap (stack_of weights s.point s.levels) none ∙ stack_zero weights s.point s.levels

    pub over_answer_lem : (R : Float) (out : List ℤ) → length out ≡ length weights → end_of_nearest R (outcome_of m) ≡ over_answer R s out
    over_answer_lem R out e =
        ap (λ (x : Machine). end_of_nearest R (outcome_of x)) (sym is)
        ∙ ap (end_of_nearest R) (ap (λ (fs : List Frame). came fs (best_of (length weights) s) s.radius s.nodes) stack_over ∙ came_over (best_of (length weights) s) s.radius s.nodes)
        ∙ ap (λ (n : ℕ). end_of_nearest R (ended (best_of n s) s.radius s.nodes)) (sym e)

    pub over_left : {A : Type 0} (over goes : A) → if_over m.stack over goes ≡ over
    over_left over goes = ap (λ (x : Machine). if_over x.stack over goes) (sym is) ∙ ap (λ (fs : List Frame). if_over fs over goes) stack_over

  -- ---- some are
  module _ (some : s.count ≡ 0 → ⊥) where
    abbrev top : ℕ
    top = s.count - 1

    stack_going : (machine_of weights s).stack ≡ frame_of weights s.point (level_at s.levels top) ∷ stack_of weights s.point s.levels top
    stack_going = ap (stack_of weights s.point s.levels) (one_more s.count some) ∙ stack_suc weights s.point s.levels top
      where
        one_more : (k : ℕ) → (k ≡ 0 → ⊥) → k ≡ suc (k - 1)
        one_more k d = omega arith

    pub going_answer : (R : Float) → end_of_nearest R (outcome_of m) ≡ refused (budget_exhausted s.nodes s.radius)
    going_answer R =
        ap (λ (x : Machine). end_of_nearest R (outcome_of x)) (sym is)
        ∙ ap (end_of_nearest R) (ap (λ (fs : List Frame). came fs (best_of (length weights) s) s.radius s.nodes) stack_going ∙ came_waiting (best_of (length weights) s) s.radius s.nodes (frame_of weights s.point (level_at s.levels top)) (stack_of weights s.point s.levels top))
        ∙ end_exhausted R s.nodes s.radius

    pub going_left : {A : Type 0} (over goes : A) → if_over m.stack over goes ≡ goes
    going_left over goes = ap (λ (x : Machine). if_over x.stack over goes) (sym is) ∙ ap (λ (fs : List Frame). if_over fs over goes) stack_going
