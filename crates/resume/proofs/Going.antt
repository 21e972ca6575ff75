-- What the loop of `run_to` keeps, and how it ends. Assumes nothing.
use mathlib.Core.Path.{◌≡◌, sym, ap, ◌∙◌}
use Prim.Native.Nat.{ℕ, suc, ◌+◌, ◌-◌, ◌≤◌, ◌<◌}
use native.Mathlib.Omega.{arith}
use mathlib.Core.List.{List, []}
use lib.ListN.{length}
use lib.Ieee.{Float}
use Rattle.definitions.specs.Table.{Table, table}
use Rattle.definitions.specs.Machine.{Frame, Machine, machine, run_for}
use Rattle.definitions.proofs.Machine.{run_zero, run_suc, over_stays}
use Rattle.resume.specs.declared.Walk.{Walk}
use Rattle.resume.specs.View.{stack_of, best_of, machine_of}
use Rattle.resume.specs.Ready.{Ready, RanTo}
use Rattle.resume.proofs.Levels.{stack_zero}
use Rattle.resume.proofs.Turning.{Stepped}

-- It keeps a walk that is ready, and from which what is left of the budget leads where it led from the start.
pub record Going (weights mu target : List Float) (budget : ℕ) (s₀ : Walk) (rest : List Float) (s : Walk) : Type 0 where
  pub ready : Ready weights mu target rest s
  pub left : run_for (table weights mu) target (budget - s.nodes) (machine_of weights s) ≡ run_for (table weights mu) target (budget - s₀.nodes) (machine_of weights s₀)

module _ {weights mu target : List Float} {budget : ℕ} {s₀ : Walk} {rest : List Float} {s : Walk} (g : Going weights mu target budget s₀ rest s) where
  abbrev table' : Table
  table' = table weights mu

  pub goes_on : s.nodes < budget → {rest' : List Float} {s' : Walk} → Stepped weights mu target s rest' s' → Going weights mu target budget s₀ rest' s'
  goes_on h {rest'} {s'} x = record {
    ready = x.ready;
    left =
        ap (λ (m : ℕ). run_for table' target (budget - m) (machine_of weights s')) x.nodes
        ∙ ap (run_for table' target (budget - (s.nodes + 1))) (sym x.steps)
        ∙ sym (run_suc table' target (budget - (s.nodes + 1)) (machine_of weights s))
        ∙ ap (λ (m : ℕ). run_for table' target m (machine_of weights s)) (one_less s.nodes h)
        ∙ g.left;
  }
    where
      one_less : (m : ℕ) → m < budget → suc (budget - (m + 1)) ≡ budget - m
      one_less m h = omega arith

  -- no level is open
  pub ends_over : s.count ≡ 0 → RanTo weights mu target budget s₀ rest s
  ends_over e = record {
    runs =
        ap over none
        ∙ sym (over_stays table' target (budget - s.nodes) (best_of (length weights) s) s.radius s.nodes)
        ∙ sym (ap (λ (fs : List Frame). run_for table' target (budget - s.nodes) (over fs)) none)
        ∙ g.left;
    ready = g.ready;
  }
    where
      over : List Frame → Machine
      over fs = machine fs (best_of (length weights) s) s.radius s.nodes

      none : stack_of weights s.point s.levels s.count ≡ []
      none = ap (stack_of weights s.point s.levels) e ∙ stack_zero weights s.point s.levels

  -- the budget is spent
  pub ends_spent : budget ≤ s.nodes → RanTo weights mu target budget s₀ rest s
  ends_spent h = record {
    runs = sym (ap (λ (m : ℕ). run_for table' target m (machine_of weights s)) (none s.nodes h) ∙ run_zero table' target (machine_of weights s)) ∙ g.left;
    ready = g.ready;
  }
    where
      none : (m : ℕ) → budget ≤ m → budget - m ≡ 0
      none m h = omega arith
