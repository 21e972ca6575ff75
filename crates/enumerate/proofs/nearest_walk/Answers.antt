-- `nearest_walk` meets its contract: the walk from its start is the nearest walk, and what it ended with is handed on. Assumes nothing.
use mathlib.Core.Path.{◌≡◌, refl, ap, sym, ◌∙◌}
use mathlib.Core.List.{List, []}
use Prim.Native.Nat.{ℕ}
use native.Mathlib.Nat.{zero-mul}
use native.Mathlib.Omega.{arith}
use mathlib.Core.Bool.{false}
use lib.ListN.{length, take}
use lib.IntN.{ℤ}
use borrow.Author.Tests.{lt-ltb, le-ltb}
use Rattle.definitions.specs.Table.{table}
use Rattle.definitions.specs.Walk.{Walked, ended}
use Rattle.definitions.specs.Nearest.{Best, best, nearest_walk}
use Rattle.search.specs.View.{carried, seen}
use Rattle.search.specs.Call.{State, state}
use Rattle.search.proofs.Map.{mapped}
use Rattle.search.proofs.Instances.{best_only, nearest_instance, walk_from_start, ready_at_start}
use Rattle.search.proofs.Outcomes.{is_exhausted, is_found, is_outside}
use Rattle.enumerate.specs.View.{walk_output}
use Rattle.enumerate.proofs.nearest_walk.Goals as goal
use Rattle.enumerate.proofs.nearest_walk.Goals.{After-run-end}

module _ (v : After-run-end) where
  abbrev n : ℕ
  n = length v.args.weights.now

  -- the state at its end, and the walk that it has made
  abbrev end : State
  end = let w = v.run-end.new in state (carried false v.run-end.result w.found w.exhausted) w.rest w.distances w.points

  abbrev walk : Walked Best
  walk = let a = v.args in nearest_walk (table a.weights.now a.mu.now) a.target.now a.radius a.budget

  walked : seen n end.search end.distances end.points ≡ mapped best_only walk
  walked =
      let a = v.args in
      let t = table a.weights.now a.mu.now in
      v.run-end.ensures.seen_as
      ∙ walk_from_start false t a.target.now a.budget a.radius _ v.new.ensures [] [] v.requires.shape.shape
      ∙ nearest_instance t a.target.now a.radius a.budget 0

pub run-end-requires : goal.run-end-requires
run-end-requires c =
    let a = c.args in
    ready_at_start false (table a.weights.now a.mu.now) a.target.now a.budget a.radius _ c.new.ensures [] [] c.requires.shape.shape _ c.requires.bounded refl (omega arith) (sym (zero-mul (length a.weights.now)))

pub returns-then-exhausted : goal.returns-then-exhausted
returns-then-exhausted c =
    let v = (goal.at.returns-then-exhausted c).After-run-end in
    let e = is_exhausted best_only (n v) (end v) (walk v) (walked v) c.if-exhausted.true in
    record { tells = sym e; writes = sym (ap (λ (x : Walked Best). walk_output x c.args.out.now) e) }

pub returns-then-found-eq0 : goal.returns-then-found-eq0
returns-then-found-eq0 c =
    let v = (goal.at.returns-then-found-eq0 c).After-run-end in
    let e = is_outside (n v) (end v) (walk v) (walked v) c.if-exhausted.false (le-ltb 0 c.run-end.new.found (omega (arith, c.if-found-eq0.true))) in
    record { tells = sym e; writes = sym (ap (λ (x : Walked Best). walk_output x c.args.out.now) e) }

pub returns : goal.returns
returns c =
    let v = (goal.at.returns c).After-run-end in
    let r = c.run-end.result in
    let e = is_found (n v) (end v) (walk v) (walked v) c.if-exhausted.false (lt-ltb 0 c.run-end.new.found (omega (arith, c.if-found-eq0.false))) in
    let o = c.copy.ensures ∙ ap (λ (k : ℕ). take k r.best) c.requires.shape.output_length in
    record { tells = ap (λ (zs : List ℤ). ended (best zs) r.radius r.nodes) o ∙ sym e; writes = o ∙ sym (ap (λ (x : Walked Best). walk_output x c.args.out.now) e) }
