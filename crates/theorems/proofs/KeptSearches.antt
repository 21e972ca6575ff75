-- A search that is put down and one that goes on: whether it is over, its answer, its count, and that it can be written. Assumes nothing.
use mathlib.Core.Path.{◌≡◌, refl, sym, ap, ◌∙◌, subst}
use mathlib.Core.Bool.{Bool, true, false}
use mathlib.Core.Logic.{◌⊎◌, inl, inr, ⊎_elim}
use Prim.Native.Nat.{ℕ, ◌+◌, ◌-◌, ◌*◌, ◌≤◌, ◌<◌}
use native.Mathlib.Omega.{arith}
use borrow.Author.Tests.{leb-true, leb-false}
use lib.Dec.{leb}
use mathlib.Core.List.{List, [], ◌∷◌}
use lib.ListN.{length}
use lib.Ieee.{Float}
use Rattle.definitions.specs.Table.{Table, dimension, largest_budget}
use Rattle.definitions.specs.Walk.{ended, exhausted}
use Rattle.definitions.specs.Nearest.{nearest_walk}
use Rattle.definitions.specs.Machine.{Frame, Machine, machine, run_for, begin, came, outcome_of}
use Rattle.definitions.specs.Refusals.{budget_exhausted}
use Rattle.definitions.specs.Calls.{refused, end_of_nearest}
use Rattle.definitions.specs.Kept.{Held, search_for, further, answer_of, if_over}
use Rattle.definitions.proofs.Leaves.{ended_is_not_exhausted}
use Rattle.definitions.proofs.Machine.{run_zero, begin_nodes, over_stays, came_over, came_waiting}
use Rattle.definitions.proofs.Answers.{end_exhausted}
use Rattle.theorems.specs.Running.{Exhausted, Ended}
use Rattle.theorems.proofs.Endings.{refused_exhausted}
use Rattle.theorems.proofs.PickedUp.{run_sum, run_nodes, nearest_runs}
use Rattle.theorems.proofs.KeptWalks.{run_fits, begin_fits}
use Rattle.theorems.proofs.KeptParts.{HeldFits}

abbrev pub Over : Held → Type 0
Over h = h.walk.stack ≡ []

-- not over
abbrev pub Going : Held → Type 0
Going h = h.walk.stack ≡ [] → ⊥

cons≢nil : {f : Frame} {fs : List Frame} → f ∷ fs ≡ [] → ⊥
cons≢nil r = let z : ◌≡◌ {A = ℕ} 0 1 = cc in omega arith

module _ (h : Held) where
  pub outcome_over : h.walk.stack ≡ [] → outcome_of h.walk ≡ ended h.walk.kept h.walk.standing h.walk.nodes
  outcome_over e = ap (λ (s : List Frame). came s h.walk.kept h.walk.standing h.walk.nodes) e ∙ came_over h.walk.kept h.walk.standing h.walk.nodes

  -- a search that is not over is exhausted, with its count and standing radius
  pub outcome_going : Going h → outcome_of h.walk ≡ exhausted h.walk.nodes h.walk.standing
  outcome_going g = go h.walk.stack g
    where
      go : (s : List Frame) → (s ≡ [] → ⊥) → came s h.walk.kept h.walk.standing h.walk.nodes ≡ exhausted h.walk.nodes h.walk.standing
      go [] g = absurd (g refl)
      go (f ∷ fs) g = came_waiting h.walk.kept h.walk.standing h.walk.nodes f fs

  pub answer_going : Going h → answer_of h ≡ refused (budget_exhausted h.walk.nodes h.walk.standing)
  answer_going g = ap (end_of_nearest h.radius) (outcome_going g) ∙ end_exhausted h.radius h.walk.nodes h.walk.standing

  pub exhausts : Going h → Exhausted (answer_of h)
  exhausts g = (h.walk.nodes, h.walk.standing, answer_going g)

  -- one that is over is not
  pub ends : h.walk.stack ≡ [] → Ended (answer_of h)
  ends e m S q = ended_is_not_exhausted h.walk.kept h.walk.standing h.walk.nodes m S (sym (outcome_over e) ∙ refused_exhausted h.radius (outcome_of h.walk) m S q)

  pub going : (m : ℕ) (S : Float) → answer_of h ≡ refused (budget_exhausted m S) → Going h
  going m S q e = ends e m S q

  -- what stands in the two cases
  pub if_going : {A : Type 0} (over goes : A) → Going h → if_over h.walk.stack over goes ≡ goes
  if_going {A} over goes g = go h.walk.stack g
    where
      go : (s : List Frame) → (s ≡ [] → ⊥) → if_over s over goes ≡ goes
      go [] g = absurd (g refl)
      go (f ∷ fs) g = refl

  pub if_ended : {A : Type 0} (over goes : A) → Ended (answer_of h) → if_over h.walk.stack over goes ≡ over
  if_ended {A} over goes e = go h.walk.stack refl
    where
      go : (s : List Frame) → h.walk.stack ≡ s → if_over s over goes ≡ over
      go [] q = refl
      go (f ∷ fs) q = absurd (e h.walk.nodes h.walk.standing (answer_going (λ r. cons≢nil (sym q ∙ r))))

  -- one or the other
  pub over_or_going : (h.walk.stack ≡ []) ⊎ Going h
  over_or_going = go h.walk.stack refl
    where
      go : (s : List Frame) → h.walk.stack ≡ s → (h.walk.stack ≡ []) ⊎ Going h
      go [] e = inl e
      go (f ∷ fs) e = inr (λ r. cons≢nil (sym e ∙ r))

-- ---- further budgets
module _ (h : Held) where
  with_walk : {v w : Machine} → v ≡ w → ◌≡◌ {A = Held} (record { table = h.table; target = h.target; radius = h.radius; walk = v }) (record { table = h.table; target = h.target; radius = h.radius; walk = w })
  with_walk e = ap (λ (w : Machine). record { table = h.table; target = h.target; radius = h.radius; walk = w }) e

  -- no node further, it is as it was
  pub further_zero : further h 0 ≡ h
  further_zero = with_walk (run_zero h.table h.target h.walk)

  pub further_sum : (a b : ℕ) → further (further h a) b ≡ further h (a + b)
  further_sum a b = with_walk (sym (run_sum h.table h.target a b h.walk))

  -- one that is over stays as it is
  pub over_further : (b : ℕ) → Over h → further h b ≡ h
  over_further b e =
      let s = h.walk in
      with_walk
      (ap (λ (x : List Frame). run_for h.table h.target b (machine x s.kept s.standing s.nodes)) e
      ∙ over_stays h.table h.target b s.kept s.standing s.nodes
      ∙ sym (ap (λ (x : List Frame). machine x s.kept s.standing s.nodes) e))

  pub over_ended : Ended (answer_of h) → Over h
  over_ended e = ⊎_elim (λ o. o) (λ g. let x = exhausts h g in absurd (e x.0 x.1 x.2)) (over_or_going h)

-- two further budgets that both end a search end it in the same way
pub over_same : (h : Held) (a b : ℕ) → Over (further h a) → Over (further h b) → further h a ≡ further h b
over_same h a b p q = go (leb a b) refl
  where
    later : (a b : ℕ) → Over (further h a) → a + (b - a) ≡ b → further h b ≡ further h a
    later a b p e = sym (further_sum h a (b - a) ∙ ap (further h) e) ∙ over_further (further h a) (b - a) p

    split : (a b : ℕ) → a ≤ b → a + (b - a) ≡ b
    split a b l = omega arith

    less : (a b : ℕ) → b < a → b ≤ a
    less a b l = omega arith

    go : (c : Bool) → leb a b ≡ c → further h a ≡ further h b
    go true e = sym (later a b p (split a b (leb-true a b e)))
    go false e = later b a q (split b a (less a b (leb-false a b e)))

-- a search that went on counts its further budget, if it is not over
pub further_nodes : (h : Held) (b : ℕ) → Going (further h b) → (further h b).walk.nodes ≡ h.walk.nodes + b
further_nodes h b g =
    let s = h.walk in
    run_nodes h.table h.target b s.stack s.kept s.standing s.nodes (further h b).walk.nodes (further h b).walk.standing (outcome_going (further h b) g)

module _ (t : Table) (target : List Float) (R : Float) where
  -- budgets in a row are one with their sum
  pub search_further : (a b : ℕ) → further (search_for t target R a) b ≡ search_for t target R (a + b)
  search_further a b = ap (λ (w : Machine). record { table = t; target = target; radius = R; walk = w }) (sym (run_sum t target a b (begin t target R)))

  -- its answer is that of the nearest walk with the budget
  pub search_answer : (a : ℕ) → answer_of (search_for t target R a) ≡ end_of_nearest R (nearest_walk t target R a)
  search_answer a = ap (end_of_nearest R) (nearest_runs t target a R)

  pub search_nodes : (a : ℕ) → Going (search_for t target R a) → (search_for t target R a).walk.nodes ≡ a
  search_nodes a g =
      let b = begin t target R in
      run_nodes t target a b.stack b.kept b.standing b.nodes (search_for t target R a).walk.nodes (search_for t target R a).walk.standing (outcome_going (search_for t target R a) g)
      ∙ zeros b.nodes (begin_nodes t target R)
    where
      zeros : (m : ℕ) → m ≡ 0 → m + a ≡ a
      zeros m e = omega arith

  pub search_fits : dimension t ≤ 23 → length t.mu ≡ dimension t * dimension t → length target ≡ dimension t → (a : ℕ) → a ≤ largest_budget → Going (search_for t target R a) → HeldFits (search_for t target R a)
  search_fits small square aimed a few g = record {
    small = small;
    square = square;
    target_length = aimed;
    few = subst (λ (m : ℕ). m ≤ largest_budget) (sym (search_nodes a g)) few;
    walk = run_fits t target a (begin t target R) (begin_fits t target R);
    going = g;
  }
