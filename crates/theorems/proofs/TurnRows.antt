-- Calls and turns in a row: a kept search goes through those that leave it and those that pick it up or serve it, with all their budgets and slices. Assumes nothing.
use mathlib.Core.Path.{◌≡◌, refl, sym, ap, ◌∙◌, subst}
use mathlib.Core.Bool.{Bool, true, false, cond}
use mathlib.Core.List.{List, [], ◌∷◌}
use mathlib.Core.Logic.{inl, inr, ⊎_elim}
use Prim.Native.Nat.{ℕ, ◌+◌, ◌^◌, ◌≤◌}
use native.Mathlib.Omega.{arith}
use borrow.Author.Tests.{eqb-true, eqb-false}
use lib.Dec.{eqb}
use lib.ListN.{take}
use lib.IntN.{ℤ}
use lib.Ieee.{Float}
use Rattle.definitions.specs.Table.{Table, dimension}
use Rattle.definitions.specs.Checks.{handed_on}
use Rattle.definitions.specs.Kept.{Held, search_for, holds}
use Rattle.definitions.specs.Block.{Block, slot_in}
use Rattle.definitions.specs.Named.{checks_of_pick_up, pick_up, block_after_pick_up}
use Rattle.definitions.specs.Turn.{served, checks_of_turn, turn, block_after_turn}
use Rattle.theorems.specs.Refusals.{NoneFits}
use Rattle.theorems.specs.Kept.{IsName}
use Rattle.theorems.specs.Turns.{Bench, BenchCall, kept, turned, after_bench_call, after_bench_calls, HasRoom, LeavesOrServes, AllLeaveOrServe, nodes_for, all_nodes_for, KeptThrough}
use Rattle.theorems.proofs.FirstRefusal.{decision, first_fits}
use Rattle.theorems.proofs.KeptLists.{holds≢free, kept_or_free, KeptOrFree, others_kept, call_kept}
use Rattle.theorems.proofs.TurnChecks.{turn_next}
use Rattle.theorems.proofs.TurnCalls.{turned_none, turned_name, turned_as_pick_up, told_others}

module _ (name : ℕ) (is : IsName name) (t : Table) (target : List Float) (R : Float) where
  abbrev Kept : Block → ℕ → Type 0
  Kept b sum = KeptOrFree name is t target R b sum

  -- ---- a turn
  module _ (b : Block) (last : ℕ) (out : List ℤ) (slice sum : ℕ) where
    abbrev left : Block
    left = block_after_turn b last out slice

    -- an accepted one that serves the name is its pickup
    served_kept : NoneFits (checks_of_turn b last out slice) → served b last ≡ name → ((g : Held) → slot_in b name ≡ holds g → g.walk.nodes + slice ≤ 2 ^ 60) → Kept b sum → Kept left (sum + slice)
    served_kept f same room (inl k) =
        subst (λ (x : Block). Kept x (sum + slice)) (sym as_pick_up.1)
        (subst (λ (m : ℕ). Kept (block_after_pick_up b m lent slice) (sum + slice)) (sym same)
        (kept_or_free b name t target R sum k lent slice (subst (λ (m : ℕ). NoneFits (checks_of_pick_up b m lent slice)) same as_pick_up.2)))
      where
        lent : List ℤ
        lent = take (dimension t) out

        as_pick_up : ((turn b last out slice).answer ≡ pick_up b (served b last) lent slice) × (left ≡ block_after_pick_up b (served b last) lent slice) × NoneFits (checks_of_pick_up b (served b last) lent slice)
        as_pick_up = turned_as_pick_up b last out slice f (search_for t target (handed_on R) sum) (ap (slot_in b) same ∙ k.held) (room (search_for t target (handed_on R) sum) k.held)
    served_kept f same room (inr e) = let (h, held) = (turn_next b last out slice f).held in absurd (holds≢free (sym held ∙ ap (slot_in b) same ∙ e))

    -- one that tells the name is accepted
    tells_name : (turn b last out slice).name ≡ name → NoneFits (checks_of_turn b last out slice)
    tells_name e = ⊎_elim (λ some. absurd (none (turn b last out slice).name e (turned_none b last out slice some.0 (first_fits some.1)).0)) (λ other. other.0) (decision (checks_of_turn b last out slice))
      where
        none : (m : ℕ) → m ≡ name → m ≡ 0 → ⊥
        none m p q = omega (arith, is.least)

    turn_kept : HasRoom name (record { block = b; last = last }) (turned out slice) → Kept b sum → Kept left (sum + nodes_for name (record { block = b; last = last }) (turned out slice))
    turn_kept room x = go (eqb (turn b last out slice).name name) refl
      where
        more : (sum : ℕ) → sum ≡ sum + 0
        more sum = omega arith

        go : (c : Bool) → eqb (turn b last out slice).name name ≡ c → Kept left (sum + cond c slice 0)
        go true e =
            let q = eqb-true (turn b last out slice).name name e in
            let f = tells_name q in
            served_kept f (sym (turned_name b last out slice f) ∙ q) (room q) x
        go false e = subst (Kept left) (more sum) (others_kept name is t target R b left (turn b last out slice).name sum (eqb-false (turn b last out slice).name name e) (told_others b last out slice) x)

  -- ---- all of them
  row_kept : (cs : List BenchCall) (s : Bench) (sum : ℕ) → AllLeaveOrServe name s cs → Kept s.block sum → Kept (after_bench_calls s cs).block (sum + all_nodes_for name s cs)
  row_kept [] s sum d x = subst (Kept s.block) (more sum) x
    where
      more : (sum : ℕ) → sum ≡ sum + 0
      more sum = omega arith
  row_kept (c ∷ cs) s sum d x = subst (Kept (after_bench_calls (after_bench_call s c) cs).block) (moved (nodes_for name s c) (all_nodes_for name (after_bench_call s c) cs)) (row_kept cs (after_bench_call s c) (sum + nodes_for name s c) d.1 (one c d.0))
    where
      moved : (x y : ℕ) → sum + x + y ≡ sum + (x + y)
      moved x y = omega arith

      one : (c : BenchCall) → LeavesOrServes name s c → Kept (after_bench_call s c).block (sum + nodes_for name s c)
      one (kept c) d = call_kept name is t target R s.block c sum d x
      one (turned out slice) d = turn_kept s.block s.last out slice sum d x

pub kept_through : (s : Bench) → KeptThrough s
kept_through s name t target R first k cs d = row_kept name k.is_name t target R cs s first d (inl k)
