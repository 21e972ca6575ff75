-- `turn` keeps its promises: the record of `specs/Turns.antt`. Assumes nothing.
use mathlib.Core.Path.{◌≡◌, sym, ap, ◌∙◌, subst}
use mathlib.Core.List.{List, [], ◌∷◌}
use mathlib.Core.Logic.{inl, ⊎_elim}
use Prim.Native.Nat.{ℕ, ◌+◌, ◌^◌, ◌≤◌, ◌<◌}
use lib.ListN.{take}
use lib.IntN.{ℤ}
use Rattle.definitions.specs.Table.{dimension}
use Rattle.definitions.specs.Checks.{Verdict}
use Rattle.definitions.specs.Calls.{Answer, NearestPoint, nearest_output}
use Rattle.definitions.specs.Kept.{Held, holds}
use Rattle.definitions.specs.Block.{Block, part_of, slot_in}
use Rattle.definitions.specs.Named.{pick_up, block_after_pick_up, checks_of_pick_up}
use Rattle.definitions.specs.Turn.{Turn, served, slice_answer, checks_of_turn, turn, block_after_turn, last_after_turn, turn_output}
use Rattle.theorems.specs.Refusals.{NoneFits}
use Rattle.theorems.specs.Kept.{PickUpPromises, Reached}
use Rattle.theorems.specs.Turns.{NextHeld, Bench, zero_bench, BenchCall, kept, turned, after_bench_call, after_bench_calls, AsPickUp, PutOut, TurnPromises}
use Rattle.theorems.proofs.FirstRefusal.{decision, first_fits}
use Rattle.theorems.proofs.KeptLists.{zero_reached, by_name, picked_reached, call_reached}
use Rattle.theorems.proofs.KeptPromises.{pick_up_promises}
use Rattle.theorems.proofs.TurnChecks.{turn_numbered, turn_accepts, turn_next, turn_refused}
use Rattle.theorems.proofs.TurnCalls.{turned_stays, turned_none, turned_last, turned_name, turned_n, turned_answer, turned_as_pick_up, turned_past, turned_as_told, within_or_past, turned_others, turned_lengths, told_others, turned_n_most}
use Rattle.theorems.proofs.FairTurns.{fair}
use Rattle.theorems.proofs.TurnOutputs.{turned_demand, turned_first, turned_writes}
use Rattle.theorems.proofs.TurnRows.{kept_through}

-- ---- calls in a row from zeros
turn_reached : (b : Block) (last : ℕ) (out : List ℤ) (slice : ℕ) → Reached b → Reached (block_after_turn b last out slice)
turn_reached b last out slice r = ⊎_elim (λ some. subst Reached (sym (turned_stays b last out slice some.0 (first_fits some.1)).0) r) (λ other. by other.0) (decision (checks_of_turn b last out slice))
  where
    by : NoneFits (checks_of_turn b last out slice) → Reached (block_after_turn b last out slice)
    by f =
        let (h, held) = (turn_next b last out slice f).held in
        ⊎_elim
        (λ l. subst Reached (sym (turned_as_pick_up b last out slice f h held l).1) (picked_reached b (served b last) (take (dimension h.table) out) slice r))
        (λ l. record {
          block = turned_lengths b last out slice r.block;
          sound = by_name (served b last) b (block_after_turn b last out slice) (turned_others b last out slice) r.sound (inl (turned_past b last out slice f h held l).2);
        })
        (within_or_past b last out slice f h held)

bench_reached : (cs : List BenchCall) (s : Bench) → Reached s.block → Reached (after_bench_calls s cs).block
bench_reached [] s r = r
bench_reached (kept c ∷ cs) s r = bench_reached cs (after_bench_call s (kept c)) (call_reached s.block c r)
bench_reached (turned out slice ∷ cs) s r = bench_reached cs (after_bench_call s (turned out slice)) (turn_reached s.block s.last out slice r)

module _ (b : Block) (last : ℕ) (out : List ℤ) (slice : ℕ) where
  abbrev asked : List Verdict
  asked = checks_of_turn b last out slice

  abbrev r : Turn
  r = turn b last out slice

  abbrev out' : List ℤ
  out' = turn_output r.answer out

  abbrev b' : Block
  b' = block_after_turn b last out slice

  -- ---- an accepted turn, of the search under the name that it tells
  module _ (f : NoneFits asked) (h : Held) (e : slot_in b r.name ≡ holds h) where
    held : slot_in b (served b last) ≡ holds h
    held = ap (slot_in b) (sym (turned_name b last out slice f)) ∙ e

    n_is : r.n ≡ dimension h.table
    n_is = turned_n b last out slice f h held

    abbrev AsTold : ℕ → ℕ → Type 0
    AsTold name n =
        (r.answer ≡ pick_up b name (take n out) slice)
        × (b' ≡ block_after_pick_up b name (take n out) slice)
        × NoneFits (checks_of_pick_up b name (take n out) slice)
        × PickUpPromises b name (take n out) slice r.answer (take n out') b'

    as_served : h.walk.nodes + slice ≤ 2 ^ 60 → AsTold (served b last) (dimension h.table)
    as_served l =
        let n = dimension h.table in
        let q = turned_as_pick_up b last out slice f h held l in
        let own = subst (λ (a : Answer NearestPoint). PickUpPromises b (served b last) (take n out) slice a (nearest_output a (take n out)) (block_after_pick_up b (served b last) (take n out) slice)) (sym q.0) (pick_up_promises b (served b last) (take n out) slice) in
        let block = subst (PickUpPromises b (served b last) (take n out) slice r.answer (nearest_output r.answer (take n out))) (sym q.1) own in
        (q.0, q.1, q.2, subst (λ (o : List ℤ). PickUpPromises b (served b last) (take n out) slice r.answer o b') (sym (turned_first b last out slice f h held)) block)

    as_pick_up : h.walk.nodes + slice ≤ 2 ^ 60 → AsPickUp b last out slice r out' b'
    as_pick_up l =
        let q = subst (λ (name : ℕ). AsTold name r.n) (sym (turned_name b last out slice f)) (subst (AsTold (served b last)) (sym n_is) (as_served l)) in
        record { answer_is = q.0; block_is = q.1; accepted = q.2; promises = q.3 }

    put_out : 2 ^ 60 < h.walk.nodes + slice → PutOut b last out slice h r b'
    put_out l =
        let q = turned_past b last out slice f h held l in
        let told = turned_name b last out slice f in
        let zero = subst (λ (name : ℕ). r.answer ≡ pick_up b name (take r.n out) 0) (sym told) (subst (λ (n : ℕ). r.answer ≡ pick_up b (served b last) (take n out) 0) (sym n_is) (turned_as_told b last out slice f h held l)) in
        record { answer_is = q.0; as_pick_up = zero; part_is = ap (part_of b') told ∙ q.1; slot_is = ap (slot_in b') told ∙ q.2 }

  pub turn_promises : TurnPromises b last out slice r out' b' (last_after_turn b last out slice)
  turn_promises = record {
    accepts = turn_accepts b last out slice;
    demand_1 = turned_demand b last out slice;
    order = turn_numbered b last out slice;
    by_fault = turn_refused b last out slice (slice_answer slice (slot_in b (served b last))) r.answer (turned_answer b last out slice);
    serves_none = turned_none b last out slice;
    stays = turned_stays b last out slice;
    serves = λ f. subst (NextHeld b last) (sym (turned_name b last out slice f)) (turn_next b last out slice f);
    tells_n = λ f h e. n_is f h e;
    n_most = turned_n_most b last out slice;
    last_is = λ f. turned_last b last out slice f ∙ sym (turned_name b last out slice f);
    within = λ f h e. as_pick_up f h e;
    past = λ f h e. put_out f h e;
    writes = turned_writes b last out slice;
    others = told_others b last out slice;
    lengths = turned_lengths b last out slice;
    reached = λ cs e. let q = subst Reached (sym e) (bench_reached cs zero_bench zero_reached) in (q, turn_reached b last out slice q);
    fair = fair (record { block = b; last = last });
    keeps_through = kept_through (record { block = b; last = last });
  }
