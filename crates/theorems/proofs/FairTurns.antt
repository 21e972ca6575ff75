-- Turns are fair: a held search that needs c further nodes is over by 8·k accepted turns of one slice, k slices being at least c nodes, if no other is kept under its name. Assumes nothing.
use mathlib.Core.Path.{◌≡◌, refl, sym, ap, ◌∙◌, subst}
use mathlib.Core.Bool.{Bool, true, false}
use mathlib.Core.List.{List, [], ◌∷◌}
use mathlib.Core.Logic.{◌⊎◌, inl, inr, ⊎_elim}
use Prim.Native.Nat.{ℕ, zero, suc, ◌+◌, ◌-◌, ◌*◌, ◌^◌, ◌≤◌, ◌<◌}
use native.Mathlib.Omega.{arith}
use lib.Dec.{leb, eqb}
use borrow.Author.Tests.{leb-true, leb-false, eqb-true, eqb-false}
use lib.ListN.{take}
use lib.IntN.{ℤ}
use lib.Ieee.{Float}
use Rattle.definitions.specs.Table.{Table, dimension}
use Rattle.definitions.specs.Kept.{Held, free, holds, further, answer_of}
use Rattle.definitions.specs.Block.{Block, part_slot, part_of, slot_in}
use Rattle.definitions.specs.Named.{nearest_named, block_after_named, checks_of_pick_up, pick_up, block_after_pick_up}
use Rattle.definitions.specs.Turn.{served, checks_of_turn, turn, block_after_turn}
use Rattle.theorems.specs.Refusals.{NoneFits}
use Rattle.theorems.specs.Running.{Ended}
use Rattle.theorems.specs.Kept.{IsName, IsBlock, named, picked}
use Rattle.theorems.specs.Turns.{last_name, names_on, Bench, BenchCall, kept, turned, after_bench_call, after_bench_calls, accepted_turn, accepted_turns, AllLeave, SumStays, by_turns, by_anyone, at_each_turn, EndsBy, StillHeld, EndsWithin, Fair}
use Rattle.theorems.proofs.FirstRefusal.{Decision, decision, first_fits}
use Rattle.theorems.proofs.KeptSearches.{Over, Going, over_or_going, ends, further_zero, further_sum, over_further, over_ended, over_same, further_nodes}
use Rattle.theorems.proofs.KeptChecks.{pick_up_accepts}
use Rattle.theorems.proofs.NamedCalls.{named_stays, named_cases, named_block_lengths}
use Rattle.theorems.proofs.PickUpCalls.{held_going, picked_stays, picked_goes_on, picked_held, picked_empty, picked_lengths}
use Rattle.theorems.proofs.KeptLists.{named_leaves, picked_leaves}
use Rattle.theorems.proofs.Rounds.{on_range, on_self, last_is_name, name_is_last, turn_serves}
use Rattle.theorems.proofs.TurnCalls.{turned_stays, turned_last, turned_name, turned_others, turned_lengths, turned_as_pick_up, turned_counts, refused_counts}

-- ---- a search that needs so many further nodes
module _ (h : Held) (c : ℕ) (needs : Over (further h c)) where
  -- one that goes on after a budget has had less than it needs
  needs_more : (b : ℕ) → Going (further h b) → b < c
  needs_more b g = go (leb c b) refl
    where
      split : c ≤ b → c + (b - c) ≡ b
      split l = omega arith

      go : (t : Bool) → leb c b ≡ t → b < c
      go true e = absurd (g (subst Over (further_sum h c (b - c) ∙ ap (further h) (split (leb-true c b e))) (subst Over (sym (over_further (further h c) (b - c) needs)) needs)))
      go false e = leb-false c b e

  -- and needs the rest
  rest_is : (b : ℕ) → b < c → further (further h b) (c - b) ≡ further h c
  rest_is b l = further_sum h b (c - b) ∙ ap (further h) (split l)
    where
      split : b < c → b + (c - b) ≡ c
      split l = omega arith

  needs_rest : (b : ℕ) → b < c → Over (further (further h b) (c - b))
  needs_rest b l = subst Over (sym (rest_is b l)) needs

  needs_some : Going h → 1 ≤ c
  needs_some g = needs_more 0 (subst Going (sym (further_zero h)) g)

-- an end of one search is an end of another that comes to the same
ends_same : (a : ℕ) (g h : Held) (d c : ℕ) → further g d ≡ further h c → (s : Bench) (call : BenchCall) → EndsBy a g d s call → EndsBy a h c s call
ends_same a g h d c e s (kept (named other t target out R budget)) q = q
ends_same a g h d c e s (kept (picked other out budget)) q = (q.0, q.1, q.2 ∙ ap answer_of e)
ends_same a g h d c e s (turned out slice) q = (q.0, q.1, q.2 ∙ ap answer_of e)

module _ (a : ℕ) (is : IsName a) (slice : ℕ) where
  -- this block holds, under the name, a search that needs c further nodes, which k slices are at least
  record Watched (b : Block) (h : Held) (c k : ℕ) : Type 0 where
    is_block : IsBlock b
    slot : slot_in b a ≡ holds h
    going : Going h
    needs : Over (further h c)
    enough : c ≤ k * slice

  -- at least one slice is left
  some_slice : (b : Block) (h : Held) (c k : ℕ) → Watched b h c k → (j : ℕ) × (k ≡ suc j)
  some_slice b h c k w = go k refl
    where
      none : 1 ≤ c → c ≤ 0 * slice → ⊥
      none l m = omega arith

      go : (j : ℕ) → k ≡ j → (j : ℕ) × (k ≡ suc j)
      go zero e = absurd (none (needs_some h c w.needs w.going) (subst (λ (n : ℕ). c ≤ n * slice) e w.enough))
      go (suc j) e = (j, e)

  -- its sum stays within the limit
  abbrev Sum : Held → ℕ → ℕ → Bench → List BenchCall → Type 0
  Sum h c k s cs = SumStays a h c k slice s cs

  -- it ends by so many accepted turns, or fewer were accepted and it is held still
  abbrev Result : Held → ℕ → ℕ → Bench → List BenchCall → Type 0
  Result h c turns s cs = EndsWithin a h c turns s cs ⊎ (StillHeld a h s cs × (accepted_turns s cs < turns))

  -- 8 for each slice but the next, and for that one as many as the name is names on
  abbrev bound : ℕ → ℕ → ℕ
  bound k last = 8 * k + names_on (last_name last) a - 8

  abbrev Bounded : List BenchCall → Type 0
  Bounded cs = (s : Bench) (h : Held) (c k : ℕ) → Watched s.block h c k → AllLeave a slice s cs → Sum h c k s cs → Result h c (bound k s.last) s cs

  -- ---- from the calls behind one to that one and those behind it
  module _ (s : Bench) (call : BenchCall) (h : Held) (m : ℕ) where
    held_on : (cs : List BenchCall) → StillHeld a (further h m) (after_bench_call s call) cs → StillHeld a h s (call ∷ cs)
    held_on cs q = (m + q.0, q.1 ∙ ap holds (further_sum h m q.0))

    result_on : (cs : List BenchCall) (less turns d c : ℕ) → further (further h m) d ≡ further h c → accepted_turn s call + less ≤ turns →
        Result (further h m) d less (after_bench_call s call) cs → Result h c turns s (call ∷ cs)
    result_on cs less turns d c same l (inl e) = inl (record {
      before = call ∷ e.before;
      call = e.call;
      behind = e.behind;
      row = ap (λ (x : List BenchCall). call ∷ x) e.row;
      held = held_on e.before e.held;
      ends = ends_same a (further h m) h d c same (after_bench_calls (after_bench_call s call) e.before) e.call e.ends;
      emptied = e.emptied;
      in_time = omega (arith, e.in_time);
    })
    result_on cs less turns d c same l (inr q) = inr (held_on cs q.0, omega (arith, q.1))

  -- a call that brings it to its end
  result_ends : (s : Bench) (call : BenchCall) (cs : List BenchCall) (h : Held) (c turns : ℕ) →
      slot_in s.block a ≡ holds h → EndsBy a h c s call → slot_in (after_bench_call s call).block a ≡ free → accepted_turn s call ≤ turns → Result h c turns s (call ∷ cs)
  result_ends s call cs h c turns e q r l = inl (record {
    before = [];
    call = call;
    behind = cs;
    row = refl;
    held = (0, e ∙ ap holds (sym (further_zero h)));
    ends = q;
    emptied = r;
    in_time = omega arith;
  })

  module _ (cs : List BenchCall) (later : Bounded cs) (s : Bench) (h : Held) (c k : ℕ) (w : Watched s.block h c k) where
    abbrev b : Block
    b = s.block

    abbrev Goal : BenchCall → Type 0
    Goal call = AllLeave a slice (after_bench_call s call) cs → Sum h c k s (call ∷ cs) → Result h c (bound k s.last) s (call ∷ cs)

    behind : (call : BenchCall) → Sum h c k s (call ∷ cs) → Sum h c k (after_bench_call s call) cs
    behind call (by_turns l q) = by_turns l q.1
    behind call (by_anyone l) = by_anyone l
    behind call (at_each_turn q) = at_each_turn q.1

    -- ---- a call that leaves the search as it is
    waits : (call : BenchCall) (less : ℕ) → less ≡ bound k (after_bench_call s call).last → accepted_turn s call + less ≤ bound k s.last →
        IsBlock (after_bench_call s call).block → part_of (after_bench_call s call).block a ≡ part_of b a → Goal call
    waits call less q l i e leave sum =
        result_on s call h 0 cs less (bound k s.last) c c (ap (λ (x : Held). further x c) (further_zero h)) l
        (subst (λ (x : Held). Result x c less (after_bench_call s call) cs) (sym (further_zero h))
        (subst (λ (n : ℕ). Result h c n (after_bench_call s call) cs) (sym q)
        (later (after_bench_call s call) h c k (record { is_block = i; slot = ap part_slot e ∙ w.slot; going = w.going; needs = w.needs; enough = w.enough }) leave (behind call sum))))

    stays : (call : BenchCall) → accepted_turn s call ≡ 0 → (after_bench_call s call).last ≡ s.last →
        IsBlock (after_bench_call s call).block → part_of (after_bench_call s call).block a ≡ part_of b a → Goal call
    stays call q e = waits call (bound k s.last) (ap (bound k) (sym e)) (plain (bound k s.last) (accepted_turn s call) q)
      where
        plain : (x n : ℕ) → n ≡ 0 → n + x ≤ x
        plain x n e = omega arith

    -- ---- a call that goes on with it, and does not bring it to its end
    goes_on : (call : BenchCall) (budget j : ℕ) → Going (further h budget) →
        slot_in (after_bench_call s call).block a ≡ holds (further h budget) → IsBlock (after_bench_call s call).block →
        c - budget ≤ j * slice → accepted_turn s call + bound j (after_bench_call s call).last ≤ bound k s.last →
        AllLeave a slice (after_bench_call s call) cs → Sum (further h budget) (c - budget) j (after_bench_call s call) cs → Result h c (bound k s.last) s (call ∷ cs)
    goes_on call budget j g e i enough l leave sum =
        result_on s call h budget cs (bound j (after_bench_call s call).last) (bound k s.last) (c - budget) c (rest_is h c w.needs budget (needs_more h c w.needs budget g)) l
        (later (after_bench_call s call) (further h budget) (c - budget) j
        (record { is_block = i; slot = e; going = g; needs = needs_rest h c w.needs budget (needs_more h c w.needs budget g); enough = enough }) leave sum)

    -- ---- nearest_named
    module _ (other : ℕ) (t : Table) (target : List Float) (out : List ℤ) (R : Float) (budget : ℕ) where
      named_block : IsBlock (block_after_named b other t target out R budget)
      named_block = ⊎_elim (λ e. subst IsBlock (sym e) w.is_block) (λ q. named_block_lengths b other t target out R budget q.0 q.1) (named_cases b other t target out R budget)

      by_named : (other ≡ a → Ended (nearest_named b other t target out R budget)) → Goal (kept (named other t target out R budget))
      by_named d = stays (kept (named other t target out R budget)) refl refl named_block (go (eqb other a) refl)
        where
          go : (x : Bool) → eqb other a ≡ x → part_of (block_after_named b other t target out R budget) a ≡ part_of b a
          go true e = ap (λ (x : Block). part_of x a) (named_stays b other t target out R budget (d (eqb-true other a e)))
          go false e = named_leaves b other t target out R budget a is (λ q. eqb-false other a e (sym q))

    -- ---- pick_up
    module _ (other : ℕ) (out : List ℤ) (budget : ℕ) where
      abbrev call : BenchCall
      call = kept (picked other out budget)

      picked_this : other ≡ a → NoneFits (checks_of_pick_up b other out budget) → IsBlock (block_after_pick_up b other out budget) → Goal call
      picked_this same f i leave sum = ⊎_elim over on (over_or_going (further h budget))
        where
          held : slot_in b other ≡ holds h
          held = ap (slot_in b) same ∙ w.slot

          over : Over (further h budget) → Result h c (bound k s.last) s (call ∷ cs)
          over o =
              result_ends s call cs h c (bound k s.last) w.slot
              (same, f, picked_goes_on b other out budget f h held ∙ ap answer_of (over_same h budget c o w.needs))
              (subst (λ (n : ℕ). slot_in (block_after_pick_up b other out budget) n ≡ free) same (picked_empty b other out budget f h held (ends (further h budget) o)).1)
              (omega arith)

          fewer : (m : ℕ) → c ≤ m → c - budget ≤ m
          fewer m l = omega arith

          plain : (x : ℕ) → 0 + x ≤ x
          plain x = omega arith

          rest : Going (further h budget) → Sum h c k s (call ∷ cs) → Sum (further h budget) (c - budget) k (after_bench_call s call) cs
          rest g (by_turns l q) = absurd (q.0 same)
          -- its sum grows by what it needs less
          rest g (by_anyone l) = by_anyone (omega (arith, further_nodes h budget g, needs_more h c w.needs budget g, l))
          rest g (at_each_turn q) = at_each_turn q.1

          on : Going (further h budget) → Result h c (bound k s.last) s (call ∷ cs)
          on g =
              goes_on call budget k g
              (subst (λ (n : ℕ). slot_in (block_after_pick_up b other out budget) n ≡ holds (further h budget)) same (picked_held b other out budget f h held g)) i
              (fewer (k * slice) w.enough) (plain (bound k s.last)) leave (rest g sum)

      by_picked : Goal call
      by_picked = go (decision (checks_of_pick_up b other out budget))
        where
          accepted : NoneFits (checks_of_pick_up b other out budget) → IsBlock (block_after_pick_up b other out budget) → (x : Bool) → eqb other a ≡ x → Goal call
          accepted f i true e = picked_this (eqb-true other a e) f i
          accepted f i false e = stays call refl refl i (picked_leaves b other out budget a is (λ q. eqb-false other a e (sym q)))

          go : Decision (checks_of_pick_up b other out budget) → Goal call
          go (inl some) =
              let e = picked_stays b other out budget some.0 (first_fits some.1) in
              stays call refl refl (subst IsBlock (sym e) w.is_block) (ap (λ (x : Block). part_of x a) e)
          go (inr none) =
              let x = (pick_up_accepts b other out budget).0 none.0 in
              accepted none.0 (picked_lengths b other out budget none.0 x.0 x.1.held) (eqb other a) refl

    -- ---- turn
    module _ (out : List ℤ) where
      abbrev turn_call : BenchCall
      turn_call = turned out slice

      abbrev last : ℕ
      last = s.last

      -- it serves another name, which comes sooner in the round than this one
      turn_other : NoneFits (checks_of_turn b last out slice) → IsName (served b last) × (names_on (served b last) a < names_on (last_name last) a) × (a ≡ served b last → ⊥) → Goal turn_call
      turn_other f q =
          let j = some_slice b h c k w in
          waits turn_call (8 * k + names_on (served b last) a - 8)
          (ap (λ (n : ℕ). 8 * k + names_on n a - 8) (sym (ap last_name (turned_last b last out slice f) ∙ name_is_last (served b last) q.0)))
          (nearer (accepted_turn s turn_call) (names_on (served b last) a) (names_on (last_name last) a) j.0 (turned_counts b last out slice f) j.1 q.1)
          (turned_lengths b last out slice w.is_block)
          (turned_others b last out slice a is q.2)
        where
          nearer : (n v u j : ℕ) → n ≡ 1 → k ≡ suc j → v < u → n + (8 * k + v - 8) ≤ 8 * k + u - 8
          nearer n v u j p q l = omega arith

      -- it serves this one: as a pickup, with one slice less to come
      turn_this : NoneFits (checks_of_turn b last out slice) → served b last ≡ a → Goal turn_call
      turn_this f same leave sum = ⊎_elim over on (over_or_going (further h slice))
        where
          j : ℕ
          j = (some_slice b h c k w).0

          k_is : k ≡ suc j
          k_is = (some_slice b h c k w).1

          held : slot_in b (served b last) ≡ holds h
          held = ap (slot_in b) same ∙ w.slot

          within : Sum h c k s (turn_call ∷ cs) → h.walk.nodes + slice ≤ 2 ^ 60
          within (by_turns q alone) = one h.walk.nodes (2 ^ 60) (subst (λ (n : ℕ). h.walk.nodes + n * slice ≤ 2 ^ 60) k_is q)
            where
              one : (m most : ℕ) → m + suc j * slice ≤ most → m + slice ≤ most
              one m most l = omega arith
          within (by_anyone q) = omega (arith, needs_some h c w.needs w.going, q)
          within (at_each_turn q) = q.0 (turned_name b last out slice f ∙ same) h w.slot

          lent : List ℤ
          lent = take (dimension h.table) out

          as_pick_up : ((turn b last out slice).answer ≡ pick_up b (served b last) lent slice)
              × (block_after_turn b last out slice ≡ block_after_pick_up b (served b last) lent slice)
              × NoneFits (checks_of_pick_up b (served b last) lent slice)
          as_pick_up = turned_as_pick_up b last out slice f h held (within sum)

          names : (1 ≤ names_on (last_name last) a) × (names_on (last_name last) a ≤ 8)
          names = on_range a is (last_name last) (last_is_name last)

          over : Over (further h slice) → Result h c (bound k last) s (turn_call ∷ cs)
          over o =
              result_ends s turn_call cs h c (bound k last) w.slot
              (turned_name b last out slice f ∙ same, f, as_pick_up.0 ∙ picked_goes_on b (served b last) lent slice as_pick_up.2 h held ∙ ap answer_of (over_same h slice c o w.needs))
              (ap (λ (x : Block). slot_in x a) as_pick_up.1
              ∙ subst (λ (n : ℕ). slot_in (block_after_pick_up b (served b last) lent slice) n ≡ free) same (picked_empty b (served b last) lent slice as_pick_up.2 h held (ends (further h slice) o)).1)
              (counts (accepted_turn s turn_call) (names_on (last_name last) a) (turned_counts b last out slice f) names.0)
            where
              counts : (n v : ℕ) → n ≡ 1 → 1 ≤ v → n ≤ 8 * k + v - 8
              counts n v p q = let e = k_is in omega arith

          rest : Going (further h slice) → Sum h c k s (turn_call ∷ cs) → Sum (further h slice) (c - slice) j (after_bench_call s turn_call) cs
          rest g (by_turns q alone) = by_turns (one h.walk.nodes (further h slice).walk.nodes (2 ^ 60) (further_nodes h slice g) (subst (λ (n : ℕ). h.walk.nodes + n * slice ≤ 2 ^ 60) k_is q)) alone.1
            where
              one : (m n most : ℕ) → n ≡ m + slice → m + suc j * slice ≤ most → n + j * slice ≤ most
              one m n most e l = omega arith
          rest g (by_anyone q) = by_anyone (omega (arith, further_nodes h slice g, needs_more h c w.needs slice g, q))
          rest g (at_each_turn q) = at_each_turn q.1

          slot_is : Going (further h slice) → slot_in (block_after_turn b last out slice) a ≡ holds (further h slice)
          slot_is g =
              ap (λ (x : Block). slot_in x a) as_pick_up.1
              ∙ subst (λ (n : ℕ). slot_in (block_after_pick_up b (served b last) lent slice) n ≡ holds (further h slice)) same (picked_held b (served b last) lent slice as_pick_up.2 h held g)

          fewer : c ≤ suc j * slice → c - slice ≤ j * slice
          fewer l = omega arith

          -- from the name to itself it is eight names on
          again : (n v u : ℕ) → n ≡ 1 → u ≡ 8 → 1 ≤ v → n + (8 * j + u - 8) ≤ 8 * k + v - 8
          again n v u p q l = let e = k_is in omega arith

          on : Going (further h slice) → Result h c (bound k last) s (turn_call ∷ cs)
          on g =
              goes_on turn_call slice j g (slot_is g) (turned_lengths b last out slice w.is_block)
              (fewer (subst (λ (n : ℕ). c ≤ n * slice) k_is w.enough))
              (again (accepted_turn s turn_call) (names_on (last_name last) a) (names_on (last_name (after_bench_call s turn_call).last) a) (turned_counts b last out slice f)
              (ap (λ (n : ℕ). names_on n a) (ap last_name (turned_last b last out slice f ∙ same) ∙ name_is_last a is) ∙ on_self a) names.0)
              leave (rest g sum)

      by_turn : (nodes : ℕ) → (NoneFits (checks_of_turn b last out nodes) → nodes ≡ slice) → Goal (turned out nodes)
      by_turn nodes d = go (decision (checks_of_turn b last out nodes))
        where
          accepted : NoneFits (checks_of_turn b last out slice) → Goal turn_call
          accepted f = ⊎_elim (turn_this f) (turn_other f) (turn_serves b last a is h w.slot)

          go : Decision (checks_of_turn b last out nodes) → Goal (turned out nodes)
          go (inl some) =
              let m = first_fits some.1 in
              let e = turned_stays b last out nodes some.0 m in
              stays (turned out nodes) (refused_counts b last out nodes some.0 m) e.1 (turned_lengths b last out nodes w.is_block) (ap (λ (x : Block). part_of x a) e.0)
          go (inr none) = subst (λ (n : ℕ). NoneFits (checks_of_turn b last out n) → Goal (turned out n)) (sym (d none.0)) accepted none.0

  -- ---- all calls
  bounded : (cs : List BenchCall) → Bounded cs
  bounded [] s h c k w leave sum = inr ((0, w.slot ∙ ap holds (sym (further_zero h))), start (names_on (last_name s.last) a) (on_range a is (last_name s.last) (last_is_name s.last)).0)
    where
      start : (v : ℕ) → 1 ≤ v → 0 < 8 * k + v - 8
      start v l = let q = some_slice s.block h c k w in omega arith
  bounded (kept (named other t target out R budget) ∷ cs) s h c k w leave sum = by_named cs (bounded cs) s h c k w other t target out R budget leave.0 leave.1 sum
  bounded (kept (picked other out budget) ∷ cs) s h c k w leave sum = by_picked cs (bounded cs) s h c k w other out budget leave.1 sum
  bounded (turned out nodes ∷ cs) s h c k w leave sum = by_turn cs (bounded cs) s h c k w out nodes leave.0 leave.1 sum

  -- a larger bound holds too
  result_more : (h : Held) (c turns more : ℕ) (s : Bench) (cs : List BenchCall) → turns ≤ more → Result h c turns s cs → Result h c more s cs
  result_more h c turns more s cs l (inl e) = inl (record {
    before = e.before;
    call = e.call;
    behind = e.behind;
    row = e.row;
    held = e.held;
    ends = e.ends;
    emptied = e.emptied;
    in_time = omega (arith, e.in_time);
  })
  result_more h c turns more s cs l (inr q) = inr (q.0, omega (arith, q.1))

-- A held search that needs c further nodes comes to its end by 8·k accepted turns, or is held still after fewer.
pub fair : (s : Bench) → Fair s
fair s i name is h e c k slice ended enough cs leave sum =
    result_more name is slice h c (bound name is slice k s.last) (8 * k) s cs (most (names_on (last_name s.last) name) (on_range name is (last_name s.last) (last_is_name s.last)).1)
    (bounded name is slice cs s h c k (record { is_block = i; slot = e; going = held_going (part_of s.block name) h e; needs = over_ended (further h c) ended; enough = enough }) leave sum)
  where
    most : (v : ℕ) → v ≤ 8 → 8 * k + v - 8 ≤ 8 * k
    most v l = omega arith
