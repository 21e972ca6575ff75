-- What `turn` promises of what it tells, of out, of the block and of the name last served, which are primed at exit (docs/SPECIFICATION.md, "What is promised"). Definitions only.
use Rattle.std.specs.Prelude.{◌≡◌, ◌&&◌, cond, List, [], ◌∷◌, ◌++◌, ◌⊎◌, ◌↔◌, ℕ, ◌+◌, ◌-◌, ◌*◌, ◌^◌, ◌≤◌, ◌<◌, leb, ltb, eqb, length, take, drop, ℤ, Float}
use Rattle.definitions.specs.Table.{Table, dimension}
use Rattle.definitions.specs.Refusals.{Refusal, length_mismatch, slice_range, none_held, budget_exhausted}
use Rattle.definitions.specs.Calls.{Answer, found, refused, NearestPoint}
use Rattle.definitions.specs.Kept.{Held, free, holds, further, answer_of}
use Rattle.definitions.specs.Block.{Block, zero_part, part_of, slot_in}
use Rattle.definitions.specs.Named.{nearest_named, checks_of_pick_up, pick_up, block_after_pick_up}
use Rattle.definitions.specs.Turn.{Turn, checks_of_turn, turn, block_after_turn, last_after_turn}
use Rattle.theorems.specs.Refusals.{NoneFits, Fits, Numbered}
use Rattle.theorems.specs.Answers.{Demand1}
use Rattle.theorems.specs.Running.{Ended}
use Rattle.theorems.specs.Kept.{IsName, IsBlock, zero_block, OthersStay, Keeps, Call, named, picked, after_call, LeavesOrPicks, budget_for, Reached, PickUpPromises}

-- ---- the next held name

-- the name last served, 8 before the first turn, for which any number that is no name stands
abbrev pub last_name : ℕ → ℕ
last_name last = cond (leb 1 last && leb last 8) last 8

-- how many names further on the second is, where 1 follows 8: from 1 to 8, and 8 from a name to itself
abbrev pub names_on : ℕ → ℕ → ℕ
names_on from to = cond (ltb from to) (to - from) (8 + to - from)

-- this name is held, and none that is held comes sooner
pub record NextHeld (b : Block) (last name : ℕ) : Type 0 where
  pub is_name : IsName name
  pub held : (h : Held) × (slot_in b name ≡ holds h)
  pub soonest : (other : ℕ) → IsName other → (h : Held) → slot_in b other ≡ holds h → names_on (last_name last) name ≤ names_on (last_name last) other

-- ---- calls in a row

-- the block, and the name last served by a turn
pub record Bench : Type 0 where
  pub block : Block
  pub last : ℕ

abbrev pub zero_bench : Bench
zero_bench = record { block = zero_block; last = 0 }

-- a `nearest_named` or `pick_up`, or a turn
pub data BenchCall : Type 0 where
  kept : Call → BenchCall
  turned : List ℤ → ℕ → BenchCall

abbrev pub after_bench_call : Bench → BenchCall → Bench
after_bench_call s (kept c) = record { block = after_call s.block c; last = s.last }
after_bench_call s (turned out slice) = record { block = block_after_turn s.block s.last out slice; last = last_after_turn s.block s.last out slice }

abbrev pub after_bench_calls : Bench → List BenchCall → Bench
after_bench_calls s [] = s
after_bench_calls s (c ∷ cs) = after_bench_calls (after_bench_call s c) cs

-- how many of them are accepted turns, which are those that tell a name
abbrev pub accepted_turn : Bench → BenchCall → ℕ
accepted_turn s (kept c) = 0
accepted_turn s (turned out slice) = cond (eqb (turn s.block s.last out slice).name 0) 0 1

abbrev pub accepted_turns : Bench → List BenchCall → ℕ
accepted_turns s [] = 0
accepted_turns s (c ∷ cs) = accepted_turn s c + accepted_turns (after_bench_call s c) cs

-- ---- which calls may come between

-- no call keeps another search under the name, and each accepted turn has this slice. Names may be filled and emptied, this one picked up, and calls refused.
abbrev pub Leaves : ℕ → ℕ → Bench → BenchCall → Type 0
Leaves name slice s (kept (named other t target out R budget)) = other ≡ name → Ended (nearest_named s.block other t target out R budget)
Leaves name slice s (kept (picked other out budget)) = Unit {0}
Leaves name slice s (turned out nodes) = NoneFits (checks_of_turn s.block s.last out nodes) → nodes ≡ slice

abbrev pub AllLeave : ℕ → ℕ → Bench → List BenchCall → Type 0
AllLeave name slice s [] = Unit {0}
AllLeave name slice s (c ∷ cs) = Leaves name slice s c × AllLeave name slice (after_bench_call s c) cs

-- ---- its sum stays within 2^60

-- only turns pick the name up
abbrev pub TurnsAlone : ℕ → BenchCall → Type 0
TurnsAlone name (kept (named other t target out R budget)) = Unit {0}
TurnsAlone name (kept (picked other out budget)) = other ≡ name → ⊥
TurnsAlone name (turned out slice) = Unit {0}

abbrev pub AllTurnsAlone : ℕ → List BenchCall → Type 0
AllTurnsAlone name [] = Unit {0}
AllTurnsAlone name (c ∷ cs) = TurnsAlone name c × AllTurnsAlone name cs

-- a turn that serves the name has room for its slice
abbrev pub HasRoom : ℕ → Bench → BenchCall → Type 0
HasRoom name s (kept c) = Unit {0}
HasRoom name s (turned out slice) = (turn s.block s.last out slice).name ≡ name → (g : Held) → slot_in s.block name ≡ holds g → g.walk.nodes + slice ≤ 2 ^ 60

abbrev pub AllHaveRoom : ℕ → Bench → List BenchCall → Type 0
AllHaveRoom name s [] = Unit {0}
AllHaveRoom name s (c ∷ cs) = HasRoom name s c × AllHaveRoom name (after_bench_call s c) cs

-- the sum of the search h of a name stays within 2^60: by the state before the row, where turns alone pick it up, or whoever does; or at each turn of the row
pub data SumStays (name : ℕ) (h : Held) (c k slice : ℕ) (s : Bench) (cs : List BenchCall) : Type 0 where
  by_turns : h.walk.nodes + k * slice ≤ 2 ^ 60 → AllTurnsAlone name cs → SumStays name h c k slice s cs
  by_anyone : h.walk.nodes + c + slice - 1 ≤ 2 ^ 60 → SumStays name h c k slice s cs
  at_each_turn : AllHaveRoom name s cs → SumStays name h c k slice s cs

-- ---- a search comes to its end

-- the call is accepted, picks up or serves the name, and its answer is that of the search h with c further nodes
abbrev pub EndsBy : ℕ → Held → ℕ → Bench → BenchCall → Type 0
EndsBy name h c s (kept (named other t target out R budget)) = ⊥
EndsBy name h c s (kept (picked other out budget)) = (other ≡ name) × NoneFits (checks_of_pick_up s.block other out budget) × (pick_up s.block other out budget ≡ answer_of (further h c))
EndsBy name h c s (turned out slice) = ((turn s.block s.last out slice).name ≡ name) × NoneFits (checks_of_turn s.block s.last out slice) × ((turn s.block s.last out slice).answer ≡ answer_of (further h c))

-- the search h of a name, having gone on by some nodes, is held after these calls
abbrev pub StillHeld : ℕ → Held → Bench → List BenchCall → Type 0
StillHeld name h s cs = (nodes : ℕ) × (slot_in (after_bench_calls s cs).block name ≡ holds (further h nodes))

-- one of these calls brings it to its end, no more turns than so many are accepted up to and with that call, and the name is empty then
pub record EndsWithin (name : ℕ) (h : Held) (c turns : ℕ) (s : Bench) (cs : List BenchCall) : Type 0 where
  pub before : List BenchCall
  pub call : BenchCall
  pub behind : List BenchCall
  pub row : cs ≡ before ++ call ∷ behind
  pub held : StillHeld name h s before
  pub ends : EndsBy name h c (after_bench_calls s before) call
  pub emptied : slot_in (after_bench_calls s (before ++ call ∷ [])).block name ≡ free
  pub in_time : accepted_turns s (before ++ call ∷ []) ≤ turns

-- The turns are fair, from a state of block and last name on. A search that is held there needs c further nodes, and k slices are at least c nodes: within any
-- row of calls it comes to its end by 8·k accepted turns at most, or it is held still and fewer than 8·k were accepted. The row may be cut behind any call, so
-- what comes after the end is free.
abbrev pub Fair : Bench → Type 0
Fair s = IsBlock s.block →
    (name : ℕ) → IsName name → (h : Held) → slot_in s.block name ≡ holds h →
    (c k slice : ℕ) → Ended (answer_of (further h c)) → c ≤ k * slice →
    (cs : List BenchCall) → AllLeave name slice s cs → SumStays name h c k slice s cs →
    EndsWithin name h c (8 * k) s cs ⊎ (StillHeld name h s cs × (accepted_turns s cs < 8 * k))

-- ---- budgets and slices add up

-- a call is for another name, or keeps nothing under this one, or picks it up and is not turned away; or it is a turn, which has room if it serves the name
abbrev pub LeavesOrServes : ℕ → Bench → BenchCall → Type 0
LeavesOrServes name s (kept c) = LeavesOrPicks name s.block c
LeavesOrServes name s (turned out slice) = HasRoom name s (turned out slice)

abbrev pub AllLeaveOrServe : ℕ → Bench → List BenchCall → Type 0
AllLeaveOrServe name s [] = Unit {0}
AllLeaveOrServe name s (c ∷ cs) = LeavesOrServes name s c × AllLeaveOrServe name (after_bench_call s c) cs

-- the budgets of the pickups of a name, and the slices of the turns that serve it
abbrev pub nodes_for : ℕ → Bench → BenchCall → ℕ
nodes_for name s (kept c) = budget_for name c
nodes_for name s (turned out slice) = cond (eqb (turn s.block s.last out slice).name name) slice 0

abbrev pub all_nodes_for : ℕ → Bench → List BenchCall → ℕ
all_nodes_for name s [] = 0
all_nodes_for name s (c ∷ cs) = nodes_for name s c + all_nodes_for name (after_bench_call s c) cs

-- a search that is kept goes through a row of such calls: it is kept with all of them summed, or its name was emptied
abbrev pub KeptThrough : Bench → Type 0
KeptThrough s = (name : ℕ) (t : Table) (target : List Float) (radius : Float) (first : ℕ) → Keeps s.block name t target radius first →
    (cs : List BenchCall) → AllLeaveOrServe name s cs →
    Keeps (after_bench_calls s cs).block name t target radius (first + all_nodes_for name s cs) ⊎ (slot_in (after_bench_calls s cs).block name ≡ free)

-- ---- `turn`
module _ (b : Block) (last : ℕ) (out : List ℤ) (slice : ℕ) where
  pub record TurnAccepted : Type 0 where
    pub slice_least : 1 ≤ slice
    pub slice_most : slice ≤ 2 ^ 20
    pub is_block : IsBlock b
    pub some_held : (name : ℕ) × IsName name × ((h : Held) × (slot_in b name ≡ holds h))
    pub output_length : length out ≡ 23

  -- which refusal, fault by fault: 28, 6 of the block's slices, 29, 6 of the output
  pub record TurnRefused (answer : Answer NearestPoint) : Type 0 where
    pub gives_28 : ((1 ≤ slice) × (slice ≤ 2 ^ 20) → ⊥) → answer ≡ refused slice_range
    pub reals_6 : 1 ≤ slice → slice ≤ 2 ^ 20 → (length b.reals ≡ 5168 → ⊥) → answer ≡ refused (length_mismatch 5168 (length b.reals))
    pub integers_6 : 1 ≤ slice → slice ≤ 2 ^ 20 → length b.reals ≡ 5168 → (length b.integers ≡ 736 → ⊥) → answer ≡ refused (length_mismatch 736 (length b.integers))
    pub counts_6 : 1 ≤ slice → slice ≤ 2 ^ 20 → length b.reals ≡ 5168 → length b.integers ≡ 736 → (length b.counts ≡ 768 → ⊥) → answer ≡ refused (length_mismatch 768 (length b.counts))
    pub gives_29 : 1 ≤ slice → slice ≤ 2 ^ 20 → IsBlock b → ((name : ℕ) → IsName name → slot_in b name ≡ free) → answer ≡ refused none_held
    pub gives_6 : 1 ≤ slice → slice ≤ 2 ^ 20 → IsBlock b → (name : ℕ) → IsName name → (h : Held) → slot_in b name ≡ holds h → (length out ≡ 23 → ⊥) → answer ≡ refused (length_mismatch 23 (length out))

  -- the search h of the name served is picked up with the slice, in the first n places of out
  pub record AsPickUp (r : Turn) (out' : List ℤ) (b' : Block) : Type 0 where
    pub answer_is : r.answer ≡ pick_up b r.name (take r.n out) slice
    pub block_is : b' ≡ block_after_pick_up b r.name (take r.n out) slice
    pub accepted : NoneFits (checks_of_pick_up b r.name (take r.n out) slice)
    pub promises : PickUpPromises b r.name (take r.n out) slice r.answer (take r.n out') b'

  -- it is told as it stands, and its name is emptied
  pub record PutOut (h : Held) (r : Turn) (b' : Block) : Type 0 where
    pub answer_is : r.answer ≡ refused (budget_exhausted h.walk.nodes h.walk.standing)
    -- which is what a pickup without a budget would tell
    pub as_pick_up : r.answer ≡ pick_up b r.name (take r.n out) 0
    pub part_is : part_of b' r.name ≡ zero_part
    pub slot_is : slot_in b' r.name ≡ free

  pub record TurnPromises (r : Turn) (out' : List ℤ) (b' : Block) (last' : ℕ) : Type 0 where
    -- no check fits exactly where the input is one that the call accepts
    pub accepts : NoneFits (checks_of_turn b last out slice) ↔ TurnAccepted
    -- refused by the first check that fits; where none fits, a point or 15 or 16; a refusal leaves out as it was
    pub demand_1 : Demand1 (checks_of_turn b last out slice) 15 16 r.answer (out' ≡ out)
    pub order : Numbered (28 ∷ 6 ∷ 6 ∷ 6 ∷ 29 ∷ 6 ∷ []) (checks_of_turn b last out slice)
    pub by_fault : TurnRefused r.answer
    -- a turn that a check refuses serves no name and changes nothing
    pub serves_none : (e : Refusal) → Fits (checks_of_turn b last out slice) e → (r.name ≡ 0) × (r.n ≡ 0)
    pub stays : (e : Refusal) → Fits (checks_of_turn b last out slice) e → (b' ≡ b) × (last' ≡ last)
    -- an accepted one serves the next held name, tells the n of its search, and is the last to have served
    pub serves : NoneFits (checks_of_turn b last out slice) → NextHeld b last r.name
    pub tells_n : NoneFits (checks_of_turn b last out slice) → (h : Held) → slot_in b r.name ≡ holds h → r.n ≡ dimension h.table
    pub n_most : r.n ≤ 23
    pub last_is : NoneFits (checks_of_turn b last out slice) → last' ≡ r.name
    -- a sum within 2^60 is picked up; one that the slice would take past it is put out
    pub within : NoneFits (checks_of_turn b last out slice) → (h : Held) → slot_in b r.name ≡ holds h → h.walk.nodes + slice ≤ 2 ^ 60 → AsPickUp r out' b'
    pub past : NoneFits (checks_of_turn b last out slice) → (h : Held) → slot_in b r.name ≡ holds h → 2 ^ 60 < h.walk.nodes + slice → PutOut h r b'
    -- a point found has n coordinates and goes to the first n places of out; the others stay
    pub writes : (a : NearestPoint) → r.answer ≡ found a → (length a.point ≡ r.n) × (out' ≡ a.point ++ drop r.n out)
    -- every other name stays
    pub others : OthersStay r.name b b'
    pub lengths : IsBlock b → IsBlock b'
    -- calls in a row from zeros, of which this is the last
    pub reached : (cs : List BenchCall) → b ≡ (after_bench_calls zero_bench cs).block → Reached b × Reached b'
    -- whatever calls come, from this turn on
    pub fair : Fair (record { block = b; last = last })
    pub keeps_through : KeptThrough (record { block = b; last = last })
