-- What `nearest_named` and `pick_up` promise of their answer, of out and of the block, which are primed at exit (docs/SPECIFICATION.md, "What is promised"). Definitions only.
use Rattle.std.specs.Prelude.{◌≡◌, List, [], ◌∷◌, ◌⊎◌, ◌↔◌, ℕ, ◌+◌, ◌-◌, ◌^◌, ◌≤◌, ◌<◌, min, cond, T, eqb, length, replicate, ℤ, pos, Float}
use Rattle.std.specs.Float.{binary64}
use Rattle.std.specs.Float.Ieee.{fits}
use Rattle.definitions.specs.Table.{Table, dimension, plus_zero}
use Rattle.definitions.specs.Machine.{run_for, outcome_of}
use Rattle.definitions.specs.Refusals.{Refusal, whole, table_size, length_mismatch, name_range, name_empty, sum_range, budget_exhausted}
use Rattle.definitions.specs.Checks.{target_fault, handed_on}
use Rattle.definitions.specs.Calls.{Answer, found, refused, NearestPoint, end_of_nearest, nearest}
use Rattle.definitions.specs.Kept.{Held, free, holds, search_for, answer_of}
use Rattle.definitions.specs.Block.{Block, zero_part, part_of, slot_in}
use Rattle.definitions.specs.Named.{checks_of_named, nearest_named, block_after_named, checks_of_pick_up, block_after_pick_up}
use Rattle.theorems.specs.Doubles.{of_doubles}
use Rattle.theorems.specs.Refusals.{NoneFits, Fits, Numbered, FirstIndices}
use Rattle.theorems.specs.Accepted.{TargetAccepted, SearchAccepted, RadiusAccepted}
use Rattle.theorems.specs.Answers.{NoMinusZero, Demand1}
use Rattle.theorems.specs.Promises.{NearestPromises}
use Rattle.theorems.specs.Running.{Exhausted, Ended, NearestRunning}

-- ---- names and blocks

pub record IsName (name : ℕ) : Type 0 where
  pub least : 1 ≤ name
  pub most : name ≤ 8

pub record IsBlock (b : Block) : Type 0 where
  pub reals_length : length b.reals ≡ 5168
  pub integers_length : length b.integers ≡ 736
  pub counts_length : length b.counts ≡ 768

-- the block at its start
abbrev pub zero_block : Block
zero_block = record { reals = replicate 5168 plus_zero; integers = replicate 736 (pos 0); counts = replicate 768 0 }

-- every name but this one has the same numbers in both
abbrev pub OthersStay : ℕ → Block → Block → Type 0
OthersStay name b b' = (other : ℕ) → IsName other → (other ≡ name → ⊥) → part_of b' other ≡ part_of b other

-- ---- a search that is kept

-- under this name stands the search of a call with this table, target and radius, put down after budgets of this sum, which is its count
pub record Keeps (b : Block) (name : ℕ) (t : Table) (target : List Float) (radius : Float) (sum : ℕ) : Type 0 where
  pub is_name : IsName name
  pub held : slot_in b name ≡ holds (search_for t target (handed_on radius) sum)
  pub exhausts : Exhausted (answer_of (search_for t target (handed_on radius) sum))
  pub count : (search_for t target (handed_on radius) sum).walk.nodes ≡ sum
  pub accepted : TargetAccepted 23 t target
  pub within : RadiusAccepted radius sum

-- ---- calls in a row

pub data Call : Type 0 where
  named : ℕ → Table → List Float → List ℤ → Float → ℕ → Call
  picked : ℕ → List ℤ → ℕ → Call

abbrev pub after_call : Block → Call → Block
after_call b (named name t target out R budget) = block_after_named b name t target out R budget
after_call b (picked name out budget) = block_after_pick_up b name out budget

abbrev pub after_calls : Block → List Call → Block
after_calls b [] = b
after_calls b (c ∷ cs) = after_calls (after_call b c) cs

-- a call is for another name, or it keeps nothing under this one, or it picks this one up and is not turned away
abbrev pub LeavesOrPicks : ℕ → Block → Call → Type 0
LeavesOrPicks name b (named other t target out R budget) = other ≡ name → Ended (nearest_named b other t target out R budget)
LeavesOrPicks name b (picked other out budget) = other ≡ name → NoneFits (checks_of_pick_up b other out budget)

abbrev pub AllLeaveOrPick : ℕ → Block → List Call → Type 0
AllLeaveOrPick name b [] = Unit {0}
AllLeaveOrPick name b (c ∷ cs) = LeavesOrPicks name b c × AllLeaveOrPick name (after_call b c) cs

-- the budgets of the pickups of a name
abbrev pub budget_for : ℕ → Call → ℕ
budget_for name (named other t target out R budget) = 0
budget_for name (picked other out budget) = cond (eqb other name) budget 0

abbrev pub budgets_for : ℕ → List Call → ℕ
budgets_for name [] = 0
budgets_for name (c ∷ cs) = budget_for name c + budgets_for name cs

-- every name is empty or keeps a search
abbrev pub Sound : Block → Type 0
Sound b = (name : ℕ) → IsName name → (slot_in b name ≡ free) ⊎ ((t : Table) × (target : List Float) × (radius : Float) × (sum : ℕ) × Keeps b name t target radius sum)

-- what a block is that calls in a row have made of zeros
pub record Reached (b : Block) : Type 0 where
  pub block : IsBlock b
  pub sound : Sound b

-- ---- which refusal, by name and block: 25, and 6 of the block's slices
pub record NameAndBlock (b : Block) (name : ℕ) (answer : Answer NearestPoint) : Type 0 where
  pub gives_25 : (IsName name → ⊥) → answer ≡ refused name_range
  pub reals_6 : IsName name → (length b.reals ≡ 5168 → ⊥) → answer ≡ refused (length_mismatch 5168 (length b.reals))
  pub integers_6 : IsName name → length b.reals ≡ 5168 → (length b.integers ≡ 736 → ⊥) → answer ≡ refused (length_mismatch 736 (length b.integers))
  pub counts_6 : IsName name → length b.reals ≡ 5168 → length b.integers ≡ 736 → (length b.counts ≡ 768 → ⊥) → answer ≡ refused (length_mismatch 768 (length b.counts))

-- ---- `nearest_named`
module _ (b : Block) (name : ℕ) (t : Table) (target : List Float) (out : List ℤ) (radius : Float) (budget : ℕ) where
  pub record NamedAccepted : Type 0 where
    pub is_name : IsName name
    pub is_block : IsBlock b
    pub search : SearchAccepted 23 t target out
    pub within : RadiusAccepted radius budget

  pub record NamedPromises (answer : Answer NearestPoint) (out' : List ℤ) (b' : Block) : Type 0 where
    -- no check fits exactly where the input is one that the call accepts
    pub accepts : NoneFits (checks_of_named b name t target out radius budget) ↔ NamedAccepted
    -- refused by the first check that fits, with its number and values; where none fits, a point or 15 or 16; a refusal leaves out as it was
    pub demand_1 : Demand1 (checks_of_named b name t target out radius budget) 15 16 answer (out' ≡ out)
    -- the numbers of its checks, in their order
    pub order : Numbered (25 ∷ 6 ∷ 6 ∷ 6 ∷ 2 ∷ 3 ∷ 4 ∷ 5 ∷ 6 ∷ 6 ∷ 7 ∷ 8 ∷ 9 ∷ []) (checks_of_named b name t target out radius budget)
    pub name_and_block : NameAndBlock b name answer
    -- 2 of the first table that is too large
    pub gives_2 : IsName name → IsBlock b → 24 ≤ dimension t → answer ≡ refused (table_size (dimension t))
    -- 3, 4, 5 and 7 carry the first index
    pub first_indices : FirstIndices (checks_of_named b name t target out radius budget) t target_fault target
    -- no refusal carries minus zero
    pub no_minus_zero : (e : Refusal) → answer ≡ refused e → NoMinusZero e
    -- of a name, a block and at most 23 weights the answer is that of `nearest`, and keeps its promises
    pub as_nearest : IsName name → IsBlock b → dimension t ≤ 23 → answer ≡ nearest t target out radius budget
    pub promises : IsName name → IsBlock b → dimension t ≤ 23 → NearestPromises t target out radius budget answer out'
    pub running : IsName name → IsBlock b → dimension t ≤ 23 → NearestRunning t target out radius budget answer out'
    -- 15 keeps the search under its name, in the place of what was there
    pub kept : (m : ℕ) (S : Float) → answer ≡ refused (budget_exhausted m S) → Keeps b' name t target radius budget
    -- every other answer leaves the whole block as it was
    pub stays : Ended answer → b' ≡ b
    pub others : OthersStay name b b'
    pub lengths : IsBlock b → IsBlock b'
    -- calls in a row from zeros, of which this is the last
    pub reached : (cs : List Call) → b ≡ after_calls zero_block cs → Reached b × Reached b'

-- ---- `pick_up`
module _ (b : Block) (name : ℕ) (out : List ℤ) (budget : ℕ) where
  -- the name holds this search
  pub record PickUpAccepted (h : Held) : Type 0 where
    pub is_name : IsName name
    pub is_block : IsBlock b
    pub held : slot_in b name ≡ holds h
    pub output_length : length out ≡ dimension h.table
    pub sum_most : h.walk.nodes + budget ≤ 2 ^ 60

  pub record PickUpPromises (answer : Answer NearestPoint) (out' : List ℤ) (b' : Block) : Type 0 where
    pub accepts : NoneFits (checks_of_pick_up b name out budget) ↔ ((h : Held) × PickUpAccepted h)
    pub demand_1 : Demand1 (checks_of_pick_up b name out budget) 15 16 answer (out' ≡ out)
    pub order : Numbered (25 ∷ 6 ∷ 6 ∷ 6 ∷ 26 ∷ 6 ∷ 27 ∷ []) (checks_of_pick_up b name out budget)
    pub name_and_block : NameAndBlock b name answer
    -- 26 of an empty name, 6 of an output that has not the n of the search, 27 of a sum above 2^60: the sum, or 2^64-1 if it is larger
    pub gives_26 : IsName name → IsBlock b → slot_in b name ≡ free → answer ≡ refused name_empty
    pub gives_6 : IsName name → IsBlock b → (h : Held) → slot_in b name ≡ holds h → (length out ≡ dimension h.table → ⊥) → answer ≡ refused (length_mismatch (dimension h.table) (length out))
    pub gives_27 : IsName name → IsBlock b → (h : Held) → slot_in b name ≡ holds h → length out ≡ dimension h.table → 2 ^ 60 < h.walk.nodes + budget → answer ≡ refused (sum_range (min (h.walk.nodes + budget) (2 ^ 64 - 1)))
    pub value_of_27 : (e : Refusal) → answer ≡ refused e → e.number ≡ 27 → (h : Held) × (slot_in b name ≡ holds h) × (2 ^ 60 < h.walk.nodes + budget) × (e.values ≡ whole (min (h.walk.nodes + budget) (2 ^ 64 - 1)) ∷ [])
    -- whatever the name holds goes on from where it was put down, by as many steps as the budget has at most, and 15 puts it down there
    pub goes_on : NoneFits (checks_of_pick_up b name out budget) → (h : Held) → slot_in b name ≡ holds h → answer ≡ end_of_nearest h.radius (outcome_of (run_for h.table h.target budget h.walk))
    pub kept : (h : Held) → slot_in b name ≡ holds h → (m : ℕ) (S : Float) → answer ≡ refused (budget_exhausted m S) → slot_in b' name ≡ holds (record { table = h.table; target = h.target; radius = h.radius; walk = run_for h.table h.target budget h.walk })
    -- a point found is what out holds
    pub writes : (a : NearestPoint) → answer ≡ found a → out' ≡ a.point
    -- a point or 16 empties the name, and a refusal by a check leaves the whole block as it was
    pub emptied : NoneFits (checks_of_pick_up b name out budget) → Ended answer → (part_of b' name ≡ zero_part) × (slot_in b' name ≡ free)
    pub stays : (e : Refusal) → Fits (checks_of_pick_up b name out budget) e → b' ≡ b
    pub others : OthersStay name b b'
    pub lengths : IsBlock b → IsBlock b'
    -- A search was kept, and picked up by some of the calls since, none of them turned away: the answer of this pickup is that of one `nearest` with all the
    -- budgets, and keeps its promises; if it is 15, the search is kept with their sum.
    pub summed : (b₀ : Block) (t : Table) (target : List Float) (radius : Float) (first : ℕ) → Keeps b₀ name t target radius first →
        (cs : List Call) → AllLeaveOrPick name b₀ cs → b ≡ after_calls b₀ cs → NoneFits (checks_of_pick_up b name out budget) →
        let sum = first + budgets_for name cs + budget in
        (answer ≡ nearest t target out radius sum)
        × (T (of_doubles t target) → T (fits binary64 radius) → NearestPromises t target out radius sum answer out')
        × ((m : ℕ) (S : Float) → answer ≡ refused (budget_exhausted m S) → Keeps b' name t target radius sum)
    pub reached : (cs : List Call) → b ≡ after_calls zero_block cs → Reached b × Reached b'
