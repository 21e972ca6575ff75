-- Searches that are kept under names, and the checks of the calls that keep them: docs/SPECIFICATION.md, "Kept searches". Definitions only.
use Rattle.std.specs.Prelude.{ℕ, ◌+◌, ◌-◌, ◌^◌, min, not, ◌&&◌, List, [], ◌∷◌, leb, ltb, Float}
use Rattle.definitions.specs.Table.{Table, dimension, largest_budget}
use Rattle.definitions.specs.Machine.{Frame, Machine, run_for, begin, outcome_of}
use Rattle.definitions.specs.Refusals.{name_range, name_empty, sum_range}
use Rattle.definitions.specs.Checks.{Verdict, pass, refuse, refuse_if, length_check}
use Rattle.definitions.specs.Calls.{Answer, NearestPoint, end_of_nearest}

-- ---- what a name holds

-- a search with its own copy of table and target, the radius that it began from, and its walk where that was put down
pub record Held : Type 0 where
  pub table : Table
  pub target : List Float
  pub radius : Float
  pub walk : Machine

pub data Slot : Type 0 where
  free : Slot
  holds : Held → Slot

-- ---- a search and its answer

-- a search with a budget, from its start
abbrev pub search_for : Table → List Float → Float → ℕ → Held
search_for t target R budget = record { table = t; target = target; radius = R; walk = run_for t target budget (begin t target R) }

-- with a further budget
abbrev pub further : Held → ℕ → Held
further h budget = record { table = h.table; target = h.target; radius = h.radius; walk = run_for h.table h.target budget h.walk }

-- the answer that a search has come to: 15 if its walk is not over
abbrev pub answer_of : Held → Answer NearestPoint
answer_of h = end_of_nearest h.radius (outcome_of h.walk)

-- the first of two where the walk is over, else the second
abbrev pub if_over : {A : Type 0} → List Frame → A → A → A
if_over [] over going = over
if_over (f ∷ fs) over going = going

-- what a name holds after its search was picked up: a search that is over leaves it empty
abbrev pub slot_for : Held → Slot
slot_for h = if_over h.walk.stack free (holds h)

-- ---- the checks

-- 25: the name must be one of 1 to 8
abbrev pub name_check : ℕ → Verdict
name_check name = refuse_if (not (leb 1 name && leb name 8)) name_range

-- 26: the name must hold a search
abbrev pub held_check : Slot → Verdict
held_check free = refuse name_empty
held_check (holds h) = pass

-- 6 in a pickup: the output must have the n of the search
abbrev pub output_check : Slot → ℕ → Verdict
output_check free found = pass
output_check (holds h) found = length_check (dimension h.table) found

-- 27: the sum of its budgets, this one included, must be within the limit of a budget. All that it had are spent, so they are its nodes. Above 2^64-1 that
-- number is told.
abbrev pub sum_check : Slot → ℕ → Verdict
sum_check free budget = pass
sum_check (holds h) budget = refuse_if (ltb largest_budget (h.walk.nodes + budget)) (sum_range (min (h.walk.nodes + budget) (2 ^ 64 - 1)))
