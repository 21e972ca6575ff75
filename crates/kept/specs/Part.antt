-- The two calls on the part of one name: what they ask for and what they leave. p is the part at entry, and ' marks what is there at exit. Definitions only.
use Rattle.std.specs.Prelude.{◌≡◌, Result, true, List, [], ◌∷◌, ℕ, ◌-◌, ◌≤◌, length, ℤ, Float}
use Rattle.definitions.specs.Table.{Table, largest_dimension, largest_budget}
use Rattle.definitions.specs.Shapes.{WalkShaped}
use Rattle.definitions.specs.Walk.{ended}
use Rattle.definitions.specs.Machine.{run_for}
use Rattle.definitions.specs.Checks.{Verdict, first_refusal}
use Rattle.definitions.specs.Calls as C
use Rattle.definitions.specs.Kept.{Slot, search_for, answer_of, if_over, held_check, output_check, sum_check}
use Rattle.definitions.specs.Block.{Block, is_sound, part_nodes, part_table, part_target, part_machine, part_slot, written_search, rewritten}
use Rattle.definitions.specs.Named.{if_passed, further_answer, further_slot}
use Rattle.enumerate.specs.View.{NearestAnswered}
use Rattle.refusals.specs.declared.Refusal.{Refusal}
use Rattle.enumerate.specs.declared.NearestPoint.{NearestPoint}
use Rattle.resume.specs.declared.Walk.{Walk}
use Rattle.resume.specs.View.{best_of, machine_of}
use Rattle.resume.specs.Ready.{Sound}
use Rattle.parts.specs.Parts.{PartLengths}

-- ---- `end_of`
pub record EndReady (s : Walk) (out : List ℤ) : Type 0 where
  pub best_length : length s.best ≡ largest_dimension
  pub small : length out ≤ largest_dimension

-- the answer of a walk that is over
abbrev pub over_answer : Float → Walk → List ℤ → C.Answer C.NearestPoint
over_answer R s out = C.end_of_nearest R (ended (best_of (length out) s) s.radius s.nodes)

-- ---- `gone_on`
pub record GoOnReady (p : Block) (sum : ℕ) : Type 0 where
  pub lengths : PartLengths p
  pub sound : is_sound p.counts ≡ true
  pub bounded : sum ≤ largest_budget

pub record WentOn (p : Block) (sum : ℕ) (r : Walk) : Type 0 where
  pub goes : machine_of (part_table p).weights r ≡ run_for (part_table p) (part_target p) (sum - part_nodes p.counts) (part_machine p)
  pub sound : Sound (part_table p).weights (part_table p).mu (part_target p) r

-- ---- `pick_up_part`: 26, 6 of the output, 27
abbrev pub part_checks : Slot → List ℤ → ℕ → List Verdict
part_checks x out budget = held_check x ∷ output_check x (length out) ∷ sum_check x budget ∷ []

pub record PartPickedUp (p : Block) (out : List ℤ) (budget : ℕ) (r : Result NearestPoint Refusal) (out' : List ℤ) (p' : Block) : Type 0 where
  pub answered : NearestAnswered (C.after (first_refusal (part_checks (part_slot p) out budget)) (further_answer budget (part_slot p))) out r out'
  pub part_is : p' ≡ if_passed (first_refusal (part_checks (part_slot p) out budget)) p (rewritten p (further_slot budget (part_slot p)))

-- ---- `nearest_part`
pub record NamedReady (p : Block) (weights mu target : List Float) (out : List ℤ) (budget : ℕ) : Type 0 where
  pub lengths : PartLengths p
  pub shape : WalkShaped largest_dimension weights mu target out budget

pub record PartNamed (p : Block) (t : Table) (target : List Float) (out : List ℤ) (R : Float) (budget : ℕ) (r : Result NearestPoint Refusal) (out' : List ℤ) (p' : Block) : Type 0 where
  pub answered : NearestAnswered (answer_of (search_for t target R budget)) out r out'
  pub part_is : p' ≡ if_over (search_for t target R budget).walk.stack p (written_search (search_for t target R budget))
