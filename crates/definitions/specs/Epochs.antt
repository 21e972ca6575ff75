-- `epochs`: several targets over one table, each searched as by `nearest`. The checks of the call and those of a target, the answers, and the output at exit.
-- docs/SPECIFICATION.md, "Epochs". Definitions only.
use Prim.Native.Nat.{ℕ, zero, suc, ◌*◌}
use Rattle.std.specs.Prelude.{not, ◌||◌, ltb, eqb, length, take, drop, ℤ, Float}
use mathlib.Core.List.{List, [], ◌∷◌, ◌++◌}
use Rattle.definitions.specs.Table.{Table, dimension, largest_searched, largest_count}
use Rattle.definitions.specs.Refusals.{epochs_size}
use Rattle.definitions.specs.Checks.{Verdict, refuse_if, first_refusal, table_checks, target_check, radius_check, handed_on, budget_check}
use Rattle.definitions.specs.Calls.{Answer, found, after, NearestPoint, nearest_within, nearest_output}
use Rattle.definitions.specs.Named.{if_passed}

-- the k-th part of a slice with n places for each target: target k, or where its point goes
abbrev pub part_at : {A : Type 0} → ℕ → ℕ → List A → List A
part_at n k xs = take n (drop (k * n) xs)

-- ---- the call

-- 30: at most 64 targets, and n places for each of them in the targets and in the output
abbrev pub epochs_size_check : ℕ → ℕ → ℕ → ℕ → Verdict
epochs_size_check n count targets output = refuse_if (ltb largest_count count || not (eqb targets (n * count)) || not (eqb output (n * count))) epochs_size

-- 2 to 5, then 30
abbrev pub checks_of_epochs : Table → List Float → ℕ → List ℤ → List Verdict
checks_of_epochs t targets count out = table_checks largest_searched t ++ epochs_size_check (dimension t) count (length targets) (length out) ∷ []

unfoldable pub epochs_checks : Table → List Float → ℕ → List ℤ → Verdict
unfolding first_refusal table_checks
epochs_checks t targets count out = first_refusal (checks_of_epochs t targets count out)

-- ---- one target

-- 7, 8, 9
abbrev pub checks_of_epoch : List Float → Float → ℕ → List Verdict
checks_of_epoch target R budget = target_check target ∷ radius_check R ∷ budget_check budget ∷ []

-- then the search of `nearest`, with the whole budget
unfoldable pub epoch_answer : Table → List Float → Float → ℕ → Answer NearestPoint
unfolding after first_refusal target_check radius_check nearest_within
epoch_answer t target R budget = after (first_refusal (checks_of_epoch target R budget)) (nearest_within t target (handed_on R) budget)

-- ---- all targets

module _ (t : Table) (targets : List Float) (R : Float) (budget : ℕ) where
  abbrev pub answer_at : ℕ → Answer NearestPoint
  answer_at k = epoch_answer t (part_at (dimension t) k targets) R budget

  -- of the first so many
  unfoldable pub epoch_answers : ℕ → List (Answer NearestPoint)
  unfolding epoch_answer
  epoch_answers zero = []
  epoch_answers (suc k) = epoch_answers k ++ answer_at k ∷ []

  -- their parts of the output: the point, or what the part held
  unfoldable pub epoch_outputs : List ℤ → ℕ → List ℤ
  unfolding epoch_answer nearest_output
  epoch_outputs out zero = []
  epoch_outputs out (suc k) = epoch_outputs out k ++ nearest_output (answer_at k) (part_at (dimension t) k out)

module _ (t : Table) (targets : List Float) (count : ℕ) (out : List ℤ) (R : Float) (budget : ℕ) where
  -- `epochs`: an answer for each target, unless the call is refused
  unfoldable pub epochs : Answer (List (Answer NearestPoint))
  unfolding after epochs_checks epoch_answers
  epochs = after (epochs_checks t targets count out) (found (epoch_answers t targets R budget count))

  -- the output at exit
  unfoldable pub epochs_output : List ℤ
  unfolding epochs_checks epoch_outputs
  epochs_output = if_passed (epochs_checks t targets count out) out (epoch_outputs t targets R budget out count)
