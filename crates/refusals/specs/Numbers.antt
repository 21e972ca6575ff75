-- The number and values of each case of the code's `Refusal`, as the code tells them, and the verdict of a check. Definitions only.
use Rattle.std.specs.Prelude.{⊤, Option, Some, None, Result, Ok, Err, ℕ, List, [], ◌∷◌, length, get_or, Float}
use Rattle.definitions.specs.Refusals as D
use Rattle.definitions.specs.Checks.{Verdict, pass, refuse}
use Rattle.refusals.specs.declared.Refusal.{Refusal}
use Rattle.refusals.specs.declared.Refusal.TheVariants.{TableSize, MuNonFinite, MuRange, WeightRange, LengthMismatch, NonFinite, InvalidRadius, BudgetRange, CandidateLength, CandidateDistance, CandidateOutside, WidenedRadius, ListSize, BudgetExhausted, OutsideRadius, ListFull, ReferenceIndex, ChangedRange, SettingRange, MatrixRange, NotInverse, MappedRange, NameRange, NameEmpty, SumRange, SliceRange, NoneHeld, EpochsSize}
use Rattle.refusals.specs.declared.Carried.{Carried}

-- each case of the enum as the specification's refusal, with its number and values
abbrev pub numbered : Refusal → D.Refusal
numbered (TableSize a) = D.table_size a
numbered (MuNonFinite a) = D.mu_non_finite a
numbered (MuRange a) = D.mu_range a
numbered (WeightRange a) = D.weight_range a
numbered (LengthMismatch a b) = D.length_mismatch a b
numbered (NonFinite a) = D.non_finite a
numbered (InvalidRadius a) = D.invalid_radius a
numbered (BudgetRange a) = D.budget_range a
numbered (CandidateLength a b) = D.candidate_length a b
numbered (CandidateDistance a) = D.candidate_distance a
numbered (CandidateOutside a) = D.candidate_outside a
numbered (WidenedRadius a) = D.widened_radius a
numbered (ListSize a) = D.list_size a
numbered (BudgetExhausted a b) = D.budget_exhausted a b
numbered (OutsideRadius a) = D.outside_radius a
numbered (ListFull a) = D.list_full a
numbered ReferenceIndex = D.reference_index
numbered (ChangedRange a) = D.changed_range a
numbered (SettingRange a) = D.setting_range a
numbered (MatrixRange a) = D.matrix_range a
numbered NotInverse = D.not_inverse
numbered (MappedRange a) = D.mapped_range a
numbered NameRange = D.name_range
numbered NameEmpty = D.name_empty
numbered (SumRange a) = D.sum_range a
numbered SliceRange = D.slice_range
numbered NoneHeld = D.none_held
numbered EpochsSize = D.epochs_size

-- what a check says, as the definitions' verdict
abbrev pub verdict : Result ⊤ Refusal → Verdict
verdict (Ok _) = pass
verdict (Err e) = refuse (numbered e)

-- ---- the values, by their kinds

-- the whole numbers, in their order
abbrev pub wholes_of : List D.Value → List ℕ
wholes_of [] = []
wholes_of (D.whole n ∷ values) = n ∷ wholes_of values
wholes_of (D.real x ∷ values) = wholes_of values

-- the double, if there is one
abbrev pub real_of : List D.Value → Option Float
real_of [] = None
real_of (D.whole n ∷ values) = real_of values
real_of (D.real x ∷ values) = Some x

abbrev pub carrying : ℕ → ℕ → ℕ → ℕ → Option Float → Carried
carrying number wholes first second real = record { number = number; wholes = wholes; first = first; second = second; real = real }

-- a refusal as the code tells it, with 0 for the whole numbers that it does not carry
abbrev pub carried_by : D.Refusal → Carried
carried_by e =
    let wholes = wholes_of e.values in
    carrying e.number (length wholes) (get_or wholes 0 0) (get_or wholes 1 0) (real_of e.values)
