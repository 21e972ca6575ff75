-- Number 17 is free: no case of the code's `Refusal` has it. Assumes nothing.
use mathlib.Core.Path.{◌≡◌}
use native.Mathlib.Omega.{arith}
use Rattle.refusals.specs.Numbers.{numbered}
use Rattle.refusals.specs.declared.Refusal.{Refusal}
use Rattle.refusals.specs.declared.Refusal.TheVariants.{TableSize, MuNonFinite, MuRange, WeightRange, LengthMismatch, NonFinite, InvalidRadius, BudgetRange, CandidateLength, CandidateDistance, CandidateOutside, WidenedRadius, ListSize, BudgetExhausted, OutsideRadius, ListFull, ReferenceIndex, ChangedRange, SettingRange, MatrixRange, NotInverse, MappedRange, NameRange, NameEmpty, SumRange, SliceRange, NoneHeld, EpochsSize}

pub never_17 : (e : Refusal) → (numbered e).number ≡ 17 → ⊥
never_17 (TableSize a) q = omega (arith, q)
never_17 (MuNonFinite a) q = omega (arith, q)
never_17 (MuRange a) q = omega (arith, q)
never_17 (WeightRange a) q = omega (arith, q)
never_17 (LengthMismatch a b) q = omega (arith, q)
never_17 (NonFinite a) q = omega (arith, q)
never_17 (InvalidRadius a) q = omega (arith, q)
never_17 (BudgetRange a) q = omega (arith, q)
never_17 (CandidateLength a b) q = omega (arith, q)
never_17 (CandidateDistance a) q = omega (arith, q)
never_17 (CandidateOutside a) q = omega (arith, q)
never_17 (WidenedRadius a) q = omega (arith, q)
never_17 (ListSize a) q = omega (arith, q)
never_17 (BudgetExhausted a b) q = omega (arith, q)
never_17 (OutsideRadius a) q = omega (arith, q)
never_17 (ListFull a) q = omega (arith, q)
never_17 ReferenceIndex q = omega (arith, q)
never_17 (ChangedRange a) q = omega (arith, q)
never_17 (SettingRange a) q = omega (arith, q)
never_17 (MatrixRange a) q = omega (arith, q)
never_17 NotInverse q = omega (arith, q)
never_17 (MappedRange a) q = omega (arith, q)
never_17 NameRange q = omega (arith, q)
never_17 NameEmpty q = omega (arith, q)
never_17 (SumRange a) q = omega (arith, q)
never_17 SliceRange q = omega (arith, q)
never_17 NoneHeld q = omega (arith, q)
never_17 EpochsSize q = omega (arith, q)
