-- What other crates may use of the laws of binary64: the other modules are private to this crate. Assumes nothing.

-- kinds of values: a weight is finite and above zero, `Within f a x` says that |x| is at most 2^a
pub use Rattle.rounding.proofs.Value.{Weight, number, nan_fit, sum_fit, zero_nonneg}
pub use Rattle.rounding.proofs.PowerBounds.{Within, within_more, within_sub, within_add, within_absorb, within_mul, within_of_int}
-- from a program's tests and constants to these kinds
pub use Rattle.rounding.proofs.Comparison.{held, failed, equals_itself, differs}
pub use Rattle.rounding.proofs.Tests.{within_not_above, nonneg_not_lt, weight_of}
pub use Rattle.rounding.proofs.Constants.{zero_is, limit_is, one_is, epsilon_is}
-- plus zero in place of minus zero
pub use Rattle.rounding.proofs.Zeros.{plus_is_zero, minus_is_zero, minus_to_plus, never_minus, plus_zero_stays, plus_stays, zero_passes, plus_zero_above, plus_zero_below, plus_zero_finite, plus_zero_nonneg}
-- the order of doubles, and `ord`, the number by which it is that of ℕ
pub use Rattle.rounding.proofs.Value.{ord, lt→ord, ord→lt, le→ord, ord→le, eq→ord}
pub use Rattle.rounding.proofs.Value.{float_le_refl, float_le_trans, float_lt_le_trans, float_le_lt_trans, float_total, lt→le, not_lt→le, not_le→lt, le→not_lt}
pub use Rattle.rounding.proofs.Equality.{nonneg_same}
pub use Rattle.rounding.proofs.Scaled.{split}
-- the order of integers, `round_away`, and minus of an unsigned number
pub use Rattle.rounding.proofs.Integers.{le_z_refl, le_z_cases, le_z_total, le_z_trans, le_z_lt_z_trans, lt_z_le_z_trans, le_z_suc, le_z_pred, is_i64_between, mag_sub}
pub use Rattle.rounding.proofs.RoundAway.{round_away_is_i64}
pub use Rattle.rounding.proofs.Saturation.{negated_fits, negated_is}
-- whole numbers that a double counts without a gap
pub use Rattle.rounding.proofs.ExactIntegers.{whole_without_gap}
-- sums, differences, multiples, the term, the widened radius
pub use Rattle.rounding.proofs.NonNegative.{add_nonneg, finite_below, remaining_fits}
pub use Rattle.rounding.proofs.Subtraction.{sub_number, sub_mono}
pub use Rattle.rounding.proofs.Multiples.{whole_times_number, whole_times_mono, whole_times_zero, whole_times_once}
pub use Rattle.rounding.proofs.Term.{term, passed_term_nonneg, term_nonneg, term_up, term_down, term_least}
pub use Rattle.rounding.proofs.Widening.{widened, widening_fits, widening_lt, widening_nonneg, widening_same}
