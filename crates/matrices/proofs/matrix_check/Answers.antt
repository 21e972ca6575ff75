-- `matrix_check` meets its contract: 22 first, since the elements are multiplied once their number and size are known. Assumes nothing.
use mathlib.Core.Path.{◌≡◌, sym, ap, ◌∙◌}
use mathlib.Core.List.{List}
use Prim.Native.Nat.{ℕ, ◌+◌, ◌*◌}
use native.Mathlib.Omega.{arith}
use lib.ListN.{length}
use lib.IntN.{ℤ}
use Rattle.definitions.specs.Refusals.{matrix_range}
use Rattle.definitions.specs.Checks.{Verdict, refuse_at_first, count_from}
use Rattle.definitions.specs.Prepared.{transform_range_check, inverse_range_check}
use Rattle.definitions.proofs.Verdicts.{refuse_same, first_refuses, first_passes, first_alone}
use Rattle.definitions.proofs.Prepared.{transform_length_refused, inverse_length_refused, lengths_passed, range_passed}
use Rattle.refusals.specs.Numbers.{verdict}
use Rattle.refusals.proofs.Early.{handed_up}
use Rattle.matrices.proofs.Elements.{fault_at}
use Rattle.matrices.proofs.matrix_check.Goals as goal
use Rattle.matrices.proofs.matrix_check.Goals.{then-transform-size-via-then-transform-size, then-transform-size-via-else-transform-size+then-inverse-size}

pub returns-then-transform-size : goal.returns-then-transform-size
returns-then-transform-size c =
    let a = c.args in
    elim c.then-transform-size.branch [
      | then-transform-size-via-then-transform-size w ↦ sym (transform_length_refused a.n a.transform.now a.inverse.now w.if-transform-size.true)
      | then-transform-size-via-else-transform-size+then-inverse-size w ↦ sym (inverse_length_refused a.n a.transform.now a.inverse.now w.if-transform-size.false w.if-inverse-size.true)
    ]

-- the code's verdicts on the elements are the definition's
transform_checked : (n : ℕ) (m : List ℤ) (v : Verdict) → length m ≡ n * n → v ≡ refuse_at_first (fault_at m) (λ k. matrix_range (0 + k)) (count_from 0 (length m)) → v ≡ transform_range_check n m
transform_checked n m v long says =
    says
    ∙ refuse_same (fault_at m) (λ k. matrix_range (0 + k)) matrix_range (λ k. ap matrix_range (omega arith)) (count_from 0 (length m))
    ∙ ap (λ (size : ℕ). refuse_at_first (fault_at m) matrix_range (count_from 0 size)) long

inverse_checked : (n : ℕ) (m : List ℤ) (v : Verdict) → length m ≡ n * n → v ≡ refuse_at_first (fault_at m) (λ k. matrix_range (n * n + k)) (count_from 0 (length m)) → v ≡ inverse_range_check n m
inverse_checked n m v long says =
    says ∙ ap (λ (size : ℕ). refuse_at_first (fault_at m) (λ k. matrix_range (n * n + k)) (count_from 0 size)) long

pub returns-in_err-range_check : goal.returns-in_err-range_check
returns-in_err-range_check c =
    let a = c.args in
    let says = transform_checked a.n a.transform.now _ c.if-transform-size.false c.in_err-range_check.ensures in
    ap verdict (handed_up _ c.from_residual.ensures.1) ∙ says
    ∙ sym (lengths_passed a.n a.transform.now a.inverse.now c.if-transform-size.false c.if-inverse-size.false ∙ first_refuses _ _ (sym says))

pub returns-in_err-range_check-2 : goal.returns-in_err-range_check-2
returns-in_err-range_check-2 c =
    let a = c.args in
    let first = transform_checked a.n a.transform.now _ c.if-transform-size.false c.in_ok-range_check.ensures in
    let says = inverse_checked a.n a.inverse.now _ c.if-inverse-size.false c.in_err-range_check-2.ensures in
    ap verdict (handed_up _ c.from_residual-in_err-range_check-2.ensures.1) ∙ says
    ∙ sym (lengths_passed a.n a.transform.now a.inverse.now c.if-transform-size.false c.if-inverse-size.false ∙ first_passes _ _ (sym first) ∙ first_refuses _ _ (sym says))

pub inverse_check-requires : goal.inverse_check-requires
inverse_check-requires c =
    let a = c.args in
    record {
      left = record { small = c.requires; square = c.if-transform-size.false; bounded = range_passed a.transform.now (λ k. matrix_range (0 + k)) (length a.transform.now) (sym c.in_ok-range_check.ensures) };
      right = record { small = c.requires; square = c.if-inverse-size.false; bounded = range_passed a.inverse.now (λ k. matrix_range (a.n * a.n + k)) (length a.inverse.now) (sym c.in_ok-range_check-2.ensures) };
    }

pub returns : goal.returns
returns c =
    let a = c.args in
    let first = transform_checked a.n a.transform.now _ c.if-transform-size.false c.in_ok-range_check.ensures in
    let second = inverse_checked a.n a.inverse.now _ c.if-inverse-size.false c.in_ok-range_check-2.ensures in
    c.inverse_check.ensures
    ∙ sym (lengths_passed a.n a.transform.now a.inverse.now c.if-transform-size.false c.if-inverse-size.false ∙ first_passes _ _ (sym first) ∙ first_passes _ _ (sym second) ∙ first_alone _)
