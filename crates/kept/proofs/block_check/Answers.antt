-- `block_check` meets its contract: the name, then the three lengths. Assumes nothing.
use mathlib.Core.Path.{◌≡◌, sym, ◌∙◌}
use mathlib.Core.List.{List, [], ◌∷◌}
use Prim.Native.Nat.{ℕ, ◌≤◌}
use lib.ListN.{length}
use Rattle.definitions.specs.Checks.{Verdict, first_refusal, length_check}
use Rattle.definitions.specs.Kept.{name_check}
use Rattle.definitions.specs.Block.{Block, block_checks}
use Rattle.parts.specs.Parts.{block}
use Rattle.kept.proofs.Checks.{name_low, name_high, name_passes, length_refuses, length_passes, no_check_left}
use Rattle.kept.proofs.block_check.Goals as goal
use Rattle.kept.proofs.block_check.Goals.{then-name-lt1-via-then-name-lt1, then-name-lt1-via-else-name-lt1+then-name-gt8}

-- what is left of the checks
module _ (b : Block) where
  abbrev from_integers : List Verdict
  from_integers = length_check 736 (length b.integers) ∷ length_check 768 (length b.counts) ∷ []

  abbrev from_counts : List Verdict
  from_counts = length_check 768 (length b.counts) ∷ []

  module _ (name : ℕ) (least : 1 ≤ name) (most : name ≤ 8) where
    named : first_refusal (name_check name ∷ block_checks b) ≡ first_refusal (block_checks b)
    named = name_passes (block_checks b) name least most

    module _ (reals : length b.reals ≡ 5168) where
      reals_pass : first_refusal (name_check name ∷ block_checks b) ≡ first_refusal from_integers
      reals_pass = named ∙ length_passes from_integers 5168 (length b.reals) reals

      integers_pass : length b.integers ≡ 736 → first_refusal (name_check name ∷ block_checks b) ≡ first_refusal from_counts
      integers_pass integers = reals_pass ∙ length_passes from_counts 736 (length b.integers) integers

-- ---- the goals
pub returns-then-name-lt1 : goal.returns-then-name-lt1
returns-then-name-lt1 c =
    let a = c.args in
    let checks = block_checks (block a.reals.now a.integers.now a.counts.now) in
    elim c.then-name-lt1.branch [
      | then-name-lt1-via-then-name-lt1 w ↦ name_low checks a.name w.if-name-lt1.true
      | then-name-lt1-via-else-name-lt1+then-name-gt8 w ↦ name_high checks a.name w.if-name-lt1.false w.if-name-gt8.true
    ]

pub returns-then-reals-ne-REALS : goal.returns-then-reals-ne-REALS
returns-then-reals-ne-REALS c =
    let a = c.args in
    let b = block a.reals.now a.integers.now a.counts.now in
    length_refuses (from_integers b) 5168 (length b.reals) c.if-reals-ne-REALS.true ∙ sym (named b a.name c.if-name-lt1.false c.if-name-gt8.false)

pub returns-then-integers-ne-INTEGERS : goal.returns-then-integers-ne-INTEGERS
returns-then-integers-ne-INTEGERS c =
    let a = c.args in
    let b = block a.reals.now a.integers.now a.counts.now in
    length_refuses (from_counts b) 736 (length b.integers) c.if-integers-ne-INTEGERS.true
    ∙ sym (reals_pass b a.name c.if-name-lt1.false c.if-name-gt8.false c.if-reals-ne-REALS.false)

pub returns-then-counts-ne-COUNTS : goal.returns-then-counts-ne-COUNTS
returns-then-counts-ne-COUNTS c =
    let a = c.args in
    let b = block a.reals.now a.integers.now a.counts.now in
    length_refuses [] 768 (length b.counts) c.if-counts-ne-COUNTS.true
    ∙ sym (integers_pass b a.name c.if-name-lt1.false c.if-name-gt8.false c.if-reals-ne-REALS.false c.if-integers-ne-INTEGERS.false)

pub returns : goal.returns
returns c =
    let a = c.args in
    let b = block a.reals.now a.integers.now a.counts.now in
    sym (integers_pass b a.name c.if-name-lt1.false c.if-name-gt8.false c.if-reals-ne-REALS.false c.if-integers-ne-INTEGERS.false
    ∙ length_passes [] 768 (length b.counts) c.if-counts-ne-COUNTS.false
    ∙ no_check_left)
