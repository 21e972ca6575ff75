-- `turn` meets its contract: a refusal by each check in its order, or what serving the name does. Assumes nothing.
use mathlib.Core.Path.{◌≡◌, refl, sym, ap, ◌∙◌, subst}
use mathlib.Core.List.{List, ◌∷◌}
use Prim.Native.Nat.{ℕ}
use native.Mathlib.Omega.{arith}
use lib.IntN.{ℤ}
use Rattle.definitions.specs.Checks.{pass, first_refusal}
use Rattle.definitions.specs.Block.{Block, block_checks}
use Rattle.definitions.specs.Turn.{served, slice_check}
use Rattle.definitions.proofs.Named.{BlockPassed, block_passed}
use Rattle.refusals.specs.Numbers.{verdict}
use Rattle.parts.specs.Parts.{block}
use Rattle.turns.specs.declared.TurnAnswer.{TurnAnswer}
use Rattle.turns.specs.Turns.{TurnAnswered}
use Rattle.turns.proofs.Slices.{slice_passed}
use Rattle.turns.proofs.Turning.{refused_first, refused_none, refused_length, turn_served, serve_ready}
use Rattle.turns.proofs.turn.Goals as goal
use Rattle.turns.proofs.turn.Goals.{In-Some, In_default}

-- what the checks before the name leave
ok : (c : In_default) → let a = c.args in first_refusal (slice_check a.slice ∷ block_checks (block a.reals.now a.integers.now a.counts.now)) ≡ pass
ok c = sym c.slice_check.ensures ∙ ap verdict c.in_default.is

passed : (c : In_default) → let a = c.args in BlockPassed (block a.reals.now a.integers.now a.counts.now) 1
passed c =
    let a = c.args in
    let b = block a.reals.now a.integers.now a.counts.now in
    block_passed b 1 (slice_passed (block_checks b) a.slice (ok c))

-- the name that is served, and that there is one
named : (c : In-Some) → let a = c.args in c.in-Some.name ≡ served (block a.reals.now a.integers.now a.counts.now) a.last.now
named c = let a = c.args in c.in-Some.ensures.1 (block a.reals.now a.integers.now a.counts.now) refl

some : (c : In-Some) → let a = c.args in served (block a.reals.now a.integers.now a.counts.now) a.last.now ≡ 0 → ⊥
some c q = let e = named c ∙ q in omega (arith, c.in-Some.ensures.0, e)

-- a refusal as the code makes it
abbrev Refused : Block → ℕ → List ℤ → ℕ → TurnAnswer → Type 0
Refused b last out slice r = TurnAnswered b last out slice r out b last

pub returns-in-Err : goal.returns-in-Err
returns-in-Err c =
    let a = c.args in
    let b = block a.reals.now a.integers.now a.counts.now in
    subst (Refused b a.last.now a.out.now a.slice) (sym c.refused.ensures)
    (refused_first b a.last.now a.out.now a.slice c.in-Err.e (sym c.slice_check.ensures ∙ ap verdict c.in-Err.is))

pub next_held-requires : goal.next_held-requires
next_held-requires c = (passed (goal.at.next_held-requires c).In_default).counts_length

pub returns-in_default-next_held : goal.returns-in_default-next_held
returns-in_default-next_held c =
    let a = c.args in
    let b = block a.reals.now a.integers.now a.counts.now in
    subst (Refused b a.last.now a.out.now a.slice) (sym c.refused-in_default-next_held.ensures)
    (refused_none b a.last.now a.out.now a.slice (ok (goal.at.returns-in_default-next_held c).In_default) (sym (c.in_default-next_held.ensures b refl)))

pub returns-then-out-ne-LARGEST_DIMENSION : goal.returns-then-out-ne-LARGEST_DIMENSION
returns-then-out-ne-LARGEST_DIMENSION c =
    let a = c.args in
    let at = goal.at.returns-then-out-ne-LARGEST_DIMENSION c in
    let b = block a.reals.now a.integers.now a.counts.now in
    subst (Refused b a.last.now a.out.now a.slice) (sym c.refused-then-out-ne-LARGEST_DIMENSION.ensures)
    (refused_length b a.last.now a.out.now a.slice (ok at.In_default) (some at.In-Some) c.if-out-ne-LARGEST_DIMENSION.true)

pub serve-requires : goal.serve-requires
serve-requires c =
    let a = c.args in
    let at = goal.at.serve-requires c in
    serve_ready (block a.reals.now a.integers.now a.counts.now) a.last.now a.out.now (passed at.In_default) c.in-Some.name (named at.In-Some) (λ q. omega (arith, c.in-Some.ensures.0, q)) c.if-out-ne-LARGEST_DIMENSION.false

pub returns : goal.returns
returns c =
    let a = c.args in
    let at = goal.at.returns c in
    turn_served (block a.reals.now a.integers.now a.counts.now) a.last.now a.out.now a.slice (ok at.In_default) (some at.In-Some) c.if-out-ne-LARGEST_DIMENSION.false c.in-Some.name (named at.In-Some) c.serve.ensures
