-- `section_at` meets its contract, test by test. Assumes nothing.
use mathlib.Core.Path.{◌≡◌, ap, sym, ◌∙◌}
use mathlib.Core.Bool.{Bool, true, false, ◌&&◌}
use Prim.Native.Nat.{ℕ, ◌≤◌, ◌<◌}
use native.Mathlib.Omega.{arith}
use borrow.Author.Tests.{le-leb, lt-leb}
use lib.Dec.{leb}
use Rattle.reading.specs.View.{within, items_to, section_of}
use Rattle.definitions.proofs.JobSections.{section_short, section_wrong, section_cut}
use Rattle.reading.proofs.Layouts.{section_items}
use Rattle.reading.proofs.section_at.Goals as goal
use Rattle.reading.proofs.section_at.Goals.{then-count-low-via-then-count-low, then-count-low-via-else-count-low+then-count-high}

below : (low high count : ℕ) → count < low → within low high count ≡ false
below low high count h = ap (λ (b : Bool). b && leb count high) (lt-leb low count h)

above : (low high count : ℕ) → low ≤ count → high < count → within low high count ≡ false
above low high count l h = ap (λ (b : Bool). b && leb count high) (le-leb low count l) ∙ lt-leb count high h

inside : (low high count : ℕ) → low ≤ count → count ≤ high → within low high count ≡ true
inside low high count l h = ap (λ (b : Bool). b && leb count high) (le-leb low count l) ∙ le-leb count high h

pub returns-then-size-offset : goal.returns-then-size-offset
returns-then-size-offset c = record { means = ap section_of (sym (section_short _ _ _ c.if-size-offset.true)); ends = tt }

pub returns-then-count-low : goal.returns-then-count-low
returns-then-count-low c =
    let wrong : within c.args.low c.args.high c.number_at-count.result ≡ false = elim c.then-count-low.branch [
      | then-count-low-via-then-count-low w ↦ below _ _ _ w.if-count-low.true
      | then-count-low-via-else-count-low+then-count-high w ↦ above _ _ _ w.if-count-low.false w.if-count-high.true
    ] in
    record { means = ap section_of (sym (section_wrong _ _ _ c.if-size-offset.false c.number_at-count.ensures.value wrong)); ends = tt }

pub returns-then-size-end : goal.returns-then-size-end
returns-then-size-end c =
    let good = inside _ _ _ c.if-count-low.false c.if-count-high.false in
    record { means = ap section_of (sym (section_cut _ _ _ c.if-size-offset.false c.number_at-count.ensures.value good (omega (arith, c.section_end-end.ensures, c.if-size-end.true)))); ends = tt }

pub returns : goal.returns
returns c =
    let ends = c.section_end-end.ensures in
    let good = inside _ _ _ c.if-count-low.false c.if-count-high.false in
    record { means = ap (items_to c.number_at-count.result) ends ∙ sym (section_items _ _ _ c.if-size-offset.false c.number_at-count.ensures.value good (omega (arith, ends, c.if-size-end.false))); ends = c.if-size-end.false }
