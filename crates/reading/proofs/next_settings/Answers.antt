-- `next_settings` meets its contract: settings are read where bytes are left. Assumes nothing.
use mathlib.Core.Path.{ap, sym, ◌∙◌}
use lib.Dec.{eqb}
use Rattle.definitions.proofs.JobSections.{settings_given, settings_default}
use Rattle.reading.specs.View.{section_of, within}
use Rattle.reading.proofs.Layouts.{section_same, within_one}
use Rattle.reading.proofs.next_settings.Goals as goal

pub returns-then-offset-input : goal.returns-then-offset-input
returns-then-offset-input c =
    let read = c.section_at.ensures in
    let input = c.args.input.now in
    let at = c.args.offset in
    let same = ap section_of (sym (settings_given input at c.if-offset-input.true ∙ section_same input (eqb 3) (within 3 3) at (within_one 3))) in
    record { means = read.means ∙ same; ends = read.ends }

pub returns : goal.returns
returns c = record { means = sym (ap section_of (settings_default c.args.input.now c.args.offset c.if-offset-input.false)); ends = c.requires }
