-- `layout_at` meets its contract: the sections one after another are the layout. Assumes nothing.
use Rattle.reading.proofs.Layouts.{handed_up, weights_read, size_few, mu_read, target_read, radius_read, budget_read, settings_read, left_over, nothing_left}
use Rattle.reading.proofs.layout_at.Goals as goal

pub returns-in_err-weights : goal.returns-in_err-weights
returns-in_err-weights c =
    handed_up _ c.from_residual.result c.from_residual.ensures.1 (weights_read _ c.section_at.ensures.means c.in_err-weights.was)

pub triangle-requires : goal.triangle-requires
triangle-requires c = size_few _ c.section_at.ensures.means c.in_ok-weights.was

pub returns-in_err-mu : goal.returns-in_err-mu
returns-in_err-mu c =
    handed_up _ c.from_residual-in_err-mu.result c.from_residual-in_err-mu.ensures.1
    (mu_read _ c.section_at.ensures.means c.in_ok-weights.was c.triangle.ensures c.next_section.ensures.means c.in_err-mu.was)

pub returns-in_err-target : goal.returns-in_err-target
returns-in_err-target c =
    handed_up _ c.from_residual-in_err-target.result c.from_residual-in_err-target.ensures.1
    (target_read _ c.section_at.ensures.means c.in_ok-weights.was c.triangle.ensures c.next_section.ensures.means c.in_ok-mu.was c.next_section-2.ensures.means c.in_err-target.was)

pub returns-in_err-radius : goal.returns-in_err-radius
returns-in_err-radius c =
    handed_up _ c.from_residual-in_err-radius.result c.from_residual-in_err-radius.ensures.1
    (radius_read _ c.section_at.ensures.means c.in_ok-weights.was c.triangle.ensures c.next_section.ensures.means c.in_ok-mu.was c.next_section-2.ensures.means c.in_ok-target.was c.next_section-3.ensures.means c.in_err-radius.was)

pub returns-in_err-budget : goal.returns-in_err-budget
returns-in_err-budget c =
    handed_up _ c.from_residual-in_err-budget.result c.from_residual-in_err-budget.ensures.1
    (budget_read _ c.section_at.ensures.means c.in_ok-weights.was c.triangle.ensures c.next_section.ensures.means c.in_ok-mu.was c.next_section-2.ensures.means c.in_ok-target.was c.next_section-3.ensures.means c.in_ok-radius.was c.next_section-4.ensures.means c.in_err-budget.was)

pub returns-in_err-settings : goal.returns-in_err-settings
returns-in_err-settings c =
    handed_up _ c.from_residual-in_err-settings.result c.from_residual-in_err-settings.ensures.1
    (settings_read _ c.section_at.ensures.means c.in_ok-weights.was c.triangle.ensures c.next_section.ensures.means c.in_ok-mu.was c.next_section-2.ensures.means c.in_ok-target.was c.next_section-3.ensures.means c.in_ok-radius.was c.next_section-4.ensures.means c.in_ok-budget.was c.next_settings.ensures.means c.in_err-settings.was)

pub returns-then-settings-input : goal.returns-then-settings-input
returns-then-settings-input c =
    left_over _ _ c.in_ok-settings.settings
    (settings_read _ c.section_at.ensures.means c.in_ok-weights.was c.triangle.ensures c.next_section.ensures.means c.in_ok-mu.was c.next_section-2.ensures.means c.in_ok-target.was c.next_section-3.ensures.means c.in_ok-radius.was c.next_section-4.ensures.means c.in_ok-budget.was c.next_settings.ensures.means c.in_ok-settings.was)
    c.if-settings-input.true

pub returns : goal.returns
returns c =
    nothing_left _ _ c.in_ok-settings.settings
    (settings_read _ c.section_at.ensures.means c.in_ok-weights.was c.triangle.ensures c.next_section.ensures.means c.in_ok-mu.was c.next_section-2.ensures.means c.in_ok-target.was c.next_section-3.ensures.means c.in_ok-radius.was c.next_section-4.ensures.means c.in_ok-budget.was c.next_settings.ensures.means c.in_ok-settings.was)
    c.if-settings-input.false
