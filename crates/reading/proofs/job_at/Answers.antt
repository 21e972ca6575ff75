-- `job_at`: each part stands where its section has it. Assumes nothing.
use mathlib.Core.Path.{◌≡◌, sym, subst}
use mathlib.Core.List.{List}
use native.Mathlib.Omega.{arith}
use lib.Dec.{T}
use lib.ListN.{get_or}
use lib.Ieee.{Float, binary64, nan, fits}
use Rattle.definitions.specs.JobLayout.{items_at}
use Rattle.reading.specs.View.{mu_at, target_at, radius_at, budget_at, settings_at}
use Rattle.reading.proofs.Items.{doubles_fit}
use borrow.Author.Rules.{rules}
use Rattle.reading.proofs.job_at.Goals as goal
use Rattle.reading.proofs.job_at.Goals.{After-mu_at-mu, After-vector_at-target, After-vector_at-weights}

pub returns : goal.returns
returns c =
    let target = (goal.at.returns c).After-vector_at-target in
    let mu = (goal.at.returns c).After-mu_at-mu in
    let weights = (goal.at.returns c).After-vector_at-weights in
    let input = c.args.input.now in
    let n = c.args.n in
    let m : c.section_end-mu_section.result ≡ mu_at n = c.section_end-mu_section.ensures in
    let t : c.section_end-target_section.result ≡ target_at n = omega (arith, m, c.section_end-target_section.ensures, c.triangle.ensures) in
    let r : c.section_end-radius_section.result ≡ radius_at n = omega (arith, t, c.section_end-radius_section.ensures) in
    let b : c.section_end-budget_section.result ≡ budget_at n = omega (arith, r, c.section_end-budget_section.ensures) in
    let e : c.section_end-settings_section.result ≡ settings_at n = omega (arith, b, c.section_end-settings_section.ensures) in
    record {
      means = cc (weights.vector_at-weights.ensures.first, mu.mu_at-mu.ensures.first, target.vector_at-target.ensures.first, c.from_bits-radius.ensures, c.number_at.ensures.value, c.number_at-budget.ensures.value, c.settings_at-settings.ensures);
      shape = record {
        small = search rules;
        weights = search rules;
        mu = search rules;
        target = search rules;
        doubles = λ i. subst (λ (xs : List Float). T (fits binary64 (get_or xs i nan))) (sym weights.vector_at-weights.ensures.first) (doubles_fit (items_at input 4 n) i);
      };
    }
