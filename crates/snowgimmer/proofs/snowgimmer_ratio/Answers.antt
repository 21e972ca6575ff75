-- `snowgimmer_ratio` meets its contract: it tells what the answer of `ratio_of` does, and promises what the theorems say of it. Assumes nothing.
use mathlib.Core.Path.{ap, ◌∙◌}
use Rattle.rounding.proofs.Interface.{held}
use Rattle.definitions.specs.Ratio.{holds, fails, «open», none}
use Rattle.theorems.proofs.RatioCalls.{ratio_call_lem}
use Rattle.snowgimmer.specs.Reports.{of_ratio}
use Rattle.snowgimmer.proofs.RatioNumbers.{verdict_told, index_told}
use Rattle.snowgimmer.proofs.snowgimmer_ratio.Goals as goal

pub returns : goal.returns
returns c =
    let a = c.args in
    let told = c.stored.ensures ∙ c.ratio_report.ensures ∙ ap of_ratio c.ratio_of-answer.ensures in
    let promised = ratio_call_lem a.p a.q a.distances.now a.radius (held c.well_formed.1.0.1) in
    record {
      tells = told;
      promises = promised;
      numbers = λ p q t target lent points budget doubles promise same.
          let means = (promised.of_list p q t target lent points budget doubles promise same).means in
          record {
            none = verdict_told told promised.refuses none (means none);
            holds = verdict_told told promised.refuses holds (means holds);
            fails = verdict_told told promised.refuses fails (means fails);
            opens = verdict_told told promised.refuses «open» (means «open»);
          };
      gives_0 = index_told told promised.refuses 0 promised.gives_0;
      gives_1 = index_told told promised.refuses 1 promised.gives_1;
    }
