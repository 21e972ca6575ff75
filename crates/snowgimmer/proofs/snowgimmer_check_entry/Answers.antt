-- `snowgimmer_check_entry` meets its contract: it tells the verdict after the entry, and promises what the theorems say of it. Assumes nothing.
use mathlib.Core.Path.{sym, ◌∙◌, subst}
use Rattle.definitions.specs.Checks.{Verdict}
use Rattle.definitions.specs.Entries.{entry_of, fed}
use Rattle.theorems.specs.Entries.{EntryPromises}
use Rattle.theorems.proofs.Entries.{entry_promises}
use Rattle.snowgimmer.proofs.EntriesInTurn.{told_of, told_next}
use Rattle.snowgimmer.proofs.snowgimmer_check_entry.Goals as goal

pub returns : goal.returns
returns c =
    let a = c.args in
    let e = entry_of a.index a.entry in
    let tells = c.stored.ensures ∙ c.entry_report.ensures in
    record {
      tells = tells;
      promises = λ before handed. subst (λ (v : Verdict). EntryPromises before e (fed v e)) (sym (told_of before handed)) (entry_promises before e);
      hands_on = λ before. told_next before e tells;
    }
