-- `snowgimmer_turn` meets its contract: it tells what `turn` does, and promises what the theorems say of it. Assumes nothing.
use mathlib.Core.Path.{◌≡◌, refl, ap, sym, ◌∙◌, subst}
use mathlib.Core.List.{List}
use Prim.Native.Nat.{ℕ}
use lib.IntN.{ℤ}
use Rattle.definitions.specs.Block.{Block}
use Rattle.definitions.specs.Turn.{Turn, turn, block_after_turn, last_after_turn, turn_output}
use Rattle.theorems.specs.Turns.{TurnPromises}
use Rattle.theorems.proofs.TurnPromises.{turn_promises}
use Rattle.parts.specs.Parts.{block}
use Rattle.snowgimmer.specs.Reports.{of_nearest}
use Rattle.snowgimmer.proofs.Slices.{held_in}
use Rattle.snowgimmer.proofs.ToldAs.{answer_told}
use Rattle.snowgimmer.proofs.snowgimmer_turn.Goals as goal

-- the promises, by what the slices hold
promised : (b : Block) (last : ℕ) (out : List ℤ) (slice : ℕ) {out' : List ℤ} {b' : Block} {last' : ℕ} → out' ≡ turn_output (turn b last out slice).answer out → b' ≡ block_after_turn b last out slice → last' ≡ last_after_turn b last out slice → TurnPromises b last out slice (turn b last out slice) out' b' last'
promised b last out slice {out'} {b'} p q r =
    subst (λ (m : ℕ). TurnPromises b last out slice (turn b last out slice) out' b' m) (sym r)
    (held_in (λ (o : List ℤ) (x : Block). TurnPromises b last out slice (turn b last out slice) o x (last_after_turn b last out slice)) p q (turn_promises b last out slice))

pub returns : goal.returns
returns c =
    let a = c.args in
    let b = block a.reals.now a.integers.now a.counts.now in
    let done = c.turn-told.ensures in
    let tells = c.stored.ensures ∙ c.nearest_report.ensures _ ∙ ap (λ (t : Turn). of_nearest t.answer) done.tells in
    record {
      tells_name = ap (λ (t : Turn). t.name) done.tells;
      tells_n = ap (λ (t : Turn). t.n) done.tells;
      tells = tells;
      told_as = answer_told of_nearest tells (λ x. refl) (λ e. refl);
      writes = done.writes;
      leaves = done.block_is;
      leaves_last = done.last_is;
      promises = promised b a.last.now a.out.now a.slice done.writes done.block_is done.last_is;
    }
