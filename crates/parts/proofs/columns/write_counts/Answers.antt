-- `write_counts`: the levels passed stand in the columns. Assumes nothing.
use mathlib.Core.Path.{ap, ◌∙◌}
use mathlib.Core.List.{List, [], ◌∷◌}
use Prim.Native.Nat.{ℕ}
use Rattle.parts.specs.Levels.{open_levels, counts_behind}
use Rattle.parts.proofs.Stored.{stored_all, counts_next, counts_front}
use Rattle.parts.proofs.columns.write_counts.Goals as goal

pub loop-i-preserved : goal.loop-i-preserved
loop-i-preserved c =
    counts_next c.args.s c.loop-i.i c.requires.few c.loop-i-test.true c.loop-i.invariant c.flag_of-in-loop-i.ensures c.flag_of-in-loop-i-2.ensures

pub returns : goal.returns
returns c =
    let a = c.args in
    stored_all c.loop-i.invariant c.loop-i-test.false
    ∙ ap (λ (front : List ℕ). counts_behind front (open_levels a.s)) (
    counts_front a.counts.now c.fill.new.self c.requires.to_length (c.fill.ensures.after (λ y h. h)) a.n a.s.nodes c.flag_of.result a.s.count
    ∙ ap (λ (k : ℕ). a.n ∷ a.s.nodes ∷ k ∷ a.s.count ∷ []) c.flag_of.ensures
    )
