-- `next_held` meets its contract: the names after the last one are tried in their order. Assumes nothing.
use mathlib.Core.Path.{◌≡◌, sym, ◌∙◌, subst}
use mathlib.Core.Bool.{Bool}
use mathlib.Core.List.{List}
use Prim.Native.Nat.{ℕ, ◌+◌, ◌-◌, ◌*◌}
use Rattle.std.specs.Prelude.{Some}
use Rattle.definitions.specs.Block.{counts_of_part, from, is_sound}
use Rattle.turns.specs.Names.{ServedBy}
use Rattle.turns.proofs.Looking.{Looking, looking_found, looking_on, looking_none}
use Rattle.turns.proofs.names.next_held.Goals as goal

-- the test of the next name, as the loop's laws have it
same : (counts : List ℕ) {m n : ℕ} {held : Bool} → m ≡ n → is_sound (from ((m - 1) * counts_of_part) counts_of_part counts) ≡ held → is_sound (from ((n - 1) * counts_of_part) counts_of_part counts) ≡ held
same counts {m} {n} {held} e q = subst (λ (k : ℕ). is_sound (from ((k - 1) * counts_of_part) counts_of_part counts) ≡ held) e q

pub returns-then-is_held : goal.returns-then-is_held
returns-then-is_held c =
    let e = c.next_name-name.ensures in
    subst (λ (n : ℕ). ServedBy c.args.counts.now c.args.last (Some n)) (sym e)
    (looking_found c.loop.invariant c.loop-test.true (same c.args.counts.now e (sym c.is_held.ensures ∙ c.if-is_held.true)))

pub loop-preserved : goal.loop-preserved
loop-preserved c =
    let e = c.next_name-name.ensures in
    subst (λ (n : ℕ). Looking c.args.counts.now c.args.last n (c.loop.counter + 1)) (sym e)
    (looking_on c.loop.invariant c.loop-test.true (same c.args.counts.now e (sym c.is_held.ensures ∙ c.if-is_held.false)))

pub returns : goal.returns
returns c = looking_none c.loop.invariant c.loop-test.false
