-- `pick_up_part` meets its contract: each of its ends is a law of `PickingUp`. Assumes nothing.
use mathlib.Core.Path.{◌≡◌, sym, ◌∙◌, subst}
use mathlib.Core.Bool.{true}
use Prim.Native.Nat.{ℕ, ◌+◌, ◌≤◌}
use native.Mathlib.Omega.{arith}
use Rattle.definitions.specs.Table.{largest_budget}
use Rattle.definitions.specs.Block.{part_nodes, is_sound, part_table}
use Rattle.definitions.proofs.Block.{SoundCounts, sound_counts}
use Rattle.resume.specs.Ready.{Falling}
use Rattle.parts.specs.Parts.{block}
use Rattle.kept.proofs.PickingUp.{unsound, dimension_is, wrong_length, too_much, over, goes_on}
use Rattle.kept.proofs.part.pick_up_part.Goals as goal
use Rattle.kept.proofs.part.pick_up_part.Goals.{Else-not-is_sound, Else-budget-nodes}

-- ---- what is known where the part is sound, and where the sum is in range
sound : (c : Else-not-is_sound) → is_sound c.args.counts.now ≡ true
sound c = sym c.is_sound.ensures ∙ c.if-not-is_sound.false

passed : (c : Else-not-is_sound) → SoundCounts c.args.counts.now
passed c = sound_counts c.args.counts.now (sound c)

bounded : (c : Else-budget-nodes) → SoundCounts c.args.counts.now → part_nodes c.args.counts.now + c.args.budget ≤ largest_budget
bounded c p = omega (arith, c.if-budget-nodes.false, p.few_nodes)

-- ---- what each asks for
pub returns-then-not-is_sound : goal.returns-then-not-is_sound
returns-then-not-is_sound c =
    let a = c.args in
    unsound (block a.reals.now a.integers.now a.counts.now) c.requires a.out.now a.budget (sym c.is_sound.ensures ∙ c.if-not-is_sound.true)

pub returns-then-out-n : goal.returns-then-out-n
returns-then-out-n c =
    let a = c.args in
    wrong_length (block a.reals.now a.integers.now a.counts.now) c.requires a.out.now a.budget (sound (goal.at.returns-then-out-n c).Else-not-is_sound) c.if-out-n.true

pub overflow_sub-nodes : goal.overflow_sub-nodes
overflow_sub-nodes c = (passed (goal.at.overflow_sub-nodes c).Else-not-is_sound).few_nodes

pub returns-then-budget-nodes : goal.returns-then-budget-nodes
returns-then-budget-nodes c =
    let a = c.args in
    let e = (goal.at.returns-then-budget-nodes c).Else-not-is_sound in
    too_much (block a.reals.now a.integers.now a.counts.now) c.requires a.out.now a.budget (sound e) c.if-out-n.false (omega (arith, c.if-budget-nodes.true, (passed e).few_nodes)) _ c.saturating_add.ensures

pub gone_on-s-requires : goal.gone_on-s-requires
gone_on-s-requires c =
    let at = goal.at.gone_on-s-requires c in
    let e = at.Else-not-is_sound in
    record { lengths = c.requires; sound = sound e; bounded = bounded at.Else-budget-nodes (passed e) }

pub returns-then-s-eq0 : goal.returns-then-s-eq0
returns-then-s-eq0 c =
    let a = c.args in
    let at = goal.at.returns-then-s-eq0 c in
    let e = at.Else-not-is_sound in
    over (block a.reals.now a.integers.now a.counts.now) c.requires a.out.now a.budget (sound e) c.if-out-n.false (bounded at.Else-budget-nodes (passed e)) c.gone_on-s.result c.gone_on-s.ensures c.if-s-eq0.true c.clear.ensures c.end_of.ensures

pub write_walk-requires : goal.write_walk-requires
write_walk-requires c =
    let a = c.args in
    let s = c.gone_on-s.result in
    let w = c.gone_on-s.ensures.sound in
    let e = (goal.at.write_walk-requires c).Else-not-is_sound in
    record {
      lengths = c.requires;
      small = (passed e).small;
      point_length = w.point_length;
      best_length = w.best_length;
      levels_length = w.levels_length;
      some = omega (arith, c.if-s-eq0.false);
      falling = subst (λ (n : ℕ). Falling n s.nodes s.levels 0 s.count) (dimension_is (block a.reals.now a.integers.now a.counts.now) c.requires a.out.now a.budget (sound e)) w.falling;
    }

pub returns : goal.returns
returns c =
    let a = c.args in
    let at = goal.at.returns c in
    let e = at.Else-not-is_sound in
    let p = block a.reals.now a.integers.now a.counts.now in
    let d = dimension_is p c.requires a.out.now a.budget (sound e) in
    goes_on p c.requires a.out.now a.budget (sound e) c.if-out-n.false (bounded at.Else-budget-nodes (passed e)) c.gone_on-s.result c.gone_on-s.ensures c.if-s-eq0.false (c.write_walk.ensures (part_table p).weights d)
