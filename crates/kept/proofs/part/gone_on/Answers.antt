-- `gone_on` meets its contract: the walk that is read goes on over the table and the target in the part. Assumes nothing.
use mathlib.Core.Path.{◌≡◌, sym, ap, subst}
use mathlib.Core.Bool.{true}
use mathlib.Core.List.{List}
use Prim.Native.Nat.{ℕ, ◌+◌, ◌-◌, ◌*◌, ◌≤◌}
use native.Mathlib.Nat.{mul-le-mul}
use native.Mathlib.Omega.{arith}
use lib.ListN.{get_or, take, drop}
use lib.Seq.{length-take-le}
use lib.Ieee.{Float}
use Rattle.definitions.specs.Table.{largest_budget}
use Rattle.definitions.specs.Block.{Block, part_dimension, is_sound, part_table, part_target}
use Rattle.definitions.proofs.Block.{SoundCounts, sound_counts}
use Rattle.resume.specs.declared.Walk.{Walk}
use Rattle.resume.specs.Ready.{ResidualsOf, RunReady}
use Rattle.resume.proofs.Residuals.{ready_with}
use Rattle.parts.specs.Parts.{block}
use Rattle.parts.specs.Walks.{WalkRead}
use Rattle.kept.proofs.part.gone_on.Goals as goal

-- ---- what the counts say
module _ (counts : List ℕ) (sound : is_sound counts ≡ true) where
  passed : SoundCounts counts
  passed = sound_counts counts sound

  square_most : let n = get_or counts 0 0 in n * n ≤ 529
  square_most = mul-le-mul passed.small passed.small

pub overflow_mul-mu_end : goal.overflow_mul-mu_end
overflow_mul-mu_end c = omega (arith, square_most c.args.counts.now c.requires.sound)

pub overflow_add-mu_end : goal.overflow_add-mu_end
overflow_add-mu_end c = omega (arith, square_most c.args.counts.now c.requires.sound)

pub overflow_add-target_end : goal.overflow_add-target_end
overflow_add-target_end c = omega (arith, (passed c.args.counts.now c.requires.sound).small)

pub slice_bounds-weights-end : goal.slice_bounds-weights-end
slice_bounds-weights-end c = sym (length-take-le _ _ (omega (arith, (passed c.args.counts.now c.requires.sound).small, c.requires.lengths.reals_length)))

pub slice_bounds-mu-end : goal.slice_bounds-mu-end
slice_bounds-mu-end c = omega (arith, square_most c.args.counts.now c.requires.sound, c.requires.lengths.reals_length)

-- ---- the slices as they are lent, and as the part is read
module _ (p : Block) where
  abbrev n : ℕ
  n = part_dimension p.counts

  abbrev w : List Float
  w = take n p.reals

  abbrev mu : List Float
  mu = take (23 + n * n - 23) (drop 23 p.reals)

  abbrev target : List Float
  target = take (552 + n - 552) (drop 552 p.reals)

  back : (start k : ℕ) → start + k - start ≡ k
  back start k = omega arith

  mu_is : mu ≡ (part_table p).mu
  mu_is = ap (λ (m : ℕ). take m (drop 23 p.reals)) (back 23 (n * n))

  target_is : target ≡ part_target p
  target_is = ap (λ (m : ℕ). take m (drop 552 p.reals)) (back 552 n)

  -- what the run asks for
  run_ready : (r : Walk) → WalkRead p r → (sum : ℕ) → sum ≤ largest_budget → (rest : List Float) → ResidualsOf target r.point rest → RunReady w mu target rest sum r
  run_ready r read sum bounded rest o =
      subst (λ (m : List Float). RunReady w m target rest sum r) (sym mu_is)
      (subst (λ (t : List Float). RunReady w (part_table p).mu t rest sum r) (sym target_is)
      (record { ready = ready_with read.sound rest (subst (λ (t : List Float). ResidualsOf t r.point rest) target_is o); budget_bounded = bounded }))

pub run_to-requires : goal.run_to-requires
run_to-requires c =
    let a = c.args in
    run_ready (block a.reals.now a.integers.now a.counts.now) c.read_walk-s.result c.read_walk-s.ensures a.sum c.requires.bounded _ c.residuals_of.ensures
