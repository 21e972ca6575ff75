-- `search` starts the walk with the centres of the target and hands on what it came to. Assumes nothing.
use mathlib.Core.Path.{◌≡◌, refl, ap, sym, ◌∙◌}
use Prim.Native.Nat.{ℕ, ◌*◌, ◌≤◌}
use native.Mathlib.Omega.{arith}
use lib.ListN.{length, take, replicate}
use lib.Seq.{length-take-le}
use lib.Ieee.{Float, binary64, of_bits}
use Rattle.definitions.specs.Table.{largest_searched}
use Rattle.running.proofs.Instances.{ready_at_start, searched_at_end}
use Rattle.running.proofs.search.Goals as goal

-- the part of the array that is lent has n places
lent : (n : ℕ) (x : Float) → n ≤ largest_searched → length (take n (replicate largest_searched x)) ≡ n
lent n x h = length-take-le n (replicate largest_searched x) h

pub slice_bounds-initialize_centers-end : goal.slice_bounds-initialize_centers-end
slice_bounds-initialize_centers-end c =
    sym (lent (length c.args.weights.now) (of_bits binary64 0) c.requires.shape.small)

pub initialize_centers-requires : goal.initialize_centers-requires
initialize_centers-requires c =
    let s = c.requires.shape in
    record {
      small = omega (arith, s.small, s.target_length);
      square = s.square ∙ ap (λ (k : ℕ). k * k) (sym s.target_length);
      centers_length = lent (length c.args.weights.now) (of_bits binary64 0) s.small ∙ sym s.target_length;
    }

pub run-requires : goal.run-requires
run-requires c =
    ready_at_start c.requires c.args.listing c.args.radius _ (replicate largest_searched (of_bits binary64 0)) c.initialize_centers.ensures refl

pub returns : goal.returns
returns c =
    let w = c.run.new in
    searched_at_end c.requires c.args.listing c.args.radius _ (replicate largest_searched (of_bits binary64 0)) c.initialize_centers.ensures refl _ w.best c.run.result w.found w.exhausted _ w.distances w.points c.run.ensures
