-- `serve` meets its contract: the part of the name is served, out lent for its n. Assumes nothing.
use mathlib.Core.Path.{◌≡◌, sym, subst}
use Prim.Native.Nat.{ℕ, ◌-◌, ◌*◌, ◌≤◌}
use lib.ListN.{get_or}
use borrow.Author.Rules.{rules}
use Rattle.definitions.specs.Block.{Block, part_dimension, part_of}
use Rattle.parts.specs.Parts.{block}
use Rattle.kept.proofs.Blocks.{part_lent, part_back}
use Rattle.turns.proofs.Serving.{n_of_part, n_small, lent_length, part_ready, name_served}
use Rattle.turns.proofs.serve.Goals as goal
use Rattle.turns.proofs.serve.Goals.{Start}

abbrev whole : Start → Block
whole s = let a = s.args in block a.reals.now a.integers.now a.counts.now

-- n as the code reads it
abbrev n_read : Start → ℕ
n_read s = get_or s.args.counts.now ((s.args.name - 1) * 96) 0

is : (s : Start) → n_read s ≡ part_dimension (part_of (whole s) s.args.name).counts
is s = n_of_part s.args.counts.now ((s.args.name - 1) * 96)

pub slice_bounds-serve_part-end-4 : goal.slice_bounds-serve_part-end-4
slice_bounds-serve_part-end-4 c =
    let s = (goal.at.slice_bounds-serve_part-end-4 c).Start in
    subst (λ (k : ℕ). n_read s ≤ k) (sym s.requires.output_length) (n_small (whole s) s.args.out.now s.args.name s.args.slice s.requires (n_read s) (is s))

pub slice_bounds-serve_part-end-5 : goal.slice_bounds-serve_part-end-5
slice_bounds-serve_part-end-5 c =
    let s = (goal.at.slice_bounds-serve_part-end-5 c).Start in
    sym (lent_length (whole s) s.args.out.now s.args.name s.args.slice s.requires (n_read s) (is s))

pub serve_part-answer-requires : goal.serve_part-answer-requires
serve_part-answer-requires c =
    let s = (goal.at.serve_part-answer-requires c).Start in
    part_ready (whole s) s.args.out.now s.args.name s.args.slice s.requires (n_read s) (is s) _ (part_lent (whole s) s.args.name)

pub returns : goal.returns
returns c =
    let s = (goal.at.returns c).Start in
    let p = block c.serve_part-answer.new.reals c.serve_part-answer.new.integers c.serve_part-answer.new.counts in
    name_served (whole s) s.args.out.now s.args.name s.args.slice s.requires (n_read s) (is s) _ p _ (part_lent (whole s) s.args.name) (part_back (whole s) s.args.name p) (search rules) c.serve_part-answer.ensures
