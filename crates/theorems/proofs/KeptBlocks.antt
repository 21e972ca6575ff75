-- A name's part that is overwritten is what was written, the other names' parts stay, and so do the block's lengths. Assumes nothing.
use mathlib.Core.Path.{◌≡◌, refl, ◌∙◌}
use mathlib.Core.Logic.{◌⊎◌, inl, inr}
use mathlib.Core.Bool.{Bool, true, false}
use Prim.Native.Nat.{ℕ, ◌+◌, ◌-◌, ◌*◌, ◌≤◌, ◌<◌}
use native.Mathlib.Omega.{arith}
use lib.Dec.{ltb}
use lib.ListN.{length, drop, length-drop}
use lib.Seq.{length-take-le}
use borrow.Author.Tests.{ltb-true, ltb-false}
use Rattle.lists.proofs.Replaced.{replaced_length, replaced_there, replaced_before, replaced_behind}
use Rattle.definitions.specs.Block.{Block, part_of, with_part}
use Rattle.theorems.specs.Kept.{IsName, IsBlock, OthersStay}
use Rattle.theorems.proofs.Written.{IsPart}

-- which of two names comes first
before_or_behind : (name other : ℕ) → (other ≡ name → ⊥) → (other < name) ⊎ (name < other)
before_or_behind name other d = go (ltb other name) refl
  where
    go : (b : Bool) → ltb other name ≡ b → (other < name) ⊎ (name < other)
    go true e = inl (ltb-true other name e)
    go false e = inr (behind (ltb-false other name e) d)
      where
        behind : name ≤ other → (other ≡ name → ⊥) → name < other
        behind l d = apart (ltb name other) refl
          where
            apart : (b : Bool) → ltb name other ≡ b → name < other
            apart true e = ltb-true name other e
            apart false e = absurd (d (omega (arith, ltb-false name other e)))

module _ (b : Block) (name : ℕ) (p : Block) (is : IsName name) (block : IsBlock b) (part : IsPart p) where
  fits_reals : (name - 1) * 646 + 646 ≤ length b.reals
  fits_reals = omega (arith, is.least, is.most, block.reals_length)

  fits_integers : (name - 1) * 92 + 92 ≤ length b.integers
  fits_integers = omega (arith, is.least, is.most, block.integers_length)

  fits_counts : (name - 1) * 96 + 96 ≤ length b.counts
  fits_counts = omega (arith, is.least, is.most, block.counts_length)

  pub part_written : part_of (with_part b name p) name ≡ p
  part_written = λ i. record {
    reals = replaced_there ((name - 1) * 646) 646 b.reals p.reals fits_reals part.reals_length i;
    integers = replaced_there ((name - 1) * 92) 92 b.integers p.integers fits_integers part.integers_length i;
    counts = replaced_there ((name - 1) * 96) 96 b.counts p.counts fits_counts part.counts_length i;
  }

  pub block_written : IsBlock (with_part b name p)
  block_written = record {
    reals_length = replaced_length ((name - 1) * 646) 646 b.reals p.reals fits_reals part.reals_length ∙ block.reals_length;
    integers_length = replaced_length ((name - 1) * 92) 92 b.integers p.integers fits_integers part.integers_length ∙ block.integers_length;
    counts_length = replaced_length ((name - 1) * 96) 96 b.counts p.counts fits_counts part.counts_length ∙ block.counts_length;
  }

  pub others_written : OthersStay name b (with_part b name p)
  others_written other io d = go (before_or_behind name other d)
    where
      go : (other < name) ⊎ (name < other) → part_of (with_part b name p) other ≡ part_of b other
      go (inl l) = λ i. record {
        reals = replaced_before ((name - 1) * 646) 646 b.reals p.reals fits_reals part.reals_length ((other - 1) * 646) 646 (omega (arith, l, io.least)) i;
        integers = replaced_before ((name - 1) * 92) 92 b.integers p.integers fits_integers part.integers_length ((other - 1) * 92) 92 (omega (arith, l, io.least)) i;
        counts = replaced_before ((name - 1) * 96) 96 b.counts p.counts fits_counts part.counts_length ((other - 1) * 96) 96 (omega (arith, l, io.least)) i;
      }
      go (inr l) = λ i. record {
        reals = replaced_behind ((name - 1) * 646) 646 b.reals p.reals fits_reals part.reals_length ((other - 1) * 646) 646 (omega (arith, l, is.least)) i;
        integers = replaced_behind ((name - 1) * 92) 92 b.integers p.integers fits_integers part.integers_length ((other - 1) * 92) 92 (omega (arith, l, is.least)) i;
        counts = replaced_behind ((name - 1) * 96) 96 b.counts p.counts fits_counts part.counts_length ((other - 1) * 96) 96 (omega (arith, l, is.least)) i;
      }

-- the part of a name has its lengths
pub part_lengths : (b : Block) (name : ℕ) → IsName name → IsBlock b → IsPart (part_of b name)
part_lengths b name is block = record {
  reals_length = length-take-le 646 (drop ((name - 1) * 646) b.reals) (omega (arith, length-drop ((name - 1) * 646) b.reals, is.least, is.most, block.reals_length));
  integers_length = length-take-le 92 (drop ((name - 1) * 92) b.integers) (omega (arith, length-drop ((name - 1) * 92) b.integers, is.least, is.most, block.integers_length));
  counts_length = length-take-le 96 (drop ((name - 1) * 96) b.counts) (omega (arith, length-drop ((name - 1) * 96) b.counts, is.least, is.most, block.counts_length));
}
