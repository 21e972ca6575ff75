-- A name's part as the block lends it, and the block when the part is back. Assumes nothing.
use mathlib.Core.Path.{◌≡◌, sym, ap, ◌∙◌}
use mathlib.Core.List.{List, ◌++◌, append_assoc}
use Prim.Native.Nat.{ℕ, ◌+◌, ◌-◌, ◌*◌}
use native.Mathlib.Omega.{arith}
use lib.ListN.{take, drop, take-append-drop}
use lib.Seq.{take-add, length-take-le}
use lib.ListN.{length-drop}
use borrow.Rule.Slice.PartMut.{put_mid, Post-is}
use Rattle.definitions.specs.Block.{Block, replaced, part_of, with_part}
use Rattle.definitions.proofs.Named.{BlockPassed}
use Rattle.parts.specs.Parts.{block, PartLengths}

back : (start k : ℕ) → start + k - start ≡ k
back start k = omega arith

module _ {A : Type 0} (start k : ℕ) (xs : List A) where
  lent : take (start + k - start) (drop start xs) ≡ take k (drop start xs)
  lent = ap (λ (m : ℕ). take m (drop start xs)) (back start k)

  put_back : (ys : List A) → put_mid start (start + k - start) xs ys ≡ replaced start k xs ys
  put_back ys =
      ap (λ (r : List A). take start xs ++ (ys ++ r)) (Post-is start (start + k) xs (omega arith))
      ∙ sym (append_assoc (take start xs) ys (drop (start + k) xs))

  same : replaced start k xs (take k (drop start xs)) ≡ xs
  same = ap (λ (r : List A). r ++ drop (start + k) xs) (sym (take-add start k xs)) ∙ take-append-drop (start + k) xs

module _ (b : Block) (name : ℕ) where
  abbrev pub lent_part : Block
  lent_part = block (take ((name - 1) * 646 + 646 - (name - 1) * 646) (drop ((name - 1) * 646) b.reals)) (take ((name - 1) * 92 + 92 - (name - 1) * 92) (drop ((name - 1) * 92) b.integers)) (take ((name - 1) * 96 + 96 - (name - 1) * 96) (drop ((name - 1) * 96) b.counts))

  pub part_lent : lent_part ≡ part_of b name
  part_lent = λ i. record { reals = lent ((name - 1) * 646) 646 b.reals i; integers = lent ((name - 1) * 92) 92 b.integers i; counts = lent ((name - 1) * 96) 96 b.counts i }

  pub part_back : (p : Block) → block (put_mid ((name - 1) * 646) ((name - 1) * 646 + 646 - (name - 1) * 646) b.reals p.reals) (put_mid ((name - 1) * 92) ((name - 1) * 92 + 92 - (name - 1) * 92) b.integers p.integers) (put_mid ((name - 1) * 96) ((name - 1) * 96 + 96 - (name - 1) * 96) b.counts p.counts) ≡ with_part b name p
  part_back p = λ i. record { reals = put_back ((name - 1) * 646) 646 b.reals p.reals i; integers = put_back ((name - 1) * 92) 92 b.integers p.integers i; counts = put_back ((name - 1) * 96) 96 b.counts p.counts i }

  pub part_same : with_part b name (part_of b name) ≡ b
  part_same = λ i. record { reals = same ((name - 1) * 646) 646 b.reals i; integers = same ((name - 1) * 92) 92 b.integers i; counts = same ((name - 1) * 96) 96 b.counts i }

  pub part_lengths : BlockPassed b name → PartLengths (part_of b name)
  part_lengths k = record {
    reals_length = length-take-le 646 (drop ((name - 1) * 646) b.reals) (omega (arith, length-drop ((name - 1) * 646) b.reals, k.least, k.most, k.reals_length));
    integers_length = length-take-le 92 (drop ((name - 1) * 92) b.integers) (omega (arith, length-drop ((name - 1) * 92) b.integers, k.least, k.most, k.integers_length));
    counts_length = length-take-le 96 (drop ((name - 1) * 96) b.counts) (omega (arith, length-drop ((name - 1) * 96) b.counts, k.least, k.most, k.counts_length));
  }
