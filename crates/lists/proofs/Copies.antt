-- Copying a list place by place. Assumes nothing.
use mathlib.Core.Path.{◌≡◌, ap, sym, ◌∙◌}
use mathlib.Core.List.{List, ◌++◌, append_assoc}
use Prim.Native.Nat.{ℕ, ◌+◌, ◌-◌, ◌≤◌}
use native.Mathlib.Omega.{arith}
use lib.ListN.{length, take, drop, length-append, length-drop}
use lib.Seq.{take_at, length-take-le, drop-drop}
use borrow.Rule.Slice.PartMut.{mid_of, put_mid}
use Rattle.lists.specs.Over.{over}

-- a copy of n elements into the part of a list from at on, lent as `&mut old[at..end]` with `end` = at + n
module _ {A : Type 0} (old src : List A) (at n : ℕ) (new : List A) (room : at + n ≤ length old) (long : n ≤ length src) (copied : new ≡ take (length (mid_of at (at + n - at) old)) src) where
  abbrev size : ℕ
  size = at + n - at

  size_is : size ≡ n
  size_is = omega arith

  part_is : new ≡ take n src
  part_is = let l : size ≤ length (drop at old) = simp length-drop (omega arith) in copied ∙ ap (λ (j : ℕ). take j src) (length-take-le size (drop at old) l ∙ size_is)

  pub copied_part : put_mid at size old new ≡ over old at (take n src)
  copied_part =
      ap (put_mid at size old) part_is
      ∙ sym (append_assoc (take at old) (take n src) (drop size (drop at old)))
      ∙ ap (λ (l : List A). take at old ++ take n src ++ l) (drop-drop size at old ∙ ap (λ (j : ℕ). drop (at + j) old) (size_is ∙ sym (length-take-le n src long)))

-- an array after its first n elements were lent, as `&mut old[..n]`, and came back as new
module _ {A : Type 0} (old new : List A) (n : ℕ) (room : n ≤ length old) (same : length new ≡ n) where
  pub prefix_length : length (new ++ drop n old) ≡ length old
  prefix_length = omega (arith, length-append new (drop n old), length-drop n old)

  pub prefix_is : take n (new ++ drop n old) ≡ new
  prefix_is = take_at new (drop n old) n same
