-- A list with another in the place of so many of its elements. Assumes nothing.
use mathlib.Core.Path.{◌≡◌, sym, ap, ◌∙◌}
use mathlib.Core.List.{List, ◌++◌}
use Prim.Native.Nat.{ℕ, ◌+◌, ◌-◌, ◌≤◌}
use native.Mathlib.Omega.{arith}
use lib.ListN.{length, take, drop, length-append, length-drop}
use lib.Seq.{take-length, drop-drop, drop-append-add, length-take-le}
use Rattle.lists.proofs.Segments.{part_left, part_right, part_front}

module _ {A : Type 0} (start n : ℕ) (xs new : List A) (fits : start + n ≤ length xs) (same : length new ≡ n) where
  abbrev whole : List A
  whole = take start xs ++ new ++ drop (start + n) xs

  front_length : length (take start xs) ≡ start
  front_length = length-take-le start xs (omega arith)

  joined_length : length (take start xs ++ new) ≡ start + n
  joined_length = omega (arith, length-append (take start xs) new, front_length, same)

  pub replaced_length : length whole ≡ length xs
  replaced_length = omega (arith, length-append (take start xs ++ new) (drop (start + n) xs), joined_length, length-drop (start + n) xs, fits)

  -- what is put there
  pub replaced_there : take n (drop start whole) ≡ new
  replaced_there =
      part_left start n (take start xs ++ new) (drop (start + n) xs) (omega (arith, joined_length))
      ∙ part_right start n (take start xs) new front_length
      ∙ all
    where
      all : take n new ≡ new
      all = ap (λ (k : ℕ). take k new) (sym same) ∙ take-length new

  -- what lies before and behind
  pub replaced_before : (other k : ℕ) → other + k ≤ start → take k (drop other whole) ≡ take k (drop other xs)
  replaced_before other k h =
      part_left other k (take start xs ++ new) (drop (start + n) xs) (omega (arith, joined_length))
      ∙ part_left other k (take start xs) new (omega (arith, front_length))
      ∙ part_front start other k xs h (omega arith)

  pub replaced_behind : (other k : ℕ) → start + n ≤ other → take k (drop other whole) ≡ take k (drop other xs)
  replaced_behind other k h =
      ap (λ (l : ℕ). take k (drop l whole)) (split (length (take start xs ++ new)) joined_length)
      ∙ ap (λ (ys : List A). take k ys) (drop-append-add (take start xs ++ new) (drop (start + n) xs) (other - (start + n)) ∙ drop-drop (other - (start + n)) (start + n) xs)
      ∙ ap (λ (l : ℕ). take k (drop l xs)) back
    where
      split : (m : ℕ) → m ≡ start + n → other ≡ m + (other - (start + n))
      split m e = omega arith

      back : start + n + (other - (start + n)) ≡ other
      back = omega arith
