-- Writing over the first places of a list: one more, or a run of them more. Assumes nothing.
use mathlib.Core.Path.{◌≡◌, ap, sym, ◌∙◌}
use mathlib.Core.List.{List, [], ◌∷◌, ◌++◌}
use Prim.Native.Nat.{ℕ, suc, ◌+◌, ◌-◌, ◌≤◌, ◌<◌}
use native.Mathlib.Nat.{le_of_eq}
use native.Mathlib.Omega.{arith}
use lib.ListN.{length, get_or, set, take, drop, length-append, length-take, length-drop}
use lib.Seq.{take_all, append_snoc, drop-cons, set_at, take_at, drop-append-add, drop-drop, length-take-le}
use borrow.Rule.Slice.PartMut.{mid_of, put_mid}
use Rattle.lists.specs.Over.{over}
use Rattle.lists.proofs.Over.{over_length}
use Rattle.lists.proofs.Copies.{copied_part}
use Rattle.definitions.specs.Calls.{written}

module _ {A : Type 0} where
  -- one element more
  pub written_more : (xs old : List A) (i : ℕ) (y : A) → length xs ≡ i → i < length old → set (written xs old) i y ≡ written (xs ++ y ∷ []) old
  written_more xs old i y e h =
      let count : suc (length xs) ≡ length (xs ++ y ∷ []) = omega (arith, length-append xs (y ∷ [])) in
      ap (λ (l : List A). set (xs ++ l) i y) (drop-cons old (length xs) y (omega arith))
      ∙ set_at xs (get_or old (length xs) y) (drop (suc (length xs)) old) y i e
      ∙ sym (append_snoc xs y (drop (suc (length xs)) old))
      ∙ ap (λ (k : ℕ). xs ++ y ∷ [] ++ drop k old) count

  -- a run of elements more
  pub written_run : (xs ys old : List A) (at : ℕ) → length xs ≡ at → over (written xs old) at ys ≡ written (xs ++ ys) old
  written_run xs ys old at e =
      let whole = xs ++ drop (length xs) old in
      let count : length xs + length ys ≡ length (xs ++ ys) = omega (arith, length-append xs ys) in
      ap (λ (l : List A). l ++ ys ++ drop (at + length ys) whole) (take_at xs (drop (length xs) old) at e)
      ∙ ap (λ (k : ℕ). xs ++ ys ++ drop (k + length ys) whole) (sym e)
      ∙ ap (λ (l : List A). xs ++ ys ++ l) (drop-append-add xs (drop (length xs) old) (length ys) ∙ drop-drop (length ys) (length xs) old)
      ∙ ap (λ (k : ℕ). xs ++ ys ++ drop k old) count

-- n elements of src from `from` on, copied to the places of old from at on
module _ {A : Type 0} (old src : List A) (at from n : ℕ) (new : List A) (room : at + n ≤ length old) (inside : from + n ≤ length src) where
  abbrev part : List A
  part = mid_of from (from + n - from) src

  part_take : take n part ≡ take n (drop from src)
  part_take =
      let size : from + n - from ≡ n = omega arith in
      ap (λ (k : ℕ). take n (take k (drop from src))) size
      ∙ take_all n (take n (drop from src)) (le_of_eq (length-take-le n (drop from src) (simp length-drop (omega arith))))

  part_length : n ≤ length part
  part_length = simp (length-take, length-drop) (omega arith)

  pub row_copied : new ≡ part → (put_mid at (at + n - at) old new ≡ over old at (take n (drop from src))) × (length (over old at (take n (drop from src))) ≡ length old)
  row_copied copied =
      let whole : part ≡ take (length (mid_of at (at + n - at) old)) part = sym (take_all _ part (simp (length-take, length-drop) (omega arith))) in (
        copied_part old part at n new room part_length (copied ∙ whole) ∙ ap (over old at) part_take,
        over_length old at (take n (drop from src)) (simp (length-take, length-drop) (omega arith)),
      )
