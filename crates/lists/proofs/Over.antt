-- Lists written into a list, one after the other. Assumes nothing.
use mathlib.Core.Path.{◌≡◌, ap, sym, ◌∙◌}
use mathlib.Core.List.{List, [], ◌++◌, append_assoc}
use Prim.Native.Nat.{ℕ, ◌+◌, ◌≤◌}
use native.Mathlib.Nat.{add_assoc}
use native.Mathlib.Omega.{arith}
use lib.ListN.{length, take, drop, length-append, length-drop}
use lib.Seq.{length-take-le, take-length, take_at, drop_at, drop-drop, paste, paste-zero}
use Rattle.lists.specs.Over.{over}

module _ {A : Type 0} (old : List A) (at : ℕ) where
  pub over_none : over old at [] ≡ old
  over_none = sym (paste-zero old at [])

  -- a copy of the whole list
  pub over_paste : (new : List A) → paste old at new (length new) ≡ over old at new
  over_paste new = ap (λ (l : List A). take at old ++ l ++ drop (at + length new) old) (take-length new)

  -- a copy of its first k elements
  pub over_first : (new : List A) (k : ℕ) → k ≤ length new → paste old at new k ≡ over old at (take k new)
  over_first new k h = ap (λ (j : ℕ). take at old ++ take k new ++ drop (at + j) old) (sym (length-take-le k new h))

module _ {A : Type 0} (old : List A) (at : ℕ) (new : List A) (h : at ≤ length old) where
  -- what is written ends where its length says
  ends : length (take at old ++ new) ≡ at + length new
  ends = length-append (take at old) new ∙ ap (λ (k : ℕ). k + length new) (length-take-le at old h)

  pub take_over : take (at + length new) (over old at new) ≡ take at old ++ new
  take_over = take_at (take at old ++ new) (drop (at + length new) old) (at + length new) ends

  pub drop_over : (k : ℕ) → drop (at + length new + k) (over old at new) ≡ drop (at + length new + k) old
  drop_over k =
      sym (drop-drop k (at + length new) (over old at new))
      ∙ ap (drop k) (drop_at (take at old ++ new) (drop (at + length new) old) (at + length new) ends)
      ∙ drop-drop k (at + length new) old

module _ {A : Type 0} (old : List A) (at : ℕ) where
  pub over_length : (new : List A) → at + length new ≤ length old → length (over old at new) ≡ length old
  over_length new h =
      let l = length-append (take at old ++ new) (drop (at + length new) old) in
      let k = ends old at new (omega arith) in
      let d = length-drop (at + length new) old in
      omega arith

  -- a list after a list is one list
  pub over_over : (a b : List A) → at ≤ length old → over (over old at a) (at + length a) b ≡ over old at (a ++ b)
  over_over a b h =
      ap (λ (l : List A). l ++ b ++ drop (at + length a + length b) (over old at a)) (take_over old at a h)
      ∙ ap (λ (l : List A). take at old ++ a ++ b ++ l) (drop_over old at a h (length b))
      ∙ ap (λ (l : List A). l ++ drop (at + length a + length b) old) (append_assoc (take at old) a b)
      ∙ ap (λ (k : ℕ). take at old ++ (a ++ b) ++ drop k old) (add_assoc at (length a) (length b) ∙ ap (λ (k : ℕ). at + k) (sym (length-append a b)))
