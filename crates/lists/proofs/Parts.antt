-- Lists that are written part by part and place by place, as a lent slice is. Assumes nothing.
use mathlib.Core.Path.{◌≡◌, sym, ap, ◌∙◌}
use mathlib.Core.List.{List, [], ◌∷◌, ◌++◌, append_assoc, append-nil}
use Prim.Native.Nat.{ℕ, suc, ◌+◌, ◌-◌, ◌≤◌, ◌<◌}
use native.Mathlib.Nat.{le_of_eq}
use native.Mathlib.Numerals.{add-one}
use native.Mathlib.Omega.{arith}
use lib.ListN.{length, get_or, take, drop, set, replicate, length-append, length-drop, length-replicate, drop_of_length-le, replicate-append-replicate}
use lib.Seq.{take-add, take_all, take-append-add, drop-append-add, set_split, take_at, drop_at, drop-drop, drop-cons, set_at, append_snoc, take-length, length-take-le}
use borrow.Rule.Slice.PartMut.{mid_of, put_mid}

module _ {A : Type 0} where
  pub drop_zeros : (z : A) (n k : ℕ) → k ≤ n → drop k (replicate n z) ≡ replicate (n - k) z
  drop_zeros z n k h =
      ap (λ (m : ℕ). drop k (replicate m z)) (whole n k h)
      ∙ ap (drop k) (sym (replicate-append-replicate k (n - k) z))
      ∙ drop_at (replicate k z) (replicate (n - k) z) k (length-replicate k z)
    where
      whole : (n k : ℕ) → k ≤ n → n ≡ k + (n - k)
      whole n k h = omega arith

  -- a copy over zeros, lent as `&mut to[..n]`
  pub padded_copy : (z : A) (n : ℕ) (xs old new : List A) → old ≡ replicate n z → length xs ≤ n → new ≡ take (length (take (length xs) old)) xs → new ++ drop (length xs) old ≡ xs ++ replicate (n - length xs) z
  padded_copy z n xs old new zeros h copied =
      ap (λ (l : List A). l ++ drop (length xs) old) (copied ∙ ap (λ (k : ℕ). take k xs) (length-take-le (length xs) old (omega (arith, ap length zeros, length-replicate n z))) ∙ take-length xs)
      ∙ ap (λ (l : List A). xs ++ drop (length xs) l) zeros
      ∙ ap (λ (l : List A). xs ++ l) (drop_zeros z n (length xs) h)

  -- a list that is written part by part: after the parts so far, the rest is as it was
  pub part_written : (done old new : List A) (a k : ℕ) → length done ≡ a → put_mid a k (done ++ drop a old) new ≡ done ++ new ++ drop (a + k) old
  part_written done old new a k e =
      ap (λ (l : List A). l ++ (new ++ drop k (drop a (done ++ drop a old)))) (take_at done (drop a old) a e)
      ∙ ap (λ (l : List A). done ++ (new ++ drop k l)) (drop_at done (drop a old) a e)
      ∙ ap (λ (l : List A). done ++ (new ++ l)) (drop-drop k a old)
      ∙ sym (append_assoc done new (drop (a + k) old))

  -- one place more
  pub place_written : (done old : List A) (x : A) (a : ℕ) → length done ≡ a → a < length old → set (done ++ drop a old) a x ≡ done ++ x ∷ [] ++ drop (a + 1) old
  place_written done old x a e h =
      ap (λ (l : List A). set (done ++ l) a x) (drop-cons old a x h)
      ∙ set_at done (get_or old a x) (drop (suc a) old) x a e
      ∙ sym (append_snoc done x (drop (suc a) old))
      ∙ ap (λ (k : ℕ). done ++ x ∷ [] ++ drop k old) (sym (add-one a))

  -- so many places behind the parts so far
  pub part_size : (done old ys : List A) (a k : ℕ) → ys ≡ done ++ drop a old → length done ≡ a → a + k ≤ length old → length (mid_of a k ys) ≡ k
  part_size done old ys a k is e h =
      ap (λ (l : List A). length (take k (drop a l))) is
      ∙ ap (λ (l : List A). length (take k l)) (drop_at done (drop a old) a e)
      ∙ length-take-le k (drop a old) (omega (arith, length-drop a old))

  -- a part with zeros behind
  pub part_padded : (z : A) (done old ys xs new : List A) (a k : ℕ) → ys ≡ done ++ drop a old → length done ≡ a → a + k ≤ length old → new ≡ xs ++ replicate (length (mid_of a k ys) - length xs) z → put_mid a k ys new ≡ done ++ (xs ++ replicate (k - length xs) z) ++ drop (a + k) old
  part_padded z done old ys xs new a k is e h new_is =
      ap (λ (l : List A). put_mid a k l new) is
      ∙ ap (put_mid a k (done ++ drop a old)) (new_is ∙ ap (λ (m : ℕ). xs ++ replicate (m - length xs) z) (part_size done old ys a k is e h))
      ∙ part_written done old (xs ++ replicate (k - length xs) z) a k e

  -- a place of the second of two lists
  pub set_right : (xs ys : List A) (at i : ℕ) (x : A) → length xs ≡ at → i < length ys → set (xs ++ ys) (at + i) x ≡ xs ++ set ys i x
  set_right xs ys at i x e h =
      let inside : at + i < length (xs ++ ys) = omega (arith, length-append xs ys) in
      set_split (xs ++ ys) (at + i) x inside
      ∙ ap (λ (k : ℕ). take (k + i) (xs ++ ys) ++ x ∷ drop (suc (at + i)) (xs ++ ys)) (sym e)
      ∙ ap (λ (l : List A). l ++ x ∷ drop (suc (at + i)) (xs ++ ys)) (take-append-add xs ys i)
      ∙ ap (λ (k : ℕ). xs ++ take i ys ++ x ∷ drop k (xs ++ ys)) (behind (length xs) e)
      ∙ ap (λ (l : List A). xs ++ take i ys ++ x ∷ l) (drop-append-add xs ys (suc i))
      ∙ append_assoc xs (take i ys) (x ∷ drop (suc i) ys)
      ∙ ap (λ (l : List A). xs ++ l) (sym (set_split ys i x h))
    where
      behind : (k : ℕ) → k ≡ at → suc (at + i) ≡ k + suc i
      behind k e = omega arith

  -- one place more of a list that has fillers behind
  pub padded_more : (z : A) (n : ℕ) (xs : List A) (i : ℕ) (x : A) → length xs ≡ i → i < n → set (xs ++ replicate (n - length xs) z) i x ≡ (xs ++ x ∷ []) ++ replicate (n - length (xs ++ x ∷ [])) z
  padded_more z n xs i x e h =
      ap (λ (k : ℕ). set (xs ++ replicate k z) i x) (fewer (length xs) (length (xs ++ x ∷ [])) e (length-append xs (x ∷ [])))
      ∙ set_at xs z (replicate (n - length (xs ++ x ∷ [])) z) x i e
      ∙ sym (append_snoc xs x (replicate (n - length (xs ++ x ∷ [])) z))
    where
      fewer : (k m : ℕ) → k ≡ i → m ≡ k + 1 → n - k ≡ suc (n - m)
      fewer k m p q = omega arith

module _ {A : Type 0} (z : A) where
  -- fillers in two parts
  pub zeros_split : (xs : List A) (a b : ℕ) → xs ++ replicate (a + b) z ≡ xs ++ replicate a z ++ replicate b z
  zeros_split xs a b = ap (λ (l : List A). xs ++ l) (sym (replicate-append-replicate a b z)) ∙ sym (append_assoc xs (replicate a z) (replicate b z))

  -- all places from `at` on cleared, lent as `&mut old[at..]`
  pub tail_cleared : (old new : List A) (at k n : ℕ) → at + n ≡ length old → k ≡ length old - at → new ≡ replicate (length (mid_of at k old)) z → put_mid at k old new ≡ take at old ++ replicate n z
  tail_cleared old new at k n e f cleared =
      ap (λ (l : List A). take at old ++ (l ++ drop k (drop at old))) (cleared ∙ ap (λ (m : ℕ). replicate m z) size)
      ∙ ap (λ (l : List A). take at old ++ (replicate n z ++ l)) (drop_of_length-le (drop at old) {i = k} (omega (arith, length-drop at old)))
      ∙ ap (λ (l : List A). take at old ++ l) (append-nil (replicate n z))
    where
      size : length (mid_of at k old) ≡ n
      size = length-take-le k (drop at old) (omega (arith, length-drop at old)) ∙ omega (arith, e, f)

-- the places from low to end, copied over zeros, lent as `&from[low..end]` and `&mut to[low..end]`
module _ {A : Type 0} (z : A) (m low end : ℕ) (from cleared new : List A) (zeros : cleared ≡ replicate m z) (order : low ≤ end) (long : end ≤ length from) (room : end ≤ m) where
  abbrev source : List A
  source = drop low (take end from)

  whole : low + (end - low) ≡ end
  whole = omega arith

  source_is : mid_of low (end - low) from ≡ source
  source_is =
      sym (drop_at (take low from) (take (end - low) (drop low from)) low (length-take-le low from (omega arith)))
      ∙ ap (drop low) (sym (take-add low (end - low) from) ∙ ap (λ (k : ℕ). take k from) whole)

  source_length : length source ≡ end - low
  source_length = length-drop low (take end from) ∙ ap (λ (k : ℕ). k - low) (length-take-le end from long)

  cleared_length : length cleared ≡ m
  cleared_length = ap length zeros ∙ length-replicate m z

  pub lent_size : length (mid_of low (end - low) cleared) ≡ end - low
  lent_size = length-take-le (end - low) (drop low cleared) (omega (arith, length-drop low cleared, cleared_length))

  pub source_size : length (mid_of low (end - low) from) ≡ end - low
  source_size = ap length source_is ∙ source_length

  take_zeros : take low (replicate m z) ≡ replicate low z
  take_zeros =
      ap (λ (k : ℕ). take low (replicate k z)) (split m order room)
      ∙ ap (take low) (sym (replicate-append-replicate low (m - low) z))
      ∙ take_at (replicate low z) (replicate (m - low) z) low (length-replicate low z)
    where
      split : (m : ℕ) → low ≤ end → end ≤ m → m ≡ low + (m - low)
      split m p q = omega arith

  middle_length : length (replicate low z ++ source) ≡ end
  middle_length = length-append (replicate low z) source ∙ omega (arith, length-replicate low z, source_length)

  pub places_copied : new ≡ take (length (mid_of low (end - low) cleared)) (mid_of low (end - low) from) → put_mid low (end - low) cleared new ≡ (replicate low z ++ source) ++ replicate (m - length (replicate low z ++ source)) z
  places_copied copied =
      ap (λ (l : List A). put_mid low (end - low) l new) zeros
      ∙ ap (λ (l : List A). l ++ (new ++ drop (end - low) (drop low (replicate m z)))) take_zeros
      ∙ ap (λ (l : List A). replicate low z ++ (l ++ drop (end - low) (drop low (replicate m z)))) new_is
      ∙ ap (λ (l : List A). replicate low z ++ (source ++ l)) (drop-drop (end - low) low (replicate m z) ∙ ap (λ (k : ℕ). drop k (replicate m z)) whole ∙ drop_zeros z m end room)
      ∙ sym (append_assoc (replicate low z) source (replicate (m - end) z))
      ∙ ap (λ (k : ℕ). replicate low z ++ source ++ replicate (m - k) z) (sym middle_length)
    where
      new_is : new ≡ source
      new_is =
          copied
          ∙ ap (λ (k : ℕ). take k (mid_of low (end - low) from)) lent_size
          ∙ ap (take (end - low)) source_is
          ∙ take_all (end - low) source (le_of_eq source_length)
