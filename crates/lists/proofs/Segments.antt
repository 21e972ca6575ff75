-- Reading a list that is put together of parts of known lengths. Assumes nothing.
use mathlib.Core.Path.{◌≡◌, refl, sym, ap, ◌∙◌}
use mathlib.Core.List.{List, [], ◌∷◌, ◌++◌, map}
use Prim.Native.Nat.{ℕ, zero, suc, ◌+◌, ◌-◌, ◌≤◌, ◌<◌}
use native.Mathlib.Numerals.{add-one}
use native.Mathlib.Omega.{arith}
use native.Mathlib.Nat.{not-suc-le-zero, le_of_suc-le-suc}
use lib.ListN.{length, get_or, take, drop, replicate, length-append, length-drop, length-replicate, take-append-drop, length-map}
use lib.Seq.{take-suc, take-append-le, drop-append-le, drop_at, get_or-append-add, length-take-le}

module _ {A : Type 0} where
  -- so many places of the first of two lists
  pub part_left : (start k : ℕ) (xs ys : List A) → start + k ≤ length xs → take k (drop start (xs ++ ys)) ≡ take k (drop start xs)
  part_left start k xs ys h =
      ap (λ (l : List A). take k l) (drop-append-le start xs ys (omega arith))
      ∙ take-append-le k (drop start xs) ys (omega (arith, length-drop start xs))

  -- so many places within the first m
  pub part_front : (m start k : ℕ) (xs : List A) → start + k ≤ m → m ≤ length xs → take k (drop start (take m xs)) ≡ take k (drop start xs)
  part_front m start k xs h l =
      sym (part_left start k (take m xs) (drop m xs) (omega (arith, length-take-le m xs l)))
      ∙ ap (λ (ys : List A). take k (drop start ys)) (take-append-drop m xs)

  -- of the second
  pub part_right : (start k : ℕ) (xs ys : List A) → length xs ≡ start → take k (drop start (xs ++ ys)) ≡ take k ys
  part_right start k xs ys e = ap (λ (l : List A). take k l) (drop_at xs ys start e)

  -- a place of the second
  pub get_d_right : (start i : ℕ) (xs ys : List A) (d : A) → length xs ≡ start → get_or (xs ++ ys) (start + i) d ≡ get_or ys i d
  get_d_right start i xs ys d e = ap (λ (k : ℕ). get_or (xs ++ ys) (k + i) d) (sym e) ∙ get_or-append-add xs ys i d

  -- a list with a filler behind, n places in all
  pub length_padded : (a : A) (n : ℕ) (xs : List A) → length xs ≤ n → length (xs ++ replicate (n - length xs) a) ≡ n
  length_padded a n xs h = length-append xs (replicate (n - length xs) a) ∙ ap (λ (k : ℕ). length xs + k) (length-replicate (n - length xs) a) ∙ whole (length xs) h
    where
      whole : (k : ℕ) → k ≤ n → k + (n - k) ≡ n
      whole k h = omega arith

-- a place of a list that is mapped
pub get_d_mapped : {A B : Type 0} (f : A → B) (xs : List A) (i : ℕ) (a : A) (b : B) → i < length xs → get_or (map f xs) i b ≡ f (get_or xs i a)
get_d_mapped f [] i a b h = absurd (not-suc-le-zero h)
get_d_mapped f (x ∷ xs) zero a b h = refl
get_d_mapped f (x ∷ xs) (suc i) a b h = get_d_mapped f xs i a b (le_of_suc-le-suc h)

module _ {A B : Type 0} (f : A → B) where
  map_snoc : (xs : List A) (x : A) → map f (xs ++ x ∷ []) ≡ map f xs ++ f x ∷ []
  map_snoc [] x = refl
  map_snoc (y ∷ xs) x = ap (λ (l : List B). f y ∷ l) (map_snoc xs x)

  -- the images of one element more
  pub mapped_more : (xs : List A) (i : ℕ) (d : A) → i < length xs → map f (take (i + 1) xs) ≡ map f (take i xs) ++ f (get_or xs i d) ∷ []
  mapped_more xs i d h = ap (λ (k : ℕ). map f (take k xs)) (add-one i) ∙ ap (map f) (take-suc xs i d h) ∙ map_snoc (take i xs) (get_or xs i d)

  pub mapped_length : (xs : List A) (i : ℕ) → i ≤ length xs → length (map f (take i xs)) ≡ i
  mapped_length xs i h = length-map (take i xs) f ∙ length-take-le i xs h

pub map_map : {A B C : Type 0} (g : B → C) (f : A → B) (xs : List A) → map g (map f xs) ≡ map (λ (x : A). g (f x)) xs
map_map g f [] = refl
map_map {A} {B} {C} g f (x ∷ xs) = ap (λ (l : List C). g (f x) ∷ l) (map_map g f xs)

-- so many places of a list of one element
pub take_same : {A : Type 0} (n k : ℕ) (a : A) → k ≤ n → take k (replicate n a) ≡ replicate k a
take_same n zero a h = refl
take_same zero (suc k) a h = absurd (not-suc-le-zero h)
take_same {A} (suc n) (suc k) a h = ap (λ (xs : List A). a ∷ xs) (take_same n k a (le_of_suc-le-suc h))

pub part_same : {A : Type 0} (n start k : ℕ) (a : A) → start + k ≤ n → take k (drop start (replicate n a)) ≡ replicate k a
part_same n zero k a h = take_same n k a (omega arith)
part_same zero (suc start) k a h = absurd (omega arith)
part_same (suc n) (suc start) k a h = part_same n start k a (omega arith)
