-- The places of an array from a level up, as they are read and set. Assumes nothing.
use mathlib.Core.Path.{◌≡◌, ap, sym, ◌∙◌}
use mathlib.Core.List.{List, [], ◌∷◌}
use Prim.Native.Nat.{ℕ, suc, ◌+◌, ◌<◌, ◌≤◌}
use native.Mathlib.Omega.{arith}
use native.Mathlib.Numerals.{add-one}
use lib.ListN.{length, get_or, set, take, drop, length-set, drop_of_length-le}
use lib.Seq.{drop-cons, get_or-take, take-set-lt, drop-set-lt, get_or-set_same, drop-drop, length-take-le}
use Rattle.lists.specs.Places.{places}

module _ {A : Type 0} (n : ℕ) (xs : List A) (fits : n ≤ length xs) where
  -- a level's own place, and those above it
  pub places_cons : (d : ℕ) (a : A) → d < n → places n d xs ≡ get_or xs d a ∷ places n (d + 1) xs
  places_cons d a h =
      let i : d < length (take n xs) = omega (arith, length-take-le n xs fits) in
      drop-cons (take n xs) d a i
      ∙ ap (λ (x : A). x ∷ drop (suc d) (take n xs)) (get_or-take n xs d a h)
      ∙ ap (λ (k : ℕ). get_or xs d a ∷ drop k (take n xs)) (sym (add-one d))

  pub places_none : (d : ℕ) → n ≤ d → places n d xs ≡ []
  places_none d h = let i : length (take n xs) ≤ d = omega (arith, length-take-le n xs fits) in drop_of_length-le (take n xs) {i = d} i

  -- a level's place set
  pub places_set : (d : ℕ) (a : A) → d < n → places n d (set xs d a) ≡ a ∷ places n (d + 1) xs
  places_set d a h =
      let i : d < length (take n xs) = omega (arith, length-take-le n xs fits) in
      let j : d < length (set (take n xs) d a) = omega (arith, length-set (take n xs) d a) in
      ap (λ (l : List A). drop d l) (take-set-lt n xs d a h)
      ∙ drop-cons (set (take n xs) d a) d a j
      ∙ ap (λ (x : A). x ∷ drop (suc d) (set (take n xs) d a)) (get_or-set_same (take n xs) d a a i)
      ∙ ap (λ (l : List A). a ∷ l) (drop-set-lt (suc d) (take n xs) d a (omega arith))
      ∙ ap (λ (k : ℕ). a ∷ drop k (take n xs)) (sym (add-one d))

  -- the places above it stay
  pub places_kept : (d : ℕ) (a : A) → d < n → places n (d + 1) (set xs d a) ≡ places n (d + 1) xs
  places_kept d a h = ap (λ (l : List A). drop (d + 1) l) (take-set-lt n xs d a h) ∙ drop-set-lt (d + 1) (take n xs) d a (omega arith)

-- lists that agree from a level up agree from the next
pub places_next : {A : Type 0} (n d : ℕ) (xs ys : List A) → places n d xs ≡ places n d ys → places n (d + 1) xs ≡ places n (d + 1) ys
places_next {A} n d xs ys e = sym (drop-drop 1 d (take n xs)) ∙ ap (λ (l : List A). drop 1 l) e ∙ drop-drop 1 d (take n ys)

-- the places above one that is set stay
pub places_other : {A : Type 0} (n : ℕ) (xs : List A) (l d : ℕ) (a : A) → l < n → l < d → places n d (set xs l a) ≡ places n d xs
places_other {A} n xs l d a h g = ap (λ (l : List A). drop d l) (take-set-lt n xs l a h) ∙ drop-set-lt d (take n xs) l a g
