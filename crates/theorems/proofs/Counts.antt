-- Counting in lists of integers and of vectors: a list in which nothing stands more often than in another is no longer than it, so two lists that hold just the vectors of a test, each once, are equally long. Assumes nothing.
use mathlib.Core.Path.{◌≡◌, refl, sym, ap, ◌∙◌, subst}
use mathlib.Core.Logic.{◌⊎◌, inl, inr}
use Prim.Native.Nat.{ℕ, suc, ◌+◌, ◌*◌, ◌≤◌, ◌<◌, zero-le, suc-le-suc}
use native.Mathlib.Nat.{add_left_comm, le_trans, le_of_eq, le_antisymm, lt_of_lt_of_le, not-suc-le-zero, zero-add, add_assoc, zero-mul, one-mul, add-mul}
use native.Mathlib.Omega.{arith}
use mathlib.Core.Bool.{Bool, true, false, cond}
use mathlib.Core.List.{List, [], ◌∷◌, ◌++◌}
use lib.Dec.{T, eqb→eq, eqb_refl}
use lib.ListN.{length}
use lib.IntN.{ℤ, pos, negsuc}
use lib.Ieee.Fits.{and_i, and_l, and_r}
use Rattle.theorems.specs.Counting.{eq_z, same_vector, tally, count, EachOnce}
use Rattle.theorems.specs.Children.{times}
use Rattle.theorems.specs.Prefixes.{joined}
use Rattle.theorems.proofs.Booleans.{of_true, to_true, to_false, tally_true}

-- ---- equality of integers and of vectors by their tests
pub eq_z→eq : (a b : ℤ) → T (eq_z a b) → a ≡ b
eq_z→eq (pos a) (pos b) h = ap pos (eqb→eq a b h)
eq_z→eq (pos a) (negsuc b) h = absurd h
eq_z→eq (negsuc a) (pos b) h = absurd h
eq_z→eq (negsuc a) (negsuc b) h = ap negsuc (eqb→eq a b h)

pub eq_z_refl : (a : ℤ) → T (eq_z a a)
eq_z_refl (pos a) = eqb_refl a
eq_z_refl (negsuc a) = eqb_refl a

pub same_vector→eq : (xs ys : List ℤ) → T (same_vector xs ys) → xs ≡ ys
same_vector→eq [] [] h = refl
same_vector→eq [] (y ∷ ys) h = absurd h
same_vector→eq (x ∷ xs) [] h = absurd h
same_vector→eq (x ∷ xs) (y ∷ ys) h = ap (λ (z : ℤ). z ∷ xs) (eq_z→eq x y (and_l (eq_z x y) (same_vector xs ys) h)) ∙ ap (λ (zs : List ℤ). y ∷ zs) (same_vector→eq xs ys (and_r (eq_z x y) (same_vector xs ys) h))

pub same_vector_refl : (xs : List ℤ) → T (same_vector xs xs)
same_vector_refl [] = tt
same_vector_refl (x ∷ xs) = and_i (eq_z x x) (same_vector xs xs) (eq_z_refl x) (same_vector_refl xs)

-- ---- an integer at the head of a list
pub times_same : (z y : ℤ) (ys : List ℤ) → z ≡ y → times z (y ∷ ys) ≡ suc (times z ys)
times_same z y ys e = ap (λ (b : Bool). tally b + times z ys) (to_true (eq_z z y) (subst (λ (x : ℤ). T (eq_z z x)) e (eq_z_refl z))) ∙ one (times z ys)
  where
    one : (n : ℕ) → 1 + n ≡ suc n
    one n = omega arith

pub times_other : (z y : ℤ) (ys : List ℤ) → (z ≡ y → ⊥) → times z (y ∷ ys) ≡ times z ys
times_other z y ys n = ap (λ (b : Bool). tally b + times z ys) (to_false (eq_z z y) (λ h. n (eq_z→eq z y h))) ∙ zero-add (times z ys)

-- ---- a vector at the head of a list, in two lists together, in none
pub count_other : (x y : List ℤ) (ys : List (List ℤ)) → (x ≡ y → ⊥) → count x (y ∷ ys) ≡ count x ys
count_other x y ys n = ap (λ (b : Bool). tally b + count x ys) (to_false (same_vector x y) (λ h. n (same_vector→eq x y h))) ∙ zero-add (count x ys)

pub count_same : (x y : List ℤ) (ys : List (List ℤ)) → x ≡ y → count x (y ∷ ys) ≡ suc (count x ys)
count_same x y ys e = ap (λ (k : ℕ). k + count x ys) (tally_true (same_vector x y) (subst (λ (z : List ℤ). T (same_vector x z)) e (same_vector_refl x))) ∙ one (count x ys)
  where
    one : (n : ℕ) → 1 + n ≡ suc n
    one n = omega arith

pub count_head : (y : List ℤ) (ys : List (List ℤ)) → 0 < count y (y ∷ ys)
count_head y ys = subst (λ (k : ℕ). 0 < k + count y ys) (sym (tally_true (same_vector y y) (same_vector_refl y))) (omega arith)

-- what stands in a list is its head or stands in the rest
pub count_cases : (x y : List ℤ) (ys : List (List ℤ)) → 0 < count x (y ∷ ys) → (x ≡ y) ⊎ (0 < count x ys)
count_cases x y ys = go (same_vector x y) refl
  where
    go : (b : Bool) → same_vector x y ≡ b → 0 < tally b + count x ys → (x ≡ y) ⊎ (0 < count x ys)
    go true e h = inl (same_vector→eq x y (of_true e))
    go false e h = inr (lt_of_lt_of_le h (le_of_eq (zero-add (count x ys))))

pub count_append : (x : List ℤ) (a b : List (List ℤ)) → count x (a ++ b) ≡ count x a + count x b
count_append x [] b = sym (zero-add (count x b))
count_append x (y ∷ a) b = ap (λ (k : ℕ). tally (same_vector x y) + k) (count_append x a b) ∙ sym (add_assoc (tally (same_vector x y)) (count x a) (count x b))

-- every member of the list has the property
abbrev pub Each : (List ℤ → Type 0) → List (List ℤ) → Type 0
Each P [] = Unit {0}
Each P (y ∷ ys) = P y × Each P ys

pub each_append : (P : List ℤ → Type 0) (a b : List (List ℤ)) → Each P a → Each P b → Each P (a ++ b)
each_append P [] b p q = q
each_append P (y ∷ a) b p q = (p.0, each_append P a b p.1 q)

pub count_none : (P : List ℤ → Type 0) (x : List ℤ) (ys : List (List ℤ)) → Each P ys → (P x → ⊥) → count x ys ≡ 0
count_none P x [] e n = refl
count_none P x (y ∷ ys) e n = count_other x y ys (λ q. n (subst P (sym q) e.0)) ∙ count_none P x ys e.1 n

-- ---- a list of lists, one for each integer, end to end
pub each_joined : (P : List ℤ → Type 0) (f : ℤ → List (List ℤ)) → ((z : ℤ) → Each P (f z)) → (zs : List ℤ) → Each P (joined f zs)
each_joined P f h [] = tt
each_joined P f h (z ∷ zs) = each_append P (f z) (joined f zs) (h z) (each_joined P f h zs)

-- x stands only in the list of y: it is counted as often as y stands there
pub count_joined : (x : List ℤ) (y : ℤ) (f : ℤ → List (List ℤ)) (zs : List ℤ) → ((z : ℤ) → (y ≡ z → ⊥) → count x (f z) ≡ 0) → count x (joined f zs) ≡ times y zs * count x (f y)
count_joined x y f [] h = sym (zero-mul (count x (f y)))
count_joined x y f (z ∷ zs) h = count_append x (f z) (joined f zs) ∙ ap (λ (k : ℕ). count x (f z) + k) (count_joined x y f zs h) ∙ go (eq_z y z) refl
  where
    go : (b : Bool) → eq_z y z ≡ b → count x (f z) + times y zs * count x (f y) ≡ (tally (eq_z y z) + times y zs) * count x (f y)
    go true e =
        let q : y ≡ z = eq_z→eq y z (of_true e) in
        ap (λ (v : ℤ). count x (f v) + times y zs * count x (f y)) (sym q)
        ∙ ap (λ (k : ℕ). k + times y zs * count x (f y)) (sym (one-mul (count x (f y))))
        ∙ sym (ap (λ (b : Bool). (tally b + times y zs) * count x (f y)) e ∙ add-mul 1 (times y zs) (count x (f y)))
    go false e =
        ap (λ (k : ℕ). k + times y zs * count x (f y)) (h z (λ q. subst T e (subst (λ (v : ℤ). T (eq_z y v)) q (eq_z_refl y))))
        ∙ zero-add (times y zs * count x (f y))
        ∙ sym (ap (λ (b : Bool). (tally b + times y zs) * count x (f y)) e ∙ ap (λ (k : ℕ). k * count x (f y)) (zero-add (times y zs)))

-- ---- no longer than a list that holds as much
remove : List ℤ → List (List ℤ) → List (List ℤ)
remove x [] = []
remove x (y ∷ ys) = cond (same_vector x y) ys (y ∷ remove x ys)

remove_length : (x : List ℤ) (l : List (List ℤ)) → 0 < count x l → length l ≡ suc (length (remove x l))
unfolding remove
remove_length x [] h = absurd (not-suc-le-zero h)
remove_length x (y ∷ ys) h = go (same_vector x y) h (remove_length x ys)
  where
    go : (b : Bool) → 0 < tally b + count x ys → (0 < count x ys → length ys ≡ suc (length (remove x ys))) → suc (length ys) ≡ suc (length (cond b ys (y ∷ remove x ys)))
    go true h k = refl
    go false h k = ap suc (k (lt_of_lt_of_le h (le_of_eq (zero-add (count x ys)))))

remove_count : (x y : List ℤ) (l : List (List ℤ)) → 0 < count x l → count y l ≡ tally (same_vector y x) + count y (remove x l)
unfolding remove
remove_count x y [] h = absurd (not-suc-le-zero h)
remove_count x y (q ∷ qs) h = go (same_vector x q) refl h (remove_count x y qs)
  where
    go : (b : Bool) → same_vector x q ≡ b → 0 < tally b + count x qs → (0 < count x qs → count y qs ≡ tally (same_vector y x) + count y (remove x qs)) → tally (same_vector y q) + count y qs ≡ tally (same_vector y x) + count y (cond b qs (q ∷ remove x qs))
    go true e h k = ap (λ (z : List ℤ). tally (same_vector y z) + count y qs) (sym (same_vector→eq x q (of_true e)))
    go false e h k = ap (λ (n : ℕ). tally (same_vector y q) + n) (k (lt_of_lt_of_le h (le_of_eq (zero-add (count x qs))))) ∙ add_left_comm (tally (same_vector y q)) (tally (same_vector y x)) (count y (remove x qs))

pub no_longer : (a b : List (List ℤ)) → ((x : List ℤ) → count x a ≤ count x b) → length a ≤ length b
no_longer [] b h = zero-le
no_longer (y ∷ a) b h =
    let here : 0 < count y b = lt_of_lt_of_le (count_head y a) (h y) in
    le_trans (suc-le-suc (no_longer a (remove y b) (λ x. cut (tally (same_vector x y)) (count x a) (count x (remove y b)) (le_trans (h x) (le_of_eq (remove_count y x b here)))))) (le_of_eq (sym (remove_length y b here)))
  where
    cut : (i j k : ℕ) → i + j ≤ i + k → j ≤ k
    cut i j k h = omega arith

-- any two lists that hold just the vectors of a test, each once, are equally long
pub same_length : (test : List ℤ → Bool) (a b : List (List ℤ)) → EachOnce test a → EachOnce test b → length a ≡ length b
same_length test a b p q = le_antisymm (no_longer a b (λ x. le_of_eq (p x ∙ sym (q x)))) (no_longer b a (λ x. le_of_eq (q x ∙ sym (p x))))
