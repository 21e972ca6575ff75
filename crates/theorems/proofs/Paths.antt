-- A prefix or a vector as the path from the coordinates zs down to it, the level below zs first: it is opened or admitted if zs passes and each step of the path does. Assumes nothing.
use mathlib.Core.Path.{◌≡◌, refl, sym, ap, ◌∙◌, subst}
use Prim.Native.Nat.{ℕ, zero, suc, ◌+◌, ◌<◌}
use native.Mathlib.Nat.{zero-add, add-zero, suc-add, add-suc, not-le_of_lt, suc-ne-zero, suc_inj}
use native.Mathlib.Omega.{arith}
use mathlib.Core.Bool.{Bool, true, false, ◌&&◌, ◌||◌}
use mathlib.Core.List.{List, [], ◌∷◌, ◌++◌, append-nil}
use lib.Dec.{leb, eqb, leb→le, le→leb, eqb→eq}
use lib.ListN.{length}
use lib.IntN.{ℤ}
use lib.Ieee.{Float}
use lib.Ieee.Fits.{eq→eqb}
use Rattle.rounding.specs.Integers.{is_i64}
use Rattle.definitions.specs.Table.{Table, dimension}
use Rattle.definitions.specs.Admitted.{all_i64, is_prefix, first_test, second_test, passes, admitted, passes_first, opened}
use Rattle.definitions.proofs.Admissions.{all_i64_cons, vector_is, prefix_is, passes_cons, admitted_is, passes_first_nil, passes_first_cons, opened_is}
use Rattle.theorems.proofs.Booleans.{to_true, to_false, and_false}

-- ---- paths
-- the coordinates at the end of a path from zs down
abbrev pub extend : List ℤ → List ℤ → List ℤ
extend [] zs = zs
extend (y ∷ ys) zs = extend ys (y ∷ zs)

pub extend_length : (ys zs : List ℤ) → length (extend ys zs) ≡ length ys + length zs
extend_length [] zs = sym (zero-add (length zs))
extend_length (y ∷ ys) zs = extend_length ys (y ∷ zs) ∙ add-suc (length ys) (length zs) ∙ sym (suc-add (length ys) (length zs))

turned : (xs a b : List ℤ) → extend (extend xs a) b ≡ extend a (xs ++ b)
turned [] a b = refl
turned (x ∷ xs) a b = turned xs (x ∷ a) b

-- each list is the end of a path
pub path_to : (xs : List ℤ) → extend (extend xs []) [] ≡ xs
path_to xs = turned xs [] [] ∙ append-nil xs

same_end : (us vs a b : List ℤ) → length us ≡ length vs → extend us a ≡ extend vs b → a ≡ b
same_end [] [] a b l e = e
same_end [] (v ∷ vs) a b l e = absurd (suc-ne-zero (length vs) (sym l))
same_end (u ∷ us) [] a b l e = absurd (suc-ne-zero (length us) l)
same_end (u ∷ us) (v ∷ vs) a b l e = tail u v a b (same_end us vs (u ∷ a) (v ∷ b) (suc_inj l) e)
  where
    tail : (u v : ℤ) (a b : List ℤ) → u ∷ a ≡ v ∷ b → a ≡ b
    tail u v a b e = cc

-- two paths to the same end, from equally long lists, start from the same
pub extend_inj : (us vs a b : List ℤ) → length a ≡ length b → extend us a ≡ extend vs b → a ≡ b
extend_inj us vs a b l e = same_end us vs a b (cut (length us) (length vs) (length a) (length b) l (sym (extend_length us a) ∙ ap length e ∙ extend_length vs b)) e
  where
    cut : (i j m n : ℕ) → m ≡ n → i + m ≡ j + n → i ≡ j
    cut i j m n p q = omega arith

abbrev pub is_empty : List ℤ → Bool
is_empty [] = true
is_empty (y ∷ ys) = false

-- ---- the tests along a path
module _ (t : Table) (target : List Float) (R : Float) where
  -- an i64 that passes the first test
  abbrev pub opens : ℤ → List ℤ → Bool
  opens y zs = is_i64 y && first_test t target R y zs

  -- with so many levels left
  abbrev pub opened_path : ℕ → List ℤ → List ℤ → Bool
  opened_path d [] zs = false
  opened_path zero (y ∷ ys) zs = false
  opened_path (suc level) (y ∷ ys) zs = opens y zs && (is_empty ys || (second_test t target R y zs && opened_path level ys (y ∷ zs)))

  abbrev pub admitted_path : ℕ → List ℤ → List ℤ → Bool
  admitted_path zero [] zs = true
  admitted_path (suc level) [] zs = false
  admitted_path zero (y ∷ ys) zs = false
  admitted_path (suc level) (y ∷ ys) zs = opens y zs && (second_test t target R y zs && admitted_path level ys (y ∷ zs))

  order_last : (e a b p f : Bool) → e ≡ true → ((e && (a && b)) && (p && f)) ≡ ((b && p) && ((a && f) && true))
  order_last e a b p f q = ap (λ (x : Bool). (x && (a && b)) && (p && f)) q ∙ go a b p f
    where
      go : (a b p f : Bool) → ((true && (a && b)) && (p && f)) ≡ ((b && p) && ((a && f) && true))
      go true true true true = refl
      go true true true false = refl
      go true true false f = refl
      go true false p f = refl
      go false true true f = refl
      go false true false f = refl
      go false false p f = refl

  order_step : (a b p f s q : Bool) → (((a && b) && (p && (f && s))) && q) ≡ ((b && p) && ((a && f) && (s && q)))
  order_step true true true true s q = refl
  order_step true true true false s q = refl
  order_step true true false f s q = refl
  order_step true false p f s q = refl
  order_step false true true f s q = refl
  order_step false true false f s q = refl
  order_step false false p f s q = refl

  step_is : (y : ℤ) (zs : List ℤ) (q : Bool) → ((all_i64 (y ∷ zs) && passes t target R (y ∷ zs)) && q) ≡ ((all_i64 zs && passes t target R zs) && (opens y zs && (second_test t target R y zs && q)))
  step_is y zs q =
      ap (λ (x : Bool). (x && passes t target R (y ∷ zs)) && q) (all_i64_cons y zs)
      ∙ ap (λ (x : Bool). ((is_i64 y && all_i64 zs) && x) && q) (passes_cons t target R y zs)
      ∙ order_step (is_i64 y) (all_i64 zs) (passes t target R zs) (first_test t target R y zs) (second_test t target R y zs) q

  too_long : (y : ℤ) (ys zs : List ℤ) → length zs + 0 ≡ dimension t → dimension t < length (extend (y ∷ ys) zs)
  too_long y ys zs e = subst (λ (k : ℕ). dimension t < k) (sym (extend_length (y ∷ ys) zs)) (more (dimension t) (length ys) (length zs) e)
    where
      more : (n i j : ℕ) → j + 0 ≡ n → n < suc i + j
      more n i j e = omega arith

  -- opened is: zs passes, and the path is opened
  pub opened_path_lem : (y : ℤ) (ys : List ℤ) (d : ℕ) (zs : List ℤ) → length zs + d ≡ dimension t → opened t target R (extend (y ∷ ys) zs) ≡ ((all_i64 zs && passes t target R zs) && opened_path d (y ∷ ys) zs)
  opened_path_lem y ys zero zs e =
      opened_is t target R (extend (y ∷ ys) zs)
      ∙ ap (λ (b : Bool). b && passes_first t target R (extend (y ∷ ys) zs)) (prefix_is t (extend (y ∷ ys) zs) ∙ long)
      ∙ sym (and_false (all_i64 zs && passes t target R zs))
    where
      x : List ℤ
      x = extend (y ∷ ys) zs

      first : (a b c : Bool) → b ≡ false → ((a && b) && c) ≡ false
      first true b c q = ap (λ (v : Bool). v && c) q
      first false b c q = refl

      long : ((leb 1 (length (extend (y ∷ ys) zs)) && leb (length (extend (y ∷ ys) zs)) (dimension t)) && all_i64 (extend (y ∷ ys) zs)) ≡ false
      long = first (leb 1 (length (extend (y ∷ ys) zs))) (leb (length (extend (y ∷ ys) zs)) (dimension t)) (all_i64 (extend (y ∷ ys) zs)) (to_false (leb (length (extend (y ∷ ys) zs)) (dimension t)) (λ h. not-le_of_lt (too_long y ys zs e) (leb→le (length (extend (y ∷ ys) zs)) (dimension t) h)))
  opened_path_lem y [] (suc level) zs e =
      opened_is t target R (y ∷ zs)
      ∙ ap (λ (b : Bool). b && passes_first t target R (y ∷ zs)) (prefix_is t (y ∷ zs))
      ∙ ap (λ (b : Bool). (inside && all_i64 (y ∷ zs)) && b) (passes_first_cons t target R y zs)
      ∙ ap (λ (b : Bool). (inside && b) && (passes t target R zs && first_test t target R y zs)) (all_i64_cons y zs)
      ∙ order_last inside (is_i64 y) (all_i64 zs) (passes t target R zs) (first_test t target R y zs) fits
    where
      inside : Bool
      inside = leb 1 (suc (length zs)) && leb (suc (length zs)) (dimension t)

      both : (a b : Bool) → a ≡ true → b ≡ true → (a && b) ≡ true
      both a b p q = ap (λ (v : Bool). v && b) p ∙ q

      fits : (leb 1 (suc (length zs)) && leb (suc (length zs)) (dimension t)) ≡ true
      fits = both (leb 1 (suc (length zs))) (leb (suc (length zs)) (dimension t)) (to_true (leb 1 (suc (length zs))) (le→leb 1 (suc (length zs)) (omega arith))) (to_true (leb (suc (length zs)) (dimension t)) (le→leb (suc (length zs)) (dimension t) (omega arith)))
  opened_path_lem y (y' ∷ ys) (suc level) zs e = opened_path_lem y' ys level (y ∷ zs) (omega arith) ∙ step_is y zs (opened_path level (y' ∷ ys) (y ∷ zs))

  pub opened_empty : opened t target R [] ≡ false
  opened_empty = opened_is t target R [] ∙ ap (λ (b : Bool). is_prefix t [] && b) (passes_first_nil t target R) ∙ and_false (is_prefix t [])

  -- admitted is: zs passes, and the path is admitted
  pub admitted_path_lem : (ys : List ℤ) (d : ℕ) (zs : List ℤ) → length zs + d ≡ dimension t → admitted t target R (extend ys zs) ≡ ((all_i64 zs && passes t target R zs) && admitted_path d ys zs)
  admitted_path_lem [] zero zs e =
      admitted_is t target R zs ∙ ap (λ (b : Bool). b && passes t target R zs) (vector_is t zs)
      ∙ last (eqb (length zs) (dimension t)) (all_i64 zs) (passes t target R zs) (to_true (eqb (length zs) (dimension t)) (eq→eqb (sym (add-zero (length zs)) ∙ e)))
    where
      last : (a b c : Bool) → a ≡ true → ((a && b) && c) ≡ ((b && c) && true)
      last a b c q = ap (λ (v : Bool). (v && b) && c) q ∙ go b c
        where
          go : (b c : Bool) → ((true && b) && c) ≡ ((b && c) && true)
          go true true = refl
          go true false = refl
          go false c = refl
  admitted_path_lem [] (suc level) zs e =
      admitted_is t target R zs ∙ ap (λ (b : Bool). b && passes t target R zs) (vector_is t zs)
      ∙ ap (λ (b : Bool). (b && all_i64 zs) && passes t target R zs) (to_false (eqb (length zs) (dimension t)) (λ h. short (length zs) level (dimension t) e (eqb→eq (length zs) (dimension t) h)))
      ∙ sym (and_false (all_i64 zs && passes t target R zs))
    where
      short : (a l n : ℕ) → a + suc l ≡ n → a ≡ n → ⊥
      short a l n p q = omega arith
  admitted_path_lem (y ∷ ys) zero zs e =
      admitted_is t target R (extend (y ∷ ys) zs) ∙ ap (λ (b : Bool). b && passes t target R (extend (y ∷ ys) zs)) (vector_is t (extend (y ∷ ys) zs))
      ∙ ap (λ (b : Bool). (b && all_i64 (extend (y ∷ ys) zs)) && passes t target R (extend (y ∷ ys) zs)) (to_false (eqb (length (extend (y ∷ ys) zs)) (dimension t)) (λ h. long (length (extend (y ∷ ys) zs)) (dimension t) (too_long y ys zs e) (eqb→eq (length (extend (y ∷ ys) zs)) (dimension t) h)))
      ∙ sym (and_false (all_i64 zs && passes t target R zs))
    where
      long : (a n : ℕ) → n < a → a ≡ n → ⊥
      long a n p q = omega arith
  admitted_path_lem (y ∷ ys) (suc level) zs e = admitted_path_lem ys level (y ∷ zs) (omega arith) ∙ step_is y zs (admitted_path level ys (y ∷ zs))
