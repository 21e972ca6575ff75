-- Vectors, prefixes, the two tests, admitted and opened, a clause each, as equations: proofs above rewrite with these and open no definition. Assumes nothing.
use mathlib.Core.Path.{◌≡◌, refl, sym, subst}
use mathlib.Core.Bool.{true, false, ◌&&◌}
use mathlib.Core.List.{List, [], ◌∷◌}
use lib.Dec.{T, leb, eqb, eqb→eq}
use Prim.Native.Nat.{ℕ, zero, suc, ◌<◌}
use native.Mathlib.Omega.{arith}
use lib.ListN.{length, get_or, set, replicate}
use lib.IntN.{ℤ, pos}
use lib.Ieee.{Float, binary64, sub, le}
use lib.Ieee.Fits.{and_i, and_l, and_r, eq→eqb}
use Rattle.rounding.specs.Integers.{is_i64}
use Rattle.definitions.specs.Table.{Table, dimension}
use Rattle.definitions.specs.Distance.{level_term, partial}
use Rattle.definitions.specs.Admitted.{all_i64, is_vector, is_prefix, first_test, second_test, passes, admitted, passes_first, opened}

pub all_i64_nil : T (all_i64 [])
unfolding all_i64
all_i64_nil = tt

pub all_i64_cons : (z : ℤ) (zs : List ℤ) → all_i64 (z ∷ zs) ≡ (is_i64 z && all_i64 zs)
unfolding all_i64
all_i64_cons z zs = refl

pub all_i64_intro : (z : ℤ) (zs : List ℤ) → T (is_i64 z) → T (all_i64 zs) → T (all_i64 (z ∷ zs))
all_i64_intro z zs i a = subst T (sym (all_i64_cons z zs)) (and_i (is_i64 z) (all_i64 zs) i a)

pub all_i64_head : (z : ℤ) (zs : List ℤ) → T (all_i64 (z ∷ zs)) → T (is_i64 z)
all_i64_head z zs a = and_l (is_i64 z) (all_i64 zs) (subst T (all_i64_cons z zs) a)

pub all_i64_tail : (z : ℤ) (zs : List ℤ) → T (all_i64 (z ∷ zs)) → T (all_i64 zs)
all_i64_tail z zs a = and_r (is_i64 z) (all_i64 zs) (subst T (all_i64_cons z zs) a)

pub all_i64_at : (zs : List ℤ) (k : ℕ) → T (all_i64 zs) → k < length zs → T (is_i64 (get_or zs k (pos 0)))
all_i64_at [] k a below = absurd (omega arith)
all_i64_at (z ∷ zs) zero a below = all_i64_head z zs a
all_i64_at (z ∷ zs) (suc k) a below = all_i64_at zs k (all_i64_tail z zs a) (omega arith)

pub all_i64_set : (zs : List ℤ) (k : ℕ) (z : ℤ) → T (all_i64 zs) → T (is_i64 z) → T (all_i64 (set zs k z))
all_i64_set [] k z a i = a
all_i64_set (y ∷ zs) zero z a i = all_i64_intro z zs i (all_i64_tail y zs a)
all_i64_set (y ∷ zs) (suc k) z a i = all_i64_intro y (set zs k z) (all_i64_head y zs a) (all_i64_set zs k z (all_i64_tail y zs a) i)

pub all_i64_zeros : (n : ℕ) → T (all_i64 (replicate n (pos 0)))
all_i64_zeros zero = all_i64_nil
all_i64_zeros (suc n) = all_i64_intro (pos 0) (replicate n (pos 0)) tt (all_i64_zeros n)

module _ (t : Table) where
  pub vector_is : (zs : List ℤ) → is_vector t zs ≡ (eqb (length zs) (dimension t) && all_i64 zs)
  unfolding is_vector
  vector_is zs = refl

  pub vector_length : (zs : List ℤ) → T (is_vector t zs) → length zs ≡ dimension t
  vector_length zs v = eqb→eq (length zs) (dimension t) (and_l (eqb (length zs) (dimension t)) (all_i64 zs) (subst T (vector_is zs) v))

  pub vector_all : (zs : List ℤ) → T (is_vector t zs) → T (all_i64 zs)
  vector_all zs v = and_r (eqb (length zs) (dimension t)) (all_i64 zs) (subst T (vector_is zs) v)

  pub vector_empty : (zs : List ℤ) → T (is_vector t zs) → dimension t ≡ 0 → zs ≡ []
  vector_empty [] v e = refl
  vector_empty (z ∷ zs) v e = absurd (omega (arith, vector_length (z ∷ zs) v, e))

  pub vector_intro : (zs : List ℤ) → length zs ≡ dimension t → T (all_i64 zs) → T (is_vector t zs)
  vector_intro zs e a = subst T (sym (vector_is zs)) (and_i (eqb (length zs) (dimension t)) (all_i64 zs) (eq→eqb e) a)

  pub prefix_is : (zs : List ℤ) → is_prefix t zs ≡ ((leb 1 (length zs) && leb (length zs) (dimension t)) && all_i64 zs)
  unfolding is_prefix
  prefix_is zs = refl

  module _ (target : List Float) (R : Float) where
    pub first_test_is : (z : ℤ) (zs : List ℤ) → first_test t target R z zs ≡ le (level_term t target z zs) (sub binary64 R (partial t target zs))
    unfolding first_test
    first_test_is z zs = refl

    pub second_test_is : (z : ℤ) (zs : List ℤ) → second_test t target R z zs ≡ le (partial t target (z ∷ zs)) R
    unfolding second_test
    second_test_is z zs = refl

    pub passes_nil : passes t target R [] ≡ true
    unfolding passes
    passes_nil = refl

    pub passes_cons : (z : ℤ) (zs : List ℤ) → passes t target R (z ∷ zs) ≡ (passes t target R zs && (first_test t target R z zs && second_test t target R z zs))
    unfolding passes
    passes_cons z zs = refl

    pub admitted_is : (zs : List ℤ) → admitted t target R zs ≡ (is_vector t zs && passes t target R zs)
    unfolding admitted
    admitted_is zs = refl

    pub admitted_vector : (zs : List ℤ) → T (admitted t target R zs) → T (is_vector t zs)
    admitted_vector zs h = and_l (is_vector t zs) (passes t target R zs) (subst T (admitted_is zs) h)

    pub passes_first_nil : passes_first t target R [] ≡ false
    unfolding passes_first
    passes_first_nil = refl

    pub passes_first_cons : (z : ℤ) (zs : List ℤ) → passes_first t target R (z ∷ zs) ≡ (passes t target R zs && first_test t target R z zs)
    unfolding passes_first
    passes_first_cons z zs = refl

    pub opened_is : (zs : List ℤ) → opened t target R zs ≡ (is_prefix t zs && passes_first t target R zs)
    unfolding opened
    opened_is zs = refl
