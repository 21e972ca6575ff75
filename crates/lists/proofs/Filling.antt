-- A list filled place by place. Assumes nothing.
use mathlib.Core.Path.{◌≡◌, refl, sym, ◌∙◌}
use mathlib.Core.List.{List}
use Prim.Native.Nat.{ℕ, ◌+◌, ◌<◌, ◌≤◌}
use native.Mathlib.Omega.{arith}
use borrow.Author.Count.{below_none, below_more}
use lib.ListN.{length, get_or, set, replicate, length-set, length-replicate, get_or-replicate}
use lib.Seq.{get_or-set_same, get_or-set_other, ext_get_or}

module _ {A : Type 0} (f : ℕ → A) (d : A) where
  -- of n places the first i hold what belongs to them
  pub record Filled (n : ℕ) (b : List A) (i : ℕ) : Type 0 where
    pub bounded : i ≤ n
    pub same_length : length b ≡ n
    pub done : (k : ℕ) → k < i → get_or b k d ≡ f k

  pub filled_none : (b : List A) → Filled (length b) b 0
  filled_none b = record { bounded = omega arith; same_length = refl; done = below_none _ }

  pub filled_next : {n : ℕ} {b : List A} {i : ℕ} → Filled n b i → i < n → {x : A} → x ≡ f i → Filled n (set b i x) (i + 1)
  filled_next {n} {b} {i} c below {x} is = record {
    bounded = omega arith;
    same_length = length-set b i x ∙ c.same_length;
    done = below_more (λ (k : ℕ). get_or (set b i x) k d ≡ f k) i (λ k less. get_or-set_other b i k x d (λ same. omega (arith, same, less)) ∙ c.done k less) (get_or-set_same b i x d (omega (arith, c.same_length, below)) ∙ is);
  }

-- each place holds the same
pub filled_same : {A : Type 0} (x d : A) {n : ℕ} {b : List A} {i : ℕ} → Filled (λ _. x) d n b i → n ≤ i → b ≡ replicate n x
filled_same x d {n} {b} {i} f h = ext_get_or d b (replicate n x) (f.same_length ∙ sym (length-replicate n x)) (λ k l. f.done k (omega (arith, f.same_length)) ∙ sym (get_or-replicate n k x d (omega (arith, f.same_length))))
