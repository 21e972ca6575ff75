-- Two matrices whose products are the identity: mapping by the one and then by the other changes no vector. Assumes nothing.
use mathlib.Core.Path.{◌≡◌, refl, sym, ap, ◌∙◌}
use mathlib.Core.Bool.{Bool, true, cond}
use mathlib.Core.List.{List}
use Prim.Native.Nat.{ℕ, ◌<◌}
use native.Mathlib.Omega.{arith}
use borrow.Author.Tests.{eq-eqb, ne_eqb}
use lib.ListN.{length, get_or}
use lib.Seq.{ext_get_or}
use lib.IntN.{ℤ, pos, ◌*ℤ◌, one, *ℤ-zero, *ℤ-one}
use Rattle.lists.specs.Sums.{sum_of}
use Rattle.lists.proofs.Sums.{times_assoc, sum_same, sum_single, sum_times, sum_times_right, sum_swap}
use Rattle.definitions.specs.Prepared.{element, each_below, same_integer, product_element, identity_element, is_identity, mapped_coordinate, mapped_point}
use Rattle.definitions.proofs.Prepared.{each_passes, each_passed, same_integer_lem, integer_same, mapped_length, mapped_at}
use Rattle.theorems.specs.Prepared.{Inverses, MapsInverse}

-- ---- one product
abbrev Identity : ℕ → List ℤ → List ℤ → Type 0
Identity n a b = (row column : ℕ) → row < n → column < n → product_element n a b row column ≡ identity_element row column

times_one : (z : ℤ) → z *ℤ pos 1 ≡ z
unfolding one
times_one z = *ℤ-one z

module _ (n : ℕ) (a b : List ℤ) where
  is_identity_lem : is_identity n a b ≡ each_below n (λ row. each_below n (λ column. same_integer (product_element n a b row column) (identity_element row column)))
  unfolding is_identity
  is_identity_lem = refl

  pub identity_elements : is_identity n a b ≡ true → Identity n a b
  identity_elements q row column h k =
      same_integer_lem _ _ (each_passed n _ (each_passed n (λ row. each_below n (λ column. same_integer (product_element n a b row column) (identity_element row column))) (sym is_identity_lem ∙ q) row h) column k)

  pub elements_identity : Identity n a b → is_identity n a b ≡ true
  elements_identity same =
      is_identity_lem
      ∙ each_passes n _ (λ row h. each_passes n _ (λ column k. ap (λ (z : ℤ). same_integer z (identity_element row column)) (same row column h k) ∙ integer_same (identity_element row column)))

  -- mapping by a and then by b
  module _ (identity : Identity n a b) (z : List ℤ) (long : length z ≡ n) where
    abbrev at : ℕ → ℤ
    at k = get_or z k (pos 0)

    -- a coordinate alone: the others are multiplied by 0
    picked : (c : ℕ) → c < n → sum_of n (λ r. at r *ℤ identity_element r c) ≡ at c
    picked c h =
        sum_single n c (λ r. at r *ℤ identity_element r c) h (λ k below other. ap (λ (b : Bool). at k *ℤ cond b (pos 1) (pos 0)) (ne_eqb k c other) ∙ *ℤ-zero (at k))
        ∙ ap (λ (b : Bool). at c *ℤ cond b (pos 1) (pos 0)) (eq-eqb c c refl)
        ∙ times_one (at c)

    coordinate_back : (c : ℕ) → c < n → mapped_coordinate n b (mapped_point n a z) c ≡ at c
    coordinate_back c h =
        sum_same n _ _ (λ k below. ap (λ (x : ℤ). x *ℤ element n b k c) (mapped_at n a z k below) ∙ sym (sum_times_right n (λ r. at r *ℤ element n a r k) (element n b k c)))
        ∙ sum_swap n n (λ k r. at r *ℤ element n a r k *ℤ element n b k c)
        ∙ sum_same n _ _ (λ r below. sum_same n _ _ (λ k less. times_assoc (at r) (element n a r k) (element n b k c)) ∙ sum_times n (at r) (λ k. element n a r k *ℤ element n b k c) ∙ ap (λ (x : ℤ). at r *ℤ x) (identity r c below h))
        ∙ picked c h

    pub mapped_back : mapped_point n b (mapped_point n a z) ≡ z
    mapped_back =
        ext_get_or (pos 0) (mapped_point n b (mapped_point n a z)) z (mapped_length n b (mapped_point n a z) ∙ sym long)
        (λ k below. let less : k < n = omega (arith, below, mapped_length n b (mapped_point n a z)) in mapped_at n b (mapped_point n a z) k less ∙ coordinate_back k less)

-- ---- both
pub maps_inverse : (n : ℕ) (transform inverse : List ℤ) → Inverses n transform inverse → MapsInverse n transform inverse
maps_inverse n transform inverse i =
    record { inverse_after_transform = mapped_back n transform inverse i.transform_inverse; transform_after_inverse = mapped_back n inverse transform i.inverse_transform }
