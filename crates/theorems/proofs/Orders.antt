-- The list's order, as its test: it is transitive, and of two points with different vectors one comes before the other. Assumes nothing.
use mathlib.Core.Path.{◌≡◌, refl, ap}
use mathlib.Core.Logic.{◌⊎◌, inl, inr}
use Prim.Native.Nat.{ℕ}
use mathlib.Core.Bool.{Bool, true, false}
use lib.Dec.{T}
use Rattle.definitions.specs.Listing.{ListPoint, listed_before}
use Rattle.definitions.proofs.ListedOrder.{Listed, listed_order}
use Rattle.theorems.proofs.Booleans.{of_true, to_true}

module _ (n : ℕ) where
  pub listed_trans : (a b c : ListPoint) → Listed n a → Listed n b → Listed n c → T (listed_before a b) → T (listed_before b c) → T (listed_before a c)
  listed_trans a b c p q r h k = of_true ((listed_order n).transitive a b c p q r (to_true (listed_before a b) h) (to_true (listed_before b c) k))

  pub listed_total : (a b : ListPoint) → Listed n a → Listed n b → (a.point ≡ b.point → ⊥) → T (listed_before a b) ⊎ T (listed_before b a)
  listed_total a b p q d = go (listed_before a b) refl (listed_before b a) refl
    where
      go : (x : Bool) → listed_before a b ≡ x → (y : Bool) → listed_before b a ≡ y → T (listed_before a b) ⊎ T (listed_before b a)
      go true e y f = inl (of_true e)
      go false e true f = inr (of_true f)
      go false e false f = absurd (d (ap (λ (x : ListPoint). x.point) ((listed_order n).total a b p q e f)))
