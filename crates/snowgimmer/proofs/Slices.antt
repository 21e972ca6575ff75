-- What is said of two slices by the names of what they hold. Assumes nothing.
use mathlib.Core.Path.{◌≡◌, sym, subst}

pub held_in : {A B : Type 0} (P : A → B → Type 0) {a a' : A} {b b' : B} → a' ≡ a → b' ≡ b → P a b → P a' b'
held_in {A} {B} P {a} {a'} {b} {b'} p q h = subst (λ (y : B). P a' y) (sym q) (subst (λ (x : A). P x b) (sym p) h)
