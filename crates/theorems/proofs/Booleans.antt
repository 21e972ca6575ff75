-- Laws of the connectives of tests, as equations and as facts. Assumes nothing.
use mathlib.Core.Path.{◌≡◌, refl, sym, ap, subst}
use Prim.Native.Nat.{◌≤◌, ◌<◌, zero-le}
use native.Mathlib.Nat.{le_refl, lt_irrefl}
use mathlib.Core.Bool.{Bool, true, false, not, ◌&&◌, ◌||◌}
use lib.Dec.{T}
use Rattle.theorems.specs.Counting.{tally}

pub of_true : {b : Bool} → b ≡ true → T b
of_true e = subst T (sym e) tt

pub of_false : {b : Bool} → b ≡ false → T (not b)
of_false e = subst (λ (b : Bool). T (not b)) (sym e) tt

pub refuted : {b : Bool} → b ≡ false → T b → ⊥
refuted e h = subst T e h

pub to_true : (b : Bool) → T b → b ≡ true
to_true true h = refl
to_true false h = absurd h

pub to_false : (b : Bool) → (T b → ⊥) → b ≡ false
to_false true h = absurd (h tt)
to_false false h = refl

pub and_false : (a : Bool) → (a && false) ≡ false
and_false true = refl
and_false false = refl

pub or_l : (a b : Bool) → T a → T (a || b)
or_l true b h = tt
or_l false b h = absurd h

pub tally_true : (b : Bool) → T b → tally b ≡ 1
tally_true b h = ap tally (to_true b h)

pub tally_most : (b : Bool) → tally b ≤ 1
tally_most true = le_refl 1
tally_most false = zero-le

pub tally_some : (b : Bool) → 0 < tally b → T b
tally_some true h = tt
tally_some false h = absurd (lt_irrefl 0 h)

pub tally_false : (b : Bool) → (T b → ⊥) → tally b ≡ 0
tally_false b h = ap tally (to_false b h)
