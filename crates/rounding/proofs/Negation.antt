-- The theorem of negation: it reflects a value's number about `mid`, and keeps it finite. Twice is nothing, and a difference is the sum with the negated value. Assumes nothing.
use Rattle.std.proofs.Common.{◌≡◌, ℕ, ◌+◌, ◌-◌, ◌≤◌, Bool, true, false, not, T, sym, refl, ap, ◌∙◌, arith}
use lib.Ieee.{Float, nan, inf, fin, Format, neg, add, sub, is_nan}
use lib.Ieee.Fits.{neg-fits}
use lib.Ieee.Scale.{finite}
use Rattle.rounding.specs.Doubles.{negative}
use Rattle.rounding.proofs.Scaled.{scaled, scaled_neg}
use Rattle.rounding.specs.Kinds.{Number, Finite}
use Rattle.rounding.proofs.Value.{offset, mid, ord, ord_is, scaled_mid}

pub neg_neg : (x : Float) → neg (neg x) ≡ x
unfolding neg
neg_neg nan = refl
neg_neg (inf true) = refl
neg_neg (inf false) = refl
neg_neg (fin true m e) = refl
neg_neg (fin false m e) = refl

pub sub_is : (f : Format) (x y : Float) → sub f x y ≡ add f x (neg y)
unfolding sub
sub_is f x y = refl

neg_sign : (x : Float) → T (not (is_nan x)) → negative (neg x) ≡ not (negative x)
unfolding neg is_nan
neg_sign nan t = absurd t
neg_sign (inf s) t = refl
neg_sign (fin s m e) t = refl

pub ord_neg : (f : Format) (x : Float) → Number f x → ord f (neg x) ≡ mid f + mid f - ord f x
ord_neg f x p =
    ord_is f (neg x)
    ∙ ap (λ (b : Bool). offset (mid f) b (scaled f (neg x))) (neg_sign x p.num)
    ∙ ap (offset (mid f) (not (negative x))) (scaled_neg f x)
    ∙ flip (negative x) (mid f) (scaled f x) (scaled_mid f x p.fit)
    ∙ ap (λ (z : ℕ). mid f + mid f - z) (sym (ord_is f x))
  where
    flip : (s : Bool) (M k : ℕ) → k ≤ M → offset M (not s) k ≡ M + M - offset M s k
    flip false M k h = omega arith
    flip true M k h = omega arith

pub neg_number : {f : Format} {x : Float} → Number f x → Number f (neg x)
neg_number {f} {x} p = record { fit = neg-fits f x p.fit; num = go x p.num }
  where
    go : (x : Float) → T (not (is_nan x)) → T (not (is_nan (neg x)))
    go nan t = absurd (unfold is_nan in t)
    go (inf s) t = unfold neg is_nan in tt
    go (fin s m e) t = unfold neg is_nan in tt

pub neg_finite : {f : Format} {x : Float} → Finite f x → Finite f (neg x)
neg_finite {f} {x} p = record { fit = neg-fits f x p.fit; fin = go x p.fin }
  where
    go : (x : Float) → T (finite x) → T (finite (neg x))
    go nan t = absurd t
    go (inf s) t = absurd t
    go (Float.fin s m e) t = unfold neg in tt
