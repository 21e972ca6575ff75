-- From the code's answers back to the definition's. Assumes nothing.
use Rattle.std.proofs.Common.{None, Some}
use mathlib.Core.Path.{◌≡◌, refl, ap, sym, ◌∙◌}
use mathlib.Core.Bool.{Bool, true, false, cond, ◌&&◌}
use Prim.Native.Nat.{◌<◌, ◌^◌}
use lib.IntN.{ℤ}
use lib.Signed.{mag}
use mir.Syntax.{w64}
use mir.Val.{to_z, of_z, hbits}
use mir.ValLaws.{to_z-of_z}
use Rattle.rounding.specs.Integers.{is_i64}
use Rattle.lists.proofs.Tuples.{fourth}
use Rattle.definitions.specs.Zigzag.{Zigzag, Start, open_level, no_children, Next, child, none, passes_test}
use Rattle.definitions.proofs.Zigzags.{generator}
use Rattle.children.specs.declared.Children.{Children}
use Rattle.children.specs.declared.Trial.{Trial}
use Rattle.children.specs.View.{zigzag, generator_of, trial_of, level_of, child_of, moved_of, tested_of}

-- ---- the nearest integer of a generator, by what a struct's fields tell: it is the fourth
pub nearest_is : {A B C D E : Type 0} {z : ℤ} → A × (B × (C × ((D × (mag z < 2 ^ hbits w64)) × E))) → to_z w64 (of_z w64 z) ≡ z
nearest_is {z = z} told = to_z-of_z w64 z (record { sfits = (fourth told).1 })

-- ---- a level
pub open_of : (x : Start) (d : Children) → Some d ≡ level_of x → x ≡ open_level (zigzag d)
open_of (open_level h) d e = let a : generator_of h ≡ d = cc in ap (λ (k : Children). open_level (zigzag k)) a
open_of no_children d e = cc

pub closed_of : (x : Start) → None ≡ level_of x → x ≡ no_children
closed_of no_children e = refl
closed_of (open_level h) e = cc

-- ---- a child
pub at_of : (x : Next) (t : Trial) (d : Children) → Some (t, d) ≡ child_of x → (x ≡ child t.z (zigzag d)) × (t ≡ trial_of d.weight d.center t.z)
at_of (child y h) t d e =
    let q : ◌≡◌ {A = Trial × Children} (t, d) (trial_of h.weight h.center y, generator_of h) = cc in
    let a : generator_of h ≡ d = sym (ap (λ (k : Trial × Children). k.1) q) in
    let b : trial_of h.weight h.center y ≡ t = sym (ap (λ (k : Trial × Children). k.0) q) in (
      ap (λ (k : Children). child y (zigzag k)) a ∙ ap (λ (k : Trial). child k.z (zigzag d)) b,
      sym b ∙ ap (λ (k : Children). trial_of k.weight k.center y) a ∙ ap (λ (k : Trial). trial_of d.weight d.center k.z) b,
    )
at_of (none h) t d e = cc

pub end_of : (x : Next) → None ≡ child_of x → x ≡ none (generator x)
end_of (none h) e = refl
end_of (child y h) e = cc

-- ---- a candidate
pub out_of : (m : ℤ) → None ≡ moved_of m → is_i64 m ≡ false
out_of m e = by (is_i64 m) e
  where
    by : (b : Bool) → None ≡ cond b (Some m) None → b ≡ false
    by true e = cc
    by false e = refl

pub in_of : (m z : ℤ) → Some z ≡ moved_of m → (is_i64 m ≡ true) × (m ≡ z)
in_of m z e = by (is_i64 m) e
  where
    by : (b : Bool) → Some z ≡ cond b (Some m) None → (b ≡ true) × (m ≡ z)
    by true e = (refl, cc)
    by false e = (cc, cc)

module _ (g : Zigzag) (z : ℤ) where
  pub passed_of : (t : Trial) → Some t ≡ tested_of g z → (is_i64 z && passes_test g z ≡ true) × (t ≡ trial_of g.weight g.center z)
  passed_of t e = by (is_i64 z && passes_test g z) (trial_of g.weight g.center z) e
    where
      by : (b : Bool) (u : Trial) → Some t ≡ cond b (Some u) None → (b ≡ true) × (t ≡ u)
      by true u e = (refl, cc)
      by false u e = (cc, cc)

  pub failed_of : None ≡ tested_of g z → is_i64 z && passes_test g z ≡ false
  failed_of e = by (is_i64 z && passes_test g z) (trial_of g.weight g.center z) e
    where
      by : (b : Bool) (u : Trial) → None ≡ cond b (Some u) None → b ≡ false
      by true u e = cc
      by false u e = refl
