-- `tested` tries one candidate. Assumes nothing.
use mathlib.Core.Path.{◌≡◌, ap, sym, ◌∙◌}
use mathlib.Core.Bool.{Bool, true, false, cond, ◌&&◌}
use Prim.Native.Nat.{ℕ}
use lib.IntN.{ℤ, pos, ◌+ℤ◌, ◌-ℤ◌}
use lib.Ieee.{le}
use mir.Syntax.{w64}
use mir.Val.{SFits, to_z, of_z}
use mir.ValLaws.{to_z-of_z}
use Rattle.definitions.specs.Zigzag.{passes_test}
use Rattle.definitions.proofs.Zigzags.{passes_is}
use Rattle.children.specs.declared.Children.{Children}
use Rattle.children.specs.declared.Trial.{Trial}
use Rattle.std.proofs.Common.{Option, None, Some}
use Rattle.children.specs.View.{zigzag, trial_of, moved_of, tested_of}
use Rattle.children.proofs.Outcomes.{nearest_is, in_of}
use Rattle.children.proofs.Children.tested.Goals as goal
use Rattle.children.proofs.Children.tested.Goals.{After-trial_of-t}

module _ (self : Children) (magnitude : ℕ) (up : Bool) where
  -- the candidate
  abbrev moved : ℤ → ℤ
  moved m = cond up (m +ℤ pos magnitude) (m -ℤ pos magnitude)

  module _ (x : Option ℤ) (same : to_z w64 (of_z w64 self.nearest) ≡ self.nearest) (given : x ≡ moved_of (moved (to_z w64 (of_z w64 self.nearest)))) where
    is_moved : x ≡ moved_of (moved self.nearest)
    is_moved = given ∙ ap (λ (m : ℤ). moved_of (moved m)) same

    module _ (z : ℤ) (e : x ≡ Some z) (small : SFits w64 z) (t : Trial) (tried : t ≡ trial_of self.weight self.center (to_z w64 (of_z w64 z))) where
      is_tried : t ≡ trial_of self.weight self.center (moved self.nearest)
      is_tried = tried ∙ ap (trial_of self.weight self.center) (to_z-of_z w64 z small ∙ sym (in_of (moved self.nearest) z (sym e ∙ is_moved)).1)

      by_test : (passed : Bool) → le t.term self.remaining ≡ passed → cond passed (Some t) None ≡ tested_of (zigzag self) (moved self.nearest)
      by_test passed p =
          let m = moved self.nearest in
          let q : passes_test (zigzag self) m ≡ passed = passes_is (zigzag self) m ∙ ap (λ (u : Trial). le u.term self.remaining) (sym is_tried) ∙ p in
          ap (λ (u : Trial). cond passed (Some u) None) is_tried
          ∙ ap (λ (b : Bool). cond b (Some (trial_of self.weight self.center m)) None)
          (sym q ∙ ap (λ (b : Bool). b && passes_test (zigzag self) m) (sym (in_of (moved self.nearest) z (sym e ∙ is_moved)).0))

-- the test of the code
decided : (c : After-trial_of-t) (passed : Bool) → let a = c.args in le c.trial_of-t.result.term a.self.remaining ≡ passed → cond passed (Some c.trial_of-t.result) None ≡ tested_of (zigzag a.self) (moved a.self a.magnitude a.positive a.self.nearest)
decided c =
    let a = c.args in
    by_test a.self a.magnitude a.positive c.candidate.result (nearest_is c.struct_told-1.given) c.candidate.ensures
    c.in_ok-z.z c.in_ok-z.was (record { sfits = c.in_ok-z.known_told-1-own.given.0.1 }) c.trial_of-t.result c.trial_of-t.ensures

pub returns-then-t-self : goal.returns-then-t-self
returns-then-t-self c = decided (goal.at.returns-then-t-self c).After-trial_of-t true c.if-t-self.true

pub returns : goal.returns
returns c = decided (goal.at.returns c).After-trial_of-t false c.if-t-self.false
