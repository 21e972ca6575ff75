-- The check of a slice, before any others. Assumes nothing.
use mathlib.Core.Path.{◌≡◌, refl, sym, ap, ◌∙◌}
use mathlib.Core.Bool.{Bool, not, ◌&&◌}
use mathlib.Core.List.{List, [], ◌∷◌}
use Prim.Native.Nat.{ℕ, ◌^◌, ◌≤◌, ◌<◌}
use borrow.Author.Tests.{le-leb, lt-leb}
use lib.Dec.{leb}
use Rattle.definitions.specs.Refusals.{slice_range}
use Rattle.definitions.specs.Checks.{Verdict, pass, refuse, refuse_if, first_refusal}
use Rattle.definitions.specs.Kept.{name_check}
use Rattle.definitions.specs.Turn.{slice_check}
use Rattle.definitions.proofs.Verdicts.{first_refuses, first_passes, append_passes}

module _ (vs : List Verdict) (slice : ℕ) where
  pub slice_low : slice < 1 → refuse slice_range ≡ first_refusal (slice_check slice ∷ vs)
  slice_low l =
      let e : slice_check slice ≡ refuse slice_range = ap (λ (b : Bool). refuse_if (not (b && leb slice (2 ^ 20))) slice_range) (lt-leb 1 slice l) in
      sym (first_refuses (slice_check slice) vs e ∙ e)

  module _ (l : 1 ≤ slice) where
    pub slice_high : 1048576 < slice → refuse slice_range ≡ first_refusal (slice_check slice ∷ vs)
    slice_high h =
        let e : slice_check slice ≡ refuse slice_range = ap (λ (b : Bool). refuse_if (not (b && leb slice (2 ^ 20))) slice_range) (le-leb 1 slice l) ∙ ap (λ (b : Bool). refuse_if (not b) slice_range) (lt-leb slice (2 ^ 20) h) in
        sym (first_refuses (slice_check slice) vs e ∙ e)

    -- the checks that the name 1 stands before are left
    pub slice_then : slice ≤ 1048576 → first_refusal (name_check 1 ∷ vs) ≡ first_refusal (slice_check slice ∷ vs)
    slice_then h =
        first_passes (name_check 1) vs refl
        ∙ sym (first_passes (slice_check slice) vs (ap (λ (b : Bool). refuse_if (not (b && leb slice (2 ^ 20))) slice_range) (le-leb 1 slice l) ∙ ap (λ (b : Bool). refuse_if (not b) slice_range) (le-leb slice (2 ^ 20) h)))

  -- if the slice and the checks behind it pass, so do those behind the name 1
  pub slice_passed : first_refusal (slice_check slice ∷ vs) ≡ pass → first_refusal (name_check 1 ∷ vs) ≡ pass
  slice_passed e = first_passes (name_check 1) vs refl ∙ (append_passes (slice_check slice ∷ []) vs e).1
