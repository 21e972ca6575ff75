-- Checks of the code one after the other, each with a `?`: the verdict is that of their lists joined. Assumes nothing.
use mathlib.Core.Path.{◌≡◌, ap, sym, ◌∙◌}
use mathlib.Core.List.{List, [], ◌∷◌, ◌++◌}
use Rattle.std.specs.Prelude.{⊤, Result}
use Rattle.std.specs.Result.{IsErr, IsErrAnd}
use Rattle.definitions.specs.Checks.{Verdict, pass, refuse, first_refusal}
use Rattle.definitions.proofs.Verdicts.{first_append, first_alone}
use Rattle.refusals.specs.Numbers.{verdict, numbered}
use Rattle.refusals.specs.declared.Refusal.{Refusal}
use Rattle.refusals.proofs.Early.{handed_up}

-- a single check as a list
pub alone : {v d : Verdict} → v ≡ d → v ≡ first_refusal (d ∷ [])
alone {v} {d} says = says ∙ sym (first_alone d)

module _ (vs : List Verdict) where
  -- a refusal decides
  pub decided : (e : Refusal) → refuse (numbered e) ≡ first_refusal vs → (ws : List Verdict) → refuse (numbered e) ≡ first_refusal (vs ++ ws)
  decided e says ws = says ∙ sym (first_append vs ws ∙ simp (sym says))

  -- and the exit of a `?` gives it
  pub refused : (e : Refusal) (r : Result ⊤ Refusal) → IsErr r × IsErrAnd r (λ y. y ≡ e) → refuse (numbered e) ≡ first_refusal vs → (ws : List Verdict) → verdict r ≡ first_refusal (vs ++ ws)
  refused e r up says ws = ap verdict (handed_up r up.1) ∙ decided e says ws

  -- after a pass the rest does
  pub passed : pass ≡ first_refusal vs → (ws : List Verdict) → first_refusal ws ≡ first_refusal (vs ++ ws)
  passed says ws = sym (first_append vs ws ∙ simp (sym says))
