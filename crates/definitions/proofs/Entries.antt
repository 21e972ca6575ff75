-- The entries fed one at a time: after all of them the verdict is that of checks 3 and 4 on these. Assumes nothing.
use mathlib.Core.Path.{◌≡◌, refl, sym, ◌∙◌}
use mathlib.Core.Bool.{Bool, true, false, cond}
use mathlib.Core.List.{List, [], ◌∷◌, ◌++◌}
use Prim.Native.Nat.{ℕ}
use lib.ListN.{get_or}
use lib.Ieee.{Float, nan}
use Rattle.definitions.specs.Refusals.{mu_non_finite, mu_range}
use Rattle.definitions.specs.Checks.{Verdict, pass, refuse, first_refusal, refuse_if, refuse_at_first, not_finite, beyond_limit}
use Rattle.definitions.specs.Entries.{Entry, fed, fed_all, entries_at, entries_verdict}
use Rattle.definitions.proofs.Verdicts.{or_else, first_cons}

pub fed_append : (v : Verdict) (es later : List Entry) → fed_all v (es ++ later) ≡ fed_all (fed_all v es) later
unfolding fed_all
fed_append v [] later = refl
fed_append v (e ∷ es) later = fed_append (fed v e) es later

-- an entry that is not finite stays
pub after_nonfinite : (es : List Entry) (k : ℕ) → fed_all (refuse (mu_non_finite k)) es ≡ refuse (mu_non_finite k)
unfolding fed_all
after_nonfinite [] k = refl
after_nonfinite (e ∷ es) k = after_nonfinite es k

module _ (mu : List Float) where
  abbrev third : List ℕ → Verdict
  third is = refuse_at_first (λ i. not_finite (get_or mu i nan)) mu_non_finite is

  abbrev fourth : List ℕ → Verdict
  fourth is = refuse_at_first (λ i. beyond_limit (get_or mu i nan)) mu_range is

  -- after one above the limit: 3 if one is not finite, else that 4
  range_step : (is : List ℕ) (i k : ℕ) → fed_all (refuse (mu_range k)) (entries_at mu is) ≡ or_else (third is) (refuse (mu_range k)) → (b : Bool) → fed_all (cond b (refuse (mu_non_finite i)) (refuse (mu_range k))) (entries_at mu is) ≡ or_else (cond b (refuse (mu_non_finite i)) (third is)) (refuse (mu_range k))
  range_step is i k later true = after_nonfinite (entries_at mu is) i
  range_step is i k later false = later

  after_range : (is : List ℕ) (k : ℕ) → fed_all (refuse (mu_range k)) (entries_at mu is) ≡ or_else (third is) (refuse (mu_range k))
  unfolding fed_all refuse_at_first
  after_range [] k = refl
  after_range (i ∷ is) k = range_step is i k (after_range is k) (not_finite (get_or mu i nan))

  clean_step : (is : List ℕ) (i : ℕ) → fed_all pass (entries_at mu is) ≡ first_refusal (third is ∷ fourth is ∷ []) → (a b : Bool) → fed_all (cond a (refuse (mu_non_finite i)) (refuse_if b (mu_range i))) (entries_at mu is) ≡ first_refusal (cond a (refuse (mu_non_finite i)) (third is) ∷ cond b (refuse (mu_range i)) (fourth is) ∷ [])
  unfolding first_refusal
  clean_step is i later true b = after_nonfinite (entries_at mu is) i
  clean_step is i later false true = after_range is i ∙ sym (first_cons (third is) (refuse (mu_range i) ∷ []))
  clean_step is i later false false = later

  pub fed_verdict : (is : List ℕ) → fed_all pass (entries_at mu is) ≡ entries_verdict mu is
  unfolding fed_all refuse_at_first first_refusal
  fed_verdict [] = refl
  fed_verdict (i ∷ is) = clean_step is i (fed_verdict is) (not_finite (get_or mu i nan)) (beyond_limit (get_or mu i nan))
