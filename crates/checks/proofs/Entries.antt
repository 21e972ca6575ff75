-- The entries of a table fed row by row: one entry more of a row, one row more. Assumes nothing.
use mathlib.Core.Path.{◌≡◌, ap, ◌∙◌}
use mathlib.Core.List.{List, [], ◌∷◌, ◌++◌, map-append}
use Prim.Native.Nat.{ℕ, zero, suc, ◌+◌, ◌*◌}
use native.Mathlib.Numerals.{add-one}
use native.Mathlib.Omega.{arith}
use lib.ListN.{get_or}
use lib.Ieee.{Float, nan}
use Rattle.definitions.specs.Checks.{Verdict, count_from, read_indices}
use Rattle.definitions.specs.Entries.{entry_of, fed, fed_all, entries_at}
use Rattle.definitions.proofs.Entries.{fed_append}

-- one index more at the end
pub count_more : (first k : ℕ) → count_from first (suc k) ≡ count_from first k ++ (first + k) ∷ []
unfolding count_from
count_more first zero = ap (λ (i : ℕ). i ∷ []) (omega arith)
count_more first (suc k) =
    ap (λ (is : List ℕ). first ∷ is) (count_more (suc first) k ∙ ap (λ (i : ℕ). count_from (suc first) k ++ i ∷ []) (omega arith))

module _ (mu : List Float) where
  fed_append_at : (v : Verdict) (is js : List ℕ) → fed_all v (entries_at mu (is ++ js)) ≡ fed_all (fed_all v (entries_at mu is)) (entries_at mu js)
  fed_append_at v is js = ap (fed_all v) (map-append _ is js) ∙ fed_append v (entries_at mu is) (entries_at mu js)

  -- a row of one entry more
  pub row_more : (v : Verdict) (first k : ℕ) → fed_all v (entries_at mu (count_from first (k + 1))) ≡ fed (fed_all v (entries_at mu (count_from first k))) (entry_of (first + k) (get_or mu (first + k) nan))
  unfolding fed_all
  row_more v first k = rw (add-one, count_more) (fed_append_at v (count_from first k) ((first + k) ∷ []))

  -- one row more
  pub rows_more : (v : Verdict) (n j : ℕ) → fed_all v (entries_at mu (read_indices n (j + 1))) ≡ fed_all (fed_all v (entries_at mu (read_indices n j))) (entries_at mu (count_from (j * n) j))
  unfolding read_indices
  rows_more v n j = rw add-one (fed_append_at v (read_indices n j) (count_from (j * n) j))
