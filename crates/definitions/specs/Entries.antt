-- The entries mu checked one at a time, by rising index: docs/SPECIFICATION.md, "Entries one at a time". Definitions only.
use Rattle.std.specs.Prelude.{ℕ, not, ◌&&◌, cond, List, [], ◌∷◌, map, eqb, get_or, Float}
use Rattle.std.specs.Float.{nan}
use Rattle.definitions.specs.Table.{Table, dimension}
use Rattle.definitions.specs.Refusals.{whole, mu_non_finite, mu_range}
use Rattle.definitions.specs.Checks.{Verdict, pass, refuse, first_refusal, refuse_if, refuse_at_first, read_indices, not_finite, beyond_limit}

-- an entry with its index in the n·n slice
pub record Entry : Type 0 where
  pub index : ℕ
  pub value : Float

abbrev pub entry_of : ℕ → Float → Entry
entry_of i x = record { index = i; value = x }

-- the verdict after one entry more: after a pass the entry's own, 3 before 4; a 4 becomes 3 if the entry is not finite; else a refusal stays
abbrev pub fed : Verdict → Entry → Verdict
fed pass e = cond (not_finite e.value) (refuse (mu_non_finite e.index)) (refuse_if (beyond_limit e.value) (mu_range e.index))
fed (refuse r) e = cond (eqb r.number 4 && not_finite e.value) (refuse (mu_non_finite e.index)) (refuse r)

-- the verdict after these entries in turn; the start is `pass`
unfoldable pub fed_all : Verdict → List Entry → Verdict
fed_all v [] = v
fed_all v (e ∷ es) = fed_all (fed v e) es

-- a verdict given by two numbers: 0, or a refusal's number with the index that it carries
abbrev pub given_verdict : ℕ → ℕ → Verdict
given_verdict number at = refuse_if (not (eqb number 0)) (record { number = number; values = whole at ∷ [] })

-- ---- the entries of a table

-- those of mu at these indices
abbrev pub entries_at : List Float → List ℕ → List Entry
entries_at mu is = map (λ i. entry_of i (get_or mu i nan)) is

-- those that are read, by rising index
abbrev pub entries_read : Table → List Entry
entries_read t = entries_at t.mu (read_indices (dimension t) (dimension t))

-- 3, then 4, over the entries of mu at these indices: over those that are read, checks 3 and 4 of the table
abbrev pub entries_verdict : List Float → List ℕ → Verdict
entries_verdict mu is =
    first_refusal
    (refuse_at_first (λ i. not_finite (get_or mu i nan)) mu_non_finite is
    ∷ refuse_at_first (λ i. beyond_limit (get_or mu i nan)) mu_range is
    ∷ [])
