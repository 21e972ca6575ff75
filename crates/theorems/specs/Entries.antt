-- What the check that is fed the entries one at a time promises: docs/SPECIFICATION.md, "Entries one at a time". Definitions only.
use Rattle.std.specs.Prelude.{◌≡◌, Bool, true, false, ℕ, ◌<◌, Float}
use mathlib.Core.List.{List, [], ◌∷◌, ◌++◌, Memᴰ}
use Rattle.definitions.specs.Table.{Table}
use Rattle.definitions.specs.Refusals.{mu_non_finite, mu_range}
use Rattle.definitions.specs.Checks.{Verdict, pass, refuse, first_refusal, not_finite, beyond_limit, table_size_check, mu_non_finite_check, mu_range_check, weight_range_check, table_checks}
use Rattle.definitions.specs.Entries.{Entry, entries_read}

-- each index is below the next
abbrev pub RisingIndices : List Entry → Type 0
RisingIndices [] = Unit {0}
RisingIndices (e ∷ []) = Unit {0}
RisingIndices (e ∷ d ∷ es) = (e.index < d.index) × RisingIndices (d ∷ es)

-- ---- 3 and 4 over some entries

-- none has the fault
abbrev pub NoEntry : (Float → Bool) → List Entry → Type 0
NoEntry fault es = (e : Entry) → Memᴰ e es → fault e.value ≡ false

-- the first index: an entry with this index has the fault, and none with a smaller one
pub record FirstEntry (fault : Float → Bool) (es : List Entry) (i : ℕ) : Type 0 where
  pub entry : Entry
  pub among : Memᴰ entry es
  pub here : entry.index ≡ i
  pub faulty : fault entry.value ≡ true
  pub first : (e : Entry) → Memᴰ e es → e.index < i → fault e.value ≡ false

-- 3 if one is not finite; else 4 if one is beyond the limit; each with its first index
pub data VerdictOn (es : List Entry) : Verdict → Type 0 where
  gives_3 : {i : ℕ} → FirstEntry not_finite es i → VerdictOn es (refuse (mu_non_finite i))
  gives_4 : {i : ℕ} → NoEntry not_finite es → FirstEntry beyond_limit es i → VerdictOn es (refuse (mu_range i))
  passes : NoEntry not_finite es → NoEntry beyond_limit es → VerdictOn es pass

-- ---- the answer to the entry e, those before it having been fed in turn from the start
pub record EntryPromises (before : List Entry) (e : Entry) (answer : Verdict) : Type 0 where
  -- it is what 3 and 4 say of these entries and e
  pub so_far : RisingIndices (before ++ e ∷ []) → VerdictOn (before ++ e ∷ []) answer
  -- where these are all that are read of a table, it is that of the calls' own check; a table of which none is read has that of the start
  pub own_check : (t : Table) → before ++ e ∷ [] ≡ entries_read t → answer ≡ first_refusal (mu_non_finite_check t ∷ mu_range_check t ∷ [])
  -- so every call on the table, whose checks begin with 2 to 5, is refused as if the answer stood between 2 and 5
  pub calls : (t : Table) → before ++ e ∷ [] ≡ entries_read t → (largest : ℕ) (later : List Verdict) →
      first_refusal (table_checks largest t ++ later) ≡ first_refusal (table_size_check largest t ∷ answer ∷ weight_range_check t ∷ later)
