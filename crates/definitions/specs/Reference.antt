-- A change of the reference satellite: docs/SPECIFICATION.md, "Reference". The checks of `change_reference`, its answer, and the lent point at exit. Definitions only.
use Rattle.std.specs.Prelude.{◌≡◌, ℕ, ◌<◌, Bool, true, not, cond, List, [], ◌∷◌, map, ltb, eqb, length, get_or, ℤ, pos, neg_ℤ, ◌-ℤ◌}
use Rattle.rounding.specs.Integers.{is_i64}
use Rattle.definitions.specs.Refusals.{reference_index, changed_range}
use Rattle.definitions.specs.Checks.{Verdict, pass, refuse, first_refusal, refuse_if, refuse_at_first, count_from}

-- a(i), the cycles of coordinate i
abbrev pub cycles : List ℤ → ℕ → ℤ
cycles a i = get_or a i (pos 0)

-- what coordinate i becomes: -a(r) where i is r, and a(i) - a(r) elsewhere
abbrev pub changed : List ℤ → ℕ → ℕ → ℤ
changed a r i = cond (eqb i r) (neg_ℤ (cycles a r)) (cycles a i -ℤ cycles a r)

-- what the point becomes
unfoldable pub changed_point : List ℤ → ℕ → List ℤ
unfolding count_from
changed_point a r = map (changed a r) (count_from 0 (length a))

-- coordinate i becomes no signed 64-bit integer
abbrev pub changed_fault : List ℤ → ℕ → ℕ → Bool
changed_fault a r i = not (is_i64 (changed a r i))

-- 19: r must be below the length
abbrev pub reference_index_check : List ℤ → ℕ → Verdict
reference_index_check a r = refuse_if (not (ltb r (length a))) reference_index

-- 20: every coordinate must become a signed 64-bit integer
abbrev pub changed_range_check : List ℤ → ℕ → Verdict
changed_range_check a r = refuse_at_first (changed_fault a r) changed_range (count_from 0 (length a))

abbrev pub checks_of_change : List ℤ → ℕ → List Verdict
checks_of_change a r = reference_index_check a r ∷ changed_range_check a r ∷ []

-- `change_reference`
unfoldable pub change_reference : List ℤ → ℕ → Verdict
unfolding first_refusal refuse_at_first count_from
change_reference a r = first_refusal (checks_of_change a r)

-- the point at exit
unfoldable pub change_output : Verdict → List ℤ → ℕ → List ℤ
unfolding changed_point
change_output pass a r = changed_point a r
change_output (refuse e) a r = a

-- where a change is accepted: r is an index, and each coordinate becomes a signed 64-bit integer
pub record Accepted (a : List ℤ) (r : ℕ) : Type 0 where
  pub index : r < length a
  pub inside : (i : ℕ) → i < length a → is_i64 (changed a r i) ≡ true
