-- The name that a turn serves, as the loop over the names finds it. Assumes nothing.
use mathlib.Core.Path.{◌≡◌, refl, sym, ap, ◌∙◌}
use mathlib.Core.Bool.{Bool, true, false, cond}
use mathlib.Core.List.{List}
use Prim.Native.Nat.{ℕ, suc, ◌+◌, ◌-◌, ◌*◌, ◌≤◌, ◌<◌}
use native.Mathlib.Omega.{arith}
use Rattle.std.specs.Prelude.{Some, None}
use Rattle.definitions.specs.Block.{Block, counts_of_part, from, is_sound, part_of}
use Rattle.definitions.specs.Turn.{next_name, held_after, served}
use Rattle.definitions.proofs.Turn.{next_range, held_zero, held_suc, held_sound}
use Rattle.turns.specs.Names.{ServedBy}

-- ---- the loop: so many names were tried, none of them held, and name is the last of them
pub record Looking (counts : List ℕ) (last name tried : ℕ) : Type 0 where
  pub most : tried ≤ 8
  pub same : (b : Block) → b.counts ≡ counts → served b last ≡ held_after (8 - tried) b name

pub looking_starts : (counts : List ℕ) (last : ℕ) → Looking counts last last 0
looking_starts counts last = record { most = omega arith; same = λ b e. refl }

module _ {counts : List ℕ} {last name tried : ℕ} (i : Looking counts last name tried) where
  module _ (l : tried < 8) where
    -- the test of the next name decides
    one_more : (held : Bool) → is_sound (from ((next_name name - 1) * counts_of_part) counts_of_part counts) ≡ held → (b : Block) → b.counts ≡ counts → served b last ≡ cond held (next_name name) (held_after (8 - (tried + 1)) b (next_name name))
    one_more held e b c =
        i.same b c
        ∙ ap (λ (k : ℕ). held_after k b name) (left tried l)
        ∙ held_suc (8 - (tried + 1)) b name
        ∙ ap (λ (h : Bool). cond h (next_name name) (held_after (8 - (tried + 1)) b (next_name name))) (held_sound (part_of b (next_name name)) ∙ ap (λ (xs : List ℕ). is_sound (from ((next_name name - 1) * counts_of_part) counts_of_part xs)) c ∙ e)
      where
        left : (tried : ℕ) → tried < 8 → 8 - tried ≡ suc (8 - (tried + 1))
        left tried l = omega arith

    pub looking_found : is_sound (from ((next_name name - 1) * counts_of_part) counts_of_part counts) ≡ true → ServedBy counts last (Some (next_name name))
    looking_found e = ((next_range name).0, λ b c. sym (one_more true e b c))

    pub looking_on : is_sound (from ((next_name name - 1) * counts_of_part) counts_of_part counts) ≡ false → Looking counts last (next_name name) (tried + 1)
    looking_on e = record { most = omega (arith, l); same = λ b c. one_more false e b c }

  pub looking_none : 8 ≤ tried → ServedBy counts last None
  looking_none l b c = sym (i.same b c ∙ ap (λ (k : ℕ). held_after k b name) (none tried l) ∙ held_zero b name)
    where
      none : (tried : ℕ) → 8 ≤ tried → 8 - tried ≡ 0
      none tried l = omega arith
