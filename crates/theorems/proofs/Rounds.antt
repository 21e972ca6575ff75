-- The name that a turn serves: the next held one in the round of the names. Assumes nothing.
use mathlib.Core.Path.{◌≡◌, refl, sym, ap, ◌∙◌, subst}
use mathlib.Core.Bool.{Bool, true, false, cond}
use mathlib.Core.Logic.{◌⊎◌, inl, inr}
use Prim.Native.Nat.{ℕ, zero, suc, ◌+◌, ◌-◌, ◌≤◌, ◌<◌}
use native.Mathlib.Omega.{arith}
use lib.Dec.{leb, ltb, eqb}
use borrow.Author.Tests.{leb-true, leb-false, ltb-true, ltb-false, eqb-true, eqb-false}
use Rattle.definitions.specs.Kept.{Held, Slot, free, holds}
use Rattle.definitions.specs.Block.{Block, slot_in}
use Rattle.definitions.specs.Turn.{next_name, is_held, held_after, served}
use Rattle.definitions.proofs.Turn.{next_range, held_zero, held_suc}
use Rattle.theorems.specs.Kept.{IsName}
use Rattle.theorems.specs.Turns.{last_name, names_on, NextHeld}
use Rattle.theorems.proofs.KeptLists.{holds≢free}

-- ---- names in a round

-- what namesOn is, by the order of the two
abbrev On : ℕ → ℕ → ℕ → Type 0
On x a w = ((x < a) × (w ≡ a - x)) ⊎ ((a ≤ x) × (w ≡ 8 + a - x))

on_of : (x a : ℕ) → On x a (names_on x a)
on_of x a = go (ltb x a) refl
  where
    go : (b : Bool) → ltb x a ≡ b → On x a (names_on x a)
    go true e = inl (ltb-true x a e, ap (λ (b : Bool). cond b (a - x) (8 + a - x)) e)
    go false e = inr (ltb-false x a e, ap (λ (b : Bool). cond b (a - x) (8 + a - x)) e)

abbrev Next : ℕ → ℕ → Type 0
Next x y = ((x < 8) × (y ≡ suc x)) ⊎ ((8 ≤ x) × (y ≡ 1))

next_of : (x : ℕ) → Next x (next_name x)
next_of x = go (ltb x 8) refl
  where
    go : (b : Bool) → ltb x 8 ≡ b → Next x (next_name x)
    go true e = inl (ltb-true x 8 e, ap (λ (b : Bool). cond b (suc x) 1) e)
    go false e = inr (ltb-false x 8 e, ap (λ (b : Bool). cond b (suc x) 1) e)

-- the next name is one, whatever number it follows
pub next_is_name : (x : ℕ) → IsName (next_name x)
next_is_name x = record { least = (next_range x).0; most = (next_range x).1 }

pub on_self : (a : ℕ) → names_on a a ≡ 8
on_self a = go (names_on a a) (on_of a a)
  where
    go : (w : ℕ) → On a a w → w ≡ 8
    go w (inl q) = absurd (omega (arith, q.0))
    go w (inr q) = let e = q.1 in omega arith

module _ (a : ℕ) (is : IsName a) where
  -- from a name to a name it is from 1 to 8
  pub on_range : (x : ℕ) → IsName x → (1 ≤ names_on x a) × (names_on x a ≤ 8)
  on_range x i = go (names_on x a) (on_of x a)
    where
      go : (w : ℕ) → On x a w → (1 ≤ w) × (w ≤ 8)
      go w (inl q) = omega arith
      go w (inr q) = omega arith

  -- one less from the next name, unless that is it
  on_next : (x : ℕ) → IsName x → (next_name x ≡ a → ⊥) → names_on x a ≡ suc (names_on (next_name x) a)
  on_next x i d = go (next_name x) (names_on x a) (names_on (next_name x) a) d (next_of x) (on_of x a) (on_of (next_name x) a)
    where
      go : (y w v : ℕ) → (y ≡ a → ⊥) → Next x y → On x a w → On y a v → w ≡ suc v
      go y w v d (inl p) (inl q) (inl r) = omega arith
      go y w v d (inl p) (inl q) (inr r) = absurd (d (omega arith))
      go y w v d (inl p) (inr q) (inl r) = absurd (omega arith)
      go y w v d (inl p) (inr q) (inr r) = omega arith
      go y w v d (inr p) (inl q) (inl r) = absurd (omega arith)
      go y w v d (inr p) (inl q) (inr r) = absurd (omega arith)
      go y w v d (inr p) (inr q) (inl r) = omega arith
      go y w v d (inr p) (inr q) (inr r) = absurd (d (omega arith))

  -- from a name that comes no later, and is another, it is less
  on_less : (x r : ℕ) → IsName x → IsName r → (a ≡ r → ⊥) → names_on x r ≤ names_on x a → names_on r a < names_on x a
  on_less x r i j d l = go (names_on x r) (names_on x a) (names_on r a) l (on_of x r) (on_of x a) (on_of r a)
    where
      go : (v w u : ℕ) → v ≤ w → On x r v → On x a w → On r a u → u < w
      go v w u l (inl p) (inl q) (inl s) = omega arith
      go v w u l (inl p) (inl q) (inr s) = absurd (d (omega arith))
      go v w u l (inl p) (inr q) (inl s) = absurd (omega arith)
      go v w u l (inl p) (inr q) (inr s) = omega arith
      go v w u l (inr p) (inl q) (inl s) = absurd (omega arith)
      go v w u l (inr p) (inl q) (inr s) = absurd (omega arith)
      go v w u l (inr p) (inr q) (inl s) = omega arith
      go v w u l (inr p) (inr q) (inr s) = absurd (d (omega arith))

-- the next name is the first
on_first : (x : ℕ) → IsName x → names_on x (next_name x) ≡ 1
on_first x i = go (next_name x) (names_on x (next_name x)) (next_of x) (on_of x (next_name x))
  where
    go : (y w : ℕ) → Next x y → On x y w → w ≡ 1
    go y w (inl p) (inl q) = omega arith
    go y w (inl p) (inr q) = absurd (omega arith)
    go y w (inr p) (inl q) = absurd (omega arith)
    go y w (inr p) (inr q) = omega arith

-- ---- the name last served
last_of : (last : ℕ) → (IsName last × (last_name last ≡ last)) ⊎ (((last ≡ 0) ⊎ (8 < last)) × (last_name last ≡ 8))
last_of last = go (leb 1 last) (leb last 8) refl refl
  where
    go : (b c : Bool) → leb 1 last ≡ b → leb last 8 ≡ c → (IsName last × (last_name last ≡ last)) ⊎ (((last ≡ 0) ⊎ (8 < last)) × (last_name last ≡ 8))
    go true true p q = inl (record { least = leb-true 1 last p; most = leb-true last 8 q }, cc)
    go true false p q = inr (inr (leb-false last 8 q), cc)
    go false c p q = inr (inl (omega (arith, leb-false 1 last p)), cc)

pub last_is_name : (last : ℕ) → IsName (last_name last)
last_is_name last = go (last_name last) (last_of last)
  where
    go : (y : ℕ) → (IsName last × (y ≡ last)) ⊎ (((last ≡ 0) ⊎ (8 < last)) × (y ≡ 8)) → IsName y
    go y (inl q) = subst IsName (sym q.1) q.0
    go y (inr q) = let e = q.1 in record { least = omega arith; most = omega arith }

pub name_is_last : (last : ℕ) → IsName last → last_name last ≡ last
name_is_last last i = go (last_name last) (last_of last)
  where
    go : (y : ℕ) → (IsName last × (y ≡ last)) ⊎ (((last ≡ 0) ⊎ (8 < last)) × (y ≡ 8)) → y ≡ last
    go y (inl q) = q.1
    go y (inr (inl e, q)) = absurd (omega arith)
    go y (inr (inr e, q)) = absurd (omega arith)

-- the next name is the same for the number handed in and for the name that it stands for
pub next_of_last : (last : ℕ) → next_name (last_name last) ≡ next_name last
next_of_last last = go (last_name last) (next_name (last_name last)) (next_name last) (last_of last) (next_of (last_name last)) (next_of last)
  where
    go : (x y z : ℕ) → (IsName last × (x ≡ last)) ⊎ (((last ≡ 0) ⊎ (8 < last)) × (x ≡ 8)) → Next x y → Next last z → y ≡ z
    go x y z (inl q) (inl r) (inl s) = omega arith
    go x y z (inl q) (inl r) (inr s) = absurd (omega arith)
    go x y z (inl q) (inr r) (inl s) = absurd (omega arith)
    go x y z (inl q) (inr r) (inr s) = omega arith
    go x y z (inr (inl e, q)) (inl r) s = absurd (omega arith)
    go x y z (inr (inl e, q)) (inr r) (inl s) = omega arith
    go x y z (inr (inl e, q)) (inr r) (inr s) = absurd (omega arith)
    go x y z (inr (inr e, q)) (inl r) s = absurd (omega arith)
    go x y z (inr (inr e, q)) (inr r) (inl s) = absurd (omega arith)
    go x y z (inr (inr e, q)) (inr r) (inr s) = omega arith

pub served_of_last : (b : Block) (last : ℕ) → served b (last_name last) ≡ served b last
served_of_last b last =
    held_suc 7 b (last_name last)
    ∙ ap (λ (x : ℕ). cond (is_held (slot_in b x)) x (held_after 7 b x)) (next_of_last last)
    ∙ sym (held_suc 7 b last)

-- ---- the first held name of some
module _ (b : Block) where
  -- a name that holds a search
  abbrev HeldName : ℕ → Type 0
  HeldName name = IsName name × ((h : Held) × (slot_in b name ≡ holds h))

  held_next : (k x : ℕ) (h : Held) → slot_in b (next_name x) ≡ holds h → held_after (suc k) b x ≡ next_name x
  held_next k x h e = held_suc k b x ∙ ap (λ (s : Slot). cond (is_held s) (next_name x) (held_after k b (next_name x))) e

  free_next : (k x : ℕ) → slot_in b (next_name x) ≡ free → held_after (suc k) b x ≡ held_after k b (next_name x)
  free_next k x e = held_suc k b x ∙ ap (λ (s : Slot). cond (is_held s) (next_name x) (held_after k b (next_name x))) e

  none_held_lem : ((name : ℕ) → IsName name → slot_in b name ≡ free) → (k x : ℕ) → held_after k b x ≡ 0
  none_held_lem f zero x = held_zero b x
  none_held_lem f (suc k) x = free_next k x (f (next_name x) (next_is_name x)) ∙ none_held_lem f k (next_name x)

  -- it is 0, or a held name
  some_held : (k x : ℕ) → (held_after k b x ≡ 0) ⊎ HeldName (held_after k b x)
  some_held zero x = inl (held_zero b x)
  some_held (suc k) x = go (slot_in b (next_name x)) refl (some_held k (next_name x))
    where
      go : (s : Slot) → slot_in b (next_name x) ≡ s → (held_after k b (next_name x) ≡ 0) ⊎ HeldName (held_after k b (next_name x)) → (held_after (suc k) b x ≡ 0) ⊎ HeldName (held_after (suc k) b x)
      go (holds h) e later = inr (subst HeldName (sym (held_next k x h e)) (next_is_name x, (h, e)))
      go free e later = subst (λ (r : ℕ). (r ≡ 0) ⊎ HeldName r) (sym (free_next k x e)) later

  module _ (a : ℕ) (is : IsName a) (g : Held) (holding : slot_in b a ≡ holds g) where
    -- if a held name is among them, it is held and comes no later than that
    abbrev First : ℕ → ℕ → Type 0
    First x r = HeldName r × (names_on x r ≤ names_on x a)

    first_held : (k x : ℕ) → IsName x → names_on x a ≤ k → First x (held_after k b x)
    first_held zero x i w = absurd (none (names_on x a) w (on_range a is x i).0)
      where
        none : (v : ℕ) → v ≤ 0 → 1 ≤ v → ⊥
        none v p q = omega arith
    first_held (suc k) x i w = go (slot_in b (next_name x)) refl (first_held k (next_name x) (next_is_name x))
      where
        fewer : (v u : ℕ) → v ≤ suc k → v ≡ suc u → u ≤ k
        fewer v u p e = omega arith

        no_later : (v u w z : ℕ) → v ≡ suc u → w ≡ suc z → u ≤ z → v ≤ w
        no_later v u w z p q l = omega arith

        go : (s : Slot) → slot_in b (next_name x) ≡ s → (names_on (next_name x) a ≤ k → First (next_name x) (held_after k b (next_name x))) → First x (held_after (suc k) b x)
        go (holds h) e later = subst (First x) (sym (held_next k x h e)) ((next_is_name x, (h, e)), subst (λ (v : ℕ). v ≤ names_on x a) (sym (on_first x i)) (on_range a is x i).0)
        go free e later = subst (First x) (sym (free_next k x e)) (q.0, no_later (names_on x r) (names_on (next_name x) r) (names_on x a) (names_on (next_name x) a) (on_next r q.0.0 x i (apart r q.0.1.0 q.0.1.1)) (on_next a is x i (apart a g holding)) q.1)
          where
            -- a held name is not the next, which is free
            apart : (y : ℕ) (h : Held) → slot_in b y ≡ holds h → next_name x ≡ y → ⊥
            apart y h p q = holds≢free (sym p ∙ ap (slot_in b) (sym q) ∙ e)

            r : ℕ
            r = held_after k b (next_name x)

            q : First (next_name x) (held_after k b (next_name x))
            q = later (fewer (names_on x a) (names_on (next_name x) a) w (on_next a is x i (apart a g holding)))

    served_first : (last : ℕ) → First (last_name last) (served b last)
    served_first last = subst (First (last_name last)) (served_of_last b last) (first_held 8 (last_name last) (last_is_name last) (on_range a is (last_name last) (last_is_name last)).1)

-- ---- the name that a turn serves

-- if some name is held, it is the next held one
pub next_held : (b : Block) (last : ℕ) (a : ℕ) → IsName a → (h : Held) → slot_in b a ≡ holds h → NextHeld b last (served b last)
next_held b last a is h e =
    let q = served_first b a is h e last in
    record { is_name = q.0.0; held = q.0.1; soonest = λ other i g f. (served_first b other i g f last).1 }

-- if none is held, it is 0
pub none_served : (b : Block) (last : ℕ) → ((name : ℕ) → IsName name → slot_in b name ≡ free) → served b last ≡ 0
none_served b last f = none_held_lem b f 8 last

-- and if it is not 0, it is held
pub served_held : (b : Block) (last : ℕ) → (served b last ≡ 0 → ⊥) → (name : ℕ) × IsName name × ((h : Held) × (slot_in b name ≡ holds h))
served_held b last d = go (some_held b 8 last)
  where
    go : (served b last ≡ 0) ⊎ (IsName (served b last) × ((h : Held) × (slot_in b (served b last) ≡ holds h))) → (name : ℕ) × IsName name × ((h : Held) × (slot_in b name ≡ holds h))
    go (inl e) = absurd (d e)
    go (inr q) = (served b last, q.0, q.1)

-- of a held name, it is that name, or another that comes before it in the round
pub turn_serves : (b : Block) (last : ℕ) (a : ℕ) → IsName a → (h : Held) → slot_in b a ≡ holds h → (served b last ≡ a) ⊎ (IsName (served b last) × (names_on (served b last) a < names_on (last_name last) a) × (a ≡ served b last → ⊥))
turn_serves b last a is h e = go (eqb (served b last) a) refl (served_first b a is h e last)
  where
    go : (c : Bool) → eqb (served b last) a ≡ c → First b a is h e (last_name last) (served b last) → (served b last ≡ a) ⊎ (IsName (served b last) × (names_on (served b last) a < names_on (last_name last) a) × (a ≡ served b last → ⊥))
    go true c q = inl (eqb-true (served b last) a c)
    go false c q = let d : (a ≡ served b last → ⊥) = λ r. eqb-false (served b last) a c (sym r) in inr (q.0.0, on_less a is (last_name last) (served b last) (last_is_name last) q.0.0 d q.1, d)
