-- `nearest_plane` a level at a time: the integers and what is left stand in two arrays from the level up. Assumes nothing.
use mathlib.Core.Path.{◌≡◌, refl, ap, sym, ◌∙◌}
use mathlib.Core.List.{List, [], ◌∷◌}
use Prim.Native.Nat.{ℕ, suc, ◌+◌, ◌<◌, ◌≤◌}
use native.Mathlib.Omega.{arith}
use lib.ListN.{length, set}
use lib.Seq.{take_all}
use lib.IntN.{ℤ}
use lib.Ieee.{Float, binary64, sub}
use Rattle.rounding.specs.Integers.{to_double, round_away}
use Rattle.definitions.specs.Table.{Table, dimension, coordinate}
use Rattle.definitions.specs.Seeds.{sum_from, Plane, plane_level, plane_levels, nearest_plane}
use Rattle.lists.specs.Places.{places}
use Rattle.lists.proofs.Places.{places_none, places_set}

abbrev pub plane_of : List ℤ → List Float → Plane
plane_of zs rest = record { point = zs; left = rest }

levels_none : (t : Table) (xs : List Float) (s : Plane) → plane_levels t xs 0 s ≡ s
unfolding plane_levels
levels_none t xs s = refl

levels_one : (t : Table) (xs : List Float) (i : ℕ) (s : Plane) → plane_levels t xs (suc i) s ≡ plane_levels t xs i (plane_level t xs i s)
unfolding plane_levels
levels_one t xs i s = refl

level_is : (t : Table) (xs : List Float) (i : ℕ) (s : Plane) → plane_level t xs i s ≡ plane_of (round_away (sum_from (dimension t) t.mu i (suc i) s.left (coordinate xs i)) ∷ s.point) (sub binary64 (coordinate xs i) (to_double (round_away (sum_from (dimension t) t.mu i (suc i) s.left (coordinate xs i)))) ∷ s.left)
unfolding plane_level
level_is t xs i s = refl

plane_is : (t : Table) (xs : List Float) → nearest_plane t xs ≡ plane_levels t xs (dimension t) (plane_of [] [])
unfolding nearest_plane
plane_is t xs = refl

-- xs are the coefficients at the start; the arrays hold the levels from `depth` up
module _ (t : Table) (xs : List Float) where
  abbrev pub held : ℕ → List ℤ → List Float → Plane
  held depth out left = plane_of (places (dimension t) depth out) (places (dimension t) depth left)

  pub plane_start : (out : List ℤ) (left : List Float) → dimension t ≤ length out → dimension t ≤ length left → plane_levels t xs (dimension t) (held (dimension t) out left) ≡ nearest_plane t xs
  plane_start out left p q =
      ap (λ (zs : List ℤ). plane_levels t xs (dimension t) (plane_of zs (places (dimension t) (dimension t) left))) (places_none (dimension t) out p (dimension t) (omega arith))
      ∙ ap (λ (l : List Float). plane_levels t xs (dimension t) (plane_of [] l)) (places_none (dimension t) left q (dimension t) (omega arith))
      ∙ sym (plane_is t xs)

  module _ (out : List ℤ) (left : List Float) (p : dimension t ≤ length out) (q : dimension t ≤ length left) (depth i : ℕ) (deep : depth ≡ i + 1) (low : i < dimension t) (x : Float) (own : x ≡ coordinate xs i) (v : Float) (along : v ≡ sum_from (dimension t) t.mu i (i + 1) (places (dimension t) (i + 1) left) x) (z : ℤ) (chosen : z ≡ round_away v) (d : Float) (converted : d ≡ to_double z) where
    chosen_is : z ≡ round_away (sum_from (dimension t) t.mu i (suc i) (places (dimension t) depth left) (coordinate xs i))
    chosen_is =
        let s : i + 1 ≡ suc i = omega arith in
        chosen ∙ ap round_away
        (along ∙ ap (sum_from (dimension t) t.mu i (i + 1) (places (dimension t) (i + 1) left)) own
        ∙ ap (λ (k : ℕ). sum_from (dimension t) t.mu i (i + 1) (places (dimension t) k left) (coordinate xs i)) (sym deep)
        ∙ ap (λ (k : ℕ). sum_from (dimension t) t.mu i k (places (dimension t) depth left) (coordinate xs i)) s)

    held_turn : held i (set out i z) (set left i (sub binary64 x d)) ≡ plane_level t xs i (held depth out left)
    held_turn =
        ap (λ (zs : List ℤ). plane_of zs (places (dimension t) i (set left i (sub binary64 x d)))) (places_set (dimension t) out p i z low)
        ∙ ap (λ (l : List Float). plane_of (z ∷ places (dimension t) (i + 1) out) l) (places_set (dimension t) left q i (sub binary64 x d) low)
        ∙ ap (λ (k : ℕ). plane_of (z ∷ places (dimension t) k out) (sub binary64 x d ∷ places (dimension t) k left)) (sym deep)
        ∙ ap (λ (y : Float). plane_of (z ∷ places (dimension t) depth out) (sub binary64 x y ∷ places (dimension t) depth left)) converted
        ∙ ap (λ (y : Float). plane_of (z ∷ places (dimension t) depth out) (sub binary64 y (to_double z) ∷ places (dimension t) depth left)) own
        ∙ ap (λ (y : ℤ). plane_of (y ∷ places (dimension t) depth out) (sub binary64 (coordinate xs i) (to_double y) ∷ places (dimension t) depth left)) chosen_is
        ∙ sym (level_is t xs i (held depth out left))

    pub plane_turn : plane_levels t xs depth (held depth out left) ≡ nearest_plane t xs → plane_levels t xs i (held i (set out i z) (set left i (sub binary64 x d))) ≡ nearest_plane t xs
    plane_turn h =
        let s : suc i ≡ depth = omega arith in
        ap (plane_levels t xs i) held_turn ∙ sym (levels_one t xs i (held depth out left)) ∙ ap (λ (k : ℕ). plane_levels t xs k (held depth out left)) s ∙ h

  pub plane_end : (out : List ℤ) (left : List Float) (depth : ℕ) → depth ≡ 0 → length out ≡ dimension t → length left ≡ dimension t → plane_levels t xs depth (held depth out left) ≡ nearest_plane t xs → plane_of out left ≡ nearest_plane t xs
  plane_end out left depth none p q h =
      sym (ap (λ (zs : List ℤ). plane_of zs (places (dimension t) 0 left)) (take_all (dimension t) out (omega arith)) ∙ ap (plane_of out) (take_all (dimension t) left (omega arith)))
      ∙ sym (levels_none t xs (held 0 out left)) ∙ ap (λ (k : ℕ). plane_levels t xs k (held k out left)) (sym none) ∙ h
