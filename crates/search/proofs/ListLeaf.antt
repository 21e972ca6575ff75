-- The leaf of `list`: the places of the lent list, as points are stored in them. Assumes nothing.
use mathlib.Core.Path.{◌≡◌, refl, ap, sym, ◌∙◌}
use mathlib.Core.Bool.{Bool, true, false, cond}
use mathlib.Core.List.{List, [], ◌∷◌, ◌++◌, append_assoc}
use Prim.Native.Nat.{ℕ, zero, suc, ◌+◌, ◌*◌, ◌<◌, ◌≤◌, min}
use native.Mathlib.Nat.{mul-le-mul_right, add-mul}
use native.Mathlib.Numerals.{add-one}
use native.Mathlib.Omega.{arith}
use lib.Dec.{ltb}
use lib.IntN.{ℤ}
use lib.ListN.{length, get_or, set, take, drop, length-drop, length-set, take-append-drop}
use lib.Seq.{take-append-le, drop-append-le, take_at, drop_at, length-take-le, get_or-set_same, get_or-set_other}
use lib.Ieee.{Float, nan}
use borrow.Author.Tests.{lt-ltb, le-ltb}
use Rattle.lists.specs.Over.{over}
use Rattle.lists.proofs.Over.{over_length}
use Rattle.definitions.specs.Walk.{Walked, ended}
use Rattle.definitions.specs.Nearest.{no_best}
use Rattle.definitions.specs.Listing.{ListPoint}
use Rattle.search.specs.Kept.{Kept, leaf}
use Rattle.search.specs.declared.RecursiveSearch.{RecursiveSearch}
use Rattle.definitions.specs.Rows.{row, rows}
use Rattle.search.specs.View.{carried, kept, seen, Pushed}

rows_suc : (n k : ℕ) (ds : List Float) (ps : List ℤ) → rows n (suc k) ds ps ≡ rows n k ds ps ++ row n ds ps k ∷ []
unfolding rows
rows_suc n k ds ps = refl

pub rows_zero : (n : ℕ) (ds : List Float) (ps : List ℤ) → rows n zero ds ps ≡ []
unfolding rows
rows_zero n ds ps = refl

-- ---- lists whose rows agree
rows_same : (n k : ℕ) (ds es : List Float) (ps qs : List ℤ) → ((i : ℕ) → i < k → row n ds ps i ≡ row n es qs i) → rows n k ds ps ≡ rows n k es qs
rows_same n zero ds es ps qs h = rows_zero n ds ps ∙ sym (rows_zero n es qs)
rows_same n (suc k) ds es ps qs h =
    rows_suc n k ds ps
    ∙ ap (λ (r : List ListPoint). r ++ row n ds ps k ∷ []) (rows_same n k ds es ps qs (λ i l. h i (omega arith)))
    ∙ ap (λ (r : ListPoint). rows n k es qs ++ r ∷ []) (h k (omega arith))
    ∙ sym (rows_suc n k es qs)

-- ---- a place set
-- n elements that lie in the front part
front : (n j : ℕ) (xs ys : List ℤ) → j + n ≤ length xs → take n (drop j (xs ++ ys)) ≡ take n (drop j xs)
front n j xs ys h =
    let a : j ≤ length xs = omega arith in
    let b : n ≤ length (drop j xs) = simp length-drop (omega arith) in
    ap (λ (l : List ℤ). take n l) (drop-append-le j xs ys a) ∙ take-append-le n (drop j xs) ys b

-- a place lies in the lent points
pub inside : (n at : ℕ) (ds : List Float) (ps : List ℤ) → at < length ds → length ps ≡ length ds * n → at * n + n ≤ length ps
inside n at ds ps low points_length = let h : (at + 1) * n ≤ length ds * n = mul-le-mul_right n (omega arith) in omega (arith, add-mul at 1 n)

module _ (n at : ℕ) (ds : List Float) (ps point : List ℤ) (d : Float) (low : at < length ds) (points_length : length ps ≡ length ds * n) (long : n ≤ length point) where
  room : at * n + n ≤ length ps
  room = inside n at ds ps low points_length

  abbrev ps' : List ℤ
  ps' = over ps (at * n) (take n point)

  abbrev behind : List ℤ
  behind = drop (at * n + length (take n point)) ps

  below : (i : ℕ) → i < at → take n (drop (i * n) ps') ≡ take n (drop (i * n) ps)
  below i l =
      let h : (i + 1) * n ≤ at * n = mul-le-mul_right n (omega arith) in
      let j : i * n + n ≤ length (take (at * n) ps) = omega (arith, add-mul i 1 n, room, length-take-le (at * n) ps (omega (arith, room))) in
      ap (λ (x : List ℤ). take n (drop (i * n) x)) (append_assoc (take (at * n) ps) (take n point) behind)
      ∙ front n (i * n) (take (at * n) ps) (take n point ++ behind) j
      ∙ sym (front n (i * n) (take (at * n) ps) (drop (at * n) ps) j)
      ∙ ap (λ (x : List ℤ). take n (drop (i * n) x)) (take-append-drop (at * n) ps)

  here : take n (drop (at * n) ps') ≡ take n point
  here =
      ap (λ (x : List ℤ). take n (drop (at * n) x)) (append_assoc (take (at * n) ps) (take n point) behind)
      ∙ ap (λ (x : List ℤ). take n x) (drop_at (take (at * n) ps) (take n point ++ behind) (at * n) (length-take-le (at * n) ps (omega (arith, room))))
      ∙ take_at (take n point) behind n (length-take-le n point long)

  other : (i : ℕ) → i < at → i ≡ at → ⊥
  other i l e = omega arith

  -- the first `at` places stay, and the next is the point with its distance
  stored_row : rows n (suc at) (set ds at d) ps' ≡ rows n at ds ps ++ record { distance = d; point = take n point } ∷ []
  stored_row =
      rows_suc n at (set ds at d) ps'
      ∙ ap (λ (r : List ListPoint). r ++ row n (set ds at d) ps' at ∷ []) (rows_same n at (set ds at d) ds ps' ps (λ i l. ap (λ (x : Float). record { distance = x; point = take n (drop (i * n) ps') }) (get_or-set_other ds at i d nan (other i l)) ∙ ap (λ (x : List ℤ). record { distance = get_or ds i nan; point = x }) (below i l)))
      ∙ ap (λ (x : Float). rows n at ds ps ++ record { distance = x; point = take n (drop (at * n) ps') } ∷ []) (get_or-set_same ds at d nan low)
      ∙ ap (λ (x : List ℤ). rows n at ds ps ++ record { distance = d; point = x } ∷ []) here

-- ---- the leaf of `list`
pub stores_is : (room : ℕ) (zs : List ℤ) (d : Float) (k : Kept) (R : Float) (m : ℕ) → leaf true room zs d k R m ≡ ended (record { best = k.best; count = suc k.count; stored = cond (ltb k.count room) (k.stored ++ record { distance = d; point = zs } ∷ []) k.stored }) R m
unfolding leaf
stores_is room zs d k R m = refl

module _ (n : ℕ) (s : RecursiveSearch) (found : ℕ) (d : Float) (ds : List Float) (ps : List ℤ) where
  abbrev zs : List ℤ
  zs = take n s.point

  abbrev old : Kept
  old = kept n (carried true s found false) ds ps

  -- what is kept if so much is stored
  abbrev storing : List ListPoint → Walked Kept
  storing l = ended (record { best = no_best; count = suc found; stored = l }) s.radius s.nodes

  leaf_by : (b : Bool) → ltb found (length ds) ≡ b → leaf true (length ds) zs d old s.radius s.nodes ≡ storing (cond b (old.stored ++ record { distance = d; point = zs } ∷ []) old.stored)
  leaf_by b e = stores_is (length ds) zs d old s.radius s.nodes ∙ ap (λ (x : Bool). storing (cond x (old.stored ++ record { distance = d; point = zs } ∷ []) old.stored)) e

  seen_by : (es : List Float) (qs : List ℤ) (j : ℕ) → min (found + 1) (length es) ≡ j → seen n (carried true s (found + 1) false) es qs ≡ storing (rows n j es qs)
  seen_by es qs j e =
      ap (λ (k : ℕ). ended (record { best = no_best; count = k; stored = rows n (min (found + 1) (length es)) es qs }) s.radius s.nodes) (add-one found)
      ∙ ap (λ (k : ℕ). storing (rows n k es qs)) e

  full : length ds ≤ found → seen n (carried true s (found + 1) false) ds ps ≡ leaf true (length ds) zs d old s.radius s.nodes
  full h =
      let a : min (found + 1) (length ds) ≡ min found (length ds) = omega arith in
      seen_by ds ps (min found (length ds)) a ∙ sym (leaf_by false (le-ltb found (length ds) h))

  stored : found < length ds → length ps ≡ length ds * n → n ≤ length s.point → seen n (carried true s (found + 1) false) (set ds found d) (over ps (found * n) zs) ≡ leaf true (length ds) zs d old s.radius s.nodes
  stored h points_length long =
      let a : min (found + 1) (length (set ds found d)) ≡ suc found = omega (arith, length-set ds found d) in
      let b : found ≡ min found (length ds) = omega arith in
      seen_by (set ds found d) (over ps (found * n) zs) (suc found) a
      ∙ ap storing (stored_row n found ds ps s.point d h points_length long)
      ∙ ap (λ (k : ℕ). storing (rows n k ds ps ++ record { distance = d; point = zs } ∷ [])) b
      ∙ sym (leaf_by true (lt-ltb found (length ds) h))

-- what `push` does to the places and to the number found
module _ (n : ℕ) (point : List ℤ) (d : Float) (found : ℕ) (ds : List Float) (ps : List ℤ) where
  -- no place is left
  pub push_full : length ds ≤ found → Pushed n point d found (found + 1) ds ds ps ps
  push_full h = record { seen_as = λ s e. full n s found d ds ps h; counted = refl; distances_length = refl; points_length = refl }

  -- there is one
  pub push_stored : found < length ds → length ps ≡ length ds * n → n ≤ length point → (ps' : List ℤ) → ps' ≡ over ps (found * n) (take n point) → Pushed n point d found (found + 1) ds (set ds found d) ps ps'
  push_stored h points_length long ps' w = record {
    seen_as = λ s e.
        ap (seen n (carried true s (found + 1) false) (set ds found d)) (w ∙ ap (λ (p : List ℤ). over ps (found * n) (take n p)) (sym e))
        ∙ stored n s found d ds ps h points_length (omega (arith, long, ap length e));
    counted = refl;
    distances_length = length-set ds found d;
    points_length = ap length w ∙ over_length ps (found * n) (take n point) (omega (arith, inside n found ds ps h points_length, length-take-le n point long));
  }
