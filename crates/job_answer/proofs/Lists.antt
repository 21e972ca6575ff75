-- The text of a list out of the slices at exit is the text of the specification's list. Assumes nothing.
use mathlib.Core.Path.{◌≡◌, refl, ap, sym, ◌∙◌}
use mathlib.Core.List.{List, [], ◌∷◌, ◌++◌, map, append_assoc}
use Prim.Native.Nat.{ℕ, zero, suc, ◌+◌, ◌*◌, ◌≤◌}
use native.Mathlib.Nat.{suc-mul, zero-mul, add_comm}
use native.Mathlib.Omega.{arith}
use lib.ListN.{length, get_or, take, drop, length-append, length-drop, length-map}
use lib.Seq.{take_at, drop-append-add}
use lib.IntN.{ℤ}
use lib.Ieee.{Float, nan}
use Rattle.definitions.specs.Listing.{ListPoint}
use Rattle.definitions.specs.Calls.{Answer, found, refused, points_in, coordinates, list_distances, list_points}
use Rattle.definitions.specs.Calls as C
use Rattle.definitions.specs.Refusals.{Refusal}
use Rattle.std.specs.Prelude.{Result, Ok, Err}
use Rattle.refusals.specs.declared.Refusal.{Refusal as Told}
use Rattle.refusals.specs.Numbers.{numbered}
use Rattle.definitions.specs.Ratio.{Ratio, ratio, list_ratio}
use Rattle.definitions.specs.JobText.{text, refusal_line, list_lines, ratio_line}
use Rattle.definitions.proofs.ListedOrder.{Listed}
use Rattle.definitions.proofs.Ratios.{ratio_of_written}
use Rattle.lists.specs.All.{All, more}
use Rattle.definitions.specs.Rows.{row, rows}
use Rattle.listing.specs.declared.ListFound.{ListFound}
use Rattle.listing.specs.View.{Counts, counts_of, list_answer, ListAnswered}
use Rattle.job_answer.specs.Texts.{list_text, points_of}

-- ---- points that lie one after another
module _ (n : ℕ) (p : ListPoint) (ds : List Float) (zs : List ℤ) (own : length p.point ≡ n) where
  later : (i : ℕ) → row n (p.distance ∷ ds) (p.point ++ zs) (suc i) ≡ row n ds zs i
  later i =
      let there : suc i * n ≡ length p.point + i * n = suc-mul i n ∙ add_comm (i * n) n ∙ ap (λ (k : ℕ). k + i * n) (sym own) in
      ap (λ (xs : List ℤ). record { distance = get_or ds i nan; point = take n xs })
      (ap (λ (k : ℕ). drop k (p.point ++ zs)) there ∙ drop-append-add p.point zs (i * n))

  first : row n (p.distance ∷ ds) (p.point ++ zs) 0 ≡ p
  first = ap (λ (xs : List ℤ). record { distance = p.distance; point = xs }) (ap (λ (k : ℕ). take n (drop k (p.point ++ zs))) (zero-mul n) ∙ take_at p.point zs n own)

  rows_more : (k : ℕ) → rows n (suc k) (p.distance ∷ ds) (p.point ++ zs) ≡ p ∷ rows n k ds zs
  unfolding rows
  rows_more zero = ap (λ (q : ListPoint). q ∷ []) first
  rows_more (suc k) = ap (λ (qs : List ListPoint). qs ++ row n (p.distance ∷ ds) (p.point ++ zs) (suc k) ∷ []) (rows_more k) ∙ ap (λ (q : ListPoint). p ∷ (rows n k ds zs ++ q ∷ [])) (later k)

rows_back : (n : ℕ) (ps : List ListPoint) → All (Listed n) ps → (ds : List Float) (zs : List ℤ) → rows n (length ps) (map (λ (p : ListPoint). p.distance) ps ++ ds) (coordinates ps ++ zs) ≡ ps
unfolding rows coordinates
rows_back n [] all ds zs = refl
rows_back n (p ∷ ps) (more l all) ds zs =
    ap (λ (xs : List ℤ). rows n (suc (length ps)) (p.distance ∷ (map (λ (q : ListPoint). q.distance) ps ++ ds)) xs) (append_assoc p.point (coordinates ps) zs)
    ∙ rows_more n p (map (λ (q : ListPoint). q.distance) ps ++ ds) (coordinates ps ++ zs) l.coordinates (length ps)
    ∙ ap (λ (qs : List ListPoint). p ∷ qs) (rows_back n ps all ds zs)

-- ---- the code's answer and the specification's
abbrev counts_in : Answer Counts → Counts
counts_in (found c) = c
counts_in (refused e) = record { nodes = 0; points = 0 }

module _ (ds : List Float) (zs : List ℤ) where
  lines : (n : ℕ) (answer : Result ListFound Told) (L : Answer C.ListAnswer) → list_answer answer ≡ counts_of L → ((a : C.ListAnswer) → L ≡ found a → All (Listed n) a.points) → list_text answer n (list_distances L ds) (list_points L zs) ≡ list_lines L
  unfolding list_lines list_distances list_points
  lines n (Ok f) (found a) same all =
      let nodes : f.nodes ≡ a.nodes = ap (λ (x : Answer Counts). (counts_in x).nodes) same in
      let count : f.points ≡ length a.points = ap (λ (x : Answer Counts). (counts_in x).points) same in
      let new = map (λ (p : ListPoint). p.distance) a.points in
      let back = rows_back n a.points (all a refl) (drop (length new) ds) (drop (length (coordinates a.points)) zs) in
      cc
  lines n (Ok f) (refused e) same all = let z : ◌≡◌ {A = ℕ} 0 1 = cc in absurd (omega arith)
  lines n (Err e) (found a) same all = let z : ◌≡◌ {A = ℕ} 0 1 = cc in absurd (omega arith)
  lines n (Err e) (refused d) same all = let equal : numbered e ≡ d = cc in ap (λ (r : Refusal). refusal_line (text "list") r.number) equal

  count_said : (answer : Result ListFound Told) (L : Answer C.ListAnswer) → list_answer answer ≡ counts_of L → points_of answer ≡ points_in L
  count_said (Ok f) (found a) same = ap (λ (x : Answer Counts). (counts_in x).points) same
  count_said (Ok f) (refused e) same = let z : ◌≡◌ {A = ℕ} 0 1 = cc in absurd (omega arith)
  count_said (Err e) (found a) same = let z : ◌≡◌ {A = ℕ} 0 1 = cc in absurd (omega arith)
  count_said (Err e) (refused d) same = refl

  few : (answer : Result ListFound Told) (L : Answer C.ListAnswer) → list_answer answer ≡ counts_of L → length (list_distances L ds) ≡ length ds → points_of answer ≤ length ds
  unfolding list_distances
  few (Ok f) (found a) same kept =
      let count : f.points ≡ length a.points = ap (λ (x : Answer Counts). (counts_in x).points) same in
      let new = map (λ (p : ListPoint). p.distance) a.points in
      let l = length-append new (drop (length new) ds) in
      let d = length-drop (length new) ds in
      let m = length-map a.points (λ (p : ListPoint). p.distance) in
      omega (arith, count, l, d, m, kept)
  few (Ok f) (refused e) same kept = let z : ◌≡◌ {A = ℕ} 0 1 = cc in absurd (omega arith)
  few (Err e) L same kept = omega arith

module _ {L : Answer C.ListAnswer} {ds : List Float} {zs : List ℤ} {answer : Result ListFound Told} {ds' : List Float} {zs' : List ℤ} (a : ListAnswered L answer ds ds' zs zs') where
  -- no more points than places
  pub points_few : length ds' ≡ length ds → points_of answer ≤ length ds
  points_few kept = few ds zs answer L a.tells (sym (ap length a.writes_distances) ∙ kept)

  -- the lines of the list and the ratio's, the slices lent on holding what the call left
  pub part_text : (p q : ℕ) (R : Float) {n : ℕ} {ds'' first : List Float} {zs'' : List ℤ} {said : Ratio} → ((b : C.ListAnswer) → L ≡ found b → All (Listed n) b.points) → ds'' ≡ ds' → zs'' ≡ zs' → first ≡ take (points_of answer) ds' → said ≡ ratio p q first R → list_text answer n ds'' zs'' ++ ratio_line said ≡ list_lines L ++ ratio_line (list_ratio p q L R)
  part_text p q R {n} {ds''} {first} {zs''} {said} all same_distances same_points those verdict =
      let l = lines ds zs n answer L a.tells all in
      let k = count_said ds zs answer L a.tells in
      let r = ratio_of_written p q R L ds in
      let d = a.writes_distances in
      let w = a.writes_points in
      cc
