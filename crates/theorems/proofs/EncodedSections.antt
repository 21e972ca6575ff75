-- A section's bytes read as its items, whatever stands before and after them, and five sections and the settings as a job. Assumes nothing.
use mathlib.Core.Path.{◌≡◌, refl, ap, sym, ◌∙◌}
use mathlib.Core.Bool.{Bool, true, cond}
use mathlib.Core.List.{List, [], ◌∷◌, ◌++◌, append_assoc, append-nil}
use Prim.Native.Nat.{ℕ, zero, suc, ◌+◌, ◌*◌, ◌/◌, ◌^◌, ◌≤◌, ◌<◌}
use native.Mathlib.Omega.{arith}
use borrow.Author.Tests.{le-ltb, le-leb, eq-eqb}
use lib.ListN.{length, take, drop, length-append, length-drop}
use lib.Seq.{take_at, drop_at, drop-drop}
use lib.Pow.{shr_lt}
use lib.Dec.{leb, ltb, eqb, lit<}
use lib.Ieee.{binary64, of_bits}
use Rattle.lists.specs.All.{All, none, more}
use Rattle.definitions.specs.Table.{largest_dimension}
use Rattle.definitions.specs.Settings.{defaults}
use Rattle.definitions.specs.JobLayout.{Section, items, little_endian, number_at, items_at, section, settings_section, Layout, job, layout_fault, and_then, doubles, triangle, mu_rows, job_of}
use Rattle.definitions.specs.JobEncoding.{number_bytes, item_bytes, section_bytes}
use Rattle.definitions.proofs.Triangles.{triangle_small}
use Rattle.definitions.proofs.JobSections.{section_whole, settings_given, settings_default}

-- ---- numbers
length_bytes : (size x : ℕ) → length (number_bytes size x) ≡ size
unfolding number_bytes
length_bytes zero x = refl
length_bytes (suc size) x = ap suc (length_bytes size (x / 256))

value_bytes : (size x : ℕ) → x < 2 ^ (8 * size) → little_endian (number_bytes size x) ≡ x
unfolding number_bytes little_endian
value_bytes zero x h = omega arith
value_bytes (suc size) x h =
    let e : 8 * suc size ≡ 8 * size + 8 = omega arith in
    let less : x / 256 < 2 ^ (8 * size) = shr_lt (8 * size) 8 (rw e at h) in
    omega (arith, value_bytes size (x / 256) less)

length_item_bytes : (xs : List ℕ) → length (item_bytes xs) ≡ 8 * length xs
unfolding item_bytes
length_item_bytes [] = refl
length_item_bytes (x ∷ xs) = omega (arith, length-append (number_bytes 8 x) (item_bytes xs), length_bytes 8 x, length_item_bytes xs)

length_section_bytes : (xs : List ℕ) → length (section_bytes xs) ≡ 4 + 8 * length xs
unfolding section_bytes
length_section_bytes xs = omega (arith, length-append (number_bytes 4 (length xs)) (item_bytes xs), length_bytes 4 (length xs), length_item_bytes xs)

-- ---- within an input
abbrev pub AllSmall : List ℕ → Type 0
AllSmall xs = All (λ (x : ℕ). x < 2 ^ 64) xs

module _ (input : List ℕ) where
  -- the input goes on from an offset with these bytes, then with others
  abbrev Continues : ℕ → List ℕ → List ℕ → Type 0
  Continues offset bytes rest = drop offset input ≡ bytes ++ rest

  after_bytes : (offset size : ℕ) (bytes rest : List ℕ) → length bytes ≡ size → Continues offset bytes rest → drop (offset + size) input ≡ rest
  after_bytes offset size bytes rest l e = sym (drop-drop size offset input) ∙ ap (drop size) e ∙ drop_at bytes rest size l

  number_read : (offset size x : ℕ) (rest : List ℕ) → x < 2 ^ (8 * size) → Continues offset (number_bytes size x) rest → number_at input offset size ≡ x
  unfolding number_at
  number_read offset size x rest h e =
      ap (λ (bytes : List ℕ). little_endian (take size bytes)) e
      ∙ ap little_endian (take_at (number_bytes size x) rest size (length_bytes size x))
      ∙ value_bytes size x h

  items_read : (offset : ℕ) (xs rest : List ℕ) → AllSmall xs → Continues offset (item_bytes xs) rest → items_at input offset (length xs) ≡ xs
  unfolding items_at item_bytes
  items_read offset [] rest none e = refl
  items_read offset (x ∷ xs) rest (more h a) e =
      let first = e ∙ append_assoc (number_bytes 8 x) (item_bytes xs) rest in
      λ i. number_read offset 8 x (item_bytes xs ++ rest) h first i ∷ items_read (offset + 8) xs rest a (after_bytes offset 8 (number_bytes 8 x) (item_bytes xs ++ rest) (length_bytes 8 x) first) i

  module _ (offset : ℕ) (xs rest : List ℕ) (e : Continues offset (section_bytes xs) rest) where
    after_section : drop (offset + 4 + 8 * length xs) input ≡ rest
    after_section =
        let same : offset + (4 + 8 * length xs) ≡ offset + 4 + 8 * length xs = omega arith in
        rw same at (after_bytes offset (4 + 8 * length xs) (section_bytes xs) rest (length_section_bytes xs) e)

    section_read : (right : ℕ → Bool) (go : List ℕ → ℕ → Layout) → right (length xs) ≡ true → length xs < 2 ^ 32 → AllSmall xs → and_then (section input right offset) go ≡ go xs (offset + 4 + 8 * length xs)
    unfolding and_then section_bytes
    section_read right go ok few small =
        let n = length xs in
        let first = e ∙ append_assoc (number_bytes 4 n) (item_bytes xs) rest in
        let count = number_read offset 4 n (item_bytes xs ++ rest) few first in
        let read = items_read (offset + 4) xs rest small (after_bytes offset 4 (number_bytes 4 n) (item_bytes xs ++ rest) (length_bytes 4 n) first) in
        let long : offset + 4 + 8 * n ≤ length input = omega (arith, ap length e, length-drop offset input, length-append (section_bytes xs) rest, length_section_bytes xs) in
        ap (λ (s : Section). and_then s go)
        (section_whole input right offset (omega arith) (sym count) ok long ∙ ap (λ (ys : List ℕ). items ys (offset + 4 + 8 * n)) read)

  nothing_left : (end : ℕ) (l : Layout) → drop end input ≡ [] → cond (ltb end (length input)) (layout_fault end) l ≡ l
  nothing_left end l e = ap (λ (b : Bool). cond b (layout_fault end) l) (le-ltb end (length input) (omega (arith, ap length e, length-drop end input)))

  -- the bytes from an offset on, which are all that are left, are read as these settings
  abbrev pub SettingsRead : List ℕ → List ℕ → Type 0
  SettingsRead bytes settings =
      (at : ℕ) → drop at input ≡ bytes → (l : List ℕ → Layout) → and_then (settings_section input at) (λ xs end. cond (ltb end (length input)) (layout_fault end) (l xs)) ≡ l settings

  pub default_read : SettingsRead [] (defaults.p ∷ defaults.q ∷ defaults.places ∷ [])
  unfolding and_then
  default_read at e l =
      let all : length input ≤ at = omega (arith, ap length e, length-drop at input) in
      ap (λ (s : Section). and_then s (λ xs end. cond (ltb end (length input)) (layout_fault end) (l xs))) (settings_default input at all) ∙ nothing_left at _ e

  pub given_read : (p q places : ℕ) → AllSmall (p ∷ q ∷ places ∷ []) → SettingsRead (section_bytes (p ∷ q ∷ places ∷ [])) (p ∷ q ∷ places ∷ [])
  given_read p q places small at e l =
      let xs = p ∷ q ∷ places ∷ [] in
      let continues : Continues at (section_bytes xs) [] = e ∙ sym (append-nil (section_bytes xs)) in
      let left : at < length input = omega (arith, ap length e, length-drop at input, length_section_bytes xs) in
      ap (λ (s : Section). and_then s (λ ys end. cond (ltb end (length input)) (layout_fault end) (l ys))) (settings_given input at left)
      ∙ section_read at xs [] continues (eqb 3) _ refl (lit< tt) small
      ∙ nothing_left (at + 4 + 8 * 3) _ (after_section at xs [] continues)

  -- five sections whose counts are right, and after them settings, given or not
  module _ (weights mu target : List ℕ) (radius budget : ℕ) (bytes : List ℕ) (p q places : ℕ) where
    abbrev n : ℕ
    n = length weights

    pub sections_read : Continues 0 (section_bytes weights) (section_bytes mu ++ (section_bytes target ++ (section_bytes (radius ∷ []) ++ (section_bytes (budget ∷ []) ++ bytes))))
        → SettingsRead bytes (p ∷ q ∷ places ∷ [])
        → n ≤ largest_dimension
        → length mu ≡ triangle n
        → length target ≡ n
        → AllSmall weights
        → AllSmall mu
        → AllSmall target
        → AllSmall (radius ∷ [])
        → AllSmall (budget ∷ [])
        → job_of input ≡ job (record { table = record { weights = doubles weights; mu = mu_rows n (doubles mu) n }; target = doubles target; radius = of_bits binary64 radius; budget = budget; settings = record { p = p; q = q; places = places } })
    unfolding job_of
    sections_read at_weights settings few mu_count target_count w m t r b =
        let small = triangle_small n few in
        let at_mu = after_section 0 weights _ at_weights in
        let at_Target = after_section _ mu _ at_mu in
        let at_radius = after_section _ target _ at_Target in
        let radius_at_h = 0 + 4 + 8 * n + 4 + 8 * length mu + 4 + 8 * length target in
        let at_budget = after_section radius_at_h (radius ∷ []) _ at_radius in
        let end = after_section (radius_at_h + 4 + 8 * 1) (budget ∷ []) _ at_budget in
        section_read 0 weights _ at_weights (λ count. leb count largest_dimension) _ (le-leb n largest_dimension few) (omega arith) w
        ∙ section_read _ mu _ at_mu (eqb (triangle n)) _ (eq-eqb (triangle n) (length mu) (sym mu_count)) (omega arith) m
        ∙ section_read _ target _ at_Target (eqb n) _ (eq-eqb n (length target) (sym target_count)) (omega arith) t
        ∙ section_read radius_at_h (radius ∷ []) _ at_radius (eqb 1) _ refl (omega arith) r
        ∙ section_read (radius_at_h + 4 + 8 * 1) (budget ∷ []) _ at_budget (eqb 1) _ refl (omega arith) b
        ∙ settings (radius_at_h + 4 + 8 * 1 + 4 + 8 * 1) end _
