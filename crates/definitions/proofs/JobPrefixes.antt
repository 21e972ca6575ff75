-- Of an input longer than the longest job its first bytes, if they are more than that job's, tell the whole text. Assumes nothing.
use mathlib.Core.Path.{◌≡◌, refl, ap, sym, subst, ◌∙◌}
use mathlib.Core.Bool.{Bool, true, false, cond}
use mathlib.Core.List.{List, ◌∷◌}
use Prim.Native.Nat.{ℕ, zero, suc, ◌+◌, ◌*◌, ◌≤◌, ◌<◌}
use native.Mathlib.Omega.{arith}
use borrow.Author.Tests.{ltb-true, ltb-false, lt-ltb, leb-true, eqb-true}
use lib.Dec.{leb, ltb, eqb}
use lib.ListN.{length, take, drop, take-append-drop, length-drop}
use lib.Seq.{take_all, length-take-le, take-append-le, drop-append-le}
use Rattle.definitions.specs.Table.{largest_dimension}
use Rattle.definitions.specs.JobLayout.{Section, items, little_endian, number_at, items_at, section, settings_section, Layout, layout_fault, and_then, triangle, job_of}
use Rattle.definitions.specs.JobText.{job_text, job_output}
use Rattle.definitions.proofs.Triangles.{triangle_small}
use Rattle.definitions.proofs.JobSections.{length_items, section_wrong, section_whole, settings_given}

-- the bytes of the longest job: its six sections
abbrev pub longest_job : ℕ
longest_job = 4 + 8 * largest_dimension + 4 + 8 * triangle largest_dimension + 4 + 8 * largest_dimension + 4 + 8 + 4 + 8 + 4 + 8 * 3

-- a part within the first k bytes
part_of_first : (k offset size : ℕ) (xs : List ℕ) → offset + size ≤ k → k ≤ length xs → take size (drop offset (take k xs)) ≡ take size (drop offset xs)
part_of_first k offset size xs h l =
    let a = length-take-le k xs l in
    let b = length-drop offset (take k xs) in
    sym
    (ap (λ (ys : List ℕ). take size (drop offset ys)) (sym (take-append-drop k xs))
    ∙ ap (take size) (drop-append-le offset (take k xs) (drop k xs) (omega (arith, a, h)))
    ∙ take-append-le size (drop offset (take k xs)) (drop k xs) (omega (arith, a, b, h)))

module _ (input : List ℕ) (k : ℕ) (enough : longest_job < k) (more : k < length input) where
  abbrev first : List ℕ
  first = take k input

  same_number : (offset size : ℕ) → offset + size ≤ k → number_at first offset size ≡ number_at input offset size
  unfolding number_at
  same_number offset size h = ap little_endian (part_of_first k offset size input h (omega arith))

  same_items : (offset count : ℕ) → offset + 8 * count ≤ k → items_at first offset count ≡ items_at input offset count
  unfolding items_at
  same_items offset zero h = refl
  same_items offset (suc count) h = λ i. same_number offset 8 (omega arith) i ∷ same_items (offset + 8) count (omega arith) i

  -- a section whose right counts end within the first k bytes, then what follows it
  module _ (right : ℕ → Bool) (offset : ℕ) (fits : offset + 4 ≤ k) (ends : (count : ℕ) → right count ≡ true → offset + 4 + 8 * count ≤ k) (go go' : List ℕ → ℕ → Layout)
      (same : (xs : List ℕ) → right (length xs) ≡ true → go xs (offset + 4 + 8 * length xs) ≡ go' xs (offset + 4 + 8 * length xs)) where
    abbrev count : ℕ
    count = number_at input offset 4

    whole : (xs : List ℕ) → k ≤ length xs → count ≡ number_at xs offset 4 → items_at xs (offset + 4) count ≡ items_at input (offset + 4) count → right count ≡ true → section xs right offset ≡ items (items_at input (offset + 4) count) (offset + 4 + 8 * count)
    whole xs long e q r =
        let l = ends count r in
        section_whole xs right offset (omega arith) e r (omega arith) ∙ ap (λ (ys : List ℕ). items ys (offset + 4 + 8 * count)) q

    same_section : and_then (section first right offset) go ≡ and_then (section input right offset) go'
    unfolding and_then
    same_section = by (right count) refl
      where
        long : k ≤ length first
        long = omega (arith, length-take-le k input (omega arith))

        by : (b : Bool) → right count ≡ b → and_then (section first right offset) go ≡ and_then (section input right offset) go'
        by true r =
            let xs = items_at input (offset + 4) count in
            let n = length_items input (offset + 4) count in
            ap (λ (s : Section). and_then s go) (whole first long (sym (same_number offset 4 fits)) (same_items (offset + 4) count (ends count r)) r)
            ∙ subst (λ (c : ℕ). go xs (offset + 4 + 8 * c) ≡ go' xs (offset + 4 + 8 * c)) n (same xs (ap right n ∙ r))
            ∙ ap (λ (s : Section). and_then s go') (sym (whole input (omega arith) refl refl r))
        by false r =
            ap (λ (s : Section). and_then s go) (section_wrong first right offset (omega (arith, long)) (sym (same_number offset 4 fits)) r)
            ∙ ap (λ (s : Section). and_then s go') (sym (section_wrong input right offset (omega arith) refl r))

  -- a section by its one right count
  same_counted : (count offset : ℕ) → offset + 4 + 8 * count ≤ k → (go go' : List ℕ → ℕ → Layout)
      → ((xs : List ℕ) → length xs ≡ count → go xs (offset + 4 + 8 * length xs) ≡ go' xs (offset + 4 + 8 * length xs))
      → and_then (section first (eqb count) offset) go ≡ and_then (section input (eqb count) offset) go'
  same_counted count offset fits go go' same =
      same_section (eqb count) offset (omega arith) (λ c q. let e = eqb-true count c q in omega (arith, e)) go go' (λ xs q. same xs (sym (eqb-true count (length xs) q)))

  -- bytes are left for the settings, of the first k and of all
  same_settings : (offset : ℕ) → offset + 4 + 8 * 3 ≤ k → (go go' : List ℕ → ℕ → Layout)
      → ((xs : List ℕ) → length xs ≡ 3 → go xs (offset + 4 + 8 * length xs) ≡ go' xs (offset + 4 + 8 * length xs))
      → and_then (settings_section first offset) go ≡ and_then (settings_section input offset) go'
  same_settings offset fits go go' same =
      ap (λ (s : Section). and_then s go) (settings_given first offset (omega (arith, length-take-le k input (omega arith))))
      ∙ same_counted 3 offset fits go go' same
      ∙ ap (λ (s : Section). and_then s go') (sym (settings_given input offset (omega arith)))

  -- more bytes follow the last section, of the first k and of all
  surplus : (end : ℕ) (l : Layout) → end ≤ longest_job → cond (ltb end (length first)) (layout_fault end) l ≡ cond (ltb end (length input)) (layout_fault end) l
  surplus end l h =
      ap (λ (b : Bool). cond b (layout_fault end) l)
      (lt-ltb end (length first) (omega (arith, length-take-le k input (omega arith))) ∙ sym (lt-ltb end (length input) (omega arith)))

  pub prefix_layout : job_of first ≡ job_of input
  unfolding job_of
  prefix_layout =
      same_section (λ count. leb count largest_dimension) 0 (omega arith) (λ c q. let few = leb-true c largest_dimension q in omega (arith, few)) _ _ λ weights q.
      let n = length weights in
      let few : n ≤ largest_dimension = leb-true n largest_dimension q in
      let small = triangle_small n few in
      same_counted (triangle n) _ (omega arith) _ _ λ mu m.
      same_counted n _ (omega arith) _ _ λ target t.
      same_counted 1 _ (omega arith) _ _ λ radius r.
      same_counted 1 _ (omega arith) _ _ λ budget b.
      same_settings _ (omega arith) _ _ λ settings s.
      surplus _ _ (omega arith)

-- a buffer of more bytes than the longest job's: what it holds of an input tells the text
pub buffer_output : (k : ℕ) → longest_job < k → (input : List ℕ) → job_output (take k input) ≡ job_output input
unfolding job_output
buffer_output k enough input = by (ltb k (length input)) refl
  where
    by : (b : Bool) → ltb k (length input) ≡ b → job_text (job_of (take k input)) ≡ job_text (job_of input)
    by true q = ap job_text (prefix_layout input k enough (ltb-true k (length input) q))
    by false q = ap (λ (bytes : List ℕ). job_text (job_of bytes)) (take_all k input (ltb-false k (length input) q))
