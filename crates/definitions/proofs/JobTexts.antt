-- The program's text by what was read: the last line of an answered job is its ratio's, and no other text ends with such a line; number 1's line and number 21's are told apart. Assumes nothing.
use mathlib.Core.Path.{◌≡◌, refl, sym, ap, ◌∙◌}
use mathlib.Core.Bool.{cond}
use mathlib.Core.List.{List, [], ◌∷◌, ◌++◌, append_assoc, reverse, reverse-append}
use Prim.Native.Nat.{ℕ, ◌≤◌}
use native.Mathlib.Omega.{arith}
use lib.Dec.{eqb, lit≤}
use lib.ListN.{length, get_or, length-reverse, get_or-append}
use Rattle.definitions.specs.Listing.{ListPoint}
use Rattle.definitions.specs.Refusals.{Refusal}
use Rattle.definitions.specs.Checks.{Verdict, pass, refuse}
use Rattle.definitions.specs.Calls.{Answer, found, refused, NearestPoint, ListAnswer}
use Rattle.definitions.specs.Settings.{settings_check}
use Rattle.definitions.specs.Ratio.{Ratio, holds, fails, «open», none}
use Rattle.definitions.specs.JobLayout.{Job, Layout, job, layout_fault, job_of}
use Rattle.definitions.specs.JobText.{text, newline, decimal, hexadecimal, point_text, group, refusal_line, nearest_line, listed_lines, list_lines, ratio_word, ratio_line, job_nearest, job_list, job_ratio, job_lines, job_text, job_output}
use Rattle.definitions.proofs.Settings.{settings_number}

-- ---- a byte that tells the lines apart: the third from the end
abbrev third : List ℕ → ℕ
third bytes = get_or (reverse bytes) 2 0

third_end : (before line : List ℕ) → 3 ≤ length line → third (before ++ line) ≡ third line
third_end before line h =
    let l = length-reverse line in
    ap (λ (bytes : List ℕ). get_or bytes 2 0) (reverse-append before line) ∙ get_or-append (reverse line) (reverse before) 0 2 (omega (arith, l, h))

long : (v : Ratio) → 3 ≤ length (ratio_line v)
unfolding ratio_line ratio_word text
long holds = lit≤ tt
long fails = lit≤ tt
long «open» = lit≤ tt
long none = lit≤ tt

-- d, l, e and n
abbrev byte : Ratio → ℕ
byte holds = 100
byte fails = 108
byte «open» = 101
byte none = 110

third_line : (v : Ratio) → third (ratio_line v) ≡ byte v
unfolding ratio_line ratio_word text
third_line holds = refl
third_line fails = refl
third_line «open» = refl
third_line none = refl

abbrev verdict_by : ℕ → Ratio
verdict_by b = cond (eqb b 100) holds (cond (eqb b 108) fails (cond (eqb b 101) «open» none))

by_byte : (v : Ratio) → verdict_by (byte v) ≡ v
by_byte holds = refl
by_byte fails = refl
by_byte «open» = refl
by_byte none = refl

-- ---- the text
text_by : (v : Verdict) (j : Job) → settings_check j.settings ≡ v → job_text (job j) ≡ job_lines v j
unfolding job_text
text_by v j h = ap (λ (w : Verdict). job_lines w j) h

pub text_of_job : (j : Job) → settings_check j.settings ≡ pass → job_text (job j) ≡ nearest_line (job_nearest j) ++ list_lines (job_list j) ++ ratio_line (job_ratio j)
unfolding job_lines
text_of_job j h = text_by pass j h

pub text_of_refusal : (j : Job) (e : Refusal) → settings_check j.settings ≡ refuse e → job_text (job j) ≡ refusal_line (text "job") e.number
unfolding job_lines
text_of_refusal j e h = text_by (refuse e) j h

text_of_settings : (j : Job) (e : Refusal) → settings_check j.settings ≡ refuse e → job_text (job j) ≡ refusal_line (text "job") 21
text_of_settings j e h = text_of_refusal j e h ∙ ap (refusal_line (text "job")) (settings_number j.settings e h)

text_of_fault : (offset : ℕ) → job_text (layout_fault offset) ≡ refusal_line (text "job") 1
unfolding job_text
text_of_fault offset = refl

-- ---- the list's lines end with a line's end, so that what follows is a line
listed_ends : (ps : List ListPoint) → (before : List ℕ) × (newline ++ listed_lines ps ≡ before ++ newline)
unfolding listed_lines
listed_ends [] = ([], refl)
listed_ends (p ∷ ps) =
    let rest = listed_ends ps in (
      newline ++ (hexadecimal p.distance ++ point_text p.point) ++ rest.0,
      ap (λ (xs : List ℕ). newline ++ xs) (append_assoc (hexadecimal p.distance ++ point_text p.point) newline (listed_lines ps) ∙ ap (λ (xs : List ℕ). hexadecimal p.distance ++ point_text p.point ++ xs) rest.1)
          ∙ ap (λ (xs : List ℕ). newline ++ xs) (sym (append_assoc (hexadecimal p.distance ++ point_text p.point) rest.0 newline)),
    )

pub list_ends : (a : Answer ListAnswer) → (before : List ℕ) × (list_lines a ≡ before ++ newline)
unfolding list_lines refusal_line
list_ends (found a) =
    let rest = listed_ends a.points in
    let line = text "list " ++ decimal a.nodes ++ text " " ++ decimal (length a.points) in
    (line ++ rest.0, append_assoc line newline (listed_lines a.points) ∙ ap (λ (xs : List ℕ). line ++ xs) rest.1 ∙ sym (append_assoc line rest.0 newline))
list_ends (refused e) = (text "list" ++ text " refused " ++ decimal e.number ++ text " " ++ group e.number, refl)

-- ---- a text that ends with a verdict's line
-- the third byte from the end of a refusal's line, which is no verdict's
not_verdict : (v : Ratio) (before refusal : List ℕ) → third refusal ≡ 117 → refusal ≡ before ++ ratio_line v → ⊥
not_verdict v before refusal u e = other v (sym (third_line v) ∙ sym (third_end before (ratio_line v) (long v)) ∙ sym (ap third e) ∙ u)
  where
    other : (v : Ratio) → byte v ≡ 117 → ⊥
    other holds e = omega (arith, e)
    other fails e = omega (arith, e)
    other «open» e = omega (arith, e)
    other none e = omega (arith, e)

third_1 : third (refusal_line (text "job") 1) ≡ 117
unfolding refusal_line text decimal group
third_1 = refl

third_21 : third (refusal_line (text "job") 21) ≡ 117
unfolding refusal_line text decimal group
third_21 = refl

-- the job is answered, and this is its verdict
pub record Told (l : Layout) (v : Ratio) : Type 0 where
  pub read : Job
  pub is : l ≡ job read
  pub passes : settings_check read.settings ≡ pass
  pub verdict : job_ratio read ≡ v

ends_with : (l : Layout) (before : List ℕ) (v : Ratio) → job_text l ≡ before ++ ratio_line v → Told l v
ends_with (layout_fault offset) before v e = absurd (not_verdict v before (refusal_line (text "job") 1) third_1 (sym (text_of_fault offset) ∙ e))
ends_with (job j) before v e = by (settings_check j.settings) refl
  where
    by : (w : Verdict) → settings_check j.settings ≡ w → Told (job j) v
    by (refuse r) h = absurd (not_verdict v before (refusal_line (text "job") 21) third_21 (sym (text_of_settings j r h) ∙ e))
    by pass h =
        let own : third (job_text (job j)) ≡ byte (job_ratio j) = ap third (text_of_job j h) ∙ third_end (nearest_line (job_nearest j) ++ list_lines (job_list j)) (ratio_line (job_ratio j)) (long (job_ratio j)) ∙ third_line (job_ratio j) in
        let told : third (job_text (job j)) ≡ byte v = ap third e ∙ third_end before (ratio_line v) (long v) ∙ third_line v in
        record { read = j; is = refl; passes = h; verdict = sym (by_byte (job_ratio j)) ∙ ap verdict_by (sym own ∙ told) ∙ by_byte v }

module _ (input : List ℕ) where
  output_is : job_output input ≡ job_text (job_of input)
  unfolding job_output
  output_is = refl

  pub output_ends : (before : List ℕ) (v : Ratio) → job_output input ≡ before ++ ratio_line v → Told (job_of input) v
  output_ends before v e = ends_with (job_of input) before v (sym output_is ∙ e)

  pub output_of_job : (j : Job) → job_of input ≡ job j → settings_check j.settings ≡ pass → job_output input ≡ nearest_line (job_nearest j) ++ list_lines (job_list j) ++ ratio_line (job_ratio j)
  output_of_job j read h = output_is ∙ ap job_text read ∙ text_of_job j h

  pub output_of_settings : (j : Job) (e : Refusal) → job_of input ≡ job j → settings_check j.settings ≡ refuse e → job_output input ≡ refusal_line (text "job") 21
  output_of_settings j e read h = output_is ∙ ap job_text read ∙ text_of_settings j e h

  pub output_of_fault : (offset : ℕ) → job_of input ≡ layout_fault offset → job_output input ≡ refusal_line (text "job") 1
  output_of_fault offset read = output_is ∙ ap job_text read ∙ text_of_fault offset

-- ---- a text that is a refusal's line
-- the first byte and the 13th: n of nearest, or j of job with the number's first digit
abbrev head : List ℕ → ℕ
head bytes = get_or bytes 0 0

abbrev digit : List ℕ → ℕ
digit bytes = get_or bytes 12 0

head_nearest : (a : Answer NearestPoint) (lines line : List ℕ) → head (nearest_line a ++ lines ++ line) ≡ 110
unfolding nearest_line refusal_line text
head_nearest (found a) lines line = refl
head_nearest (refused e) lines line = refl

head_job : (j : Job) → settings_check j.settings ≡ pass → head (job_text (job j)) ≡ 110
head_job j h = ap head (text_of_job j h) ∙ head_nearest (job_nearest j) (list_lines (job_list j)) (ratio_line (job_ratio j))

head_line : (number : ℕ) → head (refusal_line (text "job") number) ≡ 106
unfolding refusal_line text
head_line number = refl

digit_1 : digit (refusal_line (text "job") 1) ≡ 49
unfolding refusal_line text decimal group
digit_1 = refl

digit_21 : digit (refusal_line (text "job") 21) ≡ 50
unfolding refusal_line text decimal group
digit_21 = refl

-- what was read: a fault, or a job by its settings' check
pub data Read (l : Layout) : Type 0 where
  faulty : (offset : ℕ) → l ≡ layout_fault offset → Read l
  out_of_range : (j : Job) (e : Refusal) → l ≡ job j → settings_check j.settings ≡ refuse e → Read l
  answered : (j : Job) → l ≡ job j → settings_check j.settings ≡ pass → Read l

pub read_of : (l : Layout) → Read l
read_of (layout_fault offset) = faulty offset refl
read_of (job j) = by (settings_check j.settings) refl
  where
    by : (w : Verdict) → settings_check j.settings ≡ w → Read (job j)
    by (refuse e) h = out_of_range j e refl h
    by pass h = answered j refl h

module _ (input : List ℕ) where
  -- an answered job is no refusal's line
  not_answered : (number : ℕ) (j : Job) → job_of input ≡ job j → settings_check j.settings ≡ pass → job_output input ≡ refusal_line (text "job") number → ⊥
  not_answered number j read h e =
      let a = sym (head_job j h) ∙ sym (ap head (output_is input ∙ ap job_text read)) ∙ ap head e ∙ head_line number in
      omega (arith, a)

  pub output_1 : job_output input ≡ refusal_line (text "job") 1 → (offset : ℕ) × (job_of input ≡ layout_fault offset)
  output_1 e = by (read_of (job_of input))
    where
      by : Read (job_of input) → (offset : ℕ) × (job_of input ≡ layout_fault offset)
      by (faulty offset read) = (offset, read)
      by (out_of_range j r read h) = let d = sym digit_21 ∙ sym (ap digit (output_of_settings input j r read h)) ∙ ap digit e ∙ digit_1 in absurd (omega (arith, d))
      by (answered j read h) = absurd (not_answered 1 j read h e)

  pub output_21 : job_output input ≡ refusal_line (text "job") 21 → (j : Job) × ((e : Refusal) × ((job_of input ≡ job j) × (settings_check j.settings ≡ refuse e)))
  output_21 e = by (read_of (job_of input))
    where
      by : Read (job_of input) → (j : Job) × ((e : Refusal) × ((job_of input ≡ job j) × (settings_check j.settings ≡ refuse e)))
      by (faulty offset read) = let d = sym digit_1 ∙ sym (ap digit (output_of_fault input offset read)) ∙ ap digit e ∙ digit_21 in absurd (omega (arith, d))
      by (out_of_range j r read h) = (j, (r, (read, h)))
      by (answered j read h) = absurd (not_answered 21 j read h e)
