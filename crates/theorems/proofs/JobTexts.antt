-- The lines of the program's text, for every input: those of a job, what the last one says, and when a refusal's line is all of it. Assumes nothing.
use Prim.Native.Nat.{ℕ}
use mathlib.Core.Path.{◌≡◌, refl, sym, ap, ◌∙◌}
use mathlib.Core.List.{List, ◌++◌, append_assoc}
use Rattle.definitions.specs.Refusals.{Refusal}
use Rattle.definitions.specs.Checks.{Verdict, pass, refuse}
use Rattle.definitions.specs.Calls.{Answer, found, refused, NearestPoint}
use Rattle.definitions.specs.Settings.{SettingsInRange, settings_check}
use Rattle.definitions.specs.Ratio.{Ratio}
use Rattle.definitions.specs.JobLayout.{Job, job, job_of}
use Rattle.definitions.specs.JobText.{text, newline, decimal, hexadecimal, point_text, group, refusal_line, nearest_line, list_lines, ratio_line, job_nearest, job_list, job_ratio, job_output}
use Rattle.definitions.proofs.Verdicts.{refuse≢pass}
use Rattle.definitions.proofs.Settings.{settings_passed, settings_pass}
use Rattle.definitions.proofs.JobTexts.{list_ends, output_ends, output_of_job, output_of_settings, output_of_fault, output_1, output_21}
use Rattle.theorems.specs.JobTexts.{LastLine, JobLines, RefusedInput}
use Rattle.theorems.proofs.JobCalls.{job_promises}
use Rattle.theorems.proofs.Settings.{first_setting}

-- ---- the lines of a job
point_text_lem : (a : NearestPoint) (rest : List ℕ) → nearest_line (found a) ++ rest ≡ text "nearest " ++ decimal a.nodes ++ text " " ++ hexadecimal a.distance ++ point_text a.point ++ newline ++ rest
unfolding nearest_line
point_text_lem a rest = refl

refusal_text : (e : Refusal) (rest : List ℕ) → nearest_line (refused e) ++ rest ≡ text "nearest refused " ++ decimal e.number ++ text " " ++ group e.number ++ newline ++ rest
unfolding nearest_line refusal_line text
refusal_text e rest = refl

pub job_lines_lem : (input : List ℕ) (j : Job) → job_of input ≡ job j → SettingsInRange j.settings → JobLines input j
job_lines_lem input j read range = record {
  lines = whole;
  point_line = λ a e. (rest, begins ∙ ap (λ (x : Answer NearestPoint). nearest_line x ++ rest) e ∙ point_text_lem a rest);
  refused_line = λ d e. (rest, begins ∙ ap (λ (x : Answer NearestPoint). nearest_line x ++ rest) e ∙ refusal_text d rest);
}
  where
    rest : List ℕ
    rest = list_lines (job_list j) ++ ratio_line (job_ratio j)

    whole : job_output input ≡ nearest_line (job_nearest j) ++ list_lines (job_list j) ++ ratio_line (job_ratio j)
    whole = output_of_job input j read (settings_pass j.settings range)

    begins : job_output input ≡ nearest_line (job_nearest j) ++ rest
    begins = whole ∙ append_assoc (nearest_line (job_nearest j)) (list_lines (job_list j)) (ratio_line (job_ratio j))

-- ---- the last line
pub last_line : (input : List ℕ) → LastLine input
last_line input verdict = (
  λ (before, e).
      let told = output_ends input (before ++ newline) verdict e in
      let range = settings_passed told.read.settings told.passes in
      (told.read, told.is, range, (((job_promises input told.read told.is).ratio range.factors).means verdict).0 told.verdict),
  λ (j, read, range, mean).
      let is = (((job_promises input j read).ratio range.factors).means verdict).1 mean in
      let lines = list_ends (job_list j) in (
        nearest_line (job_nearest j) ++ lines.0,
        output_of_job input j read (settings_pass j.settings range)
            ∙ ap (λ (v : Ratio). nearest_line (job_nearest j) ++ list_lines (job_list j) ++ ratio_line v) is
            ∙ ap (λ (xs : List ℕ). nearest_line (job_nearest j) ++ xs ++ ratio_line verdict) lines.1
            ∙ ap (λ (xs : List ℕ). xs ++ ratio_line verdict) (sym (append_assoc (nearest_line (job_nearest j)) lines.0 newline)),
      ),
)

-- ---- a refusal's line alone
-- settings that are not in range are refused
out_of_range : (input : List ℕ) (j : Job) → job_of input ≡ job j → (SettingsInRange j.settings → ⊥) → job_output input ≡ refusal_line (text "job") 21
out_of_range input j read outside = by (settings_check j.settings) refl
  where
    by : (v : Verdict) → settings_check j.settings ≡ v → job_output input ≡ refusal_line (text "job") 21
    by pass h = absurd (outside (settings_passed j.settings h))
    by (refuse e) h = output_of_settings input j e read h

pub refused_input : (input : List ℕ) → RefusedInput input
refused_input input = record {
  gives_1 = (output_1 input, λ (offset, read). output_of_fault input offset read);
  gives_21 = (
    λ e.
        let told = output_21 input e in
        (told.0, told.1.1.0, λ range. refuse≢pass (sym told.1.1.1 ∙ settings_pass told.0.settings range)),
    λ (j, read, outside). out_of_range input j read outside,
  );
  first_setting = λ j read. first_setting j.settings;
}
