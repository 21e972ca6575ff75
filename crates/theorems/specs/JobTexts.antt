-- What is promised of the lines that the program writes for an input. Definitions only.
use Rattle.std.specs.Prelude.{◌≡◌, List, ◌++◌, ◌↔◌, ℕ}
use Rattle.definitions.specs.Ratio.{Ratio}
use Rattle.definitions.specs.Settings.{SettingsInRange, settings_check}
use Rattle.definitions.specs.JobLayout.{Job, job, layout_fault, job_of}
use Rattle.definitions.specs.Refusals.{Refusal}
use Rattle.definitions.specs.Calls.{found, refused, NearestPoint}
use Rattle.definitions.specs.JobText.{text, newline, decimal, hexadecimal, point_text, group, refusal_line, nearest_line, list_lines, ratio_line, job_nearest, job_list, job_ratio, job_output}
use Rattle.theorems.specs.Settings.{FirstSetting}
use Rattle.theorems.specs.Ratios.{Means}

-- the last line of some bytes is this one
abbrev pub LastIs : List ℕ → List ℕ → Type 0
LastIs bytes line = (before : List ℕ) × (bytes ≡ before ++ newline ++ line)

-- the last line of the text is a verdict's exactly where the input is a job with settings in range, and what the verdict means is so of
-- its list and its radius
abbrev pub LastLine : List ℕ → Type 0
LastLine input =
    (verdict : Ratio) → LastIs (job_output input) (ratio_line verdict) ↔
    ((j : Job) × (job_of input ≡ job j) × SettingsInRange j.settings × Means j.settings.p j.settings.q j.table j.target j.radius (job_list j) verdict)

-- of a job with settings in range the text begins with the line of its nearest search, and the lines of its list and of its ratio follow
pub record JobLines (input : List ℕ) (j : Job) : Type 0 where
  pub lines : job_output input ≡ nearest_line (job_nearest j) ++ list_lines (job_list j) ++ ratio_line (job_ratio j)
  -- the nodes, the distance and the coordinates of a point that was found
  pub point_line : (a : NearestPoint) → job_nearest j ≡ found a →
      (rest : List ℕ) × (job_output input ≡ text "nearest " ++ decimal a.nodes ++ text " " ++ hexadecimal a.distance ++ point_text a.point ++ newline ++ rest)
  -- the number of a refusal, with its group
  pub refused_line : (e : Refusal) → job_nearest j ≡ refused e →
      (rest : List ℕ) × (job_output input ≡ text "nearest refused " ++ decimal e.number ++ text " " ++ group e.number ++ newline ++ rest)

-- it is the line of 1 alone exactly where the input is no job, and that of 21 alone exactly where it is one and a setting is out of range
pub record RefusedInput (input : List ℕ) : Type 0 where
  pub gives_1 : (job_output input ≡ refusal_line (text "job") 1) ↔ ((offset : ℕ) × (job_of input ≡ layout_fault offset))
  pub gives_21 : (job_output input ≡ refusal_line (text "job") 21) ↔ ((j : Job) × (job_of input ≡ job j) × (SettingsInRange j.settings → ⊥))
  -- of a job the check of its settings tells the first that is not right
  pub first_setting : (j : Job) → job_of input ≡ job j → FirstSetting j.settings (settings_check j.settings)
