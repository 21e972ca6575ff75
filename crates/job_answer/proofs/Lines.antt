-- The lines of listed points, one more after the others. Assumes nothing.
use mathlib.Core.Path.{◌≡◌, refl, ap, sym, ◌∙◌}
use mathlib.Core.List.{List, [], ◌∷◌, ◌++◌, append-nil, append_assoc}
use Prim.Native.Nat.{ℕ, suc}
use lib.IntN.{ℤ}
use lib.Ieee.{Float}
use Rattle.definitions.specs.Listing.{ListPoint}
use Rattle.definitions.specs.JobText.{listed_lines}
use Rattle.definitions.specs.Rows.{row, rows}
use Rattle.job_answer.specs.Texts.{listed_line}

abbrev pub line_of : ListPoint → List ℕ
line_of p = listed_line p.distance p.point

more_lines : (ps : List ListPoint) (p : ListPoint) → listed_lines (ps ++ p ∷ []) ≡ listed_lines ps ++ line_of p
unfolding listed_lines
more_lines [] p = append-nil (line_of p)
more_lines (q ∷ ps) p = ap (λ (xs : List ℕ). line_of q ++ xs) (more_lines ps p) ∙ sym (append_assoc (line_of q) (listed_lines ps) (line_of p))

pub no_rows : (n : ℕ) (distances : List Float) (points : List ℤ) → listed_lines (rows n 0 distances points) ≡ []
unfolding listed_lines rows
no_rows n distances points = refl

pub next_row : (n k : ℕ) (distances : List Float) (points : List ℤ) → listed_lines (rows n (suc k) distances points) ≡ listed_lines (rows n k distances points) ++ line_of (row n distances points k)
unfolding rows
next_row n k distances points = more_lines (rows n k distances points) (row n distances points k)
