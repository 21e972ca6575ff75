-- The bench cases of docs/SPECIFICATION.md, A to L, the case "distance", those of `change_reference`, of entries one at a time, of a radius of minus zero, of the ratio and of its settings, proved together by one evaluation of the definitions. Case I's list is taken with a budget of 6 (docs/DECISIONS.md).
-- Assumes nothing.
use mathlib.Core.Path.{◌≡◌, refl}
use Prim.Native.Nat.{ℕ, zero, suc, ◌+◌, ◌-◌, ◌*◌, ◌/◌, ◌%◌, ◌^◌}
use mathlib.Core.Bool.{true, false}
use mathlib.Core.List.{List, [], ◌∷◌, ◌++◌, map}
use lib.ListN.{length, replicate}
use lib.IntN.{ℤ, pos, negsuc}
use lib.Ieee.{Float, fin, inf, nan, binary64, of_bits, to_bits}
use Rattle.rounding.specs.Integers.{round_away}
use Rattle.definitions.specs.Table.{Table, table, plus_zero, minus_zero, one, coord_limit, largest_dimension}
use Rattle.definitions.specs.Distance.{partial}
use Rattle.definitions.specs.Admitted.{admitted}
use Rattle.definitions.specs.Listing.{ListPoint}
use Rattle.definitions.specs.Seeds.{Plane, nearest_plane}
use Rattle.definitions.specs.Refusals.{mu_non_finite, mu_range, outside_radius, budget_exhausted, list_full, non_finite, invalid_radius, candidate_outside, budget_range, reference_index, changed_range, setting_range}
use Rattle.definitions.specs.Checks.{Verdict, pass, refuse, first_refusal, table_checks}
use Rattle.definitions.specs.Entries.{Entry, entry_of, fed_all}
use Rattle.definitions.specs.Calls.{Answer, found, refused, NearestPoint, ListAnswer, nearest, nearest_seeded, nearest_ml, list}
use Rattle.definitions.specs.Reference.{change_reference, change_output}
use Rattle.definitions.specs.Settings.{settings_check}
use Rattle.definitions.specs.Ratio.{Ratio, holds, fails, «open», none, list_ratio, ratio_call}
use Rattle.definitions.specs.JobLayout.{Layout, job, layout_fault, job_of}
use Rattle.definitions.specs.JobText.{text, job_output}

-- ---- the cases' numbers

-- m / 2 ^ suc k
abbrev over : ℕ → ℕ → Float
over m k = fin false m (negsuc k)

abbrev two : Float
two = fin false 1 (pos 1)

abbrev four : Float
four = fin false 1 (pos 2)

abbrev half : Float
half = over 1 0

abbrev quarter : Float
quarter = over 1 1

-- 1 + 2^-52
abbrev above_one : Float
above_one = over (2 ^ 52 + 1) 51

-- 1 + 8·2^-52, to which a radius of 1 is widened at n = 2
abbrev widened_one : Float
widened_one = over (2 ^ 49 + 1) 48

-- ---- the cases' tables

abbrev table_a : Table
table_a = record { weights = []; mu = [] }

abbrev table_b : Table
table_b = record { weights = four ∷ []; mu = plus_zero ∷ [] }

abbrev target_b : List Float
target_b = over 3 1 ∷ []

abbrev table_e : Table
table_e = record { weights = one ∷ []; mu = plus_zero ∷ [] }

abbrev target_e : List Float
target_e = half ∷ []

abbrev table_g : Table
table_g = record { weights = one ∷ one ∷ []; mu = plus_zero ∷ plus_zero ∷ half ∷ plus_zero ∷ [] }

abbrev target_g : List Float
target_g = quarter ∷ half ∷ []

abbrev table_h : Table
table_h = record { weights = over 1 50 ∷ four ∷ []; mu = plus_zero ∷ plus_zero ∷ plus_zero ∷ plus_zero ∷ [] }

abbrev target_h : List Float
target_h = half ∷ half ∷ []

-- three levels with the terms 2^-53, 2^-53 and 1: summed from level 2 down they give 1, from level 0 up 1 + 2^-52
abbrev table_distance : Table
table_distance = record { weights = over 1 50 ∷ over 1 50 ∷ four ∷ []; mu = replicate 9 plus_zero }

abbrev target_distance : List Float
target_distance = half ∷ half ∷ half ∷ []

-- what the lent slices hold before a call
abbrev out1 : List ℤ
out1 = pos 7 ∷ []

abbrev out2 : List ℤ
out2 = pos 7 ∷ pos 7 ∷ []

abbrev out3 : List ℤ
out3 = pos 7 ∷ out2

abbrev places : List Float
places = one ∷ one ∷ one ∷ one ∷ one ∷ []

abbrev places1 : List ℤ
places1 = pos 7 ∷ pos 7 ∷ pos 7 ∷ pos 7 ∷ pos 7 ∷ []

abbrev places2 : List ℤ
places2 = places1 ++ places1

abbrev at : ℕ → Float → List ℤ → Answer NearestPoint
at nodes d zs = found (record { nodes = nodes; distance = d; point = zs })

abbrev listed : ℕ → List ListPoint → Answer ListAnswer
listed nodes ps = found (record { nodes = nodes; points = ps })

abbrev away : Float → List ℤ → ListPoint
away d zs = record { distance = d; point = zs }

-- ---- nearest, seeded and ml
abbrev nearest_cases : List (Answer NearestPoint)
nearest_cases =
    nearest table_a [] [] plus_zero 0
    ∷ nearest table_b target_b out1 quarter 1
    ∷ nearest table_b target_b out1 (over 1 2) 0
    ∷ nearest table_b target_b out1 quarter 0
    ∷ nearest table_e target_e out1 one 2
    ∷ nearest table_e target_e out1 one 1
    ∷ nearest table_g target_g out2 two 100
    ∷ nearest_ml table_g target_g out2 100
    ∷ nearest table_h target_h out2 one 2
    ∷ nearest table_h target_h out2 above_one 4
    ∷ nearest table_e (fin false 1 (pos 52) ∷ []) out1 plus_zero 1
    ∷ nearest table_e (fin false (2 ^ 52 + 1) (pos 0) ∷ []) out1 plus_zero 1
    ∷ nearest_seeded table_e target_e out1 (pos 2 ∷ []) two 100
    ∷ nearest_seeded table_e target_e out1 (pos 2 ∷ []) (over 9 1) 100
    ∷ nearest_seeded table_e target_e out1 (pos 2 ∷ []) (over 9 1) (2 ^ 60 + 1)
    ∷ nearest_seeded table_a [] [] [] four 0
    ∷ nearest_ml table_a [] [] 0
    ∷ nearest table_distance target_distance out3 above_one 100
    ∷ nearest_seeded table_distance target_distance out3 (pos 1 ∷ pos 1 ∷ pos 1 ∷ []) above_one 100
    ∷ nearest_ml table_distance target_distance out3 100
    -- H from a candidate at its radius: unwidened nothing would be found. The widened radius opens 10 prefixes, and the walk takes 6 nodes
    ∷ nearest_seeded table_h target_h out2 (pos 0 ∷ pos 0 ∷ []) one 10
    ∷ nearest_seeded table_h target_h out2 (pos 0 ∷ pos 0 ∷ []) one 6
    ∷ nearest_seeded table_h target_h out2 (pos 0 ∷ pos 0 ∷ []) one 5
    ∷ nearest_seeded table_h target_h out2 (pos 0 ∷ pos 0 ∷ []) one 0
    ∷ nearest_ml table_h target_h out2 6
    ∷ nearest table_h target_h out2 widened_one 6
    ∷ []

abbrev nearest_answers : List (Answer NearestPoint)
nearest_answers =
    at 0 plus_zero []
    ∷ at 1 quarter (pos 1 ∷ [])
    ∷ refused (outside_radius (over 1 2))
    ∷ refused (budget_exhausted 0 quarter)
    ∷ at 2 quarter (pos 0 ∷ [])
    ∷ refused (budget_exhausted 1 quarter)
    ∷ at 5 quarter (pos 0 ∷ pos 1 ∷ [])
    ∷ at 3 quarter (pos 0 ∷ pos 1 ∷ [])
    ∷ refused (outside_radius one)
    ∷ at 4 one (pos 0 ∷ pos 1 ∷ [])
    ∷ at 1 plus_zero (pos (2 ^ 52) ∷ [])
    ∷ refused (non_finite 0)
    ∷ refused (candidate_outside two)
    ∷ at 4 quarter (pos 0 ∷ [])
    ∷ refused (budget_range (2 ^ 60 + 1))
    ∷ at 0 plus_zero []
    ∷ at 0 plus_zero []
    ∷ at 6 one (pos 0 ∷ pos 1 ∷ pos 1 ∷ [])
    ∷ at 14 one (pos 0 ∷ pos 1 ∷ pos 1 ∷ [])
    ∷ at 10 one (pos 0 ∷ pos 1 ∷ pos 1 ∷ [])
    ∷ at 6 one (pos 0 ∷ pos 1 ∷ [])
    ∷ at 6 one (pos 0 ∷ pos 1 ∷ [])
    ∷ refused (budget_exhausted 5 one)
    ∷ refused (budget_exhausted 0 widened_one)
    ∷ at 6 one (pos 0 ∷ pos 1 ∷ [])
    ∷ at 6 one (pos 0 ∷ pos 1 ∷ [])
    ∷ []

-- ---- list
abbrev list_cases : List (Answer ListAnswer)
list_cases =
    list table_a [] places [] plus_zero 0
    ∷ list table_e target_e places places1 one 1
    ∷ list table_g target_g places places2 two 100
    ∷ list table_h target_h places places2 above_one 6
    ∷ list table_h target_h places places2 above_one 4
    ∷ list table_h target_h places places2 widened_one 10
    ∷ list table_h target_h places places2 widened_one 9
    ∷ []

abbrev list_answers : List (Answer ListAnswer)
list_answers =
    listed 0 (away plus_zero [] ∷ [])
    ∷ refused (budget_exhausted 1 one)
    ∷ listed 7 (away quarter (pos 0 ∷ pos 1 ∷ []) ∷ away half (pos 0 ∷ pos 0 ∷ []) ∷ away half (pos 1 ∷ pos 0 ∷ []) ∷ away (over 5 1) (negsuc 0 ∷ pos 1 ∷ []) ∷ away (over 5 1) (pos 1 ∷ pos 1 ∷ []) ∷ [])
    ∷ listed 6 (away one (pos 0 ∷ pos 0 ∷ []) ∷ away one (pos 0 ∷ pos 1 ∷ []) ∷ away one (pos 1 ∷ pos 0 ∷ []) ∷ away one (pos 1 ∷ pos 1 ∷ []) ∷ [])
    ∷ refused (budget_exhausted 4 above_one)
    ∷ refused (list_full 8)
    ∷ refused (budget_exhausted 9 widened_one)
    ∷ []

-- ---- H and I: four vectors at distance 1
abbrev four_vectors : List (List ℤ)
four_vectors = (pos 0 ∷ pos 0 ∷ []) ∷ (pos 0 ∷ pos 1 ∷ []) ∷ (pos 1 ∷ pos 0 ∷ []) ∷ (pos 1 ∷ pos 1 ∷ []) ∷ []

-- ---- J
abbrev round_cases : List ℤ
round_cases = map round_away (half ∷ fin true 1 (negsuc 0) ∷ fin true 5 (negsuc 0) ∷ fin false 1 (pos 63) ∷ [])

abbrev round_answers : List ℤ
round_answers = pos 1 ∷ negsuc 0 ∷ negsuc 2 ∷ pos (2 ^ 63 - 1) ∷ []

-- ---- changes of the reference satellite, each with the point at exit
abbrev lowest : ℤ
lowest = negsuc (2 ^ 63 - 1)

abbrev change_to : ℕ → List ℤ → Verdict × List ℤ
change_to r a = (change_reference a r, change_output (change_reference a r) a r)

abbrev reference_cases : List (Verdict × List ℤ)
reference_cases =
    change_to 0 (pos 1 ∷ pos 2 ∷ [])
    ∷ change_to 1 (pos 0 ∷ lowest ∷ [])
    ∷ change_to 0 (pos 1 ∷ lowest ∷ [])
    ∷ change_to 0 []
    ∷ change_to 2 (pos 0 ∷ lowest ∷ [])
    ∷ []

abbrev reference_answers : List (Verdict × List ℤ)
reference_answers =
    (pass, negsuc 0 ∷ pos 1 ∷ [])
    ∷ (refuse (changed_range 0), pos 0 ∷ lowest ∷ [])
    ∷ (refuse (changed_range 1), pos 1 ∷ lowest ∷ [])
    ∷ (refuse reference_index, [])
    ∷ (refuse reference_index, pos 0 ∷ lowest ∷ [])
    ∷ []

-- ---- entries one at a time, and tables of them
abbrev two_to53 : Float
two_to53 = fin false 1 (pos 53)

-- 2^52 + 1, the next double above 2^52
abbrev beyond : Float
beyond = fin false (2 ^ 52 + 1) (pos 0)

abbrev from_start : List Entry → Verdict
from_start es = fed_all pass es

abbrev entry_cases : List Verdict
entry_cases =
    from_start []
    ∷ from_start (entry_of 3 two_to53 ∷ [])
    ∷ from_start (entry_of 3 two_to53 ∷ entry_of 6 beyond ∷ [])
    ∷ from_start (entry_of 3 two_to53 ∷ entry_of 6 beyond ∷ entry_of 7 nan ∷ [])
    ∷ from_start (entry_of 12 nan ∷ entry_of 13 (inf false) ∷ [])
    ∷ from_start (entry_of 2 coord_limit ∷ entry_of 3 (fin true 1 (pos 52)) ∷ [])
    ∷ from_start (entry_of 2 (inf true) ∷ [])
    ∷ []

abbrev entry_answers : List Verdict
entry_answers =
    pass
    ∷ refuse (mu_range 3)
    ∷ refuse (mu_range 3)
    ∷ refuse (mu_non_finite 7)
    ∷ refuse (mu_non_finite 12)
    ∷ pass
    ∷ refuse (mu_non_finite 2)
    ∷ []

-- n weights 1, with this mu
abbrev checked : ℕ → List Float → Verdict
checked n mu = first_refusal (table_checks largest_dimension (record { weights = replicate n one; mu = mu }))

abbrev table_cases : List Verdict
table_cases =
    checked 3 (replicate 3 nan ++ two_to53 ∷ nan ∷ nan ∷ beyond ∷ nan ∷ nan ∷ [])
    ∷ checked 4 (replicate 12 plus_zero ++ nan ∷ inf false ∷ plus_zero ∷ plus_zero ∷ [])
    ∷ checked 2 (nan ∷ nan ∷ two_to53 ∷ nan ∷ [])
    ∷ checked 2 (nan ∷ nan ∷ coord_limit ∷ nan ∷ [])
    ∷ checked 2 (nan ∷ nan ∷ beyond ∷ nan ∷ [])
    ∷ []

abbrev table_answers : List Verdict
table_answers = refuse (mu_non_finite 7) ∷ refuse (mu_non_finite 12) ∷ refuse (mu_range 2) ∷ pass ∷ refuse (mu_range 2) ∷ []

-- ---- a radius of minus zero, and -2^-1074, which is below 0
abbrev below_zero : Float
below_zero = fin true 1 (negsuc 1073)

abbrev zero_cases : List (Answer NearestPoint)
zero_cases =
    nearest table_e target_e out1 minus_zero 100
    ∷ nearest table_e (one ∷ []) out1 minus_zero 0
    ∷ nearest table_e (one ∷ []) out1 minus_zero 1
    ∷ nearest_seeded table_e target_e out1 (pos 0 ∷ []) minus_zero 100
    ∷ nearest table_e target_e out1 below_zero 100
    ∷ nearest_seeded table_e target_e out1 (pos 0 ∷ []) below_zero 100
    ∷ []

abbrev zero_answers : List (Answer NearestPoint)
zero_answers =
    refused (outside_radius plus_zero)
    ∷ refused (budget_exhausted 0 plus_zero)
    ∷ at 1 plus_zero (pos 1 ∷ [])
    ∷ refused (candidate_outside plus_zero)
    ∷ refused (invalid_radius below_zero)
    ∷ refused (invalid_radius below_zero)
    ∷ []

abbrev zero_lists : List (Answer ListAnswer)
zero_lists =
    list table_e (one ∷ []) places places1 minus_zero 0
    ∷ list table_e (one ∷ []) places places1 minus_zero 1
    ∷ list table_e (one ∷ []) places places1 below_zero 0
    ∷ []

abbrev zero_list_answers : List (Answer ListAnswer)
zero_list_answers =
    refused (budget_exhausted 0 plus_zero)
    ∷ listed 1 (away plus_zero (pos 1 ∷ []) ∷ [])
    ∷ refused (invalid_radius below_zero)
    ∷ []

-- ---- G as a job: radius 2 and budget 100
unfoldable pub bytes_of : ℕ → ℕ → List ℕ
bytes_of zero n = []
bytes_of (suc size) n = n % 256 ∷ bytes_of size (n / 256)

unfoldable pub joined : List ℕ → List ℕ
unfolding bytes_of
joined [] = []
joined (n ∷ ns) = bytes_of 8 n ++ joined ns

abbrev section_of : List ℕ → List ℕ
section_of ns = bytes_of 4 (length ns) ++ joined ns

abbrev bits : List Float → List ℕ
bits xs = map (to_bits binary64) xs

abbrev job_g : List ℕ
job_g = section_of (bits (one ∷ one ∷ [])) ++ section_of (bits (half ∷ [])) ++ section_of (bits target_g) ++ section_of (bits (two ∷ [])) ++ section_of (100 ∷ [])

abbrev printed_g : List ℕ
printed_g = text "nearest 5 3FD0000000000000 0 1\nlist 7 5\n3FD0000000000000 0 1\n3FE0000000000000 0 0\n3FE0000000000000 1 0\n3FF4000000000000 -1 1\n3FF4000000000000 1 1\nratio fails\n"

-- ---- A as a job: radius 0 and budget 0
abbrev job_a : List ℕ
job_a = section_of [] ++ section_of [] ++ section_of [] ++ section_of (0 ∷ []) ++ section_of (0 ∷ [])

abbrev printed_a : List ℕ
printed_a = text "nearest 0 0000000000000000\nlist 0 1\n0000000000000000\nratio holds\n"

-- ---- B as a job
abbrev job_b : List ℕ
job_b = section_of (bits (four ∷ [])) ++ section_of [] ++ section_of (bits target_b) ++ section_of (bits (quarter ∷ [])) ++ section_of (1 ∷ [])

abbrev printed_b : List ℕ
printed_b = text "nearest 1 3FD0000000000000 1\nlist 1 1\n3FD0000000000000 1\nratio open\n"

-- ---- I as a job: the list begins with another point than `nearest` gives
abbrev job_i : List ℕ
job_i = section_of (bits table_h.weights) ++ section_of (bits (plus_zero ∷ [])) ++ section_of (bits target_h) ++ section_of (bits (above_one ∷ [])) ++ section_of (6 ∷ [])

abbrev printed_i : List ℕ
printed_i = text "nearest 4 3FF0000000000000 0 1\nlist 6 4\n3FF0000000000000 0 0\n3FF0000000000000 0 1\n3FF0000000000000 1 0\n3FF0000000000000 1 1\nratio fails\n"

-- ---- E as a job
abbrev job_e : List ℕ
job_e = section_of (bits (one ∷ [])) ++ section_of [] ++ section_of (bits target_e) ++ section_of (bits (one ∷ [])) ++ section_of (2 ∷ [])

-- ---- the ratio
abbrev ratio_at : Table → List Float → List ℤ → Float → Ratio
ratio_at t target points R = list_ratio 3 1 (list t target places points R 100) R

-- of dimension 1: by weight, target and radius
abbrev ratio_at1 : Float → Float → Float → Ratio
ratio_at1 w x R = ratio_at (record { weights = w ∷ []; mu = plus_zero ∷ [] }) (x ∷ []) places1 R

-- the double of these bits
abbrev double : ℕ → Float
double b = of_bits binary64 b

abbrev largest : Float
largest = fin false (2 ^ 53 - 1) (pos 971)

-- three levels at 7/16: d1 is above a third of the largest double
abbrev table_large : Table
table_large = record { weights = largest ∷ largest ∷ largest ∷ []; mu = replicate 9 plus_zero }

abbrev target_large : List Float
target_large = over 7 3 ∷ over 7 3 ∷ over 7 3 ∷ []

abbrev ratio_cases : List Ratio
ratio_cases =
    -- A; B at 1/4, at 3·d1 and at the double below it
    ratio_at table_a [] [] plus_zero
    ∷ ratio_at table_b target_b places1 quarter
    ∷ ratio_at table_b target_b places1 (over 3 1)
    ∷ ratio_at table_b target_b places1 (over (3 * 2 ^ 51 - 1) 52)
    -- weight 1 and target 7/16: open at 1/4, where [1] at 81/256 is not listed, and fails at 1, where it is
    ∷ ratio_at1 one (over 7 3) quarter
    ∷ ratio_at1 one (over 7 3) one
    -- C; E with one place, which is 18; G
    ∷ ratio_at table_b target_b places1 (over 1 2)
    ∷ list_ratio 3 1 (list table_e target_e (one ∷ []) (pos 7 ∷ []) one 100) one
    ∷ ratio_at table_g target_g places2 two
    -- d1 is 0: alone at radius 0 and at minus zero, and twice with weight 2^-1074
    ∷ ratio_at1 one plus_zero plus_zero
    ∷ ratio_at1 one plus_zero minus_zero
    ∷ ratio_at1 (over 1 1073) half plus_zero
    -- 3·d1 is rounded once: weight 16·d1, d1 3FF0000000000003, at 4008000000000004 and the double below it
    ∷ ratio_at1 (double 4625196817309499395) quarter (double 4613937818241073156)
    ∷ ratio_at1 (double 4625196817309499395) quarter (double 4613937818241073155)
    -- and it is a product: d1 3FF0000000000001, at 4008000000000001, where R/3 is d1 and R/d1 is 3
    ∷ ratio_at1 (double 4625196817309499393) quarter (double 4613937818241073153)
    -- 3·d1 overflows: alone at 5·2^1021, and with others at 3·2^1022
    ∷ ratio_at table_large target_large (places2 ++ places1) (fin false 5 (pos 1021))
    ∷ ratio_at table_large target_large (places2 ++ places1) (fin false 3 (pos 1022))
    ∷ []

abbrev ratio_verdicts : List Ratio
ratio_verdicts =
    holds
    ∷ «open»
    ∷ holds
    ∷ «open»
    ∷ «open»
    ∷ fails
    ∷ none
    ∷ none
    ∷ fails
    ∷ holds
    ∷ holds
    ∷ holds
    ∷ holds
    ∷ «open»
    ∷ «open»
    ∷ «open»
    ∷ fails
    ∷ []

-- ---- the settings: p, q, the distances and R
abbrev call_cases : List (Answer Ratio)
call_cases =
    -- each product is rounded by itself: not d2 against (p/q)·d1 nor against p·d1/q, nor d2/d1 against p/q
    ratio_call 5 3 (double 4610259612420551952 ∷ double 4613499746506604941 ∷ []) one
    ∷ ratio_call 5 3 (double 4608506438997599940 ∷ double 4612038768654144931 ∷ []) one
    ∷ ratio_call 3 2 (double 4608730296585490126 ∷ double 4611721026859649818 ∷ []) one
    -- p·d1 overflows, so that inf ≥ inf does not count; and only q·d2 does
    ∷ ratio_call 5 5 (largest ∷ largest ∷ []) largest
    ∷ ratio_call 5 5 (largest ∷ []) largest
    ∷ ratio_call 1000 1000 (one ∷ largest ∷ []) one
    -- d2 = d1 at p = q, and at p = q + 1
    ∷ ratio_call 1000 1000 (one ∷ one ∷ []) one
    ∷ ratio_call 1000 999 (one ∷ one ∷ []) one
    -- one distance: R has q as its factor, 2·1.5 is 3 and the double below it is not, and q·R may be infinite
    ∷ ratio_call 3 2 (one ∷ []) (over 3 0)
    ∷ ratio_call 3 2 (one ∷ []) (over (3 * 2 ^ 51 - 1) 51)
    ∷ ratio_call 1000 1000 (one ∷ []) largest
    -- what no list has: no order, NaNs, an infinite first distance
    ∷ ratio_call 1 1 (two ∷ one ∷ []) two
    ∷ ratio_call 1 1 (nan ∷ one ∷ []) two
    ∷ ratio_call 1 1 (one ∷ nan ∷ []) two
    ∷ ratio_call 1 1 (one ∷ []) nan
    ∷ ratio_call 1 1 (inf false ∷ inf false ∷ []) two
    ∷ ratio_call 1 1 [] nan
    -- 21
    ∷ ratio_call 0 0 [] one
    ∷ ratio_call 1001 1 [] one
    ∷ ratio_call 1 2 [] one
    ∷ ratio_call 5 2000 [] one
    ∷ ratio_call 5 0 [] one
    ∷ []

abbrev call_answers : List (Answer Ratio)
call_answers =
    found holds
    ∷ found fails
    ∷ found holds
    ∷ found fails
    ∷ found «open»
    ∷ found holds
    ∷ found holds
    ∷ found fails
    ∷ found holds
    ∷ found «open»
    ∷ found holds
    ∷ found fails
    ∷ found fails
    ∷ found fails
    ∷ found «open»
    ∷ found fails
    ∷ found none
    ∷ refused (setting_range 0)
    ∷ refused (setting_range 0)
    ∷ refused (setting_range 0)
    ∷ refused (setting_range 0)
    ∷ refused (setting_range 1)
    ∷ []

-- ---- a sixth section
abbrev settings_bytes : ℕ → ℕ → ℕ → List ℕ
settings_bytes p q places = section_of (p ∷ q ∷ places ∷ [])

abbrev setting_texts : List (List ℕ)
setting_texts =
    -- B with the default settings, with p = q and one place, and E with one place
    job_output (job_b ++ settings_bytes 3 1 256)
    ∷ job_output (job_b ++ settings_bytes 1 1 1)
    ∷ job_output (job_e ++ settings_bytes 1000 1 1)
    -- 21: p below q; q 0; places 0 and 257
    ∷ job_output (job_b ++ settings_bytes 2 3 256)
    ∷ job_output (job_b ++ settings_bytes 3 0 256)
    ∷ job_output (job_b ++ settings_bytes 3 1 0)
    ∷ job_output (job_b ++ settings_bytes 3 1 257)
    ∷ []

abbrev printed_texts : List (List ℕ)
printed_texts =
    printed_b
    ∷ text "nearest 1 3FD0000000000000 1\nlist 1 1\n3FD0000000000000 1\nratio holds\n"
    ∷ text "nearest 2 3FD0000000000000 0\nlist refused 18 search\nratio none\n"
    ∷ text "job refused 21 layout\n"
    ∷ text "job refused 21 layout\n"
    ∷ text "job refused 21 layout\n"
    ∷ text "job refused 21 layout\n"
    ∷ []

-- A's 36 bytes alone; with others behind them: one; a count of 3 and a byte; a count of 0, of 2 and of 4, alone; a whole section and a byte
abbrev layouts : List Layout
layouts =
    job_of job_a
    ∷ job_of (job_a ++ 0 ∷ [])
    ∷ job_of (job_a ++ 3 ∷ 0 ∷ 0 ∷ 0 ∷ 7 ∷ [])
    ∷ job_of (job_a ++ 0 ∷ 0 ∷ 0 ∷ 0 ∷ [])
    ∷ job_of (job_a ++ 2 ∷ 0 ∷ 0 ∷ 0 ∷ [])
    ∷ job_of (job_a ++ 4 ∷ 0 ∷ 0 ∷ 0 ∷ [])
    ∷ job_of (job_a ++ settings_bytes 3 1 256 ++ 0 ∷ [])
    ∷ []

abbrev layouts_read : List Layout
layouts_read =
    job (record { table = table_a; target = []; radius = plus_zero; budget = 0; settings = record { p = 3; q = 1; places = 256 } })
    ∷ layout_fault 37
    ∷ layout_fault 41
    ∷ layout_fault 36
    ∷ layout_fault 36
    ∷ layout_fault 36
    ∷ layout_fault 64
    ∷ []

-- ---- the first setting out of range
abbrev setting_checks : List Verdict
setting_checks =
    settings_check (record { p = 1000; q = 1000; places = 1 })
    ∷ settings_check (record { p = 3; q = 1; places = 0 })
    ∷ settings_check (record { p = 3; q = 1; places = 257 })
    ∷ settings_check (record { p = 3; q = 0; places = 0 })
    ∷ settings_check (record { p = 2; q = 3; places = 0 })
    ∷ settings_check (record { p = 5; q = 2000; places = 256 })
    ∷ []

abbrev setting_verdicts : List Verdict
setting_verdicts =
    pass
    ∷ refuse (setting_range 2)
    ∷ refuse (setting_range 2)
    ∷ refuse (setting_range 1)
    ∷ refuse (setting_range 0)
    ∷ refuse (setting_range 0)
    ∷ []

-- ---- nearest_plane: what is left of minus zero, and of the largest double, whose sum is infinite
abbrev plane_cases : List Plane
plane_cases =
    nearest_plane (table (one ∷ []) (nan ∷ [])) (minus_zero ∷ [])
    ∷ nearest_plane (table (one ∷ one ∷ []) (nan ∷ nan ∷ two ∷ nan ∷ [])) (plus_zero ∷ largest ∷ [])
    ∷ []

abbrev plane_answers : List Plane
plane_answers =
    record { point = pos 0 ∷ []; left = minus_zero ∷ [] }
    ∷ record { point = pos (2 ^ 63 - 1) ∷ pos (2 ^ 63 - 1) ∷ []; left = fin true 1 (pos 63) ∷ largest ∷ [] }
    ∷ []

pub record Cases : Type 0 where
  pub nearest_cases_lem : nearest_cases ≡ nearest_answers
  pub list_cases_lem : list_cases ≡ list_answers
  pub rounding_cases : round_cases ≡ round_answers
  pub plane_cases_lem : plane_cases ≡ plane_answers
  pub four_at_one : map (partial table_h target_h) four_vectors ≡ one ∷ one ∷ one ∷ one ∷ []
  pub none_admitted : map (admitted table_h target_h one) four_vectors ≡ false ∷ false ∷ false ∷ false ∷ []
  pub all_admitted : map (admitted table_h target_h above_one) four_vectors ≡ true ∷ true ∷ true ∷ true ∷ []
  pub reference_cases_lem : reference_cases ≡ reference_answers
  pub entry_cases_lem : entry_cases ≡ entry_answers
  pub table_cases_lem : table_cases ≡ table_answers
  pub zero_cases_lem : zero_cases ≡ zero_answers
  pub zero_lists_lem : zero_lists ≡ zero_list_answers
  pub ratio_cases_lem : ratio_cases ≡ ratio_verdicts
  pub ratio_calls : call_cases ≡ call_answers
  pub setting_texts_lem : setting_texts ≡ printed_texts
  pub layouts_read_lem : layouts ≡ layouts_read
  pub setting_checks_lem : setting_checks ≡ setting_verdicts
  pub printed : job_output job_g ≡ printed_g
  pub printed_open : job_output job_b ≡ printed_b
  pub printed_other : job_output job_i ≡ printed_i
  pub printed_empty : job_output job_a ≡ printed_a

pub cases : Cases
unfolding nearest nearest_plane list list_ratio ratio_call settings_check nearest_seeded nearest_ml round_away change_reference change_output fed_all first_refusal table_checks partial admitted job_output text to_bits of_bits bytes_of joined
cases = record {
  nearest_cases_lem = refl;
  list_cases_lem = refl;
  rounding_cases = refl;
  plane_cases_lem = refl;
  four_at_one = refl;
  none_admitted = refl;
  all_admitted = refl;
  reference_cases_lem = refl;
  entry_cases_lem = refl;
  table_cases_lem = refl;
  zero_cases_lem = refl;
  zero_lists_lem = refl;
  ratio_cases_lem = refl;
  ratio_calls = refl;
  setting_texts_lem = refl;
  layouts_read_lem = refl;
  setting_checks_lem = refl;
  printed = refl;
  printed_open = refl;
  printed_other = refl;
  printed_empty = refl;
}
