-- What a nearest search answers and leaves, by its walk or by a refusal of its checks. Assumes nothing.
use mathlib.Core.Path.{◌≡◌, ap, sym, ◌∙◌, subst}
use mathlib.Core.List.{List}
use lib.IntN.{ℤ}
use lib.Ieee.{Float}
use Rattle.std.specs.Prelude.{Result, Err}
use Rattle.std.specs.Result.{IsErr, IsErrAnd}
use Rattle.definitions.specs.Walk.{Walked, ended, exhausted}
use Rattle.definitions.specs.Nearest.{Best, no_best, best}
use Rattle.definitions.specs.Refusals.{budget_exhausted, outside_radius}
use Rattle.definitions.specs.Calls.{Answer, refused, NearestPoint, end_of_nearest, nearest_output}
use Rattle.definitions.proofs.Answers.{end_exhausted, end_nothing, end_point, output_found, output_refused}
use Rattle.refusals.specs.Numbers.{numbered}
use Rattle.refusals.specs.declared.Refusal.{Refusal as CodeRefusal}
use Rattle.refusals.proofs.Early.{handed_up}
use Rattle.enumerate.specs.declared.NearestPoint.{NearestPoint as CodePoint}
use Rattle.enumerate.specs.declared.Ending.{Ending}
use Rattle.enumerate.specs.View.{walk_output, NearestWalked, NearestAnswered}

-- a walk's end leaves what its answer does
pub output_walked : (R : Float) (w : Walked Best) (out : List ℤ) → walk_output w out ≡ nearest_output (end_of_nearest R w) out
output_walked R (exhausted m S) out = sym (ap (λ (a : Answer NearestPoint). nearest_output a out) (end_exhausted R m S) ∙ output_refused (budget_exhausted m S) out)
output_walked R (ended no_best S m) out = sym (ap (λ (a : Answer NearestPoint). nearest_output a out) (end_nothing R S m) ∙ output_refused (outside_radius R) out)
output_walked R (ended (best zs) S m) out = sym (ap (λ (a : Answer NearestPoint). nearest_output a out) (end_point R zs S m) ∙ output_found (record { nodes = m; distance = S; point = zs }) out)

-- a walk by another name
pub walked_as : {v w : Walked Best} {out out' : List ℤ} {r : Ending} → v ≡ w → NearestWalked v out r out' → NearestWalked w out r out'
walked_as {v} {w} {out} {out'} {r} e = subst (λ (x : Walked Best). NearestWalked x out r out') e

-- a refusal leaves the slice
pub answered_refused : {a : Answer NearestPoint} (e : CodeRefusal) (out : List ℤ) → a ≡ refused (numbered e) → NearestAnswered a out (Err e) out
answered_refused e out q = record { tells = sym q; writes = sym (ap (λ (x : Answer NearestPoint). nearest_output x out) q ∙ output_refused (numbered e) out) }

-- and so does the exit of a `?` that hands a check's refusal up
pub answered_up : {a : Answer NearestPoint} (e : CodeRefusal) (r : Result CodePoint CodeRefusal) (out : List ℤ) → IsErr r × IsErrAnd r (λ y. y ≡ e) → a ≡ refused (numbered e) → NearestAnswered a out r out
answered_up {a} e r out up q = subst (λ (x : Result CodePoint CodeRefusal). NearestAnswered a out x out) (sym (handed_up r up.1)) (answered_refused e out q)

-- an answer by another name
pub answered_as : {a b : Answer NearestPoint} {out out' : List ℤ} {r : Result CodePoint CodeRefusal} → a ≡ b → NearestAnswered a out r out' → NearestAnswered b out r out'
answered_as {a} {b} {out} {out'} {r} e = subst (λ (x : Answer NearestPoint). NearestAnswered x out r out') e
