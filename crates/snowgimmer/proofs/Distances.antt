-- How `distance` answers: by what its checks say, and by the computed distance. Assumes nothing.
use mathlib.Core.Path.{◌≡◌, refl, ap, ◌∙◌}
use mathlib.Core.Bool.{Bool, true, false, not, cond}
use mathlib.Core.List.{List, [], ◌∷◌}
use lib.IntN.{ℤ}
use lib.Ieee.{Float}
use lib.Ieee.Scale.{finite}
use Rattle.definitions.specs.Table.{Table, largest_dimension}
use Rattle.definitions.specs.Distance.{distance}
use Rattle.definitions.specs.Refusals.{Refusal, candidate_distance}
use Rattle.definitions.specs.Checks.{Verdict, pass, refuse, first_refusal, refuse_if, candidate_distance_check}
use Rattle.definitions.specs.Calls.{found, refused, search_checks, distance_checks, point_distance}
use Rattle.definitions.proofs.Verdicts.{or_else, first_append, first_alone}
use Rattle.definitions.proofs.Answers.{after_pass, after_refuse}
use Rattle.std.specs.Prelude.{Result, Ok, Err}
use Rattle.distance.specs.declared.Overflow.{Overflow}
use Rattle.distance.specs.View.{distance_of}

module _ (t : Table) (target : List Float) (point : List ℤ) where
  abbrev d : Float
  d = distance t target point

  abbrev before : Verdict
  before = first_refusal (search_checks largest_dimension t target point)

  -- 11 after the others
  checks_are : distance_checks largest_dimension t target point ≡ or_else before (candidate_distance_check d)
  unfolding distance_checks
  checks_are = first_append (search_checks largest_dimension t target point) (candidate_distance_check d ∷ []) ∙ ap (or_else before) (first_alone (candidate_distance_check d))

  pub distance_refused : (e : Refusal) → before ≡ refuse e → point_distance t target point ≡ refused e
  unfolding point_distance
  distance_refused e q = after_refuse (distance_checks largest_dimension t target point) (found d) e (checks_are ∙ ap (λ (v : Verdict). or_else v (candidate_distance_check d)) q)

  module _ (passed : before ≡ pass) where
    last : distance_checks largest_dimension t target point ≡ candidate_distance_check d
    last = checks_are ∙ ap (λ (v : Verdict). or_else v (candidate_distance_check d)) passed

    pub distance_found : (x : Float) → distance_of d ≡ Ok x → point_distance t target point ≡ found x
    unfolding point_distance
    distance_found x q = by (finite d) refl q
      where
        by : (b : Bool) → finite d ≡ b → cond {A = Result Float Overflow} b (Ok d) (Err (record { total = d })) ≡ Ok x → point_distance t target point ≡ found x
        by true f e =
            let same : d ≡ x = cc in
            after_pass (distance_checks largest_dimension t target point) (found d) (last ∙ ap (λ (b : Bool). refuse_if (not b) (candidate_distance d)) f) ∙ ap found same
        by false f e = cc

    pub distance_overflowed : (x : Overflow) → distance_of d ≡ Err x → point_distance t target point ≡ refused (candidate_distance x.total)
    unfolding point_distance
    distance_overflowed x q = by (finite d) refl q
      where
        by : (b : Bool) → finite d ≡ b → cond {A = Result Float Overflow} b (Ok d) (Err (record { total = d })) ≡ Err x → point_distance t target point ≡ refused (candidate_distance x.total)
        by false f e =
            let same : d ≡ x.total = cc in
            after_refuse (distance_checks largest_dimension t target point) (found d) (candidate_distance x.total) (last ∙ ap (λ (b : Bool). refuse_if (not b) (candidate_distance d)) f ∙ ap (λ (y : Float). refuse (candidate_distance y)) same)
        by true f e = cc
