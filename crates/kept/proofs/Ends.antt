-- What a walk that is over answers: its best, or that nothing is inside the radius. Assumes nothing.
use mathlib.Core.Path.{◌≡◌, sym, ap, ◌∙◌}
use mathlib.Core.Bool.{Bool, true, false, cond}
use mathlib.Core.List.{List}
use lib.ListN.{length, take}
use lib.IntN.{ℤ}
use lib.Ieee.{Float}
use Rattle.std.specs.Prelude.{Ok, Err}
use Rattle.definitions.specs.Walk.{ended}
use Rattle.definitions.specs.Nearest.{no_best, best}
use Rattle.definitions.specs.Calls.{Answer, found, NearestPoint, end_of_nearest, nearest_output}
use Rattle.definitions.proofs.Answers.{end_nothing, end_point, output_found}
use Rattle.refusals.specs.declared.Refusal.TheVariants.{OutsideRadius}
use Rattle.enumerate.specs.View.{NearestAnswered}
use Rattle.enumerate.proofs.Answers.{answered_refused}
use Rattle.resume.specs.declared.Walk.{Walk}
use Rattle.kept.specs.Part.{over_answer}

module _ (R : Float) (s : Walk) (out : List ℤ) where
  by_found : (b : Bool) → s.found ≡ b → over_answer R s out ≡ end_of_nearest R (ended (cond b (best (take (length out) s.best)) no_best) s.radius s.nodes)
  by_found b e = ap (λ (c : Bool). end_of_nearest R (ended (cond c (best (take (length out) s.best)) no_best) s.radius s.nodes)) e

  pub nothing_found : s.found ≡ false → NearestAnswered (over_answer R s out) out (Err (OutsideRadius R)) out
  nothing_found e = answered_refused (OutsideRadius R) out (by_found false e ∙ end_nothing R s.radius s.nodes)

  pub best_found : s.found ≡ true → (out' : List ℤ) → out' ≡ take (length out) s.best → NearestAnswered (over_answer R s out) out (Ok (record { nodes = s.nodes; distance = s.radius })) out'
  best_found e out' q =
      let a = by_found true e ∙ end_point R (take (length out) s.best) s.radius s.nodes in
      record {
        tells = ap (λ (zs : List ℤ). found (record { nodes = s.nodes; distance = s.radius; point = zs })) q ∙ sym a;
        writes = q ∙ sym (ap (λ (x : Answer NearestPoint). nearest_output x out) a ∙ output_found (record { nodes = s.nodes; distance = s.radius; point = take (length out) s.best }) out);
      }
