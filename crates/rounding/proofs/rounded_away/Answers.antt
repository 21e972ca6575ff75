-- `rounding::rounded_away` meets its contract: a guess within a half is the answer. Assumes nothing.
use Rattle.std.proofs.Common.{◌≡◌, T, ap, ◌∙◌, subst, w64, to_z, of_z}
use lib.Ieee.{Float, binary64, of_bits, neg, sub, lt}
use mir.ValLaws.{to_z-of_z}
use Rattle.rounding.specs.Integers.{round_away, to_double}
use Rattle.rounding.proofs.Comparison.{held}
use Rattle.rounding.proofs.Guess.{half, minus_half, near_is}
use Rattle.rounding.proofs.rounded_away.Goals as goal

pub returns-then-off-2 : goal.returns-then-off-2
unfolding of_bits neg
returns-then-off-2 c =
    let near = c.guessed-near in
    let v = c.args.v in
    let e : to_z w64 (of_z w64 near.result) ≡ near.result = to_z-of_z w64 near.result (record { sfits = near.type_inv }) in
    let x : c.to_double-double.result ≡ to_double near.result = c.to_double-double.ensures ∙ ap to_double e in
    let under : T (lt (sub binary64 v (to_double near.result)) half) = subst (λ (y : Float). T (lt (sub binary64 v y) half)) x (held c.if-off.true) in
    let over : T (lt minus_half (sub binary64 v (to_double near.result))) = subst (λ (y : Float). T (lt minus_half (sub binary64 v y))) x (held c.if-off-2.true) in
    let n : near.result ≡ round_away v = near_is v (held c.well_formed.0.1) near.result near.ensures under over in
    record { integer = e ∙ n; double = x ∙ ap to_double n }

pub returns : goal.returns
returns c =
    let r = c.round_away-integer in
    let e : _ ≡ round_away c.args.v = to_z-of_z w64 r.result (record { sfits = r.type_inv }) ∙ r.ensures in
    record { integer = e; double = c.to_double.ensures ∙ ap to_double e }
