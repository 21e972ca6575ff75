-- `mapped_answer` meets its contract: a refusal leaves out, and after a pass the mapped point is copied to it. Assumes nothing.
use mathlib.Core.Path.{◌≡◌, refl, sym, ap, ◌∙◌}
use mathlib.Core.List.{List}
use Prim.Native.Nat.{ℕ, ◌≤◌}
use lib.IntN.{ℤ, pos}
use lib.ListN.{length, replicate, take}
use lib.Seq.{length-take-le}
use Rattle.lists.proofs.Copies.{prefix_is}
use Rattle.definitions.specs.Table.{largest_dimension}
use Rattle.definitions.specs.Prepared.{mapped_point, mapped_range_check}
use Rattle.enumerate.proofs.Answers.{answered_up}
use Rattle.prepared.proofs.Mapping.{range_refused, point_mapped}
use Rattle.prepared.proofs.mapped_answer.Goals as goal
use Rattle.prepared.proofs.mapped_answer.Goals.{After-map_point}

-- the array, whose first part is lent
abbrev zeros : List ℤ
zeros = replicate largest_dimension (pos 0)

whole : (n : ℕ) → n ≤ largest_dimension → n ≡ length (take n zeros)
whole n small = sym (length-take-le n zeros small)

pub returns-in_err-map_point : goal.returns-in_err-map_point
returns-in_err-map_point c =
    let a = c.args in
    answered_up _ _ a.out.now c.from_residual.ensures
    (range_refused (length a.out.now) a.transform.now a.point.now a.found _
    (c.in_err-map_point.ensures.tells ∙ ap (λ (n : ℕ). mapped_range_check n a.transform.now a.point.now) (sym (whole (length a.out.now) c.requires.small))))

lent : (c : After-map_point) → length c.map_point.new.mapped ≡ length c.args.out.now
lent c = c.map_point.auto.mapped ∙ sym (whole (length c.args.out.now) c.requires.small)

pub returns : goal.returns
returns c =
    let mapped = (goal.at.returns c).After-map_point in
    let a = c.args in
    let n = length a.out.now in
    let whole_n = sym (whole n c.requires.small) in
    point_mapped n a.transform.now a.point.now a.found
    (c.in_ok-map_point.ensures.tells ∙ ap (λ (m : ℕ). mapped_range_check m a.transform.now a.point.now) whole_n)
    (c.copy_from_slice.ensures.after
    ∙ prefix_is zeros mapped.map_point.new.mapped n c.requires.small (lent mapped)
    ∙ c.in_ok-map_point.ensures.writes refl
    ∙ ap (λ (m : ℕ). mapped_point m a.transform.now a.point.now) whole_n)
