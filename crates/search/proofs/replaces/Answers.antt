-- `replaces` settles the definition's parts one after the other. Assumes nothing.
use Rattle.std.proofs.Common.{◌≡◌, Bool, true, false, ◌&&◌, ◌||◌, List, take, ℤ, sym, ap, ◌∙◌}
use lib.Ieee.{Float, lt, eq}
use Rattle.definitions.specs.Nearest.{lexicographic, replaces}
use Rattle.definitions.proofs.Leaves.{replaces_none, replaces_best}
use Rattle.search.specs.View.{best_where}
use Rattle.search.proofs.replaces.Goals as goal
use Rattle.search.proofs.replaces.Goals.{then-not-found-via-then-not-found, then-not-found-via-else-not-found+then-distance-radius}

module _ (zs bs : List ℤ) (d R : Float) {found : Bool} where
  none : found ≡ false → true ≡ replaces zs d (best_where found bs) R
  none e = sym (ap (λ (b : Bool). replaces zs d (best_where b bs) R) e ∙ replaces_none zs d R)

  some : (less : Bool) → found ≡ true → lt d R ≡ less → (less || (eq d R && lexicographic zs bs)) ≡ replaces zs d (best_where found bs) R
  some less e h = sym (ap (λ (b : Bool). replaces zs d (best_where b bs) R) e ∙ replaces_best zs d bs R ∙ ap (λ (b : Bool). b || (eq d R && lexicographic zs bs)) h)

pub returns-then-not-found : goal.returns-then-not-found
returns-then-not-found c =
    let a = c.args in
    let zs = take a.n a.point.now in
    let bs = take a.n a.best.now in
    elim c.then-not-found.branch [
      | then-not-found-via-then-not-found w ↦ none zs bs a.distance a.radius w.if-not-found.true
      | then-not-found-via-else-not-found+then-distance-radius w ↦ some zs bs a.distance a.radius true w.if-not-found.false w.if-distance-radius.true
    ]

pub returns-then-distance-radius-2 : goal.returns-then-distance-radius-2
returns-then-distance-radius-2 c =
    let a = c.args in
    let zs = take a.n a.point.now in
    let bs = take a.n a.best.now in
    c.before-then-distance-radius-2.ensures
    ∙ ap (λ (b : Bool). b && lexicographic zs bs) (sym c.if-distance-radius-2.true)
    ∙ some zs bs a.distance a.radius false c.if-not-found.false c.if-distance-radius.false

pub returns-else-distance-radius-2 : goal.returns-else-distance-radius-2
returns-else-distance-radius-2 c =
    let a = c.args in
    let zs = take a.n a.point.now in
    let bs = take a.n a.best.now in
    c.if-distance-radius-2.false
    ∙ ap (λ (b : Bool). b && lexicographic zs bs) (sym c.if-distance-radius-2.false)
    ∙ some zs bs a.distance a.radius false c.if-not-found.false c.if-distance-radius.false
