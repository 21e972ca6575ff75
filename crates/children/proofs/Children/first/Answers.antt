-- `Children::first` is the zigzag's first child. Assumes nothing.
use mathlib.Core.Path.{refl, sym, ap, ◌∙◌}
use Rattle.definitions.proofs.Zigzags.{next_first}
use Rattle.children.specs.View.{zigzag, trial_of, child_of}
use Rattle.children.proofs.Outcomes.{nearest_is}
use Rattle.children.proofs.Steps.{answer}
use Rattle.children.proofs.Children.first.Goals as goal

pub returns : goal.returns
returns c =
    let self = c.args.self in
    let same = nearest_is c.struct_told-1.given in
    answer self self.step self.positive_done self.negative_done (c.trial_of.ensures ∙ ap (trial_of self.weight self.center) same) same refl
    ∙ ap child_of (sym (next_first (zigzag self) c.requires))
