-- One more label.
use Rattle.std.proofs.Common.{◌++◌, ◌∷◌, [], ap, ◌∙◌}
use Rattle.anb_term.specs.View.{tree_of}
use Rattle.anb_stranger.proofs.Labels.{one_label}
use Rattle.anb_stranger.proofs.knowledge.Knowledge.learn.Goals as goal

pub returns-in_ok-add-in-Some : goal.returns-in_ok-add-in-Some
returns-in_ok-add-in-Some c =
    one_label c.self.inside.closure c.add.new.self c.args.t.now c.in_ok-add-in-Some.ensures.ok ∙ ap (λ l. l ++ tree_of c.args.t.now ∷ []) c.self.view_is
