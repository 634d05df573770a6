use Rattle.std.proofs.Common.{ap, ◌∙◌, drop, map}
use Rattle.anb_term.specs.View.{tree_of}
use Rattle.anb_term.proofs.Lists.{map-drop}
use Rattle.anb_trace.proofs.Placing.{all_taken}
use Rattle.anb_trace.proofs.instrs.terms_from.Goals as goal

pub returns : goal.returns
returns c =
    ap (map tree_of) (all_taken c.args.first c.terms.result.now) ∙ map-drop tree_of c.args.first c.terms.result.now ∙ ap (drop c.args.first) c.terms.ensures
