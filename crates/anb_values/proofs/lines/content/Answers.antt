use Rattle.std.proofs.Common.{◌≡◌, ◌∙◌, ap, rules, tests}
use Rattle.std.specs.List.{prefix_len}
use Rattle.std.proofs.lemmas.Iterator.{YieldsList-from_slice}
use Rattle.std.proofs.lemmas.Iterator.Consumers.{YieldsList-at, count_from_yields_List}
use Rattle.std.proofs.lemmas.Iterator.Search.{YieldsList-from_take_while}
use Rattle.std.proofs.lemmas.List.{take_rest}
use Rattle.std.proofs.lemmas.List.Folds.{length-prefix_len}
use Rattle.anb_values.specs.Lines.{is_edge, before_trailing}
use Rattle.anb_values.proofs.lines.content.Goals as goal

pub returns : goal.returns
returns c =
    let n : c.count-start.result ≡ prefix_len is_edge c.args.line.now =
    count_from_yields_List c.take_while.result c.count-start.result c.count-start.ensures.ran
    (YieldsList-from_take_while _ is_edge (YieldsList-at c.take_while.ensures.source (YieldsList-from_slice c.args.line.now cc)) c.take_while.ensures.closure c.take_while.ensures.done (λ x b q k. search (rules, tests)))
    ∙ length-prefix_len is_edge c.args.line.now in
    (rw n at c.before_edges.ensures) ∙ ap (before_trailing is_edge) (take_rest c.args.line.now (prefix_len is_edge c.args.line.now))
