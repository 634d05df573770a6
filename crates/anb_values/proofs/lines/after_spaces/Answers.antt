use Rattle.std.proofs.Common.{◌≡◌, ◌∙◌, rules, tests}
use Rattle.std.specs.List.{prefix_len}
use Rattle.std.proofs.lemmas.Iterator.{YieldsList-from_slice}
use Rattle.std.proofs.lemmas.Iterator.Consumers.{YieldsList-at, count_from_yields_List}
use Rattle.std.proofs.lemmas.Iterator.Search.{YieldsList-from_take_while}
use Rattle.std.proofs.lemmas.List.{take_rest}
use Rattle.std.proofs.lemmas.List.Folds.{length-prefix_len}
use Rattle.anb_values.specs.Lines.{is_space}
use Rattle.anb_values.proofs.lines.after_spaces.Goals as goal

pub returns : goal.returns
returns c =
    let n : c.count-start.result ≡ prefix_len is_space c.args.bytes.now =
    count_from_yields_List c.take_while.result c.count-start.result c.count-start.ensures.ran
    (YieldsList-from_take_while _ is_space (YieldsList-at c.take_while.ensures.source (YieldsList-from_slice c.args.bytes.now cc)) c.take_while.ensures.closure c.take_while.ensures.done (λ x b q k. search (rules, tests)))
    ∙ length-prefix_len is_space c.args.bytes.now in
    rw n (take_rest c.args.bytes.now (prefix_len is_space c.args.bytes.now))
