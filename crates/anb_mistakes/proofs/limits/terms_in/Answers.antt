use Rattle.std.proofs.Common.{length, map, ap, sym, ◌∙◌}
use Rattle.std.proofs.lemmas.List.{length-map}
use Rattle.anb_syntax.specs.Views.{tree_of}
use Rattle.anb_protocol.proofs.UseLemmas.{length-trees}
use Rattle.anb_mistakes.proofs.limits.terms_in.Goals as goal

pub returns : goal.returns
returns c =
    let terms = c.args.line.now.terms.items in
    ap length c.as_slice.ensures.value ∙ sym (length-map terms tree_of) ∙ sym (length-trees (map tree_of terms))
