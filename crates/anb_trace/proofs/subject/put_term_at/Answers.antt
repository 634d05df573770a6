use Rattle.std.proofs.Common.{◌≡◌, List, Some, subst}
use Rattle.std.specs.Prelude.{slice_get}
use Rattle.anb_lemmas.proofs.Each.{each_got}
use Rattle.anb_term.specs.Tree.{Tree}
use Rattle.anb_term.specs.View.{tree_of}
use Rattle.anb_protocol.specs.Texts.{IsTermOf}
use Rattle.anb_trace.proofs.subject.put_term_at.Goals as goal

pub put_term-requires : goal.put_term-requires
put_term-requires c =
    let s = c.args.subject.now in
    let term = tree_of c.in-Some.term.now in
    let P : List Tree → Type 0 = λ ts. slice_get ts c.args.register ≡ Some term in
    each_got (IsTermOf s.protocol.now) s.explanation.now.terms c.args.register term c.requires.terms (subst P c.terms.ensures c.in-Some.ensures.some)
