use Rattle.std.proofs.Common.{List, [], ◌∷◌, ◌++◌, map, ap, ◌∙◌}
use Rattle.anb_term.specs.declared.term.Term.{Term}
use Rattle.anb_term.specs.declared.term.Term.TheVariants.{Node}
use Rattle.anb_term.specs.View.{tree_of}
use Rattle.anb_term.specs.Lawful.{picked}
use Rattle.anb_compile.proofs.Valuing.{made_written}
use Rattle.anb_compile.proofs.terms.put_made.Goals as goal

pub returns : goal.returns
returns c formats =
    let old = c.args.terms.now.items in
    let made = c.in_ok-term.ensures ∙ ap (λ (l : List Term). Node c.args.op (map tree_of (picked l c.args.at.now))) c.deref.ensures.value in
    made_written formats c.args.op c.args.at.now old c.push.new.self.items (c.in_ok-push.ensures.items ∙ ap (λ t. old ++ t ∷ []) made)
