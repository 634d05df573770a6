-- One more term.
use Rattle.std.proofs.Common.{[], ◌∷◌, map, ap, ◌∙◌, arith}
use Rattle.anb_term.specs.View.{tree_of}
use Rattle.anb_term.proofs.Lists.{map-append}
use Rattle.anb_close.specs.declared.entry.Entry.{Entry}
use Rattle.anb_unify.proofs.Steps.{mapped_next}
use Rattle.anb_accept.proofs.patterns.terms_of.Goals as goal

pub loop-entry-preserved : goal.loop-entry-preserved
loop-entry-preserved c =
    mapped_next (λ (e : Entry). tree_of e.term) c.args.entries.now c.loop-entry.entry-index c.entry-item.result [] (map tree_of c.loop-entry.terms.items) (map tree_of c.push.new.self.items) (tree_of c.in_ok-term.term)
    c.loop-entry.invariant (omega arith) c.entry-item.is (ap (map tree_of) c.in_ok-push.ensures.items ∙ map-append tree_of c.loop-entry.terms.items (c.in_ok-term.term ∷ [])) (ap tree_of c.in_ok-term.ensures)
