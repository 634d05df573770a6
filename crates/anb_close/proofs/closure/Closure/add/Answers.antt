use Rattle.std.proofs.Common.{arith, ap}
use Rattle.anb_term.specs.Tree.{nodes}
use Rattle.anb_close.specs.Entries.{labels_of}
use Rattle.anb_close.proofs.Growing.{nodes_grown}
use Rattle.anb_close.proofs.Keeping.{kept_next}
use Rattle.anb_close.proofs.closure.Closure.add.Goals as goal

pub invariant_of-self : goal.invariant_of-self
invariant_of-self c =
    let a = c.in-Ok.ensures.ok in
    (kept_next _ _ _ _ _ _ c.args.t.now c.self.invariant.0 (omega (arith, nodes_grown _ _ _ _ a.parts a.is a.are, c.requires.few, ap (λ es. nodes (labels_of es)) c.self.view_is)) c.in-Ok.ensures.back c.in-Ok.ensures.ok c.in-Ok.ensures.doubles, c.in-Ok.ensures.indexed)

pub returns-in-Ok-clause-grows : goal.returns-in-Ok-clause-grows
returns-in-Ok-clause-grows c =
    let a = c.in-Ok.ensures.ok in
    omega (arith, nodes_grown _ _ _ _ a.parts a.is a.are, ap (λ es. nodes (labels_of es)) c.self.view_is)
