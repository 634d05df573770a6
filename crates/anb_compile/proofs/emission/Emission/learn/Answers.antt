use Rattle.std.proofs.Common.{true, ap, subst, arith}
use Rattle.anb_term.specs.Tree.{nodes, IsFormed}
use Rattle.anb_term.specs.View.{tree_of}
use Rattle.anb_algebra.specs.ByteMeaning.{has_operator}
use Rattle.anb_compile.proofs.Events.{formed_any, formed_next, nodes_next}
use Rattle.anb_compile.proofs.emission.Emission.learn.Goals as goal

pub next-requires-clause-formed : goal.next-requires-clause-formed
next-requires-clause-formed c =
    let r = c.requires in
    let k = r.3.0 in
    let plan = r.3.3 in
    let has = has_operator k.formats in
    subst (IsFormed (λ o. true)) r.1 (formed_any has _ (formed_next has r.3.1 r.3.2 r.0 plan.formed))

pub next-requires-clause-few : goal.next-requires-clause-few
next-requires-clause-few c =
    let r = c.requires in
    let plan = r.3.3 in
    let done = r.3.4 in
    let a = nodes_next r.3.1 r.3.2 r.0 (tree_of c.args.term.now) r.2 in
    omega (arith, a, plan.few, ap nodes done.labels)
