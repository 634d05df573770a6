use Rattle.anb_certify.specs.Falling.{LinkApart}
use Rattle.anb_certify.specs.Links.{HasLinked}
use Rattle.anb_certify.proofs.links.link_all.Given as goal

abbrev pub invariant-loop-j : goal.invariant-loop-j
invariant-loop-j l = record {
  linked : HasLinked l.names l.a l.b l.j l.initial.links.items l.links.items;
  apart : LinkApart l.names l.initial.links.items → LinkApart l.names l.links.items;
}
