use Rattle.std.proofs.Common.{◌≡◌, length, ap, sym, ◌∙◌, subst, arith, List}
use Rattle.anb_term.specs.Tree.{Tree}
use Rattle.anb_intern.specs.Nodes.{AreDistinct, AreBefore}
use Rattle.anb_intern.proofs.Nodes.{length_at, distinct, before}
use Rattle.anb_intern.proofs.pool.Pool.len.Goals as goal

pub returns-clause-count : goal.returns-clause-count
returns-clause-count c = omega (arith, c.len.ensures.len, length_at c.self.inside.nodes.keys, ap length c.self.view_is)

pub returns-clause-distinct : goal.returns-clause-distinct
returns-clause-distinct c = subst AreDistinct c.self.view_is (distinct c.self.inside.nodes.keys c.self.invariant)

pub returns-clause-before : goal.returns-clause-before
returns-clause-before c = subst AreBefore c.self.view_is (before c.self.inside.nodes.keys c.self.invariant)
