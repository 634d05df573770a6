use Rattle.std.proofs.Common.{◌≡◌, length, take, ap, sym, ◌∙◌, arith, subst}
use Rattle.anb_intern.specs.Pools.{trees_at, IsPool}
use Rattle.anb_intern.proofs.Nodes.{length_at, trees_take, cut_pool}
use Rattle.anb_intern.proofs.pool.Pool.cut.Goals as goal

pub invariant_of-self : goal.invariant_of-self
invariant_of-self c = subst IsPool (sym c.truncate.ensures.keys) (cut_pool c.self.inside.nodes.keys c.args.len c.self.invariant)

pub returns : goal.returns
returns c = ap trees_at c.truncate.ensures.keys ∙ trees_take c.self.inside.nodes.keys c.args.len (omega (arith, c.requires, length_at c.self.inside.nodes.keys, ap length c.self.view_is)) ∙ ap (take c.args.len) c.self.view_is
