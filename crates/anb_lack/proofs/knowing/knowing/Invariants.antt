use Rattle.std.proofs.Common.{map}
use Rattle.anb_term.specs.View.{tree_of}
use Rattle.anb_lack.specs.Roots.{knows}
use Rattle.anb_lack.specs.Rows.{AreRows}
use Rattle.anb_lack.proofs.knowing.knowing.Given as goal

abbrev pub invariant-loop-role : goal.invariant-loop-role
invariant-loop-role l = AreRows l.role (map tree_of l.keys) (knows l.protocol) l.rows.items
