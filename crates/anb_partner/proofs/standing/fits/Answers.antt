use Rattle.std.proofs.Common.{ap, ◌∙◌}
use Rattle.std.specs.Prelude.{is_some}
use Rattle.anb_base.specs.declared.TheConstants.{ARRIVAL, WIDE}
use Rattle.anb_term.specs.View.{tree_of}
use Rattle.anb_protocol.proofs.WidthLemmas.{found_width}
use Rattle.anb_partner.proofs.standing.fits.Goals as goal

pub returns : goal.returns
returns c = c.is_some.ensures ∙ ap is_some c.in_ok-width.ensures ∙ found_width ARRIVAL c.args.formats.now WIDE (tree_of c.args.t.now)
