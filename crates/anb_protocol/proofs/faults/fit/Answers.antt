use Rattle.std.proofs.Common.{◌≡◌, Vec, Global, Option, Some, None, ℕ, ap, ◌∙◌, refl, map}
use Rattle.std.specs.Prelude.{is_some}
use Rattle.std.specs.Option.{option_map}
use Rattle.anb_base.specs.declared.TheConstants.{ARRIVAL, WIDE}
use Rattle.anb_term.specs.View.{tree_of}
use Rattle.anb_protocol.proofs.WidthLemmas.{found_widths, items_of}
use Rattle.anb_protocol.proofs.faults.fit.Goals as goal

still_some : (o : Option (Vec ℕ Global)) → is_some o ≡ is_some (option_map items_of o)
still_some None = refl
still_some (Some v) = refl

pub returns : goal.returns
returns c = c.is_some.ensures ∙ still_some c.in_ok-widths.widths ∙ ap is_some c.in_ok-widths.ensures ∙ found_widths ARRIVAL c.args.formats.now WIDE (map tree_of c.args.terms.now)
