use Rattle.std.proofs.Common.{◌≡◌, drop, map}
use Rattle.anb_syntax.specs.Views.{format_of}
use Rattle.anb_mistakes.specs.Items.{pieces_of}
use Rattle.anb_mistakes.proofs.items.pieces_of.Given as goal

abbrev pub invariant-loop-item : goal.invariant-loop-item
invariant-loop-item l = pieces_of (map format_of (drop l.item-index l.formats)) l.name ≡ pieces_of (map format_of l.formats) l.name
