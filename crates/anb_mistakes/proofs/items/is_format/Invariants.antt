use Rattle.std.proofs.Common.{◌≡◌, drop, map}
use Rattle.anb_syntax.specs.Views.{format_of}
use Rattle.anb_mistakes.specs.Items.{is_format}
use Rattle.anb_mistakes.proofs.items.is_format.Given as goal

abbrev pub invariant-loop-item : goal.invariant-loop-item
invariant-loop-item l = is_format (map format_of (drop l.item-index l.formats)) l.name ≡ is_format (map format_of l.formats) l.name
