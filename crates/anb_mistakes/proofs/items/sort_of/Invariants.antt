use Rattle.std.proofs.Common.{◌≡◌, drop, map}
use Rattle.anb_syntax.specs.Views.{type_of}
use Rattle.anb_mistakes.specs.Items.{sort_of}
use Rattle.anb_mistakes.proofs.items.sort_of.Given as goal

abbrev pub invariant-loop-item : goal.invariant-loop-item
invariant-loop-item l = sort_of (map type_of (drop l.item-index l.types)) l.name ≡ sort_of (map type_of l.types) l.name
