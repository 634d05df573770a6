use Rattle.std.proofs.Common.{◌≡◌, ◌++◌, drop, map}
use Rattle.std.specs.List.{flat_map}
use Rattle.anb_syntax.specs.Views.{format_of}
use Rattle.anb_syntax.specs.Grammar.{FormatItem}
use Rattle.anb_mistakes.specs.Near.{hint}
use Rattle.anb_mistakes.proofs.mends.put_near_formats.Given as goal

abbrev pub invariant-loop-item : goal.invariant-loop-item
invariant-loop-item l =
    l.out.items ++ flat_map (λ (f : FormatItem). hint l.name f.title) (map format_of (drop l.item-index l.formats))
    ≡ l.fn.out.items ++ flat_map (λ (f : FormatItem). hint l.name f.title) (map format_of l.formats)
