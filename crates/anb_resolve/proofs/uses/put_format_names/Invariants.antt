use Rattle.std.proofs.Common.{◌≡◌, ◌++◌, map, drop}
use Rattle.anb_syntax.specs.Grammar.{FormatItem}
use Rattle.anb_syntax.specs.Views.{format_of}
use Rattle.anb_protocol.specs.Views.{pointed}
use Rattle.anb_resolve.proofs.uses.put_format_names.Given as goal

abbrev pub invariant-loop-format : goal.invariant-loop-format
invariant-loop-format l = pointed l.out.items ++ map (λ (f : FormatItem). f.title) (map format_of (drop l.format-index l.formats.items)) ≡ pointed l.initial.out.items ++ map (λ (f : FormatItem). f.title) (map format_of l.formats.items)
