use Rattle.std.proofs.Common.{◌≡◌, ◌<◌, ◌^◌, map, drop, length}
use Rattle.std.specs.List.{AllByRecursion}
use Rattle.std.specs.Option.{option_map}
use Rattle.anb_syntax.specs.Grammar.{FormatItem}
use Rattle.anb_syntax.specs.Views.{format_of}
use Rattle.anb_protocol.specs.Choices.{first}
use Rattle.anb_protocol.specs.Checks.{shape_fault}
use Rattle.anb_protocol.specs.declared.refusals.ResolveNo.TheVariants.{FormatShape}
use Rattle.anb_resolve.proofs.shapes.misshapen.Given as goal

abbrev pub invariant-loop-format : goal.invariant-loop-format
invariant-loop-format l = record {
  few : AllByRecursion (λ (f : FormatItem). length f.pieces < 2 ^ 32) (map format_of (drop l.format-index l.formats));
  same : first (λ (f : FormatItem). option_map (FormatShape f.title) (shape_fault f.pieces)) (map format_of (drop l.format-index l.formats)) ≡ first (λ (f : FormatItem). option_map (FormatShape f.title) (shape_fault f.pieces)) (map format_of l.formats);
}
