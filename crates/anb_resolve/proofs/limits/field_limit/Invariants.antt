use Rattle.std.proofs.Common.{◌≡◌, ◌<◌, ◌^◌, length, map, drop}
use Rattle.std.specs.List.{AllByRecursion}
use Rattle.anb_format.specs.Formats.{field_count}
use Rattle.anb_syntax.specs.Grammar.{FormatItem}
use Rattle.anb_syntax.specs.Views.{format_of}
use Rattle.anb_protocol.specs.Choices.{first}
use Rattle.anb_protocol.specs.Checks.{above}
use Rattle.anb_protocol.specs.declared.refusals.Kind.TheVariants.{Fields}
use Rattle.anb_resolve.proofs.limits.field_limit.Given as goal

abbrev pub invariant-loop-format : goal.invariant-loop-format
invariant-loop-format l = record {
  few : AllByRecursion (λ (f : FormatItem). length f.pieces < 2 ^ 32) (map format_of (drop l.format-index l.formats));
  same : first (λ (f : FormatItem). above 32 Fields (field_count f.pieces)) (map format_of (drop l.format-index l.formats)) ≡ first (λ (f : FormatItem). above 32 Fields (field_count f.pieces)) (map format_of l.formats);
}
