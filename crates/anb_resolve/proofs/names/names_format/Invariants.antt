use Rattle.std.proofs.Common.{◌≡◌, drop, map}
use Rattle.anb_syntax.specs.Views.{format_of}
use Rattle.anb_protocol.specs.Checks.{names_format}
use Rattle.anb_resolve.proofs.names.names_format.Given as goal

abbrev pub invariant-loop-format : goal.invariant-loop-format
invariant-loop-format l = names_format (map format_of (drop l.format-index l.formats)) l.name ≡ names_format (map format_of l.formats) l.name
