use Rattle.std.proofs.Common.{◌≡◌, drop, map}
use Rattle.anb_syntax.specs.Views.{format_of}
use Rattle.anb_protocol.specs.Checks.{has_count}
use Rattle.anb_resolve.proofs.names.counts_fields.Given as goal

abbrev pub invariant-loop-format : goal.invariant-loop-format
invariant-loop-format l = has_count (map format_of (drop l.format-index l.formats)) l.name l.count ≡ has_count (map format_of l.formats) l.name l.count
