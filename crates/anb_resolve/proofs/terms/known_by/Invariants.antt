use Rattle.std.proofs.Common.{◌≡◌, map, drop}
use Rattle.anb_syntax.specs.Views.{know_of}
use Rattle.anb_protocol.specs.Protocols.{line_of}
use Rattle.anb_resolve.proofs.terms.known_by.Given as goal

abbrev pub invariant-loop-line : goal.invariant-loop-line
invariant-loop-line l = line_of (map know_of (drop l.line-index l.lines.items)) l.role ≡ line_of (map know_of l.lines.items) l.role
