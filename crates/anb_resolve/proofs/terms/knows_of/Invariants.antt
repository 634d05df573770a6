use Rattle.std.proofs.Common.{◌≡◌, ◌++◌, map, drop}
use Rattle.anb_term.specs.Tree as term
use Rattle.anb_syntax.specs.Views.{know_of}
use Rattle.anb_protocol.specs.Protocols.{line_of, resolved_all}
use Rattle.anb_resolve.proofs.terms.knows_of.Given as goal

abbrev pub invariant-loop-role : goal.invariant-loop-role
invariant-loop-role l = l.knows.items ++ map (λ role. term.list_of (resolved_all l.atoms l.formats (line_of (map know_of l.lines.items) role))) (drop l.role-index l.roles) ≡ map (λ role. term.list_of (resolved_all l.atoms l.formats (line_of (map know_of l.lines.items) role))) l.roles
