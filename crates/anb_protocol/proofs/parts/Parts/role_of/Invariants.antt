use Rattle.std.proofs.Common.{◌≡◌, drop}
use Rattle.std.specs.List.{position_from}
use Rattle.std.specs.Str.{bytes_eq}
use Rattle.anb_protocol.proofs.parts.Parts.role_of.Given as goal

abbrev pub invariant-loop-i : goal.invariant-loop-i
invariant-loop-i l = position_from (λ y. bytes_eq y l.name) l.i (drop l.i l.self.roles.items) ≡ position_from (λ y. bytes_eq y l.name) 0 l.self.roles.items
