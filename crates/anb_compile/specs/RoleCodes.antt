-- The code of a role, from its instructions.
use Rattle.std.specs.Prelude.{ℕ, List, [], slice_get}
use Rattle.std.specs.Option.{option_map_or}
use Rattle.anb_code.specs.declared.instr.Instr.{Instr}
use Rattle.anb_code.specs.CodeValue.{CodeValue}
use Rattle.anb_protocol.specs.Protocols.{ProtocolValue}

-- with the names, formats and suite that it has
abbrev pub role_code : ProtocolValue → ℕ → List Instr → CodeValue
role_code p role instrs = record {
  protocol = p.name;
  role = option_map_or (λ (name : List ℕ). name) (slice_get p.roles role) [];
  suite = p.suite;
  formats = p.formats;
  instrs = instrs;
}
