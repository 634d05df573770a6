use Rattle.std.proofs.Common.{◌≡◌, ◌++◌, drop}
use Rattle.std.specs.Prelude.{filter}
use Rattle.anb_protocol.specs.Plans.{names_number_or_key}
use Rattle.anb_protocol.specs.Views.{value_of}
use Rattle.anb_protocol.proofs.parts.Parts.numbers_and_keys.Given as goal

abbrev pub invariant-loop-a : goal.invariant-loop-a
invariant-loop-a l = l.names.items ++ filter (names_number_or_key (value_of l.self)) (drop l.a-index l.atoms) ≡ filter (names_number_or_key (value_of l.self)) l.atoms
