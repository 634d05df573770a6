use Rattle.std.proofs.Common.{◌≡◌}
use Rattle.std.specs.List.{flat_map, range_with_len}
use Rattle.anb_partner.specs.Values.{handed_values_by}
use Rattle.anb_partner.proofs.valuing.values_for.Given as goal

abbrev pub invariant-loop-other : goal.invariant-loop-other
invariant-loop-other l = l.handed.items ≡ flat_map (handed_values_by l.p l.atoms l.seed l.role) (range_with_len 0 l.other)
