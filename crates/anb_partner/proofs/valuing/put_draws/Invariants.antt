use Rattle.std.proofs.Common.{◌≡◌, ◌++◌, map}
use Rattle.std.specs.List.{range_with_len}
use Rattle.anb_seal.specs.Streams.{draw_of}
use Rattle.anb_partner.proofs.valuing.put_draws.Given as goal

abbrev pub invariant-loop-i : goal.invariant-loop-i
invariant-loop-i l = l.out.items ≡ l.initial.out.items ++ map (draw_of l.seed l.role) (range_with_len 0 l.i)
