use Rattle.std.proofs.Common.{◌≡◌, ◌++◌, take, drop, map, bit_xor}
use Rattle.anb_seal.proofs.hmac.xor_each.Given as goal

abbrev pub invariant-loop-b : goal.invariant-loop-b
invariant-loop-b l = l.block ≡ map (λ b. bit_xor b l.pad) (take l.b-index l.fn.block) ++ drop l.b-index l.fn.block
