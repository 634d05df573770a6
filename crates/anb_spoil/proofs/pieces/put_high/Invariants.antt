use Rattle.std.proofs.Common.{◌≡◌, ◌+◌, ◌%◌, ◌++◌, map, take}
use Rattle.anb_spoil.proofs.pieces.put_high.Given as goal

abbrev pub invariant-loop-b : goal.invariant-loop-b
invariant-loop-b l = l.out.items ≡ l.initial.out.items ++ map (λ b. 128 + b % 128) (take l.b-index l.bytes)
