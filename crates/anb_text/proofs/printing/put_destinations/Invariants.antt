use Rattle.std.proofs.Common.{◌≡◌, ◌++◌, ◌∷◌, []}
use Rattle.std.specs.List.{flat_map, range_with_len}
use Rattle.anb_text.specs.Lines.{register}
use Rattle.anb_text.proofs.printing.put_destinations.Given as goal

abbrev pub invariant-loop-k : goal.invariant-loop-k
invariant-loop-k l = l.out.items ≡ l.initial.out.items ++ flat_map (λ r. register r ++ 32 ∷ []) (range_with_len l.first l.k)
