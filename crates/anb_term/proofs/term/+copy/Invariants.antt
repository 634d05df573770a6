use Rattle.std.proofs.Common.{◌≡◌, take}
use Rattle.anb_term.proofs.term.+copy.Given as goal

abbrev pub invariant-Terms::copy-loop-t : goal.invariant-Terms::copy-loop-t
invariant-Terms::copy-loop-t l = l.copies.items ≡ take l.t-index l.t-items
