use Rattle.std.proofs.Common.{◌≡◌, take, map}
use Rattle.anb_close.specs.MadeView.{made_tree}
use Rattle.anb_close.proofs.made.+copy.Given as goal

abbrev pub invariant-Compositions::copy-loop-m : goal.invariant-Compositions::copy-loop-m
invariant-Compositions::copy-loop-m l = l.copies ≡ map made_tree (take l.m-index l.m-items)
