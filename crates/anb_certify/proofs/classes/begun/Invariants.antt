use Rattle.std.proofs.Common.{◌≡◌, length}
use Rattle.anb_certify.specs.Numbered.{AreBegun}
use Rattle.anb_certify.proofs.classes.begun.Given as goal

abbrev pub invariant-loop-i : goal.invariant-loop-i
invariant-loop-i l = record {
  count : length l.names.items ≡ l.i;
  begun : AreBegun l.firsts l.flags l.names.items;
}
