use Rattle.std.proofs.Common.{◌≡◌, length, map, take}
use Rattle.anb_certify.specs.Numbered.{AreKnown}
use Rattle.anb_certify.specs.Works.{did_of}
use Rattle.anb_certify.proofs.rules.known.Given as goal

abbrev pub invariant-loop-d : goal.invariant-loop-d
invariant-loop-d l = record {
  long : length l.flags.items ≡ length l.names;
  known : AreKnown (map did_of (take l.d-index l.done)) l.names l.flags.items;
}
