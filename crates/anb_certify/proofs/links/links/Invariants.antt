use Rattle.std.proofs.Common.{◌≡◌, length, map, take}
use Rattle.anb_certify.specs.Falling.{LinkApart}
use Rattle.anb_certify.specs.Links.{AreLinked}
use Rattle.anb_certify.specs.Signs.{classes_in, signs_in, IsSigns}
use Rattle.anb_certify.specs.Works.{did_of}
use Rattle.anb_certify.proofs.links.links.Given as goal

abbrev pub invariant-loop-d : goal.invariant-loop-d
invariant-loop-d l = record {
  made : IsSigns l.made × (length (classes_in l.made) ≡ length l.names);
  undone : IsSigns l.undone × (length (classes_in l.undone) ≡ length l.names);
  linked : AreLinked (map did_of l.done) (map did_of (take l.d-index l.done)) l.names (signs_in l.made) (signs_in l.undone) l.links.items;
  apart : LinkApart l.names l.links.items;
}
