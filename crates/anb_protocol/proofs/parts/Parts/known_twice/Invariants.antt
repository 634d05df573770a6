use Rattle.std.proofs.Common.{◌≡◌, drop}
use Rattle.std.specs.List.{AllByRecursion, zip}
use Rattle.anb_protocol.specs.Choices.{first}
use Rattle.anb_protocol.specs.Texts.{IsTermOf}
use Rattle.anb_protocol.specs.Checks.{known_again, known_twice}
use Rattle.anb_protocol.specs.Views.{value_of}
use Rattle.anb_protocol.proofs.KnowLemmas.{all_of}
use Rattle.anb_protocol.proofs.parts.Parts.known_twice.Given as goal

abbrev pub invariant-loop-i : goal.invariant-loop-i
invariant-loop-i l = record {
  ours : AllByRecursion (IsTermOf (value_of l.self)) (all_of (drop l.i l.self.knows.items));
  same : first (known_again (value_of l.self)) (zip (drop l.i l.self.roles.items) (drop l.i l.self.knows.items)) ≡ known_twice (value_of l.self);
}
