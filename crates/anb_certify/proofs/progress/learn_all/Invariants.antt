use Rattle.std.proofs.Common.{◌≡◌, List, length, map}
use Rattle.anb_basis.specs.Checks.{MarksStay}
use Rattle.anb_term.specs.Tree.{Tree}
use Rattle.anb_certify.specs.Numbered.{AreGrouped, AreSettled}
use Rattle.anb_certify.specs.Progress.{HaveKnown}
use Rattle.anb_certify.specs.Works.{did_of}
use Rattle.anb_certify.proofs.progress.learn_all.Given as goal

abbrev pub invariant-loop-k : goal.invariant-loop-k
invariant-loop-k l = record {
  known_long : length l.known.items ≡ length l.firsts;
  known_kept : MarksStay l.initial.known.items l.known.items;
  flags_long : length l.flags.items ≡ length l.firsts;
  flags_kept : MarksStay l.initial.flags.items l.flags.items;
  known : HaveKnown (map did_of l.done) l.firsts l.initial.known.items → HaveKnown (map did_of l.done) l.firsts l.known.items;
  settled : (ts : List Tree) → AreGrouped ts (map did_of l.done) l.firsts → AreSettled (map did_of l.done) l.firsts l.initial.flags.items → AreSettled (map did_of l.done) l.firsts l.flags.items;
}
