use Rattle.std.proofs.Common.{◌≡◌, ◌≤◌, ℕ, List, length}
use Rattle.anb_basis.specs.Checks.{MarksStay}
use Rattle.anb_plays.specs.Codes.{Work}
use Rattle.anb_term.specs.Tree.{Tree}
use Rattle.anb_certify.specs.Progress.{found_in, HasFound}
use Rattle.anb_certify.proofs.progress.Progress.enter.Given as goal

abbrev pub invariant-loop-i : goal.invariant-loop-i
invariant-loop-i l = record {
  long : length l.self.firsts.items ≡ l.i;
  room : l.numbers ≤ length l.self.seen.items;
  found : (ts : List Tree) (did : List (ℕ × Work)) → HasFound l.ids ts did (found_in l.initial.self) → HasFound l.ids ts did (found_in l.self);
  kept : MarksStay l.initial.self.flags.items l.self.flags.items;
}
