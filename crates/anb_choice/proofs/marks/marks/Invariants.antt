use Rattle.std.proofs.Common.{◌-◌, ◌≤◌, length}
use Rattle.anb_choice.specs.Standing.{Stand}
use Rattle.anb_choice.proofs.Looking.{Gone}
use Rattle.anb_choice.proofs.marks.marks.Given as goal

abbrev pub invariant-tokens : goal.invariant-tokens
invariant-tokens l = record {
  count : length l.marks.items ≤ l.from;
  high : l.from ≤ length l.text;
  gone : Gone l.text l.from l.marks.items;
  stand : Stand l.text 0 l.marks.items l.from;
}

abbrev pub decreases-tokens : goal.decreases-tokens
decreases-tokens l = length l.text - l.from
