use Rattle.std.proofs.Common.{◌≡◌, ◌+◌, ◌*◌, length, take}
use Rattle.anb_code.specs.Taking.{take_texts}
use Rattle.anb_compile.specs.Writing.{Asks, count_all_opened}
use Rattle.anb_compile.specs.Verifying.{GrowsBy, LaysChecks}
use Rattle.anb_compile.specs.Once.{SharesChecks}
use Rattle.anb_compile.proofs.writer.Writer.checks.Given as goal

abbrev pub invariant-loop-check : goal.invariant-loop-check
invariant-loop-check l = record {
  places : length l.self.places.items ≡ length l.fn.self.places.items + count_all_opened (take l.check-index l.checks);
  texts : take_texts l.self.code.items ≡ take_texts l.fn.self.code.items;
  asks : Asks l.fn.self l.self (take l.check-index l.checks);
  lays : LaysChecks l.fn.self l.self (take l.check-index l.checks);
  shares : SharesChecks l.fn.self l.self (take l.check-index l.checks);
  grows : GrowsBy l.fn.self l.self (1025 * l.check-index);
}
