use Rattle.std.proofs.Common.{◌≡◌, ◌+◌, ◌*◌, length, map, take}
use Rattle.anb_term.specs.Tree.{tree_size, trees_size, trees_of}
use Rattle.anb_close.specs.MadeView.{made_tree}
use Rattle.anb_code.specs.Taking.{take_texts}
use Rattle.anb_compile.specs.Writing.{ComposesEach}
use Rattle.anb_compile.specs.Verifying.{GrowsBy, LaysEach}
use Rattle.anb_compile.specs.Once.{BuiltStays, SharesEach}
use Rattle.anb_compile.proofs.writer.Writer.+compose.Given as goal

abbrev pub decreases-compose : goal.decreases-compose
decreases-compose l = 2 * tree_size (made_tree l.made.now)

abbrev pub decreases-compose_all : goal.decreases-compose_all
decreases-compose_all l = 2 * trees_size (trees_of l.made.now) + 1

abbrev pub invariant-compose_all-loop-m : goal.invariant-compose_all-loop-m
invariant-compose_all-loop-m l = record {
  places : l.self.places ≡ l.fn.self.places;
  texts : take_texts l.self.code.items ≡ take_texts l.fn.self.code.items;
  count : length l.at.items ≡ l.m-index;
  compose : ComposesEach l.fn.self l.self (map made_tree (take l.m-index l.m-items)) l.at.items;
  lay : LaysEach l.fn.self l.self (map made_tree (take l.m-index l.m-items)) l.at.items;
  share : SharesEach l.fn.self l.self (map made_tree (take l.m-index l.m-items)) l.at.items;
  stays : BuiltStays l.fn.self l.self;
  grows : GrowsBy l.fn.self l.self (trees_size (trees_of (map made_tree (take l.m-index l.m-items))));
}
