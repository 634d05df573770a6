-- What the reader's operators on a key and a body stand for.
use Rattle.std.specs.Prelude.{ℕ, List}
use Rattle.anb_syntax.specs.Words.{mac_word, seal_word}
use Rattle.anb_syntax.specs.Grammar.{Tree, mac, seal}
use Rattle.anb_read.specs.declared.terms.Keyed.{Keyed}
use Rattle.anb_read.specs.declared.terms.Keyed.TheVariants as keyed

abbrev pub keyed_word : Keyed → List ℕ
keyed_word keyed.Mac = mac_word
keyed_word keyed.Seal = seal_word

abbrev pub keyed_tree : Keyed → Tree → Tree → Tree
keyed_tree keyed.Mac = mac
keyed_tree keyed.Seal = seal
