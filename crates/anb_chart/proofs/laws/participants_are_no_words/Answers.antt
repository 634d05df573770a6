use Rattle.anb_chart.proofs.Apart.{no_word}
use Rattle.anb_chart.proofs.laws.participants_are_no_words.Goals as goal

pub returns : goal.returns
returns c = no_word
