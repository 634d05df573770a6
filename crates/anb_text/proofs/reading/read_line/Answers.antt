use Rattle.std.proofs.Common.{◌∙◌, ap}
use Rattle.anb_text.specs.Reading.{texts}
use Rattle.anb_text.proofs.ReadFacts.{lines_found, no_lines}
use Rattle.anb_text.proofs.reading.read_line.Goals as goal

pub returns-clause-some : goal.returns-clause-some
returns-clause-some c = lines_found c.args.line.now (texts c.deref.result.now) c.read_words.result (ap texts c.deref.ensures.value ∙ c.in_ok-words.ensures) c.read_words.ensures

pub returns-clause-none : goal.returns-clause-none
returns-clause-none c = no_lines c.args.line.now (texts c.deref.result.now) c.read_words.result c.in_default.ensures (ap texts c.deref.ensures.value ∙ c.in_ok-words.ensures) c.read_words.ensures
