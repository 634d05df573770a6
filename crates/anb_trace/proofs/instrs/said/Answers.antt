use Rattle.anb_trace.proofs.Placing.{said_there}
use Rattle.anb_trace.proofs.instrs.said.Goals as goal

pub returns : goal.returns
returns c =
    said_there c.args.subject.now.code.now c.args.at c.args.instr.now c.args.first c.requires.at c.requires.first c.instr_text_behind.result c.instr_text_behind.ensures
