use Rattle.std.proofs.Common.{map, drop}
use Rattle.anb_code.specs.Meaning.{act_of, acts_of}
use Rattle.anb_protocol.specs.Plays.{event_of}
use Rattle.anb_compile.specs.Valued.{HasWalked}
use Rattle.anb_compile.proofs.terms.terms_of.Given as goal

abbrev pub invariant-loop-instr : goal.invariant-loop-instr
invariant-loop-instr l =
    HasWalked l.code.formats l.code.suite (map event_of l.plan) (acts_of l.code) (map (act_of l.code.formats) (drop l.instr-index l.instr-items)) (drop l.next l.events) l.terms.items
