use Rattle.std.proofs.Common.{◌≡◌, drop, map}
use Rattle.anb_term.specs.View.{tree_of}
use Rattle.anb_code.specs.Spelling.{raw_of}
use Rattle.anb_text.proofs.Written.{Due}
use Rattle.anb_explain.specs.Explained.{code_text, instr_texts}
use Rattle.anb_explain.proofs.Lines.{Explaining}
use Rattle.anb_explain.proofs.code.write_code.Given as goal

abbrev pub invariant-loop-i : goal.invariant-loop-i
invariant-loop-i g l = record {
  explaining : Explaining l.code.formats l.terms l.code.instrs (raw_of l.code).code l.i l.next;
  due : Due (code_text l.protocol (map tree_of l.terms) l.code) (g.K.Sink.written l.fn.snk) (g.K.Sink.written l.snk) (g.K.Sink.faults l.fn.snk) (g.K.Sink.faults l.snk) (instr_texts l.protocol (drop l.i (raw_of l.code).code) (drop l.next (map tree_of l.terms)));
  kept : g.K.Sink.kept l.snk ≡ g.K.Sink.kept l.fn.snk;
}
