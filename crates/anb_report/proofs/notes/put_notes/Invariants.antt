use Rattle.std.proofs.Common.{◌≡◌, ◌+◌, ◌++◌, List, drop, map}
use Rattle.anb_term.specs.Tree.{Tree}
use Rattle.anb_term.specs.View.{tree_of}
use Rattle.anb_code.specs.Verified.{count_registers}
use Rattle.anb_report.specs.News.{AreOthers}
use Rattle.anb_report.specs.Noting.{notes_from}
use Rattle.anb_report.proofs.notes.put_notes.Given as goal

abbrev pub invariant-loop-i : goal.invariant-loop-i
invariant-loop-i l = record {
  due : (free : List Tree) → AreOthers (map tree_of l.terms) free l.other
      → l.out.items ++ notes_from l.formats l.protocol (map tree_of l.terms) free l.next (drop l.i l.instrs) ≡ l.initial.out.items ++ notes_from l.formats l.protocol (map tree_of l.terms) free 0 l.instrs;
  few : l.next + count_registers l.formats (drop l.i l.instrs) ≡ count_registers l.formats l.instrs;
}
