use Rattle.std.proofs.Common.{◌+◌, ◌++◌, drop, map, sym, ap, ◌∙◌, arith, append_assoc}
use Rattle.anb_term.specs.View.{tree_of}
use Rattle.anb_term.proofs.Lists.{slice_get-at}
use Rattle.anb_report.specs.Noting.{notes_first, notes_from}
use Rattle.anb_report.proofs.Items.{count_first, notes_then}
use Rattle.anb_report.proofs.notes.put_notes.Goals as goal

pub loop-i-preserved : goal.loop-i-preserved
loop-i-preserved c =
    let formats = c.args.formats.now in
    let instrs = c.args.instrs.now in
    let p = c.args.protocol.now in
    let trees = map tree_of c.args.terms.now in
    let i = c.loop-i.i in
    let x = c.index-instrs-i.result in
    let next = c.loop-i.next in
    let end = next + c.count_written.result in
    let here = slice_get-at instrs i x (omega arith) c.index-instrs-i.is in
    let out = c.loop-i.out.items in
    record {
      due = λ free are.
          let later = notes_from formats p trees free end (drop (i + 1) instrs) in
          let put = rw c.rest_of-rest.ensures at (c.in_ok-put_first.ensures free are) in
          ap (λ l. l ++ later) put ∙ append_assoc out (notes_first formats p trees free next (drop i instrs)) later
          ∙ ap (λ l. out ++ l) (sym (notes_then formats instrs i x here p trees free next end (ap (λ n. next + n) c.count_written.ensures))) ∙ c.loop-i.invariant.due free are;
      few = omega (arith, c.loop-i.invariant.few, count_first formats instrs i x here, c.count_written.ensures);
    }
