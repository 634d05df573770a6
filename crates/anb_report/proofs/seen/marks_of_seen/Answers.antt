use Rattle.std.proofs.Common.{List, ℕ, replicate, false, get_or, true, ap, ◌∙◌}
use Rattle.std.specs.Prelude.{◌&&◌, filter, not}
use Rattle.std.specs.List.{flat_map}
use Rattle.anb_code.specs.Verified.{count_registers}
use Rattle.anb_protocol.specs.Seen.{marked}
use Rattle.anb_report.specs.Looking.{compared, repeated}
use Rattle.anb_report.proofs.Looked.{asked_marked}
use Rattle.anb_report.proofs.seen.marks_of_seen.Goals as goal

pub mark_operands-requires-clause-asked : goal.mark_operands-requires-clause-asked
mark_operands-requires-clause-asked c =
    let formats = c.args.formats.now in
    let instrs = c.args.instrs.now in
    let registers = c.args.registers.now in
    let came = c.args.came.now in
    let twice = c.deref-2.result.now in
    let marks = c.mark_compared.new.marks.items in
    let n = count_registers formats instrs in
    let blank = replicate n false in
    let many = c.count_registers-count.ensures in
    let repeats = c.deref-2.ensures.value ∙ c.in_ok-twice.ensures ∙ ap (λ k. marked (replicate k false) (repeated registers)) many ∙ ap (λ l. marked blank (repeated l)) c.requires.opened in
    let keys = c.in_ok-seen.ensures ∙ ap (λ k. marked (replicate k false) c.deref.result.now) many ∙ ap (marked blank) (c.deref.ensures.value ∙ c.in_ok-used.ensures) in
    c.mark_unless_once.ensures ∙ ap (λ (l : List ℕ). marked marks (filter (λ r. not (get_or came r true && not (get_or twice r true))) l)) c.requires.opened
    ∙ asked_marked formats instrs n came twice marks c.requires.came repeats (c.mark_compared.ensures ∙ ap (λ m. marked m (flat_map compared instrs)) keys)
