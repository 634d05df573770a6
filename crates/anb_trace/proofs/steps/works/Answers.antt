use Rattle.std.proofs.Common.{◌≡◌, ◌+◌, ◌++◌, [], List, ℕ, false, refl, ap, ◌∙◌}
use Rattle.anb_plays.specs.Plays.{stopped}
use Rattle.anb_code.specs.Meaning.{act_of}
use Rattle.anb_machine.specs.ByteRuns.{meaning_of}
use Rattle.anb_machine.specs.Standing.{IsWorkDone}
use Rattle.anb_trace.specs.declared.steps.Standing.{Standing}
use Rattle.anb_trace.specs.declared.steps.Told.{Told}
use Rattle.anb_trace.specs.Traces.{end_line}
use Rattle.anb_trace.specs.Tracing.{subject_in}
use Rattle.anb_trace.specs.Words.{instr_lines, why}
use Rattle.anb_trace.proofs.Doing.{work_failed}
use Rattle.anb_trace.proofs.steps.works.Goals as goal

pub returns : goal.returns
returns c =
    let s = c.args.subject.now in
    let code = s.code.now in
    let old = c.args.standing.now in
    let instr = c.args.instr.now in
    let went = c.in_ok-went.ensures in
    let part : Told = record { text = c.put_stop.new.out; goes_on = false } in
    let new : Standing = record { registers = c.work.new.registers; events = old.events; drawn = old.drawn; arrivals = old.arrivals } in
    let done : IsWorkDone (meaning_of code) old.registers.items (act_of code.formats instr) false c.work.new.registers.items =
    rw (c.new-algebra.ensures.formats ∙ c.formats.ensures.formats, c.new-algebra.ensures.suite ∙ c.suite.ensures, c.formats-2.ensures.formats, c.if-went.false) at went.done in
    let said : List ℕ = instr_lines (subject_in s) instr c.args.first [] in
    let end : List ℕ = end_line (stopped old.events (c.args.at + 1)) (why (subject_in s) old.registers.items instr) in
    let lines : c.put_instr_lines-2.new.out.items ≡ said = c.in_ok-put_instr_lines-2.ensures ∙ ap (λ l. l ++ said) c.new-text.ensures.items in
    let stop : c.put_stop.new.out.items ≡ c.put_instr_lines-2.new.out.items ++ end = rw (went.stays c.if-went.false) at c.in_ok-put_stop.ensures in
    record { told = work_failed (subject_in s) instr c.args.first c.args.at old part new refl refl refl (act_of code.formats instr) c.work.new.registers.items done refl (stop ∙ ap (λ l. l ++ end) lines) }
