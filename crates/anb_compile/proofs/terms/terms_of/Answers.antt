use Rattle.std.proofs.Common.{◌≡◌, ◌+◌, ◌≤◌, List, [], ◌∷◌, map, drop, length, Some, sym, subst, arith}
use Rattle.std.specs.Prelude.{slice_get}
use Rattle.std.specs.List.{AllByRecursion}
use Rattle.anb_base.specs.declared.TheConstants.{ARRIVAL, WIDE}
use Rattle.anb_format.specs.Formats.{FormatValue, field_count}
use Rattle.anb_term.specs.declared.term.Term.{Term}
use Rattle.anb_term.specs.View.{tree_of}
use Rattle.anb_term.proofs.Lists.{slice_get-at}
use Rattle.anb_algebra.specs.ByteMeaning.{has_operator}
use Rattle.anb_plays.specs.Codes.{Act}
use Rattle.anb_code.specs.declared.instr.Instr.{Instr}
use Rattle.anb_code.specs.Meaning.{act_of, acts_of}
use Rattle.anb_code.specs.Taking.{take_texts}
use Rattle.anb_code.specs.Verified.{HasItsFormat}
use Rattle.anb_protocol.specs.Plans.{PlanEvent}
use Rattle.anb_protocol.specs.Plays.{event_of}
use Rattle.anb_protocol.specs.Views.{plan_event}
use Rattle.anb_compile.specs.Valued.{Walked, HasWalked}
use Rattle.anb_compile.proofs.Valuing.{walked_start, is_operator, few_fields, its_format, left_events}
use Rattle.anb_compile.proofs.terms.terms_of.Goals as goal

pub loop-instr-init : goal.loop-instr-init
loop-instr-init c =
    let code = c.args.code.now in
    let plan = map event_of c.args.plan.now in
    let ready = c.verified_is_runnable.ensures ARRIVAL WIDE code c.formats-formats.ensures.verified (has_operator code.formats) (is_operator code.formats) in
    let start = walked_start code.formats code.suite plan (acts_of code) (length (take_texts code.instrs)) ready c.requires.sound in
    let P : List Instr → Type 0 = λ l. Walked code.formats code.suite plan (acts_of code) (map (act_of code.formats) l) plan [] in
    let Q : List PlanEvent → Type 0 = λ l. Walked code.formats code.suite plan (acts_of code) (map (act_of code.formats) c.instrs-instr-items.result.now) (map event_of l) [] in
    let R : List Term → Type 0 = λ l. Walked code.formats code.suite plan (acts_of code) (map (act_of code.formats) c.instrs-instr-items.result.now) (map event_of (map plan_event c.events-events.result.now)) (map tree_of l) in
    subst R (sym c.new-terms.ensures.items) (subst Q (sym c.events-events.ensures) (subst P (sym c.instrs-instr-items.ensures.instrs) start))

pub write-requires-clause-fields : goal.write-requires-clause-fields
write-requires-clause-fields c =
    let P : List FormatValue → Type 0 = λ l. AllByRecursion (λ (format : FormatValue). field_count format.pieces ≤ 32) l in
    subst P (sym c.formats-formats.ensures.formats) (few_fields ARRIVAL WIDE c.args.code.now c.formats-formats.ensures.verified)

pub write-requires-clause-format : goal.write-requires-clause-format
write-requires-clause-format c =
    let x = c.instr-item.result in
    let i = c.loop-instr.instr-index in
    let items = c.instrs-instr-items.result.now in
    let P : List Instr → Type 0 = λ l. slice_get l i ≡ Some x in
    let here = subst P c.instrs-instr-items.ensures.instrs (slice_get-at items i x (omega arith) c.instr-item.is) in
    let Q : List FormatValue → Type 0 = λ l. HasItsFormat l x in
    subst Q (sym c.formats-formats.ensures.formats) (its_format ARRIVAL WIDE c.args.code.now i x c.instrs-instr-items.ensures.verified here)

pub loop-instr-preserved : goal.loop-instr-preserved
loop-instr-preserved c =
    let code = c.args.code.now in
    let plan = map event_of c.args.plan.now in
    let x = c.instr-item.result in
    let i = c.loop-instr.instr-index in
    let items = c.instrs-instr-items.result.now in
    let later = map (act_of code.formats) (drop (i + 1) items) in
    let next : map (act_of code.formats) (drop i items) ≡ act_of code.formats x ∷ later = left_events (act_of code.formats) items i x (slice_get-at items i x (omega arith) c.instr-item.is) in
    let P : List Act → Type 0 = λ l. HasWalked code.formats code.suite plan (acts_of code) l (drop c.loop-instr.next c.events-events.result.now) c.loop-instr.terms.items in
    let Q : List FormatValue → Type 0 = λ l. HasWalked l code.suite plan (acts_of code) (act_of l x ∷ later) (drop c.loop-instr.next c.events-events.result.now) c.loop-instr.terms.items in
    let R : List FormatValue → Type 0 = λ l. HasWalked l code.suite plan (acts_of code) later (drop c.write.new.next c.events-events.result.now) c.write.new.terms.items in
    let formats = c.formats-formats.ensures.formats in
    subst R formats (c.in_ok-write.ensures code.suite plan (acts_of code) later (subst Q (sym formats) (subst P next c.loop-instr.invariant)))
