-- One instruction more, or the check.
use Rattle.std.proofs.Common.{◌≡◌, ◌+◌, ◌≤◌, List, [], map, drop, Some, sym, ap, ◌∙◌, subst, arith}
use Rattle.std.specs.Prelude.{slice_get, unwrap_or}
use Rattle.std.specs.List.{AllByRecursion}
use Rattle.std.proofs.lemmas.List.{drop_all}
use Rattle.anb_base.specs.declared.TheConstants.{ARRIVAL, WIDE}
use Rattle.anb_format.specs.Formats.{FormatValue, field_count}
use Rattle.anb_term.specs.Tree.{Tree, leaf}
use Rattle.anb_term.specs.View.{tree_of}
use Rattle.anb_term.proofs.Lists.{slice_get-at}
use Rattle.anb_plays.specs.Honest.{made}
use Rattle.anb_code.specs.declared.instr.Instr.{Instr}
use Rattle.anb_code.specs.Meaning.{act_of}
use Rattle.anb_code.specs.Verified.{HasItsFormat}
use Rattle.anb_compile.proofs.Valuing.{few_fields, its_format}
use Rattle.anb_suite.specs.Walks.{act_at, events_in, HasStepped}
use Rattle.anb_suite.proofs.Turns.{WalkedTo, turn_ends, turn_steps, turn_skips}
use Rattle.anb_suite.proofs.walking.walk_over.Goals as goal
use Rattle.anb_suite.proofs.walking.walk_over.Goals.{then-i-check+in_ok-step_at, else-i-check}

pub step_at-requires-clause-fields : goal.step_at-requires-clause-fields
step_at-requires-clause-fields c =
    let P : List FormatValue → Type 0 = λ l. AllByRecursion (λ (format : FormatValue). field_count format.pieces ≤ 32) l in
    subst P (sym c.formats-formats.ensures.formats) (few_fields ARRIVAL WIDE c.args.code.now c.formats-formats.ensures.verified)

pub step_at-requires-clause-format : goal.step_at-requires-clause-format
step_at-requires-clause-format c =
    let x = c.instr-item.result in
    let i = c.loop-i.i in
    let items = c.instrs-instr-items.result.now in
    let P : List Instr → Type 0 = λ l. slice_get l i ≡ Some x in
    let here = subst P c.instrs-instr-items.ensures.instrs (slice_get-at items i x (omega arith) c.instr-item.is) in
    let Q : List FormatValue → Type 0 = λ l. HasItsFormat l x in
    subst Q (sym c.formats-formats.ensures.formats) (its_format ARRIVAL WIDE c.args.code.now i x c.instrs-instr-items.ensures.verified here)

pub loop-i-preserved : goal.loop-i-preserved
loop-i-preserved c =
    let code = c.args.code.now in
    let plan = events_in c.args.events.now in
    let x = c.instr-item.result in
    let i = c.loop-i.i in
    let old = c.loop-i.walk in
    let items = c.instrs-instr-items.result.now in
    let P : List Instr → Type 0 = λ l. slice_get l i ≡ Some x in
    let here = subst P c.instrs-instr-items.ensures.instrs (slice_get-at items i x (omega arith) c.instr-item.is) in
    elim c.if-i-check.branch [
      | then-i-check+in_ok-step_at w ↦ (
          let new = w.step_at.new.walk in
          let names_are = ap (map tree_of) w.deref.ensures.value ∙ c.in_ok-made.ensures in
          let P : List Tree → Type 0 = λ l. HasStepped c.args.names (λ k. unwrap_or (slice_get l k) (leaf 0)) (act_at c.args.check c.args.gone c.args.used i (act_of c.formats-formats.result.now x)) old new in
          let Q : List FormatValue → Type 0 = λ l. HasStepped c.args.names (λ k. unwrap_or (slice_get (made plan) k) (leaf 0)) (act_at c.args.check c.args.gone c.args.used i (act_of l x)) old new in
          let one = subst P names_are w.in_ok-step_at.ensures in
          let two = subst Q c.formats-formats.ensures.formats one in
          subst (WalkedTo c.args.names plan code c.args.check c.args.gone c.args.used (i + 1)) (sym w.walk-is) (turn_steps c.args.names plan code c.args.check c.args.gone c.args.used i x old new here (λ e. w.if-i-check.true e) two c.loop-i.invariant)
          )
      | else-i-check w ↦ subst (WalkedTo c.args.names plan code c.args.check c.args.gone c.args.used (i + 1)) (sym w.walk-is) (turn_skips c.args.names plan code c.args.check c.args.gone c.args.used i x old here w.if-i-check.false c.requires c.loop-i.invariant)
    ]

pub returns : goal.returns
returns c =
    let code = c.args.code.now in
    let items = c.instrs-instr-items.result.now in
    let over : drop c.loop-i.i items ≡ [] = drop_all c.loop-i.i items (omega arith) in
    let none : drop c.loop-i.i code.instrs ≡ [] = subst (λ (l : List Instr). drop c.loop-i.i l ≡ []) c.instrs-instr-items.ensures.instrs over in
    turn_ends c.args.names (events_in c.args.events.now) code c.args.check c.args.gone c.args.used c.loop-i.i c.loop-i.walk none c.loop-i.invariant
