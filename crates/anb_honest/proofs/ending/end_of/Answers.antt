use Rattle.std.proofs.Common.{◌+◌, ◌∙◌, sym, ap, refl, Bool, cond}
use Rattle.std.specs.List.{list_all}
use Rattle.anb_outcomes.specs.declared.rehearsals.Report.{Report}
use Rattle.anb_honest.specs.declared.report.RehearseEnd.TheVariants.{AllDone, Part}
use Rattle.anb_honest.specs.Acting.{is_done}
use Rattle.anb_honest.proofs.Ended.{ends_stuck, ends_told}
use Rattle.anb_honest.proofs.ending.end_of.Goals as goal

pub returns-in-Some : goal.returns-in-Some
returns-in-Some c = λ k s st. ends_stuck k s c.args.stage st c.in-Some.end (sym c.in-Some.is ∙ c.in_ok-end.ensures)

pub returns-then-is_complete : goal.returns-then-is_complete
returns-then-is_complete c = λ k s st.
    let stage = c.args.stage in
    let r : Report = record { turns = stage.taken + stage.passed; taken = stage.taken; passed = stage.passed; sent = c.new.result } in
    ap (λ (v : Bool). cond v (AllDone r) (Part r)) (sym c.if-is_complete.true)
    ∙ ends_told k s stage st c.are_done-is_complete.result r (sym c.in_default.is ∙ c.in_ok-end.ensures) (c.are_done-is_complete.ensures ∙ ap (list_all is_done) c.deref.ensures.value) refl refl refl
    (c.new.ensures ∙ c.in_ok-all_sent.ensures)

pub returns-else-is_complete : goal.returns-else-is_complete
returns-else-is_complete c = λ k s st.
    let stage = c.args.stage in
    let r : Report = record { turns = stage.taken + stage.passed; taken = stage.taken; passed = stage.passed; sent = c.new.result } in
    ap (λ (v : Bool). cond v (AllDone r) (Part r)) (sym c.if-is_complete.false)
    ∙ ends_told k s stage st c.are_done-is_complete.result r (sym c.in_default.is ∙ c.in_ok-end.ensures) (c.are_done-is_complete.ensures ∙ ap (list_all is_done) c.deref.ensures.value) refl refl refl
    (c.new.ensures ∙ c.in_ok-all_sent.ensures)
