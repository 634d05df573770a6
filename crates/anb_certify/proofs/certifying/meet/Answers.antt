use Rattle.std.proofs.Common.{◌+◌, ◌∷◌, sym, subst}
use Rattle.anb_code.specs.Meaning.{act_of}
use Rattle.anb_code.specs.declared.instr.Instr.{Instr}
use Rattle.anb_plays.specs.Plans as plays
use Rattle.anb_protocol.specs.Plays.{event_of}
use Rattle.anb_protocol.specs.Views.{plan_event}
use Rattle.anb_protocol.specs.declared.plans.Event as plans
use Rattle.anb_term.specs.View.{tree_of}
use Rattle.anb_certify.specs.Numbered.{value_of, TableValue}
use Rattle.anb_certify.specs.Tied.{AreEnough}
use Rattle.anb_certify.specs.Walking.{Stands}
use Rattle.anb_certify.proofs.Ending.{heard_is, refused_by}
use Rattle.anb_certify.proofs.Framing.{does_an_event}
use Rattle.anb_certify.proofs.Results.{on_both, if_err}
use Rattle.anb_certify.proofs.Walking.{few_now, know_on, fresh_on, receive_on, receive_loose, send_on, send_loose, sent}
use Rattle.anb_certify.proofs.certifying.meet.Goals as goal

pub returns-in-Know-clause-stands : goal.returns-in-Know-clause-stands
returns-in-Know-clause-stands c =
    let v = value_of c.args.table.now in
    let u = value_of c.hear.new.table in
    let n = c.args.at in
    let t = tree_of c.in-Know.term in
    on_both c.hear.result
    (λ a b p role code acts es s.
    let act = act_of code.formats c.args.instr.now in
    let E : plans.Event → Type 0 = λ e. Stands p role code (act ∷ acts) (event_of (plan_event e) ∷ es) n v in
    subst (Stands p role code acts es (n + 1)) (sym (heard_is v u t a b)) (know_on p role code act acts t es n v (does_an_event code.formats c.args.instr.now c.requires.event) (subst E c.in-Know.is s)))
    c.hear.ensures.terms c.hear.ensures.did

pub returns-in-Fresh-clause-stands : goal.returns-in-Fresh-clause-stands
returns-in-Fresh-clause-stands c =
    let v = value_of c.args.table.now in
    let u = value_of c.hear-in-Fresh.new.table in
    let n = c.args.at in
    let t = tree_of c.in-Fresh.term in
    on_both c.hear-in-Fresh.result
    (λ a b p role code acts es s.
    let act = act_of code.formats c.args.instr.now in
    let E : plans.Event → Type 0 = λ e. Stands p role code (act ∷ acts) (event_of (plan_event e) ∷ es) n v in
    subst (Stands p role code acts es (n + 1)) (sym (heard_is v u t a b)) (fresh_on p role code act acts t es n v (does_an_event code.formats c.args.instr.now c.requires.event) (subst E c.in-Fresh.is s)))
    c.hear-in-Fresh.ensures.terms c.hear-in-Fresh.ensures.did

pub returns-in-Ok-clause-stands : goal.returns-in-Ok-clause-stands
returns-in-Ok-clause-stands c =
    let v = value_of c.border.new.table in
    let u = value_of c.hear-in-Ok.new.table in
    let n = c.args.at in
    let t = tree_of c.in-Recv.term in
    let same = c.in-Ok.ensures.same in
    let A : TableValue → Type 0 = λ x. AreEnough x.did x.terms in
    on_both c.hear-in-Ok.result
    (λ a b p role code acts es s.
    let act = act_of code.formats c.args.instr.now in
    let E : plans.Event → Type 0 = λ e. Stands p role code (act ∷ acts) (event_of (plan_event e) ∷ es) n (value_of c.args.table.now) in
    let V : TableValue → Type 0 = λ x. Stands p role code (act ∷ acts) (plays.recv t ∷ es) n x in
    subst (Stands p role code acts es (n + 1)) (sym (heard_is v u t a b))
    (receive_on p role code act acts t es n v (does_an_event code.formats c.args.instr.now c.requires.event) (subst A (sym same) c.in-Ok.ensures.enough) (subst V (sym same) (subst E c.in-Recv.is s))))
    c.hear-in-Ok.ensures.terms c.hear-in-Ok.ensures.did

pub returns-in-Err-clause-refused : goal.returns-in-Err-clause-refused
returns-in-Err-clause-refused c p role code acts es s =
    let v = value_of c.args.table.now in
    let n = c.args.at in
    let t = tree_of c.in-Recv.term in
    let act = act_of code.formats c.args.instr.now in
    let E : plans.Event → Type 0 = λ e. Stands p role code (act ∷ acts) (event_of (plan_event e) ∷ es) n v in
    refused_by p role code n v (λ i l. receive_loose p role code act acts t es n v i (does_an_event code.formats c.args.instr.now c.requires.event) l (subst E c.in-Recv.is s)) c.in-Err.no c.in-Err.ensures.loose

pub returns-then-not-branch-clause-refused : goal.returns-then-not-branch-clause-refused
returns-then-not-branch-clause-refused c p role code acts es s =
    let v = value_of c.args.table.now in
    let n = c.args.at in
    let t = tree_of c.in-Send.term in
    let E : plans.Event → Type 0 = λ e. Stands p role code (act_of code.formats c.args.instr.now ∷ acts) (event_of (plan_event e) ∷ es) n v in
    let I : Instr → Type 0 = λ x. Stands p role code (act_of code.formats x ∷ acts) (plays.send t ∷ es) n v in
    sent p role code acts c.in-Send-instr.r t es n v (λ h. let y = c.in_ok-holds-in-Send.ensures.1 h in let k = c.if-not-branch.true in cc) (subst I c.in-Send-instr.is (subst E c.in-Send.is s))

pub returns-else-not-branch-clause-stands : goal.returns-else-not-branch-clause-stands
returns-else-not-branch-clause-stands c =
    let v = value_of c.args.table.now in
    let n = c.args.at in
    let t = tree_of c.in-Send.term in
    let r = c.in-Send-instr.r in
    on_both c.border-in-Send.result
    (λ enough same p role code acts es s.
    let E : plans.Event → Type 0 = λ e. Stands p role code (act_of code.formats c.args.instr.now ∷ acts) (event_of (plan_event e) ∷ es) n v in
    let I : Instr → Type 0 = λ x. Stands p role code (act_of code.formats x ∷ acts) (plays.send t ∷ es) n v in
    subst (Stands p role code acts es (n + 1)) (sym same) (send_on p role code acts r t es n v (c.in_ok-holds-in-Send.ensures.0 c.if-not-branch.false) enough (subst I c.in-Send-instr.is (subst E c.in-Send.is s))))
    c.border-in-Send.ensures.enough c.border-in-Send.ensures.same

pub returns-else-not-branch-clause-refused : goal.returns-else-not-branch-clause-refused
returns-else-not-branch-clause-refused c =
    let v = value_of c.args.table.now in
    let n = c.args.at in
    let t = tree_of c.in-Send.term in
    let r = c.in-Send-instr.r in
    if_err c.border-in-Send.result
    (λ e h p role code acts es s.
    let E : plans.Event → Type 0 = λ e. Stands p role code (act_of code.formats c.args.instr.now ∷ acts) (event_of (plan_event e) ∷ es) n v in
    let I : Instr → Type 0 = λ x. Stands p role code (act_of code.formats x ∷ acts) (plays.send t ∷ es) n v in
    refused_by p role code n v (λ i l. send_loose p role code acts r t es n v i (c.in_ok-holds-in-Send.ensures.0 c.if-not-branch.false) l (subst I c.in-Send-instr.is (subst E c.in-Send.is s))) e h)
    c.border-in-Send.ensures.loose

pub border-requires-clause-few : goal.border-requires-clause-few
border-requires-clause-few c =
    let s = c.requires.stands in
    few_now s.0 s.1 s.2 (act_of s.2.formats c.args.instr.now ∷ s.3) (event_of (plan_event c.args.event.now) ∷ s.4) c.args.at (value_of c.args.table.now) s.5

pub border-requires-in-Send-clause-few : goal.border-requires-in-Send-clause-few
border-requires-in-Send-clause-few c =
    let s = c.requires.stands in
    few_now s.0 s.1 s.2 (act_of s.2.formats c.args.instr.now ∷ s.3) (event_of (plan_event c.args.event.now) ∷ s.4) c.args.at (value_of c.args.table.now) s.5
