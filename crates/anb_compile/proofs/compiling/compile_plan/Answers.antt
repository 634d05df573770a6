use Rattle.std.proofs.Common.{◌≢◌, ℕ, List, length, sym, ap, ◌∙◌, subst}
use Rattle.std.specs.List.{AllPairs}
use Rattle.std.proofs.lemmas.List.{length-map}
use Rattle.anb_code.specs.Taking.{take_texts}
use Rattle.anb_code.specs.declared.instr.Instr.{Instr}
use Rattle.anb_protocol.specs.Texts.{known_by, term_text}
use Rattle.anb_compile.specs.Emitting.{Emits, context_of}
use Rattle.anb_compile.specs.RoleCodes.{role_code}
use Rattle.anb_compile.proofs.compiling.compile_plan.Goals as goal

pub emit-requires-clause-plan : goal.emit-requires-clause-plan
emit-requires-clause-plan c = (context_of c.args.p.now c.args.plan.now, c.requires.plan)

pub emit-requires-clause-texts : goal.emit-requires-clause-texts
emit-requires-clause-texts c =
    let p = c.args.p.now in
    let role = c.args.role in
    ap length c.in_ok-texts.ensures ∙ length-map (known_by p role) (term_text p) ∙ ap length (sym c.requires.known)

pub emit-requires-clause-differ : goal.emit-requires-clause-differ
emit-requires-clause-differ c =
    let p = c.args.p.now in
    let P : List (List ℕ) → Type 0 = λ l. AllPairs (λ one other. one ≢ other) l in
    subst P (sym c.in_ok-texts.ensures) (c.known_texts_differ.ensures p c.args.role c.name.ensures.protocol)

pub role_code-requires-clause-holds : goal.role_code-requires-clause-holds
role_code-requires-clause-holds c = c.protocols_hold.ensures c.args.p.now c.name.ensures.protocol

pub role_code-requires-clause-admitted : goal.role_code-requires-clause-admitted
role_code-requires-clause-admitted c = (c.in-Ok.ensures.emits (context_of c.args.p.now c.args.plan.now) c.requires.plan).admitted

pub returns-clause-names : goal.returns-clause-names
returns-clause-names c =
    let is = c.in_ok-code.ensures in
    is ∙ ap (role_code c.args.p.now c.args.role) (sym (ap (λ code. code.instrs) is))

pub returns-clause-texts : goal.returns-clause-texts
returns-clause-texts c = ap (λ code. take_texts code.instrs) c.in_ok-code.ensures ∙ c.in-Ok.ensures.texts ∙ c.in_ok-texts.ensures

pub returns-clause-emits : goal.returns-clause-emits
returns-clause-emits c =
    let k = context_of c.args.p.now c.args.plan.now in
    let P : List Instr → Type 0 = λ instrs. Emits k c.args.plan.now instrs in
    subst P (sym (ap (λ code. code.instrs) c.in_ok-code.ensures)) (c.in-Ok.ensures.emits k c.requires.plan)
