use Rattle.std.proofs.Common.{◌∷◌, [], ℕ, List, Vec, Global, sym, ◌∙◌}
use Rattle.anb_term.specs.declared.term.Op.TheVariants as op
use Rattle.anb_term.specs.Lawful.{picked}
use Rattle.anb_machine.specs.ByteRuns.{meaning_of}
use Rattle.anb_trace.proofs.Opening.{absent, nothing_there, opens_as, stays_closed, there, undone_alike, without_key}
use Rattle.anb_trace.proofs.openers.unseals.Goals.{then-not-is_there-via-then-not-is_there, then-not-is_there-via-else-not-is_there+then-not-is_there-2}
use Rattle.anb_trace.proofs.openers.unseals.Goals as goal

pub returns-then-not-is_there : goal.returns-then-not-is_there
returns-then-not-is_there c =
    let code = c.args.code.now in
    let m = meaning_of code in
    let table = c.args.registers.now in
    let key = c.args.key in
    let of = c.args.of in
    sym (elim c.then-not-is_there.branch [
      | then-not-is_there-via-then-not-is_there w ↦
          stays_closed m table op.Seal (key ∷ []) of (λ v. without_key code.formats code.suite table key v (absent table key (sym c.is_there.ensures ∙ w.if-not-is_there.true)))
      | then-not-is_there-via-else-not-is_there+then-not-is_there-2 w ↦
          nothing_there m table op.Seal (key ∷ []) of (absent table of (sym w.is_there-else-not-is_there.ensures ∙ w.if-not-is_there-2.true))
    ])

pub returns-in-Ok : goal.returns-in-Ok
returns-in-Ok c =
    let code = c.args.code.now in
    let table = c.args.registers.now in
    let keys = c.args.key ∷ [] in
    let algebra = c.new-algebra.result in
    let some = there table c.args.of (sym c.is_there-else-not-is_there.ensures ∙ c.if-not-is_there-2.false) in
    let alike = undone_alike algebra.formats code.formats algebra.suite code.suite op.Seal (picked table keys) some.0
    (c.new-algebra.ensures.formats ∙ c.formats.ensures.formats) (c.new-algebra.ensures.suite ∙ c.suite.ensures) in
    c.is_some.ensures ∙ opens_as (meaning_of code) table op.Seal keys c.args.of (λ (parts : Vec (List ℕ) Global). parts.items) c.in-Ok.parts some.0 some.1
    (c.in-Ok.ensures some.0 some.1 ∙ alike)
