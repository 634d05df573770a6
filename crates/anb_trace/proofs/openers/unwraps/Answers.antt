use Rattle.std.proofs.Common.{◌∷◌, [], ℕ, List, Vec, Global, refl, sym, ◌∙◌}
use Rattle.std.specs.Prelude.{slice_get}
use Rattle.anb_term.specs.declared.term.Op.TheVariants as op
use Rattle.anb_term.specs.Lawful.{picked}
use Rattle.anb_machine.specs.ByteRuns.{meaning_of}
use Rattle.anb_trace.proofs.Opening.{absent, nothing_there, opens_as, stays_closed, there, undone_alike, without_context, without_wrap_key}
use Rattle.anb_trace.proofs.openers.unwraps.Goals.{then-not-is_there-via-then-not-is_there, then-not-is_there-via-else-not-is_there+then-not-is_there-2, then-not-is_there-via-else-not-is_there+else-not-is_there-2+then-not-is_there-3}
use Rattle.anb_trace.proofs.openers.unwraps.Goals as goal

pub returns-then-not-is_there : goal.returns-then-not-is_there
returns-then-not-is_there c =
    let code = c.args.code.now in
    let m = meaning_of code in
    let table = c.args.registers.now in
    let key = c.args.key in
    let context = c.args.context in
    let of = c.args.of in
    let keys = key ∷ context ∷ [] in
    sym (elim c.then-not-is_there.branch [
      | then-not-is_there-via-then-not-is_there w ↦
          stays_closed m table op.Wrap keys of (λ v. without_wrap_key code.formats code.suite table key context v (slice_get table context) (absent table key (sym c.is_there.ensures ∙ w.if-not-is_there.true)) refl)
      | then-not-is_there-via-else-not-is_there+then-not-is_there-2 w ↦
          stays_closed m table op.Wrap keys of (λ v. without_context code.formats code.suite table key context v (slice_get table key) (absent table context (sym w.is_there-else-not-is_there.ensures ∙ w.if-not-is_there-2.true)) refl)
      | then-not-is_there-via-else-not-is_there+else-not-is_there-2+then-not-is_there-3 w ↦
          nothing_there m table op.Wrap keys of (absent table of (sym w.is_there-else-not-is_there-2.ensures ∙ w.if-not-is_there-3.true))
    ])

pub returns-in-Ok : goal.returns-in-Ok
returns-in-Ok c =
    let code = c.args.code.now in
    let table = c.args.registers.now in
    let keys = c.args.key ∷ c.args.context ∷ [] in
    let algebra = c.new-algebra.result in
    let some = there table c.args.of (sym c.is_there-else-not-is_there-2.ensures ∙ c.if-not-is_there-3.false) in
    let alike = undone_alike algebra.formats code.formats algebra.suite code.suite op.Wrap (picked table keys) some.0
    (c.new-algebra.ensures.formats ∙ c.formats.ensures.formats) (c.new-algebra.ensures.suite ∙ c.suite.ensures) in
    c.is_some.ensures ∙ opens_as (meaning_of code) table op.Wrap keys c.args.of (λ (parts : Vec (List ℕ) Global). parts.items) c.in-Ok.parts some.0 some.1
    (c.in-Ok.ensures some.0 some.1 ∙ alike)
