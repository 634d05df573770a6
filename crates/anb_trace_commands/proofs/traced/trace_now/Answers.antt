use Rattle.std.proofs.Common.{◌++◌, ℕ, List, inl, inr, refl, sym, ◌∙◌, subst}
use Rattle.anb_status.specs.declared.status.Status.{Status}
use Rattle.anb_trace.specs.Traces.{trace}
use Rattle.anb_trace.specs.Words.{subject_of}
use Rattle.anb_trace_commands.specs.TraceCommand.{differing_line}
use Rattle.anb_trace_commands.specs.Tracing.{EndsAs, HasComeOf, IsDueAs}
use Rattle.anb_trace_commands.proofs.Due.{come_so, due_so, ends_so, only_same}
use Rattle.anb_trace_commands.proofs.traced.trace_now.Goals as goal

pub returns-clause-comes : goal.returns-clause-comes
returns-clause-comes g c =
    let t = c.args.tracing in
    let due = due_so t.protocol t.role t.prepared.code t.prepared.initial t.prepared.seed c.args.session t.transcript c.in-Ok-compared.status c.in-Ok.explanation _ c.in-Ok-compared.ensures.some c.in-Ok-compared.ensures.replayed c.in-Ok.ensures.plan c.in-Ok.ensures.terms (c.deref.ensures.value ∙ c.in-Ok-arrivals_of.ensures) in
    subst (λ (s : Status). HasComeOf t.protocol t.role t.prepared.code t.prepared.initial t.prepared.seed c.args.session t.transcript s (g.W.Wire.state c.args.wire.now).written (g.W.Wire.state c.write_lines-written.new.wire).written) (sym c.ended_by.ensures)
    (come_so t.protocol t.role t.prepared.code t.prepared.initial t.prepared.seed c.args.session t.transcript _ _ c.write_lines-written.result c.in-Ok-compared.status _ _ _ due c.write_lines-written.ensures.writes)

pub returns-clause-ends : goal.returns-clause-ends
returns-clause-ends g c =
    let t = c.args.tracing in
    subst (λ (s : Status). EndsAs s (g.W.Wire.state c.args.wire.now) (g.W.Wire.state c.write_lines-written.new.wire)) (sym c.ended_by.ensures)
    (ends_so t.protocol t.role t.prepared.code t.prepared.initial t.prepared.seed c.args.session t.transcript c.write_lines-written.result c.in-Ok-compared.status _ (g.W.Wire.state c.args.wire.now) (g.W.Wire.state c.write_lines-written.new.wire) c.in-Ok-compared.ensures.replayed c.write_lines-written.ensures.writes)

pub returns-clause-only : goal.returns-clause-only
returns-clause-only g c = c.write_lines-written.ensures.only

pub returns-in-Err-clause-comes : goal.returns-in-Err-clause-comes
returns-in-Err-clause-comes g c = inl refl

pub returns-in-Err-clause-ends : goal.returns-in-Err-clause-ends
returns-in-Err-clause-ends g c = inr (inr (refl, refl))

pub returns-in-Err-clause-only : goal.returns-in-Err-clause-only
returns-in-Err-clause-only g c = only_same _

pub returns-in-Err-compared-clause-comes : goal.returns-in-Err-compared-clause-comes
returns-in-Err-compared-clause-comes g c = inl refl

pub returns-in-Err-compared-clause-ends : goal.returns-in-Err-compared-clause-ends
returns-in-Err-compared-clause-ends g c = inr (inr (refl, refl))

pub returns-in-Err-compared-clause-only : goal.returns-in-Err-compared-clause-only
returns-in-Err-compared-clause-only g c = only_same _

pub returns-in-Err-arrivals_of-clause-comes : goal.returns-in-Err-arrivals_of-clause-comes
returns-in-Err-arrivals_of-clause-comes g c = inl refl

pub returns-in-Err-arrivals_of-clause-ends : goal.returns-in-Err-arrivals_of-clause-ends
returns-in-Err-arrivals_of-clause-ends g c = inr (inr (refl, refl))

pub returns-in-Err-arrivals_of-clause-only : goal.returns-in-Err-arrivals_of-clause-only
returns-in-Err-arrivals_of-clause-only g c = only_same _
