use Rattle.std.proofs.Common.{true, refl, ap, inl, inr}
use Rattle.anb_code.specs.Taking.{take_texts}
use Rattle.anb_store.specs.Stores.{StoreState}
use Rattle.anb_command.proofs.OverWire.{no_memory}
use Rattle.anb_host_commands.specs.Serving.{runs_by}
use Rattle.anb_host_commands.proofs.Reached.{idle_no_memory}
use Rattle.anb_record_commands.proofs.Hosted.{missing_of_sessions, served_in, values_alone}
use Rattle.anb_record_commands.proofs.hosting.host_over.Goals as goal

-- ---- nothing is served

pub returns-in-Err-clause-serves : goal.returns-in-Err-clause-serves
returns-in-Err-clause-serves g c = inl (idle_no_memory (g.W.Wire.state c.args.wire.now))

pub returns-in-Err-clause-wire : goal.returns-in-Err-clause-wire
returns-in-Err-clause-wire g c = no_memory _ true (g.W.Wire.state c.args.wire.now)

pub returns-in-Err-clause-fresh : goal.returns-in-Err-clause-fresh
returns-in-Err-clause-fresh g c = inl refl

pub returns-in-Err-clause-recorded : goal.returns-in-Err-clause-recorded
returns-in-Err-clause-recorded g c = λ some whole. absurd (some refl)

pub returns-in-There-clause-serves : goal.returns-in-There-clause-serves
returns-in-There-clause-serves g c = inl (idle_no_memory (g.W.Wire.state c.args.wire.now))

pub returns-in-There-clause-wire : goal.returns-in-There-clause-wire
returns-in-There-clause-wire g c = no_memory _ true (g.W.Wire.state c.args.wire.now)

pub returns-in-There-clause-fresh : goal.returns-in-There-clause-fresh
returns-in-There-clause-fresh g c = inl refl

pub returns-in-There-clause-recorded : goal.returns-in-There-clause-recorded
returns-in-There-clause-recorded g c = λ some whole. absurd (some refl)

pub returns-in-There-clause-why_missed : goal.returns-in-There-clause-why_missed
returns-in-There-clause-why_missed g c = (c.in-There.ensures.0, c.in-There.ensures.1, refl, refl, c.in-There.ensures.2)

pub returns-in-NoMemory-clause-serves : goal.returns-in-NoMemory-clause-serves
returns-in-NoMemory-clause-serves g c = inl (idle_no_memory (g.W.Wire.state c.args.wire.now))

pub returns-in-NoMemory-clause-wire : goal.returns-in-NoMemory-clause-wire
returns-in-NoMemory-clause-wire g c = no_memory _ true (g.W.Wire.state c.args.wire.now)

pub returns-in-NoMemory-clause-fresh : goal.returns-in-NoMemory-clause-fresh
returns-in-NoMemory-clause-fresh g c = inl refl

pub returns-in-NoMemory-clause-recorded : goal.returns-in-NoMemory-clause-recorded
returns-in-NoMemory-clause-recorded g c = λ some whole. absurd (some refl)

-- ---- a host without a recording

pub returns-in-Unwritten-clause-why_missed : goal.returns-in-Unwritten-clause-why_missed
returns-in-Unwritten-clause-why_missed g c = λ some. (c.in-Unwritten.ensures.1, c.in-Unwritten.ensures.2, c.in-Unwritten.ensures.3)

pub returns-in-Unwritten-clause-fresh : goal.returns-in-Unwritten-clause-fresh
returns-in-Unwritten-clause-fresh g c = inr c.in-Unwritten.ensures.0

pub returns-in-Unwritten-clause-recorded : goal.returns-in-Unwritten-clause-recorded
returns-in-Unwritten-clause-recorded g c = λ some whole. absurd (cc)

-- ---- a recorded host

pub returns-in-Nothing-clause-why_missed : goal.returns-in-Nothing-clause-why_missed
returns-in-Nothing-clause-why_missed g c =
    let now = g.J.Store.state c.record_on.new.journal in
    missing_of_sessions c.args.folder.now (g.J.Store.state c.args.journal.now) (g.J.Store.state c.open_host.new.journal) now (g.W.Wire.state c.args.wire.now) (g.W.Wire.state c.record_on.new.wire) c.record_on.result.status c.record_on.result.missing
    (ap (λ (s : StoreState). s.faults) c.in-Nothing.ensures.1) (values_alone c.args.folder.now c.in-Ok.text (g.J.Store.state c.args.journal.now) (g.J.Store.state c.open_host.new.journal) c.in-Nothing.ensures.1) c.record_on.ensures.why_missed

pub returns-in-Nothing-clause-fresh : goal.returns-in-Nothing-clause-fresh
returns-in-Nothing-clause-fresh g c = inr c.in-Nothing.ensures.0

pub returns-in-Nothing-clause-recorded : goal.returns-in-Nothing-clause-recorded
returns-in-Nothing-clause-recorded g c = λ some whole.
    let p = c.args.prepared in
    let now = g.J.Store.state c.record_on.new.journal in
    served_in (runs_by p.code p.initial p.seed) (record { labels = take_texts p.code.instrs; initial = p.initial; seed = p.seed }) c.args.folder.now c.in-Ok.text
    (g.J.Store.state c.args.journal.now) (g.J.Store.state c.open_host.new.journal) now (g.W.Wire.state c.args.wire.now).left (g.W.Wire.state c.record_on.new.wire).left
    c.in-Nothing.ensures.1 c.in-Ok.ensures.is c.in-Ok.ensures.reads (c.record_on.ensures.recorded some whole)
