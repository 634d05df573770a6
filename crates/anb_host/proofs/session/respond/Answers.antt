use Rattle.std.proofs.Common.{◌<◌, [], ◌∷◌, ◌++◌, subst, sym, ◌∙◌}
use Rattle.anb_machine.specs.Machines.{gives}
use Rattle.anb_machine.specs.ByteRuns.{run_bytes}
use Rattle.anb_host.specs.declared.event.HostEvent.TheVariants.{Start, Arrive, Oversize}
use Rattle.anb_host.specs.Own.{session_of}
use Rattle.anb_host.specs.Hosts.{Stands}
use Rattle.anb_host.specs.Inside.{IsWaiting}
use Rattle.anb_host.proofs.Responding.{starts, arrives, start_again, too_late, too_long, no_refusal, if_told, is_low, was_started}
use Rattle.std.proofs.Common.{refl}
use Rattle.anb_host.proofs.session.respond.Goals as goal

pub returns-in_ok-start-in-Unstarted-clause-own : goal.returns-in_ok-start-in-Unstarted-clause-own
returns-in_ok-start-in-Unstarted-clause-own c =
    let s = c.in-Start.s in
    let play = run_bytes c.args.code.now c.args.values.now c.args.seed.now s in
    let low = is_low s (subst (λ e. session_of e < 1024) c.in-Start.is c.requires.within) in
    rw (c.in-Start.is, c.in-Unstarted.is)
    (if_told c.settle.result c.settle.ensures.told c.settle.ensures.settled (λ answer told settled. λ past h.
    starts play s low past (gives c.in_ok-start-in-Unstarted.field-0) answer.session answer.told.items c.in_ok-start-in-Unstarted.ensures.run told settled h))

pub returns-in_ok-start-in-Unstarted-clause-refused : goal.returns-in_ok-start-in-Unstarted-clause-refused
returns-in_ok-start-in-Unstarted-clause-refused c =
    if_told c.settle.result c.settle.ensures.told c.settle.ensures.told (λ answer told t. λ refused. absurd (no_refusal c.in-Start.s answer.told.items _ _ told refused))

pub returns-in_default : goal.returns-in_default
returns-in_default c =
    let s = c.in-Start.s in
    let play = run_bytes c.args.code.now c.args.values.now c.args.seed.now s in
    let low = is_low s (subst (λ e. session_of e < 1024) c.in-Start.is c.requires.within) in
    record {
      waiting = if_told c.refuse.result c.refuse.ensures.session c.refuse.ensures.told (λ answer same told. subst IsWaiting (sym same) c.requires.waiting);
      own =
          rw c.in-Start.is (if_told c.refuse.result c.refuse.ensures.session c.refuse.ensures.told (λ answer same told. λ past h.
          let g = start_again play s low past answer.told.items c.args.session told (was_started play past c.args.session c.in_default.not-Unstarted h) h in
          (g.0, subst (Stands play (past ++ Start s ∷ [])) (sym same) g.1)));
      narrow = c.refuse.ensures.narrow;
      refused = if_told c.refuse.result c.refuse.ensures.session c.refuse.ensures.told (λ answer same told. λ refused. same);
    }

pub returns-in-Running-clause-own : goal.returns-in-Running-clause-own
returns-in-Running-clause-own c =
    let s = c.in-Arrive.s in
    let play = run_bytes c.args.code.now c.args.values.now c.args.seed.now s in
    let low = is_low s (subst (λ e. session_of e < 1024) c.in-Arrive.is c.requires.within) in
    rw (c.in-Arrive.is, c.in-Running.is)
    (if_told c.settle-in-Running.result c.settle-in-Running.ensures.told c.settle-in-Running.ensures.settled (λ answer told settled. λ past h.
    arrives play s low past c.in-Arrive.bytes c.in-Running.machine (gives c.arrive.new.self) answer.session answer.told.items c.arrive.ensures.gives told settled h))

pub returns-in-Running-clause-refused : goal.returns-in-Running-clause-refused
returns-in-Running-clause-refused c =
    if_told c.settle-in-Running.result c.settle-in-Running.ensures.told c.settle-in-Running.ensures.told (λ answer told t. λ refused. absurd (no_refusal c.in-Arrive.s answer.told.items _ _ told refused))

pub returns-in-Over-clause-own : goal.returns-in-Over-clause-own
returns-in-Over-clause-own c =
    let s = c.in-Arrive.s in
    let x = Arrive s c.in-Arrive.bytes in
    let play = run_bytes c.args.code.now c.args.values.now c.args.seed.now s in
    let low = is_low s (subst (λ e. session_of e < 1024) c.in-Arrive.is c.requires.within) in
    rw (c.in-Arrive.is, c.in-Over.is)
    (if_told c.refuse-in-Over.result c.refuse-in-Over.ensures.session c.refuse-in-Over.ensures.told (λ answer same told. λ past h.
    let g = too_late play s low past answer.told.items x refl told h in
    (g.0, subst (Stands play (past ++ x ∷ [])) (sym (same ∙ c.in-Over.is)) g.1)))

pub returns-in-Running-session-clause-own : goal.returns-in-Running-session-clause-own
returns-in-Running-session-clause-own c =
    let s = c.in-Oversize.s in
    let x = Oversize s c.in-Oversize.field-1 in
    let play = run_bytes c.args.code.now c.args.values.now c.args.seed.now s in
    let low = is_low s (subst (λ e. session_of e < 1024) c.in-Oversize.is c.requires.within) in
    rw (c.in-Oversize.is, c.in-Running-session.is)
    (if_told c.refuse-in-Running-session.result c.refuse-in-Running-session.ensures.session c.refuse-in-Running-session.ensures.told (λ answer same told. λ past h.
    let g = too_long play s low past answer.told.items c.in-Oversize.field-1 c.in-Running-session.field-0 told h in
    (g.0, subst (Stands play (past ++ x ∷ [])) (sym (same ∙ c.in-Running-session.is)) g.1)))

pub returns-in-Over-session-clause-own : goal.returns-in-Over-session-clause-own
returns-in-Over-session-clause-own c =
    let s = c.in-Oversize.s in
    let x = Oversize s c.in-Oversize.field-1 in
    let play = run_bytes c.args.code.now c.args.values.now c.args.seed.now s in
    let low = is_low s (subst (λ e. session_of e < 1024) c.in-Oversize.is c.requires.within) in
    rw (c.in-Oversize.is, c.in-Over-session.is)
    (if_told c.refuse-in-Over-session.result c.refuse-in-Over-session.ensures.session c.refuse-in-Over-session.ensures.told (λ answer same told. λ past h.
    let g = too_late play s low past answer.told.items x refl told h in
    (g.0, subst (Stands play (past ++ x ∷ [])) (sym (same ∙ c.in-Over-session.is)) g.1)))
