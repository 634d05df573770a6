use Rattle.std.proofs.Common.{◌≡◌, ◌∙◌, ◌+◌, List, [], take, arith, rules, subst, sym}
use Rattle.std.proofs.lemmas.List.{take_all}
use Rattle.anb_base.specs.declared.content.Sent.{Sent}
use Rattle.anb_stage.specs.Notes.{notes_of}
use Rattle.anb_stage.specs.Relays.{report}
use Rattle.anb_stage.proofs.Messages.{appended}
use Rattle.anb_stage.proofs.Noting.{counted, noted, refused_here, wanting_here}
use Rattle.anb_stage.specs.declared.refusal.RelayNo.TheVariants as no
use Rattle.anb_stage.proofs.Roles.{quiet_joined, reported_later, reported_quiet}
use Rattle.anb_stage.proofs.Steps.{runs_at, keeps_at, carrying_fails, carrying_begins, carrying_goes_on, carrying_ends, caused_later, ends_at}
use Rattle.anb_stage.proofs.carrying.carry_all.Goals as goal

pub carry-requires-clause-sender : goal.carry-requires-clause-sender
carry-requires-clause-sender g c =
    (runs_at (g.P.Spawner.child c.args.spawner.now) (g.P.Spawner.child c.loop-i.spawner) (g.P.Spawner.child c.loop-i.spawner) c.args.actions.now c.loop-i.i _ c.loop-i-test.true c.requires.running c.loop-i.invariant.keeps).0

pub carry-requires-clause-receiver : goal.carry-requires-clause-receiver
carry-requires-clause-receiver g c =
    (runs_at (g.P.Spawner.child c.args.spawner.now) (g.P.Spawner.child c.loop-i.spawner) (g.P.Spawner.child c.loop-i.spawner) c.args.actions.now c.loop-i.i _ c.loop-i-test.true c.requires.running c.loop-i.invariant.keeps).1

pub returns-in-Err-clause-failed : goal.returns-in-Err-clause-failed
returns-in-Err-clause-failed g c roles outputs tails few within cut =
    carrying_fails (g.P.Spawner.child c.args.spawner.now) (g.P.Spawner.child c.loop-i.spawner) (g.P.Spawner.child c.carry.new.spawner) c.args.actions.now c.loop-i.i _ c.loop-i-test.true
    roles few within outputs tails (c.loop-i.invariant.carried roles outputs tails few within cut).0 c.carry.ensures.kept c.in-Err.no c.in-Err.ensures.failed

pub returns-in-Err-clause-in_time : goal.returns-in-Err-clause-in_time
returns-in-Err-clause-in_time g c roles outputs tails few within cut heard =
    carrying_begins (g.P.Spawner.child c.args.spawner.now) (g.P.Spawner.child c.loop-i.spawner) (g.P.Spawner.child c.carry.new.spawner) c.args.actions.now c.loop-i.i _ c.loop-i-test.true
    roles few within outputs tails (c.loop-i.invariant.carried roles outputs tails few within cut).0 c.carry.ensures.kept c.carry.ensures.begins heard

pub returns-in_default-clause-in_time : goal.returns-in_default-clause-in_time
returns-in_default-clause-in_time g c roles outputs tails few within cut heard =
    carrying_begins (g.P.Spawner.child c.args.spawner.now) (g.P.Spawner.child c.loop-i.spawner) (g.P.Spawner.child c.carry.new.spawner) c.args.actions.now c.loop-i.i _ c.loop-i-test.true
    roles few within outputs tails (c.loop-i.invariant.carried roles outputs tails few within cut).0 c.carry.ensures.kept c.carry.ensures.begins heard

pub returns-in-Err-clause-reported : goal.returns-in-Err-clause-reported
returns-in-Err-clause-reported g c =
    reported_later (g.P.Spawner.child c.args.spawner.now) (g.P.Spawner.child c.loop-i.spawner) (g.P.Spawner.child c.carry.new.spawner) c.in-Err.no c.loop-i.invariant.quiet c.in-Err.ensures.reported

pub returns-in_default-clause-reported : goal.returns-in_default-clause-reported
returns-in_default-clause-reported g c =
    reported_quiet (g.P.Spawner.child c.args.spawner.now) (g.P.Spawner.child c.carry.new.spawner) no.NoMemory
    (quiet_joined (g.P.Spawner.child c.args.spawner.now) (g.P.Spawner.child c.loop-i.spawner) (g.P.Spawner.child c.carry.new.spawner) c.loop-i.invariant.quiet c.in-Ok.ensures.quiet)

pub returns-in-Err-clause-cause : goal.returns-in-Err-clause-cause
returns-in-Err-clause-cause g c roles few within =
    let e = ends_at (g.P.Spawner.child c.args.spawner.now) (g.P.Spawner.child c.loop-i.spawner) (g.P.Spawner.child c.carry.new.spawner) c.args.actions.now c.loop-i.i _ c.loop-i-test.true roles within in
    caused_later (g.P.Spawner.child c.args.spawner.now) (g.P.Spawner.child c.loop-i.spawner) (g.P.Spawner.child c.carry.new.spawner) roles few
    (c.loop-i.invariant.keeps roles few within).stays c.in-Err.no (c.in-Err.ensures.cause roles e.0 e.1)

pub returns-in-Err-clause-kept : goal.returns-in-Err-clause-kept
returns-in-Err-clause-kept g c =
    keeps_at (g.P.Spawner.child c.args.spawner.now) (g.P.Spawner.child c.loop-i.spawner) (g.P.Spawner.child c.carry.new.spawner) c.args.actions.now c.loop-i.i _ c.loop-i-test.true
    c.loop-i.invariant.keeps c.carry.ensures.kept

pub returns-in_default-clause-failed : goal.returns-in_default-clause-failed
returns-in_default-clause-failed g c roles outputs tails few within cut =
    carrying_ends (g.P.Spawner.child c.args.spawner.now) (g.P.Spawner.child c.loop-i.spawner) (g.P.Spawner.child c.carry.new.spawner) c.args.actions.now c.loop-i.i _ c.loop-i-test.true
    roles few within outputs tails (c.loop-i.invariant.carried roles outputs tails few within cut).0 c.carry.ensures.kept c.in-Ok.bytes c.in-Ok.ensures.carries

pub returns-in_default-clause-kept : goal.returns-in_default-clause-kept
returns-in_default-clause-kept g c =
    keeps_at (g.P.Spawner.child c.args.spawner.now) (g.P.Spawner.child c.loop-i.spawner) (g.P.Spawner.child c.carry.new.spawner) c.args.actions.now c.loop-i.i _ c.loop-i-test.true
    c.loop-i.invariant.keeps c.carry.ensures.kept

pub loop-i-preserved : goal.loop-i-preserved
loop-i-preserved g c = record {
  carried = λ roles outputs tails few within cut.
      let before = c.loop-i.invariant.carried roles outputs tails few within cut in
      let o = carrying_goes_on (g.P.Spawner.child c.args.spawner.now) (g.P.Spawner.child c.loop-i.spawner) (g.P.Spawner.child c.carry.new.spawner) c.args.actions.now c.loop-i.i _ c.loop-i-test.true
      roles few within outputs tails before.0 c.carry.ensures.kept c.in-Ok.bytes c.in-Ok.ensures.carries in
      (o.0, appended c.loop-i.sent.items c.push.new.self.items (report outputs (take c.loop-i.i c.args.actions.now)) _ (record { action = c.loop-i.i + 1; bytes = c.in-Ok.bytes }) (search rules) before.1 o.1);
  keeps = keeps_at (g.P.Spawner.child c.args.spawner.now) (g.P.Spawner.child c.loop-i.spawner) (g.P.Spawner.child c.carry.new.spawner) c.args.actions.now c.loop-i.i _ c.loop-i-test.true
      c.loop-i.invariant.keeps c.carry.ensures.kept;
  quiet = quiet_joined (g.P.Spawner.child c.args.spawner.now) (g.P.Spawner.child c.loop-i.spawner) (g.P.Spawner.child c.carry.new.spawner) c.loop-i.invariant.quiet c.in-Ok.ensures.quiet;
  buffer = c.carry.auto.buffer ∙ c.loop-i.invariant.buffer;
  told = noted g.L.Log.After g.met.L.Log.joined c.args.log.now c.loop-i.log c.carry.new.log c.args.actions.now c.loop-i.i _ c.loop-i.sent.items c.push.new.self.items c.in-Ok.bytes c.loop-i-test.true c.loop-i.invariant.count (search rules) c.loop-i.invariant.told c.in-Ok.ensures.told;
  count = counted c.loop-i.sent.items c.push.new.self.items (record { action = c.loop-i.i + 1; bytes = c.in-Ok.bytes }) c.loop-i.i c.loop-i.invariant.count (search rules);
}

pub returns-clause-carried : goal.returns-clause-carried
returns-clause-carried g c roles outputs tails few within cut =
    rw (take_all c.loop-i.i c.args.actions.now (omega (arith, c.loop-i-test.false))) at (c.loop-i.invariant.carried roles outputs tails few within cut).0

pub returns-clause-report : goal.returns-clause-report
returns-clause-report g c roles outputs tails few within cut =
    rw (take_all c.loop-i.i c.args.actions.now (omega (arith, c.loop-i-test.false))) at (c.loop-i.invariant.carried roles outputs tails few within cut).1

pub returns-in-Err-clause-told_so_far : goal.returns-in-Err-clause-told_so_far
returns-in-Err-clause-told_so_far g c roles few within =
    let e = ends_at (g.P.Spawner.child c.args.spawner.now) (g.P.Spawner.child c.loop-i.spawner) (g.P.Spawner.child c.carry.new.spawner) c.args.actions.now c.loop-i.i _ c.loop-i-test.true roles within in
    refused_here roles c.args.actions.now (g.P.Spawner.child c.args.spawner.now) (g.P.Spawner.child c.loop-i.spawner) (g.P.Spawner.child c.carry.new.spawner) c.loop-i.i _ c.loop-i.sent.items c.loop-i-test.true c.loop-i.invariant.count
    g.L.Log.After g.met.L.Log.joined c.args.log.now c.loop-i.log c.carry.new.log e.0 c.loop-i.invariant.told c.in-Err.no (c.in-Err.ensures.cause roles e.0 e.1) c.in-Err.ensures.told_alone
    (λ outputs tails cut. c.loop-i.invariant.carried roles outputs tails few within cut)

pub returns-in_default-clause-told_so_far : goal.returns-in_default-clause-told_so_far
returns-in_default-clause-told_so_far g c roles few within =
    wanting_here roles c.args.actions.now (g.P.Spawner.child c.args.spawner.now) c.loop-i.i _ c.loop-i.sent.items c.in-Ok.bytes c.loop-i-test.true c.loop-i.invariant.count
    g.L.Log.After g.met.L.Log.joined c.args.log.now c.loop-i.log c.carry.new.log c.loop-i.invariant.told c.in-Ok.ensures.told
    (λ outputs tails cut.
    let before = c.loop-i.invariant.carried roles outputs tails few within cut in
    let o = carrying_goes_on (g.P.Spawner.child c.args.spawner.now) (g.P.Spawner.child c.loop-i.spawner) (g.P.Spawner.child c.carry.new.spawner) c.args.actions.now c.loop-i.i _ c.loop-i-test.true
    roles few within outputs tails before.0 c.carry.ensures.kept c.in-Ok.bytes c.in-Ok.ensures.carries in (before.1, o.1))

pub returns-clause-told : goal.returns-clause-told
returns-clause-told g c = c.loop-i.invariant.told

pub returns-clause-count : goal.returns-clause-count
returns-clause-count g c = c.loop-i.invariant.count ∙ omega (arith, c.loop-i-test.false)

pub loop-i-init : goal.loop-i-init
loop-i-init g c = record {
  carried = search rules;
  keeps = search rules;
  quiet = search rules;
  buffer = search rules;
  told =
      let none : c.new-sent.result.items ≡ [] = search rules in
      subst (λ (l : List Sent). g.L.Log.After c.args.log.now (notes_of c.args.actions.now l) c.args.log.now) (sym none) (g.met.L.Log.stays c.args.log.now);
  count = search rules;
}
