use Rattle.std.proofs.Common.{[], ◌∙◌, ap, arith, length, refl, inr}
use Rattle.anb_stage.specs.Words.{asked_lists}
use Rattle.anb_stage_commands.specs.Asking.{scene_of, staged}
use Rattle.anb_stage_commands.specs.Reports.{report_text}
use Rattle.anb_stage_commands.proofs.Carried.{all_of, so_far}
use Rattle.anb_stage_commands.proofs.Outcomes.{before_status, cause_status, refuses_as, relays_by}
use Rattle.anb_stage_commands.proofs.staging.relayed.Goals as goal

pub returns-in-Err-clause-failed : goal.returns-in-Err-clause-failed
returns-in-Err-clause-failed g c =
    let s = staged c.args.words in
    let all = c.deref.result.now in
    let z = scene_of c.args.words.limit c.args.scene.now in
    let asked = ap (asked_lists c.args.words.limit) c.deref.ensures.value in
    let count = ap length c.deref.ensures.value ∙ c.requires.counts in
    refuses_as s (g.P.Spawner.child c.args.spawner.now) (g.P.Spawner.child c.relay_telling.new.spawner) z (length all) (asked_lists c.args.words.limit all)
    count asked c.in-Err.no c.refusal.result c.in-Err.ensures.refused (c.refusal.ensures z.protocol (c.in-Ok.ensures ∙ c.roles.ensures))

pub returns-in-Err-clause-before : goal.returns-in-Err-clause-before
returns-in-Err-clause-before g c =
    before_status c.args.words.limit (g.P.Spawner.child c.relay_telling.new.spawner) c.args.scene.now.protocol c.in-Err.no c.refusal.result (c.refusal.ensures c.args.scene.now.protocol (c.in-Ok.ensures ∙ c.roles.ensures))

pub returns-in-Err-clause-cause : goal.returns-in-Err-clause-cause
returns-in-Err-clause-cause g c =
    let s = staged c.args.words in
    let all = c.deref.result.now in
    let z = scene_of c.args.words.limit c.args.scene.now in
    let asked = ap (asked_lists c.args.words.limit) c.deref.ensures.value in
    let count = ap length c.deref.ensures.value ∙ c.requires.counts in
    cause_status z.protocol (length all) c.args.words.limit (g.P.Spawner.child c.args.spawner.now) (g.P.Spawner.child c.relay_telling.new.spawner) (asked_lists c.args.words.limit all)
    c.in-Err.no c.refusal.result (omega (arith, count, c.has_few_roles.ensures)) c.in-Err.ensures.refused (c.refusal.ensures z.protocol (c.in-Ok.ensures ∙ c.roles.ensures))

pub returns-in-Ok-report_text-clause-relayed : goal.returns-in-Ok-report_text-clause-relayed
returns-in-Ok-report_text-clause-relayed g c =
    let s = staged c.args.words in
    let all = c.deref.result.now in
    let z = scene_of c.args.words.limit c.args.scene.now in
    let asked = ap (asked_lists c.args.words.limit) c.deref.ensures.value in
    let count = ap length c.deref.ensures.value ∙ c.requires.counts in
    relays_by s (g.P.Spawner.child c.args.spawner.now) (g.P.Spawner.child c.relay_telling.new.spawner) z (length all) (asked_lists c.args.words.limit all)
    count asked c.in-Ok-report_text.text.items c.in-Ok-relay_telling.sent.items c.in-Ok-relay_telling.ensures.relayed
    c.in-Ok-relay_telling.ensures.report (c.in-Ok-report_text.ensures ∙ ap report_text c.deref-2.ensures.value)

pub returns-clause-failed : goal.returns-clause-failed
returns-clause-failed g c =
    let s = staged c.args.words in
    let all = c.deref.result.now in
    let z = scene_of c.args.words.limit c.args.scene.now in
    let asked = ap (asked_lists c.args.words.limit) c.deref.ensures.value in
    let count = ap length c.deref.ensures.value ∙ c.requires.counts in
    inr (
      refl,
      (
        report_text c.in-Ok-relay_telling.sent.items,
        relays_by s (g.P.Spawner.child c.args.spawner.now) (g.P.Spawner.child c.relay_telling.new.spawner) z (length all) (asked_lists c.args.words.limit all)
            count asked (report_text c.in-Ok-relay_telling.sent.items) c.in-Ok-relay_telling.sent.items c.in-Ok-relay_telling.ensures.relayed
            c.in-Ok-relay_telling.ensures.report refl,
      ),
    )

pub returns-in_default-clause-told_so_far : goal.returns-in_default-clause-told_so_far
returns-in_default-clause-told_so_far g c = ([], g.met.L.Log.stays c.args.log.now, λ some. absurd (some refl))

pub returns-in-Err-clause-told_so_far : goal.returns-in-Err-clause-told_so_far
returns-in-Err-clause-told_so_far g c =
    let z = scene_of c.args.words.limit c.args.scene.now in
    let count = ap length c.deref.ensures.value ∙ c.requires.counts in
    let t = c.in-Err.ensures.told_so_far in (
      t.0,
      t.2,
      λ some. so_far c.args.words.limit z (length c.deref.result.now) count (g.P.Spawner.child c.args.spawner.now) (g.P.Spawner.child c.relay_telling.new.spawner) t.0 c.in-Err.no c.refusal.result
          (c.refusal.ensures z.protocol (c.in-Ok.ensures ∙ c.roles.ensures)) t.1,
    )

pub returns-in-Ok-report_text-clause-told : goal.returns-in-Ok-report_text-clause-told
returns-in-Ok-report_text-clause-told g c =
    let z = scene_of c.args.words.limit c.args.scene.now in
    let count = ap length c.deref.ensures.value ∙ c.requires.counts in
    let sent = c.in-Ok-relay_telling.sent.items in (
      sent,
      c.in-Ok-report_text.ensures ∙ ap report_text c.deref-2.ensures.value,
      all_of z (length c.deref.result.now) count (g.P.Spawner.child c.args.spawner.now) sent c.in-Ok-relay_telling.ensures.count c.in-Ok-relay_telling.ensures.report,
      c.in-Ok-relay_telling.ensures.told,
    )

pub returns-clause-told_so_far : goal.returns-clause-told_so_far
returns-clause-told_so_far g c = (_, c.in-Ok-relay_telling.ensures.told, λ some. absurd (some refl))
