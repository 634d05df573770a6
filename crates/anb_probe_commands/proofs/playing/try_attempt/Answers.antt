use Rattle.std.proofs.Common.{refl}
use Rattle.std.proofs.lemmas.Option.{slice_get_read}
use Rattle.anb_probe_commands.specs.Tasks.{probing_by}
use Rattle.anb_probe_commands.specs.Asking.{trying_by}
use Rattle.anb_probe_commands.specs.Words.{order_of}
use Rattle.anb_probe_commands.proofs.Tried.{texts_are, tried_as}
use Rattle.anb_probe_commands.proofs.playing.try_attempt.Goals as goal

pub try_case-requires-clause-texts : goal.try_case-requires-clause-texts
try_case-requires-clause-texts g c =
    let t = c.args.task.now in
    let x = c.args.prepared.now in
    let a = c.args.attempt.now in
    let there = rw c.deref.ensures.value at c.partner_at-partner.ensures in
    let at = slice_get_read x.scenes.items _ a.scene c.index-scene.result.now refl c.requires.placed.scene c.index-scene.ensures in
    texts_are (probing_by t.protocol t.role t.values t.seed) x c.requires.can a c.index-scene.result.now c.partner_at-partner.result.now at there

pub returns-in-Ok-clause-tried : goal.returns-in-Ok-clause-tried
returns-in-Ok-clause-tried g c =
    let t = c.args.task.now in
    let x = c.args.prepared.now in
    let a = c.args.attempt.now in
    let there = rw c.deref.ensures.value at c.partner_at-partner.ensures in
    let at = slice_get_read x.scenes.items _ a.scene c.index-scene.result.now refl c.requires.placed.scene c.index-scene.ensures in
    tried_as (probing_by t.protocol t.role t.values t.seed) x c.requires.can a c.index-scene.result.now c.partner_at-partner.result.now at there (order_of (trying_by c.args.trying)) c.args.reached
    (g.T.Trials.trial c.args.trials.now c.args.number) (g.T.Trials.trial c.try_case.new.trials c.args.number) c.in-Ok.field-0.conversation c.in-Ok.field-0.verdict c.in-Ok.field-0.reached
    c.in-Ok.ensures.converses c.in-Ok.ensures.verdict c.in-Ok.ensures.reached c.in-Ok.ensures.bytes c.in-Ok.ensures.long
