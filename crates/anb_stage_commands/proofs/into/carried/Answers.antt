use Rattle.std.proofs.Common.{◌∙◌, ap, length, sym}
use Rattle.std.proofs.lemmas.List.{length-map}
use Rattle.anb_protocol.specs.Views.{action_value}
use Rattle.anb_stage_commands.specs.Asking.{scene_of}
use Rattle.anb_stage_commands.proofs.Carried.{went_through}
use Rattle.anb_stage_commands.proofs.into.carried.Goals as goal

pub returns-clause-went : goal.returns-clause-went
returns-clause-went g c =
    let t = c.in-Ok.ensures.told in
    went_through c.args.words.limit (scene_of c.args.words.limit c.args.scene.now) (g.P.Spawner.child c.args.spawner.now) (g.P.Spawner.child c.relayed.new.spawner) c.args.log.now.files.now _ (g.J.Store.state c.args.log.now.journal.now) _ _
    c.args.log.now.lack _ _ t.0 _ t.3.1 t.2 t.3.2 (sym (length-map c.messages.result.now action_value) ∙ ap length c.messages.ensures.actions) c.end.ensures.goes
