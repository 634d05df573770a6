use Rattle.std.proofs.Common.{◌≡◌, List, ℕ, length, rules, subst, take}
use Rattle.anb_base.specs.Moves.{Stamped}
use Rattle.anb_frame.specs.Frames.{frame}
use Rattle.anb_stage.specs.Children.{written_to_all}
use Rattle.anb_stage.proofs.Begun.{on_frame}
use Rattle.anb_stage.proofs.carrying.receive.Goals as goal

pub returns-in-Ok-clause-stamped : goal.returns-in-Ok-clause-stamped
returns-in-Ok-clause-stamped g c =
    let same : take c.in-Ok-Frame.n c.take_from.new.buffer ≡ c.new.result = search rules in
    let at : List ℕ → Type 0 = λ bytes. Stamped (g.P.Spawner.child c.args.spawner.now c.args.role).taken_at (g.P.Spawner.child c.take_from.new.spawner c.args.role).taken_at
    (written_to_all (g.P.Spawner.child c.args.spawner.now)) (length (frame bytes)) in
    subst at same (on_frame c.take_from.new.buffer c.in-Ok-Frame.field-0 c.in-Ok-Frame.n at c.in-Ok-Frame.field-0-is c.in-Ok-Frame.ensures.stamped)
