use Rattle.std.proofs.Common.{◌∷◌, ◌++◌, List, ℕ, sym, ap, ◌∙◌}
use Rattle.anb_frame.specs.Frames.{frame}
use Rattle.anb_machine.specs.Machines.{MachineValue, gives}
use Rattle.anb_park.specs.Inside.{live_of}
use Rattle.anb_park.proofs.Standing.{waits_sound, sound_machine, sound_body, stands_receiving}
use Rattle.anb_park.proofs.live.Live.arrive.Goals as goal

pub returns-in-Ok-clause-gives : goal.returns-in-Ok-clause-gives
returns-in-Ok-clause-gives c = λ xs.
    let sound = waits_sound c.self.inside c.args.self.now c.self.view_is c.requires.waits in
    rw sound (ap (λ (m : MachineValue). gives m (c.args.bytes ∷ xs)) (sym (sound_machine c.self.inside c.args.self.now c.self.view_is sound)) ∙ c.arrive.ensures.gives xs)

pub returns-in-Ok-clause-stands : goal.returns-in-Ok-clause-stands
returns-in-Ok-clause-stands c = λ code p sent s.
    stands_receiving code p sent c.args.self.now (live_of (record { machine = c.arrive.new.self; body = c.append_frame.new.body; failed = c.self.inside.failed })) c.args.bytes c.requires.short
    (returns-in-Ok-clause-gives c)
    (c.in-Ok.ensures ∙ ap (λ (t : List ℕ). t ++ frame c.as_slice.result.now) (sound_body c.self.inside c.args.self.now c.self.view_is) ∙ ap (λ (b : List ℕ). c.args.self.now.body ++ frame b) c.as_slice.ensures) s
