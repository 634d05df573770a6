use Rattle.std.proofs.Common.{ℕ, List, ◌∷◌, sym, ap, ◌∙◌}
use Rattle.anb_machine.specs.Machines.{gives}
use Rattle.anb_honest.proofs.Acting.{hears_not}
use Rattle.anb_honest.proofs.player.Player.hear.Goals as goal

pub unreachable-requires : goal.unreachable-requires
unreachable-requires c = hears_not c.args.self.now.machine c.advance.new.self c.advance.result c.advance.ensures.turned c.requires.hears c.in-Message.is

pub returns-in-Ok-clause-heard : goal.returns-in-Ok-clause-heard
returns-in-Ok-clause-heard c = λ arrivals.
    c.in-Wants.ensures.turned.0 (c.args.message.now ∷ arrivals) ∙ ap (λ (b : List ℕ). gives c.advance.new.self (b ∷ arrivals)) (sym c.in-Ok.ensures) ∙ c.arrive.ensures.gives arrivals
