use Rattle.std.proofs.Common.{ℕ, List, [], ◌∷◌, subst}
use Rattle.anb_machine.specs.Machines.{gives}
use Rattle.anb_transcript.specs.declared.transcript.TranscriptLine.TheVariants.{In}
use Rattle.anb_partner.specs.Steps.{Reaches}
use Rattle.anb_partner.proofs.Reaching.{hears_line}
use Rattle.anb_partner.proofs.talking.hand.Goals as goal

pub returns : goal.returns
returns c =
    subst (λ (b : List ℕ). Reaches (gives c.args.machine.now) (gives c.arrive.new.self) (In b ∷ [])) c.in_ok-copy.ensures
    (hears_line (gives c.args.machine.now) (gives c.advance.new.self) (gives c.arrive.new.self) _ c.in_ok-copy.field-0 c.in-Wants.ensures.turned.0 c.in-Wants.ensures.turned.1 c.arrive.ensures.gives)
