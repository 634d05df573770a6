use Rattle.std.proofs.Common.{[], ◌∷◌, ◌++◌, subst, sym}
use Rattle.anb_host.specs.Hosts.{StandsFor}
use Rattle.anb_host.proofs.Standing.{on_ok_map}
use Rattle.anb_host.proofs.host.Host.event.Goals as goal

pub returns-clause-stands : goal.returns-clause-stands
returns-clause-stands c =
    on_ok_map c.answer-told.result c.answer-told.ensures.stands (λ stands. λ past st. subst (λ v. StandsFor v (past ++ c.args.event ∷ [])) (sym c.self-2.view_is) (stands past st))
