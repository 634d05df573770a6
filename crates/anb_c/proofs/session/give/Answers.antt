use Rattle.std.proofs.Common.{◌∷◌, [], ◌∙◌, ℕ, List, Option, sym, subst}
use Rattle.anb_lemmas.proofs.Results.{on_ok_map}
use Rattle.anb_park.specs.Lives.{Stands}
use Rattle.anb_park.specs.Records.{after}
use Rattle.anb_c.specs.Sessions.{with_pending}
use Rattle.anb_c.proofs.Turning.{on_err_with, stands_in}
use Rattle.anb_c.proofs.session.give.Goals as goal

pub returns-clause-given : goal.returns-clause-given
returns-clause-given c =
    let none = c.requires.waits.0 in
    on_ok_map c.arrive-taken.result.0
    (λ stands code p sent at. subst (λ (o : Option (List ℕ)). Stands code (after p (c.args.bytes ∷ [])) (with_pending sent o) c.arrive-taken.result.1) (sym none)
    (stands code p sent (stands_in code p sent c.args.session.now c.in-Some.live (sym c.take.ensures.value ∙ c.in-Some.is) none at)))
    c.arrive-taken.ensures.stands

pub returns-clause-failed : goal.returns-clause-failed
returns-clause-failed c = on_err_with c.arrive-taken.result.0 _ c.requires.waits.0 c.arrive-taken.ensures.failed
