use Rattle.std.proofs.Common.{◌≡◌, ◌∙◌, ◌∷◌, [], OnErr, Some, sym, subst}
use Rattle.anb_lemmas.proofs.Results.{on_ok_map}
use Rattle.anb_machine.specs.Machines.{answer}
use Rattle.anb_machine.specs.declared.turn.Turn.TheVariants.{NoMemory}
use Rattle.anb_park.specs.Lives.{LiveValue, Stands}
use Rattle.anb_park.specs.Records.{after}
use Rattle.anb_c.proofs.Owning.{still_rest, still_is}
use Rattle.anb_c.proofs.owned.Owned.arrive.Goals as goal

pub invariant_of-result : goal.invariant_of-result
invariant_of-result c =
    still_rest c.self.inside.code c.self.inside.rest c.over-live.result c.arrive-taken.new.self c.over-live.ensures.same c.arrive-taken.ensures.code c.of-rest.result c.of-rest.ensures.rest

pub returns-clause-stands : goal.returns-clause-stands
returns-clause-stands c =
    let is = still_is c.self.inside.code c.self.inside.rest c.over-live.result c.arrive-taken.new.self c.over-live.ensures.same c.arrive-taken.ensures.code c.of-rest.result c.of-rest.ensures.same in
    on_ok_map c.arrive-taken.result (λ stands code p sent s.
    subst (Stands code (after p (c.args.bytes ∷ [])) sent) (sym is) (stands code p sent (subst (Stands code p sent) (sym (c.over-live.ensures.same ∙ c.self.view_is)) s)))
    c.arrive-taken.ensures.stands

pub returns-clause-failed : goal.returns-clause-failed
returns-clause-failed c =
    let is = still_is c.self.inside.code c.self.inside.rest c.over-live.result c.arrive-taken.new.self c.over-live.ensures.same c.arrive-taken.ensures.code c.of-rest.result c.of-rest.ensures.same in
    subst (λ (v : LiveValue). OnErr c.arrive-taken.result (answer v.machine ≡ Some NoMemory)) (sym is) c.arrive-taken.ensures.failed
