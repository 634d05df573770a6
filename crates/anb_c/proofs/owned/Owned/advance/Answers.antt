use Rattle.std.proofs.Common.{◌∙◌, sym, subst}
use Rattle.anb_machine.specs.Machines.{Turned}
use Rattle.anb_park.specs.Lives.{LiveValue, Stands, sent_after}
use Rattle.anb_c.proofs.Owning.{still_again, still_rest, still_is}
use Rattle.anb_c.proofs.owned.Owned.advance.Goals as goal

pub invariant_of-result : goal.invariant_of-result
invariant_of-result c =
    still_rest c.self.inside.code c.self.inside.rest c.over-live.result c.advance-turn.new.self c.over-live.ensures.same c.advance-turn.ensures.code c.of-rest.result c.of-rest.ensures.rest

pub returns-clause-turned : goal.returns-clause-turned
returns-clause-turned c =
    let is = still_is c.self.inside.code c.self.inside.rest c.over-live.result c.advance-turn.new.self c.over-live.ensures.same c.advance-turn.ensures.code c.of-rest.result c.of-rest.ensures.same in
    let turn = c.advance-turn.result in
    subst (λ (v : LiveValue). Turned c.args.self.machine v.machine turn) (sym is)
    (subst (λ (v : LiveValue). Turned v.machine c.advance-turn.new.self.machine turn) (c.over-live.ensures.same ∙ c.self.view_is) c.advance-turn.ensures.turned)

pub returns-clause-stands : goal.returns-clause-stands
returns-clause-stands c = λ code p sent some s.
    let is = still_is c.self.inside.code c.self.inside.rest c.over-live.result c.advance-turn.new.self c.over-live.ensures.same c.advance-turn.ensures.code c.of-rest.result c.of-rest.ensures.same in
    subst (Stands code p (sent_after sent c.advance-turn.result)) (sym is)
    (c.advance-turn.ensures.stands code p sent some (subst (Stands code p sent) (sym (c.over-live.ensures.same ∙ c.self.view_is)) s))

pub returns-clause-again : goal.returns-clause-again
returns-clause-again c =
    let is = still_is c.self.inside.code c.self.inside.rest c.over-live.result c.advance-turn.new.self c.over-live.ensures.same c.advance-turn.ensures.code c.of-rest.result c.of-rest.ensures.same in
    still_again c.args.self c.over-live.result c.advance-turn.new.self _ c.advance-turn.result (c.over-live.ensures.same ∙ c.self.view_is) is c.advance-turn.ensures.again
