use Rattle.std.proofs.Common.{ℕ, List, [], ◌∷◌, ◌++◌, false, true, refl, sym, ap, ◌∙◌, subst}
use Rattle.std.proofs.lemmas.List.{append-nil}
use Rattle.std.proofs.lemmas.List.Elements.{All-nil}
use Rattle.anb_plays.specs.Plays.{stopped, waiting, done, ends, SendsFirst}
use Rattle.anb_plays.proofs.Grows.{sends_saying, sends_on}
use Rattle.anb_machine.specs.Machines.{gives}
use Rattle.anb_host.specs.declared.event.Notice.{Notice}
use Rattle.anb_host.specs.declared.event.Notice.TheVariants.{Message, Stopped, Finished}
use Rattle.anb_host.specs.Hosts.{IsNarrow}
use Rattle.anb_host.proofs.Settling.{told_further, all_sent, over_so, told_all, narrow_further}
use Rattle.anb_host.proofs.session.settle.Goals as goal

pub turns-init : goal.turns-init
turns-init c = ([], c.new-told.ensures.items, rw c.new-told.ensures.items (All-nil IsNarrow), λ more. refl)

pub turns-preserved : goal.turns-preserved
turns-preserved c =
    let was = c.turns.invariant in
    let b = c.in-Message.message in (
      was.0 ++ b ∷ [],
      c.in_ok-push-in-Message.ensures.items ∙ told_further c.args.s c.turns.told.items was.0 b was.1,
      rw c.in_ok-push-in-Message.ensures.items (narrow_further c.turns.told.items (Message c.args.s b) was.2 (c.in-Message.ensures.narrow b refl)),
      λ more. sends_saying (gives c.args.machine more) (gives c.turns.machine more) (gives c.advance.new.self more) was.0 b (was.3 more) (c.in-Message.ensures.turned.0 more),
    )

pub returns-in-Wants-clause-told : goal.returns-in-Wants-clause-told
returns-in-Wants-clause-told c =
    let was = c.turns.invariant in
    let p = gives c.args.machine [] in
    let end = ends (waiting c.in-Wants.field-0) [] in
    let f : SendsFirst p was.0 end = sends_on p (gives c.turns.machine []) end was.0 (was.3 []) (c.in-Wants.ensures.turned.0 [] ∙ c.in-Wants.ensures.turned.1) in
    told_all c.args.s p was.0 (waiting c.in-Wants.field-0) f c.turns.told.items (was.1 ∙ sym (append-nil _))

pub returns-in-Wants-clause-settled : goal.returns-in-Wants-clause-settled
returns-in-Wants-clause-settled c =
    let was = c.turns.invariant in
    let p = gives c.args.machine [] in
    let end = ends (waiting c.in-Wants.field-0) [] in
    let f : SendsFirst p was.0 end = sends_on p (gives c.turns.machine []) end was.0 (was.3 []) (c.in-Wants.ensures.turned.0 [] ∙ c.in-Wants.ensures.turned.1) in (
      over_so c.args.s p was.0 (waiting c.in-Wants.field-0) f false refl,
      λ more.
          subst (λ (l : List (List ℕ)). SendsFirst (gives c.args.machine more) l (gives c.advance.new.self more)) (sym (all_sent c.args.s p was.0 (waiting c.in-Wants.field-0) f))
          (sends_on (gives c.args.machine more) (gives c.turns.machine more) (gives c.advance.new.self more) was.0 (was.3 more) (c.in-Wants.ensures.turned.0 more)),
    )

pub returns-in-Done-clause-told : goal.returns-in-Done-clause-told
returns-in-Done-clause-told c =
    let was = c.turns.invariant in
    let p = gives c.args.machine [] in
    let f : SendsFirst p was.0 (ends done []) = sends_on p (gives c.turns.machine []) (ends done []) was.0 (was.3 []) (c.in-Done.ensures.turned.1 []) in
    told_all c.args.s p was.0 done f c.push-in-Done.new.self.items (c.in_ok-push-in-Done.ensures.items ∙ ap (λ (l : List Notice). l ++ Finished c.args.s ∷ []) was.1)

pub returns-in-Done-clause-settled : goal.returns-in-Done-clause-settled
returns-in-Done-clause-settled c =
    let was = c.turns.invariant in
    let p = gives c.args.machine [] in
    let f : SendsFirst p was.0 (ends done []) = sends_on p (gives c.turns.machine []) (ends done []) was.0 (was.3 []) (c.in-Done.ensures.turned.1 []) in
    over_so c.args.s p was.0 done f true refl

pub returns-in-Stopped-clause-told : goal.returns-in-Stopped-clause-told
returns-in-Stopped-clause-told c =
    let was = c.turns.invariant in
    let p = gives c.args.machine [] in
    let x = stopped c.in-Stopped.halt.event c.in-Stopped.halt.at in
    let f : SendsFirst p was.0 (ends x []) = sends_on p (gives c.turns.machine []) (ends x []) was.0 (was.3 []) (c.in-Stopped.ensures.turned.1 []) in
    told_all c.args.s p was.0 x f c.push-in-Stopped.new.self.items (c.in_ok-push-in-Stopped.ensures.items ∙ ap (λ (l : List Notice). l ++ Stopped c.args.s c.in-Stopped.halt.event ∷ []) was.1)

pub returns-in-Stopped-clause-settled : goal.returns-in-Stopped-clause-settled
returns-in-Stopped-clause-settled c =
    let was = c.turns.invariant in
    let p = gives c.args.machine [] in
    let x = stopped c.in-Stopped.halt.event c.in-Stopped.halt.at in
    let f : SendsFirst p was.0 (ends x []) = sends_on p (gives c.turns.machine []) (ends x []) was.0 (was.3 []) (c.in-Stopped.ensures.turned.1 []) in
    over_so c.args.s p was.0 x f true refl

pub returns-in-Done-clause-narrow : goal.returns-in-Done-clause-narrow
returns-in-Done-clause-narrow c = rw c.in_ok-push-in-Done.ensures.items (narrow_further c.turns.told.items (Finished c.args.s) c.turns.invariant.2 tt)

pub returns-in-Stopped-clause-narrow : goal.returns-in-Stopped-clause-narrow
returns-in-Stopped-clause-narrow c = rw c.in_ok-push-in-Stopped.ensures.items (narrow_further c.turns.told.items (Stopped c.args.s c.in-Stopped.halt.event) c.turns.invariant.2 tt)
