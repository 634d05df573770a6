use Rattle.std.proofs.Common.{Option, refl, sym, subst, inl, inr}
use Rattle.anb_c.specs.Opening.{RefusesOpening, Opens}
use Rattle.anb_c.specs.declared.opening.OpenNo.TheVariants.{Misused}
use Rattle.anb_c.specs.declared.session.Session.{Session}
use Rattle.anb_c.proofs.Begun.{kept, none_held, some_held, told}
use Rattle.anb_c.proofs.anb_open.Goals as goal

pub returns-then-handle : goal.returns-then-handle
returns-then-handle c =
    let handle = c.args.handle.now in
    inr (Misused, refl, inl (some_held handle.held.session handle.live handle.tied c.if-handle.true), refl)

pub returns-in-Ok : goal.returns-in-Ok
returns-in-Ok c =
    let handle = c.args.handle.now in
    kept (Opens c.args.role.now c.args.values.now c.args.seed.now) (RefusesOpening c.args.role.now c.args.values.now c.args.seed.now handle.held.session) handle.held.session c.keep.new.handle.held.session
    c.in-Ok.session c.keep.result (none_held handle.held.session handle.live handle.tied c.if-handle.false) c.in-Ok.ensures.opened tt c.keep.ensures

pub returns-in-Err : goal.returns-in-Err
returns-in-Err c =
    let handle = c.args.handle.now in
    let none = none_held handle.held.session handle.live handle.tied c.if-handle.false in
    inr (c.in-Err.why, told c.in-Err.why c.status_of.result c.status_of.ensures, subst (λ (held : Option Session). RefusesOpening c.args.role.now c.args.values.now c.args.seed.now held c.in-Err.why) (sym none) c.in-Err.ensures.refused, refl)
