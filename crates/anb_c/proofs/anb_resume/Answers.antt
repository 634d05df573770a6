use Rattle.std.proofs.Common.{Option, refl, sym, subst, inr}
use Rattle.anb_c.specs.Opening.{RefusesResuming, Resumes}
use Rattle.anb_c.specs.declared.opening.OpenNo.TheVariants.{Misused}
use Rattle.anb_c.specs.declared.session.Session.{Session}
use Rattle.anb_c.proofs.Begun.{kept, none_held, some_held, told}
use Rattle.anb_c.proofs.anb_resume.Goals as goal

pub returns-then-handle : goal.returns-then-handle
returns-then-handle c =
    let handle = c.args.handle.now in
    inr (Misused, refl, some_held handle.held.session handle.live handle.tied c.if-handle.true, refl)

pub returns-in-Ok : goal.returns-in-Ok
returns-in-Ok c =
    let handle = c.args.handle.now in
    kept (Resumes c.args.role.now c.args.key.now c.args.sealed.now) (RefusesResuming c.args.role.now c.args.key.now c.args.sealed.now handle.held.session) handle.held.session c.keep.new.handle.held.session
    c.in-Ok.session c.keep.result (none_held handle.held.session handle.live handle.tied c.if-handle.false) c.in-Ok.ensures.resumed tt c.keep.ensures

pub returns-in-Err : goal.returns-in-Err
returns-in-Err c =
    let handle = c.args.handle.now in
    let none = none_held handle.held.session handle.live handle.tied c.if-handle.false in
    inr (c.in-Err.why, told c.in-Err.why c.status_of.result c.status_of.ensures, subst (λ (held : Option Session). RefusesResuming c.args.role.now c.args.key.now c.args.sealed.now held c.in-Err.why) (sym none) c.in-Err.ensures.refused, refl)
