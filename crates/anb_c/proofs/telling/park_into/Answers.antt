use Rattle.std.proofs.Common.{ℕ, List, Some, ap, inl, inr, length, refl, sym, ◌∙◌, subst}
use Rattle.anb_park.specs.Records.{Accepts, IsWaiting, count_takes}
use Rattle.anb_c.specs.Sessions.{IsAt}
use Rattle.anb_c.specs.declared.session.Session.{Session}
use Rattle.anb_c.proofs.telling.park_into.Goals as goal

pub returns-then-copy_out-clause-parks : goal.returns-then-copy_out-clause-parks
returns-then-copy_out-clause-parks c = λ code p sent at.
    let w = c.in-Waits.ensures.stands code p sent at in
    let is = c.in-Ok.ensures.record code p sent w.0 in
    inl (
      refl,
      (c.copy_out.ensures.copied c.if-copy_out.true).1,
      (c.copy_out.ensures.copied c.if-copy_out.true).0 ∙ c.as_slice.ensures ∙ is,
      subst (λ (r : List ℕ). Accepts (count_takes code) (IsWaiting code) p.id c.args.key.now r p) is (c.in-Ok.ensures.accepted code p w.2),
      subst (λ (s : Session). IsAt code p sent (Some s)) (sym c.record.ensures.same) w.0,
    )

pub returns-clause-parks : goal.returns-clause-parks
returns-clause-parks c = λ code p sent at.
    let w = c.in-Waits.ensures.stands code p sent at in
    let is = c.in-Ok.ensures.record code p sent w.0 in
    let short = c.copy_out.ensures.short c.if-copy_out.false in
    inr (inl (refl, short.0, short.1, c.copy_out.ensures.written ∙ ap length (c.as_slice.ensures ∙ is), subst (λ (s : Session). IsAt code p sent (Some s)) (sym c.record.ensures.same) w.0))

pub returns-in-Elsewhere-clause-parks : goal.returns-in-Elsewhere-clause-parks
returns-in-Elsewhere-clause-parks c = λ code p sent at.
    let w = c.in-Elsewhere.ensures.stands code p sent at in
    inr (inr (inl (refl, w.0, w.1)))
