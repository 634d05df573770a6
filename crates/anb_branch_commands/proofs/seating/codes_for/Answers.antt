use Rattle.std.proofs.Common.{refl, sym, ◌∙◌, inl, inr}
use Rattle.anb_choice.specs.Views.{branched_of}
use Rattle.anb_branch_commands.proofs.Seats.{may_be_told}
use Rattle.anb_branch_commands.proofs.seating.codes_for.Goals as goal

pub returns-in-None-clause-given : goal.returns-in-None-clause-given
returns-in-None-clause-given c = inr (
  tt,
  sym c.has_role.ensures ∙ c.if-not-has_role.false,
  inr (
    tt,
    c.in-Ok.ensures.given,
    inr (tt, may_be_told (branched_of c.args.b.now) c.args.role.now c.args.told (sym c.misfit.ensures ∙ c.in-None.is), refl),
  ),
)

pub returns-in-Some-clause-refused : goal.returns-in-Some-clause-refused
returns-in-Some-clause-refused c = inr (
  tt,
  sym c.has_role.ensures ∙ c.if-not-has_role.false,
  inr (tt, c.in-Ok.ensures.given, inl (_, (c.in-Some.number, sym c.misfit.ensures ∙ c.in-Some.is, refl), refl)),
)
