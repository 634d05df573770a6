use Rattle.std.proofs.Common.{sym, ◌∙◌, subst}
use Rattle.anb_close.specs.Entries.{HasAdded}
use Rattle.anb_close.proofs.Keeping.{kept_back, taken_back}
use Rattle.anb_close.proofs.closure.Closure.take_back.Goals as goal

pub invariant_of-self : goal.invariant_of-self
invariant_of-self c = (kept_back _ _ _ _ _ _ c.last_label-at.result c.self.invariant.0 c.last_label-at.ensures c.cut.ensures.entries c.cut.ensures.firsts c.cut.ensures.doubles, c.cut.ensures.indexed)

pub returns-clause-undoes : goal.returns-clause-undoes
returns-clause-undoes c es t added =
    c.cut.ensures.entries ∙ taken_back es c.self.inside.growth.entries.items t c.last_label-at.result (subst (HasAdded es t) (sym c.self.view_is) added) c.last_label-at.ensures
