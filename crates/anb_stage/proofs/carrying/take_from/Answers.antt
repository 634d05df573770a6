use Rattle.std.proofs.Common.{arith, length, rules, subst, sym, ℕ}
use Rattle.anb_frame.specs.Cuts.{CutLeft}
use Rattle.anb_stage.specs.Sides.{without_output}
use Rattle.anb_stage.proofs.Beside.{begins_by_read, kept_by_read, others_stay, stamped_by_read}
use Rattle.anb_stage.proofs.carrying.take_from.Goals as goal

pub returns-clause-kept : goal.returns-clause-kept
returns-clause-kept g c =
    let new = c.take-taken.new.src in
    kept_by_read g.P.Spawner.child _ new.spawner.ghost_name c.args.role new.role c.args.spawner.now new.spawner.now _ c.requires.within c.take-taken.ensures.kept (search rules)

pub returns-clause-others : goal.returns-clause-others
returns-clause-others g c =
    let new = c.take-taken.new.src in
    others_stay g.P.Spawner.child without_output _ _ _ new.spawner.ghost_name c.args.role new.role c.args.spawner.now new.spawner.now _ c.take-taken.ensures.kept (search rules)

pub returns-clause-stamped : goal.returns-clause-stamped
returns-clause-stamped g c =
    let new = c.take-taken.new.src in
    stamped_by_read g.P.Spawner.child _ new.spawner.ghost_name c.args.role new.role c.args.spawner.now new.spawner.now _ c.take-taken.ensures.kept (search rules)
    (length c.args.buffer.now) _ c.take-taken.result c.take-taken.ensures.takes

pub returns-clause-begins : goal.returns-clause-begins
returns-clause-begins g c = λ bs tail cut.
    let new = c.take-taken.new.src in
    let cut_here = subst (λ (n : ℕ). CutLeft n (g.P.Spawner.child c.args.spawner.now c.args.role).left bs tail) (sym c.requires.buffer) cut in
    begins_by_read g.P.Spawner.child _ new.spawner.ghost_name c.args.role new.role c.args.spawner.now new.spawner.now _ c.take-taken.ensures.kept (search rules)
    (length c.args.buffer.now) _ c.take-taken.result c.take-taken.ensures.takes (omega (arith, c.requires.buffer)) bs tail cut_here (c.take-taken.ensures.follows bs tail cut_here)
