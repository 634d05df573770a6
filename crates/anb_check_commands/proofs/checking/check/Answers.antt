use Rattle.std.proofs.Common.{[], ◌∷◌}
use Rattle.anb_base.specs.declared.place.Place.TheVariants.{Stdio}
use Rattle.anb_command.proofs.Causes.{only_memory, wire_cause}
use Rattle.anb_check_commands.proofs.Checked.{completes_check, does_told}
use Rattle.anb_check_commands.proofs.checking.check.Goals as goal

pub returns-in-Ok-verdict_on-clause-does : goal.returns-in-Ok-verdict_on-clause-does
returns-in-Ok-verdict_on-clause-does g c =
    does_told c.narrations_are_unique.ensures c.refusals_are_unique.ensures c.none_is_both.ensures c.choices_are_unique.ensures c.branch_refusals_are_unique.ensures c.arm_texts_are_unique.ensures.texts c.arm_texts_are_unique.ensures.untold c.args.narration.now (g.F.Shelf.files c.args.shelf.now)
    (g.W.Wire.state c.args.wire.now).written (g.W.Wire.state c.tell_verdict.new.wire).written c.in-Ok.text c.in-Ok-verdict_on.verdict.status c.in-Ok-verdict_on.verdict.said c.tell_verdict.result
    c.in-Ok.ensures.file (rw c.as_slice.ensures at c.in-Ok-verdict_on.ensures.is) c.in-Ok-verdict_on.ensures.last c.tell_verdict.ensures.tells

pub returns-in-Ok-verdict_on-clause-faults : goal.returns-in-Ok-verdict_on-clause-faults
returns-in-Ok-verdict_on-clause-faults g c =
    wire_cause (c.args.narration.now ∷ []) Stdio (g.F.Shelf.faults c.args.shelf.now) (g.F.Shelf.faults c.fetch_file.new.shelf) (g.W.Wire.state c.args.wire.now) (g.W.Wire.state c.tell_verdict.new.wire) c.tell_verdict.result c.tell_verdict.ensures.cause

pub returns-in-Ok-verdict_on-clause-completes : goal.returns-in-Ok-verdict_on-clause-completes
returns-in-Ok-verdict_on-clause-completes g c = λ none.
    completes_check c.narrations_are_unique.ensures c.refusals_are_unique.ensures c.none_is_both.ensures c.choices_are_unique.ensures c.branch_refusals_are_unique.ensures c.arm_texts_are_unique.ensures.texts c.arm_texts_are_unique.ensures.untold c.args.narration.now (g.F.Shelf.files c.args.shelf.now)
    (g.W.Wire.state c.args.wire.now).written (g.W.Wire.state c.tell_verdict.new.wire).written c.tell_verdict.result (returns-in-Ok-verdict_on-clause-does g c)
    (only_memory (c.args.narration.now ∷ []) Stdio (g.F.Shelf.faults c.args.shelf.now) (g.F.Shelf.faults c.fetch_file.new.shelf) (g.W.Wire.state c.args.wire.now) (g.W.Wire.state c.tell_verdict.new.wire) none c.tell_verdict.result
    (returns-in-Ok-verdict_on-clause-faults g c))
