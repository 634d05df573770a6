use Rattle.std.proofs.Common.{◌≢◌, List, ℕ}
use Rattle.std.specs.Prelude.{AllPairs}
use Rattle.anb_code.specs.Taking.{take_texts}
use Rattle.anb_command.proofs.Preparing.{if_ok_items}
use Rattle.anb_command.proofs.Taking.{takes_differ}
use Rattle.anb_c.proofs.opening.texts_of_takes.Goals as goal

pub returns-clause-differ : goal.returns-clause-differ
returns-clause-differ c =
    if_ok_items c.copy_takes.result (λ names. names.items) (take_texts c.args.code.now.instrs) (λ names. AllPairs (λ (one other : List ℕ). one ≢ other) names)
    c.copy_takes.ensures (takes_differ c.args.code.now c.instrs.ensures.verified)
