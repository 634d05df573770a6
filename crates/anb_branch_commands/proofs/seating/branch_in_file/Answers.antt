use Rattle.std.proofs.Common.{inr}
use Rattle.anb_command.proofs.Chains.{told_map}
use Rattle.anb_command.proofs.Failing.{IsFailure-map}
use Rattle.anb_command.proofs.Preparing.{if_err_map}
use Rattle.anb_branch_commands.proofs.seating.branch_in_file.Goals as goal

pub returns-in-Ok-clause-refused : goal.returns-in-Ok-clause-refused
returns-in-Ok-clause-refused g c =
    if_err_map c.branch_of_text.result _ _ (λ s fails. IsFailure-map s _ _ _ _ (λ file never. absurd never)
    (λ is. told_map (g.F.Shelf.files c.args.shelf.now) (λ files f. inr (c.in-Ok.text, f, is)) c.in-Ok.ensures.file) fails)
    (rw c.as_slice.ensures at c.branch_of_text.ensures.refused)
