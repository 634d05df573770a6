use Rattle.std.proofs.Common.{refl, inl, inr}
use Rattle.anb_lemmas.proofs.Results.{if_ok_map}
use Rattle.anb_command.proofs.Chains.{told_map}
use Rattle.anb_command.proofs.Failing.{IsFailure-map}
use Rattle.anb_command.proofs.Preparing.{if_err_map}
use Rattle.anb_chart_commands.proofs.telling.told_in_file.Goals as goal

pub returns-in-Ok-clause-given : goal.returns-in-Ok-clause-given
returns-in-Ok-clause-given g c =
    if_ok_map c.told_by_text.result _ _ (λ t is. told_map (g.F.Shelf.files c.args.shelf.now) (λ files f. inr (c.in-Ok.text, f, is)) c.in-Ok.ensures.file)
    (rw c.as_slice.ensures at c.told_by_text.ensures.given)

pub returns-in-Ok-clause-refused : goal.returns-in-Ok-clause-refused
returns-in-Ok-clause-refused g c =
    if_err_map c.told_by_text.result _ _ (λ s fails. IsFailure-map s _ _ _ _ (λ file never. absurd never)
    (λ is. told_map (g.F.Shelf.files c.args.shelf.now) (λ files f. inr (c.in-Ok.text, f, is)) c.in-Ok.ensures.file) fails)
    (rw c.as_slice.ensures at c.told_by_text.ensures.refused)

pub returns-in-Err-clause-refused : goal.returns-in-Err-clause-refused
returns-in-Err-clause-refused g c =
    IsFailure-map c.in-Err.status _ _ _ _ (λ file cause. cause)
    (λ is. told_map (g.F.Shelf.files c.args.shelf.now) (λ files longer. inl (c.in-Err.status, (is.0, longer), refl)) is.1) c.in-Err.ensures.err
