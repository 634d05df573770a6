use Rattle.std.proofs.Common.{refl, inl, inr}
use Rattle.anb_lemmas.proofs.Results.{if_ok_map}
use Rattle.anb_command.proofs.Chains.{told_map}
use Rattle.anb_command.proofs.Failing.{IsFailure-map}
use Rattle.anb_command.proofs.Preparing.{if_err_map}
use Rattle.anb_command.proofs.playable.playable_in_file.Goals as goal

pub returns-in-Ok-clause-given : goal.returns-in-Ok-clause-given
returns-in-Ok-clause-given g c =
    if_ok_map c.playable_of.result _ _ (λ p is. told_map (g.F.Shelf.files c.args.shelf.now) (λ files f. inr (c.in-Ok.protocol, f, is)) c.in-Ok.ensures.given) c.playable_of.ensures.given

pub returns-in-Ok-clause-refused : goal.returns-in-Ok-clause-refused
returns-in-Ok-clause-refused g c =
    if_err_map c.playable_of.result _ _ (λ s fails. IsFailure-map s _ _ _ _ (λ file never. absurd never)
    (λ is. told_map (g.F.Shelf.files c.args.shelf.now) (λ files f. inr (c.in-Ok.protocol, f, is)) c.in-Ok.ensures.given) fails) c.playable_of.ensures.refused

pub returns-in-Err-clause-refused : goal.returns-in-Err-clause-refused
returns-in-Err-clause-refused g c =
    IsFailure-map c.in-Err.status _ _ _ _ (λ file cause. cause)
    (λ is. told_map (g.F.Shelf.files c.args.shelf.now) (λ files f. inl (c.in-Err.status, f, refl)) is) c.in-Err.ensures.refused
