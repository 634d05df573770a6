use Rattle.anb_command.proofs.Failing.{IsFailure-map}
use Rattle.anb_lemmas.proofs.Results.{if_ok_map}
use Rattle.anb_command.proofs.Preparing.{if_err_map}
use Rattle.anb_command.specs.Steps.{given, refused}
use Rattle.anb_syntax.specs.Views.{narration_of}
use Rattle.anb_park_commands.proofs.Chains.{identity_of, narration_refused, part_of}
use Rattle.anb_park_commands.proofs.owning.owner_in_file.Goals as goal

pub returns-in-Ok-clause-given : goal.returns-in-Ok-clause-given
returns-in-Ok-clause-given g c =
    if_ok_map c.owner_of.result _ _ (λ owner is.
    part_of (g.F.Shelf.files c.args.shelf.now) c.args.narration.now c.args.name.now (narration_of c.in-Ok.narration)
    (given (record { protocol = owner.playable.protocol; role = owner.playable.role })) is c.in-Ok.ensures.given) c.owner_of.ensures.given

pub returns-in-Ok-clause-identity : goal.returns-in-Ok-clause-identity
returns-in-Ok-clause-identity g c =
    if_ok_map c.owner_of.result _ _ (λ owner is.
    identity_of (g.F.Shelf.files c.args.shelf.now) c.args.narration.now c.args.name.now (narration_of c.in-Ok.narration) owner.id is c.in-Ok.ensures.given) c.owner_of.ensures.identity

pub returns-in-Ok-clause-refused : goal.returns-in-Ok-clause-refused
returns-in-Ok-clause-refused g c =
    if_err_map c.owner_of.result _ _ (λ s fails. IsFailure-map s _ _ _ _ (λ file never. absurd never)
    (λ is. part_of (g.F.Shelf.files c.args.shelf.now) c.args.narration.now c.args.name.now (narration_of c.in-Ok.narration) (refused s) is c.in-Ok.ensures.given) fails) c.owner_of.ensures.refused

pub returns-in-Err-clause-refused : goal.returns-in-Err-clause-refused
returns-in-Err-clause-refused g c =
    IsFailure-map c.in-Err.status _ _ _ _ (λ file at. at)
    (λ is. narration_refused (g.F.Shelf.files c.args.shelf.now) c.args.narration.now c.args.name.now c.in-Err.status is) c.in-Err.ensures.refused
