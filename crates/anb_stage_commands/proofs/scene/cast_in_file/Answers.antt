use Rattle.std.proofs.Common.{refl, inl, inr}
use Rattle.anb_command.proofs.Chains.{told_map}
use Rattle.anb_command.proofs.Failing.{IsFailure-map}
use Rattle.anb_stage_commands.proofs.scene.cast_in_file.Goals as goal

pub returns-in-Ok-check_cast-clause-given : goal.returns-in-Ok-check_cast-clause-given
returns-in-Ok-check_cast-clause-given g c =
    told_map (g.F.Shelf.files c.args.shelf.now) (λ files f. inr (c.in-Ok.protocol, f, c.in-Ok-check_cast.ensures.given)) c.in-Ok.ensures.given

pub returns-in-Err-check_cast-clause-refused : goal.returns-in-Err-check_cast-clause-refused
returns-in-Err-check_cast-clause-refused g c =
    IsFailure-map c.in-Err-check_cast.status _ _ _ _ (λ file never. absurd never)
    (λ is. told_map (g.F.Shelf.files c.args.shelf.now) (λ files f. inr (c.in-Ok.protocol, f, is)) c.in-Ok.ensures.given) c.in-Err-check_cast.ensures.refused

pub returns-in-Err-clause-refused : goal.returns-in-Err-clause-refused
returns-in-Err-clause-refused g c =
    IsFailure-map c.in-Err.status _ _ _ _ (λ file cause. cause)
    (λ is. told_map (g.F.Shelf.files c.args.shelf.now) (λ files f. inl (c.in-Err.status, f, refl)) is) c.in-Err.ensures.refused
