use Rattle.std.proofs.Common.{refl, inl}
use Rattle.anb_command.proofs.Chains.{told_map}
use Rattle.anb_command.proofs.Failing.{IsFailure-map}
use Rattle.anb_command.proofs.files.protocol_in_file.Goals as goal

pub returns-in-Err-clause-refused : goal.returns-in-Err-clause-refused
returns-in-Err-clause-refused g c =
    IsFailure-map c.in-Err.status _ _ _ _ (λ file cause. cause)
    (λ is. told_map (g.F.Shelf.files c.args.shelf.now) (λ files f. inl (c.in-Err.status, f, refl)) is) c.in-Err.ensures.refused
