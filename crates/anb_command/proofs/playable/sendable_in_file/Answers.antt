use Rattle.std.proofs.Common.{refl, inl, inr}
use Rattle.anb_command.proofs.Chains.{told_map}
use Rattle.anb_command.proofs.Failing.{IsFailure-map}
use Rattle.anb_command.proofs.playable.sendable_in_file.Goals as goal

pub returns-in-Ok-codes_of-clause-given : goal.returns-in-Ok-codes_of-clause-given
returns-in-Ok-codes_of-clause-given g c =
    told_map (g.F.Shelf.files c.args.shelf.now) (λ files f. inr (c.in-Ok.protocol, f, inr (tt, c.in-Ok-codes_of.ensures.given, refl))) c.in-Ok.ensures.given

pub returns-in-Err-codes_of-clause-refused : goal.returns-in-Err-codes_of-clause-refused
returns-in-Err-codes_of-clause-refused g c =
    IsFailure-map c.in-Err-codes_of.status _ _ _ _ (λ file never. absurd never)
    (λ is. told_map (g.F.Shelf.files c.args.shelf.now) (λ files f. inr (c.in-Ok.protocol, f, inl (c.in-Err-codes_of.status, is, refl))) c.in-Ok.ensures.given) c.in-Err-codes_of.ensures.refused

pub returns-in-Err-clause-refused : goal.returns-in-Err-clause-refused
returns-in-Err-clause-refused g c =
    IsFailure-map c.in-Err.status _ _ _ _ (λ file cause. cause)
    (λ is. told_map (g.F.Shelf.files c.args.shelf.now) (λ files f. inl (c.in-Err.status, f, refl)) is) c.in-Err.ensures.refused
