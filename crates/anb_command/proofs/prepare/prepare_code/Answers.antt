use Rattle.std.proofs.Common.{◌∙◌}
use Rattle.anb_command.proofs.Taking.{errand_given, seed_refused, values_refused}
use Rattle.anb_command.proofs.Failing.{IsFailure-map}
use Rattle.anb_command.proofs.prepare.prepare_code.Goals as goal

pub returns-in-Err-values_in_file-clause-refused : goal.returns-in-Err-values_in_file-clause-refused
returns-in-Err-values_in_file-clause-refused g c =
    let are = c.deref.ensures.value ∙ c.in-Ok.ensures.texts in
    IsFailure-map c.in-Err-values_in_file.status _ _ _ _ (λ file at. at)
    (λ is. values_refused (g.F.Shelf.files c.args.shelf.now) c.args.values.now c.args.host_seed c.args.code c.deref.result.now are c.in-Err-values_in_file.status is)
    c.in-Err-values_in_file.ensures.refused

pub returns-in-Err-seed_of-clause-refused : goal.returns-in-Err-seed_of-clause-refused
returns-in-Err-seed_of-clause-refused g c =
    let are = c.deref.ensures.value ∙ c.in-Ok.ensures.texts in
    IsFailure-map c.in-Err-seed_of.status _ _ _ _ (λ file never. absurd never)
    (λ is. seed_refused (g.F.Shelf.files c.args.shelf.now) c.args.values.now c.args.host_seed c.args.code c.deref.result.now are
    c.in-Ok-values_in_file.fitted c.in-Err-seed_of.status c.in-Ok-values_in_file.ensures.given (rw c.fresh.ensures at is))
    c.in-Err-seed_of.ensures.refused

pub returns-clause-given : goal.returns-clause-given
returns-clause-given g c =
    let are = c.deref.ensures.value ∙ c.in-Ok.ensures.texts in
    errand_given (g.F.Shelf.files c.args.shelf.now) c.args.values.now c.args.host_seed c.args.code c.deref.result.now are
    c.in-Ok-values_in_file.fitted c.in-Ok-seed_of.seed c.in-Ok-values_in_file.ensures.given (rw c.fresh.ensures at c.in-Ok-seed_of.ensures.given)
