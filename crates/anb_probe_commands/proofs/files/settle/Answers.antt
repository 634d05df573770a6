use Rattle.anb_command.proofs.Failing.{IsFailure-map}
use Rattle.anb_probe_commands.specs.Tasks.{part_by}
use Rattle.anb_probe_commands.proofs.Reading.{beginnings_refused, seed_refused, settled}
use Rattle.anb_probe_commands.proofs.files.settle.Goals as goal

pub returns-in-Err-clause-refused : goal.returns-in-Err-clause-refused
returns-in-Err-clause-refused c =
    let part = part_by c.args.playable.protocol c.args.playable.role in
    IsFailure-map c.in-Err.status _ _ _ _ (λ file never. never)
    (λ is. seed_refused part c.args.fitted c.args.host_seed c.has_fresh.result c.has_fresh.ensures c.in-Err.status is) c.in-Err.ensures.refused

pub returns-in-Ok-check_beginnings-clause-given : goal.returns-in-Ok-check_beginnings-clause-given
returns-in-Ok-check_beginnings-clause-given c =
    let part = part_by c.args.playable.protocol c.args.playable.role in
    settled part c.args.fitted c.args.host_seed c.has_fresh.result c.has_fresh.ensures c.in-Ok.seed c.in-Ok.ensures.given (rw c.as_slice.ensures at c.in-Ok-check_beginnings.ensures.given)

pub returns-in-Ok-check_beginnings-clause-ready : goal.returns-in-Ok-check_beginnings-clause-ready
returns-in-Ok-check_beginnings-clause-ready c = record {
  role = c.requires.role;
  fits = c.requires.fits;
  short = rw c.as_slice.ensures at c.in-Ok-check_beginnings.ensures.short;
}

pub returns-in-Err-check_beginnings-clause-refused : goal.returns-in-Err-check_beginnings-clause-refused
returns-in-Err-check_beginnings-clause-refused c =
    let part = part_by c.args.playable.protocol c.args.playable.role in
    IsFailure-map c.in-Err-check_beginnings.status _ _ _ _ (λ file never. never)
    (λ is. beginnings_refused part c.args.fitted c.args.host_seed c.has_fresh.result c.has_fresh.ensures c.in-Ok.seed c.in-Err-check_beginnings.status c.in-Ok.ensures.given is)
    (rw c.as_slice.ensures at c.in-Err-check_beginnings.ensures.refused)
