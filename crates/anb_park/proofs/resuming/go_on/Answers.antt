use Rattle.std.proofs.Common.{subst}
use Rattle.anb_park.specs.Records.{count_takes, IsWaiting, RefusesBody}
use Rattle.anb_park.proofs.resuming.go_on.Goals as goal

pub returns-in-Err-clause-refused : goal.returns-in-Err-clause-refused
returns-in-Err-clause-refused c = subst (λ m. RefusesBody (count_takes c.args.code.now) (IsWaiting c.args.code.now) c.args.id.now m c.in-Err.no) c.deref.ensures.value c.in-Err.ensures.refused
