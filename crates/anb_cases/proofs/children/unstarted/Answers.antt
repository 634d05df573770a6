use Rattle.anb_cases.proofs.Unstarted.{none_runs}
use Rattle.anb_cases.proofs.children.unstarted.Goals as goal

pub returns : goal.returns
returns c = none_runs c.args.wires.items c.args.ends.items c.new.result c.new.ensures.fresh
