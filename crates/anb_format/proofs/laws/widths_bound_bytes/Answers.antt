use Rattle.anb_format.proofs.Narrow.{built_narrow, parts_narrow}
use Rattle.anb_format.proofs.laws.widths_bound_bytes.Goals as goal

pub returns-clause-built : goal.returns-clause-built
returns-clause-built c = built_narrow

pub returns-clause-parts : goal.returns-clause-parts
returns-clause-parts c = parts_narrow
