use Rattle.std.proofs.Common.{sym}
use Rattle.std.specs.Prelude.{not}
use Rattle.anb_trace.specs.Misfits.{is_lower_digit}
use Rattle.anb_trace.proofs.Lengths.{place_none}
use Rattle.anb_trace.proofs.fronts.count_lower_digits.Goals as goal

pub returns-in-None-clause-count : goal.returns-in-None-clause-count
returns-in-None-clause-count c = place_none (λ b. not (is_lower_digit b)) c.args.bytes.now (sym c.in-None.ensures)
