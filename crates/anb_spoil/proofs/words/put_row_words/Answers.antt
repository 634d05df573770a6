use Rattle.std.proofs.Common.{rules, arith}
use Rattle.std.proofs.lemmas.Grind.{common_steps}
use Rattle.anb_spoil.proofs.words.put_row_words.Goals as goal

pub returns-in_ok-extend_from_slice-in-Behind : goal.returns-in_ok-extend_from_slice-in-Behind
returns-in_ok-extend_from_slice-in-Behind c = rw c.in-Behind.is (first_of (search rules, grind (arith, common_steps)))
