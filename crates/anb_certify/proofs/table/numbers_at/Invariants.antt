use Rattle.std.proofs.Common.{◌≡◌, take}
use Rattle.anb_term.specs.Lawful.{picked}
use Rattle.anb_certify.proofs.table.numbers_at.Given as goal

abbrev pub invariant-loop-r : goal.invariant-loop-r
invariant-loop-r l = l.numbers.items ≡ picked l.ids (take l.r-index l.at)
