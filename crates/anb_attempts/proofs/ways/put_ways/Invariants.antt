use Rattle.std.proofs.Common.{◌≡◌, ◌++◌, map, take}
use Rattle.std.specs.Prelude.{filter}
use Rattle.anb_spoil.specs.declared.wrongs.Wrong.TheVariants.{Spoilt}
use Rattle.anb_attempts.specs.Attempts.{is_tried}
use Rattle.anb_attempts.proofs.ways.put_ways.Given as goal

abbrev pub invariant-loop-row : goal.invariant-loop-row
invariant-loop-row l = l.ways.items ≡ l.initial.ways.items ++ map (Spoilt l.place) (filter (is_tried l.all l.format.pieces) (take l.row-index l.rows))
