use Rattle.std.proofs.Common.{◌≡◌, drop}
use Rattle.anb_close.specs.Standings.{all_stand}
use Rattle.anb_close.proofs.index.all_stand.Given as goal

abbrev pub invariant-loop-id : goal.invariant-loop-id
invariant-loop-id l = all_stand l.standings l.ids ≡ all_stand l.standings (drop l.id-index l.ids)
