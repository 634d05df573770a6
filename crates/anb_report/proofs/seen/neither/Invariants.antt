use Rattle.std.proofs.Common.{◌≡◌, ◌-◌, ◌++◌, get_or, true}
use Rattle.std.specs.Prelude.{◌&&◌, filter, not}
use Rattle.std.specs.List.{range_with_len}
use Rattle.anb_report.proofs.seen.neither.Given as goal

abbrev pub invariant-loop-r : goal.invariant-loop-r
invariant-loop-r l =
    l.out.items ++ filter (λ r. get_or l.first r true && (not (get_or l.second r true) && not (get_or l.third r true))) (range_with_len l.r (l.count - l.r))
    ≡ filter (λ r. get_or l.first r true && (not (get_or l.second r true) && not (get_or l.third r true))) (range_with_len 0 l.count)
