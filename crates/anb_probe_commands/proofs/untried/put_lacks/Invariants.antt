use Rattle.std.proofs.Common.{◌≡◌, map, drop}
use Rattle.std.specs.List.{flat_map}
use Rattle.anb_probe_commands.specs.Cases.{joined_once, lack_lines, lack_of}
use Rattle.anb_probe_commands.proofs.untried.put_lacks.Given as goal

abbrev pub invariant-loop-attempt : goal.invariant-loop-attempt
invariant-loop-attempt l =
    joined_once l.lines.items (flat_map (lack_lines l.p l.role (map lack_of l.partners)) (drop l.attempt-index l.attempts))
    ≡ joined_once l.initial.lines.items (flat_map (lack_lines l.p l.role (map lack_of l.partners)) l.attempts)
