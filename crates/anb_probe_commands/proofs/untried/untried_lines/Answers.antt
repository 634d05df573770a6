use Rattle.std.proofs.Common.{map}
use Rattle.std.specs.List.{flat_map}
use Rattle.anb_probe_commands.specs.Cases.{gap_line, lack_lines, lack_of, more_lines}
use Rattle.anb_probe_commands.proofs.Listing.{untried_joined}
use Rattle.anb_probe_commands.proofs.untried.untried_lines.Goals as goal

pub returns : goal.returns
returns c =
    let p = c.args.p.now in
    let suite = c.args.suite.now in
    untried_joined (map (gap_line p c.args.role) suite.gaps.items) (more_lines suite.more) (flat_map (lack_lines p c.args.role (map lack_of c.args.partners.now)) suite.attempts.items)
    c.new-lines.result.items c.put_gaps.new.lines.items c.put_more.new.lines.items c.put_lacks.new.lines.items
    c.new-lines.ensures.items (rw c.deref.ensures.value at c.in_ok-put_gaps.ensures) c.in_ok-put_more.ensures (rw c.deref-2.ensures.value at c.in_ok-put_lacks.ensures)
