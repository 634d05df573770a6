use Rattle.std.proofs.Common.{◌≡◌, true, false, rules, tests}
use Rattle.anb_index.specs.Places.{among}
use Rattle.anb_values.proofs.FitLemmas.{extra_first, twice_first}
use Rattle.anb_values.proofs.entries.check_entry.Goals as goal

pub returns-then-not-contains-clause-refused : goal.returns-then-not-contains-clause-refused
returns-then-not-contains-clause-refused c =
    let asked : among c.args.asked.now c.args.entry.now.label ≡ false = search (rules, tests) in
    rw c.in_ok-copy.ensures (extra_first c.args.asked.now c.args.labels.now c.args.entry.now asked)

pub returns-then-branch-clause-refused : goal.returns-then-branch-clause-refused
returns-then-branch-clause-refused c =
    let asked : among c.args.asked.now c.args.entry.now.label ≡ true = search (rules, tests) in
    let there : among c.args.labels.now c.args.entry.now.label ≡ true = search (rules, tests) in
    rw c.in_ok-copy-2.ensures (twice_first c.args.asked.now c.args.labels.now c.args.entry.now asked there)
