use Rattle.std.proofs.Common.{rules, ◌+◌, ◌<◌, ℕ, length, take, drop, Option, Some, sym, ap, ◌∙◌}
use Rattle.std.specs.Option.{option_map_or}
use Rattle.anb_probe_commands.specs.Reports.{same_from}
use Rattle.anb_probe_commands.proofs.Found.{same_next}
use Rattle.anb_probe_commands.proofs.Tried.{got_some}
use Rattle.anb_probe_commands.proofs.same.same_cases.Goals as goal

pub returns-in-Some-clause-some : goal.returns-in-Some-clause-some
returns-in-Some-clause-some c =
    let values = c.args.values.now in
    let i = c.loop-i.i in
    let within : i < length values = search rules in
    let at = got_some values i within in
    let rest = same_from (take (i + 1) values) (drop (i + 1) values) in
    sym c.loop-i.invariant ∙ same_next values i at.0 at.1
    ∙ ap (λ (o : Option ℕ). option_map_or (λ one. Some (one, i + 1)) o rest) (c.in-Some.ensures.some at.0 at.1)

pub loop-i-preserved : goal.loop-i-preserved
loop-i-preserved c =
    let values = c.args.values.now in
    let i = c.loop-i.i in
    let within : i < length values = search rules in
    let at = got_some values i within in
    let rest = same_from (take (i + 1) values) (drop (i + 1) values) in
    sym (ap (λ (o : Option ℕ). option_map_or (λ one. Some (one, i + 1)) o rest) (c.in_default.ensures.none at.0 at.1))
    ∙ sym (same_next values i at.0 at.1) ∙ c.loop-i.invariant
