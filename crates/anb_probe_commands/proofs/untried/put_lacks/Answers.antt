use Rattle.std.proofs.Common.{◌+◌, map, drop, sym, ap, ◌∙◌}
use Rattle.std.specs.List.{flat_map}
use Rattle.anb_lemmas.proofs.Lists.{drop_next}
use Rattle.anb_probe_commands.specs.Cases.{joined_once, lack_lines, lack_of}
use Rattle.anb_probe_commands.proofs.Listing.{joined_both}
use Rattle.anb_probe_commands.proofs.untried.put_lacks.Goals as goal

pub loop-attempt-preserved : goal.loop-attempt-preserved
loop-attempt-preserved c =
    let f = lack_lines c.args.p.now c.args.role (map lack_of c.args.partners.now) in
    let xs = c.args.attempts.now in
    let i = c.loop-attempt.attempt-index in
    let x = c.attempt-item.result in
    let old = c.loop-attempt.lines.items in
    ap (λ l. joined_once l (flat_map f (drop (i + 1) xs))) c.in_ok-put_lack.ensures ∙ sym (joined_both old (f x) (flat_map f (drop (i + 1) xs)))
    ∙ ap (joined_once old) (sym (ap (flat_map f) (drop_next xs i x c.loop-attempt-test.true c.attempt-item.is))) ∙ c.loop-attempt.invariant
