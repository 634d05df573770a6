use Rattle.std.proofs.Common.{◌≡◌, ◌+◌, ◌++◌, ◌∷◌, [], List, map, take, sym, ap, ◌∙◌, subst}
use Rattle.std.proofs.lemmas.List.{map-append}
use Rattle.anb_lemmas.proofs.Lists.{item_at, take_got}
use Rattle.anb_probe_commands.specs.Plays.{AreTold, CaseEnd}
use Rattle.anb_probe_commands.specs.Playing.{end_in}
use Rattle.anb_probe_commands.specs.Tasks.{probing_by}
use Rattle.anb_probe_commands.proofs.Found.{judge_at, told_more}
use Rattle.anb_probe_commands.proofs.finding.draws_of.Goals as goal

pub drawn_in-requires-clause-judge : goal.drawn_in-requires-clause-judge
drawn_in-requires-clause-judge c =
    let outs = c.args.outcomes.now in
    let i = c.loop-outcome.outcome-index in
    judge_at outs i c.outcome-item.result (item_at outs i c.outcome-item.result c.loop-outcome-test.true c.outcome-item.is) c.requires.judge

pub loop-outcome-preserved : goal.loop-outcome-preserved
loop-outcome-preserved c =
    let t = c.args.task.now in
    let q = probing_by t.protocol t.role t.values t.seed in
    let outs = c.args.outcomes.now in
    let i = c.loop-outcome.outcome-index in
    let o = c.outcome-item.result in
    let draws = c.in_ok-drawn_in.field-0 in
    let at = item_at outs i o c.loop-outcome-test.true c.outcome-item.is in
    let more = told_more q (map end_in (take i outs)) c.loop-outcome.told.items (end_in o) draws c.loop-outcome.invariant c.in_ok-drawn_in.ensures in
    let ends : map end_in (take (i + 1) outs) ≡ map end_in (take i outs) ++ end_in o ∷ [] = ap (map end_in) (take_got outs i o at) ∙ map-append end_in (take i outs) (o ∷ []) in
    subst (AreTold q (map end_in (take (i + 1) outs))) (sym c.in_ok-push.ensures.items)
    (subst (λ (es : List CaseEnd). AreTold q es (c.loop-outcome.told.items ++ draws ∷ [])) (sym ends) more)
