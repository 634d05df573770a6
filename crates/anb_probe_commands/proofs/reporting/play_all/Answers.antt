use Rattle.anb_probe_commands.specs.Tasks.{probing_by}
use Rattle.anb_probe_commands.specs.Asking.{trying_by}
use Rattle.anb_probe_commands.specs.Words.{order_of}
use Rattle.std.proofs.Common.{◌≡◌, List, length, map, sym, ap, ◌∙◌, subst, arith}
use Rattle.std.specs.List.{AllByRecursion}
use Rattle.std.proofs.lemmas.List.{length-map}
use Rattle.anb_probe_commands.specs.Keeping.{Told}
use Rattle.anb_probe_commands.specs.Plays.{AreTold, verdicts_of}
use Rattle.anb_probe_commands.specs.Playing.{CanJudge, end_in}
use Rattle.anb_probe_commands.specs.declared.playing.Outcome.{Outcome}
use Rattle.anb_probe_commands.proofs.Found.{can_judge, told_long}
use Rattle.anb_probe_commands.proofs.Kept.{keeps_behind, keeps_none}
use Rattle.anb_probe_commands.proofs.Ending.{all_played, cut_cases, cut_first, cut_found, cut_notes}
use Rattle.anb_probe_commands.proofs.reporting.play_all.Goals as goal

pub returns-in-Err-clause-cut : goal.returns-in-Err-clause-cut
returns-in-Err-clause-cut g c =
    let t = c.args.task.now in
    cut_first (probing_by t.protocol t.role t.values t.seed) c.args.prepared.now (order_of (trying_by c.args.trying)) (g.T.Trials.trial c.args.trials.now) (g.W.Wire.state c.args.wire.now) (g.W.Wire.state c.write_first.new.wire) c.in-Err.no c.requires.untried c.in-Err.ensures.broke

pub returns-in-Err-play_cases-clause-cut : goal.returns-in-Err-play_cases-clause-cut
returns-in-Err-play_cases-clause-cut g c =
    let t = c.args.task.now in
    cut_cases (probing_by t.protocol t.role t.values t.seed) c.args.prepared.now (order_of (trying_by c.args.trying)) (g.T.Trials.trial c.args.trials.now) (g.T.Trials.trial c.play_cases.new.trials)
    (g.W.Wire.state c.args.wire.now) (g.W.Wire.state c.write_first.new.wire) (g.W.Wire.state c.play_cases.new.wire) c.in-Err-play_cases.no c.in-Ok.ensures.wrote c.in-Err-play_cases.ensures.cut

pub returns-in-Err-clause-kept_less : goal.returns-in-Err-clause-kept_less
returns-in-Err-clause-kept_less g c =
    let t = c.args.task.now in
    let q = probing_by t.protocol t.role t.values t.seed in
    let x = c.args.prepared.now in
    let old = g.T.Trials.trial c.args.trials.now in
    keeps_behind q x (order_of (trying_by c.args.trying)) (λ (some : List Told). g.K.Keeper.After c.args.keeper.now some c.args.keeper.now) old old c.in-Err.no c.in-Err.ensures.broke.started
    (keeps_none q x (order_of (trying_by c.args.trying)) (λ (some : List Told). g.K.Keeper.After c.args.keeper.now some c.args.keeper.now) old c.requires.untried (g.met.K.Keeper.stays c.args.keeper.now))

pub returns-in-Err-play_cases-clause-kept_less : goal.returns-in-Err-play_cases-clause-kept_less
returns-in-Err-play_cases-clause-kept_less g c = c.in-Err-play_cases.ensures.kept_less

pub returns-in-Ok-write_notes-clause-kept : goal.returns-in-Ok-write_notes-clause-kept
returns-in-Ok-write_notes-clause-kept g c = c.in-Ok-play_cases.ensures.kept

pub found_in-requires-clause-judge : goal.found_in-requires-clause-judge
found_in-requires-clause-judge g c =
    let t = c.args.task.now in
    subst (λ (os : List Outcome). AllByRecursion CanJudge (map end_in os)) (sym c.deref.ensures.value)
    (can_judge (probing_by t.protocol t.role t.values t.seed) c.args.prepared.now (order_of (trying_by c.args.trying)) (g.T.Trials.trial c.args.trials.now) (g.T.Trials.trial c.play_cases.new.trials)
    (g.W.Wire.state c.write_first.new.wire) (g.W.Wire.state c.play_cases.new.wire) c.in-Ok-play_cases.outcomes.items c.in-Ok-play_cases.ensures.played)

pub returns-in-Err-found_in-clause-cut : goal.returns-in-Err-found_in-clause-cut
returns-in-Err-found_in-clause-cut g c =
    let t = c.args.task.now in
    cut_found (probing_by t.protocol t.role t.values t.seed) c.args.prepared.now (order_of (trying_by c.args.trying)) (g.T.Trials.trial c.args.trials.now) (g.T.Trials.trial c.play_cases.new.trials)
    (g.W.Wire.state c.args.wire.now) (g.W.Wire.state c.write_first.new.wire) (g.W.Wire.state c.play_cases.new.wire) c.in-Ok-play_cases.outcomes.items c.in-Ok.ensures.wrote c.in-Ok-play_cases.ensures.played

pub write_notes-requires-clause-told : goal.write_notes-requires-clause-told
write_notes-requires-clause-told g c =
    let t = c.args.task.now in
    let outs = c.deref.result.now in
    let told = c.in-Ok-found_in.found.draws.items in
    let long : length told ≡ length (map end_in outs) = told_long (probing_by t.protocol t.role t.values t.seed) (map end_in outs) told c.in-Ok-found_in.ensures.draws in
    let few = c.requires.can.few in
    omega (arith, ap length c.deref-2.ensures.value, long, length-map outs end_in, ap length c.deref.ensures.value, c.in-Ok-play_cases.ensures.all, few)

pub returns-clause-cut : goal.returns-clause-cut
returns-clause-cut g c =
    let t = c.args.task.now in
    let q = probing_by t.protocol t.role t.values t.seed in
    let found = c.in-Ok-found_in.found in
    let outs = c.in-Ok-play_cases.outcomes.items in
    let are_told = subst (λ (os : List Outcome). AreTold q (map end_in os) found.draws.items) c.deref.ensures.value c.in-Ok-found_in.ensures.draws in
    let are = c.in-Ok-found_in.ensures.verdicts ∙ ap (λ (os : List Outcome). verdicts_of (map end_in os)) c.deref.ensures.value in
    let broke = rw c.deref-2.ensures.value at (rw c.deref-3.ensures.value at c.in-Err-write_notes.ensures.broke) in
    cut_notes q c.args.prepared.now (order_of (trying_by c.args.trying)) (g.T.Trials.trial c.args.trials.now) (g.T.Trials.trial c.play_cases.new.trials)
    (g.W.Wire.state c.args.wire.now) (g.W.Wire.state c.write_first.new.wire) (g.W.Wire.state c.play_cases.new.wire) outs c.in-Ok.ensures.wrote c.in-Ok-play_cases.ensures.played (g.W.Wire.state c.write_notes.new.wire)
    found.draws.items found.verdicts.items are_told are c.in-Err-write_notes.no broke

pub returns-in-Ok-write_notes-clause-all : goal.returns-in-Ok-write_notes-clause-all
returns-in-Ok-write_notes-clause-all g c =
    let t = c.args.task.now in
    let q = probing_by t.protocol t.role t.values t.seed in
    let found = c.in-Ok-found_in.found in
    let outs = c.in-Ok-play_cases.outcomes.items in
    let are_told = subst (λ (os : List Outcome). AreTold q (map end_in os) found.draws.items) c.deref.ensures.value c.in-Ok-found_in.ensures.draws in
    let are = c.in-Ok-found_in.ensures.verdicts ∙ ap (λ (os : List Outcome). verdicts_of (map end_in os)) c.deref.ensures.value in
    let wrote = rw c.deref-2.ensures.value at (rw c.deref-3.ensures.value at c.in-Ok-write_notes.ensures.wrote) in
    all_played q c.args.prepared.now (order_of (trying_by c.args.trying)) (g.T.Trials.trial c.args.trials.now) (g.T.Trials.trial c.play_cases.new.trials)
    (g.W.Wire.state c.args.wire.now) (g.W.Wire.state c.write_first.new.wire) (g.W.Wire.state c.play_cases.new.wire) outs c.in-Ok.ensures.wrote c.in-Ok-play_cases.ensures.played (g.W.Wire.state c.write_notes.new.wire)
    found.draws.items found.verdicts.items are_told are wrote

pub returns-clause-kept_less : goal.returns-clause-kept_less
returns-clause-kept_less g c =
    let t = c.args.task.now in
    keeps_behind (probing_by t.protocol t.role t.values t.seed) c.args.prepared.now (order_of (trying_by c.args.trying)) (λ (some : List Told). g.K.Keeper.After c.args.keeper.now some c.play_cases.new.keeper)
    (g.T.Trials.trial c.args.trials.now) (g.T.Trials.trial c.play_cases.new.trials) c.in-Err-write_notes.no c.in-Err-write_notes.ensures.broke.started c.in-Ok-play_cases.ensures.kept
