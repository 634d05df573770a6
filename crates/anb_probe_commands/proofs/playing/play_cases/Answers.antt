use Rattle.std.proofs.Common.{rules, ◌≡◌, ◌<◌, List, [], ◌∷◌, arith, ap, length, map, refl, sym}
use Rattle.anb_probe_commands.specs.Tasks.{probing_by}
use Rattle.anb_probe_commands.specs.Asking.{trying_by}
use Rattle.anb_probe_commands.specs.Words.{order_of}
use Rattle.anb_probe_commands.specs.Keeping.{Told, told}
use Rattle.anb_probe_commands.specs.Playing.{end_in}
use Rattle.anb_probe_commands.proofs.Kept.{keeps_played, kept_cut, kept_next, kept_some}
use Rattle.anb_probe_commands.proofs.Played.{none_played}
use Rattle.anb_probe_commands.proofs.Tried.{count_out, cut_at, cut_pushing, got_some, played_out, so_kept, wrote_next, wrote_none}
use Rattle.anb_probe_commands.proofs.playing.play_cases.Goals as goal

pub loop-i-init : goal.loop-i-init
loop-i-init g c =
    let t = c.args.task.now in
    let x = c.args.prepared.now in
    let q = probing_by t.protocol t.role t.values t.seed in (
      record {
        ends = [];
        ends_are = ap (map end_in) (sym c.new-outcomes.ensures.items);
        count = refl;
        begun = λ z. z;
        played = none_played q x.scenes.items (order_of (trying_by c.args.trying)) x.cases.items (g.T.Trials.trial c.args.trials.now) 0 0 c.requires.untried;
        wrote = wrote_none q x (g.W.Wire.state c.args.wire.now);
      },
      g.met.K.Keeper.stays c.args.keeper.now,
    )

pub returns-in-Err-clause-cut : goal.returns-in-Err-clause-cut
returns-in-Err-clause-cut g c =
    let t = c.args.task.now in
    let inv = c.loop-i.invariant.0 in
    cut_at (probing_by t.protocol t.role t.values t.seed) c.args.prepared.now (order_of (trying_by c.args.trying)) (g.T.Trials.trial c.args.trials.now) (g.T.Trials.trial c.loop-i.trials) (g.T.Trials.trial c.play_case.new.trials)
    (g.W.Wire.state c.args.wire.now) (g.W.Wire.state c.loop-i.wire) (g.W.Wire.state c.play_case.new.wire) c.loop-i.reached inv.ends c.loop-i.i inv.count inv.played inv.begun inv.wrote (search rules) c.play_case.ensures.others
    c.play_case.ensures.none_left c.in-Err.no c.in-Err.ensures.cut

pub returns-in-Err-push-clause-cut : goal.returns-in-Err-push-clause-cut
returns-in-Err-push-clause-cut g c =
    let t = c.args.task.now in
    let q = probing_by t.protocol t.role t.values t.seed in
    let x = c.args.prepared.now in
    let within : c.loop-i.i < length x.cases.items = search rules in
    let at = got_some x.cases.items c.loop-i.i within in
    cut_pushing q x (order_of (trying_by c.args.trying)) (g.T.Trials.trial c.args.trials.now) (g.T.Trials.trial c.loop-i.trials) (g.T.Trials.trial c.play_case.new.trials)
    (g.W.Wire.state c.args.wire.now) (g.W.Wire.state c.loop-i.wire) (g.W.Wire.state c.play_case.new.wire) c.loop-i.outcomes.items c.loop-i.i c.loop-i.reached c.loop-i.invariant.0
    c.in-Ok.outcome at.0 c.next_reached-reached.result c.play_case.ensures.others c.play_case.ensures.none_left within at.1 (c.in-Ok.ensures.played at.0 at.1) c.next_reached-reached.ensures.before c.next_reached-reached.ensures.first

pub returns-in-Err-push-clause-broke : goal.returns-in-Err-push-clause-broke
returns-in-Err-push-clause-broke g c =
    let t = c.args.task.now in
    let q = probing_by t.protocol t.role t.values t.seed in
    let x = c.args.prepared.now in
    let within : c.loop-i.i < length x.cases.items = search rules in
    let at = got_some x.cases.items c.loop-i.i within in
    let wrote = wrote_next q x (order_of (trying_by c.args.trying)) (g.T.Trials.trial c.args.trials.now) (g.T.Trials.trial c.loop-i.trials) (g.T.Trials.trial c.play_case.new.trials)
    (g.W.Wire.state c.args.wire.now) (g.W.Wire.state c.loop-i.wire) (g.W.Wire.state c.play_case.new.wire) c.loop-i.outcomes.items c.loop-i.i c.loop-i.reached c.loop-i.invariant.0
    c.in-Ok.outcome at.0 c.next_reached-reached.result c.play_case.ensures.others c.play_case.ensures.none_left within at.1 (c.in-Ok.ensures.played at.0 at.1) c.next_reached-reached.ensures.before c.next_reached-reached.ensures.first in
    record { only = wrote.only; cause = λ e. absurd (cc); quiet = λ e. wrote.quiet }

pub loop-i-preserved : goal.loop-i-preserved
loop-i-preserved g c =
    let t = c.args.task.now in
    let q = probing_by t.protocol t.role t.values t.seed in
    let x = c.args.prepared.now in
    let within : c.loop-i.i < length x.cases.items = search rules in
    let at = got_some x.cases.items c.loop-i.i within in
    so_kept q x (order_of (trying_by c.args.trying)) (g.T.Trials.trial c.args.trials.now) (g.T.Trials.trial c.loop-i.trials) (g.T.Trials.trial c.play_case.new.trials)
    (g.W.Wire.state c.args.wire.now) (g.W.Wire.state c.loop-i.wire) (g.W.Wire.state c.play_case.new.wire) c.loop-i.outcomes.items c.loop-i.i c.loop-i.reached c.loop-i.invariant.0
    c.in-Ok.outcome at.0 c.next_reached-reached.result c.play_case.ensures.others c.play_case.ensures.none_left within at.1 (c.in-Ok.ensures.played at.0 at.1) c.next_reached-reached.ensures.before c.next_reached-reached.ensures.first
    (λ (some : List Told). g.K.Keeper.After c.args.keeper.now some c.play_case.new.keeper) _ c.in-Ok-push.ensures.items
    (kept_next q x (order_of (trying_by c.args.trying)) (g.T.Trials.trial c.args.trials.now) (g.T.Trials.trial c.loop-i.trials) (g.T.Trials.trial c.play_case.new.trials)
    (g.W.Wire.state c.args.wire.now) (g.W.Wire.state c.loop-i.wire) (g.W.Wire.state c.play_case.new.wire) c.loop-i.outcomes.items c.loop-i.i c.loop-i.reached c.loop-i.invariant.0 within
    (λ (some : List Told). g.K.Keeper.After c.args.keeper.now some c.loop-i.keeper) (λ (some : List Told). g.K.Keeper.After c.loop-i.keeper some c.play_case.new.keeper) (λ (some : List Told). g.K.Keeper.After c.args.keeper.now some c.play_case.new.keeper)
    (λ some more one two. g.met.K.Keeper.joined c.args.keeper.now c.loop-i.keeper c.play_case.new.keeper some more one two) c.loop-i.invariant.1 (end_in c.in-Ok.outcome) c.in-Ok.ensures.kept)

pub returns-clause-played : goal.returns-clause-played
returns-clause-played g c =
    let t = c.args.task.now in
    let x = c.args.prepared.now in
    let all : c.loop-i.i ≡ length x.cases.items = search rules in
    played_out (probing_by t.protocol t.role t.values t.seed) x (order_of (trying_by c.args.trying)) (g.T.Trials.trial c.args.trials.now) (g.T.Trials.trial c.loop-i.trials) (g.T.Trials.trial c.loop-i.trials)
    (g.W.Wire.state c.args.wire.now) (g.W.Wire.state c.loop-i.wire) (g.W.Wire.state c.loop-i.wire) c.loop-i.outcomes.items c.loop-i.i c.loop-i.reached c.loop-i.invariant.0 all

pub returns-clause-all : goal.returns-clause-all
returns-clause-all g c =
    let t = c.args.task.now in
    let x = c.args.prepared.now in
    let all : c.loop-i.i ≡ length x.cases.items = search rules in
    count_out (probing_by t.protocol t.role t.values t.seed) x (order_of (trying_by c.args.trying)) (g.T.Trials.trial c.args.trials.now) (g.T.Trials.trial c.loop-i.trials) (g.T.Trials.trial c.loop-i.trials)
    (g.W.Wire.state c.args.wire.now) (g.W.Wire.state c.loop-i.wire) (g.W.Wire.state c.loop-i.wire) c.loop-i.outcomes.items c.loop-i.i c.loop-i.reached c.loop-i.invariant.0 all

pub returns-clause-kept : goal.returns-clause-kept
returns-clause-kept g c =
    let t = c.args.task.now in
    let x = c.args.prepared.now in
    let so = c.loop-i.invariant.0 in
    let all : c.loop-i.i ≡ length x.cases.items = search rules in
    keeps_played (probing_by t.protocol t.role t.values t.seed) x (order_of (trying_by c.args.trying)) (λ (some : List Told). g.K.Keeper.After c.args.keeper.now some c.loop-i.keeper)
    (g.T.Trials.trial c.args.trials.now) (g.T.Trials.trial c.loop-i.trials) c.loop-i.reached so.ends c.loop-i.i so.count (omega (arith, all)) so.played c.loop-i.invariant.1

pub returns-in-Err-clause-kept_less : goal.returns-in-Err-clause-kept_less
returns-in-Err-clause-kept_less g c =
    let t = c.args.task.now in
    let q = probing_by t.protocol t.role t.values t.seed in
    let x = c.args.prepared.now in
    kept_cut q x (order_of (trying_by c.args.trying)) (g.T.Trials.trial c.args.trials.now) (g.T.Trials.trial c.loop-i.trials) (g.T.Trials.trial c.play_case.new.trials)
    (g.W.Wire.state c.args.wire.now) (g.W.Wire.state c.loop-i.wire) (g.W.Wire.state c.play_case.new.wire) c.loop-i.outcomes.items c.loop-i.i c.loop-i.reached c.loop-i.invariant.0 (search rules)
    (λ (some : List Told). g.K.Keeper.After c.args.keeper.now some c.loop-i.keeper) (λ (some : List Told). g.K.Keeper.After c.loop-i.keeper some c.play_case.new.keeper) (λ (some : List Told). g.K.Keeper.After c.args.keeper.now some c.play_case.new.keeper)
    (λ some more one two. g.met.K.Keeper.joined c.args.keeper.now c.loop-i.keeper c.play_case.new.keeper some more one two) c.loop-i.invariant.1 c.play_case.ensures.others c.play_case.ensures.none_left c.in-Err.no
    (λ is. (rw is at c.in-Err.ensures.cut).0) c.in-Err.ensures.kept_less

pub returns-in-Err-push-clause-kept_less : goal.returns-in-Err-push-clause-kept_less
returns-in-Err-push-clause-kept_less g c =
    let t = c.args.task.now in
    let q = probing_by t.protocol t.role t.values t.seed in
    let x = c.args.prepared.now in
    kept_some q x (order_of (trying_by c.args.trying)) (g.T.Trials.trial c.args.trials.now) (g.T.Trials.trial c.loop-i.trials) (g.T.Trials.trial c.play_case.new.trials)
    (g.W.Wire.state c.args.wire.now) (g.W.Wire.state c.loop-i.wire) (g.W.Wire.state c.play_case.new.wire) c.loop-i.outcomes.items c.loop-i.i c.loop-i.reached c.loop-i.invariant.0 (search rules)
    (λ (some : List Told). g.K.Keeper.After c.args.keeper.now some c.loop-i.keeper) (λ (some : List Told). g.K.Keeper.After c.loop-i.keeper some c.play_case.new.keeper) (λ (some : List Told). g.K.Keeper.After c.args.keeper.now some c.play_case.new.keeper)
    (λ some more one two. g.met.K.Keeper.joined c.args.keeper.now c.loop-i.keeper c.play_case.new.keeper some more one two) c.loop-i.invariant.1 (told c.loop-i.i c.in-Ok.outcome.lines ∷ []) c.in-Ok.ensures.kept
