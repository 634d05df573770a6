use Rattle.anb_lemmas.proofs.Each.{each_holds}
use Rattle.anb_probe_commands.specs.Playing.{IsPlaced, end_in}
use Rattle.std.proofs.lemmas.Option.{slice_get_read}
use Rattle.std.proofs.Common.{[], ◌∷◌, List, arith, refl, subst}
use Rattle.anb_transcript.specs.declared.transcript.TranscriptLine.{TranscriptLine}
use Rattle.anb_probe_commands.specs.Keeping.{Told, told}
use Rattle.anb_probe_commands.proofs.Kept.{case_kept}
use Rattle.anb_probe_commands.proofs.Tried.{cut_lines, played_at}
use Rattle.anb_probe_commands.specs.Tasks.{probing_by}
use Rattle.anb_probe_commands.specs.Asking.{trying_by}
use Rattle.anb_probe_commands.specs.Words.{order_of}
use Rattle.anb_probe_commands.proofs.playing.play_case.Goals as goal

pub returns-in-Ok-write_case-clause-played : goal.returns-in-Ok-write_case-clause-played
returns-in-Ok-write_case-clause-played g c = λ a at.
    let t = c.args.task.now in
    played_at (probing_by t.protocol t.role t.values t.seed) c.args.prepared.now (order_of (trying_by c.args.trying)) c.args.number c.args.reached (g.T.Trials.trial c.args.trials.now c.args.number) (g.T.Trials.trial c.try_attempt.new.trials c.args.number)
    (g.W.Wire.state c.args.wire.now) (g.W.Wire.state c.write_case.new.wire) c.index-attempt.result.now a (end_in c.in-Ok.outcome) c.in-Ok.outcome.reached
    (slice_get_read c.args.prepared.now.cases.items _ c.args.number c.index-attempt.result.now refl c.requires.within c.index-attempt.ensures) at c.in-Ok.ensures.tried c.in-Ok-write_case.ensures.wrote

pub returns-in-Err-clause-cut : goal.returns-in-Err-clause-cut
returns-in-Err-clause-cut g c =
    let t = c.args.task.now in
    cut_lines (probing_by t.protocol t.role t.values t.seed) c.args.prepared.now (order_of (trying_by c.args.trying)) c.args.number c.args.reached (g.T.Trials.trial c.args.trials.now c.args.number) (g.T.Trials.trial c.try_attempt.new.trials c.args.number)
    (g.W.Wire.state c.args.wire.now) (g.W.Wire.state c.write_case.new.wire) c.index-attempt.result.now (end_in c.in-Ok.outcome) c.in-Ok.outcome.reached c.in-Err.no
    (slice_get_read c.args.prepared.now.cases.items _ c.args.number c.index-attempt.result.now refl c.requires.within c.index-attempt.ensures) c.in-Ok.ensures.tried c.in-Err.ensures.broke

pub try_attempt-requires-clause-placed : goal.try_attempt-requires-clause-placed
try_attempt-requires-clause-placed g c =
    let x = c.args.prepared.now in
    each_holds (IsPlaced x.scenes.items x.partners.items) x.cases.items c.args.number c.index-attempt.result.now c.requires.within c.index-attempt.ensures c.requires.can.placed

pub keep-requires : goal.keep-requires
keep-requires g c = omega (arith, c.requires.within, c.requires.can.few)

pub returns-in-Ok-write_case-clause-kept : goal.returns-in-Ok-write_case-clause-kept
returns-in-Ok-write_case-clause-kept g c = subst (λ (l : List TranscriptLine). g.K.Keeper.After c.args.keeper.now (told c.args.number l ∷ []) c.keep.new.self) c.lines.ensures c.keep.ensures

pub returns-in-Err-clause-kept_less : goal.returns-in-Err-clause-kept_less
returns-in-Err-clause-kept_less g c =
    let t = c.args.task.now in
    let x = c.args.prepared.now in
    case_kept (probing_by t.protocol t.role t.values t.seed) x (order_of (trying_by c.args.trying)) (λ (some : List Told). g.K.Keeper.After c.args.keeper.now some c.keep.new.self) c.args.number c.args.reached
    (g.T.Trials.trial c.args.trials.now c.args.number) (g.T.Trials.trial c.try_attempt.new.trials c.args.number) c.index-attempt.result.now (end_in c.in-Ok.outcome) c.in-Ok.outcome.reached c.in-Err.no
    (slice_get_read x.cases.items _ c.args.number c.index-attempt.result.now refl c.requires.within c.index-attempt.ensures) c.in-Ok.ensures.tried
    (subst (λ (l : List TranscriptLine). g.K.Keeper.After c.args.keeper.now (told c.args.number l ∷ []) c.keep.new.self) c.lines.ensures c.keep.ensures) c.in-Err.ensures.broke.started

pub returns-in-Err-NotStarted-clause-kept_less : goal.returns-in-Err-NotStarted-clause-kept_less
returns-in-Err-NotStarted-clause-kept_less g c = g.met.K.Keeper.stays c.args.keeper.now

pub returns-in-Err-NoMemory-clause-kept_less : goal.returns-in-Err-NoMemory-clause-kept_less
returns-in-Err-NoMemory-clause-kept_less g c = ([], g.met.K.Keeper.stays c.args.keeper.now)
