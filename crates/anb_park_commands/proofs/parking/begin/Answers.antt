use Rattle.std.proofs.Common.{[], ◌∷◌, refl}
use Rattle.anb_role_commands.specs.Playing.{play_by}
use Rattle.anb_words.specs.Commands.{place_by}
use Rattle.anb_command.proofs.Causes.{early_cause, early_reaches, only_memory, wire_cause}
use Rattle.anb_command.proofs.Chains.{told_map}
use Rattle.anb_command.proofs.Failing.{IsFailure-map}
use Rattle.anb_command.proofs.OverWire.{untouched}
use Rattle.anb_park_commands.specs.Going.{begun, saved}
use Rattle.anb_park_commands.specs.ParkCommand.{IsReadToPark, NewSessionIs}
use Rattle.anb_park_commands.specs.Sessions.{Begins}
use Rattle.anb_park_commands.proofs.Answering.{parks_over, refuses_over}
use Rattle.anb_park_commands.proofs.Completing.{completes_played, completes_refused}
use Rattle.anb_park_commands.proofs.Handing.{hands_early, hands_map, is_record_of}
use Rattle.anb_park_commands.proofs.Ready.{Keeps, begins_ready}
use Rattle.anb_park_commands.proofs.Tasks.{new_session_one, new_session_quiet}
use Rattle.anb_command.proofs.Reported.{told_before, told_behind}
use Rattle.anb_park_commands.proofs.parking.begin.Goals as goal

pub returns-in-Ok-clause-does : goal.returns-in-Ok-clause-does
returns-in-Ok-clause-does g c =
    let play = c.args.words.play in
    let key = c.args.words.key.now in
    let b = c.in-Ok.beginning in
    let p = b.prepared in
    parks_over c.args.way Begins (NewSessionIs play.narration.now play.name.now play.values.now key c.args.host_seed) (IsReadToPark play.narration.now play.name.now play.values.now key c.args.host_seed)
    (λ files. new_session_one c.narrations_are_unique.ensures c.refusals_are_unique.ensures c.none_is_both.ensures files play.narration.now play.name.now c.one_fit.ensures play.values.now key c.args.host_seed)
    (λ files. new_session_quiet files play.narration.now play.name.now play.values.now key c.args.host_seed)
    c.begin_over.result.status (play_by p.code p.initial p.seed) (saved b.key (begun b.id p.seed p.initial)) (Keeps p.code (begun b.id p.seed p.initial)) c.begin_over.ensures.late
    (g.F.Shelf.files c.args.shelf.now) (g.W.Wire.state c.args.wire.now) (g.W.Wire.state c.begin_over.new.wire)
    (told_map (g.F.Shelf.files c.args.shelf.now) (λ files has. begins_ready (NewSessionIs play.narration.now play.name.now play.values.now key c.args.host_seed files) p.code b.id p.seed p.initial b.key has c.in-Ok.ensures.takes) c.in-Ok.ensures.ready)
    c.begin_over.ensures.parks c.begin_over.ensures.prompt c.begin_over.ensures.kept

pub returns-in-Ok-clause-faults : goal.returns-in-Ok-clause-faults
returns-in-Ok-clause-faults g c =
    let words = c.args.words in
    wire_cause (words.play.narration.now ∷ words.play.values.now ∷ words.key.now ∷ []) (place_by words.play.endpoint) (g.F.Shelf.faults c.args.shelf.now) (g.F.Shelf.faults c.prepare.new.shelf) (g.W.Wire.state c.args.wire.now) (g.W.Wire.state c.begin_over.new.wire) c.begin_over.result.status c.begin_over.ensures.wire.cause

pub returns-in-Ok-clause-completes : goal.returns-in-Ok-clause-completes
returns-in-Ok-clause-completes g c = λ none.
    let play = c.args.words.play in
    let key = c.args.words.key.now in
    let b = c.in-Ok.beginning in
    let p = b.prepared in
    completes_played c.args.way Begins (NewSessionIs play.narration.now play.name.now play.values.now key c.args.host_seed) (IsReadToPark play.narration.now play.name.now play.values.now key c.args.host_seed)
    (λ files. new_session_one c.narrations_are_unique.ensures c.refusals_are_unique.ensures c.none_is_both.ensures files play.narration.now play.name.now c.one_fit.ensures play.values.now key c.args.host_seed)
    (g.F.Shelf.files c.args.shelf.now) (g.W.Wire.state c.args.wire.now) (g.W.Wire.state c.begin_over.new.wire) c.begin_over.result.status
    (play_by p.code p.initial p.seed) (saved b.key (begun b.id p.seed p.initial)) (Keeps p.code (begun b.id p.seed p.initial))
    (told_map (g.F.Shelf.files c.args.shelf.now) (λ files has. begins_ready (NewSessionIs play.narration.now play.name.now play.values.now key c.args.host_seed files) p.code b.id p.seed p.initial b.key has c.in-Ok.ensures.takes) c.in-Ok.ensures.ready)
    (returns-in-Ok-clause-does g c)
    (only_memory (play.narration.now ∷ play.values.now ∷ key ∷ []) (place_by play.endpoint) (g.F.Shelf.faults c.args.shelf.now) (g.F.Shelf.faults c.prepare.new.shelf) (g.W.Wire.state c.args.wire.now) (g.W.Wire.state c.begin_over.new.wire) none c.begin_over.result.status (returns-in-Ok-clause-faults g c))

pub returns-in-Ok-clause-reached : goal.returns-in-Ok-clause-reached
returns-in-Ok-clause-reached g c = c.begin_over.ensures.wire.reached

pub returns-in-Ok-clause-touches : goal.returns-in-Ok-clause-touches
returns-in-Ok-clause-touches g c = c.begin_over.ensures.wire.touches

pub returns-in-Err-clause-does : goal.returns-in-Err-clause-does
returns-in-Err-clause-does g c =
    let play = c.args.words.play in
    let key = c.args.words.key.now in
    refuses_over c.args.way Begins (NewSessionIs play.narration.now play.name.now play.values.now key c.args.host_seed) (IsReadToPark play.narration.now play.name.now play.values.now key c.args.host_seed)
    (λ files. new_session_one c.narrations_are_unique.ensures c.refusals_are_unique.ensures c.none_is_both.ensures files play.narration.now play.name.now c.one_fit.ensures play.values.now key c.args.host_seed)
    (λ files. new_session_quiet files play.narration.now play.name.now play.values.now key c.args.host_seed)
    (g.F.Shelf.files c.args.shelf.now) (g.W.Wire.state c.args.wire.now) c.in-Err.status (IsFailure-map c.in-Err.status _ _ _ _ (λ file at. at.2) (λ is. is) c.in-Err.ensures.refused)

pub returns-in-Err-clause-faults : goal.returns-in-Err-clause-faults
returns-in-Err-clause-faults g c =
    let words = c.args.words in
    early_cause (words.play.narration.now ∷ words.play.values.now ∷ words.key.now ∷ []) (place_by words.play.endpoint) (g.F.Shelf.faults c.args.shelf.now) (g.F.Shelf.faults c.prepare.new.shelf) (g.W.Wire.state c.args.wire.now) (g.W.Wire.state c.args.wire.now)
    c.in-Err.status _ c.in-Err.ensures.early
    (IsFailure-map c.in-Err.status _ _ _ _ (λ file at. (at.0, at.1)) (λ is. is) c.in-Err.ensures.refused)

pub returns-in-Err-clause-completes : goal.returns-in-Err-clause-completes
returns-in-Err-clause-completes g c = λ none.
    let play = c.args.words.play in
    let key = c.args.words.key.now in
    completes_refused c.args.way Begins (NewSessionIs play.narration.now play.name.now play.values.now key c.args.host_seed) (IsReadToPark play.narration.now play.name.now play.values.now key c.args.host_seed)
    (λ files. new_session_one c.narrations_are_unique.ensures c.refusals_are_unique.ensures c.none_is_both.ensures files play.narration.now play.name.now c.one_fit.ensures play.values.now key c.args.host_seed)
    (g.F.Shelf.files c.args.shelf.now) (g.W.Wire.state c.args.wire.now) (g.W.Wire.state c.args.wire.now) c.in-Err.status
    (only_memory (play.narration.now ∷ play.values.now ∷ key ∷ []) (place_by play.endpoint) (g.F.Shelf.faults c.args.shelf.now) (g.F.Shelf.faults c.prepare.new.shelf) (g.W.Wire.state c.args.wire.now) (g.W.Wire.state c.args.wire.now) none c.in-Err.status (returns-in-Err-clause-faults g c))
    (IsFailure-map c.in-Err.status _ _ _ _ (λ file at. tt) (λ is. is) c.in-Err.ensures.refused)

pub returns-in-Err-clause-reached : goal.returns-in-Err-clause-reached
returns-in-Err-clause-reached g c = early_reaches (place_by c.args.words.play.endpoint) c.in-Err.status (g.W.Wire.state c.args.wire.now).reached c.in-Err.ensures.early

pub returns-in-Err-clause-touches : goal.returns-in-Err-clause-touches
returns-in-Err-clause-touches g c = untouched _ _ _

pub returns-in-Ok-clause-reported : goal.returns-in-Ok-clause-reported
returns-in-Ok-clause-reported g c = told_behind _ _ _ _ _ (c.in-Ok.ensures.told refl) c.begin_over.ensures.wire.told

pub returns-in-Err-clause-reported : goal.returns-in-Err-clause-reported
returns-in-Err-clause-reported g c = told_before _ _ _ _ c.in-Err.ensures.told

pub returns-in-Ok-clause-hands : goal.returns-in-Ok-clause-hands
returns-in-Ok-clause-hands g c =
    let play = c.args.words.play in
    let key = c.args.words.key.now in
    let b = c.in-Ok.beginning in
    let p = b.prepared in
    let told = g.F.Shelf.files c.args.shelf.now in
    hands_map c.args.way _ _ c.begin_over.result.status c.begin_over.result.record
    (λ record_bytes is. is_record_of Begins (NewSessionIs play.narration.now play.name.now play.values.now key c.args.host_seed)
    (λ files. new_session_one c.narrations_are_unique.ensures c.refusals_are_unique.ensures c.none_is_both.ensures files play.narration.now play.name.now c.one_fit.ensures play.values.now key c.args.host_seed)
    (play_by p.code p.initial p.seed) (saved b.key (begun b.id p.seed p.initial)) (Keeps p.code (begun b.id p.seed p.initial)) told (g.W.Wire.state c.args.wire.now).left
    (told_map told (λ files has. begins_ready (NewSessionIs play.narration.now play.name.now play.values.now key c.args.host_seed files) p.code b.id p.seed p.initial b.key has c.in-Ok.ensures.takes) c.in-Ok.ensures.ready)
    record_bytes is)
    c.begin_over.ensures.hands

pub returns-in-Err-clause-hands : goal.returns-in-Err-clause-hands
returns-in-Err-clause-hands g c = hands_early c.args.way _ c.in-Err.status c.in-Err.ensures.early
