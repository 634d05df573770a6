use Rattle.std.proofs.Common.{[], ◌∷◌, refl}
use Rattle.anb_words.specs.Commands.{place_by}
use Rattle.anb_command.proofs.Causes.{only_memory}
use Rattle.anb_host_commands.specs.HostCommand.{CompletesHost, DoesHost}
use Rattle.anb_record_commands.specs.HostInto.{IsOfHost, RecordsHost}
use Rattle.anb_recorded.proofs.Completing.{completes_in_folder}
use Rattle.anb_record_commands.proofs.Completing.{host_wants}
use Rattle.anb_record_commands.proofs.Hosted.{none_over}
use Rattle.anb_recorded.proofs.Telling.{told_cause, told_faults, told_reaches, told_touches}
use Rattle.anb_record_commands.proofs.hosting.host_into.Goals as goal

pub returns-clause-does : goal.returns-clause-does
returns-clause-does g c =
    let e = c.host_recorded.ensures in
    record {
      in_folder = record {
        end = c.host_recorded.result.status;
        missed = c.host_recorded.result.missing;
        does = e.does;
        told_so = c.told.ensures;
        why_missed = e.why_missed;
        fresh = none_over c.args.folder.now (g.J.Store.state c.args.journal.now) (g.J.Store.state c.host_recorded.new.journal) (g.W.Wire.state c.args.wire.now) (g.W.Wire.state c.host_recorded.new.wire) e.fresh;
        early = e.early;
        place = place_by c.args.words.endpoint;
        reached = e.reached;
        touches = e.touches;
        recorded = e.recorded;
      };
      fresh = e.fresh;
    }

pub returns-clause-faults : goal.returns-clause-faults
returns-clause-faults g c =
    let e = c.host_recorded.ensures in
    let r = c.host_recorded.result in
    rw c.told.ensures
    (told_cause (IsOfHost c.args.folder.now) (g.J.Store.state c.args.journal.now) (g.J.Store.state c.host_recorded.new.journal) (g.W.Wire.state c.args.wire.now) (g.W.Wire.state c.host_recorded.new.wire) r.status r.missing e.why_missed
    (c.args.words.narration.now ∷ c.args.words.values.now ∷ []) (place_by c.args.words.endpoint) (g.F.Shelf.faults c.args.shelf.now) (g.F.Shelf.faults c.host_recorded.new.shelf) e.faults)

pub returns-clause-reported : goal.returns-clause-reported
returns-clause-reported g c =
    let e = c.host_recorded.ensures in
    let r = c.host_recorded.result in
    rw c.told.ensures
    (told_faults (IsOfHost c.args.folder.now) (g.J.Store.state c.args.journal.now) (g.J.Store.state c.host_recorded.new.journal) (g.W.Wire.state c.args.wire.now) (g.W.Wire.state c.host_recorded.new.wire) r.status r.missing e.why_missed
    (c.args.words.narration.now ∷ c.args.words.values.now ∷ []) (place_by c.args.words.endpoint) (g.F.Shelf.faults c.args.shelf.now) (g.F.Shelf.faults c.host_recorded.new.shelf) e.reported)

pub returns-clause-reached : goal.returns-clause-reached
returns-clause-reached g c =
    let e = c.host_recorded.ensures in
    let r = c.host_recorded.result in
    rw c.told.ensures
    (told_reaches (IsOfHost c.args.folder.now) (g.J.Store.state c.args.journal.now) (g.J.Store.state c.host_recorded.new.journal) (g.W.Wire.state c.args.wire.now) (g.W.Wire.state c.host_recorded.new.wire) r.status r.missing e.why_missed
    (c.args.words.narration.now ∷ c.args.words.values.now ∷ []) (place_by c.args.words.endpoint) (g.F.Shelf.faults c.args.shelf.now) (g.F.Shelf.faults c.host_recorded.new.shelf) e.reached)

pub returns-clause-touches : goal.returns-clause-touches
returns-clause-touches g c =
    let e = c.host_recorded.ensures in
    let r = c.host_recorded.result in
    rw c.told.ensures
    (told_touches (IsOfHost c.args.folder.now) (g.J.Store.state c.args.journal.now) (g.J.Store.state c.host_recorded.new.journal) (g.W.Wire.state c.args.wire.now) (g.W.Wire.state c.host_recorded.new.wire) r.status r.missing e.why_missed
    (c.args.words.narration.now ∷ c.args.words.values.now ∷ []) (place_by c.args.words.endpoint) (g.F.Shelf.faults c.args.shelf.now) (g.F.Shelf.faults c.host_recorded.new.shelf) e.touches)

pub returns-clause-completes : goal.returns-clause-completes
returns-clause-completes g c = λ none calm.
    let words = c.args.words in
    let e = c.host_recorded.ensures in
    let r = c.host_recorded.result in
    let told = g.F.Shelf.files c.args.shelf.now in
    let S = g.W.Wire.state c.args.wire.now in
    let T = g.W.Wire.state c.host_recorded.new.wire in
    let store = g.J.Store.state c.args.journal.now in
    let store_now = g.J.Store.state c.host_recorded.new.journal in
    rw c.told.ensures
    (completes_in_folder S T (IsOfHost c.args.folder.now) store store_now r.status r.missing e.why_missed calm
    (only_memory (words.narration.now ∷ words.values.now ∷ []) (place_by words.endpoint) (g.F.Shelf.faults c.args.shelf.now) (g.F.Shelf.faults c.host_recorded.new.shelf) S T none r.status e.faults)
    (DoesHost words.narration.now words.name.now words.values.now told c.args.host_seed S T) (RecordsHost words.narration.now words.name.now words.values.now told c.args.host_seed S T c.args.folder.now store store_now) (CompletesHost words.narration.now words.name.now words.values.now told c.args.host_seed S T)
    e.does e.recorded (e.completes none) (host_wants words.narration.now words.name.now words.values.now told c.args.host_seed S T))
