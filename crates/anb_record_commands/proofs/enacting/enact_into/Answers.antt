use Rattle.std.proofs.Common.{[], ◌∷◌, refl}
use Rattle.anb_words.specs.Commands.{place_by}
use Rattle.anb_command.proofs.Causes.{only_memory}
use Rattle.anb_role_commands.specs.EnactCommand.{CompletesEnact, DoesEnact}
use Rattle.anb_record_commands.specs.EnactInto.{RecordsEnact}
use Rattle.anb_record_commands.specs.Outcomes.{IsOfFolder}
use Rattle.anb_recorded.proofs.Completing.{completes_in_folder}
use Rattle.anb_record_commands.proofs.Completing.{enact_wants}
use Rattle.anb_recorded.proofs.Telling.{told_cause, told_faults, told_reaches, told_touches}
use Rattle.anb_record_commands.proofs.enacting.enact_into.Goals as goal

pub returns-clause-does : goal.returns-clause-does
returns-clause-does g c =
    let e = c.enact_recorded.ensures in
    record {
      end = c.enact_recorded.result.status;
      missed = c.enact_recorded.result.missing;
      does = e.does;
      told_so = c.told.ensures;
      why_missed = e.why_missed;
      fresh = e.fresh;
      early = e.early;
      place = place_by c.args.words.endpoint;
      reached = e.reached;
      touches = e.touches;
      recorded = e.recorded;
    }

pub returns-clause-faults : goal.returns-clause-faults
returns-clause-faults g c =
    let e = c.enact_recorded.ensures in
    let r = c.enact_recorded.result in
    rw c.told.ensures
    (told_cause (IsOfFolder c.args.folder.now) (g.J.Store.state c.args.journal.now) (g.J.Store.state c.enact_recorded.new.journal) (g.W.Wire.state c.args.wire.now) (g.W.Wire.state c.enact_recorded.new.wire) r.status r.missing e.why_missed
    (c.args.words.code.now ∷ c.args.words.values.now ∷ []) (place_by c.args.words.endpoint) (g.F.Shelf.faults c.args.shelf.now) (g.F.Shelf.faults c.enact_recorded.new.shelf) e.faults)

pub returns-clause-reported : goal.returns-clause-reported
returns-clause-reported g c =
    let e = c.enact_recorded.ensures in
    let r = c.enact_recorded.result in
    rw c.told.ensures
    (told_faults (IsOfFolder c.args.folder.now) (g.J.Store.state c.args.journal.now) (g.J.Store.state c.enact_recorded.new.journal) (g.W.Wire.state c.args.wire.now) (g.W.Wire.state c.enact_recorded.new.wire) r.status r.missing e.why_missed
    (c.args.words.code.now ∷ c.args.words.values.now ∷ []) (place_by c.args.words.endpoint) (g.F.Shelf.faults c.args.shelf.now) (g.F.Shelf.faults c.enact_recorded.new.shelf) e.reported)

pub returns-clause-reached : goal.returns-clause-reached
returns-clause-reached g c =
    let e = c.enact_recorded.ensures in
    let r = c.enact_recorded.result in
    rw c.told.ensures
    (told_reaches (IsOfFolder c.args.folder.now) (g.J.Store.state c.args.journal.now) (g.J.Store.state c.enact_recorded.new.journal) (g.W.Wire.state c.args.wire.now) (g.W.Wire.state c.enact_recorded.new.wire) r.status r.missing e.why_missed
    (c.args.words.code.now ∷ c.args.words.values.now ∷ []) (place_by c.args.words.endpoint) (g.F.Shelf.faults c.args.shelf.now) (g.F.Shelf.faults c.enact_recorded.new.shelf) e.reached)

pub returns-clause-touches : goal.returns-clause-touches
returns-clause-touches g c =
    let e = c.enact_recorded.ensures in
    let r = c.enact_recorded.result in
    rw c.told.ensures
    (told_touches (IsOfFolder c.args.folder.now) (g.J.Store.state c.args.journal.now) (g.J.Store.state c.enact_recorded.new.journal) (g.W.Wire.state c.args.wire.now) (g.W.Wire.state c.enact_recorded.new.wire) r.status r.missing e.why_missed
    (c.args.words.code.now ∷ c.args.words.values.now ∷ []) (place_by c.args.words.endpoint) (g.F.Shelf.faults c.args.shelf.now) (g.F.Shelf.faults c.enact_recorded.new.shelf) e.touches)

pub returns-clause-completes : goal.returns-clause-completes
returns-clause-completes g c = λ none calm.
    let words = c.args.words in
    let e = c.enact_recorded.ensures in
    let r = c.enact_recorded.result in
    let told = g.F.Shelf.files c.args.shelf.now in
    let S = g.W.Wire.state c.args.wire.now in
    let T = g.W.Wire.state c.enact_recorded.new.wire in
    let store = g.J.Store.state c.args.journal.now in
    let store_now = g.J.Store.state c.enact_recorded.new.journal in
    rw c.told.ensures
    (completes_in_folder S T (IsOfFolder c.args.folder.now) store store_now r.status r.missing e.why_missed calm
    (only_memory (words.code.now ∷ words.values.now ∷ []) (place_by words.endpoint) (g.F.Shelf.faults c.args.shelf.now) (g.F.Shelf.faults c.enact_recorded.new.shelf) S T none r.status e.faults)
    (DoesEnact words.code.now words.values.now told c.args.host_seed S T) (RecordsEnact words.code.now words.values.now told c.args.host_seed S T c.args.folder.now store store_now) (CompletesEnact words.code.now words.values.now told c.args.host_seed S T)
    e.does e.recorded (e.completes none) (enact_wants words.code.now words.values.now told c.args.host_seed S T))
