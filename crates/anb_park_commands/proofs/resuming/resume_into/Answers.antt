use Rattle.std.proofs.Common.{[], ◌∷◌, Some, inr, refl, true}
use Rattle.anb_words.specs.Commands.{place_by}
use Rattle.anb_command.specs.Reaches.{Reaches}
use Rattle.anb_command.specs.Reported.{TellsFaults}
use Rattle.anb_command.specs.Touches.{Touches}
use Rattle.anb_status.specs.Statuses.{phase_of}
use Rattle.anb_status.specs.declared.status.Status.TheVariants.{NoMemory, Unwritten}
use Rattle.anb_park_commands.specs.declared.ended.RecordWay.TheVariants.{ToFile}
use Rattle.anb_park_commands.specs.ResumeCommand.{IsReadToResume, ResumedIs}
use Rattle.anb_park_commands.specs.Parking.{CompletesOver, IsRecordOf, ParksOver}
use Rattle.anb_park_commands.specs.Sessions.{GoesOn}
use Rattle.anb_park_commands.proofs.Handing.{by_end, keeps, park_cause, still_completes, still_parks, still_reported, still_touches}
use Rattle.anb_park_commands.proofs.Tasks.{resumed_quiet}
use Rattle.anb_park_commands.proofs.resuming.resume_into.Goals as goal

pub returns-clause-does : goal.returns-clause-does
returns-clause-does g c =
    let w = c.args.words in
    let told = g.F.Shelf.files c.args.shelf.now in
    let S = g.W.Wire.state c.args.wire.now in
    let T = g.W.Wire.state c.go_on-ended.new.wire in
    let old = g.S.Store.state c.args.store.now in
    let new = g.S.Store.state c.keep_in_file.new.store in
    let e = c.go_on-ended.result in
    let IsRecord = IsRecordOf (ResumedIs w.narration.now w.name.now w.parked.now w.key.now) told S.left in
    record {
      over_wire = by_end c.args.file.now old new c.keep_in_file.result IsRecord (λ s. ParksOver ToFile GoesOn (ResumedIs w.narration.now w.name.now w.parked.now w.key.now) told S T s (IsReadToResume w.narration.now w.name.now w.parked.now w.key.now)) e.record e.status c.go_on-ended.ensures.hands c.keep_in_file.ensures
          (λ n was. still_parks GoesOn (ResumedIs w.narration.now w.name.now w.parked.now w.key.now) (λ files. resumed_quiet files w.narration.now w.name.now w.parked.now w.key.now) (IsReadToResume w.narration.now w.name.now w.parked.now w.key.now) S T (Unwritten c.args.file.now) tt n told was)
          (λ n was. still_parks GoesOn (ResumedIs w.narration.now w.name.now w.parked.now w.key.now) (λ files. resumed_quiet files w.narration.now w.name.now w.parked.now w.key.now) (IsReadToResume w.narration.now w.name.now w.parked.now w.key.now) S T NoMemory tt n told was) c.go_on-ended.ensures.does;
      in_store = keeps c.args.file.now old new c.keep_in_file.result IsRecord (w.narration.now ∷ w.parked.now ∷ w.key.now ∷ []) (Some (place_by w.endpoint)) (g.F.Shelf.faults c.args.shelf.now) (g.F.Shelf.faults c.go_on-ended.new.shelf) S T
          e.record e.status c.go_on-ended.ensures.hands c.go_on-ended.ensures.faults c.keep_in_file.ensures;
    }

pub returns-clause-completes : goal.returns-clause-completes
returns-clause-completes g c =
    let w = c.args.words in
    let told = g.F.Shelf.files c.args.shelf.now in
    let S = g.W.Wire.state c.args.wire.now in
    let T = g.W.Wire.state c.go_on-ended.new.wire in
    let old = g.S.Store.state c.args.store.now in
    let new = g.S.Store.state c.keep_in_file.new.store in
    let e = c.go_on-ended.result in
    let IsRecord = IsRecordOf (ResumedIs w.narration.now w.name.now w.parked.now w.key.now) told S.left in
    λ none. by_end c.args.file.now old new c.keep_in_file.result IsRecord (λ s. CompletesOver ToFile GoesOn (ResumedIs w.narration.now w.name.now w.parked.now w.key.now) told S T s) e.record e.status c.go_on-ended.ensures.hands c.keep_in_file.ensures
    (λ n was. still_completes GoesOn (ResumedIs w.narration.now w.name.now w.parked.now w.key.now) (λ files. resumed_quiet files w.narration.now w.name.now w.parked.now w.key.now) (IsReadToResume w.narration.now w.name.now w.parked.now w.key.now) S T (Unwritten c.args.file.now) tt n told was)
    (λ n was. still_completes GoesOn (ResumedIs w.narration.now w.name.now w.parked.now w.key.now) (λ files. resumed_quiet files w.narration.now w.name.now w.parked.now w.key.now) (IsReadToResume w.narration.now w.name.now w.parked.now w.key.now) S T NoMemory tt n told was) (c.go_on-ended.ensures.completes none)

pub returns-clause-faults : goal.returns-clause-faults
returns-clause-faults g c =
    let w = c.args.words in
    let told = g.F.Shelf.files c.args.shelf.now in
    let S = g.W.Wire.state c.args.wire.now in
    let T = g.W.Wire.state c.go_on-ended.new.wire in
    let old = g.S.Store.state c.args.store.now in
    let new = g.S.Store.state c.keep_in_file.new.store in
    let e = c.go_on-ended.result in
    let IsRecord = IsRecordOf (ResumedIs w.narration.now w.name.now w.parked.now w.key.now) told S.left in
    park_cause c.args.file.now old new c.keep_in_file.result IsRecord (w.narration.now ∷ w.parked.now ∷ w.key.now ∷ []) (Some (place_by w.endpoint)) (g.F.Shelf.faults c.args.shelf.now) (g.F.Shelf.faults c.go_on-ended.new.shelf) S T
    e.record e.status c.go_on-ended.ensures.hands c.go_on-ended.ensures.faults c.keep_in_file.ensures

pub returns-clause-reported : goal.returns-clause-reported
returns-clause-reported g c =
    let w = c.args.words in
    let told = g.F.Shelf.files c.args.shelf.now in
    let S = g.W.Wire.state c.args.wire.now in
    let T = g.W.Wire.state c.go_on-ended.new.wire in
    let old = g.S.Store.state c.args.store.now in
    let new = g.S.Store.state c.keep_in_file.new.store in
    let e = c.go_on-ended.result in
    let IsRecord = IsRecordOf (ResumedIs w.narration.now w.name.now w.parked.now w.key.now) told S.left in
    let before = g.F.Shelf.faults c.args.shelf.now in
    let now = g.F.Shelf.faults c.go_on-ended.new.shelf in
    by_end c.args.file.now old new c.keep_in_file.result IsRecord (λ s. TellsFaults before now S T s) e.record e.status c.go_on-ended.ensures.hands c.keep_in_file.ensures
    (λ n was. still_reported before now S T n (Unwritten c.args.file.now) was) (λ n was. still_reported before now S T n NoMemory was) c.go_on-ended.ensures.reported

pub returns-clause-reached : goal.returns-clause-reached
returns-clause-reached g c =
    let w = c.args.words in
    let told = g.F.Shelf.files c.args.shelf.now in
    let S = g.W.Wire.state c.args.wire.now in
    let T = g.W.Wire.state c.go_on-ended.new.wire in
    let old = g.S.Store.state c.args.store.now in
    let new = g.S.Store.state c.keep_in_file.new.store in
    let e = c.go_on-ended.result in
    let IsRecord = IsRecordOf (ResumedIs w.narration.now w.name.now w.parked.now w.key.now) told S.left in
    by_end c.args.file.now old new c.keep_in_file.result IsRecord (λ s. Reaches (Some (place_by w.endpoint)) (phase_of s) S.reached T.reached) e.record e.status c.go_on-ended.ensures.hands c.keep_in_file.ensures
    (λ n was. was) (λ n was. inr was) c.go_on-ended.ensures.reached

pub returns-clause-touches : goal.returns-clause-touches
returns-clause-touches g c =
    let w = c.args.words in
    let told = g.F.Shelf.files c.args.shelf.now in
    let S = g.W.Wire.state c.args.wire.now in
    let T = g.W.Wire.state c.go_on-ended.new.wire in
    let old = g.S.Store.state c.args.store.now in
    let new = g.S.Store.state c.keep_in_file.new.store in
    let e = c.go_on-ended.result in
    let IsRecord = IsRecordOf (ResumedIs w.narration.now w.name.now w.parked.now w.key.now) told S.left in
    by_end c.args.file.now old new c.keep_in_file.result IsRecord (λ s. Touches true (phase_of s) S T) e.record e.status c.go_on-ended.ensures.hands c.keep_in_file.ensures
    (λ n was. was) (λ n was. still_touches true S T was) c.go_on-ended.ensures.touches

pub returns-clause-fetches : goal.returns-clause-fetches
returns-clause-fetches g c = c.go_on-ended.ensures.fetches
