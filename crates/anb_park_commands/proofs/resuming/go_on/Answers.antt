use Rattle.std.proofs.Common.{[], ◌∷◌, inl, inr, refl, ◌∙◌}
use Rattle.anb_base.proofs.Moving.{Rose-later}
use Rattle.anb_words.specs.Commands.{place_by}
use Rattle.anb_command.proofs.Chains.{told_map}
use Rattle.anb_command.proofs.Causes.{early_cause, early_reaches, only_memory, wire_cause}
use Rattle.anb_command.proofs.Failing.{IsFailure-map}
use Rattle.anb_command.proofs.OverWire.{untouched}
use Rattle.anb_park_commands.specs.Going.{plays_on, saved}
use Rattle.anb_park_commands.specs.ResumeCommand.{IsReadToResume, ResumedIs}
use Rattle.anb_park_commands.specs.Sessions.{GoesOn}
use Rattle.anb_park_commands.proofs.Answering.{parks_over, refuses_over}
use Rattle.anb_park_commands.proofs.Chains.{narration_read_again, record_read, resumed_given, resumed_no_part, resumed_refused, secret_read}
use Rattle.anb_park_commands.proofs.Completing.{completes_played, completes_refused}
use Rattle.anb_park_commands.proofs.Handing.{hands_early, hands_map, is_record_of}
use Rattle.anb_park_commands.proofs.Ready.{Keeps, goes_on_ready}
use Rattle.anb_park_commands.proofs.Tasks.{resumed_one, resumed_quiet}
use Rattle.anb_command.proofs.Reported.{told_before, told_behind}
use Rattle.anb_park_commands.proofs.resuming.go_on.Goals as goal

pub go_over-requires : goal.go_over-requires
go_over-requires g c =
    let (s, parked, have, small, is) = c.in-Ok-wake.ensures.awake in
    (c.in-Ok.owner.playable.code, s, _, parked.stands, small)

pub returns-in-Ok-wake-clause-does : goal.returns-in-Ok-wake-clause-does
returns-in-Ok-wake-clause-does g c =
    let words = c.args.words in
    let told = g.F.Shelf.files c.args.shelf.now in
    let owner = c.in-Ok.owner in
    let role = owner.playable in
    let awake = c.in-Ok-wake.awake in
    let (s, parked, have, small, is) = c.in-Ok-wake.ensures.awake in
    parks_over c.args.way GoesOn (ResumedIs words.narration.now words.name.now words.parked.now words.key.now) (IsReadToResume words.narration.now words.name.now words.parked.now words.key.now)
    (λ files. resumed_one c.narrations_are_unique.ensures c.refusals_are_unique.ensures c.none_is_both.ensures files words.narration.now words.name.now words.parked.now words.key.now)
    (λ files. resumed_quiet files words.narration.now words.name.now words.parked.now words.key.now)
    c.go_over.result.status (plays_on awake.live) (saved awake.key s) (Keeps role.code s) c.go_over.ensures.late told (g.W.Wire.state c.args.wire.now) (g.W.Wire.state c.go_over.new.wire)
    (told_map told (λ files has. goes_on_ready (ResumedIs words.narration.now words.name.now words.parked.now words.key.now files) role.code s awake.key has awake.live parked)
    (resumed_given told words.narration.now words.name.now words.parked.now words.key.now role.protocol role.role c.in-Ok.ensures.given owner.id c.in-Ok.ensures.identity role.code s awake.key c.in-Ok.ensures.runs have
    (rw c.owner_in_file.ensures.fetches.same_files at is)))
    (rw c.as_slice.ensures at (c.go_over.ensures.parks role.code s _ parked.stands)) c.go_over.ensures.prompt (c.go_over.ensures.kept role.code s _ parked.stands)

pub returns-in-Ok-wake-clause-faults : goal.returns-in-Ok-wake-clause-faults
returns-in-Ok-wake-clause-faults g c =
    let words = c.args.words in
    wire_cause (words.narration.now ∷ words.parked.now ∷ words.key.now ∷ []) (place_by words.endpoint) (g.F.Shelf.faults c.args.shelf.now) (g.F.Shelf.faults c.wake.new.shelf) (g.W.Wire.state c.args.wire.now) (g.W.Wire.state c.go_over.new.wire) c.go_over.result.status c.go_over.ensures.wire.cause

pub returns-in-Ok-wake-clause-completes : goal.returns-in-Ok-wake-clause-completes
returns-in-Ok-wake-clause-completes g c = λ none.
    let words = c.args.words in
    let told = g.F.Shelf.files c.args.shelf.now in
    let owner = c.in-Ok.owner in
    let role = owner.playable in
    let awake = c.in-Ok-wake.awake in
    let (s, parked, have, small, is) = c.in-Ok-wake.ensures.awake in
    completes_played c.args.way GoesOn (ResumedIs words.narration.now words.name.now words.parked.now words.key.now) (IsReadToResume words.narration.now words.name.now words.parked.now words.key.now)
    (λ files. resumed_one c.narrations_are_unique.ensures c.refusals_are_unique.ensures c.none_is_both.ensures files words.narration.now words.name.now words.parked.now words.key.now)
    told (g.W.Wire.state c.args.wire.now) (g.W.Wire.state c.go_over.new.wire) c.go_over.result.status (plays_on awake.live) (saved awake.key s) (Keeps role.code s)
    (told_map told (λ files has. goes_on_ready (ResumedIs words.narration.now words.name.now words.parked.now words.key.now files) role.code s awake.key has awake.live parked)
    (resumed_given told words.narration.now words.name.now words.parked.now words.key.now role.protocol role.role c.in-Ok.ensures.given owner.id c.in-Ok.ensures.identity role.code s awake.key c.in-Ok.ensures.runs have
    (rw c.owner_in_file.ensures.fetches.same_files at is)))
    (returns-in-Ok-wake-clause-does g c)
    (only_memory (words.narration.now ∷ words.parked.now ∷ words.key.now ∷ []) (place_by words.endpoint) (g.F.Shelf.faults c.args.shelf.now) (g.F.Shelf.faults c.wake.new.shelf) (g.W.Wire.state c.args.wire.now) (g.W.Wire.state c.go_over.new.wire) none c.go_over.result.status (returns-in-Ok-wake-clause-faults g c))

pub returns-in-Ok-wake-clause-reached : goal.returns-in-Ok-wake-clause-reached
returns-in-Ok-wake-clause-reached g c = c.go_over.ensures.wire.reached

pub returns-in-Ok-wake-clause-touches : goal.returns-in-Ok-wake-clause-touches
returns-in-Ok-wake-clause-touches g c = c.go_over.ensures.wire.touches

-- ---- a refusal of what is resumed

pub returns-clause-does : goal.returns-clause-does
returns-clause-does g c =
    let words = c.args.words in
    let told = g.F.Shelf.files c.args.shelf.now in
    let owner = c.in-Ok.owner in
    let role = owner.playable in
    let kept = c.owner_in_file.ensures.fetches in
    let s = c.in-Err-wake.status in
    refuses_over c.args.way GoesOn (ResumedIs words.narration.now words.name.now words.parked.now words.key.now) (IsReadToResume words.narration.now words.name.now words.parked.now words.key.now)
    (λ files. resumed_one c.narrations_are_unique.ensures c.refusals_are_unique.ensures c.none_is_both.ensures files words.narration.now words.name.now words.parked.now words.key.now)
    (λ files. resumed_quiet files words.narration.now words.name.now words.parked.now words.key.now)
    told (g.W.Wire.state c.args.wire.now) s
    (IsFailure-map s _ _ _ _
    (λ file at. elim at.0 [
      | inl is ↦ record_read told words.narration.now words.name.now words.parked.now words.key.now role.protocol role.role c.in-Ok.ensures.given file is
      | inr is ↦ secret_read told words.narration.now words.name.now words.parked.now words.key.now role.protocol role.role c.in-Ok.ensures.given file is.0 is.1
    ])
    (λ why. resumed_refused told words.narration.now words.name.now words.parked.now words.key.now role.protocol role.role c.in-Ok.ensures.given owner.id c.in-Ok.ensures.identity s why)
    (rw kept.same_files at c.in-Err-wake.ensures.refused))

pub returns-clause-faults : goal.returns-clause-faults
returns-clause-faults g c =
    let words = c.args.words in
    let kept = c.owner_in_file.ensures.fetches in
    early_cause (words.narration.now ∷ words.parked.now ∷ words.key.now ∷ []) (place_by words.endpoint) (g.F.Shelf.faults c.args.shelf.now) (g.F.Shelf.faults c.wake.new.shelf) (g.W.Wire.state c.args.wire.now) (g.W.Wire.state c.args.wire.now)
    c.in-Err-wake.status _ c.in-Err-wake.ensures.early
    (IsFailure-map c.in-Err-wake.status _ _ _ _
    (λ file at. (elim at.0 [ inl is ↦ inr (inl is) | inr is ↦ inr (inr (inl is.0)) ], Rose-later _ _ _ (kept.never_falls file) at.1)) (λ is. is) c.in-Err-wake.ensures.refused)

pub returns-clause-completes : goal.returns-clause-completes
returns-clause-completes g c = λ none.
    let words = c.args.words in
    let told = g.F.Shelf.files c.args.shelf.now in
    let owner = c.in-Ok.owner in
    let role = owner.playable in
    let s = c.in-Err-wake.status in
    completes_refused c.args.way GoesOn (ResumedIs words.narration.now words.name.now words.parked.now words.key.now) (IsReadToResume words.narration.now words.name.now words.parked.now words.key.now)
    (λ files. resumed_one c.narrations_are_unique.ensures c.refusals_are_unique.ensures c.none_is_both.ensures files words.narration.now words.name.now words.parked.now words.key.now)
    told (g.W.Wire.state c.args.wire.now) (g.W.Wire.state c.args.wire.now) s
    (only_memory (words.narration.now ∷ words.parked.now ∷ words.key.now ∷ []) (place_by words.endpoint) (g.F.Shelf.faults c.args.shelf.now) (g.F.Shelf.faults c.wake.new.shelf) (g.W.Wire.state c.args.wire.now) (g.W.Wire.state c.args.wire.now) none s (returns-clause-faults g c))
    (IsFailure-map s _ _ _ _ (λ file at. tt)
    (λ why. resumed_refused told words.narration.now words.name.now words.parked.now words.key.now role.protocol role.role c.in-Ok.ensures.given owner.id c.in-Ok.ensures.identity s why)
    (rw c.owner_in_file.ensures.fetches.same_files at c.in-Err-wake.ensures.refused))

pub returns-clause-reached : goal.returns-clause-reached
returns-clause-reached g c = early_reaches (place_by c.args.words.endpoint) c.in-Err-wake.status (g.W.Wire.state c.args.wire.now).reached c.in-Err-wake.ensures.early

pub returns-clause-touches : goal.returns-clause-touches
returns-clause-touches g c = untouched _ _ _

-- ---- a refusal of the role

pub returns-in-Err-clause-does : goal.returns-in-Err-clause-does
returns-in-Err-clause-does g c =
    let words = c.args.words in
    let told = g.F.Shelf.files c.args.shelf.now in
    refuses_over c.args.way GoesOn (ResumedIs words.narration.now words.name.now words.parked.now words.key.now) (IsReadToResume words.narration.now words.name.now words.parked.now words.key.now)
    (λ files. resumed_one c.narrations_are_unique.ensures c.refusals_are_unique.ensures c.none_is_both.ensures files words.narration.now words.name.now words.parked.now words.key.now)
    (λ files. resumed_quiet files words.narration.now words.name.now words.parked.now words.key.now)
    told (g.W.Wire.state c.args.wire.now) c.in-Err.status
    (IsFailure-map c.in-Err.status _ _ _ _ (λ file at. narration_read_again told words.narration.now words.name.now words.parked.now words.key.now file at.0)
    (λ is. resumed_no_part told words.narration.now words.name.now words.parked.now words.key.now c.in-Err.status is) c.in-Err.ensures.refused)

pub returns-in-Err-clause-faults : goal.returns-in-Err-clause-faults
returns-in-Err-clause-faults g c =
    let words = c.args.words in
    early_cause (words.narration.now ∷ words.parked.now ∷ words.key.now ∷ []) (place_by words.endpoint) (g.F.Shelf.faults c.args.shelf.now) (g.F.Shelf.faults c.owner_in_file.new.shelf) (g.W.Wire.state c.args.wire.now) (g.W.Wire.state c.args.wire.now)
    c.in-Err.status _ c.in-Err.ensures.early
    (IsFailure-map c.in-Err.status _ _ _ _ (λ file at. (inl at.0, at.1)) (λ is. is) c.in-Err.ensures.refused)

pub returns-in-Err-clause-completes : goal.returns-in-Err-clause-completes
returns-in-Err-clause-completes g c = λ none.
    let words = c.args.words in
    let told = g.F.Shelf.files c.args.shelf.now in
    completes_refused c.args.way GoesOn (ResumedIs words.narration.now words.name.now words.parked.now words.key.now) (IsReadToResume words.narration.now words.name.now words.parked.now words.key.now)
    (λ files. resumed_one c.narrations_are_unique.ensures c.refusals_are_unique.ensures c.none_is_both.ensures files words.narration.now words.name.now words.parked.now words.key.now)
    told (g.W.Wire.state c.args.wire.now) (g.W.Wire.state c.args.wire.now) c.in-Err.status
    (only_memory (words.narration.now ∷ words.parked.now ∷ words.key.now ∷ []) (place_by words.endpoint) (g.F.Shelf.faults c.args.shelf.now) (g.F.Shelf.faults c.owner_in_file.new.shelf) (g.W.Wire.state c.args.wire.now) (g.W.Wire.state c.args.wire.now) none c.in-Err.status (returns-in-Err-clause-faults g c))
    (IsFailure-map c.in-Err.status _ _ _ _ (λ file at. tt)
    (λ is. resumed_no_part told words.narration.now words.name.now words.parked.now words.key.now c.in-Err.status is) c.in-Err.ensures.refused)

pub returns-in-Err-clause-reached : goal.returns-in-Err-clause-reached
returns-in-Err-clause-reached g c = early_reaches (place_by c.args.words.endpoint) c.in-Err.status (g.W.Wire.state c.args.wire.now).reached c.in-Err.ensures.early

pub returns-in-Err-clause-touches : goal.returns-in-Err-clause-touches
returns-in-Err-clause-touches g c = untouched _ _ _

pub returns-in-Ok-wake-clause-reported : goal.returns-in-Ok-wake-clause-reported
returns-in-Ok-wake-clause-reported g c = told_behind _ _ _ _ _ (c.in-Ok-wake.ensures.told refl ∙ c.in-Ok.ensures.told refl) c.go_over.ensures.wire.told

pub returns-clause-reported : goal.returns-clause-reported
returns-clause-reported g c = told_before _ _ _ _ (λ other. c.in-Err-wake.ensures.told other ∙ c.in-Ok.ensures.told refl)

pub returns-in-Err-clause-reported : goal.returns-in-Err-clause-reported
returns-in-Err-clause-reported g c = told_before _ _ _ _ c.in-Err.ensures.told

-- ---- what is handed out

pub returns-in-Ok-wake-clause-hands : goal.returns-in-Ok-wake-clause-hands
returns-in-Ok-wake-clause-hands g c =
    let words = c.args.words in
    let told = g.F.Shelf.files c.args.shelf.now in
    let owner = c.in-Ok.owner in
    let role = owner.playable in
    let awake = c.in-Ok-wake.awake in
    let (s, parked, have, small, is) = c.in-Ok-wake.ensures.awake in
    hands_map c.args.way _ _ c.go_over.result.status c.go_over.result.record
    (λ record_bytes saved_so. is_record_of GoesOn (ResumedIs words.narration.now words.name.now words.parked.now words.key.now)
    (λ files. resumed_one c.narrations_are_unique.ensures c.refusals_are_unique.ensures c.none_is_both.ensures files words.narration.now words.name.now words.parked.now words.key.now)
    (plays_on awake.live) (saved awake.key s) (Keeps role.code s) told (g.W.Wire.state c.args.wire.now).left
    (told_map told (λ files has. goes_on_ready (ResumedIs words.narration.now words.name.now words.parked.now words.key.now files) role.code s awake.key has awake.live parked)
    (resumed_given told words.narration.now words.name.now words.parked.now words.key.now role.protocol role.role c.in-Ok.ensures.given owner.id c.in-Ok.ensures.identity role.code s awake.key c.in-Ok.ensures.runs have
    (rw c.owner_in_file.ensures.fetches.same_files at is)))
    record_bytes (rw c.as_slice.ensures at (saved_so role.code s _ parked.stands)))
    c.go_over.ensures.hands

pub returns-clause-hands : goal.returns-clause-hands
returns-clause-hands g c = hands_early c.args.way _ c.in-Err-wake.status c.in-Err-wake.ensures.early

pub returns-in-Err-clause-hands : goal.returns-in-Err-clause-hands
returns-in-Err-clause-hands g c = hands_early c.args.way _ c.in-Err.status c.in-Err.ensures.early
