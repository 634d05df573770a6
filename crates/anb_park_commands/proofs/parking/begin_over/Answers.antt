use Rattle.std.proofs.Common.{ℕ, List, [], refl, subst, true}
use Rattle.anb_role_commands.specs.Playing.{play_by}
use Rattle.anb_park.specs.Lives.{Stands, started}
use Rattle.anb_command.proofs.OverWire.{no_memory}
use Rattle.anb_command.proofs.Prompt.{prompt_nowhere}
use Rattle.anb_park_commands.specs.Going.{begun, saved}
use Rattle.anb_park_commands.proofs.Handing.{hands_map}
use Rattle.anb_park_commands.proofs.Reached.{parks_begun, parks_nowhere, prompt_begun}
use Rattle.anb_park_commands.proofs.parking.begin_over.Goals as goal

pub go_over-requires : goal.go_over-requires
go_over-requires g c =
    let b = c.args.beginning.now in
    let p = b.prepared in
    (p.code, begun b.id p.seed p.initial, [], subst (λ (init : List (List ℕ)). Stands p.code (started b.id init p.seed 0) [] c.in-Ok.live) c.as_slice-initial.ensures c.in-Ok.ensures.stands, c.requires.small)

pub returns-in-Ok-clause-parks : goal.returns-in-Ok-clause-parks
returns-in-Ok-clause-parks g c =
    let b = c.args.beginning.now in
    let p = b.prepared in
    let stands = subst (λ (init : List (List ℕ)). Stands p.code (started b.id init p.seed 0) [] c.in-Ok.live) c.as_slice-initial.ensures c.in-Ok.ensures.stands in
    parks_begun p.code b.id p.seed p.initial c.in-Ok.live stands c.args.way (saved b.key (begun b.id p.seed p.initial)) (g.W.Wire.state c.args.wire.now) (g.W.Wire.state c.go_over.new.wire) c.go_over.result.status
    (rw c.as_slice.ensures at (c.go_over.ensures.parks p.code (begun b.id p.seed p.initial) [] stands))

pub returns-in-Ok-clause-hands : goal.returns-in-Ok-clause-hands
returns-in-Ok-clause-hands g c =
    let b = c.args.beginning.now in
    let p = b.prepared in
    let stands = subst (λ (init : List (List ℕ)). Stands p.code (started b.id init p.seed 0) [] c.in-Ok.live) c.as_slice-initial.ensures c.in-Ok.ensures.stands in
    hands_map c.args.way _ _ c.go_over.result.status c.go_over.result.record
    (λ record_bytes is. rw c.as_slice.ensures at (is p.code (begun b.id p.seed p.initial) [] stands)) c.go_over.ensures.hands

pub returns-in-Ok-clause-kept : goal.returns-in-Ok-clause-kept
returns-in-Ok-clause-kept g c =
    let b = c.args.beginning.now in
    let p = b.prepared in
    let stands = subst (λ (init : List (List ℕ)). Stands p.code (started b.id init p.seed 0) [] c.in-Ok.live) c.as_slice-initial.ensures c.in-Ok.ensures.stands in
    c.go_over.ensures.kept p.code (begun b.id p.seed p.initial) [] stands

pub returns-in-Ok-clause-prompt : goal.returns-in-Ok-clause-prompt
returns-in-Ok-clause-prompt g c =
    let b = c.args.beginning.now in
    let p = b.prepared in
    let stands = subst (λ (init : List (List ℕ)). Stands p.code (started b.id init p.seed 0) [] c.in-Ok.live) c.as_slice-initial.ensures c.in-Ok.ensures.stands in
    prompt_begun p.code b.id p.seed p.initial c.in-Ok.live stands (g.W.Wire.state c.args.wire.now) (g.W.Wire.state c.go_over.new.wire) c.go_over.ensures.prompt

pub returns-in-Ok-clause-late : goal.returns-in-Ok-clause-late
returns-in-Ok-clause-late g c = c.go_over.ensures.late

pub returns-in-Ok-clause-wire : goal.returns-in-Ok-clause-wire
returns-in-Ok-clause-wire g c = c.go_over.ensures.wire

pub returns-in-Err-clause-parks : goal.returns-in-Err-clause-parks
returns-in-Err-clause-parks g c =
    let b = c.args.beginning.now in
    let p = b.prepared in
    parks_nowhere c.args.way (play_by p.code p.initial p.seed) (saved b.key (begun b.id p.seed p.initial)) (g.W.Wire.state c.args.wire.now)

pub returns-in-Err-clause-kept : goal.returns-in-Err-clause-kept
returns-in-Err-clause-kept g c = λ e arrivals tail is cut. absurd (cc)

pub returns-in-Err-clause-prompt : goal.returns-in-Err-clause-prompt
returns-in-Err-clause-prompt g c =
    let p = c.args.beginning.now.prepared in
    prompt_nowhere (play_by p.code p.initial p.seed) (g.W.Wire.state c.args.wire.now) (g.W.Wire.state c.args.wire.now) refl refl

pub returns-in-Err-clause-wire : goal.returns-in-Err-clause-wire
returns-in-Err-clause-wire g c = no_memory _ true (g.W.Wire.state c.args.wire.now)
