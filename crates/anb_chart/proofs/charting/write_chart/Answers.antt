use Rattle.std.proofs.Common.{List, ℕ, [], codes, ap, refl}
use Rattle.std.specs.List.{flat_map}
use Rattle.anb_protocol.specs.Choices.{each_after}
use Rattle.anb_text.proofs.Written.{due_as, last_part, not_all, one_part, same_written}
use Rattle.anb_chart.specs.Charts.{action_text, chart, participant_line}
use Rattle.anb_chart.proofs.charting.write_chart.Goals as goal

pub returns-in-Err-write_bytes-clause-written : goal.returns-in-Err-write_bytes-clause-written
returns-in-Err-write_bytes-clause-written g c =
    let p = c.args.protocol.now in
    not_all (chart p) _ _ _ _ _ _ (codes "sequenceDiagram\n") _ (due_as (chart p) _ _ _ refl) c.in-Err-write_bytes.no c.in-Err-write_bytes.ensures.written

pub returns-in-Err-write_participants-clause-written : goal.returns-in-Err-write_participants-clause-written
returns-in-Err-write_participants-clause-written g c =
    let p = c.args.protocol.now in
    let d1 = one_part (chart p) _ _ _ _ _ _ (codes "sequenceDiagram\n") _ (due_as (chart p) _ _ _ refl) c.in-Ok-write_bytes.field-0 c.in-Ok-write_bytes.ensures.written in
    let roles = ap (λ (l : List (List ℕ)). flat_map participant_line l) c.roles.ensures in
    not_all (chart p) _ _ _ _ _ _ (flat_map participant_line p.roles) _ d1 c.in-Err-write_participants.no (same_written _ _ _ _ _ _ _ roles c.in-Err-write_participants.ensures.written)

pub returns-clause-written : goal.returns-clause-written
returns-clause-written g c =
    let p = c.args.protocol.now in
    let d1 = one_part (chart p) _ _ _ _ _ _ (codes "sequenceDiagram\n") _ (due_as (chart p) _ _ _ refl) c.in-Ok-write_bytes.field-0 c.in-Ok-write_bytes.ensures.written in
    let roles = ap (λ (l : List (List ℕ)). flat_map participant_line l) c.roles.ensures in
    let d2 = one_part (chart p) _ _ _ _ _ _ (flat_map participant_line p.roles) _ d1 c.in-Ok-write_participants.field-0 (same_written _ _ _ _ _ _ _ roles c.in-Ok-write_participants.ensures.written) in
    last_part (chart p) _ _ _ _ _ _ (each_after (action_text p) [] p.actions) d2 c.write_actions.result c.write_actions.ensures.written
