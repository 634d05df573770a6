use Rattle.std.proofs.Common.{◌≡◌, ◌∙◌, List, [], length, subst, arith, IfOk}
use Rattle.std.specs.Prelude.{IfErr}
use Rattle.anb_stage.proofs.Within.{ends_within}
use Rattle.anb_stage.specs.Notes.{IsTold, Note, notes_of}
use Rattle.anb_stage.specs.Relays.{ends_in, report}
use Rattle.anb_stage.specs.declared.refusal.RelayNo.TheVariants as no
use Rattle.anb_stage.proofs.Noting.{nothing_told}
use Rattle.anb_stage.specs.declared.ends.Ends.{Ends}
use Rattle.anb_stage.proofs.stage.relay_telling.Goals as goal

pub relay_all-requires-clause-within : goal.relay_all-requires-clause-within
relay_all-requires-clause-within g c =
    rw (c.deref.ensures.value, c.in-Ok.ensures, c.requires.words)
    (ends_within c.args.p.now c.args.p.now.actions (c.protocols_hold.ensures c.args.p.now c.name.ensures.protocol).ends)

pub returns-clause-report : goal.returns-clause-report
returns-clause-report g c = λ outputs tails cut.
    subst (λ (actions : List Ends). IfOk c.relay_all.result (λ sent. sent.items ≡ report outputs actions)) (c.deref.ensures.value ∙ c.in-Ok.ensures)
    (c.relay_all.ensures.report outputs tails cut)

pub returns-in_default-clause-told_so_far : goal.returns-in_default-clause-told_so_far
returns-in_default-clause-told_so_far g c =
    ([], nothing_told (ends_in c.args.p.now) (length c.args.words.now) (g.P.Spawner.child c.args.spawner.now) no.NoMemory (omega arith), g.met.L.Log.stays c.args.log.now)

pub returns-in_default-vec-clause-told_so_far : goal.returns-in_default-vec-clause-told_so_far
returns-in_default-vec-clause-told_so_far g c =
    ([], nothing_told (ends_in c.args.p.now) (length c.args.words.now) (g.P.Spawner.child c.args.spawner.now) no.NoMemory (omega arith), g.met.L.Log.stays c.args.log.now)

pub returns-clause-told : goal.returns-clause-told
returns-clause-told g c =
    subst (λ (actions : List Ends). IfOk c.relay_all.result (λ sent. g.L.Log.After c.args.log.now (notes_of actions sent.items) c.relay_all.new.log)) (c.deref.ensures.value ∙ c.in-Ok.ensures) c.relay_all.ensures.told

pub returns-clause-count : goal.returns-clause-count
returns-clause-count g c =
    subst (λ (actions : List Ends). IfOk c.relay_all.result (λ sent. length sent.items ≡ length actions)) (c.deref.ensures.value ∙ c.in-Ok.ensures) c.relay_all.ensures.count

pub returns-clause-told_so_far : goal.returns-clause-told_so_far
returns-clause-told_so_far g c =
    subst (λ (actions : List Ends). IfErr c.relay_all.result (λ no. (told : List Note) × IsTold actions (length c.args.words.now) (g.P.Spawner.child c.args.spawner.now) no told × g.L.Log.After c.args.log.now told c.relay_all.new.log))
    (c.deref.ensures.value ∙ c.in-Ok.ensures) c.relay_all.ensures.told_so_far
