use Rattle.std.proofs.Common.{◌∙◌, refl, inl, inr}
use Rattle.std.proofs.lemmas.List.{length-map}
use Rattle.anb_stage.specs.Words.{asked_by}
use Rattle.anb_stage_commands.specs.Asking.{scene_of, staged}
use Rattle.anb_stage_commands.proofs.Kept.{kept_of, misses_there, no_memory_before, others_same}
use Rattle.anb_stage_commands.proofs.into.recorded.Goals as goal

pub returns-in-Went-clause-kept : goal.returns-in-Went-clause-kept
returns-in-Went-clause-kept g c =
    let w = c.record_on.ensures.went in
    rw w.1
    (kept_of c.args.words.limit c.args.folder.now (scene_of c.args.words.limit c.args.scene.now) (g.P.Spawner.child c.args.spawner.now) (g.P.Spawner.child c.record_on.new.spawner) c.in-Ok.files.items
    (rw c.roles.ensures at c.in-Ok.ensures) (g.J.Store.state c.args.journal.now) (g.J.Store.state c.make_all.new.journal) (g.J.Store.state c.record_on.new.journal) c.in-Went.lack w.0
    (rw c.deref.ensures.value at c.in-Went.ensures.made) c.record_on.result.outcome w.2)

pub returns-in-First-clause-failed : goal.returns-in-First-clause-failed
returns-in-First-clause-failed g c =
    rw c.unstarted-in-First.ensures.outcome
    (no_memory_before (staged c.args.words) (g.P.Spawner.child c.args.spawner.now) (scene_of c.args.words.limit c.args.scene.now) c.has_few_roles.ensures
    (length-map c.args.scene.now.words.items (asked_by c.args.words.limit) ∙ c.requires.counts) c.requires.new)

pub returns-in-Second-clause-failed : goal.returns-in-Second-clause-failed
returns-in-Second-clause-failed g c =
    rw c.unstarted-in-Second.ensures.outcome
    (no_memory_before (staged c.args.words) (g.P.Spawner.child c.args.spawner.now) (scene_of c.args.words.limit c.args.scene.now) c.has_few_roles.ensures
    (length-map c.args.scene.now.words.items (asked_by c.args.words.limit) ∙ c.requires.counts) c.requires.new)

pub returns-in-First-clause-kept : goal.returns-in-First-clause-kept
returns-in-First-clause-kept g c =
    let m = rw c.deref.ensures.value at c.in-First.ensures.made in
    rw (c.unstarted-in-First.ensures.missing, c.unstarted-in-First.ensures.outcome, c.lined.ensures, m.1) (
      misses_there c.args.folder.now c.args.scene.now.protocol.roles c.in-Ok.files.items (rw c.roles.ensures at c.in-Ok.ensures) (g.P.Spawner.child c.args.spawner.now) (g.P.Spawner.child c.args.spawner.now)
          (g.J.Store.state c.args.journal.now) (g.J.Store.state c.make_all.new.journal) _ c.in-First.place m.0 m.0.lined m.1 (inl refl) refl m.2 m.3 (λ role below. refl),
      others_same c.args.folder.now c.args.scene.now.protocol.roles c.in-Ok.files.items (rw c.roles.ensures at c.in-Ok.ensures) (g.P.Spawner.child c.args.spawner.now) (g.P.Spawner.child c.args.spawner.now)
          (g.J.Store.state c.args.journal.now) (g.J.Store.state c.make_all.new.journal) ⊥ m.2.others,
      λ is. absurd (let never = is in cc),
    )

pub returns-in-Second-clause-kept : goal.returns-in-Second-clause-kept
returns-in-Second-clause-kept g c =
    let m = rw c.deref.ensures.value at c.in-Second.ensures.made in
    rw (c.unstarted-in-Second.ensures.missing, c.unstarted-in-Second.ensures.outcome, c.beside.ensures, m.1) (
      misses_there c.args.folder.now c.args.scene.now.protocol.roles c.in-Ok.files.items (rw c.roles.ensures at c.in-Ok.ensures) (g.P.Spawner.child c.args.spawner.now) (g.P.Spawner.child c.args.spawner.now)
          (g.J.Store.state c.args.journal.now) (g.J.Store.state c.make_all.new.journal) _ c.in-Second.place m.0 m.0.beside m.1 (inr refl) refl m.2 m.3 (λ role below. refl),
      others_same c.args.folder.now c.args.scene.now.protocol.roles c.in-Ok.files.items (rw c.roles.ensures at c.in-Ok.ensures) (g.P.Spawner.child c.args.spawner.now) (g.P.Spawner.child c.args.spawner.now)
          (g.J.Store.state c.args.journal.now) (g.J.Store.state c.make_all.new.journal) ⊥ m.2.others,
      λ is. absurd (let never = is in cc),
    )
