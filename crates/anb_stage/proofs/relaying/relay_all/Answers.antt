use Rattle.std.proofs.Common.{length, []}
use Rattle.std.proofs.lemmas.List.{length-map}
use Rattle.anb_stage.specs.Words.{asked_by, asked_lists}
use Rattle.anb_stage.specs.Notes.{notes_of}
use Rattle.anb_stage.proofs.Noting.{all_told, none_told, told_before}
use Rattle.anb_stage.proofs.Steps.{running_from}
use Rattle.anb_stage.proofs.Whole.{cut_after, running_after, refused_starting, refused_carrying, succeeded, refused_finishing}
use Rattle.anb_stage.proofs.relaying.relay_all.Goals as goal

pub returns-in-Err-clause-refused : goal.returns-in-Err-clause-refused
returns-in-Err-clause-refused g c =
    refused_starting (length c.args.words.now) c.requires.roles (asked_lists c.args.limit c.args.words.now) (length-map c.args.words.now (asked_by c.args.limit)) c.args.actions.now
    (g.P.Spawner.child c.args.spawner.now) (g.P.Spawner.child c.start_all.new.spawner) c.in-Err.no c.in-Err.ensures.failed

pub carry_all-requires-clause-running : goal.carry_all-requires-clause-running
carry_all-requires-clause-running g c =
    running_from (g.P.Spawner.child c.start_all.new.spawner) (length c.args.words.now) c.args.actions.now c.requires.roles c.requires.within c.in-Ok.ensures.started.phases

pub returns-in-Err-carry_all-clause-refused : goal.returns-in-Err-carry_all-clause-refused
returns-in-Err-carry_all-clause-refused g c =
    refused_carrying (length c.args.words.now) c.requires.roles (asked_lists c.args.limit c.args.words.now) (length-map c.args.words.now (asked_by c.args.limit)) c.args.actions.now
    (g.P.Spawner.child c.args.spawner.now) (g.P.Spawner.child c.start_all.new.spawner) c.in-Ok.ensures.started
    (g.P.Spawner.child c.carry_all.new.spawner) (c.carry_all.ensures.kept _ c.requires.roles c.requires.within) c.in-Err-carry_all.no
    (λ outputs tails cut. c.in-Err-carry_all.ensures.failed _ outputs tails c.requires.roles c.requires.within cut)
    (λ outputs tails cut heard. c.in-Err-carry_all.ensures.in_time _ outputs tails c.requires.roles c.requires.within cut heard)
    (c.in-Err-carry_all.ensures.cause _ c.requires.roles c.requires.within)
    c.in-Err-carry_all.ensures.reported

pub finish_all-requires-clause-running : goal.finish_all-requires-clause-running
finish_all-requires-clause-running g c =
    running_after (length c.args.words.now) c.requires.roles (asked_lists c.args.limit c.args.words.now) (length-map c.args.words.now (asked_by c.args.limit)) c.args.actions.now
    (g.P.Spawner.child c.args.spawner.now) (g.P.Spawner.child c.start_all.new.spawner) c.in-Ok.ensures.started
    (g.P.Spawner.child c.carry_all.new.spawner) (c.carry_all.ensures.kept _ c.requires.roles c.requires.within)

pub returns-in-Ok-finish_all-clause-report : goal.returns-in-Ok-finish_all-clause-report
returns-in-Ok-finish_all-clause-report g c outputs tails cut =
    c.in-Ok-carry_all.ensures.report _ outputs tails c.requires.roles c.requires.within
    (cut_after (length c.args.words.now) c.requires.roles (asked_lists c.args.limit c.args.words.now) (length-map c.args.words.now (asked_by c.args.limit)) c.args.actions.now
    (g.P.Spawner.child c.args.spawner.now) (g.P.Spawner.child c.start_all.new.spawner) c.in-Ok.ensures.started outputs tails cut)

pub returns-in-Ok-finish_all-clause-relayed : goal.returns-in-Ok-finish_all-clause-relayed
returns-in-Ok-finish_all-clause-relayed g c =
    succeeded (length c.args.words.now) c.requires.roles (asked_lists c.args.limit c.args.words.now) (length-map c.args.words.now (asked_by c.args.limit)) c.args.actions.now
    (g.P.Spawner.child c.args.spawner.now) (g.P.Spawner.child c.start_all.new.spawner) c.in-Ok.ensures.started
    (g.P.Spawner.child c.carry_all.new.spawner) (c.carry_all.ensures.kept _ c.requires.roles c.requires.within)
    (λ outputs tails cut. c.in-Ok-carry_all.ensures.carried _ outputs tails c.requires.roles c.requires.within cut)
    c.in-Ok-carry_all.ensures.quiet
    (g.P.Spawner.child c.finish_all.new.spawner) c.in-Ok-finish_all.ensures.finished

pub returns-in-Err-finish_all-clause-refused : goal.returns-in-Err-finish_all-clause-refused
returns-in-Err-finish_all-clause-refused g c =
    refused_finishing (length c.args.words.now) c.requires.roles (asked_lists c.args.limit c.args.words.now) (length-map c.args.words.now (asked_by c.args.limit)) c.args.actions.now
    (g.P.Spawner.child c.args.spawner.now) (g.P.Spawner.child c.start_all.new.spawner) c.in-Ok.ensures.started
    (g.P.Spawner.child c.carry_all.new.spawner) (c.carry_all.ensures.kept _ c.requires.roles c.requires.within)
    (λ outputs tails cut. c.in-Ok-carry_all.ensures.carried _ outputs tails c.requires.roles c.requires.within cut)
    c.in-Ok-carry_all.ensures.quiet
    (g.P.Spawner.child c.finish_all.new.spawner) c.in-Err-finish_all.no c.in-Err-finish_all.ensures.failed

pub returns-in-Err-clause-told_so_far : goal.returns-in-Err-clause-told_so_far
returns-in-Err-clause-told_so_far g c = (
  [],
  none_told c.args.actions.now (length c.args.words.now) (g.P.Spawner.child c.args.spawner.now) (g.P.Spawner.child c.start_all.new.spawner) (asked_lists c.args.limit c.args.words.now) c.in-Err.no c.in-Err.ensures.failed,
  g.met.L.Log.stays c.args.log.now,
)

pub returns-in-Err-carry_all-clause-told_so_far : goal.returns-in-Err-carry_all-clause-told_so_far
returns-in-Err-carry_all-clause-told_so_far g c =
    let t = c.in-Err-carry_all.ensures.told_so_far _ c.requires.roles c.requires.within in (
      t.0,
      told_before c.args.actions.now (length c.args.words.now) (g.P.Spawner.child c.args.spawner.now) (g.P.Spawner.child c.start_all.new.spawner) c.in-Err-carry_all.no t.0
          (cut_after (length c.args.words.now) c.requires.roles (asked_lists c.args.limit c.args.words.now) (length-map c.args.words.now (asked_by c.args.limit)) c.args.actions.now
          (g.P.Spawner.child c.args.spawner.now) (g.P.Spawner.child c.start_all.new.spawner) c.in-Ok.ensures.started) t.1,
      t.2,
    )

pub returns-in-Err-finish_all-clause-told_so_far : goal.returns-in-Err-finish_all-clause-told_so_far
returns-in-Err-finish_all-clause-told_so_far g c = (
  notes_of c.args.actions.now c.in-Ok-carry_all.sent.items,
  all_told c.args.actions.now (length c.args.words.now) (g.P.Spawner.child c.args.spawner.now) c.in-Ok-carry_all.sent.items c.in-Ok-carry_all.ensures.count
      (λ outputs tails cut. c.in-Ok-carry_all.ensures.report _ outputs tails c.requires.roles c.requires.within
      (cut_after (length c.args.words.now) c.requires.roles (asked_lists c.args.limit c.args.words.now) (length-map c.args.words.now (asked_by c.args.limit)) c.args.actions.now
      (g.P.Spawner.child c.args.spawner.now) (g.P.Spawner.child c.start_all.new.spawner) c.in-Ok.ensures.started outputs tails cut))
      (g.P.Spawner.child c.carry_all.new.spawner) (g.P.Spawner.child c.finish_all.new.spawner) c.in-Err-finish_all.no c.in-Err-finish_all.ensures.failed,
  c.in-Ok-carry_all.ensures.told,
)
