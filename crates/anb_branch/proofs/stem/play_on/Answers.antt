use Rattle.std.proofs.Common.{ℕ, List, sym, ap, refl}
use Rattle.std.specs.Prelude.{[], ◌∷◌}
use Rattle.anb_plays.specs.Runs.{without_place}
use Rattle.anb_machine.specs.Machines.{gives}
use Rattle.anb_session.proofs.Faults.{wants_memory}
use Rattle.anb_session.proofs.Turning.{closes_wanting}
use Rattle.anb_branch.proofs.Turns.{closes_as}
use Rattle.anb_branch.proofs.stem.play_on.Goals as goal

pub returns-in-Ok-clause-closes : goal.returns-in-Ok-clause-closes
returns-in-Ok-clause-closes g c =
    let old = g.P.Playable.machine c.args.played.now in
    let new = g.P.Playable.machine c.arrive.new.self in
    closes_as (λ (more : List (List ℕ)). without_place (gives new more)) (λ (more : List (List ℕ)). without_place (gives old (c.args.arrival ∷ more)))
    (g.W.Wire.state c.args.wire.now) (g.W.Wire.state c.play_whole.new.wire) c.play_whole.result (λ more. ap without_place (sym (c.in-Ok.ensures.gives more))) c.play_whole.ensures.closes

pub returns-in-Ok-clause-came : goal.returns-in-Ok-clause-came
returns-in-Ok-clause-came g c = λ some.
    let came = c.play_whole.ensures.came some in
    record {
      stop = came.stop;
      is = came.is;
      used = came.used;
      follows = g.met.P.Playable.joined c.args.played.now c.arrive.new.self c.play_whole.new.played (c.args.arrival ∷ []) came.used c.in-Ok.ensures.followed came.follows;
      first = came.first;
      stands = came.stands;
      awaits = came.awaits;
    }

pub returns-in-Err-clause-closes : goal.returns-in-Err-clause-closes
returns-in-Err-clause-closes g c = closes_wanting (λ (more : List (List ℕ)). without_place (gives (g.P.Playable.machine c.args.played.now) (c.args.arrival ∷ more))) (g.W.Wire.state c.args.wire.now)

pub returns-in-Err-clause-came : goal.returns-in-Err-clause-came
returns-in-Err-clause-came g c = λ some. absurd (some refl)

pub returns-in-Err-clause-faults : goal.returns-in-Err-clause-faults
returns-in-Err-clause-faults g c = wants_memory (g.W.Wire.state c.args.wire.now)
