use Rattle.std.proofs.Common.{◌≤◌, ◌∙◌, ap, sym, arith, subst, List, ℕ, length, replicate, Option, None, refl}
use Rattle.std.specs.Prelude.{All, filter_map}
use Rattle.std.proofs.lemmas.List.{length-map}
use Rattle.std.proofs.lemmas.Option.{slice_get_read}
use Rattle.anb_base.specs.declared.TheConstants.{ARRIVAL}
use Rattle.anb_machine.specs.ByteRuns.{run_bytes}
use Rattle.anb_protocol.specs.Plans.{plan_of}
use Rattle.anb_protocol.specs.Texts.{known_by}
use Rattle.anb_honest.specs.declared.player.Player.{Player}
use Rattle.anb_honest.specs.Given.{items_of}
use Rattle.anb_honest.specs.Joint.{cast, init_of, given_bytes}
use Rattle.anb_honest.specs.Inside.{part_of}
use Rattle.anb_honest.proofs.Begun.{takes_of, player_new}
use Rattle.anb_honest.proofs.Setting.{ranged, initial_at, stands_first, players_next, none_long_is_short, none_long_at, long_as, long_is}
use Rattle.anb_honest.proofs.beginning.stage.Goals as goal

pub bounds-initial-role : goal.bounds-initial-role
bounds-initial-role c =
    let k = cast c.args.p.now c.args.codes.now c.requires.initial.0 c.args.seed.now in
    let n = long_as items_of (init_of k) c.args.initial.now (length c.args.p.now.roles) c.requires.initial.1 in
    omega (arith, n, c.requires.codes.count)

pub start-requires-clause-count : goal.start-requires-clause-count
start-requires-clause-count c =
    let p = c.args.p.now in
    let r = c.loop-role.role in
    let code = c.index-codes-role.result in
    let k = cast p c.args.codes.now c.requires.initial.0 c.args.seed.now in
    let v = initial_at k c.args.initial.now (length p.roles) r c.index-initial-role.result c.requires.initial.1 (omega (arith, c.requires.codes.count)) c.index-initial-role.is in
    let follows = c.requires.codes.each r code (slice_get_read c.args.codes.now (length c.args.codes.now) r code refl (omega arith) c.index-codes-role.is) in
    ap length (c.deref.ensures.value ∙ v) ∙ length-map (known_by p r) (given_bytes k) ∙ sym (takes_of p r code follows)

pub start-requires-clause-short : goal.start-requires-clause-short
start-requires-clause-short c =
    let k = cast c.args.p.now c.args.codes.now c.requires.initial.0 c.args.seed.now in
    let n = long_as items_of (init_of k) c.args.initial.now (length c.args.p.now.roles) c.requires.initial.1 in
    subst (λ l. All (λ (x : List ℕ). length x ≤ ARRIVAL) l) (sym c.deref.ensures.value)
    (none_long_is_short c.index-initial-role.result.items
    (none_long_at c.args.initial.now c.loop-role.role c.index-initial-role.result c.requires.short (omega (arith, n, c.requires.codes.count)) c.index-initial-role.is))

pub bounds-plans-role : goal.bounds-plans-role
bounds-plans-role c =
    let n = long_is (plan_of c.args.p.now) c.args.plans.now (length c.args.p.now.roles) c.requires.plans in
    omega (arith, n, c.requires.codes.count)

pub loop-role-preserved : goal.loop-role-preserved
loop-role-preserved c =
    let p = c.args.p.now in
    let r = c.loop-role.role in
    let code = c.index-codes-role.result in
    let there = slice_get_read c.args.codes.now (length c.args.codes.now) r code refl (omega arith) c.index-codes-role.is in
    let plan = ranged (plan_of p) c.args.plans.now (length p.roles) r c.index-plans-role.result c.requires.plans (omega (arith, c.requires.codes.count)) c.index-plans-role.is in
    record {
      count = omega (arith, c.in_ok-push.ensures.len, c.push.new.self.ok.0, c.loop-role.players.ok.0, c.loop-role.invariant.count);
      each = λ values e.
          let k = cast p c.args.codes.now values c.args.seed.now in
          let v = initial_at k c.args.initial.now (length p.roles) r c.index-initial-role.result e (omega (arith, c.requires.codes.count)) c.index-initial-role.is in
          let pl : Player = record { machine = c.in_ok-start.field-0; parts = c.in_ok-parts_of.field-0; done = 0 } in
          players_next k c.loop-role.players.items c.push.new.self.items r pl c.loop-role.invariant.count c.in_ok-push.ensures.items (c.loop-role.invariant.each values e)
          (player_new k r code pl there (c.requires.codes.each r code there) c.instrs.ensures.verified refl
          (c.in_ok-parts_of.ensures r ∙ ap (filter_map (part_of r)) plan)
          (λ arrivals. c.in_ok-start.ensures.run arrivals ∙ ap (λ l. run_bytes code l c.args.seed.now r arrivals) (c.deref.ensures.value ∙ v)));
    }

pub returns : goal.returns
returns c = λ values e.
    stands_first (cast c.args.p.now c.args.codes.now values c.args.seed.now) _ c.requires.holds.roles c.requires.holds.actions (omega (arith, c.requires.codes.count, c.loop-role.invariant.count)) (c.loop-role.invariant.each values e)
    (c.in_ok-no_messages.ensures ∙ ap (λ (n : ℕ). replicate {A = Option (List ℕ)} n None) c.actions.ensures) refl refl
