use Rattle.std.proofs.Common.{◌∙◌, map, get_or, sym, ap, subst, refl, arith}
use Rattle.std.proofs.lemmas.List.{drop_all}
use Rattle.anb_protocol.specs.Schedules.{turn_of}
use Rattle.anb_honest.specs.Given.{items_of}
use Rattle.anb_honest.specs.Joint.{cast, outset, turns_of, walk}
use Rattle.anb_honest.specs.Inside.{Takes}
use Rattle.anb_honest.proofs.Joining.{ends_long, ends_walked, walk_on, walk_ends, read_again}
use Rattle.anb_honest.proofs.Staging.{ok_map}
use Rattle.anb_honest.proofs.rehearsing.rehearse.Goals as goal

pub returns-in-Some : goal.returns-in-Some
returns-in-Some c =
    let k = cast c.args.p.now c.args.codes.now c.args.atoms.now c.args.seed.now in
    let holds = c.protocols_hold.ensures c.args.p.now c.name.ensures.protocol in
    ends_long k c.deref-2.result.now holds.knows (ap (map items_of) c.deref-2.ensures.value ∙ c.in_ok-initial.ensures c.args.codes.now c.args.seed.now) c.args.turns.now c.in-Some.end
    (sym c.in-Some.is ∙ c.first_long.ensures)

pub stage-requires-clause-initial : goal.stage-requires-clause-initial
stage-requires-clause-initial c = (c.args.atoms.now, ap (map items_of) c.deref-4.ensures.value ∙ c.in_ok-initial.ensures c.args.codes.now c.args.seed.now)

pub loop-role-init : goal.loop-role-init
loop-role-init c = record {
  course = outset;
  stands = c.in_ok-stage.ensures c.args.atoms.now (ap (map items_of) c.deref-4.ensures.value ∙ c.in_ok-initial.ensures c.args.codes.now c.args.seed.now);
  walked = refl;
  counted = refl;
}

pub returns-in-Some-2 : goal.returns-in-Some-2
returns-in-Some-2 c =
    let k = cast c.args.p.now c.args.codes.now c.args.atoms.now c.args.seed.now in
    let holds = c.protocols_hold.ensures c.args.p.now c.name.ensures.protocol in
    let s = c.loop-role.invariant.course in
    let turns = c.args.turns.now in
    let i = c.loop-role.role-index in
    let role = get_or turns i 0 in
    let t = subst (Takes k s (turn_of k.protocol (turns_of s.moves) role) c.turn.new.self) c.in-Some-2.is (c.in_ok-end.ensures k s c.loop-role.invariant.stands) in
    let w = walk_ends k s turns i role (omega arith) (read_again turns i (omega arith)) (walk k outset turns) c.loop-role.invariant.walked c.in-Some-2.end t in
    ends_walked k c.deref-2.result.now holds.knows (ap (map items_of) c.deref-2.ensures.value ∙ c.in_ok-initial.ensures c.args.codes.now c.args.seed.now) turns c.in-Some-2.end
    (sym c.in_default.is ∙ c.first_long.ensures) w

pub loop-role-preserved : goal.loop-role-preserved
loop-role-preserved c =
    let k = cast c.args.p.now c.args.codes.now c.args.atoms.now c.args.seed.now in
    let s = c.loop-role.invariant.course in
    let turns = c.args.turns.now in
    let i = c.loop-role.role-index in
    let role = get_or turns i 0 in
    let g = subst (Takes k s (turn_of k.protocol (turns_of s.moves) role) c.turn.new.self) c.in_default-2.is (c.in_ok-end.ensures k s c.loop-role.invariant.stands) in
    record {
      course = g.next;
      stands = g.stands;
      walked = walk_on k s turns i role (omega arith) (read_again turns i (omega arith)) (walk k outset turns) c.loop-role.invariant.walked c.turn.new.self g;
      counted = omega (arith, g.counted, c.loop-role.invariant.counted);
    }

pub returns : goal.returns
returns c =
    let k = cast c.args.p.now c.args.codes.now c.args.atoms.now c.args.seed.now in
    let holds = c.protocols_hold.ensures c.args.p.now c.name.ensures.protocol in
    let s = c.loop-role.invariant.course in
    let turns = c.args.turns.now in
    let none = drop_all c.loop-role.role-index turns (omega arith) in
    ok_map c.end_of.result c.end_of.ensures (λ end f.
    ends_walked k c.deref-2.result.now holds.knows (ap (map items_of) c.deref-2.ensures.value ∙ c.in_ok-initial.ensures c.args.codes.now c.args.seed.now) turns end (sym c.in_default.is ∙ c.first_long.ensures)
    (f k s c.loop-role.invariant.stands ∙ ap (walk k s) (sym none) ∙ c.loop-role.invariant.walked))
