-- One act more, and all of them.
use Rattle.std.proofs.Common.{◌≡◌, ◌+◌, length, map, take, drop, true, Some, refl, sym, subst, arith}
use Rattle.std.proofs.lemmas.List.{length-map}
use Rattle.anb_lemmas.proofs.Lists.{drop_at_got, take_got}
use Rattle.anb_term.specs.View.{tree_of}
use Rattle.anb_term.specs.FreeAlgebra.{terms}
use Rattle.anb_term.proofs.Lists.{slice_get-at, slice_get-map}
use Rattle.anb_code.specs.Meaning.{act_of}
use Rattle.anb_openings.specs.Steps.{after_all}
use Rattle.anb_openings.specs.Walks.{progress, AreReady, HasGone}
use Rattle.anb_openings.proofs.Gone.{all_gone, one_walked, one_wider, stuck}
use Rattle.anb_openings.proofs.Readying.{ready_behind, ready_first}
use Rattle.anb_openings.proofs.walking.walk_over.Goals as goal

pub step-requires-clause-ready : goal.step-requires-clause-ready
step-requires-clause-ready c =
    let f = act_of c.args.formats.now in
    let acts = map f c.args.instrs.now in
    let i = c.loop-i.i in
    let x = c.index-instrs-i.result in
    let here = slice_get-map f c.args.instrs.now i x (slice_get-at c.args.instrs.now i x (omega arith) c.index-instrs-i.is) in
    let left = ready_behind (λ o. true) acts i (length c.args.walk.now.table.items) c.requires.ready in
    let now = subst (λ n. AreReady (drop i acts) n) (sym c.loop-i.invariant.long) left in
    (ready_first (λ o. true) (f x) (drop (i + 1) acts) (length c.loop-i.walk.table.items) (subst (λ l. AreReady l (length c.loop-i.walk.table.items)) (drop_at_got acts i (f x) here) now)).0

pub returns-then-not-branch : goal.returns-then-not-branch
returns-then-not-branch c =
    let f = act_of c.args.formats.now in
    let i = c.loop-i.i in
    let x = c.index-instrs-i.result in
    record {
      act = f x;
      here = slice_get-map f c.args.instrs.now i x (slice_get-at c.args.instrs.now i x (omega arith) c.index-instrs-i.is);
      reached = progress c.args.arrivals.now c.loop-i.walk;
      comes = c.loop-i.invariant.goes;
      stuck = stuck c.args.made.now c.args.arrivals.now (f x) c.loop-i.walk c.step.new.walk c.in_ok-step.field-0 c.if-not-branch.true c.in_ok-step.ensures;
    }

pub loop-i-preserved : goal.loop-i-preserved
loop-i-preserved c =
    let f = act_of c.args.formats.now in
    let acts = map f c.args.instrs.now in
    let i = c.loop-i.i in
    let x = c.index-instrs-i.result in
    let here = slice_get-map f c.args.instrs.now i x (slice_get-at c.args.instrs.now i x (omega arith) c.index-instrs-i.is) in
    let start = progress c.args.arrivals.now c.args.walk.now in
    let new = c.step.new.walk in
    let gone : HasGone c.args.made.now c.args.arrivals.now (f x) c.loop-i.walk new true = subst (HasGone c.args.made.now c.args.arrivals.now (f x) c.loop-i.walk new) c.if-not-branch.false c.in_ok-step.ensures in
    let more = take_got acts i (f x) here in
    record {
      goes = subst (λ l. after_all terms (map tree_of c.args.made.now) l start ≡ Some (progress c.args.arrivals.now new)) (sym more) (one_walked c.args.made.now c.args.arrivals.now (f x) (take i acts) start c.loop-i.walk new c.loop-i.invariant.goes gone);
      long = one_wider (f x) (take i acts) (take (i + 1) acts) (length c.args.walk.now.table.items) (length c.loop-i.walk.table.items) (length new.table.items) more c.loop-i.invariant.long (gone.long refl);
    }

pub returns : goal.returns
returns c =
    let acts = map (act_of c.args.formats.now) c.args.instrs.now in
    all_gone c.args.made.now c.args.arrivals.now acts c.loop-i.i c.args.walk.now c.loop-i.walk (omega (arith, length-map c.args.instrs.now (act_of c.args.formats.now))) c.loop-i.invariant.goes c.loop-i.invariant.long
