use Rattle.std.proofs.Common.{◌+◌, ◌++◌, [], arith, subst, sym, ◌∙◌, refl}
use Rattle.std.proofs.lemmas.Option.{slice_get-get_or}
use Rattle.std.proofs.lemmas.List.{append-nil}
use Rattle.anb_close.specs.Spreading.{IsSpreading, IsLeft}
use Rattle.anb_close.proofs.Spreading.{visited, visit_fewer, more_told, more_later, none_later}
use Rattle.anb_close.proofs.spread.visit_all.Goals as goal

pub loop-n-init : goal.loop-n-init
loop-n-init c = record {
  long = c.requires.long;
  places = λ rs h. h;
  fewer = refl;
  later = [];
  is = sym (append-nil c.args.told.now.items);
  step = λ rs old before h. none_later rs c.args.pool.now old c.args.standings.now.items before (IsLeft c.args.work.now.items c.args.x c.args.numbers.now 0) h;
}

pub returns-in_err-visit-clause-places : goal.returns-in_err-visit-clause-places
returns-in_err-visit-clause-places c rs h = c.in_err-visit.ensures.places rs (c.loop-n.invariant.places rs h)

pub loop-n-preserved : goal.loop-n-preserved
loop-n-preserved c =
    let i = c.loop-n.invariant in
    let e = c.in_ok-visit.ensures in
    let ns = c.args.numbers.now in
    let k = c.loop-n.n-index in
    let ts = c.args.pool.now in
    let here = slice_get-get_or ns k 0 (omega arith) in
    let v = visited ts c.loop-n.standings.items c.visit.new.standings.items c.loop-n.told.items c.visit.new.told.items c.loop-n.work.items c.visit.new.work.items c.args.x ns k _ here e.ok in
    let f = visit_fewer ts c.loop-n.standings.items c.visit.new.standings.items c.loop-n.told.items c.visit.new.told.items c.loop-n.work.items c.visit.new.work.items _ e.ok in
    record {
      long = e.long;
      places = λ rs h. e.places rs (i.places rs h);
      fewer = f ∙ i.fewer;
      later = i.later ++ v.0;
      is = more_told c.args.told.now.items c.loop-n.told.items c.visit.new.told.items i.later v.0 i.is v.1;
      step = λ rs old before h. more_later rs ts old c.visit.new.standings.items before i.later v.0 (IsLeft c.visit.new.work.items c.args.x ns (k + 1)) (v.2 rs old (before ++ i.later) (i.step rs old before h));
    }

pub returns-clause-ok : goal.returns-clause-ok
returns-clause-ok c =
    let i = c.loop-n.invariant in
    let ns = c.args.numbers.now in
    (i.later, i.is, λ rs old before h. subst (λ k. IsSpreading rs c.args.pool.now old c.loop-n.standings.items (before ++ i.later) (IsLeft c.loop-n.work.items c.args.x ns k)) (omega arith) (i.step rs old before h))
