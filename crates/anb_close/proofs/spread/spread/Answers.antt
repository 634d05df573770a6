use Rattle.std.proofs.Common.{◌≡◌, ◌++◌, ◌∷◌, [], arith, sym, ap, ◌∙◌}
use Rattle.std.proofs.lemmas.List.{append-nil}
use Rattle.anb_close.proofs.Spreading.{one_due, taken_up, put_down, all_done, none_left, more_told}
use Rattle.anb_close.proofs.spread.spread.Goals as goal

pub loop-x-init : goal.loop-x-init
loop-x-init c = record {
  long = c.requires.long;
  places = λ rs h. h;
  later = [];
  is = sym (append-nil c.args.told.now.items);
  step = λ rs old h. one_due rs c.args.pool.now old c.args.standings.now.items [] c.push.new.self.items c.args.from (c.in_ok-push.ensures.items ∙ ap (λ l. l ++ c.args.from ∷ []) c.new-work.ensures.items) h;
}

pub loop-x-preserved : goal.loop-x-preserved
loop-x-preserved c =
    let i = c.loop-x.invariant in
    let e = c.in_ok-visit_all.ensures in
    let x = c.in-Some.x in
    let ts = c.args.pool.now in
    let ss = c.loop-x.standings.items in
    let ss' = c.visit_all.new.standings.items in
    let work = c.pop.new.self.items in
    let work' = c.visit_all.new.work.items in
    let ns = c.list_at.result.now in
    let popped : c.loop-x.work.items ≡ work ++ x ∷ [] = c.in-Some.ensures.items in
    record {
      long = e.long;
      places = λ rs h. e.places rs (i.places rs h);
      later = i.later ++ e.ok.0;
      is = more_told c.args.told.now.items c.loop-x.told.items c.visit_all.new.told.items i.later e.ok.0 i.is e.ok.1;
      step = λ rs old h. put_down rs ts old ss' (i.later ++ e.ok.0) work' ns x
          (e.ok.2 rs old i.later (taken_up rs ts old ss i.later c.loop-x.work.items work ns c.args.parents.now x popped c.list_at.ensures i.long c.requires.linked (i.step rs old h)));
    }

pub returns-in_err-visit_all-clause-places : goal.returns-in_err-visit_all-clause-places
returns-in_err-visit_all-clause-places c rs h = c.in_err-visit_all.ensures.places rs (c.loop-x.invariant.places rs h)

pub returns-clause-ok : goal.returns-clause-ok
returns-clause-ok c =
    let i = c.loop-x.invariant in
    let empty : c.loop-x.work.items ≡ [] = none_left c.loop-x.work.items (omega (arith, c.in_default.ensures.cases, c.loop-x.work.ok.0)) in
    (i.later, i.is, λ rs old h. all_done rs c.args.pool.now old c.loop-x.standings.items i.later c.loop-x.work.items empty (i.step rs old h))
