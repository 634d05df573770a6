use Rattle.std.proofs.Common.{◌≡◌, length, map, ap, ◌∙◌, sym, subst}
use Rattle.std.specs.List.{AllZip}
use Rattle.std.proofs.lemmas.List.{length-map}
use Rattle.std.proofs.lemmas.Slice.Zip.{AllZip-long}
use Rattle.anb_term.specs.View.{tree_of}
use Rattle.anb_protocol.specs.Plans.{plan_of}
use Rattle.anb_protocol.specs.Views.{plan_event}
use Rattle.anb_lack.specs.Before.{unless_built}
use Rattle.anb_lack.specs.Origins.{ComesFrom, IsListedFrom, is_out}
use Rattle.anb_lack.proofs.Having.{listed_each}
use Rattle.anb_lack.proofs.listing.listed_origins.Goals as goal

pub unless_built-requires : goal.unless_built-requires
unless_built-requires c =
    let ts = map tree_of c.args.terms.now in
    let before = map plan_event c.args.before.now in
    ap length c.deref.ensures.value ∙ AllZip-long (ComesFrom c.args.p.now (plan_of c.args.p.now c.args.role)) ts c.in_ok-came.came.items c.in_ok-came.ensures
    ∙ sym (length-map ts (is_out ts before)) ∙ sym (ap length c.in_ok-out.ensures) ∙ sym (ap length c.deref-2.ensures.value)

pub returns : goal.returns
returns c =
    let p = c.args.p.now in
    let plan = plan_of p c.args.role in
    let ts = map tree_of c.args.terms.now in
    let before = map plan_event c.args.before.now in
    let flags = c.deref-2.ensures.value ∙ c.in_ok-out.ensures in
    let is : c.in_ok-listed.listed.items ≡ unless_built (map (is_out ts before) ts) c.in_ok-came.came.items =
    c.in_ok-listed.ensures ∙ ap (λ o. unless_built o c.deref.result.now) flags ∙ ap (unless_built (map (is_out ts before) ts)) c.deref.ensures.value in
    subst (AllZip (IsListedFrom p ts plan before) ts) (sym is) (listed_each p ts plan before ts c.in_ok-came.came.items c.in_ok-came.ensures)
