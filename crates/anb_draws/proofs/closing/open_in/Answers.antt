use Rattle.std.proofs.Common.{◌+◌, List, ℕ, sym, ap, ◌∙◌, subst}
use Rattle.anb_close.specs.Entries as entries
use Rattle.anb_draws.specs.Telling.{AreOpen}
use Rattle.anb_draws.proofs.Among.{open_more, open_same}
use Rattle.anb_draws.proofs.closing.open_in.Goals.{then-branch+in_ok-push, else-branch}
use Rattle.anb_draws.proofs.closing.open_in.Goals as goal

pub loop-name-preserved : goal.loop-name-preserved
loop-name-preserved c =
    let p = c.args.p.now in
    let F = entries.labels_of c.args.closure.now in
    let known = c.args.known.now in
    let i = c.loop-name.name in
    let names = c.loop-name.names.items in
    let P : List ℕ → Type 0 = λ l. AreOpen p F known (i + 1) l in
    elim c.if-branch.branch [
      | then-branch+in_ok-push w ↦ subst P (sym (ap (λ v. v.items) w.names-is ∙ w.in_ok-push.ensures.items)) (open_more p F known i names c.loop-name.invariant (c.in_ok-is_open.ensures.had w.if-branch.true))
      | else-branch w ↦ subst P (sym (ap (λ v. v.items) w.names-is)) (open_same p F known i names c.loop-name.invariant (c.in_ok-is_open.ensures.hidden w.if-branch.false))
    ]
