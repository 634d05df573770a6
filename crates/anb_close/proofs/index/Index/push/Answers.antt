use Rattle.std.proofs.Common.{◌≡◌, ◌≤◌, ◌++◌, ◌∷◌, [], length, true, false, sym, ap, ◌∙◌, subst, arith, inl, append_assoc, length-append}
use Rattle.std.specs.Prelude.{slice_get}
use Rattle.anb_lemmas.proofs.Lists.{got_within}
use Rattle.anb_term.specs.View.{tree_of}
use Rattle.anb_intern.specs.Nodes.{operands_at}
use Rattle.anb_intern.proofs.Nodes.{operands_long}
use Rattle.anb_close.specs.Rows.{made_for, row_unless, rows_of}
use Rattle.anb_close.specs.Entries.{is_double}
use Rattle.anb_close.specs.Listed.{AreTouched}
use Rattle.anb_close.specs.Standings.{IsIndexed}
use Rattle.anb_close.specs.Parents.{AreLinked}
use Rattle.anb_close.proofs.Indexing.{push_double, push_places, double_is, terms_next, standings_long, cut_places, cut_under}
use Rattle.anb_close.proofs.Spreading.{starts, ends, told_of, touched_by}
use Rattle.anb_close.proofs.index.Index.push.Goals as goal

pub overflow_cast-at : goal.overflow_cast-at
overflow_cast-at c =
    omega (arith, c.requires.few, c.len-at.ensures, c.self.inside.numbers.ok.0, operands_long c.self.inside.pool c.self.inside.numbers.items, ap (λ v. length v.0) c.self.view_is, ap length c.in_ok-id.ensures.same)

pub index-requires : goal.index-requires
index-requires c =
    let t = tree_of c.args.t.now in
    let at = ap (λ v. slice_get v.1 c.in_ok-id.id.0) c.self.view_is ∙ c.in_ok-id.ensures.ok in
    omega (arith, got_within c.self.inside.pool c.in_ok-id.id.0 t at, standings_long (rows_of (operands_at c.self.inside.pool c.self.inside.numbers.items)) c.self.inside.pool c.self.inside.standings.items c.self.invariant.0.right, c.self.inside.standings.ok.0)

pub invariant_of-self-then-is_found : goal.invariant_of-self-then-is_found
invariant_of-self-then-is_found c =
    let ts = c.self.inside.pool in
    let ids = c.self.inside.numbers.items in
    let ss = c.self.inside.standings.items in
    let t = tree_of c.args.t.now in
    let at = ap (λ v. slice_get v.1 c.in_ok-id.id.0) c.self.view_is ∙ c.in_ok-id.ensures.ok in
    (subst (λ l. IsIndexed ts l ss) (sym c.in_ok-push-2.ensures.items) (push_double ts ids ss c.self.invariant.0 c.in_ok-id.id t at c.index.result.now c.index.ensures (sym c.is_found.ensures ∙ c.if-is_found.true)), c.self.invariant.1, c.self.invariant.2)

pub returns-then-is_found-clause-ok : goal.returns-then-is_found-clause-ok
returns-then-is_found-clause-ok c =
    let at = ap (λ v. slice_get v.1 c.in_ok-id.id.0) c.self.view_is ∙ c.in_ok-id.ensures.ok in
    terms_next c.self.inside.pool c.self.inside.numbers.items c.self.inside.standings.items c.self.invariant.0 c.in_ok-id.id (tree_of c.args.t.now) at c.push-2.new.self.items c.in_ok-push-2.ensures.items
    ∙ ap (λ l. l ++ tree_of c.args.t.now ∷ []) (ap (λ v. v.0) c.self.view_is ∙ c.in_ok-id.ensures.same)

pub returns-then-is_found-clause-double : goal.returns-then-is_found-clause-double
returns-then-is_found-clause-double c =
    let t = tree_of c.args.t.now in
    let at = ap (λ v. slice_get v.1 c.in_ok-id.id.0) c.self.view_is ∙ c.in_ok-id.ensures.ok in
    subst (λ l. true ≡ is_double (row_unless (made_for (rows_of l) t) t)) (ap (λ v. v.0) c.self.view_is ∙ c.in_ok-id.ensures.same)
    (double_is c.self.inside.pool c.self.inside.numbers.items c.self.inside.standings.items c.self.invariant.0 c.in_ok-id.id t at c.index.result.now true c.index.ensures (sym c.is_found.ensures ∙ c.if-is_found.true))

pub returns-then-is_found-clause-touched : goal.returns-then-is_found-clause-touched
returns-then-is_found-clause-touched c =
    let ts = c.self.inside.pool in
    let ids = c.self.inside.numbers.items in
    let ids' = c.push-2.new.self.items in
    let ss = c.self.inside.standings.items in
    let t = tree_of c.args.t.now in
    let at = ap (λ v. slice_get v.1 c.in_ok-id.id.0) c.self.view_is ∙ c.in_ok-id.ensures.ok in
    let ix' = subst (λ l. IsIndexed ts l ss) (sym c.in_ok-push-2.ensures.items) (push_double ts ids ss c.self.invariant.0 c.in_ok-id.id t at c.index.result.now c.index.ensures (sym c.is_found.ensures ∙ c.if-is_found.true)) in
    let is = terms_next ts ids ss c.self.invariant.0 c.in_ok-id.id t at ids' c.in_ok-push-2.ensures.items in
    let long : c.len-at.result ≡ length ids = omega (arith, c.len-at.ensures, c.self.inside.numbers.ok.0) in
    let touched = touched_by ts ids ids' ss ss c.self.invariant.0 ix' c.len.ensures.before t is [] (λ n o js i m own here all. inl all) c.len-at.result long in
    (c.len-at.result ∷ [], c.in_ok-push.ensures.items, subst (λ l. AreTouched (rows_of l) (rows_of (operands_at ts ids')) (c.len-at.result ∷ [])) (ap (λ v. v.0) c.self.view_is ∙ c.in_ok-id.ensures.same) touched)

pub overflow_cast-at-2 : goal.overflow_cast-at-2
overflow_cast-at-2 c =
    omega (arith, c.requires.few, c.len-at.ensures, c.self.inside.numbers.ok.0, operands_long c.self.inside.pool c.self.inside.numbers.items, ap (λ v. length v.0) c.self.view_is, ap length c.in_ok-id.ensures.same)

pub index_mut-requires : goal.index_mut-requires
index_mut-requires c =
    let t = tree_of c.args.t.now in
    let at = ap (λ v. slice_get v.1 c.in_ok-id.id.0) c.self.view_is ∙ c.in_ok-id.ensures.ok in
    omega (arith, got_within c.self.inside.pool c.in_ok-id.id.0 t at, standings_long (rows_of (operands_at c.self.inside.pool c.self.inside.numbers.items)) c.self.inside.pool c.self.inside.standings.items c.self.invariant.0.right, c.self.inside.standings.ok.0)

pub spread-requires-clause-linked : goal.spread-requires-clause-linked
spread-requires-clause-linked c = subst (λ l. AreLinked c.self.inside.pool l (length c.self.inside.pool)) (sym c.deref.ensures.value) c.self.invariant.1

pub invariant_of-self-in-Ok : goal.invariant_of-self-in-Ok
invariant_of-self-in-Ok c =
    let ts = c.self.inside.pool in
    let ids = c.self.inside.numbers.items in
    let ids' = c.push-2.new.self.items in
    let ss = c.self.inside.standings.items in
    let t = tree_of c.args.t.now in
    let at = ap (λ v. slice_get v.1 c.in_ok-id.id.0) c.self.view_is ∙ c.in_ok-id.ensures.ok in
    let long : c.len-at.result ≡ length ids = omega (arith, c.len-at.ensures, c.self.inside.numbers.ok.0) in
    let rs' = rows_of (operands_at ts ids') in
    let p = push_places ts ids ss c.self.invariant.0 c.in_ok-id.id t at c.len.ensures.distinct c.index.result.now c.index.ensures (sym c.is_found.ensures ∙ c.if-is_found.false) ids' c.len-at.result c.in_ok-push-2.ensures.items long in
    let is = terms_next ts ids ss c.self.invariant.0 c.in_ok-id.id t at ids' c.in_ok-push-2.ensures.items in
    let e = c.in-Ok.ensures.ok in
    let over = e.2 rs' ss (starts ts ids ss c.self.invariant.0 c.in_ok-id.id t ids' c.len-at.result at is p.1) in
    (record { under = p.0; right = ends rs' ts ss c.spread.new.standings.items e.0 c.len.ensures.before over }, c.self.invariant.1, c.self.invariant.2)

pub returns-in-Ok-clause-ok : goal.returns-in-Ok-clause-ok
returns-in-Ok-clause-ok c =
    let at = ap (λ v. slice_get v.1 c.in_ok-id.id.0) c.self.view_is ∙ c.in_ok-id.ensures.ok in
    terms_next c.self.inside.pool c.self.inside.numbers.items c.self.inside.standings.items c.self.invariant.0 c.in_ok-id.id (tree_of c.args.t.now) at c.push-2.new.self.items c.in_ok-push-2.ensures.items
    ∙ ap (λ l. l ++ tree_of c.args.t.now ∷ []) (ap (λ v. v.0) c.self.view_is ∙ c.in_ok-id.ensures.same)

pub returns-in-Ok-clause-double : goal.returns-in-Ok-clause-double
returns-in-Ok-clause-double c =
    let t = tree_of c.args.t.now in
    let at = ap (λ v. slice_get v.1 c.in_ok-id.id.0) c.self.view_is ∙ c.in_ok-id.ensures.ok in
    subst (λ l. false ≡ is_double (row_unless (made_for (rows_of l) t) t)) (ap (λ v. v.0) c.self.view_is ∙ c.in_ok-id.ensures.same)
    (double_is c.self.inside.pool c.self.inside.numbers.items c.self.inside.standings.items c.self.invariant.0 c.in_ok-id.id t at c.index.result.now false c.index.ensures (sym c.is_found.ensures ∙ c.if-is_found.false))

pub returns-in-Ok-clause-touched : goal.returns-in-Ok-clause-touched
returns-in-Ok-clause-touched c =
    let ts = c.self.inside.pool in
    let ids = c.self.inside.numbers.items in
    let ids' = c.push-2.new.self.items in
    let ss = c.self.inside.standings.items in
    let t = tree_of c.args.t.now in
    let at = ap (λ v. slice_get v.1 c.in_ok-id.id.0) c.self.view_is ∙ c.in_ok-id.ensures.ok in
    let long : c.len-at.result ≡ length ids = omega (arith, c.len-at.ensures, c.self.inside.numbers.ok.0) in
    let rs' = rows_of (operands_at ts ids') in
    let p = push_places ts ids ss c.self.invariant.0 c.in_ok-id.id t at c.len.ensures.distinct c.index.result.now c.index.ensures (sym c.is_found.ensures ∙ c.if-is_found.false) ids' c.len-at.result c.in_ok-push-2.ensures.items long in
    let is = terms_next ts ids ss c.self.invariant.0 c.in_ok-id.id t at ids' c.in_ok-push-2.ensures.items in
    let e = c.in-Ok.ensures.ok in
    let over = e.2 rs' ss (starts ts ids ss c.self.invariant.0 c.in_ok-id.id t ids' c.len-at.result at is p.1) in
    let ss' = c.spread.new.standings.items in
    let ix' : IsIndexed ts ids' ss' = record { under = p.0; right = ends rs' ts ss ss' e.0 c.len.ensures.before over } in
    let touched = touched_by ts ids ids' ss ss' c.self.invariant.0 ix' c.len.ensures.before t is e.0 (told_of rs' ts ss ss' e.0 c.len.ensures.before over) c.len-at.result long in (
      c.len-at.result ∷ e.0,
      e.1 ∙ ap (λ l. l ++ e.0) c.in_ok-push.ensures.items ∙ append_assoc c.args.touched.now.items (c.len-at.result ∷ []) e.0,
      subst (λ l. AreTouched (rows_of l) rs' (c.len-at.result ∷ e.0)) (ap (λ v. v.0) c.self.view_is ∙ c.in_ok-id.ensures.same) touched,
    )

pub forget-requires : goal.forget-requires
forget-requires c =
    let ts = c.self.inside.pool in
    let ids = c.self.inside.numbers.items in
    let ids' = c.push-2.new.self.items in
    let ss = c.self.inside.standings.items in
    let t = tree_of c.args.t.now in
    let at = ap (λ v. slice_get v.1 c.in_ok-id.id.0) c.self.view_is ∙ c.in_ok-id.ensures.ok in
    let long : c.len-at.result ≡ length ids = omega (arith, c.len-at.ensures, c.self.inside.numbers.ok.0) in
    let rs' = rows_of (operands_at ts ids') in
    let p = push_places ts ids ss c.self.invariant.0 c.in_ok-id.id t at c.len.ensures.distinct c.index.result.now c.index.ensures (sym c.is_found.ensures ∙ c.if-is_found.false) ids' c.len-at.result c.in_ok-push-2.ensures.items long in
    record { long = (c.in-Err.ensures.places rs' p.1).0 }

pub invariant_of-self-2 : goal.invariant_of-self-2
invariant_of-self-2 c =
    let ts = c.self.inside.pool in
    let ids = c.self.inside.numbers.items in
    let ids' = c.push-2.new.self.items in
    let ss = c.self.inside.standings.items in
    let t = tree_of c.args.t.now in
    let at = ap (λ v. slice_get v.1 c.in_ok-id.id.0) c.self.view_is ∙ c.in_ok-id.ensures.ok in
    let long : c.len-at.result ≡ length ids = omega (arith, c.len-at.ensures, c.self.inside.numbers.ok.0) in
    let rs' = rows_of (operands_at ts ids') in
    let p = push_places ts ids ss c.self.invariant.0 c.in_ok-id.id t at c.len.ensures.distinct c.index.result.now c.index.ensures (sym c.is_found.ensures ∙ c.if-is_found.false) ids' c.len-at.result c.in_ok-push-2.ensures.items long in
    let ids'' = c.truncate.new.self.items in
    let h : c.len-at.result ≤ length ids' = omega (arith, long, ap length c.in_ok-push-2.ensures.items, length-append ids (c.in_ok-id.id ∷ [])) in
    let q = cut_places ts ids' ids'' c.spread.new.standings.items c.len-at.result h c.truncate.ensures.items (c.in-Err.ensures.places rs' p.1) in
    (record { under = cut_under ts ids' ids'' c.len-at.result c.truncate.ensures.items p.0; right = c.forget.ensures (rows_of (operands_at ts ids'')) q }, c.self.invariant.1, c.self.invariant.2)
