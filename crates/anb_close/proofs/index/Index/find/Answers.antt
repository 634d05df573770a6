use Rattle.std.proofs.Common.{◌≡◌, None, Some, sym, ap, ◌∙◌, subst, ⊎_elim}
use Rattle.anb_term.specs.View.{tree_of}
use Rattle.anb_intern.specs.Nodes.{operands_at}
use Rattle.anb_close.specs.Rows.{place, rows_of}
use Rattle.anb_close.specs.Standings.{place_in}
use Rattle.anb_close.proofs.Indexing.{unplaced_by, numbered, find_stands}
use Rattle.anb_close.proofs.index.Index.find.Goals as goal

pub returns-in-None : goal.returns-in-None
returns-in-None c =
    let ts = c.self.inside.pool in
    let ids = c.self.inside.numbers.items in
    let t = tree_of c.args.t.now in
    let none = rw c.in-None.is at c.in_ok-find_term.ensures in
    subst (λ v. None ≡ place (rows_of v.0) t) c.self.view_is (unplaced_by (operands_at ts ids) t (λ i e. let m = numbered ts ids i t c.self.invariant.0.under e in none m.0 m.2))

pub returns-in-At : goal.returns-in-At
returns-in-At c =
    let t = tree_of c.args.t.now in
    let at = rw c.in-Some.is at c.in_ok-find_term.ensures in
    let p = find_stands c.self.inside.pool c.self.inside.numbers.items c.self.inside.standings.items c.in-Some.id.0 t c.index.result.now c.self.invariant.0 at c.index.ensures in
    subst (λ v. Some c.in-At.i ≡ place (rows_of v.0) t) c.self.view_is (ap place_in (sym c.in-At.is) ∙ p)

pub returns-in-Nowhere : goal.returns-in-Nowhere
returns-in-Nowhere c =
    let t = tree_of c.args.t.now in
    let at = rw c.in-Some.is at c.in_ok-find_term.ensures in
    let p = find_stands c.self.inside.pool c.self.inside.numbers.items c.self.inside.standings.items c.in-Some.id.0 t c.index.result.now c.self.invariant.0 at c.index.ensures in
    subst (λ v. None ≡ place (rows_of v.0) t) c.self.view_is (sym (⊎_elim (λ e. ap place_in e) (λ e. ap place_in e) c.in-Nowhere.is) ∙ p)
