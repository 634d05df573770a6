use Rattle.std.proofs.Common.{arith, sym, ◌∙◌}
use Rattle.anb_term.proofs.Picking.{terms_at}
use Rattle.anb_term.proofs.term.+same.Goals as goal

pub Terms::same-returns-then-not-same : goal.Terms::same-returns-then-not-same
Terms::same-returns-then-not-same t c =
    let x = c.index.result.now in
    let y = c.index-in-loop-i.result.now in (
      (λ h. cc),
      (λ e.
          let alike = c.self.view_is ∙ e ∙ sym c.other.view_is in
          let same = terms_at c.self.inside.items.items c.other.inside.items.items c.loop-i.i x y (omega (arith, c.self.inside.items.ok.0)) c.index.ensures c.index-in-loop-i.ensures alike in
          let yes = c.same.ensures.1 same in
          cc),
    )
