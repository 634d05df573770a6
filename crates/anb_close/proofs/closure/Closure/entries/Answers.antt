use Rattle.std.proofs.Common.{ℕ, ◌≡◌, Some, IsTrue, take, subst, arith}
use Rattle.std.specs.Prelude.{slice_get}
use Rattle.anb_close.specs.declared.entry.Entry.{Entry}
use Rattle.anb_close.specs.Entries.{IsKnown, is_label}
use Rattle.anb_close.proofs.Closing.{known}
use Rattle.anb_close.proofs.Growing.{nodes_less}
use Rattle.anb_close.proofs.closure.Closure.entries.Goals as goal

pub returns-clause-known : goal.returns-clause-known
returns-clause-known c = subst IsKnown c.self.view_is (known _ _ c.self.invariant.0.rest c.self.invariant.0.few)

pub returns-clause-before : goal.returns-clause-before
returns-clause-before c =
    let kept = c.self.invariant.0 in
    subst (λ es. (b : ℕ) (e : Entry) → slice_get es b ≡ Some e → IsTrue (is_label e.origin) → IsKnown (take b es)) c.self.view_is
    (λ b e at l. known _ _ (kept.before b e at l) (omega (arith, kept.few, nodes_less c.self.inside.growth.entries.items b)))
