use Rattle.std.proofs.Common.{◌≡◌, ◌+◌, ◌++◌, ◌∷◌, [], length, drop, get_or, Some, refl, arith, sym, ◌∙◌, ap, append_assoc}
use Rattle.std.specs.Prelude.{slice_get}
use Rattle.std.proofs.lemmas.Option.{slice_get_read}
use Rattle.anb_term.specs.Lawful.{picked}
use Rattle.anb_term.proofs.Picking.{picked_drop}
use Rattle.anb_term.proofs.trees.TermAlgebraAlgebra.build.Goals as goal

pub loop-i-preserved : goal.loop-i-preserved
loop-i-preserved c =
    let i = c.loop-i.i-index in
    let x = c.index-table-i.result in
    let table = c.args.table.now in
    let at = c.args.at.now in
    let here : slice_get table (get_or at i 0) ≡ Some x = slice_get_read table (length table) (get_or at i 0) x refl (c.requires.within i 0 (omega arith)) c.index-table-i.is in
    let more : picked table (drop i at) ≡ x ∷ picked table (drop (i + 1) at) = picked_drop table at i x (omega arith) here in
    let copied : c.in_ok-copy.field-0 ≡ x = c.in_ok-copy.ensures in
    let old = c.loop-i.operands.items in
    let rest = picked table (drop (i + 1) at) in
    let new : c.push.new.self.items ≡ old ++ x ∷ [] = c.in_ok-push.ensures.items ∙ ap (λ z. old ++ z ∷ []) copied in
    ap (λ l. l ++ rest) new ∙ append_assoc old (x ∷ []) rest ∙ ap (λ l. old ++ l) (sym more) ∙ c.loop-i.invariant
