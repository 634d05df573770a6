use Rattle.std.proofs.Common.{◌≡◌, Some, ap, sym, ◌∙◌}
use Rattle.std.proofs.lemmas.Slice.Eq.{bytes_eq-Decides}
use Rattle.anb_term.proofs.Lists.{slice_get-at}
use Rattle.anb_algebra.proofs.bytes.ByteAlgebraAlgebra.same.Goals as goal

pub returns : goal.returns
returns c =
    let one = slice_get-at c.args.table.now c.args.a c.index-table-a.result c.requires.a_within c.index-table-a.is in
    let other = slice_get-at c.args.table.now c.args.b c.index-table-b.result c.requires.b_within c.index-table-b.is in
    let test = bytes_eq-Decides c.as_slice.result.now c.as_slice-2.result.now in (
      λ e. let same = test.0 (sym c.eq.ensures ∙ e) in one ∙ ap (λ x. Some x) (sym c.as_slice.ensures ∙ same ∙ c.as_slice-2.ensures) ∙ sym other,
      λ e. let same : c.index-table-a.result ≡ c.index-table-b.result = cc in c.eq.ensures ∙ test.1 (c.as_slice.ensures ∙ same ∙ sym c.as_slice-2.ensures),
    )
