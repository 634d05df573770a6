use Rattle.std.proofs.Common.{◌≡◌, ◌++◌, ap, ◌∙◌, sym, subst, map, length}
use Rattle.std.specs.Prelude.{filter}
use Rattle.anb_lemmas.proofs.Lists.{got_within}
use Rattle.anb_term.specs.Tree.{tree_eqb}
use Rattle.anb_term.specs.View.{tree_of}
use Rattle.anb_intern.specs.Nodes.{AreUnder, operands_at}
use Rattle.anb_protocol.specs.Names.{distinct}
use Rattle.anb_reason.specs.Decided.{is_among}
use Rattle.anb_reason.proofs.Flagging.{kept}
use Rattle.anb_lack.specs.Parts.{lacks, parts}
use Rattle.anb_lack.proofs.parts.lacking_parts.Goals as goal

pub marks-requires : goal.marks-requires
marks-requires c =
    let p = c.put_term.new.self in
    let k = kept c.put_all.new.pool p c.in_ok-whole.ensures.more.more c.in_ok-held.held.items c.in_ok-whole.ensures.more.is c.in_ok-held.ensures.under in
    subst (AreUnder (length p)) (sym c.deref.ensures.value) k.0

pub put_parts-requires-clause-within : goal.put_parts-requires-clause-within
put_parts-requires-clause-within c = got_within c.put_term.new.self c.in_ok-whole.whole.0 (tree_of c.args.t.now) c.in_ok-whole.ensures.stored

pub returns : goal.returns
returns c =
    let p = c.put_term.new.self in
    let S = map tree_of c.args.terms.now in
    let t = tree_of c.args.t.now in
    let k = kept c.put_all.new.pool p c.in_ok-whole.ensures.more.more c.in_ok-held.held.items c.in_ok-whole.ensures.more.is c.in_ok-held.ensures.under in
    let held : operands_at p c.deref.result.now ≡ S = ap (operands_at p) c.deref.ensures.value ∙ k.1 ∙ c.in_ok-held.ensures.stored in
    let marked = c.in_ok-marks.ensures ∙ ap (λ l. map (is_among l) p) held in
    let composing = c.in_ok-composing.ensures S (c.deref-2.ensures.value ∙ marked) in
    let numbers = c.in_ok-put_parts.ensures.parts t c.in_ok-whole.ensures.stored ∙ ap (λ l. operands_at p l ++ parts t) c.new-ids.ensures.items in
    c.in_ok-parts.ensures S composing ∙ ap (λ l. distinct tree_eqb (filter (lacks S) (operands_at p l))) c.deref-3.ensures.value ∙ ap (λ l. distinct tree_eqb (filter (lacks S) l)) numbers
