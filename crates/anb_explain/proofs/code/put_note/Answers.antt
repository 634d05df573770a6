use Rattle.std.proofs.Common.{◌≡◌, ◌∷◌, ◌++◌, ◌<◌, ℕ, List, length, map, ap, sym, ◌∙◌, append_assoc, arith}
use Rattle.std.specs.Prelude.{codes}
use Rattle.std.specs.List.{flat_map}
use Rattle.std.proofs.lemmas.List.{append-nil, drop_all}
use Rattle.anb_lemmas.proofs.Each.{each_got}
use Rattle.anb_term.specs.declared.term.Term.{Term}
use Rattle.anb_term.specs.View.{tree_of}
use Rattle.anb_term.proofs.Lists.{slice_get-map, slice_get-at}
use Rattle.anb_protocol.specs.Texts.{IsTermOf, term_text}
use Rattle.anb_explain.proofs.Lines.{note_put}
use Rattle.anb_explain.proofs.code.put_note.Goals as goal

pub put_term-requires : goal.put_term-requires
put_term-requires c =
    let ts = c.args.terms.now in
    let i = c.loop-term.term-index in
    let x = c.term-item.result in
    each_got (IsTermOf c.args.protocol.now) (map tree_of ts) i (tree_of x) c.requires (slice_get-map tree_of ts i x (slice_get-at ts i x (omega arith) c.term-item.is))

pub returns : goal.returns
returns c =
    let p = c.args.protocol.now in
    let f : Term → List ℕ = λ u. 32 ∷ term_text p (tree_of u) in
    let old = c.args.out.now.items in
    let ts = c.args.terms.now in
    let some : 0 < length ts = grind (arith, c.is_empty.ensures, c.if-is_empty.false) in
    let done = drop_all c.loop-term.term-index ts (omega arith) in
    let loop : c.loop-term.out.items ≡ (old ++ codes " #") ++ flat_map f ts =
    sym (append-nil c.loop-term.out.items) ∙ ap (λ l. c.loop-term.out.items ++ flat_map f l) (sym done) ∙ c.loop-term.invariant ∙ ap (λ l. l ++ flat_map f ts) c.in_ok-extend_from_slice.ensures.items in
    loop ∙ append_assoc old (codes " #") (flat_map f ts) ∙ ap (λ l. old ++ l) (sym (note_put p ts some))
