use Rattle.std.proofs.Common.{[], ◌++◌, map, sym, ap, ◌∙◌}
use Rattle.std.specs.Option.{option_map_or}
use Rattle.std.proofs.lemmas.List.{append-nil}
use Rattle.anb_lemmas.proofs.Each.{each_got}
use Rattle.anb_term.specs.View.{tree_of}
use Rattle.anb_protocol.specs.Texts.{IsTermOf, term_text}
use Rattle.anb_report.proofs.lists.put_term.Goals as goal

pub text_of_term-requires : goal.text_of_term-requires
text_of_term-requires c =
    each_got (IsTermOf c.args.protocol.now) (map tree_of c.args.terms.now) c.args.r (tree_of c.in-Some.term.now) c.requires c.in-Some.ensures.some

pub returns-in_ok-extend_from_slice : goal.returns-in_ok-extend_from_slice
returns-in_ok-extend_from_slice c =
    let f = term_text c.args.protocol.now in
    c.in_ok-extend_from_slice.ensures.items
    ∙ ap (λ l. c.args.out.now.items ++ l) (c.as_bytes.ensures.value ∙ c.as_str.ensures ∙ c.in_ok-text.ensures ∙ sym (ap (λ o. option_map_or f o []) c.in-Some.ensures.some))

pub returns-in_default : goal.returns-in_default
returns-in_default c =
    let f = term_text c.args.protocol.now in
    let out = c.args.out.now.items in
    sym (append-nil out) ∙ ap (λ o. out ++ option_map_or f o []) (sym c.in_default.ensures.none)
