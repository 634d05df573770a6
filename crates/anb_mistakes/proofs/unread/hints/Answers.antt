use Rattle.std.proofs.Common.{◌++◌, List, map, ap, ◌∙◌}
use Rattle.anb_syntax.specs.Views.{tok_of}
use Rattle.anb_syntax.specs.Words.{Tok, head}
use Rattle.anb_syntax.specs.declared.tokens.Token.{Token}
use Rattle.anb_mistakes.specs.Near.{section_text}
use Rattle.anb_mistakes.specs.Spots.{item_at}
use Rattle.anb_mistakes.proofs.unread.hints.Goals as goal

pub returns : goal.returns
returns c =
    let x = c.args.text.now in
    let words = c.in_ok-out.out.items in (
      words,
      c.in_ok-out.ensures,
      (
        map (tok_of x) c.in_ok-all.all.items,
        c.in_ok-all.ensures.tokens,
        c.in_ok-put_section.ensures ∙ ap (λ (ts : List Tok). words ++ section_text (head ts)) (c.item_at-item.ensures x ∙ ap (λ (ts : List Token). item_at c.args.at (map (tok_of x) ts)) c.deref.ensures.value),
      ),
    )
