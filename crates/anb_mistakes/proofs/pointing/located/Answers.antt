use Rattle.std.proofs.Common.{◌≡◌, ◌++◌, ◌+◌, ◌-◌, length, take, drop, ap, ◌∙◌, arith, length-drop}
use Rattle.std.proofs.lemmas.List.{take_all}
use Rattle.anb_mistakes.specs.Places.{before_at, first_line, line_at}
use Rattle.anb_mistakes.specs.Pointing.{heading, located_at, shown}
use Rattle.anb_mistakes.proofs.pointing.located.Goals as goal

pub returns : goal.returns
returns c =
    let x = c.args.text.now in
    let at = c.args.at in
    let place = c.place-line.result in
    let start = at + 1 - place.1 in
    let top = heading c.args.name.now place.0 place.1 c.args.message.now in
    let before = take (at - start) (drop start x) in
    let middle = shown place.0 before c.first_line.result.now in
    let source : c.first_line.result.now ≡ line_at x at place.1 = c.first_line.ensures ∙ ap first_line (take_all (length x - start) (drop start x) (omega (arith, length-drop start x))) in
    let inner : before ≡ before_at x at place.1 = ap (λ n. take n (drop start x)) (omega (arith, c.place-line.ensures.column, c.place-line.ensures.first)) in
    c.in_ok-put_shown.ensures
    ∙ ap (λ l. l ++ middle) (c.in_ok-put_heading.ensures ∙ ap (λ l. l ++ top) c.new-out.ensures.items)
    ∙ ap (λ l. top ++ l) (ap (λ l. shown place.0 l c.first_line.result.now) inner ∙ ap (shown place.0 (before_at x at place.1)) source)
    ∙ ap (λ p. located_at c.args.name.now x at p c.args.message.now) c.place-line.ensures.place
