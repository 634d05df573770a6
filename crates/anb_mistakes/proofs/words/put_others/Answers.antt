use Rattle.std.proofs.Common.{◌+◌, ◌++◌, List, ℕ, drop, ap, ◌∙◌}
use Rattle.anb_mistakes.specs.Words.{other_words}
use Rattle.anb_mistakes.proofs.Lines.{last_word, inner_word}
use Rattle.anb_mistakes.proofs.words.put_others.Goals.{then-i-words, else-i-words}
use Rattle.anb_mistakes.proofs.words.put_others.Goals as goal

pub loop-i-preserved : goal.loop-i-preserved
loop-i-preserved c =
    let ws = c.args.words.now in
    let i = c.loop-i.i in
    let old = c.loop-i.out.items in
    let sign = c.if-i-words.put.now in
    let text = c.as_bytes.result.now in
    let rest = other_words (drop (i + 1) ws) in
    let with : (List ℕ) → List ℕ = λ z. ((old ++ z) ++ text) ++ rest in
    ap (λ l. l ++ rest) (c.in_ok-put-2.ensures ∙ ap (λ l. l ++ text) c.in_ok-put.ensures) ∙ (elim c.if-i-words.branch [
      | then-i-words w ↦ ap with (ap (λ b. b.now) w.put-is) ∙ last_word ws i _ c.loop-i-test.true text (c.as_bytes.ensures.value ∙ c.word_text.ensures) old w.if-i-words.true
      | else-i-words w ↦ ap with (ap (λ b. b.now) w.put-is) ∙ inner_word ws i _ c.loop-i-test.true text (c.as_bytes.ensures.value ∙ c.word_text.ensures) old w.if-i-words.false
    ]) ∙ c.loop-i.invariant
