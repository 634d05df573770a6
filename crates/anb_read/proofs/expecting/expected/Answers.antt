use Rattle.std.proofs.Common.{List, ap, sym, subst, ◌∙◌, take, length, ◌+◌, ◌≡◌, ◌<◌, ◌≤◌}
use Rattle.std.proofs.lemmas.List.{take_all}
use Rattle.anb_syntax.specs.Lexing.{Lexes}
use Rattle.anb_syntax.specs.Words.{Tok}
use Rattle.anb_read.specs.declared.grammar.GrammarWord.{GrammarWord}
use Rattle.anb_read.specs.declared.places.Place.{Place}
use Rattle.anb_read.specs.Expected.{grammar_words}
use Rattle.anb_read.specs.Expecting.{before}
use Rattle.anb_read.specs.Places.{toks}
use Rattle.anb_read.specs.Refusals.{offset}
use Rattle.anb_read.proofs.GoingOn.{Answered, answered_yes, answered_no, all_answered}
use Rattle.anb_read.proofs.expecting.expected.Goals.{then-branch+in_ok-push, else-branch}
use Rattle.anb_read.proofs.expecting.expected.Goals as goal

pub loop-word-preserved : goal.loop-word-preserved
loop-word-preserved c =
    let ts = toks c.args.text.now c.before-front.result.now in
    let all = c.grammar_words-word-items.result in
    let within : c.loop-word.word-index < length all = rw c.grammar_words-word-items.ensures c.loop-word-test.true in
    elim c.if-branch.branch [
      | then-branch+in_ok-push w ↦
          answered_yes ts all c.loop-word.words.items c.loop-word.word-index _ within c.in_ok-expects.field-0 c.in_ok-expects.ensures c.loop-word.invariant w.if-branch.true
          c.if-branch.words.items (ap (λ v. v.items) w.words-is ∙ w.in_ok-push.ensures.items)
      | else-branch w ↦
          let P : List GrammarWord → Type 0 = λ words. Answered ts (take (c.loop-word.word-index + 1) all) words in
          subst P (sym (ap (λ v. v.items) w.words-is)) (answered_no ts all c.loop-word.words.items c.loop-word.word-index _ within c.in_ok-expects.field-0 c.in_ok-expects.ensures c.loop-word.invariant w.if-branch.false)
    ]

pub returns : goal.returns
returns c =
    let text = c.args.text.now in
    let all = toks text c.deref.result.now in
    let whole : Lexes 0 text all = let P = λ (vs : List Place). Lexes 0 text (toks text vs) in subst P (sym c.deref.ensures.value) c.in_ok-all.ensures in
    let words = c.grammar_words-word-items in
    let over : length words.result ≤ c.loop-word.word-index = rw words.ensures c.loop-word-test.false in
    let done : take c.loop-word.word-index words.result ≡ grammar_words = take_all c.loop-word.word-index words.result over ∙ words.ensures in
    let front : toks text c.before-front.result.now ≡ before (offset c.args.why) all = c.before-front.ensures text ∙ ap (λ n. before n all) c.offset.ensures in
    let P : List Tok → Type 0 = λ ts. Answered ts (take c.loop-word.word-index words.result) c.loop-word.words.items in
    let Q : List GrammarWord → Type 0 = λ ws. Answered (before (offset c.args.why) all) ws c.loop-word.words.items in
    all_answered text all whole c.args.why c.requires.refused c.loop-word.words.items (subst Q done (subst P front c.loop-word.invariant))
