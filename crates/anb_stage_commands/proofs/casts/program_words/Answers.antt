use Rattle.std.proofs.Common.{◌∙◌, ap, sym, arith, length, lit<, take}
use Rattle.std.specs.Prelude.{filter}
use Rattle.std.specs.List.{slice_split}
use Rattle.std.proofs.lemmas.Iterator.Consumers.{YieldsList-at, YieldsList-end, YieldsList-turn}
use Rattle.std.proofs.lemmas.Iterator.Splits.{YieldsList-from_str_split}
use Rattle.std.proofs.lemmas.List.{length_push, take_all}
use Rattle.anb_stage_commands.specs.Words.{is_space, is_word}
use Rattle.anb_stage_commands.proofs.Lists.{kept_next}
use Rattle.anb_stage_commands.proofs.casts.program_words.Goals as goal

pub loop-word-preserved : goal.loop-word-preserved
loop-word-preserved c =
    let parts = slice_split is_space c.args.program.now in
    let here = YieldsList-turn (YieldsList-at c.into_iter-word-iterator.ensures.into_iter_gives (YieldsList-from_str_split 32 c.args.program.now (lit< tt) (c.split-word-items.ensures.text ∙ c.as_str.ensures) c.split-word-items.ensures.has_more c.split-word-items.ensures.pattern)) c.loop-word.yielded _ c.loop-word.yielded_by _ _ c.in-Some.word c.in-Some.is c.next.ensures.steps in
    let n = length_push c.loop-word.yielded c.in-Some.word in
    kept_next is_word parts (length c.loop-word.yielded) c.in-Some.word.now c.loop-word.words.items c.put_word.new.words.items here.0 here.1 c.loop-word.invariant c.in_ok-put_word.ensures
    ∙ ap (λ k. filter is_word (take k parts)) (sym n)

pub returns : goal.returns
returns c =
    let parts = slice_split is_space c.args.program.now in
    let end = YieldsList-end (YieldsList-at c.into_iter-word-iterator.ensures.into_iter_gives (YieldsList-from_str_split 32 c.args.program.now (lit< tt) (c.split-word-items.ensures.text ∙ c.as_str.ensures) c.split-word-items.ensures.has_more c.split-word-items.ensures.pattern)) c.loop-word.yielded _ c.loop-word.yielded_by _ _ c.in-None.is c.next.ensures.steps in
    c.loop-word.invariant ∙ ap (λ l. filter is_word l) (take_all (length c.loop-word.yielded) parts (omega (arith, end.1)))
