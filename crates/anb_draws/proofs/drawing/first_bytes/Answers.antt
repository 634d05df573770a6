use Rattle.std.proofs.Common.{◌≡◌, ◌+◌, ◌-◌, ◌++◌, ◌∷◌, [], map, take, drop, sym, ap, ◌∙◌, append_assoc}
use Rattle.anb_base.specs.Bytes.{IsBytes}
use Rattle.anb_lemmas.proofs.Each.{each_and_last}
use Rattle.anb_lemmas.proofs.Lists.{drop_next}
use Rattle.anb_judge.specs.Verdicts.{line_bytes}
use Rattle.anb_draws.proofs.Taking.{next_taken}
use Rattle.anb_draws.proofs.drawing.first_bytes.Goals as goal

pub loop-line-preserved : goal.loop-line-preserved
loop-line-preserved c =
    let lines = c.args.lines.now in
    let line = c.line-item.result in
    let before = c.loop-line.bytes.items in
    let rest = drop (c.loop-line.line-index + 1) lines in
    let left = c.loop-line.left in
    let b = c.in_ok-copy.field-0 in
    let is : b ≡ line_bytes line = c.in_ok-copy.ensures.same ∙ c.bytes_of.ensures in
    let taken : take left (drop c.loop-line.line-index lines) ≡ line ∷ take (left - 1) rest =
    ap (take left) (drop_next lines c.loop-line.line-index line c.loop-line-test.true c.line-item.is) ∙ next_taken left line rest c.if-left-eq0.false in
    let pushed = c.in_ok-push.ensures.items in
    record {
      same = ap (λ l. l ++ map line_bytes (take (left - 1) rest)) pushed
          ∙ append_assoc before (b ∷ []) (map line_bytes (take (left - 1) rest))
          ∙ ap (λ x. before ++ x ∷ map line_bytes (take (left - 1) rest)) is
          ∙ ap (λ l. before ++ map line_bytes l) (sym taken)
          ∙ c.loop-line.invariant.same;
      bytes = rw pushed (each_and_last IsBytes before b c.loop-line.invariant.bytes c.in_ok-copy.ensures.bytes);
    }
