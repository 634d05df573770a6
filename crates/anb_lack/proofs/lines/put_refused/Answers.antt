use Rattle.std.proofs.Common.{◌++◌, ap, ◌∙◌}
use Rattle.anb_lack.proofs.Written.{five}
use Rattle.anb_lack.proofs.lines.put_refused.Goals as goal

pub returns : goal.returns
returns c =
    five c.args.out.now.items _ _ _ _ _ _ _ _ _ _ (c.in_ok-put.ensures ∙ ap (λ l. c.args.out.now.items ++ l) c.as_str.ensures) c.in_ok-put-2.ensures
    (c.in_ok-put-3.ensures ∙ ap (λ l. c.put-2.new.out.items ++ l) (c.as_str-2.ensures ∙ c.in_ok-message.ensures)) c.in_ok-put-4.ensures c.in_ok-put_number.ensures
