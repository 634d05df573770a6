use Rattle.std.proofs.Common.{◌++◌, ap, ◌∙◌}
use Rattle.anb_lack.proofs.Written.{six}
use Rattle.anb_lack.proofs.root_lines.put_behind.Goals as goal

pub returns : goal.returns
returns c =
    six c.args.out.now.items _ _ _ _ _ _ _ _ _ _ _ _ (c.in_ok-put.ensures ∙ ap (λ l. c.args.out.now.items ++ l) c.as_str.ensures) c.in_ok-put-2.ensures
    (c.in_ok-put-3.ensures ∙ ap (λ l. c.put-2.new.out.items ++ l) (c.as_str-2.ensures ∙ c.in_ok-term.ensures)) c.in_ok-put_place.ensures c.in_ok-put-4.ensures
    (c.in_ok-put-5.ensures ∙ ap (λ l. c.put-4.new.out.items ++ l) (c.as_str-3.ensures ∙ c.in_ok-key.ensures))
