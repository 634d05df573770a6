use Rattle.std.proofs.Common.{◌++◌, ap, ◌∙◌, true}
use Rattle.std.specs.Prelude.{replicate}
use Rattle.anb_intern.specs.Nodes.{operands_at}
use Rattle.anb_lack.specs.Opened.{inside}
use Rattle.anb_lack.proofs.ComingOut.{all_flags}
use Rattle.anb_lack.proofs.opening.inside.Goals as goal

pub put_inside-requires-clause-flags : goal.put_inside-requires-clause-flags
put_inside-requires-clause-flags c = c.deref.ensures.value ∙ c.in_ok-all.ensures ∙ ap (λ n. replicate n true) c.len.ensures.count ∙ all_flags c.args.pool.now

pub returns-clause-inside : goal.returns-clause-inside
returns-clause-inside c t at = c.in_ok-put_inside.ensures.inside t at ∙ ap (λ l. operands_at c.args.pool.now l ++ inside t) c.new-out.ensures.items
