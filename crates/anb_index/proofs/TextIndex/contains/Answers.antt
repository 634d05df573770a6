use Rattle.std.proofs.Common.{ap, ◌∙◌}
use Rattle.std.specs.Option.{is_some}
use Rattle.std.specs.Str.{bytes_eq}
use Rattle.anb_index.specs.Places.{among}
use Rattle.anb_index.proofs.PlaceLemmas.{is_some-position_from}
use Rattle.anb_index.proofs.TextIndex.contains.Goals as goal

pub returns : goal.returns
returns c =
    c.contains_key.ensures ∙ ap is_some (c.self.invariant c.args.text.now)
    ∙ is_some-position_from (λ y. bytes_eq y c.args.text.now) 0 _
    ∙ ap (λ ts. among ts c.args.text.now) c.self.view_is
