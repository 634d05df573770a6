use Rattle.std.proofs.Common.{◌++◌, ◌∷◌, [], refl, ap, ◌∙◌}
use Rattle.anb_attempts.proofs.parts.one_gap.Goals as goal

pub returns : goal.returns
returns c = record {
  gap = record { place = c.args.place; why = c.args.why };
  place = refl;
  why_is = refl;
  scenes = c.new.ensures.items;
  attempts = c.new-2.ensures.items;
  gaps = c.in_ok-push.ensures.items ∙ ap (λ l. l ++ record { place = c.args.place; why = c.args.why } ∷ []) c.new-gaps.ensures.items;
}
