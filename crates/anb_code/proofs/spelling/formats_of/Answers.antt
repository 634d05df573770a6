use Rattle.std.proofs.Common.{◌∷◌, [], ◌<◌, ◌^◌, append_assoc, ap, ◌∙◌, length, arith}
use Rattle.std.proofs.lemmas.List.Elements.{All-tail}
use Rattle.anb_format.specs.Formats.{FormatValue, IsSound}
use Rattle.anb_code.proofs.spelling.formats_of.Goals as goal

pub loop-format-preserved : goal.loop-format-preserved
loop-format-preserved c = let steps = c.in-Some.ensures.steps in record {
  pieces = All-tail (λ (format : FormatValue). length format.pieces < 2 ^ 32) c.in-Some.format _ (rw steps.0 at c.loop-format.invariant.pieces);
  sound = All-tail (λ (format : FormatValue). IsSound format.pieces) c.in-Some.format _ (rw steps.0 at c.loop-format.invariant.sound);
  joined = rw (c.in_ok-push.ensures.items, c.format_of.ensures) (append_assoc c.loop-format.formats.items (c.in-Some.format ∷ []) c.next.new.self.rest.items ∙ rw steps.0 at c.loop-format.invariant.joined);
  left = omega (arith, steps.1, ap length steps.0, c.loop-format.invariant.left);
}
