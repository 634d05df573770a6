use Rattle.std.proofs.Common.{sym, ap, ◌∙◌}
use Rattle.std.specs.Prelude.{◌==◌, ◌&&◌}
use Rattle.anb_format.specs.Formats.{field_count}
use Rattle.anb_format.proofs.BuiltLemmas.{passes_sound}
use Rattle.anb_partner.proofs.standing.has_fields.Goals as goal

pub returns : goal.returns
returns c =
    let pieces = c.args.format.now.pieces in
    ap (λ n. n == c.args.count) c.arity.ensures ∙ sym (ap (λ b. b && (field_count pieces == c.args.count)) (passes_sound pieces c.pieces.ensures.sound))
