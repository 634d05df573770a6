use Rattle.std.proofs.Common.{ap, inl, inr, length, refl, to_z-of_z, ◌∙◌}
use Rattle.anb_c.specs.Statuses.{text_of}
use Rattle.anb_c.proofs.anb_status_text.Goals as goal

pub returns-then-copy_out : goal.returns-then-copy_out
returns-then-copy_out c =
    let copied = c.copy_out.ensures.copied c.if-copy_out.true in
    inl (refl, copied.1, copied.0 ∙ c.as_bytes.ensures.value ∙ c.text_of.ensures ∙ ap text_of (to_z-of_z c.ranges.status))

pub returns-else-copy_out : goal.returns-else-copy_out
returns-else-copy_out c =
    let short = c.copy_out.ensures.short c.if-copy_out.false in
    let text = c.as_bytes.ensures.value ∙ c.text_of.ensures ∙ ap text_of (to_z-of_z c.ranges.status) in
    inr (refl, short.0, short.1, c.copy_out.ensures.written ∙ ap length text)
