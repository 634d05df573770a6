use Rattle.std.proofs.Common.{◌≡◌, ◌⊎◌, inl, inr, rules, tests}
use Rattle.std.proofs.lemmas.Str.{IsUtf8-from_ascii}
use Rattle.anb_values.specs.Lines.{IsLabel, seed_label}
use Rattle.anb_values.proofs.LineLemmas.{line_label_is_ascii}
use Rattle.anb_values.proofs.lines.read_label.Goals as goal
use Rattle.anb_values.proofs.lines.read_label.Goals.{else-not-is_label-via-then-not-is_label+else-ne, else-not-is_label-via-else-not-is_label}

pub unwrap-label-requires : goal.unwrap-label-requires
unwrap-label-requires c =
    let label : IsLabel c.in_ok-bytes.bytes.items ⊎ (c.in_ok-bytes.bytes.items ≡ seed_label) = elim c.else-not-is_label.branch [
      | else-not-is_label-via-then-not-is_label+else-ne w ↦ inr (search (rules, tests))
      | else-not-is_label-via-else-not-is_label w ↦ inl (search (rules, tests))
    ] in
    c.from_utf8.ensures.succeeds (IsUtf8-from_ascii _ (line_label_is_ascii _ label))
