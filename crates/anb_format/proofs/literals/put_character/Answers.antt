use Rattle.std.proofs.Common.{arith, inl, inr, append_assoc}
use Rattle.anb_format.proofs.Canonical.{escaped_byte}
use Rattle.anb_format.proofs.literals.put_character.Goals as goal
use Rattle.anb_format.proofs.literals.put_character.Goals.{in_default-via-then-byte-lt32, in_default-via-else-byte-lt32+else-byte-lt127}

pub returns-in_ok-push-in_default-2 : goal.returns-in_ok-push-in_default-2
returns-in_ok-push-in_default-2 c =
    let spelled = escaped_byte c.args.byte (omega arith) (omega arith)
    (elim c.in_default.branch [ in_default-via-then-byte-lt32 w ↦ inl (omega arith) | in_default-via-else-byte-lt32+else-byte-lt127 w ↦ inr (omega arith) ]) in
    rw (c.in_ok-push-in_default-2.ensures.items, c.in_ok-push-in_default.ensures.items, c.in_ok-extend_from_slice-in_default.ensures.items, spelled) (simp append_assoc)
