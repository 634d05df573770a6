use Rattle.anb_format.proofs.fields.+leb128_at.Given as goal

abbrev pub decreases-leb128_at : goal.decreases-leb128_at
decreases-leb128_at l = l.more
