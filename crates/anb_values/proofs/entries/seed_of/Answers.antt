use Rattle.std.proofs.Common.{◌∙◌, length, ap, sym}
use Rattle.anb_values.proofs.FitLemmas.{seed_value}
use Rattle.anb_values.proofs.entries.seed_of.Goals as goal

pub copy_from_slice-requires : goal.copy_from_slice-requires
copy_from_slice-requires c = sym (ap length c.as_slice.ensures ∙ seed_value c.args.entries.now c.in_ok-value.value.now c.requires.whole (sym c.in_ok-value.ensures))
