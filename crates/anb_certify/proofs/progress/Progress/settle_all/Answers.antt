use Rattle.std.proofs.Common.{true, length, sym, ap, ◌∙◌, subst, arith}
use Rattle.std.proofs.lemmas.List.{length-replicate}
use Rattle.anb_certify.specs.Progress.{AreSet}
use Rattle.anb_certify.proofs.Progressing.{all_set, all_settled}
use Rattle.anb_certify.proofs.progress.Progress.settle_all.Goals as goal

pub returns : goal.returns
returns c ids ts did g enough h =
    let is = c.in_ok-self.ensures in (
      record {
        few = h.few;
        flags_long = ap length is ∙ length-replicate _ true ∙ omega (arith, c.len.ensures, c.args.self.now.flags.ok.0, h.flags_long);
        known_long = h.known_long;
        under = h.under;
        seen = h.seen;
        settled = all_settled ids ts did _ _ g enough;
        known = h.known;
        covered = h.covered;
        below = h.below;
      },
      subst AreSet (sym is) (all_set _),
    )
