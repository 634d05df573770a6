use Rattle.anb_suite.proofs.walking.step_at.Goals as goal

pub step-requires-else-at-check-clause-format : goal.step-requires-else-at-check-clause-format
step-requires-else-at-check-clause-format c = c.in_ok-read.ensures.format c.args.formats.now c.requires.format
