use Rattle.std.proofs.Common.{refl}
use Rattle.anb_words.specs.Words.{asked_of, files_of, place_of}
use Rattle.anb_cases.proofs.Rising.{is_reached, no_read_fault, no_write_fault, unfailing}
use Rattle.anb_cases.proofs.unfailing.run_unfailing.Goals as goal

pub returns-clause-reads : goal.returns-clause-reads
returns-clause-reads g c =
    no_read_fault (files_of (asked_of c.args.words.now)) (place_of (asked_of c.args.words.now)) _ _ (unfailing c.args.wire.now) (unfailing c.run.new.wire) c.run.result c.run.ensures.faults refl refl

pub returns-clause-writes : goal.returns-clause-writes
returns-clause-writes g c =
    no_write_fault (files_of (asked_of c.args.words.now)) (place_of (asked_of c.args.words.now)) _ _ (unfailing c.args.wire.now) (unfailing c.run.new.wire) c.run.result c.run.ensures.faults refl refl

pub returns-clause-reaches : goal.returns-clause-reaches
returns-clause-reaches g c =
    is_reached (files_of (asked_of c.args.words.now)) (place_of (asked_of c.args.words.now)) _ _ (unfailing c.args.wire.now) (unfailing c.run.new.wire) c.run.result c.run.ensures.faults refl refl
