use Rattle.std.proofs.Common.{◌∙◌, Err, ap, arith, subst, sym, List, ℕ}
use Rattle.anb_recording.specs.Journals.{IsThere}
use Rattle.anb_stage_commands.specs.declared.files.Both.{Both}
use Rattle.anb_stage_commands.proofs.Logged.{all_made_at, failed_at, made_next, mid_faults, there_at, wanting_at}
use Rattle.anb_stage_commands.proofs.record.make_all.Goals as goal

pub returns-in-Err-First-clause-made : goal.returns-in-Err-First-clause-made
returns-in-Err-First-clause-made g c =
    let err = c.in-Err-First.is ∙ ap Err c.in-Err-First.field-0-is in
    there_at c.args.files.now c.loop-place.place c.index-files-place.result c.loop-place-test.true c.index-files-place.is (g.J.Store.state c.args.journal.now) (g.J.Store.state c.loop-place.journal) c.loop-place.invariant
    (g.J.Store.state c.begin.new.self) (λ (b : Both). b.lined) (c.begin.ensures.first_stays err) (subst (λ (n : List ℕ). IsThere (g.J.Store.state c.loop-place.journal) n) c.as_str.ensures (c.begin.ensures.first_there err))

pub returns-in-Err-Second-clause-made : goal.returns-in-Err-Second-clause-made
returns-in-Err-Second-clause-made g c =
    let err = c.in-Err-Second.is ∙ ap Err c.in-Err-Second.field-0-is in
    there_at c.args.files.now c.loop-place.place c.index-files-place.result c.loop-place-test.true c.index-files-place.is (g.J.Store.state c.args.journal.now) (g.J.Store.state c.loop-place.journal) c.loop-place.invariant
    (g.J.Store.state c.begin.new.self) (λ (b : Both). b.beside) (c.begin.ensures.second_stays err) (subst (λ (n : List ℕ). IsThere (g.J.Store.state c.loop-place.journal) n) c.as_str-in-loop-place.ensures (c.begin.ensures.second_there err))

pub returns-in-Err-Failed-clause-made : goal.returns-in-Err-Failed-clause-made
returns-in-Err-Failed-clause-made g c =
    let err = c.in-Err-Failed.is ∙ ap Err c.in-Err-Failed.field-0-is in
    failed_at c.args.files.now c.loop-place.place c.index-files-place.result c.loop-place-test.true c.index-files-place.is (g.J.Store.state c.args.journal.now) (g.J.Store.state c.loop-place.journal) c.loop-place.invariant
    (g.J.Store.state c.begin.new.self) (c.begin.ensures.cause err) c.begin.ensures.never_falls (rw (c.as_str.ensures, c.as_str-in-loop-place.ensures) at c.begin.ensures.others)

pub returns-in-Err-NoMemory-clause-made : goal.returns-in-Err-NoMemory-clause-made
returns-in-Err-NoMemory-clause-made g c =
    let err = c.in-Err-NoMemory.is ∙ ap Err c.in-Err-NoMemory.field-0-is in
    wanting_at c.args.files.now c.loop-place.place c.index-files-place.result c.loop-place-test.true c.index-files-place.is (g.J.Store.state c.args.journal.now) (g.J.Store.state c.loop-place.journal) c.loop-place.invariant
    (g.J.Store.state c.begin.new.self) (c.begin.ensures.quiet (λ is. let never = sym err ∙ is in cc)) (rw (c.as_str.ensures, c.as_str-in-loop-place.ensures) at c.begin.ensures.others)

pub returns-in-Err-First-clause-never_falls : goal.returns-in-Err-First-clause-never_falls
returns-in-Err-First-clause-never_falls g c =
    let same = mid_faults c.args.files.now c.loop-place.place c.index-files-place.result c.loop-place-test.true c.index-files-place.is (g.J.Store.state c.args.journal.now) (g.J.Store.state c.loop-place.journal) c.loop-place.invariant in
    omega (arith, same, c.begin.ensures.never_falls)

pub returns-in-Err-Second-clause-never_falls : goal.returns-in-Err-Second-clause-never_falls
returns-in-Err-Second-clause-never_falls g c =
    let same = mid_faults c.args.files.now c.loop-place.place c.index-files-place.result c.loop-place-test.true c.index-files-place.is (g.J.Store.state c.args.journal.now) (g.J.Store.state c.loop-place.journal) c.loop-place.invariant in
    omega (arith, same, c.begin.ensures.never_falls)

pub returns-in-Err-Failed-clause-never_falls : goal.returns-in-Err-Failed-clause-never_falls
returns-in-Err-Failed-clause-never_falls g c =
    let same = mid_faults c.args.files.now c.loop-place.place c.index-files-place.result c.loop-place-test.true c.index-files-place.is (g.J.Store.state c.args.journal.now) (g.J.Store.state c.loop-place.journal) c.loop-place.invariant in
    omega (arith, same, c.begin.ensures.never_falls)

pub returns-in-Err-NoMemory-clause-never_falls : goal.returns-in-Err-NoMemory-clause-never_falls
returns-in-Err-NoMemory-clause-never_falls g c =
    let same = mid_faults c.args.files.now c.loop-place.place c.index-files-place.result c.loop-place-test.true c.index-files-place.is (g.J.Store.state c.args.journal.now) (g.J.Store.state c.loop-place.journal) c.loop-place.invariant in
    omega (arith, same, c.begin.ensures.never_falls)

pub loop-place-preserved : goal.loop-place-preserved
loop-place-preserved g c =
    made_next c.args.files.now c.loop-place.place c.index-files-place.result c.loop-place-test.true c.index-files-place.is (g.J.Store.state c.args.journal.now) (g.J.Store.state c.loop-place.journal) c.loop-place.invariant
    (g.J.Store.state c.begin.new.self) (rw (c.as_str.ensures, c.as_str-in-loop-place.ensures) at c.in-Ok.ensures.begun) (rw c.as_str.ensures at c.in-Ok.ensures.new_first)
    (rw c.as_str-in-loop-place.ensures at c.in-Ok.ensures.new_second) (rw (c.as_str.ensures, c.as_str-in-loop-place.ensures) at c.begin.ensures.others)

pub returns-clause-made : goal.returns-clause-made
returns-clause-made g c = all_made_at c.args.files.now c.loop-place.place (g.J.Store.state c.args.journal.now) (g.J.Store.state c.loop-place.journal) (omega (arith, c.loop-place-test.false)) c.loop-place.invariant

pub returns-clause-never_falls : goal.returns-clause-never_falls
returns-clause-never_falls g c = (all_made_at c.args.files.now c.loop-place.place (g.J.Store.state c.args.journal.now) (g.J.Store.state c.loop-place.journal) (omega (arith, c.loop-place-test.false)) c.loop-place.invariant).0.never_falls
