-- A work.
use Rattle.std.proofs.Common.{refl}
use Rattle.anb_code.specs.Meaning.{act_of}
use Rattle.anb_openings.proofs.Gone.{work_done, ok_more}
use Rattle.anb_openings.specs.declared.walking.Walk.{Walk}
use Rattle.anb_openings.proofs.walking.step.Goals as goal

pub returns-in_default : goal.returns-in_default
returns-in_default c =
    let old = c.args.walk.now in
    let new : Walk = record old { table = c.work.new.registers } in
    ok_more c.work.result _ _ (λ went done. work_done c.args.made.now c.args.arrivals.now (act_of c.args.formats.now c.args.instr.now) old new went c.requires.ready done refl refl refl refl) c.work.ensures.done
