use Rattle.std.proofs.Common.{None, Some, [], ◌∷◌, sym}
use Rattle.anb_stage.specs.Notes.{heard_note, said_note}
use Rattle.anb_stage.proofs.Noting.{may_be_silent}
use Rattle.anb_stage.proofs.carrying.carry.Goals as goal

pub returns-in-Ok-put_to-clause-told : goal.returns-in-Ok-put_to-clause-told
returns-in-Ok-put_to-clause-told g c =
    let bytes = c.as_slice.result.now in
    rw (sym c.as_slice.ensures)
    (g.met.L.Log.joined c.args.log.now c.said.new.self c.heard.new.self (said_note c.args.action c.args.ends.from bytes ∷ []) (heard_note c.args.action c.args.ends.to bytes ∷ []) c.said.ensures (rw (c.as_slice-in-Ok-put_to.ensures, sym c.as_slice.ensures) at c.heard.ensures))

pub returns-in-Err-clause-told_alone : goal.returns-in-Err-clause-told_alone
returns-in-Err-clause-told_alone g c = record {
  said = None;
  after = g.met.L.Log.stays c.args.log.now;
  may = may_be_silent c.in-Err.no;
  at = c.in-Err.ensures.at;
  first = λ bs tail cut. tt;
}

pub returns-in-Err-put_to-clause-told_alone : goal.returns-in-Err-put_to-clause-told_alone
returns-in-Err-put_to-clause-told_alone g c = record {
  said = Some c.in-Ok.bytes;
  after = rw c.as_slice.ensures at c.said.ensures;
  may = tt;
  at = tt;
  first = λ bs tail cut. let t = c.in-Ok.ensures.takes bs tail cut in (t.0, t.1);
}
