use Rattle.std.proofs.Common.{◌≡◌, true, sym, ◌∙◌}
use Rattle.anb_value_mistakes.specs.Mistakes.{is_faulty}
use Rattle.anb_value_mistakes.proofs.Lines.{faulty_is}
use Rattle.anb_value_mistakes.proofs.telling.put_faulty.Goals as goal

pub returns-then-is_faulty : goal.returns-then-is_faulty
returns-then-is_faulty c =
    let is : is_faulty c.args.read.now.said ≡ true = sym c.is_faulty.ensures ∙ c.if-is_faulty.true in
    rw (faulty_is c.args.name.now c.args.number c.args.read.now is) (rw c.as_slice.ensures at c.put_wrong.ensures)
