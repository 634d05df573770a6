use Rattle.std.proofs.Common.{length}
use Rattle.anb_attempts.specs.declared.parts.Part.{Part}
use Rattle.anb_attempts.specs.Attempts.{IsPartOfCheck}
use Rattle.anb_attempts.specs.Parts.{part_value}
use Rattle.anb_attempts.proofs.Turns.{if_one}
use Rattle.anb_attempts.proofs.checking.part_of_check.Goals as goal

pub returns : goal.returns
returns c =
    if_one c.joined-2.result _ (λ (part : Part). IsPartOfCheck c.args.p.now c.args.role c.args.code.now c.args.changes.now c.args.scene c.args.check (part_value part)) c.joined-2.ensures
    (λ part h. record {
      own = part_value c.in_ok-own.own;
      own_is = c.in_ok-own.ensures;
      first = part_value c.in_ok-first.first;
      first_is = c.in_ok-first.ensures;
      both = part_value c.in_ok-both.both;
      both_are = c.in_ok-both.ensures;
      second = part_value c.in_ok-second.second;
      second_is = c.in_ok-second.ensures;
      all = h;
    })
