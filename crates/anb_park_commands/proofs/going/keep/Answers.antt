use Rattle.std.proofs.Common.{◌≡◌, ℕ, List, refl, subst}
use Rattle.anb_base.proofs.Moving.{put_nothing}
use Rattle.anb_code.specs.CodeValue.{CodeValue}
use Rattle.anb_park.specs.Lives.{Stands}
use Rattle.anb_park.specs.Records.{Parked, record_of}
use Rattle.anb_park_commands.specs.declared.ended.RecordWay.TheVariants.{ByWire}
use Rattle.anb_park_commands.specs.Going.{Writes}
use Rattle.anb_park_commands.proofs.Handing.{hands_by_wire}
use Rattle.anb_park_commands.proofs.going.keep.Goals as goal

pub returns-in-ByWire-clause-writes : goal.returns-in-ByWire-clause-writes
returns-in-ByWire-clause-writes g c = λ code s sent stands. rw c.in-ByWire.is
    (subst (λ (r : List ℕ). Writes ByWire r c.args.event (g.W.Wire.state c.args.wire.now) (g.W.Wire.state c.write_record.new.wire) c.write_record.result) (c.in-Ok.ensures.record code s sent stands) c.write_record.ensures.writes)

pub returns-in-ByWire-clause-hands : goal.returns-in-ByWire-clause-hands
returns-in-ByWire-clause-hands g c = rw c.in-ByWire.is (hands_by_wire (λ (r : List ℕ). (code : CodeValue) (s : Parked) (sent : List (List ℕ)) → Stands code s sent c.args.live.now → r ≡ record_of c.args.key.now s) c.write_record.result)

pub returns-in-ToFile-clause-writes : goal.returns-in-ToFile-clause-writes
returns-in-ToFile-clause-writes g c = λ code s sent stands. rw c.in-ToFile.is (refl, put_nothing (g.W.Wire.state c.args.wire.now).written)

pub returns-in-ToFile-clause-hands : goal.returns-in-ToFile-clause-hands
returns-in-ToFile-clause-hands g c = rw c.in-ToFile.is (c.in-Ok.parked, c.in-Ok.ensures.record, refl)
