use Rattle.std.proofs.Common.{sym, ap, subst}
use Rattle.anb_base.specs.Wires.{WireState}
use Rattle.anb_base.specs.declared.TheConstants.{ARRIVAL}
use Rattle.anb_frame.specs.Cuts.{CutLeft}
use Rattle.anb_session.specs.Sessions.{waits_at}
use Rattle.anb_park.specs.Records.{after}
use Rattle.anb_park.proofs.Standing.{parked_here}
use Rattle.anb_park.proofs.playing.play_on.Goals as goal

pub returns-clause-waits : goal.returns-clause-waits
returns-clause-waits g c = λ is. (c.play_all.ensures.awaits is).waits

pub returns-clause-parked : goal.returns-clause-parked
returns-clause-parked g c = λ e code p sent is stands.
    let left = ap (λ (w : WireState). w.left) (g.met.W.Wire.state_tells c.args.wire.now) in
    let now = c.play_all.ensures.awaits (ap waits_at is) in
    let on = c.play_all.ensures.heard e is in
    let s = on.1.each code p sent stands in
    record {
      more = on.0;
      parked = parked_here code (after p on.0) s.0 c.play_all.new.played now.event s.1 now.next now.waits;
      all = λ arrivals tail cut. on.2 arrivals tail (subst (λ l. CutLeft ARRIVAL l arrivals tail) (sym left) cut);
    }
