-- Where each role has a code that fits, each can send what it must.
use Rattle.std.proofs.Common.{List, [], ◌∷◌, arith}
use Rattle.anb_term.specs.Value.{Meaning}
use Rattle.anb_term.proofs.Lists.{slice_get-there}
use Rattle.anb_plays.specs.Plans.{CanSend, Event, know, fresh, send, recv}
use Rattle.anb_plays.specs.Codes.{Act, takes, draws, receives, sends, works, at_register}
use Rattle.anb_plays.specs.Fits.{Along, AnyBorder, AnyWork, Place, SendsIt, after_label, after_take, after_work, start}
use Rattle.anb_code.specs.Meaning.{acts_of}
use Rattle.anb_protocol.specs.Plays.{IsSendable, events_of, meaning_of}
use Rattle.anb_honest.specs.Joint.{Cast}
use Rattle.anb_honest.specs.Laws.{IsFitting}

-- the recipe of each send is one of its message
module _ {A : Type 0} (m : Meaning A) where
  can_send : (acts : List Act) (es : List Event) (s : Place) → Along (SendsIt m) AnyWork AnyBorder acts es s → CanSend m.has s.frame es
  can_send [] [] s along = tt
  can_send [] (e ∷ es) s along = absurd along
  can_send (works w ∷ acts) es s along = can_send acts es (after_work s w) along.1
  can_send (takes ∷ acts) [] s along = absurd along
  can_send (takes ∷ acts) (know t ∷ es) s along = can_send acts es (after_take s) along
  can_send (takes ∷ acts) (fresh t ∷ es) s along = absurd along
  can_send (takes ∷ acts) (send t ∷ es) s along = absurd along
  can_send (takes ∷ acts) (recv t ∷ es) s along = absurd along
  can_send (draws ∷ acts) [] s along = absurd along
  can_send (draws ∷ acts) (know t ∷ es) s along = absurd along
  can_send (draws ∷ acts) (fresh t ∷ es) s along = can_send acts es (after_label s t) along
  can_send (draws ∷ acts) (send t ∷ es) s along = absurd along
  can_send (draws ∷ acts) (recv t ∷ es) s along = absurd along
  can_send (receives ∷ acts) [] s along = absurd along
  can_send (receives ∷ acts) (know t ∷ es) s along = absurd along
  can_send (receives ∷ acts) (fresh t ∷ es) s along = absurd along
  can_send (receives ∷ acts) (send t ∷ es) s along = absurd along
  can_send (receives ∷ acts) (recv t ∷ es) s along = can_send acts es (after_label s t) along.1
  can_send (sends n ∷ acts) [] s along = absurd along
  can_send (sends n ∷ acts) (know t ∷ es) s along = absurd along
  can_send (sends n ∷ acts) (fresh t ∷ es) s along = absurd along
  can_send (sends n ∷ acts) (send t ∷ es) s along = ((at_register s.regs n, along.1), can_send acts es s along.2)
  can_send (sends n ∷ acts) (recv t ∷ es) s along = absurd along

pub fitting_send : (c : Cast) → IsFitting c → IsSendable c.protocol
fitting_send c fit role within =
    let (code, at) = slice_get-there c.codes role (omega (arith, within, fit.count)) in
    can_send (meaning_of c.protocol) (acts_of code) (events_of c.protocol role) (start (events_of c.protocol role)) (fit.each role code at).fits.sends
