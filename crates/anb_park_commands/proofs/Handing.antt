-- The record that is handed out, and what a store holds of it.
use Rattle.std.proofs.Common.{◌≡◌, ◌⊎◌, ℕ, Bool, true, false, List, [], length, take, Option, Some, None, unwrap_or, refl, ap, sym, ◌∙◌, subst, inl, inr}
use Rattle.std.proofs.lemmas.List.{append-nil, take_at}
use Rattle.anb_base.specs.Bytes.{IsBytes}
use Rattle.anb_base.specs.Moves.{Put, Rose}
use Rattle.anb_base.specs.Wires.{WireState}
use Rattle.anb_base.specs.declared.TheConstants.{ARRIVAL}
use Rattle.anb_base.specs.declared.place.Place.{Place}
use Rattle.anb_frame.specs.Cuts.{Tail, End, Cut, CutLeft}
use Rattle.anb_frame.specs.Frames.{frames}
use Rattle.anb_plays.specs.Plays as plays
use Rattle.anb_plays.specs.Plays.{Played}
use Rattle.anb_session.specs.declared.PlayEnd.{PlayEnd}
use Rattle.anb_session.specs.declared.PlayEnd.TheVariants as ends
use Rattle.anb_status.specs.declared.status.Status.{Status}
use Rattle.anb_status.specs.declared.status.Status.TheVariants.{Done, Parked, Unwritten, NoMemory}
use Rattle.anb_status.specs.Statuses.{IsEarly, after_reach, at_any_time, at_reach, before_reach, is_fault, phase_of}
use Rattle.anb_store.specs.Stores.{HasFailed, StoreState, replaced}
use Rattle.anb_command.specs.Causes.{HasCause}
use Rattle.anb_command.specs.Fetches.{Files, IfTold}
use Rattle.anb_command.specs.Outcomes.{LeavesAt}
use Rattle.anb_command.specs.Reaches.{Reaches}
use Rattle.anb_command.specs.Refusing.{IsRefusing}
use Rattle.anb_command.specs.Reported.{TellsFaults}
use Rattle.anb_command.specs.Steps.{Answer, HasOneAnswer, refused, given}
use Rattle.anb_command.specs.Touches.{Touches}
use Rattle.anb_command.proofs.Ones.{RefusesQuietly, same_given}
use Rattle.anb_command.proofs.Reported.{calm_told}
use Rattle.anb_command.proofs.Written.{faulty}
use Rattle.anb_park_commands.specs.declared.ended.RecordWay.{RecordWay}
use Rattle.anb_park_commands.specs.declared.ended.RecordWay.TheVariants.{ByWire, ToFile}
use Rattle.anb_park_commands.specs.Going.{Hands, HandsOut, Stores, StoresOr, ended_so}
use Rattle.anb_park_commands.specs.Parking.{CompletesOver, CutShort, HasParkCause, IsOutcome, IsRecordOf, KeepsIn, Outcome, ParksOver, is_parked, record_after}
use Rattle.anb_park_commands.specs.Sessions.{RoleSession}
use Rattle.anb_park_commands.proofs.Answering.{IsAccepted}
use Rattle.anb_park_commands.proofs.Ending.{parked_waits}
use Rattle.anb_park_commands.proofs.Ready.{IsReady}

-- ---- what is handed out

pub hands_map : (way : RecordWay) (P Q : List ℕ → Type 0) (s : Status) (handed : Option (List ℕ)) → ((record_bytes : List ℕ) → P record_bytes → Q record_bytes)
    → HandsOut way P s handed → HandsOut way Q s handed
hands_map way P Q (Parked e) handed f hands = by way hands where
  by : (w : RecordWay) → Hands w P handed → Hands w Q handed
  by ByWire none = none
  by ToFile (record_bytes, is, same) = (record_bytes, f record_bytes is, same)
hands_map way P Q _ handed f hands = hands

-- no record that goes over the wire is handed out
pub hands_by_wire : (P : List ℕ → Type 0) (s : Status) → HandsOut ByWire P s None
hands_by_wire P (Parked e) = refl
hands_by_wire P _ = refl

-- a session that isn't parked hands out nothing
pub hands_none : (way : RecordWay) (P : List ℕ → Type 0) (e : PlayEnd) → HandsOut way P (ended_so e) None
hands_none way P ends.Done = refl
hands_none way P (ends.Stopped halt) = refl
hands_none way P (ends.Waiting e) = refl
hands_none way P (ends.Truncated have need) = refl
hands_none way P (ends.TooLarge len) = refl
hands_none way P ends.ReadFault = refl
hands_none way P ends.WriteFault = refl
hands_none way P ends.NoMemory = refl

-- nothing is handed out before the place is reached
pub hands_early : (way : RecordWay) (P : List ℕ → Type 0) (s : Status) → IsEarly s → HandsOut way P s None
hands_early way P (Parked e) (inl early) = absurd (let never = early.0 in cc)
hands_early way P (Parked e) (inr never) = absurd (cc)
hands_early way P _ early = refl

-- the record of the session that is played is that of what is asked for
pub is_record_of : (Comes : RoleSession → List (List ℕ) → Played (List ℕ) → Type 0) (Prepares : Files → Answer RoleSession → Type 0) → ((files : Files) → HasOneAnswer (Prepares files))
    → (R : List (List ℕ) → Played (List ℕ)) (records : List (List ℕ) → List ℕ) (Kept : List (List ℕ) → Type 0) (told : Option Files) (left : Option (List ℕ))
    → IfTold told (λ files. IsReady Comes (Prepares files) R records Kept) → (record_bytes : List ℕ)
    → ((arrivals : List (List ℕ)) (tail : Tail) → CutLeft ARRIVAL left arrivals tail → record_bytes ≡ records arrivals) → IsRecordOf Prepares told left record_bytes
is_record_of Comes Prepares one R records Kept None left ready record_bytes is = tt
is_record_of Comes Prepares one R records Kept (Some files) None ready record_bytes is = tt
is_record_of Comes Prepares one R records Kept (Some files) (Some input) ready record_bytes is = λ arrivals tail asked bytes cut asks.
    let same : ready.asked ≡ asked = same_given ready.asked asked (one files (given ready.asked) (given asked) ready.asks asks) in
    is arrivals tail cut ∙ sym (ready.records_are arrivals) ∙ ap (λ (a : RoleSession). record_after a arrivals) same

-- ---- where it is kept

-- keeping it, in the words of the whole
pub stores_or : (file : List ℕ) (old new : StoreState) (result : Status) (record_bytes : List ℕ) (s : Status) (fault : Option Status) → StoresOr file record_bytes old new fault → result ≡ unwrap_or fault s → Stores file (Some record_bytes) s old new result
stores_or file old new result record_bytes s fault (inl (is, kept)) at = inl (at ∙ ap (λ (f : Option Status). unwrap_or f s) is, kept)
stores_or file old new result record_bytes s fault (inr (inl (is, failed))) at = inr (inl (at ∙ ap (λ (f : Option Status). unwrap_or f s) is, failed))
stores_or file old new result record_bytes s fault (inr (inr (is, same))) at = inr (inr (at ∙ ap (λ (f : Option Status). unwrap_or f s) is, same))

module _ (file : List ℕ) (old new : StoreState) (result : Status) (IsRecord : List ℕ → Type 0) where
  -- What holds of the end of the session holds of the status, where it holds too of a parked session whose
  -- record can't be kept.
  pub by_end : (P : Status → Type 0) (handed : Option (List ℕ)) (s : Status) → HandsOut ToFile IsRecord s handed → Stores file handed s old new result
      → ((e : ℕ) → P (Parked e) → P (Unwritten file)) → ((e : ℕ) → P (Parked e) → P NoMemory) → P s → P result
  by_end P None s hands (is, same) unwritten wanting p = subst P (sym is) p
  by_end P (Some record_bytes) (Parked e) hands (inl (is, kept)) unwritten wanting p = subst P (sym is) p
  by_end P (Some record_bytes) (Parked e) hands (inr (inl (is, failed))) unwritten wanting p = subst P (sym is) (unwritten e p)
  by_end P (Some record_bytes) (Parked e) hands (inr (inr (is, same))) unwritten wanting p = subst P (sym is) (wanting e p)
  by_end P (Some record_bytes) _ hands stores unwritten wanting p = absurd (cc)

  module _ (names : List (List ℕ)) (place : Option Place) (faults faults_now : List ℕ → ℕ) (S T : WireState) where
    -- the store holds the record, or is as it was
    pub keeps : (handed : Option (List ℕ)) (s : Status) → HandsOut ToFile IsRecord s handed → HasCause names place faults faults_now S T s → Stores file handed s old new result
        → KeepsIn file IsRecord old new result
    keeps None (Parked e) hands cause stores = absurd (let never = hands.2 in cc)
    keeps None (Unwritten name) hands cause stores = absurd cause
    keeps None s hands cause (is, same) = subst (KeepsIn file IsRecord old new) (sym is) same
    keeps (Some record_bytes) (Parked e) (handed, is_record, here) cause (inl (is, kept)) =
        let same : record_bytes ≡ handed = cc in
        subst (KeepsIn file IsRecord old new) (sym is) (handed, is_record, kept ∙ ap (replaced old file) same)
    keeps (Some record_bytes) (Parked e) hands cause (inr (inl (is, failed))) = subst (KeepsIn file IsRecord old new) (sym is) (refl, failed)
    keeps (Some record_bytes) (Parked e) hands cause (inr (inr (is, same))) = subst (KeepsIn file IsRecord old new) (sym is) same
    keeps (Some record_bytes) _ hands cause stores = absurd (cc)

    as_park_cause : (s : Status) → HasCause names place faults faults_now S T s → HasParkCause file names place faults faults_now S T old new s
    as_park_cause (Unwritten name) cause = absurd cause
    as_park_cause _ cause = cause

    pub park_cause : (handed : Option (List ℕ)) (s : Status) → HandsOut ToFile IsRecord s handed → HasCause names place faults faults_now S T s → Stores file handed s old new result
        → HasParkCause file names place faults faults_now S T old new result
    park_cause None s hands cause (is, same) = subst (HasParkCause file names place faults faults_now S T old new) (sym is) (as_park_cause s cause)
    park_cause (Some record_bytes) s hands cause (inl (is, kept)) = subst (HasParkCause file names place faults faults_now S T old new) (sym is) (as_park_cause s cause)
    park_cause (Some record_bytes) s hands cause (inr (inl (is, failed))) = subst (HasParkCause file names place faults faults_now S T old new) (sym is) (refl, failed.rose)
    park_cause (Some record_bytes) s hands cause (inr (inr (is, same))) = subst (HasParkCause file names place faults faults_now S T old new) (sym is) tt

-- ---- where it can't be kept, after a session that waits

pub still_reported : (faults faults_now : List ℕ → ℕ) (S T : WireState) (e : ℕ) (s : Status) → TellsFaults faults faults_now S T (Parked e) → TellsFaults faults faults_now S T s
still_reported faults faults_now S T e s told = record { files = λ _. told.files refl; wire = calm_told S T (Parked e) refl told.wire s }

pub still_touches : (reading : Bool) (S T : WireState) → Touches reading after_reach S T → Touches reading at_any_time S T
still_touches reading S T touches = record {
  before = λ is. absurd (cc);
  unreached = λ is. absurd (cc);
  missed = λ rose. absurd (let never = touches.missed rose in cc);
  unread = touches.unread;
  untaken = touches.untaken;
  unread_faults = touches.unread_faults;
  reads = touches.reads;
  writes = touches.writes;
  reaches = touches.reaches;
}

-- a fault, or want of memory, behind the messages
abbrev pub IsUnkept : Status → Type 0
IsUnkept (Unwritten name) = Unit {0}
IsUnkept NoMemory = Unit {0}
IsUnkept s = ⊥

module _ (Comes : RoleSession → List (List ℕ) → Played (List ℕ) → Type 0) where
  module _ (Prepares : Answer RoleSession → Type 0) (quiet : RefusesQuietly Prepares) where
    not_refused : (e : ℕ) → Prepares (refused (Parked e)) → ⊥
    not_refused e asks = let never = (quiet.each (Parked e) asks).1 in cc

    still_refuses : (Reads : List ℕ → Type 0) (s : Status) → IsUnkept s → (e : ℕ) → IsRefusing Prepares Reads (Parked e) → IsRefusing Prepares Reads s
    still_refuses Reads (Unwritten name) unkept e r = record {
      is = λ early _. absurd (cc);
      only = λ t asks. absurd (not_refused e (let is : Parked e ≡ t = r.only t asks in subst (λ (u : Status). Prepares (refused u)) (sym is) asks));
      file = tt;
    }
    still_refuses Reads NoMemory unkept e r = record { is = λ early _. absurd (cc); only = λ t asks. tt; file = tt }
    still_refuses Reads _ unkept e r = absurd unkept

  module _ (Prepares : Answer RoleSession → Type 0) (quiet : RefusesQuietly Prepares) (left : List ℕ) (arrivals : List (List ℕ)) (tail : Tail) where
    -- what was written and what is left where the session is parked is that of one that is cut short
    is_cut_short : (s : Status) → IsUnkept s → (e : ℕ) (out rest : List ℕ) → Outcome ToFile Comes Prepares left arrivals tail (Parked e) out rest → (now : Option (List ℕ)) → now ≡ Some rest
        → CutShort ToFile Comes Prepares left arrivals tail s out now
    is_cut_short s unkept e out rest (inl refusal) now is = absurd (not_refused Prepares quiet e refusal.refuses)
    is_cut_short (Unwritten name) unkept e out rest (inr (asked, asks, played)) now is =
        let (waits, border) = parked_waits played.play.end tail e played.status_is in
        let parked : is_parked played.play.end tail ≡ true = ap (λ (x : plays.End). is_parked x tail) waits ∙ ap (λ (t : Tail). is_parked (plays.waiting e) t) border in
        let all : LeavesAt (plays.waiting e) left arrivals played.play.left End rest =
        subst (λ (t : Tail). LeavesAt (plays.waiting e) left arrivals played.play.left t rest) border
        (subst (λ (x : plays.End). LeavesAt x left arrivals played.play.left tail rest) waits played.leaves) in
        (asked, asks, (played.play, played.plays, parked, played.writes), is ∙ ap Some all)
    is_cut_short NoMemory unkept e out rest (inr (asked, asks, played)) now is =
        let sent = played.play.sent in
        let whole : take (length sent) sent ≡ sent = ap (take (length sent)) (sym (append-nil sent)) ∙ take_at sent [] (length sent) refl in
        inr (asked, asks, (played.play, played.plays, (length sent, played.writes ∙ ap frames (sym whole))))
    is_cut_short _ unkept e out rest (inr some) now is = absurd unkept

    unkept_fault : (s : Status) → IsUnkept s → is_fault s ≡ true
    unkept_fault (Unwritten name) unkept = refl
    unkept_fault NoMemory unkept = refl
    unkept_fault _ unkept = absurd unkept

    outcome : (s : Status) → IsUnkept s → (e : ℕ) (now written written_now : Option (List ℕ)) → IsOutcome ToFile Comes Prepares left arrivals tail (Parked e) now written written_now
        → IsOutcome ToFile Comes Prepares left arrivals tail s now written written_now
    outcome s unkept e now written written_now o =
        let fault = unkept_fault s unkept in
        let (out, rest, came, put, is) = o.is refl in
        record {
          is = λ calm. faulty (sym fault ∙ calm);
          only = λ calm. faulty (sym fault ∙ calm);
          cut_short = λ _. (out, is_cut_short s unkept e out rest came now is, put);
        }

  module _ (Prepares : Files → Answer RoleSession → Type 0) (quiet : (files : Files) → RefusesQuietly (Prepares files)) (Reads : Files → List ℕ → Type 0) (S T : WireState) (s : Status) (unkept : IsUnkept s) (e : ℕ) where
    never_parked : (event : ℕ) → s ≡ Parked event → ⊥
    never_parked event is = let p : IsUnkept (Parked event) = subst IsUnkept is unkept in p

    over_input : (files : Files) (left : Option (List ℕ))
        → IfTold left (λ (input : List ℕ). (arrivals : List (List ℕ)) (tail : Tail) → IsBytes input → Cut ARRIVAL input arrivals tail
        → IsOutcome ToFile Comes (Prepares files) input arrivals tail (Parked e) T.left S.written T.written)
        → IfTold left (λ (input : List ℕ). (arrivals : List (List ℕ)) (tail : Tail) → IsBytes input → Cut ARRIVAL input arrivals tail
        → IsOutcome ToFile Comes (Prepares files) input arrivals tail s T.left S.written T.written)
    over_input files None is = tt
    over_input files (Some input) is = λ arrivals tail bytes cut.
        outcome (Prepares files) (quiet files) input arrivals tail s unkept e T.left S.written T.written (is arrivals tail bytes cut)

    not_accepted : (files : Files) (left : Option (List ℕ)) → IfTold left (λ (input : List ℕ). (event : ℕ) (arrivals : List (List ℕ)) (tail : Tail) (asked : RoleSession) → s ≡ Parked event → IsBytes input
        → Cut ARRIVAL input arrivals tail → Prepares files (given asked) → IsAccepted asked arrivals)
    not_accepted files None = tt
    not_accepted files (Some input) = λ event arrivals tail asked is bytes cut asks. absurd (never_parked event is)

    pub still_parks : (told : Option Files) → ParksOver ToFile Comes Prepares told S T (Parked e) Reads → ParksOver ToFile Comes Prepares told S T s Reads
    still_parks None parks = record { refuses = tt; outcome = tt; accepted = tt; in_time = tt }
    still_parks (Some files) parks = record {
      refuses = still_refuses (Prepares files) (quiet files) (Reads files) s unkept e parks.refuses;
      outcome = over_input files S.left parks.outcome;
      accepted = not_accepted files S.left;
      in_time = parks.in_time;
    }

    complete : (files : Files) (left : Option (List ℕ))
        → IfTold left (λ (input : List ℕ). (asked : RoleSession) (arrivals : List (List ℕ)) (tail : Tail) (p : Played (List ℕ)) → IsBytes input → Cut ARRIVAL input arrivals tail
        → Prepares files (given asked) → Comes asked arrivals p → p.end ≡ plays.done → (Parked e ≡ Done) ⊎ (Parked e ≡ NoMemory))
        → IfTold left (λ (input : List ℕ). (asked : RoleSession) (arrivals : List (List ℕ)) (tail : Tail) (p : Played (List ℕ)) → IsBytes input → Cut ARRIVAL input arrivals tail
        → Prepares files (given asked) → Comes asked arrivals p → p.end ≡ plays.done → (s ≡ Done) ⊎ (s ≡ NoMemory))
    complete files None is = tt
    complete files (Some input) is = λ asked arrivals tail p bytes cut asks comes ends. elim (is asked arrivals tail p bytes cut asks comes ends) [ inl never ↦ absurd (cc) | inr never ↦ absurd (cc) ]

    pub still_completes : (told : Option Files) → CompletesOver ToFile Comes Prepares told S T (Parked e) → CompletesOver ToFile Comes Prepares told S T s
    still_completes None is = tt
    still_completes (Some files) is = complete files S.left is
