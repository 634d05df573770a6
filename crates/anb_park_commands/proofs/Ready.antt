-- A session that is there, and what a code gives of it.
use Rattle.std.proofs.Common.{◌≡◌, ℕ, List, ◌++◌, length, refl, ap, sym, ◌∙◌}
use Rattle.std.specs.List.{AllByRecursion}
use Rattle.std.proofs.lemmas.List.{append_cancel_left}
use Rattle.anb_role_commands.specs.Playing.{play_by}
use Rattle.anb_base.specs.Bytes.{IsBytes}
use Rattle.anb_code.specs.CodeValue.{CodeValue}
use Rattle.anb_park.specs.Lives.{IsParked, LiveValue}
use Rattle.anb_park.specs.Records.{HasSizes, IsWaiting, Parked, after, count_takes, play_of}
use Rattle.anb_plays.specs.Plays.{End, Played}
use Rattle.anb_plays.specs.Runs.{without_place}
use Rattle.anb_command.specs.Prepared.{IsRunBy}
use Rattle.anb_command.specs.Steps.{Answer, given}
use Rattle.anb_park_commands.specs.Going.{HasSession, begun, plays_on, saved}
use Rattle.anb_park_commands.specs.Parking.{record_after}
use Rattle.anb_park_commands.specs.Records.{RecordIs}
use Rattle.anb_park_commands.specs.Sessions.{Begins, GoesOn, RoleSession}
use Rattle.anb_park_commands.proofs.Records.{waiting_accepted}
use Rattle.anb_park_commands.proofs.Roles.{bytes_after}

-- a code keeps the session with these arrivals more: it waits
abbrev pub Keeps : CodeValue → Parked → List (List ℕ) → Type 0
Keeps code s more = HasSizes (count_takes code) (after s more) × IsWaiting code (after s more)

-- there is a session to play, this function gives what comes of it, and its record is accepted where it is kept
pub record IsReady (Comes : RoleSession → List (List ℕ) → Played (List ℕ) → Type 0) (Prepares : Answer RoleSession → Type 0) (R : List (List ℕ) → Played (List ℕ))
    (records : List (List ℕ) → List ℕ) (Kept : List (List ℕ) → Type 0) : Type 0 where
  pub asked : RoleSession
  pub asks : Prepares (given asked)
  pub comes : IsRunBy Comes asked R
  pub records_are : (more : List (List ℕ)) → record_after asked more ≡ records more
  pub accepted : (more : List (List ℕ)) → AllByRecursion IsBytes more → Kept more → RecordIs asked.protocol asked.role asked.parked.id asked.key (record_after asked more) (given (after asked.parked more))

module _ (Prepares : Answer RoleSession → Type 0) (code : CodeValue) (s : Parked) (key : List ℕ) (has : HasSession Prepares code s key) where
  abbrev pub session : RoleSession
  session = record { protocol = has.protocol; role = has.role; parked = s; key = key }

  -- its record is accepted where it waits again
  pub accepted_after : (more : List (List ℕ)) → AllByRecursion IsBytes more → Keeps code s more
      → RecordIs has.protocol has.role s.id key (record_after session more) (given (after s more))
  accepted_after more bytes kept = waiting_accepted has.protocol has.role code has.runs (after s more) key (bytes_after s more has.bytes bytes) kept.0 kept.1

  -- ---- where it goes on

  made : (s t : List (List ℕ)) (x y : End) (l m : List (List ℕ)) → s ≡ t → x ≡ y → l ≡ m → ◌≡◌ {A = Played (List ℕ)} (record { sent = s; end = x; left = l }) (record { sent = t; end = y; left = m })
  made s t x y l m a b c = cc

  same_behind : (front : List (List ℕ)) (p q : Played (List ℕ)) → ◌≡◌ {A = Played (List ℕ)} (record p { sent = front ++ p.sent }) (record q { sent = front ++ q.sent }) → p ≡ q
  same_behind front p q is =
      let sent : p.sent ≡ q.sent = append_cancel_left front p.sent q.sent (ap (λ (r : Played (List ℕ)). r.sent) is) in
      let end : p.end ≡ q.end = ap (λ (r : Played (List ℕ)). r.end) is in
      let left : p.left ≡ q.left = ap (λ (r : Played (List ℕ)). r.left) is in
      made p.sent q.sent p.end q.end p.left q.left sent end left

  pub goes_on_ready : (live : LiveValue) → IsParked code s live → IsReady GoesOn Prepares (plays_on live) (saved key s) (Keeps code s)
  goes_on_ready live parked = record {
    asked = session;
    asks = has.asks;
    comes = λ more bytes p. (to more bytes p, from more bytes p);
    records_are = λ more. refl;
    accepted = accepted_after;
  } where
    count : length s.init ≡ count_takes code
    count = parked.stands.sizes.init

    -- the play over all arrivals
    whole : (more : List (List ℕ)) → without_place (play_of code (after s more)) ≡ record (plays_on live more) { sent = (play_of code s).sent ++ (plays_on live more).sent }
    whole more = ap without_place (parked.stands.comes more)

    to : (more : List (List ℕ)) → AllByRecursion IsBytes more → (p : Played (List ℕ)) → GoesOn session more p → p ≡ plays_on live more
    to more bytes p goes =
        let was : goes.earlier ≡ without_place (play_of code s) = (has.runs.plays s count has.bytes goes.earlier).0 goes.was in
        let all : record p { sent = goes.earlier.sent ++ p.sent } ≡ without_place (play_of code (after s more)) = (has.runs.plays (after s more) count (bytes_after s more has.bytes bytes) _).0 goes.plays in
        let sent : goes.earlier.sent ≡ (play_of code s).sent = ap (λ (q : Played (List ℕ)). q.sent) was in
        same_behind (play_of code s).sent p (plays_on live more) (ap (λ (front : List (List ℕ)). record p { sent = front ++ p.sent }) (sym sent) ∙ all ∙ whole more)

    from : (more : List (List ℕ)) → AllByRecursion IsBytes more → (p : Played (List ℕ)) → p ≡ plays_on live more → GoesOn session more p
    from more bytes p is = record {
      earlier = without_place (play_of code s);
      was = (has.runs.plays s count has.bytes (without_place (play_of code s))).1 refl;
      plays = (has.runs.plays (after s more) count (bytes_after s more has.bytes bytes) _).1 (ap (λ (q : Played (List ℕ)). record q { sent = (play_of code s).sent ++ q.sent }) is ∙ sym (whole more));
    }

-- ---- where it is begun

pub begins_ready : (Prepares : Answer RoleSession → Type 0) (code : CodeValue) (id seed : List ℕ) (initial : List (List ℕ)) (key : List ℕ) → (has : HasSession Prepares code (begun id seed initial) key)
    → length initial ≡ count_takes code → IsReady Begins Prepares (play_by code initial seed) (saved key (begun id seed initial)) (Keeps code (begun id seed initial))
begins_ready Prepares code id seed initial key has count = record {
  asked = session Prepares code (begun id seed initial) key has;
  asks = has.asks;
  comes = λ more bytes p. has.runs.plays (after (begun id seed initial) more) count (bytes_after (begun id seed initial) more has.bytes bytes) p;
  records_are = λ more. refl;
  accepted = accepted_after Prepares code (begun id seed initial) key has;
}
