-- What comes next of a session.
use Rattle.std.proofs.Common.{◌≡◌, ◌≢◌, ◌⊎◌, inl, inr, ℕ, List, [], ◌∷◌, ◌++◌, Option, Some, None, Result, Ok, Err, OnErr, refl, sym, subst}
use Rattle.std.specs.Prelude.{IfSome}
use Rattle.anb_plays.specs.Plays.{Played, End, SendsFirst, ends, waiting, done, stopped}
use Rattle.anb_plays.proofs.Grows.{sends_on}
use Rattle.anb_code.specs.CodeValue.{CodeValue}
use Rattle.anb_machine.specs.Machines.{answer, gives, Turned}
use Rattle.anb_machine.specs.declared.turn.Turn.{Turn}
use Rattle.anb_machine.specs.declared.turn.Turn.TheVariants.{Message, Wants, Done, Stopped, NoMemory}
use Rattle.anb_park.specs.Lives.{LiveValue, Stands, sent_after}
use Rattle.anb_park.specs.Records.{Parked, after, play_of}
use Rattle.anb_park.specs.Going.{after_nothing}
use Rattle.anb_park.proofs.Standing.{parked_here}
use Rattle.anb_c.specs.Sessions.{IsAt, IsFailed, LiveFailed, StandsAt, SendsMore, Waits, with_pending}
use Rattle.anb_c.specs.Turning.{GoesOn}
use Rattle.anb_c.specs.declared.session.Session.{Session}

pub on_err_with : {T E Q : Type 0} (r : Result T E) (P : Type 0) → Q → OnErr r P → OnErr r (Q × P)
on_err_with (Ok x) P q p = tt
on_err_with (Err e) P q p = (q, p)

-- one that failed does so again
pub fails_again : (s : Session) (old new : LiveValue) (turn : Turn) → s.live ≡ Some old → IfSome (answer old.machine) (λ (due : Turn). (turn ≡ due) × (new ≡ old)) → IsFailed (Some s)
    → (turn ≡ NoMemory) × IsFailed (Some (record { live = Some new; pending = s.pending }))
fails_again s old new turn there again failed =
    let is = subst LiveFailed there failed.1 in
    let both = subst (λ (o : Option Turn). IfSome o (λ (due : Turn). (turn ≡ due) × (new ≡ old))) is again in
    (both.0, (failed.0, subst (λ (v : LiveValue). answer v.machine ≡ Some NoMemory) (sym both.1) is))

module _ (code : CodeValue) (p : Parked) (sent : List (List ℕ)) where
  -- the session that is there, where no message is pending
  pub stands_in : (s : Session) (live : LiveValue) → s.live ≡ Some live → s.pending ≡ None → IsAt code p sent (Some s) → Stands code p sent live
  stands_in s live there none is =
      subst (λ (pending : Option (List ℕ)). Stands code p (with_pending sent pending) live) none (subst (λ (o : Option LiveValue). StandsAt code p sent o s.pending) there is)

  -- what stands so sends the last message next
  pub sends_more : (live : LiveValue) (b : List ℕ) → Stands code p (sent ++ b ∷ []) live → SendsMore code p sent b
  sends_more live b s more = (gives live.machine more, s.comes more)

  pub waits_here : (live : LiveValue) (event : ℕ) → Stands code p sent live → gives live.machine [] ≡ ends (waiting event) [] → Waits code p sent event
  waits_here live event s now =
      subst (λ (q : Parked). SendsFirst (play_of code q) sent (ends (waiting event) [])) (after_nothing p) (sends_on (play_of code (after p [])) (gives live.machine []) (ends (waiting event) []) sent (s.comes []) now)

  module _ (old new : LiveValue) (s : Stands code p sent old) where
    pub goes_on : (turn : Turn) → Turned old.machine new.machine turn → (turn ≢ NoMemory → Stands code p (sent_after sent turn) new) → GoesOn code p sent (record { live = Some new; pending = None }) turn
    goes_on (Message b) turned stands = (refl, stands (λ e. cc))
    goes_on (Wants event) turned stands =
        let now = stands (λ e. cc) in
        (now, waits_here new event now turned.1, parked_here code p sent new event now turned.1 turned.2)
    goes_on Done turned stands = (stands (λ e. cc), λ more. sends_on (play_of code (after p more)) (gives old.machine more) (ends done more) sent (s.comes more) (turned.1 more))
    goes_on (Stopped halt) turned stands =
        (stands (λ e. cc), λ more. sends_on (play_of code (after p more)) (gives old.machine more) (ends (stopped halt.event halt.at) more) sent (s.comes more) (turned.1 more))
    goes_on NoMemory turned stands = (refl, turned)

  -- a message that was handed out of the machine and that nobody took is pending
  pub again : (b : List ℕ) (live : Option LiveValue) (pending : Option (List ℕ)) → pending ≡ None → StandsAt code p (sent ++ b ∷ []) live pending → StandsAt code p sent live (Some b)
  again b None pending none is = is
  again b (Some live) pending none is = subst (λ (o : Option (List ℕ)). Stands code p (with_pending (sent ++ b ∷ []) o) live) none is

  -- and the run sends it next
  pub sends_next : (b : List ℕ) (live : Option LiveValue) (pending : Option (List ℕ)) → pending ≡ None → StandsAt code p (sent ++ b ∷ []) live pending → SendsMore code p sent b
  sends_next b None pending none is = absurd is
  sends_next b (Some live) pending none is = sends_more live b (subst (λ (o : Option (List ℕ)). Stands code p (with_pending (sent ++ b ∷ []) o) live) none is)
