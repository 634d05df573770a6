-- What a session is told of an event, and what then stands for its past.
use Rattle.std.proofs.Common.{rules, arith, ◌<◌, ◌≡◌, ℕ, List, [], ◌∷◌, ◌++◌, length, drop, Bool, true, false, cond, not, ◌&&◌, ◌||◌, refl, sym, ap, ◌∙◌, subst, append_assoc}
use Rattle.std.specs.Prelude.{nat_lt, Result, Ok, Err, IfOk}
use Rattle.std.proofs.lemmas.List.{append-nil}
use Rattle.std.proofs.Math.Seq.{drop-append_seam}
use Rattle.anb_plays.specs.Plays.{Played, End, stopped, waiting, done, SendsFirst}
use Rattle.anb_machine.specs.Machines.{MachineValue, gives}
use Rattle.anb_host.specs.declared.event.HostEvent.{HostEvent}
use Rattle.anb_host.specs.declared.event.HostEvent.TheVariants.{Start, Arrive, Oversize}
use Rattle.anb_host.specs.declared.event.Notice.{Notice}
use Rattle.anb_host.specs.declared.event.Notice.TheVariants.{Refused}
use Rattle.anb_host.specs.declared.event.Cause.TheVariants as cause
use Rattle.anb_host.specs.declared.session.Session.{Session}
use Rattle.anb_host.specs.declared.session.Session.TheVariants.{Unstarted, Running, Over}
use Rattle.anb_host.specs.Own.{is_start, arrival_of, has_start, is_over, accepted, notices, own}
use Rattle.anb_host.specs.Hosts.{Stands, IsRefusal}
use Rattle.anb_host.specs.Inside.{Settled}
use Rattle.anb_host.proofs.Past.{has_start-last, accepted-last, accepted-none}

-- what goes on is no refusal
pub no_refusal : (s : ℕ) (told : List Notice) (sent : List (List ℕ)) (x : End) → told ≡ notices s sent x → IsRefusal told → ⊥
no_refusal s told sent x e refused = by sent x (subst IsRefusal e refused) where
  by : (sent : List (List ℕ)) (x : End) → IsRefusal (notices s sent x) → ⊥
  by [] (stopped e at) h = h
  by [] (waiting e) h = h
  by [] done h = h
  by (b ∷ sent) x h = h

module _ (play : List (List ℕ) → Played (List ℕ)) where
  -- nothing changed
  pub stands_still : (past events : List HostEvent) (session : Session) → has_start events ≡ has_start past → accepted play events ≡ accepted play past
      → Stands play past session → Stands play events session
  stands_still past events Unstarted h a st = h ∙ st
  stands_still past events Over h a st = (h ∙ st.0, subst (λ xs. is_over (play xs).end ≡ true) (sym a) st.1)
  stands_still past events (Running machine) h a st = let t = subst P (sym a) (st.1, st.2) in (h ∙ st.0, t.0, t.1) where
    P : List (List ℕ) → Type 0
    P xs = (is_over (play xs).end ≡ false) × ((more : List (List ℕ)) → SendsFirst (play (xs ++ more)) (play xs).sent (gives machine more))

  -- a machine went on, from where these messages were sent
  module _ (arrivals first : List (List ℕ)) (coming : List (List ℕ) → Played (List ℕ)) (f : (more : List (List ℕ)) → SendsFirst (play (arrivals ++ more)) first (coming more)) where
    now_is : SendsFirst (play arrivals) first (coming [])
    now_is = ap play (sym (append-nil arrivals)) ∙ f []

    pub told_now : (s : ℕ) (told : List Notice) → told ≡ notices s (coming []).sent (coming []).end
        → told ≡ notices s (drop (length first) (play arrivals).sent) (play arrivals).end
    told_now s told e =
        e ∙ ap (λ l. notices s l (coming []).end) (sym (drop-append_seam first (coming []).sent))
        ∙ ap (λ (p : Played (List ℕ)). notices s (drop (length first) p.sent) p.end) (sym now_is)

    over_now : (b : Bool) → is_over (coming []).end ≡ b → is_over (play arrivals).end ≡ b
    over_now b e = ap (λ (p : Played (List ℕ)). is_over p.end) now_is ∙ e

    follows_now : (machine : MachineValue) → ((more : List (List ℕ)) → SendsFirst (coming more) (coming []).sent (gives machine more))
        → (more : List (List ℕ)) → SendsFirst (play (arrivals ++ more)) (play arrivals).sent (gives machine more)
    follows_now machine g more =
        f more ∙ ap (λ (p : Played (List ℕ)). record p { sent = first ++ p.sent }) (g more)
        ∙ ap (λ (l : List (List ℕ)). record (gives machine more) { sent = l }) (sym (append_assoc first (coming []).sent (gives machine more).sent))
        ∙ ap (λ (p : Played (List ℕ)). record (gives machine more) { sent = p.sent ++ (gives machine more).sent }) (sym now_is)

    pub stands_now : (events : List HostEvent) (session : Session) → has_start events ≡ true → accepted play events ≡ arrivals → Settled coming session → Stands play events session
    stands_now events Unstarted h a st = absurd st
    stands_now events Over h a st = (h, subst (λ xs. is_over (play xs).end ≡ true) (sym a) (over_now true st))
    stands_now events (Running machine) h a st = let t = subst P (sym a) (over_now false st.0, follows_now machine st.1) in (h, t.0, t.1) where
      P : List (List ℕ) → Type 0
      P xs = (is_over (play xs).end ≡ false) × ((more : List (List ℕ)) → SendsFirst (play (xs ++ more)) (play xs).sent (gives machine more))

  module _ (s : ℕ) (low : nat_lt 1023 s ≡ false) (past : List HostEvent) where
    -- a start
    pub starts : (coming : List (List ℕ) → Played (List ℕ)) (session : Session) (told : List Notice)
        → ((more : List (List ℕ)) → coming more ≡ play more) → told ≡ notices s (coming []).sent (coming []).end → Settled coming session
        → Stands play past Unstarted → (told ≡ own play s past (Start s)) × Stands play (past ++ Start s ∷ []) session
    starts coming session told same e st h =
        let none : accepted play past ≡ [] = accepted-none play past h in
        let f : (more : List (List ℕ)) → SendsFirst (play more) [] (coming more) = λ more. sym (same more) in
        let a : accepted play (past ++ Start s ∷ []) ≡ [] = accepted-last play past (Start s) false (rw h refl) ∙ none in
        (rw (low, h, none) (told_now [] [] coming f s told e), stands_now [] [] coming f (past ++ Start s ∷ []) session (has_start-last past (Start s) ∙ rw h refl) a st)

    -- an arrival
    pub arrives : (b : List ℕ) (machine : MachineValue) (coming : List (List ℕ) → Played (List ℕ)) (session : Session) (told : List Notice)
        → ((more : List (List ℕ)) → gives machine (b ∷ more) ≡ coming more) → told ≡ notices s (coming []).sent (coming []).end → Settled coming session
        → Stands play past (Running machine) → (told ≡ own play s past (Arrive s b)) × Stands play (past ++ Arrive s b ∷ []) session
    arrives b machine coming session told same e st h =
        let first = (play (accepted play past)).sent in
        let f : (more : List (List ℕ)) → SendsFirst (play ((accepted play past ++ b ∷ []) ++ more)) first (coming more) =
        λ more. ap play (append_assoc (accepted play past) (b ∷ []) more) ∙ h.2 (b ∷ more) ∙ ap (λ (p : Played (List ℕ)). record p { sent = first ++ p.sent }) (same more) in
        let on : (has_start past && not (is_over (play (accepted play past)).end)) ≡ true = rw (h.0, h.1) refl in
        let a : accepted play (past ++ Arrive s b ∷ []) ≡ accepted play past ++ b ∷ [] = accepted-last play past (Arrive s b) true on in (
          rw (low, h.0, h.1) (told_now (accepted play past ++ b ∷ []) first coming f s told e),
          stands_now (accepted play past ++ b ∷ []) first coming f (past ++ Arrive s b ∷ []) session (has_start-last past (Arrive s b) ∙ rw h.0 refl) a st,
        )

    -- what stands for the past stands for it with a refused event too
    begun : (x : HostEvent) → arrival_of x ≡ [] → has_start past ≡ true → (session : Session) → Stands play past session → Stands play (past ++ x ∷ []) session
    begun x none h session st =
        stands_still past (past ++ x ∷ []) session (has_start-last past x ∙ rw h refl) (accepted-last play past x _ refl ∙ same (has_start past && not (is_over (play (accepted play past)).end))) st where
          same : (b : Bool) → cond b (accepted play past ++ arrival_of x) (accepted play past) ≡ accepted play past
          same true = rw none (append-nil (accepted play past))
          same false = refl

    waited : (x : HostEvent) → is_start x ≡ false → has_start past ≡ false → (session : Session) → Stands play past session → Stands play (past ++ x ∷ []) session
    waited x other h session st = stands_still past (past ++ x ∷ []) session (has_start-last past x ∙ rw other (or_no (has_start past))) (accepted-last play past x false (rw h refl)) st where
      or_no : (b : Bool) → (b || false) ≡ b
      or_no true = refl
      or_no false = refl

    ended : (x : HostEvent) → has_start past ≡ true → is_over (play (accepted play past)).end ≡ true → (session : Session) → Stands play past session → Stands play (past ++ x ∷ []) session
    ended x h over session st = stands_still past (past ++ x ∷ []) session (has_start-last past x ∙ rw h refl) (accepted-last play past x false (rw (h, over) refl)) st

    module _ (told : List Notice) where
      pub start_again : (session : Session) → told ≡ Refused s cause.Started ∷ [] → has_start past ≡ true → Stands play past session
          → (told ≡ own play s past (Start s)) × Stands play (past ++ Start s ∷ []) session
      start_again session e h st = (rw (low, h) e, begun (Start s) refl h session st)

      pub too_early : (x : HostEvent) → is_start x ≡ false → told ≡ Refused s cause.NotStarted ∷ [] → Stands play past Unstarted
          → (told ≡ own play s past x) × Stands play (past ++ x ∷ []) Unstarted
      too_early x other e st = (rw (low, other, st) e, waited x other st Unstarted st)

      pub too_late : (x : HostEvent) → is_start x ≡ false → told ≡ Refused s cause.Ended ∷ [] → Stands play past Over
          → (told ≡ own play s past x) × Stands play (past ++ x ∷ []) Over
      too_late x other e st = (rw (low, other, st.0, st.1) e, ended x st.0 st.1 Over st)

      pub too_long : (len : ℕ) (machine : MachineValue) → told ≡ Refused s cause.Oversize ∷ [] → Stands play past (Running machine)
          → (told ≡ own play s past (Oversize s len)) × Stands play (past ++ Oversize s len ∷ []) (Running machine)
      too_long len machine e st = (rw (low, st.0, st.1) e, begun (Oversize s len) refl st.0 (Running machine) st)

pub if_told : {T E : Type 0} {P Q R : T → Type 0} (x : Result T E) → IfOk x P → IfOk x Q → ((y : T) → P y → Q y → R y) → IfOk x R
if_told (Ok y) p q f = f y p q
if_told (Err e) p q f = tt

pub is_low : (s : ℕ) → s < 1024 → nat_lt 1023 s ≡ false
is_low s h = search (rules, arith)

pub was_started : (play : List (List ℕ) → Played (List ℕ)) (past : List HostEvent) (session : Session) → (session ≡ Unstarted → ⊥) → Stands play past session → has_start past ≡ true
was_started play past Unstarted other st = absurd (other refl)
was_started play past (Running machine) other st = st.0
was_started play past Over other st = st.0
