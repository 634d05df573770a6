-- What a session under way stands for, from call to call.
use Rattle.std.proofs.Common.{◌≡◌, ◌≢◌, ◌⊎◌, inl, inr, ◌<◌, ◌≤◌, ◌^◌, ℕ, List, [], ◌∷◌, ◌++◌, length, take, drop, All, Bool, true, false, refl, sym, ap, ◌∙◌, subst, append_assoc, Result, Ok, Err, OnOk}
use Rattle.std.proofs.lemmas.List.{append-nil, take-append-drop, length-take-le}
use Rattle.std.proofs.lemmas.List.Elements.{All-nil, All-take, All-drop}
use Rattle.std.proofs.lemmas.Grind.{flat_map-append}
use Rattle.anb_base.specs.declared.content.Suite.TheVariants.{One}
use Rattle.anb_base.specs.declared.TheConstants.{ARRIVAL}
use Rattle.anb_seal.specs.Primitives.{sealed}
use Rattle.anb_frame.specs.Frames.{length_bytes, frame, frames}
use Rattle.anb_plays.specs.Plays.{Played, waiting, ends, SendsFirst}
use Rattle.anb_plays.proofs.Grows.{sends_saying, sends_on}
use Rattle.anb_code.specs.CodeValue.{CodeValue}
use Rattle.anb_machine.specs.ByteRuns.{run_bytes}
use Rattle.anb_machine.specs.Machines.{MachineValue, gives, waits, turn_of, Turned}
use Rattle.anb_machine.specs.declared.turn.Turn.{Turn}
use Rattle.anb_machine.specs.declared.turn.Turn.TheVariants as turn
use Rattle.anb_park.specs.declared.body.Head.{Head}
use Rattle.anb_park.specs.Records.{Parked, marker, body_of, after, count_takes, HasSizes, play_of, IsWaiting, RefusesBody, AcceptsBody, Accepts}
use Rattle.anb_park.specs.declared.resuming.ParkNo.{ParkNo}
use Rattle.anb_park.specs.declared.resuming.ParkNo.TheVariants as cause
use Rattle.anb_park.specs.declared.live.Live.TheInside.{Inside}
use Rattle.anb_park.specs.Inside.{live_of}
use Rattle.anb_park.specs.Lives.{LiveValue, Stands, IsParked, started, sent_after}
use Rattle.anb_park.specs.Going.{AreFrames, HasHead, RunsTo, RunsElsewhere, GoesOnFrom, StandsOn, after_nothing, after_both}
use Rattle.anb_park.proofs.Framed.{all_more, not_so}
use Rattle.anb_park.proofs.Following.{follows_ended}

-- ---- the body

pub body_more : (p : Parked) (more : List (List ℕ)) → body_of p ++ frames more ≡ body_of (after p more)
body_more p more =
    append_assoc (marker ++ p.id ++ p.seed ++ length_bytes p.session ++ frames p.init) (frames p.arrivals) (frames more)
    ∙ ap (λ t. marker ++ p.id ++ p.seed ++ length_bytes p.session ++ frames p.init ++ t) (sym (flat_map-append frame p.arrivals more))

-- ---- what contracts see of a session

pub waits_sound : (l : Inside) (v : LiveValue) → live_of l ≡ v → waits v.machine ≡ true → l.failed ≡ false
waits_sound l v is w = by l.failed refl (ap (λ (x : LiveValue). waits x.machine) is ∙ w) where
  by : (b : Bool) → l.failed ≡ b → waits (live_of l).machine ≡ true → l.failed ≡ false
  by false e h = e
  by true e h = absurd (not_so (rw e at h))

pub sound_machine : (l : Inside) (v : LiveValue) → live_of l ≡ v → l.failed ≡ false → l.machine ≡ v.machine
sound_machine l v is sound = sym (seen l sound) ∙ ap (λ (x : LiveValue). x.machine) is where
  seen : (l : Inside) → l.failed ≡ false → (live_of l).machine ≡ l.machine
  seen l sound = rw sound refl

pub sound_body : (l : Inside) (v : LiveValue) → live_of l ≡ v → l.body.items ≡ v.body
sound_body l v is = ap (λ (x : LiveValue). x.body) is

-- ---- calls of a session

pub stands_at_start : (code : CodeValue) (id init_seed : List ℕ) (session : ℕ) (init : List (List ℕ)) (live : LiveValue) → length id ≡ 32 → length init_seed ≡ 32 → session < 2 ^ 32
    → length init ≡ count_takes code → All (λ b. length b ≤ ARRIVAL) init → live.body ≡ marker ++ id ++ init_seed ++ length_bytes session ++ frames init
    → ((xs : List (List ℕ)) → gives live.machine xs ≡ run_bytes code init init_seed session xs) → Stands code (started id init init_seed session) [] live
stands_at_start code id init_seed session init live li ls small count short body run = record {
  sizes = record { id = li; seed = ls; session = small; init = count; values = short; arrivals = All-nil (λ b. length b ≤ ARRIVAL) };
  body = body ∙ sym (append-nil (marker ++ id ++ init_seed ++ length_bytes session ++ frames init));
  comes = λ more. sym (run more);
}

stands_same : (code : CodeValue) (p : Parked) (sent : List (List ℕ)) (old new : LiveValue) → new.body ≡ old.body → ((xs : List (List ℕ)) → gives old.machine xs ≡ gives new.machine xs) → Stands code p sent old → Stands code p sent new
stands_same code p sent old new body same s = record {
  sizes = s.sizes;
  body = body ∙ s.body;
  comes = λ more. sends_on (play_of code (after p more)) (gives old.machine more) (gives new.machine more) sent (s.comes more) (same more);
}

pub stands_turning : (code : CodeValue) (p : Parked) (sent : List (List ℕ)) (old new : LiveValue) (t : Turn) → Turned old.machine new.machine t → new.body ≡ old.body → t ≢ turn.NoMemory → Stands code p sent old → Stands code p (sent_after sent t) new
stands_turning code p sent old new (turn.Message b) turned body some s = record {
  sizes = s.sizes;
  body = body ∙ s.body;
  comes = λ more. sends_saying (play_of code (after p more)) (gives old.machine more) (gives new.machine more) sent b (s.comes more) (turned.0 more);
}
stands_turning code p sent old new (turn.Wants e) turned body some s = stands_same code p sent old new body turned.0 s
stands_turning code p sent old new turn.Done turned body some s = stands_same code p sent old new body turned.0 s
stands_turning code p sent old new (turn.Stopped halt) turned body some s = stands_same code p sent old new body turned.0 s
stands_turning code p sent old new turn.NoMemory turned body some s = absurd (some refl)

pub stands_receiving : (code : CodeValue) (p : Parked) (sent : List (List ℕ)) (old new : LiveValue) (b : List ℕ) → length b ≤ ARRIVAL → ((xs : List (List ℕ)) → gives old.machine (b ∷ xs) ≡ gives new.machine xs)
    → new.body ≡ old.body ++ frame b → Stands code p sent old → Stands code (after p (b ∷ [])) sent new
stands_receiving code p sent old new b fits comes body s = record {
  sizes = record { id = s.sizes.id; seed = s.sizes.seed; session = s.sizes.session; init = s.sizes.init; values = s.sizes.values; arrivals = all_more p.arrivals b s.sizes.arrivals fits };
  body = body ∙ ap (λ t. t ++ frame b) s.body ∙ ap (λ t. body_of p ++ t) (sym (append-nil (frame b))) ∙ body_more p (b ∷ []);
  comes = λ more.
      subst (λ (q : Parked). SendsFirst (play_of code q) sent (gives new.machine more)) (sym (after_both p (b ∷ []) more))
      (sends_on (play_of code (after p (b ∷ more))) (gives old.machine (b ∷ more)) (gives new.machine more) sent (s.comes (b ∷ more)) (comes more));
}

-- it waits with nothing before the next arrival
pub parked_here : (code : CodeValue) (p : Parked) (sent : List (List ℕ)) (live : LiveValue) (event : ℕ) → Stands code p sent live → gives live.machine [] ≡ ends (waiting event) [] → waits live.machine ≡ true → IsParked code p live
parked_here code p sent live event s waits_now waits_too =
    let f : SendsFirst (play_of code p) sent (ends (waiting event) []) =
    subst (λ (q : Parked). SendsFirst (play_of code q) sent (ends (waiting event) [])) (after_nothing p) (sends_on (play_of code (after p [])) (gives live.machine []) (ends (waiting event) []) sent (s.comes []) waits_now) in
    let e = follows_ended (play_of code p) sent [] (waiting event) f in
    record {
      stands = subst (λ (l : List (List ℕ)). Stands code p l live) (sym e.0) s;
      waiting = (event, e.1, e.2);
      waits = waits_too;
      next = (event, ap turn_of waits_now);
    }

-- ---- going on from a body

module _ (code : CodeValue) (p : Parked) (first now : MachineValue) (same : (xs : List (List ℕ)) → gives first xs ≡ run_bytes code p.init p.seed p.session xs) where
  pub goes_on_from : RunsTo first p.arrivals now → GoesOnFrom code p now
  goes_on_from r = record {
    waits = r.waits;
    next = (r.event, r.waiting);
    comes = λ more. sym (same (p.arrivals ++ more)) ∙ r.comes more ∙ ap (λ (q : Played (List ℕ)). record (gives now more) { sent = q.sent ++ (gives now more).sent }) (same p.arrivals);
  }

  pub waiting_from : RunsTo first p.arrivals now → IsWaiting code p
  waiting_from r =
      let f : SendsFirst (gives first p.arrivals) (gives first p.arrivals).sent (ends (waiting r.event) []) =
      subst (λ l. SendsFirst (gives first l) (gives first p.arrivals).sent (ends (waiting r.event) [])) (append-nil p.arrivals)
      (sends_on (gives first (p.arrivals ++ [])) (gives now []) (ends (waiting r.event) []) (gives first p.arrivals).sent (r.comes []) r.waiting) in
      let e = follows_ended (gives first p.arrivals) (gives first p.arrivals).sent [] (waiting r.event) f in
      (r.event, ap (λ (q : Played (List ℕ)). q.end) (sym (same p.arrivals)) ∙ e.1, ap (λ (q : Played (List ℕ)). q.left) (sym (same p.arrivals)) ∙ e.2)

  pub elsewhere_from : RunsElsewhere first p.arrivals → IsWaiting code p → ⊥
  elsewhere_from other (e, end, left) = other e (ap (λ (q : Played (List ℕ)). q.end) (same p.arrivals) ∙ end) (ap (λ (q : Played (List ℕ)). q.left) (same p.arrivals) ∙ left)

-- the session of a body, by its head and its frames
abbrev pub session_of : Head → List (List ℕ) → ℕ → Parked
session_of head bs takes = record { id = head.id; seed = head.seed; session = head.session; init = take takes bs; arrivals = drop takes bs }

pub whole_of : (m : List ℕ) (head : Head) (rest : List ℕ) (bs : List (List ℕ)) (takes : ℕ) → HasHead m head rest → AreFrames rest bs → m ≡ body_of (session_of head bs takes)
whole_of m head rest bs takes h a =
    let parts : rest ≡ frames (take takes bs) ++ frames (drop takes bs) = a.whole ∙ ap frames (sym (take-append-drop takes bs)) ∙ flat_map-append frame (take takes bs) (drop takes bs) in
    h.whole ∙ ap (λ t. marker ++ head.id ++ head.seed ++ length_bytes head.session ++ t) parts
    ∙ sym (append_assoc (marker ++ head.id ++ head.seed ++ length_bytes head.session) (frames (take takes bs)) (frames (drop takes bs)))

pub sizes_of : (code : CodeValue) (m : List ℕ) (head : Head) (rest : List ℕ) (bs : List (List ℕ)) (takes : ℕ) → HasHead m head rest → AreFrames rest bs → takes ≡ count_takes code → takes ≤ length bs → HasSizes (count_takes code) (session_of head bs takes)
sizes_of code m head rest bs takes h a is enough = record {
  id = h.id;
  seed = h.seed;
  session = h.session;
  init = length-take-le takes bs enough ∙ is;
  values = All-take (λ b. length b ≤ ARRIVAL) takes bs a.short;
  arrivals = All-drop (λ b. length b ≤ ARRIVAL) takes bs a.short;
}

pub accepted : (code : CodeValue) (id key parked m : List ℕ) (p : Parked) → sealed One key m ≡ parked → AcceptsBody (count_takes code) (IsWaiting code) id m p → Accepts (count_takes code) (IsWaiting code) id key parked p
accepted code id key parked m p is a = record {
  whole = sym is ∙ ap (sealed One key) a.whole;
  body = record { whole = refl; sizes = a.sizes; own = a.own; waits = a.waits };
}

pub refused_from : (code : CodeValue) (id m : List ℕ) (p : Parked) (first : MachineValue) (x : List ℕ) (why : ParkNo) → m ≡ body_of p → HasSizes (count_takes code) p → p.id ≡ id → AreFrames x p.arrivals
    → ((xs : List (List ℕ)) → gives first xs ≡ run_bytes code p.init p.seed p.session xs)
    → (why ≡ cause.NoMemory) ⊎ ((why ≡ cause.NotWaiting) × ((bs : List (List ℕ)) → AreFrames x bs → RunsElsewhere first bs)) → RefusesBody (count_takes code) (IsWaiting code) id m why
refused_from code id m p first x why e s own a same by = elim by [
  | inl is ↦ subst (RefusesBody (count_takes code) (IsWaiting code) id m) (sym is) tt
  | inr r ↦ subst (RefusesBody (count_takes code) (IsWaiting code) id m) (sym r.0) (p, e, s, own, elsewhere_from code p first first same (r.1 p.arrivals a))
]

-- ---- what it is after some arrivals

pub on_turning : (old new : LiveValue) (t : Turn) → ((code : CodeValue) (p : Parked) (sent : List (List ℕ)) → Stands code p sent old → Stands code p (sent_after sent t) new) → StandsOn old [] new
on_turning old new t stands = record {
  each = λ code p sent s. (sent_after sent t, subst (λ (q : Parked). Stands code q (sent_after sent t) new) (sym (after_nothing p)) (stands code p sent s));
}

pub on_receiving : {E : Type 0} (old new : LiveValue) (b : List ℕ) (r : Result (Unit {0}) E) → OnOk r ((code : CodeValue) (p : Parked) (sent : List (List ℕ)) → Stands code p sent old → Stands code (after p (b ∷ [])) sent new)
    → OnOk r (StandsOn old (b ∷ []) new)
on_receiving old new b (Ok x) stands = record { each = λ code p sent s. (sent, stands code p sent s) }
on_receiving old new b (Err x) stands = tt
