-- From a run under way to its machine.
use Rattle.std.proofs.Common.{◌≡◌, ◌≤◌, ℕ, ◌+◌, ◌-◌, List, [], ◌∷◌, length, map, true, Some, None, refl, sym, ap, ◌∙◌, subst, arith}
use Rattle.anb_seal.specs.Streams.{draw_of}
use Rattle.std.specs.Prelude.{vec_capacity}
use Rattle.anb_base.specs.declared.TheConstants.{ARRIVAL, WIDE}
use Rattle.anb_algebra.specs.ByteMeaning.{byte_meaning, has_operator}
use Rattle.anb_algebra.specs.ByteLawful.{bytes_are_lawful}
use Rattle.anb_plays.specs.Plays.{Played, ends, waiting, stopped, done}
use Rattle.anb_plays.specs.Codes.{Act, receives}
use Rattle.anb_plays.specs.Exec.{exec, IsVerified, HasTakes}
use Rattle.anb_plays.proofs.Exec.{exec_is_run, takes_ready}
use Rattle.anb_code.specs.Meaning.{act_of}
use Rattle.anb_code.specs.Taking.{take_texts}
use Rattle.anb_code.specs.Verified.{IsVerifiedCode, count_registers}
use Rattle.anb_machine.specs.declared.state.RunState.{RunState}
use Rattle.anb_machine.specs.declared.turn.Halt.{Halt}
use Rattle.anb_machine.specs.declared.turn.Last.{Last}
use Rattle.anb_machine.specs.declared.turn.Last.TheVariants as last
use Rattle.anb_machine.specs.declared.turn.Turn.{Turn}
use Rattle.anb_machine.specs.declared.turn.Turn.TheVariants.{Message, Wants, Done, Stopped, NoMemory}
use Rattle.anb_machine.specs.Machines.{MachineValue, unless_over, gives, waits_after, answer, answer_after, Turned, last_after, turn_of}
use Rattle.anb_machine.specs.ByteRuns.{run_bytes}
use Rattle.anb_machine.proofs.Verified.{has_takes, counted}
use Rattle.anb_machine.specs.Standing.{registers_in, acts_left, coming, IsKept, IsSameRun, AtReceive, TurnsTo}
use Rattle.std.proofs.lemmas.List.{length-drop}
use Rattle.anb_machine.specs.Inside.{value_of, IsWhole}
use Rattle.anb_machine.specs.Keeping.{AreDropped, IsLean, instrs_left}
use Rattle.anb_machine.proofs.Lean.{dropped_same}
use Rattle.anb_machine.proofs.Unread.{unread_same}

-- a machine that isn't over gives what comes of its run
going_on : (s : RunState) (before : Last) → answer_after before ≡ None → (arrivals : List (List ℕ)) → gives (value_of s before) arrivals ≡ coming s arrivals
going_on s last.Open e arrivals = refl
going_on s last.Wants e arrivals = refl
going_on s last.Done e arrivals = cc
going_on s (last.Stopped halt) e arrivals = cc
going_on s last.NoMemory e arrivals = cc

fewer : (s t : RunState) → IsSameRun s t → IsKept t → (length (instrs_left s) ≡ length s.code.now.instrs - s.next) × (length (instrs_left t) ≡ length s.code.now.instrs - t.next) × (t.next ≤ length s.code.now.instrs)
fewer s t same kept =
    let code : length t.code.now.instrs ≡ length s.code.now.instrs = ap (λ c. length c.instrs) same.code in
    (length-drop s.next s.code.now.instrs, omega (arith, length-drop t.next t.code.now.instrs, code), omega (arith, kept.within, code))

at_receive : (acts : List Act) → AtReceive acts → (later : List Act) × (acts ≡ receives ∷ later)
at_receive [] h = absurd h
at_receive (receives ∷ later) h = (later, refl)
at_receive (_ ∷ later) h = absurd h

nothing_comes : (t : RunState) → AtReceive (acts_left t) → coming t [] ≡ ends (waiting (t.event + 1)) []
nothing_comes t h =
    let r = at_receive (acts_left t) h in
    ap (λ l. exec (byte_meaning t.algebra.formats t.algebra.suite) (draw_of t.seed t.session) l t.registers.items t.event t.next t.drawn []) r.1

pub turned : (s t : RunState) (before : Last) (turn : Turn) → answer_after before ≡ None → IsSameRun s t → IsKept t → TurnsTo s t turn → Turned (value_of s before) (value_of t (last_after turn)) turn
turned s t before (Message b) ongoing same kept h =
    let f = fewer s t same kept in
    (λ arrivals. going_on s before ongoing arrivals ∙ h.0 arrivals, refl, omega (arith, f.0, f.1, f.2, h.1))
turned s t before (Wants e) ongoing same kept h =
    let f = fewer s t same kept in
    (λ arrivals. going_on s before ongoing arrivals ∙ h.0 arrivals, nothing_comes t h.1 ∙ ap (λ n. ends (waiting n) []) (sym h.2), refl, omega (arith, f.0, f.1, f.2, h.3))
turned s t before Done ongoing same kept h = (λ arrivals. going_on s before ongoing arrivals ∙ h arrivals, λ arrivals. going_on s before ongoing arrivals ∙ h arrivals, refl)
turned s t before (Stopped halt) ongoing same kept h = (λ arrivals. going_on s before ongoing arrivals ∙ h arrivals, λ arrivals. going_on s before ongoing arrivals ∙ h arrivals, refl)
turned s t before NoMemory ongoing same kept h = refl

pub whole : (s t : RunState) (turn : Turn) → IsKept t → IsLean t → TurnsTo s t turn → IsWhole t (last_after turn)
whole s t (Message b) kept lean h = record { kept = kept; lean = lean; stands = tt }
whole s t (Wants e) kept lean h = record { kept = kept; lean = lean; stands = h.1 }
whole s t Done kept lean h = record { kept = kept; lean = lean; stands = tt }
whole s t (Stopped halt) kept lean h = record { kept = kept; lean = lean; stands = tt }
whole s t NoMemory kept lean h = record { kept = kept; lean = lean; stands = tt }

over_done : (l : Last) (p : Played (List ℕ)) (arrivals : List (List ℕ)) → answer_after l ≡ Some Done → unless_over l p arrivals ≡ ends done arrivals
over_done last.Done p arrivals e = refl
over_done _ p arrivals e = cc

over_stopped : (l : Last) (p : Played (List ℕ)) (arrivals : List (List ℕ)) (halt : Halt) → answer_after l ≡ Some (Stopped halt) → unless_over l p arrivals ≡ ends (stopped halt.event halt.at) arrivals
over_stopped (last.Stopped h) p arrivals halt e = let s : h ≡ halt = cc in ap (λ (x : Halt). ends (stopped x.event x.at) arrivals) s
over_stopped _ p arrivals halt e = cc

no_message : (l : Last) (b : List ℕ) → answer_after l ≡ Some (Message b) → ⊥
no_message last.Open b h = cc
no_message last.Wants b h = cc
no_message last.Done b h = cc
no_message (last.Stopped halt) b h = cc
no_message last.NoMemory b h = cc

no_wants : (l : Last) (e : ℕ) → answer_after l ≡ Some (Wants e) → ⊥
no_wants last.Open e h = cc
no_wants last.Wants e h = cc
no_wants last.Done e h = cc
no_wants (last.Stopped halt) e h = cc
no_wants last.NoMemory e h = cc

-- what is over answers the same
pub again : (v : MachineValue) (turn : Turn) → answer v ≡ Some turn → Turned v v turn
again v (Message b) e = absurd (no_message v.last b e)
again v (Wants n) e = absurd (no_wants v.last n e)
again v Done e = (λ arrivals. refl, λ arrivals. over_done v.last _ arrivals e, e)
again v (Stopped halt) e = (λ arrivals. refl, λ arrivals. over_stopped v.last _ arrivals halt e, e)
again v NoMemory e = e

pub gives_waiting : (s : RunState) (l : Last) → waits_after l ≡ true → (arrivals : List (List ℕ)) → gives (value_of s l) arrivals ≡ coming s arrivals
gives_waiting s last.Wants h arrivals = refl
gives_waiting s last.Open h arrivals = cc
gives_waiting s last.Done h arrivals = cc
gives_waiting s (last.Stopped halt) h arrivals = cc
gives_waiting s last.NoMemory h arrivals = cc

-- the acts of a code from its first instruction
pub begins : (s : RunState) → IsVerifiedCode ARRIVAL WIDE s.code.now → s.algebra.formats ≡ s.code.now.formats → s.algebra.suite ≡ s.code.now.suite
    → s.next ≡ 0 → s.event ≡ 0 → s.drawn ≡ 0 → length s.registers.items ≡ length (take_texts s.code.now.instrs) → count_registers s.code.now.formats s.code.now.instrs ≤ vec_capacity s.registers → IsKept s
begins s verified formats suite next event drawn long room =
    let code = s.code.now in
    let acts : acts_left s ≡ map (act_of code.formats) code.instrs = rw (formats, next) refl in
    let takes = has_takes ARRIVAL WIDE code verified in
    let ready = takes_ready (has_operator code.formats) (map (act_of code.formats) code.instrs) 0 (length (take_texts code.instrs)) takes in
    let V : List Act → Type 0 = λ l. IsVerified (has_operator s.algebra.formats) l (length s.registers.items) in
    let here : IsVerified (has_operator code.formats) (map (act_of code.formats) code.instrs) (length s.registers.items) =
    subst (IsVerified (has_operator code.formats) (map (act_of code.formats) code.instrs)) (sym long) ready in
    record {
      formats = formats;
      suite = suite;
      within = omega (arith, next);
      few = verified.few_instrs;
      events = omega (arith, event);
      draws = omega (arith, drawn);
      verified = subst V (sym acts) (subst (λ f. IsVerified (has_operator f) (map (act_of code.formats) code.instrs) (length s.registers.items)) (sym formats) here);
      room = omega (arith, room, long, counted code.formats verified.formats code.instrs, ap registers_in acts);
    }

-- and what comes of it
pub runs : (s : RunState) (init : List (List ℕ)) → IsVerifiedCode ARRIVAL WIDE s.code.now → s.algebra.formats ≡ s.code.now.formats → s.algebra.suite ≡ s.code.now.suite
    → s.next ≡ 0 → s.event ≡ 0 → s.drawn ≡ 0 → AreDropped s.code.now.instrs (λ r. true) init s.registers.items → length init ≡ length (take_texts s.code.now.instrs)
    → (arrivals : List (List ℕ)) → coming s arrivals ≡ run_bytes s.code.now init s.seed s.session arrivals
runs s init verified formats suite next event drawn dropped long arrivals =
    let code = s.code.now in
    let here : coming s arrivals ≡ exec (byte_meaning code.formats code.suite) (draw_of s.seed s.session) (map (act_of code.formats) code.instrs) s.registers.items 0 0 0 arrivals =
    rw (formats, suite, next, event, drawn) refl in
    let start = here ∙ unread_same (byte_meaning code.formats code.suite) (draw_of s.seed s.session) code.formats code.instrs s.registers.items init 0 0 0 arrivals dropped.count (dropped_same code.instrs (λ r. true) init s.registers.items dropped) in
    let takes = subst (HasTakes (has_operator code.formats) (map (act_of code.formats) code.instrs) 0) (sym long) (has_takes ARRIVAL WIDE code verified) in
    start ∙ exec_is_run (byte_meaning code.formats code.suite) (bytes_are_lawful code.formats code.suite) (draw_of s.seed s.session) (map (act_of code.formats) code.instrs) init arrivals takes

-- a turn is the first of what the machine gives without a further arrival
pub first : (old new : MachineValue) (turn : Turn) → Turned old new turn → (turn ≡ NoMemory → ⊥) → turn ≡ turn_of (gives old [])
first old new (Message b) h not = sym (ap turn_of (h.0 []))
first old new (Wants e) h not = sym (ap turn_of (h.0 [] ∙ h.1))
first old new Done h not = sym (ap turn_of (h.1 []))
first old new (Stopped halt) h not = sym (ap turn_of (h.1 []))
first old new NoMemory h not = absurd (not refl)
