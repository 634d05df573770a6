-- One turn of serving, by what was read, answered and written.
use Rattle.std.proofs.Common.{◌≡◌, inl, inr, ◌⊎◌, ℕ, ◌<◌, ◌≤◌, arith, List, [], ◌∷◌, ◌++◌, length, Option, Result, Ok, Err, IfSome, refl, sym, ap, ◌∙◌, subst}
use Rattle.std.specs.Option.{IfNone}
use Rattle.std.proofs.lemmas.Bool.{cases_lt}
use Rattle.std.specs.Result.{OnOk, OnErr, IfErr, result_err}
use Rattle.anb_base.specs.Moves.{Took, Put, PutPrefix, Stamped}
use Rattle.anb_base.specs.Wires.{WireState}
use Rattle.anb_frame.specs.Answers.{TookAt}
use Rattle.anb_machine.specs.ByteRuns.{run_bytes}
use Rattle.anb_host.specs.declared.event.HostEvent.{HostEvent}
use Rattle.anb_host.specs.declared.event.Notice.{Notice}
use Rattle.anb_host.specs.declared.serving.HostEnd.{HostEnd}
use Rattle.anb_host.specs.declared.serving.HostEnd.TheVariants.{Ended, Truncated, BadKind, ReadFault, WriteFault, Spent, NoMemory}
use Rattle.anb_host.specs.HostFrames.{IsFrame, out}
use Rattle.anb_host.specs.Hosts.{HostValue, plays_of, StandsFor}
use Rattle.anb_host.specs.Own.{answer}
use Rattle.anb_host.specs.Turns.{ReadsOn, TakesOf, GoesOn, FailsIn, FailsAnswering, EndsAt}
use Rattle.anb_host.proofs.Writing.{put_none}

-- ---- what was read

module _ (h : HostValue) (s t : WireState) (n : ℕ) (told : (k : ℕ) → Stamped s.taken_at t.taken_at n k → IfSome s.written (λ w. Stamped s.taken_at t.taken_at (length w) k)) (same : t.written ≡ s.written) where
  takes : (z : List ℕ) → TookAt s.left t.left s.taken_at t.taken_at n z → TakesOf s t z
  takes z (took, stamped) = (took, told (length z) stamped)

  -- an event was read, and no answer was had
  pub unanswered : (e : HostEvent) (z : List ℕ) → TookAt s.left t.left s.taken_at t.taken_at n z → IsFrame z e → FailsIn h s t
  unanswered e z took f = record {
    event = e;
    taken = z;
    is_frame = f;
    takes = takes z took;
    answers = λ past st. subst (λ w. PutPrefix s.written w (out (answer (plays_of h) past e))) (sym same) (put_none s.written (out (answer (plays_of h) past e)));
  }

  pub read_ended : (Then : List HostEvent → Type 0) → Then [] → (end : HostEnd) → ReadsOn s.left t.left s.taken_at t.taken_at n [] (Err end) → EndsAt Then h h s t end
  read_ended Then then Ended (z, took, says) = (refl, (same, (z, takes z took, says)), then)
  read_ended Then then (Truncated have need) (z, took, says) = (refl, (same, (z, takes z took, says)), then)
  read_ended Then then (BadKind kind) (z, took, says) = (refl, (same, (z, takes z took, says)), then)
  read_ended Then then ReadFault (z, took, says) = (refl, (same, (z, takes z took, says)), then)
  read_ended Then then WriteFault (z, took, says) = absurd says
  read_ended Then then (Spent k) (z, took, says) = absurd says
  read_ended Then then NoMemory (z, took, says) = elim says [
    | inl begun ↦ inl (same, (z, takes z took, begun))
    | inr (e, f) ↦ inr (unanswered e z took f)
  ]

  -- an event was read, and what it was answered is written
  module _ (u : WireState) (left : u.left ≡ t.left) (taken_at : u.taken_at ≡ t.taken_at) (e : HostEvent) (z : List ℕ) (took : TookAt s.left t.left s.taken_at t.taken_at n z) (f : IsFrame z e)
      (notices : List Notice) (own : (past : List HostEvent) → StandsFor h past → notices ≡ answer (plays_of h) past e) where
    takes_on : TakesOf s u z
    takes_on =
        let p = takes z took in
        (subst (λ l. Took s.left l z) (sym left) p.0, subst (λ l. IfSome s.written (λ w. Stamped s.taken_at l (length w) (length z))) (sym taken_at) p.1)

    pub answered_whole : (Then : List HostEvent → Type 0) → Then (e ∷ []) → (h' : HostValue) → ((past : List HostEvent) → StandsFor h past → StandsFor h' (past ++ e ∷ [])) → plays_of h' ≡ plays_of h
        → Put t.written u.written (out notices) → GoesOn Then h h' s u
    answered_whole Then then h' stands plays put = record {
      event = e;
      taken = z;
      is_frame = f;
      takes = takes_on;
      answers = λ past st. subst (λ ns. Put s.written u.written (out ns)) (own past st) (subst (λ w. Put w u.written (out notices)) same put);
      stands = stands;
      plays = plays;
      followed = then;
    }

    pub answered_in_part : PutPrefix t.written u.written (out notices) → FailsIn h s u
    answered_in_part put = record {
      event = e;
      taken = z;
      is_frame = f;
      takes = takes_on;
      answers = λ past st. subst (λ ns. PutPrefix s.written u.written (out ns)) (own past st) (subst (λ w. PutPrefix w u.written (out notices)) same put);
    }

    pub answered_so : (Then : List HostEvent → Type 0) → Then (e ∷ []) → (h' : HostValue) → ((past : List HostEvent) → StandsFor h past → StandsFor h' (past ++ e ∷ [])) → PutPrefix t.written u.written (out notices)
        → FailsAnswering Then h h' s u
    unfolding answered_in_part
    answered_so Then then h' stands put = record { fails = answered_in_part put; stands = stands; followed = then }

pub same_plays : (h h' : HostValue) → h'.code ≡ h.code → h'.init ≡ h.init → h'.seed ≡ h.seed → plays_of h' ≡ plays_of h
same_plays h h' code init seed =
    ap (λ c. λ s arrivals. run_bytes c h'.init h'.seed s arrivals) code ∙ ap (λ i. λ s arrivals. run_bytes h.code i h'.seed s arrivals) init ∙ ap (λ k. λ s arrivals. run_bytes h.code h.init k s arrivals) seed

-- ---- the error of a result, where there is one

pub no_error : {T E : Type 0} (r : Result T E) (o : Option E) (A B : Type 0) → o ≡ result_err r → OnOk r A → (A → B) → IfNone o B
no_error (Ok x) o A B e h f = rw e (f h)
no_error (Err y) o A B e h f = rw e tt

pub failed_so : {T : Type 0} (Then : List HostEvent → Type 0) (h h' : HostValue) (s u : WireState) (r : Result T HostEnd) (o : Option HostEnd) (A : Type 0) → o ≡ result_err r
    → IfErr r (λ end. (end ≡ WriteFault) ⊎ (end ≡ NoMemory)) → OnErr r A → (A → FailsAnswering Then h h' s u) → IfSome o (EndsAt Then h h' s u)
failed_so Then h h' s u (Ok x) o A e which put f = rw e tt
failed_so Then h h' s u (Err end) o A e which put f = rw e (elim which [
  | inl is ↦ subst (EndsAt Then h h' s u) (sym is) (f put)
  | inr is ↦ subst (EndsAt Then h h' s u) (sym is) (inr (f put).fails)
])

-- ---- counts of faults

pub same_count : (before old new : ℕ) → old ≡ before → old ≤ new → (old < new → ⊥) → new ≡ before
same_count before old new same falls rises = elim (cases_lt old new) [
  | inl more ↦ absurd (rises more)
  | inr least ↦ omega (arith, same, falls, least)
]
