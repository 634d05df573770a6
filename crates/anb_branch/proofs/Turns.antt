-- What a turn before the choice comes to, from what its calls did.
use Rattle.std.proofs.Common.{◌≡◌, ◌≤◌, ◌<◌, ◌⊎◌, ℕ, List, [], ◌∷◌, ◌++◌, length, Option, refl, sym, ap, ◌∙◌, subst, inl, inr}
use Rattle.anb_base.specs.Moves.{Put}
use Rattle.anb_base.specs.Bytes.{IsBytes}
use Rattle.anb_base.specs.Wires.{WireState}
use Rattle.anb_base.specs.declared.TheConstants.{ARRIVAL}
use Rattle.anb_frame.specs.Frames.{frame}
use Rattle.anb_frame.specs.Cuts.{Tail}
use Rattle.anb_plays.specs.Plays.{Played, End, stopped, waiting, ends, says, Run}
use Rattle.anb_plays.specs.Runs.{no_place}
use Rattle.anb_machine.specs.Machines.{MachineValue, gives, left}
use Rattle.anb_machine.specs.declared.turn.Halt.{Halt}
use Rattle.anb_session.specs.declared.PlayEnd.{PlayEnd}
use Rattle.anb_session.specs.declared.PlayEnd.TheVariants.{Done, Stopped, Waiting, Truncated, TooLarge, ReadFault, WriteFault, NoMemory}
use Rattle.anb_session.specs.Sessions.{Runs}
use Rattle.anb_session.specs.Standing.{ComesOf}
use Rattle.anb_session.specs.Turns.{EndsSending, EndsWaiting, WaitsPromptly, SendsPromptly, TookNothing, Passes, Closes, Hears}
use Rattle.anb_session.proofs.Continued.{is_stopped}
use Rattle.anb_session.proofs.Prompt.{prompt_nothing, prompt_still, prompt_as}
use Rattle.anb_session.proofs.Turning.{passes_saying, closes_wanting}
use Rattle.anb_branch.specs.Stems.{AreBytes, AreShort, StandsBehind, behind, GoesOn, IsOver, no_halt}
use Rattle.anb_branch.proofs.Behind.{stands_saying, stands_hearing, behind_saying, behind_waiting, behind_over, behind_hearing}

-- ---- the turns before the choice

module _ (n : ℕ) (old new : MachineValue) (past : List (List ℕ)) (s t : WireState) (few : length past ≤ n) (bytes : AreBytes past) where
  pub goes_saying : (b : List ℕ) → AreShort past → ((more : List (List ℕ)) → gives old more ≡ says b (gives new more)) → left new < left old
      → t.left ≡ s.left → Put s.written t.written (frame b) → SendsPromptly b s t → GoesOn n old new past past s t
  goes_saying b short says_so further same put prompt = record {
    further = further;
    few = few;
    bytes = bytes;
    short = short;
    each = λ R G sent agree st.
        let next = behind_saying R G past sent b old new (agree past few bytes) st says_so in
        let R1 = behind R past (length sent) in
        let R2 = behind R past (length (sent ++ b ∷ [])) in (
          sent ++ b ∷ [],
          stands_saying G past sent b old new st says_so,
          passes_saying R1 R2 b s t next same put prompt,
        );
  }

  pub over_sending : (b : List ℕ) (end : PlayEnd) → ((more : List (List ℕ)) → gives old more ≡ says b (gives new more))
      → EndsSending b s.left t.left s.written t.written end → TookNothing s t → IsOver n old new past past s t end
  over_sending b end says_so sends nothing = record {
    each = λ R G sent agree st.
        let next = behind_saying R G past sent b old new (agree past few bytes) st says_so in
        let R1 = behind R past (length sent) in
        let R2 = behind R past (length (sent ++ b ∷ [])) in
        record {
          ends = sends R1 (λ more. ((R2 more).sent, ap (λ (p : Played (List ℕ)). p.sent) (next more)));
          prompt = prompt_nothing R1 s t nothing;
        };
  }

  pub over_waiting : (event : ℕ) (end : PlayEnd) (last : MachineValue) (past' : List (List ℕ)) → ((more : List (List ℕ)) → gives old more ≡ gives new more) → gives new [] ≡ ends (waiting event) []
      → EndsWaiting event s.left t.left s.written t.written end → WaitsPromptly event s t → IsOver n old last past past' s t end
  over_waiting event end last past' same waits ends_so prompt = record {
    each = λ R G sent agree st.
        let R1 = behind R past (length sent) in
        let w = behind_waiting R G past sent old event (agree past few bytes) st (same [] ∙ waits) in
        record { ends = ends_so R1 w; prompt = prompt R1 w };
  }

  pub over_ended : (x : End) (end : PlayEnd) → ((event : ℕ) → no_place x ≡ waiting event → ⊥) → ((more : List (List ℕ)) → gives old more ≡ ends x more)
      → ((R : Run) → ((more : List (List ℕ)) → R more ≡ ends (no_place x) more) → Closes R s t end) → IsOver n old new past past s t end
  over_ended x end other is closes = record {
    each = λ R G sent agree st. closes (behind R past (length sent)) (behind_over R G past sent old x other (agree past few bytes) st is);
  }

  pub goes_hearing : (event : ℕ) (b : List ℕ) (mid : MachineValue) (past' : List (List ℕ)) → past' ≡ past ++ b ∷ [] → length past' ≤ n → AreBytes past' → AreShort past' → left new < left old
      → ((more : List (List ℕ)) → gives old more ≡ gives mid more) → gives mid [] ≡ ends (waiting event) [] → ((more : List (List ℕ)) → gives mid (b ∷ more) ≡ gives new more)
      → Hears event b s t → GoesOn n old new past past' s t
  goes_hearing event b mid past' is few' bytes' short' further same waits comes hears = record {
    further = further;
    few = few';
    bytes = bytes';
    short = short';
    each = λ R G sent agree st.
        let k = length sent in
        let w = behind_waiting R G past sent old event (agree past few bytes) st (same [] ∙ waits) in
        let P : List (List ℕ) → Type 0 = λ p. Passes (behind R past k) (behind R p k) s t in
        let Q : List (List ℕ) → Type 0 = λ p. StandsBehind G p sent new in (
          sent,
          subst Q (sym is) (stands_hearing G past sent b old new st (λ more. same (b ∷ more) ∙ comes more)),
          subst P (sym is) (hears (behind R past k) (behind R (past ++ b ∷ []) k) w (λ more. behind_hearing R past k b more)),
        );
  }

-- nothing was written or taken
pub closes_stopped : (R : Run) (s : WireState) (event : ℕ) (halt : Halt) → halt.event ≡ event → halt.at ≡ 0 → ((more : List (List ℕ)) → R more ≡ ends (stopped event 0) more) → Closes R s s (Stopped halt)
closes_stopped R s event halt e a is =
    let P : Halt → Type 0 = λ h. Closes R s s (Stopped h) in
    let same : halt ≡ record { event = event; at = 0 } =
    ap (λ (n : ℕ). record { event = n; at = halt.at }) e ∙ ap (λ (n : ℕ). record { event = event; at = n }) a in
    subst P (sym same) (record { ends = is_stopped R s.left s.written event 0 is; prompt = prompt_still R s })

pub over_wanting : (n : ℕ) (old new : MachineValue) (past past' : List (List ℕ)) (s : WireState) → IsOver n old new past past' s s NoMemory
over_wanting n old new past past' s = record { each = λ R G sent agree st. closes_wanting (behind R past (length sent)) s }

-- ---- the arrivals that were kept

pub bytes_more : (past : List (List ℕ)) (b : List ℕ) → AreBytes past → IsBytes b → AreBytes (past ++ b ∷ [])
bytes_more [] b all one = (one, tt)
bytes_more (x ∷ past) b (first, all) one = (first, bytes_more past b all one)

pub short_more : (past : List (List ℕ)) (b : List ℕ) → AreShort past → length b ≤ ARRIVAL → AreShort (past ++ b ∷ [])
short_more [] b all one = (one, tt)
short_more (x ∷ past) b (first, all) one = (first, short_more past b all one)

-- ---- a run that is the same over all arrivals

module _ (R R' : Run) (same : (more : List (List ℕ)) → R more ≡ R' more) where
  runs_as : (arrivals : List (List ℕ)) (tail : Tail) (left now written written_now : Option (List ℕ)) (end : PlayEnd)
      → Runs R arrivals tail left now written written_now end → Runs R' arrivals tail left now written written_now end
  runs_as arrivals tail left now written written_now WriteFault h = rw (same arrivals) at h
  runs_as arrivals tail left now written written_now ReadFault (taken, whole, part, e, took, cut, waits, sent) =
      (taken, whole, part, e, took, cut, ap (λ (p : Played (List ℕ)). p.end) (sym (same whole)) ∙ waits, rw (same whole) at sent)
  runs_as arrivals tail left now written written_now NoMemory h = rw (same arrivals) at h
  runs_as arrivals tail left now written written_now Done h = rw (same arrivals) at h
  runs_as arrivals tail left now written written_now (Stopped halt) h = rw (same arrivals) at h
  runs_as arrivals tail left now written written_now (Waiting e) h = rw (same arrivals) at h
  runs_as arrivals tail left now written written_now (Truncated have need) h = rw (same arrivals) at h
  runs_as arrivals tail left now written written_now (TooLarge len) h = rw (same arrivals) at h

pub closes_as : (R R' : Run) (s t : WireState) (end : PlayEnd) → ((more : List (List ℕ)) → R more ≡ R' more) → Closes R s t end → Closes R' s t end
closes_as R R' s t end same closes = record {
  ends = λ arrivals tail cut. runs_as R R' same arrivals tail s.left t.left s.written t.written end (closes.ends arrivals tail cut);
  prompt = prompt_as R R' s t same closes.prompt;
}

-- ---- an end without the instruction of its stop

pub untold_off : (end : PlayEnd) → (end ≡ WriteFault) ⊎ (end ≡ NoMemory) → end ≡ no_halt end
untold_off end (inl is) = rw is refl
untold_off end (inr is) = rw is refl

pub untold_of : (event : ℕ) (end : PlayEnd) → ComesOf event end → end ≡ no_halt end
untold_of event Done comes = refl
untold_of event (Stopped halt) comes = absurd comes
untold_of event (Waiting e) comes = refl
untold_of event (Truncated have need) comes = refl
untold_of event (TooLarge len) comes = refl
untold_of event ReadFault comes = refl
untold_of event WriteFault comes = refl
untold_of event NoMemory comes = refl

pub untold_stop : (halt told : Halt) → told.event ≡ halt.event → told.at ≡ 0 → Stopped told ≡ no_halt (Stopped halt)
untold_stop halt told e a =
    ap (λ (n : ℕ). Stopped (record { event = n; at = told.at })) e ∙ ap (λ (n : ℕ). Stopped (record { event = halt.event; at = n })) a
