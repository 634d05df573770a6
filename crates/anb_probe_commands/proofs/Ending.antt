-- What a report comes to, and what goes over the wire.
use Rattle.std.proofs.Common.{◌≡◌, ◌≢◌, ◌≤◌, ◌⊎◌, ℕ, cond, List, [], ◌++◌, length, map, Bool, true, false, Option, Result, Ok, Err, IfOk, refl, ap, sym, ◌∙◌, subst, inl, inr, arith}
use Rattle.std.specs.Prelude.{◌==◌, count_by}
use Rattle.std.proofs.lemmas.List.{append-nil}
use Rattle.anb_draws.specs.Draws.{Values}
use Rattle.anb_attempts.specs.declared.attempts.TheConstants.{MOST}
use Rattle.anb_base.specs.Moves.{Put, PutPrefix, Rose}
use Rattle.anb_base.specs.Wires.{WireState}
use Rattle.anb_base.specs.declared.place.Place.TheVariants.{Stdio}
use Rattle.anb_base.proofs.Joined.{Put-joined}
use Rattle.anb_base.proofs.Moving.{put_further, put_nothing, put_within}
use Rattle.anb_partner.specs.Trials.{Trial}
use Rattle.anb_protocol.specs.Protocols.{ProtocolValue}
use Rattle.anb_partner.specs.declared.planning.PartnerNo.{PartnerNo}
use Rattle.anb_partner.specs.declared.planning.PartnerNo.TheVariants as no
use Rattle.anb_status.specs.declared.status.Status.{Status}
use Rattle.anb_status.specs.declared.status.Status.TheVariants as status
use Rattle.anb_status.specs.Statuses.{before_reach}
use Rattle.anb_text.specs.declared.writing.WriteNo.{WriteNo}
use Rattle.anb_text.specs.declared.writing.WriteNo.TheVariants as writing
use Rattle.anb_text.specs.Writing.{IsWritten}
use Rattle.anb_verdict.specs.Texts.{first_lines, no_such_case}
use Rattle.anb_verdict.specs.declared.verdict.Verdict.{Verdict}
use Rattle.anb_command.specs.OverWire.{DidNotReach, HasReached, OnlyWrites, OverWire}
use Rattle.anb_command.proofs.OverWire.{no_memory, not_reached, text_done, text_failed, text_wanting, untouched}
use Rattle.anb_command.proofs.Reported.{calm_told, nothing_failed}
use Rattle.anb_probe_commands.specs.Plays.{AreInTime, AreTold, CaseEnd, verdicts_of}
use Rattle.anb_probe_commands.specs.Playing.{Broke, BrokeIn, EndsLate, IsCut, IsPlayedOut, IsPrepared, LateCause, OverTrials, PlaysAll, PlaysLess, PlaysPart, TaskComesTo, Wrote, end_in, no_of, part_in, report_in, status_of, texts_of}
use Rattle.anb_probe_commands.specs.ProbeCommand.{Agenda, ComesTo, IsCutShort, IsHonestNo, IsReported, RefusesHonest}
use Rattle.anb_probe_commands.specs.Cases.{is_beyond}
use Rattle.anb_probe_commands.specs.Probings.{Probing}
use Rattle.anb_probe_commands.specs.Reports.{is_failed, notes, status_for}
use Rattle.anb_probe_commands.specs.Tasks.{agenda_by}
use Rattle.anb_probe_commands.specs.Words.{Trying, order_of}
use Rattle.anb_probe_commands.specs.declared.cases.Prepared.{Prepared}
use Rattle.anb_probe_commands.specs.declared.playing.Outcome.{Outcome}
use Rattle.anb_probe_commands.specs.declared.writing.PlayNo.{PlayNo}
use Rattle.anb_probe_commands.specs.declared.writing.PlayNo.TheVariants.{Failed, NotStarted, NoMemory}
use Rattle.anb_probe_commands.proofs.Played.{none_played}
use Rattle.anb_probe_commands.proofs.Timely.{all_in_time, behind_in_time, whole_in_time}

-- ---- writing

pub whole_prefix : (a b : Option (List ℕ)) (x : List ℕ) → Put a b x → PutPrefix a b x
whole_prefix a b x put =
    subst (PutPrefix a b) (append-nil x) (put_further a b b x [] put (0, omega arith, put_nothing b))

pub only_both : (S T U : WireState) → OnlyWrites S T → OnlyWrites T U → OnlyWrites S U
only_both S T U first second = record {
  same = second.same ∙ ap (λ (w : WireState). record w { written = U.written; write_faults = U.write_faults }) first.same;
  never_falls = omega (arith, first.never_falls, second.never_falls);
}

pub wrote_both : (S T U : WireState) (x y : List ℕ) → Wrote S T x → Wrote T U y → Wrote S U (x ++ y)
wrote_both S T U x y first second = record {
  put = Put-joined S.written T.written U.written x y first.put second.put;
  only = only_both S T U first.only second.only;
  quiet = second.quiet ∙ first.quiet;
}

pub broke_behind : (S T U : WireState) (x : List ℕ) (why : PlayNo) → Wrote S T x → Broke T U why → Broke S U why
broke_behind S T U x why first broke = record {
  only = only_both S T U first.only broke.only;
  cause = λ is. subst (λ (n : ℕ). Rose n U.write_faults) first.quiet (broke.cause is);
  quiet = λ other. broke.quiet other ∙ first.quiet;
}

-- nothing was written
pub wrote_nothing : (S : WireState) (why : PlayNo) → why ≢ Failed → Broke S S why
wrote_nothing S why other = record { only = record { same = refl; never_falls = omega arith }; cause = λ is. absurd (other is); quiet = λ _. refl }

module _ (S T : WireState) (text : List ℕ) (only : OnlyWrites S T) where
  pub wrote_whole : (u : Unit {0}) → IsWritten text (Ok u) S.written T.written S.write_faults T.write_faults → Wrote S T text
  wrote_whole u is = record { put = is.whole; only = only; quiet = is.quiet (λ e. absurd (cc)) }

  pub broke_failed : IsWritten text (Err writing.Failed) S.written T.written S.write_faults T.write_faults → BrokeIn text S T Failed
  broke_failed is = record {
    part = is.part;
    broke = record { only = only; cause = λ _. is.cause refl; quiet = λ other. absurd (other refl) };
    started = λ e. absurd (cc);
  }

  pub broke_wanting : IsWritten text (Err writing.NoMemory) S.written T.written S.write_faults T.write_faults → BrokeIn text S T NoMemory
  broke_wanting is = record {
    part = is.part;
    broke = record { only = only; cause = λ e. absurd (cc); quiet = λ _. is.quiet (λ e. absurd (cc)) };
    started = λ e. absurd (cc);
  }

  pub broke_as : (w : WriteNo) → IsWritten text (Err w) S.written T.written S.write_faults T.write_faults → BrokeIn text S T (no_of w)
  broke_as writing.Failed is = broke_failed is
  broke_as writing.NoMemory is = broke_wanting is

-- whatever the lines are, no count fell
pub never_falls_by : {V E : Type 0} (lines : Result V E) (items : V → List ℕ) (r : Result (Unit {0}) WriteNo) (w now : Option (List ℕ)) (f h : ℕ) → ((text : List ℕ) → IfOk lines (λ v. items v ≡ text) → IsWritten text r w now f h) → f ≤ h
never_falls_by (Ok v) items r w now f h is = (is (items v) refl).never_falls
never_falls_by (Err e) items r w now f h is = (is [] tt).never_falls

-- ---- a report

module _ (q : Probing) (x : Prepared) (program : List (List ℕ)) where
  abbrev g : Agenda
  g = agenda_by x

  -- writing the first lines went wrong
  pub cut_first : (old : ℕ → Trial) (S T : WireState) (why : PlayNo) → ((i : ℕ) → (old i).phase ≡ 0) → BrokeIn (first_lines (length x.cases.items)) S T why → PlaysLess q g program old old S.written T.written why
  cut_first old S T why fresh broke = by why broke.started where
    part : PlaysPart q g program old old S.written T.written []
    part = record { reached = 0; played = none_played q g.scenes program g.cases old 0 1 fresh }

    written : PutPrefix S.written T.written (part_in q g [])
    written = put_within S.written T.written (first_lines (length x.cases.items)) (texts_of q x []) broke.part

    by : (w : PlayNo) → w ≢ NotStarted → PlaysLess q g program old old S.written T.written w
    by NotStarted never = absurd (never refl)
    by Failed other = ([], part, λ i. inl refl, inl written)
    by NoMemory other = ([], part, λ i. inl refl, inl written)

  -- the first lines stand in front of those of the cases
  in_time_behind : (old new : ℕ → Trial) (a b c : Option (List ℕ)) (ends : List CaseEnd) → Put a b (first_lines (length x.cases.items)) → AreInTime (texts_of q x) ends old new b c → AreInTime (part_in q g) ends old new a c
  in_time_behind old new a b c ends put in_time = behind_in_time q x old new a b c (first_lines (length x.cases.items)) ends put in_time

  -- not all cases were played
  pub cut_cases : (old new : ℕ → Trial) (S T U : WireState) (why : PlayNo) → Wrote S T (first_lines (length x.cases.items)) → IsCut q x program old new T.written U.written why → PlaysLess q g program old new S.written U.written why
  cut_cases old new S T U NotStarted first (ends, part, within, next, put) =
      (ends, record { reached = part.reached; played = part.played }, within, next, Put-joined S.written T.written U.written _ _ first.put put)
  cut_cases old new S T U Failed first (ends, part, in_time, put) =
      (ends, record { reached = part.reached; played = part.played }, in_time_behind old new S.written T.written U.written ends first.put in_time, inl (put_further S.written T.written U.written _ _ first.put put))
  cut_cases old new S T U NoMemory first (ends, part, in_time, put) =
      (ends, record { reached = part.reached; played = part.played }, in_time_behind old new S.written T.written U.written ends first.put in_time, inl (put_further S.written T.written U.written _ _ first.put put))

  module _ (old new : ℕ → Trial) (S T U : WireState) (outcomes : List Outcome) (first : Wrote S T (first_lines (length x.cases.items))) (cases : IsPlayedOut q x program old new T U outcomes) where
    both : Wrote S U (part_in q g cases.ends)
    both = wrote_both S T U _ _ first cases.wrote

    part_by : (now : Option (List ℕ)) → PlaysPart q g program old new S.written now cases.ends
    part_by now = record {
      reached = cases.reached;
      played = record { each = cases.played.each; others = λ i after. cases.played.others i (omega (arith, after)); none_left = cases.played.none_left };
    }

    -- there is no memory for what is told of them
    pub cut_found : PlaysLess q g program old new S.written U.written NoMemory
    cut_found = (cases.ends, part_by U.written, in_time_behind old new S.written T.written U.written cases.ends first.put (whole_in_time q x old new T.written U.written cases.ends cases.wrote.put), inl (whole_prefix S.written U.written _ both.put))

    pub broke_found : Broke S U NoMemory
    broke_found = record { only = both.only; cause = λ never. absurd (cc); quiet = λ _. both.quiet }

    module _ (V : WireState) (told : List Values) (vs : List Verdict) (are_told : AreTold q (map end_in outcomes) told) (are : vs ≡ verdicts_of (map end_in outcomes)) where
      verdicts_are : verdicts_of cases.ends ≡ vs
      verdicts_are = ap verdicts_of cases.ends_are ∙ sym are

      -- what is told is told of these ends
      told_are : AreTold q cases.ends told
      told_are = subst (λ es. AreTold q es told) (sym cases.ends_are) are_told

      -- the notes are on these ends
      notes_are : (P : List ℕ → Type 0) → P (notes q.protocol q.role x.cases.items x.untried.items told vs) → P (notes q.protocol q.role x.cases.items x.untried.items told (verdicts_of cases.ends))
      notes_are P here = subst (λ (l : List Verdict). P (notes q.protocol q.role x.cases.items x.untried.items told l)) (sym verdicts_are) here

      -- writing the notes went wrong
      pub cut_notes : (why : PlayNo) → BrokeIn (notes q.protocol q.role x.cases.items x.untried.items told vs) U V why → PlaysLess q g program old new S.written V.written why
      cut_notes why broke = by why broke.started where
        written : PutPrefix S.written V.written (report_in q g told cases.ends)
        written = put_further S.written U.written V.written _ _ both.put (notes_are (PutPrefix U.written V.written) broke.part)

        in_time : AreInTime (part_in q g) cases.ends old new S.written V.written
        in_time = in_time_behind old new S.written T.written V.written cases.ends first.put
            (all_in_time q x old new T.written U.written V.written (notes q.protocol q.role x.cases.items x.untried.items told vs) cases.ends cases.wrote.put broke.part)

        by : (w : PlayNo) → w ≢ NotStarted → PlaysLess q g program old new S.written V.written w
        by NotStarted never = absurd (never refl)
        by Failed other = (cases.ends, part_by V.written, in_time, inr (cases.all, (told, told_are, written)))
        by NoMemory other = (cases.ends, part_by V.written, in_time, inr (cases.all, (told, told_are, written)))

      pub broke_notes : (why : PlayNo) → BrokeIn (notes q.protocol q.role x.cases.items x.untried.items told vs) U V why → Broke S V why
      broke_notes why broke = broke_behind S U V _ why both broke.broke

      -- all was written
      pub all_played : Wrote U V (notes q.protocol q.role x.cases.items x.untried.items told vs) → PlaysAll q g program old new S V vs
      all_played last = record {
        reached = cases.reached;
        ends = cases.ends;
        verdicts_are = verdicts_are;
        all = cases.all;
        played = cases.played;
        told = told;
        are_told = told_are;
        wrote = wrote_both S U V _ _ both (notes_are (Wrote U V) last);
      }

-- ---- what it comes to

module _ (q : Probing) (trying : Trying) (g : Agenda) (name : List ℕ) (old new : ℕ → Trial) (S T : WireState) where
  pub comes_all : (vs : List Verdict) → is_beyond trying.case g.count ≡ false → PlaysAll q g (order_of trying) old new S T vs → ComesTo q trying g name old new S.written T.written (status_for vs)
  comes_all vs there all = by (count_by is_failed vs == 0) refl where
    reported : (s : Status) → s ≡ status_for vs → IsReported q trying g name old new S.written T.written s
    reported s is = record {
      there = there;
      reached = all.reached;
      ends = all.ends;
      all = all.all;
      played = all.played;
      told = all.told;
      are_told = all.are_told;
      put = all.wrote.put;
      is = is ∙ ap status_for (sym all.verdicts_are);
    }

    by : (b : Bool) → (count_by is_failed vs == 0) ≡ b → ComesTo q trying g name old new S.written T.written (cond b status.Done (status.CasesNotOk (count_by is_failed vs) (length vs)))
    by true e = inl (reported status.Done (sym (ap (λ c. cond c status.Done (status.CasesNotOk (count_by is_failed vs) (length vs))) e)))
    by false e = inl (reported (status.CasesNotOk (count_by is_failed vs) (length vs)) (sym (ap (λ c. cond c status.Done (status.CasesNotOk (count_by is_failed vs) (length vs))) e)))

  pub ends_all : (vs : List Verdict) → PlaysAll q g (order_of trying) old new S T vs → EndsLate old new S T (status_for vs)
  ends_all vs all = by (count_by is_failed vs == 0) where
    by : (b : Bool) → EndsLate old new S T (cond b status.Done (status.CasesNotOk (count_by is_failed vs) (length vs)))
    by true = record { only = all.wrote.only; cause = all.wrote.quiet }
    by false = record { only = all.wrote.only; cause = all.wrote.quiet }

  pub comes_less : (why : PlayNo) → is_beyond trying.case g.count ≡ false → PlaysLess q g (order_of trying) old new S.written T.written why → ComesTo q trying g name old new S.written T.written (status_of why name)
  comes_less NotStarted there (ends, part, within, next, put) =
      record { there = there; reached = part.reached; ends = ends; within = within; played = part.played; next = next; put = put; is = refl }
  comes_less Failed there (ends, part, in_time, inl put) = record { idle = λ e. absurd (cc); reached = part.reached; ends = ends; played = part.played; in_time = in_time; writes = inl put }
  comes_less Failed there (ends, part, in_time, inr put) = record { idle = λ e. absurd (cc); reached = part.reached; ends = ends; played = part.played; in_time = in_time; writes = inr (inl put) }
  comes_less NoMemory there (ends, part, in_time, inl put) = record { idle = λ e. absurd (cc); reached = part.reached; ends = ends; played = part.played; in_time = in_time; writes = inl put }
  comes_less NoMemory there (ends, part, in_time, inr put) = record { idle = λ e. absurd (cc); reached = part.reached; ends = ends; played = part.played; in_time = in_time; writes = inr (inl put) }

  pub ends_less : length g.cases ≤ MOST → (why : PlayNo) → PlaysLess q g (order_of trying) old new S.written T.written why → Broke S T why → EndsLate old new S T (status_of why name)
  ends_less few NotStarted (ends, part, within, next, put) broke =
      record { only = broke.only; cause = ((length ends, omega (arith, few, within), next), broke.quiet (λ e. absurd (cc))) }
  ends_less few Failed less broke = record { only = broke.only; cause = broke.cause refl }
  ends_less few NoMemory less broke = record { only = broke.only; cause = broke.quiet (λ e. absurd (cc)) }

-- there is no such case
module _ (q : Probing) (trying : Trying) (g : Agenda) (name : List ℕ) (old : ℕ → Trial) (S T : WireState) where
  pub comes_beyond : is_beyond trying.case g.count ≡ true → Wrote S T (no_such_case g.count) → ComesTo q trying g name old old S.written T.written status.Done
  comes_beyond beyond wrote = inr (record { beyond = beyond; unstarted = refl; put = wrote.put; is = refl })

  pub ends_beyond : Wrote S T (no_such_case g.count) → EndsLate old old S T status.Done
  ends_beyond wrote = record { only = wrote.only; cause = wrote.quiet }

  pub comes_beyond_cut : (why : PlayNo) → ((i : ℕ) → (old i).phase ≡ 0) → BrokeIn (no_such_case g.count) S T why → ComesTo q trying g name old old S.written T.written (status_of why name)
  comes_beyond_cut why fresh broke = by why broke.started where
    short : IsCutShort q trying g name old old S.written T.written
    short = record { idle = λ e. refl; reached = 0; ends = []; played = none_played q g.scenes (order_of trying) g.cases old 0 1 fresh; in_time = λ i. inl refl; writes = inr (inr broke.part) }

    by : (w : PlayNo) → w ≢ NotStarted → ComesTo q trying g name old old S.written T.written (status_of w name)
    by NotStarted never = absurd (never refl)
    by Failed other = short
    by NoMemory other = short

  pub ends_beyond_cut : (why : PlayNo) → BrokeIn (no_such_case g.count) S T why → EndsLate old old S T (status_of why name)
  ends_beyond_cut why broke = by why broke.started broke.broke where
    by : (w : PlayNo) → w ≢ NotStarted → Broke S T w → EndsLate old old S T (status_of w name)
    by NotStarted never b = absurd (never refl)
    by Failed other b = record { only = b.only; cause = b.cause refl }
    by NoMemory other b = record { only = b.only; cause = b.quiet (λ e. absurd (cc)) }

-- ---- over the wire

module _ (old new : ℕ → Trial) (S T U : WireState) (at : HasReached Stdio S T) where
  pub over_trials : (s : Status) → EndsLate old new T U s → OverTrials old new S U s
  over_trials s ends = by s ends.cause where
    done : U.write_faults ≡ T.write_faults → OverWire Stdio false status.Done S U
    done quiet = text_done Stdio S T at U ends.only quiet

    by : (s : Status) → LateCause old new T U s → OverTrials old new S U s
    by status.Done quiet = let o = done quiet in record { cause = tt; told = o.told; reached = o.reached; touches = o.touches }
    by (status.CasesNotOk failed cases) quiet =
        let o = done quiet in record { cause = tt; told = calm_told S U status.Done refl o.told (status.CasesNotOk failed cases); reached = o.reached; touches = o.touches }
    by status.WriteFault rose = let o = text_failed Stdio S T at U ends.only rose in record { cause = o.cause; told = o.told; reached = o.reached; touches = o.touches }
    by status.NoMemory quiet = let o = text_wanting Stdio S T at U ends.only quiet in record { cause = tt; told = o.told; reached = o.reached; touches = o.touches }
    by (status.ChildFault name) (rose, quiet) =
        let o = done quiet in record { cause = rose; told = calm_told S U status.Done refl o.told (status.ChildFault name); reached = o.reached; touches = o.touches }
    by _ never = absurd never

pub over_unreached : (old : ℕ → Trial) (S T : WireState) → DidNotReach S T → OverTrials old old S T (status.Unreached Stdio)
over_unreached old S T tried =
    let o = not_reached Stdio S T tried false in record { cause = o.cause; told = o.told; reached = o.reached; touches = o.touches }

pub over_wanting : (old : ℕ → Trial) (S : WireState) → OverTrials old old S S status.NoMemory
over_wanting old S = let o = no_memory Stdio false S in record { cause = tt; told = o.told; reached = o.reached; touches = o.touches }

pub over_honest : (p : ProtocolValue) (role : ℕ) (old : ℕ → Trial) (S : WireState) (why : PartnerNo) (s : Status) → IsHonestNo p role why s → OverTrials old old S S s
over_honest p role old S (no.CannotSend line) s (number, sender, at, is) =
    subst (OverTrials old old S S) (sym is) (record { cause = tt; told = nothing_failed S S _ refl refl refl; reached = refl; touches = untouched false before_reach S })
over_honest p role old S no.Large s is =
    subst (OverTrials old old S S) (sym is) (record { cause = tt; told = nothing_failed S S _ refl refl refl; reached = refl; touches = untouched false before_reach S })
over_honest p role old S no.NoMemory s is = subst (OverTrials old old S S) (sym is) (over_wanting old S)

module _ (q : Probing) (trying : Trying) (old : ℕ → Trial) (S : WireState) (s : Status) where
  pub over_refused : RefusesHonest q trying s ⊎ (s ≡ status.NoMemory) → OverTrials old old S S s
  over_refused (inl r) = over_honest q.protocol q.role old S r.why s r.is
  over_refused (inr none) = subst (OverTrials old old S S) (sym none) (over_wanting old S)

-- ---- reaching

module _ (q : Probing) (trying : Trying) (g : Agenda) (name : List ℕ) (old new : ℕ → Trial) (S T U : WireState) (at : HasReached Stdio S T) where
  pub reached_comes : (s : Status) → ComesTo q trying g name old new T.written U.written s → ComesTo q trying g name old new S.written U.written s
  reached_comes s comes = subst (λ (w : Option (List ℕ)). ComesTo q trying g name old new w U.written s) (ap (λ (w : WireState). w.written) at.same) comes

module _ (q : Probing) (trying : Trying) (g : Agenda) (name : List ℕ) (old : ℕ → Trial) (S T : WireState) (s : Status) (is : s ≡ status.Unreached Stdio) (tried : DidNotReach S T) where
  pub unreached_comes : ComesTo q trying g name old old S.written T.written s
  unreached_comes = subst (ComesTo q trying g name old old S.written T.written) (sym is) (refl, ap (λ (w : WireState). w.written) tried.same)

pub unreached_over : (old : ℕ → Trial) (S T : WireState) (s : Status) → s ≡ status.Unreached Stdio → DidNotReach S T → OverTrials old old S T s
unreached_over old S T s is tried = subst (OverTrials old old S T) (sym is) (over_unreached old S T tried)

-- ---- what is prepared

pub task_comes : (q : Probing) (trying : Trying) (x : Prepared) → IsPrepared q trying x → (name : List ℕ) (old new : ℕ → Trial) (S T : WireState) (s : Status) → ComesTo q trying (agenda_by x) name old new S.written T.written s
    → TaskComesTo q trying name old new S T s
task_comes q trying x ready name old new S T s comes = inr (ready.suit, subst (λ (g : Agenda). ComesTo q trying g name old new S.written T.written s) ready.same comes)
