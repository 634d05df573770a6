-- A trace tells a run.
use Rattle.std.proofs.Common.{◌≡◌, ℕ, ◌+◌, List, [], ◌∷◌, ◌++◌, length, map, Option, Some, None, refl, ap, sym, ◌∙◌, subst, append_assoc, append-nil}
use Rattle.std.specs.Prelude.{slice_get}
use Rattle.std.specs.Option.{option_map_or}
use Rattle.anb_base.specs.declared.TheConstants.{ARRIVAL, WIDE}
use Rattle.anb_seal.specs.Streams.{draw_of}
use Rattle.anb_algebra.specs.ByteLawful.{bytes_are_lawful}
use Rattle.anb_plays.specs.Plays.{stopped, waiting, Played, ends}
use Rattle.anb_plays.specs.Codes.{Act, takes, draws, receives, sends, works}
use Rattle.anb_plays.specs.Exec.{HasTakes, exec, on_written, worked}
use Rattle.anb_plays.specs.Runs.{says_if}
use Rattle.anb_plays.proofs.Exec.{exec_is_run}
use Rattle.anb_code.specs.declared.instr.Instr.{Instr}
use Rattle.anb_code.specs.Meaning.{act_of, acts_of}
use Rattle.anb_code.specs.Registers.{count_written}
use Rattle.anb_algebra.specs.ByteMeaning.{has_operator}
use Rattle.anb_machine.specs.ByteRuns.{meaning_of}
use Rattle.anb_machine.proofs.Verified.{has_takes}
use Rattle.anb_trace.specs.Laws.{TellsRun, TracesTellRuns}
use Rattle.anb_trace.specs.Saying.{Said, awaited, came, lines, said_text, sent}
use Rattle.anb_trace.specs.Traces.{Rest, end_line, known_lines, told, told_all}
use Rattle.anb_trace.specs.Words.{SubjectValue, bytes_line, event_line, instr_lines, why}

module _ (s : SubjectValue) where
  -- with other lines in front
  behind_lines : (text behind : List ℕ) (events : ℕ) (arrivals : List (List ℕ)) (p : Played (List ℕ)) → TellsRun s events arrivals behind p → TellsRun s events arrivals (text ++ behind) p
  behind_lines text behind events arrivals p t = record {
    said = lines text ∷ t.said;
    reason = t.reason;
    is = ap (λ l. text ++ l) t.is ∙ sym (append_assoc text (said_text s events t.said) (end_line p.end t.reason));
    messages = t.messages;
    arrived = t.arrived;
  }

  -- an event that is awaited
  waits : (events : ℕ) → TellsRun s events [] (event_line s.protocol s.plan events ++ end_line (waiting (events + 1)) []) (ends (waiting (events + 1)) [])
  waits events =
      let line = event_line s.protocol s.plan events in
      record { said = awaited ∷ []; reason = []; is = ap (λ l. l ++ end_line (waiting (events + 1)) []) (sym (append-nil line)); messages = refl; arrived = refl }

  -- an arrival
  behind_arrival : (x behind : List ℕ) (events : ℕ) (arrivals : List (List ℕ)) (p : Played (List ℕ)) → TellsRun s (events + 1) arrivals behind p
      → TellsRun s events (x ∷ arrivals) ((event_line s.protocol s.plan events ++ bytes_line x) ++ behind) p
  behind_arrival x behind events arrivals p t =
      let line = event_line s.protocol s.plan events ++ bytes_line x in
      record {
        said = came x ∷ t.said;
        reason = t.reason;
        is = ap (λ l. line ++ l) t.is ∙ sym (append_assoc line (said_text s (events + 1) t.said) (end_line p.end t.reason));
        messages = t.messages;
        arrived = ap (λ l. x ∷ l) t.arrived;
      }

  -- a message, where it's there
  behind_message : (o : Option (List ℕ)) (behind : List ℕ) (events : ℕ) (arrivals : List (List ℕ)) (p : Played (List ℕ)) → TellsRun s (events + 1) arrivals behind p
      → TellsRun s events arrivals ((event_line s.protocol s.plan events ++ option_map_or bytes_line o []) ++ behind) (says_if o p)
  behind_message None behind events arrivals p t =
      let line = event_line s.protocol s.plan events in
      record {
        said = awaited ∷ t.said;
        reason = t.reason;
        is = ap (λ l. l ++ behind) (append-nil line) ∙ ap (λ l. line ++ l) t.is ∙ sym (append_assoc line (said_text s (events + 1) t.said) (end_line p.end t.reason));
        messages = t.messages;
        arrived = t.arrived;
      }
  behind_message (Some b) behind events arrivals p t =
      let line = event_line s.protocol s.plan events ++ bytes_line b in
      record {
        said = sent b ∷ t.said;
        reason = t.reason;
        is = ap (λ l. line ++ l) t.is ∙ sym (append_assoc line (said_text s (events + 1) t.said) (end_line p.end t.reason));
        messages = ap (λ l. b ∷ l) t.messages;
        arrived = t.arrived;
      }

  -- a stop
  stops : (text reason : List ℕ) (events at : ℕ) (arrivals : List (List ℕ)) → TellsRun s events arrivals (text ++ end_line (stopped events at) reason) (ends (stopped events at) arrivals)
  stops text reason events at arrivals = record {
    said = lines text ∷ [];
    reason = reason;
    is = ap (λ l. l ++ end_line (stopped events at) reason) (sym (append-nil text));
    messages = refl;
    arrived = refl;
  }

module _ (s : SubjectValue) (draw : ℕ → List ℕ) where
  abbrev runs : List Act → List (List ℕ) → ℕ → ℕ → ℕ → List (List ℕ) → Played (List ℕ)
  runs acts table events at drawn arrivals = exec (meaning_of s.code) draw acts table events at drawn arrivals

  module _ (acts : List Act) (instr : Instr) (first at : ℕ) (rest : Rest)
      (later : (table : List (List ℕ)) (events drawn : ℕ) (arrivals : List (List ℕ)) → TellsRun s events arrivals (rest table events drawn arrivals) (runs acts table events (at + 1) drawn arrivals)) where
    worked_or_not : (table : List (List ℕ)) (events drawn : ℕ) (arrivals : List (List ℕ)) (o : Option (List (List ℕ)))
        → TellsRun s events arrivals
        (on_written o (λ values. instr_lines s instr first values ++ rest (table ++ values) events drawn arrivals) (instr_lines s instr first [] ++ end_line (stopped events (at + 1)) (why s table instr)))
        (on_written o (λ values. runs acts (table ++ values) events (at + 1) drawn arrivals) (ends (stopped events (at + 1)) arrivals))
    worked_or_not table events drawn arrivals None = stops s (instr_lines s instr first []) (why s table instr) events (at + 1) arrivals
    worked_or_not table events drawn arrivals (Some values) = behind_lines s (instr_lines s instr first values) _ events arrivals _ (later (table ++ values) events drawn arrivals)

    one : (act : Act) (table : List (List ℕ)) (events drawn : ℕ) (arrivals : List (List ℕ))
        → TellsRun s events arrivals (told s draw act instr table first events at drawn arrivals rest) (runs (act ∷ acts) table events at drawn arrivals)
    one takes table events drawn arrivals = later table events drawn arrivals
    one draws table events drawn arrivals = behind_lines s (instr_lines s instr first (draw drawn ∷ [])) _ events arrivals _ (later (table ++ draw drawn ∷ []) events (drawn + 1) arrivals)
    one receives table events drawn [] = waits s events
    one receives table events drawn (x ∷ arrivals) = behind_arrival s x _ events arrivals _ (later (table ++ x ∷ []) (events + 1) drawn arrivals)
    one (sends r) table events drawn arrivals = behind_message s (slice_get table r) _ events arrivals _ (later table (events + 1) drawn arrivals)
    one (works w) table events drawn arrivals = worked_or_not table events drawn arrivals (worked (meaning_of s.code) table w)

  all_tell : (instrs : List Instr) (table : List (List ℕ)) (first events at drawn : ℕ) (arrivals : List (List ℕ))
      → TellsRun s events arrivals (told_all s draw instrs table first events at drawn arrivals) (runs (map (act_of s.code.formats) instrs) table events at drawn arrivals)
  all_tell [] table first events at drawn arrivals = record { said = []; reason = []; is = refl; messages = refl; arrived = refl }
  all_tell (instr ∷ instrs) table first events at drawn arrivals =
      one (map (act_of s.code.formats) instrs) instr first at
      (λ table events drawn arrivals. told_all s draw instrs table (first + count_written s.code.formats instr) events (at + 1) drawn arrivals)
      (λ table events drawn arrivals. all_tell instrs table (first + count_written s.code.formats instr) events (at + 1) drawn arrivals)
      (act_of s.code.formats instr) table events drawn arrivals

pub traces_tell : TracesTellRuns
traces_tell s initial seed session arrivals verified count =
    let code = s.code in
    let has = has_operator code.formats in
    let takes_first : HasTakes has (acts_of code) 0 (length initial) = subst (HasTakes has (acts_of code) 0) (sym count) (has_takes ARRIVAL WIDE code verified) in
    let same = exec_is_run (meaning_of code) (bytes_are_lawful code.formats code.suite) (draw_of seed session) (acts_of code) initial arrivals takes_first in
    behind_lines s (known_lines s initial) _ 0 arrivals _
    (subst (λ (p : Played (List ℕ)). TellsRun s 0 arrivals (told_all s (draw_of seed session) code.instrs initial 0 0 0 0 arrivals) p) same (all_tell s (draw_of seed session) code.instrs initial 0 0 0 0 arrivals))
