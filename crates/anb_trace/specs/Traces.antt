-- What a role does over arrivals, as a text: its events, the instructions between them with what they write, and how it ends.
use Rattle.std.specs.Prelude.{ℕ, ◌+◌, List, [], ◌∷◌, ◌++◌, codes, decimal, slice_get}
use Rattle.std.specs.Option.{option_map_or}
use Rattle.anb_seal.specs.Streams.{draw_of}
use Rattle.anb_plays.specs.Plays.{End, stopped, waiting, done}
use Rattle.anb_plays.specs.Codes.{Act, takes, draws, receives, sends, works}
use Rattle.anb_plays.specs.Exec.{on_written, worked}
use Rattle.anb_code.specs.declared.instr.Instr.{Instr}
use Rattle.anb_code.specs.Meaning.{act_of}
use Rattle.anb_code.specs.Registers.{count_written}
use Rattle.anb_explain.specs.Explained.{line}
use Rattle.anb_machine.specs.ByteRuns.{meaning_of}
use Rattle.anb_trace.specs.Words.{SubjectValue, bytes_line, event_line, instr_lines, value_lines, why}

-- the last line, by how the run ends, and where it stops with why
abbrev pub end_line : End → List ℕ → List ℕ
end_line done reason = line (codes "done")
end_line (waiting event) reason = line (codes "waiting at event " ++ decimal event)
end_line (stopped event at) reason = line (codes "stopped at event " ++ (decimal event ++ (codes ", instruction " ++ (decimal at ++ (codes ": " ++ reason)))))

-- what is said behind an instruction, with the values of the registers, after so many events and draws, over further arrivals
abbrev pub Rest : Type 0
Rest = (table : List (List ℕ)) → (events drawn : ℕ) → (arrivals : List (List ℕ)) → List ℕ

module _ (s : SubjectValue) (draw : ℕ → List ℕ) where
  -- what is said of an instruction that does this, and behind it. Registers are numbered from `first` on
  abbrev pub told : Act → Instr → (table : List (List ℕ)) → (first events at drawn : ℕ) → (arrivals : List (List ℕ)) → Rest → List ℕ
  told takes instr table first events at drawn arrivals rest = rest table events drawn arrivals
  told draws instr table first events at drawn arrivals rest =
      instr_lines s instr first (draw drawn ∷ []) ++ rest (table ++ draw drawn ∷ []) events (drawn + 1) arrivals
  told receives instr table first events at drawn [] rest = event_line s.protocol s.plan events ++ end_line (waiting (events + 1)) []
  told receives instr table first events at drawn (x ∷ arrivals) rest =
      (event_line s.protocol s.plan events ++ bytes_line x) ++ rest (table ++ x ∷ []) (events + 1) drawn arrivals
  told (sends r) instr table first events at drawn arrivals rest =
      (event_line s.protocol s.plan events ++ option_map_or bytes_line (slice_get table r) []) ++ rest table (events + 1) drawn arrivals
  told (works w) instr table first events at drawn arrivals rest =
      on_written (worked (meaning_of s.code) table w)
      (λ values. instr_lines s instr first values ++ rest (table ++ values) events drawn arrivals)
      (instr_lines s instr first [] ++ end_line (stopped events (at + 1)) (why s table instr))

  -- what is said of these instructions
  abbrev pub told_all : List Instr → (table : List (List ℕ)) → (first events at drawn : ℕ) → (arrivals : List (List ℕ)) → List ℕ
  told_all [] table first events at drawn arrivals = end_line done []
  told_all (instr ∷ instrs) table first events at drawn arrivals =
      told (act_of s.code.formats instr) instr table first events at drawn arrivals
      (λ table events drawn arrivals. told_all instrs table (first + count_written s.code.formats instr) events (at + 1) drawn arrivals)

-- what is known at the beginning
abbrev pub known_lines : SubjectValue → List (List ℕ) → List ℕ
known_lines s initial = codes "event 0\n  known\n" ++ value_lines s.protocol s.terms initial

-- the trace of a code's run in a session
abbrev pub trace : SubjectValue → (initial : List (List ℕ)) → (seed : List ℕ) → (session : ℕ) → (arrivals : List (List ℕ)) → List ℕ
trace s initial seed session arrivals = known_lines s initial ++ told_all s (draw_of seed session) s.code.instrs initial 0 0 0 0 arrivals
