-- What holds of traces.
use Rattle.std.specs.Prelude.{◌≡◌, ◌≢◌, ◌↔◌, ◌<◌, ◌^◌, ◌++◌, ℕ, List, [], length, IsTrue}
use Rattle.anb_base.specs.declared.TheConstants.{ARRIVAL, WIDE}
use Rattle.anb_base.specs.Bytes.{IsBytes, is_bytes}
use Rattle.anb_format.specs.Formats.{IsParts, IsSound}
use Rattle.anb_format.specs.declared.pieces.Piece.{Piece}
use Rattle.anb_code.specs.Taking.{take_texts}
use Rattle.anb_code.specs.Verified.{IsVerifiedCode}
use Rattle.anb_algebra.specs.ByteMeaning.{has_operator}
use Rattle.anb_term.specs.Lawful.{AreValues}
use Rattle.anb_term.specs.Tree.{IsFormed, Tree}
use Rattle.anb_plays.specs.Plays.{Played}
use Rattle.anb_code.specs.CodeValue.{CodeValue}
use Rattle.anb_machine.specs.ByteRuns.{meaning_of, run_bytes}
use Rattle.anb_trace.specs.Differences.{BothOpen, Difference, LeadsInward, innermost, inward_from}
use Rattle.anb_trace.specs.Misfits.{misfit}
use Rattle.anb_trace.specs.Saying.{Said, came_in, said_text, sent_in}
use Rattle.anb_trace.specs.Traces.{end_line, trace}
use Rattle.anb_trace.specs.Words.{SubjectValue}

-- A text that tells a run over arrivals, behind so many events: the lines of messages have those that it sends, in
-- order, the lines of arrivals those that it uses, and the last line how it ends.
pub record TellsRun (s : SubjectValue) (events : ℕ) (arrivals : List (List ℕ)) (text : List ℕ) (p : Played (List ℕ)) : Type 0 where
  pub said : List Said
  pub reason : List ℕ
  pub is : text ≡ said_text s events said ++ end_line p.end reason
  pub messages : sent_in said ≡ p.sent
  pub arrived : came_in said ++ p.left ≡ arrivals

-- a trace tells the code's run in its session
abbrev pub TracesTellRuns : Type 0
TracesTellRuns = (s : SubjectValue) (initial : List (List ℕ)) (seed : List ℕ) (session : ℕ) (arrivals : List (List ℕ))
    → IsVerifiedCode ARRIVAL WIDE s.code → length initial ≡ length (take_texts s.code.instrs)
    → TellsRun s 0 arrivals (trace s initial seed session arrivals) (run_bytes s.code initial seed session arrivals)

-- what leads inward from a difference does so step by step, to one in which none stands, and nothing else does
abbrev pub InnermostIsOne : Type 0
InnermostIsOne = (code : CodeValue) (terms : List Tree) (table : List (List ℕ)) (d : Difference)
    → LeadsInward code terms table d (inward_from code terms table d)
    × ((others : List Difference) → LeadsInward code terms table d others → others ≡ inward_from code terms table d)

-- and in the last one not both sides open: as far as the role has the keys it is gone inward
abbrev pub InnermostStaysClosed : Type 0
InnermostStaysClosed = (code : CodeValue) (terms : List Tree) (table : List (List ℕ)) (d : Difference)
    → AreValues (meaning_of code) table → IsFormed (has_operator code.formats) d.term → IsTrue (is_bytes d.due) → IsTrue (is_bytes d.came)
    → d.due ≢ d.came → BothOpen code terms table (innermost d (inward_from code terms table d)) → ⊥

-- nothing is told of bytes exactly where some arguments build them
abbrev pub MisfitsAreExact : Type 0
MisfitsAreExact = (pieces : List Piece) → IsSound pieces → (bytes : List ℕ) → IsBytes bytes → length bytes < 2 ^ 32
    → (misfit pieces bytes ≡ []) ↔ ((arguments : List (List ℕ)) × IsParts pieces bytes arguments)
