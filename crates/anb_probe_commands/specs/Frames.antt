-- What went over a program's pipes in a case, as comments of a report.
use Rattle.std.specs.Prelude.{ℕ, ◌+◌, List, [], ◌∷◌, ◌++◌, codes, decimal, slice_get, Bool, true, false}
use Rattle.std.specs.Option.{option_map_or}
use Rattle.anb_term.specs.Tree.{Tree, Trees, leaf, node, none, more}
use Rattle.anb_term.specs.View.{tree_of}
use Rattle.anb_term.specs.declared.term.Term.{Term}
use Rattle.anb_protocol.specs.Protocols.{ActionValue, ProtocolValue, role_name}
use Rattle.anb_protocol.specs.Texts.{op_text}
use Rattle.anb_protocol.specs.declared.parts.Atom.{Atom}
use Rattle.anb_recording.specs.Lines.{line_text}
use Rattle.anb_transcript.specs.declared.transcript.TranscriptLine.{TranscriptLine}
use Rattle.anb_transcript.specs.declared.transcript.TranscriptLine.TheVariants.{In, Out}
use Rattle.anb_verdict.specs.Places.{own_action}
use Rattle.anb_verdict.specs.Texts.{event_text}
use Rattle.anb_attempts.specs.declared.attempts.Scene.{Scene}

-- ---- terms of a scene

-- a name; where the protocol has none the wrong value stands, and is `*`
abbrev pub shown_name : ProtocolValue → ℕ → List ℕ
shown_name p a = option_map_or (λ (x : Atom). x.name) (slice_get p.atoms a) (codes "*")

-- a comma stands before each operand but the first
abbrev pub comma : (is_first : Bool) → List ℕ
comma true = []
comma false = codes ","

abbrev mutual
  -- a term, as a narration writes it
  pub shown_term : ProtocolValue → Tree → List ℕ
  shown_term p (leaf a) = shown_name p a
  shown_term p (node o ts) = op_text p o ++ codes "(" ++ shown_all p true ts ++ codes ")"

  pub shown_all : ProtocolValue → (is_first : Bool) → Trees → List ℕ
  shown_all p is_first none = []
  shown_all p is_first (more t ts) = comma is_first ++ shown_term p t ++ shown_all p false ts

-- the one with this number, from 0
abbrev pub shown_at : ProtocolValue → List Term → ℕ → List ℕ
shown_at p terms i = option_map_or (λ (t : Term). shown_term p (tree_of t)) (slice_get terms i) []

-- ---- frames

-- who hears what a role says at an event
abbrev pub hearer_at : ProtocolValue → (role event : ℕ) → List ℕ
hearer_at p role event = option_map_or (λ (a : ActionValue). role_name p a.to) (own_action p role event) []

-- how many arrivals a line is, and how many messages
abbrev pub heard_by : TranscriptLine → ℕ
heard_by (In arrival) = 1
heard_by (Out message) = 0

abbrev pub said_by : TranscriptLine → ℕ
said_by (In arrival) = 0
said_by (Out message) = 1

-- the event of a frame, and who hears it; or, as a title has it, who sends it
abbrev pub to_text : ProtocolValue → (role event : ℕ) → List ℕ
to_text p role event = codes "event " ++ decimal event ++ codes ", to " ++ hearer_at p role event ++ codes ": "

abbrev pub peer_text : ProtocolValue → (role event : ℕ) → TranscriptLine → List ℕ
peer_text p role event (In arrival) = event_text p role event
peer_text p role event (Out message) = to_text p role event

-- its term in a scene, where so many were heard and said before
abbrev pub due_text : ProtocolValue → Scene → (heard said : ℕ) → TranscriptLine → List ℕ
due_text p scene heard said (In arrival) = shown_at p scene.arrivals.items heard
due_text p scene heard said (Out message) = shown_at p scene.messages.items said

module _ (p : ProtocolValue) (role : ℕ) (scene : Scene) where
  -- both, and behind them its bytes, as a line of a transcript
  abbrev pub frame_text : (event heard said : ℕ) → TranscriptLine → List ℕ
  frame_text event heard said line = codes "# " ++ peer_text p role event line ++ due_text p scene heard said line ++ codes "\n#   " ++ line_text line

  abbrev pub frames_from : (event heard said : ℕ) → List TranscriptLine → List ℕ
  frames_from event heard said [] = []
  frames_from event heard said (line ∷ lines) =
      frame_text event heard said line ++ frames_from (event + 1) (heard + heard_by line) (said + said_by line) lines

  -- the frames of a conversation
  abbrev pub frames_text : List TranscriptLine → List ℕ
  frames_text lines = frames_from 1 0 0 lines

-- those of one in the scene with this number
abbrev pub frames_in : ProtocolValue → (role : ℕ) → List Scene → (scene : ℕ) → List TranscriptLine → List ℕ
frames_in p role scenes scene lines = option_map_or (λ (s : Scene). frames_text p role s lines) (slice_get scenes scene) []
