-- What is said of a role at its end: what it takes, and then what comes of a recording.
use Rattle.std.specs.Prelude.{◌≡◌, ℕ, List, [], ◌∷◌, ◌++◌, codes, decimal, if◌then◌else◌}
use Rattle.std.specs.List.{list_any}
use Rattle.anb_protocol.specs.Protocols.{ProtocolValue}
use Rattle.anb_protocol.specs.Texts.{atom_name}
use Rattle.anb_pattern.specs.Taken.{TakenValue, is_received, with_lines}
use Rattle.anb_accept.specs.Roles.{IsTakenBy}
use Rattle.anb_outsider.specs.declared.recording.Recording.{Recording}
use Rattle.anb_outsider.specs.declared.recording.Recording.TheVariants.{Taken, Stops}
use Rattle.anb_outsider.specs.Recordings.{IsRecording}

abbrev pub stop : ProtocolValue → (event name : ℕ) → List ℕ
stop p event name = codes "stops at event " ++ (decimal event ++ (codes ", since " ++ (atom_name p name ++ codes " is new")))

abbrev pub outcome : ProtocolValue → Recording → List ℕ
outcome p Taken = codes "is taken to the end"
outcome p (Stops event name) = stop p event name

abbrev pub recording_line : ProtocolValue → Recording → List ℕ
recording_line p recording = codes "  a recording of another run: " ++ (outcome p recording ++ 10 ∷ [])

-- where the role receives something
abbrev pub recording_lines : ProtocolValue → ℕ → Recording → List ℕ
recording_lines p role recording = if list_any (is_received role) p.actions then recording_line p recording else []

-- what is said of a role
pub record IsSaidOf (p : ProtocolValue) (role : ℕ) (said : TakenValue) : Type 0 where
  pub taken : TakenValue
  pub takes : IsTakenBy p role taken
  pub recording : Recording
  pub recorded : IsRecording p role recording
  pub is : said ≡ with_lines taken (recording_lines p role recording)
