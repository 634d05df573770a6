-- The number of each status, its line on the error sink, and when it may come.
use Rattle.std.specs.Prelude.{◌≡◌, ◌⊎◌, ℕ, Bool, true, false, List, [], ◌∷◌, ◌++◌, ◌==◌, codes, decimal, if◌then◌else◌}
use Rattle.anb_base.specs.declared.place.Place.{Place}
use Rattle.anb_base.specs.declared.place.Place.TheVariants.{Stdio, Dial, Listen}
use Rattle.anb_format.specs.declared.pieces.FormatNo.{FormatNo}
use Rattle.anb_format.specs.declared.pieces.FormatNo.TheVariants.{NoHead, RestNotLast}
use Rattle.anb_read.specs.declared.refusal.ReadNo.{ReadNo}
use Rattle.anb_read.specs.declared.refusal.ReadNo.TheVariants.{Token, Grammar, Deep}
use Rattle.anb_read.specs.declared.refusal.ReadNo.TheVariants as reading
use Rattle.anb_outcomes.specs.declared.certificates.CertifyNo.{CertifyNo}
use Rattle.anb_outcomes.specs.declared.certificates.CertifyNo.TheVariants.{Frame, Untrue, Sent, Loose}
use Rattle.anb_outcomes.specs.declared.certificates.CertifyNo.TheVariants as certifying
use Rattle.anb_code.specs.declared.refusal.CodeNo.{CodeNo}
use Rattle.anb_code.specs.declared.refusal.CodeNo.TheVariants as verifying
use Rattle.anb_text.specs.declared.refusal.LoadNo.{LoadNo}
use Rattle.anb_text.specs.declared.refusal.LoadNo.TheVariants as loading
use Rattle.anb_protocol.specs.declared.refusals.Kind.{Kind}
use Rattle.anb_protocol.specs.declared.refusals.Kind.TheVariants as kind
use Rattle.anb_protocol.specs.declared.refusals.Item.{Item}
use Rattle.anb_protocol.specs.declared.refusals.Item.TheVariants as item
use Rattle.anb_protocol.specs.declared.refusals.ResolveNo.{ResolveNo}
use Rattle.anb_protocol.specs.declared.refusals.ResolveNo.TheVariants as resolving
use Rattle.anb_values.specs.declared.refusal.ValuesNo.{ValuesNo}
use Rattle.anb_values.specs.declared.refusal.ValuesNo.TheVariants as fitting
use Rattle.anb_status.specs.declared.status.NarrationNo.{NarrationNo}
use Rattle.anb_status.specs.declared.status.NarrationNo.TheVariants.{Read, Resolve}
use Rattle.anb_status.specs.declared.status.Status.{Status}
use Rattle.anb_status.specs.declared.status.Status.TheVariants.{Done, Usage, FileFault, FileLong, BadNarration, NoRole, CannotSend, BadValues, NoSeed, Unreached, Stopped, Waiting, Truncated, TooLarge, ReadFault, WriteFault, BadRoleFile, BadTranscript, Differs, Short, BadKind, Spent, LongMessage, BadTurn, NotAll, BadBranch, ArmCannotSend, BadArm, NotCertified, Parked, BadRecord, ChildFault, ChildEnded, ChildCut, ChildLong, ChildBad, CasesNotOk, ChildSilent, Unwritten, NoMemory}

abbrev pub number_of : Status → ℕ
number_of Done = 0
number_of Usage = 1
number_of (FileFault name) = 2
number_of (FileLong name) = 3
number_of (BadNarration why) = 4
number_of (NoRole name) = 5
number_of (CannotSend action role) = 6
number_of (BadValues why) = 7
number_of NoSeed = 8
number_of (Unreached place) = 9
number_of (Stopped halt) = 10
number_of (Waiting event) = 11
number_of (Truncated have need) = 12
number_of (TooLarge len) = 13
number_of ReadFault = 14
number_of WriteFault = 15
number_of (BadRoleFile why) = 16
number_of (BadTranscript line) = 17
number_of (Differs line due) = 18
number_of (Short event) = 19
number_of (BadKind kind) = 20
number_of (Spent frames) = 21
number_of (LongMessage action len) = 22
number_of (BadTurn turn) = 23
number_of (NotAll report) = 24
number_of (BadBranch why) = 25
number_of (ArmCannotSend arm action role) = 26
number_of (BadArm arm) = 27
number_of (NotCertified why) = 28
number_of (Parked event) = 29
number_of (BadRecord why) = 30
number_of (ChildFault role) = 31
number_of (ChildEnded action) = 32
number_of (ChildCut action have need) = 33
number_of (ChildLong action len) = 34
number_of (ChildBad role status) = 35
number_of (CasesNotOk failed cases) = 36
number_of (ChildSilent role seconds) = 37
number_of (Unwritten file) = 38
number_of NoMemory = 99

-- why a text is no narration
abbrev pub why_unread : ReadNo → List ℕ
why_unread (Token at) = codes "no token at " ++ decimal at
why_unread (Grammar at) = codes "unexpected at " ++ decimal at
why_unread (Deep at) = codes "too deep at " ++ decimal at
why_unread reading.NoMemory = codes "no memory"

abbrev pub kind_text : Kind → List ℕ
kind_text kind.Name = codes "bytes in a name"
kind_text kind.Formats = codes "formats"
kind_text kind.Fields = codes "fields"
kind_text kind.Roles = codes "roles"
kind_text kind.Actions = codes "actions"
kind_text kind.TermNodes = codes "nodes in a term"
kind_text kind.AllNodes = codes "nodes"

abbrev pub why_misshapen : FormatNo → List ℕ
why_misshapen NoHead = codes " has no head"
why_misshapen (RestNotLast i) = codes " has a rest at " ++ decimal i

-- what is too wide
abbrev pub item_text : Item → List ℕ
item_text (item.Know role) = codes "knowledge of " ++ role
item_text (item.Action n) = codes "action " ++ decimal n

-- why a narration isn't well formed
abbrev pub why_ill_formed : ResolveNo → List ℕ
why_ill_formed (resolving.Limit kind count) = codes "too many " ++ (kind_text kind ++ (codes ": " ++ decimal count))
why_ill_formed (resolving.Twice name) = name ++ codes " twice"
why_ill_formed (resolving.Unknown name) = name ++ codes " unknown"
why_ill_formed (resolving.WrongSort name) = name ++ codes " has the wrong sort"
why_ill_formed (resolving.WrongCount name) = name ++ codes " has the wrong count"
why_ill_formed (resolving.FormatShape name why) = name ++ why_misshapen why
why_ill_formed (resolving.Overlap f g) = f ++ (codes " and " ++ (g ++ codes " overlap"))
why_ill_formed (resolving.SelfSend n) = codes "action " ++ (decimal n ++ codes " goes to its sender")
why_ill_formed (resolving.KnowledgeTwice role term) = role ++ (codes " knows " ++ (term ++ codes " twice"))
why_ill_formed (resolving.Wide what) = item_text what ++ codes " is too wide"
why_ill_formed resolving.NoMemory = codes "no memory"

abbrev pub why_bad : NarrationNo → List ℕ
why_bad (Read why) = why_unread why
why_bad (Resolve why) = why_ill_formed why

-- why a values file doesn't fit
abbrev pub why_unfit : ValuesNo → List ℕ
why_unfit (fitting.Line n) = codes "line " ++ decimal n
why_unfit (fitting.Extra name) = name ++ codes " isn't asked for"
why_unfit (fitting.Twice name) = name ++ codes " twice"
why_unfit (fitting.Long name) = name ++ codes " is too long"
why_unfit (fitting.Missing name) = name ++ codes " is missing"
why_unfit fitting.NoMemory = codes "no memory"

-- why a code isn't accepted
abbrev pub why_unaccepted : CodeNo → List ℕ
why_unaccepted (verifying.Many f) = codes "format " ++ (decimal f ++ codes " is too much")
why_unaccepted (verifying.Twice f) = codes "format " ++ (decimal f ++ codes " has an earlier name")
why_unaccepted (verifying.Shape f why) = codes "format " ++ (decimal f ++ codes " has no shape")
why_unaccepted (verifying.Late at) = codes "instruction " ++ (decimal at ++ codes ": late take")
why_unaccepted (verifying.TakeTwice at) = codes "instruction " ++ (decimal at ++ codes ": take twice")
why_unaccepted (verifying.BadFormat at) = codes "instruction " ++ (decimal at ++ codes ": bad format")
why_unaccepted (verifying.Unwritten at) = codes "instruction " ++ (decimal at ++ codes ": unwritten")
why_unaccepted (verifying.Order at) = codes "instruction " ++ (decimal at ++ codes ": out of order")
why_unaccepted (verifying.Wide at) = codes "instruction " ++ (decimal at ++ codes ": too wide")
why_unaccepted verifying.NoMemory = codes "no memory"

-- why a role file gives no code
abbrev pub why_unloaded : LoadNo → List ℕ
why_unloaded (loading.Line n) = codes "line " ++ decimal n
why_unloaded (loading.Code why) = why_unaccepted why
why_unloaded loading.NoMemory = codes "no memory"

-- the instruction at which a code isn't certified; 0 where the names differ
abbrev pub uncertified_at : CertifyNo → ℕ
uncertified_at (Frame n) = n
uncertified_at (Untrue n) = n
uncertified_at (Sent n) = n
uncertified_at (Loose n register) = n
uncertified_at certifying.NoMemory = 0

-- the instruction of a stop, where one is told
abbrev pub instruction_text : ℕ → List ℕ
instruction_text at = if at == 0 then [] else codes ", instruction " ++ decimal at

abbrev pub where_text : Place → List ℕ
where_text Stdio = codes "stdio"
where_text (Dial at) = at
where_text (Listen at) = at

-- what a status says
abbrev pub text_of : Status → List ℕ
text_of Done = []
text_of Usage = codes "the words fit no command"
text_of (FileFault name) = codes "can't read " ++ name
text_of (FileLong name) = name ++ codes " is too long"
text_of (BadNarration why) = codes "narration: " ++ why_bad why
text_of (NoRole name) = codes "no role " ++ name
text_of (CannotSend action role) = role ++ (codes " can't compose the message of action " ++ decimal action)
text_of (BadValues why) = codes "values: " ++ why_unfit why
text_of NoSeed = codes "no seed"
text_of (Unreached place) = codes "can't reach " ++ where_text place
text_of (Stopped halt) = codes "stopped at event " ++ (decimal halt.event ++ instruction_text halt.at)
text_of (Waiting event) = codes "waiting at event " ++ decimal event
text_of (Truncated have need) = codes "input ends after " ++ (decimal have ++ (codes " of " ++ (decimal need ++ codes " bytes")))
text_of (TooLarge len) = codes "a frame of " ++ (decimal len ++ codes " bytes")
text_of ReadFault = codes "read failed"
text_of WriteFault = codes "write failed"
text_of (BadRoleFile why) = codes "role file: " ++ why_unloaded why
text_of (BadTranscript line) = codes "transcript line " ++ (decimal line ++ codes " can't be read")
text_of (Differs line due) = codes "transcript line " ++ (decimal line ++ codes " differs")
text_of (Short event) = codes "transcript ends before event " ++ decimal event
text_of (BadKind kind) = codes "no frame kind " ++ decimal kind
text_of (Spent frames) = decimal frames ++ codes " frames handled"
text_of (LongMessage action len) = codes "message of action " ++ (decimal action ++ (codes " has " ++ (decimal len ++ codes " bytes")))
text_of (BadTurn turn) = codes "turn " ++ (decimal turn ++ codes " names no role")
text_of (NotAll report) = codes "not all roles are done"
text_of (BadBranch why) = codes "branch refused"
text_of (ArmCannotSend arm action role) =
    role ++ (codes " can't compose the message of action " ++ (decimal action ++ (codes " in arm " ++ decimal arm)))
text_of (BadArm arm) = codes "arm " ++ (decimal arm ++ codes " doesn't fit")
text_of (NotCertified why) = codes "not certified at instruction " ++ decimal (uncertified_at why)
text_of (Parked event) = codes "parked at event " ++ decimal event
text_of (BadRecord why) = codes "record refused"
text_of (ChildFault role) = codes "child " ++ (role ++ codes " failed")
text_of (ChildEnded action) = codes "no message of action " ++ decimal action
text_of (ChildCut action have need) =
    codes "message of action " ++ (decimal action ++ (codes " ends after " ++ (decimal have ++ (codes " of " ++ (decimal need ++ codes " bytes")))))
text_of (ChildLong action len) = codes "message of action " ++ (decimal action ++ (codes " has " ++ (decimal len ++ codes " bytes")))
text_of (ChildBad role status) = codes "child " ++ (role ++ (codes " ended with " ++ decimal status))
text_of (CasesNotOk failed cases) = decimal failed ++ (codes " of " ++ (decimal cases ++ codes " cases not ok"))
text_of (ChildSilent role seconds) = codes "child " ++ (role ++ (codes " was silent for " ++ (decimal seconds ++ codes " seconds")))
text_of (Unwritten file) = codes "can't write " ++ file
text_of NoMemory = codes "no memory"

-- its line; there is none where all was done
abbrev pub line_of : Status → List ℕ
line_of Done = []
line_of status = codes "anb: " ++ text_of status ++ 10 ∷ []

-- a fault of the outside, or want of memory
abbrev pub is_fault : Status → Bool
is_fault (FileFault name) = true
is_fault (Unreached place) = true
is_fault ReadFault = true
is_fault WriteFault = true
is_fault (ChildFault role) = true
is_fault (ChildSilent role seconds) = true
is_fault (Unwritten file) = true
is_fault NoMemory = true
is_fault status = false

-- a fact for the file that couldn't be read
abbrev pub OnFileFault : Status → (List ℕ → Type 0) → Type 0
OnFileFault (FileFault name) P = P name
OnFileFault status P = Unit {0}

-- a fact for the place that couldn't be reached
abbrev pub OnUnreached : Status → (Place → Type 0) → Type 0
OnUnreached (Unreached place) P = P place
OnUnreached status P = Unit {0}

-- when a status may come: before the place is reached, for want of it, after it, or at any time
pub data Phase : Type 0 where
  before_reach : Phase
  at_reach : Phase
  after_reach : Phase
  at_any_time : Phase

abbrev pub phase_of : Status → Phase
phase_of Usage = before_reach
phase_of (FileFault name) = before_reach
phase_of (FileLong name) = before_reach
phase_of (BadNarration why) = before_reach
phase_of (NoRole name) = before_reach
phase_of (CannotSend action role) = before_reach
phase_of (BadValues why) = before_reach
phase_of NoSeed = before_reach
phase_of (BadRoleFile why) = before_reach
phase_of (BadTranscript line) = before_reach
phase_of (BadTurn turn) = before_reach
phase_of (BadBranch why) = before_reach
phase_of (ArmCannotSend arm action role) = before_reach
phase_of (BadArm arm) = before_reach
phase_of (NotCertified why) = before_reach
phase_of (BadRecord why) = before_reach
phase_of (ChildFault role) = before_reach
phase_of (ChildEnded action) = before_reach
phase_of (ChildCut action have need) = before_reach
phase_of (ChildLong action len) = before_reach
phase_of (ChildBad role status) = before_reach
phase_of (ChildSilent role seconds) = before_reach
phase_of (Unreached place) = at_reach
phase_of NoMemory = at_any_time
phase_of status = after_reach

-- then nothing was read or written
abbrev pub is_untouched : Phase → Bool
is_untouched before_reach = true
is_untouched at_reach = true
is_untouched after_reach = false
is_untouched at_any_time = false

-- neither of the words nor of a child
abbrev pub IsOfFiles : Status → Type 0
IsOfFiles Usage = ⊥
IsOfFiles (ChildFault role) = ⊥
IsOfFiles (ChildSilent role seconds) = ⊥
IsOfFiles status = Unit {0}

-- a refusal of files before the place is reached, or want of memory
abbrev pub IsEarly : Status → Type 0
IsEarly status = ((phase_of status ≡ before_reach) × IsOfFiles status) ⊎ (status ≡ NoMemory)
