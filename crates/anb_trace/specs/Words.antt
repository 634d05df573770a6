-- What a trace says of an event, of an instruction, and of why one failed.
use Rattle.std.specs.Prelude.{ℕ, ◌+◌, ◌-◌, ◌==◌, ◌&&◌, ◌||◌, nat_lt, Bool, true, false, List, [], ◌∷◌, ◌++◌, length, drop, filter, codes, decimal, Option, Some, None, slice_get, if◌then◌else◌}
use Rattle.std.specs.Option.{option_map_or}
use Rattle.std.specs.List.{list_any}
use Rattle.hex.specs.Hex.{encode_lower}
use Rattle.anb_format.specs.Formats.{pieces_at}
use Rattle.anb_term.specs.Tree.{Tree}
use Rattle.anb_code.specs.declared.instr.Instr.{Instr}
use Rattle.anb_code.specs.declared.instr.Instr.TheVariants.{Unseal, Unwrap, Parse, Equal}
use Rattle.anb_code.specs.CodeValue.{CodeValue}
use Rattle.anb_code.specs.Spelling.{name_at, raw_instr}
use Rattle.anb_protocol.specs.Plans.{PlanEvent, to_send, to_receive}
use Rattle.anb_protocol.specs.Protocols.{ActionValue, ProtocolValue, role_name}
use Rattle.anb_protocol.specs.Texts.{term_text}
use Rattle.anb_text.specs.Lines.{instr_line}
use Rattle.anb_explain.specs.Explained.{is_message, line}
use Rattle.anb_explain.specs.Explanations.{ExplanationValue}
use Rattle.anb_trace.specs.Arrivals.{arrival_in, comes_first, writer}
use Rattle.anb_trace.specs.Differences.{Difference, innermost, inward_from}
use Rattle.anb_trace.specs.Misfits.{count_text, misfit}
use Rattle.anb_trace.specs.Openers.{seal_key, wrap_context, wrap_key}

-- whom a trace is of: a role's plan, and a code for it with the terms of its registers, in the order of writing
pub record SubjectValue : Type 0 where
  pub protocol : ProtocolValue
  pub plan : List PlanEvent
  pub code : CodeValue
  pub terms : List Tree

abbrev pub subject_of : ProtocolValue → CodeValue → ExplanationValue → SubjectValue
subject_of p code e = record { protocol = p; plan = e.plan; code = code; terms = e.terms }

-- ---- events

-- the two roles of an action, by its number
abbrev pub receiver : ProtocolValue → ℕ → List ℕ
receiver p action = option_map_or (λ (a : ActionValue). role_name p a.to) (slice_get p.actions (action - 1)) []

abbrev pub sender : ProtocolValue → ℕ → List ℕ
sender p action = option_map_or (λ (a : ActionValue). role_name p a.from) (slice_get p.actions (action - 1)) []

-- the number of an action, the partner, and the term of the message
abbrev pub event_words : ProtocolValue → PlanEvent → List ℕ
event_words p (to_send action t) =
    codes ", action " ++ (decimal action ++ (codes ", to " ++ (receiver p action ++ (codes ": " ++ term_text p t))))
event_words p (to_receive action t) =
    codes ", action " ++ (decimal action ++ (codes ", from " ++ (sender p action ++ (codes ": " ++ term_text p t))))
event_words p event = []

-- the line of the event behind so many sends and receives
abbrev pub event_line : ProtocolValue → List PlanEvent → ℕ → List ℕ
event_line p plan events =
    codes "event " ++ (decimal (events + 1) ++ line (option_map_or (event_words p) (slice_get (filter is_message plan) events) []))

-- its bytes
abbrev pub bytes_line : List ℕ → List ℕ
bytes_line bytes = codes "  " ++ line (encode_lower bytes)

-- ---- instructions

-- a term and its bytes
abbrev pub value_line : ProtocolValue → Tree → List ℕ → List ℕ
value_line p t bytes = codes "    " ++ (term_text p t ++ (codes ": " ++ line (encode_lower bytes)))

abbrev pub value_lines : ProtocolValue → List Tree → List (List ℕ) → List ℕ
value_lines p ts [] = []
value_lines p [] (bytes ∷ values) = []
value_lines p (t ∷ ts) (bytes ∷ values) = value_line p t bytes ++ value_lines p ts values

-- an instruction whose first register is this one, and what it writes
abbrev pub instr_lines : SubjectValue → Instr → ℕ → List (List ℕ) → List ℕ
instr_lines s instr first values =
    codes "  " ++ (line (instr_line (raw_instr s.code.formats first instr)) ++ value_lines s.protocol (drop first s.terms) values)

-- ---- why an instruction failed

-- the term of a register
abbrev pub term_at : SubjectValue → ℕ → List ℕ
term_at s register = option_map_or (term_text s.protocol) (slice_get s.terms register) []

-- its bytes, where they are there
abbrev pub bytes_at : List (List ℕ) → ℕ → List ℕ
bytes_at table register = option_map_or (λ bytes. bytes) (slice_get table register) []

-- why these don't open: they are too few, since what was sealed or wrapped is 32 longer than its message; else these words
unfoldable pub unopened : List ℕ → (name other : List ℕ) → List ℕ
unopened bytes name other = codes ": " ++ (if nat_lt (length bytes) 32
    then count_text (length bytes) ++ (codes ", a " ++ (name ++ codes " has 32 or more")) else other)

-- what unseals a register
abbrev pub unsealed_by : SubjectValue → Option ℕ → List ℕ
unsealed_by s None = codes "no other key so far opens it"
unsealed_by s (Some k) = codes "it opens under " ++ term_at s k

-- with what a register unwraps: with another key, else with another context
abbrev pub under_with : SubjectValue → (k d : ℕ) → List ℕ
under_with s k d = codes "it opens under " ++ (term_at s k ++ (codes " with " ++ term_at s d))

abbrev pub unwrapped_with : SubjectValue → (k : ℕ) → Option ℕ → List ℕ
unwrapped_with s k None = codes "no other key or context so far opens it"
unwrapped_with s k (Some d) = under_with s k d

abbrev pub unwrapped_by : SubjectValue → List (List ℕ) → (k d c : ℕ) → Option ℕ → List ℕ
unwrapped_by s table k d c None = unwrapped_with s k (wrap_context s.code table k c)
unwrapped_by s table k d c (Some other) = under_with s other d

-- how the bytes of a register were had
abbrev pub opened : Instr → List ℕ
opened (Unseal k c) = codes "unsealed, but "
opened (Unwrap k d c) = codes "unwrapped, but "
opened instr = []

-- the innermost difference in words, with what it stands in
abbrev pub place_text : ProtocolValue → Difference → List Difference → List ℕ
place_text p d [] = term_text p d.term
place_text p d (inner ∷ rest) = place_text p inner rest ++ (codes " in " ++ term_text p d.term)

-- two sides that differ, of which the second came; or neither did, and they are values of what is known
abbrev pub sides_text : (came : Bool) → (place due other : List ℕ) → List ℕ
sides_text true place due other = place ++ (codes " differs: " ++ (encode_lower due ++ (codes " is due, " ++ (encode_lower other ++ codes " came"))))
sides_text false place due other =
    codes "the values don't fit each other: " ++ (place ++ (codes " is " ++ (encode_lower due ++ (codes " and " ++ encode_lower other))))

-- a difference that came with an arrival, or that no arrival is in: the innermost one is told
abbrev pub difference_text : SubjectValue → List (List ℕ) → (came : Bool) → Difference → List ℕ
difference_text s table came d =
    let inner = inward_from s.code s.terms table d in
    sides_text came (place_text s.protocol d inner) (innermost d inner).due (innermost d inner).came

-- two registers of one term that differ, the first of which has what is due
abbrev pub differing : SubjectValue → List (List ℕ) → ℕ → ℕ → List ℕ
differing s table due came = option_map_or
    (λ t. difference_text s table (nat_lt 0 (arrival_in s.code came)) (record { term = t; due = bytes_at table due; came = bytes_at table came }))
    (slice_get s.terms due) []

-- two registers that differ
abbrev pub unequal : SubjectValue → List (List ℕ) → ℕ → ℕ → List ℕ
unequal s table a b = if comes_first s.code b a then differing s table b a else differing s table a b

-- `an` stands before a vowel, and before a letter alone whose name begins with one, as in `an m4`
abbrev pub is_vowel : ℕ → Bool
is_vowel letter = list_any (λ vowel. vowel == letter) (codes "aeiouAEIOU")

abbrev pub sounds_open : ℕ → Bool
sounds_open letter = is_vowel letter || list_any (λ other. other == letter) (codes "fhlmnrsxFHLMNRSX")

abbrev pub is_letter : ℕ → Bool
is_letter b = (nat_lt 64 b && nat_lt b 91) || (nat_lt 96 b && nat_lt b 123)

abbrev pub takes_an : List ℕ → Bool
takes_an [] = false
takes_an (b ∷ []) = sounds_open b
takes_an (b ∷ next ∷ rest) = if is_letter next then is_vowel b else sounds_open b

abbrev pub article : List ℕ → List ℕ
article name = if takes_an name then codes "an " else codes "a "

-- why an instruction failed with these values of the registers
abbrev pub why : SubjectValue → List (List ℕ) → Instr → List ℕ
why s table (Unseal k c) = codes "can't unseal under " ++ (term_at s k ++ unopened (bytes_at table c) (codes "seal") (unsealed_by s (seal_key s.code table c)))
why s table (Unwrap k d c) =
    codes "can't unwrap under " ++ (term_at s k ++ (codes " with " ++ (term_at s d
    ++ unopened (bytes_at table c) (codes "wrapping") (unwrapped_by s table k d c (wrap_key s.code table d c)))))
why s table (Parse f r) =
    option_map_or opened (writer s.code.formats s.code.instrs r) []
    ++ (codes "isn't " ++ (article (name_at s.code.formats f) ++ (name_at s.code.formats f
    ++ (codes ": " ++ misfit (pieces_at s.code.formats f) (bytes_at table r)))))
why s table (Equal a b) = unequal s table a b
why s table instr = []
