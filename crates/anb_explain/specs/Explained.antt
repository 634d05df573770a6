-- What a role does, as a text.
use Rattle.std.specs.Prelude.{◌≡◌, ℕ, ◌+◌, List, [], ◌∷◌, ◌++◌, length, take, drop, map, codes, decimal, count_by, Bool, true, false, Option, Some}
use Rattle.std.specs.List.{AllByRecursion, join_by}
use Rattle.anb_term.specs.Tree.{Tree}
use Rattle.anb_term.specs.Value.{values, recipe_trees}
use Rattle.anb_term.specs.FreeAlgebra.{terms_over}
use Rattle.anb_algebra.specs.ByteMeaning.{has_operator}
use Rattle.anb_protocol.specs.Choices.{each_after}
use Rattle.anb_protocol.specs.Protocols.{ProtocolValue}
use Rattle.anb_protocol.specs.Texts.{IsTermOf, term_text}
use Rattle.anb_protocol.specs.Plans.{PlanEvent, to_know, to_make, to_send, to_receive, plan_of}
use Rattle.anb_protocol.specs.Plays.{events_of}
use Rattle.anb_code.specs.CodeValue.{CodeValue}
use Rattle.anb_code.specs.RawValue.{RawInstrValue}
use Rattle.anb_code.specs.Meaning.{acts_of}
use Rattle.anb_code.specs.Spelling.{raw_of}
use Rattle.anb_compile.specs.Registers.{register_recipes, all_labels}
use Rattle.anb_text.specs.Lines.{instr_line}

-- these texts with one space between two
abbrev pub spaced : List (List ℕ) → List ℕ
spaced texts = join_by (λ text. text) (32 ∷ []) texts

-- a line, which ends with the byte 0A
abbrev pub line : List ℕ → List ℕ
line text = text ++ 10 ∷ []

-- ---- the plan

-- what is known, made or received has a label
abbrev pub has_label : PlanEvent → Bool
has_label (to_know t) = true
has_label (to_make t) = true
has_label (to_send action t) = false
has_label (to_receive action t) = true

-- what is sent or received is a message
abbrev pub is_message : PlanEvent → Bool
is_message (to_know t) = false
is_message (to_make t) = false
is_message (to_send action t) = true
is_message (to_receive action t) = true

-- what is said of an event behind so many labels, which are numbered from 0, and so many messages, which are numbered from 1
abbrev pub event_words : ProtocolValue → ℕ → ℕ → PlanEvent → List (List ℕ)
event_words p labels messages (to_know t) = codes "know" ∷ decimal labels ∷ term_text p t ∷ []
event_words p labels messages (to_make t) = codes "fresh" ∷ decimal labels ∷ term_text p t ∷ []
event_words p labels messages (to_send action t) = codes "send" ∷ decimal (messages + 1) ∷ term_text p t ∷ []
event_words p labels messages (to_receive action t) = codes "recv" ∷ decimal (messages + 1) ∷ decimal labels ∷ term_text p t ∷ []

-- the line of an event, with those before it
abbrev pub event_line : ProtocolValue → List PlanEvent → PlanEvent → List ℕ
event_line p before e = line (spaced (event_words p (count_by has_label before) (count_by is_message before) e))

abbrev pub plan_text : ProtocolValue → List PlanEvent → List ℕ
plan_text p plan = each_after (event_line p) [] plan

-- ---- the code

-- behind ` # ` these texts, where there are any
abbrev pub note : List (List ℕ) → List ℕ
note [] = []
note (text ∷ texts) = codes " # " ++ spaced (text ∷ texts)

-- Instructions, each with the terms of the registers that it writes. The terms are those of the registers in the
-- order of writing, from the first one that these instructions write.
abbrev pub instr_texts : ProtocolValue → List RawInstrValue → List Tree → List ℕ
instr_texts p [] terms = []
instr_texts p (i ∷ instrs) terms =
    line (instr_line i ++ note (map (term_text p) (take (length i.to) terms))) ++ instr_texts p instrs (drop (length i.to) terms)

abbrev pub code_text : ProtocolValue → List Tree → CodeValue → List ℕ
code_text p terms code = instr_texts p (raw_of code).code terms

-- ---- all

-- where the plan has these events, and the registers these terms
abbrev pub explained_by : ProtocolValue → List PlanEvent → CodeValue → List Tree → List ℕ
explained_by p plan code terms =
    line (codes "role " ++ code.role) ++ (plan_text p plan ++ (line (codes "code") ++ code_text p terms code))

abbrev pub explained : ProtocolValue → ℕ → CodeValue → List Tree → List ℕ
explained p role code terms = explained_by p (plan_of p role) code terms

-- the terms of the registers, in the order of writing: what their recipes are worth in terms, over all labels of the plan
abbrev pub register_terms : ProtocolValue → ℕ → CodeValue → Option (List Tree)
register_terms p role code = values (terms_over (has_operator code.formats)) (all_labels (events_of p role)) (recipe_trees (register_recipes (acts_of code)))

-- each register has a term, which is one of the protocol's, and the text has these terms
pub record IsExplained (p : ProtocolValue) (role : ℕ) (code : CodeValue) (text : List ℕ) : Type 0 where
  pub terms : List Tree
  pub are : register_terms p role code ≡ Some terms
  pub ours : AllByRecursion (IsTermOf p) terms
  pub stands : explained p role code terms ≡ text
