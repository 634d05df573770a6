-- What a role does with each arrival, in words.
use Rattle.std.specs.Prelude.{ℕ, ◌+◌, ◌&&◌, List, [], ◌∷◌, ◌++◌, Bool, false, not, codes, filter, take, slice_get, if◌then◌else◌}
use Rattle.std.specs.List.{flat_map, join_by, list_any}
use Rattle.std.specs.Option.{option_map_or}
use Rattle.anb_format.specs.Formats.{FormatValue}
use Rattle.anb_term.specs.Tree.{Tree, tree_eqb}
use Rattle.anb_protocol.specs.Protocols.{ProtocolValue}
use Rattle.anb_protocol.specs.Texts.{term_text}
use Rattle.anb_code.specs.declared.instr.Instr.{Instr}
use Rattle.anb_code.specs.Registers.{count_written}
use Rattle.anb_code.specs.CodeValue.{CodeValue}
use Rattle.anb_report.specs.Looking.{is_message, brings, builds, keys_of, opened_by, checked_by, written_by, without}

-- the texts of registers with these terms
abbrev pub register_text : ProtocolValue → List Tree → ℕ → List ℕ
register_text p terms r = option_map_or (term_text p) (slice_get terms r) []

abbrev pub register_texts : ProtocolValue → List Tree → List ℕ → List ℕ
register_texts p terms rs = join_by (register_text p terms) (codes ", ") rs

-- a word and the terms of registers, where there are any
abbrev pub said : ProtocolValue → List Tree → List ℕ → List ℕ → List (List ℕ)
said p terms word [] = []
said p terms word (r ∷ rs) = (word ++ register_texts p terms (r ∷ rs)) ∷ []

-- ---- what is learned

-- it is the term of this register
abbrev pub is_term_of : List Tree → Tree → ℕ → Bool
is_term_of terms t r = option_map_or (tree_eqb t) (slice_get terms r) false

-- it is the term of one of these registers
abbrev pub is_term_of_one : List Tree → List ℕ → Tree → Bool
is_term_of_one terms rs t = list_any (is_term_of terms t) rs

-- no register before this one has the term, and none of those that were built
abbrev pub is_new_term : List Tree → List ℕ → ℕ → Tree → Bool
is_new_term terms built r t = not (list_any (tree_eqb t) (take r terms)) && not (is_term_of_one terms built t)

-- a register has a term that none before it has, and none of those that were built
abbrev pub is_new : List Tree → List ℕ → ℕ → Bool
is_new terms built r = option_map_or (is_new_term terms built r) (slice_get terms r) false

-- one of these registers has the term of another one
abbrev pub is_named : List Tree → List ℕ → ℕ → Bool
is_named terms named r = option_map_or (is_term_of_one terms named) (slice_get terms r) false

-- registers, each term by the first one that has it, behind some that were named
abbrev pub once_more : List Tree → List ℕ → ℕ → List ℕ
once_more terms named r = if is_named terms named r then named else named ++ r ∷ []

abbrev pub once_after : List Tree → List ℕ → List ℕ → List ℕ
once_after terms named [] = named
once_after terms named (r ∷ rs) = once_after terms (once_more terms named r) rs

abbrev pub once : List Tree → List ℕ → List ℕ
once terms rs = once_after terms [] rs

-- ---- what is checked

-- it is none of these terms
abbrev pub is_none_of : List Tree → Tree → Bool
is_none_of some t = not (list_any (tree_eqb t) some)

-- a register has a term, which is none of these
abbrev pub has_other : List Tree → List Tree → ℕ → Bool
has_other terms some r = option_map_or (is_none_of some) (slice_get terms r) false

-- what is compared, each term once, but for terms that the role takes unchecked
abbrev pub checked : (terms unchecked : List Tree) → List Instr → List ℕ
checked terms unchecked instrs = once terms (filter (has_other terms unchecked) (flat_map checked_by instrs))

-- ---- each message

-- the instructions up to the next message
abbrev pub up_to_message : List Instr → List Instr
up_to_message [] = []
up_to_message (x ∷ xs) = if is_message x then [] else x ∷ up_to_message xs

module _ (formats : List FormatValue) where
  -- arrivals and parts, not opened here, with new terms
  abbrev pub learned : List Tree → ℕ → List Instr → List ℕ
  learned terms next instrs =
      filter (is_new terms (written_by formats builds next instrs)) (without (flat_map opened_by instrs) (written_by formats brings next instrs))

  module _ (p : ProtocolValue) (terms unchecked : List Tree) where
    -- what these instructions do with what the role has and with what came
    abbrev pub notes_at : ℕ → List Instr → List (List ℕ)
    notes_at next instrs =
        said p terms (codes "opens with ") (once terms (flat_map keys_of instrs))
        ++ (said p terms (codes "checks ") (checked terms unchecked instrs) ++ said p terms (codes "learns ") (learned terms next instrs))

    -- the same for each message, with what stands up to the next one
    abbrev pub notes_first : ℕ → List Instr → List (List (List ℕ))
    notes_first next [] = []
    notes_first next (x ∷ xs) = if is_message x then notes_at next (x ∷ up_to_message xs) ∷ [] else []

    abbrev pub notes_from : ℕ → List Instr → List (List (List ℕ))
    notes_from next [] = []
    notes_from next (x ∷ xs) = notes_first next (x ∷ xs) ++ notes_from (next + count_written formats x) xs

-- for each event, from event 0 on, by the terms of the registers and those that the role takes unchecked
abbrev pub notes_of : ProtocolValue → CodeValue → (terms unchecked : List Tree) → List (List (List ℕ))
notes_of p code terms unchecked =
    notes_at code.formats p terms unchecked 0 (up_to_message code.instrs) ∷ notes_from code.formats p terms unchecked 0 code.instrs
