-- What is noted of a protocol's keys, by its messages as they are narrated: a line each.
use Rattle.std.specs.Prelude.{ℕ, ◌+◌, List, [], ◌∷◌, ◌++◌, length, Bool, true, false, Option, Some, None, codes, decimal, slice_get, if◌then◌else◌}
use Rattle.std.specs.List.{flat_map, range_with_len}
use Rattle.std.specs.Option.{option_map_or}
use Rattle.anb_syntax.specs.declared.narration.Sort.{Sort}
use Rattle.anb_syntax.specs.declared.narration.Sort.TheVariants.{Agent, Number, Key}
use Rattle.anb_protocol.specs.Checks.{is_agent}
use Rattle.anb_protocol.specs.declared.parts.Atom.{Atom}
use Rattle.anb_protocol.specs.Protocols.{ActionValue, ProtocolValue, role_name}
use Rattle.anb_protocol.specs.Texts.{atom_name}
use Rattle.anb_notes.specs.declared.standing.Standing.TheVariants.{AsKey, InClear, Inside}
use Rattle.anb_notes.specs.Places.{first_of, places, makers, bare_keys, others_keys}

abbrev pub is_key : Sort → Bool
is_key Agent = false
is_key Number = false
is_key Key = true

abbrev pub names_agent : ProtocolValue → ℕ → Bool
names_agent p x = option_map_or (λ (a : Atom). is_agent a.sort) (slice_get p.atoms x) false

abbrev pub names_key : ProtocolValue → ℕ → Bool
names_key p x = option_map_or (λ (a : Atom). is_key a.sort) (slice_get p.atoms x) false

abbrev pub note : List ℕ → List ℕ
note text = codes "note: " ++ (text ++ 10 ∷ [])

-- an action by its number from 0, as it is counted from 1
abbrev pub action_text : ℕ → List ℕ
action_text action = codes "action " ++ decimal (action + 1)

-- the name of the role that receives an action
abbrev pub receiver : ProtocolValue → ℕ → List ℕ
receiver p action = option_map_or (λ (a : ActionValue). role_name p a.to) (slice_get p.actions action) []

-- by the first action, if there is one, whose message has a name where the others could take it out
abbrev pub unbrought : Option ℕ → List ℕ
unbrought None = codes ", and no message brings it"
unbrought (Some action) = []

-- where a key is used towards another role, and whether that role can get it
abbrev pub used_tail : ProtocolValue → (key : ℕ) → (inside : Option ℕ) → List ℕ
used_tail p key inside =
    codes ", and it is a key in " ++ (action_text key ++ (codes ", which " ++ (receiver p key ++ (codes " receives" ++ (unbrought inside ++ 10 ∷ [])))))

module _ (p : ProtocolValue) (x : ℕ) where
  -- ---- an agent's name is a key: the first action where it is

  abbrev pub agent_line : ℕ → List ℕ
  agent_line key = note (atom_name p x ++ (codes " is an agent's name, and a key in " ++ action_text key))

  abbrev pub agent_note : Option ℕ → List ℕ
  agent_note None = []
  agent_note (Some key) = if names_agent p x then agent_line key else []

  -- ---- a key stands in clear: the first action where it does, and the first one from there on where it is a key

  abbrev pub bare_line : (clear key : ℕ) → List ℕ
  bare_line clear key = note (atom_name p x ++ (codes " stands in clear in " ++ (action_text clear ++ (codes ", and is a key in " ++ action_text key))))

  abbrev pub told_line : ℕ → List ℕ
  told_line clear = note (atom_name p x ++ (codes " is of type Key, and stands in clear in " ++ action_text clear))

  -- no agent's name: the others are a key from there on, or of that type
  abbrev pub clear_line : (clear : ℕ) → (key : Option ℕ) → List ℕ
  clear_line clear None = if names_key p x then told_line clear else []
  clear_line clear (Some key) = bare_line clear key

  abbrev pub clear_note : (clear key : Option ℕ) → List ℕ
  clear_note None key = []
  clear_note (Some clear) key = if names_agent p x then [] else clear_line clear key

  -- ---- a key that nobody knows from the start: the role that makes it, and the first action where it is a key and that
  -- another role receives

  abbrev pub made_head : (role : ℕ) → List ℕ
  made_head role = codes "note: nobody knows " ++ (atom_name p x ++ (codes " from the start: " ++ (role_name p role ++ codes " draws it")))

  abbrev pub made_line : (role key : ℕ) → (inside : Option ℕ) → List ℕ
  made_line role key inside = made_head role ++ used_tail p key inside

  abbrev pub made_of : (role : ℕ) → (key inside : Option ℕ) → List ℕ
  made_of role None inside = []
  made_of role (Some key) inside = if names_key p x then made_line role key inside else []

  abbrev pub made_note : (role key inside : Option ℕ) → List ℕ
  made_note None key inside = []
  made_note (Some role) key inside = made_of role key inside

abbrev pub name_notes : ProtocolValue → ℕ → List ℕ
name_notes p x =
    agent_note p x (first_of x (places AsKey p))
    ++ (clear_note p x (first_of x (places InClear p)) (first_of x (bare_keys p))
    ++ made_note p x (first_of x (makers p)) (first_of x (others_keys p)) (first_of x (places Inside p)))

-- of each name, in the order in which they are declared
abbrev pub notes : ProtocolValue → List ℕ
notes p = flat_map (name_notes p) (range_with_len 0 (length p.atoms))
