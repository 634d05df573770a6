-- What comes of a schedule where all roles are honest: by the bytes of the atoms, and no code.
use Rattle.std.specs.Prelude.{◌≡◌, ℕ, ◌-◌, ◌<◌, ◌==◌, ◌&&◌, not, if◌then◌else◌, List, length, map, filter, unwrap_or, Bool, Option, Some, None, slice_get}
use Rattle.std.specs.Option.{option_map_or}
use Rattle.anb_base.specs.Bytes.{IsBytes}
use Rattle.anb_term.specs.Tree.{Tree, leaf}
use Rattle.anb_seal.specs.Streams.{draw_of}
use Rattle.anb_plays.specs.Plays.{Played}
use Rattle.anb_plays.specs.Honest.{honest_play, made}
use Rattle.anb_protocol.specs.Choices.{first}
use Rattle.anb_protocol.specs.Protocols.{ActionValue, ProtocolValue}
use Rattle.anb_protocol.specs.Texts.{known_by, known_terms}
use Rattle.anb_protocol.specs.Plays.{events_of, honest_bytes, meaning_of}
use Rattle.anb_protocol.specs.Schedules.{Turn, taken, was_sent}
use Rattle.anb_outcomes.specs.declared.rehearsals.Report.{Report}
use Rattle.anb_honest.specs.declared.report.RehearseEnd.{RehearseEnd}
use Rattle.anb_honest.specs.declared.report.RehearseEnd.TheVariants.{AllDone, Part}
use Rattle.anb_honest.specs.Joint.{Cast, known_atoms, long_end, is_complete, all_reported}

-- bytes of all atoms: the given ones where an atom occurs in some role's knowledge, and its maker's
-- draw for each name that a role makes
pub record AreHonest (c : Cast) (atoms : ℕ → List ℕ) : Type 0 where
  pub strings : (a : ℕ) → IsBytes (atoms a)
  pub known : (i a : ℕ) → slice_get (known_atoms c.protocol) i ≡ Some a
      → slice_get c.values i ≡ Some (atoms a)
  pub made : (role i : ℕ) (t : Tree) → role < length c.protocol.roles
      → slice_get (made (events_of c.protocol role)) i ≡ Some t
      → draw_of c.seed role i ≡ honest_bytes c.protocol atoms t

-- the message of an action, whose number is from 1
abbrev pub term_at : ProtocolValue → ℕ → Tree
term_at p action =
    option_map_or (λ (a : ActionValue). a.message) (slice_get p.actions (action - 1)) (leaf 0)

-- in this turn the role receives
abbrev pub is_heard : ℕ → Turn → Bool
is_heard role t = (t.role == role) && not t.sends

module _ (c : Cast) (atoms : ℕ → List ℕ) where
  abbrev pub honest_message : ℕ → List ℕ
  honest_message action = honest_bytes c.protocol atoms (term_at c.protocol action)

  -- the messages of the actions that were sent in these turns
  abbrev pub honest_sent : List Turn → ℕ → Option (List ℕ)
  honest_sent turns action =
      if was_sent turns action then Some (honest_message action) else None

  -- a send of a message that is too long
  abbrev pub long_turn : Turn → Option RehearseEnd
  long_turn t = if t.sends then long_end t.action (honest_message t.action) else None

  abbrev pub honest_report : List ℕ → Report
  honest_report turns = record {
    turns = length turns;
    taken = length (taken c.protocol turns);
    passed = length turns - length (taken c.protocol turns);
    sent = all_reported c (honest_sent (taken c.protocol turns));
  }

  -- the first initial value or message that is too long, or the report
  abbrev pub honest_end : List ℕ → RehearseEnd
  honest_end turns =
      unwrap_or (first (λ t. long_end 0 (honest_bytes c.protocol atoms t)) (known_terms c.protocol))
      (unwrap_or (first long_turn (taken c.protocol turns))
      (if is_complete c (taken c.protocol turns) (length c.protocol.roles)
      then AllDone (honest_report turns) else Part (honest_report turns)))

  -- what a role knows, and what it takes in a schedule
  abbrev pub honest_known : ℕ → List (List ℕ)
  honest_known role = map (honest_bytes c.protocol atoms) (known_by c.protocol role)

  abbrev pub honest_taken : ℕ → List ℕ → List (List ℕ)
  honest_taken role turns =
      map (λ (t : Turn). honest_message t.action)
      (filter (is_heard role) (taken c.protocol turns))

  -- a role sends the honest bytes of its messages up to the first receive that it did not take
  abbrev pub play_so_far : ℕ → List ℕ → Played (List ℕ)
  play_so_far role turns =
      honest_play (meaning_of c.protocol) atoms (events_of c.protocol role)
      (length (filter (is_heard role) (taken c.protocol turns)))
