-- In an attempt in a scene in which the role is known to stop, its run over the bytes that came stops there.
use Rattle.std.proofs.Common.{◌≡◌, ℕ, List, [], length, take, map, replicate, Bool, true, false, Option, Some, None, refl, sym, ap, ◌∙◌, subst, inl, inr}
use Rattle.std.specs.Prelude.{◌==◌}
use Rattle.std.specs.List.{AllByRecursion}
use Rattle.std.proofs.lemmas.Bool.{eqb-true}
use Rattle.anb_lemmas.proofs.Each.{each_as}
use Rattle.anb_base.specs.Bytes.{IsBytes, IsBytes-pass}
use Rattle.anb_term.specs.Tree.{Tree}
use Rattle.anb_term.specs.Value.{Meaning}
use Rattle.anb_plays.specs.Codes.{Act}
use Rattle.anb_plays.specs.Honest.{honest}
use Rattle.anb_plays.specs.Plans.{Event}
use Rattle.anb_plays.specs.Plays.{stopped}
use Rattle.anb_plays.specs.Runs.{no_place, run}
use Rattle.anb_protocol.specs.Plays.{events_of, meaning_of}
use Rattle.anb_protocol.specs.Protocols.{ProtocolValue}
use Rattle.anb_seal.specs.Streams.{draw_of}
use Rattle.anb_transcript.specs.declared.transcript.TranscriptLine.{TranscriptLine}
use Rattle.anb_transcript.specs.Replays.{arrivals_of}
use Rattle.anb_judge.specs.Verdicts.{is_said, sides}
use Rattle.anb_partner.specs.Laws.{PartnersPlay}
use Rattle.anb_partner.specs.Plans.{has_atom}
use Rattle.anb_partner.specs.Talks.{Hooked, IsHooked}
use Rattle.anb_tries.specs.Laws.{Attempt, IsAttempt}
use Rattle.anb_dues.specs.Laws.{AreOfNames}
use Rattle.anb_dues.proofs.Beginning.{play_hears}
use Rattle.anb_dues.proofs.Firsts.{Are, Text, are_as}
use Rattle.anb_dues.proofs.Lines.{Came, IsChanged, hook_of, knows, names_bytes, of, own_agrees, play, right_of, run_with, val, values, wrong, wrong_is, wrong_of}
use Rattle.anb_dues.proofs.Naming.{named, named_else, named_spare, same_in}
use Rattle.anb_dues.proofs.Speaking.{Outcome}
use Rattle.anb_dues.proofs.Stopping.{Grounds, Stops, StopsAt}

-- an attempt in a scene in which the role is known to stop at an event
pub record IsStopping (a : Attempt) (acts : List Act) (event : ℕ) : Type 0 where
  pub is : IsAttempt a
  pub law : PartnersPlay a.script.protocol
  pub base : Grounds a.script.protocol a.script.role acts
  pub names : AreOfNames a.script.protocol a.script.role a.initial a.handed
  pub stops : Stops a.script acts a.wrong event

-- a value is made wrong in it
abbrev pub changed : {a : Attempt} {acts : List Act} {event : ℕ} → IsStopping a acts event → IsChanged a acts
changed s = record { is = s.is; law = s.law; base = s.base; names = s.names; changes = s.stops.changes }

-- where the role draws this
module _ (a : Attempt) (acts : List Act) (event : ℕ) (s : IsStopping a acts event) (d : ℕ → Text) (drawn : (i : ℕ) → IsBytes (d i)) where
  abbrev p : ProtocolValue
  p = a.script.protocol

  abbrev role : ℕ
  role = a.script.role

  abbrev by_bytes : Meaning Text
  by_bytes = meaning_of a.script.protocol

  abbrev events : List Event
  events = events_of a.script.protocol a.script.role

  abbrev spare : ℕ
  spare = length a.script.protocol.atoms

  abbrev lines : List TranscriptLine
  lines = a.conversation.lines

  abbrev g : Grounds a.script.protocol a.script.role acts
  g = s.base

  abbrev st : Stops a.script acts a.wrong event
  st = s.stops

  abbrev atoms : ℕ → Text
  atoms = s.names.atoms

  abbrev names : Text → ℕ → Text
  names v n = named a.script.protocol a.script.role d s.names.atoms v n

  -- with the wrong value that was made
  abbrev made_wrong : Text
  made_wrong = wrong a acts (changed s) d drawn

  made_wrong_is : IsBytes made_wrong
  made_wrong_is = wrong_is a acts (changed s) d drawn

  -- a value with which the role stops
  record Shut (w : Text) : Type 0 where
    v : Text
    strings : IsBytes v
    stops : StopsAt a.script acts event (named a.script.protocol a.script.role d s.names.atoms v) d

  shut : (w : Text) → IsBytes w → Shut w
  shut w is_bytes =
      let c = st.shut (names w) (names_bytes a acts (changed s) d drawn w is_bytes) in
      record { v = c.0; strings = c.1; stops = c.2 (names c.0) d (values a acts (changed s) d drawn c.0 c.1) (λ n apart. named_else p role d atoms c.0 w n apart) (named_spare p role g.ours d atoms c.0) }

  -- the run stops there
  pub run_stops : (v : Text) → StopsAt a.script acts event (named a.script.protocol a.script.role d s.names.atoms v) d → (run_with a acts (changed s) d drawn v).end ≡ stopped event 0
  run_stops v at = ap (λ l. no_place (run by_bytes d acts l (map (honest by_bytes (names v)) a.script.arrivals)).end) (knows a acts (changed s) d drawn v) ∙ ap no_place at.1

  pub hears_there : is_said (sides (events_of a.script.protocol a.script.role)) event ≡ false
  hears_there =
      let n = shut [] (IsBytes-pass [] refl) in
      play_hears by_bytes d events a.initial (map (honest by_bytes (names n.v)) a.script.arrivals) (run_with a acts (changed s) d drawn n.v) event 0 (run_stops n.v n.stops) (play a acts (changed s) d drawn n.v n.strings)

  abbrev o : Option Hooked
  o = s.is.converses.talks.hooked

  -- the bytes of a term
  abbrev value_of : Tree → Text
  value_of t = of a acts (changed s) d drawn t

  -- a value for the spare name with which the role stops there, and what came in the first lines are the bytes of what should
  pub record Stopping (k : ℕ) : Type 0 where
    pub v : Text
    pub strings : IsBytes v
    pub stops : StopsAt a.script acts event (named a.script.protocol a.script.role d s.names.atoms v) d
    pub are : Are (λ t. honest (meaning_of a.script.protocol) (named a.script.protocol a.script.role d s.names.atoms v) t) (arrivals_of (take k a.conversation.lines)) a.script.arrivals

  -- it was made wrong
  was_changed : (x : Option Hooked) → IsHooked a.at a.wrong lines x → (k : ℕ) → hook_of x ≡ Some k → a.wrong (right_of x) ≡ Some (wrong_of x)
  was_changed None is_hooked k e = absurd (cc)
  was_changed (Some h) is_hooked k e = is_hooked.2

  was_wrong : (n k : ℕ) → hook_of o ≡ Some k → right_of o ≡ value_of st.changes.right → Are value_of (arrivals_of (take n lines)) a.script.arrivals → Stopping n
  was_wrong n k hook right_is are =
      let made_so : a.wrong (value_of st.changes.right) ≡ Some (names made_wrong spare) =
      ap a.wrong (sym right_is) ∙ was_changed o s.is.converses.talks.is_hooked k hook ∙ ap Some (sym (named_spare p role g.ours d atoms made_wrong)) in
      record { v = made_wrong; strings = made_wrong_is; stops = st.wrong (names made_wrong) d (val a acts (changed s) d drawn) made_so; are = are }

  other_name : (t : Tree) (n : ℕ) → has_atom spare t ≡ false → has_atom n t ≡ true → (b : Bool) → (n == spare) ≡ b → b ≡ false
  other_name t n lacks has true e = (let same = eqb-true n spare e in let yes : has_atom spare t ≡ true = subst (λ k. has_atom k t ≡ true) same has in absurd (cc))
  other_name t n lacks has false e = refl

  no_spare : (n : ℕ) → AllByRecursion (λ t. has_atom spare t ≡ false) (take (length (arrivals_of (take n lines))) a.script.arrivals) → Are value_of (arrivals_of (take n lines)) a.script.arrivals → Stopping n
  no_spare n without are =
      let c = shut made_wrong made_wrong_is in
      let by = λ (t : Tree). honest by_bytes (named a.script.protocol a.script.role d s.names.atoms c.v) t in
      let same : (t : Tree) → has_atom spare t ≡ false → value_of t ≡ by t =
      λ t lacks. same_in by_bytes (names made_wrong) (names c.v) t
      (λ n has. named_else p role d atoms made_wrong c.v n (other_name t n lacks has (n == spare) refl)) in
      record {
        v = c.v;
        strings = c.strings;
        stops = c.stops;
        are = are_as value_of by (arrivals_of (take n lines)) a.script.arrivals (each_as (λ t. has_atom spare t ≡ false) (λ t. value_of t ≡ by t) (take (length (arrivals_of (take n lines))) a.script.arrivals) same without) are;
      }

  outcome : (n : ℕ) (x : Option ℕ) → hook_of o ≡ x
      → Outcome by_bytes (own_agrees a acts (changed s) d drawn) (draw_of (replicate 32 0) 0) (names made_wrong) (val a acts (changed s) d drawn).values spare (right_of o) made_wrong (sym (named_spare p role g.ours d atoms made_wrong)) (Some st.changes.right) x (take (length (arrivals_of (take n lines))) a.script.arrivals)
      → Are value_of (arrivals_of (take n lines)) a.script.arrivals → Stopping n
  outcome n None e without are = no_spare n without are
  outcome n (Some k) e (inl right) are = was_wrong n k e right are
  outcome n (Some k) e (inr without) are = no_spare n without are

  pub stopping : (k : ℕ) → Came a acts (changed s) d drawn k → Stopping k
  stopping k all = outcome k (hook_of o) refl all.1 all.0
