-- A place on the way along a code.
use Rattle.std.specs.Prelude.{◌≡◌, ℕ, ◌+◌, ◌<◌, ◌^◌, List, [], ◌∷◌, length, drop, Option}
use Rattle.anb_plays.specs.Plans.{Event, known}
use Rattle.anb_plays.specs.Codes.{Act, takes, draws, receives, sends, works}
use Rattle.anb_plays.specs.Exec.{HasTakes, count_written}
use Rattle.anb_plays.specs.Fits.{Place, Along, AnySend, AnyWork, AnyBorder}
use Rattle.anb_code.specs.CodeValue.{CodeValue}
use Rattle.anb_code.specs.Meaning.{acts_of}
use Rattle.anb_protocol.specs.Protocols.{ProtocolValue}
use Rattle.anb_protocol.specs.Plays.{events_of, meaning_of}
use Rattle.anb_algebra.specs.ByteMeaning.{has_operator}
use Rattle.anb_outcomes.specs.declared.certificates.CertifyNo.{CertifyNo}
use Rattle.anb_certify.specs.Along.{HaveTerms, Finds}
use Rattle.anb_certify.specs.Certified.{HasFrame, FindsOf}
use Rattle.anb_certify.specs.Numbered.{TableValue}
use Rattle.anb_certify.specs.Works.{AreTold}

-- how many registers acts write
abbrev pub written_by : Act → ℕ
written_by takes = 1
written_by draws = 1
written_by receives = 1
written_by (sends n) = 0
written_by (works w) = count_written w

abbrev pub written_in : List Act → ℕ
written_in [] = 0
written_in (act ∷ acts) = written_by act + written_in acts

-- Acts and events are left, and the next instruction has number n. The registers so far have these terms, of which what was
-- done tells, and what is found from here on is found along the whole code.
pub record Stands (p : ProtocolValue) (role : ℕ) (code : CodeValue) (acts : List Act) (es : List Event) (n : ℕ) (v : TableValue) : Type 0 where
  pub framed : HasFrame p role code
  pub place : Place
  pub few : length v.terms + written_in acts < 2 ^ 32
  pub have : HaveTerms (meaning_of p) place v.terms
  pub told : AreTold v.terms v.did
  pub order : Along AnySend AnyWork AnyBorder acts es place
  pub count : ℕ
  pub ready : HasTakes (has_operator p.formats) acts (length v.terms) count
  pub takes_next : (later : List Act) → acts ≡ takes ∷ later → drop (length v.terms) place.frame ≡ known es
  pub goes_on : (found : Option CertifyNo) → Finds (meaning_of p) acts es place v.did n found → FindsOf p role code found

-- behind i instructions and so many events
abbrev pub IsAt : ProtocolValue → ℕ → CodeValue → ℕ → ℕ → TableValue → Type 0
IsAt p role code i next v = Stands p role code (drop i (acts_of code)) (drop next (events_of p role)) (i + 1) v
