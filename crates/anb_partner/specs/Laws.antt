-- What comes of a partner's code.
use Rattle.std.specs.Prelude.{◌≡◌, ℕ, List, length, map}
use Rattle.std.specs.List.{AllByRecursion}
use Rattle.anb_base.specs.Bytes.{IsBytes}
use Rattle.anb_code.specs.CodeValue.{CodeValue}
use Rattle.anb_machine.specs.ByteRuns.{run_bytes}
use Rattle.anb_plays.specs.Plays.{Played, Play}
use Rattle.anb_plays.specs.Runs.{without_place}
use Rattle.anb_protocol.specs.Plays.{event_of, meaning_of}
use Rattle.anb_protocol.specs.Protocols.{ProtocolValue}
use Rattle.anb_protocol.specs.Texts.{known_by}
use Rattle.anb_seal.specs.Streams.{draw_of}
use Rattle.anb_partner.specs.Plans.{IsPartner, Script, partner_plan}

-- what comes of the plan of a script, whatever is drawn, since nothing is
abbrev pub IsPartnersPlay : Script → (init : List (List ℕ)) → (seed : List ℕ) → (session : ℕ) → (arrivals : List (List ℕ)) → Played (List ℕ) → Type 0
IsPartnersPlay s init seed session arrivals played =
    Play (meaning_of s.protocol) (draw_of seed session) (map event_of (partner_plan s)) init arrivals played

-- The run of a partner's code, without the instruction of its stop, is the play of its plan, and the only one.
abbrev pub PartnersPlay : ProtocolValue → Type 0
PartnersPlay p =
    (s : Script) (code : CodeValue) (init arrivals : List (List ℕ)) (seed : List ℕ) (session : ℕ)
    → s.protocol ≡ p → IsPartner s code → length init ≡ length (known_by p s.role)
    → AllByRecursion IsBytes init → AllByRecursion IsBytes arrivals
    → IsPartnersPlay s init seed session arrivals (without_place (run_bytes code init seed session arrivals))
    × ((played : Played (List ℕ)) → IsPartnersPlay s init seed session arrivals played
    → played ≡ without_place (run_bytes code init seed session arrivals))
