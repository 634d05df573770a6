-- Laws of plans over byte strings, from those over any algebra.
use Rattle.std.proofs.Common.{◌≡◌, ℕ, List, IsTrue, subst}
use Rattle.std.specs.List.{AllByRecursion}
use Rattle.std.proofs.lemmas.List.Elements.{All-from_recursion, recursion_from_All}
use Rattle.anb_base.specs.Bytes.{IsBytes, is_bytes, is_bytes-IsBytes}
use Rattle.anb_seal.specs.Streams.{draw_of}
use Rattle.anb_seal.proofs.ByteLemmas.{bytes-draw_of}
use Rattle.anb_base.specs.declared.content.Suite.{Suite}
use Rattle.anb_format.specs.Formats.{FormatValue}
use Rattle.anb_term.specs.Value.{Meaning}
use Rattle.anb_term.specs.Lawful.{AreValues}
use Rattle.anb_algebra.specs.ByteMeaning.{byte_meaning}
use Rattle.anb_algebra.proofs.Picks.{strings, tests}
use Rattle.anb_plays.specs.Statements.{PlaysAreOne, PlaysAreThere, HonestAgree}
use Rattle.anb_protocol.specs.Protocols.{ProtocolValue}
use Rattle.anb_protocol.specs.Plays.{events_of, meaning_of}
use Rattle.anb_protocol.specs.Laws.{PlayIsOne, PlayIsThere, HonestAgrees}
use Rattle.anb_protocol.proofs.PlanLaws.{made_new}

-- strings of bytes are values
pub values_of : (p : ProtocolValue) (bs : List (List ℕ)) → AllByRecursion IsBytes bs → AreValues (meaning_of p) bs
values_of p bs all = All-from_recursion (λ b. IsTrue (is_bytes b)) bs (tests bs all)

pub play_once : (p : ProtocolValue) → PlaysAreOne (meaning_of p) → PlayIsOne p
play_once p once = λ role init seed session arrivals. once (draw_of seed session) (events_of p role) init arrivals

pub play_there : (p : ProtocolValue) → PlaysAreThere (meaning_of p) → PlayIsThere p
play_there p there = λ role init seed session arrivals sendable within init_bytes arrival_bytes.
    there (draw_of seed session) (events_of p role) init arrivals (sendable role within) (made_new p role)
    (λ i. bytes-draw_of seed session i) (values_of p init init_bytes) (values_of p arrivals arrival_bytes)

pub honest_agreed : (p : ProtocolValue) → HonestAgree (meaning_of p) → HonestAgrees p
honest_agreed p agree = λ atoms frame each formed.
    let agreed = agree atoms frame (λ a. is_bytes-IsBytes (atoms a) (each a)) formed in
    (strings _ (recursion_from_All (λ b. IsTrue (is_bytes b)) _ agreed.0), agreed.1, agreed.2)

-- what holds of byte strings by some formats and a suite holds by those of a protocol where they are the same
pub by_parts : (P : Meaning (List ℕ) → Type 0) (p : ProtocolValue) (formats : List FormatValue) (suite : Suite) → formats ≡ p.formats → suite ≡ p.suite
    → P (byte_meaning formats suite) → P (meaning_of p)
by_parts P p formats suite same_formats same_suite holds =
    subst (λ (s : Suite). P (byte_meaning p.formats s)) same_suite (subst (λ (f : List FormatValue). P (byte_meaning f suite)) same_formats holds)
