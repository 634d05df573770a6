-- A company that can be rehearsed does as honest roles.
use Rattle.std.proofs.Common.{◌≡◌, ◌⊎◌, ℕ, ◌<◌, List, length, map, Option, refl, ap, sym, ◌∙◌, subst}
use Rattle.std.specs.List.{AllByRecursion}
use Rattle.std.proofs.lemmas.List.{length-map}
use Rattle.std.proofs.lemmas.List.Elements.{recursion_from_All}
use Rattle.anb_code.specs.CodeValue.{CodeValue}
use Rattle.anb_honest.specs.declared.report.RehearseEnd.{RehearseEnd}
use Rattle.anb_honest.specs.Honest.{AreHonest, honest_end}
use Rattle.anb_honest.specs.Joint.{Cast, cast, joint, known_atoms}
use Rattle.anb_honest.specs.Laws.{CompleteIsTested, FittingCodesFollow, HonestBytesExist, IsFitting, PlaysAreHonest, RehearsalsAreHonest}
use Rattle.anb_honest.specs.Order.{FollowRoles}
use Rattle.anb_protocol.specs.Protocols.{ProtocolValue}
use Rattle.anb_protocol.specs.Texts.{atom_name}
use Rattle.anb_status.specs.declared.status.Status.{Status}
use Rattle.anb_rehearse_commands.specs.Rehearsals.{Rehearsal}
use Rattle.anb_rehearse_commands.specs.RehearseCommand.{RolesPlay, cast_of}
use Rattle.anb_rehearse_commands.specs.Telling.{CanRehearse, GoesOn, IsRehearsedTo, IsTold, asked_by}
use Rattle.anb_rehearse_commands.proofs.Ended.{goes_on}

module _ (p : ProtocolValue) (codes : List CodeValue) (values : List (List ℕ)) (seed turns : List ℕ) (can : CanRehearse p codes values turns) where
  abbrev asked : Rehearsal
  asked = asked_by p values seed turns

  abbrev whole : Cast
  whole = cast p codes values seed

  as_cast : (atoms : ℕ → List ℕ) → AreHonest (cast_of asked) atoms → AreHonest whole atoms
  as_cast atoms h = record { strings = h.strings; known = h.known; made = h.made }

  fitting : IsFitting whole
  fitting = record { count = can.fit.count; each = can.fit.each }

  pub follow : FittingCodesFollow → FollowRoles p codes
  follow law = record { count = can.fit.count; each = λ role code at. law p role code (can.fit.each role code at) }

  some : HonestBytesExist → (atoms : ℕ → List ℕ) × AreHonest (cast_of asked) atoms
  some law = law (cast_of asked) (can.count ∙ length-map (known_atoms p) (atom_name p)) can.bytes

  module _ (exist : HonestBytesExist) (honest : RehearsalsAreHonest p) where
    ends_as : (atoms : ℕ → List ℕ) → AreHonest (cast_of asked) atoms → joint whole turns ≡ honest_end (cast_of asked) atoms turns
    ends_as atoms h = honest codes values seed atoms turns fitting (as_cast atoms h) (recursion_from_All (λ role. role < length p.roles) turns can.roles)

    pub goes : GoesOn (joint whole turns)
    goes = let atoms = some exist in subst GoesOn (sym (ends_as atoms.0 atoms.1)) (goes_on (cast_of asked) atoms.0 turns)

    pub rehearsed_to : PlaysAreHonest p → CompleteIsTested → (s : Status) (w now : Option (List ℕ)) → IsTold (joint whole turns) s w now → IsRehearsedTo asked s w now
    rehearsed_to plays tested s w now told = record {
      some = some exist;
      told = λ atoms h. subst (λ (end : RehearseEnd). IsTold end s w now) (ends_as atoms h) told;
      plays = λ atoms h role within. plays codes values seed atoms turns role can.sendable (as_cast atoms h) within;
      tested = tested;
    }
