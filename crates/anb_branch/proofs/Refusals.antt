-- Codes of arms, and the first arm that has none.
use Rattle.std.proofs.Common.{◌≡◌, ℕ, ◌+◌, ◌<◌, List, [], ◌∷◌, length, take, true, refl, ◌∙◌, Some}
use Rattle.std.specs.Prelude.{slice_get, All}
use Rattle.std.specs.Option.{option_map_or}
use Rattle.std.specs.List.{AllByRecursion, list_all}
use Rattle.std.proofs.lemmas.List.Elements.{All-from_recursion}
use Rattle.std.proofs.lemmas.Bool.{and_parts}
use Rattle.anb_index.specs.Places.{among}
use Rattle.anb_protocol.specs.Protocols.{ProtocolValue, role_number}
use Rattle.anb_protocol.specs.Plays.{IsSendable}
use Rattle.anb_protocol.proofs.Building.{role_below}
use Rattle.anb_choice.specs.Lawful.{BranchedValue, IsLawful, IsLike, AreAlike, roles_in}
use Rattle.anb_choice.proofs.Names.{among_others}
use Rattle.anb_branch.specs.declared.compiling.ArmNo.{ArmNo}
use Rattle.anb_branch.specs.declared.compiling.ArmNo.TheVariants.{CannotSend, NoMemory}
use Rattle.anb_branch.specs.Arms.{RefusesArm, RefusesArms, HaveRole}

pub refused_at : (arms : List ProtocolValue) (place number : ℕ) (arm : ProtocolValue) (no : ArmNo) → number ≡ place + 1 → slice_get arms place ≡ Some arm → All IsSendable (take place arms)
    → RefusesArm arm number no → RefusesArms arms no
refused_at arms place number arm (CannotSend n action name) is here all (same, refused) = record {
  place = place;
  is = same ∙ is;
  arm = arm;
  here = here;
  refused = (refl, refused);
  first = all;
}
refused_at arms place number arm NoMemory is here all refused = tt

-- a role of the first arm is one of each arm
abbrev RoleOf : List ℕ → ProtocolValue → Type 0
RoleOf role arm = among arm.roles role ≡ true

in_others : (stem : ℕ) (one : ProtocolValue) (role : List ℕ) (others : List ProtocolValue) → among one.roles role ≡ true → AllByRecursion (IsLike stem one) others → AllByRecursion (RoleOf role) others
in_others stem one role [] is all = tt
in_others stem one role (p ∷ others) is (like, all) =
    (among_others one.roles p.roles role (and_parts (list_all (among p.roles) one.roles) (list_all (among one.roles) p.roles) like.roles).0 is, in_others stem one role others is all)

pub roles_there : (b : BranchedValue) (role : List ℕ) → IsLawful b → among (roles_in b) role ≡ true → AllByRecursion (λ (arm : ProtocolValue). among arm.roles role ≡ true) b.arms
roles_there b role law is = go b.arms law.alike is where
  go : (arms : List ProtocolValue) → AreAlike b.stem arms → among (option_map_or (λ (p : ProtocolValue). p.roles) (slice_get arms 0) []) role ≡ true → AllByRecursion (RoleOf role) arms
  go [] alike at = tt
  go (one ∷ others) alike at = (at, in_others b.stem one role others at alike)

have_each : (arms : List ProtocolValue) (role : List ℕ) → AllByRecursion (RoleOf role) arms → AllByRecursion (λ (arm : ProtocolValue). role_number arm.roles role < length arm.roles) arms
have_each [] role all = tt
have_each (arm ∷ arms) role (is, all) = (role_below arm.roles role is, have_each arms role all)

pub have_role : (b : BranchedValue) (role : List ℕ) → IsLawful b → among (roles_in b) role ≡ true → HaveRole b.arms role
have_role b role law is = All-from_recursion (λ (arm : ProtocolValue). role_number arm.roles role < length arm.roles) b.arms (have_each b.arms role (roles_there b role law is))
