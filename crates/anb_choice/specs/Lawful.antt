-- Branched protocols: which are lawful, and which roles can't see what was chosen.
use Rattle.std.specs.Prelude.{◌≡◌, ℕ, ◌+◌, ◌≤◌, ◌==◌, ◌&&◌, ◌||◌, not, nat_le, List, [], ◌∷◌, length, map, take, drop, Bool, true, false, Option, Some, None, slice_get, if◌then◌else◌}
use Rattle.std.specs.Option.{option_map, option_map_or}
use Rattle.std.specs.List.{AllByRecursion, list_all, list_any}
use Rattle.std.specs.Str.{bytes_eq}
use Rattle.anb_index.specs.Places.{among}
use Rattle.anb_term.specs.declared.term.Op.TheVariants.{Format}
use Rattle.anb_term.specs.Tree.{Tree, node}
use Rattle.anb_protocol.specs.Choices.{refuse_if, first, first_after}
use Rattle.anb_protocol.specs.Protocols.{ProtocolValue, role_number}
use Rattle.anb_protocol.specs.Plans.{PlanEvent, to_know, to_make, to_send, to_receive, plan_of}

-- The role that chooses, how many actions are common, and the protocol of each arm behind these. The
-- common actions are called the stem.
pub record BranchedValue : Type 0 where
  pub chooser : List ℕ
  pub stem : ℕ
  pub arms : List ProtocolValue

-- the roles in the order of arm 1
abbrev pub roles_in : BranchedValue → List (List ℕ)
roles_in b = option_map_or (λ (p : ProtocolValue). p.roles) (slice_get b.arms 0) []

-- the plan of the role with this name, whose number may differ from arm to arm
abbrev pub plan_named : ProtocolValue → List ℕ → List PlanEvent
plan_named p role = plan_of p (role_number p.roles role)

-- The first of these events belongs to the first actions, so many: it is known from the start, it
-- sends or receives one of them, or it makes a name for one of them.
abbrev pub is_of_stem : ℕ → List PlanEvent → Bool
is_of_stem stem [] = false
is_of_stem stem (to_know t ∷ es) = true
is_of_stem stem (to_make t ∷ es) = is_of_stem stem es
is_of_stem stem (to_send action t ∷ es) = nat_le action stem
is_of_stem stem (to_receive action t ∷ es) = nat_le action stem

-- how many events a plan has up to the last of the first actions, so many
abbrev pub stem_len : ℕ → List PlanEvent → ℕ
stem_len stem [] = 0
stem_len stem (e ∷ es) = if is_of_stem stem (e ∷ es) then 1 + stem_len stem es else 0

-- a plan up to there, and what follows
abbrev pub stem_part : ℕ → List PlanEvent → List PlanEvent
stem_part stem plan = take (stem_len stem plan) plan

abbrev pub arm_part : ℕ → List PlanEvent → List PlanEvent
arm_part stem plan = drop (stem_len stem plan) plan

-- ---- who can see what was chosen

-- a role has an action of its own in the arm
abbrev pub is_free : ℕ → List ℕ → ProtocolValue → Bool
is_free stem role p = nat_le 1 (length (arm_part stem (plan_named p role)))

abbrev pub root_format : Tree → Option ℕ
root_format (node (Format i arity) ts) = Some i
root_format _ = None

-- the format of the message, where these events begin with a receive
abbrev pub received_format : List PlanEvent → Option ℕ
received_format (to_receive action t ∷ es) = root_format t
received_format _ = None

-- the format of the message that the role receives first in the arm
abbrev pub told_by : ℕ → List ℕ → ProtocolValue → Option ℕ
told_by stem role p = received_format (arm_part stem (plan_named p role))

abbrev pub is_format : ℕ → Option ℕ → Bool
is_format i None = false
is_format i (Some j) = i == j

-- A format that is told in an arm behind these tells the arm: there is one, and none of these has it.
abbrev pub tells : List (Option ℕ) → Option ℕ → Bool
tells before None = false
tells before (Some i) = not (list_any (is_format i) before)

-- The first arm, from 1, that a role with these formats doesn't see to be taken: it isn't free there, its
-- first action there isn't a receive, the message of that action has no format at its root, or an earlier
-- arm has this format in that place.
abbrev pub unseen_in : List (Option ℕ) → Option ℕ
unseen_in told = first_after (λ before x. refuse_if (not (tells before x)) (length before + 1)) [] told

-- All roles but the chooser that are free in some arm are to see each arm. This is the first arm that
-- the role is blind in, where there is one.
abbrev pub blind_in : BranchedValue → List ℕ → Option ℕ
blind_in b role =
    if bytes_eq role b.chooser || not (list_any (is_free b.stem role) b.arms) then None
    else unseen_in (map (told_by b.stem role) b.arms)

-- the first role that is blind in some arm, and its first such arm
abbrev pub blind : BranchedValue → Option (List ℕ × ℕ)
blind b = first (λ role. option_map (λ arm. (role, arm)) (blind_in b role)) (roles_in b)

-- ---- which arms belong together

-- the same names, in whatever order
abbrev pub are_same_names : List (List ℕ) → List (List ℕ) → Bool
are_same_names xs ys = list_all (among ys) xs && list_all (among xs) ys

-- This arm has the suite, the formats, the names and the roles of the first one, and up to the choice
-- each role has the same plan in both. Terms are told by the numbers of names.
pub record IsLike (stem : ℕ) (one p : ProtocolValue) : Type 0 where
  pub suite : p.suite ≡ one.suite
  pub formats : p.formats ≡ one.formats
  pub atoms : p.atoms ≡ one.atoms
  pub roles : are_same_names one.roles p.roles ≡ true
  pub plans : AllByRecursion (λ role. stem_part stem (plan_named p role) ≡ stem_part stem (plan_named one role)) one.roles

-- all arms are like the first, so any two are alike
abbrev pub AreAlike : ℕ → List ProtocolValue → Type 0
AreAlike stem [] = Unit {0}
AreAlike stem (one ∷ others) = AllByRecursion (IsLike stem one) others

-- Two to eight arms that belong together, a chooser that is a role, and nobody who is blind.
pub record IsLawful (b : BranchedValue) : Type 0 where
  pub few : 2 ≤ length b.arms
  pub most : length b.arms ≤ 8
  pub alike : AreAlike b.stem b.arms
  pub chooser : among (roles_in b) b.chooser ≡ true
  pub seeing : blind b ≡ None
