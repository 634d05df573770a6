-- What is said of texts with a choice.
use Rattle.std.specs.Prelude.{ℕ, ◌+◌, ◌-◌, ◌&&◌, nat_le, nat_lt, Bool, false, List, [], ◌∷◌, ◌++◌, length, drop, take, codes, decimal, Option, Some, None, slice_get, unwrap_or, if◌then◌else◌}
use Rattle.std.specs.Option.{option_map_or}
use Rattle.std.specs.List.{position_from}
use Rattle.std.specs.Str.{bytes_eq}
use Rattle.anb_syntax.specs.Lexing.{token_here}
use Rattle.anb_syntax.specs.Words.{Word, choice_word}
use Rattle.anb_read.specs.Refusals.{offset}
use Rattle.anb_read.specs.declared.refusal.ReadNo.{ReadNo}
use Rattle.anb_read.specs.declared.refusal.ReadNo.TheVariants.{Grammar}
use Rattle.anb_protocol.specs.Plans.{PlanEvent, to_know, to_make, to_send, to_receive, plan_of}
use Rattle.anb_protocol.specs.Protocols.{ProtocolValue}
use Rattle.anb_outcomes.specs.declared.choices.BranchNo.{BranchNo}
use Rattle.anb_outcomes.specs.declared.choices.BranchNo.TheVariants.{Token, Shape, ArmRead, ArmResolve, Roles, Chooser, Blind, NoMemory}
use Rattle.anb_choice.specs.Lawful.{BranchedValue, root_format}
use Rattle.anb_check_commands.specs.declared.blindness.First.{First}
use Rattle.anb_check_commands.specs.declared.blindness.First.TheVariants.{Nothing, Sends, Opaque, Hears}

-- an arm's number, and what follows it
abbrev pub numbered : ℕ → List ℕ → List ℕ
numbered arm rest = codes "arm " ++ (decimal arm ++ rest)

-- the line before what is said of an arm
abbrev pub arm_line : ℕ → List ℕ
arm_line number = numbered number (codes ":\n")

-- of these texts that of the arm with this number, or this text where there is none
abbrev pub text_of_arm : List ℕ → List (List ℕ) → ℕ → List ℕ
text_of_arm x texts arm = unwrap_or (slice_get texts (arm - 1)) x

-- ---- what a role does first in an arm

abbrev pub heard : (action : ℕ) → (format : Option ℕ) → First
heard action None = Opaque action
heard action (Some format) = Hears action

-- an event of an action behind the first ones, so many
abbrev pub own_first : (stem : ℕ) → PlanEvent → Option First
own_first stem (to_know t) = None
own_first stem (to_make t) = None
own_first stem (to_send action t) = if nat_le action stem then None else Some (Sends action)
own_first stem (to_receive action t) = if nat_le action stem then None else Some (heard action (root_format t))

abbrev pub first_behind : (stem : ℕ) → List PlanEvent → First
first_behind stem [] = Nothing
first_behind stem (e ∷ es) = unwrap_or (own_first stem e) (first_behind stem es)

-- what the role of this name does first behind the stem
abbrev pub first_in : (stem : ℕ) → ProtocolValue → (role : List ℕ) → First
first_in stem p role =
    option_map_or (λ number. first_behind stem (plan_of p number)) (position_from (λ y. bytes_eq y role) 0 p.roles) Nothing

abbrev pub first_at : BranchedValue → (role : List ℕ) → (arm : ℕ) → First
first_at b role arm =
    option_map_or (λ (p : ProtocolValue). first_in b.stem p role) (slice_get b.arms (arm - 1)) Nothing

-- the first action of an arm, where it has one
abbrev pub first_action : (stem : ℕ) → ProtocolValue → Option ℕ
first_action stem p = if nat_lt stem (length p.actions) then Some (stem + 1) else None

-- the action that is pointed at
abbrev pub action_at : BranchedValue → (arm : ℕ) → First → Option ℕ
action_at b arm Nothing = option_map_or (first_action b.stem) (slice_get b.arms (arm - 1)) None
action_at b arm (Sends action) = Some action
action_at b arm (Opaque action) = Some action
action_at b arm (Hears action) = Some action

-- ---- why a choice isn't lawful

abbrev pub why_blind : First → List ℕ
why_blind Nothing = codes "it does nothing there"
why_blind (Sends action) = codes "it sends action " ++ (decimal action ++ codes " before it receives")
why_blind (Opaque action) = codes "the message of action " ++ (decimal action ++ codes " is no format at its root")
why_blind (Hears action) = codes "the message of action " ++ (decimal action ++ codes " has the format of an earlier arm")

abbrev pub blind_line : (role : List ℕ) → (arm : ℕ) → First → List ℕ
blind_line role arm first = role ++ (codes " is blind in " ++ numbered arm (codes ": " ++ why_blind first))

abbrev pub blind_mend : List ℕ
blind_mend = codes "a role that hears the arm receives first in each one, with a format at the root that is another in each"

abbrev pub fault_line : (chooser : List ℕ) → BranchNo → List ℕ
fault_line chooser (Roles arm) = numbered arm (codes " has other roles than arm 1")
fault_line chooser Chooser = chooser ++ codes " is to choose, and is no role"
fault_line chooser why = []

abbrev pub roles_mend : List ℕ
roles_mend = codes "a role has a line of knowledge or an action"

-- ---- why a text tells no choice

-- the token at the front is the word with which a choice begins
abbrev pub is_choice : Option (Word × ℕ) → List ℕ → Bool
is_choice None x = false
is_choice (Some t) x = bytes_eq choice_word (take t.1 x)

-- the token that no narration goes on with is this word
abbrev pub begins_choice : List ℕ → ReadNo → Bool
begins_choice x (Grammar at) = is_choice (token_here (drop at x)) (drop at x)
begins_choice x why = false

abbrev pub wrong_behind : List ℕ → ReadNo → (at : ℕ) → Option ℕ
wrong_behind x why at = if begins_choice x why && nat_lt (offset why) at then Some at else None

-- where a choice goes wrong that begins so: behind that word
abbrev pub wrong_at : List ℕ → ReadNo → BranchNo → Option ℕ
wrong_at x why (Token at) = wrong_behind x why at
wrong_at x why (Shape at) = wrong_behind x why at
wrong_at x why cause = None

abbrev pub order_line : BranchNo → List ℕ
order_line (Token at) = codes "no token begins here"
order_line cause = codes "no text with a choice goes on so"

abbrev pub order_mend : List ℕ
order_mend = codes "a choice is `Choice: <role>;`, and then two to eight times `Actions:` and the actions of an arm"
