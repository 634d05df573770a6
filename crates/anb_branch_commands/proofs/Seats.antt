-- Roles of branched texts: whether they can send, and whether what they are told fits.
use Rattle.std.proofs.Common.{◌≡◌, ℕ, suc, ◌+◌, ◌<◌, ◌≤◌, Bool, true, false, List, [], ◌∷◌, length, take, get_or, Option, Some, None, refl, ap, sym, ◌∙◌, subst, inl, inr, arith}
use Rattle.std.specs.Prelude.{All, ◌&&◌, ◌||◌, not, nat_le, slice_get, unwrap_or, if◌then◌else◌}
use Rattle.std.specs.List.{AllByRecursion, list_any, position_from}
use Rattle.std.specs.Option.{option_map_or}
use Rattle.std.specs.Str.{bytes_eq}
use Rattle.std.proofs.lemmas.Bool.{cases_order, le-leb, leb-true}
use Rattle.std.proofs.lemmas.List.{get_or-take, length-take}
use Rattle.std.proofs.lemmas.List.Elements.{All-from_recursion}
use Rattle.std.proofs.lemmas.Option.{get_or_from_slice_get, slice_get_within}
use Rattle.anb_index.specs.Places.{among}
use Rattle.anb_code.specs.CodeValue.{CodeValue}
use Rattle.anb_code.specs.Taking.{take_texts}
use Rattle.anb_protocol.specs.Choices.{refuse_if}
use Rattle.anb_protocol.specs.Plays.{IsSendable}
use Rattle.anb_protocol.specs.Protocols.{ProtocolValue, role_number}
use Rattle.anb_protocol.specs.Texts.{known_texts}
use Rattle.anb_protocol.proofs.Building.{role_below}
use Rattle.anb_compile.specs.Fitting.{FitsRole}
use Rattle.anb_compile.specs.Unsent.{IsFirstUnsentOfAll}
use Rattle.anb_choice.specs.Lawful.{BranchedValue, IsLawful, roles_in}
use Rattle.anb_branch.specs.Arms.{FitArms, RefusesArms}
use Rattle.anb_branch.specs.Laws.{ArmsKnowAlike}
use Rattle.anb_branch.specs.Taken.{IsTold, TakeAll}
use Rattle.anb_branch.specs.declared.compiling.ArmNo.TheVariants.{CannotSend}
use Rattle.anb_branch.proofs.Agreeing.{first_arm}
use Rattle.anb_status.specs.declared.status.Status.TheVariants.{ArmCannotSend, BadArm}
use Rattle.anb_command.specs.Errands.{draws}
use Rattle.anb_command.specs.Steps.{refused, given, HasOneAnswer}
use Rattle.anb_command.proofs.Senders.{first_one, none_unsent}
use Rattle.anb_role_commands.specs.Jobs.{makes_names}
use Rattle.anb_role_commands.proofs.Draws.{draws_as_made}
use Rattle.anb_branch_commands.specs.BranchJobs.{ArmsSend, ToldIs, known_in, misfit, misfit_among}

-- ---- what is told

fits_among : (count k : ℕ) → 1 ≤ k → k ≤ count → misfit_among count (Some k) ≡ None
fits_among count k low high = rw (le-leb 1 k low, le-leb k count high) refl

among_fits : (count k : ℕ) → misfit_among count (Some k) ≡ None → (1 ≤ k) × (k ≤ count)
among_fits count k none = by (nat_le 1 k) (nat_le k count) refl refl none where
  by : (a b : Bool) → nat_le 1 k ≡ a → nat_le k count ≡ b → refuse_if (not (a && b)) k ≡ None → (1 ≤ k) × (k ≤ count)
  by true true low high is = (leb-true 1 k low, leb-true k count high)
  by true false low high is = absurd (cc)
  by false b low high is = absurd (cc)

-- what a role may be told fits
no_misfit : (b : BranchedValue) (role : List ℕ) (told : Option ℕ) → IsTold b role told → misfit b role told ≡ None
no_misfit b role None other = ap (λ (chooses : Bool). if chooses then misfit_among (length b.arms) None else None) other
no_misfit b role (Some k) (is, low, high) =
    ap (λ (chooses : Bool). if chooses then misfit_among (length b.arms) (Some k) else Some k) is ∙ fits_among (length b.arms) k low high

-- and what fits it may be told
pub may_be_told : (b : BranchedValue) (role : List ℕ) (told : Option ℕ) → misfit b role told ≡ None → IsTold b role told
may_be_told b role None none = by (bytes_eq role b.chooser) refl none where
  by : (chooses : Bool) → bytes_eq role b.chooser ≡ chooses → (if chooses then misfit_among (length b.arms) None else None) ≡ None → bytes_eq role b.chooser ≡ false
  by true is never = absurd (cc)
  by false is none = is
may_be_told b role (Some k) none = by (bytes_eq role b.chooser) refl none where
  by : (chooses : Bool) → bytes_eq role b.chooser ≡ chooses → (if chooses then misfit_among (length b.arms) (Some k) else Some k) ≡ None
      → (bytes_eq role b.chooser ≡ true) × (1 ≤ k) × (k ≤ length b.arms)
  by true is none = let within = among_fits (length b.arms) k none in (is, within.0, within.1)
  by false is never = absurd (cc)

pub told_one : (b : BranchedValue) (role : List ℕ) (told : Option ℕ) → HasOneAnswer (ToldIs b role told)
told_one b role told (refused s) (refused t) (k, is, e) (n, js, d) =
    let same : Some k ≡ Some n = sym is ∙ js in
    let number : k ≡ n = cc in
    ap refused (e ∙ ap BadArm number ∙ sym d)
told_one b role told (refused s) (given u) (k, is, e) may = let never : Some k ≡ None = sym is ∙ no_misfit b role told may in absurd (cc)
told_one b role told (given u) (refused t) may (k, is, e) = let never : Some k ≡ None = sym is ∙ no_misfit b role told may in absurd (cc)
told_one b role told (given u) (given v) x y = refl

-- ---- sending

-- what holds of the first arms holds of each
held_before : (arms : List ProtocolValue) (count place : ℕ) (arm : ProtocolValue) → All IsSendable (take count arms) → place < count → slice_get arms place ≡ Some arm → IsSendable arm
held_before arms count place arm all before here =
    let within : place < length arms = slice_get_within arms place arm here in
    let is : get_or (take count arms) place arm ≡ arm = get_or-take count arms place arm before ∙ get_or_from_slice_get arms place arm arm here in
    subst IsSendable is (all place arm (omega (arith, within, before, length-take count arms)))

unsendable : (arm : ProtocolValue) (sender action : ℕ) → IsSendable arm → IsFirstUnsentOfAll arm sender action → ⊥
unsendable arm sender action sendable first = none_unsent arm sender action (sendable sender first.is_role) first.unsent

-- the first refusal of arms is one
record IsSameRefusal (n m action other : ℕ) (sender also : List ℕ) : Type 0 where
  arm_is : n ≡ m
  action_is : action ≡ other
  sender_is : sender ≡ also

same_refused : (arms : List ProtocolValue) (n m action other : ℕ) (sender also : List ℕ) → RefusesArms arms (CannotSend n action sender) → RefusesArms arms (CannotSend m other also)
    → IsSameRefusal n m action other sender also
same_refused arms n m action other sender also x y = elim (cases_order x.place y.place) [
  | inr (inl before) ↦ absurd (unsendable x.arm x.refused.1.0 action (held_before arms y.place x.place x.arm y.first before x.here) x.refused.1.2)
  | inl same ↦ at_one same
  | inr (inr before) ↦ absurd (unsendable y.arm y.refused.1.0 other (held_before arms x.place y.place y.arm x.first before y.here) y.refused.1.2)
] where
  at_one : x.place ≡ y.place → IsSameRefusal n m action other sender also
  at_one same =
      let arms_are : Some x.arm ≡ Some y.arm = sym x.here ∙ ap (λ (i : ℕ). slice_get arms i) same ∙ y.here in
      let arm_is : x.arm ≡ y.arm = cc in
      let mine : IsFirstUnsentOfAll y.arm x.refused.1.0 action = subst (λ (p : ProtocolValue). IsFirstUnsentOfAll p x.refused.1.0 action) arm_is x.refused.1.2 in
      let one = first_one y.arm x.refused.1.0 y.refused.1.0 action other mine y.refused.1.2 in
      let names : Some sender ≡ Some also = sym x.refused.1.1 ∙ ap (λ (p : ProtocolValue). slice_get p.roles x.refused.1.0) arm_is ∙ ap (λ (r : ℕ). slice_get y.arm.roles r) one.1 ∙ y.refused.1.1 in
      record { arm_is = x.is ∙ ap (λ (i : ℕ). i + 1) same ∙ sym y.is; action_is = one.0; sender_is = cc }

no_refused : (b : BranchedValue) (n action : ℕ) (sender : List ℕ) → All IsSendable b.arms → RefusesArms b.arms (CannotSend n action sender) → ⊥
no_refused b n action sender all x =
    unsendable x.arm x.refused.1.0 action (subst IsSendable (get_or_from_slice_get b.arms x.place x.arm x.arm x.here) (all x.place x.arm (slice_get_within b.arms x.place x.arm x.here))) x.refused.1.2

pub send_one : (b : BranchedValue) → HasOneAnswer (ArmsSend b)
send_one b (refused s) (refused t) (n, action, sender, x, is) (m, other, also, y, js) =
    let same = same_refused b.arms n m action other sender also x y in
    ap refused (is ∙ ap (λ (k : ℕ). ArmCannotSend k action sender) same.arm_is ∙ ap (λ (k : ℕ). ArmCannotSend m k sender) same.action_is
    ∙ ap (λ (k : List ℕ). ArmCannotSend m other k) same.sender_is ∙ sym js)
send_one b (refused s) (given u) (n, action, sender, x, is) all = absurd (no_refused b n action sender all x)
send_one b (given u) (refused t) all (n, action, sender, x, is) = absurd (no_refused b n action sender all x)
send_one b (given u) (given v) x y = refl

-- ---- what codes that fit take and draw

-- codes that fit draw where the role makes a name
pub draws_in : (arms : List ProtocolValue) (role : List ℕ) (codes : List CodeValue) → FitArms arms role codes
    → list_any draws codes ≡ list_any (λ (arm : ProtocolValue). makes_names arm (role_number arm.roles role)) arms
draws_in [] role [] fit = refl
draws_in [] role (c ∷ codes) fit = absurd fit
draws_in (p ∷ arms) role [] fit = absurd fit
draws_in (p ∷ arms) role (c ∷ codes) (fits, fit) =
    ap (λ (d : Bool). d || list_any draws codes) (draws_as_made p (role_number p.roles role) c fits)
    ∙ ap (λ (d : Bool). makes_names p (role_number p.roles role) || d) (draws_in arms role codes fit)

-- what holds of each code that fits an arm holds of each code
each_code : (P : CodeValue → Type 0) (arms : List ProtocolValue) (role : List ℕ) (codes : List CodeValue) → FitArms arms role codes
    → ((i : ℕ) (arm : ProtocolValue) (code : CodeValue) → slice_get arms i ≡ Some arm → FitsRole arm (role_number arm.roles role) code → P code) → AllByRecursion P codes
each_code P [] role [] fit holds = tt
each_code P [] role (c ∷ codes) fit holds = absurd fit
each_code P (p ∷ arms) role [] fit holds = absurd fit
each_code P (p ∷ arms) role (c ∷ codes) (fits, fit) holds = (holds 0 p c refl fits, each_code P arms role codes fit (λ i arm code at is. holds (suc i) arm code at is))

-- the role's number in arm 1
number_first : (role : List ℕ) (one : ProtocolValue) (name : List ℕ) (place : Option ℕ) (number : ℕ) → name ≡ role
    → place ≡ position_from (λ y. bytes_eq y name) 0 one.roles → number ≡ unwrap_or place 0 → number ≡ role_number one.roles role
number_first role one name place number named at is =
    is ∙ ap (λ (o : Option ℕ). unwrap_or o 0) at ∙ ap (λ (x : List ℕ). role_number one.roles x) named

pub numbered_first : (b : BranchedValue) (role : List ℕ) (one : ProtocolValue) (name : List ℕ) (place : Option ℕ) (number : ℕ) → slice_get b.arms 0 ≡ Some one → among (roles_in b) role ≡ true
    → name ≡ role → place ≡ position_from (λ y. bytes_eq y name) 0 one.roles → number ≡ unwrap_or place 0 → number < length one.roles
numbered_first b role one name place number first is_role named at is =
    let roles : roles_in b ≡ one.roles = ap (λ (o : Option ProtocolValue). option_map_or (λ (p : ProtocolValue). p.roles) o []) first in
    let within = role_below one.roles role (subst (λ (names : List (List ℕ)). among names role ≡ true) roles is_role) in
    subst (λ (n : ℕ). n < length one.roles) (sym (number_first role one name place number named at is)) within

-- what it knows there
pub known_first : (b : BranchedValue) (role : List ℕ) (one : ProtocolValue) (name : List ℕ) (place : Option ℕ) (number : ℕ) → slice_get b.arms 0 ≡ Some one
    → name ≡ role → place ≡ position_from (λ y. bytes_eq y name) 0 one.roles → number ≡ unwrap_or place 0 → known_texts one number ≡ known_in b role
known_first b role one name place number first named at is =
    ap (known_texts one) (number_first role one name place number named at is)
    ∙ sym (ap (λ (o : Option ProtocolValue). option_map_or (λ (p : ProtocolValue). known_texts p (role_number p.roles role)) o []) first)

-- what the role knows has the texts of arm 1 in each arm
pub known_at : ArmsKnowAlike → (b : BranchedValue) (role : List ℕ) → IsLawful b → among (roles_in b) role ≡ true → (place : ℕ) (arm : ProtocolValue) → slice_get b.arms place ≡ Some arm
    → known_in b role ≡ known_texts arm (role_number arm.roles role)
known_at alike b role lawful is_role place arm at =
    let f = first_arm b role lawful is_role in
    ap (λ (o : Option ProtocolValue). option_map_or (λ (p : ProtocolValue). known_texts p (role_number p.roles role)) o []) f.at ∙ alike b role lawful is_role 0 place f.one arm f.at at

-- values for it are values for the takes of each code
pub takes_all : ArmsKnowAlike → (b : BranchedValue) (role : List ℕ) (codes : List CodeValue) (initial : List (List ℕ)) → IsLawful b → among (roles_in b) role ≡ true → FitArms b.arms role codes
    → length initial ≡ length (known_in b role) → TakeAll codes initial
takes_all alike b role codes initial lawful is_role fit count =
    All-from_recursion (λ (code : CodeValue). length initial ≡ length (take_texts code.instrs)) codes
    (each_code (λ (code : CodeValue). length initial ≡ length (take_texts code.instrs)) b.arms role codes fit (λ i arm code at fits.
    count ∙ ap length (known_at alike b role lawful is_role i arm at ∙ sym fits.texts)))
