-- Which role sends an action, and that all can be sent where no action can't.
use Rattle.std.proofs.Common.{◌≡◌, ℕ, ◌+◌, ◌≤◌, List, [], ◌∷◌, ◌++◌, length, map, Bool, true, false, refl, sym, ap, ◌∙◌, subst, arith, ◌⊎◌, inl, inr, append_assoc, length-append}
use Rattle.std.specs.Prelude.{◌==◌, cond}
use Rattle.std.proofs.lemmas.Bool.{eqb-true, cases_order}
use Rattle.std.proofs.lemmas.Grind.{flat_map-append}
use Rattle.std.proofs.lemmas.List.{append-nil}
use Rattle.anb_term.specs.declared.term.Op.{Op}
use Rattle.anb_term.specs.Tree.{Tree, leaf}
use Rattle.anb_term.specs.Agree.{HasRecipe}
use Rattle.anb_algebra.specs.ByteMeaning.{has_operator}
use Rattle.anb_plays.specs.Plans.{known, CanSend, Sendable}
use Rattle.anb_protocol.specs.Choices.{each_after}
use Rattle.anb_protocol.specs.Plans.{PlanEvent, to_know, to_make, to_send, to_receive, events_at, own_events, made, plan_of}
use Rattle.anb_protocol.specs.Plays.{event_of, events_of}
use Rattle.anb_protocol.specs.Protocols.{ActionValue, ProtocolValue}
use Rattle.anb_protocol.specs.Texts.{known_by}
use Rattle.anb_compile.specs.Unsent.{IsUnsent, IsFirstUnsentOfAll, label_of, labels_of}
use Rattle.anb_compile.proofs.Protocols.{knows_labels}

-- ---- who sends an action

-- some event sends the action with this number
abbrev Sends : ℕ → List PlanEvent → Type 0
Sends n [] = ⊥
Sends n (to_know t ∷ es) = Sends n es
Sends n (to_make t ∷ es) = Sends n es
Sends n (to_send i t ∷ es) = (i ≡ n) ⊎ Sends n es
Sends n (to_receive i t ∷ es) = Sends n es

sends_here : (n : ℕ) (t : Tree) (before after : List PlanEvent) → Sends n (before ++ (to_send n t ∷ after))
sends_here n t [] after = inl refl
sends_here n t (to_know u ∷ before) after = sends_here n t before after
sends_here n t (to_make u ∷ before) after = sends_here n t before after
sends_here n t (to_send i u ∷ before) after = inr (sends_here n t before after)
sends_here n t (to_receive i u ∷ before) after = sends_here n t before after

sends_either : (n : ℕ) (xs ys : List PlanEvent) → Sends n (xs ++ ys) → Sends n xs ⊎ Sends n ys
sends_either n [] ys s = inr s
sends_either n (to_know t ∷ xs) ys s = sends_either n xs ys s
sends_either n (to_make t ∷ xs) ys s = sends_either n xs ys s
sends_either n (to_send i t ∷ xs) ys (inl is) = inl (inl is)
sends_either n (to_send i t ∷ xs) ys (inr s) = elim (sends_either n xs ys s) [ inl a ↦ inl (inr a) | inr b ↦ inr b ]
sends_either n (to_receive i t ∷ xs) ys s = sends_either n xs ys s

knows_send_none : (n : ℕ) (ts : List Tree) → Sends n (map to_know ts) → ⊥
knows_send_none n [] s = s
knows_send_none n (t ∷ ts) s = knows_send_none n ts s

makes_send_none : (n : ℕ) (xs : List ℕ) → Sends n (map (λ x. to_make (leaf x)) xs) → ⊥
makes_send_none n [] s = s
makes_send_none n (x ∷ xs) s = makes_send_none n xs s

-- actions are numbered from k: the action with number n is from this role
abbrev IsFrom : List ActionValue → ℕ → ℕ → ℕ → Type 0
IsFrom [] k n role = ⊥
IsFrom (a ∷ actions) k n role = ((k ≡ n) × (a.from ≡ role)) ⊎ IsFrom actions (k + 1) n role

is_from_later : (actions : List ActionValue) (k n role : ℕ) → IsFrom actions k n role → k ≤ n
is_from_later [] k n role never = absurd never
is_from_later (a ∷ actions) k n role (inl (is, from)) = omega arith
is_from_later (a ∷ actions) k n role (inr more) = let later = is_from_later actions (k + 1) n role more in omega arith

is_from_one : (actions : List ActionValue) (k n role other : ℕ) → IsFrom actions k n role → IsFrom actions k n other → role ≡ other
is_from_one [] k n role other never _ = absurd never
is_from_one (a ∷ actions) k n role other (inl (is, from)) (inl (js, also)) = sym from ∙ also
is_from_one (a ∷ actions) k n role other (inl (is, from)) (inr more) = let later = is_from_later actions (k + 1) n other more in absurd (omega arith)
is_from_one (a ∷ actions) k n role other (inr more) (inl (is, from)) = let later = is_from_later actions (k + 1) n role more in absurd (omega arith)
is_from_one (a ∷ actions) k n role other (inr one) (inr two) = is_from_one actions (k + 1) n role other one two

own_by : (b d : Bool) (role k n : ℕ) (names : List ℕ) (a : ActionValue) → (b ≡ true → a.from ≡ role)
    → Sends n (cond b (map (λ x. to_make (leaf x)) names ++ to_send k a.message ∷ []) (cond d (to_receive k a.message ∷ []) [])) → (k ≡ n) × (a.from ≡ role)
own_by true d role k n names a from s =
    elim (sends_either n (map (λ x. to_make (leaf x)) names) (to_send k a.message ∷ []) s) [
      | inl makes ↦ absurd (makes_send_none n names makes)
      | inr sends ↦ elim sends [ inl is ↦ (is, from refl) | inr never ↦ absurd never ]
    ]
own_by false true role k n names a from s = absurd s
own_by false false role k n names a from s = absurd s

own_sends : (role k n : ℕ) (names : List ℕ) (a : ActionValue) → Sends n (own_events role k names a) → (k ≡ n) × (a.from ≡ role)
own_sends role k n names a s = own_by (a.from == role) (a.to == role) role k n names a (eqb-true a.from role) s

sends_from : (p : ProtocolValue) (role n : ℕ) (before actions : List ActionValue) → Sends n (each_after (events_at p role) before actions) → IsFrom actions (length before + 1) n role
sends_from p role n before [] s = s
sends_from p role n before (a ∷ actions) s =
    elim (sends_either n (events_at p role before a) (each_after (events_at p role) (before ++ a ∷ []) actions) s) [
      | inl here ↦ inl (own_sends role (length before + 1) n (made p before a.message) a here)
      | inr there ↦ let count : length (before ++ a ∷ []) + 1 ≡ length before + 1 + 1 = ap (λ k. k + 1) (length-append before (a ∷ [])) in
          inr (subst (λ k. IsFrom actions k n role) count (sends_from p role n (before ++ a ∷ []) actions there))
    ]

-- the plan is what is known, and then the rest
abbrev rest_of : ProtocolValue → ℕ → List PlanEvent
rest_of p role = each_after (events_at p role) [] p.actions

plan_parts : (p : ProtocolValue) (role : ℕ) → plan_of p role ≡ map to_know (known_by p role) ++ rest_of p role
unfolding plan_of
plan_parts p role = refl

unsent_from : (p : ProtocolValue) (role n : ℕ) → IsUnsent p role n → IsFrom p.actions 1 n role
unsent_from p role n unsent =
    let sends : Sends n (plan_of p role) = rw unsent.plan (sends_here n unsent.message unsent.before unsent.after) in
    let parted : Sends n (map to_know (known_by p role) ++ rest_of p role) = rw (plan_parts p role) at sends in
    elim (sends_either n (map to_know (known_by p role)) (rest_of p role) parted) [
      | inl knows ↦ absurd (knows_send_none n (known_by p role) knows)
      | inr sent ↦ sends_from p role n [] p.actions sent
    ]

-- an action that can't be sent has one sender
pub one_sender : (p : ProtocolValue) (role other n : ℕ) → IsUnsent p role n → IsUnsent p other n → role ≡ other
one_sender p role other n one two = is_from_one p.actions 1 n role other (unsent_from p role n one) (unsent_from p other n two)

-- the first action that can't be sent is one
pub first_one : (p : ProtocolValue) (role other m n : ℕ) → IsFirstUnsentOfAll p role m → IsFirstUnsentOfAll p other n → (m ≡ n) × (role ≡ other)
first_one p role other m n one two = elim (cases_order m n) [
  | inl same ↦ (same, one_sender p role other n (subst (λ k. IsUnsent p role k) same one.unsent) two.unsent)
  | inr apart ↦ elim apart [
    | inl less ↦ absurd (two.first role m one.is_role less one.unsent)
    | inr more ↦ absurd (one.first other n two.is_role more two.unsent)
  ]
]

-- ---- what can be sent

abbrev NoneKnown : List PlanEvent → Type 0
NoneKnown [] = Unit {0}
NoneKnown (to_know t ∷ es) = ⊥
NoneKnown (to_make t ∷ es) = NoneKnown es
NoneKnown (to_send i t ∷ es) = NoneKnown es
NoneKnown (to_receive i t ∷ es) = NoneKnown es

none_known_both : (xs ys : List PlanEvent) → NoneKnown xs → NoneKnown ys → NoneKnown (xs ++ ys)
none_known_both [] ys x y = y
none_known_both (to_know t ∷ xs) ys x y = x
none_known_both (to_make t ∷ xs) ys x y = none_known_both xs ys x y
none_known_both (to_send i t ∷ xs) ys x y = none_known_both xs ys x y
none_known_both (to_receive i t ∷ xs) ys x y = none_known_both xs ys x y

makes_know_none : (xs : List ℕ) → NoneKnown (map (λ x. to_make (leaf x)) xs)
makes_know_none [] = tt
makes_know_none (x ∷ xs) = makes_know_none xs

own_know_none : (b d : Bool) (k : ℕ) (names : List ℕ) (a : ActionValue)
    → NoneKnown (cond b (map (λ x. to_make (leaf x)) names ++ to_send k a.message ∷ []) (cond d (to_receive k a.message ∷ []) []))
own_know_none true d k names a = none_known_both (map (λ x. to_make (leaf x)) names) (to_send k a.message ∷ []) (makes_know_none names) tt
own_know_none false true k names a = tt
own_know_none false false k names a = tt

rest_knows_none : (p : ProtocolValue) (role : ℕ) (before actions : List ActionValue) → NoneKnown (each_after (events_at p role) before actions)
rest_knows_none p role before [] = tt
rest_knows_none p role before (a ∷ actions) =
    none_known_both (events_at p role before a) (each_after (events_at p role) (before ++ a ∷ []) actions)
    (own_know_none (a.from == role) (a.to == role) (length before + 1) (made p before a.message) a) (rest_knows_none p role (before ++ a ∷ []) actions)

-- a send lies behind what is known
record Behind (ts : List Tree) (es before : List PlanEvent) (n : ℕ) (message : Tree) (after : List PlanEvent) : Type 0 where
  pub between : List PlanEvent
  pub front : before ≡ map to_know ts ++ between
  pub back : es ≡ between ++ (to_send n message ∷ after)

behind : (ts : List Tree) (es before : List PlanEvent) (n : ℕ) (message : Tree) (after : List PlanEvent)
    → map to_know ts ++ es ≡ before ++ (to_send n message ∷ after) → Behind ts es before n message after
behind [] es before n message after is = record { between = before; front = refl; back = is }
behind (t ∷ ts) es [] n message after is = let never : to_know t ≡ to_send n message = cc in absurd (cc)
behind (t ∷ ts) es (e ∷ before) n message after is =
    let same : e ≡ to_know t = cc in
    let more = behind ts es before n message after (let rest : map to_know ts ++ es ≡ before ++ (to_send n message ∷ after) = cc in rest) in
    record { between = more.between; front = ap (λ x. x ∷ before) same ∙ ap (λ l. to_know t ∷ l) more.front; back = more.back }

module _ (has : Op → Bool) where
  knows_can_send : (frame : List Tree) (ts : List Tree) (es : List PlanEvent) → CanSend has frame (map event_of (map to_know ts ++ es)) → CanSend has frame (map event_of es)
  knows_can_send frame [] es can = can
  knows_can_send frame (t ∷ ts) es can = knows_can_send frame ts es can

  rest_can_send : (frame : List Tree) (before : List PlanEvent) (n : ℕ) (message : Tree) (after : List PlanEvent) → NoneKnown (before ++ (to_send n message ∷ after))
      → CanSend has frame (map event_of (before ++ (to_send n message ∷ after))) → HasRecipe has (frame ++ labels_of before) message
  rest_can_send frame [] n message after none can = subst (λ f. HasRecipe has f message) (sym (append-nil frame)) can.0
  rest_can_send frame (to_know t ∷ before) n message after none can = absurd none
  rest_can_send frame (to_make t ∷ before) n message after none can =
      subst (λ f. HasRecipe has f message) (append_assoc frame (t ∷ []) (labels_of before)) (rest_can_send (frame ++ t ∷ []) before n message after none can)
  rest_can_send frame (to_send i t ∷ before) n message after none can = rest_can_send frame before n message after none can.1
  rest_can_send frame (to_receive i t ∷ before) n message after none can =
      subst (λ f. HasRecipe has f message) (append_assoc frame (t ∷ []) (labels_of before)) (rest_can_send (frame ++ t ∷ []) before n message after none can)

none_known : (es : List PlanEvent) → NoneKnown es → known (map event_of es) ≡ []
none_known [] none = refl
none_known (to_know t ∷ es) none = absurd none
none_known (to_make t ∷ es) none = none_known es none
none_known (to_send i t ∷ es) none = none_known es none
none_known (to_receive i t ∷ es) none = none_known es none

known_first : (ts : List Tree) (es : List PlanEvent) → NoneKnown es → known (map event_of (map to_know ts ++ es)) ≡ ts
known_first [] es none = none_known es none
known_first (t ∷ ts) es none = ap (λ l. t ∷ l) (known_first ts es none)

-- where a role can send all, no action of it is unsent
pub none_unsent : (p : ProtocolValue) (role n : ℕ) → Sendable (has_operator p.formats) (events_of p role) → IsUnsent p role n → ⊥
none_unsent p role n sendable unsent =
    let has = has_operator p.formats in
    let ts = known_by p role in
    let b = behind ts (rest_of p role) unsent.before n unsent.message unsent.after (sym (plan_parts p role) ∙ unsent.plan) in
    let none : NoneKnown (rest_of p role) = rest_knows_none p role [] p.actions in
    let can : CanSend has ts (map event_of (map to_know ts ++ rest_of p role)) =
    subst (λ f. CanSend has f (map event_of (map to_know ts ++ rest_of p role))) (known_first ts (rest_of p role) none)
    (subst (λ es. Sendable has (map event_of es)) (plan_parts p role) sendable) in
    let rest : CanSend has ts (map event_of (b.between ++ (to_send n unsent.message ∷ unsent.after))) = subst (λ es. CanSend has ts (map event_of es)) b.back (knows_can_send has ts ts (rest_of p role) can) in
    let recipe : HasRecipe has (ts ++ labels_of b.between) unsent.message = rest_can_send has ts b.between n unsent.message unsent.after (subst NoneKnown b.back none) rest in
    unsent.no_recipe (subst (λ f. HasRecipe has f unsent.message)
    (sym (ap labels_of b.front ∙ flat_map-append label_of (map to_know ts) b.between ∙ ap (λ l. l ++ labels_of b.between) (knows_labels ts))) recipe)
