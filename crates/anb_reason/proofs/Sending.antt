-- A plan sends an action once, so what lies before it and its message are one.
use Rattle.std.proofs.Common.{◌≡◌, ℕ, ◌+◌, ◌≤◌, ◌<◌, List, [], ◌∷◌, ◌++◌, length, map, Bool, true, false, refl, sym, ap, ◌∙◌, subst, arith, inl, inr, length-append}
use Rattle.std.specs.Prelude.{◌==◌, cond}
use Rattle.std.proofs.lemmas.Bool.{eqb-true, eq-eqb, cases_order}
use Rattle.anb_term.specs.Tree.{Tree, leaf}
use Rattle.anb_protocol.specs.Choices.{each_after}
use Rattle.anb_protocol.specs.Plans.{PlanEvent, to_know, to_make, to_send, to_receive, events_at, made, plan_of}
use Rattle.anb_protocol.specs.Protocols.{ActionValue, ProtocolValue}
use Rattle.anb_protocol.specs.Texts.{known_by}

-- ---- how often an action is sent

abbrev pub one_if : Bool → ℕ
one_if true = 1
one_if false = 0

abbrev pub times_sent : ℕ → List PlanEvent → ℕ
times_sent n [] = 0
times_sent n (to_know t ∷ es) = times_sent n es
times_sent n (to_make t ∷ es) = times_sent n es
times_sent n (to_send i t ∷ es) = one_if (i == n) + times_sent n es
times_sent n (to_receive i t ∷ es) = times_sent n es

same_number : (n : ℕ) → one_if (n == n) ≡ 1
same_number n = ap one_if (eq-eqb n n refl)

at_most_one : (b : Bool) → one_if b ≤ 1
at_most_one true = omega arith
at_most_one false = omega arith

other_number : (i n : ℕ) (b : Bool) → (i == n) ≡ b → (i ≡ n → ⊥) → one_if b ≡ 0
other_number i n true is apart = absurd (apart (eqb-true i n is))
other_number i n false is apart = refl

times-append : (n : ℕ) (xs ys : List PlanEvent) → times_sent n (xs ++ ys) ≡ times_sent n xs + times_sent n ys
times-append n [] ys = omega arith
times-append n (to_know t ∷ xs) ys = times-append n xs ys
times-append n (to_make t ∷ xs) ys = times-append n xs ys
times-append n (to_send i t ∷ xs) ys = let rest = times-append n xs ys in omega (arith, rest)
times-append n (to_receive i t ∷ xs) ys = times-append n xs ys

knows_none : (n : ℕ) (ts : List Tree) → times_sent n (map to_know ts) ≡ 0
knows_none n [] = refl
knows_none n (t ∷ ts) = knows_none n ts

makes_none : (n : ℕ) (xs : List ℕ) → times_sent n (map (λ x. to_make (leaf x)) xs) ≡ 0
makes_none n [] = refl
makes_none n (x ∷ xs) = makes_none n xs

-- an action sends its own number, once at most
own_by : (b d : Bool) (k n : ℕ) (names : List ℕ) (a : ActionValue)
    → times_sent n (cond b (map (λ x. to_make (leaf x)) names ++ to_send k a.message ∷ []) (cond d (to_receive k a.message ∷ []) [])) ≤ one_if (k == n)
own_by true d k n names a =
    let parts = times-append n (map (λ x. to_make (leaf x)) names) (to_send k a.message ∷ []) in
    let none = makes_none n names in
    omega (arith, parts, none)
own_by false true k n names a = omega arith
own_by false false k n names a = omega arith

own_times : (p : ProtocolValue) (role n : ℕ) (before : List ActionValue) (a : ActionValue) → times_sent n (events_at p role before a) ≤ one_if (length before + 1 == n)
own_times p role n before a = own_by (a.from == role) (a.to == role) (length before + 1) n (made p before a.message) a

module _ (p : ProtocolValue) (role n : ℕ) where
  abbrev rest : List ActionValue → List ActionValue → List PlanEvent
  rest before actions = each_after (events_at p role) before actions

  -- a smaller number isn't sent by later actions
  sent_none : (before actions : List ActionValue) → n < length before + 1 → times_sent n (rest before actions) ≡ 0
  sent_none before [] less = refl
  sent_none before (a ∷ actions) less =
      let count = length-append before (a ∷ []) in
      let parts = times-append n (events_at p role before a) (rest (before ++ a ∷ []) actions) in
      let own = own_times p role n before a in
      let apart = other_number (length before + 1) n (length before + 1 == n) refl (λ same. absurd (omega (arith, same, less))) in
      let later = sent_none (before ++ a ∷ []) actions (omega (arith, count, less)) in
      omega (arith, parts, own, apart, later)

  sent_once : (before actions : List ActionValue) → times_sent n (rest before actions) ≤ 1
  sent_once before [] = omega arith
  sent_once before (a ∷ actions) = elim (cases_order (length before + 1) n) [
    | inl same ↦
        let count = length-append before (a ∷ []) in
        let parts = times-append n (events_at p role before a) (rest (before ++ a ∷ []) actions) in
        let own = own_times p role n before a in
        let one = at_most_one (length before + 1 == n) in
        let later = sent_none (before ++ a ∷ []) actions (omega (arith, count, same)) in
        omega (arith, parts, own, one, later)
    | inr other ↦
        let parts = times-append n (events_at p role before a) (rest (before ++ a ∷ []) actions) in
        let own = own_times p role n before a in
        let apart = other_number (length before + 1) n (length before + 1 == n) refl (λ same. elim other [ inl less ↦ absurd (omega (arith, same, less)) | inr more ↦ absurd (omega (arith, same, more)) ]) in
        let later = sent_once (before ++ a ∷ []) actions in
        omega (arith, parts, own, apart, later)
  ]

plan_parts : (p : ProtocolValue) (role : ℕ) → plan_of p role ≡ map to_know (known_by p role) ++ each_after (events_at p role) [] p.actions
unfolding plan_of
plan_parts p role = refl

plan_sends_once : (p : ProtocolValue) (role n : ℕ) → times_sent n (plan_of p role) ≤ 1
plan_sends_once p role n =
    let parts : times_sent n (plan_of p role) ≡ times_sent n (map to_know (known_by p role)) + times_sent n (each_after (events_at p role) [] p.actions) =
    ap (times_sent n) (plan_parts p role) ∙ times-append n (map to_know (known_by p role)) (each_after (events_at p role) [] p.actions) in
    let none = knows_none n (known_by p role) in
    let once = sent_once p role n [] p.actions in
    omega (arith, parts, none, once)

-- ---- so it stands at one place

sent_here : (n : ℕ) (t : Tree) (before after : List PlanEvent) → 1 ≤ times_sent n (before ++ (to_send n t ∷ after))
sent_here n t [] after = let one = same_number n in omega (arith, one)
sent_here n t (to_know u ∷ before) after = sent_here n t before after
sent_here n t (to_make u ∷ before) after = sent_here n t before after
sent_here n t (to_send i u ∷ before) after = let more = sent_here n t before after in omega (arith, more)
sent_here n t (to_receive i u ∷ before) after = sent_here n t before after

later_less : (n : ℕ) (e : PlanEvent) (es : List PlanEvent) → times_sent n es ≤ times_sent n (e ∷ es)
later_less n (to_know t) es = omega arith
later_less n (to_make t) es = omega arith
later_less n (to_send i t) es = omega arith
later_less n (to_receive i t) es = omega arith

message_once : (n : ℕ) (t u : Tree) → to_send n t ≡ to_send n u → t ≡ u
message_once n t u same = cc

head_once : (d e : PlanEvent) (ds es : List PlanEvent) → d ∷ ds ≡ e ∷ es → (d ≡ e) × (ds ≡ es)
head_once d e ds es same = (cc, cc)

-- behind a send of n lies no other
none_behind : (n : ℕ) (t u : Tree) (later before after : List PlanEvent) → times_sent n (to_send n t ∷ later) ≤ 1 → later ≡ before ++ (to_send n u ∷ after) → ⊥
none_behind n t u later before after once is =
    let one = same_number n in
    let here : 1 ≤ times_sent n later = subst (λ l. 1 ≤ times_sent n l) (sym is) (sent_here n u before after) in
    omega (arith, once, one, here)

same_place : (n : ℕ) (t u : Tree) (before after first last : List PlanEvent) → times_sent n (before ++ (to_send n t ∷ after)) ≤ 1
    → before ++ (to_send n t ∷ after) ≡ first ++ (to_send n u ∷ last) → (before ≡ first) × (t ≡ u)
same_place n t u [] after [] last once is = (refl, message_once n t u (head_once (to_send n t) (to_send n u) after last is).0)
same_place n t u [] after (f ∷ first) last once is =
    absurd (none_behind n t u after first last once (head_once (to_send n t) f after (first ++ (to_send n u ∷ last)) is).1)
same_place n t u (e ∷ before) after [] last once is =
    let parts = head_once e (to_send n u) (before ++ (to_send n t ∷ after)) last is in
    absurd (none_behind n u t last before after (subst (λ l. times_sent n l ≤ 1) is once) (sym parts.1))
same_place n t u (e ∷ before) after (f ∷ first) last once is =
    let parts = head_once e f (before ++ (to_send n t ∷ after)) (first ++ (to_send n u ∷ last)) is in
    let less = later_less n e (before ++ (to_send n t ∷ after)) in
    let more = same_place n t u before after first last (omega (arith, once, less)) parts.1 in
    (ap (λ x. x ∷ before) parts.0 ∙ ap (λ l. f ∷ l) more.0, more.1)

-- a plan has one message for an action, and one list of events before it
pub sends_at_one : (p : ProtocolValue) (role n : ℕ) (t u : Tree) (before after first last : List PlanEvent) → plan_of p role ≡ before ++ (to_send n t ∷ after)
    → plan_of p role ≡ first ++ (to_send n u ∷ last) → (before ≡ first) × (t ≡ u)
sends_at_one p role n t u before after first last is also =
    same_place n t u before after first last (subst (λ l. times_sent n l ≤ 1) is (plan_sends_once p role n)) (sym is ∙ also)
