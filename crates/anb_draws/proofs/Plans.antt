-- The plan of who sees a role's first messages and then says names is one that can be compiled.
use Rattle.std.proofs.Common.{◌≡◌, ℕ, zero, suc, ◌+◌, ◌≤◌, List, [], ◌∷◌, ◌++◌, length, map, Bool, refl, sym, ap, ◌∙◌, subst, arith}
use Rattle.std.specs.List.{AllByRecursion}
use Rattle.anb_term.specs.declared.term.Op.{Op}
use Rattle.anb_term.specs.Tree.{Tree, leaf, tree_size, nodes, trees_of, AreFormed, IsFormed}
use Rattle.anb_term.specs.Agree.{HasRecipe}
use Rattle.anb_algebra.specs.ByteMeaning.{has_operator}
use Rattle.anb_close.proofs.Growing.{nodes_append}
use Rattle.anb_plays.specs.Plans.{Event, know, send, recv, known}
use Rattle.anb_plays.specs.Honest.{heard}
use Rattle.anb_protocol.specs.Choices.{each_after}
use Rattle.anb_protocol.specs.Protocols.{ActionValue, ProtocolValue}
use Rattle.anb_protocol.specs.Texts.{IsTermOf, known_by, known_terms}
use Rattle.anb_protocol.specs.Plans.{PlanEvent, to_know, to_make, to_send, to_receive, plan_of, messages, made, events_at, term_in}
use Rattle.anb_protocol.specs.Plays.{event_of}
use Rattle.anb_protocol.specs.Laws.{HoldsOf}
use Rattle.anb_compile.specs.Unsent.{label_of, labels_of}
use Rattle.anb_compile.specs.Emitting.{known_in, KnowsLead, IsBlocked, IsPlan, context_of}
use Rattle.anb_compile.specs.Verifying.{IsNarrow}
use Rattle.anb_compile.proofs.Events.{known_events, labels_append, labels_have}
use Rattle.anb_compile.proofs.Protocols.{known_of_plan, nodes_known, own_cases, plan_is}
use Rattle.anb_judge.specs.Observed.{observed}
use Rattle.anb_judge.specs.Verdicts.{up_to}
use Rattle.anb_draws.specs.Telling.{IsHad, asks, frame_by, seen_by, telling}

-- ---- its parts

asks_unknown : (names : List ℕ) → known_in (map asks names) ≡ []
asks_unknown [] = refl
asks_unknown (a ∷ names) = asks_unknown names

asks_lead : (names : List ℕ) → KnowsLead (map asks names)
asks_lead [] = tt
asks_lead (a ∷ names) = asks_unknown names

asks_labels : (names : List ℕ) → labels_of (map asks names) ≡ []
asks_labels [] = refl
asks_labels (a ∷ names) = asks_labels names

asks_each : (Q : Tree → Type 0) → ((a : ℕ) → Q (leaf a)) → (names : List ℕ) → AllByRecursion (λ e. Q (term_in e)) (map asks names)
asks_each Q name [] = tt
asks_each Q name (a ∷ names) = (name a, asks_each Q name names)

-- nothing is known behind what is known
tells_unknown : (n : ℕ) (names : List ℕ) (es : List PlanEvent) → known_in es ≡ [] → known_in (telling n names es) ≡ []
tells_unknown n names [] none = asks_unknown names
tells_unknown n names (to_know t ∷ es) none = cc
tells_unknown n names (to_make t ∷ es) none = tells_unknown n names es none
tells_unknown zero names (to_send i t ∷ es) none = asks_unknown names
tells_unknown zero names (to_receive i t ∷ es) none = asks_unknown names
tells_unknown (suc n) names (to_send i t ∷ es) none = tells_unknown n names es none
tells_unknown (suc n) names (to_receive i t ∷ es) none = tells_unknown n names es none

nothing_leads : (es : List PlanEvent) → known_in es ≡ [] → KnowsLead es
nothing_leads [] none = tt
nothing_leads (to_know t ∷ es) none = cc
nothing_leads (to_make t ∷ es) none = none
nothing_leads (to_send i t ∷ es) none = none
nothing_leads (to_receive i t ∷ es) none = none

tells_lead : (n : ℕ) (names : List ℕ) (es : List PlanEvent) → KnowsLead es → KnowsLead (telling n names es)
tells_lead n names [] lead = asks_lead names
tells_lead n names (to_know t ∷ es) lead = tells_lead n names es lead
tells_lead n names (to_make t ∷ es) lead = nothing_leads (telling n names es) (tells_unknown n names es lead)
tells_lead zero names (to_send i t ∷ es) lead = asks_lead names
tells_lead zero names (to_receive i t ∷ es) lead = asks_lead names
tells_lead (suc n) names (to_send i t ∷ es) lead = tells_unknown n names es lead
tells_lead (suc n) names (to_receive i t ∷ es) lead = tells_unknown n names es lead

-- what holds of the terms of all events
tells_each : (Q : Tree → Type 0) → ((a : ℕ) → Q (leaf a)) → (n : ℕ) (names : List ℕ) (es : List PlanEvent) → AllByRecursion (λ e. Q (term_in e)) es → AllByRecursion (λ e. Q (term_in e)) (telling n names es)
tells_each Q name n names [] all = asks_each Q name names
tells_each Q name n names (to_know t ∷ es) all = (all.0, tells_each Q name n names es all.1)
tells_each Q name n names (to_make t ∷ es) all = tells_each Q name n names es all.1
tells_each Q name zero names (to_send i t ∷ es) all = asks_each Q name names
tells_each Q name zero names (to_receive i t ∷ es) all = asks_each Q name names
tells_each Q name (suc n) names (to_send i t ∷ es) all = (all.0, tells_each Q name n names es all.1)
tells_each Q name (suc n) names (to_receive i t ∷ es) all = (all.0, tells_each Q name n names es all.1)

-- ---- its labels have few nodes

-- behind more events there are no more nodes than so many
abbrev Within : List PlanEvent → ℕ → Type 0
Within es most = (n : ℕ) → nodes (labels_of (seen_by n es)) ≤ most

makes_within : (names : List ℕ) (i : ℕ) (t : Tree) (rest : List PlanEvent) (most : ℕ) → Within rest most → Within ((map (λ x. to_make (leaf x)) names ++ to_send i t ∷ []) ++ rest) (tree_size t + most)
makes_within [] i t rest most later zero = omega arith
makes_within [] i t rest most later (suc n) = omega (arith, later n)
makes_within (x ∷ names) i t rest most later n = makes_within names i t rest most later n

hears_within : (i : ℕ) (t : Tree) (rest : List PlanEvent) (most : ℕ) → Within rest most → Within (to_receive i t ∷ rest) (tree_size t + most)
hears_within i t rest most later zero = omega arith
hears_within i t rest most later (suc n) = omega (arith, later n)

skips_within : (t : Tree) (rest : List PlanEvent) (most : ℕ) → Within rest most → Within rest (tree_size t + most)
skips_within t rest most later n = omega (arith, later n)

each_within : (p : ProtocolValue) (role : ℕ) (before actions : List ActionValue) → Within (each_after (events_at p role) before actions) (nodes (messages actions))
each_within p role before [] n = omega arith
each_within p role before (a ∷ actions) n =
    let rest = each_after (events_at p role) (before ++ a ∷ []) actions in
    let most = nodes (messages actions) in
    let later = each_within p role (before ++ a ∷ []) actions in
    let i = length before + 1 in
    let names = made p before a.message in
    own_cases (λ l. Within (l ++ rest) (tree_size a.message + most)) role i names a
    (makes_within names i a.message rest most later) (hears_within i a.message rest most later) (skips_within a.message rest most later) n

knows_within : (ts : List Tree) (rest : List PlanEvent) (most : ℕ) → Within rest most → Within (map to_know ts ++ rest) (nodes ts + most)
knows_within [] rest most later n = omega (arith, later n)
knows_within (t ∷ ts) rest most later n = omega (arith, knows_within ts rest most later n)

-- what is heard by then
pub few_by : (p : ProtocolValue) (role : ℕ) → HoldsOf p → Within (plan_of p role) 65536
unfolding plan_of
few_by p role holds n =
    let all = knows_within (known_by p role) (each_after (events_at p role) [] p.actions) (nodes (messages p.actions)) (each_within p role [] p.actions) n in
    let most = holds.nodes in
    omega (arith, all, most, nodes_append (known_terms p) (messages p.actions), nodes_known p.knows role)

pub telling_is_plan : (p : ProtocolValue) (role n : ℕ) (names : List ℕ) → HoldsOf p → length (telling n names (plan_of p role)) ≤ 65792
    → IsPlan (context_of p (telling n names (plan_of p role))) (telling n names (plan_of p role))
telling_is_plan p role n names holds short =
    let plan = plan_of p role in
    let is = plan_is p role holds in
    let xs = seen_by n plan in
    let bs = map asks names in
    let labels : labels_of (telling n names plan) ≡ labels_of xs ++ labels_of bs = labels_append xs bs in
    record {
      events = refl;
      leads = tells_lead n names plan is.leads;
      formed = tells_each (IsFormed (has_operator p.formats)) (λ a. tt) n names plan is.formed;
      small = tells_each (λ t. tree_size t ≤ 1024) (λ a. omega arith) n names plan is.small;
      narrow = tells_each (IsNarrow p.formats) (λ a. refl) n names plan is.narrow;
      few = omega (arith, few_by p role holds n, ap nodes labels, nodes_append (labels_of xs) (labels_of bs), ap nodes (asks_labels names));
      short = short;
    }

-- ---- what is known

none_by : (n : ℕ) (es : List PlanEvent) → known_in es ≡ [] → known_in (seen_by n es) ≡ []
none_by n [] none = refl
none_by n (to_know t ∷ es) none = cc
none_by n (to_make t ∷ es) none = none_by n es none
none_by zero (to_send i t ∷ es) none = refl
none_by zero (to_receive i t ∷ es) none = refl
none_by (suc n) (to_send i t ∷ es) none = none_by n es none
none_by (suc n) (to_receive i t ∷ es) none = none_by n es none

known_by_then : (n : ℕ) (es : List PlanEvent) → KnowsLead es → known_in (seen_by n es) ≡ known_in es
known_by_then n [] lead = refl
known_by_then n (to_know t ∷ es) lead = ap (λ l. t ∷ l) (known_by_then n es lead)
known_by_then n (to_make t ∷ es) lead = none_by n es lead ∙ sym lead
known_by_then zero (to_send i t ∷ es) lead = sym lead
known_by_then zero (to_receive i t ∷ es) lead = sym lead
known_by_then (suc n) (to_send i t ∷ es) lead = none_by n es lead ∙ sym lead
known_by_then (suc n) (to_receive i t ∷ es) lead = none_by n es lead ∙ sym lead

known_asks : (xs : List PlanEvent) (names : List ℕ) → known_in (xs ++ map asks names) ≡ known_in xs
known_asks [] names = asks_unknown names
known_asks (to_know t ∷ xs) names = ap (λ l. t ∷ l) (known_asks xs names)
known_asks (to_make t ∷ xs) names = known_asks xs names
known_asks (to_send i t ∷ xs) names = known_asks xs names
known_asks (to_receive i t ∷ xs) names = known_asks xs names

pub telling_knows : (p : ProtocolValue) (role n : ℕ) (names : List ℕ) → HoldsOf p → known_in (telling n names (plan_of p role)) ≡ known_by p role
telling_knows p role n names holds =
    known_asks (seen_by n (plan_of p role)) names ∙ known_by_then n (plan_of p role) (plan_is p role holds).leads ∙ known_of_plan p role

-- ---- its events, and what is had behind the first messages

abbrev pub says : ℕ → Event
says name = send (leaf name)

asks_events : (names : List ℕ) → map event_of (map asks names) ≡ map says names
asks_events [] = refl
asks_events (a ∷ names) = ap (λ l. says a ∷ l) (asks_events names)

pub telling_events : (n : ℕ) (names : List ℕ) (es : List PlanEvent) → map event_of (telling n names es) ≡ observed (up_to n (map event_of es)) ++ map says names
telling_events n names [] = asks_events names
telling_events n names (to_know t ∷ es) = ap (λ l. know t ∷ l) (telling_events n names es)
telling_events n names (to_make t ∷ es) = telling_events n names es
telling_events zero names (to_send i t ∷ es) = asks_events names
telling_events zero names (to_receive i t ∷ es) = asks_events names
telling_events (suc n) names (to_send i t ∷ es) = ap (λ l. recv t ∷ l) (telling_events n names es)
telling_events (suc n) names (to_receive i t ∷ es) = ap (λ l. recv t ∷ l) (telling_events n names es)

labels_behind : (n : ℕ) (es : List PlanEvent) → known_in es ≡ [] → labels_of (seen_by n es) ≡ heard (observed (up_to n (map event_of es)))
labels_behind n [] none = refl
labels_behind n (to_know t ∷ es) none = cc
labels_behind n (to_make t ∷ es) none = labels_behind n es none
labels_behind zero (to_send i t ∷ es) none = refl
labels_behind zero (to_receive i t ∷ es) none = refl
labels_behind (suc n) (to_send i t ∷ es) none = ap (λ l. t ∷ l) (labels_behind n es none)
labels_behind (suc n) (to_receive i t ∷ es) none = ap (λ l. t ∷ l) (labels_behind n es none)

pub labels_by : (n : ℕ) (es : List PlanEvent) → KnowsLead es → labels_of (seen_by n es) ≡ known (map event_of es) ++ heard (observed (up_to n (map event_of es)))
labels_by n [] lead = refl
labels_by n (to_know t ∷ es) lead = ap (λ l. t ∷ l) (labels_by n es lead)
labels_by n (to_make t ∷ es) lead = labels_behind n es lead ∙ ap (λ l. l ++ heard (observed (up_to n (map event_of es)))) (sym (known_events es ∙ lead))
labels_by zero (to_send i t ∷ es) lead = ap (λ l. l ++ []) (sym (known_events es ∙ lead))
labels_by zero (to_receive i t ∷ es) lead = ap (λ l. l ++ []) (sym (known_events es ∙ lead))
labels_by (suc n) (to_send i t ∷ es) lead =
    ap (λ l. t ∷ l) (labels_behind n es lead) ∙ ap (λ l. l ++ t ∷ heard (observed (up_to n (map event_of es)))) (sym (known_events es ∙ lead))
labels_by (suc n) (to_receive i t ∷ es) lead =
    ap (λ l. t ∷ l) (labels_behind n es lead) ∙ ap (λ l. l ++ t ∷ heard (observed (up_to n (map event_of es)))) (sym (known_events es ∙ lead))

-- ---- each name can be said

not_empty : {A X : Type 0} (before after : List A) (x : A) → [] ≡ before ++ (x ∷ after) → X
not_empty [] after x is = absurd (let never = is in cc)
not_empty (b ∷ before) after x is = absurd (let never = is in cc)

same_head : {A : Type 0} (x y : A) (xs ys : List A) → x ∷ xs ≡ y ∷ ys → (x ≡ y) × (xs ≡ ys)
same_head x y xs ys is = (cc, cc)

-- what is sent is a name, and one of these
abbrev IsOne : (P : ℕ → Type 0) → (action : ℕ) → Tree → Type 0
IsOne P action t = (t ≡ leaf action) × P action

at_say : (P : ℕ → Type 0) (names : List ℕ) → AllByRecursion P names → (before after : List PlanEvent) (action : ℕ) (t : Tree) → map asks names ≡ before ++ (to_send action t ∷ after)
    → (labels_of before ≡ []) × IsOne P action t
at_say P [] all before after action t is = not_empty before after (to_send action t) is
at_say P (a ∷ names) all [] after action t is =
    let here : to_send a (leaf a) ≡ to_send action t = (same_head (asks a) (to_send action t) (map asks names) after is).0 in
    let one : a ≡ action = cc in
    let other : leaf a ≡ t = cc in
    (refl, (sym other ∙ ap leaf one, subst P one all.0))
at_say P (a ∷ names) all (b ∷ before) after action t is =
    let both = same_head (asks a) b (map asks names) (before ++ (to_send action t ∷ after)) is in
    let later = at_say P names all.1 before after action t both.1 in
    (ap (λ (x : PlanEvent). label_of x ++ labels_of before) (sym both.0) ∙ later.0, later.1)

-- behind an event that isn't said
at_later : (P : ℕ → Type 0) (e : PlanEvent) (xs before after : List PlanEvent) (action : ℕ) (t : Tree) (labels : List Tree) → (e ≡ to_send action t → ⊥)
    → ((rest : List PlanEvent) → xs ≡ rest ++ (to_send action t ∷ after) → (labels_of rest ≡ labels) × IsOne P action t)
    → e ∷ xs ≡ before ++ (to_send action t ∷ after) → (labels_of before ≡ label_of e ++ labels) × IsOne P action t
at_later P e xs [] after action t labels other later is = absurd (other (same_head e (to_send action t) xs after is).0)
at_later P e xs (b ∷ before) after action t labels other later is =
    let both = same_head e b xs (before ++ (to_send action t ∷ after)) is in
    let found = later before both.1 in
    (ap (λ (x : PlanEvent). label_of x ++ labels_of before) (sym both.0) ∙ ap (λ l. label_of e ++ l) found.0, found.1)

module _ (P : ℕ → Type 0) (names : List ℕ) (all : AllByRecursion P names) (action : ℕ) (t : Tree) where
  at_name : (n : ℕ) (es before after : List PlanEvent) → telling n names es ≡ before ++ (to_send action t ∷ after)
      → (labels_of before ≡ labels_of (seen_by n es)) × IsOne P action t
  at_name n [] before after is = at_say P names all before after action t is
  at_name n (to_know u ∷ es) before after is =
      at_later P (to_know u) (telling n names es) before after action t (labels_of (seen_by n es)) (λ never. cc) (λ rest at. at_name n es rest after at) is
  at_name n (to_make u ∷ es) before after is = at_name n es before after is
  at_name zero (to_send i u ∷ es) before after is = at_say P names all before after action t is
  at_name zero (to_receive i u ∷ es) before after is = at_say P names all before after action t is
  at_name (suc n) (to_send i u ∷ es) before after is =
      at_later P (to_receive i u) (telling n names es) before after action t (labels_of (seen_by n es)) (λ never. cc) (λ rest at. at_name n es rest after at) is
  at_name (suc n) (to_receive i u ∷ es) before after is =
      at_later P (to_receive i u) (telling n names es) before after action t (labels_of (seen_by n es)) (λ never. cc) (λ rest at. at_name n es rest after at) is

pub none_blocked : (p : ProtocolValue) (role n : ℕ) (names : List ℕ) (action : ℕ) → AllByRecursion (IsHad p (frame_by p role n)) names
    → IsPlan (context_of p (telling n names (plan_of p role))) (telling n names (plan_of p role))
    → ((c : _) → IsPlan c (telling n names (plan_of p role)) → IsBlocked c (telling n names (plan_of p role)) action) → ⊥
none_blocked p role n names action had is blocks =
    let plan = telling n names (plan_of p role) in
    let blocked : IsBlocked (context_of p plan) plan action = blocks (context_of p plan) is in
    let at = at_name (IsHad p (frame_by p role n)) names had action blocked.message n (plan_of p role) blocked.before blocked.after blocked.is in
    blocked.no_recipe (subst (λ F. HasRecipe (has_operator p.formats) F blocked.message) (sym at.0)
    (subst (HasRecipe (has_operator p.formats) (frame_by p role n)) (sym at.1.0) at.1.1))

-- ---- the terms of what is heard by then

pub heard_formed : (p : ProtocolValue) (role n : ℕ) → HoldsOf p → AllByRecursion (IsFormed (has_operator p.formats)) (frame_by p role n)
heard_formed p role n holds =
    let has = has_operator p.formats in
    let plan = plan_of p role in
    labels_have (IsFormed has) (seen_by n plan) [] (tells_each (IsFormed has) (λ a. tt) n [] plan (plan_is p role holds).formed)

pub all_formed : (has : Op → Bool) (ts : List Tree) → AllByRecursion (IsFormed has) ts → AreFormed has (trees_of ts)
all_formed has [] all = tt
all_formed has (t ∷ ts) all = (all.0, all_formed has ts all.1)

pub known_are_terms : (p : ProtocolValue) (es : List PlanEvent) → AllByRecursion (λ e. IsTermOf p (term_in e)) es → AllByRecursion (IsTermOf p) (known_in es)
known_are_terms p [] all = tt
known_are_terms p (to_know t ∷ es) all = (all.0, known_are_terms p es all.1)
known_are_terms p (to_make t ∷ es) all = known_are_terms p es all.1
known_are_terms p (to_send i t ∷ es) all = known_are_terms p es all.1
known_are_terms p (to_receive i t ∷ es) all = known_are_terms p es all.1
