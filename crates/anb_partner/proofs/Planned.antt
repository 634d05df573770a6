-- The plan of a partner is one that can be compiled.
use Rattle.std.proofs.Common.{◌≡◌, ℕ, zero, suc, ◌+◌, ◌<◌, ◌≤◌, ◌==◌, get_or, List, [], ◌∷◌, ◌++◌, length, map, Bool, true, false, Option, Some, None, IfSome, refl, sym, ap, ◌∙◌, subst, arith, length-append, append-nil, append_assoc}
use Rattle.std.proofs.lemmas.List.{length-map}
use Rattle.std.specs.Prelude.{if◌then◌else◌}
use Rattle.std.specs.List.{AllByRecursion, flat_map, range_with_len}
use Rattle.anb_lemmas.proofs.Each.{each_in_both, each_as}
use Rattle.anb_base.specs.declared.TheConstants.{ARRIVAL, WIDE}
use Rattle.anb_term.specs.Tree.{Tree, leaf, tree_size, nodes, IsFormed}
use Rattle.anb_algebra.specs.ByteMeaning.{has_operator}
use Rattle.anb_plays.specs.Honest.{heard}
use Rattle.anb_protocol.specs.Choices.{each_after}
use Rattle.anb_protocol.specs.Plays.{event_of, events_of}
use Rattle.anb_protocol.specs.Protocols.{ActionValue, ProtocolValue}
use Rattle.anb_protocol.specs.Texts.{known_by}
use Rattle.anb_protocol.specs.Widths.{fits_width}
use Rattle.anb_protocol.specs.Plans.{PlanEvent, to_know, to_make, to_send, to_receive, plan_of, term_in, made, events_at}
use Rattle.anb_protocol.specs.declared.plans.Event.{Event}
use Rattle.anb_protocol.specs.Views.{plan_event}
use Rattle.anb_protocol.specs.Laws.{HoldsOf}
use Rattle.anb_compile.specs.Unsent.{labels_of}
use Rattle.anb_compile.specs.Emitting.{known_in, KnowsLead, IsPlan, context_of}
use Rattle.anb_compile.proofs.Doing.{many_nodes}
use Rattle.anb_compile.proofs.Events.{labels_append, known_append}
use Rattle.anb_compile.proofs.Protocols.{known_of_plan, own_cases, plan_is}
use Rattle.anb_partner.specs.Plans.{MayStand, Script, begins, handed_by, handed_terms, has_atom, hook, mirrored, partner_plan, said}

-- no subterm is too wide
abbrev IsFitting : ProtocolValue → Tree → Type 0
IsFitting p t = fits_width ARRIVAL p.formats WIDE t ≡ true

-- ---- what is known comes first

known_of_known : (ts : List Tree) (es : List PlanEvent) → known_in (map to_know ts ++ es) ≡ ts ++ known_in es
known_of_known [] es = refl
known_of_known (t ∷ ts) es = ap (λ l. t ∷ l) (known_of_known ts es)

known_of_heard : (ts : List Tree) (es : List PlanEvent) → known_in (map (to_receive 0) ts ++ es) ≡ known_in es
known_of_heard [] es = refl
known_of_heard (t ∷ ts) es = known_of_heard ts es

known_of_hook : (spare line : ℕ) (right : Option Tree) (es : List PlanEvent) → known_in (hook spare line right ++ es) ≡ known_in es
known_of_hook spare line None es = refl
known_of_hook spare line (Some t) es = refl

pub by_if : {X : Type 0} (P : X → Type 0) (b : Bool) (x y : X) → P x → P y → P (if b then x else y)
by_if P true x y p q = p
by_if P false x y p q = q

known_of_mirrored : (spare : ℕ) (right : Option Tree) (line : ℕ) (es : List PlanEvent) (arrivals messages : List Tree) → known_in (mirrored spare right line es arrivals messages) ≡ []
known_of_mirrored spare right line [] ins ms = refl
known_of_mirrored spare right line (to_know t ∷ es) ins ms = known_of_mirrored spare right line es ins ms
known_of_mirrored spare right line (to_make t ∷ es) ins ms = known_of_mirrored spare right line es ins ms
known_of_mirrored spare right line (to_send i t ∷ es) ins [] = refl
known_of_mirrored spare right line (to_send i t ∷ es) ins (m ∷ ms) = known_of_mirrored spare right (line + 1) es ins ms
known_of_mirrored spare right line (to_receive i t ∷ es) [] ms = refl
known_of_mirrored spare right line (to_receive i t ∷ es) (a ∷ ins) ms =
    by_if (λ l. known_in l ≡ []) (has_atom spare a) (hook spare line right ++ to_send line a ∷ mirrored spare None (line + 1) es ins ms) (to_send line a ∷ mirrored spare right (line + 1) es ins ms)
    (known_of_hook spare line right (to_send line a ∷ mirrored spare None (line + 1) es ins ms) ∙ known_of_mirrored spare None (line + 1) es ins ms)
    (known_of_mirrored spare right (line + 1) es ins ms)

none_leads : (es : List PlanEvent) → known_in es ≡ [] → KnowsLead es
none_leads [] none = tt
none_leads (to_know t ∷ es) none = cc
none_leads (to_make t ∷ es) none = none
none_leads (to_send i t ∷ es) none = none
none_leads (to_receive i t ∷ es) none = none

leads_known : (ts : List Tree) (es : List PlanEvent) → known_in es ≡ [] → KnowsLead (map to_know ts ++ es)
leads_known [] es none = none_leads es none
leads_known (t ∷ ts) es none = leads_known ts es none

module _ (s : Script) where
  abbrev pub mirror : List PlanEvent
  mirror = mirrored (length s.protocol.atoms) s.right 1 (plan_of s.protocol s.role) s.arrivals s.messages

  abbrev pub heard_part : List PlanEvent
  heard_part = map (to_receive 0) (handed_terms s.protocol s.role) ++ mirror

  pub apart : partner_plan s ≡ map to_know (known_by s.protocol s.role) ++ heard_part
  apart = append_assoc (map to_know (known_by s.protocol s.role)) (map (to_receive 0) (handed_terms s.protocol s.role)) mirror

  none_heard : known_in heard_part ≡ []
  none_heard = known_of_heard (handed_terms s.protocol s.role) mirror ∙ known_of_mirrored (length s.protocol.atoms) s.right 1 (plan_of s.protocol s.role) s.arrivals s.messages

  pub partner_knows : known_in (partner_plan s) ≡ known_by s.protocol s.role
  partner_knows =
      ap known_in apart ∙ known_of_known (known_by s.protocol s.role) heard_part ∙ ap (λ l. known_by s.protocol s.role ++ l) none_heard ∙ append-nil (known_by s.protocol s.role)

-- ---- a property of all terms

module _ (Q : Tree → Type 0) where
  abbrev OfEvent : PlanEvent → Type 0
  OfEvent e = Q (term_in e)

  all_known_in : (es : List PlanEvent) → AllByRecursion OfEvent es → AllByRecursion Q (known_in es)
  all_known_in [] all = tt
  all_known_in (to_know t ∷ es) all = (all.0, all_known_in es all.1)
  all_known_in (to_make t ∷ es) all = all_known_in es all.1
  all_known_in (to_send i t ∷ es) all = all_known_in es all.1
  all_known_in (to_receive i t ∷ es) all = all_known_in es all.1

  all_begin : (es : List PlanEvent) → AllByRecursion OfEvent es → AllByRecursion Q (begins es)
  all_begin [] all = tt
  all_begin (to_know t ∷ es) all = (all.0, all_begin es all.1)
  all_begin (to_make t ∷ es) all = (all.0, all_begin es all.1)
  all_begin (to_send i t ∷ es) all = all_begin es all.1
  all_begin (to_receive i t ∷ es) all = all_begin es all.1

  all_handed : (p : ProtocolValue) (role : ℕ) → ((other : ℕ) → AllByRecursion OfEvent (plan_of p other)) → (roles : List ℕ) → AllByRecursion Q (flat_map (handed_by p role) roles)
  all_handed p role each [] = tt
  all_handed p role each (other ∷ roles) =
      each_in_both Q (handed_by p role other) (flat_map (handed_by p role) roles)
      (by_if (AllByRecursion Q) (other == role) [] (begins (plan_of p other)) tt (all_begin (plan_of p other) (each other)))
      (all_handed p role each roles)

  all_to_know : (ts : List Tree) → AllByRecursion Q ts → AllByRecursion OfEvent (map to_know ts)
  all_to_know [] all = tt
  all_to_know (t ∷ ts) all = (all.0, all_to_know ts all.1)

  all_to_hear : (ts : List Tree) → AllByRecursion Q ts → AllByRecursion OfEvent (map (to_receive 0) ts)
  all_to_hear [] all = tt
  all_to_hear (t ∷ ts) all = (all.0, all_to_hear ts all.1)

  all_heard : (es : List PlanEvent) → AllByRecursion OfEvent es → AllByRecursion Q (heard (map event_of es))
  all_heard [] all = tt
  all_heard (to_know t ∷ es) all = all_heard es all.1
  all_heard (to_make t ∷ es) all = all_heard es all.1
  all_heard (to_send i t ∷ es) all = all_heard es all.1
  all_heard (to_receive i t ∷ es) all = (all.0, all_heard es all.1)

  all_said : (es : List PlanEvent) → AllByRecursion OfEvent es → AllByRecursion Q (said (map event_of es))
  all_said [] all = tt
  all_said (to_know t ∷ es) all = all_said es all.1
  all_said (to_make t ∷ es) all = all_said es all.1
  all_said (to_send i t ∷ es) all = (all.0, all_said es all.1)
  all_said (to_receive i t ∷ es) all = all_said es all.1

  module _ (atoms : (a : ℕ) → Q (leaf a)) where
    all_hooked : (spare line : ℕ) (right : Option Tree) → IfSome right Q → AllByRecursion OfEvent (hook spare line right)
    all_hooked spare line None of = tt
    all_hooked spare line (Some t) of = (of, (atoms spare, tt))

    all_mirrored : (spare : ℕ) (right : Option Tree) (line : ℕ) (es : List PlanEvent) (ins ms : List Tree) → IfSome right Q → AllByRecursion Q ins → AllByRecursion Q ms
        → AllByRecursion OfEvent (mirrored spare right line es ins ms)
    all_mirrored spare right line [] ins ms of one two = tt
    all_mirrored spare right line (to_know t ∷ es) ins ms of one two = all_mirrored spare right line es ins ms of one two
    all_mirrored spare right line (to_make t ∷ es) ins ms of one two = all_mirrored spare right line es ins ms of one two
    all_mirrored spare right line (to_send i t ∷ es) ins [] of one two = tt
    all_mirrored spare right line (to_send i t ∷ es) ins (m ∷ ms) of one two = (two.0, all_mirrored spare right (line + 1) es ins ms of one two.1)
    all_mirrored spare right line (to_receive i t ∷ es) [] ms of one two = tt
    all_mirrored spare right line (to_receive i t ∷ es) (a ∷ ins) ms of one two =
        by_if (AllByRecursion OfEvent) (has_atom spare a) (hook spare line right ++ to_send line a ∷ mirrored spare None (line + 1) es ins ms) (to_send line a ∷ mirrored spare right (line + 1) es ins ms)
        (each_in_both OfEvent (hook spare line right) (to_send line a ∷ mirrored spare None (line + 1) es ins ms) (all_hooked spare line right of) (one.0, all_mirrored spare None (line + 1) es ins ms tt one.1 two))
        (one.0, all_mirrored spare right (line + 1) es ins ms of one.1 two)

    all_of_plan : (s : Script) → ((other : ℕ) → AllByRecursion OfEvent (plan_of s.protocol other)) → IfSome s.right Q → AllByRecursion Q s.arrivals → AllByRecursion Q s.messages
        → AllByRecursion OfEvent (partner_plan s)
    all_of_plan s each of one two =
        let p = s.protocol in
        let handed = handed_terms p s.role in
        subst (AllByRecursion OfEvent) (sym (apart s))
        (each_in_both OfEvent (map to_know (known_by p s.role)) (heard_part s)
        (all_to_know (known_by p s.role) (subst (AllByRecursion Q) (known_of_plan p s.role) (all_known_in (plan_of p s.role) (each s.role))))
        (each_in_both OfEvent (map (to_receive 0) handed) (mirror s)
        (all_to_hear handed (all_handed p s.role each (range_with_len 0 (length p.roles))))
        (all_mirrored (length p.atoms) s.right 1 (plan_of p s.role) s.arrivals s.messages of one two)))

-- ---- the terms of a role's own plan

all_stand : (p : ProtocolValue) (ts : List Tree) → AllByRecursion (IsFormed (has_operator p.formats)) ts → AllByRecursion (λ t. tree_size t ≤ 1024) ts → AllByRecursion (IsFitting p) ts → AllByRecursion (MayStand p) ts
all_stand p [] formed small narrow = tt
all_stand p (t ∷ ts) formed small narrow = (record { formed = formed.0; small = small.0; narrow = narrow.0 }, all_stand p ts formed.1 small.1 narrow.1)

module _ (p : ProtocolValue) (role : ℕ) (holds : HoldsOf p) where
  abbrev is : IsPlan (context_of p (plan_of p role)) (plan_of p role)
  is = plan_is p role holds

  pub heard_stand : AllByRecursion (MayStand p) (heard (events_of p role))
  heard_stand =
      all_stand p (heard (events_of p role)) (all_heard (IsFormed (has_operator p.formats)) (plan_of p role) is.formed)
      (all_heard (λ t. tree_size t ≤ 1024) (plan_of p role) is.small) (all_heard (IsFitting p) (plan_of p role) is.narrow)

  pub said_stand : AllByRecursion (MayStand p) (said (events_of p role))
  said_stand =
      all_stand p (said (events_of p role)) (all_said (IsFormed (has_operator p.formats)) (plan_of p role) is.formed)
      (all_said (λ t. tree_size t ≤ 1024) (plan_of p role) is.small) (all_said (IsFitting p) (plan_of p role) is.narrow)

-- ---- how long it is

-- how many messages a role hears in a plan
abbrev hears_in : List PlanEvent → ℕ
hears_in [] = 0
hears_in (to_know t ∷ es) = hears_in es
hears_in (to_make t ∷ es) = hears_in es
hears_in (to_send i t ∷ es) = hears_in es
hears_in (to_receive i t ∷ es) = suc (hears_in es)

hears_append : (xs ys : List PlanEvent) → hears_in (xs ++ ys) ≡ hears_in xs + hears_in ys
hears_append [] ys = omega arith
hears_append (to_know t ∷ xs) ys = hears_append xs ys
hears_append (to_make t ∷ xs) ys = hears_append xs ys
hears_append (to_send i t ∷ xs) ys = hears_append xs ys
hears_append (to_receive i t ∷ xs) ys = omega (arith, hears_append xs ys)

hears_known : (ts : List Tree) → hears_in (map to_know ts) ≡ 0
hears_known [] = refl
hears_known (t ∷ ts) = hears_known ts

hears_making : (names : List ℕ) (i : ℕ) (t : Tree) → hears_in (map (λ x. to_make (leaf x)) names ++ to_send i t ∷ []) ≤ 1
hears_making [] i t = omega arith
hears_making (x ∷ names) i t = hears_making names i t

hears_each : (p : ProtocolValue) (role : ℕ) (before actions : List ActionValue) → hears_in (each_after (events_at p role) before actions) ≤ length actions
hears_each p role before [] = omega arith
hears_each p role before (a ∷ actions) =
    let n = length before + 1 in
    let names = made p before a.message in
    let own = own_cases (λ l. hears_in l ≤ 1) role n names a (hears_making names n a.message) (omega arith) (omega arith) in
    omega (arith, own, hears_each p role (before ++ a ∷ []) actions, hears_append (events_at p role before a) (each_after (events_at p role) (before ++ a ∷ []) actions))

few_heard : (p : ProtocolValue) (role : ℕ) → HoldsOf p → hears_in (plan_of p role) ≤ 256
unfolding plan_of
few_heard p role holds =
    let most = holds.actions in
    omega (arith, most, hears_each p role [] p.actions, hears_known (known_by p role), hears_append (map to_know (known_by p role)) (each_after (events_at p role) [] p.actions))

-- each event has a label, but for what is said
abbrev count_hooks : Option Tree → ℕ
count_hooks None = 0
count_hooks (Some t) = 1

hook_long : (spare line : ℕ) (right : Option Tree) → length (hook spare line right) ≡ length (labels_of (hook spare line right)) + count_hooks right
hook_long spare line None = omega arith
hook_long spare line (Some t) = omega arith

mirrored_long : (spare : ℕ) (right : Option Tree) (line : ℕ) (es : List PlanEvent) (ins ms : List Tree)
    → length (mirrored spare right line es ins ms) ≤ length (labels_of (mirrored spare right line es ins ms)) + hears_in es + count_hooks right
mirrored_long spare right line [] ins ms = omega arith
mirrored_long spare right line (to_know t ∷ es) ins ms = mirrored_long spare right line es ins ms
mirrored_long spare right line (to_make t ∷ es) ins ms = mirrored_long spare right line es ins ms
mirrored_long spare right line (to_send i t ∷ es) ins [] = omega arith
mirrored_long spare right line (to_send i t ∷ es) ins (m ∷ ms) = let h = mirrored_long spare right (line + 1) es ins ms in omega (arith, h)
mirrored_long spare right line (to_receive i t ∷ es) [] ms = omega arith
mirrored_long spare right line (to_receive i t ∷ es) (a ∷ ins) ms =
    let first = hook spare line right in
    let rest = to_send line a ∷ mirrored spare None (line + 1) es ins ms in
    let h = mirrored_long spare None (line + 1) es ins ms in
    let k = mirrored_long spare right (line + 1) es ins ms in
    by_if (λ l. length l ≤ length (labels_of l) + suc (hears_in es) + count_hooks right) (has_atom spare a) (first ++ rest) (to_send line a ∷ mirrored spare right (line + 1) es ins ms)
    (omega (arith, h, hook_long spare line right, length-append first rest, ap length (labels_append first rest), length-append (labels_of first) (labels_of rest)))
    (omega (arith, k))

labels_known : (ts : List Tree) → length (labels_of (map to_know ts)) ≡ length ts
labels_known [] = refl
labels_known (t ∷ ts) = ap suc (labels_known ts)

labels_heard : (ts : List Tree) → length (labels_of (map (to_receive 0) ts)) ≡ length ts
labels_heard [] = refl
labels_heard (t ∷ ts) = ap suc (labels_heard ts)

hooks_few : (right : Option Tree) → count_hooks right ≤ 1
hooks_few None = omega arith
hooks_few (Some t) = omega arith

module _ (s : Script) (holds : HoldsOf s.protocol) (few : nodes (labels_of (partner_plan s)) ≤ 65535) where
  plan_short : length (partner_plan s) ≤ 65792
  plan_short =
      let p = s.protocol in
      let ks = known_by p s.role in
      let hs = handed_terms p s.role in
      let m = mirror s in
      omega (
        arith,
        few,
        ap length (apart s),
        ap (λ l. length (labels_of l)) (apart s),
        few_heard p s.role holds,
        hooks_few s.right,
        many_nodes (labels_of (partner_plan s)),
        mirrored_long (length p.atoms) s.right 1 (plan_of p s.role) s.arrivals s.messages,
        length-append (map to_know ks) (heard_part s),
        length-append (map (to_receive 0) hs) m,
        length-map ks to_know,
        length-map hs (to_receive 0),
        ap length (labels_append (map to_know ks) (heard_part s)),
        length-append (labels_of (map to_know ks)) (labels_of (heard_part s)),
        ap length (labels_append (map (to_receive 0) hs) m),
        length-append (labels_of (map (to_receive 0) hs)) (labels_of m),
        labels_known ks,
        labels_heard hs,
      )

  pub partner_is_plan : IfSome s.right (MayStand s.protocol) → AllByRecursion (MayStand s.protocol) s.arrivals → AllByRecursion (MayStand s.protocol) s.messages
      → IsPlan (context_of s.protocol (partner_plan s)) (partner_plan s)
  partner_is_plan right arrivals messages = record {
    events = refl;
    leads = subst KnowsLead (sym (apart s)) (leads_known (known_by s.protocol s.role) (heard_part s) (none_heard s));
    formed = by (IsFormed (has_operator s.protocol.formats)) (λ a. tt) (λ other. (plan_is s.protocol other holds).formed) (λ t m. m.formed);
    small = by (λ t. tree_size t ≤ 1024) (λ a. omega arith) (λ other. (plan_is s.protocol other holds).small) (λ t m. m.small);
    narrow = by (λ t. IsFitting s.protocol t) (λ a. refl) (λ other. (plan_is s.protocol other holds).narrow) (λ t m. m.narrow);
    few = omega (arith, few);
    short = plan_short;
  } where
    on_right : (Q : Tree → Type 0) (o : Option Tree) → ((t : Tree) → MayStand s.protocol t → Q t) → IfSome o (MayStand s.protocol) → IfSome o Q
    on_right Q None f all = tt
    on_right Q (Some t) f all = f t all

    by : (Q : Tree → Type 0) → ((a : ℕ) → Q (leaf a)) → ((other : ℕ) → AllByRecursion (λ e. Q (term_in e)) (plan_of s.protocol other)) → ((t : Tree) → MayStand s.protocol t → Q t)
        → AllByRecursion (λ e. Q (term_in e)) (partner_plan s)
    by Q atoms each from = all_of_plan Q atoms s each (on_right Q s.right from right) (each_as (MayStand s.protocol) Q s.arrivals from arrivals) (each_as (MayStand s.protocol) Q s.messages from messages)

-- the terms of a plan are small
pub plan_small : (s : Script) (holds : HoldsOf s.protocol) → IfSome s.right (MayStand s.protocol) → AllByRecursion (MayStand s.protocol) s.arrivals → AllByRecursion (MayStand s.protocol) s.messages
    → AllByRecursion (λ e. tree_size (term_in e) ≤ 1024) (partner_plan s)
plan_small s holds right arrivals messages =
    all_of_plan (λ t. tree_size t ≤ 1024) (λ a. omega arith) s (λ other. (plan_is s.protocol other holds).small) (on_right s.right right)
    (each_as (MayStand s.protocol) (λ t. tree_size t ≤ 1024) s.arrivals (λ t m. m.small) arrivals) (each_as (MayStand s.protocol) (λ t. tree_size t ≤ 1024) s.messages (λ t m. m.small) messages) where
      on_right : (o : Option Tree) → IfSome o (MayStand s.protocol) → IfSome o (λ t. tree_size t ≤ 1024)
      on_right None all = tt
      on_right (Some t) all = all.small

pub small_at : (events : List Event) (i : ℕ) (e : Event) → i < length events → e ≡ get_or events i e → AllByRecursion (λ x. tree_size (term_in x) ≤ 1024) (map plan_event events) → tree_size (term_in (plan_event e)) ≤ 1024
small_at [] i e within is all = absurd (omega (arith, within))
small_at (x ∷ xs) zero e within is all = rw is all.0
small_at (x ∷ xs) (suc i) e within is all = small_at xs i e (omega (arith, within)) is all.1
