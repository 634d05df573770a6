-- The plans of a protocol.
use Rattle.std.proofs.Common.{◌≡◌, ℕ, zero, suc, ◌+◌, ◌<◌, ◌≤◌, ◌==◌, List, [], ◌∷◌, ◌++◌, length, map, Bool, true, false, cond, refl, sym, ap, ◌∙◌, subst, arith, length-append, append_assoc, ◌⊎◌, inl, inr}
use Rattle.std.specs.Prelude.{slice_get, filter, nat_eq, if◌then◌else◌}
use Rattle.std.specs.Option.{option_map_or}
use Rattle.std.specs.List.{AllByRecursion, flat_map, list_any}
use Rattle.std.proofs.lemmas.List.{append-nil, length-map}
use Rattle.anb_lemmas.proofs.Each.{each_in_both, each_in_front, each_as, each_of_map}
use Rattle.anb_term.specs.Tree.{Tree, leaf, node, Trees, none, more, tree_size, trees_size, nodes, IsFormed}
use Rattle.anb_term.specs.Agree.{HasRecipe}
use Rattle.anb_close.proofs.Growing.{nodes_append}
use Rattle.anb_close.proofs.Closing.{all_back}
use Rattle.anb_algebra.specs.ByteMeaning.{has_operator}
use Rattle.anb_plays.specs.Plans.{known, CanSend, Sendable}
use Rattle.anb_protocol.specs.Choices.{each_after}
use Rattle.anb_protocol.specs.Names.{distinct, first_new}
use Rattle.anb_protocol.specs.Protocols.{ActionValue, ProtocolValue}
use Rattle.anb_protocol.specs.Texts.{atoms_in, atoms_in_all, known_by, known_terms}
use Rattle.anb_protocol.specs.Plans.{PlanEvent, to_know, to_make, to_send, to_receive, plan_of, messages, is_made, made, own_events, events_at, term_in}
use Rattle.anb_protocol.specs.Plays.{event_of, events_of}
use Rattle.anb_protocol.specs.Laws.{HoldsOf}
use Rattle.anb_compile.specs.declared.refusal.CompileNo.{CompileNo}
use Rattle.anb_compile.specs.declared.refusal.CompileNo.TheVariants.{CannotSend, NoMemory}
use Rattle.anb_compile.specs.Unsent.{labels_of, IsUnsent, IsFirstUnsent, RefusesRole}
use Rattle.anb_compile.specs.Writing.{Context}
use Rattle.anb_compile.specs.Verifying.{IsNarrow}
use Rattle.anb_compile.specs.Emitting.{known_in, KnowsLead, IsPlan, CanSendAll, IsBlocked, RefusesPlan}
use Rattle.anb_compile.proofs.Doing.{many_nodes}
use Rattle.anb_compile.proofs.Events.{labels_append, known_append, known_events, leads_behind}

-- ---- what an action adds to a plan

pub own_cases : (P : List PlanEvent → Type 0) (role number : ℕ) (names : List ℕ) (a : ActionValue) → P (map (λ x. to_make (leaf x)) names ++ to_send number a.message ∷ []) → P (to_receive number a.message ∷ []) → P []
    → P (own_events role number names a)
own_cases P role number names a x y z = go (a.from == role) (a.to == role) x y z
  where
    go : (b d : Bool) → {X Y Z : List PlanEvent} → P X → P Y → P Z → P (if b then X else (if d then Y else Z))
    go true d x y z = x
    go false true x y z = y
    go false false x y z = z

-- a property of events, one after another
each_has : (P : PlanEvent → Type 0) (p : ProtocolValue) (role : ℕ) → ((x : ℕ) → P (to_make (leaf x))) → (before actions : List ActionValue)
    → AllByRecursion (λ t. (i : ℕ) → P (to_send i t) × P (to_receive i t)) (messages actions) → AllByRecursion P (each_after (events_at p role) before actions)
each_has P p role fresh before [] all = tt
each_has P p role fresh before (a ∷ actions) all =
    let n = length before + 1 in
    let own = own_cases (AllByRecursion P) role n (made p before a.message) a
    (each_in_both P (map (λ x. to_make (leaf x)) (made p before a.message)) (to_send n a.message ∷ []) (all_fresh (made p before a.message)) ((all.0 n).0, tt)) ((all.0 n).1, tt) tt in
    each_in_both P (events_at p role before a) (each_after (events_at p role) (before ++ a ∷ []) actions) own (each_has P p role fresh (before ++ a ∷ []) actions all.1)
  where
    all_fresh : (names : List ℕ) → AllByRecursion P (map (λ x. to_make (leaf x)) names)
    all_fresh [] = tt
    all_fresh (x ∷ names) = (fresh x, all_fresh names)

-- ---- what a role knows

pub all_known : (P : Tree → Type 0) (knows : List (List Tree)) (role : ℕ) → AllByRecursion P (flat_map (λ (ts : List Tree). ts) knows) → AllByRecursion P (option_map_or (λ (ts : List Tree). ts) (slice_get knows role) [])
all_known P [] role all = tt
all_known P (ts ∷ knows) zero all = each_in_front P ts (flat_map (λ (us : List Tree). us) knows) all
all_known P (ts ∷ knows) (suc role) all = all_known P knows role (all_back P ts (flat_map (λ (us : List Tree). us) knows) all)

pub nodes_known : (knows : List (List Tree)) (role : ℕ) → nodes (option_map_or (λ (ts : List Tree). ts) (slice_get knows role) []) ≤ nodes (flat_map (λ (ts : List Tree). ts) knows)
nodes_known [] role = omega arith
nodes_known (ts ∷ knows) zero = omega (arith, nodes_append ts (flat_map (λ (us : List Tree). us) knows))
nodes_known (ts ∷ knows) (suc role) = omega (arith, nodes_known knows role, nodes_append ts (flat_map (λ (us : List Tree). us) knows))

-- ---- names that are made are few

distinct_from : (before xs : List ℕ) → length (each_after (first_new nat_eq) before xs) ≤ length xs
distinct_from before [] = omega arith
distinct_from before (x ∷ xs) =
    let rest = each_after (first_new nat_eq) (before ++ x ∷ []) xs in
    omega (arith, distinct_from (before ++ x ∷ []) xs, length-append (first_new nat_eq before x) rest, one (list_any (λ y. nat_eq y x) before) x)
  where
    one : (b : Bool) (x : ℕ) → length (if b then [] else x ∷ []) ≤ 1
    one true x = omega arith
    one false x = omega arith

distinct_few : (xs : List ℕ) → length (distinct nat_eq xs) ≤ length xs
distinct_few xs = distinct_from [] xs

filter_few : (q : ℕ → Bool) (xs : List ℕ) → length (filter q xs) ≤ length xs
filter_few q [] = omega arith
filter_few q (x ∷ xs) = few (q x) x (filter q xs) (length xs) (filter_few q xs)
  where
    few : (b : Bool) (x : ℕ) (ys : List ℕ) (n : ℕ) → length ys ≤ n → length (cond b (x ∷ ys) ys) ≤ suc n
    few true x ys n h = omega arith
    few false x ys n h = omega arith

mutual
  atoms_few : (t : Tree) → length (atoms_in t) ≤ tree_size t
  atoms_few (leaf n) = omega arith
  atoms_few (node o ts) = omega (arith, atoms_all_few ts)

  atoms_all_few : (ts : Trees) → length (atoms_in_all ts) ≤ trees_size ts
  atoms_all_few none = omega arith
  atoms_all_few (more t ts) = omega (arith, atoms_few t, atoms_all_few ts, length-append (atoms_in t) (atoms_in_all ts))

fresh_nodes : (names : List ℕ) (i : ℕ) (t : Tree) → nodes (labels_of (map (λ x. to_make (leaf x)) names ++ to_send i t ∷ [])) ≡ length names
fresh_nodes [] i t = refl
fresh_nodes (x ∷ names) i t = omega (arith, fresh_nodes names i t)

each_nodes : (p : ProtocolValue) (role : ℕ) (before actions : List ActionValue) → nodes (labels_of (each_after (events_at p role) before actions)) ≤ nodes (messages actions)
each_nodes p role before [] = omega arith
each_nodes p role before (a ∷ actions) =
    let n = length before + 1 in
    let ms = made p before a.message in
    let own = own_cases (λ l. nodes (labels_of l) ≤ tree_size a.message) role n ms a
    (omega (arith, fresh_nodes ms n a.message, filter_few (is_made p before) (distinct nat_eq (atoms_in a.message)), distinct_few (atoms_in a.message), atoms_few a.message))
    (omega arith) (omega arith) in
    let rest = each_nodes p role (before ++ a ∷ []) actions in
    let all = ap nodes (labels_append (events_at p role before a) (each_after (events_at p role) (before ++ a ∷ []) actions))
    ∙ nodes_append (labels_of (events_at p role before a)) (labels_of (each_after (events_at p role) (before ++ a ∷ []) actions)) in
    omega (arith, own, rest, all)

-- ---- plans

pub knows_labels : (ts : List Tree) → labels_of (map to_know ts) ≡ ts
knows_labels [] = refl
knows_labels (t ∷ ts) = ap (λ l. t ∷ l) (knows_labels ts)

knows_known : (ts : List Tree) → known_in (map to_know ts) ≡ ts
knows_known [] = refl
knows_known (t ∷ ts) = ap (λ l. t ∷ l) (knows_known ts)

none_known : (xs ys : List PlanEvent) → known_in xs ≡ [] → known_in ys ≡ [] → known_in (xs ++ ys) ≡ []
none_known xs ys a b = known_append xs ys ∙ ap (λ l. l ++ known_in ys) a ∙ b

fresh_known : (names : List ℕ) (i : ℕ) (t : Tree) → known_in (map (λ x. to_make (leaf x)) names ++ to_send i t ∷ []) ≡ []
fresh_known [] i t = refl
fresh_known (x ∷ names) i t = fresh_known names i t

each_known : (p : ProtocolValue) (role : ℕ) (before actions : List ActionValue) → known_in (each_after (events_at p role) before actions) ≡ []
each_known p role before [] = refl
each_known p role before (a ∷ actions) =
    let n = length before + 1 in
    none_known (events_at p role before a) (each_after (events_at p role) (before ++ a ∷ []) actions)
    (own_cases (λ l. known_in l ≡ []) role n (made p before a.message) a (fresh_known (made p before a.message) n a.message) refl refl) (each_known p role (before ++ a ∷ []) actions)

lead_all : (ts : List Tree) (es : List PlanEvent) → known_in es ≡ [] → KnowsLead (map to_know ts ++ es)
lead_all (t ∷ ts) es n = lead_all ts es n
lead_all [] [] n = tt
lead_all [] (to_know t ∷ es) n = cc
lead_all [] (to_make t ∷ es) n = n
lead_all [] (to_send i t ∷ es) n = n
lead_all [] (to_receive i t ∷ es) n = n

-- what holds of all terms of a protocol, and of atoms, holds of the terms of a plan
all_terms : (P : Tree → Type 0) → ((x : ℕ) → P (leaf x)) → (p : ProtocolValue) (role : ℕ) → AllByRecursion P (known_terms p ++ messages p.actions) → AllByRecursion (λ e. P (term_in e)) (plan_of p role)
unfolding plan_of
all_terms P atoms p role all =
    let Q : PlanEvent → Type 0 = λ e. P (term_in e) in
    let ks = known_by p role in
    let ms = each_as P (λ t. (i : ℕ) → Q (to_send i t) × Q (to_receive i t)) (messages p.actions) (λ t h i. (h, h)) (all_back P (known_terms p) (messages p.actions) all) in
    let kn = all_known P p.knows role (each_in_front P (known_terms p) (messages p.actions) all) in
    each_in_both Q (map to_know ks) (each_after (events_at p role) [] p.actions) (each_of_map Q to_know ks kn) (each_has Q p role atoms [] p.actions ms)

-- each event but the sends has a label
fresh_events : (names : List ℕ) (i : ℕ) (t : Tree) → length (map (λ x. to_make (leaf x)) names ++ to_send i t ∷ []) ≤ length (labels_of (map (λ x. to_make (leaf x)) names ++ to_send i t ∷ [])) + 1
fresh_events [] i t = omega arith
fresh_events (x ∷ names) i t = omega (arith, fresh_events names i t)

each_events : (p : ProtocolValue) (role : ℕ) (before actions : List ActionValue) → length (each_after (events_at p role) before actions) ≤ length (labels_of (each_after (events_at p role) before actions)) + length actions
each_events p role before [] = omega arith
each_events p role before (a ∷ actions) =
    let n = length before + 1 in
    let own = events_at p role before a in
    let rest = each_after (events_at p role) (before ++ a ∷ []) actions in
    let one = own_cases (λ l. length l ≤ length (labels_of l) + 1) role n (made p before a.message) a (fresh_events (made p before a.message) n a.message) (omega arith) (omega arith) in
    omega (arith, one, each_events p role (before ++ a ∷ []) actions, length-append own rest, ap length (labels_append own rest), length-append (labels_of own) (labels_of rest))

pub plan_is : (p : ProtocolValue) (role : ℕ) → HoldsOf p → IsPlan (record { formats = p.formats; suite = p.suite; plan = events_of p role }) (plan_of p role)
unfolding plan_of
plan_is p role holds =
    let has = has_operator p.formats in
    let rest = each_after (events_at p role) [] p.actions in
    let ks = known_by p role in
    let size = ap nodes (labels_append (map to_know ks) rest ∙ ap (λ l. l ++ labels_of rest) (knows_labels ks)) ∙ nodes_append ks (labels_of rest) in
    let all = nodes_append (known_terms p) (messages p.actions) in
    let most = holds.nodes in
    let labels : nodes (labels_of (map to_know ks ++ rest)) ≤ 65536 = omega (arith, size, all, most, nodes_known p.knows role, each_nodes p role [] p.actions) in
    record {
      events = refl;
      leads = lead_all ks rest (each_known p role [] p.actions);
      formed = all_terms (IsFormed has) (λ x. tt) p role holds.formed;
      small = all_terms (λ t. tree_size t ≤ 1024) (λ x. omega arith) p role holds.sizes;
      narrow = all_terms (IsNarrow p.formats) (λ x. refl) p role holds.widths;
      few = labels;
      short = omega (
        arith,
        labels,
        length-append (map to_know ks) rest,
        length-map ks to_know,
        each_events p role [] p.actions,
        holds.actions,
        many_nodes (labels_of (map to_know ks ++ rest)),
        ap length (labels_append (map to_know ks) rest),
        length-append (labels_of (map to_know ks)) (labels_of rest),
        ap length (knows_labels ks),
      );
    }

-- ---- what must be sent can be sent

can_from : (c : Context) (before after : List PlanEvent) (frame : List Tree) → KnowsLead (before ++ after) → CanSendAll c (before ++ after) → frame ≡ labels_of before ++ known_in after
    → CanSend (has_operator c.formats) frame (map event_of after)
can_from c before [] frame l can is = tt
can_from c before (to_know t ∷ after) frame l can is =
    let e = to_know t in
    let P : List PlanEvent → Type 0 = λ x. KnowsLead x in
    let Q : List PlanEvent → Type 0 = λ x. CanSendAll c x in
    let on = sym (append_assoc before (e ∷ []) after) in
    can_from c (before ++ e ∷ []) after frame (subst P on l) (subst Q on can)
    (is ∙ sym (append_assoc (labels_of before) (t ∷ []) (known_in after)) ∙ ap (λ x. x ++ known_in after) (sym (labels_append before (e ∷ []))))
can_from c before (to_make t ∷ after) frame l can is =
    let e = to_make t in
    let P : List PlanEvent → Type 0 = λ x. KnowsLead x in
    let Q : List PlanEvent → Type 0 = λ x. CanSendAll c x in
    let on = sym (append_assoc before (e ∷ []) after) in
    let nothing = leads_behind before after e l refl in
    can_from c (before ++ e ∷ []) after (frame ++ t ∷ []) (subst P on l) (subst Q on can)
    (ap (λ x. x ++ t ∷ []) (is ∙ ap (λ x. labels_of before ++ x) nothing ∙ append-nil (labels_of before)) ∙ sym (labels_append before (e ∷ [])) ∙ sym (append-nil (labels_of (before ++ e ∷ []))) ∙ ap (λ x. labels_of (before ++ e ∷ []) ++ x) (sym nothing))
can_from c before (to_send i t ∷ after) frame l can is =
    let e = to_send i t in
    let P : List PlanEvent → Type 0 = λ x. KnowsLead x in
    let Q : List PlanEvent → Type 0 = λ x. CanSendAll c x in
    let on = sym (append_assoc before (e ∷ []) after) in
    let nothing = leads_behind before after e l refl in
    let frame_is : frame ≡ labels_of before = is ∙ ap (λ x. labels_of before ++ x) nothing ∙ append-nil (labels_of before) in
    let H : List Tree → Type 0 = λ x. HasRecipe (has_operator c.formats) x t in (
      subst H (sym frame_is) (can before after i t refl),
      can_from c (before ++ e ∷ []) after frame (subst P on l) (subst Q on can) (frame_is ∙ sym (append-nil (labels_of before)) ∙ sym (labels_append before (e ∷ [])) ∙ sym (append-nil (labels_of (before ++ e ∷ []))) ∙ ap (λ x. labels_of (before ++ e ∷ []) ++ x) (sym nothing)),
    )
can_from c before (to_receive i t ∷ after) frame l can is =
    let e = to_receive i t in
    let P : List PlanEvent → Type 0 = λ x. KnowsLead x in
    let Q : List PlanEvent → Type 0 = λ x. CanSendAll c x in
    let on = sym (append_assoc before (e ∷ []) after) in
    let nothing = leads_behind before after e l refl in
    can_from c (before ++ e ∷ []) after (frame ++ t ∷ []) (subst P on l) (subst Q on can)
    (ap (λ x. x ++ t ∷ []) (is ∙ ap (λ x. labels_of before ++ x) nothing ∙ append-nil (labels_of before)) ∙ sym (labels_append before (e ∷ [])) ∙ sym (append-nil (labels_of (before ++ e ∷ []))) ∙ ap (λ x. labels_of (before ++ e ∷ []) ++ x) (sym nothing))

pub is_sendable : (c : Context) (plan : List PlanEvent) → IsPlan c plan → CanSendAll c plan → Sendable (has_operator c.formats) (map event_of plan)
is_sendable c plan is can = can_from c [] plan (known (map event_of plan)) is.leads can (known_events plan)

-- ---- actions come in the order of their numbers

Above : ℕ → List PlanEvent → Type 0
Above n [] = Unit {0}
Above n (to_know t ∷ es) = Above n es
Above n (to_make t ∷ es) = Above n es
Above n (to_send i t ∷ es) = (n < i) × Above i es
Above n (to_receive i t ∷ es) = Above n es

above_less : (m n : ℕ) (es : List PlanEvent) → m ≤ n → Above n es → Above m es
unfolding Above
above_less m n [] h a = tt
above_less m n (to_know t ∷ es) h a = above_less m n es h a
above_less m n (to_make t ∷ es) h a = above_less m n es h a
above_less m n (to_send i t ∷ es) h a = (omega (arith, h, a.0), a.1)
above_less m n (to_receive i t ∷ es) h a = above_less m n es h a

above_fresh : (n i : ℕ) (names : List ℕ) (t : Tree) (es : List PlanEvent) → n < i → Above i es → Above n ((map (λ x. to_make (leaf x)) names ++ to_send i t ∷ []) ++ es)
unfolding Above
above_fresh n i [] t es h a = (h, a)
above_fresh n i (x ∷ names) t es h a = above_fresh n i names t es h a

above_each : (p : ProtocolValue) (role : ℕ) (before actions : List ActionValue) → Above (length before) (each_after (events_at p role) before actions)
unfolding Above
above_each p role before [] = tt
above_each p role before (a ∷ actions) =
    let n = length before + 1 in
    let rest = each_after (events_at p role) (before ++ a ∷ []) actions in
    let m = length-append before (a ∷ []) in
    let A : ℕ → Type 0 = λ k. Above k rest in
    let on : Above n rest = subst A m (above_each p role (before ++ a ∷ []) actions) in
    own_cases (λ l. Above (length before) (l ++ rest)) role n (made p before a.message) a
    (above_fresh (length before) n (made p before a.message) a.message rest (omega arith) on) (above_less (length before) n rest (omega arith) on) (above_less (length before) n rest (omega arith) on)

above_knows : (n : ℕ) (ts : List Tree) (es : List PlanEvent) → Above n es → Above n (map to_know ts ++ es)
unfolding Above
above_knows n [] es a = a
above_knows n (t ∷ ts) es a = above_knows n ts es a

above_behind : (n i j : ℕ) (t u : Tree) (before mid after : List PlanEvent) → Above n (before ++ (to_send i t ∷ (mid ++ (to_send j u ∷ after)))) → i < j
unfolding Above
above_behind n i j t u [] mid after a = later i mid a.1
  where
    later : (k : ℕ) (xs : List PlanEvent) → Above k (xs ++ (to_send j u ∷ after)) → k < j
    later k [] b = b.0
    later k (to_know v ∷ xs) b = later k xs b
    later k (to_make v ∷ xs) b = later k xs b
    later k (to_send l v ∷ xs) b = (let h = later l xs b.1 in let g = b.0 in omega arith)
    later k (to_receive l v ∷ xs) b = later k xs b
above_behind n i j t u (to_know v ∷ before) mid after a = above_behind n i j t u before mid after a
above_behind n i j t u (to_make v ∷ before) mid after a = above_behind n i j t u before mid after a
above_behind n i j t u (to_send l v ∷ before) mid after a = above_behind l i j t u before mid after a.1
above_behind n i j t u (to_receive l v ∷ before) mid after a = above_behind n i j t u before mid after a

-- two places of one list
two_places : (b b' a a' : List PlanEvent) (x y : PlanEvent) → b ++ (x ∷ a) ≡ b' ++ (y ∷ a')
    → ((mid : List PlanEvent) × (b ≡ b' ++ (y ∷ mid))) ⊎ ((x ≡ y) ⊎ ((mid : List PlanEvent) × (b' ≡ b ++ (x ∷ mid))))
two_places [] [] a a' x y e = inr (inl cc)
two_places [] (z ∷ b') a a' x y e = inr (inr (b', (let s : x ≡ z = cc in ap (λ q. q ∷ b') (sym s))))
two_places (z ∷ b) [] a a' x y e = inl (b, (let s : z ≡ y = cc in ap (λ q. q ∷ b) s))
two_places (z ∷ b) (w ∷ b') a a' x y e =
    let s : z ≡ w = cc in
    let r : b ++ (x ∷ a) ≡ b' ++ (y ∷ a') = cc in
    elim (two_places b b' a a' x y r) [
      | inl h ↦ inl (h.0, ap (λ l. z ∷ l) h.1 ∙ ap (λ q. q ∷ (b' ++ (y ∷ h.0))) s)
      | inr g ↦ elim g [
        | inl h ↦ inr (inl h)
        | inr h ↦ inr (inr (h.0, ap (λ l. w ∷ l) h.1 ∙ ap (λ q. q ∷ (b ++ (x ∷ h.0))) (sym s)))
      ]
    ]

not_before : (p : ProtocolValue) (role action other : ℕ) → IsBlocked (record { formats = p.formats; suite = p.suite; plan = events_of p role }) (plan_of p role) action → other < action → IsUnsent p role other → ⊥
unfolding plan_of Above
not_before p role action other b less u =
    let x = to_send action b.message in
    let y = to_send other u.message in
    let same : b.before ++ (x ∷ b.after) ≡ u.before ++ (y ∷ u.after) = sym b.is ∙ u.plan in
    let above = above_knows 0 (known_by p role) (each_after (events_at p role) [] p.actions) (above_each p role [] p.actions) in
    let A : List PlanEvent → Type 0 = λ l. Above 0 l in
    elim (two_places b.before u.before b.after u.after x y same) [
      | inl h ↦ u.no_recipe (b.sendable u.before h.0 other u.message h.1)
      | inr g ↦ elim g [
        | inl h ↦ (let e : action ≡ other = cc in absurd (omega (arith, e, less)))
        | inr h ↦
            let at : plan_of p role ≡ b.before ++ (x ∷ (h.0 ++ (y ∷ u.after))) = u.plan ∙ ap (λ l. l ++ (y ∷ u.after)) h.1 ∙ append_assoc b.before (x ∷ h.0) (y ∷ u.after) in
            absurd (omega (arith, less, above_behind 0 action other b.message u.message b.before h.0 u.after (subst A at above)))
      ]
    ]

pub first_unsent : (p : ProtocolValue) (role action : ℕ) → IsBlocked (record { formats = p.formats; suite = p.suite; plan = events_of p role }) (plan_of p role) action → IsFirstUnsent p role action
first_unsent p role action blocked = record {
  unsent = record { before = blocked.before; message = blocked.message; after = blocked.after; plan = blocked.is; no_recipe = blocked.no_recipe };
  first = λ other less unsent. not_before p role action other blocked less unsent;
}

pub refused_role : (p : ProtocolValue) (role : ℕ) (no : CompileNo) → IsPlan (record { formats = p.formats; suite = p.suite; plan = events_of p role }) (plan_of p role) → RefusesPlan (plan_of p role) role no → RefusesRole p role no
refused_role p role (CannotSend action sender) is refused = (refused.0, first_unsent p role action (refused.1 (record { formats = p.formats; suite = p.suite; plan = events_of p role }) is))
refused_role p role NoMemory is refused = tt

pub known_of_plan : (p : ProtocolValue) (role : ℕ) → known_in (plan_of p role) ≡ known_by p role
unfolding plan_of
known_of_plan p role =
    let ks = known_by p role in
    known_append (map to_know ks) (each_after (events_at p role) [] p.actions) ∙ ap (λ l. known_in (map to_know ks) ++ l) (each_known p role [] p.actions) ∙ append-nil (known_in (map to_know ks)) ∙ knows_known ks
