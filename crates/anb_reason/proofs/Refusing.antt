-- Where a plan can't go on, and what is told of it.
use Rattle.std.proofs.Common.{◌≡◌, ℕ, zero, suc, ◌+◌, ◌<◌, ◌≤◌, List, [], ◌∷◌, ◌++◌, length, map, take, drop, get_or, true, Bool, refl, sym, ap, ◌∙◌, subst, inl, inr, ◌⊎◌, ⊎_elim, arith}
use Rattle.std.specs.List.{AllByRecursion}
use Rattle.std.proofs.lemmas.List.{map_more, take_all}
use Rattle.anb_term.specs.declared.term.Op.{Op}
use Rattle.anb_term.specs.declared.term.Term.{Term}
use Rattle.anb_term.specs.Tree.{Tree, leaf, node, Trees, none, more, trees_of, nodes, IsFormed, AreFormed}
use Rattle.anb_term.specs.View.{tree_of}
use Rattle.anb_term.specs.Agree.{HasRecipe}
use Rattle.anb_algebra.specs.ByteMeaning.{has_operator}
use Rattle.anb_protocol.specs.Protocols.{ProtocolValue}
use Rattle.anb_protocol.specs.Texts.{IsTermOf, AreTermsOf}
use Rattle.anb_protocol.specs.Laws.{HoldsOf}
use Rattle.anb_protocol.specs.Plans.{PlanEvent, to_know, to_make, to_send, to_receive, plan_of, term_in}
use Rattle.anb_protocol.specs.Views.{plan_event}
use Rattle.anb_protocol.specs.declared.plans.Event.{Event}
use Rattle.anb_compile.specs.Unsent.{label_of, labels_of, IsUnsent, IsFirstUnsentOfAll}
use Rattle.anb_compile.proofs.Events.{labels_append, formed_any, formed_labels, labels_have, has_next}
use Rattle.anb_compile.proofs.Protocols.{plan_is}
use Rattle.anb_compile.proofs.Whole.{events_parted}
use Rattle.anb_compile.proofs.Doing.{cut_last}
use Rattle.anb_reason.specs.declared.found.Found.{Found}
use Rattle.anb_reason.specs.declared.reasons.Refusal.{Refusal}
use Rattle.anb_reason.specs.Shut.{Occurs, OccursIn, IsShut}
use Rattle.anb_reason.specs.Reach.{OccursInOne, IsReach, IsReason}
use Rattle.anb_reason.specs.Found.{Finds}
use Rattle.anb_reason.specs.Stuck.{IsStuck}
use Rattle.anb_reason.proofs.Finding.{found_both, found_same, is_formed}
use Rattle.anb_reason.proofs.Reaching.{reach_shut}
use Rattle.anb_reason.proofs.Deciding.{among_all}

-- ---- an event's label

-- what holds of an event's term holds of its label
pub label_has : (P : Tree → Type 0) (e : PlanEvent) → P (term_in e) → AllByRecursion P (label_of e)
label_has P (to_know u) h = (h, tt)
label_has P (to_make u) h = (h, tt)
label_has P (to_send i u) h = tt
label_has P (to_receive i u) h = (h, tt)

labels_last : (es : List PlanEvent) (e : PlanEvent) → labels_of (es ++ e ∷ []) ≡ labels_of es ++ label_of e
labels_last es e = labels_append es (e ∷ []) ∙ ap (λ l. labels_of es ++ l) (nothing (label_of e)) where
  nothing : (ts : List Tree) → ts ++ [] ≡ ts
  nothing [] = refl
  nothing (t ∷ ts) = ap (λ l. t ∷ l) (nothing ts)

one_front : (xs ys : List Tree) (u : Tree) → OccursInOne xs u ⊎ OccursInOne ys u → OccursInOne (xs ++ ys) u
one_front [] ys u (inl h) = absurd h
one_front [] ys u (inr h) = h
one_front (x ∷ xs) ys u (inl (inl h)) = inl h
one_front (x ∷ xs) ys u (inl (inr h)) = inr (one_front xs ys u (inl h))
one_front (x ∷ xs) ys u (inr h) = inr (one_front xs ys u (inr h))

pub one_of_both : (xs ys : List Tree) (u : Tree) → OccursInOne (xs ++ ys) u → OccursInOne xs u ⊎ OccursInOne ys u
one_of_both [] ys u h = inr h
one_of_both (x ∷ xs) ys u (inl h) = inl (inl h)
one_of_both (x ∷ xs) ys u (inr h) = ⊎_elim (λ a. inl (inr a)) (λ a. inr a) (one_of_both xs ys u h)

-- the labels of one event more
labels_next : (events : List Event) (i : ℕ) (x : Event) → i < length events → x ≡ get_or events i x → labels_of (map plan_event (take (i + 1) events)) ≡ labels_of (map plan_event (take i events)) ++ label_of (plan_event x)
labels_next events i x h own =
    ap labels_of (map_more plan_event events i x h ∙ ap (λ y. map plan_event (take i events) ++ plan_event y ∷ []) (sym own)) ∙ labels_last (map plan_event (take i events)) (plan_event x)

pub found_event : (p : ProtocolValue) (frame : List Tree) (events : List Event) (i : ℕ) (x : Event) (a b c : Found) → i < length events → x ≡ get_or events i x
    → Finds p frame (λ u. OccursInOne (labels_of (map plan_event (take i events))) u) a b → Finds p frame (λ u. OccursInOne (label_of (plan_event x)) u) b c
    → Finds p frame (λ u. OccursInOne (labels_of (map plan_event (take (i + 1) events))) u) a c
found_event p frame events i x a b c h own first next =
    let before = labels_of (map plan_event (take i events)) in
    let here = label_of (plan_event x) in
    subst (λ l. Finds p frame (λ u. OccursInOne l u) a c) (sym (labels_next events i x h own))
    (found_same p frame (λ u. OccursInOne before u ⊎ OccursInOne here u) (λ u. OccursInOne (before ++ here) u) a c (one_front before here) (one_of_both before here)
    (found_both p frame (λ u. OccursInOne before u) (λ u. OccursInOne here u) a b c first next))

-- ---- along a plan

-- the terms of the labels before a place
pub record At (p : ProtocolValue) (role : ℕ) (events : List Event) (i : ℕ) (frame : List Tree) : Type 0 where
  pub plan : map plan_event events ≡ plan_of p role
  pub labels : frame ≡ labels_of (map plan_event (take i events))

module _ (p : ProtocolValue) (role : ℕ) (events : List Event) (i : ℕ) (frame : List Tree) (holds : HoldsOf p) (at : At p role events i frame) where
  whole : map plan_event (take i events) ++ map plan_event (drop i events) ≡ plan_of p role
  whole = both_parts plan_event i events ∙ at.plan where
    both_parts : {A B : Type 0} (f : A → B) (n : ℕ) (xs : List A) → map f (take n xs) ++ map f (drop n xs) ≡ map f xs
    both_parts f zero xs = refl
    both_parts f (suc n) [] = refl
    both_parts f (suc n) (x ∷ xs) = ap (λ l. f x ∷ l) (both_parts f n xs)

  pub at_formed : AreFormed (has_operator p.formats) (trees_of frame)
  at_formed =
      let has = has_operator p.formats in
      subst (λ l. AreFormed has (trees_of l)) (sym at.labels)
      (formed_labels has (map plan_event (take i events)) (map plan_event (drop i events)) (subst (AllByRecursion (λ e. IsFormed has (term_in e))) (sym whole) (plan_is p role holds).formed))

  pub at_terms : AllByRecursion (λ e. IsTermOf p (term_in e)) (plan_of p role) → AllByRecursion (λ e. IsTermOf p (term_in e)) (map plan_event (take i events))
  at_terms all = front (map plan_event (take i events)) (map plan_event (drop i events)) (subst (AllByRecursion (λ e. IsTermOf p (term_in e))) (sym whole) all) where
    front : (xs ys : List PlanEvent) → AllByRecursion (λ e. IsTermOf p (term_in e)) (xs ++ ys) → AllByRecursion (λ e. IsTermOf p (term_in e)) xs
    front [] ys h = tt
    front (x ∷ xs) ys h = (h.0, front xs ys h.1)

  module _ (x : Event) (h : i < length events) (own : x ≡ get_or events i x) where
    split : map plan_event (take i events) ++ (plan_event x ∷ map plan_event (drop (i + 1) events)) ≡ plan_of p role
    split = sym (events_parted plan_event events i x h own) ∙ at.plan

    pub at_term : AllByRecursion (λ e. IsTermOf p (term_in e)) (plan_of p role) → IsTermOf p (term_in (plan_event x))
    at_term all = has_next (IsTermOf p) (map plan_event (take i events)) (map plan_event (drop (i + 1) events)) (plan_event x) (subst (AllByRecursion (λ e. IsTermOf p (term_in e))) (sym split) all)

    pub at_label : AllByRecursion (IsFormed (λ o. true)) (label_of (plan_event x))
    at_label =
        let has = has_operator p.formats in
        label_has (IsFormed (λ o. true)) (plan_event x) (formed_any has (term_in (plan_event x))
        (has_next (IsFormed has) (map plan_event (take i events)) (map plan_event (drop (i + 1) events)) (plan_event x) (subst (AllByRecursion (λ e. IsFormed has (term_in e))) (sym split) (plan_is p role holds).formed)))

    pub at_few : nodes frame + nodes (label_of (plan_event x)) < 4294967295
    at_few =
        let before = map plan_event (take i events) in
        let after = map plan_event (drop (i + 1) events) in
        let a = nodes_label before after (plan_event x) in
        omega (arith, ap nodes at.labels, a, ap (λ l. nodes (labels_of l)) split, (plan_is p role holds).few) where
          nodes_both : (xs ys : List Tree) → nodes (xs ++ ys) ≡ nodes xs + nodes ys
          nodes_both [] ys = omega arith
          nodes_both (t ∷ xs) ys = omega (arith, nodes_both xs ys)

          nodes_label : (before after : List PlanEvent) (e : PlanEvent) → nodes (labels_of before) + nodes (label_of e) ≤ nodes (labels_of (before ++ (e ∷ after)))
          nodes_label before after e = omega (arith, ap nodes (labels_append before (e ∷ after)), nodes_both (labels_of before) (labels_of (e ∷ after)), nodes_both (label_of e) (labels_of after))

    pub at_next : (frame' : List Tree) → frame' ≡ frame ++ label_of (plan_event x) → At p role events (i + 1) frame'
    at_next frame' is = record { plan = at.plan; labels = is ∙ ap (λ l. l ++ label_of (plan_event x)) at.labels ∙ sym (labels_next events i x h own) }

-- no event before sends the action's message without a recipe
abbrev pub NoneStuck : ProtocolValue → ℕ → List PlanEvent → Type 0
NoneStuck p action before = (front back : List PlanEvent) (t : Tree) → before ≡ front ++ (to_send action t ∷ back) → (HasRecipe (has_operator p.formats) (labels_of front) t → ⊥) → ⊥

pub none_next : (p : ProtocolValue) (action : ℕ) (events : List Event) (i : ℕ) (x : Event) → i < length events → x ≡ get_or events i x → NoneStuck p action (map plan_event (take i events))
    → (IsStuck p (labels_of (map plan_event (take i events))) action (plan_event x) → ⊥) → NoneStuck p action (map plan_event (take (i + 1) events))
none_next p action events i x h own stuck free front back t is never =
    let before = map plan_event (take i events) in
    let longer : map plan_event (take (i + 1) events) ≡ before ++ plan_event x ∷ [] = map_more plan_event events i x h ∙ ap (λ y. before ++ plan_event y ∷ []) (sym own) in
    ⊎_elim (λ a. free (t, a.1, subst (λ l. HasRecipe (has_operator p.formats) (labels_of l) t → ⊥) (sym a.0) never)) (λ a. stuck front a.0 t a.1 never)
    (cut_last before front back (plan_event x) (to_send action t) (sym longer ∙ is))

pub none_left : (p : ProtocolValue) (role action : ℕ) (events : List Event) (i : ℕ) → map plan_event events ≡ plan_of p role → length events ≤ i → NoneStuck p action (map plan_event (take i events)) → IsUnsent p role action → ⊥
none_left p role action events i is h stuck unsent = stuck unsent.before unsent.after unsent.message (ap (map plan_event) (take_all i events h) ∙ is ∙ unsent.plan) unsent.no_recipe

-- the refusal
pub reason_is : (p : ProtocolValue) (role action : ℕ) (events : List Event) (i : ℕ) (frame : List Tree) (x : Event) (term : Term) (terms : List Tree) → HoldsOf p → IsFirstUnsentOfAll p role action → At p role events i frame
    → i < length events → x ≡ get_or events i x → AllByRecursion (λ e. IsTermOf p (term_in e)) (plan_of p role) → IsStuck p frame action (plan_event x) → tree_of term ≡ term_in (plan_event x) → IsReach p frame terms
    → IsReason p (record { action = action; role = role; term = term; terms = terms })
reason_is p role action events i frame x term terms holds first at h own all stuck same reach =
    let before = map plan_event (take i events) in
    let after = map plan_event (drop (i + 1) events) in
    let split : plan_of p role ≡ before ++ (plan_event x ∷ after) = sym at.plan ∙ events_parted plan_event events i x h own in
    let never : HasRecipe (has_operator p.formats) (labels_of before) stuck.0 → ⊥ = subst (λ l. HasRecipe (has_operator p.formats) l stuck.0 → ⊥) at.labels stuck.2 in
    let message : stuck.0 ≡ tree_of term = sym (ap term_in stuck.1) ∙ sym same in
    let own_term : IsFormed (has_operator p.formats) (tree_of term) = subst (IsFormed (has_operator p.formats)) (sym same) (is_formed p (term_in (plan_event x)) (at_term p role events i frame holds at x h own all)) in
    let formed : AllByRecursion (IsFormed (has_operator p.formats)) frame = to_list (has_operator p.formats) frame (at_formed p role events i frame holds at) in
    record {
      unsent = record { before = before; message = stuck.0; after = after; plan = split ∙ ap (λ e. before ++ (e ∷ after)) stuck.1; no_recipe = never };
      first = first.first;
      role = first.is_role;
      message = message;
      reach = subst (λ l. IsReach p l terms) at.labels reach;
      shut = subst (λ l. IsShut l terms (tree_of term)) at.labels (reach_shut p frame terms (tree_of term) formed own_term reach (subst (λ t. HasRecipe (has_operator p.formats) frame t → ⊥) message stuck.2));
    } where
      to_list : (has : Op → Bool) (ts : List Tree) → AreFormed has (trees_of ts) → AllByRecursion (IsFormed has) ts
      to_list has [] a = tt
      to_list has (t ∷ ts) a = (a.0, to_list has ts a.1)

-- ---- the terms of a reason are the protocol's

mutual
  term_within : (p : ProtocolValue) (t u : Tree) → IsTermOf p t → Occurs u t → IsTermOf p u
  term_within p (leaf n) u h e = subst (IsTermOf p) (sym e) h
  term_within p (node o ts) u h (inl e) = subst (IsTermOf p) (sym e) h
  term_within p (node o ts) u h (inr e) = term_among p ts u h.2 e

  term_among : (p : ProtocolValue) (ts : Trees) (u : Tree) → AreTermsOf p ts → OccursIn u ts → IsTermOf p u
  term_among p none u h e = absurd e
  term_among p (more t ts) u h (inl e) = term_within p t u h.0 e
  term_among p (more t ts) u h (inr e) = term_among p ts u h.1 e

term_of_one : (p : ProtocolValue) (frame : List Tree) (u : Tree) → AllByRecursion (IsTermOf p) frame → OccursInOne frame u → IsTermOf p u
term_of_one p [] u h e = absurd e
term_of_one p (t ∷ frame) u h (inl e) = term_within p t u h.0 e
term_of_one p (t ∷ frame) u h (inr e) = term_of_one p frame u h.1 e

pub reason_told : (p : ProtocolValue) (r : Refusal) → IsReason p r → AllByRecursion (λ e. IsTermOf p (term_in e)) (plan_of p r.role) → IsTermOf p (tree_of r.term) × AllByRecursion (IsTermOf p) r.terms
reason_told p r reason all =
    let u = reason.unsent in
    let ours = subst (AllByRecursion (λ e. IsTermOf p (term_in e))) u.plan all in
    let frame = labels_have (IsTermOf p) u.before (to_send r.action u.message ∷ u.after) ours in (
      subst (IsTermOf p) reason.message (has_next (IsTermOf p) u.before u.after (to_send r.action u.message) ours),
      among_all (IsTermOf p) r.terms (λ v a. term_of_one p (labels_of u.before) v frame (reason.reach.held v a).0),
    )
