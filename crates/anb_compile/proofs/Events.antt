-- Plans: what is known comes first, and each term is formed.
use Rattle.std.proofs.Common.{◌≡◌, ◌+◌, ◌≤◌, List, [], ◌∷◌, ◌++◌, map, Bool, true, refl, ap, ◌∙◌, arith}
use Rattle.std.specs.List.{AllByRecursion}
use Rattle.std.proofs.lemmas.Grind.{flat_map-append}
use Rattle.anb_term.specs.declared.term.Op.{Op}
use Rattle.anb_term.specs.Tree.{Tree, leaf, node, Trees, none, more, trees_of, tree_size, nodes, IsFormed, AreFormed}
use Rattle.anb_close.proofs.Growing.{nodes_append}
use Rattle.anb_plays.specs.Plans.{know, fresh, send, recv, known}
use Rattle.anb_protocol.specs.Plans.{PlanEvent, to_know, to_make, to_send, to_receive, term_in}
use Rattle.anb_protocol.specs.Plays.{event_of}
use Rattle.anb_compile.specs.Unsent.{label_of, labels_of}
use Rattle.anb_compile.specs.Emitting.{others, known_in, KnowsLead}

pub labels_append : (xs ys : List PlanEvent) → labels_of (xs ++ ys) ≡ labels_of xs ++ labels_of ys
labels_append xs ys = flat_map-append label_of xs ys

pub known_append : (xs ys : List PlanEvent) → known_in (xs ++ ys) ≡ known_in xs ++ known_in ys
known_append [] ys = refl
known_append (to_know t ∷ xs) ys = ap (λ l. t ∷ l) (known_append xs ys)
known_append (to_make t ∷ xs) ys = known_append xs ys
known_append (to_send i t ∷ xs) ys = known_append xs ys
known_append (to_receive i t ∷ xs) ys = known_append xs ys

pub others_append : (xs ys : List PlanEvent) → others (xs ++ ys) ≡ others xs ++ others ys
others_append [] ys = refl
others_append (to_know t ∷ xs) ys = others_append xs ys
others_append (to_make t ∷ xs) ys = ap (λ l. fresh t ∷ l) (others_append xs ys)
others_append (to_send i t ∷ xs) ys = ap (λ l. send t ∷ l) (others_append xs ys)
others_append (to_receive i t ∷ xs) ys = ap (λ l. recv t ∷ l) (others_append xs ys)

-- what is known in the plan's events
pub known_events : (es : List PlanEvent) → known (map event_of es) ≡ known_in es
known_events [] = refl
known_events (to_know t ∷ es) = ap (λ l. t ∷ l) (known_events es)
known_events (to_make t ∷ es) = known_events es
known_events (to_send i t ∷ es) = known_events es
known_events (to_receive i t ∷ es) = known_events es

-- where nothing is known, the others are all
pub others_all : (es : List PlanEvent) → known_in es ≡ [] → others es ≡ map event_of es
others_all [] e = refl
others_all (to_know t ∷ es) e = cc
others_all (to_make t ∷ es) e = ap (λ l. fresh t ∷ l) (others_all es e)
others_all (to_send i t ∷ es) e = ap (λ l. send t ∷ l) (others_all es e)
others_all (to_receive i t ∷ es) e = ap (λ l. recv t ∷ l) (others_all es e)

-- what leads, and then the others, are all
pub whole_plan : (es : List PlanEvent) → KnowsLead es → map know (known_in es) ++ others es ≡ map event_of es
whole_plan [] l = refl
whole_plan (to_know t ∷ es) l = ap (λ x. know t ∷ x) (whole_plan es l)
whole_plan (to_make t ∷ es) l = ap (λ x. map know x ++ others (to_make t ∷ es)) l ∙ ap (λ x. fresh t ∷ x) (others_all es l)
whole_plan (to_send i t ∷ es) l = ap (λ x. map know x ++ others (to_send i t ∷ es)) l ∙ ap (λ x. send t ∷ x) (others_all es l)
whole_plan (to_receive i t ∷ es) l = ap (λ x. map know x ++ others (to_receive i t ∷ es)) l ∙ ap (λ x. recv t ∷ x) (others_all es l)

none_behind : (before after : List PlanEvent) (e : PlanEvent) → known_in (before ++ (e ∷ after)) ≡ [] → known_in after ≡ []
none_behind [] after (to_know t) l = cc
none_behind [] after (to_make t) l = l
none_behind [] after (to_send i t) l = l
none_behind [] after (to_receive i t) l = l
none_behind (to_know t ∷ before) after e l = cc
none_behind (to_make t ∷ before) after e l = none_behind before after e l
none_behind (to_send i t ∷ before) after e l = none_behind before after e l
none_behind (to_receive i t ∷ before) after e l = none_behind before after e l

-- nothing is known behind another event
pub leads_behind : (before after : List PlanEvent) (e : PlanEvent) → KnowsLead (before ++ (e ∷ after)) → known_in (e ∷ []) ≡ [] → known_in after ≡ []
leads_behind [] after (to_know t) l n = cc
leads_behind [] after (to_make t) l n = l
leads_behind [] after (to_send i t) l n = l
leads_behind [] after (to_receive i t) l n = l
leads_behind (to_know t ∷ before) after e l n = leads_behind before after e l n
leads_behind (to_make t ∷ before) after e l n = none_behind before after e l
leads_behind (to_send i t ∷ before) after e l n = none_behind before after e l
leads_behind (to_receive i t ∷ before) after e l n = none_behind before after e l

some_known : (before after : List PlanEvent) (t : Tree) → known_in (before ++ (to_know t ∷ after)) ≡ [] → ⊥
some_known [] after t l = cc
some_known (to_know u ∷ before) after t l = cc
some_known (to_make u ∷ before) after t l = some_known before after t l
some_known (to_send i u ∷ before) after t l = some_known before after t l
some_known (to_receive i u ∷ before) after t l = some_known before after t l

-- before something known all is known
pub leads_before : (before after : List PlanEvent) (t : Tree) → KnowsLead (before ++ (to_know t ∷ after)) → labels_of before ≡ known_in before
leads_before [] after t l = refl
leads_before (to_know u ∷ before) after t l = ap (λ x. u ∷ x) (leads_before before after t l)
leads_before (to_make u ∷ before) after t l = absurd (some_known before after t l)
leads_before (to_send i u ∷ before) after t l = absurd (some_known before after t l)
leads_before (to_receive i u ∷ before) after t l = absurd (some_known before after t l)

-- ---- terms

mutual
  pub formed_any : (has : Op → Bool) (t : Tree) → IsFormed has t → IsFormed (λ o. true) t
  formed_any has (leaf n) f = tt
  formed_any has (node o ts) f = (refl, f.1, formed_any_all has ts f.2)

  formed_any_all : (has : Op → Bool) (ts : Trees) → AreFormed has ts → AreFormed (λ o. true) ts
  formed_any_all has none f = tt
  formed_any_all has (more t ts) f = (formed_any has t f.0, formed_any_all has ts f.1)

pub formed_next : (has : Op → Bool) (before after : List PlanEvent) (e : PlanEvent) → AllByRecursion (λ x. IsFormed has (term_in x)) (before ++ (e ∷ after)) → IsFormed has (term_in e)
formed_next has [] after e all = all.0
formed_next has (x ∷ before) after e all = formed_next has before after e all.1

pub formed_labels : (has : Op → Bool) (before after : List PlanEvent) → AllByRecursion (λ x. IsFormed has (term_in x)) (before ++ after) → AreFormed has (trees_of (labels_of before))
formed_labels has [] after all = tt
formed_labels has (to_know t ∷ before) after all = (all.0, formed_labels has before after all.1)
formed_labels has (to_make t ∷ before) after all = (all.0, formed_labels has before after all.1)
formed_labels has (to_send i t ∷ before) after all = formed_labels has before after all.1
formed_labels has (to_receive i t ∷ before) after all = (all.0, formed_labels has before after all.1)

pub labels_have : (P : Tree → Type 0) (before after : List PlanEvent) → AllByRecursion (λ x. P (term_in x)) (before ++ after) → AllByRecursion P (labels_of before)
labels_have P [] after all = tt
labels_have P (to_know t ∷ before) after all = (all.0, labels_have P before after all.1)
labels_have P (to_make t ∷ before) after all = (all.0, labels_have P before after all.1)
labels_have P (to_send i t ∷ before) after all = labels_have P before after all.1
labels_have P (to_receive i t ∷ before) after all = (all.0, labels_have P before after all.1)

pub has_next : (P : Tree → Type 0) (before after : List PlanEvent) (e : PlanEvent) → AllByRecursion (λ x. P (term_in x)) (before ++ (e ∷ after)) → P (term_in e)
has_next P [] after e all = all.0
has_next P (x ∷ before) after e all = has_next P before after e all.1

pub labels_first : (before after : List PlanEvent) → nodes (labels_of before) ≤ nodes (labels_of (before ++ after))
labels_first before after = omega (arith, ap nodes (labels_append before after), nodes_append (labels_of before) (labels_of after))

pub nodes_next : (before after : List PlanEvent) (e : PlanEvent) (t : Tree) → label_of e ≡ t ∷ [] → nodes (labels_of before) + tree_size t ≤ nodes (labels_of (before ++ (e ∷ after)))
nodes_next before after e t is =
    let a = ap nodes (labels_append before (e ∷ after)) ∙ nodes_append (labels_of before) (labels_of (e ∷ after)) in
    let b : nodes (labels_of (e ∷ after)) ≡ nodes ((t ∷ []) ++ labels_of after) = ap (λ l. nodes (l ++ labels_of after)) is in
    omega (arith, a, b)
