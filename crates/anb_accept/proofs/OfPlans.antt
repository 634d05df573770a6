-- The labels of a role's plan are terms of the protocol, and few.
use Rattle.std.proofs.Common.{◌≡◌, ℕ, zero, suc, ◌+◌, ◌<◌, ◌≤◌, List, [], ◌∷◌, ◌++◌, length, map, take, true, refl, arith}
use Rattle.std.specs.List.{AllByRecursion}
use Rattle.anb_term.specs.Tree.{Tree, leaf, node, Trees, none, more, trees_of, nodes, IsFormed, AreFormed}
use Rattle.anb_algebra.specs.ByteMeaning.{has_operator}
use Rattle.anb_plays.specs.Plans.{known}
use Rattle.anb_close.proofs.Growing.{nodes_append}
use Rattle.anb_protocol.specs.Protocols.{ProtocolValue}
use Rattle.anb_protocol.specs.Texts.{IsTermOf, AreTermsOf}
use Rattle.anb_protocol.specs.Plans.{PlanEvent, to_know, to_make, to_send, to_receive, term_in, plan_of}
use Rattle.anb_protocol.specs.Plays.{event_of}
use Rattle.anb_protocol.specs.Laws.{HoldsOf}
use Rattle.anb_compile.specs.Unsent.{labels_of}
use Rattle.anb_compile.proofs.Protocols.{plan_is}
use Rattle.anb_accept.specs.Taking.{later, labels}
use Rattle.anb_unify.specs.Substitutions.{IsNamed, AreNamed}

module _ (p : ProtocolValue) where
  mutual
    term_formed : (t : Tree) → IsTermOf p t → IsFormed (has_operator p.formats) t
    term_formed (leaf n) h = tt
    term_formed (node o ts) h = (h.0, h.1, terms_formed ts h.2)

    terms_formed : (ts : Trees) → AreTermsOf p ts → AreFormed (has_operator p.formats) ts
    terms_formed none h = tt
    terms_formed (more t ts) h = (term_formed t h.0, terms_formed ts h.1)

  mutual
    term_any : (t : Tree) → IsTermOf p t → IsFormed (λ o. true) t
    term_any (leaf n) h = tt
    term_any (node o ts) h = (refl, h.1, terms_any ts h.2)

    terms_any : (ts : Trees) → AreTermsOf p ts → AreFormed (λ o. true) ts
    terms_any none h = tt
    terms_any (more t ts) h = (term_any t h.0, terms_any ts h.1)

  mutual
    term_named : (t : Tree) → IsTermOf p t → IsNamed (length p.atoms) t
    term_named (leaf n) h = h
    term_named (node o ts) h = terms_named ts h.2

    terms_named : (ts : Trees) → AreTermsOf p ts → AreNamed (length p.atoms) ts
    terms_named none h = tt
    terms_named (more t ts) h = (term_named t h.0, terms_named ts h.1)

  of_known : (es : List PlanEvent) → AllByRecursion (λ e. IsTermOf p (term_in e)) es → AreTermsOf p (trees_of (known (map event_of es)))
  of_known [] h = tt
  of_known (to_know t ∷ es) h = (h.0, of_known es h.1)
  of_known (to_make t ∷ es) h = of_known es h.1
  of_known (to_send i t ∷ es) h = of_known es h.1
  of_known (to_receive i t ∷ es) h = of_known es h.1

  of_later : (es : List PlanEvent) → AllByRecursion (λ e. IsTermOf p (term_in e)) es → AreTermsOf p (trees_of (later (map event_of es)))
  of_later [] h = tt
  of_later (to_know t ∷ es) h = of_later es h.1
  of_later (to_make t ∷ es) h = (h.0, of_later es h.1)
  of_later (to_send i t ∷ es) h = of_later es h.1
  of_later (to_receive i t ∷ es) h = (h.0, of_later es h.1)

  of_both : (xs ys : List Tree) → AreTermsOf p (trees_of xs) → AreTermsOf p (trees_of ys) → AreTermsOf p (trees_of (xs ++ ys))
  of_both [] ys h g = g
  of_both (x ∷ xs) ys h g = (h.0, of_both xs ys h.1 g)

  module _ (es : List PlanEvent) (terms : AllByRecursion (λ e. IsTermOf p (term_in e)) es) where
    all_terms : AreTermsOf p (trees_of (labels (map event_of es)))
    all_terms = of_both (known (map event_of es)) (later (map event_of es)) (of_known es terms) (of_later es terms)

    pub labels_formed : AreFormed (has_operator p.formats) (trees_of (labels (map event_of es)))
    labels_formed = terms_formed (trees_of (labels (map event_of es))) all_terms

    pub labels_any : AreFormed (λ o. true) (trees_of (labels (map event_of es)))
    labels_any = terms_any (trees_of (labels (map event_of es))) all_terms

    pub labels_named : AreNamed (length p.atoms) (trees_of (labels (map event_of es)))
    labels_named = terms_named (trees_of (labels (map event_of es))) all_terms

  nodes_split : (es : List PlanEvent) → nodes (known (map event_of es)) + nodes (later (map event_of es)) ≡ nodes (labels_of es)
  nodes_split [] = refl
  nodes_split (to_know t ∷ es) = omega (arith, nodes_split es)
  nodes_split (to_make t ∷ es) = omega (arith, nodes_split es)
  nodes_split (to_send i t ∷ es) = nodes_split es
  nodes_split (to_receive i t ∷ es) = omega (arith, nodes_split es)

  -- the first events have no more nodes than all
  first_fewer : (k : ℕ) (es : List PlanEvent) → nodes (labels_of (take k es)) ≤ nodes (labels_of es)
  first_fewer zero es = omega arith
  first_fewer (suc k) [] = omega arith
  first_fewer (suc k) (to_know t ∷ es) = omega (arith, first_fewer k es)
  first_fewer (suc k) (to_make t ∷ es) = omega (arith, first_fewer k es)
  first_fewer (suc k) (to_send i t ∷ es) = first_fewer k es
  first_fewer (suc k) (to_receive i t ∷ es) = omega (arith, first_fewer k es)

  pub labels_few : (role k : ℕ) → HoldsOf p → nodes (labels (map event_of (take k (plan_of p role)))) < 4294967295
  labels_few role k holds =
      let es = take k (plan_of p role) in
      let few = (plan_is p role holds).few in
      omega (arith, nodes_append (known (map event_of es)) (later (map event_of es)), nodes_split es, first_fewer k (plan_of p role), few)
