-- Terms kept by their texts.
use Rattle.std.proofs.Common.{◌≡◌, ℕ, zero, suc, ◌+◌, ◌<◌, ◌≤◌, List, [], ◌∷◌, ◌++◌, length, map, take, get_or, Ordering, Less, Equal, Greater, Option, Some, None, Vec, Global, refl, sym, ap, ◌∙◌, subst, inl, inr, ◌⊎◌, ⊎_elim, arith}
use Rattle.std.specs.Prelude.{slice_index_or, AllPairs, MatchOption, IfSome}
use Rattle.std.specs.List.{AllByRecursion}
use Rattle.std.specs.List.Sorted.{IsStrictlySortedBy}
use Rattle.std.specs.Ordering.{nat_cmp, match_ordering}
use Rattle.std.specs.Cmp.Lexicographic.{slice_cmp}
use Rattle.std.specs.BTreeMap.{insert_entry}
use Rattle.std.proofs.lemmas.Map.Lookups.{exact_bytes}
use Rattle.std.proofs.lemmas.List.{map_more}
use Rattle.anb_term.specs.declared.term.Term.{Term}
use Rattle.anb_term.specs.Tree.{Tree, leaf, node, Trees, none, more, trees_of, IsFormed, AreFormed}
use Rattle.anb_term.specs.View.{tree_of}
use Rattle.anb_term.specs.Composes.{Among}
use Rattle.anb_term.specs.Agree.{HasRecipe}
use Rattle.anb_algebra.specs.ByteMeaning.{has_operator}
use Rattle.anb_protocol.specs.Protocols.{ProtocolValue}
use Rattle.anb_protocol.specs.Texts.{term_text, IsTermOf, AreTermsOf}
use Rattle.anb_protocol.specs.WellFormed.{IsProtocol}
use Rattle.anb_protocol.proofs.Differing.{names_of}
use Rattle.anb_protocol.proofs.ReadOnce.{text_once}
use Rattle.anb_reason.specs.declared.found.Found.{Found}
use Rattle.anb_reason.specs.Shut.{Occurs, OccursIn}
use Rattle.anb_reason.specs.Reach.{IsBefore}
use Rattle.anb_reason.specs.Found.{trees_in, IsKeyed, Finds}

pub none_of : {M : Type 0} (o : Option M) (H : Type 0) → MatchOption o (H → ⊥) (λ m. Unit {0}) → o ≡ None → H → ⊥
none_of None H m e = m
none_of (Some x) H m e = cc

pub some_of : {M : Type 0} (o : Option M) (x : M) (V : M → Type 0) → IfSome o V → o ≡ Some x → V x
some_of None x V h e = cc
some_of (Some y) x V h e = let s : y ≡ x = cc in subst V s h

pub all_gone : {K : Type 0} (es : List (K × Term)) (n k : ℕ) → length es + k ≡ n → n ≤ k → map (λ e. tree_of e.1) es ≡ []
all_gone [] n k e h = refl
all_gone (x ∷ es) n k e h = absurd (omega (arith, e, h))

mutual
  -- a term of a protocol is formed
  pub is_formed : (p : ProtocolValue) (t : Tree) → IsTermOf p t → IsFormed (has_operator p.formats) t
  is_formed p (leaf n) h = tt
  is_formed p (node o ts) h = (h.0, h.1, are_formed p ts h.2)

  are_formed : (p : ProtocolValue) (ts : Trees) → AreTermsOf p ts → AreFormed (has_operator p.formats) ts
  are_formed p none h = tt
  are_formed p (more t ts) h = (is_formed p t h.0, are_formed p ts h.1)

module _ {K : Type 0} (f : K → List ℕ) (p : ProtocolValue) (once : (t u : Tree) → IsTermOf p t → IsTermOf p u → term_text p t ≡ term_text p u → t ≡ u) where
  abbrev order : K → K → Ordering
  order j k = slice_cmp nat_cmp (f j) (f k)

  abbrev trees : List (K × Term) → List Tree
  trees es = map (λ e. tree_of e.1) es

  abbrev Stands : K × Term → Type 0
  Stands e = (f e.0 ≡ term_text p (tree_of e.1)) × IsTermOf p (tree_of e.1)

  abbrev Keyed : List (K × Term) → Type 0
  Keyed es = AllByRecursion (λ e. (f e.0 ≡ term_text p (tree_of e.1)) × IsTermOf p (tree_of e.1)) es

  module _ (k : K) (v : Term) (own : f k ≡ term_text p (tree_of v)) (is_term : IsTermOf p (tree_of v)) where
    -- what is there once the entry is inserted
    Right : List (K × Term) → List (K × Term) → Type 0
    Right es rest = Keyed rest × Among (trees rest) (tree_of v) × ((u : Tree) → Among (trees es) u → Among (trees rest) u) × ((u : Tree) → Among (trees rest) u → Among (trees es) u ⊎ (u ≡ tree_of v))

    step : (o : Ordering) (e : K × Term) (es rest : List (K × Term)) → order k e.0 ≡ o → Keyed (e ∷ es) → Right es rest → Right (e ∷ es) (match_ordering o ((k, v) ∷ e ∷ es) ((e.0, v) ∷ es) (e ∷ rest))
    unfolding Right
    step Less e es rest is keyed r = (((own, is_term), keyed), inl refl, (λ u h. inr h), λ u h. ⊎_elim (λ s. inr (sym s)) (λ a. inl a) h)
    step Equal e es rest is keyed r =
        let same : f k ≡ f e.0 = exact_bytes (f k) (f e.0) is in
        let one : tree_of v ≡ tree_of e.1 = once (tree_of v) (tree_of e.1) is_term keyed.0.1 (sym own ∙ same ∙ keyed.0.0) in
        (((sym same ∙ own, is_term), keyed.1), inl refl, (λ u h. ⊎_elim (λ s. inl (one ∙ s)) (λ a. inr a) h), λ u h. ⊎_elim (λ s. inr (sym s)) (λ a. inl (inr a)) h)
    step Greater e es rest is keyed r =
        ((keyed.0, r.0), inr r.1, (λ u h. ⊎_elim (λ s. inl s) (λ a. inr (r.2 u a)) h), λ u h. ⊎_elim (λ s. inl (inl s)) (λ a. ⊎_elim (λ b. inl (inr b)) (λ b. inr b) (r.3 u a)) h)

    inserted : (es : List (K × Term)) → Keyed es → Right es (insert_entry order es k v)
    unfolding Right
    inserted [] keyed = (((own, is_term), tt), inl refl, (λ u h. absurd h), λ u h. ⊎_elim (λ s. inr (sym s)) (λ a. inl a) h)
    inserted (e ∷ es) keyed = step (order k e.0) e es (insert_entry order es k v) refl keyed (inserted es keyed.1)

module _ {K : Type 0} (f : K → List ℕ) (p : ProtocolValue) where
  text_at : (es : List (K × Term)) (j : ℕ) (x : K) (d : Tree) → AllByRecursion (λ e. (f e.0 ≡ term_text p (tree_of e.1)) × IsTermOf p (tree_of e.1)) es → j < length (map (λ e. tree_of e.1) es) → AllByRecursion (λ y. slice_cmp nat_cmp (f x) (f y) ≡ Less) (map (λ e. e.0) es) → slice_cmp nat_cmp (f x) (term_text p (slice_index_or (map (λ e. tree_of e.1) es) j d)) ≡ Less
  text_at [] j x d keyed h all = absurd (omega (arith, h))
  text_at (e ∷ es) zero x d keyed h all = ap (slice_cmp nat_cmp (f x)) (sym keyed.0.0) ∙ all.0
  text_at (e ∷ es) (suc j) x d keyed h all = text_at es j x d keyed.1 (omega (arith, h)) all.1

  -- entries in the order of their keys are terms in the order of their texts
  pub sorted_pairs : (es : List (K × Term)) → AllByRecursion (λ e. (f e.0 ≡ term_text p (tree_of e.1)) × IsTermOf p (tree_of e.1)) es → IsStrictlySortedBy (λ j k. slice_cmp nat_cmp (f j) (f k)) (map (λ e. e.0) es) → AllPairs (IsBefore p) (map (λ e. tree_of e.1) es)
  unfolding IsStrictlySortedBy
  sorted_pairs [] keyed sorted i j d l h = absurd (omega (arith, h))
  sorted_pairs (e ∷ es) keyed sorted zero zero d l h = absurd (omega (arith, l))
  sorted_pairs (e ∷ es) keyed sorted zero (suc j) d l h = ap (λ z. slice_cmp nat_cmp z (term_text p (slice_index_or (map (λ e. tree_of e.1) es) j d))) (sym keyed.0.0) ∙ text_at es j e.0 d keyed.1 (omega (arith, h)) sorted.0
  sorted_pairs (e ∷ es) keyed sorted (suc i) zero d l h = absurd (omega (arith, l))
  sorted_pairs (e ∷ es) keyed sorted (suc i) (suc j) d l h = sorted_pairs es keyed.1 sorted.1 i j d (omega (arith, l)) (omega (arith, h))

module _ (p : ProtocolValue) (frame : List Tree) where
  pub found_none : (In : Tree → Type 0) (a : Found) → ((u : Tree) → In u → HasRecipe (has_operator p.formats) frame u → ⊥) → Finds p frame In a a
  found_none In a h = record { keyed = λ k. k; before = λ k u x. x; all = λ k u x r. absurd (h u x r); only = λ k u x. inl x }

  pub found_both : (In Also : Tree → Type 0) (a b c : Found) → Finds p frame In a b → Finds p frame Also b c → Finds p frame (λ u. In u ⊎ Also u) a c
  found_both In Also a b c x y = record {
    keyed = λ k. y.keyed (x.keyed k);
    before = λ k u h. y.before (x.keyed k) u (x.before k u h);
    all = λ k u h r. ⊎_elim (λ i. y.before (x.keyed k) u (x.all k u i r)) (λ i. y.all (x.keyed k) u i r) h;
    only = λ k u h. ⊎_elim (λ g. ⊎_elim (λ m. inl m) (λ m. inr (inl m.0, m.1)) (x.only k u g)) (λ g. inr (inr g.0, g.1)) (y.only (x.keyed k) u h);
  }

  pub found_same : (In Also : Tree → Type 0) (a b : Found) → ((u : Tree) → In u → Also u) → ((u : Tree) → Also u → In u) → Finds p frame In a b → Finds p frame Also a b
  found_same In Also a b to from x = record {
    keyed = x.keyed;
    before = x.before;
    all = λ k u h r. x.all k u (from u h) r;
    only = λ k u h. ⊎_elim (λ m. inl m) (λ m. inr (to u m.0, m.1)) (x.only k u h);
  }

  -- a term was put in at its text
  pub found_one : (t : Tree) (v : Term) (k : Vec ℕ Global) (a b : Found) → IsProtocol p → k.items ≡ term_text p t → tree_of v ≡ t → b.terms.entries ≡ insert_entry (λ i j. slice_cmp nat_cmp i.items j.items) a.terms.entries k v
      → IsTermOf p t → HasRecipe (has_operator p.formats) frame t → Finds p frame (λ u. u ≡ t) a b
  unfolding Right
  found_one t v k a b protocol text same is is_term has =
      let once = text_once p (names_of p protocol) in
      let own : k.items ≡ term_text p (tree_of v) = text ∙ ap (term_text p) (sym same) in
      let term : IsTermOf p (tree_of v) = subst (IsTermOf p) (sym same) is_term in
      let put : IsKeyed p a → Right (λ x. x.items) p once k v own term a.terms.entries b.terms.entries =
      λ keyed. subst (Right (λ x. x.items) p once k v own term a.terms.entries) (sym is) (inserted (λ x. x.items) p once k v own term a.terms.entries keyed) in
      record {
        keyed = λ h. (put h).0;
        before = λ h u x. (put h).2 u x;
        all = λ h u x r. subst (Among (trees_in b)) (same ∙ sym x) (put h).1;
        only = λ h u x. ⊎_elim (λ m. inl m) (λ m. let e : u ≡ t = m ∙ same in inr (e, subst (HasRecipe (has_operator p.formats) frame) (sym e) has)) ((put h).3 u x);
      }

-- what occurs in the first terms, and in one more
occurs_last : (ts : List Tree) (x u : Tree) → OccursIn u (trees_of (ts ++ x ∷ [])) → OccursIn u (trees_of ts) ⊎ Occurs u x
occurs_last [] x u h = ⊎_elim (λ a. inr a) (λ a. absurd a) h
occurs_last (t ∷ ts) x u h = ⊎_elim (λ a. inl (inl a)) (λ a. ⊎_elim (λ b. inl (inr b)) (λ b. inr b) (occurs_last ts x u a)) h

occurs_before : (ts : List Tree) (x u : Tree) → OccursIn u (trees_of ts) ⊎ Occurs u x → OccursIn u (trees_of (ts ++ x ∷ []))
occurs_before [] x u h = ⊎_elim (λ a. absurd a) (λ a. inl a) h
occurs_before (t ∷ ts) x u (inl (inl a)) = inl a
occurs_before (t ∷ ts) x u (inl (inr a)) = inr (occurs_before ts x u (inl a))
occurs_before (t ∷ ts) x u (inr a) = inr (occurs_before ts x u (inr a))

pub found_next : (p : ProtocolValue) (frame : List Tree) (xs : List Term) (i : ℕ) (x : Term) (a b c : Found) → i < length xs → x ≡ get_or xs i x
    → Finds p frame (λ u. OccursIn u (trees_of (map tree_of (take i xs)))) a b → Finds p frame (λ u. Occurs u (tree_of x)) b c → Finds p frame (λ u. OccursIn u (trees_of (map tree_of (take (i + 1) xs)))) a c
found_next p frame xs i x a b c h own first next =
    let longer : map tree_of (take (i + 1) xs) ≡ map tree_of (take i xs) ++ tree_of x ∷ [] = map_more tree_of xs i x h ∙ ap (λ z. map tree_of (take i xs) ++ tree_of z ∷ []) (sym own) in
    subst (λ l. Finds p frame (λ u. OccursIn u (trees_of l)) a c) (sym longer)
    (found_same p frame (λ u. OccursIn u (trees_of (map tree_of (take i xs))) ⊎ Occurs u (tree_of x)) (λ u. OccursIn u (trees_of (map tree_of (take i xs) ++ tree_of x ∷ []))) a c
    (occurs_before (map tree_of (take i xs)) (tree_of x)) (occurs_last (map tree_of (take i xs)) (tree_of x))
    (found_both p frame (λ u. OccursIn u (trees_of (map tree_of (take i xs)))) (λ u. Occurs u (tree_of x)) a b c first next))
