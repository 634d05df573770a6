-- The spare name in place of a term, and the term in place of the spare name.
use Rattle.std.proofs.Common.{◌≡◌, ℕ, suc, ◌<◌, List, [], ◌∷◌, length, map, Bool, true, false, cond, refl, sym, ap, ◌∙◌, arith}
use Rattle.std.specs.Prelude.{◌==◌}
use Rattle.std.specs.List.{AllByRecursion}
use Rattle.std.proofs.lemmas.Bool.{eqb-true, eq-eqb}
use Rattle.anb_term.specs.declared.term.Op.{Op}
use Rattle.anb_term.specs.Tree.{Tree, leaf, node, Trees, none, more, trees_of, list_of, tree_eqb, tree_size, trees_size, IsFormed, AreFormed}
use Rattle.anb_term.specs.TreeSame.{tree_itself, tree_same}
use Rattle.anb_term.specs.FreeAlgebra.{terms}
use Rattle.anb_term.proofs.Lists.{tree_differs}
use Rattle.anb_algebra.specs.ByteMeaning.{has_operator}
use Rattle.anb_plays.specs.Plans.{known}
use Rattle.anb_plays.specs.Honest.{honest, honest_all, heard, made}
use Rattle.anb_protocol.specs.Protocols.{ProtocolValue}
use Rattle.anb_protocol.specs.Plans.{PlanEvent, to_know, to_make, to_send, to_receive, term_in}
use Rattle.anb_protocol.specs.Plays.{event_of}
use Rattle.anb_protocol.specs.Texts.{IsTermOf, AreTermsOf}
use Rattle.anb_probe.specs.Cases.{for_spare}
use Rattle.anb_openings.specs.Openings.{spared, all_spared}

module _ (names : ℕ) (opened : Tree) where
  abbrev back : Tree → Tree
  back t = honest terms (for_spare names opened) t

  back_spare : back (leaf names) ≡ opened
  back_spare = ap (λ b. cond b opened (leaf names)) (eq-eqb names names refl)

  back_name : (n : ℕ) → n < names → back (leaf n) ≡ leaf n
  back_name n h = kept (n == names) refl
    where
      kept : (b : Bool) → (n == names) ≡ b → cond b opened (leaf n) ≡ leaf n
      kept true e = absurd (let s : n ≡ names = eqb-true n names e in omega arith)
      kept false e = refl

  -- where a term is the opened one, and where it isn't
  again_by : (t u : Tree) (b : Bool) → tree_eqb t opened ≡ b → back u ≡ t → back (cond b (leaf names) u) ≡ t
  again_by t u true e h = back_spare ∙ sym (tree_same t opened e)
  again_by t u false e h = h

  formed_by : (has : Op → Bool) (u : Tree) (b : Bool) → IsFormed has u → IsFormed has (cond b (leaf names) u)
  formed_by has u true f = tt
  formed_by has u false f = f

  long_spared : (ts : Trees) → length (list_of (all_spared names opened ts)) ≡ length (list_of ts)
  long_spared none = refl
  long_spared (more t ts) = ap suc (long_spared ts)

  -- what is smaller than the opened term holds no spare name, where that is put back
  mutual
    pub smaller_stays : (t : Tree) → tree_size (back t) < tree_size opened → back t ≡ t
    smaller_stays (leaf n) h = kept (n == names) refl
      where
        kept : (b : Bool) → (n == names) ≡ b → cond b opened (leaf n) ≡ leaf n
        kept true e = absurd (let s : back (leaf n) ≡ opened = ap (λ c. cond c opened (leaf n)) e in omega (arith, ap tree_size s, h))
        kept false e = refl
    smaller_stays (node o ts) h = ap (node o) (smaller_stay ts (omega (arith, h)))

    smaller_stay : (ts : Trees) → trees_size (trees_of (honest_all terms (for_spare names opened) ts)) < tree_size opened → trees_of (honest_all terms (for_spare names opened) ts) ≡ ts
    smaller_stay none h = refl
    smaller_stay (more t ts) h =
        ap (λ x. more x (trees_of (honest_all terms (for_spare names opened) ts))) (smaller_stays t (omega (arith, h))) ∙ ap (more t) (smaller_stay ts (omega (arith, h)))

  pub smaller_each : (ts : List Tree) → trees_size (trees_of (map back ts)) < tree_size opened → map back ts ≡ ts
  smaller_each [] h = refl
  smaller_each (t ∷ ts) h = ap (λ x. x ∷ map back ts) (smaller_stays t (omega (arith, h))) ∙ ap (λ l. t ∷ l) (smaller_each ts (omega (arith, h)))

  module _ (p : ProtocolValue) (is : names ≡ length p.atoms) where
    mutual
      -- a term of the protocol has no spare name
      pub kept : (t : Tree) → IsTermOf p t → back t ≡ t
      kept (leaf n) h = back_name n (omega (arith, h, is))
      kept (node o ts) h = ap (node o) (all_kept ts h.2)

      all_kept : (ts : Trees) → AreTermsOf p ts → trees_of (honest_all terms (for_spare names opened) ts) ≡ ts
      all_kept none h = refl
      all_kept (more t ts) h = ap (λ x. more x (trees_of (honest_all terms (for_spare names opened) ts))) (kept t h.0) ∙ ap (more t) (all_kept ts h.1)

    pub each_kept : (ts : List Tree) → AllByRecursion (IsTermOf p) ts → map back ts ≡ ts
    each_kept [] h = refl
    each_kept (t ∷ ts) h = ap (λ x. x ∷ map back ts) (kept t h.0) ∙ ap (λ l. t ∷ l) (each_kept ts h.1)

    mutual
      again : (t : Tree) → IsTermOf p t → back (spared names opened t) ≡ t
      again (leaf n) h = again_by (leaf n) (leaf n) (tree_eqb (leaf n) opened) refl (back_name n (omega (arith, h, is)))
      again (node o ts) h = again_by (node o ts) (node o (all_spared names opened ts)) (tree_eqb (node o ts) opened) refl (ap (node o) (all_again ts h.2))

      all_again : (ts : Trees) → AreTermsOf p ts → trees_of (honest_all terms (for_spare names opened) (all_spared names opened ts)) ≡ ts
      all_again none h = refl
      all_again (more t ts) h = ap (λ x. more x (trees_of (honest_all terms (for_spare names opened) (all_spared names opened ts)))) (again t h.0) ∙ ap (more t) (all_again ts h.1)

    mutual
      formed : (t : Tree) → IsTermOf p t → IsFormed (has_operator p.formats) (spared names opened t)
      formed (leaf n) h = formed_by (has_operator p.formats) (leaf n) (tree_eqb (leaf n) opened) tt
      formed (node o ts) h = formed_by (has_operator p.formats) (node o (all_spared names opened ts)) (tree_eqb (node o ts) opened) (h.0, long_spared ts ∙ h.1, all_formed ts h.2)

      all_formed : (ts : Trees) → AreTermsOf p ts → AreFormed (has_operator p.formats) (all_spared names opened ts)
      all_formed none h = tt
      all_formed (more t ts) h = (formed t h.0, all_formed ts h.1)

    pub each_again : (ts : List Tree) → AllByRecursion (IsTermOf p) ts → map back (map (spared names opened) ts) ≡ ts
    each_again [] h = refl
    each_again (t ∷ ts) h = ap (λ x. x ∷ map back (map (spared names opened) ts)) (again t h.0) ∙ ap (λ l. t ∷ l) (each_again ts h.1)

    pub each_formed : (ts : List Tree) → AllByRecursion (IsTermOf p) ts → AreFormed (has_operator p.formats) (trees_of (map (spared names opened) ts))
    each_formed [] h = tt
    each_formed (t ∷ ts) h = (formed t h.0, each_formed ts h.1)

mutual
  -- terms over some operators are terms
  formed_any : (has : Op → Bool) (t : Tree) → IsFormed has t → IsFormed (λ o. true) t
  formed_any has (leaf n) f = tt
  formed_any has (node o ts) f = (refl, f.1, all_formed_any has ts f.2)

  pub all_formed_any : (has : Op → Bool) (ts : Trees) → AreFormed has ts → AreFormed (λ o. true) ts
  all_formed_any has none f = tt
  all_formed_any has (more t ts) f = (formed_any has t f.0, all_formed_any has ts f.1)

-- what is heard along a plan of terms of a protocol
pub heard_terms : (p : ProtocolValue) (es : List PlanEvent) → AllByRecursion (λ e. IsTermOf p (term_in e)) es → AllByRecursion (IsTermOf p) (heard (map event_of es))
heard_terms p [] h = tt
heard_terms p (to_know t ∷ es) h = heard_terms p es h.1
heard_terms p (to_make t ∷ es) h = heard_terms p es h.1
heard_terms p (to_send j t ∷ es) h = heard_terms p es h.1
heard_terms p (to_receive j t ∷ es) h = (h.0, heard_terms p es h.1)

pub known_terms : (p : ProtocolValue) (es : List PlanEvent) → AllByRecursion (λ e. IsTermOf p (term_in e)) es → AllByRecursion (IsTermOf p) (known (map event_of es))
known_terms p [] h = tt
known_terms p (to_know t ∷ es) h = (h.0, known_terms p es h.1)
known_terms p (to_make t ∷ es) h = known_terms p es h.1
known_terms p (to_send j t ∷ es) h = known_terms p es h.1
known_terms p (to_receive j t ∷ es) h = known_terms p es h.1

pub made_terms : (p : ProtocolValue) (es : List PlanEvent) → AllByRecursion (λ e. IsTermOf p (term_in e)) es → AllByRecursion (IsTermOf p) (made (map event_of es))
made_terms p [] h = tt
made_terms p (to_know t ∷ es) h = made_terms p es h.1
made_terms p (to_make t ∷ es) h = (h.0, made_terms p es h.1)
made_terms p (to_send j t ∷ es) h = made_terms p es h.1
made_terms p (to_receive j t ∷ es) h = made_terms p es h.1

-- ---- a term that is the opened one, and one that isn't

pub spared_same : (spare : ℕ) (opened t : Tree) → t ≡ opened → spared spare opened t ≡ leaf spare
spared_same spare opened (leaf n) e = ap (λ b. cond b (leaf spare) (leaf n)) (ap (tree_eqb (leaf n)) (sym e) ∙ tree_itself (leaf n))
spared_same spare opened (node o ts) e = ap (λ b. cond b (leaf spare) (node o (all_spared spare opened ts))) (ap (tree_eqb (node o ts)) (sym e) ∙ tree_itself (node o ts))

differs : (x y : Tree) → (x ≡ y → ⊥) → tree_eqb x y ≡ false
differs x y apart = tree_differs (tree_eqb x y) x y refl apart

pub spared_leaf : (spare : ℕ) (opened : Tree) (n : ℕ) → (leaf n ≡ opened → ⊥) → spared spare opened (leaf n) ≡ leaf n
spared_leaf spare opened n apart = ap (λ b. cond b (leaf spare) (leaf n)) (differs (leaf n) opened apart)

each_spared : (spare : ℕ) (opened : Tree) (ts : List Tree) → all_spared spare opened (trees_of ts) ≡ trees_of (map (spared spare opened) ts)
each_spared spare opened [] = refl
each_spared spare opened (t ∷ ts) = ap (more (spared spare opened t)) (each_spared spare opened ts)

pub spared_node : (spare : ℕ) (opened : Tree) (o : Op) (ts : List Tree) → (node o (trees_of ts) ≡ opened → ⊥) → spared spare opened (node o (trees_of ts)) ≡ node o (trees_of (map (spared spare opened) ts))
spared_node spare opened o ts apart =
    ap (λ b. cond b (leaf spare) (node o (all_spared spare opened (trees_of ts)))) (differs (node o (trees_of ts)) opened apart) ∙ ap (node o) (each_spared spare opened ts)
