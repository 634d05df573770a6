-- Classes that are saturated and named by what is tied are Tied, and decide the rules.
use Rattle.std.proofs.Common.{◌≡◌, ℕ, zero, suc, ◌<◌, List, [], ◌∷◌, take, Bool, true, false, Option, Some, None, refl, sym, ap, ◌∙◌, subst, inl, inr, ◌⊎◌, ⊎_elim, arith}
use Rattle.std.specs.Prelude.{slice_get, ◌==◌, ◌||◌, ◌↔◌, not}
use Rattle.std.specs.List.{list_any, list_all}
use Rattle.std.proofs.lemmas.Bool.{eqb-true, eq-eqb, and_parts, and_from, or_right, not-true, not_from_false, or_left, or_cases}
use Rattle.anb_close.specs.Rows.{is_at}
use Rattle.anb_close.proofs.Rows.{is_at_same}
use Rattle.anb_term.specs.declared.term.Op.{Op}
use Rattle.anb_term.specs.Operator.{keys, undoable, op_eqb}
use Rattle.anb_term.specs.Tree.{Tree, leaf, node, list_of, tree_eqb}
use Rattle.anb_term.specs.TreeSame.{op_same, op_itself, tree_itself}
use Rattle.anb_term.specs.Composes.{Composes}
use Rattle.anb_plays.specs.Codes.{Work, make, undo, equal}
use Rattle.anb_certify.specs.Tied.{Did, InPairs, Ties, Tied, KeepsRules}
use Rattle.anb_reason.specs.Decided.{composes}
use Rattle.anb_certify.specs.Classes.{both_are, in_class, Saturated, AreNamed, ClassesAreTied, RulesTie, all_below, hashes_it, knows_it, rule_test, register_test, RulesAreDecided}
use Rattle.anb_reason.proofs.Deciding.{decides, decided, all_from, all_true, if_then, then_if}
use Rattle.anb_certify.proofs.Falling.{back_tied, on_tied}

both_parts : (x y : Option ℕ) → both_are x y ≡ true → (c : ℕ) × (x ≡ Some c) × (y ≡ Some c)
both_parts (Some c) (Some d) e = (c, refl, ap Some (sym (eqb-true c d e)))
both_parts (Some c) None e = cc
both_parts None y e = cc

abbrev pub Classed : List ℕ → ℕ → ℕ → Type 0
Classed cs a b = (a ≡ b) ⊎ ((c : ℕ) × (slice_get cs a ≡ Some c) × (slice_get cs b ≡ Some c))

pub classed : (cs : List ℕ) (a b : ℕ) → in_class cs a b ≡ true → Classed cs a b
unfolding Classed
classed cs a b e = ⊎_elim (λ s. inl (eqb-true a b s)) (λ s. inr (both_parts _ _ s)) (or_cases (a == b) (both_are (slice_get cs a) (slice_get cs b)) e)

pub in_one : (cs : List ℕ) (a b c : ℕ) → slice_get cs a ≡ Some c → slice_get cs b ≡ Some c → in_class cs a b ≡ true
in_one cs a b c e f = or_right (a == b) _ (rw (e, f) (eq-eqb c c refl))

alike : (cs : List ℕ) (a b : ℕ) → a ≡ b → in_class cs a b ≡ true
alike cs a b e = or_left (a == b) _ (eq-eqb a b e)

pub turn : (cs : List ℕ) (a b : ℕ) → Classed cs a b → in_class cs b a ≡ true
unfolding Classed
turn cs a b (inl e) = alike cs b a (sym e)
turn cs a b (inr e) = in_one cs b a e.0 e.2 e.1

pub join : (cs : List ℕ) (a b c : ℕ) → Classed cs a b → Classed cs b c → in_class cs a c ≡ true
unfolding Classed
join cs a b c (inl e) (inl f) = alike cs a c (e ∙ f)
join cs a b c (inl e) (inr f) = in_one cs a c f.0 (ap (slice_get cs) e ∙ f.1) f.2
join cs a b c (inr e) (inl f) = in_one cs a c e.0 e.1 (ap (slice_get cs) (sym f) ∙ e.2)
join cs a b c (inr e) (inr f) = in_one cs a c e.0 e.1 (f.2 ∙ (sym f.1 ∙ e.2))

ties : (did : List (ℕ × Work)) (cs : List ℕ) → Saturated did cs → Ties did (in_class cs)
ties did cs s = record {
  itself = λ a. alike cs a a refl;
  turned = λ a b e. turn cs a b (classed cs a b e);
  joined = λ a b c e f. join cs a b c (classed cs a b e) (classed cs b c f);
  compared = s.compared;
  built = s.built;
  undone = s.undone;
}

itself : (did : List (ℕ × Work)) (a b : ℕ) → a ≡ b → Tied did a b
itself did a b e = λ Q t. subst (λ c. Q a c ≡ true) e (t.itself a)

-- registers of one class are tied
named : (did : List (ℕ × Work)) (cs : List ℕ) → AreNamed did cs → (a b : ℕ) → Classed cs a b → Tied did a b
unfolding Classed
named did cs j a b (inl e) = itself did a b e
named did cs j a b (inr e) = on_tied did a e.0 b (j a e.0 e.1) (back_tied did b e.0 (j b e.0 e.2))

pub classes_are_tied : ClassesAreTied
classes_are_tied did cs s j a b = (λ t. t (in_class cs) (ties did cs s), λ e. named did cs j a b (classed cs a b e))

pairs_in : (did : List (ℕ × Work)) (cs : List ℕ) → AreNamed did cs → (Q : ℕ → ℕ → Bool) → Ties did Q → (ns ms : List ℕ) → InPairs (in_class cs) ns ms → InPairs Q ns ms
pairs_in did cs j Q t [] [] h = tt
pairs_in did cs j Q t [] (k ∷ ms) h = h
pairs_in did cs j Q t (n ∷ ns) [] h = h
pairs_in did cs j Q t (n ∷ ns) (k ∷ ms) h = (named did cs j n k (classed cs n k h.0) Q t, pairs_in did cs j Q t ns ms h.1)

pub rules_tie : RulesTie
rules_tie did cs j = (
  λ at a b s Q t. t.compared at a b s,
  λ at bt o ns ms s u h Q t. t.built at bt o ns ms s u (pairs_in did cs j Q t ns ms h),
  λ at bt o ks ls n k i s u h e l Q t. t.undone at bt o ks ls n k i s u (pairs_in did cs j Q t ks ls h) (named did cs j n k (classed cs n k e) Q t) l,
)

-- ---- the rules, decided

some_from : (f : ℕ × Work → Bool) (did : List (ℕ × Work)) (at : ℕ) (w : Work) → Did did at w → f (at, w) ≡ true → list_any f did ≡ true
some_from f [] at w d e = absurd d
some_from f (s ∷ did) at w (inl d) e =
    let P : ℕ → Type 0 = λ k. f (k, w) ≡ true in
    let Q : Work → Type 0 = λ v. f (s.0, v) ≡ true in
    or_left (f s) _ (subst Q (sym d.1) (subst P (sym d.0) e))
some_from f (s ∷ did) at w (inr d) e = or_right (f s) _ (some_from f did at w d e)

some_is : (f : ℕ × Work → Bool) (did : List (ℕ × Work)) → list_any f did ≡ true → (at : ℕ) × (w : Work) × Did did at w × (f (at, w) ≡ true)
some_is f [] e = cc
some_is f (s ∷ did) e = ⊎_elim (λ a. (s.0, s.1, inl (refl, refl), a)) (λ b. let r = some_is f did b in (r.0, r.1, inr r.2, r.3)) (or_cases (f s) _ e)

below_from : (f : ℕ → Bool) (n : ℕ) → ((k : ℕ) → k < n → f k ≡ true) → all_below f n ≡ true
below_from f zero h = refl
below_from f (suc n) h = and_from (f n) _ (h n (omega arith)) (below_from f n (λ k l. h k (omega (arith, l))))

same_or : (i j : ℕ) → i < suc j → (i < j) ⊎ (j ≡ i)
same_or zero zero l = inr refl
same_or zero (suc j) l = inl (omega arith)
same_or (suc i) zero l = absurd (omega (arith, l))
same_or (suc i) (suc j) l = ⊎_elim (λ a. inl (omega (arith, a))) (λ b. inr (ap suc b)) (same_or i j (omega (arith, l)))

below_is : (f : ℕ → Bool) (n : ℕ) → all_below f n ≡ true → (k : ℕ) → k < n → f k ≡ true
below_is f zero e k l = absurd (omega (arith, l))
below_is f (suc n) e k l = let b = and_parts (f n) _ e in ⊎_elim (λ a. below_is f n b.1 k a) (λ s. subst (λ j. f j ≡ true) s b.0) (same_or k n l)

unless : (a b : Bool) → (a ≡ false → b ≡ true) → (a || b) ≡ true
unless true b h = refl
unless false b h = h refl

not_is : (a b : Bool) → (a || b) ≡ true → a ≡ false → b ≡ true
not_is true b e f = cc
not_is false b e f = e

term_from : (o : Option Tree) (t : Tree) → o ≡ Some t → is_at o t ≡ true
term_from None t e = cc
term_from (Some u) t e = let s : u ≡ t = cc in subst (λ z. tree_eqb u z ≡ true) s (tree_itself u)

module _ (did : List (ℕ × Work)) (cs : List ℕ) (ts : List Tree) (exact : (a b : ℕ) → Tied did a b ↔ (in_class cs a b ≡ true)) where
  hash_of : (i : ℕ) (at : ℕ) (w : Work) → Did did at w → hashes_it cs i (at, w) ≡ true → (at : ℕ) × (p : Op) × (ns : List ℕ) × (undoable p ≡ false) × Did did at (make p ns) × Tied did i at
  hash_of i at (make p ns) d e = let b = and_parts (not (undoable p)) _ e in (at, p, ns, not-true _ b.0, d, (exact i at).1 b.1)
  hash_of i at (undo p ks n) d e = cc
  hash_of i at (equal a b) d e = cc

  known_of : (i : ℕ) (o : Op) (at : ℕ) (w : Work) → Did did at w → knows_it cs i o (at, w) ≡ true
      → ((at : ℕ) × (ns : List ℕ) × Did did at (make o ns) × Tied did i at) ⊎ ((at : ℕ) × (p : Op) × (ks : List ℕ) × (n : ℕ) × Did did at (undo p ks n) × Tied did i n)
  known_of i o at (make p ns) d e = let b = and_parts (op_eqb o p) _ e in inl (at, ns, subst (λ q. Did did at (make q ns)) (sym (op_same o p b.0)) d, (exact i at).1 b.1)
  known_of i o at (undo p ks n) d e = inr (at, p, ks, n, d, (exact i n).1 e)
  known_of i o at (equal a b) d e = cc

  keeps_rule : (i : ℕ) → KeepsRules did ts i → (t : Tree) → slice_get ts i ≡ Some t → rule_test did cs ts i t ≡ true
  keeps_rule i keeps (leaf n) at = refl
  keeps_rule i keeps (node o us) at = and_from _ _
      (unless (undoable o) _ (λ u. if_then (list_all (composes ts) (list_of us)) _ (λ e.
      let h = keeps.hashes o us at u (all_true (Composes ts) (composes ts) (decided ts) (list_of us) e) in
      some_from (hashes_it cs i) did h.0 (make h.1 h.2) h.4 (and_from _ _ (not_from_false _ h.3) ((exact i h.0).0 h.5)))))
      (if_then (undoable o) _ (λ u. if_then (list_all (composes ts) (take (keys o) (list_of us))) _ (λ e.
      ⊎_elim (λ h. some_from (knows_it cs i o) did h.0 (make o h.1) h.2 (and_from _ _ (op_itself o) ((exact i h.0).0 h.3)))
      (λ h. some_from (knows_it cs i o) did h.0 (undo h.1 h.2 h.3) h.4 ((exact i h.3).0 h.5))
      (keeps.others o us at u (all_true (Composes ts) (composes ts) (decided ts) (take (keys o) (list_of us)) e)))))

  keeps_test : (i : ℕ) → KeepsRules did ts i → (o : Option Tree) → slice_get ts i ≡ o → register_test did cs ts i o ≡ true
  keeps_test i keeps None at = refl
  keeps_test i keeps (Some t) at = and_from _ _
      (below_from _ i (λ k l. if_then (is_at (slice_get ts k) t) _ (λ e. (exact k i).0 (keeps.alike k t l (is_at_same _ t e) at))))
      (keeps_rule i keeps t at)

  test_keeps : (i : ℕ) → register_test did cs ts i (slice_get ts i) ≡ true → KeepsRules did ts i
  test_keeps i e = record {
    alike = λ k t l ek ei. let b = and_parts _ _ (tested t ei) in (exact k i).1 (then_if (is_at (slice_get ts k) t) _ (below_is _ i b.0 k l) (term_from _ t ek));
    hashes = λ o us ei u all. let b = and_parts _ _ (tested (node o us) ei) in let c = and_parts _ _ b.1 in
        let s = then_if (list_all (composes ts) (list_of us)) _ (not_is (undoable o) _ c.0 u) (all_from (Composes ts) (composes ts) (decides ts) (list_of us) all) in
        let r = some_is (hashes_it cs i) did s in hash_of i r.0 r.1 r.2 r.3;
    others = λ o us ei u all. let b = and_parts _ _ (tested (node o us) ei) in let c = and_parts _ _ b.1 in
        let s = then_if (list_all (composes ts) (take (keys o) (list_of us))) _ (then_if (undoable o) _ c.1 u) (all_from (Composes ts) (composes ts) (decides ts) (take (keys o) (list_of us)) all) in
        let r = some_is (knows_it cs i o) did s in known_of i o r.0 r.1 r.2 r.3;
  } where
    tested : (t : Tree) → slice_get ts i ≡ Some t → register_test did cs ts i (Some t) ≡ true
    tested t ei = subst (λ o. register_test did cs ts i o ≡ true) ei e

pub rules_are_decided : RulesAreDecided
rules_are_decided did cs ts exact i = (λ k. keeps_test did cs ts exact i k (slice_get ts i) refl, λ e. test_keeps did cs ts exact i e)
