-- What was done tells of the registers' terms, and tied registers have one term.
use Rattle.std.proofs.Common.{◌≡◌, ℕ, ◌+◌, ◌-◌, ◌<◌, List, [], ◌∷◌, ◌++◌, length, Bool, true, false, Option, Some, None, refl, sym, ap, ◌∙◌, subst, inl, inr, ◌⊎◌, arith, length-append}
use Rattle.std.proofs.lemmas.List.Elements.{recursion_from_All}
use Rattle.std.specs.Prelude.{slice_get}
use Rattle.std.proofs.lemmas.Option.{cond_some}
use Rattle.anb_lemmas.proofs.Lists.{get_last}
use Rattle.anb_term.specs.declared.term.Op.{Op}
use Rattle.anb_term.specs.Operator.{arity, keys}
use Rattle.anb_term.specs.Tree.{Tree, node, trees_of, list_of, tree_eqb}
use Rattle.anb_term.specs.TreeSame.{tree_same, tree_itself, list_of-trees_of}
use Rattle.anb_term.specs.Lawful.{picked}
use Rattle.anb_term.specs.FreeAlgebra.{terms, terms_over, parts_of}
use Rattle.anb_term.specs.FreeLawful.{parts_are}
use Rattle.anb_term.specs.Demand.{alike}
use Rattle.anb_term.proofs.Lists.{slice_get-append, slice_get-there, picked_length}
use Rattle.anb_term.proofs.Steps.{bound}
use Rattle.anb_term.proofs.Demands.{alike_are}
use Rattle.anb_plays.specs.Codes.{Work, make, undo, equal}
use Rattle.anb_plays.specs.Exec.{worked, IsReady}
use Rattle.anb_certify.specs.Tied.{Did, InPairs, Ties, Tied}
use Rattle.anb_certify.specs.Works.{TellsTerms, AreTold}
use Rattle.anb_certify.proofs.Fitting.{get_after, picked_more, wider, did_cases}
use Rattle.anb_certify.proofs.Tied.{node_is}

-- what is written doesn't depend on which operators there are
pub worked_any : (has : Op → Bool) (ts : List Tree) (w : Work) → worked (terms_over has) ts w ≡ worked terms ts w
worked_any has ts (make o ns) = refl
worked_any has ts (undo o ks n) = refl
worked_any has ts (equal a b) = rw (same_alike (slice_get ts a) (slice_get ts b)) refl where
  same_alike : (x y : Option Tree) → alike (terms_over has) x y ≡ alike terms x y
  same_alike None y = refl
  same_alike (Some x) None = refl
  same_alike (Some x) (Some y) = refl

-- longer registers tell the same
tells_more : (ts ws : List Tree) (at : ℕ) (w : Work) → TellsTerms ts at w → TellsTerms (ts ++ ws) at w
tells_more ts ws at (make o ns) h =
    let same = picked_more ts ws ns h.1 in
    (h.0, wider ns (length ts) (length (ts ++ ws)) (omega (arith, length-append ts ws)) h.1, rw same (slice_get-append ts ws at _ h.2))
tells_more ts ws at (undo o ks n) h =
    let same = picked_more ts ws ks h.2 in (
      h.0,
      h.1,
      wider ks (length ts) (length (ts ++ ws)) (omega (arith, length-append ts ws)) h.2,
      h.3,
      h.4,
      rw same (slice_get-append ts ws n _ h.5),
      λ j l. let x = slice_get-there h.3 j l in slice_get-append ts ws (at + j) x.0 (h.6 j l ∙ x.1) ∙ sym x.1,
    )
tells_more ts ws at (equal a b) h = (h.0, slice_get-append ts ws a h.0 h.1, slice_get-append ts ws b h.0 h.2)

pub told_more : (ts ws : List Tree) (did : List (ℕ × Work)) → AreTold ts did → AreTold (ts ++ ws) did
told_more ts ws did told at w d = tells_more ts ws at w (told at w d)

-- what a work that was done tells
tells_own : (has : Op → Bool) (ts ws : List Tree) (w : Work) → IsReady has (length ts) w → worked terms ts w ≡ Some ws → TellsTerms (ts ++ ws) (length ts) w
tells_own has ts ws (make o ns) ready is =
    let within = recursion_from_All (λ k. k < length ts) ns ready.2 in
    let same = picked_more ts ws ns within in
    let row : node o (trees_of (picked ts ns)) ∷ [] ≡ ws = cc in
    (ready.1, wider ns (length ts) (length (ts ++ ws)) (omega (arith, length-append ts ws)) within, rw (same, ← row) (get_last ts (node o (trees_of (picked ts ns)))))
tells_own has ts ws (undo o ks n) ready is =
    let within = recursion_from_All (λ k. k < length ts) ks ready.2 in
    let same = picked_more ts ws ks within in
    let v = bound (parts_of o (picked ts ks)) (slice_get ts n) ws is in
    let p = parts_are o (picked ts ks) v.0 ws v.2 in (
      p.0,
      ready.1,
      wider ks (length ts) (length (ts ++ ws)) (omega (arith, length-append ts ws)) within,
      ws,
      omega (arith, p.2, length-append (picked ts ks) ws, picked_length ts ks within, ready.1),
      rw same (slice_get-append ts ws n _ (v.1 ∙ ap Some p.1)),
      λ j l. get_after ts ws (length ts + j) j (omega arith),
    )
tells_own has ts ws (equal a b) ready is =
    let c = cond_some (alike terms (slice_get ts a) (slice_get ts b)) [] ws is in
    let s = alike_are terms (slice_get ts a) (slice_get ts b) c.0 in
    (s.0, slice_get-append ts ws a s.0 s.2, slice_get-append ts ws b s.0 (s.3 ∙ ap Some (sym (tree_same s.0 s.1 s.4))))

pub told_next : (has : Op → Bool) (ts ws : List Tree) (did : List (ℕ × Work)) (w : Work) → AreTold ts did → IsReady has (length ts) w → worked terms ts w ≡ Some ws → AreTold (ts ++ ws) (did ++ (length ts, w) ∷ [])
told_next has ts ws did w told ready is at v d = by_cases (did_cases did (length ts) at w v d) where
  by_cases : Did did at v ⊎ ((length ts ≡ at) × (w ≡ v)) → TellsTerms (ts ++ ws) at v
  by_cases (inl e) = told_more ts ws did told at v e
  by_cases (inr e) =
      let P : ℕ → Type 0 = λ n. TellsTerms (ts ++ ws) n v in
      subst P e.0 (subst (TellsTerms (ts ++ ws) (length ts)) e.1 (tells_own has ts ws w ready is))

-- ---- tied registers have one term

module _ (ts : List Tree) (did : List (ℕ × Work)) (told : AreTold ts did) where
  same_at : Option Tree → Option Tree → Bool
  same_at None None = true
  same_at None (Some y) = false
  same_at (Some x) None = false
  same_at (Some x) (Some y) = tree_eqb x y

  at_tells : (x y : Option Tree) → same_at x y ≡ true → x ≡ y
  unfolding same_at
  at_tells None None e = refl
  at_tells None (Some y) e = cc
  at_tells (Some x) None e = cc
  at_tells (Some x) (Some y) e = ap Some (tree_same x y e)

  at_itself : (x : Option Tree) → same_at x x ≡ true
  unfolding same_at
  at_itself None = refl
  at_itself (Some x) = tree_itself x

  alikes : ℕ → ℕ → Bool
  alikes a b = same_at (slice_get ts a) (slice_get ts b)

  from_alike : (a b : ℕ) → alikes a b ≡ true → slice_get ts a ≡ slice_get ts b
  unfolding alikes
  from_alike a b e = at_tells _ _ e

  to_alike : (a b : ℕ) → slice_get ts a ≡ slice_get ts b → alikes a b ≡ true
  unfolding alikes
  to_alike a b e = subst (λ z. same_at (slice_get ts a) z ≡ true) e (at_itself (slice_get ts a))

  pairs_pick : (ns ks : List ℕ) → InPairs alikes ns ks → picked ts ns ≡ picked ts ks
  pairs_pick [] [] h = refl
  pairs_pick [] (k ∷ ks) h = absurd h
  pairs_pick (n ∷ ns) [] h = absurd h
  pairs_pick (n ∷ ns) (k ∷ ks) h = rw (from_alike n k h.0, pairs_pick ns ks h.1) refl

  -- what one operator built of the same terms
  pub built_alike : (at bt : ℕ) (o : Op) (ns ms : List ℕ) → Did did at (make o ns) → Did did bt (make o ms) → picked ts ns ≡ picked ts ms → slice_get ts at ≡ slice_get ts bt
  built_alike at bt o ns ms d e same =
      let x = told at (make o ns) d in
      let y = told bt (make o ms) e in
      x.2 ∙ ap (λ l. Some (node o (trees_of l))) same ∙ sym y.2

  rest_is : (xs ys us vs : List Tree) → xs ≡ ys → trees_of (xs ++ us) ≡ trees_of (ys ++ vs) → us ≡ vs
  rest_is xs ys us vs e f = tail xs us vs (list_is (xs ++ us) (xs ++ vs) (f ∙ ap (λ l. trees_of (l ++ vs)) (sym e))) where
    list_is : (a b : List Tree) → trees_of a ≡ trees_of b → a ≡ b
    list_is a b g = sym (list_of-trees_of a) ∙ ap list_of g ∙ list_of-trees_of b

    tail : (l a b : List Tree) → l ++ a ≡ l ++ b → a ≡ b
    tail [] a b g = g
    tail (x ∷ l) a b g = tail l a b cc

  -- the same part of one term, undone with the same keys
  pub undone_alike : (at bt : ℕ) (o : Op) (ks ls : List ℕ) (n m j : ℕ) → Did did at (undo o ks n) → Did did bt (undo o ls m) → picked ts ks ≡ picked ts ls → slice_get ts n ≡ slice_get ts m
      → j < arity o - keys o → slice_get ts (at + j) ≡ slice_get ts (bt + j)
  undone_alike at bt o ks ls n m j d e same one l =
      let x = told at (undo o ks n) d in
      let y = told bt (undo o ls m) e in
      let whole : node o (trees_of (picked ts ks ++ x.3)) ≡ node o (trees_of (picked ts ls ++ y.3)) = (let a = x.5 in let b = y.5 in let c : Some (node o (trees_of (picked ts ks ++ x.3))) ≡ Some (node o (trees_of (picked ts ls ++ y.3))) = sym a ∙ one ∙ b in cc) in
      let parts = rest_is (picked ts ks) (picked ts ls) x.3 y.3 same (node_is o o _ _ whole).1 in
      x.6 j (omega (arith, l, x.4)) ∙ ap (λ q. slice_get q j) parts ∙ sym (y.6 j (omega (arith, l, y.4)))

  ties : Ties did alikes
  ties = record {
    itself = λ a. to_alike a a refl;
    turned = λ a b e. to_alike b a (sym (from_alike a b e));
    joined = λ a b c e f. to_alike a c (from_alike a b e ∙ from_alike b c f);
    compared = λ at a b d. let x = told at (equal a b) d in to_alike a b (x.1 ∙ sym x.2);
    built = λ at bt o ns ms d e h. to_alike at bt (built_alike at bt o ns ms d e (pairs_pick ns ms h));
    undone = λ at bt o ks ls n k j d e h f l. to_alike (at + j) (bt + j) (undone_alike at bt o ks ls n k j d e (pairs_pick ks ls h) (from_alike n k f) l);
  }

  pub tied_alike : (a b : ℕ) → Tied did a b → slice_get ts a ≡ slice_get ts b
  tied_alike a b t = from_alike a b (t alikes ties)
