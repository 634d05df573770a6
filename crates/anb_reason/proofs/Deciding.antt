-- The tests are what they test.
use Rattle.std.proofs.Common.{◌≡◌, List, [], ◌∷◌, length, take, drop, Bool, true, false, ◌&&◌, ◌||◌, IsTrue, refl, sym, ◌∙◌, subst, inl, inr, ◌⊎◌, ⊎_elim}
use Rattle.std.specs.Prelude.{◌==◌, not, ◌↔◌}
use Rattle.std.specs.List.{AllByRecursion, list_all}
use Rattle.std.proofs.lemmas.Bool.{eqb-true, eq-eqb, and_parts, and_from, or_right, or_left, or_cases}
use Rattle.anb_lemmas.proofs.Bools.{not_from_never, never_from_not}
use Rattle.anb_term.specs.Operator.{arity, keys, undoable}
use Rattle.anb_term.specs.Tree.{Tree, leaf, node, Trees, none, more, list_of, tree_eqb}
use Rattle.anb_term.specs.TreeSame.{tree_same, tree_itself}
use Rattle.anb_term.specs.Composes.{Among, Composes, ComposeAll}
use Rattle.anb_reason.specs.Shut.{IsShut}
use Rattle.anb_reason.specs.Decided.{is_among, composes, all_compose, parts_in, shut_test}

pub among_true : (es : List Tree) (t : Tree) → Among es t → is_among es t ≡ true
among_true [] t h = absurd h
among_true (e ∷ es) t (inl s) = or_left (tree_eqb e t) _ (subst (λ u. tree_eqb e u ≡ true) s (tree_itself e))
among_true (e ∷ es) t (inr h) = or_right (tree_eqb e t) _ (among_true es t h)

pub among_from : (es : List Tree) (t : Tree) → is_among es t ≡ true → Among es t
among_from [] t e = cc
among_from (x ∷ es) t e = ⊎_elim (λ s. inl (tree_same x t s)) (λ r. inr (among_from es t r)) (or_cases (tree_eqb x t) (is_among es t) e)

mutual
  pub decides : (es : List Tree) (t : Tree) → Composes es t → composes es t ≡ true
  decides es (leaf n) h = among_true es (leaf n) h
  decides es (node o ts) (inl h) = or_left (is_among es (node o ts)) _ (among_true es (node o ts) h)
  decides es (node o ts) (inr h) = or_right (is_among es (node o ts)) _ (and_from (length (list_of ts) == arity o) _ (eq-eqb _ _ h.0) (decide_all es ts h.1))

  decide_all : (es : List Tree) (ts : Trees) → ComposeAll es ts → all_compose es ts ≡ true
  decide_all es none h = refl
  decide_all es (more t ts) h = and_from (composes es t) _ (decides es t h.0) (decide_all es ts h.1)

mutual
  pub decided : (es : List Tree) (t : Tree) → composes es t ≡ true → Composes es t
  decided es (leaf n) e = among_from es (leaf n) e
  decided es (node o ts) e =
      ⊎_elim (λ s. inl (among_from es (node o ts) s))
      (λ s. let b = and_parts (length (list_of ts) == arity o) _ s in inr (eqb-true _ _ b.0, all_decided es ts b.1))
      (or_cases (is_among es (node o ts)) _ e)

  all_decided : (es : List Tree) (ts : Trees) → all_compose es ts ≡ true → ComposeAll es ts
  all_decided es none e = tt
  all_decided es (more t ts) e = let b = and_parts (composes es t) _ e in (decided es t b.0, all_decided es ts b.1)

pub all_from : {A : Type 0} (P : A → Type 0) (f : A → Bool) → ((x : A) → P x → f x ≡ true) → (xs : List A) → AllByRecursion P xs → list_all f xs ≡ true
all_from P f h [] a = refl
all_from P f h (x ∷ xs) a = and_from (f x) _ (h x a.0) (all_from P f h xs a.1)

pub all_true : {A : Type 0} (P : A → Type 0) (f : A → Bool) → ((x : A) → f x ≡ true → P x) → (xs : List A) → list_all f xs ≡ true → AllByRecursion P xs
all_true P f h [] e = tt
all_true P f h (x ∷ xs) e = let b = and_parts (f x) _ e in (h x b.0, all_true P f h xs b.1)

pub at_among : (P : Tree → Type 0) (xs : List Tree) (t : Tree) → AllByRecursion P xs → Among xs t → P t
at_among P [] t a h = absurd h
at_among P (x ∷ xs) t a (inl e) = subst P e a.0
at_among P (x ∷ xs) t a (inr h) = at_among P xs t a.1 h

pub among_all : (P : Tree → Type 0) (xs : List Tree) → ((t : Tree) → Among xs t → P t) → AllByRecursion P xs
among_all P [] h = tt
among_all P (x ∷ xs) h = (h x (inl refl), among_all P xs (λ t a. h t (inr a)))

-- if a then b, as a test
pub if_then : (a b : Bool) → (a ≡ true → b ≡ true) → (not a || b) ≡ true
if_then true b h = h refl
if_then false b h = refl

pub then_if : (a b : Bool) → (not a || b) ≡ true → a ≡ true → b ≡ true
then_if true b e f = e
then_if false b e f = cc

module _ (frame S : List Tree) (t : Tree) where
  parts_test : IsShut frame S t → (u : Tree) → Among S u → parts_in S u ≡ true
  parts_test shut (leaf n) h = refl
  parts_test shut (node o us) h = if_then _ _ (λ e.
      let b = and_parts (undoable o) _ e in
      all_from (Among S) (is_among S) (λ x a. among_true S x a) (drop (keys o) (list_of us))
      (shut.parts o us h b.0 (all_true (Composes S) (composes S) (decided S) (take (keys o) (list_of us)) b.1)))

  tested : IsShut frame S t → shut_test frame S t ≡ true
  tested shut = and_from (list_all (is_among S) frame) _ (all_from (Among S) (is_among S) (λ x a. among_true S x a) frame shut.labels)
      (and_from (list_all (parts_in S) S) _
      (all_from (λ u. parts_in S u ≡ true) (parts_in S) (λ u e. e) S (among_all (λ u. parts_in S u ≡ true) S (parts_test shut)))
      (not_from_never (composes S t) (λ e. shut.apart (decided S t e))))

  from_test : shut_test frame S t ≡ true → IsShut frame S t
  from_test e =
      let a = and_parts (list_all (is_among S) frame) _ e in
      let b = and_parts (list_all (parts_in S) S) _ a.1 in
      record {
        labels = all_true (Among S) (is_among S) (among_from S) frame a.0;
        parts = λ o us h u ks.
            let p = at_among (λ v. parts_in S v ≡ true) S (node o us) (all_true (λ v. parts_in S v ≡ true) (parts_in S) (λ v f. f) S b.0) h in
            all_true (Among S) (is_among S) (among_from S) (drop (keys o) (list_of us))
            (then_if (undoable o && list_all (composes S) (take (keys o) (list_of us))) _ p (and_from (undoable o) _ u (all_from (Composes S) (composes S) (decides S) (take (keys o) (list_of us)) ks)));
        apart = λ c. never_from_not (composes S t) b.1 (decides S t c);
      }

-- step by step
pub no_labels : (frame S : List Tree) (t : Tree) → list_all (is_among S) frame ≡ false → IsTrue false ↔ IsShut frame S t
no_labels frame S t e = (λ h. cc, λ shut. let p = and_parts (list_all (is_among S) frame) _ (tested frame S t shut) in cc)

pub no_parts : (frame S : List Tree) (t : Tree) → list_all (parts_in S) S ≡ false → IsTrue false ↔ IsShut frame S t
no_parts frame S t e = (
  λ h. cc,
  λ shut.
      let p = and_parts (list_all (is_among S) frame) _ (tested frame S t shut) in
      let q = and_parts (list_all (parts_in S) S) _ p.1 in cc,
)

pub by_term : (frame S : List Tree) (t : Tree) (b : Bool) → list_all (is_among S) frame ≡ true → list_all (parts_in S) S ≡ true → b ≡ not (composes S t) → IsTrue b ↔ IsShut frame S t
by_term frame S t b e f g = (
  λ h. from_test frame S t (and_from _ _ e (and_from _ _ f (sym g ∙ h))),
  λ shut. let p = and_parts (list_all (is_among S) frame) _ (tested frame S t shut) in let q = and_parts (list_all (parts_in S) S) _ p.1 in g ∙ q.1,
)
