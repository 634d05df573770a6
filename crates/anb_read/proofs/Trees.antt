-- The readers of terms.
use Rattle.std.proofs.Common.{◌≡◌, ℕ, zero, suc, ◌+◌, ◌<◌, ◌≤◌, List, [], ◌∷◌, ◌++◌, Bool, true, false, Result, Err, refl, sym, ap, ◌∙◌, subst, arith, inl, inr, ◌⊎◌, append_assoc, cond}
use Rattle.std.specs.Prelude.{◌&&◌, ◌||◌, ◌==◌, not}
use Rattle.std.specs.List.{flat_map, list_all, AllByRecursion}
use Rattle.std.specs.Str.{bytes_eq}
use Rattle.std.proofs.lemmas.List.{append-nil}
use Rattle.std.proofs.lemmas.Bool.{or_right, not-true, not_from_false}
use Rattle.anb_lemmas.proofs.Items.{bytes_are_one}
use Rattle.anb_read.specs.declared.refusal.ReadNo.{ReadNo}
use Rattle.anb_syntax.specs.Words.{Word, name, literal, sign, end, bad, Tok, head, place, Begins, word_eqb, comma, open_sign, close_sign, hash_word, mac_word, seal_word, wrap_word, is_name}
use Rattle.anb_syntax.specs.Grammar.{IsName, Tree, atom, apply, hash, mac, seal, wrap, Trees, none, more, trees_of, list_of, IsTree, AreTrees, spell_tree, spell_trees, spell_others, fits_tree, fits_trees}
use Rattle.anb_read.specs.Productions.{fault, is_comma, is_open, is_word, begins_term, many, comma_term_at, some_terms_at, no_terms_at, terms_at, applied_at, after_name_at, named_at, operator_at, hashed_at, pair_at, keyed_at, wrapped_at, term_over, term_at}
use Rattle.anb_read.proofs.Readers.{opens, closes, TooDeep, IfDeep, Reads}
use Rattle.anb_read.proofs.Begins.{begins_length}
use Rattle.anb_read.proofs.Parts.{reads_nothing, nothing_at, reads_as, reads_either, always, yes}
use Rattle.anb_read.proofs.Many.{stops_many, reads_many}
use Rattle.anb_read.proofs.Shallow.{opens_joined, closes_joined, shallow_none}
use Rattle.anb_read.proofs.Then.{reads_then}
use Rattle.anb_read.proofs.Picks.{a_word, a_name, word_eqb_true, not_reserved, reads_word, reads_name, seq, seq_until, next_is}
use Rattle.anb_read.proofs.Rows.{stops_at, AreBehind, others_of, reads_behind}

-- only a name may go on, with its arguments
abbrev pub tree_stops : Tree → Word → Bool
tree_stops (atom n) x = not (is_open x)
tree_stops (apply n ts) x = true
tree_stops (hash t) x = true
tree_stops (mac t u) x = true
tree_stops (seal t u) x = true
tree_stops (wrap t u v) x = true

pub tree_ends : (x : Word) → not (is_open x) ≡ true → (t : Tree) → tree_stops t x ≡ true
tree_ends x e (atom n) = e
tree_ends x e (apply n ts) = refl
tree_ends x e (hash t) = refl
tree_ends x e (mac t u) = refl
tree_ends x e (seal t u) = refl
tree_ends x e (wrap t u v) = refl

there_and_back : (ts : Trees) → trees_of (list_of ts) ≡ ts
there_and_back none = refl
there_and_back (more t ts) = ap (more t) (there_and_back ts)

back_and_there : (ts : List Tree) → list_of (trees_of ts) ≡ ts
back_and_there [] = refl
back_and_there (t ∷ ts) = ap (λ (us : List Tree). t ∷ us) (back_and_there ts)

all_trees : (ts : Trees) → AllByRecursion IsTree (list_of ts) → AreTrees ts
all_trees none h = tt
all_trees (more t ts) h = (h.0, all_trees ts h.1)

trees_all : (ts : Trees) → AreTrees ts → AllByRecursion IsTree (list_of ts)
trees_all none h = tt
trees_all (more t ts) h = (h.0, trees_all ts h.1)

fit_all : (l : ℕ) (ts : Trees) → list_all (fits_tree l) (list_of ts) ≡ fits_trees l ts
fit_all l none = refl
fit_all l (more t ts) = ap (λ b. fits_tree l t && b) (fit_all l ts)

abbrev pub comma_words : Tree → List Word
comma_words t = comma ∷ spell_tree t

others_words : (last : Word) (ts : Trees) → flat_map comma_words (list_of ts) ++ last ∷ [] ≡ spell_others last ts
others_words last none = refl
others_words last (more t ts) = ap (λ (xs : List Word). comma ∷ xs) (append_assoc (spell_tree t) (flat_map comma_words (list_of ts)) (last ∷ []) ∙ ap (λ (xs : List Word). spell_tree t ++ xs) (others_words last ts))

-- the first word of a term
abbrev pub first_word : Tree → List ℕ
first_word (atom n) = n
first_word (apply n ts) = n
first_word (hash t) = hash_word
first_word (mac t u) = mac_word
first_word (seal t u) = seal_word
first_word (wrap t u v) = wrap_word

pub begins_with : (T : Word → Bool) (b : Bool) (t : Tree) (others : List Word) (w rest : List Tok) → Begins w (spell_tree t ++ others) rest → T (name (first_word t)) ≡ b → T (head w) ≡ b
begins_with T b (atom n) others w rest g h = next_is T b (name n) others w rest g h
begins_with T b (apply n ts) others w rest g h = next_is T b (name n) (open_sign ∷ spell_trees close_sign ts ++ others) w rest g h
begins_with T b (hash t) others w rest g h = next_is T b (name hash_word) (open_sign ∷ (spell_tree t ++ close_sign ∷ []) ++ others) w rest g h
begins_with T b (mac t u) others w rest g h = next_is T b (name mac_word) (open_sign ∷ (spell_tree t ++ (comma ∷ spell_tree u ++ close_sign ∷ [])) ++ others) w rest g h
begins_with T b (seal t u) others w rest g h = next_is T b (name seal_word) (open_sign ∷ (spell_tree t ++ (comma ∷ spell_tree u ++ close_sign ∷ [])) ++ others) w rest g h
begins_with T b (wrap t u v) others w rest g h = next_is T b (name wrap_word) (open_sign ∷ (spell_tree t ++ (comma ∷ spell_tree u ++ (comma ∷ spell_tree v ++ close_sign ∷ []))) ++ others) w rest g h

pub begins_alone : (T : Word → Bool) (b : Bool) (t : Tree) (w rest : List Tok) → Begins w (spell_tree t) rest → T (name (first_word t)) ≡ b → T (head w) ≡ b
begins_alone T b t w rest g h =
    let P : List Word → Type 0 = λ xs. Begins w xs rest in
    begins_with T b t [] w rest (subst P (sym (append-nil (spell_tree t))) g) h

-- the operator of a term, in the order in which it is looked for; a name is the last
abbrev rank : Tree → ℕ
rank (atom n) = 4
rank (apply n ts) = 4
rank (hash t) = 0
rank (mac t u) = 1
rank (seal t u) = 2
rank (wrap t u v) = 3

-- what is read behind a first word, and what is left to be looked for
abbrev Ranked : ℕ → Tree → Type 0
Ranked i t = IsTree t × (rank t ≡ i)

abbrev Left : ℕ → Tree → Type 0
Left i t = IsTree t × (i ≤ rank t)

-- the parts of a term; at other terms what they are doesn't matter
abbrev first_part : Tree → Tree
first_part (hash t) = t
first_part (mac t u) = t
first_part (seal t u) = t
first_part (wrap t u v) = t
first_part (atom n) = atom n
first_part (apply n ts) = atom n

abbrev parts_of : Tree → Tree × Tree
parts_of (mac t u) = (t, u)
parts_of (seal t u) = (t, u)
parts_of (wrap t u v) = (u, v)
parts_of (hash t) = (t, t)
parts_of (atom n) = (atom n, atom n)
parts_of (apply n ts) = (atom n, atom n)

abbrev name_of : Tree → List ℕ
name_of (atom n) = n
name_of (apply n ts) = n
name_of (hash t) = []
name_of (mac t u) = []
name_of (seal t u) = []
name_of (wrap t u v) = []

abbrev args_of : Tree → Trees
args_of (apply n ts) = ts
args_of (atom n) = none
args_of (hash t) = none
args_of (mac t u) = none
args_of (seal t u) = none
args_of (wrap t u v) = none

-- the words behind the name
abbrev after_words : Tree → List Word
after_words (apply n ts) = open_sign ∷ spell_trees close_sign ts
after_words (atom n) = []
after_words (hash t) = []
after_words (mac t u) = []
after_words (seal t u) = []
after_words (wrap t u v) = []

abbrev IsApplied : List ℕ → Tree → Type 0
IsApplied n t = (t ≡ apply n (args_of t)) × AreTrees (args_of t)

abbrev IsAtom : List ℕ → Tree → Type 0
IsAtom n t = t ≡ atom n

abbrev AreSome : Trees → Type 0
AreSome none = ⊥
AreSome (more t ts) = IsTree t × AreTrees ts

abbrev first_tree : Trees → Tree
first_tree none = atom []
first_tree (more t ts) = t

pub and_true : (b : Bool) → (b && true) ≡ b
and_true true = refl
and_true false = refl

module _ (l : ℕ) (p : List Tok → Result (Tree × List Tok) ReadNo) (hp : Reads l l p IsTree (fits_tree l) spell_tree tree_stops) where
  reads_comma_term : Reads l l (comma_term_at p) IsTree (fits_tree l) comma_words tree_stops
  unfolding comma_term_at
  reads_comma_term = reads_as _ _ _ _ _ _ _ _ _ _ _ (seq (λ t. tt) (reads_word l l comma (λ e. cc) refl (λ e. cc)) (λ u. hp) (λ a b v. refl))
      (λ a v. v.1) (λ a v. (tt, v)) (λ a v. refl) (λ a v. refl) (λ a x v. refl)

  comma_goes_on : (x : Word) → is_comma x ≡ true → not (is_open x) ≡ true
  comma_goes_on x e = let P : Word → Type 0 = λ y. not (is_open y) ≡ true in subst P (sym (word_eqb_true comma x e)) refl

  reads_comma_terms : Reads l l (many is_comma (comma_term_at p)) (AllByRecursion IsTree) (list_all (fits_tree l)) (flat_map comma_words) (stops_many is_comma tree_stops)
  reads_comma_terms = reads_many l is_comma (comma_term_at p) IsTree (fits_tree l) comma_words tree_stops reads_comma_term
      (λ a w rest v g. next_is is_comma true comma (spell_tree a) w rest g refl) (λ a w rest v g. omega (arith, begins_length w (comma_words a) rest g))
      (λ a x v e. tree_ends x (comma_goes_on x e) a) refl

  -- terms up to a sign
  module _ (m c : ℕ) (is_balanced : opens (sign c ∷ []) + m ≡ closes (sign c ∷ []) + l) (no_comma : is_comma (sign c) ≡ false) (opens_none : is_open (sign c) ≡ false) where
    reads_no_terms : Reads l m (no_terms_at p (sign c)) (λ ts. ts ≡ none) (fits_trees l) (spell_trees (sign c)) always
    unfolding no_terms_at
    reads_no_terms = reads_as _ _ _ _ _ _ _ _ _ _ _
        (seq (λ ts. tt) (reads_word l m (sign c) (λ e. cc) is_balanced (λ e. cc)) (λ u. reads_nothing Trees m none) (λ a b v. refl))
        (λ ts v. v.1) (λ ts v. (tt, v)) (λ ts v. rw v.1 refl) (λ ts v. rw v.1 refl) (λ ts x v. refl)

    some_valid : (ts : Trees) (t : Tree) → IsTree (first_tree ts) → AreBehind IsTree t (list_of ts) → AreSome ts
    some_valid none t v b = cc (b.0)
    some_valid (more t ts) u v b = (v, all_trees ts b.1)

    valid_some : (ts : Trees) → AreSome ts → IsTree (first_tree ts) × (AreBehind IsTree (first_tree ts) (list_of ts) × (Unit {0} × (ts ≡ trees_of (list_of ts))))
    valid_some none v = absurd v
    valid_some (more t ts) v = (v.0, ((refl, trees_all ts v.1), (tt, ap (more t) (sym (there_and_back ts)))))

    some_fits : (ts : Trees) (t : Tree) → AreBehind IsTree t (list_of ts) → (fits_tree l (first_tree ts) && (list_all (fits_tree l) (others_of (list_of ts)) && true)) ≡ fits_trees l ts
    some_fits none t b = cc (b.0)
    some_fits (more t ts) u b = ap (λ b. fits_tree l t && b) (and_true _ ∙ fit_all l ts)

    some_words : (ts : Trees) (t : Tree) → AreBehind IsTree t (list_of ts) → spell_tree (first_tree ts) ++ (flat_map comma_words (others_of (list_of ts)) ++ sign c ∷ []) ≡ spell_trees (sign c) ts
    some_words none t b = cc (b.0)
    some_words (more t ts) u b = ap (λ (xs : List Word). spell_tree t ++ xs) (others_words (sign c) ts)

    next_open : (us : List Tree) (w rest : List Tok) → Begins w (flat_map comma_words us ++ sign c ∷ []) rest → not (is_open (head w)) ≡ true
    next_open [] w rest g = next_is (λ x. not (is_open x)) true (sign c) [] w rest g (not_from_false _ opens_none)
    next_open (u ∷ us) w rest g = next_is (λ x. not (is_open x)) true comma ((spell_tree u ++ flat_map comma_words us) ++ sign c ∷ []) w rest g refl

    first_is : (t : Tree) (ts : Trees) → list_of ts ≡ t ∷ others_of (list_of ts) → first_tree ts ≡ t
    first_is t none e = cc
    first_is t (more u ts) e = cc

    reads_some_terms : Reads l m (some_terms_at p (sign c)) AreSome (fits_trees l) (spell_trees (sign c)) always
    unfolding some_terms_at
    reads_some_terms = reads_as _ _ _ _ _ _ _ _ _ _ _
        (reads_then _ _ _ _ _ _ _ _ _ _ _ _ _ first_tree hp
        (λ t. seq_until list_of (sign c) (reads_behind l is_comma (comma_term_at p) IsTree (fits_tree l) comma_words tree_stops reads_comma_terms t)
        (λ us. seq (λ ts. tt) (reads_word l m (sign c) (λ e. cc) is_balanced (λ e. cc)) (λ u. reads_nothing Trees m (trees_of us)) (λ a b v. refl))
        (λ us ts v. ap list_of v.1 ∙ back_and_there us) (λ us. stops_at is_comma tree_stops (sign c) (not_from_false _ no_comma) (tree_ends (sign c) (not_from_false _ opens_none)) (others_of us)))
        (λ t ts v. first_is t ts v.0.0)
        (λ t ts w rest v g e. tree_ends (head w) (next_open (others_of (list_of ts)) w rest g) t))
        (λ ts v. some_valid ts (first_tree ts) v.0 v.1.0) valid_some
        (λ ts v. some_fits ts (first_tree ts) v.1.0) (λ ts v. some_words ts (first_tree ts) v.1.0) (λ ts x v. refl)

    same_sign : word_eqb (sign c) (sign c) ≡ true
    same_sign = eq_same c
      where
        eq_same : (n : ℕ) → (n == n) ≡ true
        eq_same n = grind arith

    some_off : (ts : Trees) (w rest : List Tok) → AreSome ts → Begins w (spell_trees (sign c) ts) rest → word_eqb (sign c) (head w) ≡ false
    some_off none w rest v g = absurd v
    some_off (more t ts) w rest v g = begins_with (word_eqb (sign c)) false t (spell_others (sign c) ts) w rest g refl

    terms_valid : (ts : Trees) → (ts ≡ none) ⊎ AreSome ts → AreTrees ts
    terms_valid none v = tt
    terms_valid (more t ts) (inl e) = cc
    terms_valid (more t ts) (inr v) = v

    valid_terms : (ts : Trees) → AreTrees ts → (ts ≡ none) ⊎ AreSome ts
    valid_terms none v = inl refl
    valid_terms (more t ts) v = inr v

    pub reads_terms : Reads l m (terms_at p (sign c)) AreTrees (fits_trees l) (spell_trees (sign c)) always
    unfolding terms_at
    reads_terms = reads_as _ _ _ _ _ _ _ _ _ _ _
        (reads_either l m (word_eqb (sign c)) (no_terms_at p (sign c)) (some_terms_at p (sign c)) (λ ts. ts ≡ none) AreSome (fits_trees l) (spell_trees (sign c)) always always always reads_no_terms reads_some_terms
        (λ a w rest v d g e. refl) (λ a w rest v d g e. refl) (λ a x v e. refl) (λ a x v e. refl)
        (λ ts w rest v g e. next_is (word_eqb (sign c)) true (sign c) [] w rest (let P : Trees → Type 0 = λ us. Begins w (spell_trees (sign c) us) rest in subst P v g) same_sign)
        (λ ts w rest v g e. some_off ts w rest v g))
        terms_valid valid_terms (λ a v. refl) (λ a v. refl) (λ a x v. refl)

  -- a name, and its arguments
  valid_applied : (n : List ℕ) (t : Tree) → IsApplied n t → Unit {0} × (AreTrees (args_of t) × (t ≡ apply n (args_of t)))
  valid_applied n t v = (tt, (v.1, v.0))

  reads_applied : (n : List ℕ) → Reads (suc l) (suc l) (applied_at p n) (IsApplied n) (fits_tree (suc l)) after_words always
  unfolding applied_at
  reads_applied n = reads_as _ _ _ _ _ _ _ _ _ _ _
      (seq (λ t. tt) (reads_word (suc l) l open_sign (λ e. cc) (omega arith) (λ e. cc))
      (λ u. seq args_of (reads_terms (suc l) 41 (omega arith) refl refl) (λ ts. reads_nothing Tree (suc l) (apply n ts)) (λ ts t v. ap args_of v)) (λ a b v. refl))
      (λ t v. (v.1.1, v.1.0)) (λ t v. valid_applied n t v)
      (λ t v. and_true _ ∙ ap (fits_tree (suc l)) (sym v.1.1)) (λ t v. ap (λ (xs : List Word). open_sign ∷ xs) (append-nil (spell_trees close_sign (args_of t))) ∙ ap after_words (sym v.1.1)) (λ t x v. refl)

  reads_atom : (n : List ℕ) → Reads (suc l) (suc l) (nothing_at Tree (atom n)) (IsAtom n) (fits_tree (suc l)) after_words always
  reads_atom n = reads_as _ _ _ _ _ _ _ _ _ _ _ (reads_nothing Tree (suc l) (atom n)) (λ t v. v) (λ t v. v) (λ t v. rw v refl) (λ t v. rw v refl) (λ t x v. refl)

  applied_on : (n : List ℕ) (t : Tree) (w rest : List Tok) → IsApplied n t → Begins w (after_words t) rest → is_open (head w) ≡ true
  applied_on n t w rest v g = next_is is_open true open_sign (spell_trees close_sign (args_of t)) w rest (let P : Tree → Type 0 = λ u. Begins w (after_words u) rest in subst P v.0 g) refl

  applied_stops : (n : List ℕ) (t : Tree) (x : Word) → IsApplied n t → tree_stops t x ≡ true
  applied_stops n t x v = ap (λ u. tree_stops u x) v.0

  atom_stays : (n : List ℕ) (t : Tree) (w rest : List Tok) → t ≡ atom n → Begins w (after_words t) rest → w ≡ rest
  atom_stays n t w rest v g = let P : Tree → Type 0 = λ u. Begins w (after_words u) rest in subst P v g

  atom_stops : (n : List ℕ) (t : Tree) (x : Word) → t ≡ atom n → tree_stops t x ≡ not (is_open x)
  atom_stops n t x v = ap (λ u. tree_stops u x) v

  reads_after : (n : List ℕ) → Reads (suc l) (suc l) (after_name_at p n) (λ t. IsApplied n t ⊎ IsAtom n t) (fits_tree (suc l)) after_words tree_stops
  unfolding after_name_at
  reads_after n = reads_either (suc l) (suc l) is_open (applied_at p n) (nothing_at Tree (atom n)) (IsApplied n) (IsAtom n) (fits_tree (suc l)) after_words always always tree_stops (reads_applied n) (reads_atom n)
      (λ t w rest v c g e. applied_stops n t (head rest) v)
      (λ t w rest v c g e. atom_stops n t (head rest) v ∙ not_from_false _ (ap (λ (u : List Tok). is_open (head u)) (sym (atom_stays n t w rest v g)) ∙ c))
      (λ a x v e. refl) (λ a x v e. refl)
      (λ t w rest v g e. applied_on n t w rest v g)
      (λ t w rest v g e. ap (λ (u : List Tok). is_open (head u)) (atom_stays n t w rest v g) ∙ not-true _ (sym (atom_stops n t (head rest) v) ∙ e))

  after_first : (n : List ℕ) (t : Tree) → IsApplied n t ⊎ IsAtom n t → name_of t ≡ n
  after_first n t (inl v) = ap name_of v.0
  after_first n t (inr v) = ap name_of v

  named_valid : (t : Tree) → IsName (name_of t) × (IsApplied (name_of t) t ⊎ IsAtom (name_of t) t) → Ranked 4 t
  named_valid t v = elim (v.1) [
    | inl h ↦ subst (Ranked 4) (sym h.0) ((v.0, h.1), refl)
    | inr e ↦ subst (Ranked 4) (sym e) (v.0, refl)
  ]

  valid_named : (t : Tree) → Ranked 4 t → IsName (name_of t) × (IsApplied (name_of t) t ⊎ IsAtom (name_of t) t)
  valid_named (atom m) v = (v.0, inr refl)
  valid_named (apply m ts) v = (v.0.0, inl (refl, v.0.1))
  valid_named (hash t) v = absurd (omega (arith, v.1))
  valid_named (mac t u) v = absurd (omega (arith, v.1))
  valid_named (seal t u) v = absurd (omega (arith, v.1))
  valid_named (wrap t u w) v = absurd (omega (arith, v.1))

  abbrev IsNamedSo : Tree → Type 0
  IsNamedSo u = name (name_of u) ∷ after_words u ≡ spell_tree u

  named_words : (t : Tree) → IsApplied (name_of t) t ⊎ IsAtom (name_of t) t → IsNamedSo t
  named_words t (inl h) = subst IsNamedSo (sym h.0) refl
  named_words t (inr e) = subst IsNamedSo (sym e) refl

  reads_named : Reads (suc l) (suc l) (named_at p) (Ranked 4) (fits_tree (suc l)) spell_tree tree_stops
  unfolding named_at
  reads_named = reads_as _ _ _ _ _ _ _ _ _ _ _ (seq name_of (reads_name (suc l) (omega arith)) reads_after after_first)
      named_valid valid_named (λ t v. refl) (λ t v. named_words t v.1) (λ t x v. refl)

  -- an operator's word
  reads_operator : (b : List ℕ) → Reads (suc l) l (operator_at b) (λ u. Unit {0}) yes (λ u. name b ∷ open_sign ∷ []) always
  unfolding operator_at
  reads_operator b = reads_as _ _ _ _ _ _ _ _ _ _ _
      (seq (λ u. tt) (reads_word (suc l) (suc l) (name b) (λ e. cc) refl (λ e. omega arith)) (λ u. reads_word (suc l) l open_sign (λ e. cc) (omega arith) (λ e. cc)) (λ a b v. refl))
      (λ u v. tt) (λ u v. (tt, tt)) (λ u v. refl) (λ u v. refl) (λ u x v. refl)

  valid_hashed : (t : Tree) → Ranked 0 t → Unit {0} × (IsTree (first_part t) × (Unit {0} × (t ≡ hash (first_part t))))
  valid_hashed (hash t) v = (tt, (v.0, (tt, refl)))
  valid_hashed (atom n) v = absurd (omega (arith, v.1))
  valid_hashed (apply n ts) v = absurd (omega (arith, v.1))
  valid_hashed (mac t u) v = absurd (omega (arith, v.1))
  valid_hashed (seal t u) v = absurd (omega (arith, v.1))
  valid_hashed (wrap t u w) v = absurd (omega (arith, v.1))

  reads_hashed : Reads (suc l) (suc l) (hashed_at p) (Ranked 0) (fits_tree (suc l)) spell_tree always
  unfolding hashed_at
  reads_hashed = reads_as _ _ _ _ _ _ _ _ _ _ _
      (seq (λ t. tt) (reads_operator hash_word)
      (λ u. seq_until first_part close_sign hp
      (λ a. seq (λ t. tt) (reads_word l (suc l) close_sign (λ e. cc) (omega arith) (λ e. cc)) (λ u. reads_nothing Tree (suc l) (hash a)) (λ a b v. refl))
      (λ a t v. ap first_part v.1) (tree_ends close_sign refl))
      (λ a b v. refl))
      (λ t v. subst (Ranked 0) (sym v.1.1.1) (v.1.0, refl)) valid_hashed
      (λ t v. and_true _ ∙ ap (fits_tree (suc l)) (sym v.1.1.1)) (λ t v. ap spell_tree (sym v.1.1.1)) (λ t x v. refl)

  -- two terms
  abbrev pair_words : Tree × Tree → List Word
  pair_words b = spell_tree b.0 ++ (comma ∷ spell_tree b.1 ++ close_sign ∷ [])

  reads_pair : Reads l (suc l) (pair_at p) (λ (b : Tree × Tree). IsTree b.0 × IsTree b.1) (λ b. fits_tree l b.0 && fits_tree l b.1) pair_words always
  unfolding pair_at
  reads_pair = reads_as _ _ _ _ _ _ _ _ _ _ _
      (seq_until (λ (b : Tree × Tree). b.0) comma hp
      (λ t. seq_until (λ (b : Tree × Tree). b.1) close_sign reads_comma_term
      (λ u. seq (λ b. tt) (reads_word l (suc l) close_sign (λ e. cc) (omega arith) (λ e. cc)) (λ _. reads_nothing (Tree × Tree) (suc l) (t, u)) (λ a b v. refl))
      (λ u b v. ap (λ (x : Tree × Tree). x.1) v.1) (tree_ends close_sign refl))
      (λ t b v. ap (λ (x : Tree × Tree). x.0) v.1.1) (tree_ends comma refl))
      (λ b v. (v.0, v.1.0)) (λ b v. (v.0, (v.1, (tt, refl)))) (λ b v. ap (λ c. fits_tree l b.0 && c) (and_true _)) (λ b v. refl) (λ b x v. refl)

  module _ (i : ℕ) (b : List ℕ) (make : Tree → Tree → Tree) (ranked : (t u : Tree) → rank (make t u) ≡ i) (undoes : (t u : Tree) → parts_of (make t u) ≡ (t, u)) (is_valid : (t u : Tree) → IsTree t × IsTree u → IsTree (make t u))
      (made : (t : Tree) → Ranked i t → (IsTree (parts_of t).0 × IsTree (parts_of t).1) × (t ≡ make (parts_of t).0 (parts_of t).1))
      (fits : (t u : Tree) → fits_tree (suc l) (make t u) ≡ (fits_tree l t && fits_tree l u)) (words : (t u : Tree) → spell_tree (make t u) ≡ name b ∷ open_sign ∷ pair_words (t, u)) where
    reads_keyed : Reads (suc l) (suc l) (keyed_at p b make) (Ranked i) (fits_tree (suc l)) spell_tree always
    unfolding keyed_at
    reads_keyed = reads_as _ _ _ _ _ _ _ _ _ _ _
        (seq (λ t. tt) (reads_operator b) (λ u. seq parts_of reads_pair (λ (x : Tree × Tree). reads_nothing Tree (suc l) (make x.0 x.1)) (λ (x : Tree × Tree) t v. ap parts_of v ∙ undoes x.0 x.1)) (λ a b v. refl))
        (λ t v. subst (Ranked i) (sym v.1.1) (is_valid _ _ v.1.0, ranked _ _)) (λ t v. let k = made t v in (tt, k))
        (λ t v. and_true _ ∙ sym (fits _ _) ∙ ap (fits_tree (suc l)) (sym v.1.1))
        (λ t v. ap (λ (xs : List Word). name b ∷ open_sign ∷ xs) (append-nil (pair_words (parts_of t))) ∙ sym (words _ _) ∙ ap spell_tree (sym v.1.1)) (λ t x v. refl)

  made_mac : (t : Tree) → Ranked 1 t → (IsTree (parts_of t).0 × IsTree (parts_of t).1) × (t ≡ mac (parts_of t).0 (parts_of t).1)
  made_mac (mac t u) v = (v.0, refl)
  made_mac (hash t) v = absurd (omega (arith, v.1))
  made_mac (atom n) v = absurd (omega (arith, v.1))
  made_mac (apply n ts) v = absurd (omega (arith, v.1))
  made_mac (seal t u) v = absurd (omega (arith, v.1))
  made_mac (wrap t u w) v = absurd (omega (arith, v.1))

  made_seal : (t : Tree) → Ranked 2 t → (IsTree (parts_of t).0 × IsTree (parts_of t).1) × (t ≡ seal (parts_of t).0 (parts_of t).1)
  made_seal (seal t u) v = (v.0, refl)
  made_seal (hash t) v = absurd (omega (arith, v.1))
  made_seal (atom n) v = absurd (omega (arith, v.1))
  made_seal (apply n ts) v = absurd (omega (arith, v.1))
  made_seal (mac t u) v = absurd (omega (arith, v.1))
  made_seal (wrap t u w) v = absurd (omega (arith, v.1))

  reads_mac : Reads (suc l) (suc l) (keyed_at p mac_word mac) (Ranked 1) (fits_tree (suc l)) spell_tree always
  reads_mac = reads_keyed 1 mac_word mac (λ t u. refl) (λ t u. refl) (λ t u v. v) made_mac (λ t u. refl) (λ t u. refl)

  reads_seal : Reads (suc l) (suc l) (keyed_at p seal_word seal) (Ranked 2) (fits_tree (suc l)) spell_tree always
  reads_seal = reads_keyed 2 seal_word seal (λ t u. refl) (λ t u. refl) (λ t u v. v) made_seal (λ t u. refl) (λ t u. refl)

  valid_wrapped : (t : Tree) → Ranked 3 t → Unit {0} × (IsTree (first_part t) × (Unit {0} × ((IsTree (parts_of t).0 × IsTree (parts_of t).1) × (t ≡ wrap (first_part t) (parts_of t).0 (parts_of t).1))))
  valid_wrapped (wrap t u w) v = (tt, (v.0.0, (tt, ((v.0.1, v.0.2), refl))))
  valid_wrapped (hash t) v = absurd (omega (arith, v.1))
  valid_wrapped (atom n) v = absurd (omega (arith, v.1))
  valid_wrapped (apply n ts) v = absurd (omega (arith, v.1))
  valid_wrapped (mac t u) v = absurd (omega (arith, v.1))
  valid_wrapped (seal t u) v = absurd (omega (arith, v.1))

  three : (a b c : Bool) → (a && ((b && c) && true)) ≡ (a && b && c)
  three true b c = and_true _
  three false b c = refl

  reads_wrapped : Reads (suc l) (suc l) (wrapped_at p) (Ranked 3) (fits_tree (suc l)) spell_tree always
  unfolding wrapped_at
  reads_wrapped = reads_as _ _ _ _ _ _ _ _ _ _ _
      (seq (λ t. tt) (reads_operator wrap_word)
      (λ u. seq_until first_part comma hp
      (λ a. seq (λ t. tt) (reads_word l l comma (λ e. cc) refl (λ e. cc))
      (λ u. seq parts_of reads_pair (λ (x : Tree × Tree). reads_nothing Tree (suc l) (wrap a x.0 x.1)) (λ (x : Tree × Tree) t v. ap parts_of v)) (λ a b v. refl))
      (λ a t v. ap first_part v.1.1) (tree_ends comma refl))
      (λ a b v. refl))
      (λ t v. subst (Ranked 3) (sym v.1.1.1.1) ((v.1.0, v.1.1.1.0.0, v.1.1.1.0.1), refl)) valid_wrapped
      (λ t v. three _ _ _ ∙ ap (fits_tree (suc l)) (sym v.1.1.1.1))
      (λ t v. ap (λ (xs : List Word). name wrap_word ∷ open_sign ∷ spell_tree (first_part t) ++ (comma ∷ xs)) (append-nil (pair_words (parts_of t))) ∙ ap spell_tree (sym v.1.1.1.1)) (λ t x v. refl)

  -- by the first word
  ranked_stops : (t : Tree) (x : Word) → rank t < 4 → tree_stops t x ≡ true
  ranked_stops (atom n) x lt = absurd (omega arith)
  ranked_stops (apply n ts) x lt = refl
  ranked_stops (hash t) x lt = refl
  ranked_stops (mac t u) x lt = refl
  ranked_stops (seal t u) x lt = refl
  ranked_stops (wrap t u v) x lt = refl

  one_or_more : (i n : ℕ) → i ≤ n → (n ≡ i) ⊎ (suc i ≤ n)
  one_or_more zero zero h = inl refl
  one_or_more zero (suc n) h = inr (omega arith)
  one_or_more (suc i) zero h = absurd (omega arith)
  one_or_more (suc i) (suc n) h = elim (one_or_more i n (omega arith)) [ inl e ↦ inl (ap suc e) | inr k ↦ inr (omega arith) ]

  left_valid : (i : ℕ) (t : Tree) → Ranked i t ⊎ Left (suc i) t → Left i t
  left_valid i t (inl v) = (v.0, omega (arith, v.1))
  left_valid i t (inr v) = (v.0, omega (arith, v.1))

  valid_left : (i : ℕ) (t : Tree) → Left i t → Ranked i t ⊎ Left (suc i) t
  valid_left i t v = elim (one_or_more i (rank t) v.1) [ inl e ↦ inl (v.0, e) | inr k ↦ inr (v.0, k) ]

  module _ (i : ℕ) (below : i < 4) (b : List ℕ) (a q : List Tok → Result (Tree × List Tok) ReadNo)
      (ha : Reads (suc l) (suc l) a (Ranked i) (fits_tree (suc l)) spell_tree always) (hq : Reads (suc l) (suc l) q (Left (suc i)) (fits_tree (suc l)) spell_tree tree_stops)
      (on : (t : Tree) → rank t ≡ i → bytes_eq b (first_word t) ≡ true) (off : (t : Tree) → IsTree t → suc i ≤ rank t → bytes_eq b (first_word t) ≡ false) where
    reads_operator_or : Reads (suc l) (suc l) (λ w. cond (is_word b (head w)) (a w) (q w)) (Left i) (fits_tree (suc l)) spell_tree tree_stops
    reads_operator_or = reads_as _ _ _ _ _ _ _ _ _ _ _
        (reads_either (suc l) (suc l) (is_word b) a q (Ranked i) (Left (suc i)) (fits_tree (suc l)) spell_tree always tree_stops tree_stops ha hq
        (λ t w rest v c g e. ranked_stops t (head rest) (omega (arith, v.1, below))) (λ t w rest v c g e. e) (λ t x v e. refl) (λ t x v e. e)
        (λ t w rest v g e. begins_alone (is_word b) true t w rest g (on t v.1)) (λ t w rest v g e. begins_alone (is_word b) false t w rest g (off t v.0 v.1)))
        (left_valid i) (valid_left i) (λ t v. refl) (λ t v. refl) (λ t x v. refl)

  rank_most : (t : Tree) → rank t ≤ 4
  rank_most (atom n) = omega arith
  rank_most (apply n ts) = omega arith
  rank_most (hash t) = omega arith
  rank_most (mac t u) = omega arith
  rank_most (seal t u) = omega arith
  rank_most (wrap t u v) = omega arith

  reads_last : Reads (suc l) (suc l) (named_at p) (Left 4) (fits_tree (suc l)) spell_tree tree_stops
  reads_last = reads_as _ _ _ _ _ _ _ _ _ _ _ reads_named (λ t v. (v.0, omega (arith, v.1))) (λ t v. (v.0, omega (arith, v.1, rank_most t))) (λ t v. refl) (λ t v. refl) (λ t x v. refl)

  on_hash : (t : Tree) → rank t ≡ 0 → bytes_eq hash_word (first_word t) ≡ true
  on_hash (hash t) e = refl
  on_hash (atom n) e = absurd (omega arith)
  on_hash (apply n ts) e = absurd (omega arith)
  on_hash (mac t u) e = absurd (omega arith)
  on_hash (seal t u) e = absurd (omega arith)
  on_hash (wrap t u v) e = absurd (omega arith)

  on_mac : (t : Tree) → rank t ≡ 1 → bytes_eq mac_word (first_word t) ≡ true
  on_mac (mac t u) e = refl
  on_mac (atom n) e = absurd (omega arith)
  on_mac (apply n ts) e = absurd (omega arith)
  on_mac (hash t) e = absurd (omega arith)
  on_mac (seal t u) e = absurd (omega arith)
  on_mac (wrap t u v) e = absurd (omega arith)

  on_seal : (t : Tree) → rank t ≡ 2 → bytes_eq seal_word (first_word t) ≡ true
  on_seal (seal t u) e = refl
  on_seal (atom n) e = absurd (omega arith)
  on_seal (apply n ts) e = absurd (omega arith)
  on_seal (hash t) e = absurd (omega arith)
  on_seal (mac t u) e = absurd (omega arith)
  on_seal (wrap t u v) e = absurd (omega arith)

  on_wrap : (t : Tree) → rank t ≡ 3 → bytes_eq wrap_word (first_word t) ≡ true
  on_wrap (wrap t u v) e = refl
  on_wrap (atom n) e = absurd (omega arith)
  on_wrap (apply n ts) e = absurd (omega arith)
  on_wrap (hash t) e = absurd (omega arith)
  on_wrap (mac t u) e = absurd (omega arith)
  on_wrap (seal t u) e = absurd (omega arith)

  off_hash : (t : Tree) → IsTree t → 1 ≤ rank t → bytes_eq hash_word (first_word t) ≡ false
  unfolding is_name
  off_hash (atom n) v h = not_reserved hash_word n refl v
  off_hash (apply n ts) v h = not_reserved hash_word n refl v.0
  off_hash (hash t) v h = absurd (omega arith)
  off_hash (mac t u) v h = refl
  off_hash (seal t u) v h = refl
  off_hash (wrap t u w) v h = refl

  off_mac : (t : Tree) → IsTree t → 2 ≤ rank t → bytes_eq mac_word (first_word t) ≡ false
  unfolding is_name
  off_mac (atom n) v h = not_reserved mac_word n refl v
  off_mac (apply n ts) v h = not_reserved mac_word n refl v.0
  off_mac (hash t) v h = absurd (omega arith)
  off_mac (mac t u) v h = absurd (omega arith)
  off_mac (seal t u) v h = refl
  off_mac (wrap t u w) v h = refl

  off_seal : (t : Tree) → IsTree t → 3 ≤ rank t → bytes_eq seal_word (first_word t) ≡ false
  unfolding is_name
  off_seal (atom n) v h = not_reserved seal_word n refl v
  off_seal (apply n ts) v h = not_reserved seal_word n refl v.0
  off_seal (hash t) v h = absurd (omega arith)
  off_seal (mac t u) v h = absurd (omega arith)
  off_seal (seal t u) v h = absurd (omega arith)
  off_seal (wrap t u w) v h = refl

  off_wrap : (t : Tree) → IsTree t → 4 ≤ rank t → bytes_eq wrap_word (first_word t) ≡ false
  unfolding is_name
  off_wrap (atom n) v h = not_reserved wrap_word n refl v
  off_wrap (apply n ts) v h = not_reserved wrap_word n refl v.0
  off_wrap (hash t) v h = absurd (omega arith)
  off_wrap (mac t u) v h = absurd (omega arith)
  off_wrap (seal t u) v h = absurd (omega arith)
  off_wrap (wrap t u w) v h = absurd (omega arith)

  pub reads_over : Reads (suc l) (suc l) (term_over p) IsTree (fits_tree (suc l)) spell_tree tree_stops
  unfolding term_over
  reads_over = reads_as _ _ _ _ _ _ _ _ _ _ _
      (reads_operator_or 0 (omega arith) hash_word _ _ reads_hashed
      (reads_operator_or 1 (omega arith) mac_word _ _ reads_mac
      (reads_operator_or 2 (omega arith) seal_word _ _ reads_seal
      (reads_operator_or 3 (omega arith) wrap_word _ _ reads_wrapped reads_last on_wrap off_wrap)
      on_seal off_seal) on_mac off_mac) on_hash off_hash)
      (λ t v. v.0) (λ t v. (v, omega arith)) (λ t v. refl) (λ t v. refl) (λ t x v. refl)

-- a term that begins with a word, where one can
abbrev Started : Word → Bool → Type 0
Started x b = (v : Tree) × IsTree v × IfDeep b (TooDeep 0 [] x (spell_tree v))

starts_with : (x : Word) (v : Tree) (others : List Word) → IsTree v → begins_term x ≡ true → spell_tree v ≡ x ∷ others → Started x true
starts_with x v others i b e = (v, i, record { starts = b; nested = refl; others = others; goes_on = e })

starting_name : (b : List ℕ) (h m s w n : Bool) → bytes_eq hash_word b ≡ h → bytes_eq mac_word b ≡ m → bytes_eq seal_word b ≡ s → bytes_eq wrap_word b ≡ w → is_name b ≡ n → Started (name b) (h || m || s || w || n)
starting_name b true m s w n eh em es ew en = starts_with (name b) (hash (atom a_word)) (open_sign ∷ name a_word ∷ close_sign ∷ []) a_name (rw eh refl) (ap (λ c. name c ∷ open_sign ∷ name a_word ∷ close_sign ∷ []) (bytes_are_one hash_word b eh))
starting_name b false true s w n eh em es ew en = starts_with (name b) (mac (atom a_word) (atom a_word)) (open_sign ∷ name a_word ∷ comma ∷ name a_word ∷ close_sign ∷ []) (a_name, a_name) (rw (eh, em) refl) (ap (λ c. name c ∷ open_sign ∷ name a_word ∷ comma ∷ name a_word ∷ close_sign ∷ []) (bytes_are_one mac_word b em))
starting_name b false false true w n eh em es ew en = starts_with (name b) (seal (atom a_word) (atom a_word)) (open_sign ∷ name a_word ∷ comma ∷ name a_word ∷ close_sign ∷ []) (a_name, a_name) (rw (eh, em, es) refl) (ap (λ c. name c ∷ open_sign ∷ name a_word ∷ comma ∷ name a_word ∷ close_sign ∷ []) (bytes_are_one seal_word b es))
starting_name b false false false true n eh em es ew en = starts_with (name b) (wrap (atom a_word) (atom a_word) (atom a_word)) (open_sign ∷ name a_word ∷ comma ∷ name a_word ∷ comma ∷ name a_word ∷ close_sign ∷ []) (a_name, a_name, a_name) (rw (eh, em, es, ew) refl) (ap (λ c. name c ∷ open_sign ∷ name a_word ∷ comma ∷ name a_word ∷ comma ∷ name a_word ∷ close_sign ∷ []) (bytes_are_one wrap_word b ew))
starting_name b false false false false true eh em es ew en = starts_with (name b) (atom b) [] en (rw (eh, em, es, ew, en) refl) refl
starting_name b false false false false false eh em es ew en = (atom a_word, a_name, tt)

starting : (x : Word) → Started x (begins_term x)
starting (name b) = starting_name b (bytes_eq hash_word b) (bytes_eq mac_word b) (bytes_eq seal_word b) (bytes_eq wrap_word b) (is_name b) refl refl refl refl refl
starting (literal b) = (atom a_word, a_name, tt)
starting (sign c) = (atom a_word, a_name, tt)
starting end = (atom a_word, a_name, tt)
starting bad = (atom a_word, a_name, tt)

pub begins_name : (n : List ℕ) → IsName n → begins_term (name n) ≡ true
begins_name n i = or_right (bytes_eq hash_word n || bytes_eq mac_word n || bytes_eq seal_word n || bytes_eq wrap_word n) (is_name n) i

pub first_begins : (t : Tree) → IsTree t → begins_term (name (first_word t)) ≡ true
first_begins (atom n) v = begins_name n v
first_begins (apply n ts) v = begins_name n v.0
first_begins (hash t) v = refl
first_begins (mac t u) v = refl
first_begins (seal t u) v = refl
first_begins (wrap t u w) v = refl

abbrev too_deep_at : List Tok → Result (Tree × List Tok) ReadNo
too_deep_at w = Err (fault (begins_term (head w)) w)

no_level : (w : List Tok) (f : ReadNo) → too_deep_at w ≡ Err f → f ≡ fault (begins_term (head w)) w
no_level w f e = cc

-- as many parentheses are opened as are closed
abbrev Balanced : List Word → Type 0
Balanced xs = opens xs ≡ closes xs

balanced_joined : (a b : List Word) (m n : ℕ) → Balanced a → opens b + m ≡ closes b + n → opens (a ++ b) + m ≡ closes (a ++ b) + n
balanced_joined a b m n h k = omega (arith, h, k, opens_joined a b, closes_joined a b)

balanced_two : (a b : List Word) → Balanced a → Balanced b → opens (a ++ (comma ∷ b ++ close_sign ∷ [])) + 1 ≡ closes (a ++ (comma ∷ b ++ close_sign ∷ [])) + 0
balanced_two a b h k = balanced_joined a (comma ∷ b ++ close_sign ∷ []) 1 0 h (omega (arith, balanced_joined b (close_sign ∷ []) 1 0 k refl))

mutual
  pub balanced_tree : (t : Tree) → Balanced (spell_tree t)
  balanced_tree (atom n) = refl
  balanced_tree (apply n ts) = omega (arith, balanced_trees ts)
  balanced_tree (hash t) = omega (arith, balanced_joined (spell_tree t) (close_sign ∷ []) 1 0 (balanced_tree t) refl)
  balanced_tree (mac t u) = omega (arith, balanced_two (spell_tree t) (spell_tree u) (balanced_tree t) (balanced_tree u))
  balanced_tree (seal t u) = omega (arith, balanced_two (spell_tree t) (spell_tree u) (balanced_tree t) (balanced_tree u))
  balanced_tree (wrap t u v) = omega (arith, balanced_joined (spell_tree t) (comma ∷ spell_tree u ++ (comma ∷ spell_tree v ++ close_sign ∷ [])) 1 0 (balanced_tree t) (omega (arith, balanced_two (spell_tree u) (spell_tree v) (balanced_tree u) (balanced_tree v))))

  pub balanced_trees : (ts : Trees) → opens (spell_trees close_sign ts) + 1 ≡ closes (spell_trees close_sign ts) + 0
  balanced_trees none = refl
  balanced_trees (more t ts) = balanced_joined (spell_tree t) (spell_others close_sign ts) 1 0 (balanced_tree t) (balanced_others ts)

  balanced_others : (ts : Trees) → opens (spell_others close_sign ts) + 1 ≡ closes (spell_others close_sign ts) + 0
  balanced_others none = refl
  balanced_others (more t ts) = omega (arith, balanced_joined (spell_tree t) (spell_others close_sign ts) 1 0 (balanced_tree t) (balanced_others ts))

pub reads_term : (l : ℕ) → Reads l l (term_at l) IsTree (fits_tree l) spell_tree tree_stops
unfolding term_at
reads_term zero = record {
  sound = λ w v rest e. cc (e);
  again = λ w v rest i g e. (place w, rw (begins_alone begins_term true v w rest g (first_begins v i)) refl);
  refused = λ w f e. let v = starting (head w) in record {
    front = [];
    rest = w;
    begins = refl;
    is_deep = begins_term (head w);
    is = no_level w f e;
    value = v.0;
    valid = v.1;
    more = spell_tree v.0;
    completes = refl;
    shallow = shallow_none 0;
    level = v.2;
    alike = λ u others g i.
        let h : begins_term (head u) ≡ begins_term (head w) = ap (λ (z : List Tok). begins_term (head z)) g ∙ ap begins_term i in
        rw h (ap (λ (z : List Tok). Err (fault (begins_term (head w)) z)) g);
  };
  balanced = λ v i. omega (arith, balanced_tree v);
  some = atom a_word;
  is_valid = a_name;
}
reads_term (suc l) = reads_over l (term_at l) (reads_term l)
