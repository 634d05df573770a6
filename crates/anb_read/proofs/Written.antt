-- The readers of the sections and of whole narrations.
use Rattle.std.proofs.Common.{◌≡◌, ℕ, ◌<◌, List, [], ◌∷◌, ◌++◌, length, map, Bool, true, false, Result, refl, ap, subst, arith, inl, inr, ◌⊎◌}
use Rattle.std.specs.Prelude.{not}
use Rattle.std.specs.List.{flat_map, list_all, AllByRecursion}
use Rattle.std.proofs.lemmas.List.{append-nil}
use Rattle.anb_base.specs.declared.content.Suite.{Suite}
use Rattle.anb_syntax.specs.declared.narration.Sort.{Sort}
use Rattle.anb_syntax.specs.declared.narration.Sort.TheVariants.{Agent, Number, Key}
use Rattle.anb_read.specs.declared.refusal.ReadNo.{ReadNo}
use Rattle.anb_syntax.specs.Words.{Word, name, end, bad, Tok, head, Begins, colon, semicolon, equals, arrow, protocol_word, suite_word, types_word, formats_word, knowledge_word, actions_word, goals_word, sort_word, hash_name}
use Rattle.anb_syntax.specs.Grammar.{IsName, spell_names, IsTypeItem, spell_type, IsFormatItem, spell_format, piece_word, KnowItem, IsKnowItem, spell_know, fits_trees, spell_trees, ActionItem, IsActionItem, spell_action, spell_tree, fits_tree, spell_ending}
use Rattle.anb_read.specs.Productions.{◌>>=◌, many, is_word, is_sort, is_some_name, type_at, format_at, term_at, know_at, action_at, heading_at, title_at, suite_section, types_section, formats_section, knows_section, actions_section, goals_at, end_at, ending_at}
use Rattle.anb_read.proofs.Readers.{Reads}
use Rattle.anb_read.proofs.Begins.{begins_length}
use Rattle.anb_read.proofs.Parts.{reads_nothing, reads_as, reads_either, always, yes}
use Rattle.anb_read.proofs.Many.{reads_many}
use Rattle.anb_read.proofs.Picks.{reads_word, reads_name, reads_suite, seq, seq_until, next_is}
use Rattle.anb_read.proofs.Rows.{always_stops, reads_type, reads_format}
use Rattle.anb_read.proofs.Trees.{tree_ends, and_true, reads_terms, reads_term}

abbrev pub fits_know : ℕ → KnowItem → Bool
fits_know l i = fits_trees l i.terms

abbrev pub fits_action : ℕ → ActionItem → Bool
fits_action l a = fits_tree l a.message

-- the items
pub reads_know : (l : ℕ) → 0 < l → Reads l l (know_at l) IsKnowItem (fits_know l) spell_know always
unfolding know_at
reads_know l h = reads_as _ _ _ _ _ _ _ _ _ _ _
    (seq (λ i. i.role) (reads_name l h)
    (λ n. seq (λ i. tt) (reads_word l l colon (λ e. cc) refl (λ e. cc))
    (λ u. seq (λ i. i.terms) (reads_terms l (term_at l) (reads_term l) l 59 refl refl refl) (λ ts. reads_nothing KnowItem l (record { role = n; terms = ts })) (λ ts i v. ap (λ x. x.terms) v))
    (λ a b v. refl))
    (λ n i v. ap (λ x. x.role) v.1.1))
    (λ i v. (v.0, v.1.1.0)) (λ i v. (v.0, (tt, (v.1, refl)))) (λ i v. and_true _)
    (λ i v. ap (λ (xs : List Word). name i.role ∷ colon ∷ xs) (append-nil (spell_trees semicolon i.terms))) (λ i x v. refl)

pub reads_action : (l : ℕ) → 0 < l → Reads l l (action_at l) IsActionItem (fits_action l) spell_action always
unfolding action_at
reads_action l h = reads_as _ _ _ _ _ _ _ _ _ _ _
    (seq (λ a. a.from) (reads_name l h)
    (λ n. seq (λ a. tt) (reads_word l l arrow (λ e. cc) refl (λ e. cc))
    (λ u. seq (λ a. a.to) (reads_name l h)
    (λ m. seq (λ a. tt) (reads_word l l colon (λ e. cc) refl (λ e. cc))
    (λ u. seq_until (λ a. a.message) semicolon (reads_term l)
    (λ t. seq (λ a. tt) (reads_word l l semicolon (λ e. cc) refl (λ e. cc)) (λ u. reads_nothing ActionItem l (record { from = n; to = m; message = t })) (λ a b v. refl))
    (λ t a v. ap (λ x. x.message) v.1) (tree_ends semicolon refl))
    (λ a b v. refl))
    (λ m a v. ap (λ x. x.to) v.1.1.1))
    (λ a b v. refl))
    (λ n a v. ap (λ x. x.from) v.1.1.1.1.1))
    (λ a v. (v.0, v.1.1.0, v.1.1.1.1.0)) (λ a v. (v.0, (tt, (v.1, (tt, (v.2, (tt, refl)))))))
    (λ a v. and_true _) (λ a v. refl) (λ a x v. refl)

-- the word of a section, and its colon
reads_heading : (l : ℕ) → 0 < l → (b : List ℕ) → Reads l l (heading_at b) (λ u. Unit {0}) yes (λ u. name b ∷ colon ∷ []) always
unfolding heading_at
reads_heading l h b = reads_as _ _ _ _ _ _ _ _ _ _ _
    (seq (λ u. tt) (reads_word l l (name b) (λ e. cc) refl (λ e. h)) (λ u. reads_word l l colon (λ e. cc) refl (λ e. cc)) (λ a b v. refl))
    (λ u v. tt) (λ u v. (tt, tt)) (λ u v. refl) (λ u v. refl) (λ u x v. refl)

abbrev pub title_words : List ℕ → List Word
title_words n = name protocol_word ∷ colon ∷ name n ∷ semicolon ∷ []

pub reads_title : (l : ℕ) → 0 < l → Reads l l title_at IsName yes title_words always
unfolding title_at
reads_title l h = reads_as _ _ _ _ _ _ _ _ _ _ _
    (seq (λ n. tt) (reads_heading l h protocol_word)
    (λ u. seq (λ n. n) (reads_name l h)
    (λ n. seq (λ n. tt) (reads_word l l semicolon (λ e. cc) refl (λ e. cc)) (λ u. reads_nothing (List ℕ) l n) (λ a b v. refl))
    (λ a b v. v.1))
    (λ a b v. refl))
    (λ n v. v.1.0) (λ n v. (tt, (v, (tt, refl)))) (λ n v. refl) (λ n v. refl) (λ n x v. refl)

abbrev pub suite_words : Suite → List Word
suite_words s = name suite_word ∷ colon ∷ name (hash_name s) ∷ semicolon ∷ []

pub reads_suite_section : (l : ℕ) → 0 < l → Reads l l suite_section (λ s. Unit {0}) yes suite_words always
unfolding suite_section
reads_suite_section l h = reads_as _ _ _ _ _ _ _ _ _ _ _
    (seq (λ n. tt) (reads_heading l h suite_word)
    (λ u. seq (λ n. n) (reads_suite l h)
    (λ n. seq (λ n. tt) (reads_word l l semicolon (λ e. cc) refl (λ e. cc)) (λ u. reads_nothing Suite l n) (λ a b v. refl))
    (λ a b v. v.1))
    (λ a b v. refl))
    (λ n v. tt) (λ n v. (tt, (tt, (tt, refl)))) (λ n v. refl) (λ n v. refl) (λ n x v. refl)

-- a section of items
module _ {A : Type 0} (l : ℕ) (above : 0 < l) (b : List ℕ) (starts : Word → Bool) (p : List Tok → Result (A × List Tok) ReadNo) (V : A → Type 0) (f : A → Bool) (s : A → List Word)
    (hp : Reads l l p V f s always) (on : (a : A) (w rest : List Tok) → V a → Begins w (s a) rest → starts (head w) ≡ true)
    (longer : (a : A) (w rest : List Tok) → V a → Begins w (s a) rest → length rest < length w) (no_end : starts bad ≡ false) where
  reads_section : Reads l l (λ w. heading_at b w >>= λ h. many starts p h.1) (AllByRecursion V) (list_all f) (λ is. name b ∷ colon ∷ flat_map s is) (λ is x. not (starts x))
  reads_section = reads_as _ _ _ _ _ _ _ _ _ _ _
      (seq (λ is. tt) (reads_heading l above b) (λ u. reads_many l starts p V f s always hp on longer (λ a x v e. refl) no_end) (λ a b v. refl))
      (λ is v. v.1) (λ is v. (tt, v)) (λ is v. refl) (λ is v. refl) (λ is x v. always_stops starts x is)

name_starts : (n : List ℕ) (xs : List Word) (w rest : List Tok) → IsName n → Begins w (name n ∷ xs) rest → is_some_name (head w) ≡ true
name_starts n xs w rest v g = next_is is_some_name true (name n) xs w rest g v

sort_is : (s : Sort) → is_sort (name (sort_word s)) ≡ true
sort_is Agent = refl
sort_is Number = refl
sort_is Key = refl

pub reads_types : (l : ℕ) → 0 < l → Reads l l types_section (AllByRecursion IsTypeItem) (list_all yes) (λ is. name types_word ∷ colon ∷ flat_map spell_type is) (λ is x. not (is_sort x))
unfolding types_section
reads_types l h = reads_section l h types_word is_sort type_at IsTypeItem yes spell_type (reads_type l h)
    (λ i w rest v g. next_is is_sort true (name (sort_word i.sort)) (spell_names i.names ++ semicolon ∷ []) w rest g (sort_is i.sort)) (λ i w rest v g. omega (arith, begins_length w (spell_type i) rest g)) refl

pub reads_formats : (l : ℕ) → 0 < l → Reads l l formats_section (AllByRecursion IsFormatItem) (list_all yes) (λ is. name formats_word ∷ colon ∷ flat_map spell_format is) (λ is x. not (is_some_name x))
unfolding formats_section
reads_formats l h = reads_section l h formats_word is_some_name format_at IsFormatItem yes spell_format (reads_format l h)
    (λ i w rest v g. name_starts i.title (equals ∷ map piece_word i.pieces ++ semicolon ∷ []) w rest v.0 g) (λ i w rest v g. omega (arith, begins_length w (spell_format i) rest g)) refl

pub reads_knows : (l : ℕ) → 0 < l → Reads l l (knows_section l) (AllByRecursion IsKnowItem) (list_all (fits_know l)) (λ is. name knowledge_word ∷ colon ∷ flat_map spell_know is) (λ is x. not (is_some_name x))
unfolding knows_section
reads_knows l h = reads_section l h knowledge_word is_some_name (know_at l) IsKnowItem (fits_know l) spell_know (reads_know l h)
    (λ i w rest v g. name_starts i.role (colon ∷ spell_trees semicolon i.terms) w rest v.0 g) (λ i w rest v g. omega (arith, begins_length w (spell_know i) rest g)) refl

pub reads_actions : (l : ℕ) → 0 < l → Reads l l (actions_section l) (AllByRecursion IsActionItem) (list_all (fits_action l)) (λ is. name actions_word ∷ colon ∷ flat_map spell_action is) (λ is x. not (is_some_name x))
unfolding actions_section
reads_actions l h = reads_section l h actions_word is_some_name (action_at l) IsActionItem (fits_action l) spell_action (reads_action l h)
    (λ a w rest v g. name_starts a.from (arrow ∷ name a.to ∷ colon ∷ spell_tree a.message ++ semicolon ∷ []) w rest v.0 g) (λ a w rest v g. omega (arith, begins_length w (spell_action a) rest g)) refl

-- the ending
reads_goals : (l : ℕ) → 0 < l → Reads l l goals_at (λ b. b ≡ true) yes spell_ending always
unfolding goals_at
reads_goals l h = reads_as _ _ _ _ _ _ _ _ _ _ _
    (seq (λ b. tt) (reads_heading l h goals_word) (λ u. reads_nothing Bool l true) (λ a b v. refl))
    (λ b v. v.1) (λ b v. (tt, v)) (λ b v. refl) (λ b v. rw v.1 refl) (λ b x v. refl)

reads_end : (l : ℕ) → Reads l l end_at (λ b. b ≡ false) yes spell_ending always
unfolding end_at
reads_end l = reads_as _ _ _ _ _ _ _ _ _ _ _
    (seq (λ b. tt) (reads_word l l end (λ e. cc) refl (λ e. cc)) (λ u. reads_nothing Bool l false) (λ a b v. refl))
    (λ b v. v.1) (λ b v. (tt, v)) (λ b v. refl) (λ b v. rw v.1 refl) (λ b x v. refl)

either_way : (b : Bool) → (b ≡ true) ⊎ (b ≡ false)
either_way true = inl refl
either_way false = inr refl

pub reads_ending : (l : ℕ) → 0 < l → Reads l l ending_at (λ b. Unit {0}) yes spell_ending always
unfolding ending_at
reads_ending l h = reads_as _ _ _ _ _ _ _ _ _ _ _
    (reads_either l l (is_word goals_word) goals_at end_at (λ b. b ≡ true) (λ b. b ≡ false) yes spell_ending always always always (reads_goals l h) (reads_end l)
    (λ a w rest v c g e. refl) (λ a w rest v c g e. refl) (λ a x v e. refl) (λ a x v e. refl)
    (λ b w rest v g e. next_is (is_word goals_word) true (name goals_word) (colon ∷ []) w rest (let P : Bool → Type 0 = λ c. Begins w (spell_ending c) rest in subst P v g) refl)
    (λ b w rest v g e. next_is (is_word goals_word) false end [] w rest (let P : Bool → Type 0 = λ c. Begins w (spell_ending c) rest in subst P v g) refl))
    (λ b v. tt) (λ b v. either_way b) (λ b v. refl) (λ b v. refl) (λ b x v. refl)
