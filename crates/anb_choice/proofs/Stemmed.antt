-- The front of a narration's words, up to the end of an action, with the end behind it.
use Rattle.std.proofs.Common.{◌≡◌, ◌⊎◌, inl, inr, ℕ, zero, suc, List, [], ◌∷◌, ◌++◌, take, Bool, true, false, cond, refl, sym, ap, ◌∙◌, subst, append_assoc}
use Rattle.std.specs.Prelude.{◌&&◌, if◌then◌else◌}
use Rattle.std.specs.List.{AllByRecursion, flat_map, list_all}
use Rattle.anb_lemmas.proofs.Each.{each_in_parts}
use Rattle.anb_syntax.specs.Words.{Word, name, end, colon, semicolon, actions_word, goals_word, Tok, Begins}
use Rattle.anb_syntax.specs.Grammar.{ActionItem, IsActionItem, IsNarration, Written, fits, fits_tree, fits_trees, KnowItem, spell, spell_action, spell_ending, told}
use Rattle.anb_syntax.specs.Text.{Text}
use Rattle.anb_choice.proofs.Cutting.{NoActions, NoSemicolon, action_neither, action_words, before_actions, before_free, behind_actions, behind_free, first_splits, is_actions, is_semicolon, is_stop, only_one, spell_parts, without_semicolon}
use Rattle.anb_choice.proofs.Worded.{Reads, lexed_of, words_of}

-- how many semicolons there are
abbrev pub semicolons : List Word → ℕ
semicolons [] = 0
semicolons (w ∷ ws) = if is_semicolon w then suc (semicolons ws) else semicolons ws

-- the words from `Actions` on
abbrev pub from_actions : List Word → List Word
from_actions [] = []
from_actions (w ∷ ws) = if is_actions w then w ∷ ws else from_actions ws

abbrev ends_semicolon : List Word → Bool
ends_semicolon [] = false
ends_semicolon (w ∷ []) = is_semicolon w
ends_semicolon (w ∷ v ∷ ws) = ends_semicolon (v ∷ ws)

ends_behind : (xs ys : List Word) (y : Word) → ends_semicolon (xs ++ y ∷ ys) ≡ ends_semicolon (y ∷ ys)
ends_behind [] ys y = refl
ends_behind (x ∷ []) ys y = refl
ends_behind (x ∷ v ∷ xs) ys y = ends_behind (v ∷ xs) ys y

ends_not_free : (ws : List Word) → ends_semicolon ws ≡ true → NoSemicolon ws → ⊥
ends_not_free [] e free = let never = e in absurd (cc)
ends_not_free (w ∷ []) e free = let never = sym e ∙ free.0 in absurd (cc)
ends_not_free (w ∷ v ∷ ws) e free = ends_not_free (v ∷ ws) e free.1

semicolons_next : (front ws : List Word) → NoSemicolon front → semicolons (front ++ semicolon ∷ ws) ≡ suc (semicolons ws)
semicolons_next [] ws free = refl
semicolons_next (f ∷ front) ws free = ap (λ b. cond b (suc (semicolons (front ++ semicolon ∷ ws))) (semicolons (front ++ semicolon ∷ ws))) free.0 ∙ semicolons_next front ws free.1

from_first : (front ws : List Word) (a : Word) → NoActions front → is_actions a ≡ true → from_actions (front ++ a ∷ ws) ≡ a ∷ ws
from_first [] ws a free t = ap (λ b. cond b (a ∷ ws) (from_actions ws)) t
from_first (f ∷ front) ws a free t = ap (λ b. cond b (f ∷ front ++ a ∷ ws) (from_actions (front ++ a ∷ ws))) free.0 ∙ from_first front ws a free.1 t

abbrev pub NoStop : List Word → Type 0
NoStop ws = AllByRecursion (λ w. is_stop w ≡ false) ws

pub stop_parts : (xs ys : List Word) → NoStop (xs ++ ys) → NoStop xs × NoStop ys
stop_parts xs ys all = each_in_parts (λ w. is_stop w ≡ false) xs ys all

-- ---- whole actions

abbrev Ends : List Word → Type 0
Ends ws = (ws ≡ []) ⊎ (ends_semicolon ws ≡ true)

abbrev IsCut : List ActionItem → List Word → Type 0
IsCut acts ws = ws ≡ flat_map spell_action (take (semicolons ws) acts)

none_cut : (acts : List ActionItem) (ws : List Word) → ws ≡ [] → IsCut acts ws
none_cut acts ws e = subst (IsCut acts) (sym e) refl

ending_stops : (b : Bool) (ws after : List Word) → spell_ending b ≡ ws ++ after → ends_semicolon ws ≡ true → NoStop ws → ⊥
ending_stops b [] after e ends stop = let never = ends in absurd (cc)
ending_stops true (w ∷ ws) after e ends stop = let same : name goals_word ≡ w = cc in let never : true ≡ false = ap is_stop same ∙ stop.0 in absurd (cc)
ending_stops false (w ∷ ws) after e ends stop = let same : end ≡ w = cc in let never : true ≡ false = ap is_stop same ∙ stop.0 in absurd (cc)

ends_other : (xs others : List Word) → ends_semicolon (xs ++ semicolon ∷ others) ≡ true → Ends others
ends_other xs [] e = inl refl
ends_other xs (o ∷ others) e = inr (sym (ends_behind xs (o ∷ others) semicolon) ∙ e)

acts_cut : (acts : List ActionItem) (b : Bool) (ws after : List Word) → AllByRecursion IsActionItem acts → flat_map spell_action acts ++ spell_ending b ≡ ws ++ after → Ends ws → NoStop ws → IsCut acts ws
acts_cut acts b ws after all e (inl none) stop = none_cut acts ws none
acts_cut [] b ws after all e (inr ends) stop = absurd (ending_stops b ws after e ends stop)
acts_cut (a ∷ acts) b ws after all e (inr ends) stop =
    let front = action_words a in
    let free = without_semicolon front (action_neither a all.0) in
    let rest = flat_map spell_action acts ++ spell_ending b in
    let whole : front ++ semicolon ∷ rest ≡ ws ++ after = sym (append_assoc front (semicolon ∷ []) rest) ∙ sym (append_assoc (front ++ semicolon ∷ []) (flat_map spell_action acts) (spell_ending b)) ∙ e in
    let (others, is, later) = first_splits is_semicolon front rest ws after semicolon free whole (ends_not_free ws ends) in
    let stops = (stop_parts front (semicolon ∷ others) (subst NoStop is stop)).1.1 in
    let next = acts_cut acts b others after all.1 later (ends_other front others (ap ends_semicolon (sym is) ∙ ends)) stops in
    let count : semicolons ws ≡ suc (semicolons others) = ap semicolons is ∙ semicolons_next front others free in
    is ∙ sym (append_assoc front (semicolon ∷ []) others) ∙ ap (λ l. (front ++ semicolon ∷ []) ++ l) next ∙ ap (λ k. flat_map spell_action (take k (a ∷ acts))) (sym count)

-- ---- the stem

-- the narration of the first actions, so many
abbrev pub cut : Written → ℕ → Written
cut w k = record w { actions = take k w.actions; goals = false }

-- the words end an action, or begin them all
abbrev pub IsClosed : List Word → Type 0
IsClosed ws = ((front : List Word) × (ws ≡ front ++ semicolon ∷ [])) ⊎ ((front : List Word) × (ws ≡ front ++ name actions_word ∷ colon ∷ []))

abbrev pub stem_count : List Word → ℕ
stem_count ws = semicolons (from_actions ws)

module _ (w : Written) (is : IsNarration (told w)) where
  behind_ends : (ws others after : List Word) → IsClosed ws → ws ≡ before_actions w ++ name actions_word ∷ others → behind_actions w ≡ others ++ after → (os : List Word) × (others ≡ colon ∷ os) × Ends os
  behind_ends ws [] after (inl (front, e)) f g =
      let never : true ≡ false = sym (ends_behind front [] semicolon) ∙ ap ends_semicolon (sym e ∙ f) ∙ ends_behind (before_actions w) [] (name actions_word) in
      absurd (cc)
  behind_ends ws [] after (inr (front, e)) f g =
      let never = only_one is_actions front (before_actions w) (colon ∷ []) [] (name actions_word) refl (before_free w is) tt (sym e ∙ f) in
      absurd (cc)
  behind_ends ws (o ∷ os) after closed f g = (os, ap (λ v. v ∷ os) (sym first), by closed) where
    first : colon ≡ o
    first = cc

    by_semicolon : (zs : List Word) → ends_semicolon (o ∷ zs) ≡ true → Ends zs
    by_semicolon [] e = let never : false ≡ true = ap is_semicolon first ∙ e in absurd (cc)
    by_semicolon (z ∷ zs) e = inr e

    by : IsClosed ws → Ends os
    by (inl (front, e)) = by_semicolon os (sym (ends_behind (before_actions w) (o ∷ os) (name actions_word)) ∙ ap ends_semicolon (sym f ∙ e) ∙ ends_behind front [] semicolon)
    by (inr (front, e)) =
        let free = (each_in_parts (λ v. is_actions v ≡ false) (o ∷ os) after (subst NoActions g (behind_free w is))).0 in
        let same = only_one is_actions front (before_actions w) (colon ∷ []) (o ∷ os) (name actions_word) refl (before_free w is) free (sym e ∙ f) in
        let none : [] ≡ os = cc in
        inl (sym none)

  pub stem_cut : (ws after : List Word) → spell w ≡ ws ++ after → (NoActions ws → ⊥) → IsClosed ws → NoStop ws → ws ++ end ∷ [] ≡ spell (cut w (stem_count ws))
  stem_cut ws after e some closed stop =
      let p = before_actions w in
      let (others, f, g) = first_splits is_actions p (behind_actions w) ws after (name actions_word) (before_free w is) (sym (spell_parts w) ∙ e) some in
      let (os, h, ends) = behind_ends ws others after closed f g in
      let rest : flat_map spell_action w.actions ++ spell_ending w.goals ≡ os ++ after = (let s : behind_actions w ≡ colon ∷ os ++ after = g ∙ ap (λ l. l ++ after) h in cc) in
      let all : ws ≡ p ++ name actions_word ∷ colon ∷ os = f ∙ ap (λ l. p ++ name actions_word ∷ l) h in
      let stops = (stop_parts p (name actions_word ∷ colon ∷ os) (subst NoStop all stop)).1.1.1 in
      let next = acts_cut w.actions w.goals os after is.actions rest ends stops in
      let count : stem_count ws ≡ semicolons os = ap stem_count all ∙ ap semicolons (from_first p (colon ∷ os) (name actions_word) (before_free w is) refl) in
      let k = stem_count ws in
      let behind : colon ∷ (os ++ end ∷ []) ≡ behind_actions (cut w k) = ap (λ (l : List Word). colon ∷ (l ++ end ∷ [])) (next ∙ ap (λ n. flat_map spell_action (take n w.actions)) (sym count)) in
      let whole : before_actions (cut w k) ++ name actions_word ∷ (colon ∷ (os ++ end ∷ [])) ≡ spell (cut w k) = ap (λ (l : List Word). before_actions (cut w k) ++ name actions_word ∷ l) behind ∙ sym (spell_parts (cut w k)) in
      let first : ws ++ end ∷ [] ≡ before_actions (cut w k) ++ name actions_word ∷ (colon ∷ (os ++ end ∷ [])) = ap (λ l. l ++ end ∷ []) all ∙ append_assoc p (name actions_word ∷ colon ∷ os) (end ∷ []) in
      first ∙ whole

-- ---- its text

each_taken : (acts : List ActionItem) (k : ℕ) → AllByRecursion IsActionItem acts → AllByRecursion IsActionItem (take k acts)
each_taken acts zero all = tt
each_taken [] (suc k) all = tt
each_taken (a ∷ acts) (suc k) all = (all.0, each_taken acts k all.1)

taken_fit : (acts : List ActionItem) (k : ℕ) → list_all (λ (a : ActionItem). fits_tree 64 a.message) acts ≡ true → list_all (λ (a : ActionItem). fits_tree 64 a.message) (take k acts) ≡ true
taken_fit acts zero all = refl
taken_fit [] (suc k) all = refl
taken_fit (a ∷ acts) (suc k) all = by (fits_tree 64 a.message) all (taken_fit acts k) where
  by : (b : Bool) → (b && list_all (λ (c : ActionItem). fits_tree 64 c.message) acts) ≡ true
      → (list_all (λ (c : ActionItem). fits_tree 64 c.message) acts ≡ true → list_all (λ (c : ActionItem). fits_tree 64 c.message) (take k acts) ≡ true)
      → (b && list_all (λ (c : ActionItem). fits_tree 64 c.message) (take k acts)) ≡ true
  by true e later = later e
  by false e later = cc

fits_both : (a b c : Bool) → (a && b) ≡ true → (b ≡ true → c ≡ true) → (a && c) ≡ true
fits_both true b c e f = f e
fits_both false b c e f = cc

begins_of : (ts : List Tok) (ws : List Word) → words_of ts ≡ ws → Begins ts ws []
begins_of [] [] e = refl
begins_of [] (w ∷ ws) e = cc
begins_of (t ∷ ts) [] e = cc
begins_of (t ∷ ts) (w ∷ ws) e = (let s : t.word ≡ w = cc in s, begins_of ts ws (let s : words_of ts ≡ ws = cc in s))

pub words_begun : (ts rest : List Tok) (ws : List Word) → Begins ts ws rest → words_of ts ≡ ws ++ words_of rest
words_begun ts rest [] b = ap words_of b
words_begun [] rest (w ∷ ws) b = absurd b
words_begun (t ∷ ts) rest (w ∷ ws) b = ap (λ v. v ∷ words_of ts) b.0 ∙ ap (λ (l : List Word). w ∷ l) (words_begun ts rest ws b.1)

pub cut_text : (w : Written) (k : ℕ) (y : List ℕ) → IsNarration (told w) → fits 64 (told w) ≡ true → Reads y (spell (cut w k)) → Text (told (cut w k)) y
cut_text w k y is fit reads =
    let l = lexed_of (spell (cut w k)) 0 y reads in
    record {
      written = cut w k;
      tells = refl;
      valid = record { title = is.title; types = is.types; formats = is.formats; knows = is.knows; actions = each_taken w.actions k is.actions };
      fit = fits_both (list_all (λ (i : KnowItem). fits_trees 64 i.terms) (told w).knows) (list_all (λ (a : ActionItem). fits_tree 64 a.message) w.actions) (list_all (λ (a : ActionItem). fits_tree 64 a.message) (take k w.actions)) fit (taken_fit w.actions k);
      tokens = l.tokens;
      lexes = l.lexes;
      rest = [];
      begins = begins_of l.tokens (spell (cut w k)) l.words;
    }
