-- A narration's words up to some action are those of the narration of the actions up to there.
use Rattle.std.proofs.Common.{◌≡◌, ◌⊎◌, inl, inr, ℕ, List, [], ◌∷◌, ◌++◌, map, Bool, true, false, Option, Some, None, unwrap_or, refl, sym, ap, ◌∙◌, subst, append_assoc}
use Rattle.std.specs.Prelude.{◌||◌}
use Rattle.std.specs.List.{AllByRecursion, flat_map}
use Rattle.std.specs.Str.{bytes_eq}
use Rattle.anb_lemmas.proofs.Each.{each_in_both}
use Rattle.anb_lemmas.proofs.Items.{bytes_are_one}
use Rattle.anb_base.specs.declared.content.Suite.{Suite}
use Rattle.anb_base.specs.declared.content.Suite.TheVariants.{One, Two}
use Rattle.anb_format.specs.declared.pieces.FieldKind.TheVariants.{Len, Net, Hex, Rest}
use Rattle.anb_format.specs.declared.pieces.Piece.{Piece}
use Rattle.anb_format.specs.declared.pieces.Piece.TheVariants.{Lit, Field}
use Rattle.anb_syntax.specs.declared.narration.Sort.{Sort}
use Rattle.anb_syntax.specs.declared.narration.Sort.TheVariants.{Agent, Number, Key}
use Rattle.anb_syntax.specs.Words.{Word, name, end, word_eqb, colon, semicolon, comma, close_sign, arrow, protocol_word, types_word, actions_word, goals_word, sort_word, hash_name, is_name}
use Rattle.anb_syntax.specs.Grammar.{Tree, atom, apply, hash, mac, seal, wrap, Trees, none, more, TypeItem, FormatItem, KnowItem, ActionItem, Written, told, IsName, IsTree, AreTrees, AreNames, IsTypeItem, IsFormatItem, IsKnowItem, IsActionItem, IsNarration, spell_tree, spell_trees, spell_others, spell_names, comma_name, piece_word, spell_type, spell_format, spell_know, spell_action, spell_suite, spell_formats, spell_knows, spell_ending, spell}

-- ---- lists with a first item that passes a test

module _ (test : Word → Bool) where
  -- no word passes
  abbrev pub IsFree : List Word → Type 0
  IsFree ws = AllByRecursion (λ w. test w ≡ false) ws

  -- the first word that passes stands in both at the same place
  pub first_splits : (front rest ws after : List Word) (a : Word) → IsFree front → front ++ a ∷ rest ≡ ws ++ after → (IsFree ws → ⊥)
      → (others : List Word) × (ws ≡ front ++ a ∷ others) × (rest ≡ others ++ after)
  first_splits [] rest [] after a free e some = absurd (some tt)
  first_splits [] rest (w ∷ ws) after a free e some = let same : a ≡ w = cc in (ws, ap (λ v. v ∷ ws) (sym same), let s : rest ≡ ws ++ after = cc in s)
  first_splits (f ∷ front) rest [] after a free e some = absurd (some tt)
  first_splits (f ∷ front) rest (w ∷ ws) after a free e some =
      let same : f ≡ w = cc in
      let k = first_splits front rest ws after a free.1 (let s : front ++ a ∷ rest ≡ ws ++ after = cc in s) (λ all. some (subst (λ v. test v ≡ false) same free.0, all)) in
      (k.0, ap (λ v. v ∷ ws) (sym same) ∙ ap (λ (l : List Word). f ∷ l) k.1, k.2)

  pub has_one : (front rest : List Word) (a : Word) → test a ≡ true → IsFree (front ++ a ∷ rest) → ⊥
  has_one [] rest a t free = let never = sym t ∙ free.0 in absurd (cc)
  has_one (f ∷ front) rest a t free = has_one front rest a t free.1

  -- behind the only one
  pub only_one : (front other rest behind : List Word) (a : Word) → test a ≡ true → IsFree other → IsFree behind → front ++ a ∷ rest ≡ other ++ a ∷ behind → rest ≡ behind
  only_one [] [] rest behind a t free later e = let s : rest ≡ behind = cc in s
  only_one [] (o ∷ other) rest behind a t free later e = let s : a ≡ o = cc in let never = sym t ∙ ap test s ∙ free.0 in absurd (cc)
  only_one (f ∷ front) [] rest behind a t free later e = let s : front ++ a ∷ rest ≡ behind = cc in absurd (has_one front rest a t (subst IsFree (sym s) later))
  only_one (f ∷ front) (o ∷ other) rest behind a t free later e = only_one front other rest behind a t free.1 later (let s : front ++ a ∷ rest ≡ other ++ a ∷ behind = cc in s)

-- of two fronts of a list one is a front of the other
pub one_front : {A : Type 0} (a b c d : List A) → a ++ b ≡ c ++ d → ((m : List A) × (c ≡ a ++ m) × (b ≡ m ++ d)) ⊎ ((m : List A) × (a ≡ c ++ m) × (d ≡ m ++ b))
one_front [] b c d e = inl (c, refl, e)
one_front (x ∷ a) b [] d e = inr (x ∷ a, refl, sym e)
one_front {A} (x ∷ a) b (y ∷ c) d e = by (one_front a b c d (let s : a ++ b ≡ c ++ d = cc in s)) where
  same : x ≡ y
  same = cc

  by : ((m : List A) × (c ≡ a ++ m) × (b ≡ m ++ d)) ⊎ ((m : List A) × (a ≡ c ++ m) × (d ≡ m ++ b))
      → ((m : List A) × (y ∷ c ≡ x ∷ a ++ m) × (b ≡ m ++ d)) ⊎ ((m : List A) × (x ∷ a ≡ y ∷ c ++ m) × (d ≡ m ++ b))
  by (inl (m, f, g)) = inl (m, ap (λ v. v ∷ c) (sym same) ∙ ap (λ (l : List A). x ∷ l) f, g)
  by (inr (m, f, g)) = inr (m, ap (λ v. v ∷ a) same ∙ ap (λ (l : List A). y ∷ l) f, g)

-- ---- which words a narration has where

abbrev pub is_actions : Word → Bool
is_actions w = word_eqb (name actions_word) w

abbrev pub is_semicolon : Word → Bool
is_semicolon w = word_eqb semicolon w

-- neither the end nor goals
abbrev pub is_stop : Word → Bool
is_stop w = word_eqb end w || word_eqb (name goals_word) w

not_actions : (n : List ℕ) → IsName n → bytes_eq actions_word n ≡ false
unfolding is_name
not_actions n is = by (bytes_eq actions_word n) refl where
  by : (b : Bool) → bytes_eq actions_word n ≡ b → bytes_eq actions_word n ≡ false
  by true e = let never : is_name actions_word ≡ true = subst IsName (sym (bytes_are_one actions_word n e)) is in absurd (cc)
  by false e = e

abbrev pub NoActions : List Word → Type 0
NoActions ws = IsFree is_actions ws

abbrev pub NoSemicolon : List Word → Type 0
NoSemicolon ws = IsFree is_semicolon ws

abbrev pub Neither : List Word → Type 0
Neither ws = AllByRecursion (λ w. (is_actions w ≡ false) × (is_semicolon w ≡ false)) ws

both : (xs ys : List Word) → Neither xs → Neither ys → Neither (xs ++ ys)
both xs ys a b = each_in_both (λ w. (is_actions w ≡ false) × (is_semicolon w ≡ false)) xs ys a b

mutual
  tree_words : (t : Tree) → IsTree t → Neither (spell_tree t)
  tree_words (atom n) is = ((not_actions n is, refl), tt)
  tree_words (apply n ts) is = ((not_actions n is.0, refl), ((refl, refl), trees_words close_sign ts (refl, refl) is.1))
  tree_words (hash t) is = ((refl, refl), ((refl, refl), both (spell_tree t) (close_sign ∷ []) (tree_words t is) ((refl, refl), tt)))
  tree_words (mac t u) is = ((refl, refl), ((refl, refl), both (spell_tree t) (comma ∷ spell_tree u ++ close_sign ∷ []) (tree_words t is.0) ((refl, refl), both (spell_tree u) (close_sign ∷ []) (tree_words u is.1) ((refl, refl), tt))))
  tree_words (seal t u) is = ((refl, refl), ((refl, refl), both (spell_tree t) (comma ∷ spell_tree u ++ close_sign ∷ []) (tree_words t is.0) ((refl, refl), both (spell_tree u) (close_sign ∷ []) (tree_words u is.1) ((refl, refl), tt))))
  tree_words (wrap t u v) is = (
    (refl, refl),
    (
      (refl, refl),
      both (spell_tree t) (comma ∷ spell_tree u ++ (comma ∷ spell_tree v ++ close_sign ∷ [])) (tree_words t is.0)
          ((refl, refl), both (spell_tree u) (comma ∷ spell_tree v ++ close_sign ∷ []) (tree_words u is.1) ((refl, refl), both (spell_tree v) (close_sign ∷ []) (tree_words v is.2) ((refl, refl), tt))),
    ),
  )

  trees_words : (last : Word) (ts : Trees) → (is_actions last ≡ false) × (is_semicolon last ≡ false) → AreTrees ts → Neither (spell_trees last ts)
  trees_words last none l is = (l, tt)
  trees_words last (more t ts) l is = both (spell_tree t) (spell_others last ts) (tree_words t is.0) (others_words last ts l is.1)

  others_words : (last : Word) (ts : Trees) → (is_actions last ≡ false) × (is_semicolon last ≡ false) → AreTrees ts → Neither (spell_others last ts)
  others_words last none l is = (l, tt)
  others_words last (more t ts) l is = ((refl, refl), both (spell_tree t) (spell_others last ts) (tree_words t is.0) (others_words last ts l is.1))

without_actions : (ws : List Word) → Neither ws → NoActions ws
without_actions [] a = tt
without_actions (w ∷ ws) a = (a.0.0, without_actions ws a.1)

pub without_semicolon : (ws : List Word) → Neither ws → NoSemicolon ws
without_semicolon [] a = tt
without_semicolon (w ∷ ws) a = (a.0.1, without_semicolon ws a.1)

joined : (xs ys : List Word) → NoActions xs → NoActions ys → NoActions (xs ++ ys)
joined xs ys a b = each_in_both (λ w. is_actions w ≡ false) xs ys a b

-- terms with the words that may stand behind them, of which some is a semicolon
mutual
  know_words : (ts : Trees) → AreTrees ts → NoActions (spell_trees semicolon ts)
  know_words none is = (refl, tt)
  know_words (more t ts) is = joined (spell_tree t) (spell_others semicolon ts) (without_actions (spell_tree t) (tree_words t is.0)) (know_others ts is.1)

  know_others : (ts : Trees) → AreTrees ts → NoActions (spell_others semicolon ts)
  know_others none is = (refl, tt)
  know_others (more t ts) is = (refl, joined (spell_tree t) (spell_others semicolon ts) (without_actions (spell_tree t) (tree_words t is.0)) (know_others ts is.1))

sort_free : (s : Sort) → is_actions (name (sort_word s)) ≡ false
sort_free Agent = refl
sort_free Number = refl
sort_free Key = refl

suite_free : (s : Suite) → is_actions (name (hash_name s)) ≡ false
suite_free One = refl
suite_free Two = refl

piece_free : (p : Piece) → is_actions (piece_word p) ≡ false
piece_free (Lit b) = refl
piece_free (Field Len) = refl
piece_free (Field Net) = refl
piece_free (Field Hex) = refl
piece_free (Field Rest) = refl

commas_free : (ns : List (List ℕ)) → AllByRecursion IsName ns → NoActions (flat_map comma_name ns)
commas_free [] is = tt
commas_free (n ∷ ns) is = (refl, (not_actions n is.0, commas_free ns is.1))

names_free : (ns : List (List ℕ)) → AreNames ns → NoActions (spell_names ns)
names_free [] is = absurd is
names_free (n ∷ ns) is = (not_actions n is.0, commas_free ns is.1)

types_free : (is : List TypeItem) → AllByRecursion IsTypeItem is → NoActions (flat_map spell_type is)
types_free [] all = tt
types_free (i ∷ is) all =
    (sort_free i.sort, joined (spell_names i.names ++ semicolon ∷ []) (flat_map spell_type is) (joined (spell_names i.names) (semicolon ∷ []) (names_free i.names all.0) (refl, tt)) (types_free is all.1))

pieces_free : (ps : List Piece) → NoActions (map piece_word ps)
pieces_free [] = tt
pieces_free (p ∷ ps) = (piece_free p, pieces_free ps)

formats_free : (is : List FormatItem) → AllByRecursion IsFormatItem is → NoActions (flat_map spell_format is)
formats_free [] all = tt
formats_free (i ∷ is) all =
    (not_actions i.title all.0.0, (refl, joined (map piece_word i.pieces ++ semicolon ∷ []) (flat_map spell_format is) (joined (map piece_word i.pieces) (semicolon ∷ []) (pieces_free i.pieces) (refl, tt)) (formats_free is all.1)))

knows_free : (is : List KnowItem) → AllByRecursion IsKnowItem is → NoActions (flat_map spell_know is)
knows_free [] all = tt
knows_free (i ∷ is) all = (not_actions i.role all.0.0, (refl, joined (spell_trees semicolon i.terms) (flat_map spell_know is) (know_words i.terms all.0.1) (knows_free is all.1)))

-- the words of an action before its semicolon
abbrev pub action_words : ActionItem → List Word
action_words a = name a.from ∷ arrow ∷ name a.to ∷ colon ∷ spell_tree a.message

pub action_neither : (a : ActionItem) → IsActionItem a → Neither (action_words a)
action_neither a is = ((not_actions a.from is.0, refl), ((refl, refl), ((not_actions a.to is.1, refl), ((refl, refl), tree_words a.message is.2))))

actions_free : (acts : List ActionItem) → AllByRecursion IsActionItem acts → NoActions (flat_map spell_action acts)
actions_free [] all = tt
actions_free (a ∷ acts) all =
    joined (action_words a ++ semicolon ∷ []) (flat_map spell_action acts) (joined (action_words a) (semicolon ∷ []) (without_actions (action_words a) (action_neither a all.0)) (refl, tt)) (actions_free acts all.1)

-- ---- a narration's words before and behind `Actions`

abbrev pub before_actions : Written → List Word
before_actions w =
    name protocol_word ∷ colon ∷ name w.title ∷ semicolon ∷ spell_suite w.suite ++ (name types_word ∷ colon ∷ flat_map spell_type w.types ++ (spell_formats w.formats ++ spell_knows w.knows))

abbrev pub behind_actions : Written → List Word
behind_actions w = colon ∷ flat_map spell_action w.actions ++ spell_ending w.goals

pub spell_parts : (w : Written) → spell w ≡ before_actions w ++ name actions_word ∷ behind_actions w
spell_parts w =
    let z = name actions_word ∷ behind_actions w in
    let a = spell_suite w.suite in
    let b = flat_map spell_type w.types in
    let c = spell_formats w.formats in
    let d = spell_knows w.knows in
    ap (λ (l : List Word). name protocol_word ∷ colon ∷ name w.title ∷ semicolon ∷ l)
    (ap (λ (l : List Word). a ++ (name types_word ∷ colon ∷ l)) (ap (λ (l : List Word). b ++ l) (sym (append_assoc c d z)) ∙ sym (append_assoc b (c ++ d) z))
    ∙ sym (append_assoc a (name types_word ∷ colon ∷ b ++ (c ++ d)) z))

opt_suite_free : (o : Option Suite) → NoActions (spell_suite o)
opt_suite_free None = tt
opt_suite_free (Some s) = (refl, (refl, (suite_free s, (refl, tt))))

opt_formats_free : (o : Option (List FormatItem)) → AllByRecursion IsFormatItem (unwrap_or o []) → NoActions (spell_formats o)
opt_formats_free None all = tt
opt_formats_free (Some is) all = (refl, (refl, formats_free is all))

opt_knows_free : (o : Option (List KnowItem)) → AllByRecursion IsKnowItem (unwrap_or o []) → NoActions (spell_knows o)
opt_knows_free None all = tt
opt_knows_free (Some is) all = (refl, (refl, knows_free is all))

pub before_free : (w : Written) → IsNarration (told w) → NoActions (before_actions w)
before_free w is = (
  refl,
  (
    refl,
    (
      not_actions w.title is.title,
      (
        refl,
        joined (spell_suite w.suite) (name types_word ∷ colon ∷ flat_map spell_type w.types ++ (spell_formats w.formats ++ spell_knows w.knows)) (opt_suite_free w.suite) (
          refl,
          (
            refl,
            joined (flat_map spell_type w.types) (spell_formats w.formats ++ spell_knows w.knows) (types_free w.types is.types)
                (joined (spell_formats w.formats) (spell_knows w.knows) (opt_formats_free w.formats is.formats) (opt_knows_free w.knows is.knows)),
          ),
        ),
      ),
    ),
  ),
)

ending_free : (b : Bool) → NoActions (spell_ending b)
ending_free true = (refl, (refl, tt))
ending_free false = (refl, tt)

pub behind_free : (w : Written) → IsNarration (told w) → NoActions (behind_actions w)
behind_free w is = (refl, joined (flat_map spell_action w.actions) (spell_ending w.goals) (actions_free w.actions is.actions) (ending_free w.goals))
