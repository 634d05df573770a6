-- The words of a narration: `bad` is none of them, and `end` is only the last.
use Rattle.std.proofs.Common.{◌≡◌, ℕ, List, [], ◌∷◌, ◌++◌, drop, map, ◌+◌, Bool, true, false, Option, Some, None, refl, sym, ap, ◌∙◌, subst, inl, inr, ◌⊎◌, append_assoc}
use Rattle.std.specs.List.{flat_map, list_all}
use Rattle.std.proofs.lemmas.List.Folds.{list_all-append}
use Rattle.std.proofs.lemmas.Bool.{and_parts, and_from}
use Rattle.anb_base.specs.declared.content.Suite.{Suite}
use Rattle.anb_format.specs.declared.pieces.Piece.{Piece}
use Rattle.anb_format.specs.declared.pieces.Piece.TheVariants.{Lit, Field}
use Rattle.anb_syntax.specs.Words.{Word, name, literal, sign, end, bad, Tok, Begins, colon, semicolon, comma, equals, arrow, open_sign, close_sign, protocol_word, types_word, actions_word}
use Rattle.anb_syntax.specs.Lexing.{gap_len, token_here, Lexes, LexesHere}
use Rattle.anb_syntax.specs.Grammar.{Tree, atom, apply, hash, mac, seal, wrap, Trees, none, more, spell_tree, spell_trees, spell_others, comma_name, spell_names, TypeItem, spell_type, FormatItem, spell_format, piece_word, KnowItem, spell_know, ActionItem, spell_action, Written, spell, spell_suite, spell_formats, spell_knows, spell_ending}
use Rattle.anb_syntax.specs.Text.{Continues}
use Rattle.anb_read.proofs.Shallow.{not_none}

-- a word that stands for a token
abbrev pub is_token : Word → Bool
is_token end = false
is_token bad = false
is_token (name b) = true
is_token (literal b) = true
is_token (sign c) = true

record AreTokens (xs : List Word) : Type 0 where
  are : list_all is_token xs ≡ true

joined : (a b : List Word) → AreTokens a → AreTokens b → AreTokens (a ++ b)
joined a b h k = record { are = list_all-append is_token a b ∙ and_from _ _ h.are k.are }

before : (x : Word) (xs : List Word) → is_token x ≡ true → AreTokens xs → AreTokens (x ∷ xs)
before x xs e h = record { are = and_from _ _ e h.are }

nothing : AreTokens []
nothing = record { are = refl }

alone : (x : Word) → is_token x ≡ true → AreTokens (x ∷ [])
alone x e = before x [] e nothing

mutual
  tree_tokens : (t : Tree) → AreTokens (spell_tree t)
  tree_tokens (atom n) = alone (name n) refl
  tree_tokens (apply n ts) = before _ _ refl (before open_sign _ refl (trees_tokens close_sign refl ts))
  tree_tokens (hash t) = before _ _ refl (before open_sign _ refl (joined _ _ (tree_tokens t) (alone close_sign refl)))
  tree_tokens (mac t u) = before _ _ refl (before open_sign _ refl (joined _ _ (tree_tokens t) (before comma _ refl (joined _ _ (tree_tokens u) (alone close_sign refl)))))
  tree_tokens (seal t u) = before _ _ refl (before open_sign _ refl (joined _ _ (tree_tokens t) (before comma _ refl (joined _ _ (tree_tokens u) (alone close_sign refl)))))
  tree_tokens (wrap t u v) = before _ _ refl (before open_sign _ refl (joined _ _ (tree_tokens t) (before comma _ refl (joined _ _ (tree_tokens u) (before comma _ refl (joined _ _ (tree_tokens v) (alone close_sign refl)))))))

  trees_tokens : (last : Word) → is_token last ≡ true → (ts : Trees) → AreTokens (spell_trees last ts)
  trees_tokens last e none = alone last e
  trees_tokens last e (more t ts) = joined _ _ (tree_tokens t) (others_tokens last e ts)

  others_tokens : (last : Word) → is_token last ≡ true → (ts : Trees) → AreTokens (spell_others last ts)
  others_tokens last e none = alone last e
  others_tokens last e (more t ts) = before comma _ refl (joined _ _ (tree_tokens t) (others_tokens last e ts))

all_tokens : {A : Type 0} (s : A → List Word) → ((i : A) → AreTokens (s i)) → (is : List A) → AreTokens (flat_map s is)
all_tokens s h [] = nothing
all_tokens s h (i ∷ is) = joined (s i) (flat_map s is) (h i) (all_tokens s h is)

name_tokens : (n : List ℕ) → AreTokens (comma_name n)
name_tokens n = before comma _ refl (alone (name n) refl)

names_tokens : (ns : List (List ℕ)) → AreTokens (spell_names ns)
names_tokens [] = nothing
names_tokens (n ∷ ns) = before (name n) _ refl (all_tokens comma_name name_tokens ns)

type_tokens : (i : TypeItem) → AreTokens (spell_type i)
type_tokens i = before _ _ refl (joined _ _ (names_tokens i.names) (alone semicolon refl))

piece_token : (p : Piece) → is_token (piece_word p) ≡ true
piece_token (Lit b) = refl
piece_token (Field k) = refl

pieces_tokens : (ps : List Piece) → AreTokens (map piece_word ps)
pieces_tokens [] = nothing
pieces_tokens (p ∷ ps) = before (piece_word p) (map piece_word ps) (piece_token p) (pieces_tokens ps)

format_tokens : (i : FormatItem) → AreTokens (spell_format i)
format_tokens i = before _ _ refl (before equals _ refl (joined _ _ (pieces_tokens i.pieces) (alone semicolon refl)))

know_tokens : (i : KnowItem) → AreTokens (spell_know i)
know_tokens i = before _ _ refl (before colon _ refl (trees_tokens semicolon refl i.terms))

action_tokens : (a : ActionItem) → AreTokens (spell_action a)
action_tokens a = before _ _ refl (before arrow _ refl (before _ _ refl (before colon _ refl (joined _ _ (tree_tokens a.message) (alone semicolon refl)))))

suite_tokens : (o : Option Suite) → AreTokens (spell_suite o)
suite_tokens None = nothing
suite_tokens (Some s) = before _ _ refl (before colon _ refl (before _ _ refl (alone semicolon refl)))

formats_tokens : (o : Option (List FormatItem)) → AreTokens (spell_formats o)
formats_tokens None = nothing
formats_tokens (Some is) = before _ _ refl (before colon _ refl (all_tokens spell_format format_tokens is))

knows_tokens : (o : Option (List KnowItem)) → AreTokens (spell_knows o)
knows_tokens None = nothing
knows_tokens (Some is) = before _ _ refl (before colon _ refl (all_tokens spell_know know_tokens is))

-- words that stand for tokens, and then perhaps the end
record Ended (xs : List Word) : Type 0 where
  front : List Word
  last : List Word
  is : xs ≡ front ++ last
  tokens : AreTokens front
  ends : (last ≡ end ∷ []) ⊎ (last ≡ [])

ended_behind : (a b : List Word) → AreTokens a → Ended b → Ended (a ++ b)
ended_behind a b h k = record { front = a ++ k.front; last = k.last; is = ap (λ (xs : List Word). a ++ xs) k.is ∙ sym (append_assoc a k.front k.last); tokens = joined a k.front h k.tokens; ends = k.ends }

ended_word : (x : Word) (xs : List Word) → is_token x ≡ true → Ended xs → Ended (x ∷ xs)
ended_word x xs e k = record { front = x ∷ k.front; last = k.last; is = ap (λ (ys : List Word). x ∷ ys) k.is; tokens = before x k.front e k.tokens; ends = k.ends }

ending : (b : Bool) → Ended (spell_ending b)
ending true = record { front = spell_ending true; last = []; is = refl; tokens = before _ _ refl (alone colon refl); ends = inr refl }
ending false = record { front = []; last = end ∷ []; is = refl; tokens = nothing; ends = inl refl }

spell_ended : (w : Written) → Ended (spell w)
spell_ended w =
    ended_word (name protocol_word) _ refl (ended_word colon _ refl (ended_word (name w.title) _ refl (ended_word semicolon _ refl
    (ended_behind (spell_suite w.suite) _ (suite_tokens w.suite)
    (ended_word (name types_word) _ refl (ended_word colon _ refl
    (ended_behind (flat_map spell_type w.types) _ (all_tokens spell_type type_tokens w.types)
    (ended_behind (spell_formats w.formats) _ (formats_tokens w.formats)
    (ended_behind (spell_knows w.knows) _ (knows_tokens w.knows)
    (ended_word (name actions_word) _ refl (ended_word colon _ refl
    (ended_behind (flat_map spell_action w.actions) _ (all_tokens spell_action action_tokens w.actions) (ending w.goals)))))))))))))

-- what stands before a word that is not the last
last_one : (f : List Word) (x : Word) (m l : List Word) → (l ≡ end ∷ []) ⊎ (l ≡ []) → l ≡ f ++ x ∷ m → (f ≡ []) × (x ≡ end)
last_one [] x m l (inl h) e = let k : end ∷ [] ≡ x ∷ m = sym h ∙ e in let s : end ≡ x = cc (k) in (refl, sym s)
last_one (y ∷ f) x m l (inl h) e = let k : end ∷ [] ≡ y ∷ f ++ x ∷ m = sym h ∙ e in let s : [] ≡ f ++ x ∷ m = cc (k) in absurd (not_none f m x s)
last_one [] x m l (inr h) e = cc (h, e)
last_one (y ∷ f) x m l (inr h) e = cc (h, e)

cut_inner : (a l f m : List Word) (x : Word) → AreTokens a → (l ≡ end ∷ []) ⊎ (l ≡ []) → a ++ l ≡ f ++ x ∷ m → AreTokens f × ((x ≡ bad) → ⊥)
cut_inner [] l f m x h e i = let k = last_one f x m l e i in (subst AreTokens (sym k.0) nothing, λ b. cc (b, k.1))
cut_inner (y ∷ a) l [] m x h e i =
    let s : y ≡ x = cc (i) in
    let k = and_parts (is_token y) (list_all is_token a) h.are in
    (nothing, λ b. let t : is_token bad ≡ true = ap is_token (sym (s ∙ b)) ∙ k.0 in cc (t))
cut_inner (y ∷ a) l (z ∷ f) m x h e i =
    let s : y ≡ z = cc (i) in
    let t : a ++ l ≡ f ++ x ∷ m = cc (i) in
    let k = and_parts (is_token y) (list_all is_token a) h.are in
    let r = cut_inner a l f m x (record { are = k.1 }) e t in
    (before z f (ap is_token (sym s) ∙ k.0) r.0, r.1)

module _ (front : List Word) (x : Word) (c : Continues front x) where
  cut_there : AreTokens front × ((x ≡ bad) → ⊥)
  cut_there = let k = spell_ended c.written in cut_inner k.front k.last front c.more x k.tokens k.ends (sym k.is ∙ c.completes)

  pub no_bad : x ≡ bad → ⊥
  no_bad e = cut_there.1 e

  pub front_tokens : list_all is_token front ≡ true
  front_tokens = cut_there.0.are

-- tokens of a text aren't all passed over
here_last : (Others : ℕ → Type 0) (ts : List Tok) (front : List Word) (y : List ℕ) (o : Option (Word × ℕ)) (w : Word) → is_token w ≡ true → LexesHere Others (ts ≡ []) y o w → (t : Word × ℕ) × Others t.1
here_last Others ts front [] None w e h = let k : is_token end ≡ true = ap is_token (sym h.0) ∙ e in cc (k)
here_last Others ts front (b ∷ y) None w e h = let k : is_token bad ≡ true = ap is_token (sym h.0) ∙ e in cc (k)
here_last Others ts front [] (Some t) w e h = (t, h.1)
here_last Others ts front (b ∷ y) (Some t) w e h = (t, h.1)

pub not_all : (at : ℕ) (x : List ℕ) (ts : List Tok) (front : List Word) → Lexes at x ts → Begins ts front [] → list_all is_token front ≡ true → ⊥
not_all at x [] front l g e = l
not_all at x (t ∷ ts) [] l g e = cc (g)
not_all at x (t ∷ ts) (y ∷ front) l g e =
    let k = and_parts (is_token y) (list_all is_token front) e in
    let h = here_last (λ n. Lexes (at + gap_len x + n) (drop n (drop (gap_len x) x)) ts) ts front (drop (gap_len x) x) (token_here (drop (gap_len x) x)) t.word (ap is_token g.0 ∙ k.0) l.1 in
    not_all (at + gap_len x + h.0.1) (drop h.0.1 (drop (gap_len x) x)) ts front h.1 g.1 k.1
