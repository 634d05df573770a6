-- The canonical text is its narration's.
use Rattle.std.proofs.Common.{◌≡◌, ℕ, ◌+◌, List, [], ◌∷◌, ◌++◌, length, map, true, false, Option, Some, None, unwrap_or, refl, sym, ap, ◌∙◌, subst, inl, inr, append_assoc}
use Rattle.std.specs.Prelude.{◌||◌, not}
use Rattle.std.proofs.lemmas.Bool.{and_parts}
use Rattle.std.specs.List.{flat_map, list_all, list_any, AllByRecursion}
use Rattle.std.specs.Str.{bytes_eq}
use Rattle.anb_base.specs.Bytes.{IsBytes}
use Rattle.anb_base.specs.declared.content.Suite.{Suite}
use Rattle.anb_base.specs.declared.content.Suite.TheVariants.{One, Two}
use Rattle.anb_format.specs.declared.pieces.FieldKind.TheVariants.{Len, Net, Hex, Rest}
use Rattle.anb_format.specs.declared.pieces.Piece.{Piece}
use Rattle.anb_format.specs.declared.pieces.Piece.TheVariants.{Lit, Field}
use Rattle.anb_format.specs.Formats.{IsBytesPiece}
use Rattle.anb_syntax.specs.declared.narration.Sort.{Sort}
use Rattle.anb_syntax.specs.declared.narration.Sort.TheVariants.{Agent, Number, Key}
use Rattle.anb_syntax.specs.Words.{Word, name, literal, sign, end, Begins, is_spelled, is_name, reserved_words, colon, semicolon, comma, open_sign, close_sign, equals, arrow, protocol_word, suite_word, types_word, formats_word, knowledge_word, actions_word, hash_word, mac_word, seal_word, wrap_word, sort_word, hash_name, kind_word}
use Rattle.anb_syntax.specs.Grammar.{Tree, atom, apply, hash, mac, seal, wrap, Trees, none, more, TypeItem, FormatItem, KnowItem, ActionItem, Narration, Written, told, IsName, IsTree, AreTrees, AreNames, IsTypeItem, IsFormatItem, IsKnowItem, IsActionItem, IsNarration, IsSpellable, spell_tree, spell_trees, spell_others, spell_names, comma_name, piece_word, spell_type, spell_format, spell_know, spell_action, spell_suite, spell_formats, spell_knows, spell}
use Rattle.anb_syntax.specs.Lexing.{is_blank}
use Rattle.anb_syntax.specs.Text.{Text}
use Rattle.anb_syntax.specs.Canon.{Laid, word_bytes, at_once, spaced, on_line, indented, spaced_first, lay_comma_name, lay_names, lay_type, lay_piece, lay_format, lay_others, lay_terms, lay_know, lay_action, lay_suite, lay_formats, lay_knows, lay, canon}
use Rattle.anb_syntax.proofs.Relexed.{IsSpaced, IsProper, IsNameWord, is_none, toks_from, kind_first, lexed}

-- a word that a name may touch stands first
abbrev IsFree : List Laid → Type 0
IsFree [] = ⊥
IsFree (q ∷ ps) = (not (IsNameWord q.word) || not (is_none q.gap)) ≡ true

pub name_spelled : (n : List ℕ) → IsName n → is_spelled n ≡ true
unfolding is_name
name_spelled n i = (and_parts (is_spelled n) (not (list_any (bytes_eq n) reserved_words)) i).0

-- a record, so that its list is found
record Good (ps : List Laid) : Type 0 where
  is : IsSpaced ps

put_name : (g n : List ℕ) {qs : List Laid} → list_all is_blank g ≡ true → is_spelled n ≡ true → IsFree qs → Good qs → Good (record { gap = g; word = name n } ∷ qs)
put_name g n {qs = []} b i f h = absurd h.is
put_name g n {qs = q ∷ ps} b i f h = record { is = (b, i, f, (kind_first q ps h.is).0, h.is) }

put_literal : (g n : List ℕ) {qs : List Laid} → list_all is_blank g ≡ true → IsBytes n → Good qs → Good (record { gap = g; word = literal n } ∷ qs)
put_literal g n {qs = []} b i h = absurd h.is
put_literal g n {qs = q ∷ ps} b i h = record { is = (b, i, refl, (kind_first q ps h.is).0, h.is) }

put_sign : (g : List ℕ) (c : ℕ) {qs : List Laid} → list_all is_blank g ≡ true → IsProper (sign c) → Good qs → Good (record { gap = g; word = sign c } ∷ qs)
put_sign g c {qs = []} b i h = absurd h.is
put_sign g c {qs = q ∷ ps} b i h = record { is = (b, i, refl, (kind_first q ps h.is).0, h.is) }

proper_colon : IsProper colon
proper_colon = inr (refl, refl, refl, refl, refl, refl, refl)

proper_semicolon : IsProper semicolon
proper_semicolon = inr (refl, refl, refl, refl, refl, refl, refl)

proper_comma : IsProper comma
proper_comma = inr (refl, refl, refl, refl, refl, refl, refl)

proper_open : IsProper open_sign
proper_open = inr (refl, refl, refl, refl, refl, refl, refl)

proper_close : IsProper close_sign
proper_close = inr (refl, refl, refl, refl, refl, refl, refl)

proper_equals : IsProper equals
proper_equals = inr (refl, refl, refl, refl, refl, refl, refl)

-- words of which the first stands behind a gap, and the others at once
abbrev led : List ℕ → List Word → List Laid
led g [] = []
led g (x ∷ xs) = record { gap = g; word = x } ∷ map at_once xs

led_at_once : (xs : List Word) → led [] xs ≡ map at_once xs
led_at_once [] = refl
led_at_once (x ∷ xs) = refl

led_spaced : (xs : List Word) → led (32 ∷ []) xs ≡ spaced_first xs
led_spaced [] = refl
led_spaced (x ∷ xs) = refl

map_joined : (a b : List Word) (qs : List Laid) → map at_once (a ++ b) ++ qs ≡ map at_once a ++ (map at_once b ++ qs)
map_joined [] b qs = refl
map_joined (x ∷ a) b qs = ap (λ (ps : List Laid). at_once x ∷ ps) (map_joined a b qs)

-- a term before further words
next_term : (t : Tree) (ws : List Word) (qs : List Laid) → ((rs : List Laid) → IsFree rs → Good rs → Good (led [] (spell_tree t) ++ rs)) → IsFree (map at_once ws ++ qs) → Good (map at_once ws ++ qs)
    → Good (map at_once (spell_tree t ++ ws) ++ qs)
next_term t ws qs term f h =
    let same : map at_once (spell_tree t ++ ws) ++ qs ≡ led [] (spell_tree t) ++ (map at_once ws ++ qs) = map_joined (spell_tree t) ws qs ∙ ap (λ (ps : List Laid). ps ++ (map at_once ws ++ qs)) (sym (led_at_once (spell_tree t))) in
    subst Good (sym same) (term (map at_once ws ++ qs) f h)

others_free : (ts : Trees) (qs : List Laid) → IsFree (map at_once (spell_others close_sign ts) ++ qs)
others_free none qs = refl
others_free (more t ts) qs = refl

put_close : {qs : List Laid} → Good qs → Good (at_once close_sign ∷ qs)
put_close h = put_sign [] 41 refl proper_close h

mutual
  spaced_tree : (t : Tree) (g : List ℕ) (qs : List Laid) → list_all is_blank g ≡ true → IsTree t → IsFree qs → Good qs → Good (led g (spell_tree t) ++ qs)
  spaced_tree (atom n) g qs b i f h = put_name g n b (name_spelled n i) f h
  spaced_tree (apply n ts) g qs b i f h = put_name g n b (name_spelled n i.0) refl (put_sign [] 40 refl proper_open (spaced_trees ts qs i.1 h))
  spaced_tree (hash t) g qs b i f h =
      put_name g hash_word b refl refl (put_sign [] 40 refl proper_open (next_term t (close_sign ∷ []) qs (λ rs e k. spaced_tree t [] rs refl i e k) refl (put_close h)))
  spaced_tree (mac t u) g qs b i f h =
      put_name g mac_word b refl refl (put_sign [] 40 refl proper_open (next_term t (comma ∷ spell_tree u ++ close_sign ∷ []) qs (λ rs e k. spaced_tree t [] rs refl i.0 e k) refl
      (put_sign [] 44 refl proper_comma (next_term u (close_sign ∷ []) qs (λ rs e k. spaced_tree u [] rs refl i.1 e k) refl (put_close h)))))
  spaced_tree (seal t u) g qs b i f h =
      put_name g seal_word b refl refl (put_sign [] 40 refl proper_open (next_term t (comma ∷ spell_tree u ++ close_sign ∷ []) qs (λ rs e k. spaced_tree t [] rs refl i.0 e k) refl
      (put_sign [] 44 refl proper_comma (next_term u (close_sign ∷ []) qs (λ rs e k. spaced_tree u [] rs refl i.1 e k) refl (put_close h)))))
  spaced_tree (wrap t u v) g qs b i f h =
      put_name g wrap_word b refl refl (put_sign [] 40 refl proper_open (next_term t (comma ∷ spell_tree u ++ (comma ∷ spell_tree v ++ close_sign ∷ [])) qs (λ rs e k. spaced_tree t [] rs refl i.0 e k) refl
      (put_sign [] 44 refl proper_comma (next_term u (comma ∷ spell_tree v ++ close_sign ∷ []) qs (λ rs e k. spaced_tree u [] rs refl i.1 e k) refl
      (put_sign [] 44 refl proper_comma (next_term v (close_sign ∷ []) qs (λ rs e k. spaced_tree v [] rs refl i.2 e k) refl (put_close h)))))))

  spaced_trees : (ts : Trees) (qs : List Laid) → AreTrees ts → Good qs → Good (map at_once (spell_trees close_sign ts) ++ qs)
  spaced_trees none qs i h = put_close h
  spaced_trees (more t ts) qs i h = next_term t (spell_others close_sign ts) qs (λ rs e k. spaced_tree t [] rs refl i.0 e k) (others_free ts qs) (spaced_others ts qs i.1 h)

  spaced_others : (ts : Trees) (qs : List Laid) → AreTrees ts → Good qs → Good (map at_once (spell_others close_sign ts) ++ qs)
  spaced_others none qs i h = put_close h
  spaced_others (more t ts) qs i h = put_sign [] 44 refl proper_comma (next_term t (spell_others close_sign ts) qs (λ rs e k. spaced_tree t [] rs refl i.0 e k) (others_free ts qs) (spaced_others ts qs i.1 h))

-- a term behind a space, and what follows it
spaced_term : (t : Tree) (ps qs : List Laid) → IsTree t → IsFree (ps ++ qs) → Good (ps ++ qs) → Good ((spaced_first (spell_tree t) ++ ps) ++ qs)
spaced_term t ps qs i f h =
    let same : led (32 ∷ []) (spell_tree t) ++ (ps ++ qs) ≡ (spaced_first (spell_tree t) ++ ps) ++ qs = ap (λ (rs : List Laid). rs ++ (ps ++ qs)) (led_spaced (spell_tree t)) ∙ sym (append_assoc (spaced_first (spell_tree t)) ps qs) in
    subst Good same (spaced_tree t (32 ∷ []) (ps ++ qs) refl i f h)

put_end : {qs : List Laid} → Good qs → Good (at_once semicolon ∷ qs)
put_end h = put_sign [] 59 refl proper_semicolon h

names_free : (ns : List (List ℕ)) (qs : List Laid) → IsFree (flat_map lay_comma_name ns ++ (at_once semicolon ∷ qs))
names_free [] qs = refl
names_free (n ∷ ns) qs = refl

comma_names : (ns : List (List ℕ)) (qs : List Laid) → AllByRecursion IsName ns → Good qs → Good (flat_map lay_comma_name ns ++ (at_once semicolon ∷ qs))
comma_names [] qs i h = put_end h
comma_names (n ∷ ns) qs i h = put_sign [] 44 refl proper_comma (put_name (32 ∷ []) n refl (name_spelled n i.0) (names_free ns qs) (comma_names ns qs i.1 h))

spaced_names : (ns : List (List ℕ)) (qs : List Laid) → AreNames ns → Good qs → Good (lay_names ns ++ (at_once semicolon ∷ qs))
spaced_names [] qs i h = absurd i
spaced_names (n ∷ ns) qs i h = put_name (32 ∷ []) n refl (name_spelled n i.0) (names_free ns qs) (comma_names ns qs i.1 h)

first_free : (ns : List (List ℕ)) (qs : List Laid) → AreNames ns → IsFree (lay_names ns ++ qs)
first_free [] qs i = absurd i
first_free (n ∷ ns) qs i = refl

sort_spelled : (s : Sort) → is_spelled (sort_word s) ≡ true
sort_spelled Agent = refl
sort_spelled Number = refl
sort_spelled Key = refl

spaced_type : (i : TypeItem) (qs : List Laid) → IsTypeItem i → Good qs → Good (lay_type i ++ qs)
spaced_type i qs v h =
    let same : (lay_names i.names ++ at_once semicolon ∷ []) ++ qs ≡ lay_names i.names ++ (at_once semicolon ∷ qs) = append_assoc (lay_names i.names) (at_once semicolon ∷ []) qs in
    let P : List Laid → Type 0 = λ ps. Good (indented (name (sort_word i.sort)) ∷ ps) in
    subst P (sym same) (put_name (10 ∷ 32 ∷ 32 ∷ []) (sort_word i.sort) refl (sort_spelled i.sort) (first_free i.names (at_once semicolon ∷ qs) v) (spaced_names i.names qs v h))

pieces_free : (ps : List Piece) (qs : List Laid) → IsFree (map lay_piece ps ++ (at_once semicolon ∷ qs))
pieces_free [] qs = refl
pieces_free (Lit b ∷ ps) qs = refl
pieces_free (Field k ∷ ps) qs = refl

spaced_pieces : (ps : List Piece) (qs : List Laid) → AllByRecursion IsBytesPiece ps → Good qs → Good (map lay_piece ps ++ (at_once semicolon ∷ qs))
spaced_pieces [] qs i h = put_end h
spaced_pieces (Lit b ∷ ps) qs i h = put_literal (32 ∷ []) b refl i.0 (spaced_pieces ps qs i.1 h)
spaced_pieces (Field Len ∷ ps) qs i h = put_name (32 ∷ []) (kind_word Len) refl refl (pieces_free ps qs) (spaced_pieces ps qs i.1 h)
spaced_pieces (Field Net ∷ ps) qs i h = put_name (32 ∷ []) (kind_word Net) refl refl (pieces_free ps qs) (spaced_pieces ps qs i.1 h)
spaced_pieces (Field Hex ∷ ps) qs i h = put_name (32 ∷ []) (kind_word Hex) refl refl (pieces_free ps qs) (spaced_pieces ps qs i.1 h)
spaced_pieces (Field Rest ∷ ps) qs i h = put_name (32 ∷ []) (kind_word Rest) refl refl (pieces_free ps qs) (spaced_pieces ps qs i.1 h)

spaced_format : (i : FormatItem) (qs : List Laid) → IsFormatItem i → Good qs → Good (lay_format i ++ qs)
spaced_format i qs v h =
    let same : (map lay_piece i.pieces ++ at_once semicolon ∷ []) ++ qs ≡ map lay_piece i.pieces ++ (at_once semicolon ∷ qs) = append_assoc (map lay_piece i.pieces) (at_once semicolon ∷ []) qs in
    let P : List Laid → Type 0 = λ ps. Good (indented (name i.title) ∷ spaced equals ∷ ps) in
    subst P (sym same) (put_name (10 ∷ 32 ∷ 32 ∷ []) i.title refl (name_spelled i.title v.0) refl (put_sign (32 ∷ []) 61 refl proper_equals (spaced_pieces i.pieces qs v.1 h)))

terms_free : (ts : Trees) (qs : List Laid) → IsFree (lay_others ts ++ qs)
terms_free none qs = refl
terms_free (more t ts) qs = refl

other_terms : (ts : Trees) (qs : List Laid) → AreTrees ts → Good qs → Good (lay_others ts ++ qs)
other_terms none qs i h = put_end h
other_terms (more t ts) qs i h = put_sign [] 44 refl proper_comma (spaced_term t (lay_others ts) qs i.0 (terms_free ts qs) (other_terms ts qs i.1 h))

spaced_terms : (ts : Trees) (qs : List Laid) → AreTrees ts → Good qs → Good (lay_terms ts ++ qs)
spaced_terms none qs i h = put_end h
spaced_terms (more t ts) qs i h = spaced_term t (lay_others ts) qs i.0 (terms_free ts qs) (other_terms ts qs i.1 h)

spaced_know : (i : KnowItem) (qs : List Laid) → IsKnowItem i → Good qs → Good (lay_know i ++ qs)
spaced_know i qs v h = put_name (10 ∷ 32 ∷ 32 ∷ []) i.role refl (name_spelled i.role v.0) refl (put_sign [] 58 refl proper_colon (spaced_terms i.terms qs v.1 h))

spaced_action : (a : ActionItem) (qs : List Laid) → IsActionItem a → Good qs → Good (lay_action a ++ qs)
spaced_action a qs v h =
    put_name (10 ∷ 32 ∷ 32 ∷ []) a.from refl (name_spelled a.from v.0) refl
    (put_sign (32 ∷ []) 45 refl (inl refl)
    (put_name (32 ∷ []) a.to refl (name_spelled a.to v.1) refl
    (put_sign [] 58 refl proper_colon (spaced_term a.message (at_once semicolon ∷ []) qs v.2 refl (put_end h)))))

-- item after item
spaced_items : {A : Type 0} (lay_one : A → List Laid) (Valid : A → Type 0) → ((i : A) (qs : List Laid) → Valid i → Good qs → Good (lay_one i ++ qs)) → (is : List A) (qs : List Laid) → AllByRecursion Valid is → Good qs → Good (flat_map lay_one is ++ qs)
spaced_items f V one [] qs v h = h
spaced_items f V one (i ∷ is) qs v h = subst Good (sym (append_assoc (f i) (flat_map f is) qs)) (one i (flat_map f is ++ qs) v.0 (spaced_items f V one is qs v.1 h))

spaced_suite : (s : Suite) (qs : List Laid) → Good qs → Good (lay_suite s ++ qs)
spaced_suite One qs h = h
spaced_suite Two qs h = put_name (10 ∷ []) suite_word refl refl refl (put_sign [] 58 refl proper_colon (put_name (32 ∷ []) (hash_name Two) refl refl refl (put_end h)))

spaced_formats : (is : List FormatItem) (qs : List Laid) → AllByRecursion IsFormatItem is → Good qs → Good (lay_formats is ++ qs)
spaced_formats [] qs v h = h
spaced_formats (i ∷ is) qs v h = put_name (10 ∷ []) formats_word refl refl refl (put_sign [] 58 refl proper_colon (spaced_items lay_format IsFormatItem spaced_format (i ∷ is) qs v h))

spaced_knows : (is : List KnowItem) (qs : List Laid) → AllByRecursion IsKnowItem is → Good qs → Good (lay_knows is ++ qs)
spaced_knows [] qs v h = h
spaced_knows (i ∷ is) qs v h = put_name (10 ∷ []) knowledge_word refl refl refl (put_sign [] 58 refl proper_colon (spaced_items lay_know IsKnowItem spaced_know (i ∷ is) qs v h))

spaced_all : (n : Narration) → IsNarration n → Good (lay n)
spaced_all n v =
    put_name [] protocol_word refl refl refl (put_sign [] 58 refl proper_colon (put_name (32 ∷ []) n.title refl (name_spelled n.title v.title) refl (put_end
    (spaced_suite n.suite _
    (put_name (10 ∷ []) types_word refl refl refl (put_sign [] 58 refl proper_colon (spaced_items lay_type IsTypeItem spaced_type n.types _ v.types
    (spaced_formats n.formats _ v.formats
    (spaced_knows n.knows _ v.knows
    (put_name (10 ∷ []) actions_word refl refl refl (put_sign [] 58 refl proper_colon (spaced_items lay_action IsActionItem spaced_action n.actions (on_line end ∷ []) v.actions (record { is = (refl, refl) })))))))))))))

-- the words of it
abbrev words_of : List Laid → List Word
words_of [] = []
words_of (p ∷ ps) = p.word ∷ words_of ps

words_joined : (a b : List Laid) → words_of (a ++ b) ≡ words_of a ++ words_of b
words_joined [] b = refl
words_joined (p ∷ a) b = ap (λ (xs : List Word). p.word ∷ xs) (words_joined a b)

-- one part after the other
both : (a b : List Laid) (xs ys : List Word) → words_of a ≡ xs → words_of b ≡ ys → words_of (a ++ b) ≡ xs ++ ys
both a b xs ys e f = words_joined a b ∙ ap (λ (zs : List Word). zs ++ words_of b) e ∙ ap (λ (zs : List Word). xs ++ zs) f

words_once : (xs : List Word) → words_of (map at_once xs) ≡ xs
words_once [] = refl
words_once (x ∷ xs) = ap (λ (ys : List Word). x ∷ ys) (words_once xs)

words_first : (xs : List Word) → words_of (spaced_first xs) ≡ xs
words_first [] = refl
words_first (x ∷ xs) = ap (λ (ys : List Word). x ∷ ys) (words_once xs)

words_flat : {A : Type 0} (lay_one : A → List Laid) (spell_one : A → List Word) → ((a : A) → words_of (lay_one a) ≡ spell_one a) → (vs : List A) → words_of (flat_map lay_one vs) ≡ flat_map spell_one vs
words_flat f s h [] = refl
words_flat f s h (a ∷ vs) = both (f a) (flat_map f vs) (s a) (flat_map s vs) (h a) (words_flat f s h vs)

words_names : (ns : List (List ℕ)) → words_of (lay_names ns) ≡ spell_names ns
words_names [] = refl
words_names (n ∷ ns) = ap (λ (xs : List Word). name n ∷ xs) (words_flat lay_comma_name comma_name (λ m. refl) ns)

words_type : (i : TypeItem) → words_of (lay_type i) ≡ spell_type i
words_type i = ap (λ (xs : List Word). name (sort_word i.sort) ∷ xs) (both (lay_names i.names) (at_once semicolon ∷ []) (spell_names i.names) (semicolon ∷ []) (words_names i.names) refl)

words_pieces : (ps : List Piece) → words_of (map lay_piece ps) ≡ map piece_word ps
words_pieces [] = refl
words_pieces (p ∷ ps) = ap (λ (xs : List Word). piece_word p ∷ xs) (words_pieces ps)

words_format : (i : FormatItem) → words_of (lay_format i) ≡ spell_format i
words_format i = ap (λ (xs : List Word). name i.title ∷ equals ∷ xs) (both (map lay_piece i.pieces) (at_once semicolon ∷ []) (map piece_word i.pieces) (semicolon ∷ []) (words_pieces i.pieces) refl)

words_others : (ts : Trees) → words_of (lay_others ts) ≡ spell_others semicolon ts
words_others none = refl
words_others (more t ts) = ap (λ (xs : List Word). comma ∷ xs) (both (spaced_first (spell_tree t)) (lay_others ts) (spell_tree t) (spell_others semicolon ts) (words_first (spell_tree t)) (words_others ts))

words_terms : (ts : Trees) → words_of (lay_terms ts) ≡ spell_trees semicolon ts
words_terms none = refl
words_terms (more t ts) = both (spaced_first (spell_tree t)) (lay_others ts) (spell_tree t) (spell_others semicolon ts) (words_first (spell_tree t)) (words_others ts)

words_know : (i : KnowItem) → words_of (lay_know i) ≡ spell_know i
words_know i = ap (λ (xs : List Word). name i.role ∷ colon ∷ xs) (words_terms i.terms)

words_action : (a : ActionItem) → words_of (lay_action a) ≡ spell_action a
words_action a = ap (λ (xs : List Word). name a.from ∷ arrow ∷ name a.to ∷ colon ∷ xs) (both (spaced_first (spell_tree a.message)) (at_once semicolon ∷ []) (spell_tree a.message) (semicolon ∷ []) (words_first (spell_tree a.message)) refl)

-- the narration as its canonical text writes it
abbrev plain_suite : Suite → Option Suite
plain_suite One = None
plain_suite Two = Some Two

abbrev plain_section : {A : Type 0} → List A → Option (List A)
plain_section [] = None
plain_section (i ∷ is) = Some (i ∷ is)

abbrev plain : Narration → Written
plain n = record { title = n.title; suite = plain_suite n.suite; types = n.types; formats = plain_section n.formats; knows = plain_section n.knows; actions = n.actions; goals = false }

suite_told : (s : Suite) → unwrap_or (plain_suite s) One ≡ s
suite_told One = refl
suite_told Two = refl

section_told : {A : Type 0} (is : List A) → unwrap_or (plain_section is) [] ≡ is
section_told [] = refl
section_told (i ∷ is) = refl

plain_told : (n : Narration) → told (plain n) ≡ n
plain_told n =
    ap (λ (s : Suite). record (told (plain n)) { suite = s }) (suite_told n.suite)
    ∙ ap (λ (f : List FormatItem). record (told (plain n)) { suite = n.suite; formats = f }) (section_told n.formats)
    ∙ ap (λ (k : List KnowItem). record n { knows = k }) (section_told n.knows)

words_suite : (s : Suite) → words_of (lay_suite s) ≡ spell_suite (plain_suite s)
words_suite One = refl
words_suite Two = refl

words_formats : (is : List FormatItem) → words_of (lay_formats is) ≡ spell_formats (plain_section is)
words_formats [] = refl
words_formats (i ∷ is) = ap (λ (xs : List Word). name formats_word ∷ colon ∷ xs) (words_flat lay_format spell_format words_format (i ∷ is))

words_knows : (is : List KnowItem) → words_of (lay_knows is) ≡ spell_knows (plain_section is)
words_knows [] = refl
words_knows (i ∷ is) = ap (λ (xs : List Word). name knowledge_word ∷ colon ∷ xs) (words_flat lay_know spell_know words_know (i ∷ is))

words_all : (n : Narration) → words_of (lay n) ≡ spell (plain n)
words_all n =
    let e0 = both (flat_map lay_action n.actions) (on_line end ∷ []) (flat_map spell_action n.actions) (end ∷ []) (words_flat lay_action spell_action words_action n.actions) refl in
    let e1 = both (lay_knows n.knows) _ (spell_knows (plain_section n.knows)) _ (words_knows n.knows) (ap (λ (xs : List Word). name actions_word ∷ colon ∷ xs) e0) in
    let e2 = both (lay_formats n.formats) _ (spell_formats (plain_section n.formats)) _ (words_formats n.formats) e1 in
    let e3 = both (flat_map lay_type n.types) _ (flat_map spell_type n.types) _ (words_flat lay_type spell_type words_type n.types) e2 in
    let e4 = both (lay_suite n.suite) _ (spell_suite (plain_suite n.suite)) _ (words_suite n.suite) (ap (λ (xs : List Word). name types_word ∷ colon ∷ xs) e3) in
    ap (λ (xs : List Word). name protocol_word ∷ colon ∷ name n.title ∷ semicolon ∷ xs) e4

begins_words : (at : ℕ) (ps : List Laid) → Begins (toks_from at ps) (words_of ps) []
begins_words at [] = refl
begins_words at (p ∷ ps) = (refl, begins_words (at + length p.gap + length (word_bytes p.word)) ps)

-- the tokens of the canonical text are the narration's
pub printed : (n : Narration) → IsSpellable n → Text n (canon n)
printed n s =
    let P : List Word → Type 0 = λ xs. Begins (toks_from 0 (lay n)) xs [] in record {
      written = plain n;
      tells = plain_told n;
      valid = s.valid;
      fit = s.fit;
      tokens = toks_from 0 (lay n);
      lexes = lexed (lay n) 0 (spaced_all n s.valid).is;
      rest = [];
      begins = subst P (words_all n) (begins_words 0 (lay n));
    }
