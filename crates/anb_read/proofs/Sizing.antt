-- A text is at least as long as its words.
use Rattle.std.proofs.Common.{◌≡◌, ℕ, suc, ◌+◌, ◌≤◌, List, [], ◌∷◌, ◌++◌, length, map, drop, take, Bool, true, false, Option, Some, None, refl, sym, ap, ◌∙◌, subst, arith, inl, inr, cond, length-take, length-drop, length-append}
use Rattle.std.specs.Prelude.{◌==◌, ◌&&◌, unwrap_or}
use Rattle.std.specs.List.{prefix_len, sum_by, flat_map}
use Rattle.std.proofs.lemmas.List.Sums.{sum_by-cons}
use Rattle.anb_lemmas.proofs.Options.{side_taken}
use Rattle.anb_format.specs.declared.pieces.Piece.{Piece}
use Rattle.anb_format.specs.declared.pieces.Piece.TheVariants.{Lit, Field}
use Rattle.anb_format.specs.declared.pieces.FieldKind.{FieldKind}
use Rattle.anb_format.specs.declared.pieces.FieldKind.TheVariants.{Len, Net, Hex, Rest}
use Rattle.anb_syntax.specs.Words.{Word, name, literal, sign, end, bad, Tok, Begins, is_letter, is_name_byte, colon, semicolon, comma, equals, arrow, open_sign, close_sign, protocol_word, types_word, formats_word, knowledge_word, actions_word, sort_word, hash_word, mac_word, seal_word, wrap_word}
use Rattle.anb_syntax.specs.Lexing.{gap_len, token_here, quoted, characters_here, is_sign, begins_with, Lexes, LexesHere}
use Rattle.anb_syntax.specs.Grammar.{Tree, atom, apply, hash, mac, seal, wrap, Trees, none, more, spell_tree, spell_trees, spell_others, comma_name, spell_names, TypeItem, spell_type, FormatItem, spell_format, piece_word, KnowItem, spell_know, ActionItem, spell_action, Narration, Written, told, spell, spell_suite, spell_formats, spell_knows, spell_ending}
use Rattle.anb_syntax.specs.Text.{Text}
use Rattle.anb_syntax.proofs.LiteralTokens.{literal_tokens}
use Rattle.anb_syntax.specs.Sizes.{tree_size, trees_size, name_size, type_size, format_size, know_size, action_size, size}

-- how many bytes a word takes at least
abbrev word_size : Word → ℕ
word_size (name b) = length b
word_size (literal b) = 1
word_size (sign c) = 1
word_size end = 0
word_size bad = 0

heft : List Word → ℕ
heft [] = 0
heft (x ∷ xs) = word_size x + heft xs

heft_none : heft [] ≡ 0
unfolding heft
heft_none = refl

heft_more : (x : Word) (xs : List Word) → heft (x ∷ xs) ≡ word_size x + heft xs
unfolding heft
heft_more x xs = refl

heft_joined : (a b : List Word) → heft (a ++ b) ≡ heft a + heft b
heft_joined [] b = omega (arith, heft_none)
heft_joined (x ∷ a) b = omega (arith, heft_more x (a ++ b), heft_more x a, heft_joined a b)

-- a token, its length and what is left
pub record Fits (y : List ℕ) (t : Word × ℕ) : Type 0 where
  pub word : word_size t.0 ≤ t.1
  pub within : t.1 ≤ length y

prefix_most : (p : ℕ → Bool) (x : List ℕ) → prefix_len p x ≤ length x
prefix_most p [] = omega arith
prefix_most p (b ∷ x) = grind (arith, prefix_most p x)

taken_most : (k : ℕ) (x : List ℕ) → length (take k x) ≤ k
taken_most k x = omega (arith, length-take k x)

literal_fits : (y b : List ℕ) (n : ℕ) → token_here y ≡ Some (literal b, n) → Fits y (literal b, n)
literal_fits y b n e =
    let k = (literal_tokens y b n).0 e in
    let size : length y ≡ length k.spelling + length k.rest = ap length k.stands ∙ length-append k.spelling k.rest in
    let long : 1 ≤ length k.spelling = let s = ap length k.is.spelled in omega (arith, s) in
    record { word = omega (arith, k.ends, long); within = omega (arith, k.ends, size) }

quoted_fits : (y : List ℕ) (o : Option (List ℕ × ℕ)) (t : Word × ℕ) → token_here y ≡ Some t → quoted o ≡ Some t → Fits y t
quoted_fits y None t e h = cc (h)
quoted_fits y (Some r) t e h =
    let s : (literal r.0, suc r.1) ≡ t = cc (h) in
    subst (Fits y) s (literal_fits y r.0 (suc r.1) (e ∙ ap Some (sym s)))

arrow_fits : (x : List ℕ) (c : Bool) → (c && begins_with 62 x) ≡ true → 2 ≤ suc (length x)
arrow_fits [] true e = cc (e)
arrow_fits [] false e = cc (e)
arrow_fits (b ∷ x) c e = omega arith

abbrev arrows : ℕ → List ℕ → Option (Word × ℕ)
arrows b x = cond (b == 45 && begins_with 62 x) (Some (sign 45, 2)) None

abbrev signs : ℕ → List ℕ → Option (Word × ℕ)
signs b x = cond (is_sign b) (Some (sign b, 1)) (arrows b x)

pub token_fits : (y : List ℕ) (t : Word × ℕ) → token_here y ≡ Some t → Fits y t
token_fits [] t e = cc (e)
token_fits (b ∷ x) t e = elim (side_taken (is_letter b) (Some (name (take (prefix_len is_name_byte (b ∷ x)) (b ∷ x)), prefix_len is_name_byte (b ∷ x))) (cond (b == 34) (quoted (characters_here x)) (signs b x)) (Some t) e) [
  | inl c ↦ let s : (name (take (prefix_len is_name_byte (b ∷ x)) (b ∷ x)), prefix_len is_name_byte (b ∷ x)) ≡ t = cc (c.1) in
      subst (Fits (b ∷ x)) s (record { word = taken_most (prefix_len is_name_byte (b ∷ x)) (b ∷ x); within = prefix_most is_name_byte (b ∷ x) })
  | inr c ↦ elim (side_taken (b == 34) (quoted (characters_here x)) (signs b x) (Some t) c.1) [
    | inl d ↦ quoted_fits (b ∷ x) (characters_here x) t e d.1
    | inr d ↦ elim (side_taken (is_sign b) (Some (sign b, 1)) (arrows b x) (Some t) d.1) [
      | inl f ↦ let s : (sign b, 1) ≡ t = cc (f.1) in subst (Fits (b ∷ x)) s (record { word = omega arith; within = omega arith })
      | inr f ↦ elim (side_taken (b == 45 && begins_with 62 x) (Some (sign 45, 2)) None (Some t) f.1) [
        | inl g ↦ let s : (sign 45, 2) ≡ t = cc (g.1) in subst (Fits (b ∷ x)) s (record { word = omega arith; within = arrow_fits x (b == 45) g.0 })
        | inr g ↦ cc (g.1)
      ]
    ]
  ]
]

none_here : (ws : List Word) (ts rest : List Tok) → ts ≡ [] → Begins ts ws rest → heft ws ≡ 0
none_here [] ts rest e g = heft_none
none_here (w ∷ ws) [] rest e g = absurd g
none_here (w ∷ ws) (t ∷ ts) rest e g = cc (e)

here_fits : (Others : ℕ → Type 0) (ts : List Tok) (y : List ℕ) (o : Option (Word × ℕ)) (w : Word) (ws : List Word) (rest : List Tok) → token_here y ≡ o → LexesHere Others (ts ≡ []) y o w → Begins ts ws rest
    → ((n : ℕ) → Others n → heft ws ≤ length (drop n y)) → heft (w ∷ ws) ≤ length y
here_fits Others ts [] None w ws rest e h g f = let z : word_size w ≡ 0 = ap word_size h.0 in omega (arith, heft_more w ws, z, none_here ws ts rest h.1 g)
here_fits Others ts (b ∷ y) None w ws rest e h g f = let z : word_size w ≡ 0 = ap word_size h.0 in omega (arith, heft_more w ws, z, none_here ws ts rest h.1 g)
here_fits Others ts [] (Some t) w ws rest e h g f =
    let k = token_fits [] t e in let s = ap word_size h.0 in omega (arith, heft_more w ws, s, k.word, k.within, f t.1 h.1, length-drop {A = ℕ} t.1 [])
here_fits Others ts (b ∷ y) (Some t) w ws rest e h g f =
    let k = token_fits (b ∷ y) t e in let s = ap word_size h.0 in omega (arith, heft_more w ws, s, k.word, k.within, f t.1 h.1, length-drop t.1 (b ∷ y))

words_fit : (at : ℕ) (x : List ℕ) (ts : List Tok) (ws : List Word) (rest : List Tok) → Lexes at x ts → Begins ts ws rest → heft ws ≤ length x
words_fit at x ts [] rest l g = omega (arith, heft_none)
words_fit at x [] (w ∷ ws) rest l g = absurd l
words_fit at x (t ∷ ts) (w ∷ ws) rest l g =
    let y = drop (gap_len x) x in
    let k = here_fits (λ n. Lexes (at + gap_len x + n) (drop n y) ts) ts y (token_here y) t.word ws rest refl l.1 g.1 (λ n h. words_fit (at + gap_len x + n) (drop n y) ts ws rest h g.1) in
    let e : heft (t.word ∷ ws) ≡ heft (w ∷ ws) = ap (λ v. heft (v ∷ ws)) g.0 in
    omega (arith, k, e, length-drop (gap_len x) x)

-- the words of a narration take as much as its parts
two_weigh : (w : Word) (a b : List Word) (m n : ℕ) → 1 ≤ word_size w → m ≤ heft a → n ≤ heft b → 1 + m + n ≤ heft (w ∷ open_sign ∷ a ++ (comma ∷ b ++ close_sign ∷ []))
two_weigh w a b m n h k j = omega (arith, h, k, j, heft_more w (open_sign ∷ a ++ (comma ∷ b ++ close_sign ∷ [])), heft_more open_sign (a ++ (comma ∷ b ++ close_sign ∷ [])), heft_joined a (comma ∷ b ++ close_sign ∷ []), heft_more comma (b ++ close_sign ∷ []), heft_joined b (close_sign ∷ []))

mutual
  tree_weighs : (t : Tree) → tree_size t ≤ heft (spell_tree t)
  tree_weighs (atom n) = omega (arith, heft_more (name n) [])
  tree_weighs (apply n ts) = omega (arith, heft_more (name n) (open_sign ∷ spell_trees close_sign ts), heft_more open_sign (spell_trees close_sign ts), trees_weigh close_sign ts)
  tree_weighs (hash t) = omega (arith, tree_weighs t, heft_more (name hash_word) (open_sign ∷ spell_tree t ++ close_sign ∷ []), heft_more open_sign (spell_tree t ++ close_sign ∷ []), heft_joined (spell_tree t) (close_sign ∷ []))
  tree_weighs (mac t u) = two_weigh (name mac_word) (spell_tree t) (spell_tree u) (tree_size t) (tree_size u) (omega arith) (tree_weighs t) (tree_weighs u)
  tree_weighs (seal t u) = two_weigh (name seal_word) (spell_tree t) (spell_tree u) (tree_size t) (tree_size u) (omega arith) (tree_weighs t) (tree_weighs u)
  tree_weighs (wrap t u v) = omega (
    arith,
    tree_weighs t,
    heft_more (name wrap_word) (open_sign ∷ spell_tree t ++ (comma ∷ spell_tree u ++ (comma ∷ spell_tree v ++ close_sign ∷ []))),
    heft_more open_sign (spell_tree t ++ (comma ∷ spell_tree u ++ (comma ∷ spell_tree v ++ close_sign ∷ []))),
    heft_joined (spell_tree t) (comma ∷ spell_tree u ++ (comma ∷ spell_tree v ++ close_sign ∷ [])),
    heft_more comma (spell_tree u ++ (comma ∷ spell_tree v ++ close_sign ∷ [])),
    heft_joined (spell_tree u) (comma ∷ spell_tree v ++ close_sign ∷ []),
    heft_more comma (spell_tree v ++ close_sign ∷ []),
    heft_joined (spell_tree v) (close_sign ∷ []),
    tree_weighs u,
    tree_weighs v,
  )

  trees_weigh : (last : Word) (ts : Trees) → trees_size ts ≤ heft (spell_trees last ts)
  trees_weigh last none = omega arith
  trees_weigh last (more t ts) = omega (arith, tree_weighs t, others_weigh last ts, heft_joined (spell_tree t) (spell_others last ts))

  others_weigh : (last : Word) (ts : Trees) → trees_size ts ≤ heft (spell_others last ts)
  others_weigh last none = omega arith
  others_weigh last (more t ts) = omega (arith, tree_weighs t, others_weigh last ts, heft_more comma (spell_tree t ++ spell_others last ts), heft_joined (spell_tree t) (spell_others last ts))

module _ {A : Type 0} (n : A → ℕ) (s : A → List Word) (one : (i : A) → n i ≤ heft (s i)) where
  sum_by_more : (i : A) (is : List A) → sum_by n (i ∷ is) ≡ n i + sum_by n is
  sum_by_more i is = sum_by-cons n i is

  all_weigh : (is : List A) → sum_by n is ≤ heft (flat_map s is)
  all_weigh [] = omega arith
  all_weigh (i ∷ is) =
      let a : sum_by n (i ∷ is) ≡ n i + sum_by n is = sum_by_more i is in
      let b : heft (flat_map s (i ∷ is)) ≡ heft (s i) + heft (flat_map s is) = heft_joined (s i) (flat_map s is) in
      omega (arith, a, b, one i, all_weigh is)

comma_weighs : (n : List ℕ) → name_size n ≤ heft (comma_name n)
comma_weighs n = omega (arith, heft_more comma (name n ∷ []), heft_more (name n) [])

-- the sign behind the last name makes up for the comma that the first has not
names_weigh : (ns : List (List ℕ)) → sum_by name_size ns ≤ heft (spell_names ns) + 1
names_weigh [] = omega arith
names_weigh (n ∷ ns) =
    let a : sum_by name_size (n ∷ ns) ≡ name_size n + sum_by name_size ns = sum_by-cons name_size n ns in
    let b : heft (spell_names (n ∷ ns)) ≡ length n + heft (flat_map comma_name ns) = heft_more (name n) (flat_map comma_name ns) in
    omega (arith, a, b, all_weigh name_size comma_name comma_weighs ns)

type_weighs : (i : TypeItem) → type_size i ≤ heft (spell_type i)
type_weighs i = omega (arith, names_weigh i.names, heft_more (name (sort_word i.sort)) (spell_names i.names ++ semicolon ∷ []), heft_joined (spell_names i.names) (semicolon ∷ []), heft_more semicolon [])

kind_weighs : (k : FieldKind) → 1 ≤ word_size (piece_word (Field k))
kind_weighs Len = omega arith
kind_weighs Net = omega arith
kind_weighs Hex = omega arith
kind_weighs Rest = omega arith

piece_weighs : (p : Piece) → 1 ≤ word_size (piece_word p)
piece_weighs (Lit b) = omega arith
piece_weighs (Field k) = kind_weighs k

pieces_weigh : (ps : List Piece) → length ps ≤ heft (map piece_word ps)
pieces_weigh [] = omega arith
pieces_weigh (p ∷ ps) = omega (arith, piece_weighs p, pieces_weigh ps, heft_more (piece_word p) (map piece_word ps))

format_weighs : (i : FormatItem) → format_size i ≤ heft (spell_format i)
format_weighs i = omega (arith, pieces_weigh i.pieces, heft_more (name i.title) (equals ∷ map piece_word i.pieces ++ semicolon ∷ []), heft_more equals (map piece_word i.pieces ++ semicolon ∷ []), heft_joined (map piece_word i.pieces) (semicolon ∷ []))

know_weighs : (i : KnowItem) → know_size i ≤ heft (spell_know i)
know_weighs i = omega (arith, trees_weigh semicolon i.terms, heft_more (name i.role) (colon ∷ spell_trees semicolon i.terms), heft_more colon (spell_trees semicolon i.terms))

action_weighs : (a : ActionItem) → action_size a ≤ heft (spell_action a)
action_weighs a = omega (
  arith,
  tree_weighs a.message,
  heft_more (name a.from) (arrow ∷ name a.to ∷ colon ∷ spell_tree a.message ++ semicolon ∷ []),
  heft_more arrow (name a.to ∷ colon ∷ spell_tree a.message ++ semicolon ∷ []),
  heft_more (name a.to) (colon ∷ spell_tree a.message ++ semicolon ∷ []),
  heft_more colon (spell_tree a.message ++ semicolon ∷ []),
  heft_joined (spell_tree a.message) (semicolon ∷ []),
)

formats_weigh : (o : Option (List FormatItem)) → sum_by format_size (unwrap_or o []) ≤ heft (spell_formats o)
formats_weigh None = omega arith
formats_weigh (Some is) = omega (arith, all_weigh format_size spell_format format_weighs is, heft_more (name formats_word) (colon ∷ flat_map spell_format is), heft_more colon (flat_map spell_format is))

knows_weigh : (o : Option (List KnowItem)) → sum_by know_size (unwrap_or o []) ≤ heft (spell_knows o)
knows_weigh None = omega arith
knows_weigh (Some is) = omega (arith, all_weigh know_size spell_know know_weighs is, heft_more (name knowledge_word) (colon ∷ flat_map spell_know is), heft_more colon (flat_map spell_know is))

behind : (x y : Word) (xs : List Word) → heft xs ≤ heft (x ∷ y ∷ xs)
behind x y xs = omega (arith, heft_more x (y ∷ xs), heft_more y xs)

written_weighs : (w : Written) → size (told w) ≤ heft (spell w)
written_weighs w =
    let actions = flat_map spell_action w.actions ++ spell_ending w.goals in
    let a : sum_by action_size w.actions ≤ heft (flat_map spell_action w.actions ++ spell_ending w.goals) = omega (arith, all_weigh action_size spell_action action_weighs w.actions, heft_joined (flat_map spell_action w.actions) (spell_ending w.goals)) in
    let b : sum_by know_size (unwrap_or w.knows []) + sum_by action_size w.actions ≤ heft (spell_knows w.knows ++ (name actions_word ∷ colon ∷ flat_map spell_action w.actions ++ spell_ending w.goals)) =
    omega (arith, a, knows_weigh w.knows, heft_joined (spell_knows w.knows) (name actions_word ∷ colon ∷ actions), behind (name actions_word) colon actions) in
    let c : sum_by format_size (unwrap_or w.formats []) + (sum_by know_size (unwrap_or w.knows []) + sum_by action_size w.actions) ≤ heft (spell_formats w.formats ++ (spell_knows w.knows ++ (name actions_word ∷ colon ∷ flat_map spell_action w.actions ++ spell_ending w.goals))) =
    omega (arith, b, formats_weigh w.formats, heft_joined (spell_formats w.formats) (spell_knows w.knows ++ (name actions_word ∷ colon ∷ actions))) in
    let rest = spell_formats w.formats ++ (spell_knows w.knows ++ (name actions_word ∷ colon ∷ actions)) in
    let d : sum_by type_size w.types + (sum_by format_size (unwrap_or w.formats []) + (sum_by know_size (unwrap_or w.knows []) + sum_by action_size w.actions)) ≤ heft (flat_map spell_type w.types ++ rest) =
    omega (arith, c, all_weigh type_size spell_type type_weighs w.types, heft_joined (flat_map spell_type w.types) rest) in
    let types = name types_word ∷ colon ∷ flat_map spell_type w.types ++ rest in
    omega (
      arith,
      d,
      behind (name types_word) colon (flat_map spell_type w.types ++ rest),
      heft_joined (spell_suite w.suite) types,
      behind (name protocol_word) colon (name w.title ∷ semicolon ∷ spell_suite w.suite ++ types),
      heft_more (name w.title) (semicolon ∷ spell_suite w.suite ++ types),
      heft_more semicolon (spell_suite w.suite ++ types),
    )

pub text_size : (n : Narration) (x : List ℕ) → Text n x → size n ≤ length x
text_size n x t =
    let e : size (told t.written) ≡ size n = ap size t.tells in
    omega (arith, e, written_weighs t.written, words_fit 0 x t.tokens (spell t.written) t.rest t.lexes t.begins)
