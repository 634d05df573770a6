-- The level of a term is one more than the parentheses that are open where it begins.
use Rattle.std.proofs.Common.{◌≡◌, ℕ, suc, ◌+◌, ◌-◌, ◌<◌, List, [], ◌∷◌, ◌++◌, length, map, Bool, true, false, Option, Some, None, refl, sym, ap, ◌∙◌, arith, cond}
use Rattle.std.specs.Prelude.{unwrap_or}
use Rattle.std.specs.List.{slice_get, flat_map, AllByRecursion}
use Rattle.std.proofs.lemmas.List.{map-append}
use Rattle.anb_base.specs.declared.content.Suite.{Suite}
use Rattle.anb_format.specs.declared.pieces.Piece.{Piece}
use Rattle.anb_format.specs.declared.pieces.Piece.TheVariants.{Lit, Field}
use Rattle.anb_syntax.specs.Words.{Word, name, colon, semicolon, comma, equals, arrow, open_sign, close_sign, protocol_word, types_word, formats_word, knowledge_word, actions_word, hash_word, mac_word, seal_word, wrap_word, sort_word}
use Rattle.anb_syntax.specs.Grammar.{Tree, atom, apply, hash, mac, seal, wrap, Trees, none, more, IsTree, AreTrees, spell_tree, spell_trees, spell_others, comma_name, spell_names, TypeItem, spell_type, FormatItem, spell_format, piece_word, KnowItem, IsKnowItem, spell_know, ActionItem, IsActionItem, spell_action, Written, told, IsNarration, spell, spell_suite, spell_formats, spell_knows, spell_ending}
use Rattle.anb_syntax.specs.Levels.{no_terms, levels_tree, levels_trees, levels_others, levels_know, levels_action, levels_knows, levels}
use Rattle.anb_read.specs.Productions.{is_open, is_close, begins_term}
use Rattle.anb_read.proofs.Readers.{opens, closes}
use Rattle.anb_read.proofs.Shallow.{opens_joined, closes_joined}
use Rattle.anb_read.proofs.Trees.{begins_name, balanced_tree}
use Rattle.anb_read.proofs.Written.{reads_know, reads_action}

abbrev if_one : Bool → ℕ
if_one b = cond b 1 0

-- for each word how many parentheses are open there, where it may begin a term, and 0 elsewhere
abbrev depths : ℕ → ℕ → List Word → List ℕ
depths o c [] = []
depths o c (x ∷ xs) = cond (begins_term x) (o - c) 0 ∷ depths (if_one (is_open x) + o) (if_one (is_close x) + c) xs

-- the levels, less one
abbrev lowered : List ℕ → List ℕ
lowered ls = map (λ n. n - 1) ls

-- these are the levels of the words, where so many parentheses are open
record Agrees (k : ℕ) (ls : List ℕ) (xs : List Word) : Type 0 where
  at : (o c : ℕ) → o ≡ k + c → lowered ls ≡ depths o c xs

depths_joined : (lb : List ℕ) (b : List Word) (j : ℕ) → Agrees j lb b → (o c : ℕ) (a : List Word) → opens a + o ≡ closes a + c + j → depths o c a ++ lowered lb ≡ depths o c (a ++ b)
depths_joined lb b j g o c [] e = g.at o c (omega arith)
depths_joined lb b j g o c (x ∷ a) e = ap (λ (ns : List ℕ). cond (begins_term x) (o - c) 0 ∷ ns) (depths_joined lb b j g (if_one (is_open x) + o) (if_one (is_close x) + c) a (omega arith))

agrees_joined : (k j : ℕ) (la lb : List ℕ) (a b : List Word) → opens a + k ≡ closes a + j → Agrees k la a → Agrees j lb b → Agrees k (la ++ lb) (a ++ b)
agrees_joined k j la lb a b e h g = record { at = λ o c i. map-append (λ n. n - 1) la lb ∙ ap (λ (ns : List ℕ). ns ++ lowered lb) (h.at o c i) ∙ depths_joined lb b j g o c a (omega arith) }

-- balanced words in front
agrees_balanced : (k : ℕ) (la lb : List ℕ) (a b : List Word) → opens a ≡ closes a → Agrees k la a → Agrees k lb b → Agrees k (la ++ lb) (a ++ b)
agrees_balanced k la lb a b e h g = agrees_joined k k la lb a b (omega arith) h g

-- a word in front
agrees_word : (k j n : ℕ) (x : Word) (ls : List ℕ) (xs : List Word) → if_one (is_open x) + k ≡ if_one (is_close x) + j → ((o c : ℕ) → o ≡ k + c → n - 1 ≡ cond (begins_term x) (o - c) 0) → Agrees j ls xs → Agrees k (n ∷ ls) (x ∷ xs)
agrees_word k j n x ls xs e h g = record { at = λ o c i. ap (λ m. m ∷ lowered ls) (h o c i) ∙ ap (λ (ns : List ℕ). cond (begins_term x) (o - c) 0 ∷ ns) (g.at (if_one (is_open x) + o) (if_one (is_close x) + c) (omega arith)) }

agrees_none : (k : ℕ) → Agrees k [] []
agrees_none k = record { at = λ o c i. refl }

-- a word that begins no term
agrees_other : (k j : ℕ) (x : Word) (ls : List ℕ) (xs : List Word) → begins_term x ≡ false → if_one (is_open x) + k ≡ if_one (is_close x) + j → Agrees j ls xs → Agrees k (0 ∷ ls) (x ∷ xs)
agrees_other k j x ls xs h e g = agrees_word k j 0 x ls xs e (λ o c i. rw h refl) g

-- the first word of a term
agrees_first : (k : ℕ) (n : List ℕ) (ls : List ℕ) (xs : List Word) → begins_term (name n) ≡ true → Agrees k ls xs → Agrees k (suc k ∷ ls) (name n ∷ xs)
agrees_first k n ls xs h g = agrees_word k k (suc k) (name n) ls xs refl (λ o c i. rw h (omega arith)) g

agrees_open : (k : ℕ) (ls : List ℕ) (xs : List Word) → Agrees (suc k) ls xs → Agrees k (0 ∷ ls) (open_sign ∷ xs)
agrees_open k ls xs g = agrees_other k (suc k) open_sign ls xs refl (omega arith) g

agrees_comma : (k : ℕ) (ls : List ℕ) (xs : List Word) → Agrees k ls xs → Agrees k (0 ∷ ls) (comma ∷ xs)
agrees_comma k ls xs g = agrees_other k k comma ls xs refl refl g

agrees_close : (k : ℕ) → Agrees (suc k) (0 ∷ []) (close_sign ∷ [])
agrees_close k = agrees_other (suc k) k close_sign [] [] refl (omega arith) (agrees_none k)

agrees_two : (k : ℕ) (la lb : List ℕ) (a b : List Word) → opens a ≡ closes a → opens b ≡ closes b → Agrees (suc k) la a → Agrees (suc k) lb b → Agrees (suc k) (la ++ (0 ∷ lb ++ 0 ∷ [])) (a ++ (comma ∷ b ++ close_sign ∷ []))
agrees_two k la lb a b ea eb ha hb =
    agrees_balanced (suc k) la (0 ∷ lb ++ 0 ∷ []) a (comma ∷ b ++ close_sign ∷ []) ea ha
    (agrees_comma (suc k) (lb ++ 0 ∷ []) (b ++ close_sign ∷ []) (agrees_balanced (suc k) lb (0 ∷ []) b (close_sign ∷ []) eb hb (agrees_close k)))

-- the sign that ends terms: so many parentheses are open in front of it
record Ends (k : ℕ) (last : Word) : Type 0 where
  ends : Agrees k (0 ∷ []) (last ∷ [])

mutual
  agrees_tree : (k : ℕ) (t : Tree) → IsTree t → Agrees k (levels_tree (suc k) t) (spell_tree t)
  agrees_tree k (atom n) i = agrees_first k n [] [] (begins_name n i) (agrees_none k)
  agrees_tree k (apply n ts) i = agrees_first k n (0 ∷ levels_trees (suc (suc k)) ts) (open_sign ∷ spell_trees close_sign ts) (begins_name n i.0)
      (agrees_open k (levels_trees (suc (suc k)) ts) (spell_trees close_sign ts) (agrees_trees (suc k) close_sign ts (record { ends = agrees_close k }) i.1))
  agrees_tree k (hash t) i = agrees_first k hash_word _ _ refl
      (agrees_open k _ _ (agrees_balanced (suc k) (levels_tree (suc (suc k)) t) (0 ∷ []) (spell_tree t) (close_sign ∷ []) (balanced_tree t) (agrees_tree (suc k) t i) (agrees_close k)))
  agrees_tree k (mac t u) i = agrees_first k mac_word _ _ refl
      (agrees_open k _ _ (agrees_two k (levels_tree (suc (suc k)) t) (levels_tree (suc (suc k)) u) (spell_tree t) (spell_tree u) (balanced_tree t) (balanced_tree u) (agrees_tree (suc k) t i.0) (agrees_tree (suc k) u i.1)))
  agrees_tree k (seal t u) i = agrees_first k seal_word _ _ refl
      (agrees_open k _ _ (agrees_two k (levels_tree (suc (suc k)) t) (levels_tree (suc (suc k)) u) (spell_tree t) (spell_tree u) (balanced_tree t) (balanced_tree u) (agrees_tree (suc k) t i.0) (agrees_tree (suc k) u i.1)))
  agrees_tree k (wrap t u v) i = agrees_first k wrap_word _ _ refl
      (agrees_open k _ _ (agrees_balanced (suc k) (levels_tree (suc (suc k)) t) _ (spell_tree t) _ (balanced_tree t) (agrees_tree (suc k) t i.0)
      (agrees_comma (suc k) _ _ (agrees_two k (levels_tree (suc (suc k)) u) (levels_tree (suc (suc k)) v) (spell_tree u) (spell_tree v) (balanced_tree u) (balanced_tree v) (agrees_tree (suc k) u i.1) (agrees_tree (suc k) v i.2)))))

  agrees_trees : (k : ℕ) (last : Word) (ts : Trees) → Ends k last → AreTrees ts → Agrees k (levels_trees (suc k) ts) (spell_trees last ts)
  agrees_trees k last none e i = e.ends
  agrees_trees k last (more t ts) e i = agrees_balanced k (levels_tree (suc k) t) (levels_others (suc k) ts) (spell_tree t) (spell_others last ts) (balanced_tree t) (agrees_tree k t i.0) (agrees_others k last ts e i.1)

  agrees_others : (k : ℕ) (last : Word) (ts : Trees) → Ends k last → AreTrees ts → Agrees k (levels_others (suc k) ts) (spell_others last ts)
  agrees_others k last none e i = e.ends
  agrees_others k last (more t ts) e i = agrees_comma k _ _ (agrees_balanced k (levels_tree (suc k) t) (levels_others (suc k) ts) (spell_tree t) (spell_others last ts) (balanced_tree t) (agrees_tree k t i.0) (agrees_others k last ts e i.1))

-- outside of terms
if_none : (b : Bool) (o : ℕ) → 0 ≡ cond b (o - o) 0
if_none true o = omega arith
if_none false o = refl

agrees_plain : (x : Word) (ls : List ℕ) (xs : List Word) → if_one (is_open x) ≡ 0 → if_one (is_close x) ≡ 0 → Agrees 0 ls xs → Agrees 0 (0 ∷ ls) (x ∷ xs)
agrees_plain x ls xs ho hc g = agrees_word 0 0 0 x ls xs (omega arith) (λ o c i. if_none (begins_term x) o ∙ (let e : o - o ≡ o - c = omega arith in ap (λ n. cond (begins_term x) n 0) e)) g

record IsFlat (xs : List Word) : Type 0 where
  opened : opens xs ≡ 0
  closed : closes xs ≡ 0

flat_joined : (a b : List Word) → IsFlat a → IsFlat b → IsFlat (a ++ b)
flat_joined a b h g = record { opened = omega (arith, opens_joined a b, h.opened, g.opened); closed = omega (arith, closes_joined a b, h.closed, g.closed) }

agrees_flat : (xs : List Word) → opens xs ≡ 0 → closes xs ≡ 0 → Agrees 0 (no_terms xs) xs
agrees_flat [] ho hc = agrees_none 0
agrees_flat (x ∷ xs) ho hc = agrees_plain x (no_terms xs) xs (omega arith) (omega arith) (agrees_flat xs (omega arith) (omega arith))

-- flat words in front
flat_front : (a : List Word) (lb : List ℕ) (b : List Word) → IsFlat a → Agrees 0 lb b → Agrees 0 (no_terms a ++ lb) (a ++ b)
flat_front a lb b h g = agrees_balanced 0 (no_terms a) lb a b (h.opened ∙ sym h.closed) (agrees_flat a h.opened h.closed) g

all_flat : {A : Type 0} (s : A → List Word) (is : List A) → ((i : A) → IsFlat (s i)) → IsFlat (flat_map s is)
all_flat s [] h = record { opened = refl; closed = refl }
all_flat s (i ∷ is) h = flat_joined (s i) (flat_map s is) (h i) (all_flat s is h)

flat_names : (ns : List (List ℕ)) → IsFlat (spell_names ns)
flat_names [] = record { opened = refl; closed = refl }
flat_names (n ∷ ns) = flat_joined (name n ∷ []) (flat_map comma_name ns) (record { opened = refl; closed = refl }) (all_flat comma_name ns (λ m. record { opened = refl; closed = refl }))

flat_type : (i : TypeItem) → IsFlat (spell_type i)
flat_type i = flat_joined (name (sort_word i.sort) ∷ []) (spell_names i.names ++ semicolon ∷ []) (record { opened = refl; closed = refl }) (flat_joined (spell_names i.names) (semicolon ∷ []) (flat_names i.names) (record { opened = refl; closed = refl }))

flat_piece : (p : Piece) → IsFlat (piece_word p ∷ [])
flat_piece (Lit b) = record { opened = refl; closed = refl }
flat_piece (Field k) = record { opened = refl; closed = refl }

flat_pieces : (ps : List Piece) → IsFlat (map piece_word ps)
flat_pieces [] = record { opened = refl; closed = refl }
flat_pieces (p ∷ ps) = flat_joined (piece_word p ∷ []) (map piece_word ps) (flat_piece p) (flat_pieces ps)

flat_format : (i : FormatItem) → IsFlat (spell_format i)
flat_format i = flat_joined (name i.title ∷ equals ∷ []) (map piece_word i.pieces ++ semicolon ∷ []) (record { opened = refl; closed = refl }) (flat_joined (map piece_word i.pieces) (semicolon ∷ []) (flat_pieces i.pieces) (record { opened = refl; closed = refl }))

flat_suite : (o : Option Suite) → IsFlat (spell_suite o)
flat_suite None = record { opened = refl; closed = refl }
flat_suite (Some s) = record { opened = refl; closed = refl }

flat_formats : (o : Option (List FormatItem)) → IsFlat (spell_formats o)
flat_formats None = record { opened = refl; closed = refl }
flat_formats (Some is) = flat_joined (name formats_word ∷ colon ∷ []) (flat_map spell_format is) (record { opened = refl; closed = refl }) (all_flat spell_format is flat_format)

flat_ending : (b : Bool) → IsFlat (spell_ending b)
flat_ending true = record { opened = refl; closed = refl }
flat_ending false = record { opened = refl; closed = refl }

semicolon_ends : Ends 0 semicolon
semicolon_ends = record { ends = agrees_plain semicolon [] [] refl refl (agrees_none 0) }

agrees_know : (i : KnowItem) → IsKnowItem i → Agrees 0 (levels_know i) (spell_know i)
agrees_know i v = agrees_plain (name i.role) _ _ refl refl (agrees_plain colon _ _ refl refl (agrees_trees 0 semicolon i.terms semicolon_ends v.1))

agrees_action : (a : ActionItem) → IsActionItem a → Agrees 0 (levels_action a) (spell_action a)
agrees_action a v = agrees_plain (name a.from) _ _ refl refl (agrees_plain arrow _ _ refl refl (agrees_plain (name a.to) _ _ refl refl (agrees_plain colon _ _ refl refl
    (agrees_balanced 0 (levels_tree 1 a.message) (0 ∷ []) (spell_tree a.message) (semicolon ∷ []) (balanced_tree a.message) (agrees_tree 0 a.message v.2) semicolon_ends.ends))))

module _ {A : Type 0} (V : A → Type 0) (ls : A → List ℕ) (s : A → List Word) (one : (i : A) → V i → Agrees 0 (ls i) (s i)) (balanced : (i : A) → V i → opens (s i) ≡ closes (s i)) where
  all_agree : (is : List A) → AllByRecursion V is → Agrees 0 (flat_map ls is) (flat_map s is)
  all_agree [] v = agrees_none 0
  all_agree (i ∷ is) v = agrees_balanced 0 (ls i) (flat_map ls is) (s i) (flat_map s is) (balanced i v.0) (one i v.0) (all_agree is v.1)

  all_balanced : (is : List A) → AllByRecursion V is → opens (flat_map s is) ≡ closes (flat_map s is)
  all_balanced [] v = refl
  all_balanced (i ∷ is) v = omega (arith, opens_joined (s i) (flat_map s is), closes_joined (s i) (flat_map s is), balanced i v.0, all_balanced is v.1)

know_balanced : (i : KnowItem) → IsKnowItem i → opens (spell_know i) ≡ closes (spell_know i)
know_balanced i v = omega (arith, (reads_know 1 (omega arith)).balanced i v)

action_balanced : (i : ActionItem) → IsActionItem i → opens (spell_action i) ≡ closes (spell_action i)
action_balanced i v = omega (arith, (reads_action 1 (omega arith)).balanced i v)

knows_agree : (o : Option (List KnowItem)) (lb : List ℕ) (b : List Word) → AllByRecursion IsKnowItem (unwrap_or o []) → Agrees 0 lb b → Agrees 0 (levels_knows o ++ lb) (spell_knows o ++ b)
knows_agree None lb b v g = g
knows_agree (Some is) lb b v g = agrees_plain (name knowledge_word) _ _ refl refl (agrees_plain colon _ _ refl refl
    (agrees_balanced 0 (flat_map levels_know is) lb (flat_map spell_know is) b (all_balanced IsKnowItem levels_know spell_know agrees_know know_balanced is v) (all_agree IsKnowItem levels_know spell_know agrees_know know_balanced is v) g))

levels_agree : (w : Written) → IsNarration (told w) → Agrees 0 (levels w) (spell w)
levels_agree w v =
    agrees_plain (name protocol_word) _ _ refl refl (agrees_plain colon _ _ refl refl (agrees_plain (name w.title) _ _ refl refl (agrees_plain semicolon _ _ refl refl
    (flat_front (spell_suite w.suite) _ _ (flat_suite w.suite)
    (agrees_plain (name types_word) _ _ refl refl (agrees_plain colon _ _ refl refl
    (flat_front (flat_map spell_type w.types) _ _ (all_flat spell_type w.types flat_type)
    (flat_front (spell_formats w.formats) _ _ (flat_formats w.formats)
    (knows_agree w.knows _ _ v.knows
    (agrees_plain (name actions_word) _ _ refl refl (agrees_plain colon _ _ refl refl
    (agrees_balanced 0 (flat_map levels_action w.actions) (no_terms (spell_ending w.goals)) (flat_map spell_action w.actions) (spell_ending w.goals)
    (all_balanced IsActionItem levels_action spell_action agrees_action action_balanced w.actions v.actions)
    (all_agree IsActionItem levels_action spell_action agrees_action action_balanced w.actions v.actions)
    (agrees_flat (spell_ending w.goals) (flat_ending w.goals).opened (flat_ending w.goals).closed)))))))))))))

-- the level at a word
at_word : (o c : ℕ) (ls : List ℕ) (front : List Word) (x : Word) (others : List Word) → lowered ls ≡ depths o c (front ++ x ∷ others)
    → (k : ℕ) × (slice_get ls (length front) ≡ Some k) × (k - 1 ≡ cond (begins_term x) ((opens front + o) - (closes front + c)) 0)
at_word o c [] [] x others e = cc
at_word o c [] (y ∷ front) x others e = cc
at_word o c (n ∷ ls) [] x others e =
    let h : n - 1 ≡ cond (begins_term x) (o - c) 0 = cc in
    let g : o - c ≡ (0 + o) - (0 + c) = omega arith in
    (n, refl, h ∙ ap (λ m. cond (begins_term x) m 0) g)
at_word o c (n ∷ ls) (y ∷ front) x others e =
    let h : lowered ls ≡ depths (if_one (is_open y) + o) (if_one (is_close y) + c) (front ++ x ∷ others) = cc in
    let k = at_word (if_one (is_open y) + o) (if_one (is_close y) + c) ls front x others h in
    let g : (opens front + (if_one (is_open y) + o)) - (closes front + (if_one (is_close y) + c)) ≡ (opens (y ∷ front) + o) - (closes (y ∷ front) + c) = omega arith in
    (k.0, k.1, k.2 ∙ ap (λ m. cond (begins_term x) m 0) g)

module _ (l : ℕ) (w : Written) (v : IsNarration (told w)) (front : List Word) (x : Word) (others : List Word) (is : spell w ≡ front ++ x ∷ others) where
  level : (k : ℕ) × (slice_get (levels w) (length front) ≡ Some k) × (k - 1 ≡ cond (begins_term x) ((opens front + 0) - (closes front + 0)) 0)
  level = at_word 0 0 (levels w) front x others ((levels_agree w v).at 0 0 refl ∙ ap (depths 0 0) is)

  pub stands_at : 0 < l → begins_term x ≡ true → opens front ≡ closes front + l → slice_get (levels w) (length front) ≡ Some (suc l)
  stands_at pos b e =
      let h : level.0 - 1 ≡ (opens front + 0) - (closes front + 0) = level.2 ∙ ap (λ c. cond c ((opens front + 0) - (closes front + 0)) 0) b in
      let k : level.0 ≡ suc l = omega (arith, h, e, pos) in
      level.1 ∙ ap Some k

  which : (b : Bool) (k n : ℕ) → k ≡ suc l → 0 < l → k - 1 ≡ cond b n 0 → (b ≡ true) × (n ≡ l)
  which true k n e pos h = (refl, omega arith)
  which false k n e pos h = absurd (omega arith)

  pub begins_there : 0 < l → slice_get (levels w) (length front) ≡ Some (suc l) → (begins_term x ≡ true) × (opens front ≡ closes front + l)
  begins_there pos e =
      let s : Some level.0 ≡ Some (suc l) = sym level.1 ∙ e in
      let k : level.0 ≡ suc l = cc (s) in
      let h = which (begins_term x) level.0 ((opens front + 0) - (closes front + 0)) k pos level.2 in
      (h.0, omega (arith, h.1, pos))
