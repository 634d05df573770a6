-- The bytes of what is laid out.
use Rattle.std.proofs.Common.{◌≡◌, ℕ, length, false, List, [], ◌∷◌, ◌++◌, map, codes, refl, sym, ap, ◌∙◌, append_assoc}
use Rattle.std.specs.Prelude.{◌==◌}
use Rattle.std.specs.List.{flat_map}
use Rattle.anb_syntax.specs.Words.{Word, name, end, colon, types_word, actions_word, open_sign, close_sign, comma, hash_word, mac_word, seal_word, wrap_word}
use Rattle.anb_syntax.specs.Grammar.{Tree, atom, apply, hash, mac, seal, wrap, spell_tree, spell_trees, KnowItem, Narration}
use Rattle.anb_syntax.specs.Canon.{Laid, word_bytes, words_bytes, laid_bytes, all_bytes, at_once, on_line, spaced_first, lay_suite, lay_type, lay_formats, lay_know, lay_knows, lay_action, canon}

once_bytes : (xs : List Word) → all_bytes (map at_once xs) ≡ words_bytes xs
once_bytes [] = refl
once_bytes (x ∷ xs) = ap (λ (b : List ℕ). word_bytes x ++ b) (once_bytes xs)

first_bytes : (x : Word) (xs : List Word) → all_bytes (spaced_first (x ∷ xs)) ≡ 32 ∷ words_bytes (x ∷ xs)
first_bytes x xs = ap (λ (b : List ℕ). 32 ∷ (word_bytes x ++ b)) (once_bytes xs)

-- a term is a space and its words
pub spaced_bytes : (t : Tree) → all_bytes (spaced_first (spell_tree t)) ≡ 32 ∷ words_bytes (spell_tree t)
spaced_bytes (atom n) = first_bytes (name n) []
spaced_bytes (apply n ts) = first_bytes (name n) (open_sign ∷ spell_trees close_sign ts)
spaced_bytes (hash t) = first_bytes (name hash_word) (open_sign ∷ spell_tree t ++ close_sign ∷ [])
spaced_bytes (mac t u) = first_bytes (name mac_word) (open_sign ∷ spell_tree t ++ (comma ∷ spell_tree u ++ close_sign ∷ []))
spaced_bytes (seal t u) = first_bytes (name seal_word) (open_sign ∷ spell_tree t ++ (comma ∷ spell_tree u ++ close_sign ∷ []))
spaced_bytes (wrap t u v) = first_bytes (name wrap_word) (open_sign ∷ spell_tree t ++ (comma ∷ spell_tree u ++ (comma ∷ spell_tree v ++ close_sign ∷ [])))

pub bytes_joined : (a b : List Laid) → all_bytes (a ++ b) ≡ all_bytes a ++ all_bytes b
bytes_joined [] b = refl
bytes_joined (p ∷ a) b = ap (λ (x : List ℕ). laid_bytes p ++ x) (bytes_joined a b) ∙ sym (append_assoc (laid_bytes p) (all_bytes a) (all_bytes b))

abbrev pub knowledge_line : List ℕ
knowledge_line = 10 ∷ codes "Knowledge:"

pub knows_bytes : (is : List KnowItem) (out : List ℕ) → (is ≡ [] → ⊥) → (out ++ knowledge_line) ++ all_bytes (flat_map lay_know is) ≡ out ++ all_bytes (lay_knows is)
knows_bytes [] out h = absurd (h refl)
knows_bytes (i ∷ is) out h = append_assoc out knowledge_line (all_bytes (flat_map lay_know (i ∷ is)))

abbrev pub parts : Narration → List ℕ
parts n =
    ((((((((((([] ++ codes "Protocol: ") ++ n.title) ++ 59 ∷ []) ++ all_bytes (lay_suite n.suite)) ++ 10 ∷ codes "Types:") ++ all_bytes (flat_map lay_type n.types)) ++ all_bytes (lay_formats n.formats))
    ++ all_bytes (lay_knows n.knows)) ++ 10 ∷ codes "Actions:") ++ all_bytes (flat_map lay_action n.actions)) ++ 10 ∷ [])

-- something more at the end
pub behind : (old new start more : List ℕ) → new ≡ old ++ more → old ≡ start → new ≡ start ++ more
behind old new start more e f = e ∙ ap (λ (x : List ℕ). x ++ more) f

regroup : (t s y f k a : List ℕ)
    → ((((((((((([] ++ codes "Protocol: ") ++ t) ++ 59 ∷ []) ++ s) ++ 10 ∷ codes "Types:") ++ y) ++ f) ++ k) ++ 10 ∷ codes "Actions:") ++ a) ++ 10 ∷ [])
    ≡ codes "Protocol: " ++ (t ++ 59 ∷ (s ++ (10 ∷ codes "Types:" ++ (y ++ (f ++ (k ++ (10 ∷ codes "Actions:" ++ (a ++ 10 ∷ []))))))))
regroup t s y f k a = simp append_assoc refl

-- one part of it after the other
one_on : (a b : List Laid) (x : List ℕ) → all_bytes b ≡ x → all_bytes (a ++ b) ≡ all_bytes a ++ x
one_on a b x e = bytes_joined a b ∙ ap (λ (y : List ℕ). all_bytes a ++ y) e

pub canon_parts : (n : Narration) → parts n ≡ canon n
canon_parts n =
    let s = lay_suite n.suite in
    let t = flat_map lay_type n.types in
    let f = lay_formats n.formats in
    let k = lay_knows n.knows in
    let a = flat_map lay_action n.actions in
    let types = on_line (name types_word) ∷ at_once colon ∷ [] in
    let actions = on_line (name actions_word) ∷ at_once colon ∷ [] in
    let last = on_line end ∷ [] in
    let e0 = one_on a last (10 ∷ []) refl in
    let e1 = one_on k (actions ++ (a ++ last)) _ (ap (λ (x : List ℕ). 10 ∷ codes "Actions:" ++ x) e0) in
    let e2 = one_on f (k ++ (actions ++ (a ++ last))) _ e1 in
    let e3 = one_on t (f ++ (k ++ (actions ++ (a ++ last)))) _ e2 in
    let e4 = one_on s (types ++ (t ++ (f ++ (k ++ (actions ++ (a ++ last)))))) _ (ap (λ (x : List ℕ). 10 ∷ codes "Types:" ++ x) e3) in
    regroup n.title (all_bytes s) (all_bytes t) (all_bytes f) (all_bytes k) (all_bytes a) ∙ ap (λ (x : List ℕ). codes "Protocol: " ++ (n.title ++ 59 ∷ x)) (sym e4)

pub no_items : {A B : Type 0} (f : A → B) (xs : List A) → (length xs == 0) ≡ false → map f xs ≡ [] → ⊥
no_items f [] e h = cc
no_items f (x ∷ xs) e h = cc
