-- The turns that words name.
use Rattle.std.proofs.Common.{◌≡◌, ℕ, suc, ◌+◌, ◌<◌, ◌≤◌, List, [], ◌∷◌, ◌++◌, length, map, take, drop, get_or, Bool, true, false, cond, Some, None, sym, ap, ◌∙◌, arith, length-append}
use Rattle.std.specs.Prelude.{filter, is_none, All}
use Rattle.std.specs.List.{position_from, slice_split}
use Rattle.std.specs.Str.{bytes_eq}
use Rattle.std.proofs.lemmas.List.{length-map, map-append, take-append-drop}
use Rattle.std.proofs.lemmas.List.Elements.{filter-append, All-nil, All-cons}
use Rattle.anb_lemmas.proofs.Each.{take_next}
use Rattle.anb_lemmas.proofs.Lists.{drop_next}
use Rattle.anb_base.specs.declared.TheConstants.{SMALL_FILE}
use Rattle.anb_protocol.specs.Protocols.{ProtocolValue, role_named}
use Rattle.anb_honest.specs.declared.TheConstants.{TURNS}
use Rattle.anb_honest.specs.Words.{is_blank, is_word, words_of, names_none}
use Rattle.anb_honest.proofs.Wording.{few_words}

-- these turns are those of the words among the first parts
abbrev pub AreNamed : ProtocolValue → List ℕ → List (List ℕ) → Type 0
AreNamed p turns words = map Some turns ≡ map (role_named p) words

pub named_next : (p : ProtocolValue) (parts : List (List ℕ)) (k : ℕ) (w : List ℕ) (old new : List ℕ) → k < length parts → w ≡ get_or parts k w → AreNamed p old (filter is_word (take k parts))
    → map Some new ≡ map Some old ++ map (role_named p) (filter is_word (w ∷ [])) → AreNamed p new (filter is_word (take (k + 1) parts))
named_next p parts k w old new within at before put =
    put ∙ ap (λ l. l ++ map (role_named p) (filter is_word (w ∷ []))) before ∙ sym (map-append (role_named p) (filter is_word (take k parts)) (filter is_word (w ∷ [])))
    ∙ ap (map (role_named p)) (sym (filter-append is_word (take k parts) (w ∷ [])) ∙ ap (filter is_word) (sym (take_next parts k w within at)))

pub long_named : (p : ProtocolValue) (turns : List ℕ) (words : List (List ℕ)) → AreNamed p turns words → length turns ≡ length words
long_named p turns words e = sym (length-map turns Some) ∙ ap length e ∙ length-map words (role_named p)

-- there are few
pub few_named : (p : ProtocolValue) (text turns : List ℕ) (k : ℕ) → length text ≤ SMALL_FILE → AreNamed p turns (filter is_word (take k (slice_split is_blank text))) → length turns ≤ TURNS
few_named p text turns k small named =
    let parts = slice_split is_blank text in
    let whole : words_of text ≡ filter is_word (take k parts) ++ filter is_word (drop k parts) = ap (filter is_word) (sym (take-append-drop k parts)) ∙ filter-append is_word (take k parts) (drop k parts) in
    let n = long_named p turns (filter is_word (take k parts)) named in
    let all = ap length whole ∙ length-append (filter is_word (take k parts)) (filter is_word (drop k parts)) in
    let few = few_words text in
    omega (arith, small, n, all, few)

-- each names a role
place_below : (t : List ℕ → Bool) (i : ℕ) (xs : List (List ℕ)) (j : ℕ) → position_from t i xs ≡ Some j → j < i + length xs
place_below t i [] j e = cc
place_below t i (x ∷ xs) j e = by (t x) e (place_below t (i + 1) xs j) where
  by : (b : Bool) → cond b (Some i) (position_from t (i + 1) xs) ≡ Some j → (position_from t (i + 1) xs ≡ Some j → j < i + 1 + length xs) → j < i + suc (length xs)
  by true f ih = let g : i ≡ j = cc in omega (arith, g)
  by false f ih = omega (arith, ih f)

pub named_roles : (p : ProtocolValue) (turns : List ℕ) (words : List (List ℕ)) → AreNamed p turns words → All (λ role. role < length p.roles) turns
named_roles p [] words e = All-nil (λ role. role < length p.roles)
named_roles p (r ∷ turns) [] e = absurd (cc)
named_roles p (r ∷ turns) (w ∷ words) e =
    let first : Some r ≡ role_named p w = cc in
    let rest : map Some turns ≡ map (role_named p) words = cc in
    let n : 0 + length p.roles ≡ length p.roles = omega arith in
    let below = place_below (λ role. bytes_eq role w) 0 p.roles r (sym first) in
    All-cons (λ role. role < length p.roles) r turns (omega (arith, below, n)) (named_roles p turns words rest)

-- the first that names none
no_place : (f : List ℕ → Bool) (i : ℕ) (w : List ℕ) (rest : List (List ℕ)) → f w ≡ true → position_from f i (w ∷ rest) ≡ Some i
no_place f i w rest e = ap (λ b. cond b (Some i) (position_from f (i + 1) rest)) e

first_none : (p : ProtocolValue) (turns : List ℕ) (words : List (List ℕ)) (i : ℕ) (w : List ℕ) (rest : List (List ℕ)) → AreNamed p turns words → role_named p w ≡ None
    → position_from (names_none p) i (words ++ w ∷ rest) ≡ Some (i + length turns)
first_none p [] [] i w rest e none = let n : i ≡ i + 0 = omega arith in no_place (names_none p) i w rest (ap is_none none) ∙ ap Some n
first_none p [] (x ∷ words) i w rest e none = absurd (cc)
first_none p (r ∷ turns) [] i w rest e none = absurd (cc)
first_none p (r ∷ turns) (x ∷ words) i w rest e none =
    let first : Some r ≡ role_named p x = cc in
    let others : map Some turns ≡ map (role_named p) words = cc in
    let n : i + 1 + length turns ≡ i + suc (length turns) = omega arith in
    ap (λ o. cond (is_none o) (Some i) (position_from (names_none p) (i + 1) (words ++ w ∷ rest))) (sym first)
    ∙ first_none p turns words (i + 1) w rest others none ∙ ap Some n

pub refused_at : (p : ProtocolValue) (text turns : List ℕ) (k : ℕ) (w : List ℕ) (n : ℕ) → k < length (slice_split is_blank text) → w ≡ get_or (slice_split is_blank text) k w
    → AreNamed p turns (filter is_word (take k (slice_split is_blank text))) → (n ≡ length turns + 1) × (is_word w ≡ true) × (role_named p w ≡ None)
    → position_from (names_none p) 1 (words_of text) ≡ Some n
refused_at p text turns k w n within at named why =
    let parts = slice_split is_blank text in
    let front = filter is_word (take k parts) in
    let whole : words_of text ≡ front ++ (w ∷ filter is_word (drop (k + 1) parts)) =
    ap (filter is_word) (sym (take-append-drop k parts)) ∙ filter-append is_word (take k parts) (drop k parts) ∙ ap (λ l. front ++ filter is_word l) (drop_next parts k w within at)
    ∙ ap (λ b. front ++ cond b (w ∷ filter is_word (drop (k + 1) parts)) (filter is_word (drop (k + 1) parts))) why.1 in
    let m : 1 + length turns ≡ n = omega (arith, why.0) in
    ap (position_from (names_none p) 1) whole ∙ first_none p turns front 1 w (filter is_word (drop (k + 1) parts)) named why.2 ∙ ap Some m
