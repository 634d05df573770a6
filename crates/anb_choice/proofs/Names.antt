-- Names that are among others.
use Rattle.std.proofs.Common.{◌≡◌, ℕ, List, [], ◌∷◌, Bool, true, false, Option, None, refl, sym, ap, subst, ◌∙◌, get_or, length, ◌<◌, zero, suc, arith, ◌+◌, append_assoc}
use Rattle.std.specs.Prelude.{◌||◌, not, ◌++◌, slice_get}
use Rattle.std.specs.Option.{option_map_or, option_or}
use Rattle.std.specs.List.{AllByRecursion, AllZip, list_all}
use Rattle.std.specs.Str.{bytes_eq}
use Rattle.std.proofs.lemmas.Bool.{and_parts, not-false, and_from}
use Rattle.anb_index.specs.Places.{among}
use Rattle.anb_lemmas.proofs.Items.{bytes_are_one, bytes_eq-same}
use Rattle.anb_lemmas.proofs.Bools.{or_true}
use Rattle.anb_protocol.specs.Choices.{first_after, refuse_if}
use Rattle.anb_protocol.specs.Protocols.{ProtocolValue}
use Rattle.anb_choice.specs.Lawful.{AreAlike, IsLike, are_same_names}

among_next : (b : Bool) (z x : List ℕ) (xs ys : List (List ℕ)) → bytes_eq z x ≡ b → among ys z ≡ true → (among xs x ≡ true → among ys x ≡ true) → (b || among xs x) ≡ true → among ys x ≡ true
among_next true z x xs ys e here later f = ap (among ys) (sym (bytes_are_one z x e)) ∙ here
among_next false z x xs ys e here later f = later f

-- a name that is among names which are all among others
pub among_others : (xs ys : List (List ℕ)) (x : List ℕ) → list_all (among ys) xs ≡ true → among xs x ≡ true → among ys x ≡ true
among_others [] ys x all here = cc
among_others (z ∷ xs) ys x all here =
    let parts = and_parts (among ys z) (list_all (among ys) xs) all in
    among_next (bytes_eq z x) z x xs ys refl parts.0 (λ f. among_others xs ys x parts.1 f) here

pub same_names_have : (xs ys : List (List ℕ)) (x : List ℕ) → are_same_names xs ys ≡ true → among xs x ≡ true → among ys x ≡ true
same_names_have xs ys x same here = among_others xs ys x (and_parts (list_all (among ys) xs) (list_all (among xs) ys) same).0 here

-- each name is among its list
pub among_itself : (xs : List (List ℕ)) (i : ℕ) (x : List ℕ) → i < length xs → x ≡ get_or xs i x → among xs x ≡ true
among_itself [] i x h e = absurd (omega (arith, h))
among_itself (y ∷ xs) zero x h e = ap (λ (z : List ℕ). bytes_eq z x || among xs x) (sym e) ∙ ap (λ b. b || among xs x) (bytes_eq-same x)
among_itself (y ∷ xs) (suc i) x h e = ap (λ b. bytes_eq y x || b) (among_itself xs i x (omega (arith, h)) e) ∙ or_true (bytes_eq y x)

passes_next : {X R : Type 0} (b : Bool) (test : X → Bool) (x : X) (xs : List X) (r : R) (o : Option R) → test x ≡ b → (o ≡ None → AllByRecursion (λ y. test y ≡ true) xs)
    → option_or (refuse_if (not b) r) o ≡ None → AllByRecursion (λ y. test y ≡ true) (x ∷ xs)
passes_next true test x xs r o t later e = (t, later e)
passes_next false test x xs r o t later e = cc

-- where nothing is refused, everything passes
pub none_refused : {X R : Type 0} (test : X → Bool) (r : List X → R) (before xs : List X)
    → first_after (λ us x. refuse_if (not (test x)) (r us)) before xs ≡ None → AllByRecursion (λ x. test x ≡ true) xs
none_refused test r before [] e = tt
none_refused test r before (x ∷ xs) e = passes_next (test x) test x xs (r before) _ refl (λ f. none_refused test r (before ++ x ∷ []) xs f) e

-- so all lists with these names have one of the names
pub all_have : {X : Type 0} (names : X → List (List ℕ)) (roles : List (List ℕ)) (xs : List X) (x : List ℕ) → among roles x ≡ true
    → AllByRecursion (λ p. are_same_names roles (names p) ≡ true) xs → AllByRecursion (λ p. among (names p) x ≡ true) xs
all_have names roles [] x here all = tt
all_have names roles (p ∷ xs) x here all = (same_names_have roles (names p) x all.0 here, all_have names roles xs x here all.1)

-- what holds of two lists place by place holds at a place
pub zip_at : {A B : Type 0} (R : A → B → Type 0) (xs : List A) (ys : List B) (i : ℕ) (x : A) (y : B) → i < length xs → i < length ys → x ≡ get_or xs i x → y ≡ get_or ys i y → AllZip R xs ys → R x y
zip_at R [] ys i x y h k e f all = absurd (omega (arith, h))
zip_at R (a ∷ xs) [] i x y h k e f all = absurd (omega (arith, k))
zip_at {A} {B} R (a ∷ xs) (b ∷ ys) zero x y h k e f all = subst (λ (v : A). R v y) (sym e) (subst (λ (w : B). R a w) (sym f) all.0)
zip_at R (a ∷ xs) (b ∷ ys) (suc i) x y h k e f all = zip_at R xs ys i x y (omega (arith, h)) (omega (arith, k)) e f all.1

-- byte strings that a comparison didn't tell apart
pub not_apart : (a b c d : List ℕ) (r : Bool) → r ≡ not (bytes_eq c d) → c ≡ a → d ≡ b → r ≡ false → a ≡ b
not_apart a b c d r e f g h = sym f ∙ bytes_are_one c d (not-false (bytes_eq c d) (sym e ∙ h)) ∙ g

-- ---- arms that are alike have the same role names

among_middle : (front : List (List ℕ)) (x : List ℕ) (xs : List (List ℕ)) → among (front ++ x ∷ xs) x ≡ true
among_middle [] x xs = ap (λ b. b || among xs x) (bytes_eq-same x)
among_middle (y ∷ front) x xs = ap (λ b. bytes_eq y x || b) (among_middle front x xs) ∙ or_true (bytes_eq y x)

all_among_behind : (front xs : List (List ℕ)) → list_all (among (front ++ xs)) xs ≡ true
all_among_behind front [] = refl
all_among_behind front (x ∷ xs) =
    and_from (among (front ++ x ∷ xs) x) (list_all (among (front ++ x ∷ xs)) xs) (among_middle front x xs)
    (subst (λ (l : List (List ℕ)). list_all (among l) xs ≡ true) (append_assoc front (x ∷ []) xs) (all_among_behind (front ++ x ∷ []) xs))

same_itself : (xs : List (List ℕ)) → are_same_names xs xs ≡ true
same_itself xs = and_from (list_all (among xs) xs) (list_all (among xs) xs) (all_among_behind [] xs) (all_among_behind [] xs)

pass_none : {X R : Type 0} (test : X → Bool) (r : List X → R) (before xs : List X) → AllByRecursion (λ x. test x ≡ true) xs
    → first_after (λ us x. refuse_if (not (test x)) (r us)) before xs ≡ None
pass_none test r before [] all = refl
pass_none test r before (x ∷ xs) all =
    ap (λ b. option_or (refuse_if (not b) (r before)) (first_after (λ us y. refuse_if (not (test y)) (r us)) (before ++ x ∷ []) xs)) all.0
    ∙ pass_none test r (before ++ x ∷ []) xs all.1

like_names : (stem : ℕ) (one : ProtocolValue) (others : List ProtocolValue) → AllByRecursion (IsLike stem one) others → AllByRecursion (λ (p : ProtocolValue). are_same_names one.roles p.roles ≡ true) others
like_names stem one [] all = tt
like_names stem one (p ∷ others) all = (all.0.roles, like_names stem one others all.1)

pub alike_names : (stem : ℕ) (arms : List ProtocolValue) → AreAlike stem arms
    → first_after (λ before (p : ProtocolValue). refuse_if (not (are_same_names (option_map_or (λ (q : ProtocolValue). q.roles) (slice_get arms 0) []) p.roles)) (length before + 1)) [] arms ≡ None
alike_names stem [] all = refl
alike_names stem (one ∷ others) all =
    pass_none (λ (p : ProtocolValue). are_same_names one.roles p.roles) (λ (us : List ProtocolValue). length us + 1) [] (one ∷ others) (same_itself one.roles, like_names stem one others all)
