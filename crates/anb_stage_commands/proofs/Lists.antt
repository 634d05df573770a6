-- Lists that grow item by item.
use Rattle.std.proofs.Common.{◌≡◌, ◌<◌, ◌+◌, ℕ, List, [], ◌∷◌, ◌++◌, length, map, take, get_or, refl, sym, ap, ◌∙◌}
use Rattle.std.specs.List.{flat_map}
use Rattle.std.specs.Prelude.{Bool, filter}
use Rattle.std.proofs.lemmas.List.{map-append}
use Rattle.std.proofs.lemmas.List.Elements.{filter-append}
use Rattle.std.proofs.lemmas.Grind.{flat_map-append}
use Rattle.anb_lemmas.proofs.Each.{take_next}

-- what each of the first items gives, and one more
pub flat_next : {A B : Type 0} (f : A → List B) (xs : List A) (i : ℕ) (x : A) (old new : List B) → i < length xs → x ≡ get_or xs i x
    → old ≡ flat_map f (take i xs) → new ≡ old ++ f x → new ≡ flat_map f (take (i + 1) xs)
flat_next f xs i x old new h e before put =
    put ∙ ap (λ l. l ++ f x) before ∙ ap (λ l. flat_map f (take i xs) ++ l) (sym (nothing (f x)))
    ∙ sym (ap (flat_map f) (take_next xs i x h e) ∙ flat_map-append f (take i xs) (x ∷ [])) where
      nothing : {B : Type 0} (l : List B) → l ++ [] ≡ l
      nothing [] = refl
      nothing (y ∷ l) = ap (λ r. y ∷ r) (nothing l)

-- items that stand for what a function gives of the first items, and one more
pub viewed_next : {A B C : Type 0} (view : A → C) (f : B → C) (xs : List B) (i : ℕ) (x : B) (old new : List A) (y : A) → i < length xs → x ≡ get_or xs i x
    → map view old ≡ map f (take i xs) → new ≡ old ++ y ∷ [] → view y ≡ f x → map view new ≡ map f (take (i + 1) xs)
viewed_next view f xs i x old new y h e before put is =
    ap (map view) put ∙ map-append view old (y ∷ []) ∙ ap (λ l. l ++ view y ∷ []) before ∙ ap (λ z. map f (take i xs) ++ z ∷ []) is
    ∙ sym (ap (map f) (take_next xs i x h e) ∙ map-append f (take i xs) (x ∷ []))

-- what is kept of the first items, and one more
pub kept_next : {A : Type 0} (p : A → Bool) (xs : List A) (i : ℕ) (x : A) (old new : List A) → i < length xs → x ≡ get_or xs i x
    → old ≡ filter p (take i xs) → new ≡ old ++ filter p (x ∷ []) → new ≡ filter p (take (i + 1) xs)
kept_next p xs i x old new h e before put =
    put ∙ ap (λ l. l ++ filter p (x ∷ [])) before ∙ sym (ap (filter p) (take_next xs i x h e) ∙ filter-append p (take i xs) (x ∷ []))
