-- Lists gone over with what stands before, and each thing once.
use Rattle.std.proofs.Common.{◌≡◌, ℕ, ◌+◌, ◌<◌, List, [], ◌∷◌, ◌++◌, length, take, drop, get_or, Option, Bool, true, false, sym, ap, ◌∙◌, refl, ◌-◌, append_assoc}
use Rattle.std.specs.Prelude.{◌||◌}
use Rattle.std.specs.Option.{option_or}
use Rattle.std.specs.List.{list_any}
use Rattle.std.proofs.lemmas.List.{take_more, drop_more, append-nil}
use Rattle.anb_protocol.specs.Choices.{first_after, each_after}

pub any-append : {X : Type 0} (p : X → Bool) (xs ys : List X) → list_any p (xs ++ ys) ≡ (list_any p xs || list_any p ys)
any-append p [] ys = refl
any-append p (x ∷ xs) ys = ap (λ b. p x || b) (any-append p xs ys) ∙ or-assoc (p x) (list_any p xs) (list_any p ys)
  where
    or-assoc : (a b c : Bool) → (a || (b || c)) ≡ ((a || b) || c)
    or-assoc true b c = refl
    or-assoc false b c = refl

-- the next step of a list at a place
module _ {X R : Type 0} (f : List X → X → Option R) where
  pub first_step : (xs : List X) (i : ℕ) (x : X) → i < length xs → x ≡ get_or xs i x
      → first_after f (take i xs) (drop i xs) ≡ option_or (f (take i xs) x) (first_after f (take (i + 1) xs) (drop (i + 1) xs))
  first_step xs i x h e =
      let d : drop i xs ≡ x ∷ drop (i + 1) xs = drop_more xs i x h ∙ ap (λ y. y ∷ drop (i + 1) xs) (sym e) in
      let t : take (i + 1) xs ≡ take i xs ++ x ∷ [] = take_more xs i x h ∙ ap (λ y. take i xs ++ y ∷ []) (sym e) in
      ap (first_after f (take i xs)) d ∙ ap (λ ys. option_or (f (take i xs) x) (first_after f ys (drop (i + 1) xs))) (sym t)

module _ {X Y : Type 0} (f : List X → X → List Y) where
  pub each_step : (xs : List X) (i : ℕ) (x : X) → i < length xs → x ≡ get_or xs i x
      → each_after f (take i xs) (drop i xs) ≡ f (take i xs) x ++ each_after f (take (i + 1) xs) (drop (i + 1) xs)
  each_step xs i x h e =
      let d : drop i xs ≡ x ∷ drop (i + 1) xs = drop_more xs i x h ∙ ap (λ y. y ∷ drop (i + 1) xs) (sym e) in
      let t : take (i + 1) xs ≡ take i xs ++ x ∷ [] = take_more xs i x h ∙ ap (λ y. take i xs ++ y ∷ []) (sym e) in
      ap (each_after f (take i xs)) d ∙ ap (λ ys. f (take i xs) x ++ each_after f ys (drop (i + 1) xs)) (sym t)

pub each_after_last : {X Y : Type 0} (f : List X → X → List Y) (before xs : List X) (x : X) → each_after f before (xs ++ x ∷ []) ≡ each_after f before xs ++ f (before ++ xs) x
each_after_last f before [] x = append-nil (f before x) ∙ ap (λ l. f l x) (sym (append-nil before))
each_after_last f before (y ∷ xs) x =
    ap (λ l. f before y ++ l) (each_after_last f (before ++ y ∷ []) xs x) ∙ ap (λ l. f before y ++ (each_after f (before ++ y ∷ []) xs ++ f l x)) (append_assoc before (y ∷ []) xs)
    ∙ sym (append_assoc (f before y) (each_after f (before ++ y ∷ []) xs) (f (before ++ y ∷ xs) x))
