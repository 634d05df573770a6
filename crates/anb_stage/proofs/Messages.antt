-- Messages of more actions.
use Rattle.std.proofs.Common.{◌≡◌, ◌+◌, ◌<◌, ℕ, List, [], ◌∷◌, ◌++◌, length, map, take, get_or, Option, Some, None, refl, sym, ap, ◌∙◌, subst, arith, append_assoc, length-append}
use Rattle.std.proofs.Math.Seq.{take-append_seam, take-append-add}
use Rattle.std.proofs.lemmas.List.{append-nil, map-append, take-append-le}
use Rattle.anb_lemmas.proofs.Each.{take_next}
use Rattle.anb_lemmas.proofs.Options.{or_is_none}
use Rattle.anb_base.specs.Moves.{Put, PutPrefix}
use Rattle.anb_base.proofs.Joined.{Put-joined}
use Rattle.anb_protocol.specs.Choices.{first_after, each_after}

module _ {X Y : Type 0} (f : List X → X → List Y) where
  -- what each thing gives, where one stands in the middle
  pub each_after-at : (before xs : List X) (y : X) (ys : List X)
      → each_after f before (xs ++ y ∷ ys) ≡ each_after f before xs ++ (f (before ++ xs) y ++ each_after f ((before ++ xs) ++ y ∷ []) ys)
  each_after-at before [] y ys = rw (append-nil before) refl
  each_after-at before (x ∷ xs) y ys =
      let e = each_after-at (before ++ x ∷ []) xs y ys in
      let s : (before ++ x ∷ []) ++ xs ≡ before ++ (x ∷ xs) = append_assoc before (x ∷ []) xs in
      rw (e, s) (sym (append_assoc (f before x) (each_after f (before ++ x ∷ []) xs) _))

module _ {X R : Type 0} (f : List X → X → Option R) where
  -- the first answer, where nothing before a thing has one
  pub first_after-at : (before xs : List X) (y : X) (ys : List X) → first_after f before xs ≡ None
      → (r : R) → f (before ++ xs) y ≡ Some r → first_after f before (xs ++ y ∷ ys) ≡ Some r
  first_after-at before [] y ys none r e =
      let s : f before y ≡ Some r = ap (λ b. f b y) (sym (append-nil before)) ∙ e in rw s refl
  first_after-at before (x ∷ xs) y ys none r e =
      let parts = or_is_none (f before x) (first_after f (before ++ x ∷ []) xs) none in
      let s : f ((before ++ x ∷ []) ++ xs) y ≡ Some r = ap (λ b. f b y) (append_assoc before (x ∷ []) xs) ∙ e in
      rw parts.0 (first_after-at (before ++ x ∷ []) xs y ys parts.1 r s)

  pub first_after-none : (before xs : List X) (y : X) → first_after f before xs ≡ None
      → f (before ++ xs) y ≡ None → first_after f before (xs ++ y ∷ []) ≡ None
  first_after-none before [] y none e =
      let s : f before y ≡ None = ap (λ b. f b y) (sym (append-nil before)) ∙ e in rw s refl
  first_after-none before (x ∷ xs) y none e =
      let parts = or_is_none (f before x) (first_after f (before ++ x ∷ []) xs) none in
      let s : f ((before ++ x ∷ []) ++ xs) y ≡ None = ap (λ b. f b y) (append_assoc before (x ∷ []) xs) ∙ e in
      rw parts.0 (first_after-none (before ++ x ∷ []) xs y parts.1 s)

-- what was put is a prefix of more
pub put_prefix : (old new : Option (List ℕ)) (xs ys : List ℕ) → Put old new xs → PutPrefix old new (xs ++ ys)
put_prefix old new xs ys put =
    (length xs, omega (arith, length-append xs ys), subst (Put old new) (sym (take-append_seam xs ys)) put)

-- and so is that with a prefix of what follows
pub put_prefix-more : (old mid new : Option (List ℕ)) (xs ys zs : List ℕ) → Put old mid xs → PutPrefix mid new ys → PutPrefix old new (xs ++ (ys ++ zs))
put_prefix-more old mid new xs ys zs put more =
    let n : ℕ = more.0 in
    let front : take (length xs + n) (xs ++ (ys ++ zs)) ≡ xs ++ take n ys =
    take-append-add xs (ys ++ zs) n ∙ ap (λ t. xs ++ t) (take-append-le n ys zs more.1) in
    (length xs + n, omega (arith, length-append xs (ys ++ zs), length-append ys zs, more.1), subst (Put old new) (sym front) (Put-joined old mid new xs (take n ys) put more.2))

-- an item more on both sides
pub appended : {X : Type 0} (old new known more : List X) (x : X) → new ≡ old ++ x ∷ [] → old ≡ known → more ≡ known ++ x ∷ [] → new ≡ more
appended old new known more x e f g = e ∙ ap (λ t. t ++ x ∷ []) f ∙ sym g

-- what two maps make of one item more
pub mapped_next : {X Y Z : Type 0} (f : X → Y) (g : Y → Z) (old new : List Z) (xs : List X) (i : ℕ) (x : X) → i < length xs → x ≡ get_or xs i x → old ≡ map g (map f (take i xs))
    → new ≡ old ++ g (f x) ∷ [] → new ≡ map g (map f (take (i + 1) xs))
mapped_next f g old new xs i x below is before pushed =
    pushed ∙ ap (λ l. l ++ g (f x) ∷ []) before
    ∙ sym (ap (λ l. map g (map f l)) (take_next xs i x below is) ∙ ap (map g) (map-append f (take i xs) (x ∷ [])) ∙ map-append g (map f (take i xs)) (f x ∷ []))
