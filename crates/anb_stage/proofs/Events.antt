-- One item more of a list, and one item with a property.
use Rattle.std.proofs.Common.{◌≡◌, ◌<◌, ℕ, zero, suc, List, [], ◌∷◌, length, map, get_or, Bool, true, sym, ap, ◌∙◌, arith}
use Rattle.std.specs.Prelude.{◌||◌}
use Rattle.std.specs.List.{list_any}
use Rattle.anb_lemmas.proofs.Bools.{or_true}

-- an item at a place has the property
pub any_at : {A B : Type 0} (view : A → B) (f : B → Bool) (xs : List A) (i : ℕ) (x : A) → i < length xs → x ≡ get_or xs i x → f (view x) ≡ true
    → list_any f (map view xs) ≡ true
any_at view f [] i x h e is = absurd (omega (arith, h))
any_at view f (y ∷ ys) zero x h e is = ap (λ z. f (view z) || list_any f (map view ys)) (sym e) ∙ ap (λ b. b || list_any f (map view ys)) is
any_at view f (y ∷ ys) (suc i) x h e is = ap (λ b. f (view y) || b) (any_at view f ys i x (omega (arith, h)) e is) ∙ or_true (f (view y))
