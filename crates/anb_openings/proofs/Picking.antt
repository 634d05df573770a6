-- Registers with these numbers, of mapped ones.
use Rattle.std.proofs.Common.{◌≡◌, ℕ, List, [], ◌∷◌, map, Option, Some, None, refl, ap, ◌∙◌}
use Rattle.std.specs.Prelude.{slice_get}
use Rattle.std.specs.Option.{option_map}
use Rattle.std.specs.List.{cons_option}
use Rattle.std.proofs.lemmas.Option.{slice_get-map}
use Rattle.anb_term.specs.Lawful.{picked}

one_mapped : {X Y : Type 0} (f : X → Y) (o : Option X) (p : Option Y) (xs : List X) (ys : List Y) → p ≡ option_map f o → ys ≡ map f xs → cons_option p ys ≡ map f (cons_option o xs)
one_mapped f None p xs ys e same = ap (λ q. cons_option q ys) e ∙ same
one_mapped f (Some x) p xs ys e same = ap (λ q. cons_option q ys) e ∙ ap (λ l. f x ∷ l) same

pub picked_mapped : {X Y : Type 0} (f : X → Y) (table : List X) (at : List ℕ) → picked (map f table) at ≡ map f (picked table at)
picked_mapped f table [] = refl
picked_mapped f table (k ∷ at) = one_mapped f (slice_get table k) (slice_get (map f table) k) (picked table at) (picked (map f table) at) (slice_get-map f table k) (picked_mapped f table at)
