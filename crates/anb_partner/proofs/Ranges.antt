-- What is put together over a range of numbers, with one number more.
use Rattle.std.proofs.Common.{◌≡◌, ℕ, ◌+◌, List, [], ◌∷◌, ◌++◌, map, refl, sym, ap, ◌∙◌, append_assoc, append-nil, arith}
use Rattle.std.specs.List.{flat_map, range_with_len}
use Rattle.std.proofs.lemmas.Grind.{flat_map-append}
use Rattle.std.proofs.lemmas.List.{map-append}
use Rattle.anb_compile.proofs.Lists.{one_further}

pub flat_next : {A : Type 0} (f : ℕ → List A) (n : ℕ) → flat_map f (range_with_len 0 (n + 1)) ≡ flat_map f (range_with_len 0 n) ++ f n
flat_next f n =
    let at : 0 + n ≡ n = omega arith in
    ap (flat_map f) (one_further 0 n ∙ ap (λ k. range_with_len 0 n ++ k ∷ []) at) ∙ flat_map-append f (range_with_len 0 n) (n ∷ []) ∙ ap (λ l. flat_map f (range_with_len 0 n) ++ l) (append-nil (f n))

-- behind a first part, each item changed
pub placed_next : {A B : Type 0} (g : A → B) (f : ℕ → List A) (first now new : List B) (n : ℕ) → now ≡ first ++ map g (flat_map f (range_with_len 0 n)) → new ≡ now ++ map g (f n)
    → new ≡ first ++ map g (flat_map f (range_with_len 0 (n + 1)))
placed_next g f first now new n old put =
    let all = flat_map f (range_with_len 0 n) in
    put ∙ ap (λ l. l ++ map g (f n)) old ∙ append_assoc first (map g all) (map g (f n)) ∙ ap (λ l. first ++ l) (sym (map-append g all (f n)) ∙ ap (map g) (sym (flat_next f n)))
