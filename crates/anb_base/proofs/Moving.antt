-- What moves over a wire, and what stays.
use Rattle.std.proofs.Common.{ℕ, ◌≤◌, inl, inr, arith, List, [], Option, Some, None, refl, ap, sym, append-nil, ◌+◌, ◌++◌, length, take, subst, length-append, ◌≡◌, ◌∷◌, ◌∙◌, IfSome}
use Rattle.std.proofs.Math.Seq.{take-append-add}
use Rattle.std.proofs.lemmas.List.{take-append-le}
use Rattle.anb_base.specs.Moves.{Rose, Put, Took, PutPrefix, Stamped, count_written}
use Rattle.anb_base.proofs.Joined.{Put-joined}

pub Rose-later : (before between now : ℕ) → before ≤ between → Rose between now → Rose before now
Rose-later before between now later (inl rose) = inl (omega arith)
Rose-later before between now later (inr last) = inr last

pub put_nothing : (w : Option (List ℕ)) → Put w w []
put_nothing None = refl
put_nothing (Some x) = ap Some (sym (append-nil x))

pub took_nothing : (a : Option (List ℕ)) → Took a a []
took_nothing None = refl
took_nothing (Some xs) = refl

pub put_further : (a b c : Option (List ℕ)) (x y : List ℕ) → Put a b x → PutPrefix b c y → PutPrefix a c (x ++ y)
put_further a b c x y p q =
    let put : Put a c (x ++ take q.0 y) = Put-joined a b c x (take q.0 y) p q.2 in
    (length x + q.0, omega (arith, q.1, length-append x y), subst (Put a c) (sym (take-append-add x y q.0)) put)

pub put_within : (a c : Option (List ℕ)) (x y : List ℕ) → PutPrefix a c x → PutPrefix a c (x ++ y)
put_within a c x y p = (p.0, omega (arith, p.1, length-append x y), subst (Put a c) (sym (take-append-le p.0 x y p.1)) p.2)

pub same_head : (p q : Option (List ℕ) × ℕ) (ps qs : List (Option (List ℕ) × ℕ)) → p ∷ ps ≡ q ∷ qs → p ≡ q
same_head p q ps qs e = cc

pub kept_first : (a b : List (Option (List ℕ) × ℕ)) (x y : Option (List ℕ)) (n m : ℕ) (xs ys : List (Option (List ℕ) × ℕ)) → b ≡ a → a ≡ (x, n) ∷ xs → b ≡ (y, m) ∷ ys → y ≡ x
kept_first a b x y n m xs ys same is now = ap (λ (p : Option (List ℕ) × ℕ). p.0) (same_head (y, m) (x, n) ys xs (sym now ∙ same ∙ is))

pub same_rest : (p q : Option (List ℕ) × ℕ) (ps qs : List (Option (List ℕ) × ℕ)) → p ∷ ps ≡ q ∷ qs → ps ≡ qs
same_rest p q ps qs e = cc

pub kept_third : (a b : List (Option (List ℕ) × ℕ)) (p q p' q' : Option (List ℕ) × ℕ) (x y : Option (List ℕ)) (n m : ℕ) → b ≡ a → a ≡ p ∷ q ∷ (x, n) ∷ [] → b ≡ p' ∷ q' ∷ (y, m) ∷ [] → y ≡ x
kept_third a b p q p' q' x y n m same is now =
    let after_first = same_rest p' p (q' ∷ (y, m) ∷ []) (q ∷ (x, n) ∷ []) (sym now ∙ same ∙ is) in
    let after_second = same_rest q' q ((y, m) ∷ []) ((x, n) ∷ []) after_first in
    ap (λ (r : Option (List ℕ) × ℕ). r.0) (same_head (y, m) (x, n) [] [] after_second)

pub stamped_told : (kept others : List (Option (List ℕ) × ℕ)) (written taken_at now : Option (List ℕ)) (faults n : ℕ) → kept ≡ (written, faults) ∷ others → Stamped taken_at now (count_written kept) n
    → IfSome written (λ w. Stamped taken_at now (length w) n)
stamped_told kept others None taken_at now faults n is h = tt
stamped_told kept others (Some w) taken_at now faults n is h = subst (λ k. Stamped taken_at now (count_written k) n) is h
