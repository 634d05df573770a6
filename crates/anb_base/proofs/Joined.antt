-- Two steps of a source or a sink are one.
use Rattle.std.proofs.Common.{◌≡◌, ℕ, ◌+◌, ◌≤◌, List, ◌++◌, length, take, drop, Option, Some, None, ap, sym, ◌∙◌, subst, append_assoc, arith}
use Rattle.std.proofs.Math.Seq.{take-append-add, take-append_seam}
use Rattle.std.proofs.lemmas.List.{length-take-le, take-append-le, length-drop, take-append-drop, drop-drop, replicate-append-replicate}
use Rattle.anb_base.specs.Moves.{Took, Put, Stamped}

pub Took-joined : (a b c : Option (List ℕ)) (x y : List ℕ) → Took a b x → Took b c y → Took a c (x ++ y)
Took-joined None b c x y p q = rw p at q
Took-joined (Some o) None c x y p q = absurd p
Took-joined (Some o) (Some n) None x y p q = absurd q
Took-joined (Some o) (Some n) (Some m) x y p q = p ∙ ap (λ t. x ++ t) q ∙ sym (append_assoc x y m)

pub Put-joined : (a b c : Option (List ℕ)) (x y : List ℕ) → Put a b x → Put b c y → Put a c (x ++ y)
Put-joined None b c x y p q = rw p at q
Put-joined (Some o) b c x y p q = let r : c ≡ Some ((o ++ x) ++ y) = rw p at q in r ∙ ap Some (append_assoc o x y)

pub Stamped-joined : (a b c : Option (List ℕ)) (written m n : ℕ) → Stamped a b written m → Stamped b c written n → Stamped a c written (m + n)
Stamped-joined a b c written m n p q = subst (Put a c) (replicate-append-replicate m n written) (Put-joined a b c _ _ p q)

-- the front of a list with a part written over: the part before, and the part's front
pub taken : (a n : ℕ) (xs ys zs : List ℕ) → a ≤ length xs → n ≤ length ys → take (a + n) (take a xs ++ (ys ++ zs)) ≡ take a xs ++ take n ys
taken a n xs ys zs h k =
    let e : length (take a xs) ≡ a = length-take-le a xs h in
    let p : take (length (take a xs) + n) (take a xs ++ (ys ++ zs)) ≡ take a xs ++ take n (ys ++ zs) = take-append-add (take a xs) (ys ++ zs) n in
    ap (λ (i : ℕ). take (i + n) (take a xs ++ (ys ++ zs))) (sym e) ∙ p ∙ ap (λ t. take a xs ++ t) (take-append-le n ys zs k)

-- the next n items of a list, copied to the front of a buffer, and the rest
pub moved : (i n : ℕ) (xs new rest : List ℕ) → i + n ≤ length xs → new ≡ take n (drop i xs) → drop i xs ≡ take n (new ++ rest) ++ drop (i + n) xs
moved i n xs new rest h e =
    let size : length new ≡ n = ap length e ∙ length-take-le n (drop i xs) (omega (arith, length-drop i xs, h)) in
    let front : take n (new ++ rest) ≡ new = ap (λ (k : ℕ). take k (new ++ rest)) (sym size) ∙ take-append_seam new rest in
    let whole : drop i xs ≡ take n (drop i xs) ++ drop n (drop i xs) = sym (take-append-drop n (drop i xs)) in
    whole ∙ ap (λ t. t ++ drop n (drop i xs)) (sym e ∙ sym front) ∙ ap (λ t. take n (new ++ rest) ++ t) (drop-drop n i xs)
