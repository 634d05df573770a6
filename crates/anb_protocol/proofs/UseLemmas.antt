-- Uses and names, one after another.
use Rattle.std.proofs.Common.{◌≡◌, ℕ, suc, ◌+◌, ◌<◌, List, [], ◌∷◌, ◌++◌, length, take, drop, get_or, ap, sym, ◌∙◌, refl, append_assoc}
use Rattle.std.specs.Str.{bytes_eq}
use Rattle.std.proofs.lemmas.List.{take_more}
use Rattle.anb_syntax.specs.Grammar.{Tree, trees_of, list_of}
use Rattle.anb_protocol.specs.Choices.{each_after}
use Rattle.anb_protocol.specs.Names.{first_new}
use Rattle.anb_protocol.proofs.Afters.{each_step}

pub joined : {X : Type 0} (a b d x y : List X) → b ≡ a ++ x → d ≡ b ++ y → d ≡ a ++ (x ++ y)
joined a b d x y e f = f ∙ ap (λ l. l ++ y) e ∙ append_assoc a x y

pub length-trees : (ts : List Tree) → length (list_of (trees_of ts)) ≡ length ts
length-trees [] = refl
length-trees (t ∷ ts) = ap (λ n. suc n) (length-trees ts)

-- one more name
pub distinct_out : (xs : List (List ℕ)) (i : ℕ) (x : List ℕ) (out after total : List (List ℕ)) → i < length xs → x ≡ get_or xs i x
    → after ≡ out ++ first_new bytes_eq (take i xs) x
    → out ++ each_after (first_new bytes_eq) (take i xs) (drop i xs) ≡ total
    → after ++ each_after (first_new bytes_eq) (take (i + 1) xs) (drop (i + 1) xs) ≡ total
distinct_out xs i x out after total h e a t =
    let rest = each_after (first_new bytes_eq) (take (i + 1) xs) (drop (i + 1) xs) in
    ap (λ l. l ++ rest) a ∙ append_assoc out (first_new bytes_eq (take i xs) x) rest
    ∙ ap (λ l. out ++ l) (sym (each_step (first_new bytes_eq) xs i x h e)) ∙ t

-- the names up to the next
pub next_name : (xs : List (List ℕ)) (i : ℕ) (x : List ℕ) → i < length xs → x ≡ get_or xs i x → take i xs ++ x ∷ [] ≡ take (i + 1) xs
next_name xs i x h e = sym (take_more xs i x h ∙ ap (λ z. take i xs ++ z ∷ []) (sym e))
