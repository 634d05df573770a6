-- One more item of a list that is gone through.
use Rattle.std.proofs.Common.{◌≡◌, ℕ, zero, suc, ◌+◌, ◌<◌, ◌≤◌, List, [], ◌∷◌, ◌++◌, length, map, take, get_or, Bool, true, false, cond, Some, refl, sym, ap, ◌∙◌, subst, arith, append_assoc}
use Rattle.std.specs.Prelude.{slice_get}
use Rattle.anb_term.proofs.Lists.{map-append}
use Rattle.anb_term.specs.Tree.{Tree, trees_of, tree_size, trees_size}
use Rattle.anb_close.specs.declared.made.Made.{Made}
use Rattle.anb_close.specs.MadeView.{made_tree}
use Rattle.anb_term.specs.View.{tree_of}
use Rattle.anb_plays.specs.Plans.{Event, know, fresh, send, recv, known}
use Rattle.anb_close.specs.declared.entry.Entry.{Entry}
use Rattle.anb_unify.proofs.Steps.{map_map, mapped_next}
use Rattle.anb_accept.specs.Taking.{later}
use Rattle.anb_accept.specs.Equations.{is_own, is_heard, own_equations, heard_entries, later_heard}

-- ---- the lists that grow item by item

pub known_snoc : (es : List Event) (e : Event) → known (es ++ e ∷ []) ≡ known es ++ known (e ∷ [])
known_snoc [] e = refl
known_snoc (know t ∷ es) e = ap (λ l. t ∷ l) (known_snoc es e)
known_snoc (fresh t ∷ es) e = known_snoc es e
known_snoc (send t ∷ es) e = known_snoc es e
known_snoc (recv t ∷ es) e = known_snoc es e

pub later_snoc : (es : List Event) (e : Event) → later (es ++ e ∷ []) ≡ later es ++ later (e ∷ [])
later_snoc [] e = refl
later_snoc (know t ∷ es) e = later_snoc es e
later_snoc (fresh t ∷ es) e = ap (λ l. t ∷ l) (later_snoc es e)
later_snoc (send t ∷ es) e = later_snoc es e
later_snoc (recv t ∷ es) e = ap (λ l. t ∷ l) (later_snoc es e)

pub later_heard_snoc : (es : List Event) (e : Event) → later_heard (es ++ e ∷ []) ≡ later_heard es ++ later_heard (e ∷ [])
later_heard_snoc [] e = refl
later_heard_snoc (know t ∷ es) e = later_heard_snoc es e
later_heard_snoc (fresh t ∷ es) e = ap (λ l. false ∷ l) (later_heard_snoc es e)
later_heard_snoc (send t ∷ es) e = later_heard_snoc es e
later_heard_snoc (recv t ∷ es) e = ap (λ l. true ∷ l) (later_heard_snoc es e)

pub mapped_snoc : {A B : Type 0} (F : List Event → List B) (f : A → Event) → ((es : List Event) (e : Event) → F (es ++ e ∷ []) ≡ F es ++ F (e ∷ [])) → (xs : List A) (x : A) → F (map f (xs ++ x ∷ [])) ≡ F (map f xs) ++ F (f x ∷ [])
mapped_snoc F f h xs x = ap F (map-append f xs (x ∷ [])) ∙ h (map f xs) (f x)

known_flags : (ks : List Tree) (ls : List Tree) → map (λ t. false) (ks ++ ls) ≡ map (λ t. false) ks ++ map (λ t. false) ls
known_flags ks ls = map-append (λ t. false) ks ls

pub flags_snoc : (es : List Event) (e : Event) → map (λ t. false) (known (es ++ e ∷ [])) ≡ map (λ t. false) (known es) ++ map (λ t. false) (known (e ∷ []))
flags_snoc es e = ap (map (λ t. false)) (known_snoc es e) ∙ known_flags (known es) (known (e ∷ []))

add_one_more : (k l : ℕ) → k + suc l ≡ k + 1 + l
add_one_more k l = omega arith

pub own_snoc : (heard : List Bool) (k : ℕ) (es : List Entry) (e : Entry) (n : ℕ) → n ≡ k + length es → own_equations heard k (es ++ e ∷ []) ≡ own_equations heard k es ++ own_equations heard n (e ∷ [])
own_snoc heard k [] e n is = let z : n ≡ k = omega arith in ap (λ i. own_equations heard i (e ∷ [])) (sym z)
own_snoc heard k (x ∷ es) e n is =
    let first = cond (is_own heard x.origin) (record { variable = k; term = tree_of x.term } ∷ []) [] in
    ap (λ l. first ++ l) (own_snoc heard (k + 1) es e n (is ∙ add_one_more k (length es))) ∙ sym (append_assoc first (own_equations heard (k + 1) es) (own_equations heard n (e ∷ [])))

pub heard_snoc : (heard : List Bool) (k : ℕ) (es : List Entry) (e : Entry) (n : ℕ) → n ≡ k + length es → heard_entries heard k (es ++ e ∷ []) ≡ heard_entries heard k es ++ heard_entries heard n (e ∷ [])
heard_snoc heard k [] e n is = let z : n ≡ k = omega arith in ap (λ i. heard_entries heard i (e ∷ [])) (sym z)
heard_snoc heard k (x ∷ es) e n is =
    let first : List ℕ = cond (is_heard heard x.origin) (k ∷ []) [] in
    ap (λ l. first ++ l) (heard_snoc heard (k + 1) es e n (is ∙ add_one_more k (length es))) ∙ sym (append_assoc first (heard_entries heard (k + 1) es) (heard_entries heard n (e ∷ [])))

-- a composition is no larger than all of them
pub one_made : (xs : List Made) (i : ℕ) (x : Made) → slice_get xs i ≡ Some x → tree_size (made_tree x) ≤ trees_size (trees_of (map made_tree xs))
one_made [] i x e = cc
one_made (y ∷ xs) zero x e = let s : y ≡ x = cc in subst (λ z. tree_size (made_tree z) ≤ trees_size (trees_of (map made_tree (y ∷ xs)))) s (omega arith)
one_made (y ∷ xs) (suc i) x e = omega (arith, one_made xs i x e)

-- one more item of what two maps give, one after the other
pub both_mapped_next : {A B C : Type 0} (f : B → C) (g : A → B) (xs : List A) (i : ℕ) (x : A) (out out' : List C) (y : C) → out ≡ map f (map g (take i xs)) → i < length xs → x ≡ get_or xs i x → out' ≡ out ++ y ∷ [] → y ≡ f (g x)
    → out' ≡ map f (map g (take (i + 1) xs))
both_mapped_next f g xs i x out out' y is within at grown s =
    let h = mapped_next (λ z. f (g z)) xs i x [] out out' y (is ∙ map_map f g (take i xs)) within at grown s in
    h ∙ sym (map_map f g (take (i + 1) xs))
