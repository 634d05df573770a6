-- The spare name in the place of one variable.
use Rattle.std.proofs.Common.{◌≡◌, ℕ, zero, suc, ◌+◌, ◌<◌, ◌≤◌, List, [], ◌∷◌, ◌++◌, map, take, Some, refl, sym, ap, ◌∙◌, subst, arith, ⊎_elim}
use Rattle.std.specs.Prelude.{slice_get, ◌==◌}
use Rattle.std.proofs.lemmas.Bool.{eq-eqb, ne_eqb, cond-true, cond-false, cases_lt}
use Rattle.anb_lemmas.proofs.Lists.{take_got}
use Rattle.anb_term.specs.declared.term.Op.{Op}
use Rattle.anb_term.specs.Tree.{Tree, leaf, node, Trees, trees_of, list_of}
use Rattle.anb_term.specs.TreeSame.{list_of-trees_of}
use Rattle.anb_term.proofs.Lists.{slice_get-map}
use Rattle.anb_unify.specs.Substitutions.{put_in, KeepsNames, IsNamed, AreNamed}
use Rattle.anb_unify.proofs.Putting.{put_node}
use Rattle.anb_distinguish.specs.Finding.{spared}
use Rattle.anb_distinguish.specs.Apart.{MakesOne, AreOneFor, TellsApart, MakesAllOne, TellsAllApart}

module _ (names : ℕ) (honest : ℕ → Tree) where
  pub marked : (v : ℕ) → spared names v honest v ≡ leaf names
  marked v = cond-true (v == v) (leaf names) (honest v) (eq-eqb v v refl)

  pub unmarked : (v n : ℕ) → (n ≡ v → ⊥) → spared names v honest n ≡ honest n
  unmarked v n apart = cond-false (n == v) (leaf names) (honest n) (ne_eqb n v apart)

never_spare : (names : ℕ) (t : Tree) → IsNamed names t → t ≡ leaf names → ⊥
never_spare names t h e = let w : IsNamed names (leaf names) = subst (IsNamed names) e h in omega (arith, w)

-- an atom that isn't a variable stays
stays : (names : ℕ) (honest : ℕ → Tree) (n : ℕ) → KeepsNames (names + 1) honest → n ≤ names → honest n ≡ leaf n
stays names honest n keeps h = keeps n (omega (arith, h))

pub atoms_told : (names v n : ℕ) → names < v → (n ≡ v → ⊥) → TellsApart names (leaf v) (leaf n) v
atoms_told names v n behind apart =
    (behind, λ honest one e. never_spare names (honest n) (subst (IsNamed names) one.same one.named) (sym (unmarked names honest v n apart) ∙ sym e ∙ marked names honest v))

pub atoms_told_back : (names v n : ℕ) → names < v → (n ≡ v → ⊥) → TellsApart names (leaf n) (leaf v) v
atoms_told_back names v n behind apart =
    (behind, λ honest one e. never_spare names (honest n) one.named (sym (unmarked names honest v n apart) ∙ e ∙ marked names honest v))

-- one of two atoms that differ is a variable
pub other_varies : (names n m : ℕ) → AreOneFor names (leaf n) (leaf m) → (n ≡ m → ⊥) → n ≤ names → names < m
other_varies names n m one apart h =
    ⊎_elim (λ l. l)
    (λ k.
    let p = stays names one.0 n one.1.keeps h in
    let q = stays names one.0 m one.1.keeps k in
    let s : leaf n ≡ leaf m = sym p ∙ one.1.same ∙ q in
    absurd (apart (let z : n ≡ m = cc in z)))
    (cases_lt names m)

pub node_varies : (names n : ℕ) (o : Op) (ts : Trees) → AreOneFor names (leaf n) (node o ts) → names < n
node_varies names n o ts one = ⊎_elim (λ l. l) (λ k. let p = stays names one.0 n one.1.keeps k in absurd (let s = sym p ∙ one.1.same in cc)) (cases_lt names n)

pub node_varies_back : (names n : ℕ) (o : Op) (ts : Trees) → AreOneFor names (node o ts) (leaf n) → names < n
node_varies_back names n o ts one = ⊎_elim (λ l. l) (λ k. let p = stays names one.0 n one.1.keeps k in absurd (let s = sym p ∙ sym one.1.same in cc)) (cases_lt names n)

pub node_told : (names n : ℕ) (o : Op) (ts : Trees) → names < n → TellsApart names (leaf n) (node o ts) n
node_told names n o ts behind = (behind, λ honest one e. let s = sym (marked names honest n) ∙ e in cc)

pub node_told_back : (names n : ℕ) (o : Op) (ts : Trees) → names < n → TellsApart names (node o ts) (leaf n) n
node_told_back names n o ts behind = (behind, λ honest one e. let s = e ∙ marked names honest n in cc)

-- ---- below operators

-- two that become one have one operator, and their operands become one
pub record OneBelow (names : ℕ) (honest : ℕ → Tree) (o p : Op) (xs ys : List Tree) : Type 0 where
  pub op : o ≡ p
  pub below : MakesAllOne names honest xs ys

pub one_below : (names : ℕ) (honest : ℕ → Tree) (o p : Op) (xs ys : List Tree) → MakesOne names honest (node o (trees_of xs)) (node p (trees_of ys)) → OneBelow names honest o p xs ys
one_below names honest o p xs ys one =
    let e : node o (trees_of (map (put_in honest) xs)) ≡ node p (trees_of (map (put_in honest) ys)) = sym (put_node honest o xs) ∙ one.same ∙ put_node honest p ys in
    let q : o ≡ p = cc in
    let r : trees_of (map (put_in honest) xs) ≡ trees_of (map (put_in honest) ys) = cc in
    record {
      op = q;
      below = record {
        keeps = one.keeps;
        same = sym (list_of-trees_of (map (put_in honest) xs)) ∙ ap list_of r ∙ list_of-trees_of (map (put_in honest) ys);
        named = subst (IsNamed names) (put_node honest o xs) one.named;
      };
    }

pub nodes_told : (names v : ℕ) (o p : Op) (xs ys : List Tree) → TellsAllApart names xs ys v → TellsApart names (node o (trees_of xs)) (node p (trees_of ys)) v
nodes_told names v o p xs ys told = (
  told.0,
  λ honest one e.
      let s = spared names v honest in
      let f : node o (trees_of (map (put_in s) xs)) ≡ node p (trees_of (map (put_in s) ys)) = sym (put_node s o xs) ∙ e ∙ put_node s p ys in
      let r : trees_of (map (put_in s) xs) ≡ trees_of (map (put_in s) ys) = cc in
      told.1 honest (one_below names honest o p xs ys one).below (sym (list_of-trees_of (map (put_in s) xs)) ∙ ap list_of r ∙ list_of-trees_of (map (put_in s) ys)),
)

-- ---- two in a row of them

at_both : (f : Tree → Tree) (xs ys : List Tree) (i : ℕ) (x y : Tree) → map f xs ≡ map f ys → slice_get xs i ≡ Some x → slice_get ys i ≡ Some y → f x ≡ f y
at_both f xs ys i x y e a b = let p = slice_get-map f xs i x a in let q = slice_get-map f ys i y b in let r = ap (λ l. slice_get l i) e in cc

named_at : (names : ℕ) (ts : List Tree) (i : ℕ) (t : Tree) → AreNamed names (trees_of ts) → slice_get ts i ≡ Some t → IsNamed names t
named_at names [] i t h e = cc
named_at names (x ∷ ts) zero t h e = let s : x ≡ t = cc in subst (IsNamed names) s h.0
named_at names (x ∷ ts) (suc i) t h e = named_at names ts i t h.1 e

pub one_at : (names : ℕ) (honest : ℕ → Tree) (xs ys : List Tree) (i : ℕ) (x y : Tree) → MakesAllOne names honest xs ys → slice_get xs i ≡ Some x → slice_get ys i ≡ Some y → MakesOne names honest x y
one_at names honest xs ys i x y all a b = record {
  keeps = all.keeps;
  same = at_both (put_in honest) xs ys i x y all.same a b;
  named = named_at names (map (put_in honest) xs) i (put_in honest x) all.named (slice_get-map (put_in honest) xs i x a);
}

pub told_at : (names v : ℕ) (xs ys : List Tree) (i : ℕ) (x y : Tree) → slice_get xs i ≡ Some x → slice_get ys i ≡ Some y → TellsApart names x y v → TellsAllApart names xs ys v
told_at names v xs ys i x y a b told = (told.0, λ honest all e. told.1 honest (one_at names honest xs ys i x y all a b) (at_both (put_in (spared names v honest)) xs ys i x y e a b))

pub same_next : (xs ys : List Tree) (i : ℕ) (x y : Tree) → slice_get xs i ≡ Some x → slice_get ys i ≡ Some y → take i xs ≡ take i ys → x ≡ y → take (i + 1) xs ≡ take (i + 1) ys
same_next xs ys i x y a b e s = take_got xs i x a ∙ ap (λ l. l ++ x ∷ []) e ∙ ap (λ z. take i ys ++ z ∷ []) s ∙ sym (take_got ys i y b)
