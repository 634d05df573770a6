-- Variables that get numbers in the order in which they first stand.
use Rattle.std.proofs.Common.{◌≡◌, ℕ, zero, suc, ◌+◌, ◌-◌, ◌<◌, ◌≤◌, List, [], ◌∷◌, ◌++◌, length, map, get_or, Bool, true, false, cond, Some, refl, sym, ap, ◌∙◌, subst, arith, inl, inr, ◌⊎◌, ⊎_elim, append_assoc, length-append}
use Rattle.std.specs.Prelude.{slice_get}
use Rattle.std.proofs.lemmas.List.{append-nil}
use Rattle.std.proofs.lemmas.Option.{get_or_from_slice_get}
use Rattle.anb_lemmas.proofs.Lists.{get_last, got_within}
use Rattle.anb_term.specs.declared.term.Op.{Op}
use Rattle.anb_term.specs.Tree.{Tree, leaf, node, Trees, none, more, trees_of, tree_eqb, AreFormed}
use Rattle.anb_term.specs.TreeSame.{tree_same, tree_itself}
use Rattle.anb_term.specs.FreeAlgebra.{terms}
use Rattle.anb_term.proofs.Lists.{slice_get-append}
use Rattle.anb_intern.specs.Nodes.{AreDistinct}
use Rattle.anb_plays.specs.Honest.{honest_all}
use Rattle.anb_plays.specs.Plans.{Event}
use Rattle.anb_protocol.specs.Texts.{atoms_in, atoms_in_all, atoms_in_each}
use Rattle.anb_accept.specs.Numbering.{AreInOrder, AreNumbered}
use Rattle.anb_accept.specs.Patterns.{IsInstance, ArePatterns}
use Rattle.anb_unify.specs.Substitutions.{put_in, KeepsNames}
use Rattle.anb_accept.specs.Renaming.{IsRenamed, AreRenamed, GotNumbers, AllGotNumbers}
use Rattle.anb_unify.proofs.Putting.{map_put_twice, each_formed_before}
use Rattle.anb_unify.proofs.Steps.{grown_none, grown_on}

-- ---- in order

in_order_on : (a b c : ℕ) (ms ns : List ℕ) → AreInOrder a b ms → AreInOrder b c ns → AreInOrder a c (ms ++ ns)
in_order_on a b c [] ns g h = subst (λ k. AreInOrder k c ns) (sym g) h
in_order_on a b c (m ∷ ms) ns (inl g) h = inl (g.0, in_order_on a b c ms ns g.1 h)
in_order_on a b c (m ∷ ms) ns (inr g) h = inr (g.0, in_order_on (suc a) b c ms ns g.1 h)

atoms_snoc : (us : List Tree) (u : Tree) → atoms_in_all (trees_of (us ++ u ∷ [])) ≡ atoms_in_all (trees_of us) ++ atoms_in u
atoms_snoc [] u = append-nil (atoms_in u)
atoms_snoc (v ∷ us) u = ap (λ l. atoms_in v ++ l) (atoms_snoc us u) ∙ sym (append_assoc (atoms_in v) (atoms_in_all (trees_of us)) (atoms_in u))

pub atoms_each : (us : List Tree) → atoms_in_each us ≡ atoms_in_all (trees_of us)
atoms_each [] = refl
atoms_each (u ∷ us) = ap (λ l. atoms_in u ++ l) (atoms_each us)

-- ---- a pool that grows

module _ (names : ℕ) (pool rest : List Tree) where
  mutual
    still : (t u : Tree) → IsRenamed names pool t u → IsRenamed names (pool ++ rest) t u
    still (leaf n) (leaf m) (inl h) = inl h
    still (leaf n) (leaf m) (inr h) = inr (h.0, h.1, slice_get-append pool rest h.1 (leaf n) h.2, h.3)
    still (leaf n) (node q us) h = absurd h
    still (node o ts) (leaf m) h = absurd h
    still (node o ts) (node q us) h = (h.0, all_still ts us h.1)

    all_still : (ts us : Trees) → AreRenamed names pool ts us → AreRenamed names (pool ++ rest) ts us
    all_still none none h = tt
    all_still none (more u us) h = absurd h
    all_still (more t ts) none h = absurd h
    all_still (more t ts) (more u us) h = (still t u h.0, all_still ts us h.1)

renamed_snoc : (names : ℕ) (pool ts us : List Tree) (t u : Tree) → AreRenamed names pool (trees_of ts) (trees_of us) → IsRenamed names pool t u → AreRenamed names pool (trees_of (ts ++ t ∷ [])) (trees_of (us ++ u ∷ []))
renamed_snoc names pool [] [] t u all h = (h, tt)
renamed_snoc names pool [] (v ∷ us) t u all h = absurd all
renamed_snoc names pool (v ∷ ts) [] t u all h = absurd all
renamed_snoc names pool (v ∷ ts) (w ∷ us) t u all h = (all.0, renamed_snoc names pool ts us t u all.1 h)

pub none_numbered : (names : ℕ) (pool us : List Tree) → us ≡ [] → AllGotNumbers names pool pool none (trees_of us)
none_numbered names pool us e = subst (λ l. AllGotNumbers names pool pool none (trees_of l)) (sym e) (record { grown = grown_none pool; renamed = tt; in_order = refl })

-- one term more
pub one_numbered : (names : ℕ) (old mid new ts ts' us us' : List Tree) (t u : Tree) → AllGotNumbers names old mid (trees_of ts) (trees_of us) → GotNumbers names mid new t u → ts' ≡ ts ++ t ∷ [] → us' ≡ us ++ u ∷ []
    → AllGotNumbers names old new (trees_of ts') (trees_of us')
one_numbered names old mid new ts ts' us us' t u all one a b =
    let before = subst (λ p. AreRenamed names p (trees_of ts) (trees_of us)) (sym one.grown.is) (all_still names mid one.grown.more (trees_of ts) (trees_of us) all.renamed) in
    subst (λ l. AllGotNumbers names old new (trees_of l) (trees_of us')) (sym a) (subst (λ l. AllGotNumbers names old new (trees_of (ts ++ t ∷ [])) (trees_of l)) (sym b) (record {
      grown = grown_on old mid new all.grown one.grown;
      renamed = renamed_snoc names new ts us t u before one.renamed;
      in_order = subst (AreInOrder (names + length old) (names + length new)) (sym (atoms_snoc us u))
          (in_order_on (names + length old) (names + length mid) (names + length new) (atoms_in_all (trees_of us)) (atoms_in u) all.in_order one.in_order);
    }))

pub node_numbered : (names : ℕ) (old new ts us : List Tree) (o : Op) → AllGotNumbers names old new (trees_of ts) (trees_of us) → GotNumbers names old new (node o (trees_of ts)) (node o (trees_of us))
node_numbered names old new ts us o all = record { grown = all.grown; renamed = (refl, all.renamed); in_order = all.in_order }

-- ---- an atom

pub name_numbered : (names : ℕ) (pool : List Tree) (n : ℕ) → n < names → GotNumbers names pool pool (leaf n) (leaf n)
name_numbered names pool n h = record { grown = grown_none pool; renamed = inl (h, refl); in_order = inl (omega arith, refl) }

there_numbered : (names : ℕ) (pool : List Tree) (n i : ℕ) → names ≤ n → slice_get pool i ≡ Some (leaf n) → GotNumbers names pool pool (leaf n) (leaf (names + i))
there_numbered names pool n i h at = let w = got_within pool i (leaf n) at in record { grown = grown_none pool; renamed = inr (h, i, at, refl); in_order = inl (omega arith, refl) }

new_numbered : (names : ℕ) (pool new : List Tree) (n i : ℕ) → names ≤ n → new ≡ pool ++ leaf n ∷ [] → slice_get new i ≡ Some (leaf n) → AreDistinct new → GotNumbers names pool new (leaf n) (leaf (names + i))
new_numbered names pool new n i h is at distinct =
    let last = ap (λ l. slice_get l (length pool)) is ∙ get_last pool (leaf n) in
    let e : i ≡ length pool = distinct i (length pool) (leaf n) at last in
    let long = ap length is ∙ length-append pool (leaf n ∷ []) in
    record { grown = record { more = leaf n ∷ []; is = is }; renamed = inr (h, i, at, refl); in_order = inr (ap (λ k. names + k) e, omega arith) }

pub atom_numbered : (names : ℕ) (pool new : List Tree) (n i : ℕ) → names ≤ n → (new ≡ pool) ⊎ (new ≡ pool ++ leaf n ∷ []) → slice_get new i ≡ Some (leaf n) → AreDistinct new → GotNumbers names pool new (leaf n) (leaf (names + i))
atom_numbered names pool new n i h (inl is) at distinct = subst (λ l. GotNumbers names pool l (leaf n) (leaf (names + i))) (sym is) (there_numbered names pool n i h (ap (λ l. slice_get l i) (sym is) ∙ at))
atom_numbered names pool new n i h (inr is) at distinct = new_numbered names pool new n i h is at distinct

-- ---- there and back

split : (n m : ℕ) → (m ≤ n) ⊎ (n < m)
split n zero = inl (omega arith)
split zero (suc m) = inr (omega arith)
split (suc n) (suc m) = ⊎_elim (λ l. inl (omega arith)) (λ l. inr (omega arith)) (split n m)

abbrev place_in : List Tree → Tree → ℕ
place_in [] t = 0
place_in (u ∷ us) t = cond (tree_eqb u t) 0 (suc (place_in us t))

place_is : (us : List Tree) (i : ℕ) (t : Tree) → slice_get us i ≡ Some t → slice_get us (place_in us t) ≡ Some t
place_is [] i t e = cc
place_is (u ∷ us) zero t e =
    let s : u ≡ t = cc in
    let q : tree_eqb u t ≡ true = ap (λ v. tree_eqb v t) s ∙ tree_itself t in
    ap (λ c. slice_get (u ∷ us) (cond c 0 (suc (place_in us t)))) q ∙ ap Some s
place_is (u ∷ us) (suc i) t e = by_test (tree_eqb u t) refl (place_is us i t e)
  where
    by_test : (b : Bool) → tree_eqb u t ≡ b → slice_get us (place_in us t) ≡ Some t → slice_get (u ∷ us) (cond (tree_eqb u t) 0 (suc (place_in us t))) ≡ Some t
    by_test true q later = ap (λ c. slice_get (u ∷ us) (cond c 0 (suc (place_in us t)))) q ∙ ap Some (tree_same u t q)
    by_test false q later = ap (λ c. slice_get (u ∷ us) (cond c 0 (suc (place_in us t)))) q ∙ later

module _ (names : ℕ) (pool : List Tree) where
  abbrev back_by : (m : ℕ) → (names ≤ m) ⊎ (m < names) → Tree
  back_by m (inl l) = get_or pool (m - names) (leaf m)
  back_by m (inr l) = leaf m

  -- what has this number
  abbrev back : ℕ → Tree
  back m = back_by m (split m names)

  back_name : (n : ℕ) → n < names → back n ≡ leaf n
  back_name n h = go (split n names)
    where
      go : (s : (names ≤ n) ⊎ (n < names)) → back_by n s ≡ leaf n
      go (inl l) = absurd (omega arith)
      go (inr l) = refl

  back_number : (i : ℕ) (t : Tree) → slice_get pool i ≡ Some t → back (names + i) ≡ t
  back_number i t e = go (split (names + i) names)
    where
      go : (s : (names ≤ names + i) ⊎ (names + i < names)) → back_by (names + i) s ≡ t
      go (inl l) = let z : names + i - names ≡ i = omega arith in ap (λ k. get_or pool k (leaf (names + i))) z ∙ get_or_from_slice_get pool i t (leaf (names + i)) e
      go (inr l) = absurd (omega arith)

  abbrev on_by : (n : ℕ) → (names ≤ n) ⊎ (n < names) → Tree
  on_by n (inl l) = leaf (names + place_in pool (leaf n))
  on_by n (inr l) = leaf n

  -- its number
  abbrev on : ℕ → Tree
  on n = on_by n (split n names)

  on_name : (n : ℕ) → n < names → on n ≡ leaf n
  on_name n h = go (split n names)
    where
      go : (s : (names ≤ n) ⊎ (n < names)) → on_by n s ≡ leaf n
      go (inl l) = absurd (omega arith)
      go (inr l) = refl

  on_number : AreDistinct pool → (n i : ℕ) → names ≤ n → slice_get pool i ≡ Some (leaf n) → on n ≡ leaf (names + i)
  on_number distinct n i h e = go (split n names)
    where
      go : (s : (names ≤ n) ⊎ (n < names)) → on_by n s ≡ leaf (names + i)
      go (inl l) = ap (λ k. leaf (names + k)) (distinct (place_in pool (leaf n)) i (leaf n) (place_is pool i (leaf n) e) e)
      go (inr l) = absurd (omega arith)

  mutual
    put_back : (t u : Tree) → IsRenamed names pool t u → put_in back u ≡ t
    put_back (leaf n) (leaf m) (inl h) = ap back h.1 ∙ back_name n h.0
    put_back (leaf n) (leaf m) (inr h) = ap back h.3 ∙ back_number h.1 (leaf n) h.2
    put_back (leaf n) (node q us) h = absurd h
    put_back (node o ts) (leaf m) h = absurd h
    put_back (node o ts) (node q us) h = ap (node q) (put_all_back ts us h.1) ∙ ap (λ z. node z ts) (sym h.0)

    put_all_back : (ts us : Trees) → AreRenamed names pool ts us → trees_of (honest_all terms back us) ≡ ts
    put_all_back none none h = refl
    put_all_back none (more u us) h = absurd h
    put_all_back (more t ts) none h = absurd h
    put_all_back (more t ts) (more u us) h = ap (λ v. more v (trees_of (honest_all terms back us))) (put_back t u h.0) ∙ ap (more t) (put_all_back ts us h.1)

  each_back : (ts us : List Tree) → AreRenamed names pool (trees_of ts) (trees_of us) → map (put_in back) us ≡ ts
  each_back [] [] h = refl
  each_back [] (u ∷ us) h = absurd h
  each_back (t ∷ ts) [] h = absurd h
  each_back (t ∷ ts) (u ∷ us) h = ap (λ v. v ∷ map (put_in back) us) (put_back t u h.0) ∙ ap (λ l. t ∷ l) (each_back ts us h.1)

  module _ (distinct : AreDistinct pool) where
    mutual
      put_on : (t u : Tree) → IsRenamed names pool t u → put_in on t ≡ u
      put_on (leaf n) (leaf m) (inl h) = on_name n h.0 ∙ ap leaf (sym h.1)
      put_on (leaf n) (leaf m) (inr h) = on_number distinct n h.1 h.0 h.2 ∙ ap leaf (sym h.3)
      put_on (leaf n) (node q us) h = absurd h
      put_on (node o ts) (leaf m) h = absurd h
      put_on (node o ts) (node q us) h = ap (node o) (put_all_on ts us h.1) ∙ ap (λ z. node z us) h.0

      put_all_on : (ts us : Trees) → AreRenamed names pool ts us → trees_of (honest_all terms on ts) ≡ us
      put_all_on none none h = refl
      put_all_on none (more u us) h = absurd h
      put_all_on (more t ts) none h = absurd h
      put_all_on (more t ts) (more u us) h = ap (λ v. more v (trees_of (honest_all terms on ts))) (put_on t u h.0) ∙ ap (more u) (put_all_on ts us h.1)

    each_on : (ts us : List Tree) → AreRenamed names pool (trees_of ts) (trees_of us) → map (put_in on) ts ≡ us
    each_on [] [] h = refl
    each_on [] (u ∷ us) h = absurd h
    each_on (t ∷ ts) [] h = absurd h
    each_on (t ∷ ts) (u ∷ us) h = ap (λ v. v ∷ map (put_in on) ts) (put_on t u h.0) ∙ ap (λ l. u ∷ l) (each_on ts us h.1)

-- ---- patterns by other names of their variables

instance_after : (names : ℕ) (p : ℕ → Tree) (ts us arrivals : List Tree) → KeepsNames names p → map (put_in p) us ≡ ts → IsInstance names ts arrivals → IsInstance names us arrivals
instance_after names p ts us arrivals keeps e i = record {
  put = λ n. put_in i.put (p n);
  keeps = λ n h. ap (put_in i.put) (keeps n h) ∙ i.keeps n h;
  is = i.is ∙ ap (map (put_in i.put)) (sym e) ∙ map_put_twice i.put p us;
}

pub renamed_patterns : (names : ℕ) (pool ts us : List Tree) (has : Op → Bool) (plan : List Event) → AreDistinct pool → AreRenamed names pool (trees_of ts) (trees_of us) → ArePatterns has names plan ts → ArePatterns has names plan us
renamed_patterns names pool ts us has plan distinct r are =
    let b = each_back names pool ts us r in
    let o = each_on names pool distinct ts us r in
    record {
      formed = each_formed_before has (back names pool) us (subst (λ l. AreFormed has (trees_of l)) (sym b) are.formed);
      instances = λ arrivals takes. instance_after names (back names pool) ts us arrivals (back_name names pool) b (are.instances arrivals takes);
      taken = λ arrivals i. are.taken arrivals (instance_after names (on names pool) us ts arrivals (on_name names pool) o i);
    }

pub all_numbered : (names : ℕ) (pool ts us : List Tree) → AllGotNumbers names [] pool (trees_of ts) (trees_of us) → AreNumbered names us
all_numbered names pool ts us all = record {
  count = length pool;
  in_order = subst (AreInOrder names (names + length pool)) (sym (atoms_each us)) (let z : names + 0 ≡ names = omega arith in subst (λ k. AreInOrder k (names + length pool) (atoms_in_all (trees_of us))) z all.in_order);
}
