-- Labels with honest values agree.
use Rattle.std.proofs.Common.{◌≡◌, ℕ, zero, suc, List, [], ◌∷◌, ◌++◌, length, map, true, IsTrue, Some, refl, sym, ap, ◌∙◌, subst}
use Rattle.std.specs.Prelude.{slice_get}
use Rattle.std.proofs.lemmas.List.{length-map}
use Rattle.std.proofs.lemmas.List.Elements.{All-from_recursion}
use Rattle.anb_term.specs.declared.term.Op.{Op}
use Rattle.anb_term.specs.Operator.{arity, keys}
use Rattle.anb_term.specs.Tree.{Tree, leaf, node, Trees, none, more, trees_of, list_of, IsFormed, AreFormed}
use Rattle.anb_term.specs.TreeSame.{list_of-trees_of}
use Rattle.anb_term.specs.Lawful.{Lawful}
use Rattle.anb_term.specs.Value.{Meaning, RecipeTree, value}
use Rattle.anb_term.specs.FreeAlgebra.{parts_of, terms_over}
use Rattle.anb_term.specs.FreeLawful.{parts_are}
use Rattle.anb_term.specs.Agree.{Agree}
use Rattle.anb_term.proofs.Lists.{map-append}
use Rattle.anb_term.proofs.Values.{Valued}
use Rattle.anb_term.proofs.Related.{Pairs, Facts, agree_by, related}
use Rattle.anb_plays.specs.Honest.{honest, honest_all}
use Rattle.anb_plays.specs.Statements.{HonestAgree}

module _ {A : Type 0} (m : Meaning A) (lawful : Lawful m) (atoms : ℕ → A) (good : (n : ℕ) → IsTrue (m.is_value (atoms n))) where
  abbrev of : Tree → A
  of t = honest m atoms t

  all_of : (ts : Trees) → honest_all m atoms ts ≡ map of (list_of ts)
  all_of none = refl
  all_of (more t ts) = ap (λ l. honest m atoms t ∷ l) (all_of ts)

  length-all : (ts : Trees) → length (honest_all m atoms ts) ≡ length (list_of ts)
  length-all ts = ap length (all_of ts) ∙ length-map (list_of ts) of

  mutual
    pub is_value : (t : Tree) → IsFormed m.has t → IsTrue (m.is_value (honest m atoms t))
    is_value (leaf n) f = good n
    is_value (node o ts) f = lawful.builds o (honest_all m atoms ts) f.0 (length-all ts ∙ f.1) (All-from_recursion (λ x. IsTrue (m.is_value x)) (honest_all m atoms ts) (are_values ts f.2))

    are_values : (ts : Trees) → AreFormed m.has ts → Valued m (honest_all m atoms ts)
    are_values none f = tt
    are_values (more t ts) f = (is_value t f.0, are_values ts f.1)

  list_values : (ts : List Tree) → AreFormed m.has (trees_of ts) → Valued m (map of ts)
  list_values [] f = tt
  list_values (t ∷ ts) f = (is_value t f.0, list_values ts f.1)

  formed_both : (ks ps : List Tree) → AreFormed m.has (trees_of (ks ++ ps)) → AreFormed m.has (trees_of ks) × AreFormed m.has (trees_of ps)
  formed_both [] ps f = (tt, f)
  formed_both (k ∷ ks) ps f = let h = formed_both ks ps f.1 in ((f.0, h.0), h.1)

  R : Tree → A → Type 0
  R t b = IsFormed m.has t × (b ≡ of t)

  labels : (frame : List Tree) (n : ℕ) (t : Tree) → AreFormed m.has (trees_of frame) → slice_get frame n ≡ Some t → (b : A) × (slice_get (map of frame) n ≡ Some b) × R t b
  unfolding R
  labels [] n t f e = cc
  labels (u ∷ us) zero t f e = let s : u ≡ t = cc in (of u, refl, (subst (IsFormed m.has) s f.0, ap of s))
  labels (u ∷ us) (suc n) t f e = labels us n t f.1 e

  paired : (ts : List Tree) (bs : List A) → Pairs R ts bs → AreFormed m.has (trees_of ts) × (bs ≡ map of ts)
  unfolding R
  paired [] [] h = (tt, refl)
  paired [] (b ∷ bs) h = absurd h
  paired (t ∷ ts) [] h = absurd h
  paired (t ∷ ts) (b ∷ bs) h = let rest = paired ts bs h.1 in let first = h.0.1 in ((h.0.0, rest.0), cc (first, rest.1))

  pairs_of : (ts : List Tree) → AreFormed m.has (trees_of ts) → Pairs R ts (map of ts)
  unfolding R
  pairs_of [] f = tt
  pairs_of (t ∷ ts) f = ((f.0, refl), pairs_of ts f.1)

  of_node : (o : Op) (ts : List Tree) → of (node o (trees_of ts)) ≡ m.built o (map of ts)
  of_node o ts = ap (m.built o) (all_of (trees_of ts) ∙ ap (map of) (list_of-trees_of ts))

  builds : (o : Op) (ts : List Tree) (bs : List A) → m.has o ≡ true → length ts ≡ arity o → Pairs R ts bs → R (node o (trees_of ts)) (m.built o bs)
  unfolding R
  builds o ts bs h n p =
      let are = paired ts bs p in
      ((h, ap length (list_of-trees_of ts) ∙ n, are.0), ap (m.built o) are.1 ∙ sym (of_node o ts))

  opens : (o : Op) (ks ps : List Tree) (t : Tree) (kv : List A) (v : A) → m.has o ≡ true → length ks ≡ keys o → Pairs R ks kv → R t v → parts_of o ks t ≡ Some ps
      → (qs : List A) × (m.undone o kv v ≡ Some qs) × Pairs R ps qs
  unfolding R
  opens o ks ps t kv v h n hk hv e =
      let is = parts_are o ks t ps e in
      let whole : IsFormed m.has (node o (trees_of (ks ++ ps))) = subst (IsFormed m.has) is.1 hv.0 in
      let both = formed_both ks ps whole.2 in
      let split = map-append of ks ps in
      let value_is : v ≡ m.built o (map of ks ++ map of ps) = hv.1 ∙ ap of is.1 ∙ of_node o (ks ++ ps) ∙ ap (m.built o) split in
      let law = lawful.undone_of o (map of ks) (map of ps) is.0 h (length-map ks of ∙ n) (sym (ap length split) ∙ length-map (ks ++ ps) of ∙ is.2)
      (All-from_recursion (λ x. IsTrue (m.is_value x)) (map of ks) (list_values ks both.0)) (All-from_recursion (λ x. IsTrue (m.is_value x)) (map of ps) (list_values ps both.1)) in
      (map of ps, ap (λ k. m.undone o k v) (paired ks kv hk).1 ∙ ap (m.undone o (map of ks)) value_is ∙ law, pairs_of ps both.1)

  facts : (frame : List Tree) → AreFormed m.has (trees_of frame) → Facts m frame (map of frame) R
  unfolding R
  facts frame formed = record {
    labels = λ n t e. labels frame n t formed e;
    builds = builds;
    opens = opens;
  }

  honest_labels : (frame : List Tree) → AreFormed m.has (trees_of frame) → Agree m frame (map of frame)
  unfolding R
  honest_labels frame formed = agree_by m frame (map of frame) R (facts frame formed) (λ t b c h g. h.1 ∙ sym g.1) (length-map frame of)

  honest_value : (frame : List Tree) → AreFormed m.has (trees_of frame) → (r : RecipeTree) (t : Tree) → value (terms_over m.has) frame r ≡ Some t → value m (map of frame) r ≡ Some (of t)
  unfolding R
  honest_value frame formed r t e = let h = related m frame (map of frame) R (facts frame formed) r t e in h.1 ∙ ap Some h.2.1

pub honest_agree : {A : Type 0} (m : Meaning A) → Lawful m → HonestAgree m
honest_agree m lawful atoms frame good formed = (
  All-from_recursion (λ x. IsTrue (m.is_value x)) (map (honest m atoms) frame) (list_values m lawful atoms good frame formed),
  honest_labels m lawful atoms good frame formed,
  honest_value m lawful atoms good frame formed,
)
