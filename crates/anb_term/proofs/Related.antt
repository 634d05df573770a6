-- Three facts on a relation of terms and values, by which each recipe with a term has a related value.
use Rattle.std.proofs.Common.{◌≡◌, ℕ, zero, suc, List, [], ◌∷◌, length, true, Some, refl, sym, ap, ◌∙◌, subst}
use Rattle.std.specs.Prelude.{slice_get, option_and_then, ◌==◌}
use Rattle.std.proofs.lemmas.Bool.{eqb-true}
use Rattle.anb_term.specs.declared.term.Op.{Op}
use Rattle.anb_term.specs.Operator.{arity, keys}
use Rattle.anb_term.specs.Tree.{Tree, node, trees_of}
use Rattle.anb_term.specs.Value.{Meaning, RecipeTree, label, build, part, RecipeTrees, no_recipes, more_recipes, value, values, build_if, part_if}
use Rattle.anb_term.specs.FreeAlgebra.{parts_of, terms_over}
use Rattle.anb_term.specs.Agree.{Agree}
use Rattle.anb_term.proofs.Steps.{guarded, bound, consed, build_is, part_is}

module _ {A : Type 0} (R : Tree → A → Type 0) where
  abbrev pub Pairs : List Tree → List A → Type 0
  Pairs [] [] = Unit {0}
  Pairs [] (b ∷ bs) = ⊥
  Pairs (t ∷ ts) [] = ⊥
  Pairs (t ∷ ts) (b ∷ bs) = R t b × Pairs ts bs

  pub pairs_length : (ts : List Tree) (bs : List A) → Pairs ts bs → length bs ≡ length ts
  pairs_length [] [] h = refl
  pairs_length [] (b ∷ bs) h = absurd h
  pairs_length (t ∷ ts) [] h = absurd h
  pairs_length (t ∷ ts) (b ∷ bs) h = ap suc (pairs_length ts bs h.1)

  pub pair_at : (ts : List Tree) (bs : List A) (j : ℕ) (t : Tree) → Pairs ts bs → slice_get ts j ≡ Some t → (b : A) × (slice_get bs j ≡ Some b) × R t b
  pair_at [] bs j t h e = cc
  pair_at (u ∷ ts) [] j t h e = absurd h
  pair_at (u ∷ ts) (b ∷ bs) zero t h e = let s : u ≡ t = cc in (b, refl, subst (λ v. R v b) s h.0)
  pair_at (u ∷ ts) (b ∷ bs) (suc j) t h e = pair_at ts bs j t h.1 e

-- each label is related; an operator of related operands is; and undoing a term by keys gives related parts
pub record Facts {A : Type 0} (m : Meaning A) (frame : List Tree) (vs : List A) (R : Tree → A → Type 0) : Type 0 where
  pub labels : (n : ℕ) (t : Tree) → slice_get frame n ≡ Some t → (b : A) × (slice_get vs n ≡ Some b) × R t b
  pub builds : (o : Op) (ts : List Tree) (bs : List A) → m.has o ≡ true → length ts ≡ arity o → Pairs R ts bs → R (node o (trees_of ts)) (m.built o bs)
  pub opens : (o : Op) (ks ps : List Tree) (t : Tree) (kv : List A) (v : A) → m.has o ≡ true → length ks ≡ keys o → Pairs R ks kv → R t v → parts_of o ks t ≡ Some ps
      → (qs : List A) × (m.undone o kv v ≡ Some qs) × Pairs R ps qs

module _ {A : Type 0} (m : Meaning A) (frame : List Tree) (vs : List A) (R : Tree → A → Type 0) (facts : Facts m frame vs R) where
  built : (o : Op) (ts : List Tree) (bs : List A) (t : Tree) → Pairs R ts bs → build_if (terms_over m.has) o ts ≡ Some t → (b : A) × (build_if m o bs ≡ Some b) × R t b
  built o ts bs t h e =
      let g = guarded (m.has o) (length ts == arity o) (Some (node o (trees_of ts))) t e in
      let n : length ts ≡ arity o = eqb-true _ _ g.1 in
      let same : node o (trees_of ts) ≡ t = cc in
      (m.built o bs, build_is m o bs g.0 (pairs_length R ts bs h ∙ n), subst (λ u. R u (m.built o bs)) same (facts.builds o ts bs g.0 n h))

  opened : (o : Op) (j : ℕ) (ks : List Tree) (kv : List A) (u t : Tree) (v : A) → Pairs R ks kv → R u v → part_if (terms_over m.has) o j ks u ≡ Some t → (b : A) × (part_if m o j kv v ≡ Some b) × R t b
  opened o j ks kv u t v hk hv e =
      let g = guarded (m.has o) (length ks == keys o) (option_and_then (λ ps. slice_get ps j) (parts_of o ks u)) t e in
      let n : length ks ≡ keys o = eqb-true _ _ g.1 in
      let ps = bound (λ ps. slice_get ps j) (parts_of o ks u) t g.2 in
      let q = facts.opens o ks ps.0 u kv v g.0 n hk hv ps.1 in
      let at = pair_at R ps.0 q.0 j t q.2 ps.2 in
      (at.0, part_is m o j kv q.0 v at.0 g.0 (pairs_length R ks kv hk ∙ n) q.1 at.1, at.2)

  mutual
    pub related : (r : RecipeTree) (t : Tree) → value (terms_over m.has) frame r ≡ Some t → (b : A) × (value m vs r ≡ Some b) × R t b
    related (label n) t e = facts.labels n t e
    related (build o rs) t e =
        let b = bound (build_if (terms_over m.has) o) (values (terms_over m.has) frame rs) t e in
        let h = all_related rs b.0 b.1 in
        let c = built o b.0 h.0 t h.2 b.2 in
        (c.0, rw h.1 c.1, c.2)
    related (part o j ks r) t e =
        let a = bound (λ kv. option_and_then (part_if (terms_over m.has) o j kv) (value (terms_over m.has) frame r)) (values (terms_over m.has) frame ks) t e in
        let b = bound (part_if (terms_over m.has) o j a.0) (value (terms_over m.has) frame r) t a.2 in
        let hk = all_related ks a.0 a.1 in
        let hr = related r b.0 b.1 in
        let c = opened o j a.0 hk.0 b.0 t hr.0 hk.2 hr.2 b.2 in
        (c.0, rw (hk.1, hr.1) c.1, c.2)

    pub all_related : (rs : RecipeTrees) (ts : List Tree) → values (terms_over m.has) frame rs ≡ Some ts → (bs : List A) × (values m vs rs ≡ Some bs) × Pairs R ts bs
    all_related no_recipes ts e = let s : [] ≡ ts = cc in ([], refl, subst (λ us. Pairs R us []) s tt)
    all_related (more_recipes r rs) ts e =
        let c = consed (value (terms_over m.has) frame r) (values (terms_over m.has) frame rs) ts e in
        let h = related r c.0 c.2 in
        let hs = all_related rs c.1 c.3 in
        (h.0 ∷ hs.0, rw (h.1, hs.1), subst (λ us. Pairs R us (h.0 ∷ hs.0)) (sym c.4) (h.2, hs.2))

  pub agree_by : ((t : Tree) (b c : A) → R t b → R t c → b ≡ c) → length vs ≡ length frame → Agree m frame vs
  agree_by one long = record {
    long = long;
    one = λ r s t er es.
        let x = related r t er in
        let y = related s t es in
        (x.0, x.1, y.1 ∙ ap Some (one t y.0 x.0 y.2 x.2));
  }
