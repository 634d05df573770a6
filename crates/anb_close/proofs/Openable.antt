-- Whether an entry can be opened.
use Rattle.std.proofs.Common.{◌≡◌, ℕ, ◌<◌, ◌≤◌, List, length, map, take, get_or, Bool, true, false, Option, Some, None, is_some, IsTrue, refl, sym, ap, ◌∙◌, subst, arith}
use Rattle.std.specs.Prelude.{slice_get}
use Rattle.anb_term.specs.declared.term.Op.{Op}
use Rattle.anb_term.specs.declared.term.Term.{Term}
use Rattle.anb_term.specs.declared.term.Term.TheVariants.{Atom, Node}
use Rattle.anb_term.specs.Tree.{Tree, node, Trees, trees_of, list_of}
use Rattle.anb_term.specs.TreeSame.{list_of-trees_of}
use Rattle.anb_term.specs.Operator.{keys, undoable}
use Rattle.anb_term.specs.View.{tree_of}
use Rattle.anb_term.proofs.Lists.{map-take, slice_get-map, slice_get-at}
use Rattle.anb_close.specs.Rows.{mades_for, rows_of}
use Rattle.anb_close.proofs.Rows.{row_term}
use Rattle.anb_close.specs.declared.entry.Entry.{Entry}
use Rattle.anb_close.specs.Entries.{rows, terms_of, is_double, CanOpen, Opens, NoKeys}
use Rattle.anb_close.proofs.Finding.{row_here}

module _ (es : List Entry) (fs : List ℕ) (i : ℕ) where
  pub no_double : (ds : List Bool) (b : Bool) → ds ≡ map is_double (rows es) → i < length es → b ≡ get_or ds i b → b ≡ true → NoKeys es fs i
  no_double ds b is h at e o us can =
      let r = row_here es ds i b is h in
      let own = can.own in
      let same : r.0 ≡ Some (node o us) = cc (r.1, own) in
      let d : is_double r.0 ≡ true = sym r.3 ∙ sym at ∙ e in
      let f : is_double r.0 ≡ false = ap is_double same in cc

  pub no_first : (f : ℕ) → i < length fs → f ≡ get_or fs i f → (f ≡ 0 → ⊥) → NoKeys es fs i
  no_first f h at e o us can = let a = slice_get-at fs i f h at in let c = can.closed in absurd (e (let s : f ≡ 0 = cc in s))

  module _ (x : Entry) (h : i < length es) (own : x ≡ get_or es i x) where
    own_term : (o : Op) (us : Trees) → CanOpen es fs i o us → tree_of x.term ≡ node o us
    own_term o us can =
        let a = row_term (terms_of es) i (node o us) can.own in
        let b = slice_get-map (λ (y : Entry). tree_of y.term) es i x (slice_get-at es i x h own) in cc

    pub no_atom : (n : ℕ) → x.term ≡ Atom n → NoKeys es fs i
    no_atom n is o us can = let s = own_term o us can in let t = ap tree_of is in cc

    pub own_node : (p : Op) (ts : List Tree) (o : Op) (us : Trees) → x.term ≡ Node p ts → CanOpen es fs i o us → (p ≡ o) × (trees_of ts ≡ us)
    own_node p ts o us is can = let s : node p (trees_of ts) ≡ node o us = sym (ap tree_of is) ∙ own_term o us can in (cc, cc)

    pub no_undo : (p : Op) (ts : List Tree) → x.term ≡ Node p ts → undoable p ≡ false → NoKeys es fs i
    no_undo p ts is u o us can = let s = own_node p ts o us is can in let a = ap undoable s.0 in let b = can.can in cc

    pub no_parts : (p : Op) (ts : List Tree) → x.term ≡ Node p ts → length ts ≤ keys p → NoKeys es fs i
    no_parts p ts is u o us can =
        let s = own_node p ts o us is can in
        let k = ap keys s.0 in
        let n = ap (λ l. length (list_of l)) s.1 in
        let m = ap length (list_of-trees_of ts) in
        absurd (omega (arith, can.some_part))

    pub no_keys : (p : Op) (ts : List Tree) → x.term ≡ Node p ts → mades_for (rows es) (trees_of (take (keys p) ts)) ≡ None → NoKeys es fs i
    no_keys p ts is u o us can =
        let s = own_node p ts o us is can in
        let Q : Op → Trees → Type 0 = λ q l. mades_for (rows es) (trees_of (take (keys q) (list_of l))) ≡ None in
        let v : Q p (trees_of ts) = rw list_of-trees_of u in
        subst (Q o) s.1 (subst (λ q. Q q (trees_of ts)) s.0 v)

    pub some_keys : (ds : List Bool) (b : Bool) (f : ℕ) (p : Op) (ts ks : List Tree) → ds ≡ map is_double (rows es) → b ≡ get_or ds i b → b ≡ false → i < length fs → f ≡ get_or fs i f → f ≡ 0
        → x.term ≡ Node p ts → IsTrue (undoable p) → keys p < length ts → Some (trees_of ks) ≡ mades_for (rows es) (trees_of (take (keys p) ts)) → Opens es fs i ks
    some_keys ds b f p ts ks is at e hf first zero_is node_is u n made =
        let r = row_here es ds i b is h in
        let row : r.0 ≡ Some (node p (trees_of ts)) = r.4 x own (sym r.3 ∙ sym at ∙ e) ∙ ap (λ t. Some (tree_of t)) node_is in
        record {
          op = p;
          operands = trees_of ts;
          able = record {
            own = r.1 ∙ ap Some row;
            can = u;
            some_part = omega (arith, ap length (list_of-trees_of ts));
            closed = slice_get-at fs i f hf first ∙ ap Some zero_is;
          };
          made = rw list_of-trees_of (sym made);
        }

pub keys_are : (rs : List (Option Tree)) (s : List Term) (ts : List Tree) (k n : ℕ) (o : Option Trees) → o ≡ mades_for rs (trees_of (map tree_of (take k s))) → map tree_of s ≡ ts → k ≡ n → o ≡ mades_for rs (trees_of (take n ts))
keys_are rs s ts k n o e is same = e ∙ ap (λ l. mades_for rs (trees_of l)) (map-take tree_of k s ∙ ap (take k) is ∙ ap (λ m. take m ts) same)

-- whether the index says that the keys compose
pub index_says : (es : List Entry) (ix : List Tree) (i : ℕ) (x : Entry) (p : Op) (ts : List Tree) (n : ℕ) (b : Bool) → ix ≡ terms_of es → i < length es → x ≡ get_or es i x → x.term ≡ Node p ts → n ≡ keys p
    → ((o : Op) (us : Trees) → slice_get ix i ≡ Some (node o us) → b ≡ is_some (mades_for (rows_of ix) (trees_of (take n (list_of us))))) → b ≡ is_some (mades_for (rows es) (trees_of (take (keys p) ts)))
index_says es ix i x p ts n b is h own is_node is_keys says =
    let here : slice_get ix i ≡ Some (node p (trees_of ts)) = ap (λ l. slice_get l i) is ∙ slice_get-map (λ (y : Entry). tree_of y.term) es i x (slice_get-at es i x h own) ∙ ap (λ y. Some (tree_of y)) is_node in
    says p (trees_of ts) here ∙ ap (λ l. is_some (mades_for (rows_of l) (trees_of (take n (list_of (trees_of ts)))))) is ∙ ap (λ l. is_some (mades_for (rows es) (trees_of (take n l)))) (list_of-trees_of ts) ∙ ap (λ m. is_some (mades_for (rows es) (trees_of (take m ts)))) is_keys

pub not_some : {A : Type 0} (o : Option A) (b : Bool) → b ≡ is_some o → b ≡ false → o ≡ None
not_some None b e f = refl
not_some (Some x) b e f = cc
