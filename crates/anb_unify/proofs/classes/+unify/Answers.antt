-- The classes of two terms and of their operands, by what is narrated of both.
use Rattle.std.proofs.Common.{◌≡◌, ℕ, zero, suc, ◌<◌, List, [], ◌∷◌, length, map, get_or, false, Some, refl, sym, ap, ◌∙◌, subst, arith}
use Rattle.std.specs.Prelude.{slice_get}
use Rattle.std.proofs.lemmas.List.{length-map}
use Rattle.anb_lemmas.proofs.Lists.{item_at}
use Rattle.anb_term.specs.declared.term.Term.{Term}
use Rattle.anb_term.specs.Tree.{Tree, leaf, node, trees_of, list_of, tree_size, trees_size}
use Rattle.anb_term.specs.TreeSame.{list_of-trees_of}
use Rattle.anb_term.specs.View.{tree_of}
use Rattle.anb_term.proofs.Lists.{one_size, slice_get-map}
use Rattle.anb_intern.specs.declared.node.NodeId.{NodeId}
use Rattle.anb_intern.specs.Nodes.{operands_at, AreUnder, IsOver}
use Rattle.anb_intern.proofs.Nodes.{under_more}
use Rattle.anb_unify.specs.Substitutions.{put_in, KeepsNames}
use Rattle.anb_unify.specs.Classes.{is_variable, AreLike}
use Rattle.anb_unify.proofs.Unifying.{same_root, two_roots, narrated_root, narrated_other, narrated_same, respects_linked, leaf_like, like_leaf, like_named, one_operator, same_operands, nodes_like, pair_same, taken_more, narrated_at, under_at, operands_long}
use Rattle.anb_unify.proofs.classes.+unify.Goals as goal
use Rattle.anb_unify.proofs.classes.+unify.Goals.{unify-In_default, unify-In_default-get, unify-In_default-narrated, unify-After-as_slice, unify_all-In-loop-i}

got : {A : Type 0} (xs : List A) (i : ℕ) (d : A) → i < length xs → slice_get xs i ≡ Some (get_or xs i d)
got [] i d h = absurd (omega arith)
got (x ∷ xs) zero d h = refl
got (x ∷ xs) (suc i) d h = got xs i d (omega arith)

pub unify-returns-then-a-b-clause-one : goal.unify-returns-then-a-b-clause-one
unify-returns-then-a-b-clause-one t c =
    same_root c.args.names c.args.pool.now c.args.parents.now.items c.find-a.new.parents.items c.find-b.new.parents.items c.args.one.0 c.args.other.0 c.find-a.result c.find-b.result
    c.find-a.ensures.stay c.find-b.ensures.stay c.find-a.ensures.same c.find-b.ensures.same c.find-a.ensures.here c.find-b.ensures.here c.if-a-b.true

-- where one of two roots is an atom
module _ (names : ℕ) (put : ℕ → Tree) (keeps : KeepsNames names put) (f : Tree → Tree) (x y : Tree) (n : ℕ) (t : Tree) where
  first_leaf : x ≡ leaf n → put_in put x ≡ t → put_in put y ≡ t → is_variable names x ≡ false → is_variable names y ≡ false → AreLike f x y
  first_leaf e a b p q = subst (λ z. AreLike f z y) (sym e) (leaf_like names put keeps f n y t (ap (put_in put) (sym e) ∙ a) b (ap (is_variable names) (sym e) ∙ p) q)

  second_leaf : y ≡ leaf n → put_in put x ≡ t → put_in put y ≡ t → is_variable names x ≡ false → is_variable names y ≡ false → AreLike f x y
  second_leaf e a b p q = subst (AreLike f x) (sym e) (like_leaf names put keeps f x n t a (ap (put_in put) (sym e) ∙ b) p (ap (is_variable names) (sym e) ∙ q))

pub unify-returns-in_default-clause-one : goal.unify-returns-in_default-clause-one
unify-returns-in_default-clause-one t c =
    let ts = c.args.pool.now in
    let p = c.requires.narrated in
    let ra = narrated_root c.args.names ts c.args.parents.now.items c.find-a.new.parents.items c.find-b.new.parents.items c.args.one.0 c.args.other.0 c.find-a.result c.find-b.result
    c.find-a.ensures.stay c.find-b.ensures.stay c.find-a.ensures.same c.find-b.ensures.same c.find-a.ensures.here c.find-b.ensures.here p.put (tree_of c.args.narrated.now) c.requires.one_within p.respects p.one_is in
    let rb = narrated_other c.args.names ts c.args.parents.now.items c.find-a.new.parents.items c.find-b.new.parents.items c.args.one.0 c.args.other.0 c.find-a.result c.find-b.result
    c.find-a.ensures.stay c.find-b.ensures.stay c.find-a.ensures.same c.find-b.ensures.same c.find-a.ensures.here c.find-b.ensures.here p.put (tree_of c.args.narrated.now) c.requires.other_within p.respects p.other_is in
    two_roots c.args.names ts c.args.parents.now.items c.find-a.new.parents.items c.find-b.new.parents.items c.args.one.0 c.args.other.0 c.find-a.result c.find-b.result
    c.find-a.ensures.stay c.find-b.ensures.stay c.find-a.ensures.same c.find-b.ensures.same c.find-a.ensures.here c.find-b.ensures.here c.link.new.parents.items c.link.new.parents.items c.requires.one_within c.requires.other_within c.link.ensures.linked
    (λ f h. h) (λ f h k. k) (λ put h s. h)
    (λ f h x y ax by px py.
    let na = rw c.in_default.is at c.get.ensures.stands in
    let sx : x ≡ leaf c.in_default.field-0 = (let q = na in cc) in
    first_leaf c.args.names p.put p.keeps f x y c.in_default.field-0 (tree_of c.args.narrated.now) sx (ra x ax) (rb y by) px py)

pub unify-returns-in_default-get-clause-one : goal.unify-returns-in_default-get-clause-one
unify-returns-in_default-get-clause-one t c =
    let ts = c.args.pool.now in
    let p = c.requires.narrated in
    let ra = narrated_root c.args.names ts c.args.parents.now.items c.find-a.new.parents.items c.find-b.new.parents.items c.args.one.0 c.args.other.0 c.find-a.result c.find-b.result
    c.find-a.ensures.stay c.find-b.ensures.stay c.find-a.ensures.same c.find-b.ensures.same c.find-a.ensures.here c.find-b.ensures.here p.put (tree_of c.args.narrated.now) c.requires.one_within p.respects p.one_is in
    let rb = narrated_other c.args.names ts c.args.parents.now.items c.find-a.new.parents.items c.find-b.new.parents.items c.args.one.0 c.args.other.0 c.find-a.result c.find-b.result
    c.find-a.ensures.stay c.find-b.ensures.stay c.find-a.ensures.same c.find-b.ensures.same c.find-a.ensures.here c.find-b.ensures.here p.put (tree_of c.args.narrated.now) c.requires.other_within p.respects p.other_is in
    two_roots c.args.names ts c.args.parents.now.items c.find-a.new.parents.items c.find-b.new.parents.items c.args.one.0 c.args.other.0 c.find-a.result c.find-b.result
    c.find-a.ensures.stay c.find-b.ensures.stay c.find-a.ensures.same c.find-b.ensures.same c.find-a.ensures.here c.find-b.ensures.here c.link.new.parents.items c.link.new.parents.items c.requires.one_within c.requires.other_within c.link.ensures.linked
    (λ f h. h) (λ f h k. k) (λ put h s. h)
    (λ f h x y ax by px py.
    let nb = rw c.in_default-get.is at c.get-2.ensures.stands in
    let sy : y ≡ leaf c.in_default-get.field-0 = (let q = nb in cc) in
    second_leaf c.args.names p.put p.keeps f x y c.in_default-get.field-0 (tree_of c.args.narrated.now) sy (ra x ax) (rb y by) px py)

pub unify-returns-in_default-narrated-clause-one : goal.unify-returns-in_default-narrated-clause-one
unify-returns-in_default-narrated-clause-one t c =
    let ts = c.args.pool.now in
    let p = c.requires.narrated in
    let ra = narrated_root c.args.names ts c.args.parents.now.items c.find-a.new.parents.items c.find-b.new.parents.items c.args.one.0 c.args.other.0 c.find-a.result c.find-b.result
    c.find-a.ensures.stay c.find-b.ensures.stay c.find-a.ensures.same c.find-b.ensures.same c.find-a.ensures.here c.find-b.ensures.here p.put (tree_of c.args.narrated.now) c.requires.one_within p.respects p.one_is in
    let rb = narrated_other c.args.names ts c.args.parents.now.items c.find-a.new.parents.items c.find-b.new.parents.items c.args.one.0 c.args.other.0 c.find-a.result c.find-b.result
    c.find-a.ensures.stay c.find-b.ensures.stay c.find-a.ensures.same c.find-b.ensures.same c.find-a.ensures.here c.find-b.ensures.here p.put (tree_of c.args.narrated.now) c.requires.other_within p.respects p.other_is in
    two_roots c.args.names ts c.args.parents.now.items c.find-a.new.parents.items c.find-b.new.parents.items c.args.one.0 c.args.other.0 c.find-a.result c.find-b.result
    c.find-a.ensures.stay c.find-b.ensures.stay c.find-a.ensures.same c.find-b.ensures.same c.find-a.ensures.here c.find-b.ensures.here c.link.new.parents.items c.link.new.parents.items c.requires.one_within c.requires.other_within c.link.ensures.linked
    (λ f h. h) (λ f h k. k) (λ put h s. h)
    (λ f h x y ax by px py.
    let nt : tree_of c.args.narrated.now ≡ leaf c.in_default-narrated.field-0 = ap tree_of c.in_default-narrated.is in
    like_named c.args.names p.put p.keeps f x y c.in_default-narrated.field-0 (ra x ax ∙ nt) (rb y by ∙ nt) px py)

-- the narrated operands, and those of the two roots
pub unify-unify_all-requires : goal.unify-unify_all-requires
unify-unify_all-requires t c =
    let ts = c.args.pool.now in
    let p = c.requires.narrated in
    let ra = narrated_root c.args.names ts c.args.parents.now.items c.find-a.new.parents.items c.find-b.new.parents.items c.args.one.0 c.args.other.0 c.find-a.result c.find-b.result
    c.find-a.ensures.stay c.find-b.ensures.stay c.find-a.ensures.same c.find-b.ensures.same c.find-a.ensures.here c.find-b.ensures.here p.put (tree_of c.args.narrated.now) c.requires.one_within p.respects p.one_is in
    let rb = narrated_other c.args.names ts c.args.parents.now.items c.find-a.new.parents.items c.find-b.new.parents.items c.args.one.0 c.args.other.0 c.find-a.result c.find-b.result
    c.find-a.ensures.stay c.find-b.ensures.stay c.find-a.ensures.same c.find-b.ensures.same c.find-a.ensures.here c.find-b.ensures.here p.put (tree_of c.args.narrated.now) c.requires.other_within p.respects p.other_is in
    let na = rw c.in-Apply.is at c.get.ensures.stands in
    let nb = rw c.in-Apply-get.is at c.get-2.ensures.stands in
    let nt : tree_of c.args.narrated.now ≡ node c.in-Node.field-0 (trees_of c.in-Node.terms) = ap tree_of c.in-Node.is in
    let size : tree_size (tree_of c.args.narrated.now) ≡ suc (trees_size (trees_of (map tree_of c.as_slice.result.now))) = ap tree_size nt ∙ ap (λ l. suc (trees_size (trees_of l))) (sym c.as_slice.ensures) in
    let ops = one_operator p.put c.in-Apply.field-0 c.in-Apply-get.field-0 c.in-Node.field-0 (operands_at ts c.in-Apply.ones.items) (operands_at ts c.in-Apply-get.others.items) (trees_of c.in-Node.terms) (ra _ na ∙ nt) (rb _ nb ∙ nt) in
    let is : list_of (trees_of c.in-Node.terms) ≡ map tree_of c.as_slice.result.now = list_of-trees_of c.in-Node.terms ∙ sym c.as_slice.ensures in
    let oa = subst (λ k. IsOver c.find-a.result.0 k) c.in-Apply.is c.get.ensures.before in
    let ob = subst (λ k. IsOver c.find-b.result.0 k) c.in-Apply-get.is c.get-2.ensures.before in (
      omega (arith, size, c.decreases),
      (
        subst (AreUnder (length ts)) (sym c.deref.ensures.value) (under_more c.find-a.result.0 (length ts) c.in-Apply.ones.items (omega (arith, c.find-a.ensures.here)) oa),
        (
          subst (AreUnder (length ts)) (sym c.deref-2.ensures.value) (under_more c.find-b.result.0 (length ts) c.in-Apply-get.others.items (omega (arith, c.find-b.ensures.here)) ob),
          (
            c.link.ensures.classes,
            record {
              put = p.put;
              keeps = p.keeps;
              respects = respects_linked c.args.names ts c.args.parents.now.items c.find-a.new.parents.items c.find-b.new.parents.items c.args.one.0 c.args.other.0 c.find-a.result c.find-b.result
                  c.find-a.ensures.stay c.find-b.ensures.stay c.find-a.ensures.same c.find-b.ensures.same c.find-a.ensures.here c.find-b.ensures.here c.link.new.parents.items p.put c.requires.one_within c.requires.other_within c.link.ensures.linked p.respects
                  (narrated_same ts p.put c.args.one.0 c.args.other.0 (tree_of c.args.narrated.now) p.one_is p.other_is);
              ones_are = ap (λ l. map (put_in p.put) (operands_at ts l)) c.deref.ensures.value ∙ ops.1 ∙ is;
              others_are = ap (λ l. map (put_in p.put) (operands_at ts l)) c.deref-2.ensures.value ∙ ops.2 ∙ is;
            },
          ),
        ),
      ),
    )

pub unify-returns-clause-one : goal.unify-returns-clause-one
unify-returns-clause-one t c =
    let ts = c.args.pool.now in
    let p = c.requires.narrated in
    let all = c.unify_all.ensures.all in
    let ra = narrated_root c.args.names ts c.args.parents.now.items c.find-a.new.parents.items c.find-b.new.parents.items c.args.one.0 c.args.other.0 c.find-a.result c.find-b.result
    c.find-a.ensures.stay c.find-b.ensures.stay c.find-a.ensures.same c.find-b.ensures.same c.find-a.ensures.here c.find-b.ensures.here p.put (tree_of c.args.narrated.now) c.requires.one_within p.respects p.one_is in
    let rb = narrated_other c.args.names ts c.args.parents.now.items c.find-a.new.parents.items c.find-b.new.parents.items c.args.one.0 c.args.other.0 c.find-a.result c.find-b.result
    c.find-a.ensures.stay c.find-b.ensures.stay c.find-a.ensures.same c.find-b.ensures.same c.find-a.ensures.here c.find-b.ensures.here p.put (tree_of c.args.narrated.now) c.requires.other_within p.respects p.other_is in
    let na = rw c.in-Apply.is at c.get.ensures.stands in
    let nb = rw c.in-Apply-get.is at c.get-2.ensures.stands in
    let nt : tree_of c.args.narrated.now ≡ node c.in-Node.field-0 (trees_of c.in-Node.terms) = ap tree_of c.in-Node.is in
    let us = operands_at ts c.in-Apply.ones.items in
    let vs = operands_at ts c.in-Apply-get.others.items in
    let ops = one_operator p.put c.in-Apply.field-0 c.in-Apply-get.field-0 c.in-Node.field-0 us vs (trees_of c.in-Node.terms) (ra _ na ∙ nt) (rb _ nb ∙ nt) in
    let xs : operands_at ts c.deref.result.now ≡ us = ap (operands_at ts) c.deref.ensures.value in
    let ys : operands_at ts c.deref-2.result.now ≡ vs = ap (operands_at ts) c.deref-2.ensures.value in
    two_roots c.args.names ts c.args.parents.now.items c.find-a.new.parents.items c.find-b.new.parents.items c.args.one.0 c.args.other.0 c.find-a.result c.find-b.result
    c.find-a.ensures.stay c.find-b.ensures.stay c.find-a.ensures.same c.find-b.ensures.same c.find-a.ensures.here c.find-b.ensures.here c.link.new.parents.items c.unify_all.new.parents.items c.requires.one_within c.requires.other_within c.link.ensures.linked
    all.back all.closed
    (λ put h s.
    let same = s (node c.in-Apply.field-0 (trees_of us)) (node c.in-Apply-get.field-0 (trees_of vs)) na nb in
    let ms = same_operands put c.in-Apply.field-0 c.in-Apply-get.field-0 us vs same in
    all.general put h (ap (map (put_in put)) xs ∙ ms ∙ ap (map (put_in put)) (sym ys)))
    (λ f h x y ax by px py.
    let sx : node c.in-Apply.field-0 (trees_of us) ≡ x = (let q = na in cc) in
    let sy : node c.in-Apply-get.field-0 (trees_of vs) ≡ y = (let q = nb in cc) in
    let ms : map f us ≡ map f vs = ap (map f) (sym xs) ∙ all.same f h ∙ ap (map f) ys in
    subst (λ z. AreLike f z y) sx (subst (AreLike f (node c.in-Apply.field-0 (trees_of us))) sy (nodes_like f c.in-Apply.field-0 c.in-Apply-get.field-0 us vs ops.0 ms)))

pub unify_all-bounds-ones-i : goal.unify_all-bounds-ones-i
unify_all-bounds-ones-i t c =
    let l = ap length c.requires.narrated.ones_are in
    omega (arith, l, length-map (operands_at c.args.pool.now c.args.ones.now) (put_in c.requires.narrated.put), operands_long c.args.pool.now c.args.ones.now, length-map c.args.narrated.now tree_of)

pub unify_all-bounds-others-i : goal.unify_all-bounds-others-i
unify_all-bounds-others-i t c =
    let l = ap length c.requires.narrated.others_are in
    omega (arith, l, length-map (operands_at c.args.pool.now c.args.others.now) (put_in c.requires.narrated.put), operands_long c.args.pool.now c.args.others.now, length-map c.args.narrated.now tree_of)

ones_many : (ts : List Tree) (put : ℕ → Tree) (ids : List NodeId) (narrated : List Term) (i : ℕ) → map (put_in put) (operands_at ts ids) ≡ map tree_of narrated → i < length narrated → i < length ids
ones_many ts put ids narrated i e h = omega (arith, ap length e, length-map (operands_at ts ids) (put_in put), operands_long ts ids, length-map narrated tree_of)

pub unify_all-unify-requires : goal.unify_all-unify-requires
unify_all-unify-requires t c =
    let ts = c.args.pool.now in
    let p = c.requires.narrated in
    let i = c.loop-i.i in
    let within : i < length c.args.narrated.now = omega arith in
    let one = one_size c.args.narrated.now i c.index-narrated-i.result within c.index-narrated-i.is in
    let a = got c.args.ones.now i (record { 0 = 0 }) (ones_many ts p.put c.args.ones.now c.args.narrated.now i p.ones_are within) in
    let b = got c.args.others.now i (record { 0 = 0 }) (ones_many ts p.put c.args.others.now c.args.narrated.now i p.others_are within) in
    let n = slice_get-map tree_of c.args.narrated.now i c.index-narrated-i.result (item_at c.args.narrated.now i c.index-narrated-i.result within c.index-narrated-i.is) in (
      omega (arith, one, c.decreases),
      (
        under_at (length ts) c.args.ones.now i _ c.requires.ones_within a,
        (
          under_at (length ts) c.args.others.now i _ c.requires.others_within b,
          (
            c.loop-i.invariant.classes,
            record {
              put = p.put;
              keeps = p.keeps;
              respects = c.loop-i.invariant.general p.put p.respects (p.ones_are ∙ sym p.others_are);
              one_is = narrated_at ts p.put c.args.ones.now i _ (map tree_of c.args.narrated.now) (tree_of c.index-narrated-i.result) p.ones_are a n;
              other_is = narrated_at ts p.put c.args.others.now i _ (map tree_of c.args.narrated.now) (tree_of c.index-narrated-i.result) p.others_are b n;
            },
          ),
        ),
      ),
    )

pub unify_all-loop-i-preserved : goal.unify_all-loop-i-preserved
unify_all-loop-i-preserved t c =
    let ts = c.args.pool.now in
    let p = c.requires.narrated in
    let i = c.loop-i.i in
    let within : i < length c.args.narrated.now = omega arith in
    let before = c.loop-i.invariant in
    let one = c.unify.ensures.one in
    let x : NodeId = get_or c.args.ones.now i (record { 0 = 0 }) in
    let y : NodeId = get_or c.args.others.now i (record { 0 = 0 }) in
    let a = got c.args.ones.now i (record { 0 = 0 }) (ones_many ts p.put c.args.ones.now c.args.narrated.now i p.ones_are within) in
    let b = got c.args.others.now i (record { 0 = 0 }) (ones_many ts p.put c.args.others.now c.args.narrated.now i p.others_are within) in
    let xin = under_at (length ts) c.args.ones.now i x c.requires.ones_within a in
    let yin = under_at (length ts) c.args.others.now i y c.requires.others_within b in
    record {
      classes = c.unify.ensures.classes;
      back = λ f h. before.back f (one.back f h);
      same = λ f h. taken_more c.args.names ts c.args.ones.now c.args.others.now i x y a b xin yin f (one.same f h) (before.same f (one.back f h));
      closed = λ f h k. one.closed f h (before.closed f (one.back f h) k);
      general = λ put h s. one.general put (before.general put h s) (pair_same c.args.names ts c.args.ones.now c.args.others.now i x y a b xin yin (put_in put) s);
    }
