-- How entries grow.
use Rattle.std.proofs.Common.{◌≡◌, ℕ, zero, suc, ◌+◌, ◌-◌, ◌<◌, ◌≤◌, List, [], ◌∷◌, ◌++◌, length, map, take, drop, get_or, Bool, true, false, cond, IsTrue, Option, Some, None, refl, sym, ap, ◌∙◌, subst, arith, append_assoc, length-append, length-drop, length-take-le, take-append-drop, inl, inr, ◌⊎◌, ⊎_elim}
use Rattle.std.specs.Prelude.{slice_get}
use Rattle.std.specs.List.{AllByRecursion}
use Rattle.std.proofs.Math.ListN.{set, length-set}
use Rattle.std.proofs.Math.Dec.{ltb}
use Rattle.std.proofs.Math.Seq.{take-append_seam}
use Rattle.std.proofs.lemmas.Bool.{le-ltb, lt-ltb}
use Rattle.std.proofs.lemmas.List.{length-map, append-nil, take_all, drop_more}
use Rattle.anb_lemmas.proofs.Each.{each_in_both}
use Rattle.anb_lemmas.proofs.Lists.{got_within}
use Rattle.anb_term.specs.declared.term.Op.{Op}
use Rattle.anb_term.specs.declared.term.Term.{Term}
use Rattle.anb_term.specs.Tree.{Tree, node, Trees, none, more, trees_of, list_of, tree_size, trees_size, IsFormed, AreFormed, nodes}
use Rattle.anb_term.specs.View.{term_of, tree_of}
use Rattle.anb_term.specs.TreeSame.{tree_of-term_of, list_of-trees_of}
use Rattle.anb_term.specs.Operator.{keys, undoable, arity}
use Rattle.anb_close.specs.Rows.{made_for, mades_for, rows_from, row_unless}
use Rattle.anb_close.proofs.Rows.{mades_later, row_term}
use Rattle.anb_close.specs.declared.entry.Entry.{Entry}
use Rattle.anb_close.specs.declared.entry.Origin.TheVariants.{Label, Part}
use Rattle.anb_close.specs.Entries.{rows, terms_of, labels_of, is_label, is_double, OriginFits, Follow, part_entries, IsOpened, IsPartOf, IsPart, weight, load, IsGrown, CanOpen, keys_for, Opens, unopened, Extends, cut_first, cut, GoesBack, Keeps, HasOpened, HasAdded}
use Rattle.anb_term.specs.declared.term.Term.TheVariants.{Node}
use Rattle.anb_term.proofs.Lists.{map-append, slice_get-at, map-take, set-at, set-other, set-same, slice_get-append, slice_get-last, take-front, size_some, formed_items}
use Rattle.anb_close.proofs.Finding.{rows_append, rows_length}
use Rattle.anb_close.proofs.Openable.{own_node}

pub terms_append : (xs ys : List Entry) → terms_of (xs ++ ys) ≡ terms_of xs ++ terms_of ys
terms_append xs ys = map-append (λ (e : Entry). tree_of e.term) xs ys

cond_append : (b : Bool) (t : Tree) (l m : List Tree) → cond b (t ∷ l) l ++ m ≡ cond b (t ∷ (l ++ m)) (l ++ m)
cond_append true t l m = refl
cond_append false t l m = refl

pub labels_append : (xs ys : List Entry) → labels_of (xs ++ ys) ≡ labels_of xs ++ labels_of ys
labels_append [] ys = refl
labels_append (x ∷ xs) ys = ap (λ l. cond (is_label x.origin) (tree_of x.term ∷ l) l) (labels_append xs ys) ∙ sym (cond_append (is_label x.origin) (tree_of x.term) (labels_of xs) (labels_of ys))

pub no_labels : (xs : List Entry) → AllByRecursion IsPart xs → labels_of xs ≡ []
no_labels [] h = refl
no_labels (x ∷ xs) h = rw (h.0, no_labels xs h.1)

pub are_parts : (o : Op) (ks : List Tree) (i j : ℕ) (ps : List Tree) → AllByRecursion IsPart (part_entries o ks i j ps)
are_parts o ks i j [] = tt
are_parts o ks i j (p ∷ ps) = (refl, are_parts o ks i (j + 1) ps)

pub parts_terms : (o : Op) (ks : List Tree) (i j : ℕ) (ps : List Tree) → terms_of (part_entries o ks i j ps) ≡ ps
parts_terms o ks i j [] = refl
parts_terms o ks i j (p ∷ ps) = cc (tree_of-term_of p, parts_terms o ks i (j + 1) ps)

-- each follows
pub follow_append : (before xs ys : List Entry) → Follow before xs → Follow (before ++ xs) ys → Follow before (xs ++ ys)
follow_append before [] ys a b = subst (λ l. Follow l ys) (append-nil before) b
follow_append before (x ∷ xs) ys a b = (a.0, follow_append (before ++ x ∷ []) xs ys a.1 (subst (λ l. Follow l ys) (sym (append_assoc before (x ∷ []) xs)) b))

pub keys_later : (es later : List Entry) (o : Op) (us ks : Trees) → keys_for es o us ≡ Some ks → keys_for (es ++ later) o us ≡ Some ks
keys_later es later o us ks e = ap (λ rs. mades_for rs (trees_of (take (keys o) (list_of us)))) (rows_append es later) ∙ mades_later (rows es) (terms_of later) (trees_of (take (keys o) (list_of us))) ks e

pub terms_later : (es later : List Entry) (i : ℕ) (t : Tree) → slice_get (terms_of es) i ≡ Some t → slice_get (terms_of (es ++ later)) i ≡ Some t
terms_later es later i t e = rw terms_append (slice_get-append (terms_of es) (terms_of later) i t e)

pub parts_follow : (o : Op) (ks : List Tree) (i : ℕ) (us : Trees) → IsTrue (undoable o) → (before : List Entry) (j : ℕ) (ps : List Tree) → slice_get (terms_of before) i ≡ Some (node o us) → keys_for before o us ≡ Some (trees_of ks)
    → ((k : ℕ) (t : Tree) → slice_get ps k ≡ Some t → slice_get (drop (keys o) (list_of us)) (j + k) ≡ Some t) → Follow before (part_entries o ks i j ps)
parts_follow o ks i us can before j [] at made all = tt
parts_follow o ks i us can before j (p ∷ ps) at made all =
    let e : Entry = record { origin = Part o j ks i; term = term_of p } in
    let parts = drop (keys o) (list_of us) in
    let z : j + 0 ≡ j = omega arith in
    let here : slice_get parts j ≡ Some (tree_of (term_of p)) = subst (λ n. slice_get parts n ≡ Some p) z (all 0 p refl) ∙ ap Some (sym (tree_of-term_of p)) in (
      (us, at, can, made, here),
      parts_follow o ks i us can (before ++ e ∷ []) (j + 1) ps (terms_later before (e ∷ []) i (node o us) at) (keys_later before (e ∷ []) o us (trees_of ks) made)
          (λ k t h. let n : j + suc k ≡ j + 1 + k = omega arith in subst (λ n. slice_get parts n ≡ Some t) n (all (suc k) t h)),
    )

-- formed terms
pub formed_append : (has : Op → Bool) (xs ys : List Tree) → AreFormed has (trees_of xs) → AreFormed has (trees_of ys) → AreFormed has (trees_of (xs ++ ys))
formed_append has [] ys a b = b
formed_append has (x ∷ xs) ys a b = (a.0, formed_append has xs ys a.1 b)

pub formed_front : (has : Op → Bool) (xs ys : List Tree) → AreFormed has (trees_of (xs ++ ys)) → AreFormed has (trees_of xs)
formed_front has [] ys a = tt
formed_front has (x ∷ xs) ys a = (a.0, formed_front has xs ys a.1)

pub formed_at : (has : Op → Bool) (xs : List Tree) (i : ℕ) (t : Tree) → AreFormed has (trees_of xs) → slice_get xs i ≡ Some t → IsFormed has t
formed_at has [] i t a e = cc
formed_at has (x ∷ xs) zero t a e = let s : x ≡ t = cc in subst (IsFormed has) s a.0
formed_at has (x ∷ xs) (suc i) t a e = formed_at has xs i t a.1 e

pub formed_drop : (has : Op → Bool) (n : ℕ) (xs : List Tree) → AreFormed has (trees_of xs) → AreFormed has (trees_of (drop n xs))
formed_drop has zero xs a = a
formed_drop has (suc n) [] a = a
formed_drop has (suc n) (x ∷ xs) a = formed_drop has n xs a.1

-- opened entries
pub opened_later : (es later : List Entry) (i f : ℕ) → IsOpened es i f → IsOpened (es ++ later) i f
opened_later es later i f o = record {
  op = o.op;
  operands = o.operands;
  keys_made = o.keys_made;
  front = o.front;
  back = o.back ++ later;
  own = o.own;
  can = o.can;
  some_part = o.some_part;
  made = o.made;
  lies =
      let ps = part_entries o.op o.keys_made i 0 (drop (keys o.op) (list_of o.operands)) in
      ap (λ l. l ++ later) o.lies ∙ append_assoc o.front (ps ++ o.back) later ∙ ap (λ l. o.front ++ l) (append_assoc ps o.back later);
  at = o.at;
}

in_block : (xs ys : List Entry) (x : Entry) (i : ℕ) → slice_get (xs ++ ys) i ≡ Some x → (slice_get xs i ≡ Some x) ⊎ ((b : ℕ) × (slice_get ys b ≡ Some x) × (i ≡ length xs + b))
in_block [] ys x i e = inr (i, e, omega arith)
in_block (z ∷ xs) ys x zero e = inl e
in_block (z ∷ xs) ys x (suc i) e = ⊎_elim (λ h. inl h) (λ (b, a, q). inr (b, a, omega arith)) (in_block xs ys x i e)

part_at : (o : Op) (ks : List Tree) (i j : ℕ) (ps : List Tree) (b : ℕ) (x : Entry) → slice_get (part_entries o ks i j ps) b ≡ Some x → x.origin ≡ Part o (j + b) ks i
part_at o ks i j [] b x e = cc
part_at o ks i j (p ∷ ps) zero x e =
    let e0 : Entry = record { origin = Part o j ks i; term = term_of p } in
    let s : e0 ≡ x = cc in
    let n : j ≡ j + 0 = omega arith in
    ap (λ (y : Entry). y.origin) (sym s) ∙ ap (λ m. Part o m ks i) n
part_at o ks i j (p ∷ ps) (suc b) x e = let n : j + 1 + b ≡ j + suc b = omega arith in part_at o ks i (j + 1) ps b x e ∙ ap (λ m. Part o m ks i) n

same_at : (xs : List ℕ) (i m f g : ℕ) → i ≡ m → slice_get xs m ≡ Some f → slice_get xs i ≡ Some g → f ≡ g
same_at xs i m f g is a b = let c : slice_get xs m ≡ Some g = subst (λ n. slice_get xs n ≡ Some g) is b in cc

part_later : (es : List Entry) (fs : List ℕ) (later : List Entry) (fs' : List ℕ) (k : ℕ) (o : Op) (j : ℕ) (ks : List Tree) (i : ℕ) → IsPartOf es fs k o j ks i → ((f : ℕ) → slice_get fs i ≡ Some f → 0 < f → slice_get fs' i ≡ Some f) → IsPartOf (es ++ later) fs' k o j ks i
unfolding opened_later
part_later es fs later fs' k o j ks i p h = record {
  first = p.first;
  opened = opened_later es later i p.first p.opened;
  marked = h p.first p.marked p.some;
  some = p.some;
  op_is = p.op_is;
  keys_are = p.keys_are;
  counts = p.counts;
  within = p.within;
}

unopened_at : (fs : List ℕ) (later : List Entry) (k f : ℕ) → slice_get (fs ++ unopened later) k ≡ Some f → (slice_get fs k ≡ Some f) ⊎ (f ≡ 0)
unopened_at [] [] k f e = cc
unopened_at [] (x ∷ later) zero f e = inr (let s : f ≡ 0 = cc in s)
unopened_at [] (x ∷ later) (suc k) f e = ⊎_elim (λ a. inl (let no : None ≡ Some f = a in cc)) (λ b. inr b) (unopened_at [] later k f e)
unopened_at (g ∷ fs) later zero f e = inl e
unopened_at (g ∷ fs) later (suc k) f e = unopened_at fs later k f e

-- the load
pub nodes_append : (xs ys : List Tree) → nodes (xs ++ ys) ≡ nodes xs + nodes ys
nodes_append [] ys = omega arith
nodes_append (x ∷ xs) ys = omega (arith, nodes_append xs ys)

load_unopened : (later : List Entry) → load (unopened later) (terms_of later) ≡ nodes (terms_of later)
load_unopened [] = refl
load_unopened (x ∷ later) = ap (λ n. tree_size (tree_of x.term) + n) (load_unopened later)

load_append : (fs : List ℕ) (ts : List Tree) (later : List Entry) → length fs ≡ length ts → load (fs ++ unopened later) (ts ++ terms_of later) ≡ load fs ts + nodes (terms_of later)
load_append [] [] later n = omega (arith, load_unopened later)
load_append [] (t ∷ ts) later n = absurd (omega arith)
load_append (f ∷ fs) [] later n = absurd (omega arith)
load_append (f ∷ fs) (t ∷ ts) later n = let h : length fs ≡ length ts = omega arith in omega (arith, load_append fs ts later h)

weight_one : (f : ℕ) (t : Tree) → 0 < f → weight f t ≡ 1
weight_one zero t h = absurd (omega arith)
weight_one (suc f) t h = refl

load_set : (fs : List ℕ) (ts : List Tree) (i f : ℕ) (t : Tree) → slice_get fs i ≡ Some 0 → slice_get ts i ≡ Some t → 0 < f → load (set fs i f) ts + tree_size t ≡ load fs ts + 1
load_set [] ts i f t a b h = cc
load_set (g ∷ fs) [] i f t a b h = cc
load_set (g ∷ fs) (u ∷ ts) zero f t a b h =
    let z : g ≡ 0 = cc in
    let s : u ≡ t = cc in
    rw (z, s, weight_one f t h) (omega arith)
load_set (g ∷ fs) (u ∷ ts) (suc i) f t a b h = omega (arith, load_set fs ts i f t a b h)

nodes_list : (us : Trees) → nodes (list_of us) ≡ trees_size us
nodes_list none = refl
nodes_list (more u us) = ap (λ n. tree_size u + n) (nodes_list us)

nodes_drop : (n : ℕ) (xs : List Tree) → nodes (drop n xs) ≤ nodes xs
nodes_drop zero xs = omega arith
nodes_drop (suc n) [] = omega arith
nodes_drop (suc n) (x ∷ xs) = omega (arith, nodes_drop n xs)

weight_some : (f : ℕ) (t : Tree) → 1 ≤ weight f t
weight_some zero t = size_some t
weight_some (suc f) t = omega arith

pub load_long : (fs : List ℕ) (ts : List Tree) → length fs ≡ length ts → length ts ≤ load fs ts
load_long [] [] n = omega arith
load_long [] (t ∷ ts) n = absurd (omega arith)
load_long (f ∷ fs) [] n = absurd (omega arith)
load_long (f ∷ fs) (t ∷ ts) n = let h : length fs ≡ length ts = omega arith in omega (arith, load_long fs ts h, weight_some f t)

-- fewer entries have fewer labels
pub nodes_less : (es : List Entry) (at : ℕ) → nodes (labels_of (take at es)) ≤ nodes (labels_of es)
nodes_less es at =
    omega (arith, ap (λ l. nodes (labels_of l)) (take-append-drop at es), ap nodes (labels_append (take at es) (drop at es)), nodes_append (labels_of (take at es)) (labels_of (drop at es)))

-- there are at most as many entries as the labels' terms have nodes
pub grown_few : (es : List Entry) (fs : List ℕ) → IsGrown es fs → length es ≤ nodes (labels_of es)
grown_few es fs g = let n = length-map es (λ (e : Entry). tree_of e.term) in let h : length fs ≡ length (terms_of es) = g.long ∙ sym n in omega (arith, load_long fs (terms_of es) h, g.light)

-- a further label
pub grown_label : (es : List Entry) (fs : List ℕ) (es' : List Entry) (fs' : List ℕ) (n : ℕ) (t : Term) → IsGrown es fs → n ≡ length (labels_of es) → IsFormed (λ o. true) (tree_of t)
    → Extends es fs es' fs' (record { origin = Label n; term = t } ∷ []) → IsGrown es' fs'
grown_label es fs es' fs' n t g is formed x =
    let e : Entry = record { origin = Label n; term = t } in
    let h : length fs ≡ length (terms_of es) = g.long ∙ sym (length-map es (λ (y : Entry). tree_of y.term)) in
    let G : List Entry → List ℕ → Type 0 = IsGrown in
    subst (λ l. IsGrown l fs') (sym x.entries) (subst (IsGrown (es ++ e ∷ [])) (sym x.firsts) (record {
      long = omega (arith, length-append fs (0 ∷ []), length-append es (e ∷ []), g.long);
      follow = follow_append [] es (e ∷ []) g.follow (is, tt);
      formed = subst (λ l. AreFormed (λ o. true) (trees_of l)) (sym (terms_append es (e ∷ []))) (formed_append (λ o. true) (terms_of es) (tree_of t ∷ []) g.formed (formed, tt));
      opened = λ i f at pos. ⊎_elim (λ a. opened_later es (e ∷ []) i f (g.opened i f a pos)) (λ z. absurd (omega arith)) (unopened_at fs (e ∷ []) i f at);
      parted = λ k x p j ks i at is_part. ⊎_elim
          (λ a. part_later es fs (e ∷ []) (fs ++ 0 ∷ []) k p j ks i (g.parted k x p j ks i a is_part) (λ f m pos. slice_get-append fs (0 ∷ []) i f m))
          (λ (a, b). let no : Label n ≡ Part p j ks i = ap (λ (y : Entry). y.origin) b ∙ is_part in cc)
          (slice_get-last es e x k at);
      light = rw (terms_append es (e ∷ []), load_append fs (terms_of es) (e ∷ []) h, labels_append es (e ∷ []), nodes_append (labels_of es) (tree_of t ∷ [])) (omega (arith, g.light));
    }))

-- an entry is opened
pub grown_open : (es : List Entry) (fs : List ℕ) (es' : List Entry) (fs' : List ℕ) (i : ℕ) (ks : List Tree) (g : IsGrown es fs) (o : Opens es fs i ks)
    → Extends es fs es' fs' (part_entries o.op ks i 0 (drop (keys o.op) (list_of o.operands))) → IsGrown es' (set fs' i (length es))
grown_open es fs es' fs' i ks g o x =
    let ps = drop (keys o.op) (list_of o.operands) in
    let parts = part_entries o.op ks i 0 ps in
    let own = row_term (terms_of es) i (node o.op o.operands) o.able.own in
    let formed = formed_at (λ p. true) (terms_of es) i (node o.op o.operands) g.formed own in
    let terms : terms_of (es ++ parts) ≡ terms_of es ++ ps = terms_append es parts ∙ ap (λ l. terms_of es ++ l) (parts_terms o.op ks i 0 ps) in
    let h : length fs ≡ length (terms_of es) = g.long ∙ sym (length-map es (λ (y : Entry). tree_of y.term)) in
    let pos : 0 < length es = omega (arith, got_within fs i 0 o.able.closed, g.long) in
    let new : IsOpened (es ++ parts) i (length es) = record {
      op = o.op;
      operands = o.operands;
      keys_made = ks;
      front = es;
      back = [];
      own = o.able.own;
      can = o.able.can;
      some_part = o.able.some_part;
      made = o.made;
      lies = ap (λ l. es ++ l) (sym (append-nil parts));
      at = refl;
    } in
    subst (λ l. IsGrown l (set fs' i (length es))) (sym x.entries) (subst (λ l. IsGrown (es ++ parts) (set l i (length es))) (sym x.firsts) (record {
      long = omega (arith, length-set (fs ++ unopened parts) i (length es), length-append fs (unopened parts), length-append es parts, length-map {A = Entry} {B = ℕ} parts (λ y. 0), g.long);
      follow = follow_append [] es parts g.follow (parts_follow o.op ks i o.operands o.able.can es 0 ps own o.made (λ k t e. let z : 0 + k ≡ k = omega arith in rw z e));
      formed = subst (λ l. AreFormed (λ p. true) (trees_of l)) (sym terms) (formed_append (λ p. true) (terms_of es) ps g.formed (formed_drop (λ p. true) (keys o.op) (list_of o.operands) (formed_items (λ p. true) o.operands formed.2)));
      opened = λ k f at pos. ⊎_elim
          (λ (a, b). subst (IsOpened (es ++ parts) k) (sym b) (subst (λ n. IsOpened (es ++ parts) n (length es)) (sym a) new))
          (λ a. ⊎_elim (λ b. opened_later es parts k f (g.opened k f b pos)) (λ z. absurd (omega arith)) (unopened_at fs parts k f a))
          (set-at (fs ++ unopened parts) i k (length es) f at);
      parted = λ k x p j qs m at is_part. ⊎_elim
          (λ a. part_later es fs parts (set (fs ++ unopened parts) i (length es)) k p j qs m (g.parted k x p j qs m a is_part)
          (λ f mark some. set-other (fs ++ unopened parts) i m (length es) f (slice_get-append fs (unopened parts) m f mark) (λ z. let zero : f ≡ 0 = same_at fs i m f 0 z mark o.able.closed in absurd (omega arith))))
          (λ (b, a, q).
          let y = part_at o.op ks i 0 ps b x a in
          let w : Part o.op (0 + b) ks i ≡ Part p j qs m = sym y ∙ is_part in
          let w1 : o.op ≡ p = cc in
          let w2 : 0 + b ≡ j = cc in
          let w3 : ks ≡ qs = cc in
          let w4 : i ≡ m = cc in
          let mine : IsPartOf (es ++ parts) (set (fs ++ unopened parts) i (length es)) k p j qs i = record {
            first = length es;
            opened = new;
            marked = set-same (fs ++ unopened parts) i (length es) 0 (slice_get-append fs (unopened parts) i 0 o.able.closed);
            some = pos;
            op_is = w1;
            keys_are = w3;
            counts = omega arith;
            within = omega (arith, got_within parts b x a, length-map parts (λ (y : Entry). tree_of y.term), ap length (parts_terms o.op ks i 0 ps));
          } in
          subst (IsPartOf (es ++ parts) (set (fs ++ unopened parts) i (length es)) k p j qs) w4 mine)
          (in_block es parts x k at);
      light = omega (
        arith,
        load_set (fs ++ unopened parts) (terms_of (es ++ parts)) i (length es) (node o.op o.operands) (slice_get-append fs (unopened parts) i 0 o.able.closed) (terms_later es parts i (node o.op o.operands) own) pos,
        ap (load (fs ++ unopened parts)) (terms_append es parts),
        load_append fs (terms_of es) parts h,
        ap nodes (parts_terms o.op ks i 0 ps),
        nodes_drop (keys o.op) (list_of o.operands),
        nodes_list o.operands,
        g.light,
        ap nodes (labels_append es parts),
        nodes_append (labels_of es) (labels_of parts),
        ap nodes (no_labels parts (are_parts o.op ks i 0 ps)),
      );
    }))

load_room : (fs : List ℕ) (ts : List Tree) (i : ℕ) (t : Tree) → length fs ≡ length ts → slice_get fs i ≡ Some 0 → slice_get ts i ≡ Some t → length ts + tree_size t ≤ load fs ts + 1
load_room [] ts i t n a b = cc
load_room (f ∷ fs) [] i t n a b = cc
load_room (f ∷ fs) (u ∷ ts) zero t n a b =
    let z : f ≡ 0 = cc in
    let s : u ≡ t = cc in
    let h : length fs ≡ length ts = omega arith in
    rw (z, s) (omega (arith, load_long fs ts h))
load_room (f ∷ fs) (u ∷ ts) (suc i) t n a b = let h : length fs ≡ length ts = omega arith in omega (arith, load_room fs ts i t h a b, weight_some f u)

length_size : (us : Trees) → length (list_of us) ≤ trees_size us
length_size none = omega arith
length_size (more u us) = omega (arith, length_size us, size_some u)

-- there is room for the parts
pub room_for : (es : List Entry) (fs : List ℕ) (i : ℕ) (o : Op) (us : Trees) → IsGrown es fs → CanOpen es fs i o us → length es + length (list_of us) ≤ nodes (labels_of es)
room_for es fs i o us g can =
    let own = row_term (terms_of es) i (node o us) can.own in
    let n = length-map es (λ (e : Entry). tree_of e.term) in
    let h : length fs ≡ length (terms_of es) = g.long ∙ sym n in
    omega (arith, load_room fs (terms_of es) i (node o us) h can.closed own, g.light, length_size us)

pub back_none : (es : List Entry) (fs : List ℕ) → cut (length es) fs ≡ fs → length fs ≡ length es → GoesBack es fs es fs
back_none es fs c n = record { entries = take_all (length es) es (omega arith); firsts = c; within = omega arith; long = n }

pub back_extends : (es : List Entry) (fs : List ℕ) (es' : List Entry) (fs' : List ℕ) (later : List Entry) → Extends es fs es' fs' later → Keeps es fs es' fs'
back_extends es fs es' fs' later x es0 fs0 b = record {
  entries = ap (take (length es0)) x.entries ∙ take-front es later (length es0) b.within ∙ b.entries;
  firsts = ap (cut (length es0)) x.firsts ∙ ap (map (cut_first (length es0))) (take-front fs (unopened later) (length es0) (omega (arith, b.within, b.long))) ∙ b.firsts;
  within = omega (arith, b.within, ap length x.entries, length-append es later);
  long = omega (arith, b.long, ap length x.entries, length-append es later, ap length x.firsts, length-append fs (unopened later), length-map {A = Entry} {B = ℕ} later (λ y. 0));
}

pub cut_past : (b f : ℕ) → b ≤ f → cut_first b f ≡ 0
cut_past b f h = rw (le-ltb f b h)

pub cut_zero : (b : ℕ) → cut_first b 0 ≡ 0
cut_zero b = same (ltb 0 b)
  where
    same : (c : Bool) → cond {A = ℕ} c 0 0 ≡ 0
    same true = refl
    same false = refl

cut_set : (b n : ℕ) (fs : List ℕ) (i f : ℕ) → slice_get fs i ≡ Some 0 → b ≤ f → map (cut_first b) (take n (set fs i f)) ≡ map (cut_first b) (take n fs)
cut_set b zero fs i f e h = refl
cut_set b (suc n) [] i f e h = cc
cut_set b (suc n) (g ∷ fs) zero f e h = let z : g ≡ 0 = cc in ap (λ x. x ∷ map (cut_first b) (take n fs)) (cut_past b f h ∙ sym (cut_zero b) ∙ ap (cut_first b) (sym z))
cut_set b (suc n) (g ∷ fs) (suc i) f e h = ap (λ l. cut_first b g ∷ l) (cut_set b n fs i f e h)

pub keeps_opened : (es : List Entry) (fs : List ℕ) (es' : List Entry) (fs' : List ℕ) (later : List Entry) (i : ℕ) → Extends es fs es' fs' later → slice_get fs i ≡ Some 0 → Keeps es fs es' (set fs' i (length es))
keeps_opened es fs es' fs' later i x e es0 fs0 b =
    let c = back_extends es fs es' fs' later x es0 fs0 b in
    record {
      entries = c.entries;
      firsts = cut_set (length es0) (length es0) fs' i (length es) (rw x.firsts (slice_get-append fs (unopened later) i 0 e)) b.within ∙ c.firsts;
      within = c.within;
      long = omega (arith, length-set fs' i (length es), c.long);
    }

-- where nothing was opened later, cutting changes nothing
cut_none : (b n : ℕ) (fs : List ℕ) → length fs ≤ n → ((i f : ℕ) → slice_get fs i ≡ Some f → (0 < f → f < b)) → map (cut_first b) (take n fs) ≡ fs
cut_none b zero [] h all = refl
cut_none b (suc n) [] h all = refl
cut_none b zero (f ∷ fs) h all = absurd (omega arith)
cut_none b (suc n) (f ∷ fs) h all = let r : length fs ≤ n = omega arith in cc (small f (all 0 f refl), cut_none b n fs r (λ i. all (suc i)))
  where
    small : (f : ℕ) → (0 < f → f < b) → cut_first b f ≡ f
    small zero h = cut_zero b
    small (suc f) h = let l : suc f < b = h (omega arith) in rw (lt-ltb (suc f) b l)

opened_within : (es : List Entry) (i f : ℕ) → IsOpened es i f → f < length es
opened_within es i f o =
    let ts = drop (keys o.op) (list_of o.operands) in
    let ps = part_entries o.op o.keys_made i 0 ts in
    omega (arith, ap length o.lies, length-append o.front (ps ++ o.back), length-append ps o.back, o.at, o.some_part, length-drop (keys o.op) (list_of o.operands), ap length (parts_terms o.op o.keys_made i 0 ts), length-map ps (λ (e : Entry). tree_of e.term))

pub cut_grown : (es : List Entry) (fs : List ℕ) → IsGrown es fs → cut (length es) fs ≡ fs
cut_grown es fs g = cut_none (length es) (length es) fs (omega (arith, g.long)) (λ i f at pos. opened_within es i f (g.opened i f at pos))

-- what opening an entry does
pub opened_by : (es : List Entry) (fs : List ℕ) (es' : List Entry) (fs' : List ℕ) (i : ℕ) (ks : List Tree) (x : Entry) (p : Op) (ts : List Tree) (s : List Term) → IsGrown es fs → Opens es fs i ks → i < length es → x ≡ get_or es i x → x.term ≡ Node p ts → map tree_of s ≡ ts
    → Extends es fs es' fs' (part_entries p ks i 0 (drop (keys p) (map tree_of s))) → IsGrown es' (set fs' i (length es)) × Keeps es fs es' (set fs' i (length es)) × HasOpened es es'
opened_by es fs es' fs' i ks x p ts s g o h own is same ext =
    let n = own_node es fs i x h own p ts o.op o.operands is o.able in
    let l : map tree_of s ≡ list_of o.operands = same ∙ sym (list_of-trees_of ts) ∙ ap list_of n.1 in
    let parts = part_entries o.op ks i 0 (drop (keys o.op) (list_of o.operands)) in
    let P : Op → List Tree → Type 0 = λ q us. Extends es fs es' fs' (part_entries q ks i 0 (drop (keys q) us)) in
    let e : P o.op (list_of o.operands) = subst (P o.op) l (subst (λ q. P q (map tree_of s)) n.0 ext) in (
      grown_open es fs es' fs' i ks g o e,
      keeps_opened es fs es' fs' parts i e o.able.closed,
      record {
        parts = parts;
        are = are_parts o.op ks i 0 (drop (keys o.op) (list_of o.operands));
        is = e.entries;
        some = omega (arith, length-map parts (λ (y : Entry). tree_of y.term), ap length (parts_terms o.op ks i 0 (drop (keys o.op) (list_of o.operands))), length-drop (keys o.op) (list_of o.operands), o.able.some_part);
      },
    )

pub room_by : (es : List Entry) (fs : List ℕ) (i : ℕ) (ks : List Tree) (x : Entry) (p : Op) (ts : List Tree) (s : List Term) → IsGrown es fs → Opens es fs i ks → i < length es → x ≡ get_or es i x → x.term ≡ Node p ts → map tree_of s ≡ ts
    → (length es + length s ≤ nodes (labels_of es)) × (length s ≡ arity p)
room_by es fs i ks x p ts s g o h own is same =
    let n = own_node es fs i x h own p ts o.op o.operands is o.able in
    let l : length (list_of o.operands) ≡ length s = sym (ap (λ us. length (list_of us)) n.1) ∙ ap length (list_of-trees_of ts) ∙ sym (ap length same) ∙ length-map s tree_of in
    let t = row_term (terms_of es) i (node o.op o.operands) o.able.own in
    let f = formed_at (λ q. true) (terms_of es) i (node o.op o.operands) g.formed t in
    (omega (arith, room_for es fs i o.op o.operands g o.able), sym l ∙ f.1 ∙ sym (ap arity n.0))

pub opens_within : (es : List Entry) (fs : List ℕ) (i : ℕ) (ks : List Tree) → IsGrown es fs → Opens es fs i ks → i < length es
opens_within es fs i ks g o = omega (arith, got_within fs i 0 o.able.closed, g.long)

pub extended_firsts : (es : List Entry) (fs : List ℕ) (es' : List Entry) (fs' : List ℕ) (later : List Entry) → Extends es fs es' fs' later → length fs ≤ length fs'
extended_firsts es fs es' fs' later x = omega (arith, ap length x.firsts, length-append fs (unopened later))

-- the label's entry
pub labelled : (es : List Entry) (fs : List ℕ) (es' : List Entry) (fs' : List ℕ) (n : ℕ) (t t' : Term) → IsGrown es fs → n ≡ length (labels_of es) → t' ≡ t → IsFormed (λ o. true) (tree_of t)
    → Extends es fs es' fs' (record { origin = Label n; term = t' } ∷ []) → IsGrown es' fs' × (es' ≡ es ++ record { origin = Label (length (labels_of es)); term = t } ∷ [])
labelled es fs es' fs' n t t' g is same formed x =
    let X : ℕ → Term → Type 0 = λ m u. Extends es fs es' fs' (record { origin = Label m; term = u } ∷ []) in
    let y : X (length (labels_of es)) t = subst (λ m. X m t) is (subst (X n) same x) in
    (grown_label es fs es' fs' (length (labels_of es)) t g refl formed y, y.entries)

pub nodes_grown : (es es' : List Entry) (n : ℕ) (t : Term) (parts : List Entry) → es' ≡ es ++ record { origin = Label n; term = t } ∷ parts → AllByRecursion IsPart parts → nodes (labels_of es') ≡ nodes (labels_of es) + tree_size (tree_of t)
nodes_grown es es' n t parts is are =
    ap (λ l. nodes (labels_of l)) is ∙ ap nodes (labels_append es (record { origin = Label n; term = t } ∷ parts)) ∙ nodes_append (labels_of es) (tree_of t ∷ labels_of parts)
    ∙ ap (λ l. nodes (labels_of es) + (tree_size (tree_of t) + nodes l)) (no_labels parts are) ∙ omega arith

pub more_parts : (es es' es'' : List Entry) (n : ℕ) (t : Term) (parts : List Entry) → es' ≡ es ++ record { origin = Label n; term = t } ∷ parts → AllByRecursion IsPart parts → (o : HasOpened es' es'')
    → AllByRecursion IsPart (parts ++ o.parts) × (es'' ≡ es ++ record { origin = Label n; term = t } ∷ (parts ++ o.parts))
more_parts es es' es'' n t parts is are o =
    (each_in_both IsPart parts o.parts are o.are, o.is ∙ ap (λ l. l ++ o.parts) is ∙ append_assoc es (record { origin = Label n; term = t } ∷ parts) o.parts)

pub fewer_left : (es es' : List Entry) (fs' : List ℕ) → IsGrown es' fs' → (o : HasOpened es es') → nodes (labels_of es') - length es' < nodes (labels_of es) - length es
fewer_left es es' fs' g o =
    omega (arith, grown_few es' fs' g, ap length o.is, length-append es o.parts, o.some, ap (λ l. nodes (labels_of l)) o.is, ap nodes (labels_append es o.parts), nodes_append (labels_of es) (labels_of o.parts), ap nodes (no_labels o.parts o.are))

-- the last label's number
label_number : (before es : List Entry) (k : ℕ) (e : Entry) (n : ℕ) → Follow before es → slice_get es k ≡ Some e → e.origin ≡ Label n → n ≡ length (labels_of (before ++ take k es))
label_number before [] k e n f at is = cc
label_number before (x ∷ es) zero e n f at is =
    let s : x ≡ e = cc in
    let o : x.origin ≡ Label n = ap (λ (y : Entry). y.origin) s ∙ is in
    subst (λ y. OriginFits (terms_of before) (length (labels_of before)) y (tree_of x.term)) o f.0 ∙ ap (λ l. length (labels_of l)) (sym (append-nil before))
label_number before (x ∷ es) (suc k) e n f at is = label_number (before ++ x ∷ []) es k e n f.1 at is ∙ ap (λ l. length (labels_of l)) (append_assoc before (x ∷ []) (take k es))

labels_few : (es : List Entry) → length (labels_of es) ≤ length es
labels_few [] = omega arith
labels_few (e ∷ es) = counted (is_label e.origin) (tree_of e.term) (labels_of es) (length es) (labels_few es)
  where
    counted : (b : Bool) (t : Tree) (l : List Tree) (n : ℕ) → length l ≤ n → length (cond b (t ∷ l) l) ≤ suc n
    counted true t l n h = omega (arith, h)
    counted false t l n h = omega (arith, h)

module _ (es : List Entry) (at : ℕ) (e : Entry) (n : ℕ) (follow : Follow [] es) (h : at < length es) (own : e ≡ get_or es at e) (is : e.origin ≡ Label n) where
  number_is : n ≡ length (labels_of (take at es))
  number_is = label_number [] es at e n follow (slice_get-at es at e h own) is

  pub number_few : n < length es
  number_few = omega (arith, number_is, labels_few (take at es), length-take-le at es, h)

  pub labels_are : AllByRecursion IsPart (drop (at + 1) es) → n + 1 ≡ length (labels_of es)
  labels_are parts =
      let all : es ≡ take at es ++ e ∷ drop (at + 1) es = sym (take-append-drop at es) ∙ ap (λ l. take at es ++ l) (drop_more es at e h ∙ ap (λ x. x ∷ drop (at + 1) es) (sym own)) in
      let one : labels_of (e ∷ drop (at + 1) es) ≡ tree_of e.term ∷ [] = rw is (ap (λ l. tree_of e.term ∷ l) (no_labels (drop (at + 1) es) parts)) in
      omega (arith, number_is, ap (λ l. length (labels_of l)) all, ap length (labels_append (take at es) (e ∷ drop (at + 1) es)), length-append (labels_of (take at es)) (labels_of (e ∷ drop (at + 1) es)), ap length one)

pub prefix : (rs : List (Option Tree)) (ts : List Tree) → (xs : List (Option Tree)) × (rows_from rs ts ≡ rs ++ xs)
prefix rs [] = ([], sym (append-nil rs))
prefix rs (t ∷ ts) =
    let r = row_unless (made_for rs t) t in
    let h = prefix (rs ++ r ∷ []) ts in
    (r ∷ h.0, h.1 ∙ append_assoc rs (r ∷ []) h.0)

pub doubles_take : (es : List Entry) (ds : List Bool) (n : ℕ) → n ≤ length es → ds ≡ map is_double (rows es) → take n ds ≡ map is_double (rows (take n es))
doubles_take es ds n h is =
    let front = take n es in
    let p = prefix (rows front) (terms_of (drop n es)) in
    let all : rows es ≡ rows front ++ p.0 = ap rows (sym (take-append-drop n es)) ∙ rows_append front (drop n es) ∙ p.1 in
    let long : length (rows front) ≡ n = rows_length front ∙ length-take-le n es h in
    ap (take n) is ∙ sym (map-take is_double n (rows es)) ∙ ap (λ l. map is_double (take n l)) all ∙ ap (λ m. map is_double (take m (rows front ++ p.0))) (sym long) ∙ ap (map is_double) (take-append_seam (rows front) p.0)

pub added_label : (es es' : List Entry) (t : Term) → HasAdded es t es' → 0 < length (labels_of es')
added_label es es' t a =
    let e : Entry = record { origin = Label (length (labels_of es)); term = t } in
    omega (arith, ap (λ l. length (labels_of l)) a.is, ap length (labels_append es (e ∷ a.parts)), length-append (labels_of es) (tree_of t ∷ labels_of a.parts))
