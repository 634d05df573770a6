-- What has come to compose since an entry came, while it is found out.
use Rattle.std.proofs.Common.{◌≡◌, ℕ, zero, suc, ◌+◌, ◌<◌, ◌≤◌, List, [], ◌∷◌, ◌++◌, length, take, Bool, true, false, ◌&&◌, Option, Some, None, is_some, option_map, Vec, Global, refl, sym, ap, ◌∙◌, subst, arith, inl, inr, ◌⊎◌, ⊎_elim, append_assoc, length-append}
use Rattle.std.specs.Prelude.{slice_get, unwrap_or, ◌==◌}
use Rattle.std.proofs.Math.ListN.{set, length-set}
use Rattle.std.proofs.lemmas.Bool.{eq-eqb, eqb-true}
use Rattle.std.proofs.lemmas.List.{append-nil}
use Rattle.anb_lemmas.proofs.Numbers.{below_or_last}
use Rattle.anb_lemmas.proofs.Lists.{got_within}
use Rattle.anb_term.specs.declared.term.Op.{Op}
use Rattle.anb_term.specs.Tree.{Tree, leaf, node, Trees, trees_of, list_of}
use Rattle.anb_term.specs.TreeSame.{list_of-trees_of, trees_of-list_of}
use Rattle.anb_term.specs.Operator.{arity}
use Rattle.anb_term.proofs.Lists.{slice_get-last, slice_get-there, set-same}
use Rattle.anb_intern.specs.declared.node.NodeId.{NodeId}
use Rattle.anb_intern.specs.declared.node.Node.{Node}
use Rattle.anb_intern.specs.declared.node.Node.TheVariants.{Atom, Apply}
use Rattle.anb_intern.specs.Nodes.{operands_at, tree_at, AreUnder, IsOver, AreDistinct, AreBefore}
use Rattle.anb_intern.proofs.Nodes.{under_take, under_more, operands_long, operands_take}
use Rattle.anb_close.specs.Rows.{place, or_built, made_for, mades_for, row_unless, rows_from, rows_of}
use Rattle.anb_close.specs.Listed.{IsListed, AreTouched}
use Rattle.anb_close.specs.Parents.{list_at, IsNode, AreLinked}
use Rattle.anb_close.specs.Standings.{standing, standing_of, standings_of, place_in, is_found, all_stand, is_ready, IsIndexed, IsSettling}
use Rattle.anb_close.specs.Spreading.{stands, HavePlaces, IsSpreading, IsDone, IsNew, HasVisited, nowheres, IsLeft}
use Rattle.anb_close.specs.declared.index.Standing.{Standing}
use Rattle.anb_close.specs.declared.index.Standing.TheVariants.{Nowhere, Built, At}
use Rattle.anb_close.proofs.Rows.{optional, place_own, row_term, made_leaf, made_later, mades_later, length_rows, rows_more, built_is}
use Rattle.anb_close.proofs.Indexing.{both_found, built_found, all_made, right_all, found_made, numbered, set_either, all_settled}
use Rattle.anb_close.proofs.Linking.{listed_more, listed_last, listed_behind, same_ids, node_at}

and_both : (a b : Bool) → a && b ≡ true → (a ≡ true) × (b ≡ true)
and_both true b e = (refl, e)
and_both false b e = cc

stands_here : (ss : List Standing) (n : ℕ) (s : Standing) → slice_get ss n ≡ Some s → stands ss n ≡ is_found s
stands_here ss n s at = ap (λ o. is_found (unwrap_or o Nowhere)) at

taken : {A : Type 0} (n : ℕ) (xs : List A) (i : ℕ) (x : A) → slice_get (take n xs) i ≡ Some x → slice_get xs i ≡ Some x
taken zero xs i x e = cc
taken (suc n) [] i x e = cc
taken (suc n) (y ∷ ys) zero x e = e
taken (suc n) (y ∷ ys) (suc i) x e = taken n ys i x e

-- one write
stands_set : (ss : List Standing) (n k : ℕ) (v : Standing) → stands (set ss n v) k ≡ true → (k ≡ n) ⊎ (stands ss k ≡ true)
stands_set [] n k v e = inr e
stands_set (s ∷ ss) zero zero v e = inl refl
stands_set (s ∷ ss) zero (suc k) v e = inr e
stands_set (s ∷ ss) (suc n) zero v e = inr e
stands_set (s ∷ ss) (suc n) (suc k) v e = ⊎_elim (λ a. inl (ap suc a)) (λ a. inr a) (stands_set ss n k v e)

stands_still : (ss : List Standing) (n k : ℕ) (v : Standing) → is_found v ≡ true → stands ss k ≡ true → stands (set ss n v) k ≡ true
stands_still [] n k v f e = e
stands_still (s ∷ ss) zero zero v f e = f
stands_still (s ∷ ss) zero (suc k) v f e = e
stands_still (s ∷ ss) (suc n) zero v f e = e
stands_still (s ∷ ss) (suc n) (suc k) v f e = stands_still ss n k v f e

-- these are all found, now that one number is, or it is among them
all_or : (ss : List Standing) (n : ℕ) (v : Standing) (ids : List NodeId) → all_stand (set ss n v) ids ≡ true → (all_stand ss ids ≡ true) ⊎ ((j : ℕ) × (id : NodeId) × (slice_get ids j ≡ Some id) × (id.0 ≡ n))
all_or ss n v [] e = inl refl
all_or ss n v (i ∷ ids) e =
    let b = and_both (stands (set ss n v) i.0) (all_stand (set ss n v) ids) e in
    ⊎_elim
    (λ a. inr (0, i, refl, a))
    (λ a. ⊎_elim (λ c. inl (ap (λ x. x && all_stand ss ids) a ∙ c)) (λ (j, id, at, is). inr (suc j, id, at, is)) (all_or ss n v ids b.1))
    (stands_set ss n i.0 v b.0)

-- what composes
some_is : {A : Type 0} (o : Option A) → is_some o ≡ true → (x : A) × (o ≡ Some x)
some_is None e = cc
some_is (Some x) e = (x, refl)

all_sound : (rs : List (Option Tree)) (ts : List Tree) (ss : List Standing) → ((k : ℕ) (t : Tree) → slice_get ts k ≡ Some t → stands ss k ≡ true → is_some (made_for rs t) ≡ true)
    → (n : ℕ) → n ≤ length ts → (ids : List NodeId) → AreUnder n ids → all_stand ss ids ≡ true → is_some (mades_for rs (trees_of (operands_at ts ids))) ≡ true
all_sound rs ts ss sound n h [] u e = refl
all_sound rs ts ss sound n h (i ∷ ids) u e =
    let b = and_both (stands ss i.0) (all_stand ss ids) e in
    let there = slice_get-there ts i.0 (omega (arith, h, u.0)) in
    let is : unwrap_or (slice_get ts i.0) (leaf 0) ≡ there.0 = ap (λ o. unwrap_or o (leaf 0)) there.1 in
    let f : is_some (made_for rs (unwrap_or (slice_get ts i.0) (leaf 0))) ≡ true = ap (λ x. is_some (made_for rs x)) is ∙ sound i.0 there.0 there.1 b.0 in
    let g = all_sound rs ts ss sound n h ids u.1 b.1 in
    both_found (made_for rs (unwrap_or (slice_get ts i.0) (leaf 0))) (mades_for rs (trees_of (operands_at ts ids))) ∙ rw (f, g) refl

made_node : (rs : List (Option Tree)) (o : Op) (us : List Tree) → length us ≡ arity o → is_some (mades_for rs (trees_of us)) ≡ true → is_some (made_for rs (node o (trees_of us))) ≡ true
made_node rs o us long some =
    ⊎_elim
    (λ (i, p). ap is_some (made_leaf rs (node o (trees_of us)) i p))
    (λ p.
    let m = some_is (mades_for rs (trees_of us)) some in
    ap is_some (built_is o (place rs (node o (trees_of us))) (length (list_of (trees_of us)) == arity o) (mades_for rs (trees_of us)) m.0 p (eq-eqb (length (list_of (trees_of us))) (arity o) (ap length (list_of-trees_of us) ∙ long)) m.1))
    (optional (place rs (node o (trees_of us))))

pub places_set : (rs : List (Option Tree)) (ts : List Tree) (ss : List Standing) (n : ℕ) → slice_get ss n ≡ Some Nowhere → HavePlaces rs ts ss → HavePlaces rs ts (set ss n Built)
places_set rs ts ss n nowhere places = (
  length-set ss n Built ∙ places.0,
  λ k t s there own. ⊎_elim
      (λ (same, is).
      let z : slice_get ts n ≡ Some t = subst (λ x. slice_get ts x ≡ Some t) same there in
      ap place_in is ∙ places.1 n t Nowhere z nowhere)
      (λ (other, before). places.1 k t s there before)
      (set_either ss n k Built s own),
)

-- what is still due changes
module _ (rs : List (Option Tree)) (ts : List Tree) (old ss : List Standing) (told : List ℕ) (P : ℕ → ℕ → Type 0) (so_far : IsSpreading rs ts old ss told P) where
  pub spread_on : (told' : List ℕ) (Q : ℕ → ℕ → Type 0) → ((i : ℕ) → IsListed told i → IsListed told' i)
      → ((n : ℕ) (o : Op) (ids : List NodeId) (j : ℕ) (id : NodeId) → IsNode ts n o ids → slice_get ids j ≡ Some id → P id.0 n → Q id.0 n ⊎ IsDone ts ss told' n) → IsSpreading rs ts old ss told' Q
  spread_on told' Q keep on = record {
    places = so_far.places;
    sound = so_far.sound;
    complete = λ n o ids at long all. ⊎_elim
        (λ a. inl a)
        (λ (j, id, here, due). ⊎_elim (λ q. inr (j, id, here, q)) (λ done. inl (done.0 o ids at long all)) (on n o ids j id at here due))
        (so_far.complete n o ids at long all);
    tells = λ n o ids j id i at here own e. ⊎_elim
        (λ a. inl a)
        (λ b. inr (⊎_elim (λ due. ⊎_elim (λ q. inl q) (λ done. inr (done.1 i own)) (on n o ids j id at here due)) (λ c. inr (keep i c)) b))
        (so_far.tells n o ids j id i at here own e);
  }

  -- a number comes to be built
  pub spread_mark : (n : ℕ) → IsNew ts ss n → (Q : ℕ → ℕ → Type 0) → ((m w : ℕ) → P w m → Q w m ⊎ (m ≡ n)) → ((m : ℕ) → Q n m) → IsSpreading rs ts old (set ss n Built) told Q
  spread_mark n (nowhere, o, ids, at, long, ready) Q on new =
      let h = got_within ss n Nowhere nowhere in
      let here : stands (set ss n Built) n ≡ true = stands_here (set ss n Built) n Built (set-same ss n Built Nowhere nowhere) in
      record {
        places = places_set rs ts ss n nowhere so_far.places;
        sound = λ k t there e. ⊎_elim
            (λ same.
            let z : slice_get ts n ≡ Some t = subst (λ x. slice_get ts x ≡ Some t) same there in
            let is : node o (trees_of (operands_at ts ids)) ≡ t = (let a = at.0 in cc) in
            let some = all_sound rs ts ss so_far.sound n (omega (arith, h, so_far.places.0)) ids at.1 ready in
            ap (λ x. is_some (made_for rs x)) (sym is) ∙ made_node rs o (operands_at ts ids) (operands_long ts ids ∙ long) some)
            (λ before. so_far.sound k t there before)
            (stands_set ss n k Built e);
        complete = λ m p js there wide all. ⊎_elim
            (λ before. ⊎_elim
            (λ a. inl (stands_still ss n m Built refl a))
            (λ (j, id, own, due). ⊎_elim (λ q. inr (j, id, own, q)) (λ same. inl (ap (stands (set ss n Built)) same ∙ here)) (on m id.0 due))
            (so_far.complete m p js there wide before))
            (λ (j, id, own, same). inr (j, id, own, subst (λ x. Q x m) (sym same) (new m)))
            (all_or ss n Built js all);
        tells = λ m p js j id i there own stood e. ⊎_elim
            (λ (same, is). let no : At i ≡ Built = is in cc)
            (λ (other, before). ⊎_elim
            (λ same. inr (inl (subst (λ x. Q x m) (sym same) (new m))))
            (λ found. ⊎_elim
            (λ a. inl a)
            (λ b. inr (⊎_elim (λ due. ⊎_elim (λ q. inl q) (λ same. absurd (other (sym same))) (on m id.0 due)) (λ c. inr c) b))
            (so_far.tells m p js j id i there own before found))
            (stands_set ss n id.0 Built e))
            (set_either ss n m Built (At i) stood);
      }

equal_or : (k i : ℕ) → k ≤ i → (k ≡ i) ⊎ (k + 1 ≤ i)
equal_or zero zero h = inl refl
equal_or zero (suc i) h = inr (omega arith)
equal_or (suc k) zero h = absurd (omega arith)
equal_or (suc k) (suc i) h = ⊎_elim (λ a. inl (ap suc a)) (λ a. inr (omega (arith, a))) (equal_or k i (omega arith))

-- a number was looked at
pub visited : (ts : List Tree) (ss ss' : List Standing) (told told' work work' : List ℕ) (x : ℕ) (ns : List ℕ) (k n : ℕ) → slice_get ns k ≡ Some n
    → HasVisited ts n ss work told ss' work' told' → (later : List ℕ) × (told' ≡ told ++ later)
    × ((rs : List (Option Tree)) (old : List Standing) (before : List ℕ) → IsSpreading rs ts old ss before (IsLeft work x ns k) → IsSpreading rs ts old ss' (before ++ later) (IsLeft work' x ns (k + 1)))
visited ts ss ss' told told' work work' x ns k n at (inl (later, is_ss, is_work, is_told, done)) = (
  later,
  is_told,
  λ rs old before so_far. subst (λ l. IsSpreading rs ts old l (before ++ later) (IsLeft work' x ns (k + 1))) (sym is_ss)
      (spread_on rs ts old ss before (IsLeft work x ns k) so_far (before ++ later) (IsLeft work' x ns (k + 1)) (λ i m. listed_more before later i m)
      (λ m o ids j id there own due. ⊎_elim
      (λ a. inl (inl (subst (λ l. IsListed l id.0) (sym is_work) a)))
      (λ (same, (i, h, here)). ⊎_elim
      (λ l.
      let y : n ≡ m = (let a = subst (λ q. slice_get ns q ≡ Some n) l at in cc) in
      inr (subst (IsDone ts ss (before ++ later)) y (done.0, λ i e. listed_behind before later i (done.1 i e))))
      (λ l. inl (inr (same, (i, l, here))))
      (equal_or k i h))
      due)),
)
visited ts ss ss' told told' work work' x ns k n at (inr (is_ss, is_work, is_told, new)) = (
  [],
  is_told ∙ sym (append-nil told),
  λ rs old before so_far. subst (λ l. IsSpreading rs ts old l (before ++ []) (IsLeft work' x ns (k + 1))) (sym is_ss) (subst (λ l. IsSpreading rs ts old (set ss n Built) l (IsLeft work' x ns (k + 1))) (sym (append-nil before))
      (spread_mark rs ts old ss before (IsLeft work x ns k) so_far n new (IsLeft work' x ns (k + 1))
      (λ m w due. ⊎_elim
      (λ a. inl (inl (subst (λ l. IsListed l w) (sym is_work) (listed_more work (n ∷ []) w a))))
      (λ (same, (i, h, here)). ⊎_elim
      (λ l. inr (let a = subst (λ q. slice_get ns q ≡ Some n) l at in cc))
      (λ l. inl (inr (same, (i, l, here))))
      (equal_or k i h))
      due)
      (λ m. inl (subst (λ l. IsListed l n) (sym is_work) (listed_last work n))))),
)

fewer_set : (ss : List Standing) (n : ℕ) → slice_get ss n ≡ Some Nowhere → nowheres (set ss n Built) + 1 ≡ nowheres ss
fewer_set [] n e = cc
fewer_set (Nowhere ∷ ss) zero e = omega arith
fewer_set (Built ∷ ss) zero e = let no : Built ≡ Nowhere = cc in cc
fewer_set (At i ∷ ss) zero e = let no : At i ≡ Nowhere = cc in cc
fewer_set (Nowhere ∷ ss) (suc n) e = omega (arith, fewer_set ss n e)
fewer_set (Built ∷ ss) (suc n) e = fewer_set ss n e
fewer_set (At i ∷ ss) (suc n) e = fewer_set ss n e

pub visit_fewer : (ts : List Tree) (ss ss' : List Standing) (told told' work work' : List ℕ) (n : ℕ) → HasVisited ts n ss work told ss' work' told' → nowheres ss' + length work' ≡ nowheres ss + length work
visit_fewer ts ss ss' told told' work work' n (inl (later, is_ss, is_work, is_told, done)) = omega (arith, ap nowheres is_ss, ap length is_work)
visit_fewer ts ss ss' told told' work work' n (inr (is_ss, is_work, is_told, new)) = omega (arith, ap nowheres is_ss, ap length is_work, length-append work (n ∷ []), fewer_set ss n new.0)

-- what a visit finds
module _ (ts : List Tree) (ss : List Standing) (work told : List ℕ) (n : ℕ) where
  pub visit_past : length ss ≡ length ts → length ss ≤ n → HasVisited ts n ss work told ss work told
  visit_past long h = inl ([], refl, refl, sym (append-nil told), ((λ o ids at l all. absurd (omega (arith, long, h, got_within ts n _ at.0))), (λ i e. absurd (omega (arith, h, got_within ss n (At i) e)))))

  pub visit_entry : (i : ℕ) (told' : List ℕ) → slice_get ss n ≡ Some (At i) → told' ≡ told ++ i ∷ [] → HasVisited ts n ss work told ss work told'
  visit_entry i told' at is = inl (i ∷ [], refl, refl, is, ((λ o ids own l all. stands_here ss n (At i) at), (λ j e. let s : i ≡ j = cc in (0, ap Some s))))

  pub visit_built : slice_get ss n ≡ Some Built → HasVisited ts n ss work told ss work told
  visit_built at = inl ([], refl, refl, sym (append-nil told), ((λ o ids own l all. stands_here ss n Built at), (λ j e. let no : Built ≡ At j = cc in cc)))

  module _ (nowhere : slice_get ss n ≡ Some Nowhere) (distinct : AreDistinct ts) (h : n < length ts) where
    apply_is : (o p : Op) (ids js : List NodeId) → slice_get ts n ≡ Some (node p (trees_of (operands_at ts js))) → AreUnder n js → IsNode ts n o ids → (o ≡ p) × (ids ≡ js)
    apply_is o p ids js at under own =
        let a = own.0 in
        let s : trees_of (operands_at ts ids) ≡ trees_of (operands_at ts js) = cc in
        let r : operands_at ts ids ≡ operands_at ts js = sym (list_of-trees_of (operands_at ts ids)) ∙ ap list_of s ∙ list_of-trees_of (operands_at ts js) in
        (cc, same_ids ts n n ids js distinct (omega (arith, h)) (omega (arith, h)) own.1 under r)

    not_ready : (k : Node) → slice_get ts n ≡ Some (tree_at ts k) → IsOver n k → is_ready ss k ≡ false → (o : Op) (ids : List NodeId) → IsNode ts n o ids → length ids ≡ arity o → all_stand ss ids ≡ true → ⊥
    not_ready (Atom m) at over off o ids own long all = let a = own.0 in let no : leaf m ≡ node o (trees_of (operands_at ts ids)) = cc in cc
    not_ready (Apply p js) at over off o ids own long all =
        let q = apply_is o p ids js.items at over own in
        let l : (length js.items == arity p) ≡ true = eq-eqb (length js.items) (arity p) (ap length (sym q.1) ∙ long ∙ ap arity q.0) in
        let a : all_stand ss js.items ≡ true = ap (all_stand ss) (sym q.1) ∙ all in
        let t : false ≡ true = sym off ∙ ap (λ b. b && all_stand ss js.items) l ∙ a in
        cc

    pub visit_unready : (k : Node) → slice_get ts n ≡ Some (tree_at ts k) → IsOver n k → is_ready ss k ≡ false → HasVisited ts n ss work told ss work told
    visit_unready k at over off = inl ([], refl, refl, sym (append-nil told), ((λ o ids own long all. absurd (not_ready k at over off o ids own long all)), (λ j e. let no : Nowhere ≡ At j = cc in cc)))

    pub visit_new : (k : Node) (work' : List ℕ) → slice_get ts n ≡ Some (tree_at ts k) → IsOver n k → is_ready ss k ≡ true → work' ≡ work ++ n ∷ [] → HasVisited ts n ss work told (set ss n Built) work' told
    visit_new (Atom m) work' at over on is = cc
    visit_new (Apply p js) work' at over on is = let b = and_both (length js.items == arity p) (all_stand ss js.items) on in inr (refl, is, refl, (nowhere, p, js.items, (at, over), eqb-true (length js.items) (arity p) b.0, b.1))

-- all of these were looked at
pub more_told : (told told' told'' later last : List ℕ) → told' ≡ told ++ later → told'' ≡ told' ++ last → told'' ≡ told ++ (later ++ last)
more_told told told' told'' later last e f = f ∙ ap (λ l. l ++ last) e ∙ append_assoc told later last

pub none_later : (rs : List (Option Tree)) (ts : List Tree) (old ss : List Standing) (before : List ℕ) (P : ℕ → ℕ → Type 0) → IsSpreading rs ts old ss before P → IsSpreading rs ts old ss (before ++ []) P
none_later rs ts old ss before P so_far = subst (λ l. IsSpreading rs ts old ss l P) (sym (append-nil before)) so_far

pub more_later : (rs : List (Option Tree)) (ts : List Tree) (old ss : List Standing) (before later last : List ℕ) (P : ℕ → ℕ → Type 0) → IsSpreading rs ts old ss ((before ++ later) ++ last) P → IsSpreading rs ts old ss (before ++ (later ++ last)) P
more_later rs ts old ss before later last P so_far = subst (λ l. IsSpreading rs ts old ss l P) (append_assoc before later last) so_far

-- a number is taken from the work
pub taken_up : (rs : List (Option Tree)) (ts : List Tree) (old ss : List Standing) (before work work' ns : List ℕ) (ps : List (Vec ℕ Global)) (x : ℕ) → work ≡ work' ++ x ∷ [] → ns ≡ list_at ps x → length ss ≡ length ts → AreLinked ts ps (length ts)
    → IsSpreading rs ts old ss before (λ w n. IsListed work w) → IsSpreading rs ts old ss before (IsLeft work' x ns 0)
taken_up rs ts old ss before work work' ns ps x is list long linked so_far = spread_on rs ts old ss before (λ w n. IsListed work w) so_far before (IsLeft work' x ns 0) (λ i m. m)
    (λ n o ids j id at here (k, due). inl (⊎_elim
    (λ a. inl (k, a))
    (λ (l, same).
    let q = linked n o ids (got_within ts n _ at.0) at j id here in
    let r : IsListed ns n = subst (λ l. IsListed l n) (sym list) (subst (λ w. IsListed (list_at ps w) n) (sym same) q) in
    inr (sym same, (r.0, omega arith, r.1)))
    (slice_get-last work' x id.0 k (subst (λ l. slice_get l k ≡ Some id.0) is due))))

-- and all that it is spread to was looked at
pub put_down : (rs : List (Option Tree)) (ts : List Tree) (old ss : List Standing) (before work ns : List ℕ) (x : ℕ) → IsSpreading rs ts old ss before (IsLeft work x ns (length ns)) → IsSpreading rs ts old ss before (λ w n. IsListed work w)
put_down rs ts old ss before work ns x so_far = spread_on rs ts old ss before (IsLeft work x ns (length ns)) so_far before (λ w n. IsListed work w) (λ i m. m)
    (λ n o ids j id at here due. inl (⊎_elim (λ a. a) (λ (same, (i, h, there)). absurd (omega (arith, h, got_within ns i n there))) due))

pub all_done : (rs : List (Option Tree)) (ts : List Tree) (old ss : List Standing) (before work : List ℕ) → work ≡ [] → IsSpreading rs ts old ss before (λ w n. IsListed work w) → IsSpreading rs ts old ss before (λ w n. ⊥)
all_done rs ts old ss before work is so_far = spread_on rs ts old ss before (λ w n. IsListed work w) so_far before (λ w n. ⊥) (λ i m. m)
    (λ n o ids j id at here (k, due). absurd (let h = got_within work k id.0 due in let z = ap length is in omega arith))

pub one_due : (rs : List (Option Tree)) (ts : List Tree) (old ss : List Standing) (before work : List ℕ) (x : ℕ) → work ≡ x ∷ [] → IsSpreading rs ts old ss before (λ w n. w ≡ x) → IsSpreading rs ts old ss before (λ w n. IsListed work w)
one_due rs ts old ss before work x is so_far = spread_on rs ts old ss before (λ w n. w ≡ x) so_far before (λ w n. IsListed work w) (λ i m. m)
    (λ n o ids j id at here due. inl (0, ap (λ l. slice_get l 0) is ∙ ap Some (sym due)))

pub none_left : (work : List ℕ) → length work ≡ 0 → work ≡ []
none_left [] e = refl
none_left (x ∷ work) e = absurd (omega arith)

-- an entry came
module _ (ts : List Tree) (ids : List NodeId) (ss : List Standing) (ix : IsIndexed ts ids ss) where
  made_stands : (n : ℕ) (t : Tree) → slice_get ts n ≡ Some t → is_some (made_for (rows_of (operands_at ts ids)) t) ≡ true → stands ss n ≡ true
  made_stands n t at some = let rs = rows_of (operands_at ts ids) in stands_here ss n (standing_of rs t) (right_all rs ts ss ix.right n t at) ∙ found_made rs t ∙ some

  stands_made : (n : ℕ) (t : Tree) → slice_get ts n ≡ Some t → stands ss n ≡ true → is_some (made_for (rows_of (operands_at ts ids)) t) ≡ true
  stands_made n t at e = let rs = rows_of (operands_at ts ids) in sym (found_made rs t) ∙ sym (stands_here ss n (standing_of rs t) (right_all rs ts ss ix.right n t at)) ∙ e

  -- whether these compose
  pub all_stand_is : (js : List NodeId) → AreUnder (length ts) js → all_stand ss js ≡ is_some (mades_for (rows_of (operands_at ts ids)) (trees_of (operands_at ts js)))
  all_stand_is js u = let rs = rows_of (operands_at ts ids) in all_made rs ts ss (length ts) (omega arith) (λ k t h at. right_all rs ts ss ix.right k t at) js u

  pub starts : (id : NodeId) (t : Tree) (ids' : List NodeId) (b : ℕ) → slice_get ts id.0 ≡ Some t → operands_at ts ids' ≡ operands_at ts ids ++ t ∷ [] → HavePlaces (rows_of (operands_at ts ids')) ts (set ss id.0 (At b))
      → IsSpreading (rows_of (operands_at ts ids')) ts ss (set ss id.0 (At b)) [] (λ w n. w ≡ id.0)
  starts id t ids' b at is places =
      let rs = rows_of (operands_at ts ids) in
      let later : rows_of (operands_at ts ids') ≡ rows_from rs (t ∷ []) = ap rows_of is ∙ rows_more [] (operands_at ts ids) (t ∷ []) in
      record {
        places = places;
        sound = λ k u there e. ⊎_elim
            (λ same.
            let own = set-same ss id.0 (At b) (standing_of rs t) (right_all rs ts ss ix.right id.0 t at) in
            let p = places.1 id.0 u (At b) (subst (λ x. slice_get ts x ≡ Some u) same there) own in
            ap is_some (made_leaf (rows_of (operands_at ts ids')) u b (sym p)))
            (λ before.
            let m = some_is (made_for rs u) (stands_made k u there before) in
            ap (λ l. is_some (made_for l u)) later ∙ ap is_some (made_later rs (t ∷ []) u m.0 m.1))
            (stands_set ss id.0 k (At b) e);
        complete = λ n o js own long all. ⊎_elim
            (λ before.
            let some = sym (all_stand_is js (under_more n (length ts) js (omega (arith, got_within ts n _ own.0)) own.1)) ∙ before in
            inl (stands_still ss id.0 n (At b) refl (made_stands n _ own.0 (made_node rs o (operands_at ts js) (operands_long ts js ∙ long) some))))
            (λ found. inr found)
            (all_or ss id.0 (At b) js all);
        tells = λ n o js j k i own here stood e. ⊎_elim (λ same. inr (inl same)) (λ before. inl before) (stands_set ss id.0 k.0 (At b) e);
      }

place_found : (s : Standing) (i : ℕ) → place_in s ≡ Some i → is_found s ≡ true
place_found Nowhere i e = cc
place_found Built i e = refl
place_found (At j) i e = refl

standing_is : (s : Standing) (p : Option ℕ) (b : Bool) → place_in s ≡ p → is_found s ≡ b → s ≡ standing p b
standing_is Nowhere p b e f = ap (λ q. standing q false) e ∙ ap (standing p) f
standing_is Built p b e f = ap (λ q. standing q true) e ∙ ap (standing p) f
standing_is (At i) p b e f = ap (λ q. standing q b) e

both_ways : (a b : Bool) → (a ≡ true → b ≡ true) → (b ≡ true → a ≡ true) → a ≡ b
both_ways true b h g = sym (h refl)
both_ways false true h g = g refl
both_ways false false h g = refl

-- where nothing is left to spread all is settled
module _ (rs : List (Option Tree)) (ts : List Tree) (old ss : List Standing) (told : List ℕ) (before : AreBefore ts) (over : IsSpreading rs ts old ss told (λ w n. ⊥)) where
  node_stands : (n : ℕ) (t : Tree) → n < length ts → slice_get ts n ≡ Some t → ((k : ℕ) (u : Tree) → k < n → slice_get ts k ≡ Some u → slice_get ss k ≡ Some (standing_of rs u)) → place rs t ≡ None → is_some (made_for rs t) ≡ true → stands ss n ≡ true
  node_stands n (leaf m) h at right free some = let no : false ≡ true = ap (λ p. is_some (option_map leaf p)) (sym free) ∙ some in cc
  node_stands n (node o us) h at right free some =
      let m = node_at ts n o us before at in
      let b = and_both (length (list_of us) == arity o) (is_some (mades_for rs us)) (sym (built_found o (length (list_of us) == arity o) (mades_for rs us)) ∙ ap (λ p. is_some (or_built p o (length (list_of us) == arity o) (mades_for rs us))) (sym free) ∙ some) in
      let long : length m.0 ≡ arity o = sym (operands_long ts m.0) ∙ ap length m.2 ∙ eqb-true (length (list_of us)) (arity o) b.0 in
      let all : all_stand ss m.0 ≡ true = all_made rs ts ss n (omega (arith, h)) right m.0 m.1.1 ∙ ap (λ l. is_some (mades_for rs (trees_of l))) m.2 ∙ ap (λ l. is_some (mades_for rs l)) (trees_of-list_of us) ∙ b.1 in
      ⊎_elim (λ a. a) (λ (j, id, here, due). absurd due) (over.complete n o m.0 m.1 long all)

  right_at : (n : ℕ) (t : Tree) → n < length ts → slice_get ts n ≡ Some t → ((k : ℕ) (u : Tree) → k < n → slice_get ts k ≡ Some u → slice_get ss k ≡ Some (standing_of rs u)) → slice_get ss n ≡ Some (standing_of rs t)
  right_at n t h at right =
      let own = slice_get-there ss n (omega (arith, h, over.places.0)) in
      let place_is = over.places.1 n t own.0 at own.1 in
      let found = both_ways (is_found own.0) (is_some (made_for rs t))
      (λ e. over.sound n t at (stands_here ss n own.0 own.1 ∙ e))
      (λ e. ⊎_elim
      (λ (i, p). place_found own.0 i (place_is ∙ p))
      (λ free. sym (stands_here ss n own.0 own.1) ∙ node_stands n t h at right free e)
      (optional (place rs t))) in
      own.1 ∙ ap Some (standing_is own.0 (place rs t) (is_some (made_for rs t)) place_is found)

  settled_to : (n : ℕ) → n ≤ length ts → IsSettling rs ts ss n
  settled_to zero h = record { long = over.places.0; places = over.places.1; right = λ k t l at. absurd (omega arith) }
  settled_to (suc n) h =
      let i = settled_to n (omega (arith, h)) in
      record {
        long = over.places.0;
        places = over.places.1;
        right = λ k t l at. ⊎_elim
            (λ a. i.right k t a at)
            (λ b. subst (λ m. slice_get ss m ≡ Some (standing_of rs t)) (sym b) (right_at n t (omega (arith, h)) (subst (λ m. slice_get ts m ≡ Some t) b at) i.right))
            (below_or_last k n (omega (arith, l)));
      }

  pub ends : ss ≡ standings_of rs ts
  ends = all_settled rs ts ss (length ts) (settled_to (length ts) (omega arith)) (omega arith)

  -- first operands that are found now were found before, or the entry is told
  all_told : (n : ℕ) (o : Op) (js : List NodeId) (i : ℕ) → IsNode ts n o js → slice_get ss n ≡ Some (At i) → (xs : List NodeId) → ((j : ℕ) (id : NodeId) → slice_get xs j ≡ Some id → (k : ℕ) × (slice_get js k ≡ Some id)) → all_stand ss xs ≡ true → (all_stand old xs ≡ true) ⊎ IsListed told i
  all_told n o js i at own [] among e = inl refl
  all_told n o js i at own (x ∷ xs) among e =
      let b = and_both (stands ss x.0) (all_stand ss xs) e in
      let k = among 0 x refl in
      ⊎_elim
      (λ a. ⊎_elim (λ c. inl (ap (λ y. y && all_stand old xs) a ∙ c)) (λ c. inr c) (all_told n o js i at own xs (λ j id h. among (suc j) id h) b.1))
      (λ c. ⊎_elim (λ due. absurd due) (λ d. inr d) c)
      (over.tells n o js k.0 x i at k.1 own b.0)

  pub told_of : (n : ℕ) (o : Op) (js : List NodeId) (i m : ℕ) → IsNode ts n o js → slice_get ss n ≡ Some (At i) → all_stand ss (take m js) ≡ true → (all_stand old (take m js) ≡ true) ⊎ IsListed told i
  told_of n o js i m at own e = all_told n o js i at own (take m js) (λ j id h. (j, taken m js j id h)) e

-- which entries are touched
module _ (ts : List Tree) (ids ids' : List NodeId) (ss ss' : List Standing) (ix : IsIndexed ts ids ss) (ix' : IsIndexed ts ids' ss') (before : AreBefore ts) (t : Tree) (is : operands_at ts ids' ≡ operands_at ts ids ++ t ∷ []) (told : List ℕ)
    (told_of : (n : ℕ) (o : Op) (js : List NodeId) (i m : ℕ) → IsNode ts n o js → slice_get ss' n ≡ Some (At i) → all_stand ss' (take m js) ≡ true → (all_stand ss (take m js) ≡ true) ⊎ IsListed told i) where
  rows_are : rows_of (operands_at ts ids') ≡ rows_from (rows_of (operands_at ts ids)) (t ∷ [])
  rows_are = ap rows_of is ∙ rows_more [] (operands_at ts ids) (t ∷ [])

  touched_old : (i : ℕ) (o : Op) (us : Trees) (n : ℕ) (ms : Trees) → slice_get (rows_of (operands_at ts ids)) i ≡ Some (Some (node o us)) → slice_get (rows_of (operands_at ts ids')) i ≡ Some (Some (node o us))
      → mades_for (rows_of (operands_at ts ids')) (trees_of (take n (list_of us))) ≡ Some ms
      → (mades_for (rows_of (operands_at ts ids)) (trees_of (take n (list_of us))) ≡ Some ms) ⊎ IsListed told i
  touched_old i o us n ms row row' made =
      let rs = rows_of (operands_at ts ids) in
      let rs' = rows_of (operands_at ts ids') in
      let m = numbered ts ids' i (node o us) ix'.under (row_term (operands_at ts ids') i (node o us) row') in
      let js = node_at ts m.0 o us before m.2 in
      let p : standing_of rs' (node o us) ≡ At i = ap (λ q. standing q (is_some (made_for rs' (node o us)))) (place_own (operands_at ts ids') i (node o us) row') in
      let own : slice_get ss' m.0 ≡ Some (At i) = right_all rs' ts ss' ix'.right m.0 (node o us) m.2 ∙ ap Some p in
      let under = under_take (length ts) n js.0 (under_more m.0 (length ts) js.0 (omega (arith, m.1)) js.1.1) in
      let same : operands_at ts (take n js.0) ≡ take n (list_of us) = operands_take ts n js.0 ∙ ap (take n) js.2 in
      let all : all_stand ss' (take n js.0) ≡ true = all_stand_is ts ids' ss' ix' (take n js.0) under ∙ ap (λ l. is_some (mades_for rs' (trees_of l))) same ∙ ap is_some made in
      ⊎_elim
      (λ a.
      let s = some_is (mades_for rs (trees_of (take n (list_of us)))) (ap (λ l. is_some (mades_for rs (trees_of l))) (sym same) ∙ sym (all_stand_is ts ids ss ix (take n js.0) under) ∙ a) in
      let l = mades_later rs (t ∷ []) (trees_of (take n (list_of us))) s.0 s.1 in
      let q : mades_for rs' (trees_of (take n (list_of us))) ≡ Some s.0 = ap (λ r. mades_for r (trees_of (take n (list_of us)))) rows_are ∙ l in
      let z : Some s.0 ≡ Some ms = sym q ∙ made in
      inl (s.1 ∙ z))
      (λ b. inr b)
      (told_of m.0 o js.0 i n js.1 own all)

  pub touched_by : (b : ℕ) → b ≡ length ids → AreTouched (rows_of (operands_at ts ids)) (rows_of (operands_at ts ids')) (b ∷ told)
  touched_by b long i o us n ms row made =
      let rs = rows_of (operands_at ts ids) in
      let wide : length rs ≡ length ids = omega (arith, length_rows [] (operands_at ts ids), operands_long ts ids) in
      ⊎_elim
      (λ old. ⊎_elim (λ a. inl (old, a)) (λ (k, e). inr (suc k, e)) (touched_old i o us n ms old row made))
      (λ (last, new). inr (0, ap Some (long ∙ sym wide ∙ sym last)))
      (slice_get-last rs (row_unless (made_for rs t) t) (Some (node o us)) i (subst (λ l. slice_get l i ≡ Some (Some (node o us))) rows_are row))
