-- Where the terms of a pool are found, while entries come and go.
use Rattle.std.proofs.Common.{◌≡◌, ℕ, zero, suc, ◌+◌, ◌-◌, ◌<◌, ◌≤◌, List, [], ◌∷◌, ◌++◌, length, map, take, drop, get_or, Bool, true, false, cond, ◌&&◌, Option, Some, None, is_some, option_map, Vec, Global, refl, sym, ap, ◌∙◌, subst, arith, length-append, length-take-le, take-append-drop, append_assoc, inl, inr, ◌⊎◌, ⊎_elim}
use Rattle.std.specs.Prelude.{slice_get, unwrap_or, ◌==◌, replicate}
use Rattle.std.specs.List.{AllByRecursion}
use Rattle.std.proofs.Math.ListN.{set, length-set}
use Rattle.std.proofs.lemmas.Bool.{le-ltb, lt-ltb}
use Rattle.std.proofs.Math.Seq.{take-append_seam}
use Rattle.std.proofs.lemmas.List.{length-map, append-nil, drop_more, length-replicate}
use Rattle.std.proofs.lemmas.Option.{slice_get-get_or}
use Rattle.anb_lemmas.proofs.Numbers.{below_or_last}
use Rattle.anb_lemmas.proofs.Options.{mapped_from}
use Rattle.anb_lemmas.proofs.Lists.{got_within, map_same, lists_same}
use Rattle.anb_term.specs.declared.term.Op.{Op}
use Rattle.anb_term.specs.Tree.{Tree, leaf, node, Trees, none, more, trees_of, list_of}
use Rattle.anb_term.specs.TreeSame.{list_of-trees_of}
use Rattle.anb_term.specs.Operator.{arity}
use Rattle.anb_term.proofs.Lists.{slice_get-append, slice_get-at, slice_get-map, slice_get-there, set-other, set-same, tree_differs}
use Rattle.anb_intern.specs.declared.node.NodeId.{NodeId}
use Rattle.anb_intern.specs.declared.node.Node.{Node}
use Rattle.anb_intern.specs.declared.node.Node.TheVariants.{Atom, Apply}
use Rattle.anb_intern.specs.Nodes.{operands_at, tree_at, AreUnder, IsOver, AreDistinct}
use Rattle.anb_intern.proofs.Nodes.{operands_stay, under_take, under_more, operands_long, operands_take}
use Rattle.anb_intern.proofs.Putting.{operands_last, under_last}
use Rattle.anb_close.specs.Rows.{is_at, place, both_more, or_built, made_for, mades_for, row_unless, rows_of}
use Rattle.anb_close.specs.Entries.{is_double}
use Rattle.anb_close.specs.Standings.{standing, standing_of, standings_of, place_in, is_found, all_stand, is_ready, cleared, IsIndexed, IsSettling}
use Rattle.anb_close.specs.Spreading.{HavePlaces}
use Rattle.anb_close.specs.declared.index.Standing.{Standing}
use Rattle.anb_close.specs.declared.index.Standing.TheVariants.{Nowhere, Built, At}
use Rattle.anb_close.proofs.Rows.{optional, place_at, row_term, made_leaf, place_more, place_last, unplaced, length_rows, rows_more, none_step}
use Rattle.anb_close.proofs.Growing.{prefix}

-- what a standing says
pub place_standing : (p : Option ℕ) (b : Bool) → place_in (standing p b) ≡ p
place_standing None true = refl
place_standing None false = refl
place_standing (Some i) b = refl

found_from : (p : Option ℕ) (b : Bool) → ((i : ℕ) → p ≡ Some i → b ≡ true) → is_found (standing p b) ≡ b
found_from None true h = refl
found_from None false h = refl
found_from (Some i) b h = sym (h i refl)

pub found_made : (rs : List (Option Tree)) (t : Tree) → is_found (standing_of rs t) ≡ is_some (made_for rs t)
found_made rs t = found_from (place rs t) (is_some (made_for rs t)) (λ i e. ap is_some (made_leaf rs t i e))

is_double_made : (o : Option Tree) (t : Tree) → is_some o ≡ is_double (row_unless o t)
is_double_made None t = refl
is_double_made (Some m) t = refl

pub found_double : (rs : List (Option Tree)) (t : Tree) → is_found (standing_of rs t) ≡ is_double (row_unless (made_for rs t) t)
found_double rs t = found_made rs t ∙ is_double_made (made_for rs t) t

-- where a number stands
pub stands_at : (rs : List (Option Tree)) (ts : List Tree) (ss : List Standing) (n : ℕ) (t : Tree) (s : Standing) → ss ≡ standings_of rs ts → slice_get ts n ≡ Some t → n < length ss → s ≡ get_or ss n s → s ≡ standing_of rs t
stands_at rs ts ss n t s is at h own =
    let a = slice_get-at ss n s h own in
    let b : slice_get ss n ≡ Some (standing_of rs t) = ap (λ l. slice_get l n) is ∙ slice_get-map (standing_of rs) ts n t at in
    cc

pub standings_long : (rs : List (Option Tree)) (ts : List Tree) (ss : List Standing) → ss ≡ standings_of rs ts → length ss ≡ length ts
standings_long rs ts ss is = ap length is ∙ length-map ts (standing_of rs)

pub find_stands : (ts : List Tree) (ids : List NodeId) (ss : List Standing) (n : ℕ) (t : Tree) (s : Standing) → IsIndexed ts ids ss → slice_get ts n ≡ Some t → s ≡ get_or ss n s → place_in s ≡ place (rows_of (operands_at ts ids)) t
find_stands ts ids ss n t s ix at own =
    let rs = rows_of (operands_at ts ids) in
    let h : n < length ss = omega (arith, got_within ts n t at, standings_long rs ts ss ix.right) in
    ap place_in (stands_at rs ts ss n t s ix.right at h own) ∙ place_standing (place rs t) (is_some (made_for rs t))

-- an entry's term has a number
pub numbered : (ts : List Tree) (ids : List NodeId) (i : ℕ) (t : Tree) → AreUnder (length ts) ids → slice_get (operands_at ts ids) i ≡ Some t → (n : ℕ) × (n < length ts) × (slice_get ts n ≡ Some t)
numbered ts [] i t u e = cc
numbered ts (j ∷ ids) zero t u e =
    let there = slice_get-there ts j.0 u.0 in
    let a : unwrap_or (slice_get ts j.0) (leaf 0) ≡ t = cc in
    (j.0, u.0, there.1 ∙ ap Some (sym (ap (λ o. unwrap_or o (leaf 0)) there.1) ∙ a))
numbered ts (j ∷ ids) (suc i) t u e = numbered ts ids i t u.1 e

-- what has no number has no place
pub unplaced_by : (terms : List Tree) (t : Tree) → ((i : ℕ) → slice_get terms i ≡ Some t → ⊥) → None ≡ place (rows_of terms) t
unplaced_by terms t never =
    ⊎_elim (λ (i, p). absurd (never i (row_term terms i t (place_at (rows_of terms) t i p)))) (λ p. sym p) (optional (place (rows_of terms) t))

-- operands that are all found have compositions
pub both_found : (a : Option Tree) (b : Option Trees) → is_some (both_more a b) ≡ is_some a && is_some b
both_found None b = refl
both_found (Some m) None = refl
both_found (Some m) (Some ms) = refl

pub all_made : (rs : List (Option Tree)) (ts : List Tree) (ss : List Standing) (n : ℕ) → n ≤ length ts → ((k : ℕ) (t : Tree) → k < n → slice_get ts k ≡ Some t → slice_get ss k ≡ Some (standing_of rs t))
    → (ids : List NodeId) → AreUnder n ids → all_stand ss ids ≡ is_some (mades_for rs (trees_of (operands_at ts ids)))
all_made rs ts ss n h right [] u = refl
all_made rs ts ss n h right (j ∷ ids) u =
    let there = slice_get-there ts j.0 (omega (arith, h, u.0)) in
    let t = unwrap_or (slice_get ts j.0) (leaf 0) in
    let is : t ≡ there.0 = ap (λ o. unwrap_or o (leaf 0)) there.1 in
    let at = right j.0 there.0 u.0 there.1 in
    let f : is_found (unwrap_or (slice_get ss j.0) Nowhere) ≡ is_some (made_for rs t) = ap (λ o. is_found (unwrap_or o Nowhere)) at ∙ found_made rs there.0 ∙ ap (λ x. is_some (made_for rs x)) (sym is) in
    let g = all_made rs ts ss n h right ids u.1 in
    cc (f, g, both_found (made_for rs t) (mades_for rs (trees_of (operands_at ts ids))))

pub right_all : (rs : List (Option Tree)) (ts : List Tree) (ss : List Standing) → ss ≡ standings_of rs ts → (k : ℕ) (t : Tree) → slice_get ts k ≡ Some t → slice_get ss k ≡ Some (standing_of rs t)
right_all rs ts ss is k t at = ap (λ l. slice_get l k) is ∙ slice_get-map (standing_of rs) ts k t at

pub number_under : (m : ℕ) (ids : List NodeId) (i : ℕ) (id : NodeId) → AreUnder m ids → i < length ids → id ≡ get_or ids i id → id.0 < m
number_under m [] i id u h e = absurd (omega arith)
number_under m (j ∷ ids) zero id u h e = let s : id.0 ≡ j.0 = ap (λ (x : NodeId). x.0) e in omega (arith, s, u.0)
number_under m (j ∷ ids) (suc i) id u h e = number_under m ids i id u.1 (omega arith) e

pub number_is : (ts : List Tree) (ids : List NodeId) (i : ℕ) (id : NodeId) (t : Tree) → i < length ids → id ≡ get_or ids i id → slice_get ts id.0 ≡ Some t → slice_get (operands_at ts ids) i ≡ Some t
number_is ts [] i id t h e at = absurd (omega arith)
number_is ts (j ∷ ids) zero id t h e at = let s : id ≡ j = e in ap Some (ap (λ (x : NodeId). unwrap_or (slice_get ts x.0) (leaf 0)) (sym s) ∙ ap (λ o. unwrap_or o (leaf 0)) at)
number_is ts (j ∷ ids) (suc i) id t h e at = number_is ts ids i id t (omega arith) e at

pub front_composes : (rs : List (Option Tree)) (ts : List Tree) (ss : List Standing) (ids : List NodeId) (n : ℕ) (us : Trees) → ss ≡ standings_of rs ts → AreUnder (length ts) ids → us ≡ trees_of (operands_at ts ids)
    → all_stand ss (take n ids) ≡ is_some (mades_for rs (trees_of (take n (list_of us))))
front_composes rs ts ss ids n us is u e =
    all_made rs ts ss (length ts) (omega arith) (λ k t h at. right_all rs ts ss is k t at) (take n ids) (under_take (length ts) n ids u)
    ∙ ap (λ l. is_some (mades_for rs (trees_of l))) (operands_take ts n ids ∙ ap (take n) (sym (ap list_of e ∙ list_of-trees_of (operands_at ts ids))))

-- one write, and what it leaves
pub set_either : {A : Type 0} (xs : List A) (i k : ℕ) (v x : A) → slice_get (set xs i v) k ≡ Some x → ((k ≡ i) × (x ≡ v)) ⊎ ((i ≡ k → ⊥) × (slice_get xs k ≡ Some x))
set_either [] i k v x e = cc
set_either (y ∷ xs) zero zero v x e = inl (refl, let s : x ≡ v = cc in s)
set_either (y ∷ xs) zero (suc k) v x e = inr ((λ z. absurd (omega arith)), e)
set_either (y ∷ xs) (suc i) zero v x e = inr ((λ z. absurd (omega arith)), e)
set_either (y ∷ xs) (suc i) (suc k) v x e = ⊎_elim (λ (a, b). inl (ap suc a, b)) (λ (a, b). inr ((λ z. a (omega arith)), b)) (set_either xs i k v x e)

-- a node composes without an entry exactly where it is ready
pub built_found : (o : Op) (b : Bool) (ms : Option Trees) → is_some (or_built None o b ms) ≡ b && is_some ms
built_found o false ms = refl
built_found o true None = refl
built_found o true (Some ms) = refl

entry_is : (s : Standing) (p : Option ℕ) (b : Bool) → is_some (place_in s) ≡ true → place_in s ≡ p → s ≡ standing p b
entry_is Nowhere p b e f = cc
entry_is Built p b e f = cc
entry_is (At i) p b e f = ap (λ q. standing q b) f

none_is : (p : Option ℕ) → is_some p ≡ false → p ≡ None
none_is None e = refl
none_is (Some i) e = cc

ready_made : (rs : List (Option Tree)) (ts : List Tree) (ss : List Standing) (n : ℕ) → n ≤ length ts → ((k : ℕ) (t : Tree) → k < n → slice_get ts k ≡ Some t → slice_get ss k ≡ Some (standing_of rs t))
    → (k : Node) → IsOver n k → place rs (tree_at ts k) ≡ None → is_ready ss k ≡ is_some (made_for rs (tree_at ts k))
ready_made rs ts ss n h right (Atom m) over free = ap (λ p. is_some (option_map leaf p)) (sym free)
ready_made rs ts ss n h right (Apply o ids) over free =
    let us = trees_of (operands_at ts ids.items) in
    let l : (length (list_of us) == arity o) ≡ (length ids.items == arity o) = ap (λ m. m == arity o) (ap length (list_of-trees_of (operands_at ts ids.items)) ∙ operands_long ts ids.items) in
    ap (λ b. (length ids.items == arity o) && b) (all_made rs ts ss n h right ids.items over)
    ∙ ap (λ b. b && is_some (mades_for rs us)) (sym l)
    ∙ sym (built_found o (length (list_of us) == arity o) (mades_for rs us))
    ∙ ap (λ p. is_some (or_built p o (length (list_of us) == arity o) (mades_for rs us))) (sym free)

-- one number more
pub stand_step : (ss : List Standing) (ids : List NodeId) (i : ℕ) (d : NodeId) (e : Standing) → i < length ids → (get_or ids i d).0 < length ss → all_stand ss (drop i ids) ≡ is_found (get_or ss (get_or ids i d).0 e) && all_stand ss (drop (i + 1) ids)
stand_step ss ids i d e h k =
    let id = get_or ids i d in
    ap (all_stand ss) (drop_more ids i d h) ∙ ap (λ o. is_found (unwrap_or o Nowhere) && all_stand ss (drop (i + 1) ids)) (slice_get-get_or ss id.0 e k)

pub stand_stops : (ss : List Standing) (ids : List NodeId) (i : ℕ) (d : NodeId) (e : Standing) (b : Bool) → i < length ids → (get_or ids i d).0 < length ss → b ≡ is_found (get_or ss (get_or ids i d).0 e) → b ≡ false → b ≡ all_stand ss (drop i ids)
stand_stops ss ids i d e b h k is off = sym (stand_step ss ids i d e h k ∙ ap (λ x. x && all_stand ss (drop (i + 1) ids)) (sym is ∙ off) ∙ sym off)

pub stand_goes : (ss : List Standing) (ids : List NodeId) (i : ℕ) (d : NodeId) (e : Standing) (b : Bool) → i < length ids → (get_or ids i d).0 < length ss → b ≡ is_found (get_or ss (get_or ids i d).0 e) → b ≡ true → all_stand ss (drop i ids) ≡ all_stand ss (drop (i + 1) ids)
stand_goes ss ids i d e b h k is on = stand_step ss ids i d e h k ∙ ap (λ x. x && all_stand ss (drop (i + 1) ids)) (sym is ∙ on)

-- an entry's node
module _ (ts : List Tree) (ids : List NodeId) (ss : List Standing) (ix : IsIndexed ts ids ss) (i : ℕ) (id : NodeId) (h : i < length ids) (own : id ≡ get_or ids i id) (k : Node) (at : slice_get ts id.0 ≡ Some (tree_at ts k)) where
  entry_node : (o : Op) (us : Trees) → slice_get (operands_at ts ids) i ≡ Some (node o us) → tree_at ts k ≡ node o us
  entry_node o us e = let a = number_is ts ids i id (tree_at ts k) h own at in cc

  pub no_operands : (n : ℕ) → k ≡ Atom n → (o : Op) (us : Trees) → slice_get (operands_at ts ids) i ≡ Some (node o us) → ⊥
  no_operands n is o us e = let a = entry_node o us e in let b = ap (tree_at ts) is in cc

  pub operands_under : (p : Op) (js : Vec NodeId Global) → k ≡ Apply p js → IsOver id.0 k → AreUnder (length ss) js.items
  operands_under p js is over =
      let u : AreUnder id.0 js.items = subst (IsOver id.0) is over in
      under_more id.0 (length ss) js.items (omega (arith, got_within ts id.0 (tree_at ts k) at, standings_long (rows_of (operands_at ts ids)) ts ss ix.right)) u

  pub front_under : (p : Op) (js : Vec NodeId Global) (n : ℕ) → k ≡ Apply p js → IsOver id.0 k → AreUnder (length ss) (take n js.items)
  front_under p js n is over = under_take (length ss) n js.items (operands_under p js is over)

  operands_are : (p : Op) (js : Vec NodeId Global) → k ≡ Apply p js → (o : Op) (us : Trees) → slice_get (operands_at ts ids) i ≡ Some (node o us) → us ≡ trees_of (operands_at ts js.items)
  operands_are p js is o us e = let a = entry_node o us e in let b = ap (tree_at ts) is in cc

  within_pool : (p : Op) (js : Vec NodeId Global) → k ≡ Apply p js → IsOver id.0 k → AreUnder (length ts) js.items
  within_pool p js is over =
      let u : AreUnder id.0 js.items = subst (IsOver id.0) is over in
      under_more id.0 (length ts) js.items (omega (arith, got_within ts id.0 (tree_at ts k) at)) u

  pub front_is : (p : Op) (js : Vec NodeId Global) (n : ℕ) → k ≡ Apply p js → IsOver id.0 k → (o : Op) (us : Trees) → slice_get (operands_at ts ids) i ≡ Some (node o us)
      → all_stand ss (take n js.items) ≡ is_some (mades_for (rows_of (operands_at ts ids)) (trees_of (take n (list_of us))))
  front_is p js n is over o us e = front_composes (rows_of (operands_at ts ids)) ts ss js.items n us ix.right (within_pool p js is over) (operands_are p js is o us e)

-- rows where terms stand as before leave their compositions
module _ (rs rs' : List (Option Tree)) (Q : Tree → Type 0) (same : (t : Tree) → Q t → place rs' t ≡ place rs t) (below : (o : Op) (us : Trees) → Q (node o us) → AllByRecursion Q (list_of us)) where
  mutual
    pub made_same : (t : Tree) → Q t → made_for rs' t ≡ made_for rs t
    made_same (leaf n) q = ap (option_map leaf) (same (leaf n) q)
    made_same (node o us) q = ap (λ p. or_built p o (length (list_of us) == arity o) (mades_for rs' us)) (same (node o us) q) ∙ ap (or_built (place rs (node o us)) o (length (list_of us) == arity o)) (mades_same us (below o us q))

    mades_same : (us : Trees) → AllByRecursion Q (list_of us) → mades_for rs' us ≡ mades_for rs us
    mades_same none q = refl
    mades_same (more u us) q = ap (λ a. both_more a (mades_for rs' us)) (made_same u q.0) ∙ ap (both_more (made_for rs u)) (mades_same us q.1)

  pub standing_same : (t : Tree) → Q t → standing_of rs' t ≡ standing_of rs t
  standing_same t q = ap (λ p. standing p (is_some (made_for rs' t))) (same t q) ∙ ap (λ m. standing (place rs t) (is_some m)) (made_same t q)

place_skip : (rs : List (Option Tree)) (r : Option Tree) (t : Tree) → is_at r t ≡ false → place (rs ++ r ∷ []) t ≡ place rs t
place_skip [] r t f = rw f
place_skip (x ∷ rs) r t f = ap (λ p. cond (is_at x t) (Some 0) (option_map suc p)) (place_skip rs r t f)

any : (us : List Tree) → AllByRecursion (λ t. Unit {0}) us
any [] = tt
any (u ∷ us) = (tt, any us)

pub rows_next : (ts : List Tree) (ids : List NodeId) (id : NodeId) (t : Tree) → slice_get ts id.0 ≡ Some t → rows_of (operands_at ts (ids ++ id ∷ [])) ≡ rows_of (operands_at ts ids) ++ row_unless (made_for (rows_of (operands_at ts ids)) t) t ∷ []
rows_next ts ids id t at =
    ap rows_of (operands_last ts ids id ∙ ap (λ x. operands_at ts ids ++ x ∷ []) (ap (λ o. unwrap_or o (leaf 0)) at)) ∙ rows_more [] (operands_at ts ids) (t ∷ [])

pub row_found : (o : Option Tree) (t : Tree) (b : Bool) → is_double (row_unless o t) ≡ b → row_unless o t ≡ cond b None (Some t)
row_found None t b e = rw (← e)
row_found (Some m) t b e = rw (← e)

pub unmade : (o : Option Tree) (t : Tree) → is_double (row_unless o t) ≡ false → o ≡ None
unmade None t e = refl
unmade (Some m) t e = cc

module _ (ts : List Tree) (ids : List NodeId) (ss : List Standing) (ix : IsIndexed ts ids ss) (id : NodeId) (t : Tree) (at : slice_get ts id.0 ≡ Some t) where
  pub under_next : AreUnder (length ts) (ids ++ id ∷ [])
  under_next = under_last (length ts) (length ts) ids id (omega arith) (got_within ts id.0 t at) ix.under

  -- whether it is a double
  pub stands_found : (s : Standing) → s ≡ get_or ss id.0 s → is_found s ≡ is_found (standing_of (rows_of (operands_at ts ids)) t)
  stands_found s own =
      let rs = rows_of (operands_at ts ids) in
      ap is_found (stands_at rs ts ss id.0 t s ix.right at (omega (arith, got_within ts id.0 t at, standings_long rs ts ss ix.right)) own)

  pub double_is : (s : Standing) (b : Bool) → s ≡ get_or ss id.0 s → is_found s ≡ b → b ≡ is_double (row_unless (made_for (rows_of (operands_at ts ids)) t) t)
  double_is s b own e = sym e ∙ stands_found s own ∙ found_double (rows_of (operands_at ts ids)) t

  pub terms_next : (ids' : List NodeId) → ids' ≡ ids ++ id ∷ [] → operands_at ts ids' ≡ operands_at ts ids ++ t ∷ []
  terms_next ids' is = ap (operands_at ts) is ∙ operands_last ts ids id ∙ ap (λ x. operands_at ts ids ++ x ∷ []) (ap (λ o. unwrap_or o (leaf 0)) at)

  -- a further double
  pub push_double : (s : Standing) → s ≡ get_or ss id.0 s → is_found s ≡ true → IsIndexed ts (ids ++ id ∷ []) ss
  push_double s own e =
      let rs = rows_of (operands_at ts ids) in
      let found = sym (stands_found s own) ∙ e in
      let is : rows_of (operands_at ts (ids ++ id ∷ [])) ≡ rs ++ None ∷ [] = rows_next ts ids id t at ∙ ap (λ r. rs ++ r ∷ []) (row_found (made_for rs t) t true (sym (found_double rs t) ∙ found)) in
      record {
        under = under_next;
        right = ix.right ∙ map_same (standing_of rs) (standing_of (rs ++ None ∷ [])) ts (λ u. sym (standing_same rs (rs ++ None ∷ []) (λ x. Unit {0}) (λ x q. place_skip rs None x refl) (λ o us q. any (list_of us)) u tt))
            ∙ ap (λ l. standings_of l ts) (sym is);
      }

  -- a further entry that is none
  module _ (distinct : AreDistinct ts) (s : Standing) (own : s ≡ get_or ss id.0 s) (new : is_found s ≡ false) where
    other : (k : ℕ) (u : Tree) → (id.0 ≡ k → ⊥) → slice_get ts k ≡ Some u → is_at (Some t) u ≡ false
    other k u h here = tree_differs (is_at (Some t) u) t u refl (λ s. h (distinct id.0 k u (at ∙ ap Some s) here))

    -- it stands last
    placed : (rs : List (Option Tree)) (k : ℕ) (u : Tree) (s : Standing) → k ≡ id.0 → slice_get ts k ≡ Some u → s ≡ At (length ids) → made_for rs t ≡ None → length rs ≡ length ids → place_in s ≡ place (rs ++ Some t ∷ []) u
    placed rs k u s same here mine free long =
        let z : slice_get ts id.0 ≡ Some u = subst (λ n. slice_get ts n ≡ Some u) same here in
        let is : t ≡ u = cc in
        ap place_in mine ∙ ap Some (sym long) ∙ sym (place_last rs t (unplaced rs t free)) ∙ ap (place (rs ++ Some t ∷ [])) is

    -- and the others as before
    placed_other : (rs : List (Option Tree)) (k : ℕ) (u : Tree) (s : Standing) → ss ≡ standings_of rs ts → slice_get ts k ≡ Some u → slice_get ss k ≡ Some s → (id.0 ≡ k → ⊥) → place_in s ≡ place (rs ++ Some t ∷ []) u
    placed_other rs k u s right here old h =
        let a = right_all rs ts ss right k u here in
        let b : s ≡ standing_of rs u = cc in
        ap place_in b ∙ place_standing (place rs u) (is_some (made_for rs u)) ∙ sym (place_skip rs (Some t) u (other k u h here))

    places_new : HavePlaces (rows_of (operands_at ts (ids ++ id ∷ []))) ts (set ss id.0 (At (length ids)))
    places_new =
        let rs = rows_of (operands_at ts ids) in
        let lone = sym (double_is s false own new) in
        let free : made_for rs t ≡ None = unmade (made_for rs t) t lone in
        let is : rows_of (operands_at ts (ids ++ id ∷ [])) ≡ rs ++ Some t ∷ [] = rows_next ts ids id t at ∙ ap (λ r. rs ++ r ∷ []) (row_found (made_for rs t) t false lone) in
        let long : length rs ≡ length ids = omega (arith, length_rows [] (operands_at ts ids), operands_long ts ids) in
        subst (λ l. HavePlaces l ts (set ss id.0 (At (length ids)))) (sym is) (
          length-set ss id.0 (At (length ids)) ∙ standings_long rs ts ss ix.right,
          λ k u s here stands. ⊎_elim
              (λ (same, mine). placed rs k u s same here mine free long)
              (λ (h, old). placed_other rs k u s ix.right here old h)
              (set_either ss id.0 k (At (length ids)) s stands),
        )

    pub push_places : (ids' : List NodeId) (n : ℕ) → ids' ≡ ids ++ id ∷ [] → n ≡ length ids → AreUnder (length ts) ids' × HavePlaces (rows_of (operands_at ts ids')) ts (set ss id.0 (At n))
    push_places ids' n is long =
        let P : List NodeId → ℕ → Type 0 = λ l m. AreUnder (length ts) l × HavePlaces (rows_of (operands_at ts l)) ts (set ss id.0 (At m)) in
        subst (P ids') (sym long) (subst (λ l. P l (length ids)) (sym is) (under_next, places_new))

-- a term that is put in stands nowhere
nowhere_after : (ss : List Standing) (n k : ℕ) (s : Standing) → slice_get (ss ++ replicate n Nowhere) k ≡ Some s → (slice_get ss k ≡ Some s) ⊎ ((length ss ≤ k) × (s ≡ Nowhere))
nowhere_after [] n k s e = inr (omega arith, all_nowhere n k s e)
  where
    all_nowhere : (n k : ℕ) (s : Standing) → slice_get (replicate n Nowhere) k ≡ Some s → s ≡ Nowhere
    all_nowhere zero k s e = cc
    all_nowhere (suc n) zero s e = cc
    all_nowhere (suc n) (suc k) s e = all_nowhere n k s e
nowhere_after (x ∷ ss) n zero s e = inl e
nowhere_after (x ∷ ss) n (suc k) s e = ⊎_elim (λ a. inl a) (λ (h, b). inr (omega arith, b)) (nowhere_after ss n k s e)

pub front_get : {A : Type 0} (xs ys : List A) (k : ℕ) (x : A) → k < length xs → slice_get (xs ++ ys) k ≡ Some x → slice_get xs k ≡ Some x
front_get [] ys k x h e = absurd (omega arith)
front_get (y ∷ xs) ys zero x h e = e
front_get (y ∷ xs) ys (suc k) x h e = front_get xs ys k x (omega arith) e

settles_more : (ts later : List Tree) (ids : List NodeId) (ss : List Standing) (n : ℕ) → IsIndexed ts ids ss → AreDistinct (ts ++ later) → length (ss ++ replicate n Nowhere) ≡ length (ts ++ later)
    → AreUnder (length (ts ++ later)) ids × IsSettling (rows_of (operands_at (ts ++ later) ids)) (ts ++ later) (ss ++ replicate n Nowhere) (length ts)
settles_more ts later ids ss n ix distinct long =
    let rs = rows_of (operands_at ts ids) in
    let is : rows_of (operands_at (ts ++ later) ids) ≡ rs = ap rows_of (operands_stay ts later ids ix.under) in
    let same : length ss ≡ length ts = standings_long rs ts ss ix.right in (
      under_more (length ts) (length (ts ++ later)) ids (omega (arith, length-append ts later)) ix.under,
      subst (λ l. IsSettling l (ts ++ later) (ss ++ replicate n Nowhere) (length ts)) (sym is) (record {
        long = long;
        places = λ k u s here stands. ⊎_elim
            (λ old.
            let within = got_within ss k s old in
            let a = right_all rs ts ss ix.right k u (front_get ts later k u (omega arith) here) in
            let b : s ≡ standing_of rs u = cc in
            ap place_in b ∙ place_standing (place rs u) (is_some (made_for rs u)))
            (λ (h, nowhere). ap place_in nowhere ∙ unplaced_by (operands_at ts ids) u (λ i there.
            let m = numbered ts ids i u ix.under there in
            let z = distinct m.0 k u (slice_get-append ts later m.0 u m.2) here in
            absurd (omega (arith, m.1))))
            (nowhere_after ss n k s stands);
        right = λ k u h here. slice_get-append ss (replicate n Nowhere) k (standing_of rs u) (right_all rs ts ss ix.right k u (front_get ts later k u h here));
      }),
    )

pub put_more : (ts ts' : List Tree) (ids : List NodeId) (ss ss' : List Standing) (b n : ℕ) (later : List Tree) → IsIndexed ts ids ss → ts' ≡ ts ++ later → AreDistinct ts' → b ≡ length ts → n ≡ length ts' → ss' ≡ ss ++ replicate (n - length ss) Nowhere
    → AreUnder (length ts') ids × IsSettling (rows_of (operands_at ts' ids)) ts' ss' b
put_more ts ts' ids ss ss' b n later ix is distinct first count padded =
    let same : length ss ≡ length ts = standings_long (rows_of (operands_at ts ids)) ts ss ix.right in
    let m = n - length ss in
    let long : length (ss ++ replicate m Nowhere) ≡ length (ts ++ later) = omega (arith, length-append ss (replicate m Nowhere), length-replicate m Nowhere, same, count, ap length is, length-append ts later) in
    let P : List Tree → List Standing → ℕ → Type 0 = λ l x k. AreUnder (length l) ids × IsSettling (rows_of (operands_at l ids)) l x k in
    subst (P ts' ss') (sym first) (subst (λ x. P ts' x (length ts)) (sym padded) (subst (λ l. P l (ss ++ replicate m Nowhere) (length ts)) (sym is) (settles_more ts later ids ss m ix (subst AreDistinct is distinct) long)))

-- and where it is taken out again all is as before
pub put_back : (ts ts' ts'' later : List Tree) (n : ℕ) → ts' ≡ ts ++ later → n ≡ length ts → ts'' ≡ take n ts' → ts'' ≡ ts
put_back ts ts' ts'' later n is long back = back ∙ ap (take n) is ∙ ap (λ k. take k (ts ++ later)) long ∙ take-append_seam ts later

pub stay_more : (ts ts' later : List Tree) (ids : List NodeId) → ts' ≡ ts ++ later → AreUnder (length ts) ids → operands_at ts' ids ≡ operands_at ts ids
stay_more ts ts' later ids is u = ap (λ l. operands_at l ids) is ∙ operands_stay ts later ids u

-- one number more is settled
module _ (rs : List (Option Tree)) (ts : List Tree) (ss : List Standing) (n : ℕ) (so_far : IsSettling rs ts ss n) (h : n < length ts) (s : Standing) (own : s ≡ get_or ss n s) where
  here_stands : slice_get ss n ≡ Some s
  here_stands = slice_get-at ss n s (omega (arith, so_far.long)) own

  next_right : (ss' : List Standing) (k : ℕ) (t : Tree) → ((k : ℕ) (t : Tree) → k < n → slice_get ts k ≡ Some t → slice_get ss' k ≡ Some (standing_of rs t)) → ((u : Tree) → slice_get ts n ≡ Some u → slice_get ss' n ≡ Some (standing_of rs u))
      → k < n + 1 → slice_get ts k ≡ Some t → slice_get ss' k ≡ Some (standing_of rs t)
  next_right ss' k t old new l at = ⊎_elim (λ a. old k t a at) (λ b. subst (λ m. slice_get ss' m ≡ Some (standing_of rs t)) (sym b) (new t (subst (λ m. slice_get ts m ≡ Some t) b at))) (below_or_last k n l)

  pub settle_entry : is_some (place_in s) ≡ true → IsSettling rs ts ss (n + 1)
  settle_entry e = record {
    long = so_far.long;
    places = so_far.places;
    right = λ k t l at. next_right ss k t so_far.right (λ u here. here_stands ∙ ap Some (entry_is s (place rs u) (is_some (made_for rs u)) e (so_far.places n u s here here_stands))) l at;
  }

  pub settle_other : (k : Node) (v : Standing) → is_some (place_in s) ≡ false → slice_get ts n ≡ Some (tree_at ts k) → IsOver n k → v ≡ standing None (is_ready ss k) → IsSettling rs ts (set ss n v) (n + 1)
  settle_other k v some at over is = let empty = none_is (place_in s) some in record {
    long = omega (arith, length-set ss n v, so_far.long);
    places = λ j t x here stands. ⊎_elim
        (λ (same, mine).
        let q : slice_get ts n ≡ Some t = subst (λ m. slice_get ts m ≡ Some t) same here in
        ap place_in (mine ∙ is) ∙ place_standing None (is_ready ss k) ∙ sym empty ∙ so_far.places n t s q here_stands)
        (λ (l, old). so_far.places j t x here old)
        (set_either ss n j v x stands);
    right = λ j t l here. next_right (set ss n v) j t
        (λ m u b there. set-other ss n m v (standing_of rs u) (so_far.right m u b there) (λ e. absurd (omega arith)))
        (λ u there.
        let q : tree_at ts k ≡ u = cc in
        let free : place rs (tree_at ts k) ≡ None = sym (so_far.places n (tree_at ts k) s at here_stands) ∙ empty in
        let mine : v ≡ standing_of rs (tree_at ts k) = is ∙ ap (standing None) (ready_made rs ts ss n (omega arith) so_far.right k over free) ∙ ap (λ p. standing p (is_some (made_for rs (tree_at ts k)))) (sym free) in
        set-same ss n v s here_stands ∙ ap Some (mine ∙ ap (standing_of rs) q))
        l here;
  }

pub all_settled : (rs : List (Option Tree)) (ts : List Tree) (ss : List Standing) (n : ℕ) → IsSettling rs ts ss n → length ts ≤ n → ss ≡ standings_of rs ts
all_settled rs ts ss n so_far h = lists_same ss (standings_of rs ts) (so_far.long ∙ sym (length-map ts (standing_of rs))) (λ k s at.
    let there = slice_get-there ts k (omega (arith, so_far.long, got_within ss k s at)) in
    let a = so_far.right k there.0 (omega (arith, h, so_far.long, got_within ss k s at)) there.1 in
    let b : s ≡ standing_of rs there.0 = cc in
    slice_get-map (standing_of rs) ts k there.0 there.1 ∙ ap Some (sym b))

cleared_place : (b : ℕ) (p q : Option ℕ) (s : Standing) → place_in s ≡ q → ((i : ℕ) → p ≡ Some i → (q ≡ Some i) × (i < b)) → (p ≡ None → (i : ℕ) → q ≡ Some i → b ≤ i) → place_in (cleared b s) ≡ p
cleared_place b None q Nowhere e h g = refl
cleared_place b None q Built e h g = refl
cleared_place b None q (At i) e h g = rw (le-ltb i b (g refl i (sym e)))
cleared_place b (Some i) q Nowhere e h g = let a = h i refl in let no : None ≡ Some i = e ∙ a.0 in cc
cleared_place b (Some i) q Built e h g = let a = h i refl in let no : None ≡ Some i = e ∙ a.0 in cc
cleared_place b (Some i) q (At j) e h g = let a = h i refl in let z : Some j ≡ Some i = e ∙ a.0 in let y : j ≡ i = cc in rw (y, lt-ltb i b a.1)

place_back : (rs xs : List (Option Tree)) (t : Tree) → place rs t ≡ None → (i : ℕ) → place (rs ++ xs) t ≡ Some i → length rs ≤ i
place_back [] xs t unless i e = omega arith
place_back (r ∷ rs) xs t unless i e =
    let h = none_step (is_at r t) (place rs t) unless in
    let s : option_map suc (place (rs ++ xs) t) ≡ Some i = sym (ap (λ b. cond b (Some 0) (option_map suc (place (rs ++ xs) t))) h.0) ∙ e in
    let m = mapped_from suc (place (rs ++ xs) t) i s in
    omega (arith, place_back rs xs t h.1 m.0 m.1, m.2)

place_front : (rs xs : List (Option Tree)) (t : Tree) (i : ℕ) → place rs t ≡ Some i → place (rs ++ xs) t ≡ Some i
place_front rs [] t i e = rw (append-nil rs) e
place_front rs (x ∷ xs) t i e = rw (← append_assoc rs (x ∷ []) xs) (place_front (rs ++ x ∷ []) xs t i (place_more rs x t i e))

-- the places of the first entries
pub places_back : (rs xs : List (Option Tree)) (ts : List Tree) (ss : List Standing) (b : ℕ) → length rs ≡ b → HavePlaces (rs ++ xs) ts ss → HavePlaces rs ts (map (cleared b) ss)
places_back rs xs ts ss b long places = (
  length-map ss (cleared b) ∙ places.0,
  λ k t s here stands.
      let own = slice_get-there ss k (omega (arith, places.0, got_within ts k t here)) in
      let a = slice_get-map (cleared b) ss k own.0 own.1 in
      let is : s ≡ cleared b own.0 = cc in
      ap place_in is ∙ cleared_place b (place rs t) (place (rs ++ xs) t) own.0 (places.1 k t own.0 here own.1)
      (λ i e. (place_front rs xs t i e, omega (arith, long, got_within rs i (Some t) (place_at rs t i e))))
      (λ unless i e. omega (arith, long, place_back rs xs t unless i e)),
)

pub right_places : (rs : List (Option Tree)) (ts : List Tree) (ss : List Standing) → ss ≡ standings_of rs ts → HavePlaces rs ts ss
right_places rs ts ss right = (
  standings_long rs ts ss right,
  λ k t s here stands.
      let a = right_all rs ts ss right k t here in
      let is : s ≡ standing_of rs t = cc in
      ap place_in is ∙ place_standing (place rs t) (is_some (made_for rs t)),
)

pub settling_none : (rs : List (Option Tree)) (ts : List Tree) (ss : List Standing) → HavePlaces rs ts ss → IsSettling rs ts ss 0
settling_none rs ts ss places = record { long = places.0; places = places.1; right = λ k t l here. absurd (omega arith) }

rows_front : (ts : List Tree) (ids : List NodeId) (at : ℕ) → (xs : List (Option Tree)) × (rows_of (operands_at ts ids) ≡ rows_of (operands_at ts (take at ids)) ++ xs)
rows_front ts ids at =
    let all = operands_at ts ids in
    let rs' = rows_of (operands_at ts (take at ids)) in
    let p = prefix rs' (drop at all) in
    (p.0, ap rows_of (sym (take-append-drop at all) ∙ ap (λ l. l ++ drop at all) (sym (operands_take ts at ids))) ∙ rows_more [] (operands_at ts (take at ids)) (drop at all) ∙ p.1)

pub cut_places : (ts : List Tree) (ids ids' : List NodeId) (ss : List Standing) (at : ℕ) → at ≤ length ids → ids' ≡ take at ids → HavePlaces (rows_of (operands_at ts ids)) ts ss → HavePlaces (rows_of (operands_at ts ids')) ts (map (cleared at) ss)
cut_places ts ids ids' ss at h is places =
    let f = rows_front ts ids at in
    let rs' = rows_of (operands_at ts (take at ids)) in
    let long : length rs' ≡ at = omega (arith, length_rows [] (operands_at ts (take at ids)), operands_long ts (take at ids), length-take-le at ids h) in
    subst (λ l. HavePlaces (rows_of (operands_at ts l)) ts (map (cleared at) ss)) (sym is) (places_back rs' f.0 ts ss at long (subst (λ l. HavePlaces l ts ss) f.1 places))

pub cut_under : (ts : List Tree) (ids ids' : List NodeId) (at : ℕ) → ids' ≡ take at ids → AreUnder (length ts) ids → AreUnder (length ts) ids'
cut_under ts ids ids' at is u = subst (AreUnder (length ts)) (sym is) (under_take (length ts) at ids u)

pub cut_terms : (ts : List Tree) (ids ids' : List NodeId) (at : ℕ) → ids' ≡ take at ids → operands_at ts ids' ≡ take at (operands_at ts ids)
cut_terms ts ids ids' at is = ap (operands_at ts) is ∙ operands_take ts at ids
