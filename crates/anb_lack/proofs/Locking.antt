-- Terms that can't be undone, and what stands in them, by the numbers of a pool.
use Rattle.std.proofs.Common.{◌≡◌, ℕ, ◌+◌, ◌<◌, List, [], ◌∷◌, ◌++◌, length, map, drop, get_or, Bool, true, false, ◌||◌, Some, refl, sym, ap, ◌∙◌, append-nil, append_assoc}
use Rattle.std.specs.Prelude.{cond, filter, slice_get, unwrap_or}
use Rattle.std.specs.List.{flat_map}
use Rattle.std.proofs.lemmas.List.{drop_more, map-append}
use Rattle.anb_lemmas.proofs.Lists.{map_drop_next}
use Rattle.anb_term.specs.declared.term.Term.{Term}
use Rattle.anb_term.specs.Tree.{Tree, leaf, tree_eqb}
use Rattle.anb_term.specs.TreeSame.{tree_itself}
use Rattle.anb_term.specs.View.{tree_of}
use Rattle.anb_term.proofs.Lists.{tree_differs}
use Rattle.anb_intern.specs.declared.node.NodeId.{NodeId}
use Rattle.anb_intern.specs.Nodes.{operands_at, AreDistinct}
use Rattle.anb_protocol.specs.Views.{plan_event}
use Rattle.anb_protocol.specs.declared.plans.Event.{Event}
use Rattle.anb_reason.specs.Decided.{composes, is_among}
use Rattle.anb_lack.specs.declared.origins.Origin.{Origin}
use Rattle.anb_lack.specs.declared.roots.Locked.{Locked}
use Rattle.anb_lack.specs.declared.roots.Root.{Root}
use Rattle.anb_lack.specs.Opened.{first_lacking, holds, is_locked}
use Rattle.anb_lack.specs.Rooted.{lock_value, locked_values, root_value, HasInside}
use Rattle.anb_lack.specs.Roots.{LockValue, RootValue, lock_around, lock_of, locks, locks_at, root_in}
use Rattle.anb_lack.proofs.Parting.{same_tree}

-- the terms from a place on
pub operands_from : (ts : List Tree) (ids : List NodeId) (i : ℕ) (d : NodeId) (t : Tree) → i < length ids → slice_get ts (get_or ids i d).0 ≡ Some t → operands_at ts (drop i ids) ≡ t ∷ operands_at ts (drop (i + 1) ids)
operands_from ts ids i d t h at = ap (operands_at ts) (drop_more ids i d h) ∙ ap (λ o. unwrap_or o (leaf 0) ∷ operands_at ts (drop (i + 1) ids)) at

-- ---- the first key that is missing

lacking_cond : (S : List Tree) (t k : Tree) (ks : List Tree) (b : Bool) → composes S k ≡ b → first_lacking S t (k ∷ ks) ≡ cond b (first_lacking S t ks) k
lacking_cond S t k ks b is = ap (λ c. cond c (first_lacking S t ks) k) is

module _ (S ts : List Tree) (ids : List NodeId) (i : ℕ) (d : NodeId) (t k : Tree) (h : i < length ids) (at : slice_get ts (get_or ids i d).0 ≡ Some k) where
  from_here : (b : Bool) → composes S k ≡ b → first_lacking S t (operands_at ts (drop i ids)) ≡ cond b (first_lacking S t (operands_at ts (drop (i + 1) ids))) k
  from_here b is = ap (first_lacking S t) (operands_from ts ids i d k h at) ∙ lacking_cond S t k (operands_at ts (drop (i + 1) ids)) b is

  pub key_here : composes S k ≡ false → first_lacking S t (operands_at ts (drop i ids)) ≡ k
  key_here is = from_here false is

  pub key_later : composes S k ≡ true → first_lacking S t (operands_at ts (drop i ids)) ≡ first_lacking S t (operands_at ts (drop (i + 1) ids))
  key_later is = from_here true is

-- ---- which are locked

abbrev pub locked : List Tree → Origin → List Tree → List LockValue
locked S from us = map (lock_of S from) (filter (is_locked S) us)

locked_first : (S : List Tree) (from : Origin) (t : Tree) (us : List Tree) (b : Bool) → is_locked S t ≡ b → locked S from (t ∷ us) ≡ cond b (lock_of S from t ∷ []) [] ++ locked S from us
locked_first S from t us true is = ap (λ c. map (lock_of S from) (cond c (t ∷ filter (is_locked S) us) (filter (is_locked S) us))) is
locked_first S from t us false is = ap (λ c. map (lock_of S from) (cond c (t ∷ filter (is_locked S) us) (filter (is_locked S) us))) is

locked_both : (S : List Tree) (from : Origin) (t : Tree) (us : List Tree) (b : Bool) → is_locked S t ≡ b → locked S from (t ∷ us) ≡ locked S from (t ∷ []) ++ locked S from us
locked_both S from t us true is = locked_first S from t us true is ∙ ap (λ l. l ++ locked S from us) (sym (locked_first S from t [] true is))
locked_both S from t us false is = locked_first S from t us false is ∙ ap (λ l. l ++ locked S from us) (sym (locked_first S from t [] false is))

pub locked_next : (S ts : List Tree) (from : Origin) (ids : List NodeId) (out out' : List Locked) (i : ℕ) (d : NodeId) (t : Tree) (whole : List LockValue) → i < length ids → slice_get ts (get_or ids i d).0 ≡ Some t
    → locked_values out' ≡ locked_values out ++ locked S from (t ∷ []) → locked_values out ++ locked S from (operands_at ts (drop i ids)) ≡ whole
    → locked_values out' ++ locked S from (operands_at ts (drop (i + 1) ids)) ≡ whole
locked_next S ts from ids out out' i d t whole h at put so_far =
    let us = operands_at ts (drop (i + 1) ids) in
    ap (λ l. l ++ locked S from us) put ∙ append_assoc (locked_values out) (locked S from (t ∷ [])) (locked S from us)
    ∙ ap (λ l. locked_values out ++ l) (sym (locked_both S from t us (is_locked S t) refl) ∙ ap (locked S from) (sym (operands_from ts ids i d t h at))) ∙ so_far

pub lock_pushed : (S : List Tree) (from : Origin) (t : Tree) (out out' : List Locked) (l : Locked) → is_locked S t ≡ true → out' ≡ out ++ l ∷ [] → lock_value l.lock ≡ lock_of S from t
    → locked_values out' ≡ locked_values out ++ locked S from (t ∷ [])
lock_pushed S from t out out' l is pushed same =
    ap locked_values pushed ∙ map-append (λ (x : Locked). lock_value x.lock) out (l ∷ []) ∙ ap (λ v. locked_values out ++ v ∷ []) same ∙ ap (λ vs. locked_values out ++ vs) (sym (locked_first S from t [] true is))

pub lock_passed : (S : List Tree) (from : Origin) (t : Tree) (out : List Locked) → is_locked S t ≡ false → locked_values out ≡ locked_values out ++ locked S from (t ∷ [])
lock_passed S from t out is = sym (append-nil (locked_values out)) ∙ ap (λ vs. locked_values out ++ vs) (sym (locked_first S from t [] false is))

-- of the events from a place on
pub locks_next : (S : List Tree) (events : List Event) (out out' : List Locked) (i : ℕ) (x : Event) (whole : List LockValue) → i < length events → x ≡ get_or events i x
    → locked_values out' ≡ locked_values out ++ locks_at S (plan_event x) → locked_values out ++ locks S (map plan_event (drop i events)) ≡ whole
    → locked_values out' ++ locks S (map plan_event (drop (i + 1) events)) ≡ whole
locks_next S events out out' i x whole h own put so_far =
    let rest = locks S (map plan_event (drop (i + 1) events)) in
    ap (λ l. l ++ rest) put ∙ append_assoc (locked_values out) (locks_at S (plan_event x)) rest
    ∙ ap (λ l. locked_values out ++ l) (ap (locks S) (sym (map_drop_next plan_event events i x h own))) ∙ so_far

-- ---- the first lock in which a term stands

module _ (ts : List Tree) (once : AreDistinct ts) (ids : List NodeId) (i : ℕ) (d id : NodeId) (u t : Tree) (h : i < length ids) (at : slice_get ts (get_or ids i d).0 ≡ Some t) (here : slice_get ts id.0 ≡ Some u) where
  among_first : (b : Bool) → tree_eqb t u ≡ b → is_among (operands_at ts (drop i ids)) u ≡ (b || is_among (operands_at ts (drop (i + 1) ids)) u)
  among_first b is = ap (λ us. is_among us u) (operands_from ts ids i d t h at) ∙ ap (λ c. c || is_among (operands_at ts (drop (i + 1) ids)) u) is

  pub inside_here : (get_or ids i d).0 ≡ id.0 → is_among (operands_at ts (drop i ids)) u ≡ true
  inside_here same =
      let equal : t ≡ u = same_tree ts id.0 t u (ap (slice_get ts) (sym same) ∙ at) here in
      among_first true (ap (tree_eqb t) (sym equal) ∙ tree_itself t)

  pub inside_later : ((get_or ids i d).0 ≡ id.0 → ⊥) → is_among (operands_at ts (drop i ids)) u ≡ is_among (operands_at ts (drop (i + 1) ids)) u
  inside_later apart =
      let other : t ≡ u → ⊥ = λ same. apart (once (get_or ids i d).0 id.0 u (at ∙ ap Some same) here) in
      among_first false (tree_differs (tree_eqb t u) t u refl other)

module _ (pool : List Tree) (ls : List Locked) (i : ℕ) (l : Locked) (u : Tree) (h : i < length ls) (own : l ≡ get_or ls i l) (has : HasInside pool l) (b : Bool) (found : b ≡ is_among (operands_at pool l.inside.items) u) where
  holds_is : holds (tree_of l.lock.term) u ≡ b
  holds_is = ap (λ us. is_among us u) (sym has.1) ∙ sym found

  abbrev from : ℕ → List LockValue
  from n = locked_values (drop n ls)

  split : from i ≡ lock_value l.lock ∷ from (i + 1)
  split = map_drop_next (λ (x : Locked). lock_value x.lock) ls i l h own

  around : (c : Bool) → b ≡ c → lock_around (from i) u ≡ cond c (Some (lock_value l.lock)) (lock_around (from (i + 1)) u)
  around c is = ap (λ vs. lock_around vs u) split ∙ ap (λ e. cond e (Some (lock_value l.lock)) (lock_around (from (i + 1)) u)) (holds_is ∙ is)

  pub around_here : b ≡ true → lock_around (from i) u ≡ Some (lock_value l.lock)
  around_here is = around true is

  pub around_later : b ≡ false → lock_around (from i) u ≡ lock_around (from (i + 1)) u
  around_later is = around false is

-- ---- one more part

pub root_next : (ls : List LockValue) (parts : List Term) (out out' : List Root) (i : ℕ) (x : Term) (whole : List RootValue) → i < length parts → x ≡ get_or parts i x
    → map root_value out' ≡ map root_value out ++ root_in ls (tree_of x) → map root_value out ++ flat_map (root_in ls) (map tree_of (drop i parts)) ≡ whole
    → map root_value out' ++ flat_map (root_in ls) (map tree_of (drop (i + 1) parts)) ≡ whole
root_next ls parts out out' i x whole h own put so_far =
    let rest = flat_map (root_in ls) (map tree_of (drop (i + 1) parts)) in
    ap (λ l. l ++ rest) put ∙ append_assoc (map root_value out) (root_in ls (tree_of x)) rest
    ∙ ap (λ l. map root_value out ++ l) (ap (flat_map (root_in ls)) (sym (map_drop_next tree_of parts i x h own))) ∙ so_far
