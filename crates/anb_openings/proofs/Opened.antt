-- What an opening opens in the narrated run.
use Rattle.std.proofs.Common.{◌≡◌, ℕ, ◌+◌, List, [], ◌∷◌, ◌++◌, length, take, drop, Bool, true, false, cond, Some, None, refl, sym, ap, ◌∙◌, subst, arith, append_assoc}
use Rattle.std.specs.Prelude.{slice_get, ◌&&◌, ◌==◌}
use Rattle.std.proofs.lemmas.Bool.{and_parts, eqb-true}
use Rattle.std.proofs.lemmas.List.{append-nil, length-take-le}
use Rattle.anb_lemmas.proofs.Options.{mapped_from}
use Rattle.anb_term.specs.declared.term.Op.{Op}
use Rattle.anb_term.specs.Operator.{arity, keys, undoable, op_eqb}
use Rattle.anb_term.specs.Lawful.{picked}
use Rattle.anb_term.specs.Tree.{Tree, leaf, node, trees_of, list_of, trees_eqb}
use Rattle.anb_term.specs.TreeSame.{list_of-trees_of, trees_same}
use Rattle.anb_term.specs.FreeAlgebra.{terms, parts_of}
use Rattle.anb_term.specs.FreeLawful.{parts_are}
use Rattle.anb_term.proofs.Lists.{keys_fit, slice_get-append}
use Rattle.anb_term.proofs.Steps.{bound}
use Rattle.anb_algebra.specs.ByteMeaning.{has_operator}
use Rattle.anb_plays.specs.Plans.{known}
use Rattle.anb_plays.specs.Codes.{Act, takes, draws, receives, sends, works, undo}
use Rattle.anb_plays.specs.Exec.{worked, HasTakes}
use Rattle.anb_plays.specs.Honest.{heard, made}
use Rattle.anb_code.specs.CodeValue.{CodeValue}
use Rattle.anb_code.specs.Meaning.{acts_of}
use Rattle.anb_protocol.specs.Plays.{events_of}
use Rattle.anb_protocol.specs.Protocols.{ProtocolValue}
use Rattle.anb_compile.specs.Fitting.{FitsRole}
use Rattle.anb_explain.specs.Explained.{register_terms}
use Rattle.anb_openings.specs.Steps.{Progress, begun, writing, drawing, saying, hearing, after, after_all}
use Rattle.anb_openings.specs.Openings.{IsOpening}
use Rattle.anb_openings.proofs.Going.{all_in_parts}
use Rattle.anb_openings.proofs.Narrated.{narrated}
use Rattle.anb_openings.proofs.Stepping.{parted}

chosen : {X : Type 0} (b : Bool) (x y : X) → cond b (Some x) None ≡ Some y → b ≡ true
chosen true x y e = refl
chosen false x y e = cc

-- what has parts under some keys has as many keys as the operator
parts_count : (o : Op) (ks : List Tree) (t : Tree) (ps : List Tree) → parts_of o ks t ≡ Some ps → length ks ≡ keys o
parts_count o ks (leaf n) ps e = cc
parts_count o ks (node p ts) ps e =
    let c = chosen (undoable o && op_eqb o p && (length (list_of ts) == arity o) && trees_eqb (trees_of ks) (trees_of (take (keys o) (list_of ts)))) (drop (keys o) (list_of ts)) ps e in
    let d = and_parts (undoable o && op_eqb o p && (length (list_of ts) == arity o)) _ c in
    let l = and_parts (undoable o && op_eqb o p) _ d.0 in
    let is_keys : ks ≡ take (keys o) (list_of ts) = sym (list_of-trees_of ks) ∙ ap list_of (trees_same _ _ d.1) ∙ list_of-trees_of _ in
    let long : length (list_of ts) ≡ arity o = eqb-true _ _ l.1 in
    ap length is_keys ∙ length-take-le (keys o) (list_of ts) (omega (arith, long, keys_fit o))

-- ---- tables grow

module _ (made : List Tree) where
  abbrev Grows : Progress Tree → Progress Tree → Type 0
  Grows s t = (more : List Tree) × (t.table ≡ s.table ++ more)

  heard_grows : (s t : Progress Tree) (left : List Tree) → hearing left s ≡ Some t → Grows s t
  heard_grows s t [] e = cc
  heard_grows s t (x ∷ left) e =
      let same : record s { table = s.table ++ x ∷ []; event = s.event + 1; left = left } ≡ t = cc in
      (x ∷ [], ap (λ (u : Progress Tree). u.table) (sym same))

  one_grows : (act : Act) (s t : Progress Tree) → after terms made act s ≡ Some t → Grows s t
  one_grows takes s t e = let same : s ≡ t = cc in ([], ap (λ (u : Progress Tree). u.table) (sym same) ∙ sym (append-nil s.table))
  one_grows draws s t e = let f = mapped_from (λ x. drawing x s) (slice_get made s.drawn) t e in (f.0 ∷ [], ap (λ (u : Progress Tree). u.table) (sym f.2))
  one_grows receives s t e = heard_grows s t s.left e
  one_grows (sends r) s t e = let f = mapped_from (λ x. saying x s) (slice_get s.table r) t e in ([], ap (λ (u : Progress Tree). u.table) (sym f.2) ∙ sym (append-nil s.table))
  one_grows (works w) s t e = let f = mapped_from (λ ws. writing ws s) (worked terms s.table w) t e in (f.0, ap (λ (u : Progress Tree). u.table) (sym f.2))

  all_grow : (acts : List Act) (s t : Progress Tree) → after_all terms made acts s ≡ Some t → Grows s t
  all_grow [] s t e = let same : s ≡ t = cc in ([], ap (λ (u : Progress Tree). u.table) (sym same) ∙ sym (append-nil s.table))
  all_grow (act ∷ acts) s t e =
      let b = bound (after_all terms made acts) (after terms made act s) t e in
      let one = one_grows act s b.0 b.1 in
      let rest = all_grow acts b.0 t b.2 in
      (one.0 ++ rest.0, rest.1 ∙ ap (λ l. l ++ rest.0) one.1 ∙ append_assoc s.table one.0 rest.0)

-- ---- the opening in the narrated run

pub record Undone (p : ProtocolValue) (role : ℕ) (code : CodeValue) (at : ℕ) (o : Op) (ks : List ℕ) (r : ℕ) (registers : List Tree) : Type 0 where
  pub before : Progress Tree
  pub comes : after_all terms (made (events_of p role)) (take at (acts_of code)) (begun (known (events_of p role)) (heard (events_of p role))) ≡ Some before
  pub opened : Tree
  pub there : slice_get registers r ≡ Some opened
  pub parts : List Tree
  pub opens : opened ≡ node o (trees_of (picked before.table ks ++ parts))
  pub count : length (picked before.table ks) ≡ keys o
  pub long : length (picked before.table ks ++ parts) ≡ arity o

pub undone : (p : ProtocolValue) (role : ℕ) (code : CodeValue) (instruction : ℕ) (o : Op) (ks : List ℕ) (r : ℕ) (registers : List Tree) (opening : IsOpening (acts_of code) instruction o ks r)
    → FitsRole p role code → HasTakes (has_operator p.formats) (acts_of code) 0 (length (known (events_of p role))) → register_terms p role code ≡ Some registers → Undone p role code opening.at o ks r registers
undone p role code instruction o ks r registers opening fits taking are =
    let plan = events_of p role in
    let acts = acts_of code in
    let at = opening.at in
    let w = undo o ks r in
    let start = begun (known plan) (heard plan) in
    let n = narrated p role code registers fits taking are in
    let goes : after_all terms (made plan) (take at acts ++ works w ∷ drop (at + 1) acts) start ≡ Some n.end = subst (λ l. after_all terms (made plan) l start ≡ Some n.end) (parted acts at (works w) opening.here) n.goes in
    let split = all_in_parts (made plan) (take at acts) (works w ∷ drop (at + 1) acts) start n.end goes in
    let h = split.0 in
    let b = bound (after_all terms (made plan) (drop (at + 1) acts)) (after terms (made plan) (works w) h) n.end split.2 in
    let f = mapped_from (λ ws. writing ws h) (worked terms h.table w) b.0 b.1 in
    let c = bound (parts_of o (picked h.table ks)) (slice_get h.table r) f.0 f.1 in
    let parts = parts_are o (picked h.table ks) c.0 f.0 c.2 in
    let more = all_grow (made plan) (works w ∷ drop (at + 1) acts) h n.end split.2 in
    let whole : registers ≡ h.table ++ more.0 = sym n.table ∙ more.1 in
    record {
      before = h;
      comes = split.1;
      opened = c.0;
      there = ap (λ l. slice_get l r) whole ∙ slice_get-append h.table more.0 r c.0 c.1;
      parts = f.0;
      opens = parts.1;
      count = parts_count o (picked h.table ks) c.0 f.0 c.2;
      long = parts.2;
    }

-- ---- arrivals are used

abbrev hears : List Act → ℕ
hears [] = 0
hears (receives ∷ acts) = hears acts + 1
hears (takes ∷ acts) = hears acts
hears (draws ∷ acts) = hears acts
hears (sends r ∷ acts) = hears acts
hears (works w ∷ acts) = hears acts

hears_both : (xs ys : List Act) → hears (xs ++ ys) ≡ hears xs + hears ys
hears_both [] ys = omega arith
hears_both (receives ∷ xs) ys = omega (arith, hears_both xs ys)
hears_both (takes ∷ xs) ys = hears_both xs ys
hears_both (draws ∷ xs) ys = hears_both xs ys
hears_both (sends r ∷ xs) ys = hears_both xs ys
hears_both (works w ∷ xs) ys = hears_both xs ys

module _ (made : List Tree) where
  next_left : (s t : Progress Tree) (left : List Tree) → hearing left s ≡ Some t → length left ≡ length t.left + 1
  next_left s t [] e = cc
  next_left s t (x ∷ left) e =
      let same : record s { table = s.table ++ x ∷ []; event = s.event + 1; left = left } ≡ t = cc in
      let is : left ≡ t.left = ap (λ (u : Progress Tree). u.left) same in
      omega (arith, ap length is)

  left_counted : (acts : List Act) (s t : Progress Tree) → after_all terms made acts s ≡ Some t → length s.left ≡ length t.left + hears acts
  left_counted [] s t e = let same : s ≡ t = cc in omega (arith, ap (λ (u : Progress Tree). length u.left) same)
  left_counted (takes ∷ acts) s t e = left_counted acts s t e
  left_counted (draws ∷ acts) s t e =
      let b = bound (after_all terms made acts) (after terms made draws s) t e in
      let f = mapped_from (λ x. drawing x s) (slice_get made s.drawn) b.0 b.1 in
      ap (λ (u : Progress Tree). length u.left) f.2 ∙ left_counted acts b.0 t b.2
  left_counted (receives ∷ acts) s t e =
      let b = bound (after_all terms made acts) (after terms made receives s) t e in
      omega (arith, next_left s b.0 s.left b.1, left_counted acts b.0 t b.2)
  left_counted (sends r ∷ acts) s t e =
      let b = bound (after_all terms made acts) (after terms made (sends r) s) t e in
      let f = mapped_from (λ x. saying x s) (slice_get s.table r) b.0 b.1 in
      ap (λ (u : Progress Tree). length u.left) f.2 ∙ left_counted acts b.0 t b.2
  left_counted (works w ∷ acts) s t e =
      let b = bound (after_all terms made acts) (after terms made (works w) s) t e in
      let f = mapped_from (λ ws. writing ws s) (worked terms s.table w) b.0 b.1 in
      ap (λ (u : Progress Tree). length u.left) f.2 ∙ left_counted acts b.0 t b.2

empty : {X : Type 0} (l : List X) → length l ≡ 0 → l ≡ []
empty [] z = refl
empty (x ∷ l) z = absurd (omega (arith, z))

-- over as many arrivals as are narrated, a run that leaves one opening out uses all
pub all_used : (p : ProtocolValue) (role : ℕ) (code : CodeValue) (instruction : ℕ) (o : Op) (ks : List ℕ) (r : ℕ) (registers : List Tree) (opening : IsOpening (acts_of code) instruction o ks r)
    → FitsRole p role code → HasTakes (has_operator p.formats) (acts_of code) 0 (length (known (events_of p role))) → register_terms p role code ≡ Some registers
    → (s before on behind : Progress Tree) → length s.left ≡ length (heard (events_of p role)) → on.left ≡ before.left
    → after_all terms (made (events_of p role)) (take opening.at (acts_of code)) s ≡ Some before → after_all terms (made (events_of p role)) (drop (opening.at + 1) (acts_of code)) on ≡ Some behind → behind.left ≡ []
all_used p role code instruction o ks r registers opening fits taking are s before on behind long same comes goes =
    let plan = events_of p role in
    let acts = acts_of code in
    let at = opening.at in
    let w = undo o ks r in
    let n = narrated p role code registers fits taking are in
    let whole = ap hears (parted acts at (works w) opening.here) ∙ hears_both (take at acts) (works w ∷ drop (at + 1) acts) in
    let all = left_counted (made plan) acts (begun (known plan) (heard plan)) n.end n.goes in
    let front = left_counted (made plan) (take at acts) s before comes in
    let back = left_counted (made plan) (drop (at + 1) acts) on behind goes in
    empty behind.left (omega (arith, whole, all, front, back, long, ap length n.used, ap length same))
