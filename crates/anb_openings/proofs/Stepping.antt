-- A run that goes on ends as from further on.
use Rattle.std.proofs.Common.{◌≡◌, ℕ, suc, ◌+◌, List, [], ◌∷◌, ◌++◌, length, take, drop, ◌<◌, Bool, true, false, cond, Option, Some, None, refl, sym, ap, ◌∙◌, subst, arith, length-append, take-append-drop}
use Rattle.std.specs.Prelude.{slice_get}
use Rattle.std.specs.Option.{option_map, option_and_then}
use Rattle.std.proofs.lemmas.List.Elements.{recursion_from_All}
use Rattle.anb_lemmas.proofs.Lists.{drop_at_got}
use Rattle.anb_lemmas.proofs.Options.{mapped_from}
use Rattle.anb_term.specs.declared.term.Op.{Op}
use Rattle.anb_term.specs.Tree.{Tree, leaf, node, trees_of}
use Rattle.anb_term.specs.Value.{Meaning}
use Rattle.anb_term.specs.Demand.{alike}
use Rattle.anb_term.specs.Lawful.{picked}
use Rattle.anb_term.specs.FreeAlgebra.{parts_of, terms, terms_over}
use Rattle.anb_term.specs.FreeLawful.{parts_are}
use Rattle.anb_term.proofs.Lists.{picked_length}
use Rattle.anb_term.proofs.Steps.{bound}
use Rattle.anb_plays.specs.Plays.{Played, End, stopped, ends}
use Rattle.anb_plays.specs.Codes.{Act, takes, draws, receives, sends, works, Work, make, undo, equal}
use Rattle.anb_plays.specs.Exec.{on_written, worked, exec, count_written, IsReady}
use Rattle.anb_probe.proofs.Dropping.{end_said}
use Rattle.anb_openings.specs.Steps.{Progress, begun, writing, drawing, saying, hearing, after, after_all}

module _ {A : Type 0} (m : Meaning A) (made : List A) (draw : ℕ → A) (drawn : (i : ℕ) (x : A) → slice_get made i ≡ Some x → draw i ≡ x) where
  -- how a run from here ends
  abbrev ending : List Act → ℕ → Progress A → End
  ending acts at s = (exec m draw acts s.table s.event at s.drawn s.left).end

  wrote : (o : Option (List A)) (ws : List A) (next : List A → Played A) (stop : Played A) → o ≡ Some ws → on_written o next stop ≡ next ws
  wrote o ws next stop e = ap (λ x. on_written x next stop) e

  hears : (acts : List Act) (s t : Progress A) (at : ℕ) (left : List A) → hearing left s ≡ Some t → (exec m draw (receives ∷ acts) s.table s.event at s.drawn left).end ≡ ending acts (at + 1) t
  hears acts s t at [] e = cc
  hears acts s t at (x ∷ left) e =
      let same : record s { table = s.table ++ x ∷ []; event = s.event + 1; left = left } ≡ t = cc in
      subst (λ (u : Progress A). (exec m draw (receives ∷ acts) s.table s.event at s.drawn (x ∷ left)).end ≡ ending acts (at + 1) u) same refl

  one : (act : Act) (acts : List Act) (s t : Progress A) (at : ℕ) → after m made act s ≡ Some t → ending (act ∷ acts) at s ≡ ending acts (at + 1) t
  one takes acts s t at e = let same : s ≡ t = cc in subst (λ u. ending (takes ∷ acts) at s ≡ ending acts (at + 1) u) same refl
  one draws acts s t at e =
      let f = mapped_from (λ x. drawing x s) (slice_get made s.drawn) t e in
      subst (λ u. ending (draws ∷ acts) at s ≡ ending acts (at + 1) u) f.2
      (ap (λ x. (exec m draw acts (s.table ++ x ∷ []) s.event (at + 1) (s.drawn + 1) s.left).end) (drawn s.drawn f.0 f.1))
  one receives acts s t at e = hears acts s t at s.left e
  one (sends r) acts s t at e =
      let f = mapped_from (λ x. saying x s) (slice_get s.table r) t e in
      subst (λ u. ending (sends r ∷ acts) at s ≡ ending acts (at + 1) u) f.2 (end_said (slice_get s.table r) _)
  one (works w) acts s t at e =
      let f = mapped_from (λ ws. writing ws s) (worked m s.table w) t e in
      subst (λ u. ending (works w ∷ acts) at s ≡ ending acts (at + 1) u) f.2
      (ap (λ p. p.end) (wrote (worked m s.table w) f.0 (λ ws. exec m draw acts (s.table ++ ws) s.event (at + 1) s.drawn s.left) (ends (stopped s.event (at + 1)) s.left) f.1))

  all : (front acts : List Act) (s t : Progress A) (at : ℕ) → after_all m made front s ≡ Some t → ending (front ++ acts) at s ≡ ending acts (at + length front) t
  all [] acts s t at e =
      let same : s ≡ t = cc in
      let here : at ≡ at + 0 = omega arith in
      ap (ending acts at) same ∙ ap (λ k. ending acts k t) here
  all (act ∷ front) acts s t at e =
      let b = bound (after_all m made front) (after m made act s) t e in
      let here : at + 1 + length front ≡ at + suc (length front) = omega arith in
      one act (front ++ acts) s b.0 at b.1 ∙ all front acts b.0 t (at + 1) b.2 ∙ ap (λ k. ending acts k t) here

  -- it stops at a work that writes nothing
  pub stops_behind : (front back : List Act) (w : Work) (known arrivals : List A) (t : Progress A) → after_all m made front (begun known arrivals) ≡ Some t → worked m t.table w ≡ None
      → (exec m draw (front ++ works w ∷ back) known 0 0 0 arrivals).end ≡ stopped t.event (length front + 1)
  stops_behind front back w known arrivals t e none =
      let here : 0 + length front + 1 ≡ length front + 1 = omega arith in
      all front (works w ∷ back) (begun known arrivals) t 0 e
      ∙ ap (λ o. (on_written o (λ ws. exec m draw back (t.table ++ ws) t.event (0 + length front + 1) t.drawn t.left) (ends (stopped t.event (0 + length front + 1)) t.left)).end) none
      ∙ ap (stopped t.event) here

-- ---- a code up to an instruction, the instruction, and what follows it

pub parted : {A : Type 0} (xs : List A) (i : ℕ) (x : A) → slice_get xs i ≡ Some x → xs ≡ take i xs ++ x ∷ drop (i + 1) xs
parted xs i x e = sym (take-append-drop i xs) ∙ ap (λ l. take i xs ++ l) (drop_at_got xs i x e)

-- ---- over terms, whatever the operators are

pub worked_same : (has : Op → Bool) (table : List Tree) (w : Work) → worked (terms_over has) table w ≡ worked terms table w
worked_same has table (make o ns) = refl
worked_same has table (undo o ks n) = refl
worked_same has table (equal a b) = refl

one_same : (has : Op → Bool) (made : List Tree) (act : Act) (s : Progress Tree) → after (terms_over has) made act s ≡ after terms made act s
one_same has made takes s = refl
one_same has made draws s = refl
one_same has made receives s = refl
one_same has made (sends r) s = refl
one_same has made (works w) s = ap (option_map (λ ws. writing ws s)) (worked_same has s.table w)

then_same : {X Y : Type 0} (f g : X → Option Y) → ((x : X) → f x ≡ g x) → (o : Option X) → option_and_then f o ≡ option_and_then g o
then_same f g same None = refl
then_same f g same (Some x) = same x

pub all_same : (has : Op → Bool) (made : List Tree) (acts : List Act) (s : Progress Tree) → after_all (terms_over has) made acts s ≡ after_all terms made acts s
all_same has made [] s = refl
all_same has made (act ∷ acts) s =
    ap (option_and_then (after_all (terms_over has) made acts)) (one_same has made act s)
    ∙ then_same (after_all (terms_over has) made acts) (after_all terms made acts) (all_same has made acts) (after terms made act s)

-- the spare name has no parts
pub name_is_shut : (has : Op → Bool) (table : List Tree) (o : Op) (ks : List ℕ) (r a : ℕ) → slice_get table r ≡ Some (leaf a) → worked (terms_over has) table (undo o ks r) ≡ None
name_is_shut has table o ks r a e = rw e refl

-- ---- how many registers a work writes

chosen_none : (b : Bool) (ws : List Tree) → cond b (Some []) None ≡ Some ws → length ws ≡ 0
chosen_none true ws e = let is : [] ≡ ws = cc in ap length (sym is)
chosen_none false ws e = cc

pub count_is : (w : Work) (table ws : List Tree) → IsReady (λ o. true) (length table) w → worked terms table w ≡ Some ws → length ws ≡ count_written w
count_is (make o ns) table ws ready e = let is : node o (trees_of (picked table ns)) ∷ [] ≡ ws = cc in ap length (sym is)
count_is (undo o ks n) table ws ready e =
    let b = bound (parts_of o (picked table ks)) (slice_get table n) ws e in
    let p = parts_are o (picked table ks) b.0 ws b.2 in
    let below = recursion_from_All (λ k. k < length table) ks ready.2 in
    omega (arith, p.2, length-append (picked table ks) ws, picked_length table ks below, ready.1)
count_is (equal a b) table ws ready e = chosen_none (alike terms (slice_get table a) (slice_get table b)) ws e
