-- What a run over terms does, the run over values of these terms does.
use Rattle.std.proofs.Common.{◌≡◌, ℕ, zero, suc, ◌+◌, ◌<◌, List, [], ◌∷◌, ◌++◌, length, map, Bool, true, false, cond, IsTrue, Option, Some, None, refl, sym, ap, ◌∙◌, subst, arith, length-append}
use Rattle.std.specs.Prelude.{slice_get}
use Rattle.std.specs.Option.{option_map, option_and_then}
use Rattle.std.specs.List.{AllByRecursion}
use Rattle.std.proofs.lemmas.List.{length-map}
use Rattle.std.proofs.lemmas.List.Elements.{recursion_from_All}
use Rattle.anb_lemmas.proofs.Options.{mapped_from}
use Rattle.anb_term.specs.declared.term.Op.{Op}
use Rattle.anb_term.specs.Operator.{arity, keys, undoable}
use Rattle.anb_term.specs.Tree.{Tree, node, trees_of, list_of, IsFormed, AreFormed}
use Rattle.anb_term.specs.TreeSame.{list_of-trees_of, tree_same}
use Rattle.anb_term.specs.Value.{Meaning}
use Rattle.anb_term.specs.Lawful.{Lawful, AreValues, picked}
use Rattle.anb_term.specs.Demand.{alike}
use Rattle.anb_term.specs.FreeAlgebra.{terms, parts_of}
use Rattle.anb_term.specs.FreeLawful.{parts_are}
use Rattle.anb_term.proofs.Lists.{map-append, picked_length, slice_get-map, slice_get-there}
use Rattle.anb_term.proofs.Steps.{bound}
use Rattle.anb_plays.specs.Codes.{Act, takes, draws, receives, sends, works, Work, make, undo, equal}
use Rattle.anb_plays.specs.Exec.{worked, count_written, IsReady, IsVerified}
use Rattle.anb_plays.specs.Honest.{honest, honest_all}
use Rattle.anb_plays.specs.Statements.{HonestAgree}
use Rattle.anb_machine.specs.Standing.{registers_of, registers_in}
use Rattle.anb_openings.proofs.Picking.{picked_mapped}
use Rattle.anb_openings.proofs.Readying.{ready_first}
use Rattle.anb_openings.specs.Steps.{Progress, writing, drawing, saying, hearing, after, after_all}

-- two that are alike are one
alike_are : (x y : Option Tree) → alike terms x y ≡ true → (t : Tree) × (x ≡ Some t) × (y ≡ Some t)
alike_are None y e = cc
alike_are (Some t) None e = cc
alike_are (Some t) (Some u) e = (t, refl, ap Some (sym (tree_same t u e)))

chosen : {X : Type 0} (b : Bool) (x y : X) → cond b (Some x) None ≡ Some y → (b ≡ true) × (x ≡ y)
chosen true x y e = (refl, cc)
chosen false x y e = cc

pub formed_got : (has : Op → Bool) (ts : List Tree) (i : ℕ) (t : Tree) → AreFormed has (trees_of ts) → slice_get ts i ≡ Some t → IsFormed has t
formed_got has [] i t f e = cc
formed_got has (x ∷ ts) zero t f e = let s : x ≡ t = cc in subst (IsFormed has) s f.0
formed_got has (x ∷ ts) (suc i) t f e = formed_got has ts i t f.1 e

pub formed_both : (has : Op → Bool) (xs ys : List Tree) → AreFormed has (trees_of xs) → AreFormed has (trees_of ys) → AreFormed has (trees_of (xs ++ ys))
formed_both has [] ys f g = g
formed_both has (x ∷ xs) ys f g = (f.0, formed_both has xs ys f.1 g)

pub formed_parts : (has : Op → Bool) (xs ys : List Tree) → AreFormed has (trees_of (xs ++ ys)) → AreFormed has (trees_of xs) × AreFormed has (trees_of ys)
formed_parts has [] ys f = (tt, f)
formed_parts has (x ∷ xs) ys f = let h = formed_parts has xs ys f.1 in ((f.0, h.0), h.1)

formed_picked : (has : Op → Bool) (table : List Tree) (at : List ℕ) → AllByRecursion (λ k. k < length table) at → AreFormed has (trees_of table) → AreFormed has (trees_of (picked table at))
formed_picked has table [] h f = tt
formed_picked has table (k ∷ at) h f =
    let x = slice_get-there table k h.0 in rw x.1 (formed_got has table k x.0 f x.1, formed_picked has table at h.1 f)

pub mapped_back : {X Y : Type 0} (f : X → Y) (xs : List X) (i : ℕ) (y : Y) → slice_get (map f xs) i ≡ Some y → (x : X) × (slice_get xs i ≡ Some x) × (f x ≡ y)
mapped_back f [] i y e = cc
mapped_back f (x ∷ xs) zero y e = (x, refl, cc)
mapped_back f (x ∷ xs) (suc i) y e = mapped_back f xs i y e

-- an act names registers that were written
abbrev IsReadyAct : (Op → Bool) → ℕ → Act → Type 0
IsReadyAct has n act = IsVerified has (act ∷ []) n

module _ {A : Type 0} (m : Meaning A) (lawful : Lawful m) (agrees : HonestAgree m) (atoms : ℕ → A) (good : (n : ℕ) → IsTrue (m.is_value (atoms n))) where
  abbrev of : Tree → A
  of t = honest m atoms t

  each_of : (ts : List Tree) → honest_all m atoms (trees_of ts) ≡ map of ts
  each_of [] = refl
  each_of (t ∷ ts) = ap (λ l. of t ∷ l) (each_of ts)

  are_values : (ts : List Tree) → AreFormed m.has (trees_of ts) → AreValues m (map of ts)
  are_values ts f = (agrees atoms ts good f).0

  built_of : (o : Op) (ts : List Tree) → of (node o (trees_of ts)) ≡ m.built o (map of ts)
  built_of o ts = ap (m.built o) (each_of ts)

  -- the parts come back from the value
  undone_of : (o : Op) (ks ps : List Tree) → IsTrue (undoable o) → IsTrue (m.has o) → length ks ≡ keys o → length (ks ++ ps) ≡ arity o → AreFormed m.has (trees_of ks) → AreFormed m.has (trees_of ps)
      → m.undone o (map of ks) (of (node o (trees_of (ks ++ ps)))) ≡ Some (map of ps)
  undone_of o ks ps can has count long f g =
      let split : map of (ks ++ ps) ≡ map of ks ++ map of ps = map-append of ks ps in
      let whole : length (map of ks ++ map of ps) ≡ arity o = sym (ap length split) ∙ length-map (ks ++ ps) of ∙ long in
      ap (m.undone o (map of ks)) (built_of o (ks ++ ps) ∙ ap (m.built o) split)
      ∙ lawful.undone_of o (map of ks) (map of ps) can has (length-map ks of ∙ count) whole (are_values ks f) (are_values ps g)

  -- ---- a work

  pub record Did (table ws : List Tree) (w : Work) : Type 0 where
    valued : worked m (map of table) w ≡ Some (map of ws)
    formed : AreFormed m.has (trees_of ws)
    long : length ws ≡ count_written w

  did : (w : Work) (table ws : List Tree) → AreFormed m.has (trees_of table) → IsReady m.has (length table) w → worked terms table w ≡ Some ws → Did table ws w
  did (make o ns) table ws f ready e =
      let below = recursion_from_All (λ k. k < length table) ns ready.2 in
      let is : node o (trees_of (picked table ns)) ∷ [] ≡ ws = cc in
      let value : m.built o (picked (map of table) ns) ≡ of (node o (trees_of (picked table ns))) = ap (m.built o) (picked_mapped of table ns) ∙ sym (built_of o (picked table ns)) in
      let count : length (list_of (trees_of (picked table ns))) ≡ arity o = ap length (list_of-trees_of (picked table ns)) ∙ picked_length table ns below ∙ ready.1 in
      subst (λ l. Did table l (make o ns)) is (record {
        valued = ap (λ x. Some (x ∷ [])) value;
        formed = ((ready.0, count, formed_picked m.has table ns below f), tt);
        long = refl;
      })
  did (undo o ks n) table ws f ready e =
      let below = recursion_from_All (λ k. k < length table) ks ready.2 in
      let b = bound (parts_of o (picked table ks)) (slice_get table n) ws e in
      let p = parts_are o (picked table ks) b.0 ws b.2 in
      let count : length (picked table ks) ≡ keys o = picked_length table ks below ∙ ready.1 in
      let whole : AreFormed m.has (trees_of (picked table ks ++ ws)) =
      (let g = subst (IsFormed m.has) p.1 (formed_got m.has table n b.0 f b.1) in g.2) in
      let both = formed_parts m.has (picked table ks) ws whole in
      let there : slice_get (map of table) n ≡ Some (of b.0) = slice_get-map of table n b.0 b.1 in
      let parts = undone_of o (picked table ks) ws p.0 ready.0 count p.2 both.0 both.1 in
      record {
        valued = ap (option_and_then (m.undone o (picked (map of table) ks))) there
            ∙ ap (λ l. m.undone o l (of b.0)) (picked_mapped of table ks) ∙ ap (λ t. m.undone o (map of (picked table ks)) (of t)) p.1 ∙ parts;
        formed = both.1;
        long = omega (arith, p.2, count, length-append (picked table ks) ws);
      }
  did (equal a b) table ws f ready e =
      let c = chosen (alike terms (slice_get table a) (slice_get table b)) [] ws e in
      let t = alike_are (slice_get table a) (slice_get table b) c.0 in
      let one = slice_get-map of table a t.0 t.1 in
      let other = slice_get-map of table b t.0 t.2 in
      let same : alike m (slice_get (map of table) a) (slice_get (map of table) b) ≡ true = ap (λ o. alike m o (slice_get (map of table) b)) one ∙ ap (alike m (Some (of t.0))) other ∙ lawful.itself (of t.0) in
      subst (λ l. Did table l (equal a b)) c.1 (record { valued = ap (λ x. cond x (Some []) None) same; formed = tt; long = refl })

  -- ---- acts

  abbrev pub seen : Progress Tree → Progress A
  seen s = record { table = map of s.table; sent = map of s.sent; event = s.event; drawn = s.drawn; left = map of s.left }

  module _ (names : List Tree) (names_formed : AreFormed m.has (trees_of names)) where
    pub record Went (s t : Progress Tree) (act : Act) : Type 0 where
      valued : after m (map of names) act (seen s) ≡ Some (seen t)
      table : AreFormed m.has (trees_of t.table)
      left : AreFormed m.has (trees_of t.left)
      long : length t.table ≡ length s.table + registers_of act

    one_more : (x : Tree) (table : List Tree) → map of (table ++ x ∷ []) ≡ map of table ++ of x ∷ []
    one_more x table = map-append of table (x ∷ [])

    record Heard (s t : Progress Tree) (arrivals : List Tree) : Type 0 where
      valued : hearing (map of arrivals) (seen s) ≡ Some (seen t)
      table : AreFormed m.has (trees_of t.table)
      left : AreFormed m.has (trees_of t.left)
      long : length t.table ≡ length s.table + 1

    heard : (s t : Progress Tree) (left : List Tree) → AreFormed m.has (trees_of s.table) → AreFormed m.has (trees_of left) → hearing left s ≡ Some t → Heard s t left
    heard s t [] f g e = cc
    heard s t (x ∷ left) f g e =
        let is : record s { table = s.table ++ x ∷ []; event = s.event + 1; left = left } ≡ t = cc in
        subst (λ u. Heard s u (x ∷ left)) is (record {
          valued = ap (λ l. Some (record (seen s) { table = l; event = s.event + 1; left = map of left })) (sym (one_more x s.table));
          table = formed_both m.has s.table (x ∷ []) f (g.0, tt);
          left = g.1;
          long = length-append s.table (x ∷ []);
        })

    went : (act : Act) (s t : Progress Tree) → AreFormed m.has (trees_of s.table) → AreFormed m.has (trees_of s.left) → IsReadyAct m.has (length s.table) act → after terms names act s ≡ Some t → Went s t act
    went takes s t f g ready e = let is : s ≡ t = cc in subst (λ u. Went s u takes) is (record { valued = refl; table = f; left = g; long = omega arith })
    went draws s t f g ready e =
        let x = mapped_from (λ x. drawing x s) (slice_get names s.drawn) t e in
        subst (λ u. Went s u draws) x.2 (record {
          valued = ap (option_map (λ y. drawing y (seen s))) (slice_get-map of names s.drawn x.0 x.1) ∙ ap (λ l. Some (record (seen s) { table = l; drawn = s.drawn + 1 })) (sym (one_more x.0 s.table));
          table = formed_both m.has s.table (x.0 ∷ []) f (formed_got m.has names s.drawn x.0 names_formed x.1, tt);
          left = g;
          long = length-append s.table (x.0 ∷ []);
        })
    went receives s t f g ready e = let h = heard s t s.left f g e in record { valued = h.valued; table = h.table; left = h.left; long = h.long }
    went (sends r) s t f g ready e =
        let x = mapped_from (λ x. saying x s) (slice_get s.table r) t e in
        subst (λ u. Went s u (sends r)) x.2 (record {
          valued = ap (option_map (λ y. saying y (seen s))) (slice_get-map of s.table r x.0 x.1) ∙ ap (λ l. Some (record (seen s) { sent = l; event = s.event + 1 })) (sym (one_more x.0 s.sent));
          table = f;
          left = g;
          long = omega arith;
        })
    went (works w) s t f g ready e =
        let x = mapped_from (λ ws. writing ws s) (worked terms s.table w) t e in
        let d = did w s.table x.0 f ready.0 x.1 in
        subst (λ u. Went s u (works w)) x.2 (record {
          valued = ap (option_map (λ ws. writing ws (seen s))) d.valued ∙ ap (λ l. Some (record (seen s) { table = l })) (sym (map-append of s.table x.0));
          table = formed_both m.has s.table x.0 f d.formed;
          left = g;
          long = length-append s.table x.0 ∙ ap (λ k. length s.table + k) d.long;
        })

    -- all acts
    pub record AllWent (s t : Progress Tree) (acts : List Act) : Type 0 where
      pub valued : after_all m (map of names) acts (seen s) ≡ Some (seen t)
      pub table : AreFormed m.has (trees_of t.table)
      pub left : AreFormed m.has (trees_of t.left)
      pub long : length t.table ≡ length s.table + registers_in acts

    pub all_went : (acts : List Act) (s t : Progress Tree) → AreFormed m.has (trees_of s.table) → AreFormed m.has (trees_of s.left) → IsVerified m.has acts (length s.table) → after_all terms names acts s ≡ Some t → AllWent s t acts
    all_went [] s t f g ready e =
        let is : s ≡ t = cc in
        let z : length s.table ≡ length s.table + 0 = omega arith in
        subst (λ u. AllWent s u []) is (record { valued = refl; table = f; left = g; long = z })
    all_went (act ∷ acts) s t f g ready e =
        let b = bound (after_all terms names acts) (after terms names act s) t e in
        let r = ready_first m.has act acts (length s.table) ready in
        let w = went act s b.0 f g r.0 b.1 in
        let on = all_went acts b.0 t w.table w.left (subst (IsVerified m.has acts) (sym w.long) r.1) b.2 in
        record {
          valued = ap (option_and_then (after_all m (map of names) acts)) w.valued ∙ on.valued;
          table = on.table;
          left = on.left;
          long = on.long ∙ ap (λ k. k + registers_in acts) w.long ∙ (let z : length s.table + registers_of act + registers_in acts ≡ length s.table + (registers_of act + registers_in acts) = omega arith in z);
        }
