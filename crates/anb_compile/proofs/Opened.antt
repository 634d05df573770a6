-- The checks of a label, in order, are of the entries that it brings.
use Rattle.std.proofs.Common.{◌≡◌, ℕ, zero, suc, ◌+◌, ◌-◌, ◌<◌, ◌≤◌, List, [], ◌∷◌, ◌++◌, length, map, take, drop, Bool, true, false, ◌==◌, Option, Some, None, refl, sym, ap, ◌∙◌, subst, arith, length-append, length-drop, append_assoc, ◌⊎◌, inl, inr}
use Rattle.std.specs.Prelude.{slice_get, unwrap_or}
use Rattle.std.specs.List.{AllByRecursion}
use Rattle.std.proofs.lemmas.List.{length-map, length-take-le, drop_all}
use Rattle.std.proofs.Math.Seq.{drop-append_seam}
use Rattle.anb_lemmas.proofs.Options.{mapped_from}
use Rattle.anb_lemmas.proofs.Lists.{got_within}
use Rattle.anb_term.specs.declared.term.Op.{Op}
use Rattle.anb_term.specs.Operator.{arity, keys}
use Rattle.anb_term.specs.Tree.{Tree, leaf, node, Trees, none, more, trees_of, list_of, IsFormed, AreFormed}
use Rattle.anb_term.specs.TreeSame.{list_of-trees_of}
use Rattle.anb_term.specs.declared.term.Term.{Term}
use Rattle.anb_term.specs.View.{term_of}
use Rattle.anb_term.specs.Demand.{opens, equals}
use Rattle.anb_term.specs.Value.{RecipeTree, label, part, build}
use Rattle.anb_term.proofs.Lists.{slice_get-there, formed_items, formed_take}
use Rattle.anb_close.specs.Rows.{place, made_for, mades_for, made_recipe, mades_recipes}
use Rattle.anb_close.specs.declared.entry.Entry.{Entry}
use Rattle.anb_close.specs.declared.entry.Opening.{Opening}
use Rattle.anb_close.specs.declared.entry.Origin.{Origin}
use Rattle.anb_close.specs.declared.entry.Origin.TheVariants.{Label, Part}
use Rattle.anb_close.specs.MadeView.{made_tree}
use Rattle.anb_close.specs.Entries.{rows, terms_of, is_label, labels_of, part_entries, openings_from, IsOpened, IsPartOf, IsKnown, IsPart, HasAdded}
use Rattle.anb_close.specs.Recipes.{recipe_for, recipes}
use Rattle.anb_close.proofs.Rows.{optional, both_some, built_some, place_at, mades_length, row_term}
use Rattle.anb_close.proofs.Finding.{rows_length}
use Rattle.anb_close.proofs.Growing.{formed_at}
use Rattle.anb_close.proofs.Closing.{opened_row}
use Rattle.anb_close.proofs.Origins.{recipes_length, recipe_at, each_part}
use Rattle.anb_basis.specs.declared.check.Check.{Check}
use Rattle.anb_basis.specs.declared.check.Check.TheVariants.{Open, Equal}
use Rattle.anb_basis.specs.Checks.{Fits, AllFit, IsComparedWith, IsEqual, InOrder}
use Rattle.anb_compile.specs.Writing.{IsOver, AreOver, entry_at, demand_in, IsCheckOf, AreChecksOf, count_all_opened}
use Rattle.anb_compile.proofs.Lists.{later_part}

-- ---- chosen compositions are over the entries

mutual
  pub made_over : (has : Op → Bool) (rs : List (Option Tree)) (t m : Tree) → made_for rs t ≡ Some m → IsFormed has t → IsOver has (length rs) m
  made_over has rs (leaf n) m e f =
      let h = mapped_from leaf (place rs (leaf n)) m e in
      subst (IsOver has (length rs)) h.2 (got_within rs h.0 _ (place_at rs (leaf n) h.0 h.1))
  made_over has rs (node o ts) m e f = elim (optional (place rs (node o ts))) [
    | inl h ↦
        let s : leaf h.0 ≡ m = (let q = rw (h.1) at e in cc) in
        subst (IsOver has (length rs)) s (got_within rs h.0 _ (place_at rs (node o ts) h.0 h.1))
    | inr p ↦
        let h = built_some o (length (list_of ts) == arity o) (mades_for rs ts) m (rw p at e) in
        subst (IsOver has (length rs)) h.3 (f.0, mades_length rs ts h.1 h.2 ∙ f.1, mades_over has rs ts h.1 h.2 f.2)
  ]

  pub mades_over : (has : Op → Bool) (rs : List (Option Tree)) (ts ms : Trees) → mades_for rs ts ≡ Some ms → AreFormed has ts → AreOver has (length rs) ms
  mades_over has rs none ms e f = let s : none ≡ ms = cc in subst (AreOver has (length rs)) s tt
  mades_over has rs (more t ts) ms e f =
      let h = both_some (made_for rs t) (mades_for rs ts) ms e in
      subst (AreOver has (length rs)) h.4 (made_over has rs t h.0 h.2 f.0, mades_over has rs ts h.1 h.3 f.1)

mutual
  over_wider : (has : Op → Bool) (j k : ℕ) → j ≤ k → (m : Tree) → IsOver has j m → IsOver has k m
  over_wider has j k h (leaf n) o = omega (arith, h, o)
  over_wider has j k h (node p ms) o = (o.0, o.1, overs_wider has j k h ms o.2)

  overs_wider : (has : Op → Bool) (j k : ℕ) → j ≤ k → (ms : Trees) → AreOver has j ms → AreOver has k ms
  overs_wider has j k h none o = tt
  overs_wider has j k h (more m ms) o = (over_wider has j k h m o.0, overs_wider has j k h ms o.1)

-- ---- recipes stay

pub entry_stays : (rs later : List RecipeTree) (n : ℕ) → n < length rs → entry_at (rs ++ later) n ≡ entry_at rs n
entry_stays [] later n h = absurd (omega arith)
entry_stays (r ∷ rs) later zero h = refl
entry_stays (r ∷ rs) later (suc n) h = entry_stays rs later n (omega arith)

mutual
  pub made_stays : (has : Op → Bool) (k : ℕ) (rs later : List RecipeTree) (m : Tree) → k ≤ length rs → IsOver has k m → made_recipe (rs ++ later) m ≡ made_recipe rs m
  made_stays has k rs later (leaf n) h o = entry_stays rs later n (omega (arith, h, o))
  made_stays has k rs later (node p ms) h o = ap (build p) (mades_stay has k rs later ms h o.2)

  pub mades_stay : (has : Op → Bool) (k : ℕ) (rs later : List RecipeTree) (ms : Trees) → k ≤ length rs → AreOver has k ms → mades_recipes (rs ++ later) ms ≡ mades_recipes rs ms
  mades_stay has k rs later none h o = refl
  mades_stay has k rs later (more m ms) h o = cc (made_stays has k rs later m h o.0, mades_stay has k rs later ms h o.1)

-- ---- entries

is_part : (x : Origin) → is_label x ≡ false → (o : Op) × (j : ℕ) × (ks : List Tree) × (i : ℕ) × (x ≡ Part o j ks i)
is_part (Label n) e = cc
is_part (Part o j ks i) e = (o, j, ks, i, refl)

-- the entry there, if any, is the first part of another
Begins : List Entry → ℕ → Type 0
Begins es p = (e : Entry) → slice_get es p ≡ Some e → (o : Op) × (ks : List Tree) × (i : ℕ) × (e.origin ≡ Part o 0 ks i)

Parts : List Entry → ℕ → Type 0
Parts es n = (p : ℕ) (e : Entry) → n < p → slice_get es p ≡ Some e → is_label e.origin ≡ false

skip_openings : (o : Op) (ks : List Tree) (i j : ℕ) (ps : List Tree) (p : ℕ) (back : List Entry) → openings_from p (part_entries o ks i (suc j) ps ++ back) ≡ openings_from (p + length ps) back
skip_openings o ks i j [] p back = let n : p ≡ p + 0 = omega arith in ap (λ q. openings_from q back) n
skip_openings o ks i j (t ∷ ps) p back =
    let n : (p + 1) + length ps ≡ p + suc (length ps) = omega arith in
    let m : suc j + 1 ≡ suc (j + 1) = omega arith in
    let P : ℕ → Type 0 = λ q. openings_from (p + 1) (part_entries o ks i q ps ++ back) ≡ openings_from ((p + 1) + length ps) back in
    subst P (sym m) (skip_openings o ks i (j + 1) ps (p + 1) back) ∙ ap (λ q. openings_from q back) n

first_opening : (o : Op) (ks : List Tree) (i : ℕ) (ps : List Tree) (p : ℕ) (back : List Entry) → 0 < length ps
    → openings_from p (part_entries o ks i 0 ps ++ back) ≡ record { op = o; keys = ks; of = i; first = p } ∷ openings_from (p + length ps) back
first_opening o ks i [] p back h = absurd (omega arith)
first_opening o ks i (t ∷ ps) p back h =
    let x : Opening = record { op = o; keys = ks; of = i; first = p } in
    let n : (p + 1) + length ps ≡ p + suc (length ps) = omega arith in
    let m : 0 + 1 ≡ suc 0 = omega arith in
    let P : ℕ → Type 0 = λ q. openings_from (p + 1) (part_entries o ks i q ps ++ back) ≡ openings_from ((p + 1) + length ps) back in
    ap (λ l. x ∷ l) (subst P (sym m) (skip_openings o ks i 0 ps (p + 1) back) ∙ ap (λ q. openings_from q back) n)

length-parts : (o : Op) (ks : List Tree) (i j : ℕ) (ps : List Tree) → length (part_entries o ks i j ps) ≡ length ps
length-parts o ks i j [] = refl
length-parts o ks i j (p ∷ ps) = omega (arith, length-parts o ks i (j + 1) ps)

some_is : {A : Type 0} (o : Option A) (d r : A) (x : A) → o ≡ Some x → unwrap_or o d ≡ r → o ≡ Some r
some_is None d r x e h = cc
some_is (Some y) d r x e h = ap Some h

module _ (has : Op → Bool) (es : List Entry) (known : IsKnown es) (formed : AreFormed has (trees_of (terms_of es))) where
  length-recipes : length (recipes es) ≡ length es
  length-recipes = recipes_length [] es ∙ (let n : 0 + length es ≡ length es = omega arith in n)

  pub recipe_here : (p : ℕ) (e : Entry) → slice_get es p ≡ Some e → slice_get (recipes es) p ≡ Some (recipe_for (recipes es) e.origin)
  recipe_here p e at =
      let within = got_within es p e at in
      let there = slice_get-there (recipes es) p (omega (arith, within, length-recipes)) in
      some_is (slice_get (recipes es) p) (label 0) (recipe_for (recipes es) e.origin) there.0 there.1 (recipe_at es known p e at)

  -- ---- an opening is a check of the entries before its parts

  pub opened_formed : (i f : ℕ) (o : IsOpened es i f) → IsFormed has (node o.op o.operands)
  opened_formed i f o = formed_at has (terms_of es) i (node o.op o.operands) formed (row_term (terms_of es) i (node o.op o.operands) (opened_row es i f o))

  pub count_parts : (i f : ℕ) (o : IsOpened es i f) → length (drop (keys o.op) (list_of o.operands)) ≡ arity o.op - keys o.op
  count_parts i f o = let a = (opened_formed i f o).1 in omega (arith, length-drop (keys o.op) (list_of o.operands), a)

  opening_of : (i f : ℕ) (o : IsOpened es i f) → Opening
  opening_of i f o = record { op = o.op; keys = o.keys_made; of = i; first = f }

  opened_check : (i f : ℕ) (o : IsOpened es i f) → IsCheckOf has (recipes es) f (Open (opening_of i f o))
  unfolding opening_of
  opened_check i f o =
      let us = o.operands in
      let formed_us = opened_formed i f o in
      let P : ℕ → Type 0 = λ n. AreOver has n (trees_of o.keys_made) in
      let over = mades_over has (rows o.front) (trees_of (take (keys o.op) (list_of us))) (trees_of o.keys_made) o.made (formed_take has (keys o.op) (list_of us) (formed_items has us formed_us.2)) in
      let front : length (rows o.front) ≡ f = rows_length o.front ∙ o.at in
      let k = o.some_part in
      let many : length o.keys_made ≡ keys o.op =
      sym (ap length (list_of-trees_of o.keys_made)) ∙ mades_length (rows o.front) (trees_of (take (keys o.op) (list_of us))) (trees_of o.keys_made) o.made
      ∙ ap length (list_of-trees_of (take (keys o.op) (list_of us))) ∙ length-take-le (keys o.op) (list_of us) (omega (arith, k)) in
      let own = got_within (rows o.front) i _ o.own in (
        formed_us.0,
        o.can,
        subst P front over,
        many,
        omega (arith, own, front),
        λ j h. let t = slice_get-there (drop (keys o.op) (list_of us)) j (omega (arith, h, count_parts i f o)) in
            let n : 0 + j ≡ j = omega arith in
            recipe_here (f + j) _ (each_part es i f o j t.0 t.1) ∙ ap (λ q. Some (part o.op q (mades_recipes (recipes es) (trees_of o.keys_made)) (entry_at (recipes es) i))) n,
      )

  -- ---- where the next opening begins

  -- no part of an entry that was opened comes right behind
  IsLast : Entry → Type 0
  IsLast x = (o : Op) (j : ℕ) (ks : List Tree) (i f : ℕ) (n : IsOpened es i f) → x.origin ≡ Part o j ks i → n.op ≡ o → suc j < length (drop (keys n.op) (list_of n.operands)) → ⊥

  begins_with : (m : ℕ) (x : Entry) → slice_get es m ≡ Some x → IsLast x → (e : Entry) (o : Op) (j : ℕ) (ks : List Tree) (i : ℕ) → IsPartOf es known.firsts (m + 1) o j ks i → e.origin ≡ Part o j ks i
      → (q : Op) × (ls : List Tree) × (k : ℕ) × (e.origin ≡ Part q 0 ls k)
  unfolding IsLast
  begins_with m x here last e o zero ks i p is = (o, ks, i, is)
  begins_with m x here last e o (suc j) ks i p is =
      let n = p.opened in
      let w = p.within in
      let t = slice_get-there (drop (keys n.op) (list_of n.operands)) j (omega (arith, w)) in
      let at = each_part es i p.first n j t.0 t.1 in
      let same : p.first + j ≡ m = (let c = p.counts in omega arith) in
      let origin : x.origin ≡ Part n.op (0 + j) n.keys_made i = (let h = ap (slice_get es) same in cc) in
      let z : 0 + j ≡ j = omega arith in
      let L : ℕ → Type 0 = λ q. x.origin ≡ Part n.op q n.keys_made i in
      absurd (last n.op j n.keys_made i p.first n (subst L z origin) refl w)

  begins_after : (m : ℕ) (x : Entry) → slice_get es m ≡ Some x → IsLast x → Parts es m → Begins es (m + 1)
  unfolding Begins Parts
  begins_after m x here last parts e at =
      let o = is_part e.origin (parts (m + 1) e (omega arith) at) in
      begins_with m x here last e o.0 o.1 o.2 o.3 (known.parted (m + 1) e o.0 o.1 o.2 o.3 at o.4) o.4

  label_last : (x : Entry) → is_label x.origin ≡ true → IsLast x
  unfolding IsLast
  label_last x e o j ks i f n is op within = let h = ap is_label is in cc

  -- the last part of an opening
  part_last : (i f : ℕ) (o : IsOpened es i f) (c : ℕ) (x : Entry) → length (drop (keys o.op) (list_of o.operands)) ≡ c + 1 → x.origin ≡ Part o.op c o.keys_made i → IsLast x
  unfolding IsLast
  part_last i f o c x long origin q j ks k g n is op within =
      let same_of : i ≡ k = cc in
      let same_part : c ≡ j = cc in
      let R : ℕ → Type 0 = λ l. slice_get (rows es) l ≡ Some (Some (node n.op n.operands)) in
      let row : slice_get (rows es) i ≡ Some (Some (node n.op n.operands)) = subst R (sym same_of) (opened_row es k g n) in
      let own = opened_row es i f o in
      let ops : o.op ≡ n.op = cc in
      let us : o.operands ≡ n.operands = cc in
      let count : length (drop (keys o.op) (list_of o.operands)) ≡ length (drop (keys n.op) (list_of n.operands)) = ap (λ q. length (drop (keys q) (list_of o.operands))) ops ∙ ap (λ l. length (drop (keys n.op) (list_of l))) us in
      omega (arith, within, long, count, same_part)

  -- ---- the checks of openings from a place on, and then others

  module _ (others : List Check) (are : AreChecksOf has (recipes es) (length es) others) (none : count_all_opened others ≡ 0) where
    abbrev From : ℕ → Type 0
    From p = let cs = map Open (openings_from p (drop p es)) ++ others in AreChecksOf has (recipes es) p cs × (p + count_all_opened cs ≡ length es)

    past : (p : ℕ) → p ≡ length es → From p
    past p e =
        let no : map Open (openings_from p (drop p es)) ++ others ≡ others = ap (λ l. map Open (openings_from p l) ++ others) (drop_all p es (omega (arith, e))) in
        let P : List Check → Type 0 = λ cs. AreChecksOf has (recipes es) p cs × (p + count_all_opened cs ≡ length es) in
        let A : ℕ → Type 0 = λ n. AreChecksOf has (recipes es) n others in
        subst P (sym no) (subst A (sym e) are, omega (arith, none, e))

    from_opening : (i f : ℕ) (o : IsOpened es i f) → From (f + length (drop (keys o.op) (list_of o.operands))) → From f
    unfolding opening_of
    from_opening i f o rest =
        let ps = drop (keys o.op) (list_of o.operands) in
        let parts = part_entries o.op o.keys_made i 0 ps in
        let x = opening_of i f o in
        let some : 0 < length ps = (let k = o.some_part in omega (arith, length-drop (keys o.op) (list_of o.operands))) in
        let at = o.at in
        let here : drop f es ≡ parts ++ o.back = ap (drop f) o.lies ∙ ap (λ n. drop n (o.front ++ (parts ++ o.back))) (sym at) ∙ drop-append_seam o.front (parts ++ o.back) in
        let size : length (o.front ++ parts) ≡ f + length ps = omega (arith, length-append o.front parts, length-parts o.op o.keys_made i 0 ps, at) in
        let back : drop (f + length ps) es ≡ o.back =
        ap (drop (f + length ps)) (o.lies ∙ sym (append_assoc o.front parts o.back)) ∙ ap (λ n. drop n ((o.front ++ parts) ++ o.back)) (sym size) ∙ drop-append_seam (o.front ++ parts) o.back in
        let opening : openings_from f (drop f es) ≡ x ∷ openings_from (f + length ps) (drop (f + length ps) es) =
        ap (openings_from f) here ∙ first_opening o.op o.keys_made i ps f o.back some ∙ ap (λ l. x ∷ openings_from (f + length ps) l) (sym back) in
        let cs = map Open (openings_from (f + length ps) (drop (f + length ps) es)) ++ others in
        let all : map Open (openings_from f (drop f es)) ++ others ≡ Open x ∷ cs = ap (λ l. map Open l ++ others) opening in
        let P : List Check → Type 0 = λ l. AreChecksOf has (recipes es) f l × (f + count_all_opened l ≡ length es) in
        let C : ℕ → Type 0 = λ n. AreChecksOf has (recipes es) (f + n) cs in
        let count = count_parts i f o in
        subst P (sym all) ((opened_check i f o, subst C count rest.0), omega (arith, rest.1, count))

    -- an opening begins there
    opens_at : (p : ℕ) (e : Entry) (o : Op) (ks : List Tree) (i : ℕ) → IsPartOf es known.firsts p o 0 ks i → (f : ℕ) × (f ≡ p) × IsOpened es i f
    opens_at p e o ks i n = (n.first, (let c = n.counts in omega arith), n.opened)

    checks_from : (fuel p : ℕ) → length es ≤ p + fuel → p ≤ length es → Begins es p → ((q : ℕ) (e : Entry) → p ≤ q → slice_get es q ≡ Some e → is_label e.origin ≡ false) → From p
    unfolding Begins Parts
    checks_from zero p h l begins parts = past p (omega arith)
    checks_from (suc fuel) p h l begins parts = elim (less_or p (length es) l) [
      | inr e ↦ past p e
      | inl below ↦
          let e = slice_get-there es p below in
          let b = begins e.0 e.1 in
          let k = opens_at p e.0 b.0 b.1 b.2 (known.parted p e.0 b.0 0 b.1 b.2 e.1 b.3) in
          let f = k.0 in
          let o = k.2 in
          let ps = drop (keys o.op) (list_of o.operands) in
          let some : 0 < length ps = (let k = o.some_part in omega (arith, length-drop (keys o.op) (list_of o.operands))) in
          let c = length ps - 1 in
          let t = slice_get-there ps c (omega arith) in
          let x = each_part es b.2 f o c t.0 t.1 in
          let z : 0 + c ≡ c = omega arith in
          let y : Entry = record { origin = Part o.op (0 + c) o.keys_made b.2; term = term_of t.0 } in
          let last = part_last b.2 f o c y (let n : length ps ≡ c + 1 = omega arith in n) (ap (λ n. Part o.op n o.keys_made b.2) z) in
          let next : (f + c) + 1 ≡ f + length ps = omega arith in
          let B : ℕ → Type 0 = λ n. Begins es n in
          let on = subst B next (begins_after (f + c) y x last (λ q d m at. parts q d (omega (arith, m, k.1)) at)) in
          let within : f + length ps ≤ length es = (let w = got_within es (f + c) y x in omega arith) in
          let go = checks_from fuel (f + length ps) (omega (arith, h, k.1, some)) within on (λ q y m at. parts q y (omega (arith, m, k.1)) at) in
          subst From k.1 (from_opening b.2 f o go)
    ]
      where
        less_or : (a b : ℕ) → a ≤ b → (a < b) ⊎ (a ≡ b)
        less_or zero zero h = inr refl
        less_or zero (suc b) h = inl (omega arith)
        less_or (suc a) zero h = absurd (omega arith)
        less_or (suc a) (suc b) h = elim (less_or a b (omega arith)) [ inl i ↦ inl (omega arith) | inr e ↦ inr (omega arith) ]

  -- ---- all checks that fit are over the entries

  compared_over : (i : ℕ) (c : Tree) → IsComparedWith es i c → (i < length es) × IsOver has (length es) c
  compared_over i c h = elim h [
    | inl a ↦
        let n : length (terms_of es) ≡ length es = length-map es _ in
        let f = formed_at has (terms_of es) i a.0 formed a.2 in
        let P : ℕ → Type 0 = λ k. IsOver has k c in
        (omega (arith, got_within (terms_of es) i a.0 a.2, n), subst P (rows_length es) (made_over has (rows es) a.0 c a.3 f))
    | inr a ↦
        let own = row_term (terms_of es) i (node a.0 a.1) a.3 in
        let f = formed_at has (terms_of es) i (node a.0 a.1) formed own in
        let n : length (terms_of es) ≡ length es = length-map es _ in
        let P : ℕ → Type 0 = λ k. AreOver has k a.2 in
        let over : IsOver has (length es) (node a.0 a.2) = (f.0, mades_length (rows es) a.1 a.2 a.5 ∙ f.1, subst P (rows_length es) (mades_over has (rows es) a.1 a.2 a.5 f.2)) in
        (omega (arith, got_within (terms_of es) i (node a.0 a.1) own, n), subst (IsOver has (length es)) a.6 over)
  ]

  equals_are : (cs : List Check) → AllByRecursion IsEqual cs → ((k : ℕ) (c : Check) → slice_get cs k ≡ Some c → Fits es c) → AreChecksOf has (recipes es) (length es) cs × (count_all_opened cs ≡ 0)
  equals_are [] all fit = (tt, refl)
  equals_are (Open x ∷ cs) all fit = absurd all.0
  equals_are (Equal i w ∷ cs) all fit =
      let a = equals_are cs all.1 (λ k. fit (suc k)) in
      let n : length es ≡ length es + 0 = omega arith in
      let P : ℕ → Type 0 = λ k. AreChecksOf has (recipes es) k cs in
      ((compared_over i (made_tree w) (fit 0 (Equal i w) refl), subst P n a.0), omega (arith, a.1))

  -- the checks of a label
  pub label_checks : (before : List Entry) (t : Term) (cs new : List Check) → HasAdded before t es → AllFit es new → InOrder (length before) es cs new
      → let now = drop (length cs) new in AreChecksOf has (recipes es) (length before + 1) now × ((length before + 1) + count_all_opened now ≡ length es)
  unfolding Parts
  label_checks before t cs new added fit order =
      let lab : Entry = record { origin = Label (length (labels_of before)); term = t } in
      let n = length before in
      let opens = map Open (openings_from n (drop n es)) in
      let now : drop (length cs) new ≡ opens ++ order.equals = ap (drop (length cs)) order.is ∙ drop-append_seam cs (opens ++ order.equals) in
      let here : drop n es ≡ lab ∷ added.parts = ap (drop n) added.is ∙ drop-append_seam before (lab ∷ added.parts) in
      let front : length (before ++ lab ∷ []) ≡ n + 1 = length-append before (lab ∷ []) in
      let next : drop (n + 1) es ≡ added.parts =
      ap (drop (n + 1)) (added.is ∙ sym (append_assoc before (lab ∷ []) added.parts)) ∙ ap (λ k. drop k ((before ++ lab ∷ []) ++ added.parts)) (sym front) ∙ drop-append_seam (before ++ lab ∷ []) added.parts in
      let first : openings_from n (drop n es) ≡ openings_from (n + 1) (drop (n + 1) es) = ap (openings_from n) here ∙ ap (openings_from (n + 1)) (sym next) in
      let all : drop (length cs) new ≡ map Open (openings_from (n + 1) (drop (n + 1) es)) ++ order.equals = now ∙ ap (λ l. map Open l ++ order.equals) first in
      let G : List Entry → Type 0 = λ l. slice_get l n ≡ Some lab in
      let at : slice_get es n ≡ Some lab = subst G (sym added.is) (seam before lab added.parts) in
      let long : length es ≡ n + suc (length added.parts) = ap length added.is ∙ length-append before (lab ∷ added.parts) in
      let Q : List Entry → Type 0 = λ l. (p : ℕ) (e : Entry) → n + 1 ≤ p → slice_get l p ≡ Some e → is_label e.origin ≡ false in
      let parts = subst Q (sym added.is) (parts_after before lab added.parts added.are) in
      let fit_equals : (k : ℕ) (c : Check) → slice_get order.equals k ≡ Some c → Fits es c =
      λ k c e. let E : List Check → Type 0 = λ l. slice_get l (length cs + (length opens + k)) ≡ Some c in
      fit (length cs + (length opens + k)) c (subst E (sym order.is) (later_part cs (opens ++ order.equals) (length opens + k) c (later_part opens order.equals k c e))) in
      let e = equals_are order.equals order.are fit_equals in
      let begins = begins_after n lab at (label_last lab refl) (λ p e h. parts p e (omega (arith, h))) in
      let go = checks_from order.equals e.0 e.1 (length es) (n + 1) (omega arith) (omega (arith, long)) begins parts in
      let R : List Check → Type 0 = λ l. AreChecksOf has (recipes es) (n + 1) l × ((n + 1) + count_all_opened l ≡ length es) in
      subst R (sym all) go
    where
      seam : (xs : List Entry) (y : Entry) (ys : List Entry) → slice_get (xs ++ y ∷ ys) (length xs) ≡ Some y
      seam [] y ys = refl
      seam (x ∷ xs) y ys = seam xs y ys

      all_parts : (xs : List Entry) → AllByRecursion IsPart xs → (p : ℕ) (e : Entry) → slice_get xs p ≡ Some e → is_label e.origin ≡ false
      all_parts [] all p e at = cc
      all_parts (x ∷ xs) all zero e at = let s : x ≡ e = cc in subst IsPart s all.0
      all_parts (x ∷ xs) all (suc p) e at = all_parts xs all.1 p e at

      parts_after : (xs : List Entry) (y : Entry) (ys : List Entry) → AllByRecursion IsPart ys → (p : ℕ) (e : Entry) → length xs + 1 ≤ p → slice_get (xs ++ y ∷ ys) p ≡ Some e → is_label e.origin ≡ false
      parts_after [] y ys all zero e h at = absurd (omega arith)
      parts_after [] y ys all (suc p) e h at = all_parts ys all p e at
      parts_after (x ∷ xs) y ys all zero e h at = absurd (omega arith)
      parts_after (x ∷ xs) y ys all (suc p) e h at = parts_after xs y ys all p e (omega (arith, h)) at

  -- ---- what a check demands stays

  abbrev IsOverAll : Check → Type 0
  IsOverAll (Open x) = AreOver has (length es) (trees_of x.keys) × (x.of < length es)
  IsOverAll (Equal i w) = (i < length es) × IsOver has (length es) (made_tree w)

  check_over : (c : Check) → Fits es c → IsOverAll c
  unfolding opening_of
  check_over (Open x) fit =
      let p = known.parted x.first fit.0 x.op 0 x.keys x.of fit.1 fit.2 in
      let c = opened_check x.of p.first p.opened in
      let within : p.first ≤ length es = (let w = got_within es x.first fit.0 fit.1 in let n = p.counts in omega arith) in
      let K : List Tree → Type 0 = λ l. AreOver has (length es) (trees_of l) in
      (subst K p.keys_are (overs_wider has p.first (length es) within (trees_of p.opened.keys_made) c.2), omega (arith, c.4, within))
  check_over (Equal i w) fit = compared_over i (made_tree w) fit

  demand_stays : (later : List RecipeTree) (c : Check) → IsOverAll c → demand_in (recipes es ++ later) c ≡ demand_in (recipes es) c
  demand_stays later (Open x) over =
      let n = length-recipes in
      let a = mades_stay has (length es) (recipes es) later (trees_of x.keys) (omega (arith, n)) over.0 in
      let b = entry_stays (recipes es) later x.of (omega (arith, n, over.1)) in
      ap (λ q. opens x.op q (entry_at (recipes es ++ later) x.of)) a ∙ ap (opens x.op (mades_recipes (recipes es) (trees_of x.keys))) b
  demand_stays later (Equal i w) over =
      let n = length-recipes in
      let a = entry_stays (recipes es) later i (omega (arith, n, over.0)) in
      let b = made_stays has (length es) (recipes es) later (made_tree w) (omega (arith, n)) over.1 in
      ap (λ q. equals q (made_recipe (recipes es ++ later) (made_tree w))) a ∙ ap (equals (entry_at (recipes es) i)) b

  pub demands_stay : (later : List RecipeTree) (cs : List Check) → ((k : ℕ) (c : Check) → slice_get cs k ≡ Some c → Fits es c) → map (demand_in (recipes es ++ later)) cs ≡ map (demand_in (recipes es)) cs
  demands_stay later [] fit = refl
  demands_stay later (c ∷ cs) fit = cc (demand_stays later c (check_over c (fit 0 c refl)), demands_stay later cs (λ k. fit (suc k)))
