-- Works looked up by the classes of their operands: what is linked is tied, and without a link nothing is left to tie.
use Rattle.std.proofs.Common.{◌≡◌, ℕ, zero, suc, ◌+◌, ◌-◌, ◌<◌, List, [], ◌∷◌, ◌++◌, length, map, Bool, true, Option, Some, None, refl, sym, ap, ◌∙◌, subst, inl, inr, ◌⊎◌, ⊎_elim, arith}
use Rattle.std.specs.Prelude.{slice_get}
use Rattle.std.specs.List.{AllByRecursion}
use Rattle.anb_lemmas.proofs.Each.{each_in_both}
use Rattle.anb_lemmas.proofs.Lists.{got_within}
use Rattle.anb_term.specs.declared.term.Op.{Op}
use Rattle.anb_term.specs.Operator.{arity, keys}
use Rattle.anb_term.specs.Tree.{Tree, leaf, node, trees_of, list_of}
use Rattle.anb_term.specs.TreeSame.{list_of-trees_of}
use Rattle.anb_term.specs.Lawful.{picked}
use Rattle.anb_term.proofs.Lists.{slice_get-map, slice_get-there}
use Rattle.anb_plays.specs.Codes.{Work, make, undo, equal}
use Rattle.anb_certify.specs.declared.links.Pair.{Pair}
use Rattle.anb_certify.specs.Classes.{in_class, Saturated}
use Rattle.anb_certify.specs.Links.{IsTiedLink, AreTiedLinks, Linked, IsLinkOf, HasLinked, AreLinked, IsToLink}
use Rattle.anb_certify.specs.Signs.{SignsValue, sign_of, Owns, HasSigned}
use Rattle.anb_certify.specs.Tied.{Did, InPairs, Tied}
use Rattle.anb_certify.proofs.Classing.{Classed, classed, turn, join, in_one, rules_tie}
use Rattle.anb_certify.proofs.Fitting.{did_cases}
use Rattle.anb_certify.proofs.Tied.{node_is}

-- one class, by the registers' names
pub same_name : (cs : List ℕ) (a b : ℕ) → in_class cs a b ≡ true → slice_get cs a ≡ slice_get cs b
same_name cs a b e = go (classed cs a b e) where
  go : Classed cs a b → slice_get cs a ≡ slice_get cs b
  go (inl s) = ap (slice_get cs) s
  go (inr s) = s.1 ∙ sym s.2

leaf_is : (cs : List ℕ) (a b : ℕ) → slice_get cs a ≡ slice_get cs b → slice_get (map leaf cs) a ≡ slice_get (map leaf cs) b
leaf_is cs a b e = sym (mapped cs a) ∙ ap lifted e ∙ mapped cs b where
  lifted : Option ℕ → Option Tree
  lifted None = None
  lifted (Some c) = Some (leaf c)

  mapped : (l : List ℕ) (n : ℕ) → lifted (slice_get l n) ≡ slice_get (map leaf l) n
  mapped [] n = refl
  mapped (c ∷ l) zero = refl
  mapped (c ∷ l) (suc n) = mapped l n

pairs_pick : (cs : List ℕ) (ns ms : List ℕ) → InPairs (in_class cs) ns ms → picked (map leaf cs) ns ≡ picked (map leaf cs) ms
pairs_pick cs [] [] h = refl
pairs_pick cs [] (k ∷ ms) h = absurd h
pairs_pick cs (n ∷ ns) [] h = absurd h
pairs_pick cs (n ∷ ns) (k ∷ ms) h = rw (leaf_is cs n k (same_name cs n k h.0), pairs_pick cs ns ms h.1) refl

pairs_more : (Q : ℕ → ℕ → Bool) (ks ls : List ℕ) (n m : ℕ) → InPairs Q ks ls → Q n m ≡ true → InPairs Q (ks ++ n ∷ []) (ls ++ m ∷ [])
pairs_more Q [] [] n m h e = (e, tt)
pairs_more Q [] (l ∷ ls) n m h e = absurd h
pairs_more Q (k ∷ ks) [] n m h e = absurd h
pairs_more Q (k ∷ ks) (l ∷ ls) n m h e = (h.0, pairs_more Q ks ls n m h.1 e)

pairs_less : (Q : ℕ → ℕ → Bool) (ks ls : List ℕ) (n m : ℕ) → length ks ≡ length ls → InPairs Q (ks ++ n ∷ []) (ls ++ m ∷ []) → InPairs Q ks ls × (Q n m ≡ true)
pairs_less Q [] [] n m e h = (tt, h.0)
pairs_less Q [] (l ∷ ls) n m e h = absurd (omega (arith, e))
pairs_less Q (k ∷ ks) [] n m e h = absurd (omega (arith, e))
pairs_less Q (k ∷ ks) (l ∷ ls) n m e h = let r = pairs_less Q ks ls n m (omega (arith, e)) h.1 in ((h.0, r.0), r.1)

-- classes of operands that are there tell which are of one class
pick_pairs : (cs : List ℕ) (ns ms : List ℕ) → AllByRecursion (λ k. k < length cs) ns → AllByRecursion (λ k. k < length cs) ms → picked (map leaf cs) ns ≡ picked (map leaf cs) ms → InPairs (in_class cs) ns ms
pick_pairs cs [] [] h g e = tt
pick_pairs cs [] (k ∷ ms) h g e =
    let y = slice_get-there cs k g.0 in
    let f : [] ≡ leaf y.0 ∷ picked (map leaf cs) ms = e ∙ (rw (slice_get-map leaf cs k y.0 y.1) refl) in cc
pick_pairs cs (n ∷ ns) [] h g e =
    let x = slice_get-there cs n h.0 in
    let f : leaf x.0 ∷ picked (map leaf cs) ns ≡ [] = (rw (slice_get-map leaf cs n x.0 x.1) refl) ∙ e in cc
pick_pairs cs (n ∷ ns) (k ∷ ms) h g e =
    let x = slice_get-there cs n h.0 in
    let y = slice_get-there cs k g.0 in
    let a : picked (map leaf cs) (n ∷ ns) ≡ leaf x.0 ∷ picked (map leaf cs) ns = rw (slice_get-map leaf cs n x.0 x.1) refl in
    let b : picked (map leaf cs) (k ∷ ms) ≡ leaf y.0 ∷ picked (map leaf cs) ms = rw (slice_get-map leaf cs k y.0 y.1) refl in
    let f : leaf x.0 ∷ picked (map leaf cs) ns ≡ leaf y.0 ∷ picked (map leaf cs) ms = sym a ∙ e ∙ b in
    let same : x.0 ≡ y.0 = cc in
    (in_one cs n k x.0 x.1 (y.1 ∙ ap Some (sym same)), pick_pairs cs ns ms h.1 g.1 cc)

sign_is : (cl : List Tree) (o q : Op) (ns ms : List ℕ) → sign_of cl o ns ≡ sign_of cl q ms → (o ≡ q) × (picked cl ns ≡ picked cl ms)
sign_is cl o q ns ms e =
    let n = node_is o q _ _ e in
    (n.0, sym (list_of-trees_of (picked cl ns)) ∙ ap list_of n.1 ∙ list_of-trees_of (picked cl ms))

one_class : (cs : List ℕ) (x a b : ℕ) → in_class cs x a ≡ true → in_class cs x b ≡ true → in_class cs a b ≡ true
one_class cs x a b e f = join cs a x b (classed cs a x (turn cs x a (classed cs x a e))) (classed cs x b f)

-- ---- where there is no link

pub nothing_left : (did : List (ℕ × Work)) (cs : List ℕ) (made undone : SignsValue) (links : List Pair) → AreLinked did did cs made undone links → links ≡ [] → Saturated did cs
nothing_left did cs made undone links h none = record {
  compared = λ at a b d. h.compared at a b d none;
  built = λ at bt o ns ms d e pairs.
      let x = h.built at o ns d in
      let y = h.built bt o ms e in
      let s : sign_of (map leaf cs) o ns ≡ sign_of (map leaf cs) o ms = ap (λ l. node o (trees_of l)) (pairs_pick cs ns ms pairs) in
      let same : x.0 ≡ y.0 = h.one_builder (sign_of (map leaf cs) o ns) x.0 y.0 x.1 (subst (λ t. Owns made t y.0) (sym s) y.1) in
      one_class cs x.0 at bt (x.2 none) (subst (λ z. in_class cs z bt ≡ true) (sym same) (y.2 none));
  undone = λ at bt o ks ls n k j d e pairs one l.
      let x = h.opened at o ks n d in
      let y = h.opened bt o ls k e in
      let s : sign_of (map leaf cs) o (ks ++ n ∷ []) ≡ sign_of (map leaf cs) o (ls ++ k ∷ []) = ap (λ z. node o (trees_of z)) (pairs_pick cs (ks ++ n ∷ []) (ls ++ k ∷ []) (pairs_more (in_class cs) ks ls n k pairs one)) in
      let same : x.0 ≡ y.0 = h.one_opener (sign_of (map leaf cs) o (ks ++ n ∷ [])) x.0 y.0 x.1 (subst (λ t. Owns undone t y.0) (sym s) y.1) in
      one_class cs (x.0 + j) (at + j) (bt + j) (x.2 j l none) (subst (λ z. in_class cs (z + j) (bt + j) ≡ true) (sym same) (y.2 j l none));
}

-- ---- one work more

none_before : (old more new : List Pair) → new ≡ old ++ more → new ≡ [] → old ≡ []
none_before [] more new e f = refl
none_before (l ∷ old) more new e f = cc

still : (cs : List ℕ) (old more new : List Pair) (a b : ℕ) → new ≡ old ++ more → Linked cs old a b → Linked cs new a b
still cs old more new a b e h f = h (none_before old more new e f)

module _ (did seen : List (ℕ × Work)) (cs : List ℕ) where
  -- what was linked is tied
  more_tied : (n a b count : ℕ) (old new : List Pair) → AreTiedLinks n did old → HasLinked cs a b count old new → ((j : ℕ) → j < count → (a + j < n) × (b + j < n) × Tied did (a + j) (b + j)) → AreTiedLinks n did new
  more_tied n a b count old new h l tied = subst (AreTiedLinks n did) (sym l.are) (each_in_both (IsTiedLink n did) old l.more h (each l.more l.of)) where
    each : (more : List Pair) → AllByRecursion (IsLinkOf a b count) more → AllByRecursion (IsTiedLink n did) more
    each [] e = tt
    each (m ∷ more) e =
        let t = tied e.0.0 e.0.1 in
        let x = e.0.2 in
        let y = e.0.3 in
        let P : ℕ → Type 0 = λ k. (k < n) × (m.1 < n) × Tied did k m.1 in
        let Q : ℕ → Type 0 = λ k. (a + e.0.0 < n) × (k < n) × Tied did (a + e.0.0) k in
        (subst P (sym x) (subst Q (sym y) t), each more e.1)

  pub equal_linked : (at a b : ℕ) (made undone : SignsValue) (old new : List Pair) → IsToLink did cs at (equal a b) → AreLinked did seen cs made undone old → HasLinked cs a b 1 old new
      → AreLinked did (seen ++ (at, equal a b) ∷ []) cs made undone new
  equal_linked at a b made undone old new g h l = record {
    made_classes = h.made_classes;
    undone_classes = h.undone_classes;
    tied = more_tied (length cs) a b 1 old new h.tied l (λ j less. zero_case j less);
    compared = λ bt x y d. compared_in bt x y (did_cases seen at bt (equal a b) (equal x y) d);
    built = λ bt o ns d. let d2 = not_equal bt (make o ns) (did_cases seen at bt (equal a b) (make o ns) d) (λ e. cc) in let x = h.built bt o ns d2 in (x.0, x.1, still cs old l.more new x.0 bt l.are x.2);
    builders = h.builders;
    one_builder = h.one_builder;
    opened = λ bt o ks n d. let d2 = not_equal bt (undo o ks n) (did_cases seen at bt (equal a b) (undo o ks n) d) (λ e. cc) in let x = h.opened bt o ks n d2 in (x.0, x.1, λ j less. still cs old l.more new (x.0 + j) (bt + j) l.are (x.2 j less));
    openers = h.openers;
    one_opener = h.one_opener;
  } where
    zero_case : (j : ℕ) → j < 1 → (a + j < length cs) × (b + j < length cs) × Tied did (a + j) (b + j)
    zero_case zero less =
        let t = g.told at (equal a b) g.done in
        let x : a + 0 ≡ a = omega arith in
        let y : b + 0 ≡ b = omega arith in
        (omega (arith, got_within g.terms a t.0 t.1, g.long), omega (arith, got_within g.terms b t.0 t.2, g.long), rw (x, y) ((rules_tie did cs g.named).0 at a b g.done))
    zero_case (suc j) less = absurd (omega (arith, less))

    at_zero : (x y : ℕ) → (a ≡ x) → (b ≡ y) → Linked cs new x y
    at_zero x y e f = let m = l.linked 0 (omega arith) in let p : a + 0 ≡ x = omega (arith, e) in let q : b + 0 ≡ y = omega (arith, f) in subst (λ z. Linked cs new z y) p (subst (λ z. Linked cs new (a + 0) z) q m)

    compared_in : (bt x y : ℕ) → Did seen bt (equal x y) ⊎ ((at ≡ bt) × (equal a b ≡ equal x y)) → Linked cs new x y
    compared_in bt x y (inl d) = still cs old l.more new x y l.are (h.compared bt x y d)
    compared_in bt x y (inr e) = let w = e.1 in let f : a ≡ x = cc in let k : b ≡ y = cc in at_zero x y f k

    not_equal : (bt : ℕ) (w : Work) → Did seen bt w ⊎ ((at ≡ bt) × (equal a b ≡ w)) → (equal a b ≡ w → ⊥) → Did seen bt w
    not_equal bt w (inl d) n = d
    not_equal bt w (inr e) n = absurd (n e.1)

  pub make_linked : (at : ℕ) (o : Op) (ns : List ℕ) (x : ℕ) (made made2 undone : SignsValue) (old new : List Pair) → IsToLink did cs at (make o ns) → AreLinked did seen cs made undone old
      → HasSigned made (sign_of made.classes o ns) at made2 x → HasLinked cs x at 1 old new → AreLinked did (seen ++ (at, make o ns) ∷ []) cs made2 undone new
  make_linked at o ns x made made2 undone old new g h sg l = record {
    made_classes = sg.classes ∙ h.made_classes;
    undone_classes = h.undone_classes;
    tied = more_tied (length cs) x at 1 old new h.tied l (λ j less. zero_case j less);
    compared = λ bt a b d. still cs old l.more new a b l.are (h.compared bt a b (not_make bt (equal a b) (did_cases seen at bt (make o ns) (equal a b) d) (λ e. cc)));
    built = λ bt q ms d. built_in bt q ms (did_cases seen at bt (make o ns) (make q ms) d);
    builders = builders_in;
    one_builder = sg.one;
    opened = λ bt q ks n d. let d2 = not_make bt (undo q ks n) (did_cases seen at bt (make o ns) (undo q ks n) d) (λ e. cc) in let y = h.opened bt q ks n d2 in (y.0, y.1, λ j less. still cs old l.more new (y.0 + j) (bt + j) l.are (y.2 j less));
    openers = h.openers;
    one_opener = h.one_opener;
  } where
    s_is : sign_of made.classes o ns ≡ sign_of (map leaf cs) o ns
    s_is = ap (λ c. sign_of c o ns) h.made_classes

    builders_in : (t : Tree) (y : ℕ) → Owns made2 t y → (q : Op) × (ms : List ℕ) × Did did y (make q ms) × (t ≡ sign_of (map leaf cs) q ms)
    builders_in t y own = ⊎_elim (λ a. h.builders t y a) (λ b. (o, ns, subst (λ z. Did did z (make o ns)) (sym b.1) g.done, b.0 ∙ s_is)) (sg.only t y own)

    within : (q : Op) (ms : List ℕ) (y : ℕ) → Did did y (make q ms) → AllByRecursion (λ k. k < length cs) ms
    within q ms y d = let t = g.told y (make q ms) d in subst (λ n. AllByRecursion (λ k. k < n) ms) g.long t.1

    x_tied : Tied did x at
    x_tied =
        let b = builders_in (sign_of made.classes o ns) x sg.owns in
        let e = sign_is (map leaf cs) o b.0 ns b.1 (sym s_is ∙ b.3) in
        let d : Did did x (make o b.1) = subst (λ q. Did did x (make q b.1)) (sym e.0) b.2 in
        (rules_tie did cs g.named).1 x at o b.1 ns d g.done (pick_pairs cs b.1 ns (within b.0 b.1 x b.2) (within o ns at g.done) (sym e.1))

    x_there : x < length cs
    x_there = let b = builders_in (sign_of made.classes o ns) x sg.owns in let t = g.told x (make b.0 b.1) b.2 in omega (arith, got_within g.terms x _ t.2, g.long)

    at_there : at < length cs
    at_there = let t = g.told at (make o ns) g.done in omega (arith, got_within g.terms at _ t.2, g.long)

    zero_case : (j : ℕ) → j < 1 → (x + j < length cs) × (at + j < length cs) × Tied did (x + j) (at + j)
    zero_case zero less =
        let p : x + 0 ≡ x = omega arith in
        let q : at + 0 ≡ at = omega arith in
        rw (p, q) (x_there, at_there, x_tied)
    zero_case (suc j) less = absurd (omega (arith, less))

    built_in : (bt : ℕ) (q : Op) (ms : List ℕ) → Did seen bt (make q ms) ⊎ ((at ≡ bt) × (make o ns ≡ make q ms)) → (y : ℕ) × Owns made2 (sign_of (map leaf cs) q ms) y × Linked cs new y bt
    built_in bt q ms (inl d) = let y = h.built bt q ms d in (y.0, sg.kept _ y.0 y.1, still cs old l.more new y.0 bt l.are y.2)
    built_in bt q ms (inr e) =
        let w = e.1 in
        let f : o ≡ q = cc in
        let k : ns ≡ ms = cc in
        let m = l.linked 0 (omega arith) in
        let p : x + 0 ≡ x = omega arith in
        let r : at + 0 ≡ bt = omega (arith, e.0) in
        let s2 : sign_of made.classes o ns ≡ sign_of (map leaf cs) q ms = s_is ∙ ap (λ z. sign_of (map leaf cs) z ns) f ∙ ap (λ z. sign_of (map leaf cs) q z) k in
        (x, subst (λ t. Owns made2 t x) s2 sg.owns, subst (λ z. Linked cs new z bt) p (subst (λ z. Linked cs new (x + 0) z) r m))

    not_make : (bt : ℕ) (w : Work) → Did seen bt w ⊎ ((at ≡ bt) × (make o ns ≡ w)) → (make o ns ≡ w → ⊥) → Did seen bt w
    not_make bt w (inl d) n = d
    not_make bt w (inr e) n = absurd (n e.1)

  pub undo_linked : (at : ℕ) (o : Op) (ks : List ℕ) (n : ℕ) (x : ℕ) (made undone undone2 : SignsValue) (old new : List Pair) → IsToLink did cs at (undo o ks n) → AreLinked did seen cs made undone old
      → HasSigned undone (sign_of undone.classes o (ks ++ n ∷ [])) at undone2 x → HasLinked cs x at (arity o - keys o) old new → AreLinked did (seen ++ (at, undo o ks n) ∷ []) cs made undone2 new
  undo_linked at o ks n x made undone undone2 old new g h sg l = record {
    made_classes = h.made_classes;
    undone_classes = sg.classes ∙ h.undone_classes;
    tied = more_tied (length cs) x at (arity o - keys o) old new h.tied l (λ j less. (x_there j less, at_there j less, x_tied j less));
    compared = λ bt a b d. still cs old l.more new a b l.are (h.compared bt a b (not_undo bt (equal a b) (did_cases seen at bt (undo o ks n) (equal a b) d) (λ e. cc)));
    built = λ bt q ms d. let d2 = not_undo bt (make q ms) (did_cases seen at bt (undo o ks n) (make q ms) d) (λ e. cc) in let y = h.built bt q ms d2 in (y.0, y.1, still cs old l.more new y.0 bt l.are y.2);
    builders = h.builders;
    one_builder = h.one_builder;
    opened = λ bt q ls k d. opened_in bt q ls k (did_cases seen at bt (undo o ks n) (undo q ls k) d);
    openers = openers_in;
    one_opener = sg.one;
  } where
    s_is : sign_of undone.classes o (ks ++ n ∷ []) ≡ sign_of (map leaf cs) o (ks ++ n ∷ [])
    s_is = ap (λ c. sign_of c o (ks ++ n ∷ [])) h.undone_classes

    openers_in : (t : Tree) (y : ℕ) → Owns undone2 t y → (q : Op) × (ls : List ℕ) × (k : ℕ) × Did did y (undo q ls k) × (t ≡ sign_of (map leaf cs) q (ls ++ k ∷ []))
    openers_in t y own = ⊎_elim (λ a. h.openers t y a) (λ b. (o, ks, n, subst (λ z. Did did z (undo o ks n)) (sym b.1) g.done, b.0 ∙ s_is)) (sg.only t y own)

    within : (q : Op) (ls : List ℕ) (k y : ℕ) → Did did y (undo q ls k) → AllByRecursion (λ i. i < length cs) (ls ++ k ∷ [])
    within q ls k y d =
        let t = g.told y (undo q ls k) d in
        each_in_both (λ i. i < length cs) ls (k ∷ []) (subst (λ m. AllByRecursion (λ i. i < m) ls) g.long t.2) (omega (arith, got_within g.terms k _ t.5, g.long), tt)

    keys_count : (q : Op) (ls : List ℕ) (k y : ℕ) → Did did y (undo q ls k) → length ls ≡ keys q
    keys_count q ls k y d = (g.told y (undo q ls k) d).1

    own : (q : Op) × (ls : List ℕ) × (k : ℕ) × Did did x (undo q ls k) × (sign_of undone.classes o (ks ++ n ∷ []) ≡ sign_of (map leaf cs) q (ls ++ k ∷ []))
    own = openers_in (sign_of undone.classes o (ks ++ n ∷ [])) x sg.owns

    own_is : (o ≡ own.0) × (picked (map leaf cs) (ks ++ n ∷ []) ≡ picked (map leaf cs) (own.1 ++ own.2 ∷ []))
    own_is = sign_is (map leaf cs) o own.0 (ks ++ n ∷ []) (own.1 ++ own.2 ∷ []) (sym s_is ∙ own.4)

    own_did : Did did x (undo o own.1 own.2)
    own_did = subst (λ q. Did did x (undo q own.1 own.2)) (sym own_is.0) own.3

    x_tied : (j : ℕ) → j < arity o - keys o → Tied did (x + j) (at + j)
    x_tied j less =
        let pairs = pick_pairs cs (own.1 ++ own.2 ∷ []) (ks ++ n ∷ []) (within own.0 own.1 own.2 x own.3) (within o ks n at g.done) (sym own_is.1) in
        let few : length own.1 ≡ length ks = keys_count o own.1 own.2 x own_did ∙ sym (keys_count o ks n at g.done) in
        let r = pairs_less (in_class cs) own.1 ks own.2 n few pairs in
        (rules_tie did cs g.named).2 x at o own.1 ks own.2 n j own_did g.done r.0 r.1 less

    part_there : (y : ℕ) (ls : List ℕ) (k j : ℕ) → Did did y (undo o ls k) → j < arity o - keys o → y + j < length cs
    part_there y ls k j d less =
        let t = g.told y (undo o ls k) d in
        let q = slice_get-there t.3 j (omega (arith, less, t.4)) in
        omega (arith, got_within g.terms (y + j) q.0 (t.6 j (omega (arith, less, t.4)) ∙ q.1), g.long)

    x_there : (j : ℕ) → j < arity o - keys o → x + j < length cs
    x_there j less = part_there x own.1 own.2 j own_did less

    at_there : (j : ℕ) → j < arity o - keys o → at + j < length cs
    at_there j less = part_there at ks n j g.done less

    opened_in : (bt : ℕ) (q : Op) (ls : List ℕ) (k : ℕ) → Did seen bt (undo q ls k) ⊎ ((at ≡ bt) × (undo o ks n ≡ undo q ls k))
        → (y : ℕ) × Owns undone2 (sign_of (map leaf cs) q (ls ++ k ∷ [])) y × ((j : ℕ) → j < arity q - keys q → Linked cs new (y + j) (bt + j))
    opened_in bt q ls k (inl d) = let y = h.opened bt q ls k d in (y.0, sg.kept _ y.0 y.1, λ j less. still cs old l.more new (y.0 + j) (bt + j) l.are (y.2 j less))
    opened_in bt q ls k (inr e) =
        let w = e.1 in
        let f : o ≡ q = cc in
        let f1 : ks ≡ ls = cc in
        let f2 : n ≡ k = cc in
        let s2 : sign_of undone.classes o (ks ++ n ∷ []) ≡ sign_of (map leaf cs) q (ls ++ k ∷ []) = s_is ∙ ap (λ z. sign_of (map leaf cs) z (ks ++ n ∷ [])) f ∙ ap (λ z. sign_of (map leaf cs) q (z ++ n ∷ [])) f1 ∙ ap (λ z. sign_of (map leaf cs) q (ls ++ z ∷ [])) f2 in (
          x,
          subst (λ t. Owns undone2 t x) s2 sg.owns,
          λ j less. let P : ℕ → Type 0 = λ z. Linked cs new (x + j) (z + j) in subst P e.0 (l.linked j (let Q : Op → Type 0 = λ z. j < arity z - keys z in subst Q (sym f) less)),
        )

    not_undo : (bt : ℕ) (w : Work) → Did seen bt w ⊎ ((at ≡ bt) × (undo o ks n ≡ w)) → (undo o ks n ≡ w → ⊥) → Did seen bt w
    not_undo bt w (inl d) m = d
    not_undo bt w (inr e) m = absurd (m e.1)

  -- ---- what a look-up needs

  pub equal_bounds : (at a b : ℕ) → IsToLink did cs at (equal a b) → ((j : ℕ) → j < 1 → a + j < length cs) × ((j : ℕ) → j < 1 → b + j < length cs)
  equal_bounds at a b g =
      let t = g.told at (equal a b) g.done in (
        λ j l. omega (arith, l, got_within g.terms a t.0 t.1, g.long),
        λ j l. omega (arith, l, got_within g.terms b t.0 t.2, g.long),
      )

  pub make_within : (at : ℕ) (o : Op) (ns : List ℕ) → IsToLink did cs at (make o ns) → AllByRecursion (λ k. k < length cs) ns
  make_within at o ns g = let t = g.told at (make o ns) g.done in subst (λ n. AllByRecursion (λ k. k < n) ns) g.long t.1

  pub make_bounds : (at : ℕ) (o : Op) (ns : List ℕ) (x : ℕ) (made made2 undone : SignsValue) (old : List Pair) → IsToLink did cs at (make o ns) → AreLinked did seen cs made undone old
      → HasSigned made (sign_of made.classes o ns) at made2 x → ((j : ℕ) → j < 1 → x + j < length cs) × ((j : ℕ) → j < 1 → at + j < length cs)
  make_bounds at o ns x made made2 undone old g h sg =
      let u = g.told at (make o ns) g.done in
      let below_at : at < length cs = omega (arith, got_within g.terms at _ u.2, g.long) in
      let below_x : x < length cs = ⊎_elim (λ a. (let b = h.builders (sign_of made.classes o ns) x a in let t = g.told x (make b.0 b.1) b.2 in omega (arith, got_within g.terms x _ t.2, g.long))) (λ b. omega (arith, b.1, below_at))
      (sg.only (sign_of made.classes o ns) x sg.owns) in
      (λ j l. omega (arith, l, below_x), λ j l. omega (arith, l, below_at))

  pub undo_within : (at : ℕ) (o : Op) (ks : List ℕ) (n : ℕ) → IsToLink did cs at (undo o ks n) → AllByRecursion (λ i. i < length cs) (ks ++ n ∷ [])
  undo_within at o ks n g =
      let t = g.told at (undo o ks n) g.done in
      each_in_both (λ i. i < length cs) ks (n ∷ []) (subst (λ m. AllByRecursion (λ i. i < m) ks) g.long t.2) (omega (arith, got_within g.terms n _ t.5, g.long), tt)

  pub undo_bounds : (at : ℕ) (o : Op) (ks : List ℕ) (n x : ℕ) (made undone undone2 : SignsValue) (old : List Pair) → IsToLink did cs at (undo o ks n) → AreLinked did seen cs made undone old
      → HasSigned undone (sign_of undone.classes o (ks ++ n ∷ [])) at undone2 x → ((j : ℕ) → j < arity o - keys o → x + j < length cs) × ((j : ℕ) → j < arity o - keys o → at + j < length cs)
  undo_bounds at o ks n x made undone undone2 old g h sg = (λ j l. first j l, λ j l. part_there at ks n j g.done l) where
    part_there : (y : ℕ) (ls : List ℕ) (k j : ℕ) → Did did y (undo o ls k) → j < arity o - keys o → y + j < length cs
    part_there y ls k j d less =
        let t = g.told y (undo o ls k) d in
        let q = slice_get-there t.3 j (omega (arith, less, t.4)) in
        omega (arith, got_within g.terms (y + j) q.0 (t.6 j (omega (arith, less, t.4)) ∙ q.1), g.long)

    first : (j : ℕ) → j < arity o - keys o → x + j < length cs
    first j l = ⊎_elim (λ a. old_one j l a) (λ b. omega (arith, b.1, part_there at ks n j g.done l)) (sg.only (sign_of undone.classes o (ks ++ n ∷ [])) x sg.owns) where
      old_one : (j : ℕ) → j < arity o - keys o → Owns undone (sign_of undone.classes o (ks ++ n ∷ [])) x → x + j < length cs
      old_one j l a =
          let b = h.openers (sign_of undone.classes o (ks ++ n ∷ [])) x a in
          let e = sign_is (map leaf cs) o b.0 (ks ++ n ∷ []) (b.1 ++ b.2 ∷ []) (sym (ap (λ c. sign_of c o (ks ++ n ∷ [])) h.undone_classes) ∙ b.4) in
          part_there x b.1 b.2 j (subst (λ q. Did did x (undo q b.1 b.2)) (sym e.0) b.3) l

pub start_linked : (did : List (ℕ × Work)) (cs : List ℕ) (made undone : SignsValue) → made.classes ≡ map leaf cs → undone.classes ≡ map leaf cs → ((s : Tree) (x : ℕ) → Owns made s x → ⊥) → ((s : Tree) (x : ℕ) → Owns undone s x → ⊥) → AreLinked did [] cs made undone []
start_linked did cs made undone e f none nought = record {
  made_classes = e;
  undone_classes = f;
  tied = tt;
  compared = λ at a b d. absurd d;
  built = λ at o ns d. absurd d;
  builders = λ s x own. absurd (none s x own);
  one_builder = λ s x y own h. absurd (none s x own);
  opened = λ at o ks n d. absurd d;
  openers = λ s x own. absurd (nought s x own);
  one_opener = λ s x y own h. absurd (nought s x own);
}
