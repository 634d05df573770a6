-- What is written composes, and asks what checks demand.
use Rattle.std.proofs.Common.{◌≡◌, ℕ, zero, suc, ◌+◌, ◌≤◌, List, [], ◌∷◌, ◌++◌, length, map, Bool, Option, Some, None, refl, sym, ap, ◌∙◌, subst, arith, length-append, append_assoc, inl, inr}
use Rattle.std.specs.Prelude.{slice_get}
use Rattle.std.proofs.lemmas.List.{append-nil}
use Rattle.std.proofs.lemmas.List.Elements.{filter_map-append}
use Rattle.anb_lemmas.proofs.Lists.{get_last}
use Rattle.anb_format.specs.Formats.{FormatValue}
use Rattle.anb_term.specs.declared.term.Op.{Op}
use Rattle.anb_term.specs.Tree.{Tree, leaf, node, trees_of, tree_size, trees_size}
use Rattle.anb_term.specs.Value.{RecipeTree, RecipeTrees, build, no_recipes, more_recipes}
use Rattle.anb_term.specs.Demand.{Demand}
use Rattle.anb_term.proofs.Lists.{slice_get-append, map-append}
use Rattle.anb_algebra.specs.ByteMeaning.{has_operator}
use Rattle.anb_close.specs.Rows.{made_recipe, mades_recipes}
use Rattle.anb_plays.specs.Plans.{Event}
use Rattle.anb_plays.specs.Codes.{Act, works, Work, make, at_register, at_registers, writes}
use Rattle.anb_plays.specs.Fits.{Place, after_work, IsSound, start}
use Rattle.anb_plays.proofs.Reaching.{reaches_on}
use Rattle.anb_plays.specs.Reaches.{Reaches}
use Rattle.anb_code.specs.declared.instr.Instr.{Instr}
use Rattle.anb_code.specs.Meaning.{act_of}
use Rattle.anb_code.specs.Taking.{taken_text, take_texts}
use Rattle.anb_compile.specs.declared.writer.Writer.{Writer}
use Rattle.anb_compile.specs.declared.built.Built.{Built}
use Rattle.anb_compile.specs.Sharing.{key, register_at, Keeps}
use Rattle.anb_compile.specs.Once.{IsMade, Builds}
use Rattle.anb_compile.specs.Writing.{Context, meaning_in, Tracks, HaveBuilt, Stands, IsOver, AreOver, further, Composes, HoldEach, ComposesEach}
use Rattle.anb_compile.proofs.Keys.{key_same}

pub acts_put : (formats : List FormatValue) (is is' : List Instr) (x : Instr) (a : Act) → is' ≡ is ++ x ∷ [] → act_of formats x ≡ a → map (act_of formats) is' ≡ map (act_of formats) is ++ a ∷ []
acts_put formats is is' x a e f = ap (map (act_of formats)) e ∙ map-append (act_of formats) is (x ∷ []) ∙ ap (λ b. map (act_of formats) is ++ b ∷ []) f

none_taken : (o : Option (List ℕ)) (x : Instr) → o ≡ taken_text x → o ≡ None → take_texts (x ∷ []) ≡ []
none_taken o x e n = rw (sym e ∙ n) refl

pub texts_put : (is is' : List Instr) (x : Instr) → is' ≡ is ++ x ∷ [] → taken_text x ≡ None → take_texts is' ≡ take_texts is
texts_put is is' x e n = ap take_texts e ∙ filter_map-append taken_text is (x ∷ []) ∙ ap (λ l. take_texts is ++ l) (none_taken (taken_text x) x refl n) ∙ append-nil (take_texts is)

-- ---- registers

pub tracks_more : (regs later entries : List RecipeTree) (places : List ℕ) → Tracks regs entries places → Tracks (regs ++ later) entries places
tracks_more regs later entries places t n k e = let a = t n k e in (a.0, a.1, slice_get-append regs later k a.0 a.2)

pub tracks_longer : (regs entries later : List RecipeTree) (places : List ℕ) → Tracks regs entries places → Tracks regs (entries ++ later) places
tracks_longer regs entries later places t n k e = let a = t n k e in (a.0, slice_get-append entries later n a.0 a.1, a.2)

pub read : (regs : List RecipeTree) (n : ℕ) (r : RecipeTree) → slice_get regs n ≡ Some r → at_register regs n ≡ r
read regs n r e = rw e refl

pub hold_later : (regs later : List RecipeTree) (ns : List ℕ) (rs : RecipeTrees) → HoldEach regs ns rs → HoldEach (regs ++ later) ns rs
hold_later regs later [] no_recipes h = tt
hold_later regs later [] (more_recipes r rs) h = absurd h
hold_later regs later (n ∷ ns) no_recipes h = absurd h
hold_later regs later (n ∷ ns) (more_recipes r rs) h = (slice_get-append regs later n r h.0, hold_later regs later ns rs h.1)

pub hold_read : (regs : List RecipeTree) (ns : List ℕ) (rs : RecipeTrees) → HoldEach regs ns rs → at_registers regs ns ≡ rs
hold_read regs [] no_recipes h = refl
hold_read regs [] (more_recipes r rs) h = absurd h
hold_read regs (n ∷ ns) no_recipes h = absurd h
hold_read regs (n ∷ ns) (more_recipes r rs) h = cc (read regs n r h.0, hold_read regs ns rs h.1)

pub hold_more : (regs entries : List RecipeTree) (n : ℕ) (m : Tree) (ns : List ℕ) (ms : List Tree) → HoldEach regs ns (mades_recipes entries (trees_of ms)) → slice_get regs n ≡ Some (made_recipe entries m)
    → HoldEach regs (ns ++ n ∷ []) (mades_recipes entries (trees_of (ms ++ m ∷ [])))
hold_more regs entries n m [] [] h e = (e, tt)
hold_more regs entries n m [] (x ∷ ms) h e = absurd h
hold_more regs entries n m (k ∷ ns) [] h e = absurd h
hold_more regs entries n m (k ∷ ns) (x ∷ ms) h e = (h.0, hold_more regs entries n m ns ms h.1 e)

-- ---- what was built

-- more registers came
pub built_more : (regs later : List RecipeTree) (b : Built) → HaveBuilt regs b → HaveBuilt (regs ++ later) b
built_more regs later b have k r e =
    let a = have k r e in
    record { op = a.op; from = a.from; recipes = a.recipes; is = a.is; hold = hold_later regs later a.from a.recipes a.hold; here = slice_get-append regs later r (build a.op a.recipes) a.here }

pub built_same : (regs : List RecipeTree) (b c : Built) → c ≡ b → HaveBuilt regs b → HaveBuilt regs c
built_same regs b c same have = let P : Built → Type 0 = λ q. HaveBuilt regs q in subst P (sym same) have

-- one more was built
built_kept : (regs : List RecipeTree) (b c : Built) (o : Op) (ns : List ℕ) (rs : RecipeTrees) (r : ℕ) → Keeps b c (key o ns) r → HoldEach regs ns rs → slice_get regs r ≡ Some (build o rs) → HaveBuilt regs b → HaveBuilt regs c
built_kept regs b c o ns rs r keeps hold here have k s e = elim (keeps.only k s e) [
  | inl a ↦
      let P : ℕ → Type 0 = λ n. slice_get regs n ≡ Some (build o rs) in
      record { op = o; from = ns; recipes = rs; is = a.0; hold = hold; here = subst P (sym a.1) here }
  | inr a ↦ have k s a
]

-- ---- compositions

pub over_front : (has : Op → Bool) (k : ℕ) (ms : List Tree) (m : Tree) → AreOver has k (trees_of (ms ++ m ∷ [])) → AreOver has k (trees_of ms) × IsOver has k m
over_front has k [] m h = (tt, h.0)
over_front has k (x ∷ ms) m h = let a = over_front has k ms m h.1 in ((h.0, a.0), a.1)

pub over_at : (has : Op → Bool) (k : ℕ) (ms : List Tree) (i : ℕ) (m : Tree) → AreOver has k (trees_of ms) → slice_get ms i ≡ Some m → IsOver has k m
over_at has k [] i m h e = cc
over_at has k (x ∷ ms) zero m h e = let s : x ≡ m = cc in subst (IsOver has k) s h.0
over_at has k (x ∷ ms) (suc i) m h e = over_at has k ms i m h.1 e

pub size_at : (ms : List Tree) (i : ℕ) (m : Tree) → slice_get ms i ≡ Some m → tree_size m ≤ trees_size (trees_of ms)
size_at [] i m e = cc
size_at (x ∷ ms) zero m e = let s : x ≡ m = cc in let n = ap tree_size s in omega arith
size_at (x ∷ ms) (suc i) m e = let n = size_at ms i m e in omega arith

-- one more work
pub reach_work : (c : Context) (events : List Event) (is is' : List Instr) (s : Place) (w : Work) → map (act_of c.formats) is' ≡ map (act_of c.formats) is ++ works w ∷ [] → IsSound (meaning_in c) s w
    → Reaches (meaning_in c) (map (act_of c.formats) is) events (start c.plan) s → Reaches (meaning_in c) (map (act_of c.formats) is') events (start c.plan) (after_work s w)
reach_work c events is is' s w acts sound reaches =
    let m = meaning_in c in
    let on : Reaches m (map (act_of c.formats) is ++ works w ∷ []) (events ++ []) (start c.plan) (after_work s w) =
    reaches_on m (map (act_of c.formats) is) (works w ∷ []) events [] (start c.plan) s (after_work s w) reaches (sound, refl) in
    let P : List Event → Type 0 = λ l. Reaches m (map (act_of c.formats) is ++ works w ∷ []) l (start c.plan) (after_work s w) in
    let Q : List Act → Type 0 = λ l. Reaches m l events (start c.plan) (after_work s w) in
    subst Q (sym acts) (subst P (append-nil events) on)

module _ (c : Context) (events : List Event) (entries : List RecipeTree) (old new : Writer) (s : Place) where
  pub stands_work : (w : Work) → map (act_of c.formats) new.code.items ≡ map (act_of c.formats) old.code.items ++ works w ∷ [] → new.next ≡ old.next + length (writes s.regs w)
      → new.places.items ≡ old.places.items → HaveBuilt (s.regs ++ writes s.regs w) new.built → IsSound (meaning_in c) s w → Stands c events entries old s → Stands c events entries new (after_work s w)
  stands_work w acts next places built sound stands =
      let T : List ℕ → Type 0 = λ l. Tracks (s.regs ++ writes s.regs w) entries l in
      record {
        reaches = reach_work c events old.code.items new.code.items s w acts sound stands.reaches;
        next = omega (arith, next, stands.next, length-append s.regs (writes s.regs w));
        tracks = subst T (sym places) (tracks_more s.regs (writes s.regs w) entries old.places.items stands.tracks);
        built = built;
      }

  -- at another place that is the same
  pub stands_at : (t : Place) → s ≡ t → Stands c events entries old s → Stands c events entries old t
  stands_at t e stands = let P : Place → Type 0 = λ p. Stands c events entries old p in subst P e stands

pub further_none : (s : Place) → s ≡ further s []
further_none s = let mk : List RecipeTree → Place = λ l. record { frame = s.frame; regs = l; asked = s.asked } in ap mk (sym (append-nil s.regs))

pub further_twice : (s : Place) (xs ys : List RecipeTree) → further (further s xs) ys ≡ further s (xs ++ ys)
further_twice s xs ys = let mk : List RecipeTree → Place = λ l. record { frame = s.frame; regs = l; asked = s.asked } in ap mk (append_assoc s.regs xs ys)

-- a making asks nothing
pub made_further : (s : Place) (o : Op) (ns : List ℕ) → after_work s (make o ns) ≡ further s (build o (at_registers s.regs ns) ∷ [])
made_further s o ns = let mk : List Demand → Place = λ l. record { frame = s.frame; regs = s.regs ++ build o (at_registers s.regs ns) ∷ []; asked = l } in ap mk (append-nil s.asked)

pub entry_composes : (w : Writer) (n k : ℕ) → slice_get w.places.items n ≡ Some k → Composes w w (leaf n) k
entry_composes w n k e c events entries s over stands =
    let a = stands.tracks n k e in
    record {
      since = [];
      stands = stands_at c events entries w w s (further s []) (further_none s) stands;
      holds = slice_get-append s.regs [] k (made_recipe entries (leaf n)) (a.2 ∙ ap Some (sym (rw (a.1) refl)));
    }

pub more_compose : (old mid new : Writer) (ms : List Tree) (ns : List ℕ) (m : Tree) (r : ℕ) → ComposesEach old mid ms ns → mid.places ≡ old.places → Composes mid new m r
    → ComposesEach old new (ms ++ m ∷ []) (ns ++ r ∷ [])
more_compose old mid new ms ns m r each same one c events entries s over stands =
    let has = has_operator c.formats in
    let o = over_front has (length old.places.items) ms m over in
    let a = each c events entries s o.0 stands in
    let P : ℕ → Type 0 = λ k. IsOver has k m in
    let b = one c events entries (further s a.since) (subst P (sym (ap (λ p. length p.items) same)) o.1) a.stands in
    let H : List RecipeTree → Type 0 = λ l. slice_get l r ≡ Some (made_recipe entries m) in
    let joined = append_assoc s.regs a.since b.since in
    let K : List RecipeTree → Type 0 = λ l. HoldEach l ns (mades_recipes entries (trees_of ms)) in
    record {
      since = a.since ++ b.since;
      stands = stands_at c events entries new new (further (further s a.since) b.since) (further s (a.since ++ b.since)) (further_twice s a.since b.since) b.stands;
      hold = hold_more (s.regs ++ (a.since ++ b.since)) entries r m ns ms (subst K joined (hold_later (s.regs ++ a.since) b.since ns (mades_recipes entries (trees_of ms)) a.hold)) (subst H joined b.holds);
    }

-- it was built before
found_composes : (old mid : Writer) (o : Op) (ms : List Tree) (ns : List ℕ) (r : ℕ) → ComposesEach old mid ms ns → register_at mid.built (key o ns) ≡ Some r → Composes old mid (node o (trees_of ms)) r
found_composes old mid o ms ns r each here c events entries s over stands =
    let a = each c events entries s over.2 stands in
    let regs = s.regs ++ a.since in
    let mades = mades_recipes entries (trees_of ms) in
    let b = a.stands.built (key o ns) r here in
    let same = key_same o b.op ns b.from b.is in
    let recipes : b.recipes ≡ mades = sym (hold_read regs b.from b.recipes b.hold) ∙ ap (at_registers regs) (sym same.1) ∙ hold_read regs ns mades a.hold in
    record { since = a.since; stands = a.stands; holds = b.here ∙ ap (λ p. Some (build p b.recipes)) (sym same.0) ∙ ap (λ q. Some (build o q)) recipes }

made_composes : (old mid new : Writer) (o : Op) (ms : List Tree) (ns : List ℕ) (r : ℕ) → ComposesEach old mid ms ns → IsMade mid new o ns r → Composes old new (node o (trees_of ms)) r
made_composes old mid new o ms ns r each x c events entries s over stands =
    let a = each c events entries s over.2 stands in
    let p = further s a.since in
    let regs = s.regs ++ a.since in
    let w = make o ns in
    let made = build o (at_registers regs ns) in
    let one = made ∷ [] in
    let mades = mades_recipes entries (trees_of ms) in
    let recipe : at_registers regs ns ≡ mades = hold_read regs ns mades a.hold in
    let here : slice_get (regs ++ one) (length regs) ≡ Some made = get_last regs made in
    let at : r ≡ length regs = x.is ∙ a.stands.next in
    let N : ℕ → Type 0 = λ n. slice_get (regs ++ one) n ≡ Some made in
    let holds : slice_get (regs ++ one) r ≡ Some (build o mades) = subst N (sym at) here ∙ ap (λ q. Some (build o q)) recipe in
    let built = built_kept (regs ++ one) mid.built new.built o ns mades r x.keeps (hold_later regs one ns mades a.hold) holds (built_more regs one mid.built a.stands.built) in
    let b = stands_work c events entries mid new p w (acts_put c.formats mid.code.items new.code.items x.instr (works w) x.code (x.act c.formats)) x.next (ap (λ q. q.items) x.places) built refl a.stands in
    let joined = append_assoc s.regs a.since one in
    let H : List RecipeTree → Type 0 = λ l. slice_get l r ≡ Some (build o mades) in
    record {
      since = a.since ++ one;
      stands = stands_at c events entries new new (after_work p w) (further s (a.since ++ one)) (made_further p o ns ∙ further_twice s a.since one) b;
      holds = subst H joined holds;
    }

pub built_composes : (old mid new : Writer) (o : Op) (ms : List Tree) (ns : List ℕ) (r : ℕ) → ComposesEach old mid ms ns → Builds mid new o ns r → Composes old new (node o (trees_of ms)) r
built_composes old mid new o ms ns r each (inl f) = let P : Writer → Type 0 = λ w. Composes old w (node o (trees_of ms)) r in subst P (sym f.same) (found_composes old mid o ms ns r each f.here)
built_composes old mid new o ms ns r each (inr m) = made_composes old mid new o ms ns r each m

pub builds_texts : (mid new : Writer) (o : Op) (ns : List ℕ) (r : ℕ) → Builds mid new o ns r → take_texts new.code.items ≡ take_texts mid.code.items
builds_texts mid new o ns r (inl f) = ap (λ w. take_texts w.code.items) f.same
builds_texts mid new o ns r (inr m) = texts_put mid.code.items new.code.items m.instr m.code m.other
