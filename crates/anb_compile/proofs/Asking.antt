-- What is written of checks asks what they demand.
use Rattle.std.proofs.Common.{◌≡◌, ℕ, zero, suc, ◌+◌, ◌-◌, ◌<◌, List, [], ◌∷◌, ◌++◌, length, map, take, Bool, true, IsTrue, Some, refl, sym, ap, ◌∙◌, subst, arith, length-append, append_assoc, below_more, inl, inr}
use Rattle.std.specs.Prelude.{slice_get}
use Rattle.std.specs.List.{range_with_len}
use Rattle.std.proofs.lemmas.List.{append-nil}
use Rattle.anb_lemmas.proofs.Lists.{get_either}
use Rattle.anb_format.specs.Formats.{FormatValue}
use Rattle.anb_term.specs.declared.term.Op.{Op}
use Rattle.anb_term.specs.Operator.{arity, keys}
use Rattle.anb_term.specs.Tree.{trees_of}
use Rattle.anb_term.specs.Value.{Meaning, RecipeTree, RecipeTrees, part}
use Rattle.anb_term.specs.FreeAlgebra.{terms_over}
use Rattle.anb_term.specs.Demand.{Demand, opens, equals, all_hold, holds}
use Rattle.anb_term.proofs.Lists.{slice_get-append, map-append, hold_split}
use Rattle.anb_algebra.specs.ByteMeaning.{has_operator}
use Rattle.anb_close.specs.Rows.{made_recipe, mades_recipes}
use Rattle.anb_close.specs.MadeView.{made_tree}
use Rattle.anb_close.specs.declared.entry.Opening.{Opening}
use Rattle.anb_close.specs.declared.made.Made.{Made}
use Rattle.anb_basis.specs.declared.check.Check.{Check}
use Rattle.anb_basis.specs.declared.check.Check.TheVariants.{Open, Equal}
use Rattle.anb_plays.specs.Codes.{works, undo, equal, at_register, at_registers, parts, writes, demands}
use Rattle.anb_plays.specs.Fits.{Place, after_work, start}
use Rattle.anb_plays.specs.Reaches.{Reaches}
use Rattle.anb_plays.proofs.Registers.{length-parts}
use Rattle.anb_code.specs.declared.instr.Instr.{Instr}
use Rattle.anb_code.specs.declared.instr.Instr.TheVariants as instr
use Rattle.anb_code.specs.Meaning.{act_of}
use Rattle.anb_compile.specs.declared.writer.Writer.{Writer}
use Rattle.anb_compile.specs.Writing.{meaning_in, Tracks, HaveBuilt, Stands, further, Composes, ComposesEach, entry_at, demand_in, IsCheckOf, AreChecksOf, Asks, count_opened, count_all_opened}
use Rattle.anb_compile.proofs.Lists.{later_part, number_at}
use Rattle.anb_compile.proofs.Writing.{acts_put, tracks_more, read, hold_read, built_more, built_same, reach_work}

pub part_here : (n : ℕ) (o : Op) (ks : RecipeTrees) (r : RecipeTree) (j : ℕ) → j < n → slice_get (parts n o ks r) j ≡ Some (part o j ks r)
part_here zero o ks r j h = absurd (omega arith)
part_here (suc n) o ks r j h =
    let all = parts n o ks r ++ part o n ks r ∷ [] in
    let at : length (parts n o ks r) + 0 ≡ n = omega (arith, length-parts n o ks r) in
    let P : ℕ → Type 0 = λ i. slice_get all i ≡ Some (part o n ks r) in
    let last = subst P at (later_part (parts n o ks r) (part o n ks r ∷ []) 0 (part o n ks r) refl) in
    below_more (λ i. slice_get all i ≡ Some (part o i ks r)) n (λ i l. slice_get-append (parts n o ks r) (part o n ks r ∷ []) i (part o i ks r) (part_here n o ks r i l)) last j (omega (arith, h))

one_holds : {A : Type 0} (m : Meaning A) (vs : List A) (d e : Demand) → d ≡ e → all_hold m vs (e ∷ []) ≡ true → all_hold m vs (d ∷ []) ≡ true
one_holds m vs d e s h = ap (λ x. all_hold m vs (x ∷ [])) s ∙ h

-- the registers of parts are those of the next entries
module _ (regs entries : List RecipeTree) (places : List ℕ) (o : Op) (ks : RecipeTrees) (r : RecipeTree) (count next : ℕ) where
  pub tracks_opened : Tracks regs entries places → next ≡ length regs → ((j : ℕ) → j < count → slice_get entries (length places + j) ≡ Some (part o j ks r))
      → Tracks (regs ++ parts count o ks r) entries (places ++ range_with_len next count)
  tracks_opened tracks long are n k e = elim (get_either places (range_with_len next count) n k e) [
    | inl h ↦ tracks_more regs (parts count o ks r) entries places tracks n k h
    | inr h ↦
        let at = number_at next count h.0 k h.2 in
        let P : ℕ → Type 0 = λ i. slice_get entries i ≡ Some (part o h.0 ks r) in
        let Q : ℕ → Type 0 = λ i. slice_get (regs ++ parts count o ks r) i ≡ Some (part o h.0 ks r) in
        let here : length regs + h.0 ≡ k = omega (arith, at.1, long) in
        (part o h.0 ks r, subst P (sym h.1) (are h.0 at.0), subst Q here (later_part regs (parts count o ks r) h.0 (part o h.0 ks r) (part_here count o ks r h.0 at.0)))
  ]

pub open_asks : (old mid put new : Writer) (x : Opening) (ns : List ℕ) (of count : ℕ) (i : Instr) → ComposesEach old mid x.keys ns → mid.places ≡ old.places
    → slice_get mid.places.items x.of ≡ Some of → put.code.items ≡ mid.code.items ++ i ∷ [] → put.next ≡ mid.next → put.places ≡ mid.places
    → ((formats : List FormatValue) → IsTrue (has_operator formats x.op) → act_of formats i ≡ works (undo x.op ns of))
    → new.code ≡ put.code → new.next ≡ put.next + count → new.places.items ≡ put.places.items ++ range_with_len put.next count → new.built ≡ mid.built → count ≡ arity x.op - keys x.op
    → Asks old new (Open x ∷ [])
open_asks old mid put new x ns of count i each same entry code next places act code' next' places' built is c events entries s checks hold stands =
    let m = meaning_in c in
    let check = checks.0 in
    let a = each c events entries s check.2 stands in
    let p = further s a.since in
    let regs = s.regs ++ a.since in
    let w = undo x.op ns of in
    let t = a.stands.tracks x.of of entry in
    let value_is : at_register regs of ≡ entry_at entries x.of = read regs of t.0 t.2 ∙ sym (rw (t.1) refl) in
    let keys_are : at_registers regs ns ≡ mades_recipes entries (trees_of x.keys) = hold_read regs ns (mades_recipes entries (trees_of x.keys)) a.hold in
    let demand : opens x.op (at_registers regs ns) (at_register regs of) ≡ demand_in entries (Open x) = ap (λ q. opens x.op q (at_register regs of)) keys_are ∙ ap (opens x.op (mades_recipes entries (trees_of x.keys))) value_is in
    let acts = acts_put c.formats mid.code.items put.code.items i (works w) code (act c.formats check.0) in
    let reach = reach_work c events mid.code.items put.code.items p w acts (one_holds (terms_over (has_operator c.formats)) s.frame _ _ demand hold) a.stands.reaches in
    let ws = writes regs w in
    let wrote : ws ≡ parts count x.op (mades_recipes entries (trees_of x.keys)) (entry_at entries x.of) =
    ap (λ n. parts n x.op (at_registers regs ns) (at_register regs of)) (sym is) ∙ ap (λ q. parts count x.op q (at_register regs of)) keys_are ∙ ap (parts count x.op (mades_recipes entries (trees_of x.keys))) value_is in
    let mk : List RecipeTree → List Demand → Place = λ l d. record { frame = s.frame; regs = l; asked = d } in
    let at : after_work p w ≡ mk (s.regs ++ (a.since ++ ws)) (s.asked ++ demand_in entries (Open x) ∷ []) =
    ap (λ l. mk l (s.asked ++ demands regs w)) (append_assoc s.regs a.since ws) ∙ ap (λ d. mk (s.regs ++ (a.since ++ ws)) (s.asked ++ d ∷ [])) demand in
    let P : Place → Type 0 = λ q. Reaches m (map (act_of c.formats) put.code.items) events (start c.plan) q in
    let Q : List Instr → Type 0 = λ l. Reaches m (map (act_of c.formats) l) events (start c.plan) (mk (s.regs ++ (a.since ++ ws)) (s.asked ++ demand_in entries (Open x) ∷ [])) in
    let long : length ws ≡ count = ap length wrote ∙ length-parts count x.op (mades_recipes entries (trees_of x.keys)) (entry_at entries x.of) in
    let here : length mid.places.items ≡ length old.places.items = ap (λ q. length q.items) same in
    let E : ℕ → Type 0 = λ n. (j : ℕ) → j < n → slice_get entries (length mid.places.items + j) ≡ Some (part x.op j (mades_recipes entries (trees_of x.keys)) (entry_at entries x.of)) in
    let F : ℕ → Type 0 = λ n. (j : ℕ) → j < arity x.op - keys x.op → slice_get entries (n + j) ≡ Some (part x.op j (mades_recipes entries (trees_of x.keys)) (entry_at entries x.of)) in
    let opened = tracks_opened regs entries mid.places.items x.op (mades_recipes entries (trees_of x.keys)) (entry_at entries x.of) count mid.next a.stands.tracks a.stands.next (subst E (sym is) (subst F (sym here) check.5)) in
    let all_places : new.places.items ≡ mid.places.items ++ range_with_len mid.next count = places' ∙ ap (λ q. q.items ++ range_with_len put.next count) places ∙ ap (λ n. mid.places.items ++ range_with_len n count) next in
    let T : List RecipeTree → Type 0 = λ l. Tracks (regs ++ l) entries (mid.places.items ++ range_with_len mid.next count) in
    let U : List RecipeTree → Type 0 = λ l. Tracks l entries (mid.places.items ++ range_with_len mid.next count) in
    let V : List ℕ → Type 0 = λ l. Tracks (s.regs ++ (a.since ++ ws)) entries l in
    record {
      since = a.since ++ ws;
      stands = record {
        reaches = subst Q (sym (ap (λ v. v.items) code')) (subst P at reach);
        next = omega (arith, next', next, a.stands.next, long, length-append regs ws, ap length (append_assoc s.regs a.since ws));
        tracks = subst V (sym all_places) (subst U (append_assoc s.regs a.since ws) (subst T (sym wrote) opened));
        built = built_same (s.regs ++ (a.since ++ ws)) mid.built new.built built (let B : List RecipeTree → Type 0 = λ l. HaveBuilt l mid.built in subst B (append_assoc s.regs a.since ws) (built_more regs ws mid.built a.stands.built));
      };
    }

pub equal_asks : (old mid new : Writer) (n e r : ℕ) (made : Made) → Composes old mid (made_tree made) r → mid.places ≡ old.places
    → slice_get mid.places.items n ≡ Some e → new.code.items ≡ mid.code.items ++ instr.Equal e r ∷ [] → new.next ≡ mid.next → new.places ≡ mid.places → new.built ≡ mid.built
    → Asks old new (Equal n made ∷ [])
equal_asks old mid new n e r made one same entry code next places built c events entries s checks hold stands =
    let m = meaning_in c in
    let check = checks.0 in
    let a = one c events entries s check.1 stands in
    let p = further s a.since in
    let regs = s.regs ++ a.since in
    let w = equal e r in
    let t = a.stands.tracks n e entry in
    let value_is : at_register regs e ≡ entry_at entries n = read regs e t.0 t.2 ∙ sym (rw (t.1) refl) in
    let made_is : at_register regs r ≡ made_recipe entries (made_tree made) = read regs r (made_recipe entries (made_tree made)) a.holds in
    let demand : equals (at_register regs e) (at_register regs r) ≡ demand_in entries (Equal n made) = ap (λ q. equals q (at_register regs r)) value_is ∙ ap (equals (entry_at entries n)) made_is in
    let acts = acts_put c.formats mid.code.items new.code.items (instr.Equal e r) (works w) code refl in
    let reach = reach_work c events mid.code.items new.code.items p w acts (one_holds (terms_over (has_operator c.formats)) s.frame _ _ demand hold) a.stands.reaches in
    let mk : List RecipeTree → List Demand → Place = λ l d. record { frame = s.frame; regs = l; asked = d } in
    let at : after_work p w ≡ mk (s.regs ++ a.since) (s.asked ++ demand_in entries (Equal n made) ∷ []) =
    ap (λ l. mk l (s.asked ++ demands regs w)) (append-nil regs) ∙ ap (λ d. mk regs (s.asked ++ d ∷ [])) demand in
    let P : Place → Type 0 = λ q. Reaches m (map (act_of c.formats) new.code.items) events (start c.plan) q in
    let T : List ℕ → Type 0 = λ l. Tracks regs entries l in
    record {
      since = a.since;
      stands = record {
        reaches = subst P at reach;
        next = next ∙ a.stands.next;
        tracks = subst T (sym (ap (λ q. q.items) places)) a.stands.tracks;
        built = built_same regs mid.built new.built built a.stands.built;
      };
    }

-- ---- one after another

pub checks_front : (has : Op → Bool) (entries : List RecipeTree) (k : ℕ) (xs : List Check) (x : Check) → AreChecksOf has entries k (xs ++ x ∷ []) → AreChecksOf has entries k xs × IsCheckOf has entries (k + count_all_opened xs) x
checks_front has entries k [] x h = (tt, (let P : ℕ → Type 0 = λ n. IsCheckOf has entries n x in let e : k ≡ k + 0 = omega arith in subst P e h.0))
checks_front has entries k (y ∷ xs) x h =
    let a = checks_front has entries (k + count_opened y) xs x h.1 in
    let P : ℕ → Type 0 = λ n. IsCheckOf has entries n x in
    let e : (k + count_opened y) + count_all_opened xs ≡ k + (count_opened y + count_all_opened xs) = omega arith in
    ((h.0, a.0), subst P e a.1)

pub checks_at : (has : Op → Bool) (entries : List RecipeTree) (k : ℕ) (xs : List Check) (i : ℕ) (x : Check) → AreChecksOf has entries k xs → slice_get xs i ≡ Some x → IsCheckOf has entries (k + count_all_opened (take i xs)) x
checks_at has entries k [] i x h e = cc
checks_at has entries k (y ∷ xs) zero x h e =
    let s : y ≡ x = cc in
    let P : ℕ → Type 0 = λ n. IsCheckOf has entries n x in
    let n : k ≡ k + 0 = omega arith in subst P n (subst (IsCheckOf has entries k) s h.0)
checks_at has entries k (y ∷ xs) (suc i) x h e =
    let a = checks_at has entries (k + count_opened y) xs i x h.1 e in
    let P : ℕ → Type 0 = λ n. IsCheckOf has entries n x in
    let n : (k + count_opened y) + count_all_opened (take i xs) ≡ k + (count_opened y + count_all_opened (take i xs)) = omega arith in
    subst P n a

pub count_more : (xs : List Check) (x : Check) → count_all_opened (xs ++ x ∷ []) ≡ count_all_opened xs + count_opened x
count_more [] x = omega arith
count_more (y ∷ xs) x = omega (arith, count_more xs x)

pub none_asks : (w : Writer) → Asks w w []
none_asks w c events entries s checks hold stands =
    let mk : List RecipeTree → List Demand → Place = λ l d. record { frame = s.frame; regs = l; asked = d } in
    let P : Place → Type 0 = λ p. Stands c events entries w p in
    let at : s ≡ mk (s.regs ++ []) (s.asked ++ []) = ap (λ l. mk l s.asked) (sym (append-nil s.regs)) ∙ ap (mk (s.regs ++ [])) (sym (append-nil s.asked)) in
    record { since = []; stands = subst P at stands }

pub more_asks : (old mid new : Writer) (xs : List Check) (x : Check) → Asks old mid xs → length mid.places.items ≡ length old.places.items + count_all_opened xs → Asks mid new (x ∷ []) → Asks old new (xs ++ x ∷ [])
more_asks old mid new xs x all long one c events entries s checks hold stands =
    let has = has_operator c.formats in
    let o = checks_front has entries (length old.places.items) xs x checks in
    let H : List Demand → Type 0 = λ l. IsTrue (all_hold (terms_over has) s.frame l) in
    let h = hold_split (terms_over has) s.frame (map (demand_in entries) xs) (demand_in entries x ∷ []) (subst H (map-append (demand_in entries) xs (x ∷ [])) hold) in
    let a = all c events entries s o.0 h.0 stands in
    let p : Place = record { frame = s.frame; regs = s.regs ++ a.since; asked = s.asked ++ map (demand_in entries) xs } in
    let P : ℕ → Type 0 = λ n. IsCheckOf has entries n x in
    let b = one c events entries p (subst P (sym long) o.1, tt) h.1 a.stands in
    let mk : List RecipeTree → List Demand → Place = λ l d. record { frame = s.frame; regs = l; asked = d } in
    let Q : Place → Type 0 = λ q. Stands c events entries new q in
    let at : mk ((s.regs ++ a.since) ++ b.since) ((s.asked ++ map (demand_in entries) xs) ++ demand_in entries x ∷ []) ≡ mk (s.regs ++ (a.since ++ b.since)) (s.asked ++ map (demand_in entries) (xs ++ x ∷ [])) =
    ap (λ l. mk l ((s.asked ++ map (demand_in entries) xs) ++ demand_in entries x ∷ [])) (append_assoc s.regs a.since b.since)
    ∙ ap (mk (s.regs ++ (a.since ++ b.since))) (append_assoc s.asked (map (demand_in entries) xs) (demand_in entries x ∷ []) ∙ ap (λ l. s.asked ++ l) (sym (map-append (demand_in entries) xs (x ∷ [])))) in
    record { since = a.since ++ b.since; stands = subst Q at b.stands }
