-- A walk over terms, act by act.
use Rattle.std.proofs.Common.{◌≡◌, ◌≤◌, ℕ, zero, suc, ◌+◌, ◌-◌, List, [], ◌∷◌, ◌++◌, length, map, take, drop, Bool, true, false, cond, Option, Some, None, Result, Ok, Err, refl, sym, ap, ◌∙◌, subst, arith, length-append}
use Rattle.std.specs.Prelude.{slice_get}
use Rattle.std.specs.Option.{option_map, option_and_then}
use Rattle.std.specs.Result.{IfOk}
use Rattle.std.proofs.lemmas.List.{length-map, take_all}
use Rattle.std.proofs.lemmas.Option.{slice_get-map}
use Rattle.anb_lemmas.proofs.Lists.{drop_at_got}
use Rattle.anb_lemmas.proofs.Options.{mapped_from, none_mapped}
use Rattle.anb_term.specs.declared.term.Op.{Op}
use Rattle.anb_term.specs.declared.term.Term.{Term}
use Rattle.anb_term.specs.Tree.{Tree, node, trees_of}
use Rattle.anb_term.specs.TreeSame.{terms_trees}
use Rattle.anb_term.specs.View.{tree_of, term_of}
use Rattle.anb_term.specs.Lawful.{picked}
use Rattle.anb_term.specs.Demand.{alike}
use Rattle.anb_term.specs.FreeAlgebra.{terms, term_meaning, parts_of}
use Rattle.anb_term.proofs.Lists.{map-append}
use Rattle.anb_plays.specs.Codes.{Act, takes, draws, receives, sends, works, Work, make, undo, equal}
use Rattle.anb_plays.specs.Exec.{worked, IsReady}
use Rattle.anb_machine.specs.Standing.{registers_of, registers_in, IsWorkDone}
use Rattle.anb_openings.specs.Steps.{Progress, writing, drawing, saying, hearing, after, after_all, StopsAt}
use Rattle.anb_openings.specs.Walks.{progress, AreReady, Came, EndsAt, HasGone, HasWalked}
use Rattle.anb_openings.specs.declared.walking.Walk.{Walk}
use Rattle.anb_openings.proofs.Going.{all_of_parts}
use Rattle.anb_openings.proofs.Picking.{picked_mapped}
use Rattle.anb_openings.proofs.Readying.{ready_behind}
use Rattle.anb_openings.proofs.Stepping.{count_is}

-- ---- terms of the code as trees

module _ (table : List Term) where
  abbrev trees : List Tree
  trees = map tree_of table

  back_again : (o : Option (List Tree)) → o ≡ option_map (map tree_of) (option_map (map term_of) o)
  back_again None = refl
  back_again (Some ps) = ap Some (sym (terms_trees ps))

  undone : (o : Op) (ks : List ℕ) (found : Option Term) → option_and_then (parts_of o (picked trees ks)) (option_map tree_of found)
      ≡ option_map (map tree_of) (option_and_then (term_meaning.undone o (picked table ks)) found)
  undone o ks None = refl
  undone o ks (Some v) = back_again (parts_of o (picked trees ks) (tree_of v)) ∙ ap (λ l. option_map (map tree_of) (option_map (map term_of) (parts_of o l (tree_of v)))) (picked_mapped tree_of table ks)

  compared : (x y : Option Term) → alike terms (option_map tree_of x) (option_map tree_of y) ≡ alike term_meaning x y
  compared None y = refl
  compared (Some t) None = refl
  compared (Some t) (Some u) = refl

  nothing_more : (b : Bool) → cond b (Some []) None ≡ option_map (map tree_of) (cond b (Some []) None)
  nothing_more true = refl
  nothing_more false = refl

  worked_trees : (w : Work) → worked terms trees w ≡ option_map (map tree_of) (worked term_meaning table w)
  worked_trees (make o ns) = ap (λ l. Some (node o (trees_of l) ∷ [])) (picked_mapped tree_of table ns)
  worked_trees (undo o ks n) = ap (option_and_then (parts_of o (picked trees ks))) (slice_get-map tree_of table n) ∙ undone o ks (slice_get table n)
  worked_trees (equal a b) =
      ap (λ x. cond (alike terms x (slice_get trees b)) (Some []) None) (slice_get-map tree_of table a)
      ∙ ap (λ y. cond (alike terms (option_map tree_of (slice_get table a)) y) (Some []) None) (slice_get-map tree_of table b)
      ∙ ap (λ t. cond t (Some []) None) (compared (slice_get table a) (slice_get table b))
      ∙ nothing_more (alike term_meaning (slice_get table a) (slice_get table b))

-- ---- one act

progress_is : (arrivals : List Term) (new : Walk) (table sent : List Tree) (event drawn : ℕ) (left : List Tree) → table ≡ map tree_of new.table.items → sent ≡ map tree_of new.sent.items → event ≡ new.event → drawn ≡ new.drawn
    → left ≡ map tree_of (drop new.heard arrivals) → record { table = table; sent = sent; event = event; drawn = drawn; left = left } ≡ progress arrivals new
progress_is arrivals new table sent event drawn left t s e d l =
    let of : List Tree → List Tree → ℕ → ℕ → List Tree → Progress Tree = λ table sent event drawn left. record { table = table; sent = sent; event = event; drawn = drawn; left = left } in
    let came = map tree_of (drop new.heard arrivals) in
    ap (λ x. of x sent event drawn left) t ∙ ap (λ x. of (map tree_of new.table.items) x event drawn left) s ∙ ap (λ x. of (map tree_of new.table.items) (map tree_of new.sent.items) x drawn left) e
    ∙ ap (λ x. of (map tree_of new.table.items) (map tree_of new.sent.items) new.event x left) d ∙ ap (λ x. of (map tree_of new.table.items) (map tree_of new.sent.items) new.event new.drawn x) l

-- a work that was done, or wasn't
pub work_gone : (made arrivals : List Term) (w : Work) (old new : Walk) (went : Bool) → IsReady (λ o. true) (length old.table.items) w → IsWorkDone term_meaning old.table.items (works w) went new.table.items
    → new.sent ≡ old.sent → new.event ≡ old.event → new.drawn ≡ old.drawn → new.heard ≡ old.heard → HasGone made arrivals (works w) old new went
work_gone made arrivals w old new true ready done sent event drawn heard =
    let f = mapped_from (λ ws. old.table.items ++ ws) (worked term_meaning old.table.items w) new.table.items done in
    let is : worked terms (map tree_of old.table.items) w ≡ Some (map tree_of f.0) = worked_trees old.table.items w ∙ ap (option_map (map tree_of)) f.1 in
    let table : map tree_of old.table.items ++ map tree_of f.0 ≡ map tree_of new.table.items = sym (map-append tree_of old.table.items f.0) ∙ ap (map tree_of) f.2 in
    let count = count_is w (map tree_of old.table.items) (map tree_of f.0) (let z = sym (length-map old.table.items tree_of) in subst (λ n. IsReady (λ o. true) n w) z ready) is in
    record {
      goes = ap (option_map (λ ws. writing ws (progress arrivals old))) is ∙ ap Some (progress_is arrivals new _ _ _ _ _ table (ap (λ v. map tree_of v.items) (sym sent)) (sym event) (sym drawn) (ap (λ n. map tree_of (drop n arrivals)) (sym heard)));
      long = λ t. ap length (sym f.2) ∙ length-append old.table.items f.0 ∙ ap (λ k. length old.table.items + k) (sym (length-map f.0 tree_of) ∙ count);
    }
work_gone made arrivals w old new false ready done sent event drawn heard =
    let none = none_mapped (λ ws. old.table.items ++ ws) (worked term_meaning old.table.items w) done in
    let is : worked terms (map tree_of old.table.items) w ≡ None = worked_trees old.table.items w ∙ ap (option_map (map tree_of)) none in
    record { goes = ap (option_map (λ ws. writing ws (progress arrivals old))) is; long = λ t. cc }

one_more : (xs ys : List Term) (x : Term) → ys ≡ xs ++ x ∷ [] → map tree_of xs ++ tree_of x ∷ [] ≡ map tree_of ys
one_more xs ys x e = sym (map-append tree_of xs (x ∷ [])) ∙ ap (map tree_of) (sym e)

one_longer : (xs ys : List Term) (x : Term) → ys ≡ xs ++ x ∷ [] → length ys ≡ length xs + 1
one_longer xs ys x e = ap length e ∙ length-append xs (x ∷ [])

module _ (made arrivals : List Term) (old new : Walk) (x : Term) where
  pub drew : slice_get made old.drawn ≡ Some x → new.table.items ≡ old.table.items ++ x ∷ [] → new.sent ≡ old.sent → new.event ≡ old.event → new.drawn ≡ old.drawn + 1 → new.heard ≡ old.heard → HasGone made arrivals draws old new true
  drew at table sent event drawn heard = record {
    goes = ap (option_map (λ y. drawing y (progress arrivals old))) (slice_get-map tree_of made old.drawn ∙ ap (option_map tree_of) at)
        ∙ ap Some (progress_is arrivals new _ _ _ _ _ (one_more old.table.items new.table.items x table) (ap (λ v. map tree_of v.items) (sym sent)) (sym event) (sym drawn) (ap (λ n. map tree_of (drop n arrivals)) (sym heard)));
    long = λ t. one_longer old.table.items new.table.items x table;
  }

  pub heard : slice_get arrivals old.heard ≡ Some x → new.table.items ≡ old.table.items ++ x ∷ [] → new.sent ≡ old.sent → new.event ≡ old.event + 1 → new.drawn ≡ old.drawn → new.heard ≡ old.heard + 1 → HasGone made arrivals receives old new true
  heard at table sent event drawn hears = record {
    goes = ap (λ l. hearing (map tree_of l) (progress arrivals old)) (drop_at_got arrivals old.heard x at)
        ∙ ap Some (progress_is arrivals new _ _ _ _ _ (one_more old.table.items new.table.items x table) (ap (λ v. map tree_of v.items) (sym sent)) (sym event) (sym drawn) (ap (λ n. map tree_of (drop n arrivals)) (sym hears)));
    long = λ t. one_longer old.table.items new.table.items x table;
  }

  pub said : (r : ℕ) → slice_get old.table.items r ≡ Some x → new.table ≡ old.table → new.sent.items ≡ old.sent.items ++ x ∷ [] → new.event ≡ old.event + 1 → new.drawn ≡ old.drawn → new.heard ≡ old.heard → HasGone made arrivals (sends r) old new true
  said r at table sent event drawn heard = record {
    goes = ap (option_map (λ y. saying y (progress arrivals old))) (slice_get-map tree_of old.table.items r ∙ ap (option_map tree_of) at)
        ∙ ap Some (progress_is arrivals new _ _ _ _ _ (ap (λ v. map tree_of v.items) (sym table)) (one_more old.sent.items new.sent.items x sent) (sym event) (sym drawn) (ap (λ n. map tree_of (drop n arrivals)) (sym heard)));
    long = λ t. ap (λ v. length v.items) table ∙ (let z : length old.table.items ≡ length old.table.items + 0 = omega arith in z);
  }

nothing_left : {X : Type 0} (xs : List X) (i : ℕ) → slice_get xs i ≡ None → drop i xs ≡ []
nothing_left [] zero e = refl
nothing_left [] (suc i) e = refl
nothing_left (x ∷ xs) zero e = cc
nothing_left (x ∷ xs) (suc i) e = nothing_left xs i e

module _ (made arrivals : List Term) (walk : Walk) where
  never : {X : Type 0} → false ≡ true → X
  never e = cc

  pub draws_nothing : slice_get made walk.drawn ≡ None → HasGone made arrivals draws walk walk false
  draws_nothing none = record { goes = ap (option_map (λ y. drawing y (progress arrivals walk))) (slice_get-map tree_of made walk.drawn ∙ ap (option_map tree_of) none); long = λ e. never e }

  pub hears_nothing : slice_get arrivals walk.heard ≡ None → HasGone made arrivals receives walk walk false
  hears_nothing none = record { goes = ap (λ l. hearing (map tree_of l) (progress arrivals walk)) (nothing_left arrivals walk.heard none); long = λ e. never e }

  pub says_nothing : (r : ℕ) → slice_get walk.table.items r ≡ None → HasGone made arrivals (sends r) walk walk false
  says_nothing r none = record { goes = ap (option_map (λ y. saying y (progress arrivals walk))) (slice_get-map tree_of walk.table.items r ∙ ap (option_map tree_of) none); long = λ e. never e }

  pub takes_one : HasGone made arrivals takes walk walk true
  takes_one = record { goes = refl; long = λ e. (let z : length walk.table.items ≡ length walk.table.items + 0 = omega arith in z) }

-- the act of an instruction that was done
pub work_done : (made arrivals : List Term) (act : Act) (old new : Walk) (went : Bool) → AreReady (act ∷ []) (length old.table.items) → IsWorkDone term_meaning old.table.items act went new.table.items
    → new.sent ≡ old.sent → new.event ≡ old.event → new.drawn ≡ old.drawn → new.heard ≡ old.heard → HasGone made arrivals act old new went
work_done made arrivals (works w) old new went ready done sent event drawn hears = work_gone made arrivals w old new went ready.0 done sent event drawn hears
work_done made arrivals takes old new went ready done sent event drawn hears = absurd done
work_done made arrivals draws old new went ready done sent event drawn hears = absurd done
work_done made arrivals receives old new went ready done sent event drawn hears = absurd done
work_done made arrivals (sends r) old new went ready done sent event drawn hears = absurd done

pub ok_more : {C E : Type 0} (r : Result C E) (P Q : C → Type 0) → ((c : C) → P c → Q c) → IfOk r P → IfOk r Q
ok_more (Ok c) P Q f h = f c h
ok_more (Err e) P Q f h = tt

-- a copy was pushed
pub copied : (old new : List Term) (copy x : Term) → new ≡ old ++ copy ∷ [] → copy ≡ x → new ≡ old ++ x ∷ []
copied old new copy x e same = e ∙ ap (λ t. old ++ t ∷ []) same

-- ---- acts in order

registers_both : (xs ys : List Act) → registers_in (xs ++ ys) ≡ registers_in xs + registers_in ys
registers_both [] ys = omega arith
registers_both (x ∷ xs) ys = omega (arith, registers_both xs ys)

-- the table is wider by what one act more writes
pub one_wider : (act : Act) (acts more : List Act) (first old new : ℕ) → more ≡ acts ++ act ∷ [] → old ≡ first + registers_in acts → new ≡ old + registers_of act → new ≡ first + registers_in more
one_wider act acts more first old new is long wider = omega (arith, ap registers_in is, registers_both acts (act ∷ []), long, wider)

module _ (made arrivals : List Term) where
  -- one act more
  pub one_walked : (act : Act) (acts : List Act) (s : Progress Tree) (old new : Walk) → after_all terms (map tree_of made) acts s ≡ Some (progress arrivals old) → HasGone made arrivals act old new true
      → after_all terms (map tree_of made) (acts ++ act ∷ []) s ≡ Some (progress arrivals new)
  one_walked act acts s old new e gone = all_of_parts (map tree_of made) acts (act ∷ []) s (progress arrivals old) (progress arrivals new) e (ap (option_and_then (after_all terms (map tree_of made) [])) gone.goes)

  pub stuck : (act : Act) (old new : Walk) (went : Bool) → went ≡ false → HasGone made arrivals act old new went → after terms (map tree_of made) act (progress arrivals old) ≡ None
  stuck act old new true e gone = cc
  stuck act old new false e gone = gone.goes

  -- all of them
  pub all_gone : (acts : List Act) (i : ℕ) (first walk : Walk) → length acts ≤ i → after_all terms (map tree_of made) (take i acts) (progress arrivals first) ≡ Some (progress arrivals walk) → length walk.table.items ≡ length first.table.items + registers_in (take i acts)
      → HasWalked made arrivals acts first walk
  all_gone acts i first walk h goes long =
      let all = take_all i acts h in
      record {
        goes = subst (λ l. after_all terms (map tree_of made) l (progress arrivals first) ≡ Some (progress arrivals walk)) all goes;
        long = long ∙ ap (λ l. length first.table.items + registers_in l) all;
      }

  -- a walk's end, where it has one
  pub ended_with : (acts : List Act) (old new : Walk) (found : Option ℕ) (place : ℕ) → found ≡ Some place → EndsAt made arrivals acts old new found → StopsAt terms (map tree_of made) acts (progress arrivals old) place
  ended_with acts old new found place e h = subst (EndsAt made arrivals acts old new) e h

  pub ended_all : (acts : List Act) (old new : Walk) (found : Option ℕ) → found ≡ None → EndsAt made arrivals acts old new found → HasWalked made arrivals acts old new
  ended_all acts old new found e h = subst (EndsAt made arrivals acts old new) e h

  pub came_to : (acts : List Act) (instruction : ℕ) (old new : Walk) → AreReady acts (length old.table.items) → HasWalked made arrivals (take (instruction - 1) acts) old new → Came made arrivals acts instruction old new
  came_to acts instruction old new ready walked = record {
    goes = walked.goes;
    ready = subst (λ n. AreReady (drop (instruction - 1) acts) n) (sym walked.long) (ready_behind (λ o. true) acts (instruction - 1) (length old.table.items) ready);
  }

  -- with parts written
  pub with_parts : (parts : List Term) (old new : Walk) → new.table.items ≡ old.table.items ++ parts → new.sent ≡ old.sent → new.event ≡ old.event → new.drawn ≡ old.drawn → new.heard ≡ old.heard
      → progress arrivals new ≡ writing (map tree_of parts) (progress arrivals old)
  with_parts parts old new table sent event drawn heard =
      sym (progress_is arrivals new (map tree_of old.table.items ++ map tree_of parts) _ _ _ _ (sym (map-append tree_of old.table.items parts) ∙ ap (map tree_of) (sym table)) (ap (λ v. map tree_of v.items) (sym sent)) (sym event) (sym drawn) (ap (λ n. map tree_of (drop n arrivals)) (sym heard)))

pub none_left : (o : Option ℕ) → ((n : ℕ) → o ≡ Some n → ⊥) → o ≡ None
none_left None h = refl
none_left (Some n) h = absurd (h n refl)
