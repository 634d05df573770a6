-- What holds of a run in terms holds of the run over values of these terms.
use Rattle.std.proofs.Common.{◌≡◌, ℕ, suc, ◌+◌, ◌<◌, ◌≤◌, List, [], ◌∷◌, ◌++◌, length, map, Bool, true, false, cond, IsTrue, Option, Some, None, refl, sym, ap, ◌∙◌, subst, arith}
use Rattle.std.specs.Prelude.{◌==◌}
use Rattle.std.proofs.lemmas.List.{length-map}
use Rattle.anb_term.specs.declared.term.Op.{Op}
use Rattle.anb_term.specs.Tree.{Tree, trees_of, IsFormed, AreFormed}
use Rattle.anb_term.specs.Value.{Meaning, RecipeTree, label, value}
use Rattle.anb_term.specs.FreeAlgebra.{terms_over}
use Rattle.anb_term.specs.Statements.{AgreeHolds}
use Rattle.anb_term.specs.Demand.{all_hold}
use Rattle.anb_term.proofs.Lists.{map-append}
use Rattle.anb_plays.specs.Plans.{Event, know, fresh, send, recv}
use Rattle.anb_plays.specs.Codes.{Act, takes, draws, receives, sends, works, Work, make, undo, equal, at_register, writes, demands}
use Rattle.anb_plays.specs.Fits.{Place, Along, AnySend, AnyWork, AnyBorder, after_take, after_label, after_work}
use Rattle.anb_plays.specs.Runs.{run_from}
use Rattle.anb_plays.specs.Honest.{honest, made}
use Rattle.anb_plays.specs.Statements.{HonestAgree}
use Rattle.anb_probe.specs.Cases.{IsOver, without, Sides, both_sides, sides, compared_from}
use Rattle.anb_probe.proofs.Dropping.{says_over, over_said, not_waiting, over_went, goes}

-- how many names these acts draw
abbrev pub count_draws : List Act → ℕ
count_draws [] = 0
count_draws (draws ∷ acts) = suc (count_draws acts)
count_draws (takes ∷ acts) = count_draws acts
count_draws (receives ∷ acts) = count_draws acts
count_draws (sends r ∷ acts) = count_draws acts
count_draws (works w ∷ acts) = count_draws acts

equal_draws : (b : Bool) (x y : ℕ) (acts : List Act) → count_draws (cond b [] (works (equal x y) ∷ []) ++ acts) ≡ count_draws acts
equal_draws true x y acts = refl
equal_draws false x y acts = refl

pub draws_without : (p : ℕ → Bool) (k : ℕ) (acts : List Act) → count_draws (without p k acts) ≡ count_draws acts
draws_without p k [] = refl
draws_without p k (takes ∷ acts) = draws_without p (k + 1) acts
draws_without p k (draws ∷ acts) = ap suc (draws_without p (k + 1) acts)
draws_without p k (receives ∷ acts) = draws_without p (k + 1) acts
draws_without p k (sends r ∷ acts) = draws_without p (k + 1) acts
draws_without p k (works (make o ns) ∷ acts) = draws_without p (k + 1) acts
draws_without p k (works (undo o ks r) ∷ acts) = draws_without p (k + 1) acts
draws_without p k (works (equal x y) ∷ acts) = equal_draws (p (k + 1)) x y (without p (k + 1) acts) ∙ draws_without p (k + 1) acts

-- as many as the plan makes
pub draws_made : (acts : List Act) (es : List Event) (s : Place) → Along AnySend AnyWork AnyBorder acts es s → count_draws acts ≡ length (made es)
draws_made [] [] s a = refl
draws_made [] (e ∷ es) s a = absurd a
draws_made (works w ∷ acts) es s a = draws_made acts es (after_work s w) a.1
draws_made (takes ∷ acts) (know t ∷ es) s a = draws_made acts es (after_take s) a
draws_made (draws ∷ acts) (fresh t ∷ es) s a = ap suc (draws_made acts es (after_label s t) a)
draws_made (receives ∷ acts) (recv t ∷ es) s a = draws_made acts es (after_label s t) a.1
draws_made (sends n ∷ acts) (send t ∷ es) s a = draws_made acts es s a.2
draws_made (takes ∷ acts) [] s a = absurd a
draws_made (takes ∷ acts) (fresh t ∷ es) s a = absurd a
draws_made (takes ∷ acts) (send t ∷ es) s a = absurd a
draws_made (takes ∷ acts) (recv t ∷ es) s a = absurd a
draws_made (draws ∷ acts) [] s a = absurd a
draws_made (draws ∷ acts) (know t ∷ es) s a = absurd a
draws_made (draws ∷ acts) (send t ∷ es) s a = absurd a
draws_made (draws ∷ acts) (recv t ∷ es) s a = absurd a
draws_made (receives ∷ acts) [] s a = absurd a
draws_made (receives ∷ acts) (know t ∷ es) s a = absurd a
draws_made (receives ∷ acts) (fresh t ∷ es) s a = absurd a
draws_made (receives ∷ acts) (send t ∷ es) s a = absurd a
draws_made (sends n ∷ acts) [] s a = absurd a
draws_made (sends n ∷ acts) (know t ∷ es) s a = absurd a
draws_made (sends n ∷ acts) (fresh t ∷ es) s a = absurd a
draws_made (sends n ∷ acts) (recv t ∷ es) s a = absurd a

pub formed_both : (has : Op → Bool) (xs ys : List Tree) → AreFormed has (trees_of xs) → AreFormed has (trees_of ys) → AreFormed has (trees_of (xs ++ ys))
formed_both has [] ys f g = g
formed_both has (x ∷ xs) ys f g = (f.0, formed_both has xs ys f.1 g)

module _ {A : Type 0} (m : Meaning A) (agrees : HonestAgree m) (holds : AgreeHolds m) (atoms draw : ℕ → A) (good : (n : ℕ) → IsTrue (m.is_value (atoms n))) (names : ℕ → Tree) (formed_names : (i : ℕ) → IsFormed m.has (names i)) where
  abbrev of : Tree → A
  of t = honest m atoms t

  -- the draws of so many names from the i-th on have the values of the names
  abbrev Draw : ℕ → ℕ → Type 0
  Draw i n = (j : ℕ) → i ≤ j → j < i + n → draw j ≡ of (names j)

  draw_now : (i n : ℕ) → Draw i (suc n) → draw i ≡ of (names i)
  draw_now i n d = d i (omega arith) (omega arith)

  draw_on : (i n : ℕ) → Draw i (suc n) → Draw (i + 1) n
  draw_on i n d j l h = d j (omega arith) (omega arith)

  module _ (frame : List Tree) (formed : AreFormed m.has (trees_of frame)) where
    pub held : (regs : List RecipeTree) (w : Work) → all_hold (terms_over m.has) frame (demands regs w) ≡ true → all_hold m (map of frame) (demands regs w) ≡ true
    held regs w h = let a = agrees atoms frame good formed in holds frame (map of frame) (demands regs w) a.0 a.1 h

    pub valued : (r : RecipeTree) (t : Tree) → value (terms_over m.has) frame r ≡ Some t → value m (map of frame) r ≡ Some (of t)
    valued r t h = let a = agrees atoms frame good formed in a.2 r t h

    pub sides_valued : (regs : List RecipeTree) (w : Work) (s : Sides Tree) → sides (terms_over m.has) frame regs w ≡ Some s → sides m (map of frame) regs w ≡ Some (record { one = of s.one; other = of s.other })
    sides_valued regs (make o ns) s h = cc
    sides_valued regs (undo o ks n) s h = cc
    sides_valued regs (equal a b) s h = go (value (terms_over m.has) frame (at_register regs a)) (value (terms_over m.has) frame (at_register regs b)) s (valued (at_register regs a)) (valued (at_register regs b)) h
      where
        go : (x y : Option Tree) (s : Sides Tree) → ((t : Tree) → x ≡ Some t → value m (map of frame) (at_register regs a) ≡ Some (of t)) → ((t : Tree) → y ≡ Some t → value m (map of frame) (at_register regs b) ≡ Some (of t))
            → both_sides x y ≡ Some s → both_sides (value m (map of frame) (at_register regs a)) (value m (map of frame) (at_register regs b)) ≡ Some (record { one = of s.one; other = of s.other })
        go None y s f g e = cc
        go (Some x) None s f g e = cc
        go (Some x) (Some y) s f g e =
            let r : record { one = x; other = y } ≡ s = cc in
            rw (f x refl, g y refl) (ap (λ (z : Sides Tree). Some (record { one = of z.one; other = of z.other })) r)

  more_formed : (frame : List Tree) (t : Tree) → AreFormed m.has (trees_of frame) → IsFormed m.has t → AreFormed m.has (trees_of (frame ++ t ∷ []))
  more_formed frame t f g = formed_both m.has frame (t ∷ []) f (g, tt)

  -- one more label
  module _ (acts : List Act) (regs : List RecipeTree) (frame : List Tree) (t : Tree) (x : A) (is : x ≡ of t) (e at i : ℕ) (rest : List A) where
    more_of : map of (frame ++ t ∷ []) ≡ map of frame ++ x ∷ []
    more_of = map-append of frame (t ∷ []) ∙ ap (λ y. map of frame ++ y ∷ []) (sym is)

    same_length : length (map of frame) ≡ length frame
    same_length = length-map frame of

    pub over_label : IsOver (run_from m draw acts (regs ++ label (length frame) ∷ []) (map of (frame ++ t ∷ [])) e at i rest)
        → IsOver (run_from m draw acts (regs ++ label (length (map of frame)) ∷ []) (map of frame ++ x ∷ []) e at i rest)
    over_label h =
        subst (λ l. IsOver (run_from m draw acts (regs ++ label (length (map of frame)) ∷ []) l e at i rest)) more_of
        (subst (λ n. IsOver (run_from m draw acts (regs ++ label n ∷ []) (map of (frame ++ t ∷ [])) e at i rest)) (sym same_length) h)

    pub found_label : (check : ℕ) (s : Sides A) → compared_from m draw check acts (regs ++ label (length frame) ∷ []) (map of (frame ++ t ∷ [])) at i rest ≡ Some s
        → compared_from m draw check acts (regs ++ label (length (map of frame)) ∷ []) (map of frame ++ x ∷ []) at i rest ≡ Some s
    found_label check s h =
        subst (λ l. compared_from m draw check acts (regs ++ label (length (map of frame)) ∷ []) l at i rest ≡ Some s) more_of
        (subst (λ n. compared_from m draw check acts (regs ++ label n ∷ []) (map of (frame ++ t ∷ [])) at i rest ≡ Some s) (sym same_length) h)

  -- a run that is over in terms is over
  pub over_values : (acts : List Act) (regs : List RecipeTree) (frame : List Tree) (e at i : ℕ) (ps : List Tree) → AreFormed m.has (trees_of frame) → AreFormed m.has (trees_of ps) → Draw i (count_draws acts)
      → IsOver (run_from (terms_over m.has) names acts regs frame e at i ps) → IsOver (run_from m draw acts regs (map of frame) e at i (map of ps))
  over_values [] regs frame e at i [] f g d h = record { end = refl; used = refl }
  over_values [] regs frame e at i (p ∷ ps) f g d h = let w = h.used in cc
  over_values (takes ∷ acts) regs frame e at i ps f g d h = over_values acts (regs ++ label (length regs) ∷ []) frame e (at + 1) i ps f g d h
  over_values (draws ∷ acts) regs frame e at i ps f g d h =
      over_label acts regs frame (names i) (draw i) (draw_now i (count_draws acts) d) e (at + 1) (i + 1) (map of ps)
      (over_values acts (regs ++ label (length frame) ∷ []) (frame ++ names i ∷ []) e (at + 1) (i + 1) ps (more_formed frame (names i) f (formed_names i)) g (draw_on i (count_draws acts) d) h)
  over_values (receives ∷ acts) regs frame e at i [] f g d h = not_waiting (e + 1) [] h
  over_values (receives ∷ acts) regs frame e at i (p ∷ ps) f g d h =
      over_label acts regs frame p (of p) refl (e + 1) (at + 1) i (map of ps)
      (over_values acts (regs ++ label (length frame) ∷ []) (frame ++ p ∷ []) (e + 1) (at + 1) i ps (more_formed frame p f g.0) g.1 d h)
  over_values (sends r ∷ acts) regs frame e at i ps f g d h =
      says_over _ _ (over_values acts regs frame (e + 1) (at + 1) i ps f g d (over_said _ _ h))
  over_values (works w ∷ acts) regs frame e at i ps f g d h =
      let b = over_went (all_hold (terms_over m.has) frame (demands regs w)) _ e (at + 1) ps h in
      goes (all_hold m (map of frame) (demands regs w)) _ e (at + 1) (map of ps) (held frame f regs w b.0) (over_values acts (regs ++ writes regs w) frame e (at + 1) i ps f g d b.1)

  -- what a check compares in terms, it compares in values
  module _ (check : ℕ) where
    pick : (b c c' : Bool) (x y : Option (Sides Tree)) (x' y' : Option (Sides A)) (s : Sides Tree) (s' : Sides A) → (x ≡ Some s → x' ≡ Some s') → (c ≡ true → c' ≡ true) → (y ≡ Some s → y' ≡ Some s')
        → cond b x (cond c y None) ≡ Some s → cond b x' (cond c' y' None) ≡ Some s'
    pick true c c' x y x' y' s s' f t g h = f h
    pick false true true x y x' y' s s' f t g h = g h
    pick false true false x y x' y' s s' f t g h = absurd (let w = t refl in cc)
    pick false false c' x y x' y' s s' f t g h = cc

    pub compared_values : (acts : List Act) (regs : List RecipeTree) (frame : List Tree) (at i : ℕ) (ps : List Tree) (s : Sides Tree) → AreFormed m.has (trees_of frame) → AreFormed m.has (trees_of ps) → Draw i (count_draws acts)
        → compared_from (terms_over m.has) names check acts regs frame at i ps ≡ Some s → compared_from m draw check acts regs (map of frame) at i (map of ps) ≡ Some (record { one = of s.one; other = of s.other })
    compared_values [] regs frame at i ps s f g d h = cc
    compared_values (takes ∷ acts) regs frame at i ps s f g d h = compared_values acts (regs ++ label (length regs) ∷ []) frame (at + 1) i ps s f g d h
    compared_values (draws ∷ acts) regs frame at i ps s f g d h =
        found_label acts regs frame (names i) (draw i) (draw_now i (count_draws acts) d) 0 (at + 1) (i + 1) (map of ps) check _
        (compared_values acts (regs ++ label (length frame) ∷ []) (frame ++ names i ∷ []) (at + 1) (i + 1) ps s (more_formed frame (names i) f (formed_names i)) g (draw_on i (count_draws acts) d) h)
    compared_values (receives ∷ acts) regs frame at i [] s f g d h = cc
    compared_values (receives ∷ acts) regs frame at i (p ∷ ps) s f g d h =
        found_label acts regs frame p (of p) refl 0 (at + 1) i (map of ps) check _
        (compared_values acts (regs ++ label (length frame) ∷ []) (frame ++ p ∷ []) (at + 1) i ps s (more_formed frame p f g.0) g.1 d h)
    compared_values (sends r ∷ acts) regs frame at i ps s f g d h = compared_values acts regs frame (at + 1) i ps s f g d h
    compared_values (works w ∷ acts) regs frame at i ps s f g d h =
        pick (at + 1 == check) (all_hold (terms_over m.has) frame (demands regs w)) (all_hold m (map of frame) (demands regs w)) (sides (terms_over m.has) frame regs w) _ (sides m (map of frame) regs w) _ s _
        (sides_valued frame f regs w s) (held frame f regs w) (compared_values acts (regs ++ writes regs w) frame (at + 1) i ps s f g d) h
