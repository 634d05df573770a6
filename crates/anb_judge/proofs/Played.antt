-- A conversation on which who sees a role goes on is the role's, with the draws that can be told.
use Rattle.std.proofs.Common.{◌≡◌, ℕ, zero, suc, ◌+◌, List, [], ◌∷◌, ◌++◌, length, map, Bool, IsTrue, Option, Some, refl, sym, ap, ◌∙◌, subst, inl, inr, arith, append_assoc, length-append}
use Rattle.std.specs.Prelude.{slice_get, unwrap_or}
use Rattle.std.specs.List.{AllByRecursion}
use Rattle.std.proofs.lemmas.List.Elements.{All-from_recursion, recursion_from_All}
use Rattle.anb_lemmas.proofs.Each.{each_in_both}
use Rattle.anb_term.specs.declared.term.Op.{Op}
use Rattle.anb_term.specs.Tree.{Tree}
use Rattle.anb_term.specs.Value.{Meaning, RecipeTree, label, value}
use Rattle.anb_term.specs.FreeAlgebra.{terms_over}
use Rattle.anb_term.specs.Agree.{Agree, HasRecipe}
use Rattle.anb_term.specs.Statements.{GiveValues}
use Rattle.anb_term.proofs.Values.{Valued}
use Rattle.anb_term.proofs.Frames.{one_more}
use Rattle.anb_plays.specs.Plans.{Event, know, fresh, send, recv, known, CanSend}
use Rattle.anb_plays.specs.Plays.{Played, says, done, stopped, ends, Walk, Play}
use Rattle.anb_plays.specs.Honest.{heard, made}
use Rattle.anb_judge.specs.Observed.{observed, hears, says_in, over, IsConversation, IsObserved}
use Rattle.anb_judge.specs.Laws.{ObservedAreConversations}
use Rattle.anb_judge.proofs.Seeing.{Seen, agree_seen, seen_more, seen_and, seen_itself, over_others, term_over, value_over}
use Rattle.anb_judge.proofs.Observing.{known_observed, not_stopped}

module _ {A : Type 0} (m : Meaning A) (other : ℕ → A) where
  -- at its end all labels agree, and there is a line for each
  abbrev Ended : (es : List Event) (G : List Tree) (ws lines : List A) → Type 0
  Ended es G ws lines = Agree m (G ++ heard (observed es)) (ws ++ lines) × (length lines ≡ length (heard (observed es)))

  no_more : {B : Type 0} (xs : List B) → xs ≡ xs ++ []
  no_more [] = refl
  no_more (x ∷ xs) = ap (λ l. x ∷ l) (no_more xs)

  heard_next : (t : Tree) (es : List Event) (G : List Tree) (ws : List A) (e j : ℕ) (lines : List A)
      → ((H : List Tree) (us : List A) (k : ℕ) (rest : List A) → Walk m other (observed es) H us k j rest (over []) → Agree m H us → Ended es H us rest)
      → Walk m other (recv t ∷ observed es) G ws e j lines (over [])
      → Agree m (G ++ t ∷ heard (observed es)) (ws ++ lines) × (length lines ≡ suc (length (heard (observed es))))
  heard_next t es G ws e j [] later walk = let s = ap (λ (p : Played A). p.end) walk in cc
  heard_next t es G ws e j (x ∷ lines) later (inr h) = not_stopped (e + 1) lines [] (over []) refl h.1
  heard_next t es G ws e j (x ∷ lines) later (inl h) =
      let l = later (G ++ t ∷ []) (ws ++ x ∷ []) (e + 1) lines h.1 h.0 in (
        subst (λ l. Agree m l (ws ++ x ∷ lines)) (append_assoc G (t ∷ []) (heard (observed es)))
            (subst (λ l. Agree m ((G ++ t ∷ []) ++ heard (observed es)) l) (append_assoc ws (x ∷ []) lines) l.0),
        ap suc l.1,
      )

  pub all_agree : (es : List Event) (G : List Tree) (ws : List A) (e j : ℕ) (lines : List A) → Walk m other (observed es) G ws e j lines (over [])
      → Agree m G ws → Ended es G ws lines
  all_agree [] G ws e j lines walk agree =
      let l : [] ≡ lines = ap (λ (p : Played A). p.left) walk in
      (subst (λ ys. Agree m (G ++ []) (ws ++ ys)) l (subst (λ l. Agree m l (ws ++ [])) (no_more G) (subst (λ l. Agree m G l) (no_more ws) agree)), ap length (sym l))
  all_agree (know t ∷ es) G ws e j lines walk agree = all_agree es G ws e j lines walk agree
  all_agree (fresh t ∷ es) G ws e j lines walk agree = all_agree es G ws e j lines walk agree
  all_agree (send t ∷ es) G ws e j lines walk agree = heard_next t es G ws e j lines (λ H us k rest w a. all_agree es H us k j rest w a) walk
  all_agree (recv t ∷ es) G ws e j lines walk agree = heard_next t es G ws e j lines (λ H us k rest w a. all_agree es H us k j rest w a) walk

module _ {A : Type 0} (m : Meaning A) (H : List Tree) (us : List A) (agree : Agree m H us) where
  -- the draws that can be told, behind others the values of their recipes
  abbrev told : (ts : List Tree) → AllByRecursion (HasRecipe m.has H) ts → List A
  told [] all = []
  told (t ∷ ts) all = (agree.one all.0.0 all.0.0 t all.0.1 all.0.1).0 ∷ told ts all.1

  -- each has a recipe with this value
  abbrev Told : (ts : List Tree) → (ℕ → A) → ℕ → Type 0
  Told [] draw i = Unit {0}
  Told (t ∷ ts) draw i = (r : RecipeTree) × (value (terms_over m.has) H r ≡ Some t) × (value m us r ≡ Some (draw i)) × Told ts draw (i + 1)

  abbrev from_list : (some : A) → List A → ℕ → A
  from_list some xs i = unwrap_or (slice_get xs i) some

  are_told : (some : A) (ts : List Tree) (all : AllByRecursion (HasRecipe m.has H) ts) (before : List A) → Told ts (from_list some (before ++ told ts all)) (length before)
  are_told some [] all before = tt
  are_told some (t ∷ ts) all before =
      let h = agree.one all.0.0 all.0.0 t all.0.1 all.0.1 in
      let xs = before ++ h.0 ∷ told ts all.1 in (
        all.0.0,
        all.0.1,
        h.1 ∙ ap (λ o. Some (unwrap_or o some)) (sym (at_seam before (told ts all.1) h.0)),
        subst (Told ts (from_list some xs)) (one_longer before h.0) (subst (λ l. Told ts (from_list some l) (length (before ++ h.0 ∷ []))) (append_assoc before (h.0 ∷ []) (told ts all.1)) (are_told some ts all.1 (before ++ h.0 ∷ []))),
      ) where
        at_seam : (ys zs : List A) (z : A) → slice_get (ys ++ z ∷ zs) (length ys) ≡ Some z
        at_seam [] zs z = refl
        at_seam (y ∷ ys) zs z = at_seam ys zs z

        one_longer : (ys : List A) (z : A) → length (ys ++ z ∷ []) ≡ length ys + 1
        one_longer ys z = length-append ys (z ∷ [])

  module _ (draw : ℕ → A) where
    -- the next line is a label that is seen
    next_is : (t : Tree) (es : List Event) (G : List Tree) (ws : List A) (x : A) (lines : List A) → H ≡ G ++ t ∷ heard (observed es) → us ≡ ws ++ x ∷ lines → length ws ≡ length G
        → (value (terms_over m.has) H (label (length G)) ≡ Some t) × (value m us (label (length G)) ≡ Some x)
    next_is t es G ws x lines hH hu lw =
        (ap (λ l. slice_get l (length G)) hH ∙ at_seam G (heard (observed es)) t, ap (λ l. slice_get l (length G)) hu ∙ subst (λ n. slice_get (ws ++ x ∷ lines) n ≡ Some x) lw (at_seam ws lines x)) where
          at_seam : {B : Type 0} (ys zs : List B) (z : B) → slice_get (ys ++ z ∷ zs) (length ys) ≡ Some z
          at_seam [] zs z = refl
          at_seam (y ∷ ys) zs z = at_seam ys zs z

    -- each recipe with the term of a line has its value
    said : (F : List Tree) (vs : List A) (seen : Seen m H us F vs) (t : Tree) (x : A) (r : RecipeTree) → value (terms_over m.has) F r ≡ Some t → (n : ℕ)
        → (value (terms_over m.has) H (label n) ≡ Some t) × (value m us (label n) ≡ Some x) → value m vs r ≡ Some x
    said F vs seen t x r er n here =
        let h = agree.one (over_others m H us F vs seen r) (label n) t (term_over m H us F vs seen r t er) here.0 in
        sym (value_over m H us F vs seen r t er) ∙ h.1 ∙ sym h.2 ∙ here.1

    -- over all that is seen, of the role's labels
    role_from : (es : List Event) (F : List Tree) (vs : List A) (G : List Tree) (ws : List A) (e i : ℕ) (lines : List A)
        → H ≡ G ++ heard (observed es) → us ≡ ws ++ lines → length ws ≡ length G → length lines ≡ length (heard (observed es))
        → CanSend m.has F es → Told (made es) draw i → Seen m H us F vs
        → Walk m draw es F vs e i (hears es lines) (over (says_in es lines))
    role_from [] F vs G ws e i lines hH hu lw long can toldd seen = refl
    role_from (know t ∷ es) F vs G ws e i lines hH hu lw long can toldd seen = role_from es F vs G ws e i lines hH hu lw long can toldd seen
    role_from (fresh t ∷ es) F vs G ws e i lines hH hu lw long can toldd seen =
        role_from es (F ++ t ∷ []) (vs ++ draw i ∷ []) G ws e (i + 1) lines hH hu lw long can toldd.3 (seen_and m H us F vs t (draw i) toldd.0 toldd.1 toldd.2 seen)
    role_from (send t ∷ es) F vs G ws e i [] hH hu lw long can toldd seen = absurd (omega (arith, long))
    role_from (send t ∷ es) F vs G ws e i (x ∷ lines) hH hu lw long can toldd seen =
        let here = next_is t es G ws x lines hH hu lw in (
          x,
          over (says_in es lines),
          (can.0, λ r er. said F vs seen t x r er (length G) here),
          role_from es F vs (G ++ t ∷ []) (ws ++ x ∷ []) (e + 1) i lines (hH ∙ sym (append_assoc G (t ∷ []) (heard (observed es)))) (hu ∙ sym (append_assoc ws (x ∷ []) lines)) (one_more ws G x t lw) (omega (arith, long)) can.1 toldd seen,
          refl,
        )
    role_from (recv t ∷ es) F vs G ws e i [] hH hu lw long can toldd seen = absurd (omega (arith, long))
    role_from (recv t ∷ es) F vs G ws e i (x ∷ lines) hH hu lw long can toldd seen =
        let here = next_is t es G ws x lines hH hu lw in
        let now = seen_and m H us F vs t x (label (length G)) here.0 here.1 seen in
        inl (
          agree_seen m H us (F ++ t ∷ []) (vs ++ x ∷ []) now agree,
          role_from es (F ++ t ∷ []) (vs ++ x ∷ []) (G ++ t ∷ []) (ws ++ x ∷ []) (e + 1) i lines (hH ∙ sym (append_assoc G (t ∷ []) (heard (observed es)))) (hu ∙ sym (append_assoc ws (x ∷ []) lines)) (one_more ws G x t lw) (omega (arith, long)) can toldd now,
        )

  -- draws that are told are values
  told_values : GiveValues m → Valued m us → (ts : List Tree) (all : AllByRecursion (HasRecipe m.has H) ts) → Valued m (told ts all)
  told_values give valued [] all = tt
  told_values give valued (t ∷ ts) all =
      let h = agree.one all.0.0 all.0.0 t all.0.1 all.0.1 in
      (give us all.0.0 h.0 (All-from_recursion (λ y. IsTrue (m.is_value y)) us valued) h.1, told_values give valued ts all.1)

  list_values : (some : A) → IsTrue (m.is_value some) → (xs : List A) → Valued m xs → (i : ℕ) → IsTrue (m.is_value (from_list some xs i))
  list_values some is [] valued i = is
  list_values some is (x ∷ xs) valued zero = valued.0
  list_values some is (x ∷ xs) valued (suc i) = list_values some is xs valued.1 i

pub observed_are_conversations : {A : Type 0} (m : Meaning A) → GiveValues m → ObservedAreConversations m
observed_are_conversations {A} m give plan init lines some is can seen vi vl o = by (o (λ i. some)) where
  by : Play m (λ i. some) (observed plan) init lines (over []) → IsConversation m plan init lines
  by (inr h) = not_stopped 0 lines [] (over []) refl h.1
  by (inl h) =
      let other : ℕ → A = λ i. some in
      let G = known (observed plan) in
      let H = G ++ heard (observed plan) in
      let us = init ++ lines in
      let same : G ≡ known plan = known_observed plan in
      let all : AllByRecursion (HasRecipe m.has H) (made plan) = subst (λ l. AllByRecursion (HasRecipe m.has (l ++ heard (observed plan))) (made plan)) (sym same) seen in
      let ended = all_agree m other plan G init 0 0 lines h.1 h.0 in
      let agree : Agree m H us = ended.0 in
      let first : Agree m (known plan) init = subst (λ l. Agree m l init) same h.0 in
      let draws = told m H us agree (made plan) all in
      let draw = from_list m H us agree some draws in
      let valued = each_in_both (λ y. IsTrue (m.is_value y)) init lines (recursion_from_All (λ y. IsTrue (m.is_value y)) init vi) (recursion_from_All (λ y. IsTrue (m.is_value y)) lines vl) in
      let begun : Seen m H us (known plan) init = subst (λ l. Seen m (l ++ heard (observed plan)) us (known plan) init) (sym same) (seen_more m (known plan) (heard (observed plan)) init lines (known plan) init (seen_itself m [] [] (known plan) init refl first.long)) in
      record {
        draw = draw;
        drawn = list_values m H us agree some is draws (told_values m H us agree give valued (made plan) all);
        play = inl (first, role_from m H us agree draw plan (known plan) init G init 0 0 lines refl refl h.0.long ended.1 can (are_told m H us agree some (made plan) all []) begun);
      }
