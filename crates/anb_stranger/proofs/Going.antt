-- How far somebody gets, event by event.
use Rattle.std.proofs.Common.{◌≡◌, ℕ, ◌+◌, ◌≤◌, List, [], ◌∷◌, ◌++◌, take, drop, Bool, Some, refl, sym, ap, ◌∙◌, subst, arith, append_assoc}
use Rattle.std.specs.Prelude.{slice_get}
use Rattle.std.proofs.lemmas.List.{append-nil}
use Rattle.anb_lemmas.proofs.Lists.{take_got}
use Rattle.anb_term.specs.declared.term.Op.{Op}
use Rattle.anb_term.specs.Tree.{Tree, trees_of, AreFormed}
use Rattle.anb_term.specs.FreeAlgebra.{terms_over}
use Rattle.anb_plays.specs.Plans.{Event, know, fresh, send, recv}
use Rattle.anb_accept.proofs.GoingOn.{formed_both}
use Rattle.anb_judge.specs.Observed.{says_in}
use Rattle.anb_outsider.specs.Recordings.{messages_in}
use Rattle.anb_stranger.specs.Making.{MakesAll}
use Rattle.anb_stranger.specs.Reaching.{last_received, MakesTo}
use Rattle.anb_stranger.specs.Steps.{line_at, MakesAt}
use Rattle.anb_stranger.proofs.Stepping.{messages_both, last_both, says_both, said_at, makes_both, makes_later, made_at, at_made, said_formed}

-- so many events were gone through: of what is received so far all can be made
pub record Far (plan : List Event) (k next last : ℕ) (begins having lines : List Tree) : Type 0 where
  pub count : next ≡ messages_in (take k plan)
  pub few : next ≤ k
  pub last_is : last ≡ last_received 0 0 (take k plan)
  pub has_is : having ≡ begins ++ says_in (take k plan) lines
  pub makes : (has : Op → Bool) → AreFormed has (trees_of begins) → AreFormed has (trees_of lines) → MakesAll (terms_over has) begins (take k plan) lines

pub same_far : (plan : List Event) (k next next' last last' : ℕ) (begins having having' lines : List Tree) → next' ≡ next → last' ≡ last → having' ≡ having → Far plan k next last begins having lines → Far plan k next' last' begins having' lines
same_far plan k next next' last last' begins having having' lines a b h far = record {
  count = a ∙ far.count;
  few = omega (arith, a, far.few);
  last_is = b ∙ far.last_is;
  has_is = h ∙ far.has_is;
  makes = far.makes;
}

module _ (plan : List Event) (k next last : ℕ) (begins having lines : List Tree) (far : Far plan k next last begins having lines) where
  first : List Event
  first = take k plan

  one_more : (e : Event) → slice_get plan k ≡ Some e → take (k + 1) plan ≡ take k plan ++ e ∷ []
  one_more e at = take_got plan k e at

  pub has_formed : (has : Op → Bool) → AreFormed has (trees_of begins) → AreFormed has (trees_of lines) → AreFormed has (trees_of having)
  has_formed has f g = subst (λ l. AreFormed has (trees_of l)) (sym far.has_is) (formed_both has begins (says_in (take k plan) lines) f (said_formed has (take k plan) lines g))

  -- an event without a message
  pub silent : (e : Event) → slice_get plan k ≡ Some e → messages_in (e ∷ []) ≡ 0 → ((b l : ℕ) → last_received b l (e ∷ []) ≡ l) → ((ls : List Tree) → says_in (e ∷ []) ls ≡ [])
      → ((has : Op → Bool) (h ls : List Tree) → MakesAll (terms_over has) h (e ∷ []) ls) → Far plan (k + 1) next last begins having lines
  silent e at none same nothing makes =
      let more = one_more e at in
      record {
        count = far.count ∙ (let z : messages_in (take k plan) ≡ messages_in (take k plan) + messages_in (e ∷ []) = omega (arith, none) in z) ∙ sym (ap messages_in more ∙ messages_both (take k plan) (e ∷ []));
        few = omega (arith, far.few);
        last_is = far.last_is ∙ sym (ap (last_received 0 0) more ∙ last_both 0 0 (take k plan) (e ∷ []) ∙ same (0 + messages_in (take k plan)) (last_received 0 0 (take k plan)));
        has_is = far.has_is ∙ ap (λ l. begins ++ l) (sym (ap (λ es. says_in es lines) more ∙ says_both (take k plan) (e ∷ []) lines ∙ ap (λ l. says_in (take k plan) lines ++ l) (nothing (drop (messages_in (take k plan)) lines)) ∙ append-nil (says_in (take k plan) lines)));
        makes = λ has f g. subst (λ es. MakesAll (terms_over has) begins es lines) (sym more)
            (makes_both (terms_over has) begins (take k plan) (e ∷ []) lines (far.makes has f g) (makes has (begins ++ says_in (take k plan) lines) (drop (messages_in (take k plan)) lines)));
      }

  pub knows : (t : Tree) → slice_get plan k ≡ Some (know t) → Far plan (k + 1) next last begins having lines
  knows t at = silent (know t) at refl (λ b l. refl) (λ ls. refl) (λ has h ls. tt)

  pub draws : (t : Tree) → slice_get plan k ≡ Some (fresh t) → Far plan (k + 1) next last begins having lines
  draws t at = silent (fresh t) at refl (λ b l. refl) (λ ls. refl) (λ has h ls. tt)

  -- something is said
  pub said : (t : Tree) → slice_get plan k ≡ Some (send t) → (more_has : List Tree) → more_has ≡ having ++ line_at lines next → Far plan (k + 1) (next + 1) last begins more_has lines
  said t at more_has is =
      let more = one_more (send t) at in
      let n = messages_in (take k plan) in
      let line : line_at lines next ≡ says_in (send t ∷ []) (drop n lines) = ap (line_at lines) far.count ∙ sym (said_at t lines n) in
      record {
        count = omega (arith, far.count, ap messages_in more, messages_both (take k plan) (send t ∷ []));
        few = omega (arith, far.few);
        last_is = far.last_is ∙ sym (ap (last_received 0 0) more ∙ last_both 0 0 (take k plan) (send t ∷ []));
        has_is = is ∙ ap (λ l. having ++ l) line ∙ ap (λ l. l ++ says_in (send t ∷ []) (drop n lines)) far.has_is ∙ append_assoc begins (says_in (take k plan) lines) (says_in (send t ∷ []) (drop n lines))
            ∙ ap (λ l. begins ++ l) (sym (ap (λ es. says_in es lines) more ∙ says_both (take k plan) (send t ∷ []) lines));
        makes = λ has f g. subst (λ es. MakesAll (terms_over has) begins es lines) (sym more)
            (makes_both (terms_over has) begins (take k plan) (send t ∷ []) lines (far.makes has f g) (any_said has (begins ++ says_in (take k plan) lines) (drop n lines)));
      }
    where
      any_said : (has : Op → Bool) (h ls : List Tree) → MakesAll (terms_over has) h (send t ∷ []) ls
      any_said has h [] = tt
      any_said has h (l ∷ ls) = tt

  -- something is received, and can be made
  pub came : (t : Tree) → slice_get plan k ≡ Some (recv t) → ((has : Op → Bool) → AreFormed has (trees_of having) → AreFormed has (trees_of lines) → MakesAt has having lines next) → Far plan (k + 1) (next + 1) (next + 1) begins having lines
  came t at made =
      let more = one_more (recv t) at in
      let n = messages_in (take k plan) in
      record {
        count = omega (arith, far.count, ap messages_in more, messages_both (take k plan) (recv t ∷ []));
        few = omega (arith, far.few);
        last_is = (let z : next + 1 ≡ 0 + messages_in (take k plan) + 1 = omega (arith, far.count) in z) ∙ sym (ap (last_received 0 0) more ∙ last_both 0 0 (take k plan) (recv t ∷ []));
        has_is = far.has_is ∙ ap (λ l. begins ++ l) (sym (ap (λ es. says_in es lines) more ∙ says_both (take k plan) (recv t ∷ []) lines ∙ ap (λ l. says_in (take k plan) lines ++ l) (none_said (drop n lines)) ∙ append-nil (says_in (take k plan) lines)));
        makes = λ has f g. subst (λ es. MakesAll (terms_over has) begins es lines) (sym more)
            (makes_both (terms_over has) begins (take k plan) (recv t ∷ []) lines (far.makes has f g)
            (made_at has (begins ++ says_in (take k plan) lines) t lines n (subst (λ h. MakesAt has h lines n) far.has_is (subst (MakesAt has having lines) far.count (made has (has_formed has f g) g)))));
      }
    where
      none_said : (ls : List Tree) → says_in (recv t ∷ []) ls ≡ []
      none_said [] = refl
      none_said (l ∷ ls) = refl

  -- or it can't
  pub stops : (has : Op → Bool) (t : Tree) → slice_get plan k ≡ Some (recv t) → (MakesAt has having lines next → ⊥) → AreFormed has (trees_of begins) → AreFormed has (trees_of lines) → MakesTo has begins lines plan last
  stops has t at not_made f g =
      let n = messages_in (take k plan) in
      record {
        place = k;
        receives = (t, at);
        makes = far.makes has f g;
        no_more = λ all.
            let h = makes_later (terms_over has) begins (take k plan) (recv t ∷ []) lines (subst (λ es. MakesAll (terms_over has) begins es lines) (one_more (recv t) at) all) in
            not_made (subst (MakesAt has having lines) (sym far.count) (subst (λ l. MakesAt has l lines n) (sym far.has_is) (at_made has (begins ++ says_in (take k plan) lines) t lines n h)));
        event_is = far.last_is;
      }
