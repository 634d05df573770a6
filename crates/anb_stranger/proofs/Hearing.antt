-- What is heard in the most general conversation are the patterns.
use Rattle.std.proofs.Common.{◌≡◌, suc, List, [], ◌∷◌, ◌++◌, length, map, Bool, Some, refl, sym, ap, ◌∙◌, subst, arith, append_assoc}
use Rattle.anb_term.specs.declared.term.Op.{Op}
use Rattle.anb_term.specs.Tree.{Tree, trees_of, AreFormed}
use Rattle.anb_term.specs.Value.{Meaning, value}
use Rattle.anb_term.specs.FreeAlgebra.{terms_over}
use Rattle.anb_term.specs.Agree.{Agree}
use Rattle.anb_term.proofs.Frames.{one_more, value_more}
use Rattle.anb_plays.specs.Plans.{Event, know, fresh, send, recv, known, CanSend}
use Rattle.anb_plays.specs.Honest.{heard}
use Rattle.anb_unify.specs.Substitutions.{put_in}
use Rattle.anb_accept.specs.Conversations.{overheard}
use Rattle.anb_accept.specs.Taking.{Takes, later, later_with, labels, labels_with}
use Rattle.anb_judge.specs.Observed.{hears}
use Rattle.anb_judge.proofs.Seeing.{Seen, agree_seen, seen_more, seen_itself}
use Rattle.anb_stranger.specs.Laws.{HeardArePatterns}
use Rattle.anb_stranger.proofs.Playing.{known_is}

hears_map : {A B : Type 0} (f : A → B) (es : List Event) (lines : List A) → hears es (map f lines) ≡ map f (hears es lines)
hears_map f [] lines = refl
hears_map f (know t ∷ es) lines = hears_map f es lines
hears_map f (fresh t ∷ es) lines = hears_map f es lines
hears_map f (send t ∷ es) [] = refl
hears_map f (send t ∷ es) (x ∷ lines) = hears_map f es lines
hears_map f (recv t ∷ es) [] = refl
hears_map f (recv t ∷ es) (x ∷ lines) = ap (λ l. f x ∷ l) (hears_map f es lines)

hears_formed : (has : Op → Bool) (es : List Event) (lines : List Tree) → AreFormed has (trees_of lines) → AreFormed has (trees_of (hears es lines))
hears_formed has [] lines f = tt
hears_formed has (know t ∷ es) lines f = hears_formed has es lines f
hears_formed has (fresh t ∷ es) lines f = hears_formed has es lines f
hears_formed has (send t ∷ es) [] f = tt
hears_formed has (send t ∷ es) (x ∷ lines) f = hears_formed has es lines f.1
hears_formed has (recv t ∷ es) [] f = tt
hears_formed has (recv t ∷ es) (x ∷ lines) f = (f.0, hears_formed has es lines f.1)

hears_many : {A : Type 0} (es : List Event) (lines : List A) → length lines ≡ length (heard (overheard es)) → length (hears es lines) ≡ length (heard es)
hears_many [] lines e = refl
hears_many (know t ∷ es) lines e = hears_many es lines e
hears_many (fresh t ∷ es) lines e = hears_many es lines e
hears_many (send t ∷ es) [] e = absurd (omega (arith, e))
hears_many (send t ∷ es) (x ∷ lines) e = hears_many es lines (omega (arith, e))
hears_many (recv t ∷ es) [] e = absurd (omega (arith, e))
hears_many (recv t ∷ es) (x ∷ lines) e = ap suc (hears_many es lines (omega (arith, e)))

module _ {A : Type 0} (m : Meaning A) where
  -- what sees some and others sees all of them
  seen_both : (F : List Tree) (V : List A) (G H : List Tree) (W X : List A) → Seen m F V G W → Seen m F V H X → Seen m F V (G ++ H) (W ++ X)
  seen_both F V [] H [] X a b = b
  seen_both F V [] H (w ∷ W) X a b = absurd a
  seen_both F V (t ∷ G) H [] X a b = absurd a
  seen_both F V (t ∷ G) H (w ∷ W) X a b = (a.0, a.1, a.2, seen_both F V G H W X a.3 b)

  -- the first of several labels after others
  first_seen : (B : List Tree) (C : List A) (t : Tree) (x : A) (H : List Tree) (X : List A) → length C ≡ length B → Seen m (B ++ t ∷ H) (C ++ x ∷ X) (t ∷ []) (x ∷ [])
  first_seen B C t x H X long =
      let h = seen_more m (B ++ t ∷ []) H (C ++ x ∷ []) X (t ∷ []) (x ∷ []) (seen_itself m B C (t ∷ []) (x ∷ []) long refl) in
      subst (λ l. Seen m l (C ++ x ∷ X) (t ∷ []) (x ∷ [])) (append_assoc B (t ∷ []) H) (subst (λ l. Seen m ((B ++ t ∷ []) ++ H) l (t ∷ []) (x ∷ [])) (append_assoc C (x ∷ []) X) h)

  next_seen : (B : List Tree) (C : List A) (t : Tree) (x : A) (H : List Tree) (X : List A) (G : List Tree) (W : List A) → Seen m ((B ++ t ∷ []) ++ H) ((C ++ x ∷ []) ++ X) G W → Seen m (B ++ t ∷ H) (C ++ x ∷ X) G W
  next_seen B C t x H X G W h = subst (λ l. Seen m l (C ++ x ∷ X) G W) (append_assoc B (t ∷ []) H) (subst (λ l. Seen m ((B ++ t ∷ []) ++ H) l G W) (append_assoc C (x ∷ []) X) h)

module _ (has : Op → Bool) where
  -- ---- who takes and says all takes what comes

  own_seen : (es : List Event) (B C : List Tree) (all : List Tree) → length C ≡ length B → length all ≡ length (heard (overheard es))
      → Seen (terms_over has) (B ++ later (overheard es)) (C ++ later_with (overheard es) all) (later es) (later_with es (hears es all))
  own_seen [] B C all long many = tt
  own_seen (know t ∷ es) B C all long many = own_seen es B C all long many
  own_seen (fresh t ∷ es) B C all long many =
      let at = first_seen (terms_over has) B C t t (later (overheard es)) (later_with (overheard es) all) long in
      let rest = own_seen es (B ++ t ∷ []) (C ++ t ∷ []) all (one_more C B t t long) many in
      (at.0, at.1, at.2, next_seen (terms_over has) B C t t (later (overheard es)) (later_with (overheard es) all) (later es) (later_with es (hears es all)) rest)
  own_seen (send t ∷ es) B C [] long many = absurd (omega (arith, many))
  own_seen (send t ∷ es) B C (x ∷ all) long many =
      let rest = own_seen es (B ++ t ∷ []) (C ++ x ∷ []) all (one_more C B x t long) (omega (arith, many)) in
      next_seen (terms_over has) B C t x (later (overheard es)) (later_with (overheard es) all) (later es) (later_with es (hears es all)) rest
  own_seen (recv t ∷ es) B C [] long many = absurd (omega (arith, many))
  own_seen (recv t ∷ es) B C (x ∷ all) long many =
      let at = first_seen (terms_over has) B C t x (later (overheard es)) (later_with (overheard es) all) long in
      let rest = own_seen es (B ++ t ∷ []) (C ++ x ∷ []) all (one_more C B x t long) (omega (arith, many)) in
      (at.0, at.1, at.2, next_seen (terms_over has) B C t x (later (overheard es)) (later_with (overheard es) all) (later es) (later_with es (hears es all)) rest)

  known_seen : (K H X : List Tree) → Seen (terms_over has) (K ++ H) (K ++ X) K K
  known_seen K H X = seen_more (terms_over has) K H K X K K (seen_itself (terms_over has) [] [] K K refl refl)

  hears_taken : (plan : List Event) (all : List Tree) → Takes has (overheard plan) all → Takes has plan (hears plan all)
  hears_taken plan all takes =
      let P = overheard plan in
      let K = known plan in
      let agree = subst (λ l. Agree (terms_over has) (l ++ later P) (l ++ later_with P all)) (known_is plan) takes.agree in
      let seen = seen_both (terms_over has) (K ++ later P) (K ++ later_with P all) K (later plan) K (later_with plan (hears plan all))
      (known_seen K (later P) (later_with P all)) (own_seen plan K K all refl takes.count) in
      record { count = hears_many plan all takes.count; agree = agree_seen (terms_over has) (K ++ later P) (K ++ later_with P all) (labels plan) (labels_with plan (hears plan all)) seen agree }

  -- ---- who takes what comes says something

  record Answered (es : List Event) (F V : List Tree) (came : List Tree) : Type 0 where
    all : List Tree
    many : length all ≡ length (heard (overheard es))
    heard_are : hears es all ≡ came
    seen : Seen (terms_over has) F V (later (overheard es)) (later_with (overheard es) all)

  module _ (F V : List Tree) (agree : Agree (terms_over has) F V) where
    answered : (es : List Event) (B C came : List Tree) → F ≡ B ++ later es → V ≡ C ++ later_with es came → length C ≡ length B → length came ≡ length (heard es) → CanSend has B es → Answered es F V came
    answered [] B C [] f v long many can = record { all = []; many = refl; heard_are = refl; seen = tt }
    answered [] B C (x ∷ came) f v long many can = absurd (omega (arith, many))
    answered (know t ∷ es) B C came f v long many can = let h = answered es B C came f v long many can in record { all = h.all; many = h.many; heard_are = h.heard_are; seen = h.seen }
    answered (fresh t ∷ es) B C came f v long many can =
        let h = answered es (B ++ t ∷ []) (C ++ t ∷ []) came (f ∙ sym (append_assoc B (t ∷ []) (later es))) (v ∙ sym (append_assoc C (t ∷ []) (later_with es came))) (one_more C B t t long) many can in
        let at = subst (λ l. Seen (terms_over has) l V (t ∷ []) (t ∷ [])) (sym f) (subst (λ l. Seen (terms_over has) (B ++ t ∷ later es) l (t ∷ []) (t ∷ [])) (sym v) (first_seen (terms_over has) B C t t (later es) (later_with es came) long)) in
        record { all = h.all; many = h.many; heard_are = h.heard_are; seen = (at.0, at.1, at.2, h.seen) }
    answered (send t ∷ es) B C came f v long many can =
        let h = answered es B C came f v long many can.1 in
        let r = can.0.0 in
        let term : value (terms_over has) F r ≡ Some t = subst (λ l. value (terms_over has) l r ≡ Some t) (sym f) (value_more (terms_over has) B (later es) r t can.0.1) in
        let b = agree.one r r t term term in
        record { all = b.0 ∷ h.all; many = ap suc h.many; heard_are = h.heard_are; seen = (r, term, b.1, h.seen) }
    answered (recv t ∷ es) B C [] f v long many can = absurd (omega (arith, many))
    answered (recv t ∷ es) B C (x ∷ came) f v long many can =
        let h = answered es (B ++ t ∷ []) (C ++ x ∷ []) came (f ∙ sym (append_assoc B (t ∷ []) (later es))) (v ∙ sym (append_assoc C (x ∷ []) (later_with es came))) (one_more C B x t long) (omega (arith, many)) can in
        let at = subst (λ l. Seen (terms_over has) l V (t ∷ []) (x ∷ [])) (sym f) (subst (λ l. Seen (terms_over has) (B ++ t ∷ later es) l (t ∷ []) (x ∷ [])) (sym v) (first_seen (terms_over has) B C t x (later es) (later_with es came) long)) in
        record { all = x ∷ h.all; many = ap suc h.many; heard_are = ap (λ l. x ∷ l) h.heard_are; seen = (at.0, at.1, at.2, h.seen) }

  all_of : (plan : List Event) (came : List Tree) → CanSend has (known plan) plan → Takes has plan came → (all : List Tree) × Takes has (overheard plan) all × (hears plan all ≡ came)
  all_of plan came can takes =
      let P = overheard plan in
      let K = known plan in
      let h = answered (labels plan) (labels_with plan came) takes.agree plan K K came refl refl refl takes.count can in
      let seen = seen_both (terms_over has) (labels plan) (labels_with plan came) K (later P) K (later_with P h.all) (known_seen K (later plan) (later_with plan came)) h.seen in
      let agree = agree_seen (terms_over has) (labels plan) (labels_with plan came) (K ++ later P) (K ++ later_with P h.all) seen takes.agree in
      (h.all, record { count = h.many; agree = subst (λ l. Agree (terms_over has) (l ++ later P) (l ++ later_with P h.all)) (sym (known_is plan)) agree }, h.heard_are)

pub heard_are_patterns : HeardArePatterns
heard_are_patterns has names plan lines are sendable = record {
  formed = hears_formed has plan lines are.formed;
  instances = λ came takes.
      let a = all_of has plan came sendable takes in
      let i = are.instances a.0 a.1 in
      record { put = i.put; keeps = i.keeps; is = sym a.2 ∙ ap (hears plan) i.is ∙ hears_map (put_in i.put) plan lines };
  taken = λ came i.
      let takes = hears_taken has plan (map (put_in i.put) lines) (are.taken (map (put_in i.put) lines) (record { put = i.put; keeps = i.keeps; is = refl })) in
      subst (Takes has plan) (hears_map (put_in i.put) plan lines ∙ sym i.is) takes;
}
