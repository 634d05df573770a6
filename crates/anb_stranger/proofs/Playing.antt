-- The play over what comes in the most general conversation.
use Rattle.std.proofs.Common.{◌≡◌, ℕ, ◌+◌, List, [], ◌∷◌, ◌++◌, length, map, IsTrue, Some, refl, sym, ap, ◌∙◌, subst, inl, arith, append_assoc}
use Rattle.std.specs.Prelude.{slice_get}
use Rattle.std.proofs.lemmas.List.{length-map}
use Rattle.anb_term.specs.Tree.{Tree, leaf, trees_of, AreFormed}
use Rattle.anb_term.specs.Value.{Meaning, RecipeTree, value}
use Rattle.anb_term.specs.FreeAlgebra.{terms_over}
use Rattle.anb_term.specs.Agree.{Agree}
use Rattle.anb_term.specs.Statements.{GivesOne}
use Rattle.anb_term.proofs.Lists.{map-append}
use Rattle.anb_term.proofs.Frames.{agree_before, one_more, value_more, value_same}
use Rattle.anb_plays.specs.Plans.{Event, know, fresh, send, recv, known, CanSend}
use Rattle.anb_plays.specs.Plays.{Walk}
use Rattle.anb_plays.specs.Honest.{honest, heard, made}
use Rattle.anb_plays.specs.Statements.{HonestAgree}
use Rattle.anb_unify.proofs.Putting.{each_itself}
use Rattle.anb_accept.specs.Conversations.{overheard}
use Rattle.anb_accept.specs.Taking.{later, later_with, labels, labels_with}
use Rattle.anb_accept.proofs.Drawing.{DrawsFrom, draws_on, draws_now}
use Rattle.anb_accept.proofs.GoingOn.{formed_both, known_formed, later_formed, through_terms}
use Rattle.anb_judge.specs.Observed.{hears, over, says_in}
use Rattle.anb_judge.proofs.Seeing.{Seen, over_others, term_over, value_over, agree_seen, seen_more, seen_and, seen_itself}
use Rattle.anb_stranger.specs.Laws.{StrangersArePlayed}
use Rattle.anb_stranger.specs.Making.{MakesAll}

pub known_is : (es : List Event) → known (overheard es) ≡ known es
known_is [] = refl
known_is (know t ∷ es) = ap (λ l. t ∷ l) (known_is es)
known_is (fresh t ∷ es) = known_is es
known_is (send t ∷ es) = known_is es
known_is (recv t ∷ es) = known_is es

module _ {A : Type 0} (m : Meaning A) (agrees : HonestAgree m) (draw atoms : ℕ → A) (good : (k : ℕ) → IsTrue (m.is_value (atoms k))) where
  abbrev of : Tree → A
  of t = honest m atoms t

  one_on : (G : List Tree) (W : List A) (t : Tree) (x : A) (H : List Tree) (X : List A) → Agree m (G ++ t ∷ H) (W ++ x ∷ X) → Agree m ((G ++ t ∷ []) ++ H) ((W ++ x ∷ []) ++ X)
  one_on G W t x H X a = subst (λ l. Agree m l ((W ++ x ∷ []) ++ X)) (sym (append_assoc G (t ∷ []) H)) (subst (λ l. Agree m (G ++ t ∷ H) l) (sym (append_assoc W (x ∷ []) X)) a)

  last_seen : (G : List Tree) (W : List A) (t : Tree) (x : A) → length W ≡ length G → Seen m (G ++ t ∷ []) (W ++ x ∷ []) (t ∷ []) (x ∷ [])
  last_seen G W t x long = seen_itself m G W (t ∷ []) (x ∷ []) long refl

  both_seen : (F : List Tree) (V : List A) (G : List Tree) (W : List A) (t : Tree) (x : A) → length W ≡ length G → Seen m G W F V → Seen m (G ++ t ∷ []) (W ++ x ∷ []) (F ++ t ∷ []) (V ++ x ∷ [])
  both_seen F V G W t x long seen =
      let at = last_seen G W t x long in
      seen_and m (G ++ t ∷ []) (W ++ x ∷ []) F V t x at.0 at.1 at.2 (seen_more m G (t ∷ []) W (x ∷ []) F V seen)

  -- what the role's recipes give is what is said
  given : (F : List Tree) (V : List A) (G : List Tree) (W : List A) (t : Tree) (x : A) → length W ≡ length G → Seen m G W F V → Agree m (G ++ t ∷ []) (W ++ x ∷ [])
      → (r : RecipeTree) → value (terms_over m.has) F r ≡ Some t → value m V r ≡ Some x
  given F V G W t x long seen agree r is =
      let at = last_seen G W t x long in
      let s = over_others m G W F V seen r in
      let term : value (terms_over m.has) G s ≡ Some t = term_over m G W F V seen r t is in
      let same : value m W s ≡ value m V r = value_over m G W F V seen r t is in
      let both = agree.one s at.0 t (value_more (terms_over m.has) G (t ∷ []) s t term) at.1 in
      let back : value m (W ++ x ∷ []) s ≡ value m W s = value_same (terms_over m.has) m G W (x ∷ []) long s t term in
      sym same ∙ sym back ∙ both.1 ∙ sym both.2 ∙ at.2

  walk : (es : List Event) (F : List Tree) (V : List A) (G : List Tree) (W : List A) (e i : ℕ) (ls : List Tree) → length W ≡ length G
      → Agree m (G ++ later (overheard es)) (W ++ map of (later_with (overheard es) ls)) → Seen m G W F V → length ls ≡ length (heard (overheard es)) → CanSend m.has F es → DrawsFrom m draw atoms i (made es)
      → Walk m draw es F V e i (hears es (map of ls)) (over (says_in es (map of ls)))
  walk [] F V G W e i [] long agree seen count can drawn = refl
  walk [] F V G W e i (l ∷ ls) long agree seen count can drawn = absurd (omega (arith, count))
  walk (know t ∷ es) F V G W e i ls long agree seen count can drawn = walk es F V G W e i ls long agree seen count can drawn
  walk (fresh t ∷ es) F V G W e i ls long agree seen count can drawn =
      let a = one_on G W t (of t) (later (overheard es)) (map of (later_with (overheard es) ls)) agree in
      let n = one_more W G (of t) t long in
      let now = subst (λ x. Seen m (G ++ t ∷ []) (W ++ of t ∷ []) (F ++ t ∷ []) (V ++ x ∷ [])) (sym (draws_now m draw atoms i t (made es) drawn)) (both_seen F V G W t (of t) long seen) in
      walk es (F ++ t ∷ []) (V ++ draw i ∷ []) (G ++ t ∷ []) (W ++ of t ∷ []) e (i + 1) ls n a now count can (draws_on m draw atoms i t (made es) drawn)
  walk (send t ∷ es) F V G W e i [] long agree seen count can drawn = absurd (omega (arith, count))
  walk (send t ∷ es) F V G W e i (l ∷ ls) long agree seen count can drawn =
      let a = one_on G W t (of l) (later (overheard es)) (map of (later_with (overheard es) ls)) agree in
      let n = one_more W G (of l) t long in
      let here = agree_before m (G ++ t ∷ []) (later (overheard es)) (W ++ of l ∷ []) (map of (later_with (overheard es) ls)) n a in
      let rest = walk es F V (G ++ t ∷ []) (W ++ of l ∷ []) (e + 1) i ls n a (seen_more m G (t ∷ []) W (of l ∷ []) F V seen) (omega (arith, count)) can.1 drawn in
      (of l, over (says_in es (map of ls)), (can.0, given F V G W t (of l) long seen here), rest, refl)
  walk (recv t ∷ es) F V G W e i [] long agree seen count can drawn = absurd (omega (arith, count))
  walk (recv t ∷ es) F V G W e i (l ∷ ls) long agree seen count can drawn =
      let a = one_on G W t (of l) (later (overheard es)) (map of (later_with (overheard es) ls)) agree in
      let n = one_more W G (of l) t long in
      let here = agree_before m (G ++ t ∷ []) (later (overheard es)) (W ++ of l ∷ []) (map of (later_with (overheard es) ls)) n a in
      let now = both_seen F V G W t (of l) long seen in
      inl (
        agree_seen m (G ++ t ∷ []) (W ++ of l ∷ []) (F ++ t ∷ []) (V ++ of l ∷ []) now here,
        walk es (F ++ t ∷ []) (V ++ of l ∷ []) (G ++ t ∷ []) (W ++ of l ∷ []) (e + 1) i ls n a now (omega (arith, count)) can drawn,
      )

  -- values are made as terms are
  makes : (es : List Event) (having lines : List Tree) → AreFormed m.has (trees_of having) → AreFormed m.has (trees_of lines) → MakesAll (terms_over m.has) having es lines → MakesAll m (map of having) es (map of lines)
  makes [] having lines f g h = tt
  makes (know t ∷ es) having lines f g h = makes es having lines f g h
  makes (fresh t ∷ es) having lines f g h = makes es having lines f g h
  makes (send t ∷ es) having [] f g h = tt
  makes (send t ∷ es) having (l ∷ lines) f g h =
      subst (λ k. MakesAll m k es (map of lines)) (map-append of having (l ∷ [])) (makes es (having ++ l ∷ []) lines (formed_both m.has having (l ∷ []) f (g.0, tt)) g.1 h)
  makes (recv t ∷ es) having [] f g h = tt
  makes (recv t ∷ es) having (l ∷ lines) f g h = ((h.0.0, (agrees atoms having good f).2 h.0.0 l h.0.1), makes es having lines f g.1 h.1)

pub strangers_are_played : {A : Type 0} (m : Meaning A) → HonestAgree m → GivesOne m → StrangersArePlayed m
strangers_are_played m agrees gives names plan first having lines atoms draw are has made_all sendable formed good drawn =
    let of = λ (t : Tree). honest m atoms t in
    let P = overheard plan in
    let K = known plan in
    let takes = are.taken lines (record { put = leaf; keeps = λ n h. refl; is = sym (each_itself lines) }) in
    let whole = formed_both m.has (known P) (later_with P lines) (known_formed m.has P formed) (later_formed m.has P lines formed are.formed) in
    let agree = through_terms m agrees gives draw atoms good (labels P) (labels_with P lines) whole takes.agree in
    let split = subst (λ l. Agree m (labels P) l) (map-append (honest m atoms) (known P) (later_with P lines)) agree in
    let own = subst (λ l. Agree m (l ++ later P) (map (honest m atoms) l ++ map (honest m atoms) (later_with P lines))) (known_is plan) split in
    let long = length-map K (honest m atoms) in
    let from_none : (k : ℕ) (t : Tree) → slice_get (made plan) k ≡ Some t → draw (0 + k) ≡ honest m atoms t =
    λ k t e. (let none : k ≡ 0 + k = omega arith in subst (λ j. draw j ≡ honest m atoms t) none (drawn k t e)) in
    record {
      play = inl (
        agree_before m K (later P) (map (honest m atoms) K) (map (honest m atoms) (later_with P lines)) long own,
        walk m agrees draw atoms good plan K (map (honest m atoms) K) K (map (honest m atoms) K) 0 0 lines long own (seen_itself m [] [] K (map (honest m atoms) K) refl long) takes.count sendable from_none,
      );
      makes = makes m agrees draw atoms good first having lines has are.formed made_all;
    }
