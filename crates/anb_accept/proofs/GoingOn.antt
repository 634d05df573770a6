-- A role whose arrivals are instances of the patterns goes on to the end.
use Rattle.std.proofs.Common.{◌≡◌, ℕ, ◌+◌, List, [], ◌∷◌, ◌++◌, length, map, IsTrue, Some, refl, sym, ◌∙◌, subst, inl, arith, append_assoc}
use Rattle.std.specs.Prelude.{slice_get, Bool}
use Rattle.std.proofs.lemmas.List.{length-map}
use Rattle.anb_term.specs.declared.term.Op.{Op}
use Rattle.anb_term.specs.Tree.{Tree, leaf, trees_of, AreFormed}
use Rattle.anb_term.specs.Value.{Meaning}
use Rattle.anb_term.specs.FreeAlgebra.{terms_over}
use Rattle.anb_term.specs.Agree.{Agree}
use Rattle.anb_term.specs.Statements.{GivesOne}
use Rattle.anb_term.proofs.Lists.{map-append}
use Rattle.anb_term.proofs.Frames.{agree_before, one_more}
use Rattle.anb_plays.specs.Plans.{Event, know, fresh, send, recv, known, CanSend}
use Rattle.anb_plays.specs.Plays.{done, ends, says}
use Rattle.anb_plays.specs.Honest.{honest, heard, made, LabelsAreFormed}
use Rattle.anb_plays.specs.Statements.{HonestAgree}
use Rattle.anb_accept.specs.Taking.{later, later_with, labels, labels_with}
use Rattle.anb_accept.specs.Laws.{InstancesGoOn}
use Rattle.anb_unify.proofs.Putting.{each_itself}
use Rattle.anb_accept.proofs.Drawing.{Over, DrawsFrom, draws_on, draws_now}

pub formed_both : (has : Op → Bool) (xs ys : List Tree) → AreFormed has (trees_of xs) → AreFormed has (trees_of ys) → AreFormed has (trees_of (xs ++ ys))
formed_both has [] ys f g = g
formed_both has (x ∷ xs) ys f g = (f.0, formed_both has xs ys f.1 g)

pub known_formed : (has : Op → Bool) (plan : List Event) → LabelsAreFormed has plan → AreFormed has (trees_of (known plan))
known_formed has [] f = tt
known_formed has (know t ∷ es) f = (f.0, known_formed has es f.1)
known_formed has (fresh t ∷ es) f = known_formed has es f.1
known_formed has (send t ∷ es) f = known_formed has es f
known_formed has (recv t ∷ es) f = known_formed has es f.1

pub later_formed : (has : Op → Bool) (plan : List Event) (ps : List Tree) → LabelsAreFormed has plan → AreFormed has (trees_of ps) → AreFormed has (trees_of (later_with plan ps))
later_formed has [] ps f g = tt
later_formed has (know t ∷ es) ps f g = later_formed has es ps f.1 g
later_formed has (fresh t ∷ es) ps f g = (f.0, later_formed has es ps f.1 g)
later_formed has (send t ∷ es) ps f g = later_formed has es ps f g
later_formed has (recv t ∷ es) [] f g = tt
later_formed has (recv t ∷ es) (p ∷ ps) f g = (g.0, later_formed has es ps f.1 g.1)

module _ {A : Type 0} (m : Meaning A) (agrees : HonestAgree m) (gives : GivesOne m) (draw atoms : ℕ → A) (good : (k : ℕ) → IsTrue (m.is_value (atoms k))) where
  abbrev of : Tree → A
  of t = honest m atoms t

  -- values of what agrees in terms agree
  pub through_terms : (frame ps : List Tree) → AreFormed m.has (trees_of ps) → Agree (terms_over m.has) frame ps → Agree m frame (map of ps)
  through_terms frame ps formed agree =
      let own = (agrees atoms ps good formed).2 in
      record {
        long = length-map ps of ∙ agree.long;
        one = λ r s t er es. let h = agree.one r s t er es in (of h.0, own r h.0 h.1, own s h.0 h.2);
      }

  later_on : (F : List Tree) (V : List A) (t : Tree) (x : A) (G : List Tree) (W : List A) → Agree m (F ++ t ∷ G) (V ++ x ∷ W) → Agree m ((F ++ t ∷ []) ++ G) ((V ++ x ∷ []) ++ W)
  later_on F V t x G W a = subst (λ l. Agree m l ((V ++ x ∷ []) ++ W)) (sym (append_assoc F (t ∷ []) G)) (subst (λ l. Agree m (F ++ t ∷ G) l) (sym (append_assoc V (x ∷ []) W)) a)

  walks : (es : List Event) (F : List Tree) (V : List A) (e i : ℕ) (ps : List Tree) → length V ≡ length F → Agree m (F ++ later es) (V ++ map of (later_with es ps)) → length ps ≡ length (heard es) → CanSend m.has F es → DrawsFrom m draw atoms i (made es)
      → Over m draw es F V e i (map of ps)
  walks [] F V e i [] long agree count can drawn = record { played = ends done []; is = refl; end = refl; used = refl }
  walks [] F V e i (p ∷ ps) long agree count can drawn = absurd (omega arith)
  walks (know t ∷ es) F V e i ps long agree count can drawn = let h = walks es F V e i ps long agree count can drawn in record { played = h.played; is = h.is; end = h.end; used = h.used }
  walks (fresh t ∷ es) F V e i ps long agree count can drawn =
      let a = later_on F V t (of t) (later es) (map of (later_with es ps)) agree in
      let b = subst (λ x. Agree m ((F ++ t ∷ []) ++ later es) ((V ++ x ∷ []) ++ map of (later_with es ps))) (sym (draws_now m draw atoms i t (made es) drawn)) a in
      let h = walks es (F ++ t ∷ []) (V ++ draw i ∷ []) e (i + 1) ps (one_more V F (draw i) t long) b count can (draws_on m draw atoms i t (made es) drawn) in
      record { played = h.played; is = h.is; end = h.end; used = h.used }
  walks (send t ∷ es) F V e i ps long agree count can drawn =
      let g = gives F V t (agree_before m F (later es) V (map of (later_with es ps)) long agree) can.0 in
      let h = walks es F V (e + 1) i ps long agree count can.1 drawn in
      record { played = says g.0 h.played; is = (g.0, h.played, g.1, h.is, refl); end = h.end; used = h.used }
  walks (recv t ∷ es) F V e i [] long agree count can drawn = absurd (omega arith)
  walks (recv t ∷ es) F V e i (p ∷ ps) long agree count can drawn =
      let a = later_on F V t (of p) (later es) (map of (later_with es ps)) agree in
      let n = one_more V F (of p) t long in
      let here = agree_before m (F ++ t ∷ []) (later es) (V ++ of p ∷ []) (map of (later_with es ps)) n a in
      let h = walks es (F ++ t ∷ []) (V ++ of p ∷ []) (e + 1) i ps n a (omega arith) can drawn in
      record { played = h.played; is = inl (here, h.is); end = h.end; used = h.used }

pub instances_go_on : {A : Type 0} (m : Meaning A) → HonestAgree m → GivesOne m → InstancesGoOn m
instances_go_on m agrees gives names plan patterns atoms draw are sendable formed good drawn =
    let of = λ (t : Tree). honest m atoms t in
    let takes = are.taken patterns (record { put = leaf; keeps = λ n h. refl; is = sym (each_itself patterns) }) in
    let whole = formed_both m.has (known plan) (later_with plan patterns) (known_formed m.has plan formed) (later_formed m.has plan patterns formed are.formed) in
    let agree = through_terms m agrees gives draw atoms good (labels plan) (labels_with plan patterns) whole takes.agree in
    let split = subst (λ l. Agree m (labels plan) l) (map-append (honest m atoms) (known plan) (later_with plan patterns)) agree in
    let long = length-map (known plan) (honest m atoms) in
    let from_none : (k : ℕ) (t : Tree) → slice_get (made plan) k ≡ Some t → draw (0 + k) ≡ honest m atoms t =
    λ k t e. (let none : k ≡ 0 + k = omega arith in subst (λ j. draw j ≡ honest m atoms t) none (drawn k t e)) in
    let h = walks m agrees gives draw atoms good plan (known plan) (map (honest m atoms) (known plan)) 0 0 patterns long split takes.count sendable from_none in
    record {
      played = h.played;
      is = inl (agree_before m (known plan) (later plan) (map (honest m atoms) (known plan)) (map (honest m atoms) (later_with plan patterns)) long split, h.is);
      end = h.end;
      used = h.used;
    }
