-- The play over the values of a recording that is taken.
use Rattle.std.proofs.Common.{◌≡◌, ℕ, zero, suc, ◌+◌, List, [], ◌∷◌, ◌++◌, length, map, take, drop, Bool, IsTrue, Some, refl, sym, ap, ◌∙◌, subst, inl, arith, append_assoc, length-append}
use Rattle.std.specs.Prelude.{slice_get}
use Rattle.std.proofs.lemmas.List.{append-nil, length-map, take_at}
use Rattle.std.proofs.Math.Seq.{drop-append_seam}
use Rattle.anb_term.specs.declared.term.Op.{Op}
use Rattle.anb_term.specs.Operator.{arity}
use Rattle.anb_term.specs.Tree.{Tree, leaf, node, Trees, none, more, trees_of, list_of, IsFormed, AreFormed}
use Rattle.anb_term.specs.TreeSame.{list_of-trees_of}
use Rattle.anb_term.specs.Value.{Meaning}
use Rattle.anb_term.specs.FreeAlgebra.{terms, terms_over}
use Rattle.anb_term.specs.Lawful.{AreValues}
use Rattle.anb_term.specs.Agree.{Agree}
use Rattle.anb_term.specs.Statements.{GivesOne, NewAtomAgrees}
use Rattle.anb_term.proofs.Lists.{map-append}
use Rattle.anb_plays.specs.Plans.{Event, know, fresh, send, recv, known, CanSend, IsFreshAfter}
use Rattle.anb_plays.specs.Plays.{done, ends, says}
use Rattle.anb_plays.specs.Honest.{honest, honest_all, heard, made, LabelsAreFormed}
use Rattle.anb_plays.specs.Statements.{HonestAgree}
use Rattle.anb_plays.proofs.Plays.{known-append}
use Rattle.anb_protocol.specs.Laws.{KnowsFirst}
use Rattle.anb_unify.specs.Substitutions.{put_in}
use Rattle.anb_accept.specs.Taking.{later, later_with, labels, labels_with}
use Rattle.anb_accept.proofs.Drawing.{Over, DrawsFrom, draws_on, draws_now}
use Rattle.anb_accept.proofs.GoingOn.{formed_both, known_formed, later_formed, through_terms}
use Rattle.anb_unify.proofs.Putting.{put_all}
use Rattle.anb_outsider.specs.Recordings.{other_name, recorded, is_drawn, TakesRecording}
use Rattle.anb_outsider.specs.Laws.{RecordingsGoOn}
use Rattle.anb_outsider.proofs.Firsts.{later_both, heard_both, with_both, none_known}

length_all : (put : ℕ → Tree) (ts : Trees) → length (honest_all terms put ts) ≡ length (list_of ts)
length_all put ts = ap length (put_all put ts) ∙ length-map (list_of ts) (put_in put)

module _ (has : Op → Bool) (names : ℕ) (other : ℕ → Bool) where
  mutual
    other_formed : (t : Tree) → IsFormed has t → IsFormed has (put_in (other_name names other) t)
    other_formed (leaf n) f = tt
    other_formed (node o ts) f =
        (f.0, ap length (list_of-trees_of (honest_all terms (other_name names other) ts)) ∙ length_all (other_name names other) ts ∙ f.1, all_other_formed ts f.2)

    all_other_formed : (ts : Trees) → AreFormed has ts → AreFormed has (trees_of (honest_all terms (other_name names other) ts))
    all_other_formed none f = tt
    all_other_formed (more t ts) f = (other_formed t f.0, all_other_formed ts f.1)

  recorded_formed : (es : List Event) → LabelsAreFormed has es → AreFormed has (trees_of (recorded names other es))
  recorded_formed [] f = tt
  recorded_formed (know t ∷ es) f = recorded_formed es f.1
  recorded_formed (fresh t ∷ es) f = recorded_formed es f.1
  recorded_formed (send t ∷ es) f = recorded_formed es f
  recorded_formed (recv t ∷ es) f = (other_formed t f.0, recorded_formed es f.1)

first_formed : (has : Op → Bool) (xs ys : List Event) → LabelsAreFormed has (xs ++ ys) → LabelsAreFormed has xs
first_formed has [] ys f = tt
first_formed has (know t ∷ xs) ys f = (f.0, first_formed has xs ys f.1)
first_formed has (fresh t ∷ xs) ys f = (f.0, first_formed has xs ys f.1)
first_formed has (send t ∷ xs) ys f = first_formed has xs ys f
first_formed has (recv t ∷ xs) ys f = (f.0, first_formed has xs ys f.1)

got_after : (xs ys : List Event) (e : Event) → slice_get (xs ++ e ∷ ys) (length xs) ≡ Some e
got_after [] ys e = refl
got_after (x ∷ xs) ys e = got_after xs ys e

module _ {A : Type 0} (m : Meaning A) (agrees : HonestAgree m) (gives : GivesOne m) (new : NewAtomAgrees m) (draw atoms : ℕ → A) (good : (k : ℕ) → IsTrue (m.is_value (atoms k)))
    (names : ℕ) (plan : List Event) (takes : TakesRecording m.has names plan) (knows : KnowsFirst plan) (formed : LabelsAreFormed m.has plan) where
  abbrev of : Tree → A
  of t = honest m atoms t

  abbrev came : List Event → List Tree
  came es = recorded names (is_drawn plan) es

  abbrev terms_by : List Event → List Tree
  terms_by pre = known plan ++ later pre

  abbrev came_by : List Event → List Tree
  came_by pre = known plan ++ later_with pre (came pre)

  came_both : (xs ys : List Event) → came (xs ++ ys) ≡ came xs ++ came ys
  came_both xs ys = ap (map (put_in (other_name names (is_drawn plan)))) (heard_both xs ys) ∙ map-append (put_in (other_name names (is_drawn plan))) (heard xs) (heard ys)

  came_long : (xs : List Event) → length (came xs) ≡ length (heard xs)
  came_long xs = length-map (heard xs) (put_in (other_name names (is_drawn plan)))

  terms_next : (pre : List Event) (e : Event) → terms_by (pre ++ e ∷ []) ≡ terms_by pre ++ later (e ∷ [])
  terms_next pre e = ap (λ l. known plan ++ l) (later_both pre (e ∷ [])) ∙ sym (append_assoc (known plan) (later pre) (later (e ∷ [])))

  came_next : (pre : List Event) (e : Event) → came_by (pre ++ e ∷ []) ≡ came_by pre ++ later_with (e ∷ []) (came (e ∷ []))
  came_next pre e =
      ap (λ l. known plan ++ later_with (pre ++ e ∷ []) l) (came_both pre (e ∷ []))
      ∙ ap (λ l. known plan ++ l) (with_both pre (e ∷ []) (came pre) (came (e ∷ [])) (came_long pre))
      ∙ sym (append_assoc (known plan) (later_with pre (came pre)) (later_with (e ∷ []) (came (e ∷ []))))

  -- of all that came by then the values are values
  all_formed : (pre es : List Event) → plan ≡ pre ++ es → AreFormed m.has (trees_of (came_by pre))
  all_formed pre es is =
      let f = first_formed m.has pre es (subst (LabelsAreFormed m.has) is formed) in
      formed_both m.has (known plan) (later_with pre (came pre)) (known_formed m.has plan formed) (later_formed m.has pre (came pre) f (recorded_formed m.has names (is_drawn plan) pre f))

  -- as far as something that is received
  agree_at : (pre es : List Event) (t : Tree) → plan ≡ pre ++ recv t ∷ es → Agree m (terms_by (pre ++ recv t ∷ [])) (map of (came_by (pre ++ recv t ∷ [])))
  agree_at pre es t is =
      let to = pre ++ recv t ∷ [] in
      let whole : plan ≡ to ++ es = is ∙ sym (append_assoc pre (recv t ∷ []) es) in
      let long : length to ≡ length pre + 1 = length-append pre (recv t ∷ []) in
      let there : slice_get plan (length pre) ≡ Some (recv t) = ap (λ l. slice_get l (length pre)) is ∙ got_after pre es (recv t) in
      let first : take (length pre + 1) plan ≡ to = ap (take (length pre + 1)) whole ∙ take_at to es (length pre + 1) long in
      let after : drop (length pre + 1) plan ≡ es = ap (drop (length pre + 1)) whole ∙ ap (λ n. drop n (to ++ es)) (sym long) ∙ drop-append_seam to es in
      let none : known es ≡ [] = ap known (sym after) ∙ none_known plan knows.0 knows.1 (length pre) knows.2 knows.3 (t, there) in
      let same : known to ≡ known plan = sym (ap known whole ∙ known-append to es ∙ ap (λ l. known to ++ l) none ∙ append-nil (known to)) in
      let taken = subst (λ (l : List Event). Agree (terms_over m.has) (labels l) (labels_with l (came l))) first (takes (length pre) (t, there)).agree in
      let here = subst (λ (l : List Tree). Agree (terms_over m.has) (l ++ later to) (l ++ later_with to (came to))) same taken in
      through_terms m agrees gives draw atoms good (terms_by to) (came_by to) (all_formed to es whole) here

  values_next : (pre : List Event) (e : Event) (xs : List Tree) (V : List A) → later_with (e ∷ []) (came (e ∷ [])) ≡ xs → V ≡ map of (came_by pre) → V ++ map of xs ≡ map of (came_by (pre ++ e ∷ []))
  values_next pre e xs V is v = ap (λ l. l ++ map of xs) v ∙ sym (map-append of (came_by pre) xs) ∙ ap (λ l. map of (came_by pre ++ l)) (sym is) ∙ ap (map of) (sym (came_next pre e))

  walk : (es pre : List Event) (F : List Tree) (V : List A) (e i : ℕ) → plan ≡ pre ++ es → F ≡ terms_by pre → V ≡ map of (came_by pre) → Agree m F V → CanSend m.has F es → IsFreshAfter F es
      → DrawsFrom m draw atoms i (made es) → Over m draw es F V e i (map of (came es))
  walk [] pre F V e i is f v agree can new_ones drawn = record { played = ends done []; is = refl; end = refl; used = refl }
  walk (know t ∷ es) pre F V e i is f v agree can new_ones drawn =
      let g : F ≡ terms_by (pre ++ know t ∷ []) = f ∙ sym (terms_next pre (know t) ∙ append-nil (terms_by pre)) in
      let w : V ≡ map of (came_by (pre ++ know t ∷ [])) = sym (append-nil V) ∙ values_next pre (know t) [] V refl v in
      let h = walk es (pre ++ know t ∷ []) F V e i (is ∙ sym (append_assoc pre (know t ∷ []) es)) g w agree can new_ones drawn in
      record { played = h.played; is = h.is; end = h.end; used = h.used }
  walk (send t ∷ es) pre F V e i is f v agree can new_ones drawn =
      let g : F ≡ terms_by (pre ++ send t ∷ []) = f ∙ sym (terms_next pre (send t) ∙ append-nil (terms_by pre)) in
      let w : V ≡ map of (came_by (pre ++ send t ∷ [])) = sym (append-nil V) ∙ values_next pre (send t) [] V refl v in
      let b = gives F V t agree can.0 in
      let h = walk es (pre ++ send t ∷ []) F V (e + 1) i (is ∙ sym (append_assoc pre (send t ∷ []) es)) g w agree can.1 new_ones drawn in
      record { played = says b.0 h.played; is = (b.0, h.played, b.1, h.is, refl); end = h.end; used = h.used }
  walk (fresh t ∷ es) pre F V e i is f v agree can ((a, atom, avoids), new_ones) drawn =
      let d : draw i ≡ of t = draws_now m draw atoms i t (made es) drawn in
      let own : of t ≡ atoms a = ap of atom in
      let value : IsTrue (m.is_value (draw i)) = subst (λ x. IsTrue (m.is_value x)) (sym (d ∙ own)) (good a) in
      let values = subst (AreValues m) (sym v) (agrees atoms (came_by pre) good (all_formed pre (fresh t ∷ es) is)).0 in
      let more = subst (λ u. Agree m (F ++ u ∷ []) (V ++ draw i ∷ [])) (sym atom) (new F V a (draw i) values value avoids agree) in
      let g : F ++ t ∷ [] ≡ terms_by (pre ++ fresh t ∷ []) = ap (λ l. l ++ t ∷ []) f ∙ sym (terms_next pre (fresh t)) in
      let w : V ++ draw i ∷ [] ≡ map of (came_by (pre ++ fresh t ∷ [])) = ap (λ x. V ++ x ∷ []) d ∙ values_next pre (fresh t) (t ∷ []) V refl v in
      let h = walk es (pre ++ fresh t ∷ []) (F ++ t ∷ []) (V ++ draw i ∷ []) e (i + 1) (is ∙ sym (append_assoc pre (fresh t ∷ []) es)) g w more can new_ones
      (draws_on m draw atoms i t (made es) drawn) in
      record { played = h.played; is = h.is; end = h.end; used = h.used }
  walk (recv t ∷ es) pre F V e i is f v agree can new_ones drawn =
      let x = put_in (other_name names (is_drawn plan)) t in
      let g : F ++ t ∷ [] ≡ terms_by (pre ++ recv t ∷ []) = ap (λ l. l ++ t ∷ []) f ∙ sym (terms_next pre (recv t)) in
      let w : V ++ of x ∷ [] ≡ map of (came_by (pre ++ recv t ∷ [])) = values_next pre (recv t) (x ∷ []) V refl v in
      let more = subst (λ l. Agree m l (V ++ of x ∷ [])) (sym g) (subst (λ l. Agree m (terms_by (pre ++ recv t ∷ [])) l) (sym w) (agree_at pre es t is)) in
      let h = walk es (pre ++ recv t ∷ []) (F ++ t ∷ []) (V ++ of x ∷ []) (e + 1) i (is ∙ sym (append_assoc pre (recv t ∷ []) es)) g w more can new_ones drawn in
      record { played = h.played; is = inl (more, h.is); end = h.end; used = h.used }

pub recordings_go_on : {A : Type 0} (m : Meaning A) → HonestAgree m → GivesOne m → NewAtomAgrees m → RecordingsGoOn m
recordings_go_on m agrees gives new names plan atoms draw takes knows fresh_ones sendable formed good drawn =
    let of = λ (t : Tree). honest m atoms t in
    let K = known plan in
    let from_none : (k : ℕ) (t : Tree) → slice_get (made plan) k ≡ Some t → draw (0 + k) ≡ honest m atoms t =
    λ k t e. (let none : k ≡ 0 + k = omega arith in subst (λ j. draw j ≡ honest m atoms t) none (drawn k t e)) in
    let first = (agrees atoms K good (known_formed m.has plan formed)).1 in
    let h = walk m agrees gives new draw atoms good names plan takes knows formed plan [] K (map of K) 0 0 refl (sym (append-nil K)) (ap (map of) (sym (append-nil K))) first sendable fresh_ones from_none in
    record { played = h.played; is = inl (first, h.is); end = h.end; used = h.used }
