-- A suite with room for all has an attempt in the scene of the case of each check.
use Rattle.std.proofs.Common.{◌≡◌, ℕ, zero, suc, ◌+◌, List, [], ◌∷◌, ◌++◌, length, map, Bool, true, false, Some, refl, sym, ap, ◌∙◌, subst, inl, inr, arith, append-nil}
use Rattle.std.specs.Prelude.{slice_get}
use Rattle.std.specs.List.{AllZip}
use Rattle.anb_term.proofs.Lists.{slice_get-append, slice_get-map}
use Rattle.anb_code.specs.CodeValue.{CodeValue}
use Rattle.anb_code.specs.Meaning.{acts_of}
use Rattle.anb_compile.proofs.Lists.{later_part}
use Rattle.anb_protocol.specs.Protocols.{ProtocolValue}
use Rattle.anb_openings.specs.Openings.{openings_of}
use Rattle.anb_spoil.specs.declared.changes.Change.{Change}
use Rattle.anb_suite.specs.Suites.{IsFinding, checks_of}
use Rattle.anb_suite.specs.declared.cases.Case.{Case}
use Rattle.anb_suite.specs.declared.cases.Finding.{Finding}
use Rattle.anb_suite.specs.declared.cases.Finding.TheVariants as finding
use Rattle.anb_suite.specs.declared.reading.Reading.TheVariants.{Both}
use Rattle.anb_attempts.specs.Attempts.{AreParts, CaseMayStand, IsAttempt, IsPartOf, IsPartOfCase, IsPartOfCheck, IsPartOfPoint, IsSceneOf, IsSuite, PartValue, Place, points_of}
use Rattle.anb_attempts.specs.declared.attempts.Attempt.{Attempt}
use Rattle.anb_attempts.specs.declared.attempts.Scene.{Scene}
use Rattle.anb_attempts.specs.declared.attempts.Suite.{Suite}
use Rattle.anb_attempts.specs.declared.points.Point.{Point}
use Rattle.anb_attempts.specs.declared.points.Point.TheVariants.{Check, Opening}
use Rattle.anb_attempts.proofs.Adding.{attempts_in, scenes_in}
use Rattle.anb_mutants.specs.Laws.{HasAttempt, HasAttemptAt, IsCheckTried}

module _ (p : ProtocolValue) (role : ℕ) (code : CodeValue) where
  -- one of these attempts is in the scene of a case, which is one of these scenes, of which the first has the number n
  record HasIn (case : Case) (n : ℕ) (scenes : List Scene) (attempts : List Attempt) : Type 0 where
    place : ℕ
    attempt : Attempt
    at : slice_get attempts place ≡ Some attempt
    spot : ℕ
    scene : Scene
    counts : attempt.scene ≡ n + spot
    there : slice_get scenes spot ≡ Some scene
    is : IsSceneOf (length p.atoms) case scene

  in_first : (case : Case) (n : ℕ) (xs ys : List Scene) (some others : List Attempt) → HasIn case n xs some → HasIn case n (xs ++ ys) (some ++ others)
  in_first case n xs ys some others h = record {
    place = h.place;
    attempt = h.attempt;
    at = slice_get-append some others h.place h.attempt h.at;
    spot = h.spot;
    scene = h.scene;
    counts = h.counts;
    there = slice_get-append xs ys h.spot h.scene h.there;
    is = h.is;
  }

  in_later : (case : Case) (n : ℕ) (xs ys : List Scene) (some others : List Attempt) → HasIn case (n + length xs) ys others → HasIn case n (xs ++ ys) (some ++ others)
  in_later case n xs ys some others h = record {
    place = length some + h.place;
    attempt = h.attempt;
    at = later_part some others h.place h.attempt h.at;
    spot = length xs + h.spot;
    scene = h.scene;
    counts = (let c = h.counts in omega (arith, c));
    there = later_part xs ys h.spot h.scene h.there;
    is = h.is;
  }

  -- what is found of a check, and an attempt at it
  abbrev TriedAs : Finding → ℕ → List Scene → List Attempt → Type 0
  TriedAs (finding.Case case) n scenes attempts = CaseMayStand p case → HasIn case n scenes attempts
  TriedAs finding.Implied n scenes attempts = Unit {0}

  record Tried (check n : ℕ) (scenes : List Scene) (attempts : List Attempt) : Type 0 where
    found : Finding
    is : IsFinding p role code Both check found
    tried : TriedAs found n scenes attempts

  tried_first : (check n : ℕ) (xs ys : List Scene) (some others : List Attempt) → Tried check n xs some → Tried check n (xs ++ ys) (some ++ others)
  tried_first check n xs ys some others t = record { found = t.found; is = t.is; tried = by t.found t.tried } where
    by : (found : Finding) → TriedAs found n xs some → TriedAs found n (xs ++ ys) (some ++ others)
    by (finding.Case case) h = λ stands. in_first case n xs ys some others (h stands)
    by finding.Implied h = tt

  tried_later : (check n : ℕ) (xs ys : List Scene) (some others : List Attempt) → Tried check (n + length xs) ys others → Tried check n (xs ++ ys) (some ++ others)
  tried_later check n xs ys some others t = record { found = t.found; is = t.is; tried = by t.found t.tried } where
    by : (found : Finding) → TriedAs found (n + length xs) ys others → TriedAs found n (xs ++ ys) (some ++ others)
    by (finding.Case case) h = λ stands. in_later case n xs ys some others (h stands)
    by finding.Implied h = tt

  tried_in : (check n : ℕ) (scenes xs : List Scene) (attempts some : List Attempt) → scenes ≡ xs → attempts ≡ some → Tried check n xs some → Tried check n scenes attempts
  tried_in check n scenes xs attempts some e f t = subst (λ l. Tried check n l attempts) (sym e) (subst (Tried check n xs) (sym f) t)

  -- ---- of a case

  zip_first : (n : ℕ) (at : Place) (c : Change) (cs : List Change) (attempts : List Attempt) → AllZip (IsAttempt p role n at Both) (c ∷ cs) attempts → (a : Attempt) × (slice_get attempts 0 ≡ Some a) × (a.scene ≡ n)
  zip_first n at c cs [] all = absurd all
  zip_first n at c cs (a ∷ attempts) all = (a, refl, all.0.scene_is)

  case_has : (c : Change) (cs : List Change) (n : ℕ) (case : Case) (part : PartValue) → CaseMayStand p case → IsPartOfCase p role Both (c ∷ cs) n case part → HasIn case n part.scenes part.attempts
  case_has c cs n case part stands (inr t) = absurd (t.0 stands)
  case_has c cs n case part stands (inl t) =
      let a = zip_first n _ c cs part.attempts t.attempts in
      record {
        place = 0;
        attempt = a.0;
        at = a.1;
        spot = 0;
        scene = t.scene;
        counts = (let z : n ≡ n + 0 = omega arith in a.2 ∙ z);
        there = ap (λ l. slice_get l 0) t.scenes;
        is = t.is;
      }

  parts_have : (c : Change) (cs : List Change) (n : ℕ) (case : Case) (within : List Case) (parts : List PartValue) → AreParts (IsPartOfCase p role Both (c ∷ cs)) n (case ∷ within) parts → CaseMayStand p case → HasIn case n (scenes_in parts) (attempts_in parts)
  parts_have c cs n case within [] are stands = absurd are
  parts_have c cs n case within (q ∷ qs) are stands = in_first case n q.scenes (scenes_in qs) q.attempts (attempts_in qs) (case_has c cs n case q stands are.0)

  own_tried : (c : Change) (cs : List Change) (n : ℕ) (found : Finding) (part : PartValue) → IsPartOf p role (c ∷ cs) n found part → TriedAs found n part.scenes part.attempts
  own_tried c cs n (finding.Case case) part t =
      λ stands. subst (λ l. HasIn case n l part.attempts) (sym t.comes.scenes) (subst (HasIn case n (scenes_in t.comes.parts)) (sym t.comes.attempts) (parts_have c cs n case t.within t.comes.parts t.comes.are stands))
  own_tried c cs n finding.Implied part t = tt

  -- ---- of a check

  check_tried : (c : Change) (cs : List Change) (n check : ℕ) (part : PartValue) → IsPartOfCheck p role code (c ∷ cs) n check part → Tried check n part.scenes part.attempts
  check_tried c cs n check part t =
      let own : Tried check n t.own.scenes t.own.attempts = record { found = t.own_is.0; is = t.own_is.1; tried = own_tried c cs n t.own_is.0 t.own t.own_is.2 } in
      let both = tried_in check n t.both.scenes (t.own.scenes ++ t.first.scenes) t.both.attempts (t.own.attempts ++ t.first.attempts) t.both_are.scenes t.both_are.attempts (tried_first check n t.own.scenes t.first.scenes t.own.attempts t.first.attempts own) in
      tried_in check n part.scenes (t.both.scenes ++ t.second.scenes) part.attempts (t.both.attempts ++ t.second.attempts) t.all.scenes t.all.attempts (tried_first check n t.both.scenes t.second.scenes t.both.attempts t.second.attempts both)

  point_tried : (all : Bool) (n check : ℕ) (part : PartValue) → IsPartOfPoint p role code all n (Check check) part → Tried check n part.scenes part.attempts
  point_tried true n check part t = check_tried _ _ n check part t
  point_tried false n check part t = check_tried _ _ n check part t

  points_tried : (all : Bool) (n check : ℕ) (points : List Point) (parts : List PartValue) (k : ℕ) → AreParts (IsPartOfPoint p role code all) n points parts → slice_get points k ≡ Some (Check check) → Tried check n (scenes_in parts) (attempts_in parts)
  points_tried all n check [] parts k are at = absurd (cc)
  points_tried all n check (x ∷ xs) [] k are at = absurd are
  points_tried all n check (x ∷ xs) (q ∷ qs) zero are at =
      let same : x ≡ Check check = cc in
      tried_first check n q.scenes (scenes_in qs) q.attempts (attempts_in qs) (point_tried all n check q (subst (λ y. IsPartOfPoint p role code all n y q) same are.0))
  points_tried all n check (x ∷ xs) (q ∷ qs) (suc k) are at = tried_later check n q.scenes (scenes_in qs) q.attempts (attempts_in qs) (points_tried all (n + length q.scenes) check xs qs k are.1 at)

  -- ---- of all

  has_attempt : (suite : Suite) (case : Case) → HasIn case 0 suite.scenes.items suite.attempts.items → HasAttempt p suite case
  has_attempt suite case h =
      let spot : h.spot ≡ h.attempt.scene = (let c = h.counts in omega (arith, c)) in
      record { place = h.place; attempt = h.attempt; attempt_is = h.at; scene = h.scene; scene_is = subst (λ k. slice_get suite.scenes.items k ≡ Some h.scene) spot h.there; is = h.is }

  pub suite_tries : (all : Bool) (suite : Suite) → IsSuite p role code all suite → suite.more ≡ false → (place check : ℕ) → slice_get (checks_of (acts_of code)) place ≡ Some check → IsCheckTried p role code suite check
  suite_tries all suite s none place check at =
      let tried = s.covers.tried in
      let added = s.covers.added in
      let begun = s.begun in
      let points : points_of code ≡ tried = s.covers.all ∙ ap (λ l. tried ++ l) (s.covers.whole none) ∙ append-nil tried in
      let here : slice_get (points_of code) place ≡ Some (Check check) =
      slice_get-append (map Check (checks_of (acts_of code))) (map Opening (openings_of (acts_of code))) place (Check check) (slice_get-map Check (checks_of (acts_of code)) place check at) in
      let parts = points_tried all (length begun.scenes.items) check tried added.parts place added.are (subst (λ l. slice_get l place ≡ Some (Check check)) points here) in
      let z : length begun.scenes.items ≡ 0 + length begun.scenes.items = omega arith in
      let later = tried_later check 0 begun.scenes.items (scenes_in added.parts) begun.attempts.items (attempts_in added.parts) (subst (λ k. Tried check k (scenes_in added.parts) (attempts_in added.parts)) z parts) in
      let t = tried_in check 0 suite.scenes.items (begun.scenes.items ++ scenes_in added.parts) suite.attempts.items (begun.attempts.items ++ attempts_in added.parts) added.scenes added.attempts later in
      record { found = t.found; is = t.is; tried = by t.found t.tried } where
        by : (found : Finding) → TriedAs found 0 suite.scenes.items suite.attempts.items → HasAttemptAt p suite found
        by (finding.Case case) h = λ stands. has_attempt suite case (h stands)
        by finding.Implied h = tt
