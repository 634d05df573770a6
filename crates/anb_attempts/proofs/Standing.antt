-- What holds of each scene and each attempt of a suite.
use Rattle.std.proofs.Common.{◌≡◌, ℕ, ◌+◌, ◌<◌, List, [], ◌∷◌, ◌++◌, length, map, Bool, true, false, Option, Some, None, refl, sym, ap, ◌∙◌, subst, inl, inr, arith, length-append}
use Rattle.std.specs.List.{AllByRecursion, AllZip}
use Rattle.std.specs.Option.{option_map}
use Rattle.std.specs.Prelude.{IfSome}
use Rattle.anb_lemmas.proofs.Each.{each_in_both, each_as}
use Rattle.anb_term.specs.Tree.{Tree}
use Rattle.anb_term.specs.View.{tree_of}
use Rattle.anb_code.specs.CodeValue.{CodeValue}
use Rattle.anb_partner.specs.Plans.{MayStand}
use Rattle.anb_protocol.specs.Protocols.{ProtocolValue}
use Rattle.anb_openings.specs.Openings.{parsed_at}
use Rattle.anb_openings.specs.declared.cases.OpeningCase.{OpeningCase}
use Rattle.anb_openings.specs.declared.cases.OpeningFinding.{OpeningFinding}
use Rattle.anb_openings.specs.declared.cases.OpeningFinding.TheVariants as opening
use Rattle.anb_spoil.specs.declared.changes.Change.{Change}
use Rattle.anb_spoil.specs.declared.changes.Change.TheVariants.{LastByte}
use Rattle.anb_spoil.specs.declared.wrongs.Wrong.{Wrong}
use Rattle.anb_suite.specs.declared.reading.Reading.{Reading}
use Rattle.anb_suite.specs.declared.reading.Reading.TheVariants.{Both, First, Second}
use Rattle.anb_suite.specs.declared.cases.Case.{Case}
use Rattle.anb_suite.specs.declared.cases.Finding.{Finding}
use Rattle.anb_suite.specs.declared.cases.Finding.TheVariants as finding
use Rattle.anb_attempts.specs.declared.attempts.Attempt.{Attempt}
use Rattle.anb_attempts.specs.declared.attempts.Scene.{Scene}
use Rattle.anb_attempts.specs.declared.attempts.Suite.{Suite}
use Rattle.anb_attempts.specs.declared.points.Point.{Point}
use Rattle.anb_attempts.specs.declared.points.Point.TheVariants.{Check, Opening}
use Rattle.anb_attempts.specs.Attempts.{AreParts, CaseMayStand, HasAdded, IsAttempt, IsJoined, IsOpeningAttempt, IsPartOf, IsPartOfCase, IsPartOfCheck, IsPartOfFound, IsPartOfNew, IsPartOfOpened, IsPartOfOther, IsPartOfPoint, IsPartOfTag, IsPartOfTried, IsSceneOf, IsSceneOfOpening, IsSceneOfTag, OpeningMayStand, PartValue, Place, SceneMayStand, TagMayStand, changes_tried, is_heard}
use Rattle.anb_attempts.specs.Retagging.{RetaggingValue, retagging_at}
use Rattle.anb_attempts.proofs.Adding.{attempts_in, scenes_in}

-- an attempt's scene is below a number
abbrev pub IsBelow : ℕ → Attempt → Type 0
IsBelow n a = a.scene < n

each_below : (m n : ℕ) (xs : List Attempt) → m ≡ n → AllByRecursion (IsBelow m) xs → AllByRecursion (IsBelow n) xs
each_below m n xs e all = subst (λ k. AllByRecursion (IsBelow k) xs) e all

pub each_within : (m n : ℕ) (xs : List Attempt) → AllByRecursion (IsBelow m) xs → AllByRecursion (IsBelow (m + n)) xs
each_within m n xs all = each_as (IsBelow m) (IsBelow (m + n)) xs (λ x below. (let b : x.scene < m = below in omega (arith, b))) all

-- ---- parts of any kind

module _ {X : Type 0} (Is : ℕ → X → PartValue → Type 0) where
  module _ (P : Scene → Type 0) (stands : (n : ℕ) (x : X) (part : PartValue) → Is n x part → AllByRecursion P part.scenes) where
    parts_stand : (n : ℕ) (xs : List X) (parts : List PartValue) → AreParts Is n xs parts → AllByRecursion P (scenes_in parts)
    parts_stand n [] [] are = tt
    parts_stand n [] (q ∷ qs) are = absurd are
    parts_stand n (x ∷ xs) [] are = absurd are
    parts_stand n (x ∷ xs) (q ∷ qs) are = each_in_both P q.scenes (scenes_in qs) (stands n x q are.0) (parts_stand (n + length q.scenes) xs qs are.1)

    pub all_stand : (xs : List X) (old new : Suite) → HasAdded Is xs old new → AllByRecursion P old.scenes.items → AllByRecursion P new.scenes.items
    all_stand xs old new h all = subst (AllByRecursion P) (sym h.scenes) (each_in_both P old.scenes.items (scenes_in h.parts) all (parts_stand (length old.scenes.items) xs h.parts h.are))

  module _ (below : (n : ℕ) (x : X) (part : PartValue) → Is n x part → AllByRecursion (IsBelow (n + length part.scenes)) part.attempts) where
    parts_below : (n : ℕ) (xs : List X) (parts : List PartValue) → AreParts Is n xs parts → AllByRecursion (IsBelow (n + length (scenes_in parts))) (attempts_in parts)
    parts_below n [] [] are = tt
    parts_below n [] (q ∷ qs) are = absurd are
    parts_below n (x ∷ xs) [] are = absurd are
    parts_below n (x ∷ xs) (q ∷ qs) are =
        let e : (n + length q.scenes) + length (scenes_in qs) ≡ n + length (q.scenes ++ scenes_in qs) = omega (arith, length-append q.scenes (scenes_in qs)) in
        let one = each_within (n + length q.scenes) (length (scenes_in qs)) q.attempts (below n x q are.0) in
        let rest = parts_below (n + length q.scenes) xs qs are.1 in
        each_below _ _ (q.attempts ++ attempts_in qs) e (each_in_both (IsBelow ((n + length q.scenes) + length (scenes_in qs))) q.attempts (attempts_in qs) one rest)

    pub all_below : (xs : List X) (old new : Suite) → HasAdded Is xs old new → AllByRecursion (IsBelow (length old.scenes.items)) old.attempts.items → AllByRecursion (IsBelow (length new.scenes.items)) new.attempts.items
    all_below xs old new h all =
        let n = length old.scenes.items in
        let more = length (scenes_in h.parts) in
        let e : n + more ≡ length new.scenes.items = sym (ap length h.scenes ∙ length-append old.scenes.items (scenes_in h.parts)) in
        let both = each_in_both (IsBelow (n + more)) old.attempts.items (attempts_in h.parts) (each_within n more old.attempts.items all) (parts_below n xs h.parts h.are) in
        subst (AllByRecursion (IsBelow (length new.scenes.items))) (sym h.attempts) (each_below (n + more) (length new.scenes.items) (old.attempts.items ++ attempts_in h.parts) e both)

-- ---- those of checks

module _ (p : ProtocolValue) (role : ℕ) where
  scene_stands : (case : Case) (scene : Scene) → CaseMayStand p case → IsSceneOf (length p.atoms) case scene → SceneMayStand p scene
  scene_stands case scene stands is = record {
    arrivals = subst (λ v. AllByRecursion (MayStand p) (map tree_of v.items)) (sym is.arrivals) stands.arrivals;
    messages = subst (λ v. AllByRecursion (MayStand p) (map tree_of v.items)) (sym is.messages) stands.messages;
    right = subst (λ o. IfSome (option_map tree_of o) (MayStand p)) (sym is.right) stands.wrong;
  }

  zip_below : (n : ℕ) (at : Place) (reading : Reading) (changes : List Change) (attempts : List Attempt) → AllZip (IsAttempt p role n at reading) changes attempts → AllByRecursion (IsBelow (n + 1)) attempts
  zip_below n at reading [] [] all = tt
  zip_below n at reading [] (a ∷ rest) all = absurd all
  zip_below n at reading (c ∷ cs) [] all = absurd all
  zip_below n at reading (c ∷ cs) (a ∷ rest) all = ((let e = all.0.scene_is in omega (arith, e)), zip_below n at reading cs rest all.1)

  module _ (reading : Reading) (changes : List Change) where
    case_stands : (n : ℕ) (case : Case) (part : PartValue) → IsPartOfCase p role reading changes n case part → AllByRecursion (SceneMayStand p) part.scenes
    case_stands n case part (inl t) = subst (AllByRecursion (SceneMayStand p)) (sym t.scenes) (scene_stands case t.scene t.stands t.is, tt)
    case_stands n case part (inr t) = subst (AllByRecursion (SceneMayStand p)) (sym t.1.scenes) tt

    case_below : (n : ℕ) (case : Case) (part : PartValue) → IsPartOfCase p role reading changes n case part → AllByRecursion (IsBelow (n + length part.scenes)) part.attempts
    case_below n case part (inl t) =
        let e : length part.scenes ≡ 1 = ap length t.scenes in each_below (n + 1) (n + length part.scenes) part.attempts (ap (λ k. n + k) (sym e)) (zip_below n _ reading changes part.attempts t.attempts)
    case_below n case part (inr t) = subst (AllByRecursion (IsBelow (n + length part.scenes))) (sym t.1.attempts) tt

  module _ (changes : List Change) where
    found_stands : (n : ℕ) (found : Finding) (part : PartValue) → IsPartOf p role changes n found part → AllByRecursion (SceneMayStand p) part.scenes
    found_stands n (finding.Case case) part t =
        subst (AllByRecursion (SceneMayStand p)) (sym t.comes.scenes) (parts_stand (IsPartOfCase p role Both changes) (SceneMayStand p) (case_stands Both changes) n (case ∷ t.within) t.comes.parts t.comes.are)
    found_stands n finding.Implied part e = subst (λ (q : PartValue). AllByRecursion (SceneMayStand p) q.scenes) (sym e) tt

    found_below : (n : ℕ) (found : Finding) (part : PartValue) → IsPartOf p role changes n found part → AllByRecursion (IsBelow (n + length part.scenes)) part.attempts
    found_below n (finding.Case case) part t =
        let e : n + length (scenes_in t.comes.parts) ≡ n + length part.scenes = ap (λ l. n + length l) (sym t.comes.scenes) in
        subst (AllByRecursion (IsBelow (n + length part.scenes))) (sym t.comes.attempts)
        (each_below (n + length (scenes_in t.comes.parts)) (n + length part.scenes) (attempts_in t.comes.parts) e (parts_below (IsPartOfCase p role Both changes) (case_below Both changes) n (case ∷ t.within) t.comes.parts t.comes.are))
    found_below n finding.Implied part e = subst (λ (q : PartValue). AllByRecursion (IsBelow (n + length q.scenes)) q.attempts) (sym e) tt

  -- one part, and then another
  join_stands : (first second both : PartValue) → IsJoined first second both → AllByRecursion (SceneMayStand p) first.scenes → AllByRecursion (SceneMayStand p) second.scenes → AllByRecursion (SceneMayStand p) both.scenes
  join_stands first second both j one other = subst (AllByRecursion (SceneMayStand p)) (sym j.scenes) (each_in_both (SceneMayStand p) first.scenes second.scenes one other)

  join_below : (n : ℕ) (first second both : PartValue) → IsJoined first second both → AllByRecursion (IsBelow (n + length first.scenes)) first.attempts → AllByRecursion (IsBelow ((n + length first.scenes) + length second.scenes)) second.attempts
      → AllByRecursion (IsBelow (n + length both.scenes)) both.attempts
  join_below n first second both j one other =
      let e : (n + length first.scenes) + length second.scenes ≡ n + length both.scenes = omega (arith, ap length j.scenes, length-append first.scenes second.scenes) in
      let all = each_in_both (IsBelow ((n + length first.scenes) + length second.scenes)) first.attempts second.attempts (each_within (n + length first.scenes) (length second.scenes) first.attempts one) other in
      subst (AllByRecursion (IsBelow (n + length both.scenes))) (sym j.attempts) (each_below ((n + length first.scenes) + length second.scenes) (n + length both.scenes) (first.attempts ++ second.attempts) e all)

  -- of a code that reads one value for the other
  module _ (reading : Reading) (before : PartValue) where
    new_stands : (n : ℕ) (case : Case) (part : PartValue) → IsPartOfNew p role reading before n case part → AllByRecursion (SceneMayStand p) part.scenes
    new_stands n case part t = by (is_heard (map tree_of case.arrivals.items) before.scenes) refl where
      by : (b : Bool) → is_heard (map tree_of case.arrivals.items) before.scenes ≡ b → AllByRecursion (SceneMayStand p) part.scenes
      by true e = subst (λ (q : PartValue). AllByRecursion (SceneMayStand p) q.scenes) (sym (t.tried e)) tt
      by false e = case_stands reading (LastByte ∷ []) n case part (t.new e)

    new_below : (n : ℕ) (case : Case) (part : PartValue) → IsPartOfNew p role reading before n case part → AllByRecursion (IsBelow (n + length part.scenes)) part.attempts
    new_below n case part t = by (is_heard (map tree_of case.arrivals.items) before.scenes) refl where
      by : (b : Bool) → is_heard (map tree_of case.arrivals.items) before.scenes ≡ b → AllByRecursion (IsBelow (n + length part.scenes)) part.attempts
      by true e = subst (λ (q : PartValue). AllByRecursion (IsBelow (n + length q.scenes)) q.attempts) (sym (t.tried e)) tt
      by false e = case_below reading (LastByte ∷ []) n case part (t.new e)

    other_stands : (n : ℕ) (found : Finding) (part : PartValue) → IsPartOfOther p role reading before n found part → AllByRecursion (SceneMayStand p) part.scenes
    other_stands n (finding.Case case) part t = new_stands n case part t
    other_stands n finding.Implied part e = subst (λ (q : PartValue). AllByRecursion (SceneMayStand p) q.scenes) (sym e) tt

    other_below : (n : ℕ) (found : Finding) (part : PartValue) → IsPartOfOther p role reading before n found part → AllByRecursion (IsBelow (n + length part.scenes)) part.attempts
    other_below n (finding.Case case) part t = new_below n case part t
    other_below n finding.Implied part e = subst (λ (q : PartValue). AllByRecursion (IsBelow (n + length q.scenes)) q.attempts) (sym e) tt

  module _ (code : CodeValue) (changes : List Change) where
    check_stands : (n check : ℕ) (part : PartValue) → IsPartOfCheck p role code changes n check part → AllByRecursion (SceneMayStand p) part.scenes
    check_stands n check part t =
        join_stands t.both t.second part t.all
        (join_stands t.own t.first t.both t.both_are (found_stands changes n t.own_is.0 t.own t.own_is.2) (other_stands First t.own (n + length t.own.scenes) t.first_is.0 t.first t.first_is.2))
        (other_stands Second t.both (n + length t.both.scenes) t.second_is.0 t.second t.second_is.2)

    check_below : (n check : ℕ) (part : PartValue) → IsPartOfCheck p role code changes n check part → AllByRecursion (IsBelow (n + length part.scenes)) part.attempts
    check_below n check part t =
        join_below n t.both t.second part t.all
        (join_below n t.own t.first t.both t.both_are (found_below changes n t.own_is.0 t.own t.own_is.2) (other_below First t.own (n + length t.own.scenes) t.first_is.0 t.first t.first_is.2))
        (other_below Second t.both (n + length t.both.scenes) t.second_is.0 t.second t.second_is.2)

-- ---- those of openings

module _ (p : ProtocolValue) (role : ℕ) where
  opening_stands : (parsed : Option ℕ) (case : OpeningCase) (scene : Scene) → OpeningMayStand p case → IsSceneOfOpening parsed case scene → SceneMayStand p scene
  opening_stands parsed case scene stands is = record {
    arrivals = subst (λ v. AllByRecursion (MayStand p) (map tree_of v.items)) (sym is.arrivals) stands.arrivals;
    messages = subst (λ v. AllByRecursion (MayStand p) (map tree_of v.items)) (sym is.messages) stands.messages;
    right = subst (λ o. IfSome (option_map tree_of o) (MayStand p)) (sym is.right) stands.wrong;
  }

  tag_stands : (case : OpeningCase) (pair : Tree) (scene : Scene) → TagMayStand p case pair → IsSceneOfTag case pair scene → SceneMayStand p scene
  tag_stands case pair scene stands is = record {
    arrivals = subst (λ v. AllByRecursion (MayStand p) (map tree_of v.items)) (sym is.arrivals) stands.arrivals;
    messages = subst (λ v. AllByRecursion (MayStand p) (map tree_of v.items)) (sym is.messages) stands.messages;
    right = subst (λ o. IfSome o (MayStand p)) (sym is.right) stands.wrong;
  }

  ways_below : (n : ℕ) (at : Place) (ways : List Wrong) (attempts : List Attempt) → AllZip (IsOpeningAttempt p role n at) ways attempts → AllByRecursion (IsBelow (n + 1)) attempts
  ways_below n at [] [] all = tt
  ways_below n at [] (a ∷ rest) all = absurd all
  ways_below n at (w ∷ ws) [] all = absurd all
  ways_below n at (w ∷ ws) (a ∷ rest) all = ((let e = all.0.scene_is in omega (arith, e)), ways_below n at ws rest all.1)

  module _ (all : Bool) (parsed : Option ℕ) where
    tried_stands : (n : ℕ) (tag : Option RetaggingValue) (case : OpeningCase) (part : PartValue) → IsPartOfTried p role all parsed tag n case part → AllByRecursion (SceneMayStand p) part.scenes
    tried_stands n None case part (inl t) = subst (AllByRecursion (SceneMayStand p)) (sym t.scenes) (opening_stands parsed case t.scene t.stands t.is, tt)
    tried_stands n None case part (inr t) = subst (AllByRecursion (SceneMayStand p)) (sym t.1.scenes) tt
    tried_stands n (Some tag) case part (inl t) = subst (AllByRecursion (SceneMayStand p)) (sym t.scenes) (tag_stands case tag.pair t.scene t.stands t.is, tt)
    tried_stands n (Some tag) case part (inr t) = subst (AllByRecursion (SceneMayStand p)) (sym t.1.scenes) tt

    tried_below : (n : ℕ) (tag : Option RetaggingValue) (case : OpeningCase) (part : PartValue) → IsPartOfTried p role all parsed tag n case part → AllByRecursion (IsBelow (n + length part.scenes)) part.attempts
    tried_below n None case part (inl t) =
        let e : length part.scenes ≡ 1 = ap length t.scenes in each_below (n + 1) (n + length part.scenes) part.attempts (ap (λ k. n + k) (sym e)) (ways_below n _ _ part.attempts t.attempts)
    tried_below n None case part (inr t) = subst (AllByRecursion (IsBelow (n + length part.scenes))) (sym t.1.attempts) tt
    tried_below n (Some tag) case part (inl t) =
        let e : length part.scenes ≡ 1 = ap length t.scenes in
        let s : t.attempt.scene ≡ n = t.falsely.scene_is in
        subst (AllByRecursion (IsBelow (n + length part.scenes))) (sym t.attempts) (omega (arith, s, e), tt)
    tried_below n (Some tag) case part (inr t) = subst (AllByRecursion (IsBelow (n + length part.scenes))) (sym t.1.attempts) tt

    opened_stands : (n : ℕ) (found : OpeningFinding) (part : PartValue) → IsPartOfFound p role all parsed n found part → AllByRecursion (SceneMayStand p) part.scenes
    opened_stands n (opening.Case case) part t = tried_stands n (retagging_at p parsed (tree_of case.opened)) case part t
    opened_stands n (opening.NoCase none) part gap = subst (AllByRecursion (SceneMayStand p)) (sym gap.scenes) tt

    opened_below : (n : ℕ) (found : OpeningFinding) (part : PartValue) → IsPartOfFound p role all parsed n found part → AllByRecursion (IsBelow (n + length part.scenes)) part.attempts
    opened_below n (opening.Case case) part t = tried_below n (retagging_at p parsed (tree_of case.opened)) case part t
    opened_below n (opening.NoCase none) part gap = subst (AllByRecursion (IsBelow (n + length part.scenes))) (sym gap.attempts) tt

-- ---- those of all points

module _ (p : ProtocolValue) (role : ℕ) (code : CodeValue) (all : Bool) where
  point_stands : (n : ℕ) (point : Point) (part : PartValue) → IsPartOfPoint p role code all n point part → AllByRecursion (SceneMayStand p) part.scenes
  point_stands n (Check check) part is = check_stands p role code (changes_tried all) n check part is
  point_stands n (Opening instruction) part is = opened_stands p role all (parsed_at code instruction) n is.0 part is.2

  point_below : (n : ℕ) (point : Point) (part : PartValue) → IsPartOfPoint p role code all n point part → AllByRecursion (IsBelow (n + length part.scenes)) part.attempts
  point_below n (Check check) part is = check_below p role code (changes_tried all) n check part is
  point_below n (Opening instruction) part is = opened_below p role all (parsed_at code instruction) n is.0 part is.2

  pub points_stand : (xs : List Point) (old new : Suite) → HasAdded (IsPartOfPoint p role code all) xs old new → AllByRecursion (SceneMayStand p) old.scenes.items → AllByRecursion (SceneMayStand p) new.scenes.items
  points_stand = all_stand (IsPartOfPoint p role code all) (SceneMayStand p) point_stands

  pub points_below : (xs : List Point) (old new : Suite) → HasAdded (IsPartOfPoint p role code all) xs old new → AllByRecursion (IsBelow (length old.scenes.items)) old.attempts.items
      → AllByRecursion (IsBelow (length new.scenes.items)) new.attempts.items
  points_below = all_below (IsPartOfPoint p role code all) point_below
