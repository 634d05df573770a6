-- Each attempt of a suite is in a scene in which the role stops where that is known, and which is the honest one where nothing is made wrong.
use Rattle.std.proofs.Common.{◌≡◌, ◌≢◌, ℕ, ◌+◌, List, [], ◌∷◌, ◌++◌, length, map, Bool, true, false, Option, Some, None, refl, sym, ap, ◌∙◌, subst, inl, inr, ◌⊎◌, arith}
use Rattle.std.specs.Prelude.{filter, slice_get}
use Rattle.std.specs.List.{AllByRecursion, AllZip}
use Rattle.std.specs.Option.{option_map, option_map_or}
use Rattle.anb_lemmas.proofs.Each.{each_as, each_got, each_in_both}
use Rattle.anb_term.specs.Tree.{Tree}
use Rattle.anb_term.specs.View.{tree_of}
use Rattle.anb_term.proofs.Lists.{slice_get-append}
use Rattle.anb_code.specs.CodeValue.{CodeValue}
use Rattle.anb_code.specs.Meaning.{acts_of}
use Rattle.anb_compile.proofs.Lists.{later_part}
use Rattle.anb_format.specs.Formats.{FormatValue}
use Rattle.anb_protocol.specs.Protocols.{ProtocolValue}
use Rattle.anb_openings.specs.Openings.{IsOpeningCaseOf, IsOpeningFinding, parsed_at}
use Rattle.anb_openings.specs.declared.cases.OpeningCase.{OpeningCase}
use Rattle.anb_openings.specs.declared.cases.OpeningFinding.{OpeningFinding}
use Rattle.anb_openings.specs.declared.cases.OpeningFinding.TheVariants as opening
use Rattle.anb_partner.specs.Plans.{MayStand}
use Rattle.anb_spoil.specs.Rows.{rows_of}
use Rattle.anb_spoil.specs.Wrongs.{wrong_by}
use Rattle.anb_spoil.specs.declared.changes.Change.{Change}
use Rattle.anb_spoil.specs.declared.changes.Change.TheVariants.{LastByte}
use Rattle.anb_spoil.specs.declared.wrongs.Wrong.{Wrong}
use Rattle.anb_spoil.specs.declared.wrongs.Wrong.TheVariants.{Changed, Spoilt}
use Rattle.anb_suite.specs.Suites.{IsCaseOf, IsFinding}
use Rattle.anb_suite.specs.declared.reading.Reading.{Reading}
use Rattle.anb_suite.specs.declared.reading.Reading.TheVariants.{Both, First, Second}
use Rattle.anb_suite.specs.declared.cases.Case.{Case}
use Rattle.anb_suite.specs.declared.cases.Finding.{Finding}
use Rattle.anb_suite.specs.declared.cases.Finding.TheVariants as finding
use Rattle.anb_attempts.specs.Attempts.{AreParts, CaseMayStand, ComesOf, HasAdded, IsAttempt, IsBegun, IsJoined, IsNarrated, IsOpeningAttempt, IsPartOf, IsPartOfCase, IsPartOfCheck, IsPartOfFound, IsPartOfNew, IsPartOfOther, IsPartOfPoint, IsPartOfTried, IsSceneOf, IsSceneOfOpening, IsSuite, OpeningMayStand, PartValue, Place, changes_tried, format_ways, is_heard, is_tried, ways_of, script_in}
use Rattle.anb_attempts.specs.Inner.{AreWithin, InnerValue, IsWithin, few_within}
use Rattle.anb_attempts.specs.Retagging.{RetaggingValue, retagging_at}
use Rattle.anb_attempts.specs.declared.attempts.Attempt.{Attempt}
use Rattle.anb_attempts.specs.declared.attempts.Scene.{Scene}
use Rattle.anb_attempts.specs.declared.attempts.Suite.{Suite}
use Rattle.anb_attempts.specs.declared.points.Point.{Point}
use Rattle.anb_attempts.specs.declared.points.Point.TheVariants.{Check, Opening}
use Rattle.anb_attempts.proofs.Adding.{attempts_in, scenes_in}
use Rattle.anb_dues.proofs.Checks.{GoesAlong, check_along, check_known, wrong_ours}
use Rattle.anb_dues.proofs.Opening.{ComesAlong, parsed_known, sealed_comes, tag_known}
use Rattle.anb_dues.proofs.Stopping.{Grounds, Stops}
use Rattle.anb_dues.proofs.Within.{IsFine, few_fine, may_or_not, within_along, within_known}

module _ (p : ProtocolValue) (role : ℕ) (code : CodeValue) (g : Grounds p role (acts_of code)) where
  -- the scene of the case of an opening that takes off a tag
  pub record IsSealed (scene : Scene) : Type 0 where
    pub instruction : ℕ
    pub case : OpeningCase
    pub is_case : IsOpeningCaseOf p role code instruction case
    pub sealed : parsed_at code instruction ≡ None
    pub is : IsSceneOfOpening None case scene
    pub comes : ComesAlong (acts_of code) case.event (script_in p role scene)

  -- Where it is known that the role stops, it does; where nothing is made wrong, all is as narrated; and else the code says no
  -- messages but the scene's, or something that was sealed is changed.
  pub record IsGood (scene : Scene) (wrong : Wrong) : Type 0 where
    pub stops : (event : ℕ) → scene.due ≡ Some event → Stops (script_in p role scene) (acts_of code) (wrong_by p.formats wrong) event
    pub honest : option_map tree_of scene.right ≡ None → IsNarrated p role scene
    pub untold : option_map tree_of scene.right ≢ None → scene.due ≡ None → GoesAlong (acts_of code) (script_in p role scene) ⊎ IsSealed scene

  -- a stop that is known isn't unknown
  told_due : {X : Type 0} (scene : Scene) (event : ℕ) → scene.due ≡ Some event → scene.due ≡ None → X
  told_due scene event due none = absurd (let both : None ≡ Some event = sym none ∙ due in cc)

  -- a scene in which something is made wrong isn't the honest one
  never_honest : (scene : Scene) (t : Tree) → option_map tree_of scene.right ≡ Some t → option_map tree_of scene.right ≡ None → IsNarrated p role scene
  never_honest scene t right none = absurd (let both : None ≡ Some t = sym none ∙ right in cc)

  -- so it is in the scene of an attempt, which is one of these, of which the first has the number n
  pub record IsIn (n : ℕ) (scenes : List Scene) (attempt : Attempt) : Type 0 where
    pub place : ℕ
    pub scene : Scene
    pub counts : attempt.scene ≡ n + place
    pub there : slice_get scenes place ≡ Some scene
    pub good : IsGood scene attempt.wrong

  abbrev AllIn : ℕ → List Scene → List Attempt → Type 0
  AllIn n scenes attempts = AllByRecursion (IsIn n scenes) attempts

  with_more : (n : ℕ) (xs ys : List Scene) (a : Attempt) → IsIn n xs a → IsIn n (xs ++ ys) a
  with_more n xs ys a i = record { place = i.place; scene = i.scene; counts = i.counts; there = slice_get-append xs ys i.place i.scene i.there; good = i.good }

  behind_more : (n : ℕ) (xs ys : List Scene) (a : Attempt) → IsIn (n + length xs) ys a → IsIn n (xs ++ ys) a
  behind_more n xs ys a i = record {
    place = length xs + i.place;
    scene = i.scene;
    counts = (let c = i.counts in omega (arith, c));
    there = later_part xs ys i.place i.scene i.there;
    good = i.good;
  }

  all_both : (n : ℕ) (xs ys : List Scene) (some others : List Attempt) → AllIn n xs some → AllIn (n + length xs) ys others → AllIn n (xs ++ ys) (some ++ others)
  all_both n xs ys some others one two =
      each_in_both (IsIn n (xs ++ ys)) some others (each_as (IsIn n xs) (IsIn n (xs ++ ys)) some (λ a i. with_more n xs ys a i) one)
      (each_as (IsIn (n + length xs) ys) (IsIn n (xs ++ ys)) others (λ a i. behind_more n xs ys a i) two)

  abbrev PartIn : ℕ → PartValue → Type 0
  PartIn n part = AllIn n part.scenes part.attempts

  part_is : (n : ℕ) (part : PartValue) (scenes : List Scene) (attempts : List Attempt) → part.scenes ≡ scenes → part.attempts ≡ attempts → AllIn n scenes attempts → PartIn n part
  part_is n part scenes attempts e f all = subst (λ l. AllIn n l part.attempts) (sym e) (subst (AllIn n scenes) (sym f) all)

  nothing_in : (n : ℕ) (part : PartValue) → part ≡ record { scenes = []; attempts = []; gaps = [] } → PartIn n part
  nothing_in n part e = subst (λ (q : PartValue). PartIn n q) (sym e) tt

  joined_in : (n : ℕ) (first second both : PartValue) → IsJoined first second both → PartIn n first → PartIn (n + length first.scenes) second → PartIn n both
  joined_in n first second both j one two =
      part_is n both (first.scenes ++ second.scenes) (first.attempts ++ second.attempts) j.scenes j.attempts (all_both n first.scenes second.scenes first.attempts second.attempts one two)

  module _ {X : Type 0} (Is : ℕ → X → PartValue → Type 0) (Fine : X → Type 0) (each : (n : ℕ) (x : X) (part : PartValue) → Fine x → Is n x part → PartIn n part) where
    parts_in : (n : ℕ) (xs : List X) (parts : List PartValue) → AllByRecursion Fine xs → AreParts Is n xs parts → AllIn n (scenes_in parts) (attempts_in parts)
    parts_in n [] [] fine are = tt
    parts_in n [] (q ∷ qs) fine are = absurd are
    parts_in n (x ∷ xs) [] fine are = absurd are
    parts_in n (x ∷ xs) (q ∷ qs) fine are =
        all_both n q.scenes (scenes_in qs) q.attempts (attempts_in qs) (each n x q fine.0 are.0) (parts_in (n + length q.scenes) xs qs fine.1 are.1)

    comes_in : (n : ℕ) (xs : List X) (part : PartValue) → AllByRecursion Fine xs → ComesOf Is n xs part → PartIn n part
    comes_in n xs part fine c = part_is n part (scenes_in c.parts) (attempts_in c.parts) c.scenes c.attempts (parts_in n xs c.parts fine c.are)

    added_in : (xs : List X) (old new : Suite) → AllByRecursion Fine xs → HasAdded Is xs old new → AllIn 0 old.scenes.items old.attempts.items → AllIn 0 new.scenes.items new.attempts.items
    added_in xs old new fine h all =
        let z : length old.scenes.items ≡ 0 + length old.scenes.items = omega arith in
        let more = subst (λ k. AllIn k (scenes_in h.parts) (attempts_in h.parts)) z (parts_in (length old.scenes.items) xs h.parts fine h.are) in
        let both = all_both 0 old.scenes.items (scenes_in h.parts) old.attempts.items (attempts_in h.parts) all more in
        subst (λ l. AllIn 0 l new.attempts.items) (sym h.scenes) (subst (AllIn 0 (old.scenes.items ++ scenes_in h.parts)) (sym h.attempts) both)

  -- an attempt in a scene that stands alone
  one_in : (n : ℕ) (scene : Scene) (a : Attempt) → a.scene ≡ n → IsGood scene a.wrong → IsIn n (scene ∷ []) a
  one_in n scene a e good = record { place = 0; scene = scene; counts = (let z : n ≡ n + 0 = omega arith in e ∙ z); there = refl; good = good }

  good_as : (scene : Scene) (wrong other : Wrong) → other ≡ wrong → IsGood scene wrong → IsGood scene other
  good_as scene wrong other e good = subst (IsGood scene) (sym e) good

  -- ---- checks

  -- all scenes of a case are so
  abbrev CaseFine : Case → Type 0
  CaseFine case = (scene : Scene) (change : Change) → CaseMayStand p case → IsSceneOf (length p.atoms) case scene → IsGood scene (Changed change)

  changes_in : (n : ℕ) (at : Place) (reading : Reading) (scene : Scene) → ((change : Change) → IsGood scene (Changed change)) → (changes : List Change) (attempts : List Attempt) → AllZip (IsAttempt p role n at reading) changes attempts → AllIn n (scene ∷ []) attempts
  changes_in n at reading scene good [] [] all = tt
  changes_in n at reading scene good [] (a ∷ rest) all = absurd all
  changes_in n at reading scene good (c ∷ cs) [] all = absurd all
  changes_in n at reading scene good (c ∷ cs) (a ∷ rest) all =
      (one_in n scene a all.0.scene_is (good_as scene (Changed c) a.wrong all.0.wrong_is (good c)), changes_in n at reading scene good cs rest all.1)

  case_in : (reading : Reading) (changes : List Change) (n : ℕ) (case : Case) (part : PartValue) → CaseFine case → IsPartOfCase p role reading changes n case part → PartIn n part
  case_in reading changes n case part fine (inl t) =
      part_is n part (t.scene ∷ []) part.attempts t.scenes refl (changes_in n _ reading t.scene (λ change. fine t.scene change t.stands t.is) changes part.attempts t.attempts)
  case_in reading changes n case part fine (inr t) = part_is n part [] [] t.1.scenes t.1.attempts tt

  found_fine : (reading : Reading) (check : ℕ) (case : Case) → IsCaseOf p role code reading check case → CaseFine case
  found_fine reading check case is scene change stands of = record {
    stops = λ event due. check_known p role code g reading check case is scene stands of change event due;
    honest = never_honest scene (tree_of case.wrong) (ap (option_map tree_of) of.right);
    untold = λ some none. inl (check_along p role code g reading check case is scene stands of);
  }

  zip_fine : (check : ℕ) (case : Case) → IsCaseOf p role code Both check case → (inners : List InnerValue) (cases : List Case) → AllByRecursion (IsFine p) inners → AllZip (IsWithin (length p.atoms) case) inners cases → AllByRecursion CaseFine cases
  zip_fine check case is [] [] fine all = tt
  zip_fine check case is [] (c ∷ cs) fine all = absurd all
  zip_fine check case is (i ∷ inners) [] fine all = absurd all
  zip_fine check case is (i ∷ inners) (c ∷ cs) fine all = (
    (λ scene change stands of. record {
      stops = λ event due. within_known p role code g check case is i fine.0 c all.0 scene stands of change event due;
      honest = never_honest scene (tree_of c.wrong) (ap (option_map tree_of) of.right);
      untold = λ some none. inl (within_along p role code g check case is i fine.0 c all.0 scene stands of);
    }),
    zip_fine check case is inners cs fine.1 all.1,
  )

  within_fine : (check : ℕ) (case : Case) → IsCaseOf p role code Both check case → (cases : List Case) → AreWithin p (length p.atoms) case cases → AllByRecursion CaseFine cases
  within_fine check case is cases are = by (may_or_not p (tree_of case.wrong) (wrong_ours p role code g Both check case is)) where
    by : MayStand p (tree_of case.wrong) ⊎ (MayStand p (tree_of case.wrong) → ⊥) → AllByRecursion CaseFine cases
    by (inl may) = zip_fine check case is (few_within (length p.atoms) (tree_of case.wrong)) cases (few_fine p (length p.atoms) (tree_of case.wrong) (wrong_ours p role code g Both check case is)) (are.each may)
    by (inr never) = subst (AllByRecursion CaseFine) (sym (are.none never)) tt

  found_in : (changes : List Change) (n check : ℕ) (found : Finding) (part : PartValue) → IsFinding p role code Both check found → IsPartOf p role changes n found part → PartIn n part
  found_in changes n check (finding.Case case) part is t =
      comes_in (IsPartOfCase p role Both changes) CaseFine (λ k c q fine i. case_in Both changes k c q fine i) n (case ∷ t.within) part (found_fine Both check case is, within_fine check case is t.within t.are_within) t.comes
  found_in changes n check finding.Implied part is e = nothing_in n part e

  new_in : (reading : Reading) (before : PartValue) (n check : ℕ) (case : Case) (part : PartValue) → IsCaseOf p role code reading check case → IsPartOfNew p role reading before n case part → PartIn n part
  new_in reading before n check case part is t = by (is_heard (map tree_of case.arrivals.items) before.scenes) refl where
    by : (b : Bool) → is_heard (map tree_of case.arrivals.items) before.scenes ≡ b → PartIn n part
    by true e = nothing_in n part (t.tried e)
    by false e = case_in reading (LastByte ∷ []) n case part (found_fine reading check case is) (t.new e)

  other_in : (reading : Reading) (before : PartValue) (n check : ℕ) (found : Finding) (part : PartValue) → IsFinding p role code reading check found → IsPartOfOther p role reading before n found part → PartIn n part
  other_in reading before n check (finding.Case case) part is t = new_in reading before n check case part is t
  other_in reading before n check finding.Implied part is e = nothing_in n part e

  check_in : (changes : List Change) (n check : ℕ) (part : PartValue) → IsPartOfCheck p role code changes n check part → PartIn n part
  check_in changes n check part t =
      joined_in n t.both t.second part t.all
      (joined_in n t.own t.first t.both t.both_are (found_in changes n check t.own_is.0 t.own t.own_is.1 t.own_is.2) (other_in First t.own (n + length t.own.scenes) check t.first_is.0 t.first t.first_is.1 t.first_is.2))
      (other_in Second t.both (n + length t.both.scenes) check t.second_is.0 t.second t.second_is.1 t.second_is.2)

  -- ---- openings

  sealed_good : (instruction : ℕ) (case : OpeningCase) → IsOpeningCaseOf p role code instruction case → parsed_at code instruction ≡ None → OpeningMayStand p case → (scene : Scene) → IsSceneOfOpening None case scene → (wrong : Wrong) → IsGood scene wrong
  sealed_good instruction case is sealed stands scene of wrong = record {
    stops = λ event due. told_due scene event due of.due;
    honest = never_honest scene (tree_of case.opened) (ap (option_map tree_of) of.right);
    untold = λ some none. inr (record {
      instruction = instruction;
      case = case;
      is_case = is;
      sealed = sealed;
      is = of;
      comes = sealed_comes p role code g instruction case is None stands scene of;
    });
  }

  ways_in : (n : ℕ) (at : Place) (scene : Scene) (ways : List Wrong) (attempts : List Attempt) → AllByRecursion (IsGood scene) ways → AllZip (IsOpeningAttempt p role n at) ways attempts → AllIn n (scene ∷ []) attempts
  ways_in n at scene [] [] good all = tt
  ways_in n at scene [] (a ∷ rest) good all = absurd all
  ways_in n at scene (w ∷ ws) [] good all = absurd all
  ways_in n at scene (w ∷ ws) (a ∷ rest) good all = (one_in n scene a all.0.scene_is (good_as scene w a.wrong all.0.wrong_is good.0), ways_in n at scene ws rest good.1 all.1)

  each_any : {X : Type 0} (P : X → Type 0) → ((x : X) → P x) → (xs : List X) → AllByRecursion P xs
  each_any P f [] = tt
  each_any P f (x ∷ xs) = (f x, each_any P f xs)

  mapped_any : {X Y : Type 0} (P : Y → Type 0) (f : X → Y) → ((x : X) → P (f x)) → (xs : List X) → AllByRecursion P (map f xs)
  mapped_any P f each [] = tt
  mapped_any P f each (x ∷ xs) = (each x, mapped_any P f each xs)

  ways_good : (all : Bool) (instruction : ℕ) (case : OpeningCase) → IsOpeningCaseOf p role code instruction case → OpeningMayStand p case → (scene : Scene) (parsed : Option ℕ) → parsed_at code instruction ≡ parsed → IsSceneOfOpening parsed case scene
      → AllByRecursion (IsGood scene) (ways_of p all parsed)
  ways_good all instruction case is stands scene None e of = each_any (IsGood scene) (sealed_good instruction case is e stands scene of) (ways_of p all None)
  ways_good all instruction case is stands scene (Some f) e of = by (slice_get p.formats f) where
    by : (o : Option FormatValue) → AllByRecursion (IsGood scene) (option_map_or (λ (x : FormatValue). format_ways all f x.pieces) o [])
    by None = tt
    by (Some x) =
        mapped_any (IsGood scene) (Spoilt f)
        (λ row. record {
          stops = λ event due. parsed_known p role code g instruction f case is e stands scene of row event due;
          honest = never_honest scene (tree_of case.opened) (ap (option_map tree_of) of.right);
          untold = λ some none. told_due scene case.event of.due none;
        })
        (filter (is_tried all x.pieces) (rows_of x.pieces))

  tried_in : (all : Bool) (instruction n : ℕ) (case : OpeningCase) (parsed : Option ℕ) → parsed_at code instruction ≡ parsed → IsOpeningCaseOf p role code instruction case → (tag : Option RetaggingValue) → retagging_at p parsed (tree_of case.opened) ≡ tag
      → (part : PartValue) → IsPartOfTried p role all parsed tag n case part → PartIn n part
  tried_in all instruction n case parsed e is None tag_is part (inl t) =
      part_is n part (t.scene ∷ []) part.attempts t.scenes refl (ways_in n _ t.scene (ways_of p all parsed) part.attempts (ways_good all instruction case is t.stands t.scene parsed e t.is) t.attempts)
  tried_in all instruction n case parsed e is None tag_is part (inr t) = part_is n part [] [] t.1.scenes t.1.attempts tt
  tried_in all instruction n case parsed e is (Some tag) tag_is part (inl t) =
      part_is n part (t.scene ∷ []) (t.attempt ∷ []) t.scenes t.attempts (
        one_in n t.scene t.attempt t.falsely.scene_is (good_as t.scene tag.way t.attempt.wrong t.falsely.wrong_is (record {
          stops = λ event due. tag_known p role code g instruction case is parsed tag tag_is t.stands t.scene t.is event due;
          honest = never_honest t.scene tag.pair t.is.right;
          untold = λ some none. told_due t.scene case.event t.is.due none;
        })),
        tt,
      )
  tried_in all instruction n case parsed e is (Some tag) tag_is part (inr t) = part_is n part [] [] t.1.scenes t.1.attempts tt

  opening_in : (all : Bool) (n instruction : ℕ) (found : OpeningFinding) (part : PartValue) → IsOpeningFinding p role code instruction found → IsPartOfFound p role all (parsed_at code instruction) n found part → PartIn n part
  opening_in all n instruction (opening.Case case) part is t =
      tried_in all instruction n case (parsed_at code instruction) refl is (retagging_at p (parsed_at code instruction) (tree_of case.opened)) refl part t
  opening_in all n instruction (opening.NoCase none) part is gap = part_is n part [] [] gap.scenes gap.attempts tt

  -- ---- all

  point_in : (all : Bool) (n : ℕ) (point : Point) (part : PartValue) → IsPartOfPoint p role code all n point part → PartIn n part
  point_in all n (Check check) part t = check_in (changes_tried all) n check part t
  point_in all n (Opening instruction) part t = opening_in all n instruction t.0 part t.1 t.2

  any_points : (xs : List Point) → AllByRecursion (λ (x : Point). Unit {0}) xs
  any_points [] = tt
  any_points (x ∷ xs) = (tt, any_points xs)

  begun_in : (suite : Suite) → IsBegun p role suite → AllIn 0 suite.scenes.items suite.attempts.items
  begun_in suite b =
      let good : IsGood b.scene b.attempt.wrong = record {
        stops = λ event due. told_due b.scene event due b.narrated.due;
        honest = λ none. b.narrated;
        untold = λ some none. absurd (some (ap (option_map tree_of) b.narrated.right));
      } in
      let one : AllIn 0 (b.scene ∷ []) (b.attempt ∷ []) = (one_in 0 b.scene b.attempt b.honest.scene good, tt) in
      subst (λ l. AllIn 0 l suite.attempts.items) (sym b.scenes) (subst (AllIn 0 (b.scene ∷ [])) (sym b.attempts) one)

  suite_in : (all : Bool) (suite : Suite) → IsSuite p role code all suite → AllIn 0 suite.scenes.items suite.attempts.items
  suite_in all suite s =
      added_in (IsPartOfPoint p role code all) (λ (x : Point). Unit {0}) (λ n point part fine t. point_in all n point part t) s.covers.tried s.begun suite (any_points s.covers.tried) s.covers.added (begun_in s.begun s.begins)

  -- of each attempt of the suite
  pub suite_good : (all : Bool) (suite : Suite) → IsSuite p role code all suite → (i : ℕ) (a : Attempt) (scene : Scene) → slice_get suite.attempts.items i ≡ Some a → slice_get suite.scenes.items a.scene ≡ Some scene → IsGood scene a.wrong
  suite_good all suite s i a scene at there =
      let is = each_got (IsIn 0 suite.scenes.items) suite.attempts.items i a (suite_in all suite s) at in
      let place : is.place ≡ a.scene = (let c = is.counts in omega (arith, c)) in
      let both : Some is.scene ≡ Some scene = sym is.there ∙ ap (slice_get suite.scenes.items) place ∙ there in
      let same : is.scene ≡ scene = cc in
      subst (λ (x : Scene). IsGood x a.wrong) same is.good
