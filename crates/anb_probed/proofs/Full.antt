-- In each scene of a suite as many terms arrive, and are said, as the role's plan hears and says.
use Rattle.std.proofs.Common.{◌≡◌, ◌≢◌, ℕ, ◌+◌, ◌-◌, List, [], ◌∷◌, ◌++◌, length, map, take, drop, Bool, true, false, Option, Some, None, refl, sym, ap, ◌∙◌, subst, inl, inr, ◌⊎◌, arith}
use Rattle.std.specs.Prelude.{slice_get}
use Rattle.std.specs.List.{AllByRecursion, AllZip}
use Rattle.std.proofs.lemmas.List.{length-map}
use Rattle.anb_lemmas.proofs.Each.{each_got, each_in_both}
use Rattle.anb_lemmas.proofs.Numbers.{same_or_not}
use Rattle.anb_term.specs.declared.term.Term.{Term}
use Rattle.anb_term.specs.FreeAlgebra.{terms}
use Rattle.anb_term.specs.Tree.{Tree}
use Rattle.anb_term.specs.View.{tree_of}
use Rattle.anb_algebra.specs.ByteMeaning.{has_operator}
use Rattle.anb_code.specs.CodeValue.{CodeValue}
use Rattle.anb_code.specs.Meaning.{acts_of}
use Rattle.anb_plays.specs.Codes.{works, undo}
use Rattle.anb_plays.specs.Exec.{HasTakes}
use Rattle.anb_plays.specs.Fits.{Follows, start}
use Rattle.anb_plays.specs.Honest.{honest, heard, made}
use Rattle.anb_plays.specs.Plans.{Event, known}
use Rattle.anb_protocol.specs.Plays.{events_of}
use Rattle.anb_protocol.specs.Protocols.{ProtocolValue}
use Rattle.anb_probe.specs.Cases.{for_spare}
use Rattle.anb_openings.specs.Openings.{IsOpeningCaseOf, IsOpeningFinding, parsed_at}
use Rattle.anb_openings.specs.Steps.{begun, writing}
use Rattle.anb_openings.specs.declared.cases.OpeningCase.{OpeningCase}
use Rattle.anb_openings.specs.declared.cases.OpeningFinding.{OpeningFinding}
use Rattle.anb_openings.specs.declared.cases.OpeningFinding.TheVariants as opening
use Rattle.anb_openings.proofs.Stepping.{parted}
use Rattle.anb_partner.specs.Plans.{said}
use Rattle.anb_spoil.specs.declared.changes.Change.{Change}
use Rattle.anb_spoil.specs.declared.changes.Change.TheVariants.{LastByte}
use Rattle.anb_suite.specs.Suites.{IsCaseOf, IsFinding}
use Rattle.anb_suite.specs.declared.reading.Reading.{Reading}
use Rattle.anb_suite.specs.declared.reading.Reading.TheVariants.{Both, First, Second}
use Rattle.anb_suite.specs.declared.cases.Case.{Case}
use Rattle.anb_suite.specs.declared.cases.Finding.{Finding}
use Rattle.anb_suite.specs.declared.cases.Finding.TheVariants as finding
use Rattle.anb_unify.specs.Substitutions.{put_in}
use Rattle.anb_attempts.specs.Attempts.{AreParts, ComesOf, IsBegun, IsJoined, IsPartOf, IsPartOfCase, IsPartOfCheck, IsPartOfFound, IsPartOfNew, IsPartOfOther, IsPartOfPoint, IsPartOfTried, IsSuite, PartValue, changes_tried, is_heard}
use Rattle.anb_attempts.specs.Inner.{AreWithin, InnerValue, IsWithin, few_within, in_place_of}
use Rattle.anb_attempts.specs.Retagging.{RetaggingValue, retagging_at}
use Rattle.anb_attempts.specs.declared.attempts.Scene.{Scene}
use Rattle.anb_attempts.specs.declared.attempts.Suite.{Suite}
use Rattle.anb_attempts.specs.declared.points.Point.{Point}
use Rattle.anb_attempts.specs.declared.points.Point.TheVariants.{Check, Opening}
use Rattle.anb_attempts.proofs.Adding.{scenes_in}
use Rattle.anb_attempts.proofs.Standing.{all_stand}
use Rattle.anb_probed.proofs.Sent.{goes_sending, less_sending, sends_as_said, sends_both, sends_of}

module _ (p : ProtocolValue) (role : ℕ) where
  abbrev plan : List Event
  plan = events_of p role

  -- so many arrive, and are said
  pub record AreAll (arrivals messages : ℕ) : Type 0 where
    pub heard_all : arrivals ≡ length (heard plan)
    pub said_all : messages ≡ length (said plan)

  abbrev pub SceneFull : Scene → Type 0
  SceneFull scene = AreAll (length scene.arrivals.items) (length scene.messages.items)

  abbrev CaseFull : Case → Type 0
  CaseFull case = AreAll (length case.arrivals.items) (length case.messages.items)

  abbrev OpeningFull : OpeningCase → Type 0
  OpeningFull case = AreAll (length case.arrivals.items) (length case.messages.items)

  all_or_not : (arrivals messages : ℕ) → AreAll arrivals messages ⊎ (AreAll arrivals messages → ⊥)
  all_or_not arrivals messages = by (same_or_not arrivals (length (heard plan))) (same_or_not messages (length (said plan))) where
    by : (arrivals ≡ length (heard plan)) ⊎ (arrivals ≢ length (heard plan)) → (messages ≡ length (said plan)) ⊎ (messages ≢ length (said plan)) → AreAll arrivals messages ⊎ (AreAll arrivals messages → ⊥)
    by (inl e) (inl f) = inl (record { heard_all = e; said_all = f })
    by (inl e) (inr f) = inr (λ all. f all.said_all)
    by (inr e) f = inr (λ all. e all.heard_all)

  cases_or_not : (cases : List Case) → AllByRecursion CaseFull cases ⊎ (AllByRecursion CaseFull cases → ⊥)
  cases_or_not [] = inl tt
  cases_or_not (c ∷ cs) = by (all_or_not (length c.arrivals.items) (length c.messages.items)) (cases_or_not cs) where
    by : CaseFull c ⊎ (CaseFull c → ⊥) → AllByRecursion CaseFull cs ⊎ (AllByRecursion CaseFull cs → ⊥) → AllByRecursion CaseFull (c ∷ cs) ⊎ (AllByRecursion CaseFull (c ∷ cs) → ⊥)
    by (inl one) (inl rest) = inl (one, rest)
    by (inl one) (inr never) = inr (λ all. never all.1)
    by (inr never) rest = inr (λ all. never all.0)

  -- as many as these terms
  all_by : (arrivals messages : List Term) (come say : List Tree) → map tree_of arrivals ≡ come → map tree_of messages ≡ say → AreAll (length come) (length say) → AreAll (length arrivals) (length messages)
  all_by arrivals messages come say came sends all = record {
    heard_all = sym (length-map arrivals tree_of) ∙ ap length came ∙ all.heard_all;
    said_all = sym (length-map messages tree_of) ∙ ap length sends ∙ all.said_all;
  }

  module _ (code : CodeValue) (taking : HasTakes (has_operator p.formats) (acts_of code) 0 (length (known (events_of p role)))) (follows : Follows (acts_of code) (events_of p role)) where
    says_all : sends_of (acts_of code) ≡ length (said plan)
    says_all = sends_as_said (acts_of code) plan (start plan) follows

    -- ---- cases

    check_full : (reading : Reading) (check : ℕ) (case : Case) → IsCaseOf p role code reading check case → CaseFull case
    check_full reading check case is = record {
      heard_all = sym (length-map case.arrivals.items tree_of) ∙ sym (length-map (map tree_of case.arrivals.items) (honest terms (for_spare (length p.atoms) (tree_of case.wrong)))) ∙ ap length is.is.narrated;
      said_all = sym (length-map case.messages.items tree_of) ∙ sym (ap length is.messages)
          ∙ less_sending (has_operator p.formats) plan (acts_of code) reading check is.a is.b (map tree_of case.arrivals.items) is.compares taking is.is.goes_on.end ∙ says_all;
    }

    zip_full : (case : Case) → CaseFull case → (inners : List InnerValue) (cases : List Case) → AllZip (IsWithin (length p.atoms) case) inners cases → AllByRecursion CaseFull cases
    zip_full case full [] [] all = tt
    zip_full case full [] (c ∷ cs) all = absurd all
    zip_full case full (i ∷ inners) [] all = absurd all
    zip_full case full (i ∷ inners) (c ∷ cs) all = (
      all_by c.arrivals.items c.messages.items (map (put_in (in_place_of (length p.atoms) i.term)) (map tree_of case.arrivals.items)) (map (put_in (in_place_of (length p.atoms) i.term)) (map tree_of case.messages.items)) all.0.arrivals all.0.messages
          (record {
            heard_all = length-map (map tree_of case.arrivals.items) (put_in (in_place_of (length p.atoms) i.term)) ∙ length-map case.arrivals.items tree_of ∙ full.heard_all;
            said_all = length-map (map tree_of case.messages.items) (put_in (in_place_of (length p.atoms) i.term)) ∙ length-map case.messages.items tree_of ∙ full.said_all;
          }),
      zip_full case full inners cs all.1,
    )

    -- whether the wrong value may stand in a plan needn't be decided
    within_full : (case : Case) → CaseFull case → (cases : List Case) → AreWithin p (length p.atoms) case cases → AllByRecursion CaseFull cases
    within_full case full cases are = by (cases_or_not cases) where
      by : AllByRecursion CaseFull cases ⊎ (AllByRecursion CaseFull cases → ⊥) → AllByRecursion CaseFull cases
      by (inl all) = all
      by (inr never) =
          absurd (never (subst (AllByRecursion CaseFull) (sym (are.none (λ may. never (zip_full case full (few_within (length p.atoms) (tree_of case.wrong)) cases (are.each may))))) tt))

    opening_full : (instruction : ℕ) (case : OpeningCase) → IsOpeningCaseOf p role code instruction case → OpeningFull case
    opening_full instruction case of =
        let is = of.is in
        let here = of.opened.opening in
        let at : instruction - 1 ≡ here.at = (let c = here.counts in omega (arith, c)) in
        let split = parted (acts_of code) here.at (works (undo of.o of.ks of.r)) here.here in
        let front = goes_sending (made plan) (take (instruction - 1) (acts_of code)) (begun (known plan) (map tree_of case.arrivals.items)) is.before is.comes in
        let back = goes_sending (made plan) (drop instruction (acts_of code)) (writing is.parts is.before) is.behind is.goes_on in
        let front_is : sends_of (take (instruction - 1) (acts_of code)) ≡ sends_of (take here.at (acts_of code)) = ap (λ k. sends_of (take k (acts_of code))) at in
        let back_is : sends_of (drop instruction (acts_of code)) ≡ sends_of (drop (here.at + 1) (acts_of code)) = ap (λ k. sends_of (drop k (acts_of code))) here.counts in
        let both = sends_both (take here.at (acts_of code)) (works (undo of.o of.ks of.r) ∷ drop (here.at + 1) (acts_of code)) in
        let whole : sends_of (acts_of code) ≡ sends_of (take here.at (acts_of code) ++ works (undo of.o of.ks of.r) ∷ drop (here.at + 1) (acts_of code)) = ap sends_of split in
        let sent : length is.behind.sent ≡ sends_of (acts_of code) = omega (arith, front, back, front_is, back_is, both, whole) in
        record {
          heard_all = sym (length-map case.arrivals.items tree_of) ∙ sym (length-map (map tree_of case.arrivals.items) (honest terms (for_spare (length p.atoms) (tree_of case.opened)))) ∙ ap length is.narrated;
          said_all = sym (length-map case.messages.items tree_of) ∙ sym (ap length is.messages) ∙ sent ∙ says_all;
        }

    -- ---- parts

    abbrev AllFull : List Scene → Type 0
    AllFull scenes = AllByRecursion SceneFull scenes

    scenes_are : (scenes others : List Scene) → scenes ≡ others → AllFull others → AllFull scenes
    scenes_are scenes others e all = subst AllFull (sym e) all

    nothing_full : (part : PartValue) → part ≡ record { scenes = []; attempts = []; gaps = [] } → AllFull part.scenes
    nothing_full part e = subst (λ (q : PartValue). AllFull q.scenes) (sym e) tt

    joined_full : (first second both : PartValue) → IsJoined first second both → AllFull first.scenes → AllFull second.scenes → AllFull both.scenes
    joined_full first second both j one two = scenes_are both.scenes (first.scenes ++ second.scenes) j.scenes (each_in_both SceneFull first.scenes second.scenes one two)

    -- of what is full
    module _ {X : Type 0} (Is : ℕ → X → PartValue → Type 0) (Fine : X → Type 0) (each : (n : ℕ) (x : X) (part : PartValue) → Fine x → Is n x part → AllFull part.scenes) where
      parts_full : (n : ℕ) (xs : List X) (parts : List PartValue) → AllByRecursion Fine xs → AreParts Is n xs parts → AllFull (scenes_in parts)
      parts_full n [] [] fine are = tt
      parts_full n [] (q ∷ qs) fine are = absurd are
      parts_full n (x ∷ xs) [] fine are = absurd are
      parts_full n (x ∷ xs) (q ∷ qs) fine are = each_in_both SceneFull q.scenes (scenes_in qs) (each n x q fine.0 are.0) (parts_full (n + length q.scenes) xs qs fine.1 are.1)

      comes_full : (n : ℕ) (xs : List X) (part : PartValue) → AllByRecursion Fine xs → ComesOf Is n xs part → AllFull part.scenes
      comes_full n xs part fine c = scenes_are part.scenes (scenes_in c.parts) c.scenes (parts_full n xs c.parts fine c.are)

    same_full : (scene : Scene) (arrivals messages : ℕ) → length scene.arrivals.items ≡ arrivals → length scene.messages.items ≡ messages → AreAll arrivals messages → SceneFull scene
    same_full scene arrivals messages come say all = record { heard_all = come ∙ all.heard_all; said_all = say ∙ all.said_all }

    case_part : (reading : Reading) (changes : List Change) (n : ℕ) (case : Case) (part : PartValue) → CaseFull case → IsPartOfCase p role reading changes n case part → AllFull part.scenes
    case_part reading changes n case part full (inl t) =
        scenes_are part.scenes (t.scene ∷ []) t.scenes
        (same_full t.scene (length case.arrivals.items) (length case.messages.items) (ap (λ v. length v.items) t.is.arrivals) (ap (λ v. length v.items) t.is.messages) full, tt)
    case_part reading changes n case part full (inr t) = scenes_are part.scenes [] t.1.scenes tt

    found_part : (changes : List Change) (n check : ℕ) (found : Finding) (part : PartValue) → IsFinding p role code Both check found → IsPartOf p role changes n found part → AllFull part.scenes
    found_part changes n check (finding.Case case) part is t =
        let full = check_full Both check case is in
        comes_full (IsPartOfCase p role Both changes) CaseFull (λ k c q fine i. case_part Both changes k c q fine i) n (case ∷ t.within) part (full, within_full case full t.within t.are_within) t.comes
    found_part changes n check finding.Implied part is e = nothing_full part e

    new_part : (reading : Reading) (before : PartValue) (n check : ℕ) (case : Case) (part : PartValue) → IsCaseOf p role code reading check case → IsPartOfNew p role reading before n case part → AllFull part.scenes
    new_part reading before n check case part is t = by (is_heard (map tree_of case.arrivals.items) before.scenes) refl where
      by : (b : Bool) → is_heard (map tree_of case.arrivals.items) before.scenes ≡ b → AllFull part.scenes
      by true e = nothing_full part (t.tried e)
      by false e = case_part reading (LastByte ∷ []) n case part (check_full reading check case is) (t.new e)

    other_part : (reading : Reading) (before : PartValue) (n check : ℕ) (found : Finding) (part : PartValue) → IsFinding p role code reading check found → IsPartOfOther p role reading before n found part → AllFull part.scenes
    other_part reading before n check (finding.Case case) part is t = new_part reading before n check case part is t
    other_part reading before n check finding.Implied part is e = nothing_full part e

    check_part : (changes : List Change) (n check : ℕ) (part : PartValue) → IsPartOfCheck p role code changes n check part → AllFull part.scenes
    check_part changes n check part t =
        joined_full t.both t.second part t.all
        (joined_full t.own t.first t.both t.both_are (found_part changes n check t.own_is.0 t.own t.own_is.1 t.own_is.2) (other_part First t.own (n + length t.own.scenes) check t.first_is.0 t.first t.first_is.1 t.first_is.2))
        (other_part Second t.both (n + length t.both.scenes) check t.second_is.0 t.second t.second_is.1 t.second_is.2)

    tried_part : (all : Bool) (parsed : Option ℕ) (instruction n : ℕ) (case : OpeningCase) → OpeningFull case → (tag : Option RetaggingValue) (part : PartValue) → IsPartOfTried p role all parsed tag n case part → AllFull part.scenes
    tried_part all parsed instruction n case full None part (inl t) =
        scenes_are part.scenes (t.scene ∷ []) t.scenes
        (same_full t.scene (length case.arrivals.items) (length case.messages.items) (ap (λ v. length v.items) t.is.arrivals) (ap (λ v. length v.items) t.is.messages) full, tt)
    tried_part all parsed instruction n case full None part (inr t) = scenes_are part.scenes [] t.1.scenes tt
    tried_part all parsed instruction n case full (Some tag) part (inl t) =
        scenes_are part.scenes (t.scene ∷ []) t.scenes
        (same_full t.scene (length case.arrivals.items) (length case.messages.items) (ap (λ v. length v.items) t.is.arrivals) (ap (λ v. length v.items) t.is.messages) full, tt)
    tried_part all parsed instruction n case full (Some tag) part (inr t) = scenes_are part.scenes [] t.1.scenes tt

    opening_part : (all : Bool) (n instruction : ℕ) (found : OpeningFinding) (part : PartValue) → IsOpeningFinding p role code instruction found → IsPartOfFound p role all (parsed_at code instruction) n found part → AllFull part.scenes
    opening_part all n instruction (opening.Case case) part is t =
        tried_part all (parsed_at code instruction) instruction n case (opening_full instruction case is) (retagging_at p (parsed_at code instruction) (tree_of case.opened)) part t
    opening_part all n instruction (opening.NoCase none) part is gap = scenes_are part.scenes [] gap.scenes tt

    -- ---- all

    point_part : (all : Bool) (n : ℕ) (point : Point) (part : PartValue) → IsPartOfPoint p role code all n point part → AllFull part.scenes
    point_part all n (Check check) part t = check_part (changes_tried all) n check part t
    point_part all n (Opening instruction) part t = opening_part all n instruction t.0 part t.1 t.2

    begun_full : (suite : Suite) → IsBegun p role suite → AllFull suite.scenes.items
    begun_full suite b =
        scenes_are suite.scenes.items (b.scene ∷ []) b.scenes
        (all_by b.scene.arrivals.items b.scene.messages.items (heard plan) (said plan) b.narrated.arrivals b.narrated.messages (record { heard_all = refl; said_all = refl }), tt)

    -- each scene of the suite is so
    pub suite_full : (all : Bool) (suite : Suite) → IsSuite p role code all suite → (i : ℕ) (scene : Scene) → slice_get suite.scenes.items i ≡ Some scene → SceneFull scene
    suite_full all suite s i scene at =
        each_got SceneFull suite.scenes.items i scene
        (all_stand (IsPartOfPoint p role code all) SceneFull (point_part all) s.covers.tried s.begun suite s.covers.added (begun_full s.begun s.begins)) at
