-- The case of a check: the role stops there, whatever the wrong value is, if it isn't the right one.
use Rattle.std.proofs.Common.{◌≡◌, ◌≢◌, ℕ, ◌+◌, List, [], ◌∷◌, ◌++◌, length, map, take, Bool, true, false, cond, Some, refl, sym, ap, ◌∙◌, subst, arith}
use Rattle.std.specs.Prelude.{slice_get, count_by, ◌==◌, ◌||◌}
use Rattle.std.specs.List.{AllByRecursion, list_any}
use Rattle.std.specs.Option.{option_map}
use Rattle.std.proofs.lemmas.Bool.{eqb-true}
use Rattle.anb_lemmas.proofs.Items.{bytes_differ}
use Rattle.anb_base.specs.Bytes.{IsBytes, IsBytes-pass}
use Rattle.anb_term.specs.FreeAlgebra.{terms, terms_over}
use Rattle.anb_term.specs.Lawful.{Lawful}
use Rattle.anb_term.specs.Tree.{Tree, leaf, node, Trees, none, more, trees_of, AreFormed}
use Rattle.anb_term.specs.Value.{Meaning, label, value}
use Rattle.anb_term.specs.View.{tree_of}
use Rattle.anb_term.proofs.Demands.{agree_holds_all}
use Rattle.anb_algebra.specs.ByteMeaning.{has_operator}
use Rattle.anb_algebra.specs.ByteLawful.{bytes_are_lawful}
use Rattle.anb_code.specs.CodeValue.{CodeValue}
use Rattle.anb_code.specs.Meaning.{acts_of}
use Rattle.anb_plays.specs.Codes.{Act, takes, draws, receives, sends, works, at_register, writes}
use Rattle.anb_plays.specs.Fits.{Place, Along, AnySend, AnyBorder, IsSound, after_take, after_label, after_work, start}
use Rattle.anb_plays.specs.Honest.{honest, honest_all, heard, made}
use Rattle.anb_plays.specs.Plans.{Event, know, fresh, send, recv, known}
use Rattle.anb_plays.specs.Plays.{stopped, done, ends}
use Rattle.anb_plays.specs.Runs.{run, run_from}
use Rattle.anb_plays.specs.Statements.{HonestAgree}
use Rattle.anb_plays.proofs.Honest.{honest_agree}
use Rattle.anb_protocol.specs.Plans.{occurs}
use Rattle.anb_protocol.specs.Plays.{events_of, meaning_of}
use Rattle.anb_protocol.specs.Protocols.{ProtocolValue}
use Rattle.anb_protocol.specs.Texts.{IsTermOf, AreTermsOf, atoms_in, atoms_in_all, atoms_in_each}
use Rattle.anb_protocol.proofs.Afters.{any-append}
use Rattle.anb_probe.specs.Cases.{drawn, for_spare, run_in_terms}
use Rattle.anb_probe.specs.Laws.{AreValuesOf, StopsThere, run_over}
use Rattle.anb_probe.proofs.Dropping.{end_said}
use Rattle.anb_probe.proofs.Following.{stops_there}
use Rattle.anb_probe.proofs.InPlace.{differs_in_place}
use Rattle.anb_spoil.specs.Wrongs.{wrong_by}
use Rattle.anb_spoil.specs.declared.changes.Change.{Change}
use Rattle.anb_spoil.specs.declared.wrongs.Wrong.TheVariants.{Changed}
use Rattle.anb_spoil.proofs.Changing.{changes_differ}
use Rattle.anb_suite.specs.Suites.{IsCaseOf, case_value}
use Rattle.anb_suite.specs.Reading.{OneForOtherDiffers, OneForOtherStops}
use Rattle.anb_suite.specs.declared.cases.Case.{Case}
use Rattle.anb_suite.specs.declared.reading.Reading.{Reading}
use Rattle.anb_suite.proofs.Behind.{one_differs, one_stops}
use Rattle.anb_suite.proofs.Messages.{exchanges, stops_behind}
use Rattle.anb_unify.proofs.Putting.{put_itself}
use Rattle.anb_partner.specs.Plans.{MayStand, Script, has_atom, script_of}
use Rattle.anb_attempts.specs.Attempts.{CaseMayStand, IsSceneOf, SidesDiffer, script_in}
use Rattle.anb_attempts.specs.declared.attempts.Scene.{Scene}
use Rattle.anb_tries.proofs.Refusing.{EachFrom, from_all, from_first, from_rest}
use Rattle.anb_dues.proofs.Comparing.{Reaches, below, less_sends, run_reaches}
use Rattle.anb_dues.proofs.Firsts.{Text}
use Rattle.anb_dues.proofs.Naming.{both_ways, or_either, same_in, term_atoms}
use Rattle.anb_dues.proofs.Replacing.{check_says}
use Rattle.anb_dues.proofs.Stopping.{Changes, ComesTo, Grounds, SaysAlong, Stops}

-- ---- terms that may stand in a plan are over the formats

pub stand_formed : (p : ProtocolValue) (ts : List Tree) → AllByRecursion (MayStand p) ts → AreFormed (has_operator p.formats) (trees_of ts)
stand_formed p [] all = tt
stand_formed p (t ∷ ts) all = (all.0.formed, stand_formed p ts all.1)

-- ---- a code never stops over the narrated arrivals

module _ (m : Meaning Text) (draw : ℕ → Tree) where
  abbrev Sound : List Act → List Event → Place → Type 0
  Sound acts es s = Along AnySend (IsSound m) AnyBorder acts es s

  abbrev Drawn : ℕ → Tree → Type 0
  Drawn i t = draw i ≡ t

  abbrev AreDrawn : ℕ → List Event → Type 0
  AreDrawn i es = EachFrom Drawn i (made es)

  narrated_ends : (acts : List Act) (es : List Event) (s : Place) (e at i : ℕ) → Sound acts es s → AreDrawn i es → (run_from (terms_over m.has) draw acts s.regs s.frame e at i (heard es)).end ≡ done
  narrated_ends [] [] s e at i sound are = refl
  narrated_ends [] (x ∷ es) s e at i sound are = absurd sound
  narrated_ends (works w ∷ acts) es s e at i sound are =
      ap (λ b. (cond b (run_from (terms_over m.has) draw acts (s.regs ++ writes s.regs w) s.frame e (at + 1) i (heard es)) (ends (stopped e (at + 1)) (heard es))).end) sound.0
      ∙ narrated_ends acts es (after_work s w) e (at + 1) i sound.1 are
  narrated_ends (takes ∷ acts) (know t ∷ es) s e at i sound are = narrated_ends acts es (after_take s) e (at + 1) i sound are
  narrated_ends (draws ∷ acts) (fresh t ∷ es) s e at i sound are =
      ap (λ x. (run_from (terms_over m.has) draw acts (s.regs ++ label (length s.frame) ∷ []) (s.frame ++ x ∷ []) e (at + 1) (i + 1) (heard es)).end) (from_first Drawn i t (made es) are)
      ∙ narrated_ends acts es (after_label s t) e (at + 1) (i + 1) sound (from_rest Drawn i t (made es) are)
  narrated_ends (receives ∷ acts) (recv t ∷ es) s e at i sound are = narrated_ends acts es (after_label s t) (e + 1) (at + 1) i sound.1 are
  narrated_ends (sends r ∷ acts) (send t ∷ es) s e at i sound are =
      end_said (value (terms_over m.has) s.frame (at_register s.regs r)) (run_from (terms_over m.has) draw acts s.regs s.frame (e + 1) (at + 1) i (heard es))
      ∙ narrated_ends acts es s (e + 1) (at + 1) i sound.2 are
  narrated_ends (takes ∷ acts) [] s e at i sound are = absurd sound
  narrated_ends (takes ∷ acts) (fresh t ∷ es) s e at i sound are = absurd sound
  narrated_ends (takes ∷ acts) (send t ∷ es) s e at i sound are = absurd sound
  narrated_ends (takes ∷ acts) (recv t ∷ es) s e at i sound are = absurd sound
  narrated_ends (draws ∷ acts) [] s e at i sound are = absurd sound
  narrated_ends (draws ∷ acts) (know t ∷ es) s e at i sound are = absurd sound
  narrated_ends (draws ∷ acts) (send t ∷ es) s e at i sound are = absurd sound
  narrated_ends (draws ∷ acts) (recv t ∷ es) s e at i sound are = absurd sound
  narrated_ends (receives ∷ acts) [] s e at i sound are = absurd sound
  narrated_ends (receives ∷ acts) (know t ∷ es) s e at i sound are = absurd sound
  narrated_ends (receives ∷ acts) (fresh t ∷ es) s e at i sound are = absurd sound
  narrated_ends (receives ∷ acts) (send t ∷ es) s e at i sound are = absurd sound
  narrated_ends (sends r ∷ acts) [] s e at i sound are = absurd sound
  narrated_ends (sends r ∷ acts) (know t ∷ es) s e at i sound are = absurd sound
  narrated_ends (sends r ∷ acts) (fresh t ∷ es) s e at i sound are = absurd sound
  narrated_ends (sends r ∷ acts) (recv t ∷ es) s e at i sound are = absurd sound

-- ---- what the spare name stands in place of is a term of the narration

module _ (p : ProtocolValue) (w : Tree) where
  abbrev spare : ℕ
  spare = length p.atoms

  abbrev back : Tree → Tree
  back t = honest terms (for_spare spare w) t

  leaf_ours : (n : ℕ) (b : Bool) → (n == spare) ≡ b → (b || false) ≡ true → IsTermOf p (cond b w (leaf n)) → IsTermOf p w
  leaf_ours n true e has ours = ours
  leaf_ours n false e has ours = absurd (cc)

  mutual
    -- where the spare name is in a term that was put back
    spare_ours : (t : Tree) → has_atom spare t ≡ true → IsTermOf p (back t) → IsTermOf p w
    spare_ours (leaf n) has ours = leaf_ours n (n == spare) refl has ours
    spare_ours (node o ts) has ours = spare_ours_all ts has ours.2

    spare_ours_all : (ts : Trees) → list_any (λ b. b == spare) (atoms_in_all ts) ≡ true → AreTermsOf p (trees_of (honest_all terms (for_spare spare w) ts)) → IsTermOf p w
    spare_ours_all none has ours = absurd (cc)
    spare_ours_all (more t ts) has ours =
        or_either (list_any (λ b. b == spare) (atoms_in t)) (list_any (λ b. b == spare) (atoms_in_all ts)) (λ e. spare_ours t e ours.0) (λ e. spare_ours_all ts e ours.1)
        (sym (any-append (λ b. b == spare) (atoms_in t) (atoms_in_all ts)) ∙ has)

  each_ours : (ts : List Tree) → occurs ts spare ≡ true → AllByRecursion (IsTermOf p) (map back ts) → IsTermOf p w
  each_ours [] has ours = absurd (cc)
  each_ours (t ∷ ts) has ours =
      or_either (list_any (λ b. b == spare) (atoms_in t)) (occurs ts spare) (λ e. spare_ours t e ours.0) (λ e. each_ours ts e ours.1) (sym (any-append (λ b. b == spare) (atoms_in t) (atoms_in_each ts)) ∙ has)

  back_name : (n : ℕ) (b : Bool) → (n == spare) ≡ b → b ≡ false → cond b w (leaf n) ≡ leaf n
  back_name n true e never = absurd (cc)
  back_name n false e never = refl

  kept : (t : Tree) → has_atom spare t ≡ false → back t ≡ t
  kept t lacks =
      same_in terms (for_spare spare w) leaf t (λ n has. back_name n (n == spare) refl (other n has (n == spare) refl)) ∙ put_itself t where
        other : (n : ℕ) → has_atom n t ≡ true → (b : Bool) → (n == spare) ≡ b → b ≡ false
        other n has true e = both_ways (has_atom spare t) (subst (λ k. has_atom k t ≡ true) (eqb-true n spare e) has) lacks
        other n has false e = refl

  each_kept : (ts : List Tree) → occurs ts spare ≡ false → map back ts ≡ ts
  each_kept [] lacks = refl
  each_kept (t ∷ ts) lacks =
      let parts = both_false (list_any (λ b. b == spare) (atoms_in t)) (occurs ts spare) (sym (any-append (λ b. b == spare) (atoms_in t) (atoms_in_each ts)) ∙ lacks) in
      ap (λ x. x ∷ map back ts) (kept t parts.0) ∙ ap (λ l. t ∷ l) (each_kept ts parts.1) where
        both_false : (b c : Bool) → (b || c) ≡ false → (b ≡ false) × (c ≡ false)
        both_false true c e = absurd (cc)
        both_false false c e = (refl, e)

-- ---- a check's case

-- a value that isn't this one
abbrev pub other_than : Text → Text
other_than [] = 0 ∷ []
other_than (x ∷ xs) = []

pub other_bytes : (x : Text) → IsBytes (other_than x)
other_bytes [] = IsBytes-pass (0 ∷ []) refl
other_bytes (x ∷ xs) = IsBytes-pass [] refl

pub other_differs : (x : Text) → other_than x ≢ x
other_differs [] = λ e. cc
other_differs (x ∷ xs) = λ e. cc

module _ (p : ProtocolValue) (role : ℕ) (code : CodeValue) (g : Grounds p role (acts_of code)) where
  abbrev m : Meaning Text
  m = meaning_of p

  abbrev plan : List Event
  plan = events_of p role

  abbrev acts : List Act
  acts = acts_of code

  abbrev names : ℕ
  names = length p.atoms

  lawful : Lawful m
  lawful = bytes_are_lawful p.formats p.suite

  agrees : HonestAgree m
  agrees = honest_agree m lawful

  pub stops_law : StopsThere m
  stops_law = stops_there m agrees (agree_holds_all m lawful)

  in_place : OneForOtherDiffers m
  in_place = one_differs m (differs_in_place m lawful agrees stops_law)

  pub sides_law : OneForOtherStops m
  sides_law = one_stops m stops_law

  -- runs that stop at one instruction stop at one event
  pub one_event : {A B : Type 0} (n : Meaning A) (k : Meaning B) (draw : ℕ → A) (draw2 : ℕ → B) (init arrivals : List A) (init2 arrivals2 : List B) (event event2 check : ℕ)
      → (run n draw acts init arrivals).end ≡ stopped event check → (run k draw2 acts init2 arrivals2).end ≡ stopped event2 check → event ≡ event2
  one_event n k draw draw2 init arrivals init2 arrivals2 event event2 check one two =
      let a = stops_behind n draw acts [] init 0 0 0 arrivals event check one in
      let b = stops_behind k draw2 acts [] init2 0 0 0 arrivals2 event2 check two in
      let ca = a.counts in
      let cb = b.counts in
      let same : a.before ≡ b.before = omega (arith, ca, cb) in
      a.done ∙ ap (λ j. 0 + count_by exchanges (take j acts)) same ∙ sym b.done

  module _ (reading : Reading) (check : ℕ) (case : Case) (is : IsCaseOf p role code reading check case) where
    abbrev came : List Tree
    came = map tree_of case.arrivals.items

    abbrev w : Tree
    w = tree_of case.wrong

    pub reaches : Reaches (has_operator p.formats) plan acts came case.event check
    reaches = run_reaches (has_operator p.formats) plan acts came case.event check g.taking g.fits.order is.event

    pub says : (more : List Tree) × (map tree_of case.messages.items ≡ reaches.before.sent ++ more)
    says =
        less_sends (has_operator p.formats) plan acts reading check is.a is.b reaches.count came (map tree_of case.messages.items) reaches.before is.compares g.taking reaches.counts reaches.comes is.messages

    -- what is made wrong is a term of the narration
    pub wrong_ours : IsTermOf p w
    wrong_ours = by (occurs came names) refl where
      by : (b : Bool) → occurs came names ≡ b → IsTermOf p w
      by true e = each_ours p w came e (subst (AllByRecursion (IsTermOf p)) (sym is.is.narrated) (g.ours.hears role))
      by false e =
          let same : came ≡ heard plan = sym (each_kept p w came e) ∙ is.is.narrated in
          let are = from_all (λ i t. drawn plan i ≡ t) (made plan) drawn_at in
          let over = narrated_ends m (drawn plan) acts plan (start plan) 0 0 0 g.fits.sound are in
          let stop : (run_in_terms (has_operator p.formats) plan acts (heard plan)).end ≡ stopped case.event check = subst (λ l. (run_in_terms (has_operator p.formats) plan acts l).end ≡ stopped case.event check) same is.event in
          absurd (let never : done ≡ stopped case.event check = sym over ∙ stop in cc) where
            drawn_at : (k : ℕ) (t : Tree) → slice_get (made plan) k ≡ Some t → drawn plan k ≡ t
            drawn_at k t at = rw at refl

    pub check_changes : CaseMayStand p case → Changes (script_of p role (map tree_of case.arrivals.items) (map tree_of case.messages.items) (Some (tree_of case.wrong)))
    check_changes stands = record {
      right = w;
      right_is = refl;
      arrivals_formed = stand_formed p came stands.arrivals;
      messages_formed = stand_formed p (map tree_of case.messages.items) stands.messages;
    }

    pub check_comes : ComesTo (script_of p role (map tree_of case.arrivals.items) (map tree_of case.messages.items) (Some (tree_of case.wrong))) acts case.event
    check_comes = record { count = reaches.count; before = reaches.before; comes = reaches.comes; at = reaches.event; more = says.0; says = says.1 }

    module _ (differ : SidesDiffer names case) where
      -- where the wrong value isn't the right one the code stops
      stops_if : (atoms draw : ℕ → Text) → AreValuesOf m plan atoms draw → atoms names ≢ honest m atoms w → (place : ℕ) × ((run_over m atoms draw plan acts came).end ≡ stopped case.event place)
      stops_if atoms draw values apart =
          let at = in_place names plan acts reading check is.a is.b (case_value case) differ.0 atoms draw is.is g.fits.order g.formed values differ.1 (bytes_differ (atoms names) (honest m atoms w) apart) in
          let same = one_event m (terms_over (has_operator p.formats)) draw (drawn plan) (map (honest m atoms) (known plan)) (map (honest m atoms) came) (known plan) came at.0 case.event check at.1 is.event in
          (check, at.1 ∙ ap (λ e. stopped e check) same)

      pub check_stops : (change : Change) → CaseMayStand p case → Stops (script_of p role came (map tree_of case.messages.items) (Some w)) acts (wrong_by p.formats (Changed change)) case.event
      unfolding check_changes
      check_stops change stands = record {
        changes = check_changes stands;
        comes_to = check_comes;
        wrong = λ atoms draw values made_wrong. stops_if atoms draw values (changes_differ change (honest m atoms w) (atoms names) made_wrong);
        shut = λ atoms bytes. (
          other_than (honest m atoms w),
          other_bytes (honest m atoms w),
          λ others draw values same is_other. stops_if others draw values
              (λ e. other_differs (honest m atoms w)
              (sym is_other ∙ e ∙ same_in m others atoms w (λ n has. same n (below n names (term_atoms p w wrong_ours n has))))),
        );
      }

-- ---- its scene

module _ (p : ProtocolValue) (role : ℕ) where
  -- what holds of the script of these holds of that of a scene that has them
  pub in_scene : (P : Script → Type 0) (scene : Scene) (arrivals messages : List Tree) (right : Tree) → map tree_of scene.arrivals.items ≡ arrivals → map tree_of scene.messages.items ≡ messages → option_map tree_of scene.right ≡ Some right
      → P (script_of p role arrivals messages (Some right)) → P (script_in p role scene)
  in_scene P scene arrivals messages right is_came is_said is_right here =
      let one = subst (λ l. P (script_of p role l messages (Some right))) (sym is_came) here in
      let two = subst (λ l. P (script_of p role (map tree_of scene.arrivals.items) l (Some right))) (sym is_said) one in
      subst (λ o. P (script_of p role (map tree_of scene.arrivals.items) (map tree_of scene.messages.items) o)) (sym is_right) two

  -- in that of a case
  pub in_case : (P : Script → Type 0) (names : ℕ) (case : Case) (scene : Scene) → IsSceneOf names case scene
      → P (script_of p role (map tree_of case.arrivals.items) (map tree_of case.messages.items) (Some (tree_of case.wrong))) → P (script_in p role scene)
  in_case P names case scene of here =
      in_scene P scene (map tree_of case.arrivals.items) (map tree_of case.messages.items) (tree_of case.wrong)
      (ap (λ v. map tree_of v.items) of.arrivals) (ap (λ v. map tree_of v.items) of.messages) (ap (option_map tree_of) of.right) here

-- a value is made wrong in a script, and the code says no messages but the script's
abbrev pub GoesAlong : List Act → Script → Type 0
GoesAlong acts s = Changes s × SaysAlong s acts

module _ (p : ProtocolValue) (role : ℕ) (code : CodeValue) (g : Grounds p role (acts_of code)) (reading : Reading) (check : ℕ) (case : Case) (is : IsCaseOf p role code reading check case) (scene : Scene) (stands : CaseMayStand p case)
    (of : IsSceneOf (length p.atoms) case scene) where
  -- there the role stops where that is known
  pub check_known : (change : Change) (event : ℕ) → scene.due ≡ Some event → Stops (script_in p role scene) (acts_of code) (wrong_by p.formats (Changed change)) event
  check_known change event due =
      let known = of.due.known event due in
      let st = check_stops p role code g reading check case is known.1 change stands in
      subst (λ e. Stops (script_in p role scene) (acts_of code) (wrong_by p.formats (Changed change)) e) (sym known.0)
      (in_case p role (λ s. Stops s (acts_of code) (wrong_by p.formats (Changed change)) case.event) (length p.atoms) case scene of st)

  -- and says no other messages
  pub check_along : GoesAlong (acts_of code) (script_in p role scene)
  check_along =
      in_case p role (GoesAlong (acts_of code)) (length p.atoms) case scene of (check_changes p role code g reading check case is stands, λ atoms draw values. check_says p role code g reading check case is atoms draw values)
