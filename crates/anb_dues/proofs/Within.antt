-- The case of a check with the spare name at an inner place: the role stops at that check too.
use Rattle.std.proofs.Common.{◌≡◌, ◌≢◌, ℕ, zero, suc, ◌+◌, ◌<◌, ◌≤◌, List, [], ◌∷◌, ◌++◌, length, map, take, Bool, true, false, cond, Some, IsTrue, refl, sym, ap, ◌∙◌, subst, inl, inr, ◌⊎◌, arith}
use Rattle.std.specs.Prelude.{slice_get, nat_le, ◌==◌, if◌then◌else◌}
use Rattle.std.specs.List.{AllByRecursion}
use Rattle.std.proofs.lemmas.List.{length-map}
use Rattle.anb_lemmas.proofs.Each.{each_by, each_got, each_in_both, each_of_map}
use Rattle.anb_lemmas.proofs.Items.{bytes_differ}
use Rattle.anb_lemmas.proofs.Numbers.{below_or_not}
use Rattle.anb_base.specs.declared.TheConstants.{ARRIVAL, WIDE}
use Rattle.anb_term.specs.declared.term.Op.{Op}
use Rattle.anb_term.specs.FreeAlgebra.{terms, terms_over}
use Rattle.anb_term.specs.FreeLawful.{free_lawful}
use Rattle.anb_term.specs.Lawful.{Lawful}
use Rattle.anb_term.specs.Operator.{arity, keys, undoable}
use Rattle.anb_term.specs.Tree.{Tree, Trees, leaf, node, none, more, trees_of, list_of, tree_size, IsFormed, AreFormed}
use Rattle.anb_term.specs.TreeSame.{list_of-trees_of}
use Rattle.anb_term.specs.Value.{Meaning}
use Rattle.anb_term.specs.View.{tree_of}
use Rattle.anb_term.proofs.Lists.{map-append}
use Rattle.anb_algebra.specs.ByteMeaning.{has_operator}
use Rattle.anb_algebra.specs.ByteLawful.{bytes_are_lawful}
use Rattle.anb_code.specs.CodeValue.{CodeValue}
use Rattle.anb_code.specs.Meaning.{acts_of}
use Rattle.anb_plays.specs.Codes.{Act, takes, draws, receives, sends, works}
use Rattle.anb_plays.specs.Exec.{count_written, IsVerified}
use Rattle.anb_plays.specs.Honest.{honest, honest_all, made}
use Rattle.anb_plays.specs.Plans.{Event, known}
use Rattle.anb_plays.specs.Plays.{Played, stopped}
use Rattle.anb_plays.specs.Runs.{run}
use Rattle.anb_plays.specs.Statements.{HonestAgree}
use Rattle.anb_plays.proofs.Exec.{takes_ready}
use Rattle.anb_plays.proofs.Honest.{honest_agree, is_value}
use Rattle.anb_compile.proofs.Protocols.{all_known}
use Rattle.anb_protocol.specs.Plays.{events_of, meaning_of}
use Rattle.anb_protocol.specs.Protocols.{ProtocolValue}
use Rattle.anb_protocol.specs.Texts.{IsTermOf, AreTermsOf}
use Rattle.anb_protocol.specs.Widths.{fits_width}
use Rattle.anb_protocol.proofs.KnowLemmas.{formed, formed_list}
use Rattle.anb_probe.specs.Cases.{drawn}
use Rattle.anb_probe.specs.Laws.{AreValuesOf, run_over}
use Rattle.anb_probe.proofs.InPlace.{apart, not_same}
use Rattle.anb_spoil.specs.Wrongs.{wrong_by}
use Rattle.anb_spoil.specs.declared.changes.Change.{Change}
use Rattle.anb_spoil.specs.declared.wrongs.Wrong.TheVariants.{Changed}
use Rattle.anb_spoil.proofs.Changing.{changes_differ}
use Rattle.anb_openings.specs.Steps.{Progress, begun, after_all}
use Rattle.anb_openings.proofs.Readying.{ready_before}
use Rattle.anb_openings.proofs.Spared.{all_formed_any}
use Rattle.anb_openings.proofs.Valued.{all_went, seen}
use Rattle.anb_suite.specs.Suites.{IsCaseOf, case_value}
use Rattle.anb_suite.specs.declared.cases.Case.{Case}
use Rattle.anb_suite.specs.declared.reading.Reading.TheVariants.{Both}
use Rattle.anb_unify.specs.Substitutions.{put_in}
use Rattle.anb_unify.proofs.Putting.{put_all, put_itself}
use Rattle.anb_partner.specs.Plans.{MayStand, script_of}
use Rattle.anb_attempts.specs.Attempts.{CaseMayStand, IsSceneOf, SidesDiffer, script_in}
use Rattle.anb_attempts.specs.Inner.{InnerOperandsValue, InnerValue, IsWithin, few_within, in_place_of, inner_before, inner_behind, inner_from, inner_node, inner_of, inner_within}
use Rattle.anb_attempts.specs.declared.attempts.Scene.{Scene}
use Rattle.anb_tries.proofs.Narrated.{role_known}
use Rattle.anb_dues.proofs.Checks.{GoesAlong, in_case, one_event, other_bytes, other_differs, other_than, reaches, says, sides_law, stand_formed}
use Rattle.anb_dues.proofs.Comparing.{any_ready, below}
use Rattle.anb_dues.proofs.Firsts.{Are, Text, are_mapped}
use Rattle.anb_dues.proofs.Naming.{same_in, term_atoms}
use Rattle.anb_dues.proofs.Replacing.{check_says}
use Rattle.anb_dues.proofs.Stopping.{Changes, ComesTo, Grounds, SaysAlong, Stops}

-- ---- terms put in the places of atoms

module _ {A : Type 0} (m : Meaning A) (atoms : ℕ → A) (put : ℕ → Tree) where
  mutual
    honest_put : (t : Tree) → honest m atoms (put_in put t) ≡ honest m (λ n. honest m atoms (put n)) t
    honest_put (leaf n) = refl
    honest_put (node o ts) = ap (m.built o) (honest_put_all ts)

    honest_put_all : (ts : Trees) → honest_all m atoms (trees_of (honest_all terms put ts)) ≡ honest_all m (λ n. honest m atoms (put n)) ts
    honest_put_all none = refl
    honest_put_all (more t ts) =
        ap (λ x. x ∷ honest_all m atoms (trees_of (honest_all terms put ts))) (honest_put t) ∙ ap (λ l. honest m (λ n. honest m atoms (put n)) t ∷ l) (honest_put_all ts)

  honest_each : (ts : List Tree) → map (honest m (λ n. honest m atoms (put n))) ts ≡ map (honest m atoms) (map (put_in put) ts)
  honest_each [] = refl
  honest_each (t ∷ ts) =
      ap (λ x. x ∷ map (honest m (λ n. honest m atoms (put n))) ts) (sym (honest_put t)) ∙ ap (λ l. honest m atoms (put_in put t) ∷ l) (honest_each ts)

module _ (has : Op → Bool) (put : ℕ → Tree) (puts : (n : ℕ) → IsFormed has (put n)) where
  mutual
    formed_put : (t : Tree) → IsFormed has t → IsFormed has (put_in put t)
    formed_put (leaf n) f = puts n
    formed_put (node o ts) f =
        (f.0, ap length (list_of-trees_of (honest_all terms put ts)) ∙ ap length (put_all put ts) ∙ length-map (list_of ts) (put_in put) ∙ f.1, formed_put_all ts f.2)

    formed_put_all : (ts : Trees) → AreFormed has ts → AreFormed has (trees_of (honest_all terms put ts))
    formed_put_all none f = tt
    formed_put_all (more t ts) f = (formed_put t f.0, formed_put_all ts f.1)

-- ---- inner places

-- the term is over the formats, and the part is one of the narration
pub record IsFine (p : ProtocolValue) (inner : InnerValue) : Type 0 where
  pub term : IsFormed (has_operator p.formats) inner.term
  pub part : IsTermOf p inner.part

record AreFine (p : ProtocolValue) (n : ℕ) (list : InnerOperandsValue) : Type 0 where
  operands : AreFormed (has_operator p.formats) list.operands
  count : length (list_of list.operands) ≡ n
  part : IsTermOf p list.part

terms_formed : (p : ProtocolValue) (ts : Trees) → AreTermsOf p ts → AreFormed (has_operator p.formats) ts
terms_formed p none ours = tt
terms_formed p (more t ts) ours = (formed p t ours.0, terms_formed p ts ours.1)

module _ (p : ProtocolValue) (spare : ℕ) where
  node_fine : (o : Op) (n : ℕ) → IsTrue (has_operator p.formats o) → n ≡ arity o → (list : InnerOperandsValue) → AreFine p n list → IsFine p (inner_node o list)
  node_fine o n has e list f = record { term = (has, f.count ∙ e, f.operands); part = f.part }

  before_fine : (ts : Trees) → AreTermsOf p ts → (inner : InnerValue) → IsFine p inner → AreFine p (suc (length (list_of ts))) (inner_before ts inner)
  before_fine ts ours inner f = record { operands = (f.term, terms_formed p ts ours); count = refl; part = f.part }

  behind_fine : (t : Tree) (n : ℕ) → IsTermOf p t → (list : InnerOperandsValue) → AreFine p n list → AreFine p (suc n) (inner_behind t list)
  behind_fine t n ours list f = record { operands = (formed p t ours, f.operands); count = ap suc f.count; part = f.part }

  nodes_fine : (o : Op) (ts : Trees) → IsTermOf p (node o ts) → AllByRecursion (AreFine p (length (list_of ts))) (inner_from spare (keys o) ts) → AllByRecursion (IsFine p) (map (inner_node o) (inner_from spare (keys o) ts))
  nodes_fine o ts ours all =
      each_of_map (IsFine p) (inner_node o) (inner_from spare (keys o) ts)
      (each_by (AreFine p (length (list_of ts))) (λ list. IsFine p (inner_node o list)) (node_fine o (length (list_of ts)) ours.0 ours.1) (inner_from spare (keys o) ts) all)

  behind_all : (t : Tree) (ts : Trees) (k : ℕ) → IsTermOf p t → AllByRecursion (AreFine p (length (list_of ts))) (inner_from spare k ts) → AllByRecursion (AreFine p (suc (length (list_of ts)))) (map (inner_behind t) (inner_from spare k ts))
  behind_all t ts k ours all =
      each_of_map (AreFine p (suc (length (list_of ts)))) (inner_behind t) (inner_from spare k ts)
      (each_by (AreFine p (length (list_of ts))) (λ list. AreFine p (suc (length (list_of ts))) (inner_behind t list)) (behind_fine t (length (list_of ts)) ours) (inner_from spare k ts) all)

  before_all : (t : Tree) (ts : Trees) → AreTermsOf p ts → AllByRecursion (IsFine p) (inner_of spare t) → AllByRecursion (AreFine p (suc (length (list_of ts)))) (map (inner_before ts) (inner_of spare t))
  before_all t ts ours all =
      each_of_map (AreFine p (suc (length (list_of ts)))) (inner_before ts) (inner_of spare t)
      (each_by (IsFine p) (λ inner. AreFine p (suc (length (list_of ts))) (inner_before ts inner)) (before_fine ts ours) (inner_of spare t) all)

  mutual
    inner_fine : (t : Tree) → IsTermOf p t → AllByRecursion (IsFine p) (inner_of spare t)
    inner_fine (leaf n) ours = (record { term = tt; part = ours }, tt)
    inner_fine (node o ts) ours = by (undoable o) (nodes_fine o ts ours (from_fine (keys o) ts ours.2)) where
      by : (b : Bool) → AllByRecursion (IsFine p) (map (inner_node o) (inner_from spare (keys o) ts)) → AllByRecursion (IsFine p) (if b then map (inner_node o) (inner_from spare (keys o) ts) else record { term = leaf spare; part = node o ts } ∷ [])
      by true all = all
      by false all = (record { term = tt; part = ours }, tt)

    from_fine : (keyed : ℕ) (ts : Trees) → AreTermsOf p ts → AllByRecursion (AreFine p (length (list_of ts))) (inner_from spare keyed ts)
    from_fine keyed none ours = tt
    from_fine (suc k) (more t ts) ours = behind_all t ts k ours.0 (from_fine k ts ours.1)
    from_fine zero (more t ts) ours =
        each_in_both (AreFine p (suc (length (list_of ts)))) (map (inner_before ts) (inner_of spare t)) (map (inner_behind t) (inner_from spare 0 ts))
        (before_all t ts ours.1 (inner_fine t ours.0)) (behind_all t ts 0 ours.0 (from_fine 0 ts ours.1))

  within_fine : (t : Tree) → IsTermOf p t → AllByRecursion (IsFine p) (inner_within spare t)
  within_fine (leaf n) ours = tt
  within_fine (node o ts) ours = by (undoable o) where
    by : (b : Bool) → AllByRecursion (IsFine p) (if b then map (inner_node o) (inner_from spare (keys o) ts) else [])
    by true = nodes_fine o ts ours (from_fine (keys o) ts ours.2)
    by false = tt

  pub few_fine : (t : Tree) → IsTermOf p t → AllByRecursion (IsFine p) (few_within spare t)
  few_fine t ours = by (nat_le (length (inner_within spare t)) 64) where
    by : (b : Bool) → AllByRecursion (IsFine p) (if b then inner_within spare t else [])
    by true = within_fine t ours
    by false = tt

-- ---- acts that are ready for some operators are for all

any_verified : (has : Op → Bool) (acts : List Act) (n : ℕ) → IsVerified has acts n → IsVerified (λ o. true) acts n
any_verified has [] n v = tt
any_verified has (takes ∷ acts) n v = any_verified has acts n v
any_verified has (draws ∷ acts) n v = any_verified has acts (n + 1) v
any_verified has (receives ∷ acts) n v = any_verified has acts (n + 1) v
any_verified has (sends r ∷ acts) n v = (v.0, any_verified has acts n v.1)
any_verified has (works w ∷ acts) n v = (any_ready has n w v.0, any_verified has acts (n + count_written w) v.1)

-- ---- the case

module _ (p : ProtocolValue) (role : ℕ) (code : CodeValue) (g : Grounds p role (acts_of code)) (check : ℕ) (case : Case) (is : IsCaseOf p role code Both check case) (inner : InnerValue) (fine : IsFine p inner) (within : Case)
    (iw : IsWithin (length p.atoms) case inner within) where
  abbrev m : Meaning Text
  m = meaning_of p

  abbrev has : Op → Bool
  has = has_operator p.formats

  abbrev plan : List Event
  plan = events_of p role

  abbrev acts : List Act
  acts = acts_of code

  abbrev names : ℕ
  names = length p.atoms

  abbrev put : ℕ → Tree
  put n = in_place_of (length p.atoms) inner.term n

  abbrev came : List Tree
  came = map tree_of case.arrivals.items

  abbrev came_within : List Tree
  came_within = map tree_of within.arrivals.items

  abbrev said_within : List Tree
  said_within = map tree_of within.messages.items

  abbrev w : Tree
  w = tree_of within.wrong

  lawful : Lawful m
  lawful = bytes_are_lawful p.formats p.suite

  agrees : HonestAgree m
  agrees = honest_agree m lawful

  puts : (n : ℕ) → IsFormed has (put n)
  puts n = by (n == names) where
    by : (b : Bool) → IsFormed has (cond b inner.term (leaf n))
    by true = fine.term
    by false = tt

  -- terms of the narration stay
  stays : (t : Tree) → IsTermOf p t → put_in put t ≡ t
  stays t ours = same_in terms put leaf t (λ n e. ap (λ b. cond b inner.term (leaf n)) (below n names (term_atoms p t ours n e))) ∙ put_itself t

  all_stay : (ts : List Tree) → AllByRecursion (IsTermOf p) ts → map (put_in put) ts ≡ ts
  all_stay [] all = refl
  all_stay (t ∷ ts) all = ap (λ x. x ∷ map (put_in put) ts) (stays t all.0) ∙ ap (λ l. t ∷ l) (all_stay ts all.1)

  knows_ours : AllByRecursion (IsTermOf p) (known plan)
  knows_ours = subst (AllByRecursion (IsTermOf p)) (sym (role_known p role)) (all_known (IsTermOf p) p.knows role g.ours.knows)

  -- ---- over terms

  abbrev free : HonestAgree terms
  free = honest_agree terms (free_lawful (λ o. true))

  abbrev put_back : Progress Tree → Progress Tree
  put_back s = seen terms (free_lawful (λ o. true)) (honest_agree terms (free_lawful (λ o. true))) (λ n. in_place_of (length p.atoms) inner.term n) (λ n. refl) s

  came_formed : AreFormed has (trees_of came)
  came_formed = is.is.formed.1.1

  comes : after_all terms (made plan) (take (reaches p role code g Both check case is).count acts) (begun (known plan) came_within) ≡ Some (put_back (reaches p role code g Both check case is).before)
  comes =
      let r = reaches p role code g Both check case is in
      let front = take r.count acts in
      let ready = ready_before (λ o. true) acts r.count (length (known plan)) (any_verified has acts (length (known plan)) (takes_ready has acts 0 (length (known plan)) g.taking)) in
      let went = all_went terms (free_lawful (λ o. true)) free put (λ n. refl) (made plan) (all_formed_any has (trees_of (made plan)) (formed_list p (made plan) (g.ours.makes role))) front (begun (known plan) came) r.before
      (all_formed_any has (trees_of (known plan)) (formed_list p (known plan) knows_ours)) (all_formed_any has (trees_of came) came_formed) ready r.comes in
      let one = subst (λ l. after_all terms l front (begun (map (put_in put) (known plan)) (map (put_in put) came)) ≡ Some (put_back r.before)) (all_stay (made plan) (g.ours.makes role)) went.valued in
      let two = subst (λ l. after_all terms (made plan) front (begun l (map (put_in put) came)) ≡ Some (put_back r.before)) (all_stay (known plan) knows_ours) one in
      subst (λ l. after_all terms (made plan) front (begun (known plan) l) ≡ Some (put_back r.before)) (sym iw.arrivals) two

  says_within : (more : List Tree) × (said_within ≡ (put_back (reaches p role code g Both check case is).before).sent ++ more)
  says_within =
      let s = says p role code g Both check case is in
      let sent = (reaches p role code g Both check case is).before.sent in
      (map (put_in put) s.0, iw.messages ∙ ap (map (put_in put)) s.1 ∙ map-append (put_in put) sent s.0)

  -- ---- over values

  module _ (atoms draw : ℕ → Text) (values : AreValuesOf m plan atoms draw) where
    -- what is put in place of the spare name has the value of that
    abbrev inside : ℕ → Text
    inside n = honest m atoms (in_place_of (length p.atoms) inner.term n)

    values_inside : AreValuesOf m plan inside draw
    values_inside = record {
      values = λ n. is_value m lawful atoms values.values (put n) (puts n);
      drawn = λ i t at. values.drawn i t at ∙ ap (honest m atoms) (sym (stays t (made_ours i t at))) ∙ honest_put m atoms put t;
    } where
      made_ours : (i : ℕ) (t : Tree) → slice_get (made plan) i ≡ Some t → IsTermOf p t
      made_ours i t at = each_got (IsTermOf p) (made plan) i t (g.ours.makes role) at

    same_run : run_over m inside draw plan acts came ≡ run_over m atoms draw plan acts came_within
    same_run =
        let knows = honest_each m atoms put (known plan) ∙ ap (map (honest m atoms)) (all_stay (known plan) knows_ours) in
        let arrive = honest_each m atoms put came ∙ ap (map (honest m atoms)) (sym iw.arrivals) in
        ap (λ l. run m draw acts l (map (honest m inside) came)) knows ∙ ap (run m draw acts (map (honest m atoms) (known plan))) arrive

    module _ (differ : SidesDiffer names within) (apart_is : atoms names ≢ honest m atoms w) where
      one_formed : IsFormed has (tree_of within.one)
      one_formed = subst (IsFormed has) (sym iw.one) (formed_put has put puts (tree_of case.one) is.is.formed.0)

      other_formed : IsFormed has (tree_of within.other)
      other_formed = subst (IsFormed has) (sym iw.other) (formed_put has put puts (tree_of case.other) is.is.formed.1.0)

      outside : m.same (honest m atoms (tree_of within.one)) (honest m atoms (tree_of within.other)) ≡ false
      outside =
          not_same m lawful agrees atoms values.values names w (tree_of within.one) (tree_of within.other) (m.same (honest m atoms (tree_of within.one)) (honest m atoms (tree_of within.other))) refl
          (apart m lawful agrees atoms values.values names w differ.0 (tree_of within.one) (tree_of within.other) one_formed other_formed differ.1) (bytes_differ (atoms names) (honest m atoms w) apart_is)

      sides_differ : m.same (honest m inside (tree_of case.one)) (honest m inside (tree_of case.other)) ≡ false
      sides_differ =
          let one : honest m inside (tree_of case.one) ≡ honest m atoms (tree_of within.one) = sym (honest_put m atoms put (tree_of case.one)) ∙ ap (honest m atoms) (sym iw.one) in
          let other : honest m inside (tree_of case.other) ≡ honest m atoms (tree_of within.other) = sym (honest_put m atoms put (tree_of case.other)) ∙ ap (honest m atoms) (sym iw.other) in
          ap (λ x. m.same x (honest m inside (tree_of case.other))) one ∙ ap (m.same (honest m atoms (tree_of within.one))) other ∙ outside

      stops_if : (place : ℕ) × ((run_over m atoms draw plan acts came_within).end ≡ stopped within.event place)
      stops_if =
          let at = sides_law p role code g names plan acts Both check is.a is.b (case_value case) inside draw is.is g.fits.order g.formed values_inside sides_differ in
          let same = one_event p role code g m (terms_over has) draw (drawn plan) (map (honest m inside) (known plan)) (map (honest m inside) came) (known plan) came at.0 case.event check at.1 is.event in
          (check, sym (ap (λ (q : Played Text). q.end) same_run) ∙ at.1 ∙ ap (λ e. stopped e check) (same ∙ sym iw.event))

  part_ours : IsTermOf p w
  part_ours = subst (IsTermOf p) (sym iw.wrong) fine.part

  within_changes : CaseMayStand p within → Changes (script_of p role (map tree_of within.arrivals.items) (map tree_of within.messages.items) (Some (tree_of within.wrong)))
  within_changes stands = record {
    right = w;
    right_is = refl;
    arrivals_formed = stand_formed p came_within stands.arrivals;
    messages_formed = stand_formed p said_within stands.messages;
  }

  within_comes : ComesTo (script_of p role (map tree_of within.arrivals.items) (map tree_of within.messages.items) (Some (tree_of within.wrong))) (acts_of code) within.event
  within_comes = record {
    count = (reaches p role code g Both check case is).count;
    before = put_back (reaches p role code g Both check case is).before;
    comes = comes;
    at = (reaches p role code g Both check case is).event ∙ sym iw.event;
    more = says_within.0;
    says = says_within.1;
  }

  -- it says the first of the case's messages, with these values of the names
  within_says : SaysAlong (script_of p role (map tree_of within.arrivals.items) (map tree_of within.messages.items) (Some (tree_of within.wrong))) (acts_of code)
  within_says atoms draw values =
      let by = λ (t : Tree). honest m atoms t in
      let first = check_says p role code g Both check case is (inside atoms draw values) draw (values_inside atoms draw values) in
      let mapped = are_mapped (λ t. honest m (inside atoms draw values) t) by (put_in put) (λ t. sym (honest_put m atoms put t)) _ (map tree_of case.messages.items) first in
      subst (λ (q : Played Text). Are by q.sent said_within) (same_run atoms draw values) (subst (Are by (run_over m (inside atoms draw values) draw plan acts came).sent) (sym iw.messages) mapped)

  module _ (differ : SidesDiffer names within) where
    within_stops : (change : Change) → CaseMayStand p within → Stops (script_of p role came_within said_within (Some w)) acts (wrong_by p.formats (Changed change)) within.event
    unfolding within_changes
    within_stops change stands = record {
      changes = within_changes stands;
      comes_to = within_comes;
      wrong = λ atoms draw values made_wrong. stops_if atoms draw values differ (changes_differ change (honest m atoms w) (atoms names) made_wrong);
      shut = λ atoms bytes. (
        other_than (honest m atoms w),
        other_bytes (honest m atoms w),
        λ others draw values same is_other. stops_if others draw values differ
            (λ e. other_differs (honest m atoms w)
            (sym is_other ∙ e ∙ same_in m others atoms w (λ n has. same n (below n names (term_atoms p w part_ours n has))))),
      );
    }

  module _ (scene : Scene) (may : CaseMayStand p within) (of : IsSceneOf (length p.atoms) within scene) where
    pub within_known : (change : Change) (event : ℕ) → scene.due ≡ Some event → Stops (script_in p role scene) (acts_of code) (wrong_by p.formats (Changed change)) event
    within_known change event due =
        let known_so = of.due.known event due in
        subst (λ e. Stops (script_in p role scene) (acts_of code) (wrong_by p.formats (Changed change)) e) (sym known_so.0)
        (in_case p role (λ s. Stops s (acts_of code) (wrong_by p.formats (Changed change)) within.event) (length p.atoms) within scene of (within_stops known_so.1 change may))

    pub within_along : GoesAlong (acts_of code) (script_in p role scene)
    within_along = in_case p role (GoesAlong (acts_of code)) (length p.atoms) within scene of (within_changes may, within_says)

-- ---- whether a term of the narration may stand in a plan

pub may_or_not : (p : ProtocolValue) (t : Tree) → IsTermOf p t → MayStand p t ⊎ (MayStand p t → ⊥)
may_or_not p t ours = by (below_or_not 1024 (tree_size t)) (fits_width ARRIVAL p.formats WIDE t) refl where
  by : (1024 < tree_size t) ⊎ (tree_size t ≤ 1024) → (b : Bool) → fits_width ARRIVAL p.formats WIDE t ≡ b → MayStand p t ⊎ (MayStand p t → ⊥)
  by (inl large) b e = inr (λ s. (let small = s.small in let never : ⊥ = omega (arith, large, small) in never))
  by (inr small) true e = inl (record { formed = formed p t ours; small = small; narrow = e })
  by (inr small) false e = inr (λ s. (let never : true ≡ false = sym s.narrow ∙ e in cc))
