-- What is taken unchecked may have any bytes: the law.
use Rattle.std.proofs.Common.{◌≡◌, ℕ, suc, ◌+◌, ◌<◌, List, [], ◌∷◌, ◌++◌, length, map, Bool, true, false, IsTrue, Option, Some, None, refl, sym, ap, ◌∙◌, arith}
use Rattle.std.specs.Prelude.{not, slice_get}
use Rattle.std.proofs.lemmas.List.Elements.{recursion_from_All}
use Rattle.std.proofs.lemmas.Bool.{not-true, not_from_false}
use Rattle.anb_lemmas.proofs.Each.{each_in_both}
use Rattle.anb_format.specs.Formats.{FormatValue}
use Rattle.anb_term.specs.Value.{Meaning}
use Rattle.anb_term.specs.Lawful.{Lawful, AreValues, picked}
use Rattle.anb_plays.specs.Codes.{Act, takes, draws, receives, sends, works}
use Rattle.anb_plays.specs.Plays.{Played, ends, stopped}
use Rattle.anb_plays.specs.Exec.{exec, worked, on_written, HasTakes, IsVerified, NoTakes}
use Rattle.anb_plays.specs.Runs.{says_if, without_place, no_place}
use Rattle.anb_plays.specs.Statements.{ExecIsRun, RunsAsPlayed}
use Rattle.anb_code.specs.declared.instr.Instr.{Instr}
use Rattle.anb_code.specs.Meaning.{act_of}
use Rattle.anb_report.specs.Looking.{is_among, brought, seen, unchecked}
use Rattle.anb_report.specs.Laws.{SameCourse, received, renewed, replaced, ChangesUnchecked, UncheckedIsFree, PlaysStayFree}
use Rattle.anb_report.proofs.Renewed.{renewed_length, Valued, picked_values, as_values}
use Rattle.anb_report.proofs.Whole.{renewed_values}
use Rattle.anb_report.proofs.Walking.{Walks}
use Rattle.anb_report.proofs.Bridging.{WalksBehind, walks, takes_not_brought, seen_is_fixed, is_free, not_opened}
use Rattle.anb_report.proofs.Free.{Beside, GoAlike, goes_alike}
use Rattle.anb_report.proofs.Aside.{unopened}

module _ {A : Type 0} (m : Meaning A) (lawful : Lawful m) (formats : List FormatValue) (instrs : List Instr) (change : ℕ → A → A) (changes : ChangesUnchecked m formats instrs change)
    (draw : ℕ → A) (draw_is : (i : ℕ) → IsTrue (m.is_value (draw i))) (init arrivals : List A) (init_is : AreValues m init) (arrivals_are : AreValues m arrivals) where
  abbrev whole : ℕ → Bool
  whole r = is_among (seen formats instrs) r

  abbrev came : ℕ → Bool
  came r = is_among (brought formats instrs) r

  abbrev fixed : ℕ → Bool
  fixed r = not (is_among (unchecked formats instrs) r)

  keeps : (n : ℕ) (x : A) → fixed n ≡ true → change n x ≡ x
  keeps n x e = changes.others n x (not-true (is_among (unchecked formats instrs) n) e)

  kept : (n : ℕ) → whole n ≡ true → fixed n ≡ true
  kept n e = not_from_false (is_among (unchecked formats instrs) n) (seen_is_fixed formats instrs n e)

  -- the two runs behind the takes
  starts : (acts : List Act) (k at : ℕ) (others : List A) → k ≡ length init → NoTakes m.has acts → IsVerified m.has acts (length init) → Walks whole came fixed acts (length init) []
      → ((r : ℕ) → r < length init → came r ≡ false) → others ≡ picked (renewed m draw change acts init 0 arrivals) (received k acts) ++ (exec m draw acts init 0 at 0 arrivals).left
      → GoAlike m lawful draw draw_is change changes.values whole came fixed keeps kept acts init init (renewed m draw change acts init 0 arrivals) 0 at 0 arrivals others
  starts acts k at others e none verified walks own are =
      let beside : Beside m lawful draw draw_is change changes.values whole came fixed keeps kept acts init init (renewed m draw change acts init 0 arrivals) (length init) 0 [] arrivals = record {
        long = refl;
        other_long = refl;
        none = none;
        verified = verified;
        walks = walks;
        same = λ r w. refl;
        came = λ r h b. let no = own r h in cc;
        later = λ r f. refl;
        below = λ r f. cc;
        sized = renewed_length m draw change acts init 0 arrivals;
        values = recursion_from_All (λ x. IsTrue (m.is_value x)) init init_is;
        arrive = recursion_from_All (λ x. IsTrue (m.is_value x)) arrivals arrivals_are;
      } in
      goes_alike m lawful draw draw_is change changes.values whole came fixed keeps kept acts init init (renewed m draw change acts init 0 arrivals) (length init) 0 at 0 [] arrivals others beside
      (are ∙ ap (λ n. picked (renewed m draw change acts init 0 arrivals) (received n acts) ++ (exec m draw acts init 0 at 0 arrivals).left) e)

  behind : (acts : List Act) (k at : ℕ) (others : List A) → HasTakes m.has acts k (length init) → WalksBehind whole came fixed acts (length init)
      → ((r : ℕ) → r < length init → came r ≡ false) → others ≡ picked (renewed m draw change acts init 0 arrivals) (received k acts) ++ (exec m draw acts init 0 at 0 arrivals).left
      → GoAlike m lawful draw draw_is change changes.values whole came fixed keeps kept acts init init (renewed m draw change acts init 0 arrivals) 0 at 0 arrivals others
  behind (takes ∷ acts) k at others h w own are =
      let more : k + 1 ≡ suc k = omega arith in
      let goes = behind acts (suc k) (at + 1) others h w own (are ∙ ap (λ n. picked (renewed m draw change acts init 0 arrivals) (received n acts) ++ (exec m draw acts init 0 (at + 1) 0 arrivals).left) more) in
      record { course = goes.course; there = goes.there }
  behind acts k at others h w own are = starts acts k at others h.0 h.2 h.1 w own are

  abbrev acts_of : List Act
  acts_of = map (act_of formats) instrs

  goes : HasTakes m.has acts_of 0 (length init)
      → GoAlike m lawful draw draw_is change changes.values whole came fixed keeps kept acts_of init init (renewed m draw change acts_of init 0 arrivals) 0 0 0 arrivals (replaced m draw change acts_of init arrivals)
  goes h = behind acts_of 0 0 (replaced m draw change acts_of init arrivals) h (walks formats instrs m.has (length init) h) (takes_not_brought formats instrs m.has (length init) h) refl

pub unchecked_is_free : {A : Type 0} (m : Meaning A) → Lawful m → UncheckedIsFree m
unchecked_is_free m lawful formats instrs change draw init arrivals h changes draw_is init_is arrivals_are =
    let g = goes m lawful formats instrs change changes draw draw_is init arrivals init_is arrivals_are h in
    record {
      course = g.course;
      there = λ n e less.
          let free = is_free formats instrs n e in
          g.there n less free.came ∙ unopened m draw change (map (act_of formats) instrs) init 0 arrivals n (not_opened formats instrs n free.closed);
    }

-- ---- the play

-- what a run doesn't use are values where the arrivals are
left_values : {A : Type 0} (m : Meaning A) (draw : ℕ → A) (acts : List Act) (T : List A) (e at i : ℕ) (arrivals : List A) → Valued m arrivals → Valued m (exec m draw acts T e at i arrivals).left
left_values m draw [] T e at i arrivals h = h
left_values m draw (takes ∷ acts) T e at i arrivals h = left_values m draw acts T e (at + 1) i arrivals h
left_values m draw (draws ∷ acts) T e at i arrivals h = left_values m draw acts (T ++ draw i ∷ []) e (at + 1) (i + 1) arrivals h
left_values m draw (receives ∷ acts) T e at i [] h = tt
left_values m draw (receives ∷ acts) T e at i (x ∷ arrivals) h = left_values m draw acts (T ++ x ∷ []) (e + 1) (at + 1) i arrivals h.1
left_values {A} m draw (sends n ∷ acts) T e at i arrivals h = by (slice_get T n) (left_values m draw acts T (e + 1) (at + 1) i arrivals h)
  where
    by : (o : Option A) → Valued m (exec m draw acts T (e + 1) (at + 1) i arrivals).left → Valued m (says_if o (exec m draw acts T (e + 1) (at + 1) i arrivals)).left
    by None k = k
    by (Some x) k = k
left_values {A} m draw (works w ∷ acts) T e at i arrivals h = by (worked m T w) (λ ws. left_values m draw acts (T ++ ws) e (at + 1) i arrivals h)
  where
    by : (o : Option (List A)) → ((ws : List A) → Valued m (exec m draw acts (T ++ ws) e (at + 1) i arrivals).left)
        → Valued m (on_written o (λ ws. exec m draw acts (T ++ ws) e (at + 1) i arrivals) (ends (stopped e (at + 1)) arrivals)).left
    by None ih = h
    by (Some ws) ih = ih ws

same_plays : {A : Type 0} (p q r s : Played A) → p ≡ without_place r → q ≡ without_place s → SameCourse r s → SameCourse p q
same_plays p q r s e f c = rw (e, f) record { end = ap no_place c.end; left = c.left; sent = c.sent }

module _ {A : Type 0} (m : Meaning A) (lawful : Lawful m) (formats : List FormatValue) (instrs : List Instr) (change : ℕ → A → A) (changes : ChangesUnchecked m formats instrs change)
    (draw : ℕ → A) (draw_is : (i : ℕ) → IsTrue (m.is_value (draw i))) (init arrivals : List A) (init_is : AreValues m init) (arrivals_are : AreValues m arrivals) where
  behind_values : (acts : List Act) (k n : ℕ) → HasTakes m.has acts k n → n ≡ length init → Valued m (renewed m draw change acts init 0 arrivals)
  behind_values (takes ∷ acts) k n h e = behind_values acts (suc k) n h e
  behind_values acts k n h e =
      renewed_values m lawful draw draw_is change changes.values (whole m lawful formats instrs change changes draw draw_is init arrivals init_is arrivals_are)
      (came m lawful formats instrs change changes draw draw_is init arrivals init_is arrivals_are) (fixed m lawful formats instrs change changes draw draw_is init arrivals init_is arrivals_are)
      (keeps m lawful formats instrs change changes draw draw_is init arrivals init_is arrivals_are) (kept m lawful formats instrs change changes draw draw_is init arrivals init_is arrivals_are)
      acts init n 0 arrivals (sym e) h.2 h.1
      (recursion_from_All (λ x. IsTrue (m.is_value x)) init init_is) (recursion_from_All (λ x. IsTrue (m.is_value x)) arrivals arrivals_are)

  replaced_values : HasTakes m.has (map (act_of formats) instrs) 0 (length init) → AreValues m (replaced m draw change (map (act_of formats) instrs) init arrivals)
  replaced_values h =
      let acts = map (act_of formats) instrs in
      let X = renewed m draw change acts init 0 arrivals in
      as_values m lawful draw draw_is (replaced m draw change acts init arrivals)
      (each_in_both (λ x. IsTrue (m.is_value x)) (picked X (received 0 acts)) (exec m draw acts init 0 0 0 arrivals).left
      (picked_values m lawful draw draw_is X (received 0 acts) (behind_values acts 0 (length init) h refl))
      (left_values m draw acts init 0 0 0 arrivals (recursion_from_All (λ x. IsTrue (m.is_value x)) arrivals arrivals_are)))

pub plays_stay_free : {A : Type 0} (m : Meaning A) → Lawful m → RunsAsPlayed m → ExecIsRun m → PlaysStayFree m
plays_stay_free m lawful played is_run formats instrs plan change draw init arrivals h changes draw_is init_is arrivals_are fits new count p q hp hq =
    let acts = map (act_of formats) instrs in
    let others = replaced m draw change acts init arrivals in
    let free = unchecked_is_free m lawful formats instrs change draw init arrivals h changes draw_is init_is arrivals_are in
    let others_are = replaced_values m lawful formats instrs change changes draw draw_is init arrivals init_is arrivals_are h in
    let one = (played draw acts plan init arrivals fits new draw_is init_is arrivals_are count).1 p hp in
    let two = (played draw acts plan init others fits new draw_is init_is others_are count).1 q hq in
    same_plays p q (exec m draw acts init 0 0 0 arrivals) (exec m draw acts init 0 0 0 others)
    (one ∙ ap without_place (sym (is_run draw acts init arrivals h))) (two ∙ ap without_place (sym (is_run draw acts init others h))) free.course
