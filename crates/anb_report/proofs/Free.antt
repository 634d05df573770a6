-- The run over arrivals in which parts that nobody looks at were replaced goes as the run before.
use Rattle.std.proofs.Common.{◌≡◌, ℕ, zero, suc, ◌+◌, ◌-◌, ◌≤◌, ◌<◌, List, [], ◌∷◌, ◌++◌, length, take, drop, Bool, true, false, IsTrue, Option, Some, None, refl, sym, ap, ◌∙◌, subst, arith, length-append, ◌⊎◌, inl, inr}
use Rattle.std.specs.Prelude.{◌||◌, slice_get, slice_set, nat_eq, option_and_then, if◌then◌else◌}
use Rattle.std.proofs.lemmas.List.{append-nil}
use Rattle.std.specs.List.{AllByRecursion}
use Rattle.std.proofs.lemmas.Bool.{eqb-true}
use Rattle.std.proofs.lemmas.List.Elements.{recursion_from_All}
use Rattle.anb_lemmas.proofs.Numbers.{below_or_not, same_or_not}
use Rattle.anb_lemmas.proofs.Lists.{got_within}
use Rattle.anb_term.specs.declared.term.Op.{Op}
use Rattle.anb_term.specs.Operator.{arity}
use Rattle.anb_term.specs.Value.{Meaning}
use Rattle.anb_term.specs.Lawful.{Lawful, picked}
use Rattle.anb_term.specs.Demand.{alike}
use Rattle.anb_term.proofs.Lists.{slice_get-append, slice_get-there, all_take, all_drop}
use Rattle.anb_plays.specs.Codes.{Act, takes, draws, receives, sends, works, Work, make, undo, equal}
use Rattle.anb_plays.specs.Plays.{Played, says, ends, stopped}
use Rattle.anb_plays.specs.Runs.{says_if}
use Rattle.anb_plays.specs.Exec.{exec, worked, on_written, count_written, IsReady, IsVerified, NoTakes}
use Rattle.anb_report.specs.Looking.{is_among}
use Rattle.anb_report.specs.Laws.{SameCourse, received, registers, changed, built_anew, renewed}
use Rattle.anb_report.proofs.Tables.{among_first, among_neither, among_one, get_behind, get_front, get_window, window_length, grow_alike, set_apart, set_there, picked_same, picked_none}
use Rattle.anb_report.proofs.Renewed.{registers_keep, registers_long, changed_here, renewed_length, Valued, picked_values, as_values, made_is, Undone, undone_of_table, parts_count}
use Rattle.anb_report.proofs.Whole.{written_or, written_there, parts_same, keys_same, more_values, stays_whole, renewed_values}
use Rattle.anb_report.proofs.Walking.{Walks, UndoesWell}

says_same : {A : Type 0} (x y : A) (p q : Played A) → SameCourse p q → SameCourse (says x p) (says y q)
says_same x y p q s = record { end = s.end; left = s.left; sent = ap suc s.sent }

-- the registers of later arrivals are later
received_later : (acts : List Act) (next : ℕ) (low : ℕ) → low ≤ next → AllByRecursion (λ n. low ≤ n) (received next acts)
received_later [] next low h = tt
received_later (takes ∷ acts) next low h = received_later acts (next + 1) low (omega (arith, h))
received_later (draws ∷ acts) next low h = received_later acts (next + 1) low (omega (arith, h))
received_later (receives ∷ acts) next low h = (h, received_later acts (next + 1) low (omega (arith, h)))
received_later (sends r ∷ acts) next low h = received_later acts next low h
received_later (works w ∷ acts) next low h = received_later acts (next + count_written w) low (omega (arith, h))

module _ {A : Type 0} (m : Meaning A) (lawful : Lawful m) (draw : ℕ → A) (draw_is : (i : ℕ) → IsTrue (m.is_value (draw i)))
    (change : ℕ → A → A) (change_is : (n : ℕ) (x : A) → IsTrue (m.is_value x) → IsTrue (m.is_value (change n x)))
    (whole brought fixed : ℕ → Bool) (keeps : (n : ℕ) (x : A) → fixed n ≡ true → change n x ≡ x) (kept : (n : ℕ) → whole n ≡ true → fixed n ≡ true) where
  -- Two runs side by side, at one place: T is the table of the first, over these arrivals, U that of the second. X has the
  -- values that registers get in the second run, as far as they were brought; `before` lists what was opened so far.
  pub record Beside (acts : List Act) (T U X : List A) (next i : ℕ) (before : List ℕ) (arrivals : List A) : Type 0 where
    pub long : length T ≡ next
    pub other_long : length U ≡ next
    pub none : NoTakes m.has acts
    pub verified : IsVerified m.has acts next
    pub walks : Walks whole brought fixed acts next before
    pub same : (r : ℕ) → whole r ≡ true → slice_get T r ≡ slice_get U r
    pub came : (r : ℕ) → r < next → brought r ≡ true → slice_get U r ≡ slice_get X r
    pub later : (r : ℕ) → is_among before r ≡ false → slice_get X r ≡ slice_get (renewed m draw change acts T i arrivals) r
    pub below : (r : ℕ) → is_among before r ≡ true → r < next
    pub sized : length X ≡ length (registers m draw acts T i arrivals)
    pub values : Valued m T
    pub arrive : Valued m arrivals

  -- how the two go on, and that what was brought has those values in the second
  pub record GoAlike (acts : List Act) (T U X : List A) (e at i : ℕ) (arrivals others : List A) : Type 0 where
    pub course : SameCourse (exec m draw acts T e at i arrivals) (exec m draw acts U e at i others)
    pub there : (r : ℕ) → r < length (registers m draw acts T i arrivals) → brought r ≡ true → slice_get (registers m draw acts U i others) r ≡ slice_get X r

  abbrev pub Alike : List Act → Type 0
  Alike acts = (T U X : List A) (next e at i : ℕ) (before : List ℕ) (arrivals others : List A) → Beside acts T U X next i before arrivals
      → others ≡ picked X (received next acts) ++ (exec m draw acts T e at i arrivals).left → GoAlike acts T U X e at i arrivals others

  -- nothing before a place is the place's register
  not_before : (before : List ℕ) (next r : ℕ) → ((k : ℕ) → is_among before k ≡ true → k < next) → next ≤ r → is_among before r ≡ false
  not_before before next r below h = by (is_among before r) refl
    where
      by : (c : Bool) → is_among before r ≡ c → is_among before r ≡ false
      by true e = let b = below r e in absurd (omega (arith, b, h))
      by false e = e

  -- where the first run ends here, no more arrivals were used
  none_used : (acts : List Act) (X : List A) (next : ℕ) → length X ≡ next → picked X (received next acts) ≡ []
  none_used acts X next sized = picked_none X (received next acts) (received_later acts next (length X) (omega (arith, sized)))

  -- a register that is there in the first run is the same in the second where it is looked at
  same_later : (acts : List Act) (T U X : List A) (next i : ℕ) (before : List ℕ) (arrivals : List A) → Beside acts T U X next i before arrivals
      → (r : ℕ) (x : A) → next ≤ r → whole r ≡ true → slice_get (registers m draw acts T i arrivals) r ≡ Some x → slice_get X r ≡ Some x
  same_later acts T U X next i before arrivals b r x h w e =
      b.later r (not_before before next r b.below h)
      ∙ stays_whole m lawful draw draw_is change change_is whole brought fixed keeps kept acts T next i arrivals before b.long b.none b.verified b.walks b.values b.arrive r x w e

  picked_first : (X : List A) (n : ℕ) (x : A) (ns : List ℕ) → slice_get X n ≡ Some x → picked X (n ∷ ns) ≡ x ∷ picked X ns
  picked_first X n x ns e = rw e refl

  -- ---- one value more

  one_more : (T U : List A) (x y : A) (r : ℕ) → length T ≡ length U → slice_get T r ≡ slice_get U r → (r ≡ length T → x ≡ y) → slice_get (T ++ x ∷ []) r ≡ slice_get (U ++ y ∷ []) r
  one_more T U x y r l e h = grow_alike T U (x ∷ []) (y ∷ []) r l (λ b. e) (λ j s. by j s)
    where
      by : (j : ℕ) → r ≡ length T + j → slice_get (x ∷ []) j ≡ slice_get (y ∷ []) j
      by zero s = ap Some (h (let z : r ≡ length T = omega (arith, s) in z))
      by (suc j) s = refl

  last_there : (U : List A) (y : A) (r : ℕ) → r ≡ length U → slice_get (U ++ y ∷ []) r ≡ Some y
  last_there U y r e = let z : r ≡ length U + 0 = omega (arith, e) in ap (slice_get (U ++ y ∷ [])) z ∙ get_behind U (y ∷ []) 0

  -- a value that isn't brought, and the same where it is looked at
  own_more : (acts : List Act) (T U X : List A) (next i j : ℕ) (before : List ℕ) (arrivals : List A) (x y : A) → length T ≡ next → length U ≡ next
      → NoTakes m.has acts → IsVerified m.has acts (next + 1) → Walks whole brought fixed acts (next + 1) before
      → ((r : ℕ) → whole r ≡ true → slice_get T r ≡ slice_get U r) → ((r : ℕ) → r < next → brought r ≡ true → slice_get U r ≡ slice_get X r)
      → ((r : ℕ) → is_among before r ≡ false → slice_get X r ≡ slice_get (renewed m draw change acts (T ++ x ∷ []) j arrivals) r) → ((r : ℕ) → is_among before r ≡ true → r < next)
      → length X ≡ length (registers m draw acts (T ++ x ∷ []) j arrivals) → Valued m T → IsTrue (m.is_value x) → Valued m arrivals
      → (whole next ≡ true → x ≡ y) → (brought next ≡ true → slice_get X next ≡ Some y)
      → Beside acts (T ++ x ∷ []) (U ++ y ∷ []) X (next + 1) j before arrivals
  own_more acts T U X next i j before arrivals x y long other none verified walks same came later below sized values is arrive alike_x brings = record {
    long = omega (arith, length-append T (x ∷ []), long);
    other_long = omega (arith, length-append U (y ∷ []), other);
    none = none;
    verified = verified;
    walks = walks;
    same = λ r w. one_more T U x y r (omega (arith, long, other)) (same r w) (λ s. alike_x (let z : r ≡ next = omega (arith, s, long) in ap whole (sym z) ∙ w));
    came = λ r h b. came_so r h b (same_or_not r next);
    later = later;
    below = λ r b. let h = below r b in omega (arith, h);
    sized = sized;
    values = all_more T x values is;
    arrive = arrive;
  }
    where
      all_more : (T : List A) (x : A) → Valued m T → IsTrue (m.is_value x) → Valued m (T ++ x ∷ [])
      all_more [] x h is = (is, tt)
      all_more (t ∷ T) x h is = (h.0, all_more T x h.1 is)

      came_so : (r : ℕ) → r < next + 1 → brought r ≡ true → (r ≡ next) ⊎ (r ≡ next → ⊥) → slice_get (U ++ y ∷ []) r ≡ slice_get X r
      came_so r h b (inl s) = last_there U y r (s ∙ sym other) ∙ sym (brings (ap brought (sym s) ∙ b)) ∙ ap (slice_get X) (sym s)
      came_so r h b (inr apart) =
          let less : r < next = omega (arith, h, apart) in
          get_front U (y ∷ []) r (omega (arith, less, other)) ∙ came r less b

  -- ---- an undoing

  -- both undo, the first to ws and the second to what X has there
  undo_more : (acts : List Act) (ih : Alike acts) (o : Op) (ks : List ℕ) (n : ℕ) (T U X ws : List A) (next e at i : ℕ) (before : List ℕ) (arrivals others : List A)
      → Beside (works (undo o ks n) ∷ acts) T U X next i before arrivals → worked m T (undo o ks n) ≡ Some ws → length ws ≡ count_written (undo o ks n) → Valued m ws → n < next
      → worked m U (undo o ks n) ≡ Some (take (length ws) (drop (length T) (renewed m draw change acts (T ++ ws) i arrivals)))
      → others ≡ picked X (received next (works (undo o ks n) ∷ acts)) ++ (exec m draw (works (undo o ks n) ∷ acts) T e at i arrivals).left
      → GoAlike (works (undo o ks n) ∷ acts) T U X e at i arrivals others
  undo_more acts ih o ks n T U X ws next e at i before arrivals others b did count valued less undone are =
      let w = undo o ks n in
      let Y = renewed m draw change acts (T ++ ws) i arrivals in
      let F = registers m draw acts (T ++ ws) i arrivals in
      let us = take (length ws) (drop (length T) Y) in
      let wide : length T + length ws ≤ length Y = omega (arith, renewed_length m draw change acts (T ++ ws) i arrivals, registers_long m draw acts (T ++ ws) i arrivals, length-append T ws) in
      let many : length us ≡ length ws = window_length Y (length T) (length ws) wide in
      let anew = m.built o (picked Y ks ++ us) in
      let was : renewed m draw change (works w ∷ acts) T i arrivals ≡ slice_set Y n anew = ap (λ q. on_written q (λ ws. slice_set (renewed m draw change acts (T ++ ws) i arrivals) n (m.built o (picked (renewed m draw change acts (T ++ ws) i arrivals) ks ++ take (length ws) (drop (length T) (renewed m draw change acts (T ++ ws) i arrivals))))) (changed m draw change 0 T)) did in
      let all : registers m draw (works w ∷ acts) T i arrivals ≡ F = ap (λ q. on_written q (λ ws. registers m draw acts (T ++ ws) i arrivals) T) did in
      let later : (r : ℕ) → is_among (before ++ n ∷ []) r ≡ false → slice_get X r ≡ slice_get Y r = λ r f.
      let both = among_neither before (n ∷ []) r f in
      b.later r both.0 ∙ ap (λ l. slice_get l r) was ∙ set_apart Y n r anew (λ s. no_more n r both.1 s) in
      let below : (r : ℕ) → is_among (before ++ n ∷ []) r ≡ true → r < next = λ r f. by_one r (among_one before (n ∷ []) r f) in
      let at_T : length (T ++ ws) ≡ next + count_written w = omega (arith, length-append T ws, b.long, count) in
      let whole_there : (j : ℕ) → whole (length T + j) ≡ true → slice_get ws j ≡ slice_get us j = λ j wr. whole_part j wr at_T wide many (written_or (slice_get ws j)) in
      let beside : Beside acts (T ++ ws) (U ++ us) X (next + count_written w) i (before ++ n ∷ []) arrivals = record {
        long = at_T;
        other_long = omega (arith, length-append U us, b.other_long, many, count);
        none = b.none;
        verified = b.verified.1;
        walks = b.walks.1;
        same = λ r wr. grow_alike T U ws us r (omega (arith, b.long, b.other_long)) (λ h. b.same r wr) (λ j s. whole_there j (ap whole (sym s) ∙ wr));
        came = λ r h br. came_so r h br later many (below_or_not r next);
        later = later;
        below = λ r f. let h = below r f in omega (arith, h);
        sized = b.sized ∙ ap length all;
        values = all_both T ws b.values valued;
        arrive = b.arrive;
      } in
      let rest : others ≡ picked X (received (next + count_written w) acts) ++ (exec m draw acts (T ++ ws) e (at + 1) i arrivals).left =
      are ∙ ap (λ q. picked X (received (next + count_written w) acts) ++ (on_written q (λ ws. exec m draw acts (T ++ ws) e (at + 1) i arrivals) (ends (stopped e (at + 1)) arrivals)).left) did in
      let goes = ih (T ++ ws) (U ++ us) X (next + count_written w) e (at + 1) i (before ++ n ∷ []) arrivals others beside rest in
      record {
        course = rw (did, undone) goes.course;
        there = λ r h br. let g = goes.there r (subst (λ (l : List A). r < length l) all h) br in rw undone g;
      }
    where
      no_more : (n r : ℕ) → is_among (n ∷ []) r ≡ false → n ≡ r → ⊥
      no_more n r f s = let t : is_among (n ∷ []) r ≡ true = ap (λ k. is_among (n ∷ []) k) (sym s) ∙ among_first n [] in cc

      by_one : (r : ℕ) → (is_among before r ≡ true) ⊎ (is_among (n ∷ []) r ≡ true) → r < next
      by_one r (inl f) = b.below r f
      by_one r (inr f) = one_is (same_or_not n r)
        where
          one_is : (n ≡ r) ⊎ (n ≡ r → ⊥) → r < next
          one_is (inl s) = omega (arith, s, less)
          one_is (inr apart) = absurd (apart_is apart f)
            where
              apart_is : (n ≡ r → ⊥) → is_among (n ∷ []) r ≡ true → ⊥
              apart_is apart f = by (nat_eq n r) refl
                where
                  by : (c : Bool) → nat_eq n r ≡ c → ⊥
                  by true s = apart (eqb-true n r s)
                  by false s = let t : (nat_eq n r || false) ≡ false = ap (λ b. b || false) s in cc

      all_both : (T ws : List A) → Valued m T → Valued m ws → Valued m (T ++ ws)
      all_both [] ws h k = k
      all_both (t ∷ T) ws h k = (h.0, all_both T ws h.1 k)

      Y : List A
      Y = renewed m draw change acts (T ++ ws) i arrivals

      us : List A
      us = take (length ws) (drop (length T) Y)

      whole_part : (j : ℕ) → whole (length T + j) ≡ true → length (T ++ ws) ≡ next + count_written (undo o ks n) → length T + length ws ≤ length Y → length us ≡ length ws
          → (slice_get ws j ≡ None) ⊎ ((y : A) × (slice_get ws j ≡ Some y)) → slice_get ws j ≡ slice_get us j
      whole_part j wr at_T wide many (inl q) = by (slice_get us j) refl
        where
          by : (p : Option A) → slice_get us j ≡ p → slice_get ws j ≡ slice_get us j
          by None f = q ∙ sym f
          by (Some y) f =
              let less = got_within us j y f in
              let z = slice_get-there ws j (omega (arith, less, many)) in
              let no : None ≡ Some z.0 = sym q ∙ z.1 in
              cc
      whole_part j wr at_T wide many (inr q) =
          let less = got_within ws j q.0 q.1 in
          let there = written_there m lawful draw draw_is change change_is whole brought fixed keeps kept acts T ws i arrivals j q.0 q.1 in
          let same = stays_whole m lawful draw draw_is change change_is whole brought fixed keeps kept acts (T ++ ws) (next + count_written (undo o ks n)) i arrivals (before ++ n ∷ []) at_T b.none b.verified.1 b.walks.1
          (all_both T ws b.values valued) b.arrive (length T + j) q.0 wr there in
          q.1 ∙ sym same ∙ sym (get_window Y (length T) (length ws) j less)

      came_so : (r : ℕ) → r < next + count_written (undo o ks n) → brought r ≡ true → ((r : ℕ) → is_among (before ++ n ∷ []) r ≡ false → slice_get X r ≡ slice_get Y r)
          → length us ≡ length ws → (r < next) ⊎ (next ≤ r) → slice_get (U ++ us) r ≡ slice_get X r
      came_so r h br later many (inl low) = get_front U us r (omega (arith, low, b.other_long)) ∙ b.came r low br
      came_so r h br later many (inr high) =
          let j = r - next in
          let at : r ≡ length U + j = omega (arith, high, b.other_long) in
          let at_Y : length T + j ≡ r = omega (arith, high, b.long) in
          let less : j < length ws = omega (arith, high, h, count) in
          let behind : is_among (before ++ n ∷ []) r ≡ false = not_before (before ++ n ∷ []) next r (λ k f. by_one k (among_one before (n ∷ []) k f)) high in
          ap (slice_get (U ++ us)) at ∙ get_behind U us j ∙ get_window Y (length T) (length ws) j less ∙ ap (slice_get Y) at_Y ∙ sym (later r behind)

  -- ---- both stop

  stop_both : (acts : List Act) (w : Work) (T U X : List A) (next e at i : ℕ) (before : List ℕ) (arrivals others : List A) → Beside (works w ∷ acts) T U X next i before arrivals
      → worked m T w ≡ None → worked m U w ≡ None → others ≡ picked X (received next (works w ∷ acts)) ++ (exec m draw (works w ∷ acts) T e at i arrivals).left
      → GoAlike (works w ∷ acts) T U X e at i arrivals others
  stop_both acts w T U X next e at i before arrivals others b did other are =
      let all : registers m draw (works w ∷ acts) T i arrivals ≡ T = ap (λ q. on_written q (λ ws. registers m draw acts (T ++ ws) i arrivals) T) did in
      let left : (exec m draw (works w ∷ acts) T e at i arrivals).left ≡ arrivals =
      ap (λ q. (on_written q (λ ws. exec m draw acts (T ++ ws) e (at + 1) i arrivals) (ends (stopped e (at + 1)) arrivals)).left) did in
      let sized : length X ≡ next = b.sized ∙ ap length all ∙ b.long in
      let same : others ≡ arrivals = are ∙ ap (λ l. l ++ (exec m draw (works w ∷ acts) T e at i arrivals).left) (none_used (works w ∷ acts) X next sized) ∙ left in
      record {
        course = rw (did, other) record { end = refl; left = sym same; sent = refl };
        there = λ r h br. let low : r < next = omega (arith, h, ap length all, b.long) in rw other (b.came r low br);
      }

  -- ---- the runs

  course_undo : (acts : List Act) (ih : Alike acts) (o : Op) (ks : List ℕ) (n : ℕ) → Alike (works (undo o ks n) ∷ acts)
  course_undo acts ih o ks n T U X next e at i before arrivals others b are = by (whole n) refl (written_or (worked m T (undo o ks n)))
    where
      ready : IsReady m.has (length T) (undo o ks n)
      ready = subst (λ j. IsReady m.has j (undo o ks n)) (sym b.long) b.verified.0

      well : UndoesWell whole brought fixed ks n next (count_written (undo o ks n)) before
      well = b.walks.0

      less : n < next
      less = b.verified.0.3

      same_keys : picked T ks ≡ picked U ks
      same_keys = picked_same T U ks (λ k f. b.same k (well.keys k f))

      -- the second undoes as the first, where it has the same there
      as_first : slice_get T n ≡ slice_get U n → worked m U (undo o ks n) ≡ worked m T (undo o ks n)
      as_first s = sym (ap (λ l. option_and_then (m.undone o l) (slice_get T n)) same_keys ∙ ap (option_and_then (m.undone o (picked U ks))) s)

      -- the values behind
      window : List A → List A
      window ws = take (length ws) (drop (length T) (renewed m draw change acts (T ++ ws) i arrivals))

      next_undone : (ws : List A) → Undone m lawful draw draw_is T o ks n ws → worked m T (undo o ks n) ≡ Some ws → worked m U (undo o ks n) ≡ Some (window ws)
          → GoAlike (works (undo o ks n) ∷ acts) T U X e at i arrivals others
      next_undone ws u did other =
          undo_more acts ih o ks n T U X ws next e at i before arrivals others b did (parts_count m lawful draw draw_is T o ks n ws u) u.parts less other are

      wide : (ws : List A) → length T + length ws ≤ length (renewed m draw change acts (T ++ ws) i arrivals)
      wide ws = omega (arith, renewed_length m draw change acts (T ++ ws) i arrivals, registers_long m draw acts (T ++ ws) i arrivals, length-append T ws)

      grown : (ws : List A) → Undone m lawful draw draw_is T o ks n ws → length (T ++ ws) ≡ next + count_written (undo o ks n)
      grown ws u = omega (arith, length-append T ws, b.long, parts_count m lawful draw draw_is T o ks n ws u)

      still : (ws : List A) → Undone m lawful draw draw_is T o ks n ws → (r : ℕ) (y : A) → whole r ≡ true → slice_get (registers m draw acts (T ++ ws) i arrivals) r ≡ Some y
          → slice_get (renewed m draw change acts (T ++ ws) i arrivals) r ≡ Some y
      still ws u r y w f = stays_whole m lawful draw draw_is change change_is whole brought fixed keeps kept acts (T ++ ws) (next + count_written (undo o ks n)) i arrivals (before ++ n ∷ []) (grown ws u) b.none b.verified.1 b.walks.1
          (more_values m lawful draw draw_is change change_is whole brought fixed keeps kept T ws b.values u.parts) b.arrive r y w f

      -- the keys there
      keyed : (ws : List A) → Undone m lawful draw draw_is T o ks n ws → picked (renewed m draw change acts (T ++ ws) i arrivals) ks ≡ picked T ks
      keyed ws u = keys_same m lawful draw draw_is change change_is whole brought fixed keeps kept T ws (registers m draw acts (T ++ ws) i arrivals) (renewed m draw change acts (T ++ ws) i arrivals) ks
          (recursion_from_All (λ k. k < length T) ks ready.2) well.keys (λ k y f. registers_keep m draw acts (T ++ ws) i arrivals k y (slice_get-append T ws k y f)) (still ws u)

      by : (c : Bool) → whole n ≡ c → (worked m T (undo o ks n) ≡ None) ⊎ ((ws : List A) × (worked m T (undo o ks n) ≡ Some ws)) → GoAlike (works (undo o ks n) ∷ acts) T U X e at i arrivals others
      by true w (inl did) = stop_both acts (undo o ks n) T U X next e at i before arrivals others b did (as_first (b.same n w) ∙ did) are
      by true w (inr q) =
          let ws = q.0 in
          let u = undone_of_table m lawful draw draw_is T o ks n ws ready b.values q.1 in
          let parts : window ws ≡ ws = parts_same m lawful draw draw_is change change_is whole brought fixed keeps kept T ws (registers m draw acts (T ++ ws) i arrivals) (renewed m draw change acts (T ++ ws) i arrivals) (wide ws)
          (λ j y f. written_there m lawful draw draw_is change change_is whole brought fixed keeps kept acts T ws i arrivals j y f)
          (λ r y low high f. still ws u r y (well.parts w r (omega (arith, low, b.long)) (omega (arith, high, b.long, parts_count m lawful draw draw_is T o ks n ws u))) f) in
          next_undone ws u q.1 (as_first (b.same n w) ∙ q.1 ∙ ap Some (sym parts))
      by false w (inl did) =
          let v = slice_get-there T n (omega (arith, less, b.long)) in
          let here : slice_get (renewed m draw change (works (undo o ks n) ∷ acts) T i arrivals) n ≡ Some v.0 =
          ap (λ q. slice_get (on_written q (λ ws. built_anew m draw change (undo o ks n) (length T) (length ws) (renewed m draw change acts (T ++ ws) i arrivals)) (changed m draw change 0 T)) n) did
          ∙ changed_here m draw change T n v.0 v.1 ∙ ap Some (keeps n v.0 well.kept) in
          let same : slice_get T n ≡ slice_get U n = v.1 ∙ sym here ∙ sym (b.later n (well.first w)) ∙ sym (b.came n less (well.came w)) in
          stop_both acts (undo o ks n) T U X next e at i before arrivals others b did (as_first same ∙ did) are
      by false w (inr q) =
          let ws = q.0 in
          let u = undone_of_table m lawful draw draw_is T o ks n ws ready b.values q.1 in
          let Y = renewed m draw change acts (T ++ ws) i arrivals in
          let anew = m.built o (picked Y ks ++ window ws) in
          let within : n < length Y = omega (arith, less, b.long, wide ws) in
          let here : slice_get (renewed m draw change (works (undo o ks n) ∷ acts) T i arrivals) n ≡ Some anew =
          ap (λ q. slice_get (on_written q (λ ws. built_anew m draw change (undo o ks n) (length T) (length ws) (renewed m draw change acts (T ++ ws) i arrivals)) (changed m draw change 0 T)) n) q.1
          ∙ set_there Y n anew within in
          let there : slice_get U n ≡ Some anew = b.came n less (well.came w) ∙ b.later n (well.first w) ∙ here in
          let Y_is : Valued m Y = renewed_values m lawful draw draw_is change change_is whole brought fixed keeps kept acts (T ++ ws) (next + count_written (undo o ks n)) i arrivals (grown ws u) b.none b.verified.1
          (more_values m lawful draw draw_is change change_is whole brought fixed keeps kept T ws b.values u.parts) b.arrive in
          let window_is : Valued m (window ws) = all_take (λ x. IsTrue (m.is_value x)) (length ws) (drop (length T) Y) (all_drop (λ x. IsTrue (m.is_value x)) (length T) Y Y_is) in
          let many : length (picked T ks ++ window ws) ≡ arity o = omega (arith, length-append (picked T ks) (window ws), length-append (picked T ks) ws, u.long, window_length Y (length T) (length ws) (wide ws)) in
          let opens_so : m.undone o (picked T ks) (m.built o (picked T ks ++ window ws)) ≡ Some (window ws) =
          lawful.undone_of o (picked T ks) (window ws) u.could_be ready.0 u.keys_long many (as_values m lawful draw draw_is (picked T ks) (picked_values m lawful draw draw_is T ks b.values)) (as_values m lawful draw draw_is (window ws) window_is) in
          let other : worked m U (undo o ks n) ≡ Some (window ws) =
          ap (option_and_then (m.undone o (picked U ks))) there
          ∙ ap (λ l. m.undone o l (m.built o (picked Y ks ++ window ws))) (sym same_keys)
          ∙ ap (λ l. m.undone o (picked T ks) (m.built o (l ++ window ws))) (keyed ws u) ∙ opens_so in
          next_undone ws u q.1 other

  course_equal : (acts : List Act) (ih : Alike acts) (a c : ℕ) → Alike (works (equal a c) ∷ acts)
  course_equal acts ih a c T U X next e at i before arrivals others b are = by (alike m (slice_get T a) (slice_get T c)) refl
    where
      same_so : alike m (slice_get T a) (slice_get T c) ≡ alike m (slice_get U a) (slice_get U c)
      same_so = ap (λ x. alike m x (slice_get T c)) (b.same a b.walks.0.one) ∙ ap (alike m (slice_get U a)) (b.same c b.walks.0.other)

      by : (q : Bool) → alike m (slice_get T a) (slice_get T c) ≡ q → GoAlike (works (equal a c) ∷ acts) T U X e at i arrivals others
      by false f = stop_both acts (equal a c) T U X next e at i before arrivals others b (ap (λ (q : Bool). if q then Some [] else None) f) (ap (λ (q : Bool). if q then Some [] else None) (sym same_so ∙ f)) are
      by true f = record {
        course = rw (first, second) goes.course;
        there = λ r h br. let g = goes.there r (subst (λ (l : List A). r < length l) all h) br in rw all_other g;
      }
        where
          did : worked m T (equal a c) ≡ Some []
          did = ap (λ (q : Bool). if q then Some [] else None) f

          other : worked m U (equal a c) ≡ Some []
          other = ap (λ (q : Bool). if q then Some [] else None) (sym same_so ∙ f)

          zero_more : next + 0 ≡ next
          zero_more = omega arith

          first : exec m draw (works (equal a c) ∷ acts) T e at i arrivals ≡ exec m draw acts T e (at + 1) i arrivals
          first = ap (λ q. on_written q (λ ws. exec m draw acts (T ++ ws) e (at + 1) i arrivals) (ends (stopped e (at + 1)) arrivals)) did ∙ ap (λ l. exec m draw acts l e (at + 1) i arrivals) (append-nil T)

          second : exec m draw (works (equal a c) ∷ acts) U e at i others ≡ exec m draw acts U e (at + 1) i others
          second = ap (λ q. on_written q (λ ws. exec m draw acts (U ++ ws) e (at + 1) i others) (ends (stopped e (at + 1)) others)) other ∙ ap (λ l. exec m draw acts l e (at + 1) i others) (append-nil U)

          all : registers m draw (works (equal a c) ∷ acts) T i arrivals ≡ registers m draw acts T i arrivals
          all = ap (λ q. on_written q (λ ws. registers m draw acts (T ++ ws) i arrivals) T) did ∙ ap (λ l. registers m draw acts l i arrivals) (append-nil T)

          all_other : registers m draw (works (equal a c) ∷ acts) U i others ≡ registers m draw acts U i others
          all_other = ap (λ q. on_written q (λ ws. registers m draw acts (U ++ ws) i others) U) other ∙ ap (λ l. registers m draw acts l i others) (append-nil U)

          anew : renewed m draw change (works (equal a c) ∷ acts) T i arrivals ≡ renewed m draw change acts T i arrivals
          anew = ap (λ q. on_written q (λ ws. built_anew m draw change (equal a c) (length T) (length ws) (renewed m draw change acts (T ++ ws) i arrivals)) (changed m draw change 0 T)) did ∙ ap (λ l. renewed m draw change acts l i arrivals) (append-nil T)

          beside : Beside acts T U X next i before arrivals
          beside = record {
            long = b.long;
            other_long = b.other_long;
            none = b.none;
            verified = subst (λ n. IsVerified m.has acts n) zero_more b.verified.1;
            walks = subst (λ n. Walks whole brought fixed acts n before) zero_more (subst (λ l. Walks whole brought fixed acts (next + 0) l) (append-nil before) b.walks.1);
            same = b.same;
            came = b.came;
            later = λ r f. b.later r f ∙ ap (λ l. slice_get l r) anew;
            below = b.below;
            sized = b.sized ∙ ap length all;
            values = b.values;
            arrive = b.arrive;
          }

          goes : GoAlike acts T U X e (at + 1) i arrivals others
          goes = ih T U X next e (at + 1) i before arrivals others beside (are ∙ ap (λ n. picked X (received n acts) ++ (exec m draw (works (equal a c) ∷ acts) T e at i arrivals).left) zero_more ∙ ap (λ (q : Played A). picked X (received next acts) ++ q.left) first)

  pub goes_alike : (acts : List Act) → Alike acts
  goes_alike [] T U X next e at i before arrivals others b are = record {
    course = record { end = refl; left = sym are; sent = refl };
    there = λ r h br. b.came r (omega (arith, h, b.long)) br;
  }
  goes_alike (takes ∷ acts) T U X next e at i before arrivals others b are = absurd b.none
  goes_alike (draws ∷ acts) T U X next e at i before arrivals others b are =
      let beside = own_more acts T U X next i (i + 1) before arrivals (draw i) (draw i) b.long b.other_long b.none b.verified b.walks.1 b.same b.came b.later b.below b.sized b.values (draw_is i) b.arrive
      (λ w. refl) (λ br. let no = b.walks.0 in cc) in
      let goes = goes_alike acts (T ++ draw i ∷ []) (U ++ draw i ∷ []) X (next + 1) e (at + 1) (i + 1) before arrivals others beside are in
      record { course = goes.course; there = goes.there }
  goes_alike (receives ∷ acts) T U X next e at i before [] others b are =
      let empty : others ≡ [] = are ∙ ap (λ l. l ++ []) (none_used (receives ∷ acts) X next (b.sized ∙ b.long)) in
      record {
        course = rw empty record { end = refl; left = refl; sent = refl };
        there = λ r h br. let low : r < next = omega (arith, h, b.long) in rw empty (b.came r low br);
      }
  goes_alike (receives ∷ acts) T U X next e at i before (x ∷ arrivals) others b are =
      let more = registers_long m draw acts (T ++ x ∷ []) i arrivals in
      let y = slice_get-there X next (omega (arith, b.sized, b.long, more, length-append T (x ∷ []))) in
      let here : slice_get (registers m draw acts (T ++ x ∷ []) i arrivals) next ≡ Some x = registers_keep m draw acts (T ++ x ∷ []) i arrivals next x (last_there T x next (sym b.long)) in
      let alike_x : whole next ≡ true → x ≡ y.0 = λ w. let s : Some x ≡ Some y.0 = sym (same_later (receives ∷ acts) T U X next i before (x ∷ arrivals) b next x (omega arith) w here) ∙ y.1 in cc in
      let beside = own_more acts T U X next i i before arrivals x y.0 b.long b.other_long b.none b.verified b.walks b.same b.came b.later b.below b.sized b.values b.arrive.0 b.arrive.1 alike_x (λ br. y.1) in
      let others_then = picked X (received (next + 1) acts) ++ (exec m draw acts (T ++ x ∷ []) (e + 1) (at + 1) i arrivals).left in
      let first : others ≡ y.0 ∷ others_then = are ∙ ap (λ l. l ++ (exec m draw acts (T ++ x ∷ []) (e + 1) (at + 1) i arrivals).left) (picked_first X next y.0 (received (next + 1) acts) y.1) in
      let goes = goes_alike acts (T ++ x ∷ []) (U ++ y.0 ∷ []) X (next + 1) (e + 1) (at + 1) i before arrivals others_then beside refl in
      record { course = rw first goes.course; there = λ r h br. rw first (goes.there r h br) }
  goes_alike (sends q ∷ acts) T U X next e at i before arrivals others b are =
      let x = slice_get-there T q (omega (arith, b.long, b.verified.0)) in
      let y = slice_get-there U q (omega (arith, b.other_long, b.verified.0)) in
      let beside : Beside acts T U X next i before arrivals = record {
        long = b.long;
        other_long = b.other_long;
        none = b.none;
        verified = b.verified.1;
        walks = b.walks;
        same = b.same;
        came = b.came;
        later = b.later;
        below = b.below;
        sized = b.sized;
        values = b.values;
        arrive = b.arrive;
      } in
      let rest_are : others ≡ picked X (received next acts) ++ (exec m draw acts T (e + 1) (at + 1) i arrivals).left =
      are ∙ ap (λ o. picked X (received next acts) ++ (says_if o (exec m draw acts T (e + 1) (at + 1) i arrivals)).left) x.1 in
      let goes = goes_alike acts T U X next (e + 1) (at + 1) i before arrivals others beside rest_are in
      record { course = rw (x.1, y.1) (says_same x.0 y.0 _ _ goes.course); there = goes.there }
  goes_alike (works (make o ns) ∷ acts) T U X next e at i before arrivals others b are =
      let x = m.built o (picked T ns) in
      let y = m.built o (picked U ns) in
      let is = made_is m lawful draw draw_is T o ns (subst (λ n. IsReady m.has n (make o ns)) (sym b.long) b.verified.0) b.values in
      let walks = subst (λ l. Walks whole brought fixed acts (next + 1) l) (append-nil before) b.walks.1 in
      let alike_x : whole next ≡ true → x ≡ y = λ w. ap (m.built o) (picked_same T U ns (λ n f. b.same n (b.walks.0.operands w n f))) in
      let beside = own_more acts T U X next i i before arrivals x y b.long b.other_long b.none b.verified.1 walks b.same b.came b.later b.below b.sized b.values is b.arrive alike_x (λ br. let no = b.walks.0.own in cc) in
      let goes = goes_alike acts (T ++ x ∷ []) (U ++ y ∷ []) X (next + 1) e (at + 1) i before arrivals others beside are in
      record { course = goes.course; there = goes.there }
  goes_alike (works (undo o ks n) ∷ acts) T U X next e at i before arrivals others b are = course_undo acts (goes_alike acts) o ks n T U X next e at i before arrivals others b are
  goes_alike (works (equal a c) ∷ acts) T U X next e at i before arrivals others b are = course_equal acts (goes_alike acts) a c T U X next e at i before arrivals others b are
