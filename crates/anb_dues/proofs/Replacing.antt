-- Over bytes of the terms of a check's case the code says the first of the case's messages, whichever of the two values is read behind the check.
use Rattle.std.proofs.Common.{◌≡◌, ℕ, zero, suc, ◌+◌, ◌<◌, ◌≤◌, List, [], ◌∷◌, ◌++◌, length, map, Bool, true, false, cond, IsTrue, Option, Some, None, refl, sym, ap, ◌∙◌, subst, arith, append-nil, length-append}
use Rattle.std.specs.Prelude.{slice_get, unwrap_or, ◌==◌}
use Rattle.std.specs.List.{cons_option}
use Rattle.std.specs.Option.{option_and_then}
use Rattle.std.proofs.lemmas.Bool.{eq-eqb, eqb-true}
use Rattle.std.proofs.lemmas.List.{length-map}
use Rattle.anb_lemmas.proofs.Each.{each_got}
use Rattle.anb_lemmas.proofs.Numbers.{nat_eq-differs}
use Rattle.anb_term.specs.declared.term.Op.{Op}
use Rattle.anb_term.specs.Demand.{alike}
use Rattle.anb_term.specs.FreeAlgebra.{terms_over}
use Rattle.anb_term.specs.FreeLawful.{free_lawful}
use Rattle.anb_term.specs.Lawful.{Lawful, picked}
use Rattle.anb_term.specs.Tree.{Tree, leaf, trees_of, IsFormed, AreFormed}
use Rattle.anb_term.specs.Value.{Meaning}
use Rattle.anb_term.specs.View.{tree_of}
use Rattle.anb_term.proofs.Lists.{map-append, slice_get-append, slice_get-map, slice_get-there}
use Rattle.anb_algebra.specs.ByteMeaning.{has_operator}
use Rattle.anb_algebra.specs.ByteLawful.{bytes_are_lawful}
use Rattle.anb_code.specs.CodeValue.{CodeValue}
use Rattle.anb_code.specs.Meaning.{acts_of}
use Rattle.anb_plays.specs.Codes.{Act, takes, draws, receives, sends, works, Work, make, undo, equal}
use Rattle.anb_plays.specs.Exec.{exec, on_written, worked, count_written, HasTakes, IsReady, IsVerified}
use Rattle.anb_plays.specs.Fits.{Place, Along, AnySend, AnyWork, AnyBorder, after_take, after_label, after_work, start}
use Rattle.anb_plays.specs.Honest.{honest, made}
use Rattle.anb_plays.specs.Plans.{Event, know, fresh, send, recv, known}
use Rattle.anb_plays.specs.Plays.{Played, stopped, ends}
use Rattle.anb_plays.specs.Statements.{HonestAgree}
use Rattle.anb_plays.proofs.Exec.{exec_is_run, takes_ready}
use Rattle.anb_protocol.specs.Plays.{events_of, meaning_of}
use Rattle.anb_protocol.specs.Protocols.{ProtocolValue}
use Rattle.anb_protocol.specs.Texts.{IsTermOf}
use Rattle.anb_protocol.proofs.KnowLemmas.{formed}
use Rattle.anb_probe.specs.Cases.{IsOver, drawn, less, run_in_terms, without}
use Rattle.anb_probe.specs.Laws.{AreValuesOf, run_over}
use Rattle.anb_probe.proofs.Dropping.{over_said}
use Rattle.anb_distinguish.proofs.Dropped.{taking_less}
use Rattle.anb_suite.specs.Reading.{act_for, read_behind, read_by, read_for, work_for}
use Rattle.anb_suite.specs.Suites.{IsCaseOf}
use Rattle.anb_suite.specs.declared.cases.Case.{Case}
use Rattle.anb_suite.specs.declared.reading.Reading.{Reading}
use Rattle.anb_suite.specs.declared.reading.Reading.TheVariants.{Both, First, Second}
use Rattle.anb_suite.proofs.Messages.{sent_if}
use Rattle.anb_suite.proofs.Replaced.{reads_so, taking_by}
use Rattle.anb_suite.proofs.Stepping.{dropped, kept}
use Rattle.anb_tries.proofs.Refusing.{EachFrom, from_all, from_first, from_rest, grows, one_formed}
use Rattle.anb_dues.proofs.Firsts.{Are, Text}
use Rattle.anb_dues.proofs.Lines.{agrees, known_formed}
use Rattle.anb_dues.proofs.Stopping.{Grounds}
use Rattle.anb_dues.proofs.Working.{on_work, works_over}

-- ---- one register read for another that holds the same

module _ {A : Type 0} (vs : List A) (gone used : ℕ) (same : slice_get vs used ≡ slice_get vs gone) where
  read_same : (r : ℕ) → slice_get vs (read_for gone used r) ≡ slice_get vs r
  read_same r = by (r == gone) refl where
    by : (b : Bool) → (r == gone) ≡ b → slice_get vs (cond b used r) ≡ slice_get vs r
    by true e = same ∙ ap (slice_get vs) (sym (eqb-true r gone e))
    by false e = refl

  picked_same : (ns : List ℕ) → picked vs (map (read_for gone used) ns) ≡ picked vs ns
  picked_same [] = refl
  picked_same (n ∷ ns) = ap (λ o. cons_option o (picked vs (map (read_for gone used) ns))) (read_same n) ∙ ap (cons_option (slice_get vs n)) (picked_same ns)

  worked_same : (m : Meaning A) (w : Work) → worked m vs (work_for gone used w) ≡ worked m vs w
  worked_same m (make o ns) = ap (λ l. Some (m.built o l ∷ [])) (picked_same ns)
  worked_same m (undo o ks r) =
      ap (λ l. option_and_then (m.undone o l) (slice_get vs (read_for gone used r))) (picked_same ks) ∙ ap (option_and_then (m.undone o (picked vs ks))) (read_same r)
  worked_same m (equal a b) =
      ap (λ x. cond (alike m x (slice_get vs (read_for gone used b))) (Some []) None) (read_same a) ∙ ap (λ y. cond (alike m (slice_get vs a) y) (Some []) None) (read_same b)

-- ---- a code less a check

-- nothing is dropped behind it
none_dropped : (check k : ℕ) (acts : List Act) → check ≤ k → without (λ n. n == check) k acts ≡ acts
none_dropped check k [] few = refl
none_dropped check k (act ∷ acts) few =
    let later : (k + 1 == check) ≡ false = nat_eq-differs (k + 1) check (λ same. (let never : ⊥ = omega (arith, same, few) in never)) in
    kept check act acts k later ∙ ap (λ l. act ∷ l) (none_dropped check (k + 1) acts (omega (arith, few)))

-- ---- over terms, and over their values

module _ (m : Meaning Text) (lawful : Lawful m) (agrees : HonestAgree m) (atoms : ℕ → Text) (good : (n : ℕ) → IsTrue (m.is_value (atoms n))) (term_draw : ℕ → Tree) (draw : ℕ → Text) where
  abbrev of : Tree → Text
  of t = honest m atoms t

  abbrev over_terms : Meaning Tree
  over_terms = terms_over m.has

  -- the draw is the value of the name that is drawn
  abbrev Drawn : ℕ → Type 0
  Drawn i = (draw i ≡ honest m atoms (term_draw i)) × IsFormed m.has (term_draw i)

  -- so of all draws of these acts, of which the first has this number
  abbrev AllDrawn : List Act → ℕ → Type 0
  AllDrawn [] i = Unit {0}
  AllDrawn (draws ∷ acts) i = Drawn i × AllDrawn acts (i + 1)
  AllDrawn (takes ∷ acts) i = AllDrawn acts i
  AllDrawn (receives ∷ acts) i = AllDrawn acts i
  AllDrawn (sends r ∷ acts) i = AllDrawn acts i
  AllDrawn (works w ∷ acts) i = AllDrawn acts i

  abbrev Ordered : List Act → List Event → Place → Type 0
  Ordered acts es pl = Along AnySend AnyWork AnyBorder acts es pl

  all_drawn : (acts : List Act) (es : List Event) (pl : Place) (i : ℕ) → Ordered acts es pl → EachFrom (λ k t. Drawn k) i (made es) → AllDrawn acts i
  all_drawn [] es pl i order are = tt
  all_drawn (works w ∷ acts) es pl i order are = all_drawn acts es (after_work pl w) i order.1 are
  all_drawn (takes ∷ acts) (know t ∷ es) pl i order are = all_drawn acts es (after_take pl) i order are
  all_drawn (draws ∷ acts) (fresh t ∷ es) pl i order are = (from_first (λ k t. Drawn k) i t (made es) are, all_drawn acts es (after_label pl t) (i + 1) order (from_rest (λ k t. Drawn k) i t (made es) are))
  all_drawn (receives ∷ acts) (recv t ∷ es) pl i order are = all_drawn acts es (after_label pl t) i order.1 are
  all_drawn (sends r ∷ acts) (send t ∷ es) pl i order are = all_drawn acts es pl i order.2 are
  all_drawn (takes ∷ acts) [] pl i order are = absurd order
  all_drawn (takes ∷ acts) (fresh t ∷ es) pl i order are = absurd order
  all_drawn (takes ∷ acts) (send t ∷ es) pl i order are = absurd order
  all_drawn (takes ∷ acts) (recv t ∷ es) pl i order are = absurd order
  all_drawn (draws ∷ acts) [] pl i order are = absurd order
  all_drawn (draws ∷ acts) (know t ∷ es) pl i order are = absurd order
  all_drawn (draws ∷ acts) (send t ∷ es) pl i order are = absurd order
  all_drawn (draws ∷ acts) (recv t ∷ es) pl i order are = absurd order
  all_drawn (receives ∷ acts) [] pl i order are = absurd order
  all_drawn (receives ∷ acts) (know t ∷ es) pl i order are = absurd order
  all_drawn (receives ∷ acts) (fresh t ∷ es) pl i order are = absurd order
  all_drawn (receives ∷ acts) (send t ∷ es) pl i order are = absurd order
  all_drawn (sends r ∷ acts) [] pl i order are = absurd order
  all_drawn (sends r ∷ acts) (know t ∷ es) pl i order are = absurd order
  all_drawn (sends r ∷ acts) (fresh t ∷ es) pl i order are = absurd order
  all_drawn (sends r ∷ acts) (recv t ∷ es) pl i order are = absurd order

  -- where the first acts are over in terms, the others say the first values of what they say
  abbrev Says : (P Q : List Act) → (table : List Tree) → (e at e' at' i : ℕ) → (ps : List Tree) → Type 0
  Says P Q table e at e' at' i ps =
      IsOver (exec over_terms term_draw P table e at i ps) → Are of (exec m draw Q (map of table) e' at' i (map of ps)).sent (exec over_terms term_draw P table e at i ps).sent

  module _ (P Q : List Act) (table : List Tree) (e at e' at' i : ℕ) (ps : List Tree) where
    draws_on : Drawn i → Says P Q (table ++ term_draw i ∷ []) e (at + 1) e' (at' + 1) (i + 1) ps → Says (draws ∷ P) (draws ∷ Q) table e at e' at' i ps
    draws_on is ih over =
        subst (λ l. Are of (exec m draw Q l e' (at' + 1) (i + 1) (map of ps)).sent (exec over_terms term_draw P (table ++ term_draw i ∷ []) e (at + 1) (i + 1) ps).sent)
        (sym (grows of table (map of table) (term_draw i) (draw i) refl is.0)) (ih over)

    receives_on : (x : Tree) → Says P Q (table ++ x ∷ []) (e + 1) (at + 1) (e' + 1) (at' + 1) i ps → Says (receives ∷ P) (receives ∷ Q) table e at e' at' i (x ∷ ps)
    receives_on x ih over =
        subst (λ l. Are of (exec m draw Q l (e' + 1) (at' + 1) i (map of ps)).sent (exec over_terms term_draw P (table ++ x ∷ []) (e + 1) (at + 1) i ps).sent)
        (sym (grows of table (map of table) x (of x) refl refl)) (ih over)

    sends_on : (r s : ℕ) → r < length table → slice_get (map of table) s ≡ slice_get (map of table) r → Says P Q table (e + 1) (at + 1) (e' + 1) (at' + 1) i ps → Says (sends r ∷ P) (sends s ∷ Q) table e at e' at' i ps
    sends_on r s within read ih over =
        let x = slice_get-there table r within in
        let first = exec over_terms term_draw P table (e + 1) (at + 1) i ps in
        let later = exec m draw Q (map of table) (e' + 1) (at' + 1) i (map of ps) in
        let both : Are of (of x.0 ∷ later.sent) (x.0 ∷ first.sent) = (refl, ih (over_said (slice_get table r) first over)) in
        let in_terms = subst (Are of (of x.0 ∷ later.sent)) (sym (sent_if (slice_get table r) x.0 first x.1)) both in
        subst (λ l. Are of l (exec over_terms term_draw (sends r ∷ P) table e at i ps).sent) (sym (sent_if (slice_get (map of table) s) (of x.0) later (read ∙ slice_get-map of table r x.0 x.1))) in_terms

    works_on : (w v : Work) → AreFormed m.has (trees_of table) → IsReady m.has (length table) w → worked m (map of table) v ≡ worked m (map of table) w
        → ((ws : List Tree) → AreFormed m.has (trees_of (table ++ ws)) → length table + count_written w ≡ length (table ++ ws) → Says P Q (table ++ ws) e (at + 1) e' (at' + 1) i ps)
        → Says (works w ∷ P) (works v ∷ Q) table e at e' at' i ps
    works_on w v formed ready same ih over =
        let k = works_over m lawful agrees atoms good term_draw table w P e at i ps formed ready over in
        let in_terms = on_work over_terms term_draw w P table k.ws (table ++ k.ws) e at i ps k.written refl in
        let in_values = on_work m draw v Q (map of table) k.values (map of (table ++ k.ws)) e' at' i (map of ps) (same ∙ k.valued) k.joined in
        let here = ih k.ws k.formed k.long (subst (λ (q : Played Tree). IsOver q) in_terms over) in
        subst (λ (q : Played Tree). Are of (exec m draw (works v ∷ Q) (map of table) e' at' i (map of ps)).sent q.sent) (sym in_terms)
        (subst (λ (q : Played Text). Are of q.sent (exec over_terms term_draw P (table ++ k.ws) e (at + 1) i ps).sent) (sym in_values) here)

  module _ (gone used : ℕ) where
    -- both registers hold one value
    record Hold (table : List Tree) : Type 0 where
      x : Text
      first : slice_get (map of table) gone ≡ Some x
      second : slice_get (map of table) used ≡ Some x

    hold_more : (table ws : List Tree) → Hold table → Hold (table ++ ws)
    hold_more table ws h =
        let both = map-append of table ws in
        record {
          x = h.x;
          first = ap (λ l. slice_get l gone) both ∙ slice_get-append (map of table) (map of ws) gone h.x h.first;
          second = ap (λ l. slice_get l used) both ∙ slice_get-append (map of table) (map of ws) used h.x h.second;
        }

    one_longer : (acts : List Act) (table : List Tree) (t : Tree) → IsVerified m.has acts (length table + 1) → IsVerified m.has acts (length (table ++ t ∷ []))
    one_longer acts table t ready = subst (IsVerified m.has acts) (sym (length-append table (t ∷ []))) ready

    -- acts that read one of them for the other say the first values of what they say as they stand
    behind_says : (acts : List Act) (table : List Tree) (e at e' at' i : ℕ) (ps : List Tree) → Hold table → AllDrawn acts i → AreFormed m.has (trees_of table) → AreFormed m.has (trees_of ps)
        → IsVerified m.has (map (act_for gone used) acts) (length table) → Says (map (act_for gone used) acts) acts table e at e' at' i ps
    behind_says [] table e at e' at' i ps hold are formed fine ready = λ over. tt
    behind_says (takes ∷ acts) table e at e' at' i ps hold are formed fine ready = behind_says acts table e (at + 1) e' (at' + 1) i ps hold are formed fine ready
    behind_says (draws ∷ acts) table e at e' at' i ps hold are formed fine ready =
        let P = map (act_for gone used) acts in
        let t = term_draw i in
        draws_on P acts table e at e' at' i ps are.0
        (behind_says acts (table ++ t ∷ []) e (at + 1) e' (at' + 1) (i + 1) ps (hold_more table (t ∷ []) hold) are.1 (one_formed m table t formed are.0.1) fine (one_longer P table t ready))
    behind_says (receives ∷ acts) table e at e' at' i [] hold are formed fine ready = λ over. tt
    behind_says (receives ∷ acts) table e at e' at' i (x ∷ ps) hold are formed fine ready =
        let P = map (act_for gone used) acts in
        receives_on P acts table e at e' at' i ps x
        (behind_says acts (table ++ x ∷ []) (e + 1) (at + 1) (e' + 1) (at' + 1) i ps (hold_more table (x ∷ []) hold) are (one_formed m table x formed fine.0) fine.1 (one_longer P table x ready))
    behind_says (sends r ∷ acts) table e at e' at' i ps hold are formed fine ready =
        sends_on (map (act_for gone used) acts) acts table e at e' at' i ps (read_for gone used r) r ready.0 (sym (read_same (map of table) gone used (hold.second ∙ sym hold.first) r))
        (behind_says acts table (e + 1) (at + 1) (e' + 1) (at' + 1) i ps hold are formed fine ready.1)
    behind_says (works w ∷ acts) table e at e' at' i ps hold are formed fine ready =
        let P = map (act_for gone used) acts in
        works_on P acts table e at e' at' i ps (work_for gone used w) w formed ready.0 (sym (worked_same (map of table) gone used (hold.second ∙ sym hold.first) m w))
        (λ ws f long. behind_says acts (table ++ ws) e (at + 1) e' (at' + 1) i ps (hold_more table ws hold) are f fine (subst (IsVerified m.has P) long ready.1))

    module _ (check a b : ℕ) (holds : (vs : List Text) (x : Text) → slice_get vs a ≡ Some x → slice_get vs b ≡ Some x → (slice_get vs gone ≡ Some x) × (slice_get vs used ≡ Some x)) where
      alike_so : (o q : Option Text) → alike m o q ≡ true → (x : Text) × (o ≡ Some x) × (q ≡ Some x)
      alike_so None q e = absurd (cc)
      alike_so (Some x) None e = absurd (cc)
      alike_so (Some x) (Some y) e = (x, refl, ap Some (sym (lawful.tells x y e)))

      -- where the check holds the code goes on, and else it says nothing more
      at_check : (acts : List Act) (table : List Tree) (e at e' at' i : ℕ) (ps : List Tree) → AllDrawn acts i → AreFormed m.has (trees_of table) → AreFormed m.has (trees_of ps)
          → IsVerified m.has (map (act_for gone used) acts) (length table) → Says (map (act_for gone used) acts) (works (equal a b) ∷ acts) table e at e' at' i ps
      at_check acts table e at e' at' i ps are formed fine ready over = by (alike m (slice_get (map of table) a) (slice_get (map of table) b)) refl where
        by : (t : Bool) → alike m (slice_get (map of table) a) (slice_get (map of table) b) ≡ t
            → Are of (on_written (cond t (Some []) None) (λ ws. exec m draw acts (map of table ++ ws) e' (at' + 1) i (map of ps)) (ends (stopped e' (at' + 1)) (map of ps))).sent
            (exec over_terms term_draw (map (act_for gone used) acts) table e at i ps).sent
        by false y = tt
        by true y =
            let x = alike_so (slice_get (map of table) a) (slice_get (map of table) b) y in
            let both = holds (map of table) x.0 x.1 x.2 in
            let hold : Hold table = record { x = x.0; first = both.0; second = both.1 } in
            subst (λ l. Are of (exec m draw acts l e' (at' + 1) i (map of ps)).sent (exec over_terms term_draw (map (act_for gone used) acts) table e at i ps).sent) (sym (append-nil (map of table)))
            (behind_says acts table e at e' (at' + 1) i ps hold are formed fine ready over)

      abbrev lacking : ℕ → List Act → List Act
      lacking k acts = without (λ n. n == check) k acts

      not_yet : (j k : ℕ) → check ≡ k + suc (suc j) → (k + 1 == check) ≡ false
      not_yet j k is = nat_eq-differs (k + 1) check (λ same. (let never : ⊥ = omega (arith, same, is) in never))

      -- so over the acts from some one before the check on
      says_from : (acts : List Act) (j k : ℕ) (table : List Tree) (e at e' at' i : ℕ) (ps : List Tree) → check ≡ k + suc j → slice_get acts j ≡ Some (works (equal a b)) → AllDrawn acts i → AreFormed m.has (trees_of table)
          → AreFormed m.has (trees_of ps) → IsVerified m.has (read_behind (suc j) gone used acts) (length table) → Says (lacking k (read_behind (suc j) gone used acts)) acts table e at e' at' i ps
      says_from [] j k table e at e' at' i ps is here are formed fine ready = absurd (cc)
      says_from (takes ∷ acts) zero k table e at e' at' i ps is here are formed fine ready = absurd (cc)
      says_from (draws ∷ acts) zero k table e at e' at' i ps is here are formed fine ready = absurd (cc)
      says_from (receives ∷ acts) zero k table e at e' at' i ps is here are formed fine ready = absurd (cc)
      says_from (sends r ∷ acts) zero k table e at e' at' i ps is here are formed fine ready = absurd (cc)
      says_from (works (make o ns) ∷ acts) zero k table e at e' at' i ps is here are formed fine ready = absurd (cc)
      says_from (works (undo o ks r) ∷ acts) zero k table e at e' at' i ps is here are formed fine ready = absurd (cc)
      says_from (works (equal x y) ∷ acts) zero k table e at e' at' i ps is here are formed fine ready =
          let P = map (act_for gone used) acts in
          let one : x ≡ a = cc in
          let other : y ≡ b = cc in
          let number : k + 1 ≡ check = omega (arith, is) in
          let none : length table + 0 ≡ length table = omega arith in
          let gone_now : lacking k (works (equal x y) ∷ P) ≡ P = dropped check x y P k (eq-eqb (k + 1) check number) ∙ none_dropped check (k + 1) P (omega (arith, is)) in
          let same : works (equal a b) ≡ works (equal x y) = ap (λ n. works (equal n b)) (sym one) ∙ ap (λ n. works (equal x n)) (sym other) in
          subst (λ l. Says l (works (equal x y) ∷ acts) table e at e' at' i ps) (sym gone_now)
          (subst (λ (act : Act). Says P (act ∷ acts) table e at e' at' i ps) same (at_check acts table e at e' at' i ps are formed fine (subst (IsVerified m.has P) none ready.1)))
      says_from (takes ∷ acts) (suc j) k table e at e' at' i ps is here are formed fine ready =
          let M = read_behind (suc j) gone used acts in
          subst (λ l. Says l (takes ∷ acts) table e at e' at' i ps) (sym (kept check takes M k (not_yet j k is)))
          (says_from acts j (k + 1) table e (at + 1) e' (at' + 1) i ps (omega (arith, is)) here are formed fine ready)
      says_from (draws ∷ acts) (suc j) k table e at e' at' i ps is here are formed fine ready =
          let M = read_behind (suc j) gone used acts in
          let t = term_draw i in
          subst (λ l. Says l (draws ∷ acts) table e at e' at' i ps) (sym (kept check draws M k (not_yet j k is)))
          (draws_on (lacking (k + 1) M) acts table e at e' at' i ps are.0
          (says_from acts j (k + 1) (table ++ t ∷ []) e (at + 1) e' (at' + 1) (i + 1) ps (omega (arith, is)) here are.1 (one_formed m table t formed are.0.1) fine (one_longer M table t ready)))
      says_from (receives ∷ acts) (suc j) k table e at e' at' i [] is here are formed fine ready = λ over. tt
      says_from (receives ∷ acts) (suc j) k table e at e' at' i (x ∷ ps) is here are formed fine ready =
          let M = read_behind (suc j) gone used acts in
          subst (λ l. Says l (receives ∷ acts) table e at e' at' i (x ∷ ps)) (sym (kept check receives M k (not_yet j k is)))
          (receives_on (lacking (k + 1) M) acts table e at e' at' i ps x
          (says_from acts j (k + 1) (table ++ x ∷ []) (e + 1) (at + 1) (e' + 1) (at' + 1) i ps (omega (arith, is)) here are (one_formed m table x formed fine.0) fine.1 (one_longer M table x ready)))
      says_from (sends r ∷ acts) (suc j) k table e at e' at' i ps is here are formed fine ready =
          let M = read_behind (suc j) gone used acts in
          subst (λ l. Says l (sends r ∷ acts) table e at e' at' i ps) (sym (kept check (sends r) M k (not_yet j k is)))
          (sends_on (lacking (k + 1) M) acts table e at e' at' i ps r r ready.0 refl
          (says_from acts j (k + 1) table (e + 1) (at + 1) (e' + 1) (at' + 1) i ps (omega (arith, is)) here are formed fine ready.1))
      says_from (works w ∷ acts) (suc j) k table e at e' at' i ps is here are formed fine ready =
          let M = read_behind (suc j) gone used acts in
          subst (λ l. Says l (works w ∷ acts) table e at e' at' i ps) (sym (kept check (works w) M k (not_yet j k is)))
          (works_on (lacking (k + 1) M) acts table e at e' at' i ps w w formed ready.0 refl
          (λ ws f long. says_from acts j (k + 1) (table ++ ws) e (at + 1) e' (at' + 1) i ps (omega (arith, is)) here are f fine (subst (IsVerified m.has M) long ready.1)))

-- ---- a code as it is read

-- it reads one register for another, and where the check holds both hold what the two that it compares do
record ReadsSo (reading : Reading) (check a b : ℕ) (acts : List Act) : Type 0 where
  gone : ℕ
  used : ℕ
  is : read_behind check gone used acts ≡ read_by reading check a b acts
  holds : (vs : List Text) (x : Text) → slice_get vs a ≡ Some x → slice_get vs b ≡ Some x → (slice_get vs gone ≡ Some x) × (slice_get vs used ≡ Some x)

reads : (reading : Reading) (check a b : ℕ) (acts : List Act) → ReadsSo reading check a b acts
reads Both check a b acts = record { gone = a; used = a; is = reads_so Both check a b acts; holds = λ vs x one other. (one, one) }
reads First check a b acts = record { gone = b; used = a; is = reads_so First check a b acts; holds = λ vs x one other. (other, one) }
reads Second check a b acts = record { gone = a; used = b; is = reads_so Second check a b acts; holds = λ vs x one other. (one, other) }

-- ---- a check's case

module _ (p : ProtocolValue) (role : ℕ) (code : CodeValue) (g : Grounds p role (acts_of code)) (reading : Reading) (check : ℕ) (case : Case) (is : IsCaseOf p role code reading check case) (atoms draw : ℕ → Text) (values : AreValuesOf (meaning_of p) (events_of p role) atoms draw) where
  abbrev m : Meaning Text
  m = meaning_of p

  abbrev has : Op → Bool
  has = has_operator p.formats

  abbrev plan : List Event
  plan = events_of p role

  abbrev acts : List Act
  acts = acts_of code

  abbrev came : List Tree
  came = map tree_of case.arrivals.items

  abbrev value_of : Tree → Text
  value_of t = honest (meaning_of p) atoms t

  abbrev read_so : List Act
  read_so = read_by reading check is.a is.b (acts_of code)

  lawful : Lawful m
  lawful = bytes_are_lawful p.formats p.suite

  -- its draws are the values of the names that the role makes
  drawn_so : (i : ℕ) (t : Tree) → slice_get (made plan) i ≡ Some t → (draw i ≡ value_of (drawn plan i)) × IsFormed has (drawn plan i)
  drawn_so i t here =
      let same : drawn plan i ≡ t = ap (λ o. unwrap_or o (leaf 0)) here in
      (values.drawn i t here ∙ ap value_of (sym same), subst (IsFormed has) (sym same) (formed p t (each_got (IsTermOf p) (made plan) i t (g.ours.makes role) here)))

  reads_it : ReadsSo reading check is.a is.b acts
  reads_it = reads reading check is.a is.b acts

  number : check ≡ 0 + suc is.compares.at
  number = (let n = is.compares.counts in omega (arith, n))

  read_is : read_behind (suc is.compares.at) reads_it.gone reads_it.used acts ≡ read_so
  read_is = (let n : suc is.compares.at ≡ check = omega (arith, number) in ap (λ k. read_behind k reads_it.gone reads_it.used acts) n ∙ reads_it.is)

  taking : HasTakes has read_so 0 (length (known plan))
  taking = taking_by has reading check is.a is.b acts (length (known plan)) is.compares g.taking

  -- over these bytes the code says the first of the case's messages, and nothing else
  pub check_says : Are value_of (run_over m atoms draw plan acts came).sent (map tree_of case.messages.items)
  check_says =
      let r = reads_it in
      let long : length (map value_of (known plan)) ≡ length (known plan) = length-map (known plan) value_of in
      let in_values = exec_is_run m lawful draw acts (map value_of (known plan)) (map value_of came) (subst (HasTakes has acts 0) (sym long) g.taking) in
      let in_terms = exec_is_run (terms_over has) (free_lawful has) (drawn plan) (less check read_so) (known plan) came (taking_less check has read_so 0 0 (length (known plan)) taking) in
      let lacks : without (λ n. n == check) 0 (read_behind (suc is.compares.at) r.gone r.used acts) ≡ less check read_so = ap (without (λ n. n == check) 0) read_is in
      let are = all_drawn m lawful (agrees p role acts g) atoms values.values (drawn plan) draw acts plan (start plan) 0 g.fits.order (from_all (λ k t. (draw k ≡ value_of (drawn plan k)) × IsFormed has (drawn plan k)) (made plan) drawn_so) in
      let says = says_from m lawful (agrees p role acts g) atoms values.values (drawn plan) draw r.gone r.used check is.a is.b r.holds acts is.compares.at 0 (known plan) 0 0 0 0 0 came number is.compares.here are
      (known_formed p role acts g) is.is.formed.1.1 (subst (λ l. IsVerified has l (length (known plan))) (sym read_is) (takes_ready has read_so 0 (length (known plan)) taking)) in
      let same : exec (terms_over has) (drawn plan) (without (λ n. n == check) 0 (read_behind (suc is.compares.at) r.gone r.used acts)) (known plan) 0 0 0 came ≡ run_in_terms has plan (less check read_so) came =
      ap (λ l. exec (terms_over has) (drawn plan) l (known plan) 0 0 0 came) lacks ∙ in_terms in
      let said = says (subst (λ (q : Played Tree). IsOver q) (sym same) is.is.goes_on) in
      let by_messages = subst (Are value_of (exec m draw acts (map value_of (known plan)) 0 0 0 (map value_of came)).sent) (ap (λ (q : Played Tree). q.sent) same ∙ is.messages) said in
      subst (λ (q : Played Text). Are value_of q.sent (map tree_of case.messages.items)) in_values by_messages
