-- What a code says that lacks checks, where the values of the terms of a case come: the values of the case's messages, in time.
use Rattle.std.proofs.Common.{◌≡◌, ℕ, ◌+◌, List, [], ◌∷◌, ◌++◌, length, map, Bool, true, false, cond, IsTrue, Some, None, refl, sym, ap, ◌∙◌, subst, arith, append-nil, length-append}
use Rattle.std.specs.Prelude.{slice_get}
use Rattle.anb_term.specs.Demand.{alike}
use Rattle.anb_term.specs.FreeAlgebra.{terms_over}
use Rattle.anb_term.specs.Lawful.{Lawful}
use Rattle.anb_term.specs.Tree.{Tree, trees_of, IsFormed, AreFormed}
use Rattle.anb_term.specs.Value.{Meaning}
use Rattle.anb_term.proofs.Lists.{slice_get-map, slice_get-there}
use Rattle.anb_plays.specs.Codes.{Act, takes, draws, receives, sends, works, Work, make, undo, equal}
use Rattle.anb_plays.specs.Exec.{exec, worked, count_written, IsReady, IsVerified}
use Rattle.anb_plays.specs.Fits.{Place, Along, AnySend, AnyWork, AnyBorder, after_take, after_label, after_work}
use Rattle.anb_plays.specs.Honest.{honest, made}
use Rattle.anb_plays.specs.Plans.{Event, know, fresh, send, recv}
use Rattle.anb_plays.specs.Plays.{Played}
use Rattle.anb_plays.specs.Statements.{HonestAgree}
use Rattle.anb_probe.specs.Cases.{IsOver, without}
use Rattle.anb_probe.proofs.Dropping.{over_said}
use Rattle.anb_suite.proofs.Messages.{sent_if}
use Rattle.anb_transcript.specs.declared.transcript.TranscriptLine.{TranscriptLine}
use Rattle.anb_transcript.specs.declared.transcript.TranscriptLine.TheVariants.{In, Out}
use Rattle.anb_transcript.specs.Replays.{arrivals_of, messages_of}
use Rattle.anb_judge.specs.Verdicts.{sides}
use Rattle.anb_tries.proofs.Along.{Fits, next}
use Rattle.anb_tries.proofs.Refusing.{EachFrom, from_first, from_rest, grows, one_formed}
use Rattle.anb_dues.proofs.Firsts.{Are, Text}
use Rattle.anb_dues.proofs.Working.{none_written, on_work, works_over}

-- what is said in lines are the values of the first messages; more is said where that is next, and nothing behind the last
pub record Says (of : Tree → Text) (ss : List Bool) (ls : List TranscriptLine) (messages : List Tree) (rest : List Text) : Type 0 where
  pub are : Are of (messages_of ls) messages
  pub more : next ss ls ≡ Some true → (x : Text) × (later : List Text) × (rest ≡ x ∷ later)
  pub none : next ss ls ≡ None → rest ≡ []

module _ (m : Meaning Text) (lawful : Lawful m) (agrees : HonestAgree m) (atoms : ℕ → Text) (good : (n : ℕ) → IsTrue (m.is_value (atoms n))) (term_draw : ℕ → Tree) (draw : ℕ → Text) where
  abbrev of : Tree → Text
  of t = honest m atoms t

  abbrev over_terms : Meaning Tree
  over_terms = terms_over m.has

  -- ---- the draws

  -- a name that is drawn, and the draw is its value
  abbrev pub Drawn : ℕ → Tree → Type 0
  Drawn i t = (term_draw i ≡ t) × (draw i ≡ of t) × IsFormed m.has t

  -- the names of the plan from the i-th on are those that are drawn, and the draws are their values
  abbrev pub AreDrawn : ℕ → List Event → Type 0
  AreDrawn i es = EachFrom Drawn i (made es)

  abbrev Ordered : List Act → List Event → Place → Type 0
  Ordered acts es pl = Along AnySend AnyWork AnyBorder acts es pl

  -- what the run over terms sends
  abbrev Sends : List Bool → List TranscriptLine → List Text → Played Tree → Type 0
  Sends ss ls rest p = Says of ss ls p.sent rest

  -- through a work that both have
  module _ (ss : List Bool) (ls : List TranscriptLine) (xs rest : List Text) (w : Work) (P Q : List Act) (table : List Tree) (e at e' at' i : ℕ) (ps : List Tree) (formed : AreFormed m.has (trees_of table)) (ready : IsReady m.has (length table) w) where
    through : ((all : List Tree) (at at' : ℕ) → AreFormed m.has (trees_of all) → length table + count_written w ≡ length all → IsOver (exec over_terms term_draw P all e at i ps)
        → (exec m draw Q (map of all) e' at' i xs).sent ≡ messages_of ls ++ rest → Sends ss ls rest (exec over_terms term_draw P all e at i ps))
        → IsOver (exec over_terms term_draw (works w ∷ P) table e at i ps) → (exec m draw (works w ∷ Q) (map of table) e' at' i xs).sent ≡ messages_of ls ++ rest → Sends ss ls rest (exec over_terms term_draw (works w ∷ P) table e at i ps)
    through ih over sent =
        let k = works_over m lawful agrees atoms good term_draw table w P e at i ps formed ready over in
        let in_terms = on_work over_terms term_draw w P table k.ws (table ++ k.ws) e at i ps k.written refl in
        let in_values = on_work m draw w Q (map of table) k.values (map of (table ++ k.ws)) e' at' i xs k.valued k.joined in
        subst (Sends ss ls rest) (sym in_terms) (ih (table ++ k.ws) (at + 1) (at' + 1) k.formed k.long (subst (λ p. IsOver p) in_terms over) (sym (ap (λ (p : Played Text). p.sent) in_values) ∙ sent))

  module _ (ss : List Bool) (ls : List TranscriptLine) (xs rest : List Text) (x y : ℕ) (P Q : List Act) (table : List Tree) (e at e' at' i : ℕ) (ps : List Tree) (formed : AreFormed m.has (trees_of table)) (ready : IsReady m.has (length table) (equal x y))
      (ih : (at at' : ℕ) → IsOver (exec over_terms term_draw P table e at i ps) → (exec m draw Q (map of table) e' at' i xs).sent ≡ messages_of ls ++ rest → Sends ss ls rest (exec over_terms term_draw P table e at i ps)) where
    same_table : (ws : List Tree) → worked over_terms table (equal x y) ≡ Some ws → table ++ ws ≡ table
    same_table ws is = ap (λ l. table ++ l) (none_written (alike over_terms (slice_get table x) (slice_get table y)) ws is) ∙ append-nil table

    -- a comparison, which either run may lack
    at_equal : (b c : Bool) → (b ≡ true → c ≡ true) → IsOver (exec over_terms term_draw (cond b [] (works (equal x y) ∷ []) ++ P) table e at i ps)
        → (exec m draw (cond c [] (works (equal x y) ∷ []) ++ Q) (map of table) e' at' i xs).sent ≡ messages_of ls ++ rest → Sends ss ls rest (exec over_terms term_draw (cond b [] (works (equal x y) ∷ []) ++ P) table e at i ps)
    at_equal true true more over sent = ih at at' over sent
    at_equal true false more over sent = absurd (let never = more refl in cc)
    at_equal false true more over sent =
        let k = works_over m lawful agrees atoms good term_draw table (equal x y) P e at i ps formed ready over in
        let in_terms = on_work over_terms term_draw (equal x y) P table k.ws table e at i ps k.written (same_table k.ws k.written) in
        subst (Sends ss ls rest) (sym in_terms) (ih (at + 1) at' (subst (λ p. IsOver p) in_terms over) sent)
    at_equal false false more over sent =
        let k = works_over m lawful agrees atoms good term_draw table (equal x y) P e at i ps formed ready over in
        let same = same_table k.ws k.written in
        let in_terms = on_work over_terms term_draw (equal x y) P table k.ws table e at i ps k.written same in
        let in_values = on_work m draw (equal x y) Q (map of table) k.values (map of table) e' at' i xs k.valued (k.joined ∙ ap (map of) same) in
        subst (Sends ss ls rest) (sym in_terms) (ih (at + 1) (at' + 1) (subst (λ p. IsOver p) in_terms over) (sym (ap (λ (p : Played Text). p.sent) in_values) ∙ sent))

  module _ (p q : ℕ → Bool) where
    -- Where a code less some checks is over in terms, the code less these and maybe more says the values of the messages, each once the arrivals before it came.
    pub says_right : (acts : List Act) (es : List Event) (pl : Place) (k : ℕ) (table : List Tree) (e at e' at' i : ℕ) (ps : List Tree) (ls : List TranscriptLine) (ys rest : List Text) → ((n : ℕ) → p n ≡ true → q n ≡ true)
        → Ordered acts es pl → AreDrawn i es → AreFormed m.has (trees_of table) → AreFormed m.has (trees_of ps) → IsVerified m.has acts (length table)
        → IsOver (exec over_terms term_draw (without p k acts) table e at i ps) → Fits (sides es) ls → Are of (arrivals_of ls) ps
        → (exec m draw (without q k acts) (map of table) e' at' i (arrivals_of ls ++ ys)).sent ≡ messages_of ls ++ rest → Sends (sides es) ls rest (exec over_terms term_draw (without p k acts) table e at i ps)
    says_right [] [] pl k table e at e' at' i ps [] ys rest more order drawn formed fine ready over fits are sent = record { are = tt; more = λ n. absurd (cc); none = λ n. sym sent }
    says_right [] [] pl k table e at e' at' i ps (l ∷ ls) ys rest more order drawn formed fine ready over fits are sent = absurd (cc)
    says_right [] (x ∷ es) pl k table e at e' at' i ps ls ys rest more order drawn formed fine ready over fits are sent = absurd order
    says_right (works (make o ns) ∷ acts) es pl k table e at e' at' i ps ls ys rest more order drawn formed fine ready over fits are sent =
        through (sides es) ls (arrivals_of ls ++ ys) rest (make o ns) (without p (k + 1) acts) (without q (k + 1) acts) table e at e' at' i ps formed ready.0
        (λ all at at' f long over sent. says_right acts es (after_work pl (make o ns)) (k + 1) all e at e' at' i ps ls ys rest more order.1 drawn f fine (subst (IsVerified m.has acts) long ready.1) over fits are sent) over sent
    says_right (works (undo o ks n) ∷ acts) es pl k table e at e' at' i ps ls ys rest more order drawn formed fine ready over fits are sent =
        through (sides es) ls (arrivals_of ls ++ ys) rest (undo o ks n) (without p (k + 1) acts) (without q (k + 1) acts) table e at e' at' i ps formed ready.0
        (λ all at at' f long over sent. says_right acts es (after_work pl (undo o ks n)) (k + 1) all e at e' at' i ps ls ys rest more order.1 drawn f fine (subst (IsVerified m.has acts) long ready.1) over fits are sent) over sent
    says_right (works (equal x y) ∷ acts) es pl k table e at e' at' i ps ls ys rest more order drawn formed fine ready over fits are sent =
        let same : length table + 0 ≡ length table = omega arith in
        at_equal (sides es) ls (arrivals_of ls ++ ys) rest x y (without p (k + 1) acts) (without q (k + 1) acts) table e at e' at' i ps formed ready.0
        (λ at at' over sent. says_right acts es (after_work pl (equal x y)) (k + 1) table e at e' at' i ps ls ys rest more order.1 drawn formed fine (subst (IsVerified m.has acts) same ready.1) over fits are sent)
        (p (k + 1)) (q (k + 1)) (more (k + 1)) over sent
    says_right (takes ∷ acts) (know t ∷ es) pl k table e at e' at' i ps ls ys rest more order drawn formed fine ready over fits are sent =
        says_right acts es (after_take pl) (k + 1) table e (at + 1) e' (at' + 1) i ps ls ys rest more order drawn formed fine ready over fits are sent
    says_right (draws ∷ acts) (fresh t ∷ es) pl k table e at e' at' i ps ls ys rest more order drawn formed fine ready over fits are sent =
        let now = from_first Drawn i t (made es) drawn in
        let P = without p (k + 1) acts in
        let Q = without q (k + 1) acts in
        let values = grows of table (map of table) t (draw i) refl now.1 in
        subst (λ z. Sends (sides es) ls rest (exec over_terms term_draw P (table ++ z ∷ []) e (at + 1) (i + 1) ps)) (sym now.0)
        (says_right acts es (after_label pl t) (k + 1) (table ++ t ∷ []) e (at + 1) e' (at' + 1) (i + 1) ps ls ys rest more order (from_rest Drawn i t (made es) drawn) (one_formed m table t formed now.2) fine
        (subst (IsVerified m.has acts) (sym (length-append table (t ∷ []))) ready)
        (subst (λ z. IsOver (exec over_terms term_draw P (table ++ z ∷ []) e (at + 1) (i + 1) ps)) now.0 over) fits are
        (subst (λ l. (exec m draw Q l e' (at' + 1) (i + 1) (arrivals_of ls ++ ys)).sent ≡ messages_of ls ++ rest) values sent))
    says_right (receives ∷ acts) (recv t ∷ es) pl k table e at e' at' i ps [] ys rest more order drawn formed fine ready over fits are sent = record { are = tt; more = λ n. absurd (cc); none = λ n. absurd (cc) }
    says_right (receives ∷ acts) (recv t ∷ es) pl k table e at e' at' i ps (Out b ∷ ls) ys rest more order drawn formed fine ready over fits are sent = absurd (cc)
    says_right (receives ∷ acts) (recv t ∷ es) pl k table e at e' at' i [] (In b ∷ ls) ys rest more order drawn formed fine ready over fits are sent = absurd are
    says_right (receives ∷ acts) (recv t ∷ es) pl k table e at e' at' i (x ∷ ps) (In b ∷ ls) ys rest more order drawn formed fine ready over fits are sent =
        let Q = without q (k + 1) acts in
        let values = grows of table (map of table) x b refl are.0 in
        let on = says_right acts es (after_label pl t) (k + 1) (table ++ x ∷ []) (e + 1) (at + 1) (e' + 1) (at' + 1) i ps ls ys rest more order.1 drawn (one_formed m table x formed fine.0) fine.1
        (subst (IsVerified m.has acts) (sym (length-append table (x ∷ []))) ready) over (cc) are.1
        (subst (λ l. (exec m draw Q l (e' + 1) (at' + 1) i (arrivals_of ls ++ ys)).sent ≡ messages_of ls ++ rest) values sent) in
        record { are = on.are; more = on.more; none = on.none }
    says_right (sends r ∷ acts) (send t ∷ es) pl k table e at e' at' i ps [] ys rest more order drawn formed fine ready over fits are sent =
        let x = slice_get-there table r ready.0 in
        let later = exec m draw (without q (k + 1) acts) (map of table) (e' + 1) (at' + 1) i ys in
        record { are = tt; more = λ n. (of x.0, later.sent, sym sent ∙ sent_if (slice_get (map of table) r) (of x.0) later (slice_get-map of table r x.0 x.1)); none = λ n. absurd (cc) }
    says_right (sends r ∷ acts) (send t ∷ es) pl k table e at e' at' i ps (In b ∷ ls) ys rest more order drawn formed fine ready over fits are sent = absurd (cc)
    says_right (sends r ∷ acts) (send t ∷ es) pl k table e at e' at' i ps (Out b ∷ ls) ys rest more order drawn formed fine ready over fits are sent =
        let x = slice_get-there table r ready.0 in
        let first = exec over_terms term_draw (without p (k + 1) acts) table (e + 1) (at + 1) i ps in
        let later = exec m draw (without q (k + 1) acts) (map of table) (e' + 1) (at' + 1) i (arrivals_of ls ++ ys) in
        let whole : of x.0 ∷ later.sent ≡ b ∷ (messages_of ls ++ rest) = sym (sent_if (slice_get (map of table) r) (of x.0) later (slice_get-map of table r x.0 x.1)) ∙ sent in
        let same : b ≡ of x.0 = cc in
        let behind : later.sent ≡ messages_of ls ++ rest = cc in
        let on = says_right acts es pl (k + 1) table (e + 1) (at + 1) (e' + 1) (at' + 1) i ps ls ys rest more order.2 drawn formed fine ready.1 (over_said (slice_get table r) first over) (cc) are behind in
        let both : Are of (b ∷ messages_of ls) (x.0 ∷ first.sent) = (same, on.are) in
        record { are = subst (Are of (b ∷ messages_of ls)) (sym (sent_if (slice_get table r) x.0 first x.1)) both; more = on.more; none = on.none }
    says_right (takes ∷ acts) [] pl k table e at e' at' i ps ls ys rest more order drawn formed fine ready over fits are sent = absurd order
    says_right (takes ∷ acts) (fresh t ∷ es) pl k table e at e' at' i ps ls ys rest more order drawn formed fine ready over fits are sent = absurd order
    says_right (takes ∷ acts) (send t ∷ es) pl k table e at e' at' i ps ls ys rest more order drawn formed fine ready over fits are sent = absurd order
    says_right (takes ∷ acts) (recv t ∷ es) pl k table e at e' at' i ps ls ys rest more order drawn formed fine ready over fits are sent = absurd order
    says_right (draws ∷ acts) [] pl k table e at e' at' i ps ls ys rest more order drawn formed fine ready over fits are sent = absurd order
    says_right (draws ∷ acts) (know t ∷ es) pl k table e at e' at' i ps ls ys rest more order drawn formed fine ready over fits are sent = absurd order
    says_right (draws ∷ acts) (send t ∷ es) pl k table e at e' at' i ps ls ys rest more order drawn formed fine ready over fits are sent = absurd order
    says_right (draws ∷ acts) (recv t ∷ es) pl k table e at e' at' i ps ls ys rest more order drawn formed fine ready over fits are sent = absurd order
    says_right (receives ∷ acts) [] pl k table e at e' at' i ps ls ys rest more order drawn formed fine ready over fits are sent = absurd order
    says_right (receives ∷ acts) (know t ∷ es) pl k table e at e' at' i ps ls ys rest more order drawn formed fine ready over fits are sent = absurd order
    says_right (receives ∷ acts) (fresh t ∷ es) pl k table e at e' at' i ps ls ys rest more order drawn formed fine ready over fits are sent = absurd order
    says_right (receives ∷ acts) (send t ∷ es) pl k table e at e' at' i ps ls ys rest more order drawn formed fine ready over fits are sent = absurd order
    says_right (sends r ∷ acts) [] pl k table e at e' at' i ps ls ys rest more order drawn formed fine ready over fits are sent = absurd order
    says_right (sends r ∷ acts) (know t ∷ es) pl k table e at e' at' i ps ls ys rest more order drawn formed fine ready over fits are sent = absurd order
    says_right (sends r ∷ acts) (fresh t ∷ es) pl k table e at e' at' i ps ls ys rest more order drawn formed fine ready over fits are sent = absurd order
    says_right (sends r ∷ acts) (recv t ∷ es) pl k table e at e' at' i ps ls ys rest more order drawn formed fine ready over fits are sent = absurd order
