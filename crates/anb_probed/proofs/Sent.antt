-- How many messages acts send: as many as the plan that they follow says.
use Rattle.std.proofs.Common.{◌≡◌, ℕ, zero, suc, ◌+◌, List, [], ◌∷◌, ◌++◌, length, map, Bool, true, false, cond, Option, Some, None, refl, sym, ap, ◌∙◌, subst, arith, length-append}
use Rattle.std.specs.Prelude.{slice_get, ◌==◌}
use Rattle.anb_lemmas.proofs.Options.{mapped_from}
use Rattle.anb_term.specs.declared.term.Op.{Op}
use Rattle.anb_term.specs.FreeAlgebra.{terms, terms_over}
use Rattle.anb_term.specs.FreeLawful.{free_lawful}
use Rattle.anb_term.specs.Tree.{Tree}
use Rattle.anb_term.proofs.Lists.{slice_get-there}
use Rattle.anb_term.proofs.Steps.{bound}
use Rattle.anb_plays.specs.Plans.{Event, know, fresh, send, recv, known}
use Rattle.anb_plays.specs.Plays.{Played, stopped, done, ends}
use Rattle.anb_plays.specs.Codes.{Act, takes, draws, receives, sends, works, Work, make, undo, equal}
use Rattle.anb_plays.specs.Exec.{exec, on_written, worked, count_written, IsVerified, HasTakes}
use Rattle.anb_plays.specs.Fits.{Place, Along, AnySend, AnyWork, AnyBorder, after_take, after_label, after_work}
use Rattle.anb_plays.specs.Runs.{says_if}
use Rattle.anb_plays.proofs.Exec.{exec_is_run, takes_ready}
use Rattle.anb_probe.specs.Cases.{drawn, less, run_in_terms, without}
use Rattle.anb_probe.proofs.Dropping.{end_said}
use Rattle.anb_distinguish.specs.Finding.{IsCheck}
use Rattle.anb_distinguish.proofs.Dropped.{taking_less}
use Rattle.anb_openings.specs.Steps.{Progress, writing, drawing, saying, hearing, after, after_all}
use Rattle.anb_openings.proofs.Stepping.{count_is, worked_same}
use Rattle.anb_suite.specs.Reading.{act_for, read_behind, read_by}
use Rattle.anb_suite.specs.declared.reading.Reading.{Reading}
use Rattle.anb_suite.specs.declared.reading.Reading.TheVariants.{Both, First, Second}
use Rattle.anb_suite.proofs.Replaced.{taking_by}
use Rattle.anb_partner.specs.Plans.{said}
use Rattle.anb_dues.proofs.Comparing.{any_ready}

-- how many messages acts send
abbrev pub sends_of : List Act → ℕ
sends_of [] = 0
sends_of (takes ∷ acts) = sends_of acts
sends_of (draws ∷ acts) = sends_of acts
sends_of (receives ∷ acts) = sends_of acts
sends_of (sends r ∷ acts) = suc (sends_of acts)
sends_of (works w ∷ acts) = sends_of acts

pub sends_both : (xs ys : List Act) → sends_of (xs ++ ys) ≡ sends_of xs + sends_of ys
sends_both [] ys = omega arith
sends_both (takes ∷ xs) ys = sends_both xs ys
sends_both (draws ∷ xs) ys = sends_both xs ys
sends_both (receives ∷ xs) ys = sends_both xs ys
sends_both (sends r ∷ xs) ys = omega (arith, sends_both xs ys)
sends_both (works w ∷ xs) ys = sends_both xs ys

-- ---- as the plan has it

pub sends_as_said : (acts : List Act) (es : List Event) (s : Place) → Along AnySend AnyWork AnyBorder acts es s → sends_of acts ≡ length (said es)
sends_as_said [] [] s h = refl
sends_as_said [] (e ∷ es) s h = absurd h
sends_as_said (works w ∷ acts) es s h = sends_as_said acts es (after_work s w) h.1
sends_as_said (takes ∷ acts) [] s h = absurd h
sends_as_said (takes ∷ acts) (know x ∷ es) s h = sends_as_said acts es (after_take s) h
sends_as_said (takes ∷ acts) (fresh x ∷ es) s h = absurd h
sends_as_said (takes ∷ acts) (send x ∷ es) s h = absurd h
sends_as_said (takes ∷ acts) (recv x ∷ es) s h = absurd h
sends_as_said (draws ∷ acts) [] s h = absurd h
sends_as_said (draws ∷ acts) (know x ∷ es) s h = absurd h
sends_as_said (draws ∷ acts) (fresh x ∷ es) s h = sends_as_said acts es (after_label s x) h
sends_as_said (draws ∷ acts) (send x ∷ es) s h = absurd h
sends_as_said (draws ∷ acts) (recv x ∷ es) s h = absurd h
sends_as_said (receives ∷ acts) [] s h = absurd h
sends_as_said (receives ∷ acts) (know x ∷ es) s h = absurd h
sends_as_said (receives ∷ acts) (fresh x ∷ es) s h = absurd h
sends_as_said (receives ∷ acts) (send x ∷ es) s h = absurd h
sends_as_said (receives ∷ acts) (recv x ∷ es) s h = sends_as_said acts es (after_label s x) h.1
sends_as_said (sends r ∷ acts) [] s h = absurd h
sends_as_said (sends r ∷ acts) (know x ∷ es) s h = absurd h
sends_as_said (sends r ∷ acts) (fresh x ∷ es) s h = absurd h
sends_as_said (sends r ∷ acts) (send x ∷ es) s h = ap suc (sends_as_said acts es s h.2)
sends_as_said (sends r ∷ acts) (recv x ∷ es) s h = absurd h

-- ---- a code that reads one register for another sends as much

module _ (gone used : ℕ) where
  sends_for : (acts : List Act) → sends_of (map (act_for gone used) acts) ≡ sends_of acts
  sends_for [] = refl
  sends_for (takes ∷ acts) = sends_for acts
  sends_for (draws ∷ acts) = sends_for acts
  sends_for (receives ∷ acts) = sends_for acts
  sends_for (sends r ∷ acts) = ap suc (sends_for acts)
  sends_for (works w ∷ acts) = sends_for acts

  sends_behind : (n : ℕ) (acts : List Act) → sends_of (read_behind n gone used acts) ≡ sends_of acts
  sends_behind zero acts = sends_for acts
  sends_behind (suc n) [] = refl
  sends_behind (suc n) (takes ∷ acts) = sends_behind n acts
  sends_behind (suc n) (draws ∷ acts) = sends_behind n acts
  sends_behind (suc n) (receives ∷ acts) = sends_behind n acts
  sends_behind (suc n) (sends r ∷ acts) = ap suc (sends_behind n acts)
  sends_behind (suc n) (works w ∷ acts) = sends_behind n acts

sends_by : (reading : Reading) (check a b : ℕ) (acts : List Act) → sends_of (read_by reading check a b acts) ≡ sends_of acts
sends_by Both check a b acts = refl
sends_by First check a b acts = sends_behind b a check acts
sends_by Second check a b acts = sends_behind a b check acts

-- and so does one that lacks a check
module _ (check : ℕ) where
  abbrev drops : ℕ → Bool
  drops n = n == check

  sends_equal : (dropped : Bool) (a b : ℕ) (acts lacking : List Act) → sends_of lacking ≡ sends_of acts → sends_of (cond dropped [] (works (equal a b) ∷ []) ++ lacking) ≡ sends_of acts
  sends_equal true a b acts lacking same = same
  sends_equal false a b acts lacking same = same

  sends_less : (acts : List Act) (k : ℕ) → sends_of (without drops k acts) ≡ sends_of acts
  sends_less [] k = refl
  sends_less (takes ∷ acts) k = sends_less acts (k + 1)
  sends_less (draws ∷ acts) k = sends_less acts (k + 1)
  sends_less (receives ∷ acts) k = sends_less acts (k + 1)
  sends_less (sends r ∷ acts) k = ap suc (sends_less acts (k + 1))
  sends_less (works (make o rs) ∷ acts) k = sends_less acts (k + 1)
  sends_less (works (undo o ks r) ∷ acts) k = sends_less acts (k + 1)
  sends_less (works (equal a b) ∷ acts) k = sends_equal (k + 1 == check) a b acts (without drops (k + 1) acts) (sends_less acts (k + 1))

-- ---- a run that goes on act by act sends so many

module _ (made : List Tree) where
  heard_nothing : (s t : Progress Tree) (left : List Tree) → hearing left s ≡ Some t → length t.sent ≡ length s.sent
  heard_nothing s t [] e = cc
  heard_nothing s t (x ∷ left) e =
      let same : record s { table = s.table ++ x ∷ []; event = s.event + 1; left = left } ≡ t = cc in
      sym (ap (λ (u : Progress Tree). length u.sent) same)

  one_sends : (act : Act) (s t : Progress Tree) → after terms made act s ≡ Some t → length t.sent ≡ length s.sent + sends_of (act ∷ [])
  one_sends takes s t e = (let same : s ≡ t = cc in let sent = ap (λ (u : Progress Tree). length u.sent) same in omega (arith, sent))
  one_sends draws s t e = (let f = mapped_from (λ x. drawing x s) (slice_get made s.drawn) t e in let sent = ap (λ (u : Progress Tree). length u.sent) f.2 in omega (arith, sent))
  one_sends receives s t e = omega (arith, heard_nothing s t s.left e)
  one_sends (sends r) s t e =
      let f = mapped_from (λ x. saying x s) (slice_get s.table r) t e in
      let sent = ap (λ (u : Progress Tree). length u.sent) f.2 in
      sym sent ∙ length-append s.sent (f.0 ∷ [])
  one_sends (works w) s t e = (let f = mapped_from (λ ws. writing ws s) (worked terms s.table w) t e in let sent = ap (λ (u : Progress Tree). length u.sent) f.2 in omega (arith, sent))

  pub goes_sending : (acts : List Act) (s t : Progress Tree) → after_all terms made acts s ≡ Some t → length t.sent ≡ length s.sent + sends_of acts
  goes_sending [] s t e = (let same : s ≡ t = cc in let sent = ap (λ (u : Progress Tree). length u.sent) same in omega (arith, sent))
  goes_sending (act ∷ acts) s t e =
      let b = bound (after_all terms made acts) (after terms made act s) t e in
      omega (arith, one_sends act s b.0 b.1, goes_sending acts b.0 t b.2, sends_both (act ∷ []) acts)

-- ---- a run that goes on to its end does

module _ (has : Op → Bool) (draw : ℕ → Tree) where
  abbrev runs : List Act → List Tree → (e at i : ℕ) → List Tree → Played Tree
  runs acts table e at i left = exec (terms_over has) draw acts table e at i left

  by_written : (w : Work) (acts : List Act) (table : List Tree) (e at i : ℕ) (left : List Tree) (o : Option (List Tree)) → worked (terms_over has) table w ≡ o
      → ((ws : List Tree) → worked (terms_over has) table w ≡ Some ws → (runs acts (table ++ ws) e (at + 1) i left).end ≡ done → length (runs acts (table ++ ws) e (at + 1) i left).sent ≡ sends_of acts)
      → (on_written o (λ ws. runs acts (table ++ ws) e (at + 1) i left) (ends (stopped e (at + 1)) left)).end ≡ done
      → length (on_written o (λ ws. runs acts (table ++ ws) e (at + 1) i left) (ends (stopped e (at + 1)) left)).sent ≡ sends_of acts
  by_written w acts table e at i left None is on over = absurd (cc)
  by_written w acts table e at i left (Some ws) is on over = on ws is over

  runs_sending : (acts : List Act) (table : List Tree) (e at i : ℕ) (left : List Tree) → IsVerified has acts (length table) → (runs acts table e at i left).end ≡ done → length (runs acts table e at i left).sent ≡ sends_of acts
  runs_sending [] table e at i left ready over = refl
  runs_sending (takes ∷ acts) table e at i left ready over = runs_sending acts table e (at + 1) i left ready over
  runs_sending (draws ∷ acts) table e at i left ready over =
      runs_sending acts (table ++ draw i ∷ []) e (at + 1) (i + 1) left (subst (IsVerified has acts) (sym (length-append table (draw i ∷ []))) ready) over
  runs_sending (receives ∷ acts) table e at i [] ready over = absurd (cc)
  runs_sending (receives ∷ acts) table e at i (x ∷ left) ready over =
      runs_sending acts (table ++ x ∷ []) (e + 1) (at + 1) i left (subst (IsVerified has acts) (sym (length-append table (x ∷ []))) ready) over
  runs_sending (sends r ∷ acts) table e at i left ready over =
      let x = slice_get-there table r ready.0 in
      let next = runs acts table (e + 1) (at + 1) i left in
      let rest = runs_sending acts table (e + 1) (at + 1) i left ready.1 (sym (end_said (slice_get table r) next) ∙ over) in
      ap (λ o. length (says_if o next).sent) x.1 ∙ ap suc rest
  runs_sending (works w ∷ acts) table e at i left ready over =
      by_written w acts table e at i left (worked (terms_over has) table w) refl
      (λ ws is.
      let long = count_is w table ws (any_ready has (length table) w ready.0) (sym (worked_same has table w) ∙ is) in
      let n : length table + count_written w ≡ length (table ++ ws) = omega (arith, long, length-append table ws) in
      runs_sending acts (table ++ ws) e (at + 1) i left (subst (IsVerified has acts) n ready.1)) over

-- of a role's code that lacks a check, and reads so behind it
pub less_sending : (has : Op → Bool) (plan : List Event) (acts : List Act) (reading : Reading) (check a b : ℕ) (arrivals : List Tree) → IsCheck acts check a b → HasTakes has acts 0 (length (known plan))
    → (run_in_terms has plan (less check (read_by reading check a b acts)) arrivals).end ≡ done → length (run_in_terms has plan (less check (read_by reading check a b acts)) arrivals).sent ≡ sends_of acts
less_sending has plan acts reading check a b arrivals is taking over =
    let read = read_by reading check a b acts in
    let lacking = less check read in
    let takes_too = taking_less check has read 0 0 (length (known plan)) (taking_by has reading check a b acts (length (known plan)) is taking) in
    let same = exec_is_run (terms_over has) (free_lawful has) (drawn plan) lacking (known plan) arrivals takes_too in
    let ready = takes_ready has lacking 0 (length (known plan)) takes_too in
    let count = runs_sending has (drawn plan) lacking (known plan) 0 0 0 arrivals ready (ap (λ (p : Played Tree). p.end) same ∙ over) in
    ap (λ (p : Played Tree). length p.sent) (sym same) ∙ count ∙ sends_less check read 0 ∙ sends_by reading check a b acts
