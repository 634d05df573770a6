-- A work on registers, as a trace tells it.
use Rattle.std.proofs.Common.{◌≡◌, ℕ, ◌+◌, List, [], ◌++◌, length, Bool, true, false, cond, Option, Some, None, Result, Ok, Err, refl, sym, ap, ◌∙◌, subst, arith, length-append, append-nil}
use Rattle.std.specs.Prelude.{IfOk}
use Rattle.anb_lemmas.proofs.Options.{none_mapped}
use Rattle.anb_base.specs.declared.content.NoMemory.{NoMemory}
use Rattle.anb_seal.specs.Streams.{draw_of}
use Rattle.anb_algebra.specs.ByteMeaning.{has_operator}
use Rattle.anb_algebra.specs.ByteLawful.{bytes_are_lawful}
use Rattle.anb_term.specs.declared.term.Op.{Op}
use Rattle.anb_plays.specs.Plays.{stopped}
use Rattle.anb_plays.specs.Codes.{Act, takes, draws, receives, sends, works, Work}
use Rattle.anb_plays.specs.Exec.{IsReady, on_written, worked}
use Rattle.anb_code.specs.declared.instr.Instr.{Instr}
use Rattle.anb_code.specs.Meaning.{act_of}
use Rattle.anb_machine.specs.ByteRuns.{meaning_of}
use Rattle.anb_machine.specs.Standing.{IsWork, IsWorkDone, IsWorkReady, registers_of}
use Rattle.anb_machine.proofs.Works.{written_count}
use Rattle.anb_trace.specs.declared.steps.Standing.{Standing}
use Rattle.anb_trace.specs.declared.steps.Told.{Told}
use Rattle.anb_trace.specs.Traces.{Rest, end_line, told}
use Rattle.anb_trace.specs.Tracing.{HasWritten, IsActReady, IsWithin, Tells, TellsWork, TellsWritten, behind}
use Rattle.anb_trace.specs.Words.{SubjectValue, instr_lines, why}

module _ (s : SubjectValue) (seed : List ℕ) (session : ℕ) (instr : Instr) (first at : ℕ) (old : Standing) (text : Told) (new : Standing) where
  abbrev tells : Act → Type 0
  tells act = (rest : Rest) → told s (draw_of seed session) act instr old.registers.items first old.events at old.drawn old.arrivals.now rest ≡ text.text.items ++ cond text.goes_on (behind new rest) []

  goes : (x y : List ℕ) → text.goes_on ≡ true → text.text.items ≡ x → x ++ y ≡ text.text.items ++ cond text.goes_on y []
  goes x y on is = rw (on, is) refl

  ends_here : (x : List ℕ) → text.goes_on ≡ false → text.text.items ≡ x → (y : List ℕ) → x ≡ text.text.items ++ cond text.goes_on y []
  ends_here x off is y = rw (off, is) (sym (append-nil x))

  did : (w : Work) → TellsWork s (works w) instr first at old text new → tells (works w)
  did w (events, drawn, arrivals, written) rest = by (worked (meaning_of s.code) old.registers.items w) written where
    by : (o : Option (List (List ℕ))) → TellsWritten s instr first at old text new o
        → on_written o (λ values. instr_lines s instr first values ++ rest (old.registers.items ++ values) old.events old.drawn old.arrivals.now)
        (instr_lines s instr first [] ++ end_line (stopped old.events (at + 1)) (why s old.registers.items instr))
        ≡ text.text.items ++ cond text.goes_on (behind new rest) []
    by None t = ends_here _ t.0 t.1 (behind new rest)
    by (Some values) t =
        let same : rest (old.registers.items ++ values) old.events old.drawn old.arrivals.now ≡ behind new rest = rw (t.2, events, drawn, arrivals) refl in
        ap (λ l. instr_lines s instr first values ++ l) same ∙ goes _ (behind new rest) t.0 t.1

  did_some : (w : Work) → IsReady (has_operator s.code.formats) (length old.registers.items) w → TellsWork s (works w) instr first at old text new → HasWritten (works w) old text new
  did_some w ready (events, drawn, arrivals, written) on = by (worked (meaning_of s.code) old.registers.items w) refl written where
    by : (o : Option (List (List ℕ))) → worked (meaning_of s.code) old.registers.items w ≡ o → TellsWritten s instr first at old text new o → length new.registers.items ≡ length old.registers.items + registers_of (works w)
    by None is t = let never : true ≡ false = sym on ∙ t.0 in absurd (cc)
    by (Some values) is t =
        let count = written_count (meaning_of s.code) (bytes_are_lawful s.code.formats s.code.suite) old.registers.items values w ready is in
        ap length t.2 ∙ length-append old.registers.items values ∙ ap (λ n. length old.registers.items + n) count

if_ok : {A E : Type 0} (P Q : A → Type 0) → ((a : A) → P a → Q a) → (r : Result A E) → IfOk r P → IfOk r Q
if_ok P Q f (Ok a) is = f a is
if_ok P Q f (Err other) is = tt

-- what is told of one
module _ (s : SubjectValue) (seed : List ℕ) (session : ℕ) (instr : Instr) (first at : ℕ) (old new : Standing) (r : Result Told NoMemory) where
  abbrev Each : Type 0
  Each = IfOk r (λ part. Tells s seed session instr first at old part new)
      × IfOk r (λ part. HasWritten (act_of s.code.formats instr) old part new)
      × IfOk r (λ part. IsWithin new (at + 1))

  pub step_works : IsWithin old at → IsWorkReady (has_operator s.code.formats) (length old.registers.items) (act_of s.code.formats instr)
      → IfOk r (λ part. TellsWork s (act_of s.code.formats instr) instr first at old part new) → Each
  step_works within ready all = by (act_of s.code.formats instr) refl ready all where
    by : (act : Act) → act_of s.code.formats instr ≡ act → IsWorkReady (has_operator s.code.formats) (length old.registers.items) act
        → IfOk r (λ part. TellsWork s act instr first at old part new) → Each
    by (works w) act ready all = (
      if_ok _ _ (λ part t. subst (tells s seed session instr first at old part new) (sym act) (did s seed session instr first at old part new w t)) r all,
      if_ok _ _ (λ part t. subst (λ (a : Act). HasWritten a old part new) (sym act) (did_some s seed session instr first at old part new w ready t)) r all,
      if_ok _ _ (λ part (t : TellsWork s (works w) instr first at old part new). (omega (arith, within.0, t.0), omega (arith, within.1, t.1))) r all,
    )
    by takes act ready all = absurd ready
    by draws act ready all = absurd ready
    by receives act ready all = absurd ready
    by (sends n) act ready all = absurd ready

-- a work is ready as an act
pub work_ready : (has : Op → Bool) (n : ℕ) (act : Act) → IsWork act → IsActReady has n act → IsWorkReady has n act
work_ready has n (works w) is ready = ready
work_ready has n takes is ready = absurd is
work_ready has n draws is ready = absurd is
work_ready has n receives is ready = absurd is
work_ready has n (sends r) is ready = absurd is

-- ---- one whose demand failed

module _ (s : SubjectValue) (instr : Instr) (first at : ℕ) (old : Standing) (part : Told) (new : Standing)
    (events : new.events ≡ old.events) (drawn : new.drawn ≡ old.drawn) (arrivals : new.arrivals.now ≡ old.arrivals.now) where
  pub work_failed : (act : Act) (table : List (List ℕ)) → IsWorkDone (meaning_of s.code) old.registers.items act false table → part.goes_on ≡ false
      → part.text.items ≡ instr_lines s instr first [] ++ end_line (stopped old.events (at + 1)) (why s old.registers.items instr) → TellsWork s act instr first at old part new
  work_failed (works w) table h off text =
      let none = none_mapped (λ ws. old.registers.items ++ ws) (worked (meaning_of s.code) old.registers.items w) h in
      (events, drawn, arrivals, subst (TellsWritten s instr first at old part new) (sym none) (off, text))
  work_failed takes table h off text = absurd h
  work_failed draws table h off text = absurd h
  work_failed receives table h off text = absurd h
  work_failed (sends r) table h off text = absurd h
