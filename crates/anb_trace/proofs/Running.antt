-- From one instruction of a trace to the next.
use Rattle.std.proofs.Common.{◌≡◌, ℕ, ◌+◌, ◌≤◌, List, [], ◌∷◌, ◌++◌, length, map, drop, Bool, true, false, cond, Option, Some, Err, refl, sym, ap, ◌∙◌, subst, arith, append-nil}
use Rattle.std.specs.Prelude.{slice_get}
use Rattle.std.proofs.lemmas.List.{drop_all}
use Rattle.anb_lemmas.proofs.Lists.{drop_at_got}
use Rattle.anb_base.specs.declared.TheConstants.{ARRIVAL, WIDE}
use Rattle.anb_base.proofs.Moving.{put_nothing}
use Rattle.anb_seal.specs.Streams.{draw_of}
use Rattle.anb_algebra.specs.ByteMeaning.{has_operator}
use Rattle.anb_plays.specs.Codes.{Act, takes, draws, receives, sends, works}
use Rattle.anb_plays.specs.Exec.{IsVerified}
use Rattle.anb_plays.specs.Plays.{done}
use Rattle.anb_plays.proofs.Exec.{takes_ready}
use Rattle.anb_code.specs.declared.instr.Instr.{Instr}
use Rattle.anb_code.specs.Meaning.{act_of, acts_of}
use Rattle.anb_code.specs.Registers.{count_written}
use Rattle.anb_code.specs.Taking.{take_texts}
use Rattle.anb_code.specs.Verified.{IsVerifiedCode}
use Rattle.anb_machine.proofs.Steps.{rest_verified}
use Rattle.anb_machine.proofs.Verified.{has_takes}
use Rattle.anb_text.specs.declared.writing.WriteNo.TheVariants as WriteNo
use Rattle.anb_text.specs.Writing.{IsWritten}
use Rattle.anb_text.proofs.Written.{Due, not_all}
use Rattle.anb_trace.specs.declared.steps.Standing.{Standing}
use Rattle.anb_trace.specs.declared.steps.Told.{Told}
use Rattle.anb_trace.specs.Traces.{end_line, told_all}
use Rattle.anb_trace.specs.Tracing.{HasWritten, IsActReady, Tells}
use Rattle.anb_trace.specs.Words.{SubjectValue}

module _ (s : SubjectValue) (seed : List ℕ) (session : ℕ) where
  -- what is told from where it stands
  abbrev pub coming : Standing → (first at : ℕ) → List ℕ
  coming t first at = told_all s (draw_of seed session) (drop at s.code.instrs) t.registers.items first t.events at t.drawn t.arrivals.now

  -- what is left is verified
  abbrev pub IsLeft : Standing → ℕ → Type 0
  IsLeft t at = IsVerified (has_operator s.code.formats) (map (act_of s.code.formats) (drop at s.code.instrs)) (length t.registers.items)

  pub at_end : (t : Standing) (first at : ℕ) → length s.code.instrs ≤ at → coming t first at ≡ end_line done []
  at_end t first at all = ap (λ (l : List Instr). told_all s (draw_of seed session) l t.registers.items first t.events at t.drawn t.arrivals.now) (drop_all at s.code.instrs all)

  module _ (at : ℕ) (x : Instr) (there : slice_get s.code.instrs at ≡ Some x) (first : ℕ) (old : Standing) where
    next : drop at s.code.instrs ≡ x ∷ drop (at + 1) s.code.instrs
    next = drop_at_got s.code.instrs at x there

    left_here : IsLeft old at → IsVerified (has_operator s.code.formats) (act_of s.code.formats x ∷ map (act_of s.code.formats) (drop (at + 1) s.code.instrs)) (length old.registers.items)
    left_here left = subst (λ (l : List Instr). IsVerified (has_operator s.code.formats) (map (act_of s.code.formats) l) (length old.registers.items)) next left

    ready_by : (act : Act) (acts : List Act) (n : ℕ) → IsVerified (has_operator s.code.formats) (act ∷ acts) n → IsActReady (has_operator s.code.formats) n act
    ready_by (works w) acts n v = v.0
    ready_by takes acts n v = tt
    ready_by draws acts n v = tt
    ready_by receives acts n v = tt
    ready_by (sends r) acts n v = tt

    pub is_ready : IsLeft old at → IsActReady (has_operator s.code.formats) (length old.registers.items) (act_of s.code.formats x)
    is_ready left = ready_by (act_of s.code.formats x) (map (act_of s.code.formats) (drop (at + 1) s.code.instrs)) (length old.registers.items) (left_here left)

    module _ (part : Told) (new : Standing) where
      pub left_next : part.goes_on ≡ true → HasWritten (act_of s.code.formats x) old part new → IsLeft old at → IsLeft new (at + 1)
      left_next on written left =
          let acts = map (act_of s.code.formats) (drop (at + 1) s.code.instrs) in
          subst (IsVerified (has_operator s.code.formats) acts) (sym (written on))
          (rest_verified (has_operator s.code.formats) (act_of s.code.formats x) acts (length old.registers.items) (left_here left))

      module _ (tells : Tells s seed session x first at old part new) where
        pub told_next : coming old first at ≡ part.text.items ++ cond part.goes_on (coming new (first + count_written s.code.formats x) (at + 1)) []
        told_next =
            ap (λ (l : List Instr). told_all s (draw_of seed session) l old.registers.items first old.events at old.drawn old.arrivals.now) next
            ∙ tells (λ table events drawn arrivals. told_all s (draw_of seed session) (drop (at + 1) s.code.instrs) table (first + count_written s.code.formats x) events (at + 1) drawn arrivals)

        pub goes_on : part.goes_on ≡ true → coming old first at ≡ part.text.items ++ coming new (first + count_written s.code.formats x) (at + 1)
        goes_on on = told_next ∙ ap (λ (b : Bool). part.text.items ++ cond b (coming new (first + count_written s.code.formats x) (at + 1)) []) on

        pub stops : part.goes_on ≡ false → coming old first at ≡ part.text.items
        stops off = told_next ∙ ap (λ (b : Bool). part.text.items ++ cond b (coming new (first + count_written s.code.formats x) (at + 1)) []) off ∙ append-nil part.text.items

-- all is left at the beginning
pub left_first : (s : SubjectValue) (seed : List ℕ) (session : ℕ) → IsVerifiedCode ARRIVAL WIDE s.code → (t : Standing) → length t.registers.items ≡ length (take_texts s.code.instrs) → IsLeft s seed session t 0
left_first s seed session verified t count =
    let has = has_operator s.code.formats in
    let code = s.code in
    subst (IsVerified has (acts_of code)) (sym count) (takes_ready has (acts_of code) 0 (length (take_texts code.instrs)) (has_takes ARRIVAL WIDE code verified))

-- where memory is wanting, nothing more is written
pub wanting : (whole : List ℕ) (a b : Option (List ℕ)) (f g : ℕ) (rest : List ℕ) → Due whole a b f g rest → IsWritten whole (Err WriteNo.NoMemory) a b f g
wanting whole a b f g rest due =
    not_all whole a b b f g g [] rest due WriteNo.NoMemory (record {
      whole = tt;
      part = (0, omega arith, put_nothing b);
      cause = λ never. absurd (cc);
      quiet = λ other. refl;
      never_falls = omega arith;
    })
