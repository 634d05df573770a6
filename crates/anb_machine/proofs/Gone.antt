-- What an instruction leaves of a run's registers.
use Rattle.std.proofs.Common.{◌≡◌, ◌≤◌, ◌+◌, ℕ, zero, suc, List, [], ◌∷◌, ◌++◌, length, map, drop, Bool, true, Option, Some, None, Result, Ok, Err, IfOk, refl, sym, ap, ◌∙◌, subst, arith, inl, inr}
use Rattle.std.specs.Prelude.{slice_get}
use Rattle.std.proofs.lemmas.List.{append-nil}
use Rattle.anb_lemmas.proofs.Options.{mapped_from}
use Rattle.anb_base.specs.declared.TheConstants.{ARRIVAL, WIDE}
use Rattle.anb_base.specs.declared.content.Suite.{Suite}
use Rattle.anb_format.specs.Formats.{FormatValue}
use Rattle.anb_format.specs.Laws.{AreWithin}
use Rattle.anb_algebra.specs.ByteMeaning.{byte_meaning}
use Rattle.anb_plays.specs.Codes.{Act, works}
use Rattle.anb_plays.specs.Exec.{worked}
use Rattle.anb_plays.specs.Plays.{Played, says}
use Rattle.anb_code.specs.declared.instr.Instr.{Instr}
use Rattle.anb_code.specs.declared.instr.Instr.TheVariants.{Recv}
use Rattle.anb_code.specs.Meaning.{act_of}
use Rattle.anb_machine.specs.declared.state.RunState.{RunState}
use Rattle.anb_machine.specs.declared.turn.Turn.{Turn}
use Rattle.anb_machine.specs.declared.turn.Turn.TheVariants.{Message, Wants, Done, Stopped, NoMemory}
use Rattle.anb_machine.specs.Keeping.{HasGone, HasMoved, IsLean, IsThinned, new_widths, thinned_by}
use Rattle.anb_machine.specs.Standing.{AtReceive, ComesSame, IsKept, IsNarrowTurn, IsNext, IsSameRun, IsWork, IsWorkDone, StepsTo, acts_from, acts_left}
use Rattle.anb_machine.proofs.Lean.{drop_next, lean_moved, lean_stayed}
use Rattle.anb_machine.proofs.Steps.{work_ready}
use Rattle.anb_machine.proofs.Written.{HasWritten, work_within}

head_is : (instrs : List Instr) (n : ℕ) (x y : Instr) (rest : List Instr) → slice_get instrs n ≡ Some x → drop n instrs ≡ y ∷ rest → x ≡ y
head_is instrs n x y rest e d = let same = sym (drop_next instrs n x e) ∙ d in cc

module _ (s t : RunState) (x : Instr) (is : slice_get s.code.now.instrs s.next ≡ Some x) (further : t.next ≡ s.next + 1) where
  pub moves_nothing : t.registers.items ≡ s.registers.items → ((widths : List ℕ) → new_widths s.code.now.formats widths x ≡ []) → HasMoved s t
  moves_nothing e none = record {
    next = further;
    wrote = [];
    table = e ∙ sym (append-nil s.registers.items);
    within = λ instr widths d bound narrow long. subst (λ i. AreWithin [] (new_widths s.code.now.formats widths i)) (head_is s.code.now.instrs s.next x instr (drop (s.next + 1) s.code.now.instrs) is d) (subst (AreWithin []) (sym (none widths)) tt);
  }

  pub moves_one : (b : List ℕ) → t.registers.items ≡ s.registers.items ++ b ∷ [] → length b ≤ ARRIVAL → ((widths : List ℕ) → new_widths s.code.now.formats widths x ≡ ARRIVAL ∷ []) → HasMoved s t
  moves_one b e short one = record {
    next = further;
    wrote = b ∷ [];
    table = e;
    within = λ instr widths d bound narrow long. subst (λ i. AreWithin (b ∷ []) (new_widths s.code.now.formats widths i)) (head_is s.code.now.instrs s.next x instr (drop (s.next + 1) s.code.now.instrs) is d)
        (subst (AreWithin (b ∷ [])) (sym (one widths)) (short, tt));
  }

  done_wrote : (formats : List FormatValue) (suite : Suite) (table : List (List ℕ)) (act : Act) (new : List (List ℕ)) → IsWorkDone (byte_meaning formats suite) table act true new
      → (ws : List (List ℕ)) × (new ≡ table ++ ws) × HasWritten formats suite table act ws
  done_wrote formats suite table (works w) new h = let m = mapped_from (λ ws. table ++ ws) (worked (byte_meaning formats suite) table w) new h in (m.0, sym m.2, m.1)
  done_wrote formats suite table act new h = absurd h

  pub moves_work : IsKept s → IsNext s (act_of s.algebra.formats x) → IsWork (act_of s.algebra.formats x)
      → IsWorkDone (byte_meaning s.algebra.formats s.algebra.suite) s.registers.items (act_of s.algebra.formats x) true t.registers.items → HasMoved s t
  moves_work kept next is_works h =
      let d = done_wrote s.algebra.formats s.algebra.suite s.registers.items (act_of s.algebra.formats x) t.registers.items h in
      let ready = work_ready s (act_of s.algebra.formats x) kept next is_works in record {
        next = further;
        wrote = d.0;
        table = d.1;
        within = λ instr widths e bound narrow long. subst (λ i. AreWithin d.0 (new_widths s.code.now.formats widths i)) (head_is s.code.now.instrs s.next x instr (drop (s.next + 1) s.code.now.instrs) is e)
            (subst (λ (fs : List FormatValue). AreWithin d.0 (new_widths fs widths x)) kept.formats (work_within s.algebra.formats s.algebra.suite s.registers.items widths bound narrow x d.0 ready d.2));
      }

-- a run at a receive
receives_at : (formats : List FormatValue) (x : Instr) (acts : List Act) → AtReceive (act_of formats x ∷ acts) → x ≡ Recv
receives_at formats Recv acts h = refl
receives_at formats x acts h = absurd h

pub receive_is : (formats : List FormatValue) (instrs : List Instr) (n : ℕ) → AtReceive (acts_from formats instrs n) → slice_get instrs n ≡ Some Recv
receive_is formats [] zero h = absurd h
receive_is formats [] (suc n) h = absurd h
receive_is formats (x ∷ instrs) zero h = ap Some (receives_at formats x (map (act_of formats) instrs) h)
receive_is formats (x ∷ instrs) (suc n) h = receive_is formats instrs n h

-- ---- after registers were dropped

pub lean_after : (s t u : RunState) (x : Instr) → slice_get s.code.now.instrs s.next ≡ Some x → IsLean s → IsSameRun s t → IsSameRun t u → HasGone s t → IsThinned (thinned_by x (length s.registers.items)) t u → IsLean u
lean_after s t u x is lean st tu (inl stayed) thin = lean_stayed s t u (thinned_by x (length s.registers.items)) lean st tu stayed thin
lean_after s t u x is lean st tu (inr moved) thin = lean_moved s t u x is lean st tu moved thin

acts_same : (t u : RunState) → IsSameRun t u → u.next ≡ t.next → acts_left u ≡ acts_left t
acts_same t u same next = rw (same.algebra, same.code, next) refl

steps_thinned : (s t u : RunState) (among : ℕ → Bool) (turn : Option Turn) → IsSameRun t u → IsThinned among t u → ComesSame t u → StepsTo s t turn → StepsTo s u turn
steps_thinned s t u among None same thin comes h = (λ arrivals. h.0 arrivals ∙ comes arrivals, thin.next ∙ h.1)
steps_thinned s t u among (Some (Message b)) same thin comes h = (λ arrivals. h.0 arrivals ∙ says_same b (comes arrivals), omega (arith, h.1, thin.next)) where
  says_same : (b : List ℕ) {p q : Played (List ℕ)} → p ≡ q → says b p ≡ says b q
  says_same b e = ap (says b) e
steps_thinned s t u among (Some (Wants e)) same thin comes h =
    (λ arrivals. h.0 arrivals ∙ comes arrivals, subst AtReceive (sym (acts_same t u same thin.next)) h.1, h.2 ∙ ap (λ n. n + 1) (sym thin.event), omega (arith, h.3, thin.next))
steps_thinned s t u among (Some Done) same thin comes h = h
steps_thinned s t u among (Some (Stopped halt)) same thin comes h = h
steps_thinned s t u among (Some NoMemory) same thin comes h = h

pub stepped_thinned : {E : Type 0} (s t u : RunState) (among : ℕ → Bool) (r : Result (Option Turn) E) → IsSameRun t u → IsThinned among t u → ComesSame t u → IfOk r (λ turn. StepsTo s t turn) → IfOk r (λ turn. StepsTo s u turn)
stepped_thinned s t u among (Ok turn) same thin comes h = steps_thinned s t u among turn same thin comes h
stepped_thinned s t u among (Err e) same thin comes h = tt

pub narrow_of : (turn : Turn) → IsNarrowTurn (Some turn) → (b : List ℕ) → turn ≡ Message b → length b ≤ WIDE
narrow_of turn h b e = subst (λ t. IsNarrowTurn (Some t)) e h
