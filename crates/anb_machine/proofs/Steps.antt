-- One instruction of a run.
use Rattle.std.proofs.Common.{◌≡◌, ◌<◌, ◌≤◌, ℕ, zero, suc, ◌+◌, List, [], ◌∷◌, ◌++◌, length, map, Bool, true, false, cond, Some, None, refl, sym, ap, ◌∙◌, subst, arith, length-append}
use Rattle.std.specs.Prelude.{slice_get, vec_capacity}
use Rattle.std.proofs.lemmas.List.{append-nil}
use Rattle.anb_lemmas.proofs.Options.{none_mapped, mapped_from}
use Rattle.anb_lemmas.proofs.Lists.{got_within}
use Rattle.anb_format.specs.Formats.{FormatValue}
use Rattle.anb_seal.specs.Streams.{draw_of}
use Rattle.anb_algebra.specs.ByteMeaning.{byte_meaning, has_operator}
use Rattle.anb_algebra.specs.ByteLawful.{bytes_are_lawful}
use Rattle.anb_term.specs.declared.term.Op.{Op}
use Rattle.anb_term.specs.Value.{Meaning}
use Rattle.anb_plays.specs.Plays.{ends, stopped}
use Rattle.anb_plays.specs.Codes.{Act, takes, draws, receives, sends, works, Work}
use Rattle.anb_plays.specs.Exec.{exec, worked, IsVerified}
use Rattle.anb_code.specs.declared.instr.Instr.{Instr}
use Rattle.anb_code.specs.declared.instr.Instr.TheVariants.{Take, Fresh, Recv, Send}
use Rattle.anb_code.specs.Meaning.{act_of}
use Rattle.anb_machine.specs.declared.state.RunState.{RunState}
use Rattle.anb_machine.specs.declared.turn.Turn.{Turn}
use Rattle.anb_machine.specs.declared.turn.Turn.TheVariants.{Message, Wants, Done, Stopped, NoMemory}
use Rattle.anb_machine.proofs.Works.{written_count}
use Rattle.anb_machine.specs.Standing.{acts_from, acts_left, acts_after, registers_of, registers_in, coming, IsKept, IsSameRun, IsNext, IsWork, AtReceive, ComesSame, TurnsTo, IsWorkReady, IsWorkDone}

-- ---- where a run stands

acts_at : (formats : List FormatValue) (instrs : List Instr) (n : ℕ) (x : Instr) → slice_get instrs n ≡ Some x → acts_from formats instrs n ≡ act_of formats x ∷ acts_from formats instrs (n + 1)
acts_at formats [] n x e = cc
acts_at formats (y ∷ ys) zero x e = let s : y ≡ x = cc in ap (λ z. act_of formats z ∷ map (act_of formats) ys) s
acts_at formats (y ∷ ys) (suc n) x e = rw (after n) (acts_at formats ys n x e) where
  after : (k : ℕ) → suc k + 1 ≡ suc (k + 1)
  after k = omega arith

pub at_next : (s : RunState) (x : Instr) → slice_get s.code.now.instrs s.next ≡ Some x → IsNext s (act_of s.algebra.formats x)
at_next s x e = record {
  within = got_within s.code.now.instrs s.next x e;
  acts = acts_at s.algebra.formats s.code.now.instrs s.next x e;
}

receives_next : (formats : List FormatValue) (instrs : List Instr) (n : ℕ) → AtReceive (acts_from formats instrs n) → (n < length instrs) × (acts_from formats instrs n ≡ receives ∷ acts_from formats instrs (n + 1))
receives_next formats [] zero h = absurd h
receives_next formats [] (suc n) h = absurd h
receives_next formats (y ∷ ys) zero h = (omega arith, first (act_of formats y) h) where
  first : (act : Act) → AtReceive (act ∷ map (act_of formats) ys) → act ∷ map (act_of formats) ys ≡ receives ∷ map (act_of formats) ys
  first receives h = refl
  first _ h = absurd h
receives_next formats (y ∷ ys) (suc n) h = let ih = receives_next formats ys n h in (omega (arith, ih.0), rw (after n) ih.1) where
  after : (k : ℕ) → suc k + 1 ≡ suc (k + 1)
  after k = omega arith

pub at_receive : (s : RunState) → AtReceive (acts_left s) → IsNext s receives
at_receive s h = let r = receives_next s.algebra.formats s.code.now.instrs s.next h in record { within = r.0; acts = r.1 }

-- ---- after an instruction

-- t is s after its next instruction, which wrote these values, after e sends and receives and i draws
pub record IsAfter (s t : RunState) (ws : List (List ℕ)) (e i : ℕ) : Type 0 where
  pub same : IsSameRun s t
  pub next : t.next ≡ s.next + 1
  pub event : t.event ≡ e
  pub drawn : t.drawn ≡ i
  pub table : t.registers.items ≡ s.registers.items ++ ws
  pub room : vec_capacity s.registers ≤ vec_capacity t.registers

pub rest_verified : (has : Op → Bool) (act : Act) (acts : List Act) (n : ℕ) → IsVerified has (act ∷ acts) n → IsVerified has acts (n + registers_of act)
rest_verified has takes acts n v = let none : n ≡ n + 0 = omega arith in subst (IsVerified has acts) none v
rest_verified has draws acts n v = v
rest_verified has receives acts n v = v
rest_verified has (sends r) acts n v = let none : n ≡ n + 0 = omega arith in subst (IsVerified has acts) none v.1
rest_verified has (works w) acts n v = v.1

pub kept_after : (s t : RunState) (act : Act) (ws : List (List ℕ)) (e i : ℕ) → IsKept s → IsNext s act → IsAfter s t ws e i → length ws ≡ registers_of act → e ≤ s.event + 1 → i ≤ s.drawn + 1 → IsKept t
kept_after s t act ws e i kept next after count few_events few_draws =
    let same = after.same in
    let formats : t.algebra.formats ≡ s.algebra.formats = ap (λ a. a.formats) same.algebra in
    let acts : acts_left t ≡ acts_after s = rw (same.algebra, same.code, after.next) refl in
    let long : length t.registers.items ≡ length s.registers.items + registers_of act = ap length after.table ∙ length-append s.registers.items ws ∙ ap (λ n. length s.registers.items + n) count in
    let before : IsVerified (has_operator s.algebra.formats) (act ∷ acts_after s) (length s.registers.items) =
    subst (λ l. IsVerified (has_operator s.algebra.formats) l (length s.registers.items)) next.acts kept.verified in
    let later = rest_verified (has_operator s.algebra.formats) act (acts_after s) (length s.registers.items) before in
    let total : registers_in (acts_left s) ≡ registers_of act + registers_in (acts_after s) = ap registers_in next.acts in
    let instrs : length t.code.now.instrs ≡ length s.code.now.instrs = ap (λ c. length c.instrs) same.code in
    record {
      formats = formats ∙ kept.formats ∙ sym (ap (λ c. c.formats) same.code);
      suite = ap (λ a. a.suite) same.algebra ∙ kept.suite ∙ sym (ap (λ c. c.suite) same.code);
      within = omega (arith, next.within, instrs, after.next);
      few = omega (arith, kept.few, instrs);
      events = omega (arith, kept.events, after.event, after.next, few_events);
      draws = omega (arith, kept.draws, after.drawn, after.next, few_draws);
      verified =
          let known : IsVerified (has_operator s.algebra.formats) (acts_after s) (length t.registers.items) = subst (IsVerified (has_operator s.algebra.formats) (acts_after s)) (sym long) later in
          let here : IsVerified (has_operator s.algebra.formats) (acts_left t) (length t.registers.items) = subst (λ l. IsVerified (has_operator s.algebra.formats) l (length t.registers.items)) (sym acts) known in
          subst (λ f. IsVerified (has_operator f) (acts_left t) (length t.registers.items)) (sym formats) here;
      room = omega (arith, kept.room, after.room, long, total, ap registers_in acts);
    }

-- what comes of t, in terms of s
comes_after : (s t : RunState) (ws : List (List ℕ)) (e i : ℕ) → IsAfter s t ws e i → (arrivals : List (List ℕ))
    → coming t arrivals ≡ exec (byte_meaning s.algebra.formats s.algebra.suite) (draw_of s.seed s.session) (acts_after s) (s.registers.items ++ ws) e (s.next + 1) i arrivals
comes_after s t ws e i after arrivals = let same = after.same in rw (same.algebra, same.code, same.seed, same.session, after.next, after.event, after.drawn, after.table) refl

-- what comes of s, with its next act in front
comes_from : (s : RunState) (act : Act) → IsNext s act → (arrivals : List (List ℕ))
    → coming s arrivals ≡ exec (byte_meaning s.algebra.formats s.algebra.suite) (draw_of s.seed s.session) (act ∷ acts_after s) s.registers.items s.event s.next s.drawn arrivals
comes_from s act next arrivals = ap (λ l. exec (byte_meaning s.algebra.formats s.algebra.suite) (draw_of s.seed s.session) l s.registers.items s.event s.next s.drawn arrivals) next.acts

pub received : (s t : RunState) (x : List ℕ) → IsNext s receives → IsAfter s t (x ∷ []) (s.event + 1) s.drawn → (arrivals : List (List ℕ)) → coming s (x ∷ arrivals) ≡ coming t arrivals
received s t x next after arrivals = comes_from s receives next (x ∷ arrivals) ∙ sym (comes_after s t (x ∷ []) (s.event + 1) s.drawn after arrivals)

pub received_kept : (s t : RunState) (x : List ℕ) → IsKept s → IsNext s receives → IsAfter s t (x ∷ []) (s.event + 1) s.drawn → IsKept t
received_kept s t x kept next after = kept_after s t receives (x ∷ []) (s.event + 1) s.drawn kept next after refl (omega arith) (omega arith)

-- a take writes nothing here
pub took : (s t : RunState) → IsKept s → IsNext s takes → IsAfter s t [] s.event s.drawn → IsKept t × ComesSame s t
took s t kept next after = (
  kept_after s t takes [] s.event s.drawn kept next after refl (omega arith) (omega arith),
  λ arrivals. comes_from s takes next arrivals
      ∙ ap (λ table. exec (byte_meaning s.algebra.formats s.algebra.suite) (draw_of s.seed s.session) (acts_after s) table s.event (s.next + 1) s.drawn arrivals) (sym (append-nil s.registers.items))
      ∙ sym (comes_after s t [] s.event s.drawn after arrivals),
)

-- a table with room for what is to come has room for an arrival
pub room_for_one : (s : RunState) → IsKept s → IsNext s receives → length s.registers.items < vec_capacity s.registers
room_for_one s kept next =
    let total : registers_in (acts_left s) ≡ registers_of receives + registers_in (acts_after s) = ap registers_in next.acts in
    omega (arith, kept.room, total)

pub taken : {A : Type 0} (b : Bool) (x y z : A) → b ≡ true → x ≡ cond b y z → x ≡ y
taken true x y z h e = e
taken false x y z h e = cc

goes : {A : Type 0} (m : Meaning A) (draw : ℕ → A) (acts : List Act) (w : Work) (table ws : List A) (e at i : ℕ) → worked m table w ≡ Some ws
    → (arrivals : List A) → exec m draw (works w ∷ acts) table e at i arrivals ≡ exec m draw acts (table ++ ws) e (at + 1) i arrivals
goes m draw acts w table ws e at i h arrivals = rw h refl

fails_at : {A : Type 0} (m : Meaning A) (draw : ℕ → A) (acts : List Act) (w : Work) (table : List A) (e at i : ℕ) → worked m table w ≡ None
    → (arrivals : List A) → exec m draw (works w ∷ acts) table e at i arrivals ≡ ends (stopped e (at + 1)) arrivals
fails_at m draw acts w table e at i h arrivals = rw h refl

-- a work that was done, and one whose demand fails
module _ (s : RunState) where
  pub did_work : (t : RunState) (act : Act) (went : Bool) → IsKept s → IsNext s act → IsWork act → went ≡ true
      → IsWorkDone (byte_meaning s.algebra.formats s.algebra.suite) s.registers.items act went t.registers.items
      → IsSameRun s t → t.next ≡ s.next + 1 → t.event ≡ s.event → t.drawn ≡ s.drawn → vec_capacity s.registers ≤ vec_capacity t.registers
      → IsKept t × ComesSame s t
  did_work t (works w) true kept next is went_on h same further event drawn room =
      let x = mapped_from (λ ws. s.registers.items ++ ws) (worked (byte_meaning s.algebra.formats s.algebra.suite) s.registers.items w) t.registers.items h in
      let verified : IsVerified (has_operator s.algebra.formats) (works w ∷ acts_after s) (length s.registers.items) =
      subst (λ l. IsVerified (has_operator s.algebra.formats) l (length s.registers.items)) next.acts kept.verified in
      let count = written_count (byte_meaning s.algebra.formats s.algebra.suite) (bytes_are_lawful s.algebra.formats s.algebra.suite) s.registers.items x.0 w verified.0 x.1 in
      let after : IsAfter s t x.0 s.event s.drawn = record { same = same; next = further; event = event; drawn = drawn; table = sym x.2; room = room } in (
        kept_after s t (works w) x.0 s.event s.drawn kept next after count (omega arith) (omega arith),
        λ arrivals. comes_from s (works w) next arrivals ∙ goes (byte_meaning s.algebra.formats s.algebra.suite) (draw_of s.seed s.session) (acts_after s) w s.registers.items x.0 s.event s.next s.drawn x.1 arrivals ∙ sym (comes_after s t x.0 s.event s.drawn after arrivals),
      )
  did_work t (works w) false kept next is went_on h same further event drawn room = cc
  did_work t act went kept next is went_on h same further event drawn room = absurd is

pub stops : (s : RunState) (act : Act) (went : Bool) (table : List (List ℕ)) → IsNext s act → IsWork act → went ≡ false
    → IsWorkDone (byte_meaning s.algebra.formats s.algebra.suite) s.registers.items act went table
    → (arrivals : List (List ℕ)) → coming s arrivals ≡ ends (stopped s.event (s.next + 1)) arrivals
stops s (works w) false table next is fails h arrivals =
    let none = none_mapped (λ ws. s.registers.items ++ ws) (worked (byte_meaning s.algebra.formats s.algebra.suite) s.registers.items w) h in
    comes_from s (works w) next arrivals ∙ fails_at (byte_meaning s.algebra.formats s.algebra.suite) (draw_of s.seed s.session) (acts_after s) w s.registers.items s.event s.next s.drawn none arrivals
stops s (works w) true table next is fails h arrivals = cc
stops s act went table next is fails h arrivals = absurd is

-- an instruction that is ready
pub work_ready : (s : RunState) (act : Act) → IsKept s → IsNext s act → IsWork act → IsWorkReady (has_operator s.algebra.formats) (length s.registers.items) act
work_ready s (works w) kept next is =
    let verified : IsVerified (has_operator s.algebra.formats) (works w ∷ acts_after s) (length s.registers.items) =
    subst (λ l. IsVerified (has_operator s.algebra.formats) l (length s.registers.items)) next.acts kept.verified in
    verified.0
work_ready s act kept next is = absurd is

-- a turn after others that gave nothing
pub turns_on : (s t u : RunState) (turn : Turn) → ComesSame s t → s.next ≤ t.next → TurnsTo t u turn → TurnsTo s u turn
turns_on s t u (Message b) same on h = (λ arrivals. same arrivals ∙ h.0 arrivals, omega (arith, h.1))
turns_on s t u (Wants e) same on h = (λ arrivals. same arrivals ∙ h.0 arrivals, h.1, h.2, omega (arith, h.3))
turns_on s t u Done same on h = λ arrivals. same arrivals ∙ h arrivals
turns_on s t u (Stopped halt) same on h = λ arrivals. same arrivals ∙ h arrivals
turns_on s t u NoMemory same on h = tt

-- what is none of these works on registers
pub is_work : (formats : List FormatValue) (x : Instr) → ((text : List ℕ) → x ≡ Take text → ⊥) → (x ≡ Fresh → ⊥) → (x ≡ Recv → ⊥) → ((r : ℕ) → x ≡ Send r → ⊥) → IsWork (act_of formats x)
is_work formats (Take text) take fresh recv send = take text refl
is_work formats Fresh take fresh recv send = fresh refl
is_work formats Recv take fresh recv send = recv refl
is_work formats (Send r) take fresh recv send = send r refl
is_work formats x take fresh recv send = tt

pub goes_on : (s t u : RunState) → ComesSame s t → ComesSame t u → ComesSame s u
goes_on s t u f g arrivals = f arrivals ∙ g arrivals

pub same_on : (s t u : RunState) → IsSameRun s t → IsSameRun t u → IsSameRun s u
same_on s t u f g = record { algebra = g.algebra ∙ f.algebra; code = g.code ∙ f.code; seed = g.seed ∙ f.seed; session = g.session ∙ f.session }
