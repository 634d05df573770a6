-- When a code is certified for a role, and why one is not.
use Rattle.std.specs.Prelude.{◌≡◌, ℕ, ◌+◌, List, [], ◌∷◌, Bool, true, false, Option, Some, None, slice_get, if◌then◌else◌, ◌⊎◌}
use Rattle.std.specs.Str.{bytes_eq}
use Rattle.anb_plays.specs.Fits.{start}
use Rattle.anb_code.specs.declared.instr.Instr.{Instr}
use Rattle.anb_code.specs.declared.instr.Instr.TheVariants.{Take, Fresh, Recv, Send}
use Rattle.anb_code.specs.CodeValue.{CodeValue}
use Rattle.anb_code.specs.Meaning.{acts_of}
use Rattle.anb_protocol.specs.Protocols.{ProtocolValue}
use Rattle.anb_protocol.specs.Texts.{term_text}
use Rattle.anb_protocol.specs.Plans.{PlanEvent, to_know, to_make, to_send, to_receive, plan_of}
use Rattle.anb_protocol.specs.Plays.{events_of, meaning_of}
use Rattle.anb_outcomes.specs.declared.certificates.CertifyNo.{CertifyNo}
use Rattle.anb_outcomes.specs.declared.certificates.CertifyNo.TheVariants.{Frame, Untrue, Sent, Loose, NoMemory}
use Rattle.anb_certify.specs.Along.{Finds}

-- ---- the frame of a code: its names, and the order of its takes, draws, receives and sends

-- suite, formats and names are the protocol's and the role's
pub record HasNames (p : ProtocolValue) (role : ℕ) (code : CodeValue) : Type 0 where
  pub suite : code.suite ≡ p.suite
  pub formats : code.formats ≡ p.formats
  pub protocol : code.protocol ≡ p.name
  pub name : slice_get p.roles role ≡ Some code.role

-- an instruction that works on registers alone
abbrev pub is_work : Instr → Bool
is_work (Take text) = false
is_work Fresh = false
is_work Recv = false
is_work (Send r) = false
is_work instr = true

-- an instruction does an event; a take has the text of what is known
abbrev pub does_event : ProtocolValue → Instr → PlanEvent → Bool
does_event p (Take text) (to_know t) = bytes_eq text (term_text p t)
does_event p Fresh (to_make t) = true
does_event p Recv (to_receive action t) = true
does_event p (Send r) (to_send action t) = true
does_event p instr event = false

-- the number of the first take, draw, receive or send that isn't the plan's next, where the first of these instructions
-- has number n; or one more than the last one's, where events are left
abbrev pub stray : ProtocolValue → List Instr → List PlanEvent → ℕ → Option ℕ
stray p [] [] n = None
stray p [] (e ∷ es) n = Some n
stray p (i ∷ is) [] n = if is_work i then stray p is [] (n + 1) else Some n
stray p (i ∷ is) (e ∷ es) n = if is_work i then stray p is (e ∷ es) (n + 1) else if does_event p i e then stray p is es (n + 1) else Some n

-- ---- the whole

-- the code has the role's names and the order of its plan
abbrev pub HasFrame : ProtocolValue → ℕ → CodeValue → Type 0
HasFrame p role code = HasNames p role code × (stray p code.instrs (plan_of p role) 1 ≡ None)

abbrev pub FindsOf : ProtocolValue → ℕ → CodeValue → Option CertifyNo → Type 0
FindsOf p role code found = Finds (meaning_of p) (acts_of code) (events_of p role) (start (events_of p role)) [] 1 found

-- the code is certified: it has the role's frame, and nothing is found along it
abbrev pub IsCertified : ProtocolValue → ℕ → CodeValue → Type 0
IsCertified p role code = HasFrame p role code × FindsOf p role code None

-- why a code is not certified
abbrev pub Refuses : ProtocolValue → ℕ → CodeValue → CertifyNo → Type 0
Refuses p role code (Frame n) = ((HasNames p role code → ⊥) × (n ≡ 0)) ⊎ (HasNames p role code × (stray p code.instrs (plan_of p role) 1 ≡ Some n))
Refuses p role code (Untrue n) = HasFrame p role code × FindsOf p role code (Some (Untrue n))
Refuses p role code (Sent n) = HasFrame p role code × FindsOf p role code (Some (Sent n))
Refuses p role code (Loose n register) = HasFrame p role code × FindsOf p role code (Some (Loose n register))
Refuses p role code NoMemory = Unit {0}
