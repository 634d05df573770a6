-- How a rehearsal among honest roles ends, and what is answered then.
use Rattle.std.proofs.Common.{◌≡◌, ◌⊎◌, ℕ, Bool, true, false, cond, List, [], ◌∷◌, length, Option, Some, None, refl, ap, sym, ◌∙◌, subst, inl, inr}
use Rattle.std.specs.Prelude.{unwrap_or}
use Rattle.std.specs.Option.{option_or}
use Rattle.anb_base.specs.declared.TheConstants.{ARRIVAL}
use Rattle.anb_outcomes.specs.declared.rehearsals.Report.{Report}
use Rattle.anb_honest.specs.declared.report.RehearseEnd.{RehearseEnd}
use Rattle.anb_honest.specs.declared.report.RehearseEnd.TheVariants as ended
use Rattle.anb_honest.specs.Honest.{AreHonest, honest_end, honest_message, honest_report, long_turn}
use Rattle.anb_honest.specs.Joint.{Cast, cast, is_complete, is_long, long_end}
use Rattle.anb_protocol.specs.Choices.{first}
use Rattle.anb_protocol.specs.Plays.{honest_bytes}
use Rattle.anb_protocol.specs.Schedules.{Turn, taken}
use Rattle.anb_protocol.specs.Texts.{known_terms}
use Rattle.anb_status.specs.declared.status.Status.{Status}
use Rattle.anb_status.specs.declared.status.Status.TheVariants.{Done, LongMessage, NotAll}
use Rattle.anb_rehearse_commands.specs.RehearseCommand.{Tells, cast_of}
use Rattle.anb_rehearse_commands.specs.Telling.{GoesOn}

-- it is the end of a message that is too long, if any
abbrev pub IsLongEnd : Option RehearseEnd → Type 0
IsLongEnd None = Unit {0}
IsLongEnd (Some (ended.LongMessage action len)) = Unit {0}
IsLongEnd (Some (ended.AllDone report)) = ⊥
IsLongEnd (Some (ended.Part report)) = ⊥
IsLongEnd (Some (ended.Stopped role halt)) = ⊥

first_long : {A : Type 0} (f : A → Option RehearseEnd) → ((x : A) → IsLongEnd (f x)) → (xs : List A) → IsLongEnd (first f xs)
first_long f each [] = tt
first_long {A} f each (x ∷ xs) = by (f x) (each x) (first_long f each xs) where
  by : (o : Option RehearseEnd) → IsLongEnd o → IsLongEnd (first f xs) → IsLongEnd (option_or o (first f xs))
  by None long rest = rest
  by (Some e) long rest = long

long_ends : (action : ℕ) (bytes : List ℕ) → IsLongEnd (long_end action bytes)
long_ends action bytes = by (is_long bytes) where
  by : (b : Bool) → IsLongEnd (cond b (Some (ended.LongMessage action (length bytes))) None)
  by true = tt
  by false = tt

long_turns : (c : Cast) (atoms : ℕ → List ℕ) (t : Turn) → IsLongEnd (long_turn c atoms t)
long_turns c atoms t = by t.sends where
  by : (b : Bool) → IsLongEnd (cond b (long_end t.action (honest_message c atoms t.action)) None)
  by true = long_ends t.action (honest_message c atoms t.action)
  by false = tt

-- an end among honest roles is one of three
module _ (P : RehearseEnd → Type 0) (long : (action len : ℕ) → P (ended.LongMessage action len)) where
  unless_long : (o : Option RehearseEnd) (other : RehearseEnd) → IsLongEnd o → P other → P (unwrap_or o other)
  unless_long None other is p = p
  unless_long (Some (ended.LongMessage action len)) other is p = long action len
  unless_long (Some (ended.AllDone report)) other is p = absurd is
  unless_long (Some (ended.Part report)) other is p = absurd is
  unless_long (Some (ended.Stopped role halt)) other is p = absurd is

  pub honest_ends : (c : Cast) (atoms : ℕ → List ℕ) (turns : List ℕ)
      → (is_complete c (taken c.protocol turns) (length c.protocol.roles) ≡ true → P (ended.AllDone (honest_report c atoms turns)))
      → (is_complete c (taken c.protocol turns) (length c.protocol.roles) ≡ false → P (ended.Part (honest_report c atoms turns)))
      → P (honest_end c atoms turns)
  honest_ends c atoms turns done part =
      unless_long (first (λ t. long_end 0 (honest_bytes c.protocol atoms t)) (known_terms c.protocol)) _
      (first_long (λ t. long_end 0 (honest_bytes c.protocol atoms t)) (λ t. long_ends 0 (honest_bytes c.protocol atoms t)) (known_terms c.protocol))
      (unless_long (first (long_turn c atoms) (taken c.protocol turns)) _ (first_long (long_turn c atoms) (long_turns c atoms) (taken c.protocol turns))
      (by (is_complete c (taken c.protocol turns) (length c.protocol.roles)) refl))
    where
      by : (b : Bool) → is_complete c (taken c.protocol turns) (length c.protocol.roles) ≡ b
          → P (cond b (ended.AllDone (honest_report c atoms turns)) (ended.Part (honest_report c atoms turns)))
      by true e = done e
      by false e = part e

-- no role stops
pub goes_on : (c : Cast) (atoms : ℕ → List ℕ) (turns : List ℕ) → GoesOn (honest_end c atoms turns)
goes_on c atoms turns = honest_ends GoesOn (λ action len. tt) c atoms turns (λ e. tt) (λ e. tt)

-- done is a complete schedule, and a role that isn't done none
abbrev pub TellsDone : Cast → List ℕ → RehearseEnd → Type 0
TellsDone c turns end = (out : List ℕ) → Tells end Done out → is_complete c (taken c.protocol turns) (length c.protocol.roles) ≡ true

abbrev pub TellsNotAll : Cast → List ℕ → RehearseEnd → Type 0
TellsNotAll c turns end = (report : Report) (out : List ℕ) → Tells end (NotAll report) out → is_complete c (taken c.protocol turns) (length c.protocol.roles) ≡ false

not_done : (report : Report) {P : Type 0} → Done ≡ NotAll report → P
not_done report never = absurd (cc)

not_long : (action len : ℕ) {P : Type 0} → Done ≡ LongMessage action len → P
not_long action len never = absurd (cc)

not_all_long : (report : Report) (action len : ℕ) {P : Type 0} → NotAll report ≡ LongMessage action len → P
not_all_long report action len never = absurd (cc)

pub tells_done : (c : Cast) (atoms : ℕ → List ℕ) (turns : List ℕ) → TellsDone c turns (honest_end c atoms turns)
tells_done c atoms turns =
    honest_ends (TellsDone c turns) (λ action len out tells. not_long action len tells.0) c atoms turns (λ e out tells. e)
    (λ e out tells. not_done (honest_report c atoms turns) tells.0)

pub tells_not_all : (c : Cast) (atoms : ℕ → List ℕ) (turns : List ℕ) → TellsNotAll c turns (honest_end c atoms turns)
tells_not_all c atoms turns =
    honest_ends (TellsNotAll c turns) (λ action len report out tells. not_all_long report action len tells.0) c atoms turns
    (λ e report out tells. not_done report (sym tells.0)) (λ e report out tells. e)

-- an end tells one thing
pub tells_one : (end : RehearseEnd) (s t : Status) (one other : List ℕ) → Tells end s one → Tells end t other → (s ≡ t) × (one ≡ other)
tells_one (ended.AllDone report) s t one other x y = (x.0 ∙ sym y.0, x.1 ∙ sym y.1)
tells_one (ended.Part report) s t one other x y = (x.0 ∙ sym y.0, x.1 ∙ sym y.1)
tells_one (ended.LongMessage action len) s t one other x y = (x.0 ∙ sym y.0, x.1 ∙ sym y.1)
tells_one (ended.Stopped role halt) s t one other x y = absurd x
