-- A code that has done the first events of a plan.
use Rattle.std.specs.Prelude.{◌≡◌, ◌≢◌, ℕ, ◌+◌, ◌*◌, ◌^◌, ◌<◌, ◌≤◌, List, [], ◌∷◌, ◌++◌, length, map, count_by, Some, None, slice_get}
use Rattle.std.specs.List.{AllByRecursion, AllPairs}
use Rattle.std.specs.Set.{distinct_count}
use Rattle.anb_term.specs.declared.term.Term.{Term}
use Rattle.anb_base.specs.declared.TheConstants.{ARRIVAL, WIDE}
use Rattle.anb_format.specs.Formats.{FormatValue}
use Rattle.anb_term.specs.Tree.{Tree, tree_size, nodes, tree_eqb, IsFormed}
use Rattle.anb_term.specs.Value.{label}
use Rattle.anb_term.specs.Agree.{HasRecipe}
use Rattle.anb_algebra.specs.ByteMeaning.{has_operator}
use Rattle.anb_close.specs.declared.entry.Entry.{Entry}
use Rattle.anb_close.specs.Entries as closure
use Rattle.anb_close.specs.Entries.{HasAdded, IsKnown}
use Rattle.anb_close.specs.Recipes.{recipes}
use Rattle.anb_basis.specs.declared.check.Check.{Check}
use Rattle.anb_basis.specs.Checks.{InOrder, AreAll, AllFit}
use Rattle.anb_plays.specs.Plans.{Event, know, fresh, send, recv, known}
use Rattle.anb_plays.specs.Fits.{Place, Fits}
use Rattle.anb_code.specs.declared.instr.Instr.{Instr}
use Rattle.anb_code.specs.declared.instr.Instr.TheVariants.{Take}
use Rattle.anb_code.specs.Meaning.{act_of}
use Rattle.anb_code.specs.Registers.{register_widths}
use Rattle.anb_code.specs.Verified.{EachAfter, IsInstrAfter, count_registers}
use Rattle.anb_protocol.specs.Protocols.{ProtocolValue}
use Rattle.anb_protocol.specs.Plans.{PlanEvent, to_know, to_make, to_send, to_receive, term_in}
use Rattle.anb_protocol.specs.Plays.{event_of}
use Rattle.anb_compile.specs.declared.refusal.CompileNo.{CompileNo}
use Rattle.anb_compile.specs.declared.refusal.CompileNo.TheVariants.{CannotSend, NoMemory}
use Rattle.anb_compile.specs.declared.writer.Writer.{Writer}
use Rattle.anb_compile.specs.declared.emission.Emission.{Emission}
use Rattle.anb_compile.specs.Unsent.{labels_of}
use Rattle.anb_compile.specs.Counted.{is_demanding, is_building}
use Rattle.anb_compile.specs.Sharing.{register_at}
use Rattle.anb_compile.specs.Once.{IsSharing, subterms_in}
use Rattle.anb_compile.specs.Writing.{Context, meaning_in, Stands, demand_in}
use Rattle.anb_compile.specs.Verifying.{widths_in, IsVerifiable, IsWithin, IsNarrow}

-- the events but those of what is known
abbrev pub others : List PlanEvent → List Event
others [] = []
others (to_know t ∷ es) = others es
others (to_make t ∷ es) = fresh t ∷ others es
others (to_send action t ∷ es) = send t ∷ others es
others (to_receive action t ∷ es) = recv t ∷ others es

abbrev pub known_in : List PlanEvent → List Tree
known_in [] = []
known_in (to_know t ∷ es) = t ∷ known_in es
known_in (to_make t ∷ es) = known_in es
known_in (to_send action t ∷ es) = known_in es
known_in (to_receive action t ∷ es) = known_in es

-- what is known comes first
abbrev pub KnowsLead : List PlanEvent → Type 0
KnowsLead [] = Unit {0}
KnowsLead (to_know t ∷ es) = KnowsLead es
KnowsLead (to_make t ∷ es) = known_in es ≡ []
KnowsLead (to_send action t ∷ es) = known_in es ≡ []
KnowsLead (to_receive action t ∷ es) = known_in es ≡ []

-- a plan that can be compiled in a context: its terms are formed, small and nowhere too wide, and there are few
pub record IsPlan (c : Context) (plan : List PlanEvent) : Type 0 where
  pub events : c.plan ≡ map event_of plan
  pub leads : KnowsLead plan
  pub formed : AllByRecursion (λ e. IsFormed (has_operator c.formats) (term_in e)) plan
  pub small : AllByRecursion (λ e. tree_size (term_in e) ≤ 1024) plan
  pub narrow : AllByRecursion (λ e. IsNarrow c.formats (term_in e)) plan
  pub few : nodes (labels_of plan) ≤ 65536
  pub short : length plan ≤ 65792

-- the formats and the suite of a protocol, for a plan that need be none of its roles'
abbrev pub context_of : ProtocolValue → List PlanEvent → Context
context_of p plan = record { formats = p.formats; suite = p.suite; plan = map event_of plan }

-- each message among these events has a recipe over what is there before it
abbrev pub CanSendAll : Context → List PlanEvent → Type 0
CanSendAll c events = (before after : List PlanEvent) (action : ℕ) (t : Tree) → events ≡ before ++ (to_send action t ∷ after) → HasRecipe (has_operator c.formats) (labels_of before) t

-- All that is known was taken. What is written has done these events, and `after` are to come; it has asked these
-- checks, and so many entries have a register. It can be verified, and takes little room.
pub record Done (c : Context) (before after : List PlanEvent) (es : List Entry) (cs : List Check) (places : ℕ) (w : Writer) (count : ℕ) : Type 0 where
  pub place : Place
  pub stands : Stands c (map know (known c.plan) ++ others before) (recipes es) w place
  pub labels : closure.labels_of es ≡ labels_of before
  pub frame : place.frame ≡ labels_of before ++ known_in after
  pub asked : place.asked ≡ map (demand_in (recipes es)) cs
  pub placed : length w.places.items ≡ places
  pub counted : count ≡ length (known_in before)
  pub takes : (n : ℕ) → n < length (known c.plan) → slice_get place.regs n ≡ Some (label n)
  pub sendable : CanSendAll c before
  pub verifiable : IsVerifiable c.formats w
  pub takes_wide : (n : ℕ) → n < length (known c.plan) → slice_get (widths_in c.formats w) n ≡ Some ARRIVAL
  pub within : IsWithin w (length (known c.plan) + 1025 * (length cs + length before))
  pub sharing : IsSharing (subterms_in c) (closure.rows es) w

abbrev pub HasDone : Context → List PlanEvent → List PlanEvent → Emission → Type 0
HasDone c before after x = Done c before after x.basis.0 x.basis.1 (length x.basis.0) x.writer x.known

-- the label of the last of these events has a register, and the checks from `first` on weren't asked yet
pub record Labelled (c : Context) (before after : List PlanEvent) (x : Emission) (first : ℕ) : Type 0 where
  pub entries : List Entry
  pub term : Term
  pub checks : List Check
  pub added : HasAdded entries term x.basis.0
  pub order : InOrder (length entries) x.basis.0 checks x.basis.1
  pub from : first ≡ length checks
  pub done : Done c before after x.basis.0 checks (length entries + 1) x.writer x.known

-- what a basis knows of its entries and checks
pub record WasKnown (es : List Entry) (cs : List Check) : Type 0 where
  pub known : IsKnown es
  pub all : AreAll es cs
  pub fit : AllFit es cs
  pub few : length cs ≤ nodes (closure.labels_of es)

-- the next event is done
abbrev pub Does : Emission → Emission → PlanEvent → Type 0
Does old new e = (c : Context) (before after : List PlanEvent) → IsPlan c (before ++ (e ∷ after)) → HasDone c before (e ∷ after) old → HasDone c (before ++ e ∷ []) after new

-- it can be done
abbrev pub CanDo : Emission → PlanEvent → Type 0
CanDo x e = (c : Context) × (before after : List PlanEvent) × IsPlan c (before ++ (e ∷ after)) × HasDone c before (e ∷ after) x

-- a message that no recipe over what is there has
abbrev pub Blocks : Emission → ℕ → PlanEvent → CompileNo → Type 0
Blocks x role e (CannotSend action sender) = (sender ≡ role) × (t : Tree) × (e ≡ to_send action t)
    × ((c : Context) (before after : List PlanEvent) → IsPlan c (before ++ (e ∷ after)) → HasDone c before (e ∷ after) x → HasRecipe (has_operator c.formats) (labels_of before) t → ⊥)
Blocks x role e NoMemory = Unit {0}

-- instructions that are accepted over these formats
pub record IsAdmitted (formats : List FormatValue) (code : List Instr) : Type 0 where
  pub instrs : EachAfter (IsInstrAfter formats) [] code
  pub narrow : AllByRecursion (λ w. w ≤ WIDE) (register_widths ARRIVAL formats code)
  pub few_instrs : length code + 1 < 2 ^ 32
  pub few_registers : count_registers formats code + 1 < 2 ^ 32

-- A code for a plan, as far as its instructions say.
pub record Emits (c : Context) (plan : List PlanEvent) (code : List Instr) : Type 0 where
  pub fits : Fits (meaning_in c) (map (act_of c.formats) code) c.plan
  pub few : count_by is_demanding (map (act_of c.formats) code) ≤ nodes (labels_of plan)
  pub once : count_by is_building code ≤ distinct_count tree_eqb (subterms_in c)
  pub sendable : CanSendAll c plan
  pub admitted : IsAdmitted c.formats code

-- the first message of a plan that can't be sent
pub record IsBlocked (c : Context) (plan : List PlanEvent) (action : ℕ) : Type 0 where
  pub before : List PlanEvent
  pub message : Tree
  pub after : List PlanEvent
  pub is : plan ≡ before ++ (to_send action message ∷ after)
  pub no_recipe : HasRecipe (has_operator c.formats) (labels_of before) message → ⊥
  pub sendable : CanSendAll c before

-- why there is no code for a plan
abbrev pub RefusesPlan : List PlanEvent → ℕ → CompileNo → Type 0
RefusesPlan plan role (CannotSend action sender) = (sender ≡ role) × ((c : Context) → IsPlan c plan → IsBlocked c plan action)
RefusesPlan plan role NoMemory = Unit {0}

-- takes of these texts, which differ, were written
pub record IsBegun (x : Emission) (texts : List (List ℕ)) : Type 0 where
  pub differ : AllPairs (λ one other. one ≢ other) texts
  pub code : x.writer.code.items ≡ map Take texts
  pub next : x.writer.next ≡ length texts
  pub places : x.writer.places.items ≡ []
  pub built : (keys : List ℕ) → register_at x.writer.built keys ≡ None
  pub basis : x.basis ≡ ([], [])
  pub known : x.known ≡ 0
