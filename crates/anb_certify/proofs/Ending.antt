-- Steps of the walk, from the code's instructions and events, and its end.
use Rattle.std.proofs.Common.{◌≡◌, ℕ, zero, suc, ◌+◌, ◌<◌, ◌≤◌, ◌^◌, List, [], ◌∷◌, ◌++◌, length, map, drop, Bool, true, false, Option, Some, None, refl, sym, ap, ◌∙◌, subst, arith}
use Rattle.std.specs.Prelude.{slice_get, ◌≢◌}
use Rattle.std.proofs.lemmas.Slice.Eq.{bytes_eq-Decides}
use Rattle.std.proofs.lemmas.List.{length-map, length-drop}
use Rattle.std.proofs.lemmas.List.Sums.{sum_by-cons}
use Rattle.anb_format.specs.Formats.{FormatValue}
use Rattle.anb_base.specs.declared.TheConstants.{ARRIVAL, WIDE}
use Rattle.anb_term.specs.Tree.{Tree}
use Rattle.anb_term.proofs.Lists.{map-drop, slice_get-map}
use Rattle.anb_algebra.specs.ByteMeaning.{has_operator}
use Rattle.anb_plays.specs.Plans.{Event, known}
use Rattle.anb_plays.specs.Codes.{Act, takes, draws, receives, sends, works}
use Rattle.anb_plays.specs.Exec.{HasTakes}
use Rattle.anb_plays.specs.Fits.{start}
use Rattle.anb_code.specs.declared.instr.Instr.{Instr}
use Rattle.anb_code.specs.declared.instr.Instr.TheVariants.{Take, Fresh, Recv, Hash, Mac, Seal, Unseal, Wrap, Unwrap, Build, Parse, Equal, Send}
use Rattle.anb_code.specs.CodeValue.{CodeValue}
use Rattle.anb_code.specs.Meaning.{act_of, acts_of, IsOperator}
use Rattle.anb_code.specs.Laws.{VerifiedIsRunnable}
use Rattle.anb_code.specs.Taking.{take_texts, taken_text}
use Rattle.anb_code.specs.Registers.{count_written}
use Rattle.anb_code.specs.Verified.{IsVerifiedCode, count_registers}
use Rattle.anb_protocol.specs.declared.plans.Event as plans
use Rattle.anb_protocol.specs.Protocols.{ProtocolValue}
use Rattle.anb_protocol.specs.Plans.{PlanEvent, to_know, to_make, to_send, to_receive, plan_of}
use Rattle.anb_protocol.specs.Plays.{event_of, events_of, meaning_of}
use Rattle.anb_protocol.specs.Texts.{term_text}
use Rattle.anb_protocol.specs.Views.{plan_event}
use Rattle.anb_compile.specs.Emitting.{known_in}
use Rattle.anb_compile.specs.Fitting.{FitsRole}
use Rattle.anb_compile.proofs.Events.{known_events}
use Rattle.anb_compile.proofs.Protocols.{known_of_plan}
use Rattle.anb_compile.proofs.Valuing.{left_events, is_operator}
use Rattle.anb_outcomes.specs.declared.certificates.CertifyNo.{CertifyNo}
use Rattle.anb_outcomes.specs.declared.certificates.CertifyNo.TheVariants.{Frame, Untrue, Sent, Loose, NoMemory}
use Rattle.anb_certify.specs.Certified.{HasFrame, IsCertified, Refuses, is_work, does_event, stray}
use Rattle.anb_certify.specs.Numbered.{TableValue, IsLoose}
use Rattle.anb_certify.specs.Statements.{CertifiedFits}
use Rattle.anb_certify.specs.Walking.{Stands, IsAt, written_in}
use Rattle.anb_certify.proofs.Framing.{ordered, works_on, meets, strays, none_left}
use Rattle.anb_certify.proofs.Walking.{does_one, heard, value_is}

pub heard_is : (v u : TableValue) (t : Tree) → u.terms ≡ v.terms ++ t ∷ [] → u.did ≡ v.did → u ≡ heard v t
heard_is v u t e f = value_is u (record { terms = v.terms ++ t ∷ []; did = v.did }) e f

-- a refusal of a border
pub refused_by : (p : ProtocolValue) (role : ℕ) (code : CodeValue) (at : ℕ) (v : TableValue) → ((i : ℕ) → IsLoose v.did v.terms i → Refuses p role code (Loose at i)) → (no : CertifyNo)
    → (no ≢ NoMemory → (i : ℕ) × (no ≡ Loose at i) × IsLoose v.did v.terms i) → Refuses p role code no
refused_by p role code at v f NoMemory h = tt
refused_by p role code at v f (Frame n) h = let x = h (λ e. cc) in subst (Refuses p role code) (sym x.1) (f x.0 x.2)
refused_by p role code at v f (Untrue n) h = let x = h (λ e. cc) in subst (Refuses p role code) (sym x.1) (f x.0 x.2)
refused_by p role code at v f (Sent n) h = let x = h (λ e. cc) in subst (Refuses p role code) (sym x.1) (f x.0 x.2)
refused_by p role code at v f (Loose n r) h = let x = h (λ e. cc) in subst (Refuses p role code) (sym x.1) (f x.0 x.2)

-- ---- one instruction

pub at_act : (p : ProtocolValue) (role : ℕ) (code : CodeValue) (i next : ℕ) (v : TableValue) (x : Instr) → slice_get code.instrs i ≡ Some x → IsAt p role code i next v
    → Stands p role code (act_of code.formats x ∷ drop (i + 1) (acts_of code)) (drop next (events_of p role)) (i + 1) v
at_act p role code i next v x e s =
    let f = act_of code.formats in
    let left : drop i (acts_of code) ≡ f x ∷ drop (i + 1) (acts_of code) = sym (map-drop f i code.instrs) ∙ left_events f code.instrs i x e ∙ ap (λ l. f x ∷ l) (map-drop f (i + 1) code.instrs) in
    subst (λ (l : List Act). Stands p role code l (drop next (events_of p role)) (i + 1) v) left s

pub events_at : (p : ProtocolValue) (role : ℕ) (events : List plans.Event) (next : ℕ) (e : plans.Event) → map plan_event events ≡ plan_of p role → slice_get events next ≡ Some e
    → drop next (events_of p role) ≡ event_of (plan_event e) ∷ drop (next + 1) (events_of p role)
events_at p role events next e plan at = left_events2 (plan_of p role) (plan_event e) (subst (λ l. slice_get l next ≡ Some (plan_event e)) plan (slice_get-map plan_event events next e at)) where
  left_events2 : (l : List PlanEvent) (x : PlanEvent) → slice_get l next ≡ Some x → drop next (map event_of l) ≡ event_of x ∷ drop (next + 1) (map event_of l)
  left_events2 l x h = sym (map-drop event_of next l) ∙ left_events event_of l next x h ∙ ap (λ z. event_of x ∷ z) (map-drop event_of (next + 1) l)

some_left : (p : ProtocolValue) (role : ℕ) (code : CodeValue) (act : Act) (acts : List Act) (es : List Event) (n : ℕ) (v : TableValue) → does_one act ≡ true → Stands p role code (act ∷ acts) es n v → 0 < length es
some_left p role code act acts (e ∷ es) n v d s = omega arith
some_left p role code (works w) acts [] n v d s = cc
some_left p role code takes acts [] n v d s = absurd s.order
some_left p role code draws acts [] n v d s = absurd s.order
some_left p role code receives acts [] n v d s = absurd s.order
some_left p role code (sends r) acts [] n v d s = absurd s.order

pub next_there : (p : ProtocolValue) (role : ℕ) (code : CodeValue) (act : Act) (acts : List Act) (events : List plans.Event) (next n : ℕ) (v : TableValue) → map plan_event events ≡ plan_of p role → does_one act ≡ true
    → Stands p role code (act ∷ acts) (drop next (events_of p role)) n v → next < length events
next_there p role code act acts events next n v plan d s =
    omega (arith, some_left p role code act acts (drop next (events_of p role)) n v d s, length-drop next (events_of p role), length-map (plan_of p role) event_of, ap length plan, length-map events plan_event)

-- ---- from start to end

-- the registers of a code are those that its acts write
counted : (formats : List FormatValue) (xs : List Instr) → count_registers formats xs ≡ written_in (map (act_of formats) xs)
counted formats [] = refl
counted formats (Parse f r ∷ xs) = omega (arith, counted formats xs, sum_by-cons (count_written formats) (Parse f r) xs)
counted formats (x ∷ xs) = omega (arith, counted formats xs, sum_by-cons (count_written formats) x xs)

pub starts : (p : ProtocolValue) (role : ℕ) (code : CodeValue) (v : TableValue) → HasFrame p role code → VerifiedIsRunnable → IsVerifiedCode ARRIVAL WIDE code → v.terms ≡ [] → v.did ≡ [] → IsAt p role code 0 0 v
starts p role code v framed runs verified e f =
    let same : code.formats ≡ p.formats = framed.0.formats in
    let ready = runs ARRIVAL WIDE code verified (has_operator p.formats) (λ o h. is_operator p.formats o (subst (λ l. IsOperator l o) same h)) in
    let nil : TableValue = record { terms = []; did = [] } in
    let few : 0 + written_in (acts_of code) < 2 ^ 32 = omega (arith, verified.few_registers, counted code.formats code.instrs) in
    let made : IsAt p role code 0 0 nil = record {
      framed = framed;
      place = start (events_of p role);
      few = few;
      have = refl;
      told = λ at w d. absurd d;
      order = ordered p code.formats code.instrs (plan_of p role) 1 framed.1 (start (events_of p role));
      count = length (take_texts code.instrs);
      ready = ready;
      takes_next = λ later s. refl;
      goes_on = λ found h. h;
    } in
    subst (IsAt p role code 0 0) (sym (value_is v nil e f)) made

pub all_past : (p : ProtocolValue) (role : ℕ) (code : CodeValue) (i next : ℕ) (v : TableValue) → length code.instrs ≤ i → IsAt p role code i next v → Stands p role code [] (drop next (events_of p role)) (i + 1) v
all_past p role code i next v l s = subst (λ (acts : List Act). Stands p role code acts (drop next (events_of p role)) (i + 1) v) (past (acts_of code) i (omega (arith, l, length-map code.instrs (act_of code.formats)))) s where
  past : (xs : List Act) (k : ℕ) → length xs ≤ k → drop k xs ≡ []
  past [] zero h = refl
  past [] (suc k) h = refl
  past (x ∷ xs) zero h = absurd (omega (arith, h))
  past (x ∷ xs) (suc k) h = past xs k (omega (arith, h))

-- ---- a certified code fits the role

abbrev pub texts_in : ProtocolValue → List PlanEvent → List (List ℕ)
texts_in p es = map (term_text p) (known_in es)

takes_none : (i : Instr) → is_work i ≡ true → taken_text i ≡ None
takes_none (Take text) e = cc
takes_none Fresh e = refl
takes_none Recv e = refl
takes_none (Send r) e = refl
takes_none (Hash r) e = refl
takes_none (Mac k b) e = refl
takes_none (Seal k b) e = refl
takes_none (Unseal k b) e = refl
takes_none (Wrap k d b) e = refl
takes_none (Unwrap k d b) e = refl
takes_none (Build f rs) e = refl
takes_none (Parse f r) e = refl
takes_none (Equal a b) e = refl

module _ (p : ProtocolValue) (is : List Instr) (es : List PlanEvent) (same : take_texts is ≡ texts_in p es) where
  take_one : (i : Instr) (x : PlanEvent) → does_event p i x ≡ true → take_texts (i ∷ is) ≡ texts_in p (x ∷ es)
  take_one (Take text) (to_know t) e = let s = (bytes_eq-Decides text (term_text p t)).0 e in ap (λ l. text ∷ l) same ∙ ap (λ z. z ∷ map (term_text p) (known_in es)) s
  take_one (Take text) (to_make t) e = cc
  take_one (Take text) (to_send a t) e = cc
  take_one (Take text) (to_receive a t) e = cc
  take_one Fresh (to_know t) e = cc
  take_one Fresh (to_make t) e = same
  take_one Fresh (to_send a t) e = cc
  take_one Fresh (to_receive a t) e = cc
  take_one Recv (to_know t) e = cc
  take_one Recv (to_make t) e = cc
  take_one Recv (to_send a t) e = cc
  take_one Recv (to_receive a t) e = same
  take_one (Send r) (to_know t) e = cc
  take_one (Send r) (to_make t) e = cc
  take_one (Send r) (to_send a t) e = same
  take_one (Send r) (to_receive a t) e = cc
  take_one (Hash r) x e = cc
  take_one (Mac k b) x e = cc
  take_one (Seal k b) x e = cc
  take_one (Unseal k b) x e = cc
  take_one (Wrap k d b) x e = cc
  take_one (Unwrap k d b) x e = cc
  take_one (Build f rs) x e = cc
  take_one (Parse f r) x e = cc
  take_one (Equal a b) x e = cc

abbrev none_yet : Option ℕ
none_yet = None

no_some : {X : Type 0} (n : ℕ) → Some n ≡ none_yet → X
no_some n e = cc

pub texts_are : (p : ProtocolValue) (is : List Instr) (es : List PlanEvent) (n : ℕ) → stray p is es n ≡ None → take_texts is ≡ texts_in p es
texts_are p [] [] n e = refl
texts_are p [] (x ∷ es) n e = no_some n e
texts_are p (i ∷ is) es n e = by_kind (is_work i) refl es e (λ es2 m f. texts_are p is es2 m f) where
  by_kind : (b : Bool) → is_work i ≡ b → (es : List PlanEvent) → stray p (i ∷ is) es n ≡ none_yet → ((es2 : List PlanEvent) (m : ℕ) → stray p is es2 m ≡ none_yet → take_texts is ≡ texts_in p es2) → take_texts (i ∷ is) ≡ texts_in p es
  by_kind true k es e ih = rw (takes_none i k) (ih es (n + 1) (sym (works_on p i is es n k) ∙ e))
  by_kind false k [] e ih = no_some n (sym (none_left p i is n k) ∙ e)
  by_kind false k (x ∷ es) e ih = by_event (does_event p i x) refl where
    by_event : (b : Bool) → does_event p i x ≡ b → take_texts (i ∷ is) ≡ texts_in p (x ∷ es)
    by_event true f = take_one p is es (ih es (n + 1) (sym (meets p i is x es n k f) ∙ e)) i x f
    by_event false f = no_some n (sym (strays p i is x es n k f) ∙ e)

pub fits : (p : ProtocolValue) (role : ℕ) (code : CodeValue) → IsCertified p role code → VerifiedIsRunnable → IsVerifiedCode ARRIVAL WIDE code → CertifiedFits (meaning_of p) → FitsRole p role code
fits p role code certified runs verified law =
    let names = certified.0.0 in
    let same : code.formats ≡ p.formats = names.formats in
    let texts = texts_are p code.instrs (plan_of p role) 1 certified.0.1 in
    let ready = runs ARRIVAL WIDE code verified (has_operator p.formats) (λ o h. is_operator p.formats o (subst (λ l. IsOperator l o) same h)) in
    let count : length (take_texts code.instrs) ≡ length (known (events_of p role)) = ap length texts ∙ length-map (known_in (plan_of p role)) (term_text p) ∙ ap length (sym (known_events (plan_of p role))) in
    record {
      suite = names.suite;
      formats = names.formats;
      protocol = names.protocol;
      name = names.name;
      texts = texts ∙ ap (map (term_text p)) (known_of_plan p role);
      fits = law (acts_of code) (events_of p role) (subst (HasTakes (has_operator p.formats) (acts_of code) 0) count ready) certified.1;
    }
