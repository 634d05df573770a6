-- Lists that are compared item by item.
use Rattle.std.proofs.Common.{◌≡◌, ℕ, zero, suc, ◌+◌, ◌<◌, ◌≤◌, List, [], ◌∷◌, ◌++◌, length, map, take, get_or, Bool, false, Some, refl, sym, ap, ◌∙◌, arith, IsTrue}
use Rattle.std.specs.Prelude.{filter_map, slice_get, drop, nat_eq, ◌↔◌, ◌≢◌}
use Rattle.std.specs.List.{cons_option}
use Rattle.std.proofs.lemmas.Bool.{eqb-true, eq-eqb}
use Rattle.std.proofs.lemmas.List.{length-map, map-append, take-append-drop}
use Rattle.std.proofs.lemmas.List.Elements.{filter_map-append}
use Rattle.anb_format.specs.Formats.{FormatValue}
use Rattle.anb_code.specs.declared.instr.Instr.{Instr}
use Rattle.anb_code.specs.Meaning.{act_of}
use Rattle.anb_protocol.specs.declared.plans.Event as code
use Rattle.anb_protocol.specs.Plays.{event_of}
use Rattle.anb_protocol.specs.Views.{plan_event}
use Rattle.std.proofs.lemmas.Option.{slice_get-map, slice_get_read, slice_get_past, same_Some, none-some}
use Rattle.std.specs.Prelude.{option_map}
use Rattle.anb_plays.specs.Fits.{start}
use Rattle.anb_code.specs.CodeValue.{CodeValue}
use Rattle.anb_code.specs.Meaning.{acts_of}
use Rattle.anb_code.specs.Taking.{take_texts}
use Rattle.anb_protocol.specs.Protocols.{ProtocolValue}
use Rattle.anb_protocol.specs.Texts.{known_texts}
use Rattle.anb_protocol.specs.Plans.{PlanEvent, plan_of}
use Rattle.anb_protocol.specs.Plays.{events_of}
use Rattle.anb_compile.specs.Fitting.{FollowsRole}
use Rattle.std.proofs.lemmas.List.{take_all}
use Rattle.anb_lemmas.proofs.Each.{take_next}
use Rattle.anb_lemmas.proofs.Bools.{never_both}
use Rattle.anb_lemmas.proofs.Lists.{take_got, drop_next}
use Rattle.anb_plays.specs.Plans.{Event, know, fresh, send, recv}
use Rattle.anb_plays.specs.Codes.{Act, takes, draws, receives, sends, works}
use Rattle.anb_plays.specs.Fits.{Place, Along, AnySend, AnyWork, AnyBorder, after_take, after_label, after_work}
use Rattle.anb_honest.specs.declared.kind.Kind.{Kind}
use Rattle.anb_honest.specs.declared.kind.Kind.TheVariants.{Know, Make, Send, Receive}
use Rattle.anb_honest.specs.Kinds.{kind_of, kinds_of, event_kind}

pub both_next : {A : Type 0} (xs ys : List A) (i : ℕ) (x y : A) → i < length xs → i < length ys → x ≡ get_or xs i x → y ≡ get_or ys i y → x ≡ y
    → take i xs ≡ take i ys → take (i + 1) xs ≡ take (i + 1) ys
both_next xs ys i x y hx hy ex ey same before = take_next xs i x hx ex ∙ ap (λ l. l ++ x ∷ []) before ∙ ap (λ z. take i ys ++ z ∷ []) same ∙ sym (take_next ys i y hy ey)

-- ---- the order of a plan, by kinds

abbrev Follow : List Act → List Event → Place → Type 0
Follow acts es s = Along AnySend AnyWork AnyBorder acts es s

tail_same : (k : Kind) (ks ls : List Kind) (l : Kind) → k ∷ ks ≡ l ∷ ls → ks ≡ ls
tail_same k ks ls l e = cc

pub kinds_kept : (acts : List Act) (es : List Event) (s : Place) → Follow acts es s → filter_map kind_of acts ≡ map event_kind es
kinds_kept [] [] s f = refl
kinds_kept [] (e ∷ es) s f = absurd f
kinds_kept (works w ∷ acts) es s f = kinds_kept acts es (after_work s w) f.1
kinds_kept (takes ∷ acts) (know t ∷ es) s f = ap (λ l. Know ∷ l) (kinds_kept acts es (after_take s) f)
kinds_kept (draws ∷ acts) (fresh t ∷ es) s f = ap (λ l. Make ∷ l) (kinds_kept acts es (after_label s t) f)
kinds_kept (receives ∷ acts) (recv t ∷ es) s f = ap (λ l. Receive ∷ l) (kinds_kept acts es (after_label s t) f.1)
kinds_kept (sends n ∷ acts) (send t ∷ es) s f = ap (λ l. Send ∷ l) (kinds_kept acts es s f.2)
kinds_kept (takes ∷ acts) [] s f = absurd f
kinds_kept (takes ∷ acts) (fresh t ∷ es) s f = absurd f
kinds_kept (takes ∷ acts) (send t ∷ es) s f = absurd f
kinds_kept (takes ∷ acts) (recv t ∷ es) s f = absurd f
kinds_kept (draws ∷ acts) [] s f = absurd f
kinds_kept (draws ∷ acts) (know t ∷ es) s f = absurd f
kinds_kept (draws ∷ acts) (send t ∷ es) s f = absurd f
kinds_kept (draws ∷ acts) (recv t ∷ es) s f = absurd f
kinds_kept (receives ∷ acts) [] s f = absurd f
kinds_kept (receives ∷ acts) (know t ∷ es) s f = absurd f
kinds_kept (receives ∷ acts) (fresh t ∷ es) s f = absurd f
kinds_kept (receives ∷ acts) (send t ∷ es) s f = absurd f
kinds_kept (sends n ∷ acts) [] s f = absurd f
kinds_kept (sends n ∷ acts) (know t ∷ es) s f = absurd f
kinds_kept (sends n ∷ acts) (fresh t ∷ es) s f = absurd f
kinds_kept (sends n ∷ acts) (recv t ∷ es) s f = absurd f

pub kept_kinds : (acts : List Act) (es : List Event) (s : Place) → filter_map kind_of acts ≡ map event_kind es → Follow acts es s
kept_kinds [] [] s e = tt
kept_kinds [] (x ∷ es) s e = absurd (cc)
kept_kinds (works w ∷ acts) es s e = (tt, kept_kinds acts es (after_work s w) e)
kept_kinds (takes ∷ acts) (know t ∷ es) s e = kept_kinds acts es (after_take s) (tail_same Know (filter_map kind_of acts) (map event_kind es) Know e)
kept_kinds (draws ∷ acts) (fresh t ∷ es) s e = kept_kinds acts es (after_label s t) (tail_same Make (filter_map kind_of acts) (map event_kind es) Make e)
kept_kinds (receives ∷ acts) (recv t ∷ es) s e = (tt, kept_kinds acts es (after_label s t) (tail_same Receive (filter_map kind_of acts) (map event_kind es) Receive e))
kept_kinds (sends n ∷ acts) (send t ∷ es) s e = (tt, tt, kept_kinds acts es s (tail_same Send (filter_map kind_of acts) (map event_kind es) Send e))
kept_kinds (takes ∷ acts) [] s e = absurd (cc)
kept_kinds (takes ∷ acts) (fresh t ∷ es) s e = absurd (cc)
kept_kinds (takes ∷ acts) (send t ∷ es) s e = absurd (cc)
kept_kinds (takes ∷ acts) (recv t ∷ es) s e = absurd (cc)
kept_kinds (draws ∷ acts) [] s e = absurd (cc)
kept_kinds (draws ∷ acts) (know t ∷ es) s e = absurd (cc)
kept_kinds (draws ∷ acts) (send t ∷ es) s e = absurd (cc)
kept_kinds (draws ∷ acts) (recv t ∷ es) s e = absurd (cc)
kept_kinds (receives ∷ acts) [] s e = absurd (cc)
kept_kinds (receives ∷ acts) (know t ∷ es) s e = absurd (cc)
kept_kinds (receives ∷ acts) (fresh t ∷ es) s e = absurd (cc)
kept_kinds (receives ∷ acts) (send t ∷ es) s e = absurd (cc)
kept_kinds (sends n ∷ acts) [] s e = absurd (cc)
kept_kinds (sends n ∷ acts) (know t ∷ es) s e = absurd (cc)
kept_kinds (sends n ∷ acts) (fresh t ∷ es) s e = absurd (cc)
kept_kinds (sends n ∷ acts) (recv t ∷ es) s e = absurd (cc)

-- ---- kinds so far

cut_front : {A : Type 0} (xs : List A) (n : ℕ) (x : A) (rest : List A) → n ≤ length xs → take n xs ++ x ∷ rest ≡ xs → slice_get xs n ≡ Some x
cut_front [] zero x rest h e = cc
cut_front [] (suc n) x rest h e = absurd (omega arith)
cut_front (y ∷ ys) zero x rest h e = let f : x ≡ y = cc in ap Some (sym f)
cut_front (y ∷ ys) (suc n) x rest h e = cut_front ys n x rest (omega arith) (let f : take n ys ++ x ∷ rest ≡ ys = cc in f)

length_front : {A : Type 0} (xs : List A) (n : ℕ) → n ≤ length xs → length (take n xs) ≡ n
length_front [] zero h = refl
length_front [] (suc n) h = absurd (omega arith)
length_front (x ∷ xs) zero h = refl
length_front (x ∷ xs) (suc n) h = ap suc (length_front xs n (omega arith))

length_kinds : (events : List code.Event) → length (kinds_of events) ≡ length events
length_kinds events = length-map (map event_of (map plan_event events)) event_kind ∙ length-map (map plan_event events) event_of ∙ length-map events plan_event

module _ (formats : List FormatValue) (instrs : List Instr) (events : List code.Event) (i : ℕ) where
  module _ (x : Instr) (next : ℕ) (within : i < length instrs) (at : x ≡ get_or instrs i x) where
    pub kinds_next : (later : ℕ) → filter_map kind_of (map (act_of formats) (take i instrs)) ≡ take next (kinds_of events)
        → take later (kinds_of events) ≡ take next (kinds_of events) ++ filter_map kind_of (act_of formats x ∷ [])
        → filter_map kind_of (map (act_of formats) (take (i + 1) instrs)) ≡ take later (kinds_of events)
    kinds_next later before here =
        ap (λ l. filter_map kind_of (map (act_of formats) l)) (take_next instrs i x within at)
        ∙ ap (filter_map kind_of) (map-append (act_of formats) (take i instrs) (x ∷ [])) ∙ filter_map-append kind_of (map (act_of formats) (take i instrs)) (act_of formats x ∷ [])
        ∙ ap (λ l. l ++ filter_map kind_of (act_of formats x ∷ [])) before ∙ sym here

    pub kinds_broken : (kind : Kind) → next ≤ length events → filter_map kind_of (map (act_of formats) (take i instrs)) ≡ take next (kinds_of events)
        → kind_of (act_of formats x) ≡ Some kind → slice_get (kinds_of events) next ≢ Some kind
        → (IsTrue false → filter_map kind_of (map (act_of formats) instrs) ≡ kinds_of events) × (filter_map kind_of (map (act_of formats) instrs) ≡ kinds_of events → IsTrue false)
    kinds_broken kind few before is other =
        let rest = map (act_of formats) (drop (i + 1) instrs) in
        let parts : filter_map kind_of (map (act_of formats) instrs) ≡ take next (kinds_of events) ++ (kind ∷ filter_map kind_of rest) =
        ap (λ l. filter_map kind_of (map (act_of formats) l)) (sym (take-append-drop i instrs) ∙ ap (λ l. take i instrs ++ l) (drop_next instrs i x within at))
        ∙ ap (filter_map kind_of) (map-append (act_of formats) (take i instrs) (x ∷ drop (i + 1) instrs)) ∙ filter_map-append kind_of (map (act_of formats) (take i instrs)) (act_of formats x ∷ rest)
        ∙ ap (λ l. l ++ filter_map kind_of (act_of formats x ∷ rest)) before ∙ ap (λ o. take next (kinds_of events) ++ cons_option o (filter_map kind_of rest)) is in
        (λ e. cc, λ e. absurd (other (cut_front (kinds_of events) next kind (filter_map kind_of rest) (let n = length_kinds events in omega arith) (sym parts ∙ e))))

  pub kinds_end : (next : ℕ) → length instrs ≤ i → next ≤ length events → filter_map kind_of (map (act_of formats) (take i instrs)) ≡ take next (kinds_of events)
      → (IsTrue (nat_eq next (length events)) → filter_map kind_of (map (act_of formats) instrs) ≡ kinds_of events)
      × (filter_map kind_of (map (act_of formats) instrs) ≡ kinds_of events → IsTrue (nat_eq next (length events)))
  kinds_end next end few before =
      let all : filter_map kind_of (map (act_of formats) instrs) ≡ take next (kinds_of events) = ap (λ l. filter_map kind_of (map (act_of formats) l)) (sym (take_all i instrs end)) ∙ before in
      let n = length_kinds events in (
        λ e. let h : next ≡ length events = eqb-true next (length events) e in all ∙ take_all next (kinds_of events) (omega arith),
        λ e. eq-eqb next (length events) (sym (length_front (kinds_of events) next (omega arith)) ∙ ap length (sym all ∙ e) ∙ n),
      )

-- the kind of the next event
kind_at : (events : List code.Event) (next : ℕ) (x : code.Event) → next < length events → x ≡ get_or events next x → slice_get (kinds_of events) next ≡ Some (event_kind (event_of (plan_event x)))
kind_at events next x within at =
    slice_get-map event_kind (map event_of (map plan_event events)) next
    ∙ ap (option_map event_kind) (slice_get-map event_of (map plan_event events) next ∙ ap (option_map event_of) (slice_get-map plan_event events next ∙ ap (option_map plan_event) (slice_get_read events (length events) next x refl within at)))

pub no_kind : (events : List code.Event) (next : ℕ) (kind : Kind) → length events ≤ next → slice_get (kinds_of events) next ≡ Some kind → ⊥
no_kind events next kind past e = none-some kind (sym (slice_get_past (kinds_of events) next (let n = length_kinds events in omega arith)) ∙ e)

pub other_kind : (events : List code.Event) (next : ℕ) (x : code.Event) (own kind : Kind) (same : Bool) → next < length events → x ≡ get_or events next x → own ≡ event_kind (event_of (plan_event x))
    → (IsTrue same ↔ (own ≡ kind)) → same ≡ false → slice_get (kinds_of events) next ≡ Some kind → ⊥
other_kind events next x own kind same within at is tells differ e =
    let g : event_kind (event_of (plan_event x)) ≡ kind = same_Some (event_kind (event_of (plan_event x))) kind (sym (kind_at events next x within at) ∙ e) in
    never_both same (tells.1 (is ∙ g)) differ

pub kind_taken : (formats : List FormatValue) (instr : Instr) (events : List code.Event) (next : ℕ) (x : code.Event) (own kind : Kind) → next < length events → x ≡ get_or events next x
    → own ≡ event_kind (event_of (plan_event x)) → own ≡ kind → kind_of (act_of formats instr) ≡ Some kind
    → take (next + 1) (kinds_of events) ≡ take next (kinds_of events) ++ filter_map kind_of (act_of formats instr ∷ [])
kind_taken formats instr events next x own kind within at is same act =
    take_got (kinds_of events) next (event_kind (event_of (plan_event x))) (kind_at events next x within at)
    ∙ ap (λ z. take next (kinds_of events) ++ z ∷ []) (sym is ∙ same) ∙ ap (λ o. take next (kinds_of events) ++ cons_option o []) (sym act)

-- ---- what is followed

module _ (p : ProtocolValue) (role : ℕ) (c : CodeValue) (b : Bool) where
  pub follows_where : c.suite ≡ p.suite → c.formats ≡ p.formats → c.protocol ≡ p.name → slice_get p.roles role ≡ Some c.role → take_texts c.instrs ≡ known_texts p role
      → (plan : List PlanEvent) → plan ≡ plan_of p role
      → (IsTrue b → filter_map kind_of (acts_of c) ≡ map event_kind (map event_of plan)) × (filter_map kind_of (acts_of c) ≡ map event_kind (map event_of plan) → IsTrue b)
      → (IsTrue b → FollowsRole p role c) × (FollowsRole p role c → IsTrue b)
  follows_where suite formats protocol name texts plan is tells =
      let k = ap (λ l. map event_kind (map event_of l)) is in (
        λ e. record {
          suite = suite;
          formats = formats;
          protocol = protocol;
          name = name;
          texts = texts;
          order = kept_kinds (acts_of c) (events_of p role) (start (events_of p role)) (tells.0 e ∙ k);
        },
        λ f. tells.1 (kinds_kept (acts_of c) (events_of p role) (start (events_of p role)) f.order ∙ sym k),
      )

  pub follows_not : b ≡ false → (take_texts c.instrs ≡ known_texts p role → ⊥) → (IsTrue b → FollowsRole p role c) × (FollowsRole p role c → IsTrue b)
  follows_not differs other = (λ e. absurd (never_both b e differs), λ f. absurd (other f.texts))

pub falls : (b : Bool) (P : Type 0) → b ≡ false → (P → IsTrue b) → P → ⊥
falls b P differs tells x = never_both b (tells x) differs
