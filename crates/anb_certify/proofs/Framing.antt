-- The order of a code, told by where it strays.
use Rattle.std.proofs.Common.{◌≡◌, ℕ, zero, suc, ◌+◌, ◌<◌, List, [], ◌∷◌, length, map, drop, Bool, true, false, Option, Some, None, refl, sym, ap, ◌∙◌, subst, arith}
use Rattle.std.specs.Prelude.{slice_get}
use Rattle.anb_format.specs.Formats.{FormatValue}
use Rattle.anb_plays.specs.Plans.{Event}
use Rattle.anb_plays.specs.Codes.{Act, works, Work}
use Rattle.anb_plays.specs.Fits.{Place, Along, AnySend, AnyWork, AnyBorder, after_work, after_take, after_label}
use Rattle.anb_code.specs.declared.instr.Instr.{Instr}
use Rattle.anb_code.specs.declared.instr.Instr.TheVariants.{Take, Fresh, Recv, Hash, Mac, Seal, Unseal, Wrap, Unwrap, Build, Parse, Equal, Send}
use Rattle.anb_code.specs.Meaning.{act_of}
use Rattle.anb_protocol.specs.Protocols.{ProtocolValue}
use Rattle.anb_protocol.specs.Plans.{PlanEvent, to_know, to_make, to_send, to_receive}
use Rattle.anb_protocol.specs.Plays.{event_of}
use Rattle.anb_protocol.specs.Views.{plan_event}
use Rattle.anb_protocol.specs.declared.plans.Event as code
use Rattle.anb_term.proofs.Lists.{map-drop}
use Rattle.anb_compile.proofs.Valuing.{left_events}
use Rattle.anb_certify.specs.Certified.{is_work, does_event, stray}
use Rattle.anb_certify.proofs.Walking.{does_one}

pub does_an_event : (formats : List FormatValue) (i : Instr) → is_work i ≡ false → does_one (act_of formats i) ≡ true
does_an_event formats (Take text) e = refl
does_an_event formats Fresh e = refl
does_an_event formats Recv e = refl
does_an_event formats (Send r) e = refl
does_an_event formats (Hash r) e = cc
does_an_event formats (Mac k b) e = cc
does_an_event formats (Seal k b) e = cc
does_an_event formats (Unseal k b) e = cc
does_an_event formats (Wrap k d b) e = cc
does_an_event formats (Unwrap k d b) e = cc
does_an_event formats (Build f rs) e = cc
does_an_event formats (Parse f r) e = cc
does_an_event formats (Equal a b) e = cc

is_a_work : (formats : List FormatValue) (i : Instr) → is_work i ≡ true → (w : Work) × (act_of formats i ≡ works w)
is_a_work formats (Take text) e = cc
is_a_work formats Fresh e = cc
is_a_work formats Recv e = cc
is_a_work formats (Send r) e = cc
is_a_work formats (Hash r) e = (_, refl)
is_a_work formats (Mac k b) e = (_, refl)
is_a_work formats (Seal k b) e = (_, refl)
is_a_work formats (Unseal k b) e = (_, refl)
is_a_work formats (Wrap k d b) e = (_, refl)
is_a_work formats (Unwrap k d b) e = (_, refl)
is_a_work formats (Build f rs) e = (_, refl)
is_a_work formats (Parse f r) e = (_, refl)
is_a_work formats (Equal a b) e = (_, refl)

-- the events from a place on
pub events_left : (events : List code.Event) (n : ℕ) (x : code.Event) → slice_get events n ≡ Some x → drop n (map plan_event events) ≡ plan_event x ∷ drop (n + 1) (map plan_event events)
events_left events n x e = sym (map-drop plan_event n events) ∙ left_events plan_event events n x e ∙ ap (λ l. plan_event x ∷ l) (map-drop plan_event (n + 1) events)

module _ (p : ProtocolValue) where
  -- ---- one step

  pub works_on : (i : Instr) (is : List Instr) (es : List PlanEvent) (n : ℕ) → is_work i ≡ true → stray p (i ∷ is) es n ≡ stray p is es (n + 1)
  works_on i is [] n e = rw e refl
  works_on i is (x ∷ es) n e = rw e refl

  pub none_left : (i : Instr) (is : List Instr) (n : ℕ) → is_work i ≡ false → stray p (i ∷ is) [] n ≡ Some n
  none_left i is n e = rw e refl

  pub meets : (i : Instr) (is : List Instr) (x : PlanEvent) (es : List PlanEvent) (n : ℕ) → is_work i ≡ false → does_event p i x ≡ true → stray p (i ∷ is) (x ∷ es) n ≡ stray p is es (n + 1)
  meets i is x es n e f = rw (e, f) refl

  pub strays : (i : Instr) (is : List Instr) (x : PlanEvent) (es : List PlanEvent) (n : ℕ) → is_work i ≡ false → does_event p i x ≡ false → stray p (i ∷ is) (x ∷ es) n ≡ Some n
  strays i is x es n e f = rw (e, f) refl

  -- ---- the whole

  none_yet : Option ℕ
  none_yet = None

  no_some : {X : Type 0} (n : ℕ) → Some n ≡ none_yet → X
  unfolding none_yet
  no_some n e = cc

  module _ (formats : List FormatValue) where
    Ordered : List Act → List Event → Type 0
    Ordered acts es = (s : Place) → Along AnySend AnyWork AnyBorder acts es s

    does : (i : Instr) (x : PlanEvent) (acts : List Act) (es : List Event) → does_event p i x ≡ true → Ordered acts es → Ordered (act_of formats i ∷ acts) (event_of x ∷ es)
    unfolding Ordered
    does (Take text) (to_know t) acts es e h s = h (after_take s)
    does (Take text) (to_make t) acts es e h s = cc
    does (Take text) (to_send a t) acts es e h s = cc
    does (Take text) (to_receive a t) acts es e h s = cc
    does Fresh (to_know t) acts es e h s = cc
    does Fresh (to_make t) acts es e h s = h (after_label s t)
    does Fresh (to_send a t) acts es e h s = cc
    does Fresh (to_receive a t) acts es e h s = cc
    does Recv (to_know t) acts es e h s = cc
    does Recv (to_make t) acts es e h s = cc
    does Recv (to_send a t) acts es e h s = cc
    does Recv (to_receive a t) acts es e h s = (tt, h (after_label s t))
    does (Send r) (to_know t) acts es e h s = cc
    does (Send r) (to_make t) acts es e h s = cc
    does (Send r) (to_send a t) acts es e h s = (tt, tt, h s)
    does (Send r) (to_receive a t) acts es e h s = cc
    does (Hash r) x acts es e h s = cc
    does (Mac k b) x acts es e h s = cc
    does (Seal k b) x acts es e h s = cc
    does (Unseal k b) x acts es e h s = cc
    does (Wrap k d b) x acts es e h s = cc
    does (Unwrap k d b) x acts es e h s = cc
    does (Build f rs) x acts es e h s = cc
    does (Parse f r) x acts es e h s = cc
    does (Equal a b) x acts es e h s = cc

    pub ordered : (is : List Instr) (es : List PlanEvent) (n : ℕ) → stray p is es n ≡ None → (s : Place) → Along AnySend AnyWork AnyBorder (map (act_of formats) is) (map event_of es) s
    unfolding Ordered none_yet
    ordered [] [] n e s = tt
    ordered [] (x ∷ es) n e s = no_some n e
    ordered (i ∷ is) es n e s = by_kind (is_work i) refl es e (λ es2 m f s2. ordered is es2 m f s2) where
      by_kind : (b : Bool) → is_work i ≡ b → (es : List PlanEvent) → stray p (i ∷ is) es n ≡ none_yet → ((es2 : List PlanEvent) (m : ℕ) → stray p is es2 m ≡ none_yet → Ordered (map (act_of formats) is) (map event_of es2))
          → Along AnySend AnyWork AnyBorder (act_of formats i ∷ map (act_of formats) is) (map event_of es) s
      by_kind true k es e ih =
          let w = is_a_work formats i k in
          subst (λ a. Along AnySend AnyWork AnyBorder (a ∷ map (act_of formats) is) (map event_of es) s) (sym w.1) (tt, ih es (n + 1) (sym (works_on i is es n k) ∙ e) (after_work s w.0))
      by_kind false k [] e ih = no_some n (sym (none_left i is n k) ∙ e)
      by_kind false k (x ∷ es) e ih = by_event (does_event p i x) refl where
        by_event : (b : Bool) → does_event p i x ≡ b → Along AnySend AnyWork AnyBorder (act_of formats i ∷ map (act_of formats) is) (event_of x ∷ map event_of es) s
        by_event true f = does i x (map (act_of formats) is) (map event_of es) f (ih es (n + 1) (sym (meets i is x es n k f) ∙ e)) s
        by_event false f = no_some n (sym (strays i is x es n k f) ∙ e)

-- behind the last instruction, where events are left
pub stray_end : (p : ProtocolValue) (is : List Instr) (es : List PlanEvent) (i next : ℕ) → i ≡ length is → next < length es → stray p (drop i is) (drop next es) (i + 1) ≡ Some (length is + 1)
stray_end p is es i next e l = subst (λ k. stray p (drop k is) (drop next es) (k + 1) ≡ Some (length is + 1)) (sym e) (rw (dropped is) (left es next l)) where
  dropped : (l : List Instr) → drop (length l) l ≡ []
  dropped [] = refl
  dropped (x ∷ l) = dropped l

  left : (l : List PlanEvent) (k : ℕ) → k < length l → stray p [] (drop k l) (length is + 1) ≡ Some (length is + 1)
  left [] k h = absurd (omega (arith, h))
  left (x ∷ l) zero h = refl
  left (x ∷ l) (suc k) h = left l k (omega (arith, h))
