-- A partner that hears right bytes refuses none of them.
use Rattle.std.proofs.Common.{◌≡◌, ℕ, slice_get, zero, suc, ◌+◌, List, [], ◌∷◌, ◌++◌, length, map, take, drop, replicate, Option, Some, None, IsTrue, Err, refl, sym, ap, ◌∙◌, subst, inl, inr, arith, append-nil}
use Rattle.anb_base.specs.Bytes.{is_bytes-IsBytes}
use Rattle.anb_machine.specs.declared.turn.Halt.{Halt}
use Rattle.anb_plays.specs.Honest.{honest, heard, made, LabelsAreFormed}
use Rattle.anb_plays.specs.Plans.{Event, know, fresh, send, recv, known}
use Rattle.anb_plays.specs.Plays.{End, stopped, waiting, done, Played, Walk, Play}
use Rattle.anb_plays.specs.Runs.{no_place, without_place}
use Rattle.anb_plays.specs.Statements.{HonestAgree}
use Rattle.anb_protocol.specs.Plans.{PlanEvent, to_know, to_make, to_send, to_receive, plan_of}
use Rattle.anb_protocol.specs.Plays.{event_of, meaning_of}
use Rattle.anb_protocol.specs.Texts.{known_by}
use Rattle.anb_seal.specs.Streams.{draw_of}
use Rattle.anb_term.proofs.Lists.{map-append}
use Rattle.anb_term.specs.Agree.{Agree}
use Rattle.anb_term.specs.Tree.{Tree, trees_of, IsFormed, AreFormed}
use Rattle.anb_term.specs.Value.{Meaning}
use Rattle.anb_transcript.specs.Replays.{arrivals_of, due_after, due_of, messages_of}
use Rattle.anb_partner.specs.Laws.{PartnersPlay}
use Rattle.anb_partner.specs.Plans.{Script, handed_terms, has_atom, hook, mirrored, partner_plan}
use Rattle.anb_partner.specs.Talks.{Ends}
use Rattle.anb_partner.specs.declared.conversation.TalkEnd.TheVariants.{Refused}
use Rattle.anb_tries.specs.Laws.{Attempt, HearsRight, IsAttempt}
use Rattle.anb_tries.proofs.Along.{either}
use Rattle.anb_tries.proofs.Placed.{R, arrive, own, partner_plays, plan_apart}

abbrev Text : Type 0
Text = List ℕ

-- ---- plays that hear the bytes of their terms

pub one_formed : {A : Type 0} (m : Meaning A) (frame : List Tree) (t : Tree) → AreFormed m.has (trees_of frame) → IsFormed m.has t → AreFormed m.has (trees_of (frame ++ t ∷ []))
one_formed m [] t all f = (f, tt)
one_formed m (u ∷ us) t all f = (all.0, one_formed m us t all.1 f)

pub known_formed : {A : Type 0} (m : Meaning A) (plan : List Event) → LabelsAreFormed m.has plan → AreFormed m.has (trees_of (known plan))
known_formed m [] f = tt
known_formed m (know t ∷ es) f = (f.0, known_formed m es f.1)
known_formed m (fresh t ∷ es) f = known_formed m es f.1
known_formed m (send t ∷ es) f = known_formed m es f
known_formed m (recv t ∷ es) f = known_formed m es f.1

end_of : (p q : Played Text) → p ≡ q → p.end ≡ q.end
end_of p q is = ap (λ (x : Played Text). x.end) is

-- what is done, or waits, doesn't stop
pub done_goes : (f at : ℕ) → done ≡ stopped f at → ⊥
done_goes f at e = cc

pub waiting_goes : (k f at : ℕ) → waiting k ≡ stopped f at → ⊥
waiting_goes k f at e = cc

-- this is so of each of these terms and its number, from i on
abbrev pub EachFrom : (ℕ → Tree → Type 0) → ℕ → List Tree → Type 0
EachFrom P i ts = (k : ℕ) (t : Tree) → slice_get ts k ≡ Some t → P (i + k) t

pub from_rest : (P : ℕ → Tree → Type 0) (i : ℕ) (t : Tree) (ts : List Tree) → EachFrom P i (t ∷ ts) → EachFrom P (i + 1) ts
from_rest P i t ts h k u e = let n : i + suc k ≡ i + 1 + k = omega arith in subst (λ j. P j u) n (h (suc k) u e)

pub from_first : (P : ℕ → Tree → Type 0) (i : ℕ) (t : Tree) (ts : List Tree) → EachFrom P i (t ∷ ts) → P i t
from_first P i t ts h = let n : i + 0 ≡ i = omega arith in subst (λ j. P j t) n (h 0 t refl)

pub from_all : (P : ℕ → Tree → Type 0) (ts : List Tree) → ((k : ℕ) (t : Tree) → slice_get ts k ≡ Some t → P k t) → EachFrom P 0 ts
from_all P ts h k t e = let n : k ≡ 0 + k = omega arith in subst (λ j. P j t) n (h k t e)

-- this draw is the bytes of a name
abbrev pub Draws : (ℕ → Text) → (Tree → Text) → ℕ → Tree → Type 0
Draws draw of i t = draw i ≡ of t

-- the draws from number i on are the bytes of these names
abbrev pub AreDraws : (ℕ → Text) → (Tree → Text) → ℕ → List Tree → Type 0
AreDraws draw of i ts = EachFrom (Draws draw of) i ts

pub none_drawn : (draw : ℕ → Text) (of : Tree → Text) (ts : List Tree) → ts ≡ [] → AreDraws draw of 0 ts
none_drawn draw of [] is k t e = absurd (cc)
none_drawn draw of (u ∷ ts) is k t e = absurd (cc)

pub grows : (of : Tree → Text) (frame : List Tree) (vs : List Text) (t : Tree) (x : Text) → vs ≡ map of frame → x ≡ of t → vs ++ x ∷ [] ≡ map of (frame ++ t ∷ [])
grows of frame vs t x is right = ap (λ l. l ++ x ∷ []) is ∙ ap (λ y. map of frame ++ y ∷ []) right ∙ sym (map-append of frame (t ∷ []))

module _ (m : Meaning Text) (agrees : HonestAgree m) (draw : ℕ → Text) (atoms : ℕ → Text) (good : (k : ℕ) → IsTrue (m.is_value (atoms k))) where
  abbrev pub of : Tree → Text
  of t = honest m atoms t

  never_stops : (es : List Event) (frame : List Tree) (vs : List Text) (e i n : ℕ) (p : Played Text) (f at : ℕ) → AreDraws draw of i (made es) → vs ≡ map of frame → AreFormed m.has (trees_of frame) → LabelsAreFormed m.has es
      → Walk m draw es frame vs e i (map of (take n (heard es))) p → p.end ≡ stopped f at → ⊥
  never_stops [] frame vs e i n p f at none is all formed walk end = done_goes f at (sym (ap (λ (x : Played Text). x.end) walk) ∙ end)
  never_stops (know t ∷ es) frame vs e i n p f at none is all formed walk end = never_stops es frame vs e i n p f at none is all formed.1 walk end
  never_stops (fresh t ∷ es) frame vs e i n p f at none is all formed walk end =
      never_stops es (frame ++ t ∷ []) (vs ++ draw i ∷ []) e (i + 1) n p f at (from_rest (Draws draw of) i t (made es) none) (grows of frame vs t (draw i) is (from_first (Draws draw of) i t (made es) none)) (one_formed m frame t all formed.0) formed.1 walk end
  never_stops (send t ∷ es) frame vs e i n p f at none is all formed walk end =
      never_stops es frame vs (e + 1) i n walk.1 f at none is all formed walk.3 (sym (ap (λ (x : Played Text). x.end) walk.4) ∙ end)
  never_stops (recv t ∷ es) frame vs e i zero p f at none is all formed walk end = waiting_goes (e + 1) f at (sym (ap (λ (x : Played Text). x.end) walk) ∙ end)
  never_stops (recv t ∷ es) frame vs e i (suc n) p f at none is all formed (inl h) end =
      let grown = grows of frame vs t (of t) is refl in
      never_stops es (frame ++ t ∷ []) (vs ++ of t ∷ []) (e + 1) i n p f at none grown (one_formed m frame t all formed.0) formed.1 h.1 end
  never_stops (recv t ∷ es) frame vs e i (suc n) p f at none is all formed (inr h) end =
      let grown = grows of frame vs t (of t) is refl in
      h.0 (subst (Agree m (frame ++ t ∷ [])) (sym grown) (agrees atoms (frame ++ t ∷ []) good (one_formed m frame t all formed.0)).1)

  pub play_never_stops : (plan : List Event) (init : List Text) (n : ℕ) (p : Played Text) (f at : ℕ) → AreDraws draw of 0 (made plan) → init ≡ map of (known plan) → LabelsAreFormed m.has plan
      → Play m draw plan init (map of (take n (heard plan))) p → p.end ≡ stopped f at → ⊥
  play_never_stops plan init n p f at none is formed (inl h) end = never_stops plan (known plan) init 0 0 n p f at none is (known_formed m plan formed) formed h.1 end
  play_never_stops plan init n p f at none is formed (inr h) end = h.0 (subst (Agree m (known plan)) (sym is) (agrees atoms (known plan) good (known_formed m plan formed)).1)

-- ---- the partner's plan

first_known : (ts : List Tree) (es : List PlanEvent) → known (map event_of (map to_know ts ++ es)) ≡ ts ++ known (map event_of es)
first_known [] es = refl
first_known (t ∷ ts) es = ap (λ l. t ∷ l) (first_known ts es)

first_made : (ts : List Tree) (es : List PlanEvent) → made (map event_of (map to_know ts ++ es)) ≡ made (map event_of es)
first_made [] es = refl
first_made (t ∷ ts) es = first_made ts es

handed_known : (ts : List Tree) (es : List PlanEvent) → known (map event_of (map (to_receive 0) ts ++ es)) ≡ known (map event_of es)
handed_known [] es = refl
handed_known (t ∷ ts) es = handed_known ts es

handed_made : (ts : List Tree) (es : List PlanEvent) → made (map event_of (map (to_receive 0) ts ++ es)) ≡ made (map event_of es)
handed_made [] es = refl
handed_made (t ∷ ts) es = handed_made ts es

hook_known : (spare line : ℕ) (right : Option Tree) (es : List PlanEvent) → known (map event_of (hook spare line right ++ es)) ≡ known (map event_of es)
hook_known spare line None es = refl
hook_known spare line (Some r) es = refl

hook_made : (spare line : ℕ) (right : Option Tree) (es : List PlanEvent) → made (map event_of (hook spare line right ++ es)) ≡ made (map event_of es)
hook_made spare line None es = refl
hook_made spare line (Some r) es = refl

mirror_known : (spare : ℕ) (right : Option Tree) (line : ℕ) (es : List PlanEvent) (ins ms : List Tree) → known (map event_of (mirrored spare right line es ins ms)) ≡ []
mirror_known spare right line [] ins ms = refl
mirror_known spare right line (to_know t ∷ es) ins ms = mirror_known spare right line es ins ms
mirror_known spare right line (to_make t ∷ es) ins ms = mirror_known spare right line es ins ms
mirror_known spare right line (to_send i t ∷ es) ins [] = refl
mirror_known spare right line (to_send i t ∷ es) ins (m ∷ ms) = mirror_known spare right (line + 1) es ins ms
mirror_known spare right line (to_receive i t ∷ es) [] ms = refl
mirror_known spare right line (to_receive i t ∷ es) (a ∷ ins) ms =
    let next = to_send line a ∷ mirrored spare None (line + 1) es ins ms in
    either (λ l. known (map event_of l) ≡ []) (has_atom spare a) (hook spare line right ++ next) (to_send line a ∷ mirrored spare right (line + 1) es ins ms)
    (hook_known spare line right next ∙ mirror_known spare None (line + 1) es ins ms) (mirror_known spare right (line + 1) es ins ms)

mirror_made : (spare : ℕ) (right : Option Tree) (line : ℕ) (es : List PlanEvent) (ins ms : List Tree) → made (map event_of (mirrored spare right line es ins ms)) ≡ []
mirror_made spare right line [] ins ms = refl
mirror_made spare right line (to_know t ∷ es) ins ms = mirror_made spare right line es ins ms
mirror_made spare right line (to_make t ∷ es) ins ms = mirror_made spare right line es ins ms
mirror_made spare right line (to_send i t ∷ es) ins [] = refl
mirror_made spare right line (to_send i t ∷ es) ins (m ∷ ms) = mirror_made spare right (line + 1) es ins ms
mirror_made spare right line (to_receive i t ∷ es) [] ms = refl
mirror_made spare right line (to_receive i t ∷ es) (a ∷ ins) ms =
    let next = to_send line a ∷ mirrored spare None (line + 1) es ins ms in
    either (λ l. made (map event_of l) ≡ []) (has_atom spare a) (hook spare line right ++ next) (to_send line a ∷ mirrored spare right (line + 1) es ins ms)
    (hook_made spare line right next ∙ mirror_made spare None (line + 1) es ins ms) (mirror_made spare right (line + 1) es ins ms)

pub partner_known : (s : Script) → known (map event_of (partner_plan s)) ≡ known_by s.protocol s.role
partner_known s =
    let mirror = mirrored (length s.protocol.atoms) s.right 1 (plan_of s.protocol s.role) s.arrivals s.messages in
    let ks = known_by s.protocol s.role in
    ap (λ l. known (map event_of l)) (plan_apart s)
    ∙ first_known ks (map (to_receive 0) (handed_terms s.protocol s.role) ++ mirror)
    ∙ ap (λ l. ks ++ l) (handed_known (handed_terms s.protocol s.role) mirror ∙ mirror_known (length s.protocol.atoms) s.right 1 (plan_of s.protocol s.role) s.arrivals s.messages)
    ∙ append-nil ks

pub partner_made : (s : Script) → made (map event_of (partner_plan s)) ≡ []
partner_made s =
    let mirror = mirrored (length s.protocol.atoms) s.right 1 (plan_of s.protocol s.role) s.arrivals s.messages in
    ap (λ l. made (map event_of l)) (plan_apart s)
    ∙ first_made (known_by s.protocol s.role) (map (to_receive 0) (handed_terms s.protocol s.role) ++ mirror)
    ∙ handed_made (handed_terms s.protocol s.role) mirror ∙ mirror_made (length s.protocol.atoms) s.right 1 (plan_of s.protocol s.role) s.arrivals s.messages

-- ---- so it doesn't refuse

pub stops_there : (l : List Text) (end : End) (halt : Halt) → due_of l end ≡ Err halt → end ≡ stopped halt.event halt.at
stops_there (b ∷ l) end halt is = absurd (cc)
stops_there [] (waiting e) halt is = absurd (cc)
stops_there [] done halt is = absurd (cc)
stops_there [] (stopped e at) halt is = same_halt e at halt is where
  same_halt : (e at : ℕ) (halt : Halt) → due_of [] (stopped e at) ≡ Err halt → stopped e at ≡ stopped halt.event halt.at
  same_halt e at halt is = (let h : record { event = e; at = at } ≡ halt = cc in ap (λ (x : Halt). stopped x.event x.at) h)

pub refuses_none : (a : Attempt) (is : IsAttempt a) → PartnersPlay a.script.protocol → HonestAgree (meaning_of a.script.protocol) → HearsRight a is → a.conversation.end ≡ Refused → ⊥
refuses_none a is law agrees right refused =
    let m = meaning_of a.script.protocol in
    let plan = map event_of (partner_plan a.script) in
    let heard_now = arrivals_of (own a is law) in
    let r = R a is law heard_now in
    let ended : Ends a.wrong (due_after (R a is law) (own a is law)) is.converses.talks.mid is.converses.mid Refused =
    subst (Ends a.wrong (due_after (R a is law) (own a is law)) is.converses.talks.mid is.converses.mid) refused is.converses.talks.ends in
    let halt = ended.0.0 in
    let stop = stops_there (drop (length (messages_of (own a is law))) r.sent) r.end halt ended.0.1 in
    let play = partner_plays a is law heard_now (arrive a is law) in
    let here = subst (λ xs. Play m (draw_of (replicate 32 0) 0) plan a.initial xs (without_place r)) right.hears.1 play in
    play_never_stops m agrees (draw_of (replicate 32 0) 0) right.atoms (λ k. is_bytes-IsBytes (right.atoms k) (right.bytes k)) plan a.initial right.hears.0 (without_place r) halt.event 0
    (none_drawn (draw_of (replicate 32 0) 0) (honest m right.atoms) (made plan) (partner_made a.script)) (right.begins ∙ ap (map (honest m right.atoms)) (sym (partner_known a.script))) right.formed here (ap no_place stop)
