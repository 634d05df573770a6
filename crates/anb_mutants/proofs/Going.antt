-- A partner that hears the bytes of its terms never stops, and waits only where the role says something next.
use Rattle.std.proofs.Common.{◌≡◌, ℕ, zero, suc, ◌+◌, ◌≤◌, List, [], ◌∷◌, ◌++◌, length, map, Bool, true, false, Option, Some, None, IfSome, IsTrue, refl, sym, ap, ◌∙◌, subst, arith}
use Rattle.std.specs.Prelude.{if◌then◌else◌}
use Rattle.anb_term.specs.Tree.{Tree, leaf, trees_of, AreFormed}
use Rattle.anb_term.specs.Value.{Meaning}
use Rattle.anb_plays.specs.Honest.{honest}
use Rattle.anb_plays.specs.Plans.{Event, send, recv}
use Rattle.anb_plays.specs.Plays.{stopped, waiting, done, Played, ends, says, Walk}
use Rattle.anb_plays.specs.Statements.{HonestAgree}
use Rattle.anb_protocol.specs.Plans.{PlanEvent, to_know, to_make, to_send, to_receive}
use Rattle.anb_protocol.specs.Plays.{event_of}
use Rattle.anb_transcript.specs.declared.transcript.TranscriptLine.{TranscriptLine}
use Rattle.anb_transcript.specs.declared.transcript.TranscriptLine.TheVariants.{In, Out}
use Rattle.anb_transcript.specs.Replays.{arrivals_of, messages_of}
use Rattle.anb_partner.specs.Plans.{has_atom, hook, lines_before, mirrored}
use Rattle.anb_partner.specs.Talks.{flipped}
use Rattle.anb_tries.proofs.Along.{Fits, before_least, fits_none, heard_in, next, said_in, sides_of}
use Rattle.anb_tries.proofs.Refusing.{done_goes, one_formed, waiting_goes}
use Rattle.anb_dues.proofs.Firsts.{Are, Text}
use Rattle.anb_dues.proofs.Speaking as speaking
use Rattle.anb_dues.proofs.Speaking.{IsAt, by_test, heard_right, same_some, talked}

-- ---- where a play ends

-- it doesn't stop, and where it waits and said this, the role says something next
pub record Goes (ss : List Bool) (ls : List TranscriptLine) (sent : List Text) (q : Played Text) : Type 0 where
  pub stops : (f at : ℕ) → q.end ≡ stopped f at → ⊥
  pub waits : (w : ℕ) → q.end ≡ waiting w → q.sent ≡ sent → next ss ls ≡ Some true

ends_over : (ss : List Bool) (ls : List TranscriptLine) (sent xs : List Text) (q : Played Text) → q ≡ ends done xs → Goes ss ls sent q
ends_over ss ls sent xs q is = record { stops = λ f at end. done_goes f at (here ∙ end); waits = λ w end said. absurd (waits w (here ∙ end)) } where
  here : done ≡ q.end
  here = sym (ap (λ (p : Played Text). p.end) is)

  waits : (w : ℕ) → done ≡ waiting w → ⊥
  waits w e = cc

not_stopped : (q : Played Text) (w : ℕ) (xs : List Text) → q ≡ ends (waiting w) xs → (f at : ℕ) → q.end ≡ stopped f at → ⊥
not_stopped q w xs is f at end = waiting_goes w f at (sym (ap (λ (p : Played Text). p.end) is) ∙ end)

-- one message more
and_said : (ss : List Bool) (ls : List TranscriptLine) (sent : List Text) (b c : Text) (p q : Played Text) → p ≡ says b q → Goes ss ls sent q → Goes ss ls (c ∷ sent) p
and_said ss ls sent b c p q is g =
    let end : p.end ≡ q.end = ap (λ (r : Played Text). r.end) is in
    record {
      stops = λ f at e. g.stops f at (sym end ∙ e);
      waits = λ w e said. (let whole : b ∷ q.sent ≡ c ∷ sent = sym (ap (λ (r : Played Text). r.sent) is) ∙ said in let rest : q.sent ≡ sent = cc in g.waits w (sym end ∙ e) rest);
    }

-- nothing was said yet where something is to be said
unsaid : (ss : List Bool) (ls : List TranscriptLine) (b : Text) (p q : Played Text) → p ≡ says b q → ((f at : ℕ) → q.end ≡ stopped f at → ⊥) → Goes ss ls [] p
unsaid ss ls b p q is stops = record {
  stops = λ f at e. stops f at (sym (ap (λ (r : Played Text). r.end) is) ∙ e);
  waits = λ w e said. (let whole : b ∷ q.sent ≡ [] = sym (ap (λ (r : Played Text). r.sent) is) ∙ said in absurd (cc));
}

-- one line more
one_line : (s : Bool) (ss : List Bool) (l : TranscriptLine) (ls : List TranscriptLine) (sent : List Text) (q : Played Text) → Goes ss ls sent q → Goes (s ∷ ss) (l ∷ ls) sent q
one_line s ss l ls sent q g = record { stops = g.stops; waits = g.waits }

module _ (m : Meaning Text) (agrees : HonestAgree m) (draw atoms : ℕ → Text) (good : (k : ℕ) → IsTrue (m.is_value (atoms k))) where
  abbrev of : Tree → Text
  of t = honest m atoms t

  module _ (spare : ℕ) (right wrong : Text) (wrong_is : wrong ≡ atoms spare) where
    -- ---- where a value is to be changed

    -- no line is left, and none came
    record Quiet (r : Option Tree) (o before : Option ℕ) (n : ℕ) : Type 0 where
      none : talked right wrong o [] ≡ []
      at : IsAt r o before (n + 1) 0

    least_all : (before : Option ℕ) (n : ℕ) → ((at : ℕ) → before ≡ Some at → n + 1 ≤ at) → IfSome before (λ at. n + 1 + 0 ≤ at)
    least_all None n least = tt
    least_all (Some at) n least = omega (arith, least at refl)

    quiet : (r : Option Tree) (o before : Option ℕ) (n : ℕ) → ((at : ℕ) → before ≡ Some at → n + 1 ≤ at) → IsAt r o before n 0 → Quiet r o before n
    quiet None None before n least is = record { none = refl; at = tt }
    quiet None (Some k) before n least is = absurd is
    quiet (Some r) None before n least is = record { none = refl; at = least_all before n least }
    quiet (Some r) (Some k) before n least is = absurd (let late = least (n + k) is.0 in omega (arith, late, is.1))

    -- ---- where the spare name comes

    module _ (line n : ℕ) (es : List PlanEvent) (u : Tree) (ins ms : List Tree)
        (on : (ls : List TranscriptLine) (G : List Tree) (e i : ℕ) (q : Played Text) → AreFormed m.has (trees_of G) → Fits (sides_of es) ls → Are of (messages_of ls) ms
        → Walk m draw (map event_of (mirrored spare None (line + 1) es ins ms)) G (map of G) e i (arrivals_of (map flipped ls)) q → Goes (sides_of es) ls (messages_of (map flipped ls)) q) where
      abbrev behind : List Event
      behind = map event_of (mirrored spare None (line + 1) es ins ms)

      say : (ls : List TranscriptLine) (G : List Tree) (e i : ℕ) (q : Played Text) → AreFormed m.has (trees_of G) → Fits (false ∷ sides_of es) ls → Are of (messages_of ls) ms
          → Walk m draw (send u ∷ behind) G (map of G) e i (arrivals_of (map flipped ls)) q → Goes (false ∷ sides_of es) ls (messages_of (map flipped ls)) q
      say [] G e i q formed fits are walk = unsaid (false ∷ sides_of es) [] walk.0 q walk.1 walk.4 (on [] G (e + 1) i walk.1 formed (fits_none (sides_of es)) tt walk.3).stops
      say (Out b ∷ ls) G e i q formed fits are walk = absurd (cc)
      say (In c ∷ ls) G e i q formed fits are walk =
          one_line false (sides_of es) (In c) ls (c ∷ messages_of (map flipped ls)) q
          (and_said (sides_of es) ls (messages_of (map flipped ls)) walk.0 c q walk.1 walk.4 (on ls G (e + 1) i walk.1 formed (cc) are walk.3))

      at_hook : (r : Option Tree) (o : Option ℕ) (ls : List TranscriptLine) (G : List Tree) (e i : ℕ) (q : Played Text) → AreFormed m.has (trees_of G) → IsAt r o (Some n) n (length ls) → Fits (false ∷ sides_of es) ls → Are of (messages_of ls) ms
          → Walk m draw (map event_of (hook spare line r ++ to_send line u ∷ mirrored spare None (line + 1) es ins ms)) G (map of G) e i (arrivals_of (talked right wrong o ls)) q → Goes (false ∷ sides_of es) ls (messages_of (talked right wrong o ls)) q
      at_hook None None ls G e i q formed is fits are walk = say ls G e i q formed fits are walk
      at_hook None (Some k) ls G e i q formed is fits are walk = absurd is
      at_hook (Some r) None [] G e i q formed is fits are walk = unsaid (false ∷ sides_of es) [] walk.0 q walk.1 walk.4 (not_stopped walk.1 (e + 1 + 1) [] walk.3)
      at_hook (Some r) None (l ∷ ls) G e i q formed is fits are walk = absurd (omega (arith, is))
      at_hook (Some r) (Some zero) ls G e i q formed is fits are walk =
          let xs = arrivals_of (map flipped ls) in
          let two = heard_right m agrees draw atoms good (leaf spare) (send u ∷ behind) G (e + 1) i wrong xs walk.1 formed tt wrong_is walk.3 in
          and_said (false ∷ sides_of es) ls (messages_of (map flipped ls)) walk.0 right q walk.1 walk.4
          (say ls (G ++ leaf spare ∷ []) (e + 1 + 1) i walk.1 (one_formed m G (leaf spare) formed tt) fits are two)
      at_hook (Some r) (Some (suc k)) ls G e i q formed is fits are walk = absurd (let same = same_some n (n + suc k) is.0 in omega (arith, same))

    -- where it doesn't
    say_on : (line n : ℕ) (r : Option Tree) (o : Option ℕ) (es : List PlanEvent) (u : Tree) (ins ms : List Tree) (ls : List TranscriptLine) (G : List Tree) (e i : ℕ) (q : Played Text)
        → IsAt r o (lines_before spare (n + 1) es ins) n (length ls) → Fits (false ∷ sides_of es) ls → Are of (messages_of ls) ms
        → ((o2 : Option ℕ) (ls2 : List TranscriptLine) (q2 : Played Text) → IsAt r o2 (lines_before spare (n + 1) es ins) (n + 1) (length ls2) → Fits (sides_of es) ls2 → Are of (messages_of ls2) ms
        → Walk m draw (map event_of (mirrored spare r (line + 1) es ins ms)) G (map of G) (e + 1) i (arrivals_of (talked right wrong o2 ls2)) q2 → Goes (sides_of es) ls2 (messages_of (talked right wrong o2 ls2)) q2)
        → Walk m draw (send u ∷ map event_of (mirrored spare r (line + 1) es ins ms)) G (map of G) e i (arrivals_of (talked right wrong o ls)) q → Goes (false ∷ sides_of es) ls (messages_of (talked right wrong o ls)) q
    say_on line n r o es u ins ms [] G e i q at fits are on walk =
        let x = quiet r o (lines_before spare (n + 1) es ins) n (before_least spare (n + 1) es ins) at in
        let ih = on o [] walk.1 x.at (fits_none (sides_of es)) tt walk.3 in
        subst (λ own. Goes (false ∷ sides_of es) [] (messages_of own) q) (sym x.none) (unsaid (false ∷ sides_of es) [] walk.0 q walk.1 walk.4 ih.stops)
    say_on line n r o es u ins ms (Out b ∷ ls) G e i q at fits are on walk = absurd (cc)
    say_on line n r o es u ins ms (In c ∷ ls) G e i q at fits are on walk =
        let x = speaking.next m agrees draw atoms good spare right wrong wrong_is r o (lines_before spare (n + 1) es ins) n (In c) ls (before_least spare (n + 1) es ins) at in
        let here = subst (λ own. Walk m draw (send u ∷ map event_of (mirrored spare r (line + 1) es ins ms)) G (map of G) e i (arrivals_of own) q) x.lines walk in
        let ih = on x.left ls here.1 x.at (cc) are here.3 in
        subst (λ own. Goes (false ∷ sides_of es) (In c ∷ ls) (messages_of own) q) (sym x.lines)
        (one_line false (sides_of es) (In c) ls (c ∷ messages_of (talked right wrong x.left ls)) q (and_said (sides_of es) ls (messages_of (talked right wrong x.left ls)) here.0 c q here.1 here.4 ih))

    -- ---- along the mirrored plan

    pub goes : (line n : ℕ) (r : Option Tree) (o : Option ℕ) (es : List PlanEvent) (ins ms : List Tree) (ls : List TranscriptLine) (G : List Tree) (e i : ℕ) (q : Played Text)
        → heard_in es ≤ length ins → said_in es ≤ length ms → AreFormed m.has (trees_of G) → AreFormed m.has (trees_of ms) → IsAt r o (lines_before spare n es ins) n (length ls) → Fits (sides_of es) ls → Are of (messages_of ls) ms
        → Walk m draw (map event_of (mirrored spare r line es ins ms)) G (map of G) e i (arrivals_of (talked right wrong o ls)) q → Goes (sides_of es) ls (messages_of (talked right wrong o ls)) q
    goes line n r o [] ins ms ls G e i q hs ss formed all at fits are walk = ends_over [] ls (messages_of (talked right wrong o ls)) (arrivals_of (talked right wrong o ls)) q walk
    goes line n r o (to_know t ∷ es) ins ms ls G e i q hs ss formed all at fits are walk = goes line n r o es ins ms ls G e i q hs ss formed all at fits are walk
    goes line n r o (to_make t ∷ es) ins ms ls G e i q hs ss formed all at fits are walk = goes line n r o es ins ms ls G e i q hs ss formed all at fits are walk
    goes line n r o (to_send a t ∷ es) ins [] ls G e i q hs ss formed all at fits are walk = absurd (omega (arith, ss))
    goes line n r o (to_send a t ∷ es) ins (u ∷ ms) [] G e i q hs ss formed all at fits are walk =
        let x = quiet r o (lines_before spare (n + 1) es ins) n (before_least spare (n + 1) es ins) at in
        let mirror = map event_of (mirrored spare r (line + 1) es ins ms) in
        let here = subst (λ own. Walk m draw (recv u ∷ mirror) G (map of G) e i (arrivals_of own) q) x.none walk in
        record { stops = not_stopped q (e + 1) [] here; waits = λ w end sent. refl }
    goes line n r o (to_send a t ∷ es) ins (u ∷ ms) (In b ∷ ls) G e i q hs ss formed all at fits are walk = absurd (cc)
    goes line n r o (to_send a t ∷ es) ins (u ∷ ms) (Out b ∷ ls) G e i q hs ss formed all at fits are walk =
        let x = speaking.next m agrees draw atoms good spare right wrong wrong_is r o (lines_before spare (n + 1) es ins) n (Out b) ls (before_least spare (n + 1) es ins) at in
        let mirror = map event_of (mirrored spare r (line + 1) es ins ms) in
        let here = subst (λ own. Walk m draw (recv u ∷ mirror) G (map of G) e i (arrivals_of own) q) x.lines walk in
        let on = heard_right m agrees draw atoms good u mirror G e i b (arrivals_of (talked right wrong x.left ls)) q formed all.0 are.0 here in
        let ih = goes (line + 1) (n + 1) r x.left es ins ms ls (G ++ u ∷ []) (e + 1) i q hs (omega (arith, ss)) (one_formed m G u formed all.0) all.1 x.at (cc) are.1 on in
        record { stops = ih.stops; waits = λ w end sent. ih.waits w end (sent ∙ ap messages_of x.lines) }
    goes line n r o (to_receive a t ∷ es) [] ms ls G e i q hs ss formed all at fits are walk = absurd (omega (arith, hs))
    goes line n r o (to_receive a t ∷ es) (u ∷ ins) ms ls G e i q hs ss formed all at fits are walk =
        let on_plan = mirrored spare r (line + 1) es ins ms in
        let last = hook spare line r ++ to_send line u ∷ mirrored spare None (line + 1) es ins ms in
        let before = lines_before spare (n + 1) es ins in
        let P : Bool → Type 0 = λ x. IsAt r o (if x then Some n else before) n (length ls)
        → Walk m draw (map event_of (if x then last else to_send line u ∷ on_plan)) G (map of G) e i (arrivals_of (talked right wrong o ls)) q → Goes (false ∷ sides_of es) ls (messages_of (talked right wrong o ls)) q in
        by_test P (has_atom spare u)
        (λ yes there w. at_hook line n es u ins ms
        (λ ls2 G2 e2 i2 q2 f2 fit2 are2 w2. goes (line + 1) (n + 1) None None es ins ms ls2 G2 e2 i2 q2 (omega (arith, hs)) ss f2 all tt fit2 are2 w2) r o ls G e i q formed there fits are w)
        (λ lacks there w. say_on line n r o es u ins ms ls G e i q there fits are
        (λ o2 ls2 q2 at2 fit2 are2 w2. goes (line + 1) (n + 1) r o2 es ins ms ls2 G (e + 1) i q2 (omega (arith, hs)) ss formed all at2 fit2 are2 w2) w)
        at walk
