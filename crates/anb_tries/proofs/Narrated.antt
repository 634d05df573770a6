-- A program that plays its role passes where all is as narrated.
use Rattle.std.proofs.Common.{◌≡◌, ℕ, zero, suc, ◌+◌, List, [], ◌∷◌, ◌++◌, length, map, take, drop, replicate, Bool, true, false, Option, Some, None, IsTrue, refl, sym, ap, ◌∙◌, subst, inl, inr, append-nil, append_assoc}
use Rattle.std.specs.List.{AllByRecursion}
use Rattle.std.specs.Option.{option_and_then}
use Rattle.anb_base.specs.Bytes.{IsBytes, is_bytes-IsBytes}
use Rattle.anb_plays.specs.Honest.{honest, heard, made, LabelsAreFormed}
use Rattle.anb_plays.specs.Plans.{Event, know, fresh, send, recv, known}
use Rattle.anb_plays.specs.Plays.{End, stopped, waiting, done, Played, ends, says, Walk, Play}
use Rattle.anb_plays.specs.Runs.{without_place}
use Rattle.anb_plays.specs.Statements.{HonestAgree}
use Rattle.anb_compile.proofs.Events.{known_events}
use Rattle.anb_compile.proofs.Protocols.{known_of_plan}
use Rattle.anb_protocol.specs.Plans.{PlanEvent, to_know, to_make, to_send, to_receive, plan_of}
use Rattle.anb_protocol.specs.Plays.{event_of, events_of, meaning_of}
use Rattle.anb_protocol.specs.Protocols.{ProtocolValue}
use Rattle.anb_protocol.specs.Texts.{known_by}
use Rattle.anb_seal.specs.Streams.{draw_of}
use Rattle.anb_term.proofs.Lists.{map-append}
use Rattle.anb_term.specs.Tree.{Tree, trees_of, AreFormed}
use Rattle.anb_term.specs.Value.{Meaning, value}
use Rattle.anb_transcript.specs.declared.transcript.TranscriptLine.{TranscriptLine}
use Rattle.anb_transcript.specs.declared.transcript.TranscriptLine.TheVariants.{In, Out}
use Rattle.anb_transcript.specs.Replays.{IsDue, arrivals_of, due_of, messages_of}
use Rattle.anb_judge.specs.Verdicts.{line_bytes, own_plan, sides}
use Rattle.anb_partner.specs.Laws.{PartnersPlay}
use Rattle.anb_partner.specs.Plans.{handed_terms, has_atom, hook, lines_before, mirrored, partner_plan, said}
use Rattle.anb_partner.specs.Talks.{Corruption, Hooked, IsHooked, flipped, own_lines}
use Rattle.anb_verdict.specs.Laws.{LinesAreExact}
use Rattle.anb_verdict.specs.Verdicts.{is_good}
use Rattle.anb_tries.specs.Laws.{Attempt, DueIsKnown, HearsRight, IsAttempt, IsNarrated, IsRead, PlaysRole, judged}
use Rattle.anb_tries.proofs.Along.{Fits, either}
use Rattle.anb_tries.proofs.Next.{first_arrive}
use Rattle.anb_tries.proofs.Passing.{first_lines, known_passes}
use Rattle.anb_tries.proofs.Placed.{R, arrive, own, own_fit, partner_plays, placed, plan_apart}
use Rattle.anb_tries.proofs.Refusing.{AreDraws, Draws, from_all, from_first, from_rest, grows, known_formed, none_drawn, one_formed, partner_known, partner_made, play_never_stops, refuses_none}

abbrev Text : Type 0
Text = List ℕ

-- ---- lines with the bytes of the terms that are due

abbrev pub EachOf : (Tree → Text) → List Event → List TranscriptLine → Type 0
EachOf of [] [] = Unit {0}
EachOf of [] (l ∷ ls) = ⊥
EachOf of (know t ∷ es) ls = EachOf of es ls
EachOf of (fresh t ∷ es) ls = EachOf of es ls
EachOf of (send t ∷ es) [] = Unit {0}
EachOf of (send t ∷ es) (l ∷ ls) = (line_bytes l ≡ of t) × EachOf of es ls
EachOf of (recv t ∷ es) [] = Unit {0}
EachOf of (recv t ∷ es) (l ∷ ls) = (line_bytes l ≡ of t) × EachOf of es ls

pub each_none : (of : Tree → Text) (es : List Event) → EachOf of es []
each_none of [] = tt
each_none of (know t ∷ es) = each_none of es
each_none of (fresh t ∷ es) = each_none of es
each_none of (send t ∷ es) = tt
each_none of (recv t ∷ es) = tt

drop_none : (n : ℕ) (rest : List Text) (x : Text) → drop n [] ≡ x ∷ rest → ⊥
drop_none zero rest x is = cc
drop_none (suc n) rest x is = cc

stops_first : (n : ℕ) (p : Played Text) (rest : List Text) (x : Text) → p.sent ≡ [] → drop n p.sent ≡ x ∷ rest → ⊥
stops_first n p rest x none is = drop_none n rest x (sym (ap (drop n) none) ∙ is)

first_said : (p q : Played Text) (c b : Text) (rest : List Text) → p ≡ says c q → drop 0 p.sent ≡ b ∷ rest → b ≡ c
first_said p q c b rest is dropped =
    let sent : p.sent ≡ c ∷ q.sent = ap (λ (x : Played Text). x.sent) is in
    let whole : c ∷ q.sent ≡ b ∷ rest = sym (ap (drop 0) sent) ∙ dropped in cc

later_said : (p q : Played Text) (c : Text) (n : ℕ) (rest : List Text) → p ≡ says c q → drop (suc n) p.sent ≡ rest → drop n q.sent ≡ rest
later_said p q c n rest is dropped = sym (ap (λ (x : Played Text). drop (suc n) x.sent) is) ∙ dropped

sent_none : (p q : Played Text) → p ≡ q → p.sent ≡ q.sent
sent_none p q is = ap (λ (x : Played Text). x.sent) is

-- whoever heard the bytes of its terms in the lines before says those of the next one
module _ (m : Meaning Text) (agrees : HonestAgree m) (draw : ℕ → Text) (atoms : ℕ → Text) (good : (k : ℕ) → IsTrue (m.is_value (atoms k))) (b : Text) (rest : List Text) (xs : List Text) where
  abbrev of : Tree → Text
  of t = honest m atoms t

  says_right : (es : List Event) (F : List Tree) (vs : List Text) (e i : ℕ) (ls : List TranscriptLine) (p : Played Text) → AreDraws draw of i (made es) → vs ≡ map of F → AreFormed m.has (trees_of F) → LabelsAreFormed m.has es
      → Fits (sides es) (ls ++ Out b ∷ []) → Walk m draw es F vs e i (arrivals_of ls ++ xs) p → drop (length (messages_of ls)) p.sent ≡ b ∷ rest → EachOf of es ls → EachOf of es (ls ++ Out b ∷ [])
  says_right [] F vs e i [] p drawn is all formed fits walk sent each = absurd (cc)
  says_right [] F vs e i (l ∷ ls) p drawn is all formed fits walk sent each = absurd each
  says_right (know t ∷ es) F vs e i ls p drawn is all formed fits walk sent each = says_right es F vs e i ls p drawn is all formed.1 fits walk sent each
  says_right (fresh t ∷ es) F vs e i ls p drawn is all formed fits walk sent each =
      says_right es (F ++ t ∷ []) (vs ++ draw i ∷ []) e (i + 1) ls p (from_rest (Draws draw of) i t (made es) drawn) (grows of F vs t (draw i) is (from_first (Draws draw of) i t (made es) drawn)) (one_formed m F t all formed.0) formed.1 fits walk sent each
  says_right (send t ∷ es) F vs e i [] p drawn is all formed fits walk sent each = (right, each_none of es) where
    right : b ≡ of t
    right =
        let gives = walk.2 in
        let r = gives.0.0 in
        let own : value m vs r ≡ Some walk.0 = gives.1 r gives.0.1 in
        let form : value m vs r ≡ Some (of t) = ap (λ l. value m l r) is ∙ (agrees atoms F good all).2 r t gives.0.1 in
        let same : walk.0 ≡ of t = cc in first_said p walk.1 walk.0 b rest walk.4 sent ∙ same
  says_right (send t ∷ es) F vs e i (In c ∷ ls) p drawn is all formed fits walk sent each = absurd (cc)
  says_right (send t ∷ es) F vs e i (Out c ∷ ls) p drawn is all formed fits walk sent each =
      (each.0, says_right es F vs (e + 1) i ls walk.1 drawn is all formed (cc) walk.3 (later_said p walk.1 walk.0 (length (messages_of ls)) (b ∷ rest) walk.4 sent) each.1)
  says_right (recv t ∷ es) F vs e i [] p drawn is all formed fits walk sent each = absurd (cc)
  says_right (recv t ∷ es) F vs e i (Out c ∷ ls) p drawn is all formed fits walk sent each = absurd (cc)
  says_right (recv t ∷ es) F vs e i (In c ∷ ls) p drawn is all formed fits (inl h) sent each =
      (each.0, says_right es (F ++ t ∷ []) (vs ++ c ∷ []) (e + 1) i ls p drawn (grows of F vs t c is each.0) (one_formed m F t all formed.0) formed.1 (cc) h.1 sent each.1)
  says_right (recv t ∷ es) F vs e i (In c ∷ ls) p drawn is all formed fits (inr h) sent each =
      absurd (stops_first (length (messages_of ls)) p rest b (sent_none p (ends (stopped (e + 1) 0) (arrivals_of ls ++ xs)) h.1) sent)

  pub play_says_right : (es : List Event) (init : List Text) (ls : List TranscriptLine) (p : Played Text) → AreDraws draw of 0 (made es) → init ≡ map of (known es) → AreFormed m.has (trees_of (known es)) → LabelsAreFormed m.has es
      → Fits (sides es) (ls ++ Out b ∷ []) → Play m draw es init (arrivals_of ls ++ xs) p → drop (length (messages_of ls)) p.sent ≡ b ∷ rest → EachOf of es ls → EachOf of es (ls ++ Out b ∷ [])
  play_says_right es init ls p drawn is all formed fits (inl h) sent each = says_right es (known es) init 0 0 ls p drawn is all formed fits h.1 sent each
  play_says_right es init ls p drawn is all formed fits (inr h) sent each =
      absurd (stops_first (length (messages_of ls)) p rest b (sent_none p (ends (stopped 0 0) (arrivals_of ls ++ xs)) h.1) sent)

-- ---- the role's lines and the partner's

flipped_bytes : (l : TranscriptLine) → line_bytes (flipped l) ≡ line_bytes l
flipped_bytes (In b) = refl
flipped_bytes (Out b) = refl

abbrev narrated : (spare line : ℕ) → List PlanEvent → List PlanEvent
narrated spare line es = mirrored spare None line es (heard (map event_of es)) (said (map event_of es))

module _ (of : Tree → Text) where
  pub to_partner : (spare line : ℕ) (es : List PlanEvent) (ls : List TranscriptLine) → EachOf of (map event_of es) ls → EachOf of (map event_of (narrated spare line es)) (map flipped ls)
  to_partner spare line [] [] each = tt
  to_partner spare line [] (l ∷ ls) each = absurd each
  to_partner spare line (to_know t ∷ es) ls each = to_partner spare line es ls each
  to_partner spare line (to_make t ∷ es) ls each = to_partner spare line es ls each
  to_partner spare line (to_send i t ∷ es) [] each = tt
  to_partner spare line (to_send i t ∷ es) (l ∷ ls) each = (flipped_bytes l ∙ each.0, to_partner spare (line + 1) es ls each.1)
  to_partner spare line (to_receive i t ∷ es) [] each = each_none of (map event_of (narrated spare line (to_receive i t ∷ es)))
  to_partner spare line (to_receive i t ∷ es) (l ∷ ls) each =
      let next = to_send line t ∷ narrated spare (line + 1) es in
      let here : EachOf of (map event_of next) (map flipped (l ∷ ls)) = (flipped_bytes l ∙ each.0, to_partner spare (line + 1) es ls each.1) in
      either (λ es2. EachOf of (map event_of es2) (map flipped (l ∷ ls))) (has_atom spare t) (hook spare line None ++ next) next here here

  pub to_role : (spare line : ℕ) (es : List PlanEvent) (ls : List TranscriptLine) → EachOf of (map event_of (narrated spare line es)) (map flipped ls) → EachOf of (map event_of es) ls
  to_role spare line [] [] each = tt
  to_role spare line [] (l ∷ ls) each = absurd each
  to_role spare line (to_know t ∷ es) ls each = to_role spare line es ls each
  to_role spare line (to_make t ∷ es) ls each = to_role spare line es ls each
  to_role spare line (to_send i t ∷ es) [] each = tt
  to_role spare line (to_send i t ∷ es) (l ∷ ls) each = (sym (flipped_bytes l) ∙ each.0, to_role spare (line + 1) es ls each.1)
  to_role spare line (to_receive i t ∷ es) [] each = tt
  to_role spare line (to_receive i t ∷ es) (l ∷ ls) each =
      let next = to_send line t ∷ narrated spare (line + 1) es in
      let P : List PlanEvent → Type 0 = λ es2. EachOf of (map event_of es2) (map flipped (l ∷ ls)) → EachOf of (map event_of (to_receive i t ∷ es)) (l ∷ ls) in
      let here : P next = λ e. (sym (flipped_bytes l) ∙ e.0, to_role spare (line + 1) es ls e.1) in
      either P (has_atom spare t) (hook spare line None ++ next) next here here each

  pub known_each : (ts : List Tree) (es : List PlanEvent) (ls : List TranscriptLine) → EachOf of (map event_of es) ls → EachOf of (map event_of (map to_know ts ++ es)) ls
  known_each [] es ls each = each
  known_each (t ∷ ts) es ls each = known_each ts es ls each

  pub each_known : (ts : List Tree) (es : List PlanEvent) (ls : List TranscriptLine) → EachOf of (map event_of (map to_know ts ++ es)) ls → EachOf of (map event_of es) ls
  each_known [] es ls each = each
  each_known (t ∷ ts) es ls each = each_known ts es ls each

  pub handed_each : (ts : List Tree) (es : List PlanEvent) (ls : List TranscriptLine) → EachOf of (map event_of es) ls → EachOf of (map event_of (map (to_receive 0) ts ++ es)) (map In (map of ts) ++ ls)
  handed_each [] es ls each = each
  handed_each (t ∷ ts) es ls each = (refl, handed_each ts es ls each)

  pub each_handed : (ts : List Tree) (es : List PlanEvent) (ls : List TranscriptLine) → EachOf of (map event_of (map (to_receive 0) ts ++ es)) (map In (map of ts) ++ ls) → EachOf of (map event_of es) ls
  each_handed [] es ls each = each
  each_handed (t ∷ ts) es ls each = each_handed ts es ls each.1

  -- what arrives in such lines
  pub each_arrives : (es : List Event) (ls : List TranscriptLine) → Fits (sides es) ls → EachOf of es ls → arrivals_of ls ≡ map of (take (length (arrivals_of ls)) (heard es))
  each_arrives [] [] fits each = refl
  each_arrives [] (l ∷ ls) fits each = absurd each
  each_arrives (know t ∷ es) ls fits each = each_arrives es ls fits each
  each_arrives (fresh t ∷ es) ls fits each = each_arrives es ls fits each
  each_arrives (send t ∷ es) [] fits each = none_taken (heard es) where
    none_taken : (ts : List Tree) → [] ≡ map of (take 0 ts)
    none_taken [] = refl
    none_taken (t ∷ ts) = refl
  each_arrives (send t ∷ es) (In b ∷ ls) fits each = absurd (cc)
  each_arrives (send t ∷ es) (Out b ∷ ls) fits each = each_arrives es ls (cc) each.1
  each_arrives (recv t ∷ es) [] fits each = refl
  each_arrives (recv t ∷ es) (Out b ∷ ls) fits each = absurd (cc)
  each_arrives (recv t ∷ es) (In b ∷ ls) fits each = ap (λ x. x ∷ arrivals_of ls) each.0 ∙ ap (λ l. of t ∷ l) (each_arrives es ls (cc) each.1)

pub fits_first : (ss : List Bool) (xs ys : List TranscriptLine) → Fits ss (xs ++ ys) → Fits ss xs
fits_first [] [] ys fits = refl
fits_first [] (x ∷ xs) ys fits = absurd (cc)
fits_first (true ∷ ss) [] ys fits = refl
fits_first (false ∷ ss) [] ys fits = refl
fits_first (true ∷ ss) (Out b ∷ xs) ys fits = ap (λ l. b ∷ l) (fits_first ss xs ys (cc))
fits_first (true ∷ ss) (In b ∷ xs) ys fits = absurd (cc)
fits_first (false ∷ ss) (In b ∷ xs) ys fits = ap (λ l. b ∷ l) (fits_first ss xs ys (cc))
fits_first (false ∷ ss) (Out b ∷ xs) ys fits = absurd (cc)

-- what is due where the partner said this
pub said_is_due : (l : List Text) (end : End) (c : Text) → IsDue (due_of l end) (Out c) → (rest : List Text) × (l ≡ c ∷ rest)
said_is_due (d ∷ l) end c is = (l, ap (λ x. x ∷ l) (sym is))
said_is_due [] (waiting e) c is = absurd is
said_is_due [] done c is = absurd is
said_is_due [] (stopped e at) c is = absurd is

-- ---- an attempt with all as narrated

pub arrivals_both : (xs ys : List TranscriptLine) → arrivals_of (xs ++ ys) ≡ arrivals_of xs ++ arrivals_of ys
arrivals_both [] ys = refl
arrivals_both (In b ∷ xs) ys = ap (λ l. b ∷ l) (arrivals_both xs ys)
arrivals_both (Out b ∷ xs) ys = arrivals_both xs ys

pub messages_both : (xs ys : List TranscriptLine) → messages_of (xs ++ ys) ≡ messages_of xs ++ messages_of ys
messages_both [] ys = refl
messages_both (In b ∷ xs) ys = messages_both xs ys
messages_both (Out b ∷ xs) ys = ap (λ l. b ∷ l) (messages_both xs ys)

pub drop_first : (xs ys : List Text) → drop (length xs) (xs ++ ys) ≡ ys
drop_first [] [] = refl
drop_first [] (y ∷ ys) = refl
drop_first (x ∷ xs) ys = drop_first xs ys

not_hooked : (o : Option Hooked) (corrupt : Corruption) (at : Option ℕ) (hs : List Text) (ls : List TranscriptLine) → at ≡ None → IsHooked at corrupt ls o → own_lines hs o ls ≡ map In hs ++ map flipped ls
not_hooked None corrupt at hs ls none is = refl
not_hooked (Some h) corrupt at hs ls none is = (let never : None ≡ Some h.at = sym none ∙ is.0 in absurd (cc))

pub role_known : (p : ProtocolValue) (role : ℕ) → known (events_of p role) ≡ known_by p role
role_known p role = known_events (plan_of p role) ∙ known_of_plan p role

module _ (a : Attempt) (is : IsAttempt a) (law : PartnersPlay a.script.protocol) (agrees : HonestAgree (meaning_of a.script.protocol)) (plays : PlaysRole a) (n : IsNarrated a plays) where
  abbrev m : Meaning Text
  m = meaning_of a.script.protocol

  abbrev by : Tree → Text
  by t = honest m n.atoms t

  abbrev plan : List Event
  plan = own_plan (judged a)

  abbrev own_es : List PlanEvent
  own_es = plan_of a.script.protocol a.script.role

  abbrev partner : List Event
  partner = map event_of (partner_plan a.script)

  abbrev ls : List TranscriptLine
  ls = a.conversation.lines

  abbrev spare : ℕ
  spare = length a.script.protocol.atoms

  abbrev hs : List Tree
  hs = handed_terms a.script.protocol a.script.role

  abbrev ks : List Tree
  ks = known_by a.script.protocol a.script.role

  good : (k : ℕ) → IsTrue (m.is_value (n.atoms k))
  good k = is_bytes-IsBytes (n.atoms k) (n.bytes k)

  -- the partner's plan is the narration's
  mirror_is : mirrored spare a.script.right 1 own_es a.script.arrivals a.script.messages ≡ narrated spare 1 own_es
  mirror_is =
      ap (λ r. mirrored spare r 1 own_es a.script.arrivals a.script.messages) n.right
      ∙ ap (λ x. mirrored spare None 1 own_es x a.script.messages) n.arrivals
      ∙ ap (λ x. mirrored spare None 1 own_es (heard plan) x) n.messages

  plan_is : partner_plan a.script ≡ map to_know ks ++ (map (to_receive 0) hs ++ narrated spare 1 own_es)
  plan_is = plan_apart a.script ∙ ap (λ l. map to_know ks ++ (map (to_receive 0) hs ++ l)) mirror_is

  own_is : own a is law ≡ map In a.handed ++ map flipped ls
  own_is = not_hooked is.converses.talks.hooked a.wrong a.at a.handed ls (is.hook ∙ ap (option_and_then (λ (t : Tree). lines_before spare 0 own_es a.script.arrivals)) n.right) is.converses.talks.is_hooked

  -- where the first lines have the right bytes for the role, so they have for the partner
  forth : (before : List TranscriptLine) → EachOf by plan before → EachOf by partner (map In a.handed ++ map flipped before)
  forth before each =
      let mirrored_each = handed_each by hs (narrated spare 1 own_es) (map flipped before) (to_partner by spare 1 own_es before each) in
      let all = known_each by ks (map (to_receive 0) hs ++ narrated spare 1 own_es) (map In (map by hs) ++ map flipped before) mirrored_each in
      subst (λ es. EachOf by (map event_of es) (map In a.handed ++ map flipped before)) (sym plan_is) (subst (λ l. EachOf by (map event_of (map to_know ks ++ (map (to_receive 0) hs ++ narrated spare 1 own_es))) (map In l ++ map flipped before)) (sym n.hands) all)

  -- and back
  back : (before : List TranscriptLine) → EachOf by partner (map In a.handed ++ map flipped before) → EachOf by plan before
  back before each =
      let here = subst (λ es. EachOf by (map event_of es) (map In a.handed ++ map flipped before)) plan_is each in
      let there = subst (λ l. EachOf by (map event_of (map to_know ks ++ (map (to_receive 0) hs ++ narrated spare 1 own_es))) (map In l ++ map flipped before)) n.hands here in
      to_role by spare 1 own_es before (each_handed by hs (narrated spare 1 own_es) (map flipped before)
      (each_known by ks (map (to_receive 0) hs ++ narrated spare 1 own_es) (map In (map by hs) ++ map flipped before) there))

  -- ---- line by line

  said_line : (before after : List TranscriptLine) (b : Text) → ls ≡ before ++ Out b ∷ after → EachOf by plan before → EachOf by plan (before ++ Out b ∷ [])
  said_line before after b at each =
      let f = first_lines a is plays.played.sent plays.short plays.output in
      let rest = messages_of after ++ f.0 in
      let sent : plays.played.sent ≡ messages_of before ++ b ∷ rest =
      f.1 ∙ ap (λ l. l ++ f.0) (ap messages_of at ∙ messages_both before (Out b ∷ after)) ∙ append_assoc (messages_of before) (b ∷ messages_of after) f.0 in
      let dropped : drop (length (messages_of before)) plays.played.sent ≡ b ∷ rest = ap (drop (length (messages_of before))) sent ∙ drop_first (messages_of before) (b ∷ rest) in
      let fits = fits_first (sides plan) (before ++ Out b ∷ []) after (subst (Fits (sides plan)) (at ∙ sym (append_assoc before (Out b ∷ []) after)) (placed a is law)) in
      let play = subst (λ xs. Play m plays.draw plan a.initial xs plays.played) (ap arrivals_of at ∙ arrivals_both before (Out b ∷ after)) plays.play in
      play_says_right m agrees plays.draw n.atoms good b rest (arrivals_of after) plan a.initial before plays.played (from_all (Draws plays.draw by) (made plan) n.draws)
      (n.begins ∙ ap (map by) (sym (role_known a.script.protocol a.script.role))) (known_formed m plan n.formed) n.formed fits play dropped each

  heard_line : (before after : List TranscriptLine) (c : Text) → ls ≡ before ++ In c ∷ after → EachOf by plan before → EachOf by plan (before ++ In c ∷ [])
  heard_line before after c at each =
      let front = map In a.handed ++ map flipped before in
      let whole : own a is law ≡ front ++ Out c ∷ map flipped after =
      own_is ∙ ap (λ l. map In a.handed ++ map flipped l) at ∙ ap (λ l. map In a.handed ++ l) (map-append flipped before (In c ∷ after)) ∙ sym (append_assoc (map In a.handed) (map flipped before) (Out c ∷ map flipped after)) in
      let r = R a is law (arrivals_of front) in
      let due = is.converses.talks.due front (map flipped after) (Out c) whole in
      let told = said_is_due (drop (length (messages_of front)) r.sent) r.end c due in
      let bytes = first_arrive front (Out c ∷ map flipped after) (subst (λ l. AllByRecursion IsBytes (arrivals_of l)) whole (arrive a is law)) in
      let play = subst (λ xs. Play m (draw_of (replicate 32 0) 0) partner a.initial xs (without_place r)) (sym (append-nil (arrivals_of front))) (partner_plays a is law (arrivals_of front) bytes) in
      let fits = fits_first (sides partner) (front ++ Out c ∷ []) (map flipped after) (subst (Fits (sides partner)) (whole ∙ sym (append_assoc front (Out c ∷ []) (map flipped after))) (own_fit a is law)) in
      let said = play_says_right m agrees (draw_of (replicate 32 0) 0) n.atoms good c told.0 [] partner a.initial front (without_place r) (none_drawn (draw_of (replicate 32 0) 0) by (made partner) (partner_made a.script))
      (n.begins ∙ ap (map by) (sym (partner_known a.script))) (known_formed m partner n.partner_formed) n.partner_formed fits play told.1 (forth before each) in
      let joined : front ++ Out c ∷ [] ≡ map In a.handed ++ map flipped (before ++ In c ∷ []) =
      append_assoc (map In a.handed) (map flipped before) (Out c ∷ []) ∙ ap (λ l. map In a.handed ++ l) (sym (map-append flipped before (In c ∷ []))) in
      back (before ++ In c ∷ []) (subst (EachOf by partner) joined said)

  -- ---- all lines

  one_line : (before after : List TranscriptLine) (l : TranscriptLine) → ls ≡ before ++ l ∷ after → EachOf by plan before → EachOf by plan (before ++ l ∷ [])
  one_line before after (In c) at each = heard_line before after c at each
  one_line before after (Out c) at each = said_line before after c at each

  more_lines : (before rest : List TranscriptLine) → ls ≡ before ++ rest → EachOf by plan before → EachOf by plan ls
  more_lines before [] at each = subst (EachOf by plan) (sym (at ∙ append-nil before)) each
  more_lines before (l ∷ rest) at each = more_lines (before ++ l ∷ []) rest (at ∙ sym (append_assoc before (l ∷ []) rest)) (one_line before rest l at each)

  all_lines : EachOf by plan ls
  all_lines = more_lines [] ls refl (each_none by plan)

  -- so the partner hears right bytes, and the role doesn't stop
  hears_right : HearsRight a is
  hears_right = record {
    atoms = n.atoms;
    bytes = n.bytes;
    begins = n.begins;
    hears = (
      length (arrivals_of (own a is law)),
      each_arrives by partner (own a is law) (own_fit a is law) (subst (EachOf by partner) (sym own_is) (forth ls all_lines)),
    );
    formed = n.partner_formed;
  }

  never_stopped : (event at : ℕ) → plays.played.end ≡ stopped event at → ⊥
  never_stopped event at end =
      let heard_is = each_arrives by plan ls (placed a is law) all_lines in
      let play = subst (λ xs. Play m plays.draw plan a.initial xs plays.played) heard_is plays.play in
      play_never_stops m agrees plays.draw n.atoms good plan a.initial (length (arrivals_of ls)) plays.played event at (from_all (Draws plays.draw by) (made plan) n.draws)
      (n.begins ∙ ap (map by) (sym (role_known a.script.protocol a.script.role))) n.formed play end

  no_due : (event : ℕ) → a.due ≡ Some event → ⊥
  no_due event due = (let none : None ≡ Some event = sym n.due ∙ due in cc)

pub narrated_passes : (a : Attempt) → PartnersPlay a.script.protocol → LinesAreExact a.script.protocol → HonestAgree (meaning_of a.script.protocol) → IsAttempt a → IsRead a → (plays : PlaysRole a) → IsNarrated a plays → is_good a.verdict ≡ true
narrated_passes a law exact agrees is read plays n =
    let due : DueIsKnown a = record {
      hears = λ event is_due. absurd (no_due a is law agrees plays n event is_due);
      stops = λ event is_due begun. no_due a is law agrees plays n event is_due;
    } in
    known_passes a law exact is due read (refuses_none a is law agrees (hears_right a is law agrees plays n)) plays
    (λ event at end. absurd (never_stopped a is law agrees plays n event at end))
