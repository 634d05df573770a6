-- Who sees a role stops where the role stops, if the names that it made before can be told.
use Rattle.std.proofs.Common.{◌≡◌, ℕ, zero, suc, ◌+◌, ◌≤◌, ◌<◌, List, [], ◌∷◌, ◌++◌, length, map, take, Bool, false, IsTrue, Some, refl, sym, ap, ◌∙◌, subst, inl, inr, arith, append_assoc, append-nil}
use Rattle.std.specs.List.{AllByRecursion}
use Rattle.std.proofs.lemmas.List.Elements.{All-from_recursion}
use Rattle.anb_lemmas.proofs.Each.{each_and_last}
use Rattle.anb_term.specs.Tree.{Tree}
use Rattle.anb_term.specs.Value.{Meaning, value}
use Rattle.anb_term.specs.FreeAlgebra.{terms_over}
use Rattle.anb_term.specs.Agree.{Agree, Gives, HasRecipe}
use Rattle.anb_term.specs.Statements.{NewAtomAgrees}
use Rattle.anb_term.proofs.Values.{Valued}
use Rattle.anb_plays.specs.Plans.{Event, know, fresh, send, recv, known, IsFreshAfter, FreshIsNew}
use Rattle.anb_plays.specs.Plays.{End, stopped, waiting, done, Played, ends, says, Walk, Play}
use Rattle.anb_plays.specs.Honest.{heard, made}
use Rattle.anb_plays.proofs.Growing.{still_agrees}
use Rattle.anb_protocol.specs.Laws.{KnowsFirst}
use Rattle.anb_transcript.specs.Replays.{arrivals_of, messages_of}
use Rattle.anb_transcript.specs.declared.transcript.TranscriptLine.{TranscriptLine}
use Rattle.anb_transcript.specs.declared.transcript.TranscriptLine.TheVariants.{In, Out}
use Rattle.anb_judge.specs.Observed.{observed, hears, says_in, over, MadeIsSeen}
use Rattle.anb_judge.specs.Verdicts.{is_said, line_bytes, sides, up_to}
use Rattle.anb_judge.proofs.Begun.{cut_known}
use Rattle.anb_judge.proofs.Observing.{known_observed}
use Rattle.anb_judge.proofs.Seeing.{Seen, agree_seen, over_others, seen_and, seen_itself, seen_more, term_over, value_over}
use Rattle.anb_tries.proofs.Along.{Fits}

abbrev Text : Type 0
Text = List ℕ

-- ---- labels that are seen, and see

module _ (m : Meaning Text) where
  -- each has a recipe
  had : (F : List Tree) (vs : List Text) (G : List Tree) (ws : List Text) → Seen m F vs G ws → AllByRecursion (HasRecipe m.has F) G
  had F vs [] [] h = tt
  had F vs [] (x ∷ ws) h = absurd h
  had F vs (t ∷ G) [] h = absurd h
  had F vs (t ∷ G) (x ∷ ws) h = ((h.0, h.1), had F vs G ws h.3)

  -- labels that agree see others; where each of some among them has a recipe over these, it has its value there
  module _ (F : List Tree) (vs : List Text) (G : List Tree) (ws : List Text) (agree : Agree m F vs) (seen : Seen m F vs G ws) where
    seen_back : (H : List Tree) (us : List Text) → Seen m F vs H us → AllByRecursion (HasRecipe m.has G) H → Seen m G ws H us
    seen_back [] [] h has = tt
    seen_back [] (x ∷ us) h has = absurd h
    seen_back (t ∷ H) [] h has = absurd h
    seen_back (t ∷ H) (x ∷ us) h has =
        let r = has.0.0 in
        let is = has.0.1 in
        let two = agree.one (over_others m F vs G ws seen r) h.0 t (term_over m F vs G ws seen r t is) h.1 in
        (r, is, sym (value_over m F vs G ws seen r t is) ∙ two.1 ∙ sym two.2 ∙ h.2, seen_back H us h.3 has.1)

-- ---- where a play ends

ended : {X : Type 0} (p q : Played Text) (x : End) → p.end ≡ x → p ≡ q → (q.end ≡ x → X) → X
ended p q x end is f = f (sym (ap (λ (r : Played Text). r.end) is) ∙ end)

-- stops that are the same are at one event
pub same_event : (e at f by : ℕ) → stopped e at ≡ stopped f by → e ≡ f
same_event e at f by is = cc

module _ (m : Meaning Text) (draw : ℕ → Text) where
  -- a role stops behind the events that it went on over
  pub stops_later : (es : List Event) (F : List Tree) (vs : List Text) (k i : ℕ) (xs : List Text) (p : Played Text) (f at : ℕ) → p.end ≡ stopped f at → Walk m draw es F vs k i xs p → k < f
  stops_later [] F vs k i xs p f at end walk = ended p (ends done xs) (stopped f at) end walk (λ never. absurd (cc))
  stops_later (know t ∷ es) F vs k i xs p f at end walk = stops_later es F vs k i xs p f at end walk
  stops_later (fresh t ∷ es) F vs k i xs p f at end walk = stops_later es (F ++ t ∷ []) (vs ++ draw i ∷ []) k (i + 1) xs p f at end walk
  stops_later (send t ∷ es) F vs k i xs p f at end walk =
      ended p (says walk.0 walk.1) (stopped f at) end walk.4 (λ it. omega (arith, stops_later es F vs (k + 1) i xs walk.1 f at it walk.3))
  stops_later (recv t ∷ es) F vs k i [] p f at end walk = ended p (ends (waiting (k + 1)) []) (stopped f at) end walk (λ never. absurd (cc))
  stops_later (recv t ∷ es) F vs k i (x ∷ xs) p f at end (inl h) = omega (arith, stops_later es (F ++ t ∷ []) (vs ++ x ∷ []) (k + 1) i xs p f at end h.1)
  stops_later (recv t ∷ es) F vs k i (x ∷ xs) p f at end (inr h) = ended p (ends (stopped (k + 1) 0) xs) (stopped f at) end h.1 (λ it. omega (arith, same_event (k + 1) 0 f at it))

  -- so up to a stop the first lines are what it hears and says
  pub begun_from : (es : List Event) (F : List Tree) (vs : List Text) (k i n : ℕ) (ls : List TranscriptLine) (p : Played Text) (f at : ℕ) → Fits (sides es) ls → n ≤ length ls → p.end ≡ stopped f at → k + n < f
      → messages_of ls ≡ p.sent → Walk m draw es F vs k i (arrivals_of ls) p
      → Walk m draw (up_to n es) F vs k i (hears (up_to n es) (map line_bytes (take n ls))) (over (says_in (up_to n es) (map line_bytes (take n ls))))
  begun_from [] F vs k i n ls p f at fits few end before said walk = refl
  begun_from (know t ∷ es) F vs k i n ls p f at fits few end before said walk = begun_from es F vs k i n ls p f at fits few end before said walk
  begun_from (fresh t ∷ es) F vs k i n ls p f at fits few end before said walk = begun_from es (F ++ t ∷ []) (vs ++ draw i ∷ []) k (i + 1) n ls p f at fits few end before said walk
  begun_from (send t ∷ es) F vs k i zero ls p f at fits few end before said walk = refl
  begun_from (recv t ∷ es) F vs k i zero ls p f at fits few end before said walk = refl
  begun_from (send t ∷ es) F vs k i (suc n) [] p f at fits few end before said walk = absurd (omega (arith, few))
  begun_from (recv t ∷ es) F vs k i (suc n) [] p f at fits few end before said walk = absurd (omega (arith, few))
  begun_from (send t ∷ es) F vs k i (suc n) (In b ∷ ls) p f at fits few end before said walk = absurd (cc)
  begun_from (recv t ∷ es) F vs k i (suc n) (Out b ∷ ls) p f at fits few end before said walk = absurd (cc)
  begun_from (send t ∷ es) F vs k i (suc n) (Out b ∷ ls) p f at fits few end before said walk =
      let q = walk.1 in
      let s : p.sent ≡ walk.0 ∷ q.sent = ap (λ (r : Played Text). r.sent) walk.4 in
      let e : p.end ≡ q.end = ap (λ (r : Played Text). r.end) walk.4 in
      let rest : messages_of ls ≡ q.sent = cc in
      let first : b ≡ walk.0 = cc in
      let on = begun_from es F vs (k + 1) i n ls q f at (cc) (omega (arith, few)) (sym e ∙ end) (omega (arith, before)) rest walk.3 in
      (walk.0, over (says_in (up_to n es) (map line_bytes (take n ls))), walk.2, on, ap (λ x. over (x ∷ says_in (up_to n es) (map line_bytes (take n ls)))) first)
  begun_from (recv t ∷ es) F vs k i (suc n) (In b ∷ ls) p f at fits few end before said (inl h) =
      inl (h.0, begun_from es (F ++ t ∷ []) (vs ++ b ∷ []) (k + 1) i n ls p f at (cc) (omega (arith, few)) end (omega (arith, before)) said h.1)
  begun_from (recv t ∷ es) F vs k i (suc n) (In b ∷ ls) p f at fits few end before said (inr h) =
      ended p (ends (stopped (k + 1) 0) (arrivals_of ls)) (stopped f at) end h.1 (λ it. absurd (omega (arith, before, same_event (k + 1) 0 f at it)))

-- ---- the role and who sees it, side by side

-- at this event who sees it stops, where the role hears something
pub record StopsThere (ss : List Bool) (n f : ℕ) (s : Played Text) : Type 0 where
  pub end : s.end ≡ stopped f 0
  pub heard : is_said ss n ≡ false

module _ (m : Meaning Text) (new_atom : NewAtomAgrees m) (draw : ℕ → Text) (drawn : (i : ℕ) → IsTrue (m.is_value (draw i))) (other : ℕ → Text) (H : List Tree) where
  -- The role's labels, and those of who sees it, which are H after n messages more. Over these the role's have recipes.
  record Both (n : ℕ) (es : List Event) (F : List Tree) (vs : List Text) (G : List Tree) (ws : List Text) : Type 0 where
    new : IsFreshAfter F es
    valued : Valued m vs
    agree : Agree m F vs
    seen : Seen m F vs G ws
    front : H ≡ G ++ heard (observed (up_to n es))
    has : AllByRecursion (HasRecipe m.has H) F
    made_has : AllByRecursion (HasRecipe m.has H) (made (up_to n es))

  last_seen : (F : List Tree) (vs : List Text) (t : Tree) (x : Text) → length vs ≡ length F → Seen m (F ++ t ∷ []) (vs ++ x ∷ []) (t ∷ []) (x ∷ [])
  last_seen F vs t x long = seen_itself m F vs (t ∷ []) (x ∷ []) long refl

  both_fresh : (n i : ℕ) (t : Tree) (es : List Event) (F : List Tree) (vs : List Text) (G : List Tree) (ws : List Text) → Both n (fresh t ∷ es) F vs G ws → Both n es (F ++ t ∷ []) (vs ++ draw i ∷ []) G ws
  both_fresh n i t es F vs G ws b = record {
    new = b.new.1;
    valued = each_and_last (λ y. IsTrue (m.is_value y)) vs (draw i) b.valued (drawn i);
    agree = still_agrees m new_atom F vs t (draw i) b.new.0.0 b.new.0.1 b.new.0.2 (All-from_recursion (λ y. IsTrue (m.is_value y)) vs b.valued) (drawn i) b.agree;
    seen = seen_more m F (t ∷ []) vs (draw i ∷ []) G ws b.seen;
    front = b.front;
    has = each_and_last (HasRecipe m.has H) F t b.has b.made_has.0;
    made_has = b.made_has.1;
  }

  both_said : (n : ℕ) (t : Tree) (x y : Text) (es : List Event) (F : List Tree) (vs : List Text) (G : List Tree) (ws : List Text) → Gives m F vs t y → y ≡ x → Both (suc n) (send t ∷ es) F vs G ws
      → Both n es F vs (G ++ t ∷ []) (ws ++ x ∷ [])
  both_said n t x y es F vs G ws gives same b = record {
    new = b.new;
    valued = b.valued;
    agree = b.agree;
    seen = seen_and m F vs G ws t x gives.0.0 gives.0.1 (gives.1 gives.0.0 gives.0.1 ∙ ap Some same) b.seen;
    front = b.front ∙ sym (append_assoc G (t ∷ []) (heard (observed (up_to n es))));
    has = b.has;
    made_has = b.made_has;
  }

  both_heard : (n : ℕ) (t : Tree) (x : Text) (es : List Event) (F : List Tree) (vs : List Text) (G : List Tree) (ws : List Text) → Agree m (F ++ t ∷ []) (vs ++ x ∷ []) → IsTrue (m.is_value x)
      → Both (suc n) (recv t ∷ es) F vs G ws → Both n es (F ++ t ∷ []) (vs ++ x ∷ []) (G ++ t ∷ []) (ws ++ x ∷ [])
  both_heard n t x es F vs G ws agree value_x b =
      let rest = heard (observed (up_to n es)) in
      let front : H ≡ (G ++ t ∷ []) ++ rest = b.front ∙ sym (append_assoc G (t ∷ []) rest) in
      let mine = last_seen F vs t x b.agree.long in
      let theirs = last_seen G ws t x (agree_seen m F vs G ws b.seen b.agree).long in
      let later = seen_more m (G ++ t ∷ []) rest (ws ++ x ∷ []) [] (t ∷ []) (x ∷ []) theirs in
      record {
        new = b.new;
        valued = each_and_last (λ y. IsTrue (m.is_value y)) vs x b.valued value_x;
        agree = agree;
        seen = seen_and m (F ++ t ∷ []) (vs ++ x ∷ []) G ws t x mine.0 mine.1 mine.2 (seen_more m F (t ∷ []) vs (x ∷ []) G ws b.seen);
        front = front;
        has = each_and_last (HasRecipe m.has H) F t b.has (later.0, subst (λ l. value (terms_over m.has) l later.0 ≡ Some t) (sym front) later.1);
        made_has = b.made_has;
      }

  -- before the stop all the role's labels have recipes, so where who sees it goes on over one line more, so does the role
  goes_on_too : (t : Tree) (x : Text) (es : List Event) (F : List Tree) (vs : List Text) (G : List Tree) (ws : List Text) → Both 0 (recv t ∷ es) F vs G ws
      → Agree m (G ++ t ∷ []) (ws ++ x ∷ []) → Agree m (F ++ t ∷ []) (vs ++ x ∷ [])
  goes_on_too t x es F vs G ws b agree =
      let has = subst (λ l. AllByRecursion (HasRecipe m.has l) F) (b.front ∙ append-nil G) b.has in
      let back = seen_back m F vs G ws b.agree b.seen F vs (seen_itself m [] [] F vs refl b.agree.long) has in
      let last = last_seen G ws t x (agree_seen m F vs G ws b.seen b.agree).long in
      agree_seen m (G ++ t ∷ []) (ws ++ x ∷ []) (F ++ t ∷ []) (vs ++ x ∷ [])
      (seen_and m (G ++ t ∷ []) (ws ++ x ∷ []) F vs t x last.0 last.1 last.2 (seen_more m G (t ∷ []) ws (x ∷ []) F vs back)) agree

  -- who sees it goes on over this line
  sees_on : (n : ℕ) (es : List Event) (F : List Tree) (vs : List Text) (G : List Tree) (ws : List Text) → Both n es F vs G ws → Agree m G ws
  sees_on n es F vs G ws b = agree_seen m F vs G ws b.seen b.agree

  stops_from : (es : List Event) (F : List Tree) (vs : List Text) (G : List Tree) (ws : List Text) (k i j n : ℕ) (ls : List TranscriptLine) (p s : Played Text) (more : List Text) (f at : ℕ) → Both n es F vs G ws
      → Fits (sides es) ls → Valued m (map line_bytes ls) → f ≡ k + suc n → p.end ≡ stopped f at → messages_of ls ≡ p.sent ++ more
      → Walk m draw es F vs k i (arrivals_of ls) p → Walk m other (observed es) G ws k j (map line_bytes ls) s → StopsThere (sides es) (suc n) f s
  stops_from [] F vs G ws k i j n ls p s more f at both fits valued here end said walk seer = ended p (ends done (arrivals_of ls)) (stopped f at) end walk (λ never. absurd (cc))
  stops_from (know t ∷ es) F vs G ws k i j n ls p s more f at both fits valued here end said walk seer =
      let b : Both n es F vs G ws = record { new = both.new; valued = both.valued; agree = both.agree; seen = both.seen; front = both.front; has = both.has; made_has = both.made_has } in
      stops_from es F vs G ws k i j n ls p s more f at b fits valued here end said walk seer
  stops_from (fresh t ∷ es) F vs G ws k i j n ls p s more f at both fits valued here end said walk seer =
      stops_from es (F ++ t ∷ []) (vs ++ draw i ∷ []) G ws k (i + 1) j n ls p s more f at (both_fresh n i t es F vs G ws both) fits valued here end said walk seer
  stops_from (send t ∷ es) F vs G ws k i j n [] p s more f at both fits valued here end said walk seer =
      let all : p.sent ≡ walk.0 ∷ walk.1.sent = ap (λ (r : Played Text). r.sent) walk.4 in absurd (cc)
  stops_from (send t ∷ es) F vs G ws k i j n (In b ∷ ls) p s more f at both fits valued here end said walk seer = absurd (cc)
  stops_from (send t ∷ es) F vs G ws k i j zero (Out b ∷ ls) p s more f at both fits valued here end said walk seer =
      let e : p.end ≡ walk.1.end = ap (λ (r : Played Text). r.end) walk.4 in
      absurd (omega (arith, here, stops_later m draw es F vs (k + 1) i (arrivals_of ls) walk.1 f at (sym e ∙ end) walk.3))
  stops_from (send t ∷ es) F vs G ws k i j (suc n) (Out b ∷ ls) p s more f at both fits valued here end said walk (inr g) =
      let all : p.sent ≡ walk.0 ∷ walk.1.sent = ap (λ (r : Played Text). r.sent) walk.4 in
      let first : walk.0 ≡ b = cc in
      absurd (g.0 (sees_on n es F vs (G ++ t ∷ []) (ws ++ b ∷ []) (both_said n t b walk.0 es F vs G ws walk.2 first both)))
  stops_from (send t ∷ es) F vs G ws k i j (suc n) (Out b ∷ ls) p s more f at both fits valued here end said walk (inl g) =
      let q = walk.1 in
      let all : p.sent ≡ walk.0 ∷ q.sent = ap (λ (r : Played Text). r.sent) walk.4 in
      let e : p.end ≡ q.end = ap (λ (r : Played Text). r.end) walk.4 in
      let rest : messages_of ls ≡ q.sent ++ more = cc in
      let first : walk.0 ≡ b = cc in
      let r = stops_from es F vs (G ++ t ∷ []) (ws ++ b ∷ []) (k + 1) i j n ls q s more f at (both_said n t b walk.0 es F vs G ws walk.2 first both) (cc) valued.1 (omega (arith, here)) (sym e ∙ end) rest walk.3 g.1 in
      record { end = r.end; heard = r.heard }
  stops_from (recv t ∷ es) F vs G ws k i j n [] p s more f at both fits valued here end said walk seer = ended p (ends (waiting (k + 1)) []) (stopped f at) end walk (λ never. absurd (cc))
  stops_from (recv t ∷ es) F vs G ws k i j n (Out b ∷ ls) p s more f at both fits valued here end said walk seer = absurd (cc)
  stops_from (recv t ∷ es) F vs G ws k i j zero (In b ∷ ls) p s more f at both fits valued here end said (inl h) seer =
      absurd (omega (arith, here, stops_later m draw es (F ++ t ∷ []) (vs ++ b ∷ []) (k + 1) i (arrivals_of ls) p f at end h.1))
  stops_from (recv t ∷ es) F vs G ws k i j zero (In b ∷ ls) p s more f at both fits valued here end said (inr h) (inl g) = absurd (h.0 (goes_on_too t b es F vs G ws both g.0))
  stops_from (recv t ∷ es) F vs G ws k i j zero (In b ∷ ls) p s more f at both fits valued here end said (inr h) (inr g) =
      let same : k + 1 ≡ f = omega (arith, here) in
      record { end = ap (λ (r : Played Text). r.end) g.1 ∙ ap (λ e. stopped e 0) same; heard = refl }
  stops_from (recv t ∷ es) F vs G ws k i j (suc n) (In b ∷ ls) p s more f at both fits valued here end said (inr h) seer =
      ended p (ends (stopped (k + 1) 0) (arrivals_of ls)) (stopped f at) end h.1 (λ it. absurd (omega (arith, here, same_event (k + 1) 0 f at it)))
  stops_from (recv t ∷ es) F vs G ws k i j (suc n) (In b ∷ ls) p s more f at both fits valued here end said (inl h) (inr g) =
      absurd (g.0 (sees_on n es (F ++ t ∷ []) (vs ++ b ∷ []) (G ++ t ∷ []) (ws ++ b ∷ []) (both_heard n t b es F vs G ws h.0 valued.0 both)))
  stops_from (recv t ∷ es) F vs G ws k i j (suc n) (In b ∷ ls) p s more f at both fits valued here end said (inl h) (inl g) =
      let r = stops_from es (F ++ t ∷ []) (vs ++ b ∷ []) (G ++ t ∷ []) (ws ++ b ∷ []) (k + 1) i j n ls p s more f at (both_heard n t b es F vs G ws h.0 valued.0 both) (cc) valued.1 (omega (arith, here)) end said h.1 g.1 in
      record { end = r.end; heard = r.heard }

-- ---- plays

module _ (m : Meaning Text) (draw other : ℕ → Text) (plan : List Event) (init : List Text) (ls : List TranscriptLine) (p s : Played Text)
    (role : Play m draw plan init (arrivals_of ls) p) (seer : Play m other (observed plan) init (map line_bytes ls) s) where
  -- a stop at what it begins with, before any message
  pub stops_at_start : (at : ℕ) → p.end ≡ stopped 0 at → s.end ≡ stopped 0 0
  stops_at_start at end = by role seer where
    by : Play m draw plan init (arrivals_of ls) p → Play m other (observed plan) init (map line_bytes ls) s → s.end ≡ stopped 0 0
    by (inl h) any = absurd (omega (arith, stops_later m draw plan (known plan) init 0 0 (arrivals_of ls) p 0 at end h.1))
    by (inr h) (inl g) = absurd (h.0 (subst (λ F. Agree m F init) (known_observed plan) g.0))
    by (inr h) (inr g) = ap (λ (r : Played Text). r.end) g.1

  -- a stop over a message, whatever else the lines have
  pub stops_over : NewAtomAgrees m → ((i : ℕ) → IsTrue (m.is_value (draw i))) → FreshIsNew plan → KnowsFirst plan → Valued m init → Valued m (map line_bytes ls) → Fits (sides plan) ls → (more : List Text) → messages_of ls ≡ p.sent ++ more
      → (n at : ℕ) → MadeIsSeen m.has (up_to n plan) → p.end ≡ stopped (suc n) at → StopsThere (sides plan) (suc n) (suc n) s
  stops_over new_atom drawn new first begins valued fits more said n at told end = by role seer where
    by : Play m draw plan init (arrivals_of ls) p → Play m other (observed plan) init (map line_bytes ls) s → StopsThere (sides plan) (suc n) (suc n) s
    by (inr h) any = ended p (ends (stopped 0 0) (arrivals_of ls)) (stopped (suc n) at) end h.1 (λ never. absurd (cc))
    by (inl h) (inr g) = absurd (g.0 (subst (λ F. Agree m F init) (sym (known_observed plan)) h.0))
    by (inl h) (inl g) =
        let itself = seen_itself m [] [] (known plan) init refl h.0.long in
        let both : Both m new_atom draw drawn other (known plan ++ heard (observed (up_to n plan))) n plan (known plan) init (known plan) init = record {
          new = new;
          valued = begins;
          agree = h.0;
          seen = itself;
          front = refl;
          has = had m (known plan ++ heard (observed (up_to n plan))) (init ++ []) (known plan) init (seen_more m (known plan) (heard (observed (up_to n plan))) init [] (known plan) init itself);
          made_has = subst (λ l. AllByRecursion (HasRecipe m.has (l ++ heard (observed (up_to n plan)))) (made (up_to n plan))) (cut_known n plan first) told;
        } in
        let watched = subst (λ G. Walk m other (observed plan) G init 0 0 (map line_bytes ls) s) (known_observed plan) g.1 in
        stops_from m new_atom draw drawn other (known plan ++ heard (observed (up_to n plan))) plan (known plan) init (known plan) init 0 0 0 n ls p s more (suc n) at both fits valued (omega arith) end said h.1 watched
