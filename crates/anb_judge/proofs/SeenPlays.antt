-- What comes of the lines in place, by the play of who sees the role.
use Rattle.std.proofs.Common.{◌≡◌, ◌≢◌, ℕ, zero, suc, ◌+◌, ◌≤◌, List, [], ◌∷◌, ◌++◌, length, length-append, map, take, drop, Bool, true, false, cond, Some, IsTrue, refl, sym, ap, ◌∙◌, subst, inl, inr, arith}
use Rattle.std.specs.Prelude.{nat_le, nat_lt}
use Rattle.std.specs.List.{AllByRecursion, All}
use Rattle.std.proofs.lemmas.Bool.Decides.{nat_tests}
use Rattle.std.proofs.lemmas.List.Elements.{All-from_recursion}
use Rattle.anb_base.specs.Bytes.{IsBytes, is_bytes}
use Rattle.anb_term.specs.Tree.{Tree}
use Rattle.anb_term.specs.Value.{Meaning}
use Rattle.anb_algebra.specs.ByteMeaning.{has_operator}
use Rattle.anb_algebra.proofs.Picks.{tests}
use Rattle.std.proofs.lemmas.List.{length-map, length-take-le, take-append-drop}
use Rattle.anb_lemmas.proofs.Each.{each_in_front}
use Rattle.anb_seal.specs.Streams.{draw_of}
use Rattle.anb_seal.proofs.ByteLemmas.{bytes-draw_of}
use Rattle.anb_code.specs.CodeValue.{CodeValue}
use Rattle.anb_code.specs.Meaning.{act_of}
use Rattle.anb_plays.specs.Fits.{Fits}
use Rattle.anb_plays.specs.Plans.{Event, know, fresh, send, recv, known, IsFreshAfter, Sendable}
use Rattle.anb_plays.specs.Plays.{End, stopped, waiting, done, Played, ends, Walk, Play}
use Rattle.anb_plays.specs.Honest.{heard}
use Rattle.anb_plays.specs.Statements.{PlaysAreOne, RunsAsPlayed}
use Rattle.anb_machine.specs.Machines.{first_turn, turn_of}
use Rattle.anb_machine.specs.declared.turn.Turn.{Turn}
use Rattle.anb_machine.specs.declared.turn.Turn.TheVariants as turn
use Rattle.anb_machine.specs.ByteRuns.{run_bytes}
use Rattle.anb_plays.specs.Runs.{no_place, without_place}
use Rattle.anb_protocol.specs.Plans.{plan_of}
use Rattle.anb_protocol.specs.Protocols.{ProtocolValue}
use Rattle.anb_protocol.specs.Texts.{known_by}
use Rattle.anb_protocol.specs.Plays.{events_of, meaning_of}
use Rattle.anb_protocol.specs.Laws.{MadeIsNew, PlansKnowFirst}
use Rattle.anb_transcript.specs.declared.transcript.TranscriptLine.{TranscriptLine}
use Rattle.anb_transcript.specs.declared.transcript.TranscriptLine.TheVariants.{In, Out}
use Rattle.anb_compile.proofs.Events.{known_events}
use Rattle.anb_compile.proofs.Protocols.{known_of_plan}
use Rattle.anb_transcript.specs.declared.following.Due.TheVariants.{End as Over}
use Rattle.anb_transcript.specs.declared.following.ReplayEnd.{ReplayEnd}
use Rattle.anb_transcript.specs.declared.following.ReplayEnd.TheVariants as replayed
use Rattle.anb_plays.proofs.Plays.{plays_are_one}
use Rattle.anb_judge.specs.Laws.{ConversationsAreObserved, JudgesOne, ObservedAreConversations}
use Rattle.anb_judge.specs.Observed.{observed, over, IsObserved, MadeIsSeen}
use Rattle.anb_judge.specs.Observers.{IsVerdict, Sees}
use Rattle.anb_judge.proofs.Observing.{known_observed}
use Rattle.anb_judge.proofs.Begun.{IsAt, cut_heard, cut_is_new, not_within, placed_within, refused_end, waits_behind}
use Rattle.anb_judge.proofs.SeenPlans.{seen_events}
use Rattle.anb_judge.specs.Verdicts.{Judged, Judges, IsBegun, IsOfRole, in_place, is_said, line_bytes, refused_at, sides, up_to, verdict}

-- ---- nothing is drawn, made or said

pub observed_is_new : (F : List Tree) (es : List Event) → IsFreshAfter F (observed es)
observed_is_new F [] = tt
observed_is_new F (know t ∷ es) = observed_is_new F es
observed_is_new F (fresh t ∷ es) = observed_is_new F es
observed_is_new F (send t ∷ es) = observed_is_new (F ++ t ∷ []) es
observed_is_new F (recv t ∷ es) = observed_is_new (F ++ t ∷ []) es

module _ {A : Type 0} (m : Meaning A) where
  any_heard : (d other : ℕ → A) (t : Tree) (es : List Event) (F : List Tree) (vs : List A) (e i : ℕ) (arrivals : List A) (p : Played A)
      → ((G : List Tree) (ws : List A) (k : ℕ) (xs : List A) → Walk m d (observed es) G ws k i xs p → Walk m other (observed es) G ws k i xs p)
      → Walk m d (recv t ∷ observed es) F vs e i arrivals p → Walk m other (recv t ∷ observed es) F vs e i arrivals p
  any_heard d other t es F vs e i [] p later walk = walk
  any_heard d other t es F vs e i (x ∷ arrivals) p later (inl h) = inl (h.0, later (F ++ t ∷ []) (vs ++ x ∷ []) (e + 1) arrivals h.1)
  any_heard d other t es F vs e i (x ∷ arrivals) p later (inr h) = inr h

  any_draws : (d other : ℕ → A) (es : List Event) (F : List Tree) (vs : List A) (e i : ℕ) (arrivals : List A) (p : Played A)
      → Walk m d (observed es) F vs e i arrivals p → Walk m other (observed es) F vs e i arrivals p
  any_draws d other [] F vs e i arrivals p walk = walk
  any_draws d other (know t ∷ es) F vs e i arrivals p walk = any_draws d other es F vs e i arrivals p walk
  any_draws d other (fresh t ∷ es) F vs e i arrivals p walk = any_draws d other es F vs e i arrivals p walk
  any_draws d other (send t ∷ es) F vs e i arrivals p walk = any_heard d other t es F vs e i arrivals p (λ G ws k xs w. any_draws d other es G ws k i xs p w) walk
  any_draws d other (recv t ∷ es) F vs e i arrivals p walk = any_heard d other t es F vs e i arrivals p (λ G ws k xs w. any_draws d other es G ws k i xs p w) walk

  pub whatever_is_drawn : (d : ℕ → A) (es : List Event) (init arrivals : List A) (p : Played A) → Play m d (observed es) init arrivals p
      → (other : ℕ → A) → Play m other (observed es) init arrivals p
  whatever_is_drawn d es init arrivals p (inl h) other = inl (h.0, any_draws d other es (known (observed es)) init 0 0 arrivals p h.1)
  whatever_is_drawn d es init arrivals p (inr h) other = inr h

  none_heard : (d : ℕ → A) (t : Tree) (es : List Event) (F : List Tree) (vs : List A) (e i : ℕ) (arrivals : List A) (p : Played A)
      → ((G : List Tree) (ws : List A) (k : ℕ) (xs : List A) → Walk m d (observed es) G ws k i xs p → p.sent ≡ []) → Walk m d (recv t ∷ observed es) F vs e i arrivals p → p.sent ≡ []
  none_heard d t es F vs e i [] p later walk = ap (λ (q : Played A). q.sent) walk
  none_heard d t es F vs e i (x ∷ arrivals) p later (inl h) = later (F ++ t ∷ []) (vs ++ x ∷ []) (e + 1) arrivals h.1
  none_heard d t es F vs e i (x ∷ arrivals) p later (inr h) = ap (λ (q : Played A). q.sent) h.1

  none_said : (d : ℕ → A) (es : List Event) (F : List Tree) (vs : List A) (e i : ℕ) (arrivals : List A) (p : Played A) → Walk m d (observed es) F vs e i arrivals p → p.sent ≡ []
  none_said d [] F vs e i arrivals p walk = ap (λ (q : Played A). q.sent) walk
  none_said d (know t ∷ es) F vs e i arrivals p walk = none_said d es F vs e i arrivals p walk
  none_said d (fresh t ∷ es) F vs e i arrivals p walk = none_said d es F vs e i arrivals p walk
  none_said d (send t ∷ es) F vs e i arrivals p walk = none_heard d t es F vs e i arrivals p (λ G ws k xs w. none_said d es G ws k i xs p w) walk
  none_said d (recv t ∷ es) F vs e i arrivals p walk = none_heard d t es F vs e i arrivals p (λ G ws k xs w. none_said d es G ws k i xs p w) walk

  pub says_nothing : (d : ℕ → A) (es : List Event) (init arrivals : List A) (p : Played A) → Play m d (observed es) init arrivals p → p.sent ≡ []
  says_nothing d es init arrivals p (inl h) = none_said d es (known (observed es)) init 0 0 arrivals p h.1
  says_nothing d es init arrivals p (inr h) = ap (λ (q : Played A). q.sent) h.1

-- ---- lines in place

pub sides_heard : (es : List Event) → length (sides es) ≡ length (heard (observed es))
sides_heard [] = refl
sides_heard (know t ∷ es) = sides_heard es
sides_heard (fresh t ∷ es) = sides_heard es
sides_heard (send t ∷ es) = ap suc (sides_heard es)
sides_heard (recv t ∷ es) = ap suc (sides_heard es)

-- where they are as many as all, they are all
pub all_placed : (ss : List Bool) (lines : List TranscriptLine) → length (in_place ss lines) ≡ length lines → in_place ss lines ≡ map line_bytes lines
all_placed [] [] long = refl
all_placed [] (line ∷ lines) long = absurd (omega (arith, long))
all_placed (true ∷ ss) [] long = refl
all_placed (false ∷ ss) [] long = refl
all_placed (true ∷ ss) (Out b ∷ lines) long = ap (λ l. b ∷ l) (all_placed ss lines (omega (arith, long)))
all_placed (false ∷ ss) (In b ∷ lines) long = ap (λ l. b ∷ l) (all_placed ss lines (omega (arith, long)))
all_placed (true ∷ ss) (In b ∷ lines) long = absurd (omega (arith, long))
all_placed (false ∷ ss) (Out b ∷ lines) long = absurd (omega (arith, long))

pub placed_few : (ss : List Bool) (lines : List TranscriptLine) → length (in_place ss lines) ≤ length lines
placed_few [] lines = omega arith
placed_few (true ∷ ss) [] = omega arith
placed_few (false ∷ ss) [] = omega arith
placed_few (true ∷ ss) (Out b ∷ lines) = omega (arith, placed_few ss lines)
placed_few (false ∷ ss) (In b ∷ lines) = omega (arith, placed_few ss lines)
placed_few (true ∷ ss) (In b ∷ lines) = omega arith
placed_few (false ∷ ss) (Out b ∷ lines) = omega arith

nothing_placed : (ss : List Bool) → in_place ss [] ≡ []
nothing_placed [] = refl
nothing_placed (true ∷ ss) = refl
nothing_placed (false ∷ ss) = refl

pub behind_sides : (ss : List Bool) (lines : List TranscriptLine) (i : ℕ) → length ss ≤ i → in_place (drop i ss) lines ≡ []
behind_sides [] lines zero h = refl
behind_sides [] lines (suc i) h = refl
behind_sides (s ∷ ss) lines zero h = absurd (omega (arith, h))
behind_sides (s ∷ ss) lines (suc i) h = behind_sides ss lines i (omega (arith, h))

pub behind_lines : (ss : List Bool) (lines : List TranscriptLine) (i : ℕ) → length lines ≤ i → in_place ss (drop i lines) ≡ []
behind_lines ss [] zero h = nothing_placed ss
behind_lines ss [] (suc i) h = nothing_placed ss
behind_lines ss (l ∷ ls) zero h = absurd (omega (arith, h))
behind_lines ss (l ∷ ls) (suc i) h = behind_lines ss ls i (omega (arith, h))

pub placed_all : (P : List ℕ → Type 0) (ss : List Bool) (lines : List TranscriptLine) → AllByRecursion (λ line. P (line_bytes line)) lines → AllByRecursion P (in_place ss lines)
placed_all P [] lines all = tt
placed_all P (true ∷ ss) [] all = tt
placed_all P (false ∷ ss) [] all = tt
placed_all P (true ∷ ss) (Out b ∷ lines) all = (all.0, placed_all P ss lines all.1)
placed_all P (false ∷ ss) (In b ∷ lines) all = (all.0, placed_all P ss lines all.1)
placed_all P (true ∷ ss) (In b ∷ lines) all = tt
placed_all P (false ∷ ss) (Out b ∷ lines) all = tt

no_end : {A X : Type 0} (p : Played A) (x : End) (arrivals : List A) → (done ≡ x → ⊥) → p.end ≡ done → p ≡ ends x arrivals → X
no_end p x arrivals never end is = absurd (never (sym end ∙ ap (λ (q : Played _). q.end) is))

not_waiting : (e : ℕ) → done ≡ waiting e → ⊥
not_waiting e never = cc

not_stopped : (e at : ℕ) → done ≡ stopped e at → ⊥
not_stopped e at never = cc

-- a play of lines in place that is over has used one for each message
module _ (m : Meaning (List ℕ)) (d : ℕ → List ℕ) where
  abbrev Whole : List Event → List TranscriptLine → Played (List ℕ) → Type 0
  Whole es lines p = (p ≡ over []) × (length (in_place (sides es) lines) ≡ length (sides es))

  whole_from : (es : List Event) (F : List Tree) (vs : List (List ℕ)) (e i : ℕ) (lines : List TranscriptLine) (p : Played (List ℕ))
      → Walk m d (observed es) F vs e i (in_place (sides es) lines) p → p.end ≡ done → Whole es lines p
  whole_from [] F vs e i lines p walk end = (walk, refl)
  whole_from (know t ∷ es) F vs e i lines p walk end = whole_from es F vs e i lines p walk end
  whole_from (fresh t ∷ es) F vs e i lines p walk end = whole_from es F vs e i lines p walk end
  whole_from (send t ∷ es) F vs e i [] p walk end = no_end p (waiting (e + 1)) [] (not_waiting (e + 1)) end walk
  whole_from (send t ∷ es) F vs e i (In b ∷ lines) p walk end = no_end p (waiting (e + 1)) [] (not_waiting (e + 1)) end walk
  whole_from (send t ∷ es) F vs e i (Out b ∷ lines) p (inl h) end =
      let rest = whole_from es (F ++ t ∷ []) (vs ++ b ∷ []) (e + 1) i lines p h.1 end in (rest.0, ap suc rest.1)
  whole_from (send t ∷ es) F vs e i (Out b ∷ lines) p (inr h) end = no_end p (stopped (e + 1) 0) _ (not_stopped (e + 1) 0) end h.1
  whole_from (recv t ∷ es) F vs e i [] p walk end = no_end p (waiting (e + 1)) [] (not_waiting (e + 1)) end walk
  whole_from (recv t ∷ es) F vs e i (Out b ∷ lines) p walk end = no_end p (waiting (e + 1)) [] (not_waiting (e + 1)) end walk
  whole_from (recv t ∷ es) F vs e i (In b ∷ lines) p (inl h) end =
      let rest = whole_from es (F ++ t ∷ []) (vs ++ b ∷ []) (e + 1) i lines p h.1 end in (rest.0, ap suc rest.1)
  whole_from (recv t ∷ es) F vs e i (In b ∷ lines) p (inr h) end = no_end p (stopped (e + 1) 0) _ (not_stopped (e + 1) 0) end h.1

  whole : (es : List Event) (init : List (List ℕ)) (lines : List TranscriptLine) (p : Played (List ℕ))
      → Play m d (observed es) init (in_place (sides es) lines) p → p.end ≡ done → Whole es lines p
  whole es init lines p (inl h) end = whole_from es (known (observed es)) init 0 0 lines p h.1 end
  whole es init lines p (inr h) end = no_end p (stopped 0 0) _ (not_stopped 0 0) end h.1

-- ---- verdicts

-- by the turn that comes of a run that says nothing
pub ended_so : (ss : List Bool) (n : ℕ) (x : End) (t : Turn) (end : ReplayEnd) → t ≡ first_turn [] x → IsVerdict ss n t end → end ≡ verdict ss n (no_place x)
ended_so ss n done t end is v = subst (λ u. IsVerdict ss n u end) is v
ended_so ss n (waiting e) t end is v = subst (λ u. IsVerdict ss n u end) is v
ended_so ss n (stopped e at) t end is v = subst (λ u. IsVerdict ss n u end) is v

pub judged_end : (ss : List Bool) (n : ℕ) (r : Played (List ℕ)) (t : Turn) (end : ReplayEnd) → (t ≢ turn.NoMemory → t ≡ turn_of r) → r.sent ≡ [] → IsVerdict ss n t end → end ≡ verdict ss n (no_place r.end)
judged_end ss n r (turn.Message b) end is none v = absurd v
judged_end ss n r (turn.Wants e) end is none v = ended_so ss n r.end (turn.Wants e) end (is (λ never. absurd (cc)) ∙ ap (λ s. first_turn s r.end) none) v
judged_end ss n r turn.Done end is none v = ended_so ss n r.end turn.Done end (is (λ never. absurd (cc)) ∙ ap (λ s. first_turn s r.end) none) v
judged_end ss n r (turn.Stopped halt) end is none v = ended_so ss n r.end (turn.Stopped halt) end (is (λ never. absurd (cc)) ∙ ap (λ s. first_turn s r.end) none) v
judged_end ss n r turn.NoMemory end is none v = absurd v

either : {X : Type 0} (b : Bool) (x y : ReplayEnd) → (x ≡ replayed.Follows → X) → (y ≡ replayed.Follows → X) → cond b x y ≡ replayed.Follows → X
either true x y f g is = f is
either false x y f g is = g is

follows_done : (ss : List Bool) (n : ℕ) (x : End) → verdict ss n x ≡ replayed.Follows → (x ≡ done) × (n ≤ length ss)
follows_done ss n (stopped e at) is = either (is_said ss e) _ _ (λ never. absurd (cc)) (λ never. absurd (cc)) is
follows_done ss n (waiting e) is = either (nat_le e n) _ _ (λ never. absurd (cc)) (λ never. absurd (cc)) is
follows_done ss n done is = from (nat_lt (length ss) n) refl is where
  from : (b : Bool) → nat_lt (length ss) n ≡ b → cond b (replayed.Differs (length ss + 1) Over) replayed.Follows ≡ replayed.Follows → (done ≡ done) × (n ≤ length ss)
  from true e never = absurd (cc)
  from false e is = (refl, grind (arith, nat_tests, e))

done_follows : (ss : List Bool) (n : ℕ) → n ≡ length ss → verdict ss n done ≡ replayed.Follows
done_follows ss n count =
    let none : nat_lt (length ss) n ≡ false = grind (arith, nat_tests, count) in
    ap (λ b. cond b (replayed.Differs (length ss + 1) Over) replayed.Follows) none

pub values : (bs : List (List ℕ)) → AllByRecursion IsBytes bs → All (λ b. IsTrue (is_bytes b)) bs
values bs all = All-from_recursion (λ b. IsTrue (is_bytes b)) bs (tests bs all)

-- the run of a code that sees a role is the play of who sees it
pub sees_plays : (p : ProtocolValue) (role : ℕ) (code : CodeValue) (init : List (List ℕ)) (seed : List ℕ) (arrivals : List (List ℕ)) → RunsAsPlayed (meaning_of p) → Sees p role code
    → length init ≡ length (known_by p role) → AllByRecursion IsBytes init → AllByRecursion IsBytes arrivals
    → Play (meaning_of p) (draw_of seed 0) (observed (events_of p role)) init arrivals (without_place (run_bytes code init seed 0 arrivals))
sees_plays p role code init seed arrivals law sees count bytes strings =
    let m = meaning_of p in
    let plan = plan_of p role in
    let acts = map (act_of p.formats) code.instrs in
    let emits = sees.emits in
    let fits : Fits m acts (observed (events_of p role)) = subst (Fits m acts) (seen_events plan) emits.fits in
    let same = known_observed (events_of p role) ∙ known_events plan ∙ known_of_plan p role in
    let go = law (draw_of seed 0) acts (observed (events_of p role)) init arrivals fits (observed_is_new (known (observed (events_of p role))) (events_of p role)) (λ i. bytes-draw_of seed 0 i) (values init bytes) (values arrivals strings)
    (count ∙ sym (ap length same)) in
    subst (λ (c : CodeValue). Play m (draw_of seed 0) (observed (events_of p role)) init arrivals (without_place (run_bytes c init seed 0 arrivals))) (sym sees.names) go.0

module _ (p : ProtocolValue) (role : ℕ) (initial : List (List ℕ)) (lines : List TranscriptLine) where
  abbrev pub asked : Judged
  asked = record { protocol = p; role = role; initial = initial; lines = lines }

  abbrev m : Meaning (List ℕ)
  m = meaning_of p

  abbrev plan : List Event
  plan = events_of p role

  abbrev placed : List (List ℕ)
  placed = in_place (sides plan) lines

  abbrev firsts : ℕ → List (List ℕ)
  firsts n = map line_bytes (take n lines)

  module _ (n : ℕ) (begun : IsBegun asked n) where
    long : length (firsts n) ≡ n
    long = length-map (take n lines) line_bytes ∙ length-take-le n lines begun.count

    parts : firsts n ++ drop n placed ≡ placed
    parts = ap (λ l. l ++ drop n placed) (sym begun.placed) ∙ take-append-drop n placed

    enough : n ≤ length placed
    enough = omega (arith, long, length-append (firsts n) (drop n placed), ap length parts)

    refuses : ConversationsAreObserved m → MadeIsNew → PlansKnowFirst → AllByRecursion IsBytes initial → AllByRecursion IsBytes placed → (d : ℕ → List ℕ) (played : Played (List ℕ))
        → Play m d (observed plan) initial placed played → (x : End) → played.end ≡ x → IsAt (sides plan) n x → ⊥
    refuses conversations new first bytes strings d played play done at_end here = omega (arith, here, enough, placed_within (sides plan) lines)
    refuses conversations new first bytes strings d played play (waiting e) at_end here =
        omega (arith, here, enough, waits_behind m d plan (first p role) initial placed played e play at_end)
    refuses conversations new first bytes strings d played play (stopped e at) at_end here =
        let fine : AllByRecursion IsBytes (firsts n) = each_in_front IsBytes (firsts n) (drop n placed) (subst (AllByRecursion IsBytes) (sym parts) strings) in
        let seen = conversations (up_to n plan) initial (firsts n) (cut_is_new n plan (first p role) (new p role)) (values initial bytes) (values (firsts n) fine)
        (long ∙ sym (cut_heard n plan (omega (arith, enough, placed_within (sides plan) lines)))) begun.conversation d in
        not_within m d plan (first p role) initial n (firsts n) (drop n placed) played at long seen (subst (λ l. Play m d (observed plan) initial l played) (sym parts) play)
        (at_end ∙ ap (λ k. stopped k at) (sym here))

  pub judges : PlaysAreOne m → ConversationsAreObserved m → ObservedAreConversations m → MadeIsNew → PlansKnowFirst → AllByRecursion IsBytes initial → AllByRecursion IsBytes placed
      → (d : ℕ → List ℕ) (played : Played (List ℕ)) → Play m d (observed plan) initial placed played → (end : ReplayEnd) → end ≡ verdict (sides plan) (length lines) played.end → Judges asked end
  judges one conversations others new first bytes strings d played play end is = record {
    played = played;
    seen = whatever_is_drawn m d plan initial placed played play;
    is = is;
    none = λ n at begun. refuses n begun conversations new first bytes strings d played play played.end refl (refused_end (sides plan) (length lines) played.end n (subst (λ (x : ReplayEnd). refused_at x ≡ Some n) is at));
    all = follows;
    only = is_conversation;
  } where
    follows : IsOfRole asked → end ≡ replayed.Follows
    follows of =
        let all = subst (AllByRecursion IsBytes) of.placed strings in
        let there = conversations plan initial (map line_bytes lines) (new p role) (values initial bytes) (values (map line_bytes lines) all) (length-map lines line_bytes ∙ of.count ∙ sides_heard plan) of.conversation d in
        let here = subst (λ l. Play m d (observed plan) initial l (over [])) (sym of.placed) there in
        is ∙ ap (λ (q : Played (List ℕ)). verdict (sides plan) (length lines) q.end) (one d (observed plan) initial placed played (over []) play here) ∙ done_follows (sides plan) (length lines) of.count

    is_conversation : Sendable (has_operator p.formats) plan → MadeIsSeen (has_operator p.formats) plan → end ≡ replayed.Follows → IsOfRole asked
    is_conversation can told at_end =
        let by = follows_done (sides plan) (length lines) played.end (sym is ∙ at_end) in
        let used = whole m d plan initial lines played play by.0 in
        let few = placed_few (sides plan) lines in
        let count : length lines ≡ length (sides plan) = omega (arith, by.1, few, used.1) in
        let same = all_placed (sides plan) lines (used.1 ∙ sym count) in
        let all = subst (AllByRecursion IsBytes) same strings in
        let seen : IsObserved m plan initial (map line_bytes lines) = λ other. subst (λ l. Play m other (observed plan) initial l (over [])) same
        (subst (Play m other (observed plan) initial placed) used.0 (whatever_is_drawn m d plan initial placed played play other)) in
        record {
          count = count;
          placed = same;
          conversation = others plan initial (map line_bytes lines) [] refl can told (values initial bytes) (values (map line_bytes lines) all) seen;
        }

-- what is answered by the turn of a machine that runs a code that sees the role
pub observer_judges : (p : ProtocolValue) (role : ℕ) (initial : List (List ℕ)) (lines : List TranscriptLine) (code : CodeValue) (seed : List ℕ) (R : List (List ℕ) → Played (List ℕ)) (ss : List Bool)
    (arrivals : List (List ℕ)) (n : ℕ) (t : Turn) (end : ReplayEnd) → RunsAsPlayed (meaning_of p) → ConversationsAreObserved (meaning_of p) → ObservedAreConversations (meaning_of p) → MadeIsNew → PlansKnowFirst
    → Sees p role code → length initial ≡ length (known_by p role) → AllByRecursion IsBytes initial → ((xs : List (List ℕ)) → R xs ≡ run_bytes code initial seed 0 xs)
    → ss ≡ sides (events_of p role) → arrivals ≡ in_place ss lines → AllByRecursion IsBytes arrivals → n ≡ length lines
    → (t ≢ turn.NoMemory → t ≡ turn_of (R arrivals)) → IsVerdict ss n t end → Judges (asked p role initial lines) end
observer_judges p role initial lines code seed R ss arrivals n t end law conversations others new first sees count bytes run sides_are placed strings long at v =
    let m = meaning_of p in
    let d = draw_of seed 0 in
    let r = run_bytes code initial seed 0 arrivals in
    let play = sees_plays p role code initial seed arrivals law sees count bytes strings in
    let none : r.sent ≡ [] = says_nothing m d (events_of p role) initial arrivals (without_place r) play in
    let is : end ≡ verdict ss n (no_place r.end) = judged_end ss n r t end (λ some. at some ∙ ap turn_of (run arrivals)) none v in
    let here : arrivals ≡ in_place (sides (events_of p role)) lines = placed ∙ ap (λ x. in_place x lines) sides_are in
    judges p role initial lines (plays_are_one m) conversations others new first bytes (subst (AllByRecursion IsBytes) here strings) d (without_place r)
    (subst (λ l. Play m d (observed (events_of p role)) initial l (without_place r)) here play) end
    (is ∙ ap (λ x. verdict x n (no_place r.end)) sides_are ∙ ap (λ k. verdict (sides (events_of p role)) k (no_place r.end)) long)

pub one_judgement : JudgesOne
one_judgement j x y one other =
    let plan = events_of j.protocol j.role in
    let d : ℕ → List ℕ = λ i. [] in
    let same = plays_are_one (meaning_of j.protocol) d (observed plan) j.initial (in_place (sides plan) j.lines) one.played other.played (one.seen d) (other.seen d) in
    one.is ∙ ap (λ (q : Played (List ℕ)). verdict (sides plan) (length j.lines) q.end) same ∙ sym other.is
