-- What two plays of a role with the same draws have alike where they hear the same first.
use Rattle.std.proofs.Common.{◌≡◌, ℕ, zero, suc, ◌+◌, ◌≤◌, List, [], ◌∷◌, ◌++◌, length, Some, refl, sym, ap, ◌∙◌, inl, inr, arith}
use Rattle.anb_term.specs.Tree.{Tree}
use Rattle.anb_term.specs.Value.{Meaning, value}
use Rattle.anb_plays.specs.Plans.{Event, know, fresh, send, recv, known}
use Rattle.anb_plays.specs.Plays.{stopped, waiting, done, Played, says, Walk, Play}
use Rattle.anb_transcript.specs.declared.transcript.TranscriptLine.{TranscriptLine}
use Rattle.anb_transcript.specs.declared.transcript.TranscriptLine.TheVariants.{In, Out}
use Rattle.anb_transcript.specs.Replays.{arrivals_of, messages_of}
use Rattle.anb_judge.specs.Verdicts.{sides}
use Rattle.anb_tries.proofs.Along.{Fits}
use Rattle.anb_tries.proofs.Stopping.{stops_later}
use Rattle.anb_dues.proofs.Beginning.{ended}
use Rattle.anb_dues.proofs.Counting.{said_in}
use Rattle.anb_dues.proofs.Firsts.{Text}
use Rattle.anb_dues.proofs.Saying.{SaysFirst}

-- whoever says nothing says none of these messages
says_none : (q : Played Text) (messages more : List Text) → [] ≡ messages ++ more → SaysFirst q messages
says_none q [] more is = (q.sent, refl)
says_none q (x ∷ messages) more is = absurd (cc)

-- one message more
says_more : (b c : Text) (q r : Played Text) (messages : List Text) → q ≡ says b r → b ≡ c → SaysFirst r messages → SaysFirst q (c ∷ messages)
says_more b c q r messages is same on = (on.0, ap (λ (x : Played Text). x.sent) is ∙ ap (λ x. x ∷ r.sent) same ∙ ap (λ l. c ∷ l) on.1)

module _ (m : Meaning Text) (d : ℕ → Text) where
  -- ---- where they stop

  stops_alike : (es : List Event) (F : List Tree) (vs : List Text) (e i : ℕ) (xs ys : List Text) (p q : Played Text) (f at : ℕ) → p.end ≡ stopped f at
      → Walk m d es F vs e i xs p → Walk m d es F vs e i (xs ++ ys) q → q.end ≡ stopped f at
  stops_alike [] F vs e i xs ys p q f at end walk other = ended p (stopped f at) done xs (λ never. absurd (cc)) end walk
  stops_alike (know t ∷ es) F vs e i xs ys p q f at end walk other = stops_alike es F vs e i xs ys p q f at end walk other
  stops_alike (fresh t ∷ es) F vs e i xs ys p q f at end walk other = stops_alike es (F ++ t ∷ []) (vs ++ d i ∷ []) e (i + 1) xs ys p q f at end walk other
  stops_alike (send t ∷ es) F vs e i xs ys p q f at end walk other =
      ap (λ (r : Played Text). r.end) other.4
      ∙ stops_alike es F vs (e + 1) i xs ys walk.1 other.1 f at (sym (ap (λ (r : Played Text). r.end) walk.4) ∙ end) walk.3 other.3
  stops_alike (recv t ∷ es) F vs e i [] ys p q f at end walk other = ended p (stopped f at) (waiting (e + 1)) [] (λ never. absurd (cc)) end walk
  stops_alike (recv t ∷ es) F vs e i (x ∷ xs) ys p q f at end (inl h) (inl g) = stops_alike es (F ++ t ∷ []) (vs ++ x ∷ []) (e + 1) i xs ys p q f at end h.1 g.1
  stops_alike (recv t ∷ es) F vs e i (x ∷ xs) ys p q f at end (inl h) (inr g) = absurd (g.0 h.0)
  stops_alike (recv t ∷ es) F vs e i (x ∷ xs) ys p q f at end (inr h) (inl g) = absurd (h.0 g.0)
  stops_alike (recv t ∷ es) F vs e i (x ∷ xs) ys p q f at end (inr h) (inr g) =
      ap (λ (r : Played Text). r.end) g.1 ∙ sym (ap (λ (r : Played Text). r.end) h.1) ∙ end

  -- a play that stops does so over more arrivals too, at the same event
  pub play_stops_alike : (plan : List Event) (init xs ys : List Text) (p q : Played Text) (f at : ℕ) → p.end ≡ stopped f at → Play m d plan init xs p → Play m d plan init (xs ++ ys) q → q.end ≡ stopped f at
  play_stops_alike plan init xs ys p q f at end (inl h) (inl g) = stops_alike plan (known plan) init 0 0 xs ys p q f at end h.1 g.1
  play_stops_alike plan init xs ys p q f at end (inl h) (inr g) = absurd (g.0 h.0)
  play_stops_alike plan init xs ys p q f at end (inr h) (inl g) = absurd (h.0 g.0)
  play_stops_alike plan init xs ys p q f at end (inr h) (inr g) =
      ap (λ (r : Played Text). r.end) g.1 ∙ sym (ap (λ (r : Played Text). r.end) h.1) ∙ end

  -- ---- what they say

  says_alike : (es : List Event) (F : List Tree) (vs : List Text) (e i : ℕ) (ls : List TranscriptLine) (xs ys more : List Text) (p q : Played Text) → Fits (sides es) ls
      → Walk m d es F vs e i (arrivals_of ls ++ xs) p → p.sent ≡ messages_of ls ++ more → Walk m d es F vs e i (arrivals_of ls ++ ys) q → SaysFirst q (messages_of ls)
  says_alike [] F vs e i [] xs ys more p q fits walk sent other = (q.sent, refl)
  says_alike [] F vs e i (l ∷ ls) xs ys more p q fits walk sent other = absurd (cc)
  says_alike (know t ∷ es) F vs e i ls xs ys more p q fits walk sent other = says_alike es F vs e i ls xs ys more p q fits walk sent other
  says_alike (fresh t ∷ es) F vs e i ls xs ys more p q fits walk sent other = says_alike es (F ++ t ∷ []) (vs ++ d i ∷ []) e (i + 1) ls xs ys more p q fits walk sent other
  says_alike (send t ∷ es) F vs e i [] xs ys more p q fits walk sent other = (q.sent, refl)
  says_alike (send t ∷ es) F vs e i (In c ∷ ls) xs ys more p q fits walk sent other = absurd (cc)
  says_alike (send t ∷ es) F vs e i (Out c ∷ ls) xs ys more p q fits walk sent other =
      let said : walk.0 ∷ walk.1.sent ≡ c ∷ (messages_of ls ++ more) = sym (ap (λ (r : Played Text). r.sent) walk.4) ∙ sent in
      let first : walk.0 ≡ c = cc in
      let later : walk.1.sent ≡ messages_of ls ++ more = cc in
      let recipe = walk.2.0 in
      let one : value m vs recipe.0 ≡ Some walk.0 = walk.2.1 recipe.0 recipe.1 in
      let two : value m vs recipe.0 ≡ Some other.0 = other.2.1 recipe.0 recipe.1 in
      let same : other.0 ≡ c = cc in
      let on = says_alike es F vs (e + 1) i ls xs ys more walk.1 other.1 (cc) walk.3 later other.3 in
      says_more other.0 c q other.1 (messages_of ls) other.4 same on
  says_alike (recv t ∷ es) F vs e i [] xs ys more p q fits walk sent other = (q.sent, refl)
  says_alike (recv t ∷ es) F vs e i (Out c ∷ ls) xs ys more p q fits walk sent other = absurd (cc)
  says_alike (recv t ∷ es) F vs e i (In c ∷ ls) xs ys more p q fits (inl h) sent (inl g) = says_alike es (F ++ t ∷ []) (vs ++ c ∷ []) (e + 1) i ls xs ys more p q (cc) h.1 sent g.1
  says_alike (recv t ∷ es) F vs e i (In c ∷ ls) xs ys more p q fits (inl h) sent (inr g) = absurd (g.0 h.0)
  says_alike (recv t ∷ es) F vs e i (In c ∷ ls) xs ys more p q fits (inr h) sent other =
      says_none q (messages_of ls) more (sym (ap (λ (r : Played Text). r.sent) h.1) ∙ sent)

  -- what one says first in these lines, so does the other
  pub play_says_alike : (plan : List Event) (init : List Text) (ls : List TranscriptLine) (xs ys more : List Text) (p q : Played Text) → Fits (sides plan) ls
      → Play m d plan init (arrivals_of ls ++ xs) p → p.sent ≡ messages_of ls ++ more → Play m d plan init (arrivals_of ls ++ ys) q → SaysFirst q (messages_of ls)
  play_says_alike plan init ls xs ys more p q fits (inl h) sent (inl g) = says_alike plan (known plan) init 0 0 ls xs ys more p q fits h.1 sent g.1
  play_says_alike plan init ls xs ys more p q fits (inl h) sent (inr g) = absurd (g.0 h.0)
  play_says_alike plan init ls xs ys more p q fits (inr h) sent other = says_none q (messages_of ls) more (sym (ap (λ (r : Played Text). r.sent) h.1) ∙ sent)

  -- ---- how much one says that stops

  said_few : (es : List Event) (F : List Tree) (vs : List Text) (e i k : ℕ) (xs : List Text) (p : Played Text) (f at : ℕ) → p.end ≡ stopped f at → f ≡ e + k
      → Walk m d es F vs e i xs p → length p.sent ≤ said_in k (sides es)
  said_few [] F vs e i k xs p f at end is walk = ended p (stopped f at) done xs (λ never. absurd (cc)) end walk
  said_few (know t ∷ es) F vs e i k xs p f at end is walk = said_few es F vs e i k xs p f at end is walk
  said_few (fresh t ∷ es) F vs e i k xs p f at end is walk = said_few es (F ++ t ∷ []) (vs ++ d i ∷ []) e (i + 1) k xs p f at end is walk
  said_few (send t ∷ es) F vs e i zero xs p f at end is walk = absurd (let later = stops_later m d (send t ∷ es) F vs e i xs p f at end walk in omega (arith, later, is))
  said_few (send t ∷ es) F vs e i (suc k) xs p f at end is walk =
      let rest = said_few es F vs (e + 1) i k xs walk.1 f at (sym (ap (λ (r : Played Text). r.end) walk.4) ∙ end) (omega (arith, is)) walk.3 in
      let sent : length p.sent ≡ suc (length walk.1.sent) = ap (λ (r : Played Text). length r.sent) walk.4 in
      omega (arith, sent, rest)
  said_few (recv t ∷ es) F vs e i k [] p f at end is walk = ended p (stopped f at) (waiting (e + 1)) [] (λ never. absurd (cc)) end walk
  said_few (recv t ∷ es) F vs e i zero (x ∷ xs) p f at end is walk = absurd (let later = stops_later m d (recv t ∷ es) F vs e i (x ∷ xs) p f at end walk in omega (arith, later, is))
  said_few (recv t ∷ es) F vs e i (suc k) (x ∷ xs) p f at end is (inl h) = said_few es (F ++ t ∷ []) (vs ++ x ∷ []) (e + 1) i k xs p f at end (omega (arith, is)) h.1
  said_few (recv t ∷ es) F vs e i (suc k) (x ∷ xs) p f at end is (inr h) = (let none : length p.sent ≡ 0 = ap (λ (r : Played Text). length r.sent) h.1 in omega (arith, none))

  -- no more messages than the plan has up to there
  pub play_said_few : (plan : List Event) (init xs : List Text) (p : Played Text) (f at : ℕ) → p.end ≡ stopped f at → Play m d plan init xs p → length p.sent ≤ said_in f (sides plan)
  play_said_few plan init xs p f at end (inl h) = said_few plan (known plan) init 0 0 f xs p f at end (omega arith) h.1
  play_said_few plan init xs p f at end (inr h) = (let none : length p.sent ≡ 0 = ap (λ (r : Played Text). length r.sent) h.1 in omega (arith, none))
