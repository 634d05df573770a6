-- Plays over lines that go the way that is due.
use Rattle.std.proofs.Common.{◌≡◌, ℕ, zero, suc, ◌+◌, ◌≤◌, ◌<◌, List, [], ◌∷◌, ◌++◌, length, map, take, drop, Bool, true, false, Option, Some, None, slice_get, refl, sym, ap, ◌∙◌, subst, inl, inr, arith}
use Rattle.anb_term.specs.Tree.{Tree}
use Rattle.anb_term.specs.Value.{Meaning}
use Rattle.anb_plays.specs.Plans.{Event, know, fresh, send, recv}
use Rattle.anb_plays.specs.Plays.{End, stopped, waiting, done, Played, ends, says, Walk}
use Rattle.anb_transcript.specs.Replays.{arrivals_of, messages_of}
use Rattle.anb_transcript.specs.declared.transcript.TranscriptLine.{TranscriptLine}
use Rattle.anb_transcript.specs.declared.transcript.TranscriptLine.TheVariants.{In, Out}
use Rattle.anb_judge.specs.Observed.{hears, says_in, over}
use Rattle.anb_judge.specs.Verdicts.{in_place, line_bytes, sides, up_to}

abbrev pub Placed : List Event → List TranscriptLine → Type 0
Placed es lines = in_place (sides es) lines ≡ map line_bytes lines

-- ---- what is heard and said in the lines

pub heard_lines : (es : List Event) (lines : List TranscriptLine) → Placed es lines → hears es (map line_bytes lines) ≡ arrivals_of lines
heard_lines [] [] placed = refl
heard_lines [] (l ∷ ls) placed = absurd (cc)
heard_lines (know t ∷ es) lines placed = heard_lines es lines placed
heard_lines (fresh t ∷ es) lines placed = heard_lines es lines placed
heard_lines (send t ∷ es) [] placed = refl
heard_lines (send t ∷ es) (In b ∷ ls) placed = absurd (cc)
heard_lines (send t ∷ es) (Out b ∷ ls) placed = heard_lines es ls (cc)
heard_lines (recv t ∷ es) [] placed = refl
heard_lines (recv t ∷ es) (Out b ∷ ls) placed = absurd (cc)
heard_lines (recv t ∷ es) (In b ∷ ls) placed = ap (λ l. b ∷ l) (heard_lines es ls (cc))

pub said_lines : (es : List Event) (lines : List TranscriptLine) → Placed es lines → says_in es (map line_bytes lines) ≡ messages_of lines
said_lines [] [] placed = refl
said_lines [] (l ∷ ls) placed = absurd (cc)
said_lines (know t ∷ es) lines placed = said_lines es lines placed
said_lines (fresh t ∷ es) lines placed = said_lines es lines placed
said_lines (send t ∷ es) [] placed = refl
said_lines (send t ∷ es) (In b ∷ ls) placed = absurd (cc)
said_lines (send t ∷ es) (Out b ∷ ls) placed = ap (λ l. b ∷ l) (said_lines es ls (cc))
said_lines (recv t ∷ es) [] placed = refl
said_lines (recv t ∷ es) (Out b ∷ ls) placed = absurd (cc)
said_lines (recv t ∷ es) (In b ∷ ls) placed = said_lines es ls (cc)

-- the first of them are in place too
pub placed_to : (n : ℕ) (es : List Event) (lines : List TranscriptLine) → Placed es lines → n ≤ length lines → Placed (up_to n es) (take n lines)
placed_to zero [] [] placed few = refl
placed_to (suc n) [] [] placed few = absurd (omega (arith, few))
placed_to n [] (l ∷ ls) placed few = absurd (cc)
placed_to n (know t ∷ es) lines placed few = placed_to n es lines placed few
placed_to n (fresh t ∷ es) lines placed few = placed_to n es lines placed few
placed_to zero (send t ∷ es) [] placed few = refl
placed_to zero (send t ∷ es) (l ∷ ls) placed few = refl
placed_to zero (recv t ∷ es) [] placed few = refl
placed_to zero (recv t ∷ es) (l ∷ ls) placed few = refl
placed_to (suc n) (send t ∷ es) [] placed few = absurd (omega (arith, few))
placed_to (suc n) (recv t ∷ es) [] placed few = absurd (omega (arith, few))
placed_to (suc n) (send t ∷ es) (In b ∷ ls) placed few = absurd (cc)
placed_to (suc n) (recv t ∷ es) (Out b ∷ ls) placed few = absurd (cc)
placed_to (suc n) (send t ∷ es) (Out b ∷ ls) placed few = ap (λ l. b ∷ l) (placed_to n es ls (cc) (omega (arith, few)))
placed_to (suc n) (recv t ∷ es) (In b ∷ ls) placed few = ap (λ l. b ∷ l) (placed_to n es ls (cc) (omega (arith, few)))

pub take_map : {X Y : Type 0} (f : X → Y) (n : ℕ) (xs : List X) → take n (map f xs) ≡ map f (take n xs)
take_map f zero [] = refl
take_map f zero (x ∷ xs) = refl
take_map f (suc n) [] = refl
take_map f (suc n) (x ∷ xs) = ap (λ l. f x ∷ l) (take_map f n xs)

pub whole_plan : (es : List Event) → up_to (length (sides es)) es ≡ es
whole_plan [] = refl
whole_plan (know t ∷ es) = ap (λ l. know t ∷ l) (whole_plan es)
whole_plan (fresh t ∷ es) = ap (λ l. fresh t ∷ l) (whole_plan es)
whole_plan (send t ∷ es) = ap (λ l. send t ∷ l) (whole_plan es)
whole_plan (recv t ∷ es) = ap (λ l. recv t ∷ l) (whole_plan es)

-- ---- how a play over them ends

abbrev Text : Type 0
Text = List ℕ

sent_of : (p : Played Text) (b : Text) (q : Played Text) → p ≡ says b q → p.sent ≡ b ∷ q.sent
sent_of p b q is = ap (λ (x : Played Text). x.sent) is

end_of : (p : Played Text) (b : Text) (q : Played Text) → p ≡ says b q → p.end ≡ q.end
end_of p b q is = ap (λ (x : Played Text). x.end) is

left_of : (p : Played Text) (b : Text) (q : Played Text) → p ≡ says b q → p.left ≡ q.left
left_of p b q is = ap (λ (x : Played Text). x.left) is

pub ending : (p : Played Text) (x : End) (xs : List Text) → p ≡ ends x xs → p.end ≡ x
ending p x xs is = ap (λ (q : Played Text). q.end) is

same_stop : (e f at : ℕ) → stopped f at ≡ stopped e 0 → f ≡ e
same_stop e f at is = cc

module _ (m : Meaning Text) (draw : ℕ → Text) where
  -- a play that is over had a line for each message, and used all that came
  pub done_lines : (es : List Event) (F : List Tree) (vs : List Text) (k i : ℕ) (lines : List TranscriptLine) (p : Played Text) → Placed es lines
      → Walk m draw es F vs k i (arrivals_of lines) p → p.end ≡ done → messages_of lines ≡ p.sent → (length lines ≡ length (sides es)) × (p.left ≡ [])
  done_lines [] F vs k i [] p placed walk is said = (refl, ap (λ (q : Played Text). q.left) walk)
  done_lines [] F vs k i (l ∷ ls) p placed walk is said = absurd (cc)
  done_lines (know t ∷ es) F vs k i lines p placed walk is said = done_lines es F vs k i lines p placed walk is said
  done_lines (fresh t ∷ es) F vs k i lines p placed walk is said = done_lines es (F ++ t ∷ []) (vs ++ draw i ∷ []) k (i + 1) lines p placed walk is said
  done_lines (send t ∷ es) F vs k i [] p placed walk is said = let s = sent_of p walk.0 walk.1 walk.4 in absurd (cc)
  done_lines (send t ∷ es) F vs k i (In b ∷ ls) p placed walk is said = absurd (cc)
  done_lines (send t ∷ es) F vs k i (Out b ∷ ls) p placed walk is said =
      let q = walk.1 in
      let s = sent_of p walk.0 q walk.4 in
      let rest : messages_of ls ≡ q.sent = cc in
      let r = done_lines es F vs (k + 1) i ls q (cc) walk.3 (sym (end_of p walk.0 q walk.4) ∙ is) rest in
      (ap suc r.0, left_of p walk.0 q walk.4 ∙ r.1)
  done_lines (recv t ∷ es) F vs k i [] p placed walk is said = let w = ending p (waiting (k + 1)) [] walk in absurd (cc)
  done_lines (recv t ∷ es) F vs k i (Out b ∷ ls) p placed walk is said = absurd (cc)
  done_lines (recv t ∷ es) F vs k i (In b ∷ ls) p placed (inr h) is said = let w = ending p (stopped (k + 1) 0) (arrivals_of ls) h.1 in absurd (cc)
  done_lines (recv t ∷ es) F vs k i (In b ∷ ls) p placed (inl h) is said =
      let r = done_lines es (F ++ t ∷ []) (vs ++ b ∷ []) (k + 1) i ls p (cc) h.1 is said in (ap suc r.0, r.1)

  -- Where it stops: a line that it hears, behind which it says nothing.
  pub record StopsIn (k f : ℕ) (es : List Event) (lines : List TranscriptLine) : Type 0 where
    pub n : ℕ
    pub at : f ≡ k + suc n
    pub within : suc n ≤ length lines
    pub quiet : messages_of (drop (suc n) lines) ≡ []
    pub heard : slice_get (sides es) n ≡ Some false

  later : (k f : ℕ) (es : List Event) (lines : List TranscriptLine) (e : Event) (l : TranscriptLine) (said : Bool) → sides (e ∷ es) ≡ said ∷ sides es
      → StopsIn (k + 1) f es lines → StopsIn k f (e ∷ es) (l ∷ lines)
  later k f es lines e l said is s = record {
    n = suc s.n;
    at = omega (arith, s.at);
    within = omega (arith, s.within);
    quiet = s.quiet;
    heard = ap (λ ss. slice_get ss (suc s.n)) is ∙ s.heard;
  }

  pub stop_lines : (es : List Event) (F : List Tree) (vs : List Text) (k i : ℕ) (lines : List TranscriptLine) (p : Played Text) (f at : ℕ) → Placed es lines
      → Walk m draw es F vs k i (arrivals_of lines) p → p.end ≡ stopped f at → messages_of lines ≡ p.sent → StopsIn k f es lines
  stop_lines [] F vs k i lines p f at placed walk is said = let w = ending p done (arrivals_of lines) walk in absurd (cc)
  stop_lines (know t ∷ es) F vs k i lines p f at placed walk is said =
      let r = stop_lines es F vs k i lines p f at placed walk is said in record { n = r.n; at = r.at; within = r.within; quiet = r.quiet; heard = r.heard }
  stop_lines (fresh t ∷ es) F vs k i lines p f at placed walk is said =
      let r = stop_lines es (F ++ t ∷ []) (vs ++ draw i ∷ []) k (i + 1) lines p f at placed walk is said in record { n = r.n; at = r.at; within = r.within; quiet = r.quiet; heard = r.heard }
  stop_lines (send t ∷ es) F vs k i [] p f at placed walk is said = let s = sent_of p walk.0 walk.1 walk.4 in absurd (cc)
  stop_lines (send t ∷ es) F vs k i (In b ∷ ls) p f at placed walk is said = absurd (cc)
  stop_lines (send t ∷ es) F vs k i (Out b ∷ ls) p f at placed walk is said =
      let q = walk.1 in
      let s = sent_of p walk.0 q walk.4 in
      let rest : messages_of ls ≡ q.sent = cc in
      later k f es ls (send t) (Out b) true refl (stop_lines es F vs (k + 1) i ls q f at (cc) walk.3 (sym (end_of p walk.0 q walk.4) ∙ is) rest)
  stop_lines (recv t ∷ es) F vs k i [] p f at placed walk is said = let w = ending p (waiting (k + 1)) [] walk in absurd (cc)
  stop_lines (recv t ∷ es) F vs k i (Out b ∷ ls) p f at placed walk is said = absurd (cc)
  stop_lines (recv t ∷ es) F vs k i (In b ∷ ls) p f at placed (inr h) is said =
      record {
        n = 0;
        at = omega (arith, same_stop (k + 1) f at (sym is ∙ ending p (stopped (k + 1) 0) (arrivals_of ls) h.1));
        within = omega arith;
        quiet = said ∙ ap (λ (q : Played Text). q.sent) h.1;
        heard = refl;
      }
  stop_lines (recv t ∷ es) F vs k i (In b ∷ ls) p f at placed (inl h) is said =
      later k f es ls (recv t) (In b) false refl (stop_lines es (F ++ t ∷ []) (vs ++ b ∷ []) (k + 1) i ls p f at (cc) h.1 is said)

  -- Before that it goes on over the first lines.
  pub begun_lines : (es : List Event) (F : List Tree) (vs : List Text) (k i n : ℕ) (lines : List TranscriptLine) (p : Played Text) → Placed es lines → n ≤ length lines
      → Walk m draw es F vs k i (arrivals_of lines) p → ((f at : ℕ) → p.end ≡ stopped f at → k + n < f) → messages_of lines ≡ p.sent
      → Walk m draw (up_to n es) F vs k i (arrivals_of (take n lines)) (over (messages_of (take n lines)))
  begun_lines [] F vs k i zero [] p placed few walk stop said = refl
  begun_lines [] F vs k i (suc n) [] p placed few walk stop said = absurd (omega (arith, few))
  begun_lines [] F vs k i n (l ∷ ls) p placed few walk stop said = absurd (cc)
  begun_lines (know t ∷ es) F vs k i n lines p placed few walk stop said = begun_lines es F vs k i n lines p placed few walk stop said
  begun_lines (fresh t ∷ es) F vs k i n lines p placed few walk stop said = begun_lines es (F ++ t ∷ []) (vs ++ draw i ∷ []) k (i + 1) n lines p placed few walk stop said
  begun_lines (send t ∷ es) F vs k i zero [] p placed few walk stop said = refl
  begun_lines (send t ∷ es) F vs k i zero (l ∷ ls) p placed few walk stop said = refl
  begun_lines (recv t ∷ es) F vs k i zero [] p placed few walk stop said = refl
  begun_lines (recv t ∷ es) F vs k i zero (l ∷ ls) p placed few walk stop said = refl
  begun_lines (send t ∷ es) F vs k i (suc n) [] p placed few walk stop said = absurd (omega (arith, few))
  begun_lines (recv t ∷ es) F vs k i (suc n) [] p placed few walk stop said = absurd (omega (arith, few))
  begun_lines (send t ∷ es) F vs k i (suc n) (In b ∷ ls) p placed few walk stop said = absurd (cc)
  begun_lines (recv t ∷ es) F vs k i (suc n) (Out b ∷ ls) p placed few walk stop said = absurd (cc)
  begun_lines (send t ∷ es) F vs k i (suc n) (Out b ∷ ls) p placed few walk stop said =
      let q = walk.1 in
      let s = sent_of p walk.0 q walk.4 in
      let rest : messages_of ls ≡ q.sent = cc in
      let first : b ≡ walk.0 = cc in
      let on = begun_lines es F vs (k + 1) i n ls q (cc) (omega (arith, few)) walk.3 (λ f at is. omega (arith, stop f at (end_of p walk.0 q walk.4 ∙ is))) rest in
      (walk.0, over (messages_of (take n ls)), walk.2, on, ap (λ x. over (x ∷ messages_of (take n ls))) first)
  begun_lines (recv t ∷ es) F vs k i (suc n) (In b ∷ ls) p placed few (inl h) stop said =
      inl (h.0, begun_lines es (F ++ t ∷ []) (vs ++ b ∷ []) (k + 1) i n ls p (cc) (omega (arith, few)) h.1 (λ f at is. omega (arith, stop f at is)) said)
  begun_lines (recv t ∷ es) F vs k i (suc n) (In b ∷ ls) p placed few (inr h) stop said =
      let late = stop (k + 1) 0 (ending p (stopped (k + 1) 0) (arrivals_of ls) h.1) in absurd (omega (arith, late))
