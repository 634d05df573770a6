-- How many messages are said among the first so many of a plan.
use Rattle.std.proofs.Common.{◌≡◌, ℕ, zero, suc, ◌+◌, ◌≤◌, List, [], ◌∷◌, ◌++◌, length, take, Bool, true, false, Some, refl, sym, ap, ◌∙◌, arith, length-append}
use Rattle.std.specs.Prelude.{slice_get}
use Rattle.anb_lemmas.proofs.Options.{mapped_from}
use Rattle.anb_term.specs.FreeAlgebra.{terms}
use Rattle.anb_term.specs.Tree.{Tree}
use Rattle.anb_term.proofs.Steps.{bound}
use Rattle.anb_plays.specs.Plans.{Event, know, fresh, send, recv}
use Rattle.anb_plays.specs.Codes.{Act, takes, draws, receives, sends, works}
use Rattle.anb_plays.specs.Exec.{worked}
use Rattle.anb_plays.specs.Fits.{Place, Along, AnySend, AnyWork, AnyBorder, after_take, after_label, after_work}
use Rattle.anb_transcript.specs.declared.transcript.TranscriptLine.{TranscriptLine}
use Rattle.anb_transcript.specs.declared.transcript.TranscriptLine.TheVariants.{In, Out}
use Rattle.anb_transcript.specs.Replays.{messages_of}
use Rattle.anb_judge.specs.Verdicts.{sides}
use Rattle.anb_openings.specs.Steps.{Progress, writing, drawing, saying, hearing, after, after_all}
use Rattle.anb_tries.proofs.Along.{Fits}

-- how many of the first n messages the role says
abbrev pub said_in : ℕ → List Bool → ℕ
said_in zero ss = 0
said_in (suc n) [] = 0
said_in (suc n) (true ∷ ss) = suc (said_in n ss)
said_in (suc n) (false ∷ ss) = said_in n ss

pub messages_few : (ss : List Bool) (ls : List TranscriptLine) (k : ℕ) → Fits ss ls → length (messages_of (take k ls)) ≤ said_in k ss
messages_few ss ls zero fits = omega arith
messages_few [] [] (suc k) fits = omega arith
messages_few [] (l ∷ ls) (suc k) fits = absurd (cc)
messages_few (true ∷ ss) [] (suc k) fits = omega arith
messages_few (false ∷ ss) [] (suc k) fits = omega arith
messages_few (true ∷ ss) (Out b ∷ ls) (suc k) fits = omega (arith, messages_few ss ls k (cc))
messages_few (true ∷ ss) (In b ∷ ls) (suc k) fits = absurd (cc)
messages_few (false ∷ ss) (In b ∷ ls) (suc k) fits = messages_few ss ls k (cc)
messages_few (false ∷ ss) (Out b ∷ ls) (suc k) fits = absurd (cc)

pub more_said : (k n : ℕ) (ss : List Bool) → k ≤ n → said_in k ss ≤ said_in n ss
more_said zero n ss few = omega arith
more_said (suc k) zero ss few = absurd (omega (arith, few))
more_said (suc k) (suc n) [] few = omega arith
more_said (suc k) (suc n) (true ∷ ss) few = omega (arith, more_said k n ss (omega (arith, few)))
more_said (suc k) (suc n) (false ∷ ss) few = more_said k n ss (omega (arith, few))

-- ---- what acts send

abbrev exchanged : Act → ℕ
exchanged takes = 0
exchanged draws = 0
exchanged receives = 1
exchanged (sends r) = 1
exchanged (works w) = 0

abbrev sent_by : Act → ℕ
sent_by takes = 0
sent_by draws = 0
sent_by receives = 0
sent_by (sends r) = 1
sent_by (works w) = 0

module _ (made : List Tree) where
  record Stepped (act : Act) (s t : Progress Tree) : Type 0 where
    event : t.event ≡ s.event + exchanged act
    sent : length t.sent ≡ length s.sent + sent_by act

  of_same : (act : Act) (s u t : Progress Tree) → u ≡ t → u.event ≡ s.event + exchanged act → length u.sent ≡ length s.sent + sent_by act → Stepped act s t
  of_same act s u t same e n = record {
    event = sym (ap (λ (x : Progress Tree). x.event) same) ∙ e;
    sent = sym (ap (λ (x : Progress Tree). length x.sent) same) ∙ n;
  }

  heard : (s t : Progress Tree) (left : List Tree) → hearing left s ≡ Some t → Stepped receives s t
  heard s t [] e = cc
  heard s t (x ∷ left) e =
      let u : Progress Tree = record s { table = s.table ++ x ∷ []; event = s.event + 1; left = left } in
      let same : u ≡ t = cc in
      of_same receives s u t same refl (omega arith)

  stepped : (act : Act) (s t : Progress Tree) → after terms made act s ≡ Some t → Stepped act s t
  stepped takes s t e = let same : s ≡ t = cc in of_same takes s s t same (omega arith) (omega arith)
  stepped draws s t e = let f = mapped_from (λ x. drawing x s) (slice_get made s.drawn) t e in of_same draws s (drawing f.0 s) t f.2 (omega arith) (omega arith)
  stepped receives s t e = heard s t s.left e
  stepped (sends r) s t e =
      let f = mapped_from (λ x. saying x s) (slice_get s.table r) t e in
      of_same (sends r) s (saying f.0 s) t f.2 refl (length-append s.sent (f.0 ∷ []))
  stepped (works w) s t e = let f = mapped_from (λ ws. writing ws s) (worked terms s.table w) t e in of_same (works w) s (writing f.0 s) t f.2 (omega arith) (omega arith)

  grown : (acts : List Act) (s t : Progress Tree) → after_all terms made acts s ≡ Some t → s.event ≤ t.event
  grown [] s t e =
      let same : s ≡ t = cc in
      let event : s.event ≡ t.event = ap (λ (u : Progress Tree). u.event) same in
      omega (arith, event)
  grown (act ∷ acts) s t e =
      let b = bound (after_all terms made acts) (after terms made act s) t e in
      let one = (stepped act s b.0 b.1).event in
      omega (arith, one, grown acts b.0 t b.2)

  abbrev Follows : List Act → List Event → Place → Type 0
  Follows acts es pl = Along AnySend AnyWork AnyBorder acts es pl

  -- among the first events that the acts did, they sent what a plan says there
  pub counted : (front back : List Act) (es : List Event) (pl : Place) (s t : Progress Tree) (k : ℕ) → Follows (front ++ back) es pl → after_all terms made front s ≡ Some t → t.event ≡ s.event + k
      → length t.sent ≡ length s.sent + said_in k (sides es)
  counted [] back es pl s t zero along e n =
      let same : s ≡ t = cc in
      let sent : length s.sent ≡ length t.sent = ap (λ (u : Progress Tree). length u.sent) same in
      omega (arith, sent)
  counted [] back es pl s t (suc k) along e n =
      let same : s ≡ t = cc in
      let event : s.event ≡ t.event = ap (λ (u : Progress Tree). u.event) same in
      absurd (omega (arith, event, n))
  counted (works w ∷ front) back es pl s t k along e n =
      let b = bound (after_all terms made front) (after terms made (works w) s) t e in
      let o = stepped (works w) s b.0 b.1 in
      let event : b.0.event ≡ s.event + 0 = o.event in
      let sent : length b.0.sent ≡ length s.sent + 0 = o.sent in
      let rest = counted front back es (after_work pl w) b.0 t k along.1 b.2 (omega (arith, n, event)) in
      omega (arith, sent, rest)
  counted (takes ∷ front) back (know x ∷ es) pl s t k along e n =
      let b = bound (after_all terms made front) (after terms made takes s) t e in
      let o = stepped takes s b.0 b.1 in
      let event : b.0.event ≡ s.event + 0 = o.event in
      let sent : length b.0.sent ≡ length s.sent + 0 = o.sent in
      let rest = counted front back es (after_take pl) b.0 t k along b.2 (omega (arith, n, event)) in
      omega (arith, sent, rest)
  counted (draws ∷ front) back (fresh x ∷ es) pl s t k along e n =
      let b = bound (after_all terms made front) (after terms made draws s) t e in
      let o = stepped draws s b.0 b.1 in
      let event : b.0.event ≡ s.event + 0 = o.event in
      let sent : length b.0.sent ≡ length s.sent + 0 = o.sent in
      let rest = counted front back es (after_label pl x) b.0 t k along b.2 (omega (arith, n, event)) in
      omega (arith, sent, rest)
  counted (receives ∷ front) back (recv x ∷ es) pl s t zero along e n =
      let b = bound (after_all terms made front) (after terms made receives s) t e in
      let event : b.0.event ≡ s.event + 1 = (stepped receives s b.0 b.1).event in
      absurd (omega (arith, event, n, grown front b.0 t b.2))
  counted (receives ∷ front) back (recv x ∷ es) pl s t (suc k) along e n =
      let b = bound (after_all terms made front) (after terms made receives s) t e in
      let o = stepped receives s b.0 b.1 in
      let event : b.0.event ≡ s.event + 1 = o.event in
      let sent : length b.0.sent ≡ length s.sent + 0 = o.sent in
      let rest = counted front back es (after_label pl x) b.0 t k along.1 b.2 (omega (arith, n, event)) in
      omega (arith, sent, rest)
  counted (sends r ∷ front) back (send x ∷ es) pl s t zero along e n =
      let b = bound (after_all terms made front) (after terms made (sends r) s) t e in
      let event : b.0.event ≡ s.event + 1 = (stepped (sends r) s b.0 b.1).event in
      absurd (omega (arith, event, n, grown front b.0 t b.2))
  counted (sends r ∷ front) back (send x ∷ es) pl s t (suc k) along e n =
      let b = bound (after_all terms made front) (after terms made (sends r) s) t e in
      let o = stepped (sends r) s b.0 b.1 in
      let event : b.0.event ≡ s.event + 1 = o.event in
      let sent : length b.0.sent ≡ length s.sent + 1 = o.sent in
      let rest = counted front back es pl b.0 t k along.2 b.2 (omega (arith, n, event)) in
      omega (arith, sent, rest)
  counted (takes ∷ front) back [] pl s t k along e n = absurd along
  counted (takes ∷ front) back (fresh x ∷ es) pl s t k along e n = absurd along
  counted (takes ∷ front) back (send x ∷ es) pl s t k along e n = absurd along
  counted (takes ∷ front) back (recv x ∷ es) pl s t k along e n = absurd along
  counted (draws ∷ front) back [] pl s t k along e n = absurd along
  counted (draws ∷ front) back (know x ∷ es) pl s t k along e n = absurd along
  counted (draws ∷ front) back (send x ∷ es) pl s t k along e n = absurd along
  counted (draws ∷ front) back (recv x ∷ es) pl s t k along e n = absurd along
  counted (receives ∷ front) back [] pl s t k along e n = absurd along
  counted (receives ∷ front) back (know x ∷ es) pl s t k along e n = absurd along
  counted (receives ∷ front) back (fresh x ∷ es) pl s t k along e n = absurd along
  counted (receives ∷ front) back (send x ∷ es) pl s t k along e n = absurd along
  counted (sends r ∷ front) back [] pl s t k along e n = absurd along
  counted (sends r ∷ front) back (know x ∷ es) pl s t k along e n = absurd along
  counted (sends r ∷ front) back (fresh x ∷ es) pl s t k along e n = absurd along
  counted (sends r ∷ front) back (recv x ∷ es) pl s t k along e n = absurd along
