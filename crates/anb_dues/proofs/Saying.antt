-- What a partner said in lines that are due, it says over all that came to it.
use Rattle.std.proofs.Common.{◌≡◌, List, [], ◌∷◌, ◌++◌, length, drop, refl, sym, ap, ◌∙◌, subst, inl, inr, append_assoc, append-nil}
use Rattle.anb_plays.specs.Plays.{Played, Run}
use Rattle.anb_plays.specs.Statements.{Grows}
use Rattle.anb_transcript.specs.declared.transcript.TranscriptLine.{TranscriptLine}
use Rattle.anb_transcript.specs.declared.transcript.TranscriptLine.TheVariants.{In, Out}
use Rattle.anb_transcript.specs.Replays.{AreDue, arrivals_of, messages_of}
use Rattle.anb_tries.proofs.Narrated.{arrivals_both, drop_first, messages_both, said_is_due}
use Rattle.anb_dues.proofs.Firsts.{Text}

-- it says these messages first
abbrev pub SaysFirst : Played Text → List Text → Type 0
SaysFirst p messages = (rest : List Text) × (p.sent ≡ messages ++ rest)

module _ (R : Run) (grows : (xs more : List Text) → Grows (R xs) (R (xs ++ more)) more) where
  grown : (p q : Played Text) (more messages : List Text) → SaysFirst p messages → Grows p q more → SaysFirst q messages
  grown p q more messages says (inl g) = (says.0 ++ g.3, g.4 ∙ ap (λ l. l ++ g.3) says.1 ∙ append_assoc messages says.0 g.3)
  grown p q more messages says (inr g) = (says.0, ap (λ (r : Played Text). r.sent) g.1 ∙ says.1)

  -- one line more
  one : (before after : List TranscriptLine) (l : TranscriptLine) (own : List TranscriptLine) → AreDue R own → own ≡ before ++ l ∷ after → SaysFirst (R (arrivals_of before)) (messages_of before)
      → SaysFirst (R (arrivals_of (before ++ l ∷ []))) (messages_of (before ++ l ∷ []))
  one before after (In b) own due is says =
      let came : arrivals_of (before ++ In b ∷ []) ≡ arrivals_of before ++ b ∷ [] = arrivals_both before (In b ∷ []) in
      let said : messages_of (before ++ In b ∷ []) ≡ messages_of before = messages_both before (In b ∷ []) ∙ append-nil (messages_of before) in
      let g = grown (R (arrivals_of before)) (R (arrivals_of before ++ b ∷ [])) (b ∷ []) (messages_of before) says (grows (arrivals_of before) (b ∷ [])) in
      subst (λ xs. SaysFirst (R xs) (messages_of (before ++ In b ∷ []))) (sym came) (subst (SaysFirst (R (arrivals_of before ++ b ∷ []))) (sym said) g)
  one before after (Out c) own due is says =
      let came : arrivals_of (before ++ Out c ∷ []) ≡ arrivals_of before = arrivals_both before (Out c ∷ []) ∙ append-nil (arrivals_of before) in
      let said : messages_of (before ++ Out c ∷ []) ≡ messages_of before ++ c ∷ [] = messages_both before (Out c ∷ []) in
      let r = R (arrivals_of before) in
      let told = said_is_due (drop (length (messages_of before)) r.sent) r.end c (due before after (Out c) is) in
      let rest : says.0 ≡ c ∷ told.0 = sym (drop_first (messages_of before) says.0) ∙ ap (drop (length (messages_of before))) (sym says.1) ∙ told.1 in
      let more : SaysFirst r (messages_of before ++ c ∷ []) = (told.0, says.1 ∙ ap (λ l. messages_of before ++ l) rest ∙ sym (append_assoc (messages_of before) (c ∷ []) told.0)) in
      subst (λ xs. SaysFirst (R xs) (messages_of (before ++ Out c ∷ []))) (sym came) (subst (SaysFirst r) (sym said) more)

  from : (own before after : List TranscriptLine) → AreDue R own → own ≡ before ++ after → SaysFirst (R (arrivals_of before)) (messages_of before) → SaysFirst (R (arrivals_of own)) (messages_of own)
  from own before [] due is says = subst (λ (ls : List TranscriptLine). SaysFirst (R (arrivals_of ls)) (messages_of ls)) (sym (is ∙ append-nil before)) says
  from own before (l ∷ after) due is says = from own (before ++ l ∷ []) after due (is ∙ sym (append_assoc before (l ∷ []) after)) (one before after l own due is says)

  pub says_all : (own : List TranscriptLine) → AreDue R own → SaysFirst (R (arrivals_of own)) (messages_of own)
  says_all own due = from own [] own due refl ((R []).sent, refl)
