-- What is left behind a talk, message by message.
use Rattle.std.proofs.Common.{◌≡◌, ◌≤◌, ◌<◌, ◌+◌, ℕ, List, [], ◌∷◌, ◌++◌, length, take, Bool, true, false, Option, Result, Ok, Err, refl, sym, ap, ◌∙◌, subst, append-nil, inl, inr, arith, length-append}
use Rattle.std.proofs.lemmas.Grind.{flat_map-append}
use Rattle.anb_base.specs.Moves.{AtEnd, Took}
use Rattle.anb_base.specs.Wires.{WireState}
use Rattle.anb_base.specs.declared.TheConstants.{ARRIVAL}
use Rattle.anb_base.proofs.Joined.{Took-joined}
use Rattle.anb_base.proofs.Moving.{took_nothing}
use Rattle.anb_frame.specs.Answers.{Takes}
use Rattle.anb_frame.specs.Frames.{frame, frames, length_bytes}
use Rattle.anb_frame.specs.declared.Taken.{Taken}
use Rattle.anb_frame.specs.declared.Taken.TheVariants as taken
use Rattle.anb_frame.specs.declared.FrameNo.{FrameNo}
use Rattle.anb_frame.specs.declared.FrameNo.TheVariants.{TooLarge}
use Rattle.anb_partner.specs.declared.conversation.TalkEnd.{TalkEnd}
use Rattle.anb_partner.specs.declared.conversation.TalkEnd.TheVariants.{ReadFault}
use Rattle.anb_partner.specs.Talks.{Drained}

no_truth : false ≡ true → ⊥
no_truth e = cc

no_lie : true ≡ false → ⊥
no_lie e = cc

-- what `take` answered
module _ (left now taken_at taken_at_now : Option (List ℕ)) (written room : ℕ) (buf : List ℕ) (r : Result Taken FrameNo) (takes : Takes left now taken_at taken_at_now written room buf r) where
  pub ended : r ≡ Ok taken.End → (now ≡ left) × AtEnd left
  ended e = let (same, stays, at) = subst (Takes left now taken_at taken_at_now written room buf) e takes in (same, at)

  pub long : (len : ℕ) → r ≡ Err (TooLarge len) → (room < len) × Took left now (length_bytes len)
  long len e = let (above, small, took) = subst (Takes left now taken_at taken_at_now written room buf) e takes in (above, took.0)

  pub message : (n : ℕ) → r ≡ Ok (taken.Frame n) → Took left now (frame (take n buf))
  message n e = let (fits, took) = subst (Takes left now taken_at taken_at_now written room buf) e takes in took.0

-- so many messages were read so far
module _ (s t : WireState) (end : TalkEnd) (behind : ℕ) (left : Option (List ℕ)) (messages : List (List ℕ)) (is : length messages ≡ behind) (took : Took s.left left (frames messages)) (written : t.written ≡ s.written) where
  pub drained_end : t.left ≡ left → AtEnd left → Drained s t end behind false
  drained_end same at = record {
    messages = messages;
    rest = [];
    count = is;
    took = subst (Took s.left t.left) (sym (append-nil (frames messages))) (subst (λ l. Took s.left l (frames messages)) (sym same) took);
    written = written;
    loose = λ e. absurd (no_truth e);
    all = λ e. inl (refl, subst AtEnd (sym same) at);
  }

  pub drained_long : (len : ℕ) → Took left t.left (length_bytes len) → ARRIVAL < len → Drained s t end behind true
  drained_long len more above = record {
    messages = messages;
    rest = length_bytes len;
    count = is;
    took = Took-joined s.left left t.left (frames messages) (length_bytes len) took more;
    written = written;
    loose = λ e. inr (len, refl, above);
    all = λ e. absurd (no_lie e);
  }

-- a message was read behind others
pub one_more : (left between now : Option (List ℕ)) (messages : List (List ℕ)) (b : List ℕ) (behind : ℕ) → length messages ≡ behind → Took left between (frames messages) → Took between now (frame b)
    → (all : List (List ℕ)) × (length all ≡ behind + 1) × Took left now (frames all)
one_more left between now messages b behind is one two =
    let more : frames (messages ++ b ∷ []) ≡ frames messages ++ frame b = flat_map-append frame messages (b ∷ []) ∙ ap (λ l. frames messages ++ l) (append-nil (frame b)) in
    (messages ++ b ∷ [], omega (arith, length-append messages (b ∷ []), is), subst (Took left now) (sym more) (Took-joined left between now (frames messages) (frame b) one two))

-- nothing was read behind a fault of the output
pub undrained : (s : WireState) → Drained s s ReadFault 0 false
undrained s = record {
  messages = [];
  rest = [];
  count = refl;
  took = took_nothing s.left;
  written = refl;
  loose = λ e. absurd (no_truth e);
  all = λ e. inr (inr (inr refl));
}
