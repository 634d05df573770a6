-- What goes over the pipes, line by line.
use Rattle.std.proofs.Common.{◌≡◌, ℕ, ◌+◌, ◌<◌, List, [], ◌∷◌, ◌++◌, length, take, replicate, Option, Some, None, IfSome, Result, Ok, Err, refl, sym, ap, ◌∙◌, subst, append_assoc, append-nil, length-append, arith}
use Rattle.std.proofs.lemmas.Grind.{flat_map-append}
use Rattle.anb_base.specs.Moves.{Took, Put, Rose, Stamped}
use Rattle.anb_base.specs.Wires.{WireState}
use Rattle.anb_base.specs.declared.TheConstants.{ARRIVAL}
use Rattle.anb_base.proofs.Joined.{Took-joined, Put-joined}
use Rattle.anb_base.proofs.Moving.{put_nothing, took_nothing}
use Rattle.anb_frame.specs.Answers.{Takes, TookAt}
use Rattle.anb_frame.specs.Cuts.{Short}
use Rattle.anb_frame.specs.Cuts as cuts
use Rattle.anb_frame.specs.Frames.{frame, frames, length_bytes, IsPart}
use Rattle.anb_frame.specs.declared.Taken.{Taken}
use Rattle.anb_frame.specs.declared.Taken.TheVariants as taken
use Rattle.anb_frame.specs.declared.FrameNo.{FrameNo}
use Rattle.anb_frame.specs.declared.FrameNo.TheVariants.{Truncated, TooLarge, Failed}
use Rattle.anb_transcript.specs.declared.transcript.TranscriptLine.{TranscriptLine}
use Rattle.anb_transcript.specs.declared.transcript.TranscriptLine.TheVariants.{In, Out}
use Rattle.anb_transcript.specs.declared.following.Due.TheVariants.{Receive}
use Rattle.anb_transcript.specs.Replays.{arrivals_of, messages_of}
use Rattle.anb_partner.specs.declared.conversation.TalkEnd.TheVariants.{Missing, Cut, Long, ReadFault}
use Rattle.anb_partner.specs.Talks.{Corruption, Ends, Heard, Passed, stamps}
use Rattle.anb_partner.proofs.Reaching.{arrivals_of-append, messages_of-append}

stamps-append : (n : ℕ) (xs ys : List TranscriptLine) → stamps n (xs ++ ys) ≡ stamps n xs ++ stamps (n + length (frames (arrivals_of xs))) ys
stamps-append n [] ys = ap (λ k. stamps k ys) (omega arith)
stamps-append n (In b ∷ xs) ys =
    stamps-append (n + length (frame b)) xs ys
    ∙ ap (λ k. stamps (n + length (frame b)) xs ++ stamps k ys) (omega (arith, length-append (frame b) (frames (arrivals_of xs))))
stamps-append n (Out b ∷ xs) ys =
    ap (λ l. replicate (length (frame b)) n ++ l) (stamps-append n xs ys)
    ∙ sym (append_assoc (replicate (length (frame b)) n) (stamps n xs) (stamps (n + length (frames (arrivals_of xs))) ys))

-- the stamps of lines, and then of others
time_joined : (sw tw a b c : Option (List ℕ)) (xs ys : List TranscriptLine) → Put sw tw (frames (arrivals_of xs))
    → IfSome sw (λ w. Put a b (stamps (length w) xs)) → IfSome tw (λ w. Put b c (stamps (length w) ys)) → IfSome sw (λ w. Put a c (stamps (length w) (xs ++ ys)))
time_joined None tw a b c xs ys put one two = tt
time_joined (Some w) tw a b c xs ys put one two =
    let more = frames (arrivals_of xs) in
    let second : Put b c (stamps (length (w ++ more)) ys) = rw put at two in
    let placed : Put b c (stamps (length w + length more) ys) = subst (λ (k : ℕ). Put b c (stamps k ys)) (length-append w more) second in
    subst (Put a c) (sym (stamps-append (length w) xs ys)) (Put-joined a b c (stamps (length w) xs) (stamps (length w + length more) ys) one placed)

pub passed_joined : (s t u : WireState) (xs ys : List TranscriptLine) → Passed s t xs → Passed t u ys → Passed s u (xs ++ ys)
passed_joined s t u xs ys one two = record {
  took = subst (Took s.left u.left) (sym (ap frames (messages_of-append xs ys) ∙ flat_map-append frame (messages_of xs) (messages_of ys)))
      (Took-joined s.left t.left u.left (frames (messages_of xs)) (frames (messages_of ys)) one.took two.took);
  put = subst (Put s.written u.written) (sym (ap frames (arrivals_of-append xs ys) ∙ flat_map-append frame (arrivals_of xs) (arrivals_of ys)))
      (Put-joined s.written t.written u.written (frames (arrivals_of xs)) (frames (arrivals_of ys)) one.put two.put);
  in_time = time_joined s.written t.written s.taken_at t.taken_at u.taken_at xs ys one.put one.in_time two.in_time;
}

-- where nothing is taken, at any time
untaken : (w a b : Option (List ℕ)) → b ≡ a → IfSome w (λ written. Put a b [])
untaken None a b same = tt
untaken (Some w) a b same = rw same (put_nothing a)

pub passed_nothing : (s : WireState) → Passed s s []
passed_nothing s = record { took = took_nothing s.left; put = put_nothing s.written; in_time = untaken s.written s.taken_at s.taken_at refl }

pub passed_in : (s t : WireState) (b : List ℕ) → t.left ≡ s.left → t.taken_at ≡ s.taken_at → Put s.written t.written (frame b) → Passed s t (In b ∷ [])
passed_in s t b left taken put = record {
  took = rw left (took_nothing s.left);
  put = subst (Put s.written t.written) (sym (append-nil (frame b))) put;
  in_time = untaken s.written s.taken_at t.taken_at taken;
}

once : (w a b : Option (List ℕ)) (n : ℕ) → IfSome w (λ written. Stamped a b (length written) n) → IfSome w (λ written. Put a b (replicate n (length written) ++ []))
once None a b n h = tt
once (Some w) a b n h = subst (Put a b) (sym (append-nil (replicate n (length w)))) h

pub passed_out : (s t : WireState) (b : List ℕ) → Took s.left t.left (frame b) → t.written ≡ s.written
    → IfSome s.written (λ w. Stamped s.taken_at t.taken_at (length w) (length (frame b))) → Passed s t (Out b ∷ [])
passed_out s t b took written stamped = record {
  took = subst (Took s.left t.left) (sym (append-nil (frame b))) took;
  put = rw written (put_nothing s.written);
  in_time = once s.written s.taken_at t.taken_at (length (frame b)) stamped;
}

-- ---- what an answer of `take` says of the pipes

module _ (s t : WireState) (room n : ℕ) (buf : List ℕ) (is : room ≡ ARRIVAL) (same : t.written ≡ s.written)
    (told : (k : ℕ) → Stamped s.taken_at t.taken_at n k → IfSome s.written (λ w. Stamped s.taken_at t.taken_at (length w) k)) where
  abbrev Took_so : Result Taken FrameNo → Type 0
  Took_so r = Takes s.left t.left s.taken_at t.taken_at n room buf r

  heard_so : (bytes : List ℕ) → TookAt s.left t.left s.taken_at t.taken_at n bytes → Heard s t bytes
  heard_so bytes (took, stamped) = record { took = took; written = same; in_time = told (length bytes) stamped }

  pub heard_frame : (k : ℕ) (r : Result Taken FrameNo) → r ≡ Ok (taken.Frame k) → Took_so r → Passed s t (Out (take k buf) ∷ [])
  heard_frame k r e takes =
      let (fits, (took, stamped)) = subst Took_so e takes in
      passed_out s t (take k buf) took same (told (length (frame (take k buf))) stamped)

  pub heard_end : (corrupt : Corruption) (r : Result Taken FrameNo) → r ≡ Ok taken.End → Took_so r → Ends corrupt (Ok Receive) s t Missing
  heard_end corrupt r e takes =
      let (left, taken_at, at) = subst Took_so e takes in
      (refl, record { took = record { left = left; taken_at = taken_at }; written = same }, at)

  pub heard_part : (corrupt : Corruption) (have need : ℕ) (r : Result Taken FrameNo) → r ≡ Err (Truncated have need) → Took_so r → Ends corrupt (Ok Receive) s t (Cut have need)
  heard_part corrupt have need r e takes =
      let (z, took, at, ends) = subst Took_so e takes in
      (refl, (z, heard_so z took, subst (λ (limit : ℕ). cuts.Ends limit z (Short have need)) is ends), at)

  pub heard_long : (corrupt : Corruption) (len : ℕ) (r : Result Taken FrameNo) → r ≡ Err (TooLarge len) → Took_so r → Ends corrupt (Ok Receive) s t (Long len)
  heard_long corrupt len r e takes =
      let (above, small, took) = subst Took_so e takes in
      (refl, heard_so (length_bytes len) took, omega (arith, above, is))

  pub heard_fault : (corrupt : Corruption) (r : Result Taken FrameNo) → r ≡ Err Failed → Took_so r → Rose s.read_faults t.read_faults → Ends corrupt (Ok Receive) s t ReadFault
  heard_fault corrupt r e takes rose =
      let (z, need, took, part) = subst Took_so e takes in
      (refl, (z, need, heard_so z took, subst (λ (limit : ℕ). IsPart limit z need) is part), rose)
