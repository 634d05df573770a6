-- That a run is prompt, from its turns.
use Rattle.std.proofs.Common.{◌≡◌, ℕ, ◌+◌, ◌≤◌, List, [], ◌∷◌, ◌++◌, length, take, replicate, Option, Some, None, Result, Ok, Err, IfSome, refl, sym, ap, ◌∙◌, subst, arith, length-append, append_assoc}
use Rattle.std.proofs.lemmas.List.{append-nil, length-take}
use Rattle.std.proofs.lemmas.List.Elements.{All-nil, All-cons}
use Rattle.anb_base.specs.Moves.{Took, Put, Stamped}
use Rattle.anb_base.specs.Wires.{WireState}
use Rattle.anb_base.specs.declared.TheConstants.{ARRIVAL}
use Rattle.anb_base.proofs.Joined.{Took-joined, Put-joined}
use Rattle.anb_base.proofs.Moving.{put_nothing, took_nothing}
use Rattle.anb_frame.specs.Frames.{frame, frames, length_bytes, IsPart}
use Rattle.anb_frame.specs.Cuts.{Tail, Short, Long, Ends}
use Rattle.anb_frame.specs.Answers.{Takes}
use Rattle.anb_frame.specs.declared.Taken.{Taken}
use Rattle.anb_frame.specs.declared.Taken.TheVariants as taken
use Rattle.anb_frame.specs.declared.FrameNo.{FrameNo}
use Rattle.anb_frame.specs.declared.FrameNo.TheVariants.{Truncated, TooLarge, Failed}
use Rattle.anb_frame.proofs.Cuts.{cut_of_part}
use Rattle.anb_frame.specs.Cuts.{End as Whole}
use Rattle.anb_plays.specs.Plays.{Played, says, ends, waiting}
use Rattle.anb_plays.specs.Runs.{without_place, no_place}
use Rattle.anb_session.specs.Sessions.{due, due_at, Awaits, IsPrompt}
use Rattle.anb_session.specs.Turns.{WaitsPromptly, GoesOnPromptly, ReceivesPromptly, SendsPromptly, TookNothing}

-- two runs with the same due from two points on have it at each byte
due_at-same : (R R' : List (List ℕ) → Played (List ℕ)) (n m : ℕ) (used used' : List (List ℕ)) → ((xs : List (List ℕ)) → due R n (used ++ xs) ≡ due R' m (used' ++ xs))
    → (arrivals : List (List ℕ)) (rest : ℕ) → due_at R n used arrivals rest ≡ due_at R' m used' arrivals rest
due_at-same R R' n m used used' same [] rest =
    let here : due R n used ≡ due R' m used' = subst (λ t. due R n t ≡ due R' m used') (append-nil used) (subst (λ t. due R n (used ++ []) ≡ due R' m t) (append-nil used') (same [])) in
    ap (λ (k : ℕ). replicate rest k) here
due_at-same R R' n m used used' same (b ∷ arrivals) rest =
    let here : due R n used ≡ due R' m used' = subst (λ t. due R n t ≡ due R' m used') (append-nil used) (subst (λ t. due R n (used ++ []) ≡ due R' m t) (append-nil used') (same [])) in
    let next : (xs : List (List ℕ)) → due R n ((used ++ b ∷ []) ++ xs) ≡ due R' m ((used' ++ b ∷ []) ++ xs) =
    λ xs. ap (λ t. due R n t) (append_assoc used (b ∷ []) xs) ∙ same (b ∷ xs) ∙ ap (λ t. due R' m t) (sym (append_assoc used' (b ∷ []) xs)) in
    let later = due_at-same R R' n m (used ++ b ∷ []) (used' ++ b ∷ []) next arrivals rest in
    ap (λ (k : ℕ). replicate (length (frame b)) k ++ due_at R n (used ++ b ∷ []) arrivals rest) here
    ∙ ap (λ t. replicate (length (frame b)) (due R' m used') ++ t) later

-- ---- a message before it

due_saying : (R R' : List (List ℕ) → Played (List ℕ)) (b written : List ℕ) → ((xs : List (List ℕ)) → R xs ≡ says b (R' xs)) → (xs : List (List ℕ))
    → due R (length written) xs ≡ due R' (length (written ++ frame b)) xs
due_saying R R' b written comes xs =
    let sent : length (frames (R xs).sent) ≡ length (frame b) + length (frames (R' xs).sent) = ap (λ p. length (frames p.sent)) (comes xs) ∙ length-append (frame b) (frames (R' xs).sent) in
    let before : length (written ++ frame b) ≡ length written + length (frame b) = length-append written (frame b) in
    omega (arith, sent, before)

in_time_saying : (R R' : List (List ℕ) → Played (List ℕ)) (b : List ℕ) (written mid taken_at now : Option (List ℕ)) (whole : List (List ℕ)) (n : ℕ) → ((xs : List (List ℕ)) → R xs ≡ says b (R' xs))
    → Put written mid (frame b) → IfSome mid (λ w. Put taken_at now (due_at R' (length w) [] whole n)) → IfSome written (λ w. Put taken_at now (due_at R (length w) [] whole n))
in_time_saying R R' b None mid taken_at now whole n comes put h = tt
in_time_saying R R' b (Some w) mid taken_at now whole n comes put h =
    let told : IfSome (Some (w ++ frame b)) (λ v. Put taken_at now (due_at R' (length v) [] whole n)) = subst (λ o. IfSome o (λ v. Put taken_at now (due_at R' (length v) [] whole n))) put h in
    subst (Put taken_at now) (sym (due_at-same R R' (length w) (length (w ++ frame b)) [] [] (due_saying R R' b w comes) whole n)) told

awaits_saying : (R R' : List (List ℕ) → Played (List ℕ)) (b : List ℕ) → ((xs : List (List ℕ)) → R xs ≡ says b (R' xs)) → (xs : List (List ℕ)) → Awaits (R' xs) → Awaits (R xs)
awaits_saying R R' b comes xs h = subst Awaits (sym (comes xs)) h

pub saying_promptly : (s t : WireState) (b : List ℕ) → Put s.written t.written (frame b) → TookNothing s t → SendsPromptly b s t
saying_promptly s t b put nothing R R' comes = record {
  each = λ u p. record {
    whole = p.whole;
    rest = p.rest;
    tail = p.tail;
    fits = p.fits;
    ends = p.ends;
    took = subst (λ o. Took o u.left (frames p.whole ++ p.rest)) nothing.left p.took;
    in_time = in_time_saying R R' b s.written t.written s.taken_at u.taken_at p.whole (length p.rest) comes put
        (subst (λ o. IfSome t.written (λ w. Put o u.taken_at (due_at R' (length w) [] p.whole (length p.rest)))) nothing.taken_at p.in_time);
    awaited = λ used d later is. awaits_saying R R' b comes used (p.awaited used d later is);
    awaits = λ some. awaits_saying R R' b comes p.whole (p.awaits some);
  };
}

-- ---- an arrival before it

-- nothing is due while it waits with no message before
due_waiting : (R : List (List ℕ) → Played (List ℕ)) (event n : ℕ) → R [] ≡ ends (waiting event) [] → n ≡ due R n []
due_waiting R event n waits = let none : length (frames (R []).sent) ≡ 0 = ap (λ p. length (frames p.sent)) waits in omega (arith, none)

in_time_receiving : (R R' : List (List ℕ) → Played (List ℕ)) (event : ℕ) (b : List ℕ) (written mid_written taken_at mid now : Option (List ℕ)) (whole : List (List ℕ)) (n : ℕ) → R [] ≡ ends (waiting event) [] → ((xs : List (List ℕ)) → R (b ∷ xs) ≡ R' xs)
    → mid_written ≡ written → IfSome written (λ w. Stamped taken_at mid (length w) (length (frame b))) → IfSome mid_written (λ w. Put mid now (due_at R' (length w) [] whole n))
    → IfSome written (λ w. Put taken_at now (due_at R (length w) [] (b ∷ whole) n))
in_time_receiving R R' event b None mid_written taken_at mid now whole n waits comes same stamped h = tt
in_time_receiving R R' event b (Some w) mid_written taken_at mid now whole n waits comes same stamped h =
    let told : IfSome (Some w) (λ v. Put mid now (due_at R' (length v) [] whole n)) = subst (λ o. IfSome o (λ v. Put mid now (due_at R' (length v) [] whole n))) same h in
    let later : Put mid now (due_at R (length w) (b ∷ []) whole n) =
    subst (Put mid now) (sym (due_at-same R R' (length w) (length w) (b ∷ []) [] (λ xs. ap (λ p. length w + length (frames p.sent)) (comes xs)) whole n)) told in
    let first : Put taken_at mid (replicate (length (frame b)) (due R (length w) [])) = subst (λ (k : ℕ). Put taken_at mid (replicate (length (frame b)) k)) (due_waiting R event (length w) waits) stamped in
    Put-joined taken_at mid now (replicate (length (frame b)) (due R (length w) [])) (due_at R (length w) (b ∷ []) whole n) first later

awaits_first : (R : List (List ℕ) → Played (List ℕ)) (event : ℕ) → R [] ≡ ends (waiting event) [] → Awaits (R [])
awaits_first R event waits = (event, ap (λ p. p.end) waits)

awaited_receiving : (R R' : List (List ℕ) → Played (List ℕ)) (event : ℕ) (b : List ℕ) (whole : List (List ℕ)) → R [] ≡ ends (waiting event) [] → ((xs : List (List ℕ)) → R (b ∷ xs) ≡ R' xs)
    → ((used : List (List ℕ)) (d : List ℕ) (later : List (List ℕ)) → whole ≡ used ++ d ∷ later → Awaits (R' used))
    → (used : List (List ℕ)) (d : List ℕ) (later : List (List ℕ)) → b ∷ whole ≡ used ++ d ∷ later → Awaits (R used)
awaited_receiving R R' event b whole waits comes each [] d later is = awaits_first R event waits
awaited_receiving R R' event b whole waits comes each (c ∷ used) d later is =
    let same : b ≡ c = cc in
    let rest : whole ≡ used ++ d ∷ later = cc in
    subst (λ x. Awaits (R (x ∷ used))) same (subst Awaits (sym (comes used)) (each used d later rest))

pub receiving_promptly : (s t : WireState) (event : ℕ) (b : List ℕ) → length b ≤ ARRIVAL → Took s.left t.left (frame b) → t.written ≡ s.written
    → IfSome s.written (λ w. Stamped s.taken_at t.taken_at (length w) (length (frame b))) → ReceivesPromptly event b s t
receiving_promptly s t event b fits took same stamped R R' waits comes = record {
  each = λ u p. record {
    whole = b ∷ p.whole;
    rest = p.rest;
    tail = p.tail;
    fits = All-cons (λ d. length d ≤ ARRIVAL) b p.whole fits p.fits;
    ends = p.ends;
    took = subst (Took s.left u.left) (sym (append_assoc (frame b) (frames p.whole) p.rest)) (Took-joined s.left t.left u.left (frame b) (frames p.whole ++ p.rest) took p.took);
    in_time = in_time_receiving R R' event b s.written t.written s.taken_at t.taken_at u.taken_at p.whole (length p.rest) waits comes same stamped p.in_time;
    awaited = awaited_receiving R R' event b p.whole waits comes p.awaited;
    awaits = λ some. subst Awaits (sym (comes p.whole)) (p.awaits some);
  };
}

-- ---- turns that end it

none_before : (used : List (List ℕ)) (b : List ℕ) (later : List (List ℕ)) → [] ≡ used ++ b ∷ later → ⊥
none_before [] b later is = cc
none_before (c ∷ used) b later is = cc

pub prompt_nothing : (R : List (List ℕ) → Played (List ℕ)) (s t : WireState) → TookNothing s t → IsPrompt R s t
prompt_nothing R s t nothing = record {
  whole = [];
  rest = [];
  tail = Whole;
  fits = All-nil (λ b. length b ≤ ARRIVAL);
  ends = refl;
  took = subst (λ o. Took s.left o []) (sym nothing.left) (took_nothing s.left);
  in_time = all_in_time s.written;
  awaited = λ used b later is. absurd (none_before used b later is);
  awaits = λ some. absurd (some refl);
} where
  all_in_time : (written : Option (List ℕ)) → IfSome written (λ w. Put s.taken_at t.taken_at [])
  all_in_time None = tt
  all_in_time (Some w) = subst (λ o. Put s.taken_at o []) (sym nothing.taken_at) (put_nothing s.taken_at)

pub prompt_still : (R : List (List ℕ) → Played (List ℕ)) (s : WireState) → IsPrompt R s s
prompt_still R s = prompt_nothing R s s (record { left = refl; taken_at = refl })

-- a part of what comes next was taken
pub prompt_part : (s t : WireState) (event : ℕ) (z : List ℕ) (tail : Tail) → Ends ARRIVAL z tail → Took s.left t.left z
    → IfSome s.written (λ w. Stamped s.taken_at t.taken_at (length w) (length z)) → WaitsPromptly event s t
prompt_part s t event z tail ends took stamped R waits = record {
  whole = [];
  rest = z;
  tail = tail;
  fits = All-nil (λ b. length b ≤ ARRIVAL);
  ends = ends;
  took = took;
  in_time = all_in_time s.written stamped;
  awaited = λ used b later is. absurd (none_before used b later is);
  awaits = λ some. awaits_first R event waits;
} where
  all_in_time : (written : Option (List ℕ)) → IfSome written (λ w. Stamped s.taken_at t.taken_at (length w) (length z)) → IfSome written (λ w. Put s.taken_at t.taken_at (replicate (length z) (due R (length w) [])))
  all_in_time None h = tt
  all_in_time (Some w) h = subst (λ (k : ℕ). Put s.taken_at t.taken_at (replicate (length z) k)) (due_waiting R event (length w) waits) h

-- a whole arrival was taken, and no more
pub prompt_whole : (s t : WireState) (event : ℕ) (b : List ℕ) → ReceivesPromptly event b s t → WaitsPromptly event s t
prompt_whole s t event b receives R waits =
    let goes : GoesOnPromptly R (λ xs. R (b ∷ xs)) s t = receives R (λ xs. R (b ∷ xs)) waits (λ xs. refl) in
    goes.each t (prompt_nothing (λ xs. R (b ∷ xs)) t t (record { left = refl; taken_at = refl }))

-- ---- a run of turns

pub nowhere_promptly : (R : List (List ℕ) → Played (List ℕ)) (s : WireState) → GoesOnPromptly R R s s
nowhere_promptly R s = record { each = λ u p. p }

pub joined_promptly : (R R' R'' : List (List ℕ) → Played (List ℕ)) (s t u : WireState) → GoesOnPromptly R R' s t → GoesOnPromptly R' R'' t u → GoesOnPromptly R R'' s u
joined_promptly R R' R'' s t u first second = record { each = λ v p. first.each v (second.each v p) }

-- ---- what an answer of `take` says of a run that waits

module _ (s t : WireState) (event room n : ℕ) (buf : List ℕ) (is : room ≡ ARRIVAL) (same : t.written ≡ s.written)
    (told : (k : ℕ) → Stamped s.taken_at t.taken_at n k → IfSome s.written (λ w. Stamped s.taken_at t.taken_at (length w) k)) where
  pub received_in_time : (k : ℕ) (r : Result Taken FrameNo) → r ≡ Ok (taken.Frame k) → Takes s.left t.left s.taken_at t.taken_at n room buf r → ReceivesPromptly event (take k buf) s t
  received_in_time k r e takes =
      let (fits, (took, stamped)) = subst (λ (x : Result Taken FrameNo). Takes s.left t.left s.taken_at t.taken_at n room buf x) e takes in
      receiving_promptly s t event (take k buf) (omega (arith, length-take {A = ℕ}, fits, is)) took same (told _ stamped)

  pub waited_in_time : (r : Result Taken FrameNo) → Takes s.left t.left s.taken_at t.taken_at n room buf r → WaitsPromptly event s t
  waited_in_time (Ok (taken.Frame k)) takes = prompt_whole s t event (take k buf) (received_in_time k (Ok (taken.Frame k)) refl takes)
  waited_in_time (Ok taken.End) (left, taken_at, at) = λ R waits. prompt_nothing R s t (record { left = left; taken_at = taken_at })
  waited_in_time (Err (Truncated have need)) (z, (took, stamped), at, ends) =
      prompt_part s t event z (Short have need) (subst (λ (limit : ℕ). Ends limit z (Short have need)) is ends) took (told _ stamped)
  waited_in_time (Err (TooLarge len)) (above, small, (took, stamped)) =
      prompt_part s t event (length_bytes len) (Long len) ([], sym (append-nil (length_bytes len)), omega (arith, above, is), small) took (told _ stamped)
  waited_in_time (Err Failed) (z, need, (took, stamped), part) =
      let c = cut_of_part ARRIVAL [] z need (All-nil (λ b. length b ≤ ARRIVAL)) (subst (λ (limit : ℕ). IsPart limit z need) is part) in
      prompt_part s t event z c.0 (subst (λ x. Ends ARRIVAL x c.0) (sym c.1.1) c.1.3) took (told _ stamped)

-- ---- a run that sends the same messages, and waits where the other does

module _ (R R' : List (List ℕ) → Played (List ℕ)) (s t : WireState) where
  pub prompt_alike : ((xs : List (List ℕ)) → (R xs).sent ≡ (R' xs).sent) → ((xs : List (List ℕ)) → Awaits (R xs) → Awaits (R' xs)) → IsPrompt R s t → IsPrompt R' s t
  prompt_alike same waits p = record {
    whole = p.whole;
    rest = p.rest;
    tail = p.tail;
    fits = p.fits;
    ends = p.ends;
    took = p.took;
    in_time = all_in_time s.written p.in_time;
    awaited = λ used b later is. waits used (p.awaited used b later is);
    awaits = λ some. waits p.whole (p.awaits some);
  } where
    all_in_time : (written : Option (List ℕ)) → IfSome written (λ w. Put s.taken_at t.taken_at (due_at R (length w) [] p.whole (length p.rest))) → IfSome written (λ w. Put s.taken_at t.taken_at (due_at R' (length w) [] p.whole (length p.rest)))
    all_in_time None h = tt
    all_in_time (Some w) h =
        subst (Put s.taken_at t.taken_at) (due_at-same R R' (length w) (length w) [] [] (λ xs. ap (λ (sent : List (List ℕ)). length w + length (frames sent)) (same xs)) p.whole (length p.rest)) h

  pub prompt_as : ((xs : List (List ℕ)) → R xs ≡ R' xs) → IsPrompt R s t → IsPrompt R' s t
  prompt_as same p = prompt_alike (λ xs. ap (λ (q : Played (List ℕ)). q.sent) (same xs)) (λ xs h. subst Awaits (same xs) h) p

pub prompt_placeless : (R : List (List ℕ) → Played (List ℕ)) (s t : WireState) → IsPrompt R s t → IsPrompt (λ xs. without_place (R xs)) s t
prompt_placeless R s t p = prompt_alike R (λ xs. without_place (R xs)) s t (λ xs. refl) (λ xs h. (h.0, ap no_place h.1)) p
