-- One step of carrying: a message is taken and put, or isn't.
use Rattle.std.proofs.Common.{◌≡◌, ◌<◌, ◌≤◌, ◌+◌, ℕ, suc, List, [], ◌∷◌, ◌++◌, length, take, drop, get_or, Option, sym, ap, ◌∙◌, subst, arith, inl, inr}
use Rattle.std.proofs.Math.Seq.{drop-cons, take-suc}
use Rattle.std.proofs.lemmas.List.{take-append-drop, length-take-le, append-nil}
use Rattle.anb_lemmas.proofs.Each.{each_at}
use Rattle.anb_base.specs.Moves.{Put, PutPrefix, Stamped}
use Rattle.anb_base.specs.declared.TheConstants.{ARRIVAL}
use Rattle.anb_base.proofs.Moving.{Rose-later}
use Rattle.anb_frame.specs.Frames.{frame, frames}
use Rattle.anb_frame.specs.Cuts.{Tail, CutLeft}
use Rattle.anb_stage.specs.Children.{Child, KeptByRead, KeptByWrite, written_to_all}
use Rattle.anb_stage.specs.Relays.{sends_of, bytes_to, report, AreHeard, SomeInTime, SomeWritten}
use Rattle.anb_stage.specs.Steps.{Begins, OthersStayBelow, CarryKeeps, Carries, CarriesPart, FailsCarrying, IsMissing, Takes, IsCaused, Carried, FailsCarryingSome, CarryingKeeps, AreWithin, AreRunning}
use Rattle.anb_stage.specs.Relays.{Stays}
use Rattle.anb_stage.specs.declared.ends.Ends.{Ends}
use Rattle.anb_stage.specs.declared.refusal.RelayNo.{RelayNo}
use Rattle.anb_stage.specs.declared.refusal.RelayNo.TheVariants as no
use Rattle.anb_stage.proofs.Messages.{put_prefix}
use Rattle.anb_stage.proofs.Carries.{frames_at, one_carried, one_uncarried, some_in_time}
use Rattle.anb_stage.proofs.Roles.{one_or_other, stays_joined}

-- ---- taking alone

-- ---- putting alone

-- ---- a message that was taken and put

module _ (a b c : ℕ → Child) (from to : ℕ) (fromBelow : from < 32) (toBelow : to < 32) (taken : KeptByRead (a from) (b from)) (others : OthersStayBelow from a b)
    (put : KeptByWrite (b to) (c to)) (rest : OthersStayBelow to b c) (bs : List (List ℕ)) (tail : Tail) (bytes : List ℕ) where
  -- the receiver's input is as before the taking
  written_before : (b to).written ≡ (a to).written
  written_before = elim (one_or_other to from) [
    | inl e ↦ subst (λ (x : ℕ). (b x).written ≡ (a x).written) (sym e) taken.written
    | inr d ↦ ap (λ (x : Child). x.written) (others to toBelow d)
  ]

  -- the sender's output is as after it
  left_after : (c from).left ≡ (b from).left
  left_after = elim (one_or_other from to) [
    | inl e ↦ subst (λ (x : ℕ). (c x).left ≡ (b x).left) (sym e) put.left
    | inr d ↦ ap (λ (x : Child). x.left) (rest from fromBelow d)
  ]

  -- and so is what tells when it was taken
  taken_after : (c from).taken_at ≡ (b from).taken_at
  taken_after = elim (one_or_other from to) [
    | inl e ↦ subst (λ (x : ℕ). (c x).taken_at ≡ (b x).taken_at) (sym e) put.taken_at
    | inr d ↦ ap (λ (x : Child). x.taken_at) (rest from fromBelow d)
  ]

  pub begins_after : (written : ℕ) → Begins (a from).taken_at (b from).taken_at written bs tail → Begins (a from).taken_at (c from).taken_at written bs tail
  begins_after written begins = subst (λ (t : Option (List ℕ)). Begins (a from).taken_at t written bs tail) (sym taken_after) begins

  pub taken_and_put : Stamped (a from).taken_at (b from).taken_at (written_to_all a) (length (frame bytes)) → Takes (b from).left bs tail bytes → Put (b to).written (c to).written (frame bytes) → Carries a c bs tail from to bytes
  taken_and_put stamped t p = record {
    rest = t.0;
    is = t.1;
    cut = subst (λ (l : Option (List ℕ)). CutLeft ARRIVAL l t.0 tail) (sym left_after) t.2;
    stamped = subst (λ (o : Option (List ℕ)). Stamped (a from).taken_at o (written_to_all a) (length (frame bytes))) (sym taken_after) stamped;
    put = subst (λ (w : Option (List ℕ)). Put w (c to).written (frame bytes)) written_before p;
  }

  pub taken_and_part : Takes (b from).left bs tail bytes → PutPrefix (b to).written (c to).written (frame bytes) → CarriesPart a c bs tail to
  taken_and_part t p = record {
    b = bytes;
    rest = t.0;
    is = t.1;
    put = subst (λ (w : Option (List ℕ)). PutPrefix w (c to).written (frame bytes)) written_before p;
  }

-- nothing was taken
by_refusal : (a b : ℕ → Child) (to action : ℕ) (bs : List (List ℕ)) (tail : Tail) → (b to).written ≡ (a to).written
    → (r : RelayNo) → IsMissing bs tail action r → FailsCarrying a b bs tail action to r
by_refusal a b to action bs tail same (no.Fault role) m = inl same
by_refusal a b to action bs tail same no.NoMemory m = same
by_refusal a b to action bs tail same (no.Ended n) m = (m.0, m.1, same)
by_refusal a b to action bs tail same (no.Cut n have need) m = (m.0, m.1, same)
by_refusal a b to action bs tail same (no.Long n len) m = (m.0, m.1, same)
by_refusal a b to action bs tail same (no.Bad role status) m = (m.0, m.1, same)

pub not_taken : (a b : ℕ → Child) (from to action : ℕ) → to < 32 → KeptByRead (a from) (b from) → OthersStayBelow from a b
    → (bs : List (List ℕ)) (tail : Tail) (refusal : RelayNo) → IsMissing bs tail action refusal → FailsCarrying a b bs tail action to refusal
not_taken a b from to action below taken others bs tail refusal missing =
    let same : (b to).written ≡ (a to).written = elim (one_or_other to from) [
      | inl e ↦ subst (λ (x : ℕ). (b x).written ≡ (a x).written) (sym e) taken.written
      | inr d ↦ ap (λ (x : Child). x.written) (others to below d)
    ] in
    by_refusal a b to action bs tail same refusal missing

-- ---- all actions

-- a list at a place
pub split_at : {X : Type 0} (xs : List X) (i : ℕ) (x : X) → i < length xs → x ≡ get_or xs i x → xs ≡ take i xs ++ x ∷ drop (suc i) xs
split_at xs i x below is = sym (take-append-drop i xs) ∙ ap (λ t. take i xs ++ t) (drop-cons xs i x below ∙ ap (λ y. y ∷ drop (suc i) xs) (sym is))

pub running_within : (children : ℕ → Child) (actions : List Ends) → AreRunning children actions → AreWithin 32 actions
running_within children [] r = tt
running_within children (a ∷ actions) r = ((r.0.0, r.0.1), running_within children actions r.1)

pub keeps_more : (a b c : ℕ → Child) (roles : ℕ) (e : Ends) → roles ≤ 32 → e.from < roles → e.to < roles → CarryingKeeps a b roles → CarryKeeps b c e.from e.to → CarryingKeeps a c roles
keeps_more a b c roles e few from to p k = record {
  asked = λ role below. k.asked role below ∙ p.asked role below;
  phases = λ role below. k.phases role below ∙ p.phases role below;
  stays = stays_joined a b c roles p.stays (record {
    faults = k.faults;
    statuses = k.statuses;
    others = λ role above below. k.others role below (λ s. omega (arith, s, above, from)) (λ s. omega (arith, s, above, to));
  });
}

-- a cause in a later call
pub caused_later : (a b c : ℕ → Child) (roles : ℕ) → roles ≤ 32 → Stays a b roles → (r : RelayNo) → IsCaused b c roles r → IsCaused a c roles r
caused_later a b c roles few s (no.Fault role) caused =
    (caused.0, Rose-later (a role).faults (b role).faults (c role).faults (s.faults role (omega (arith, caused.0, few))) caused.1)
caused_later a b c roles few s no.NoMemory caused = tt
caused_later a b c roles few s (no.Ended n) caused = tt
caused_later a b c roles few s (no.Cut n have need) caused = tt
caused_later a b c roles few s (no.Long n len) caused = tt
caused_later a b c roles few s (no.Bad role status) caused = absurd caused

-- what was carried is a part of more
pub some_of_carried : (a c : ℕ → Child) (roles : ℕ) (outputs : ℕ → List (List ℕ)) (tails : ℕ → Tail) (before after : List Ends)
    → Carried a c roles outputs tails before → SomeWritten roles a c outputs (before ++ after)
some_of_carried a c roles outputs tails before [] p role below =
    subst (λ xs. PutPrefix (a role).written (c role).written (frames (bytes_to outputs role xs))) (sym (append-nil before))
    (subst (PutPrefix (a role).written (c role).written) (append-nil (frames (bytes_to outputs role before))) (put_prefix (a role).written (c role).written (frames (bytes_to outputs role before)) [] (p.written role below)))
some_of_carried a c roles outputs tails before (e ∷ after) p role below =
    subst (PutPrefix (a role).written (c role).written) (sym (frames_at outputs before e role after)) (put_prefix (a role).written (c role).written (frames (bytes_to outputs role before)) _ (p.written role below))

-- ---- the action at a place

module _ (a b c : ℕ → Child) (actions : List Ends) (i : ℕ) (d : Ends) (below : i < length actions) where
  -- both children of it run
  pub runs_at : AreRunning a actions → ((roles : ℕ) → roles ≤ 32 → AreWithin roles actions → CarryingKeeps a b roles)
      → ((b (get_or actions i d).from).phase ≡ 1) × ((b (get_or actions i d).to).phase ≡ 1)
  runs_at running keeps =
      let r = each_at (λ (e : Ends). (e.from < 32) × (e.to < 32) × ((a e.from).phase ≡ 1) × ((a e.to).phase ≡ 1)) actions i d running below in
      let k = keeps 32 (omega arith) (running_within a actions running) in
      (k.phases (get_or actions i d).from r.0 ∙ r.2, k.phases (get_or actions i d).to r.1 ∙ r.3)

  pub ends_at : (roles : ℕ) → AreWithin roles actions → ((get_or actions i d).from < roles) × ((get_or actions i d).to < roles)
  ends_at roles within = each_at (λ (e : Ends). (e.from < roles) × (e.to < roles)) actions i d within below

  pub keeps_at : ((roles : ℕ) → roles ≤ 32 → AreWithin roles actions → CarryingKeeps a b roles)
      → CarryKeeps b c (get_or actions i d).from (get_or actions i d).to
      → (roles : ℕ) → roles ≤ 32 → AreWithin roles actions → CarryingKeeps a c roles
  keeps_at keeps k roles few within =
      let e = ends_at roles within in keeps_more a b c roles (get_or actions i d) few e.0 e.1 (keeps roles few within) k

  module _ (roles : ℕ) (few : roles ≤ 32) (within : AreWithin roles actions) (outputs : ℕ → List (List ℕ)) (tails : ℕ → Tail)
      (p : Carried a b roles outputs tails (take i actions)) (k : CarryKeeps b c (get_or actions i d).from (get_or actions i d).to) where
    many : length (take i actions) ≡ i
    many = length-take-le i actions (omega (arith, below))

    here : actions ≡ take i actions ++ get_or actions i d ∷ drop (suc i) actions
    here = sym (take-append-drop i actions) ∙ ap (λ t. take i actions ++ t) (drop-cons actions i d below)

    one_more_taken : take (i + 1) actions ≡ take i actions ++ get_or actions i d ∷ []
    one_more_taken = let n : i + 1 ≡ suc i = omega arith in rw n (take-suc actions i d below)

    cut_at : CutLeft ARRIVAL (b (get_or actions i d).from).left (drop (sends_of (get_or actions i d).from (take i actions)) (outputs (get_or actions i d).from)) (tails (get_or actions i d).from)
    cut_at = p.cuts (get_or actions i d).from (ends_at roles within).0

    pub carrying_fails : (r : RelayNo)
        → ((bs : List (List ℕ)) (tail : Tail) → CutLeft ARRIVAL (b (get_or actions i d).from).left bs tail → FailsCarrying b c bs tail (i + 1) (get_or actions i d).to r)
        → FailsCarryingSome a c roles outputs tails actions r
    carrying_fails r failed =
        let e = ends_at roles within in
        let f = failed _ _ cut_at in
        let g = subst (λ (n : ℕ). FailsCarrying b c (drop (sends_of (get_or actions i d).from (take i actions)) (outputs (get_or actions i d).from)) (tails (get_or actions i d).from) (n + 1) (get_or actions i d).to r) (sym many) f in
        subst (λ xs. FailsCarryingSome a c roles outputs tails xs r) (sym here)
        (one_uncarried a b c roles few outputs tails (take i actions) (get_or actions i d) e.0 e.1 p k (drop (suc i) actions) r g)

    pub carrying_begins : ((bs : List (List ℕ)) (tail : Tail) → CutLeft ARRIVAL (b (get_or actions i d).from).left bs tail
        → Begins (b (get_or actions i d).from).taken_at (c (get_or actions i d).from).taken_at (written_to_all b) bs tail)
        → AreHeard roles a → SomeInTime roles a c outputs actions tails
    carrying_begins begins heard =
        let e = ends_at roles within in
        subst (λ xs. SomeInTime roles a c outputs xs tails) (sym here)
        (some_in_time a b c roles few outputs tails (take i actions) (get_or actions i d) e.0 e.1 p k (drop (suc i) actions) (begins _ _ cut_at) heard)

    pub carrying_goes_on : (bytes : List ℕ)
        → ((bs : List (List ℕ)) (tail : Tail) → CutLeft ARRIVAL (b (get_or actions i d).from).left bs tail → Carries b c bs tail (get_or actions i d).from (get_or actions i d).to bytes)
        → Carried a c roles outputs tails (take (i + 1) actions)
        × (report outputs (take (i + 1) actions) ≡ report outputs (take i actions) ++ record { action = i + 1; bytes = bytes } ∷ [])
    carrying_goes_on bytes carries =
        let e = ends_at roles within in
        let o = one_carried a b c roles few outputs tails (take i actions) (get_or actions i d) e.0 e.1 p k bytes (carries _ _ cut_at) in
        let reported = subst (λ (n : ℕ). report outputs (take i actions ++ get_or actions i d ∷ []) ≡ report outputs (take i actions) ++ record { action = n + 1; bytes = bytes } ∷ []) many o.1 in
        rw one_more_taken (o.0, reported)

    pub carrying_ends : (bytes : List ℕ)
        → ((bs : List (List ℕ)) (tail : Tail) → CutLeft ARRIVAL (b (get_or actions i d).from).left bs tail → Carries b c bs tail (get_or actions i d).from (get_or actions i d).to bytes)
        → SomeWritten roles a c outputs actions
    carrying_ends bytes carries =
        let o = carrying_goes_on bytes carries in
        subst (SomeWritten roles a c outputs) (take-append-drop (i + 1) actions)
        (some_of_carried a c roles outputs tails (take (i + 1) actions) (drop (i + 1) actions) o.0)

-- the children of all actions run, where all of the roles do
pub running_from : (children : ℕ → Child) (roles : ℕ) (actions : List Ends) → roles ≤ 32 → AreWithin roles actions → ((role : ℕ) → role < roles → (children role).phase ≡ 1) → AreRunning children actions
running_from children roles [] few within running = tt
running_from children roles (a ∷ actions) few within running =
    ((omega (arith, within.0.0, few), omega (arith, within.0.1, few), running a.from within.0.0, running a.to within.0.1), running_from children roles actions few within.1 running)
