-- One message more is carried, or isn't.
use Rattle.std.proofs.Common.{◌≡◌, ◌≢◌, ◌<◌, ◌≤◌, ◌+◌, ◌==◌, ℕ, zero, suc, List, [], ◌∷◌, ◌++◌, length, map, filter, drop, replicate, Bool, Option, Some, None, refl, sym, ap, ◌∙◌, subst, arith, inl, inr, length-append}
use Rattle.std.specs.List.{slice_get}
use Rattle.std.proofs.lemmas.Bool.{eq-eqb}
use Rattle.std.proofs.lemmas.List.{append-nil, map-append}
use Rattle.std.proofs.lemmas.List.Elements.{filter-append}
use Rattle.std.proofs.lemmas.Grind.{flat_map-append}
use Rattle.anb_lemmas.proofs.Numbers.{nat_eq-differs}
use Rattle.anb_base.specs.Moves.{Put, PutPrefix, Stamped}
use Rattle.anb_base.specs.declared.TheConstants.{ARRIVAL}
use Rattle.anb_base.proofs.Joined.{Put-joined}
use Rattle.anb_base.specs.declared.content.Sent.{Sent}
use Rattle.anb_frame.specs.Frames.{frame, frames}
use Rattle.anb_frame.specs.Cuts.{Tail, CutLeft}
use Rattle.anb_protocol.specs.Choices.{each_after}
use Rattle.anb_stage.specs.Children.{Child, written_to_all}
use Rattle.anb_stage.specs.Relays.{Message, sends_of, bytes_of, message_of, messages, bytes_to, report, refusal_of, refusal_at, missing, own_stamps, size_of_tail, stamps, stamps_behind, AreHeard, AllInTime, SomeInTime, SomeWritten}
use Rattle.anb_stage.specs.Steps.{Begins, CarryKeeps, Carries, CarriesPart, FailsCarrying, Carried, FailsCarryingSome, next_size, written_behind}
use Rattle.anb_stage.specs.declared.ends.Ends.{Ends}
use Rattle.anb_stage.specs.declared.refusal.RelayNo.{RelayNo}
use Rattle.anb_stage.specs.declared.refusal.RelayNo.TheVariants as no
use Rattle.anb_stage.proofs.Messages.{each_after-at, first_after-at, first_after-none, put_prefix, put_prefix-more}
use Rattle.anb_stage.proofs.Roles.{one_or_other}
use Rattle.anb_stage.proofs.Stamps.{own_here, own_there, stamps_joined, stamps_one, written_joined}
use Rattle.anb_stage.proofs.Totals.{put_below}

-- what stands first behind so many stands at that place
pub drop_first : {X : Type 0} (xs : List X) (n : ℕ) (x : X) (rest : List X) → drop n xs ≡ x ∷ rest → (slice_get xs n ≡ Some x) × (drop (suc n) xs ≡ rest)
drop_first [] zero x rest e = absurd cc
drop_first [] (suc n) x rest e = absurd cc
drop_first (y ∷ ys) zero x rest e = let h : y ≡ x = cc in let t : ys ≡ rest = cc in (ap Some h, t)
drop_first (y ∷ ys) (suc n) x rest e = drop_first ys n x rest e

drop_none : {X : Type 0} (xs : List X) (n : ℕ) → drop n xs ≡ [] → slice_get xs n ≡ None
drop_none [] zero e = refl
drop_none [] (suc n) e = refl
drop_none (y ∷ ys) zero e = absurd cc
drop_none (y ∷ ys) (suc n) e = drop_none ys n e

-- a role's actions, where one comes more
sends_more-own : (role : ℕ) (before : List Ends) (a : Ends) → a.from ≡ role → sends_of role (before ++ a ∷ []) ≡ suc (sends_of role before)
sends_more-own role before a own =
    let test = eq-eqb a.from role own in
    let one : length (filter (λ (x : Ends). x.from == role) (a ∷ [])) ≡ 1 = rw test refl in
    let all = ap length (filter-append (λ (x : Ends). x.from == role) before (a ∷ [])) ∙ length-append (filter (λ (x : Ends). x.from == role) before) (filter (λ (x : Ends). x.from == role) (a ∷ [])) in
    all ∙ omega (arith, one)

sends_more-other : (role : ℕ) (before : List Ends) (a : Ends) → a.from ≢ role → sends_of role (before ++ a ∷ []) ≡ sends_of role before
sends_more-other role before a other =
    let test = nat_eq-differs a.from role other in
    let none : length (filter (λ (x : Ends). x.from == role) (a ∷ [])) ≡ 0 = rw test refl in
    let all = ap length (filter-append (λ (x : Ends). x.from == role) before (a ∷ [])) ∙ length-append (filter (λ (x : Ends). x.from == role) before) (filter (λ (x : Ends). x.from == role) (a ∷ [])) in
    all ∙ omega (arith, none)

-- the frames of the messages to a role
abbrev pub frames_for : ℕ → List Message → List ℕ
frames_for role ms = frames (map (λ (m : Message). m.bytes) (filter (λ (m : Message). m.to == role) ms))

frames_for-append : (role : ℕ) (xs ys : List Message) → frames_for role (xs ++ ys) ≡ frames_for role xs ++ frames_for role ys
frames_for-append role xs ys =
    let test : Message → Bool = λ m. m.to == role in
    let own : Message → List ℕ = λ m. m.bytes in
    ap (λ ms. frames (map own ms)) (filter-append test xs ys)
    ∙ ap frames (map-append own (filter test xs) (filter test ys))
    ∙ flat_map-append frame (map own (filter test xs)) (map own (filter test ys))

module _ (outputs : ℕ → List (List ℕ)) (before : List Ends) (a : Ends) where
  -- the messages behind these
  pub after_of : List Ends → List Message
  after_of after = each_after (message_of outputs) (before ++ a ∷ []) after

  pub frames_at : (role : ℕ) (after : List Ends) → frames (bytes_to outputs role (before ++ a ∷ after))
      ≡ frames (bytes_to outputs role before) ++ (frames_for role (message_of outputs before a) ++ frames_for role (after_of after))
  unfolding after_of
  frames_at role after =
      ap (frames_for role) (each_after-at (message_of outputs) [] before a after)
      ∙ frames_for-append role (messages outputs before) (message_of outputs before a ++ each_after (message_of outputs) (before ++ a ∷ []) after)
      ∙ ap (λ t. frames (bytes_to outputs role before) ++ t) (frames_for-append role (message_of outputs before a) (each_after (message_of outputs) (before ++ a ∷ []) after))

  one_more : messages outputs (before ++ a ∷ []) ≡ messages outputs before ++ message_of outputs before a
  one_more = each_after-at (message_of outputs) [] before a [] ∙ ap (λ t. messages outputs before ++ t) (append-nil (message_of outputs before a))

  frames_more : (role : ℕ) → frames (bytes_to outputs role (before ++ a ∷ [])) ≡ frames (bytes_to outputs role before) ++ frames_for role (message_of outputs before a)
  frames_more role = ap (frames_for role) one_more ∙ frames_for-append role (messages outputs before) (message_of outputs before a)

  module _ (bytes : List ℕ) (there : bytes_of outputs before a ≡ Some bytes) where
    message_is : message_of outputs before a ≡ record { action = length before + 1; to = a.to; bytes = bytes } ∷ []
    message_is = rw there refl

    frames_own : (role : ℕ) → a.to ≡ role → frames_for role (message_of outputs before a) ≡ frame bytes
    frames_own role own = rw (message_is, eq-eqb a.to role own) (append-nil (frame bytes))

    frames_other : (role : ℕ) → a.to ≢ role → frames_for role (message_of outputs before a) ≡ []
    frames_other role other = rw (message_is, nat_eq-differs a.to role other) refl

    pub report_more : report outputs (before ++ a ∷ []) ≡ report outputs before ++ record { action = length before + 1; bytes = bytes } ∷ []
    report_more =
        let sent : Message → Sent = λ m. record { action = m.action; bytes = m.bytes } in
        ap (map sent) one_more ∙ map-append sent (messages outputs before) (message_of outputs before a) ∙ ap (λ t. map sent (messages outputs before) ++ map sent t) message_is

put_told : (old new : Option (List ℕ)) (bytes : List ℕ) → old ≢ None → Put old new bytes → new ≢ None
put_told None new bytes told put = absurd (told refl)
put_told (Some old) new bytes told put = λ none. let never : Some (old ++ bytes) ≡ None = sym put ∙ none in absurd cc

-- the stamps of the next action begin with those of what may be taken of its sender's output
stamps_next : (outputs : ℕ → List (List ℕ)) (tails : ℕ → Tail) (role written : ℕ) (before : List Ends) (e : Ends) (after : List Ends)
    → (rest : List ℕ) × (stamps_behind outputs tails role written before (e ∷ after)
    ≡ own_stamps role e.from (next_size (drop (sends_of e.from before) (outputs e.from)) (tails e.from)) written ++ rest)
stamps_next outputs tails role written before e after = by (drop (sends_of e.from before) (outputs e.from)) refl where
  by : (bs : List (List ℕ)) → drop (sends_of e.from before) (outputs e.from) ≡ bs
      → (rest : List ℕ) × (stamps_behind outputs tails role written before (e ∷ after)
      ≡ own_stamps role e.from (next_size (drop (sends_of e.from before) (outputs e.from)) (tails e.from)) written ++ rest)
  by [] is =
      let none : bytes_of outputs before e ≡ None = drop_none (outputs e.from) (sends_of e.from before) is in
      ([], rw (none, is) (sym (append-nil (own_stamps role e.from (size_of_tail (tails e.from)) written))))
  by (b ∷ bs) is =
      let some : bytes_of outputs before e ≡ Some b = (drop_first (outputs e.from) (sends_of e.from before) b bs is).0 in
      (stamps_behind outputs tails role (written + length (frame b)) (before ++ e ∷ []) after, rw (some, is) refl)

module _ (a b c : ℕ → Child) (roles : ℕ) (few : roles ≤ 32) (outputs : ℕ → List (List ℕ)) (tails : ℕ → Tail)
    (before : List Ends) (e : Ends) (from : e.from < roles) (to : e.to < roles) (p : Carried a b roles outputs tails before)
    (k : CarryKeeps b c e.from e.to) where
  -- each byte of the message was taken when exactly the messages before were written
  module _ (bytes : List ℕ) (there : bytes_of outputs before e ≡ Some bytes)
      (stamped : Stamped (b e.from).taken_at (c e.from).taken_at (written_to_all b) (length (frame bytes))) where
    stamps_more : (role : ℕ) → stamps outputs tails role (written_to_all a) (before ++ e ∷ [])
        ≡ stamps outputs tails role (written_to_all a) before ++ own_stamps role e.from (length (frame bytes)) (written_behind outputs (written_to_all a) [] before)
    stamps_more role =
        stamps_joined outputs tails role (written_to_all a) [] before (e ∷ []) p.none
        ∙ ap (λ t. stamps outputs tails role (written_to_all a) before ++ t) (stamps_one outputs tails role (written_behind outputs (written_to_all a) [] before) before e bytes there)

    in_time_now : AreHeard roles a → AllInTime roles a c outputs (before ++ e ∷ []) tails
    in_time_now heard role below = elim (one_or_other e.from role) [
      | inl own ↦
          let size = length (frame bytes) in
          let at = written_behind outputs (written_to_all a) [] before in
          let put : Put (b role).taken_at (c role).taken_at (replicate size at) =
          subst (λ (r : ℕ). Put (b r).taken_at (c r).taken_at (replicate size at)) own (subst (λ (n : ℕ). Put (b e.from).taken_at (c e.from).taken_at (replicate size n)) (p.total heard) stamped) in
          subst (Put (a role).taken_at (c role).taken_at) (sym (stamps_more role ∙ ap (λ t. stamps outputs tails role (written_to_all a) before ++ t) (own_here role e.from size at own)))
          (Put-joined (a role).taken_at (b role).taken_at (c role).taken_at (stamps outputs tails role (written_to_all a) before) (replicate size at) (p.in_time heard role below) put)
      | inr other ↦
          let size = length (frame bytes) in
          let at = written_behind outputs (written_to_all a) [] before in
          subst (Put (a role).taken_at (c role).taken_at)
          (sym (stamps_more role ∙ ap (λ t. stamps outputs tails role (written_to_all a) before ++ t) (own_there role e.from size at other) ∙ append-nil (stamps outputs tails role (written_to_all a) before)))
          (subst (λ (t : Option (List ℕ)). Put (a role).taken_at t (stamps outputs tails role (written_to_all a) before)) (sym (k.taken role (omega (arith, below, few)) (λ same. other (sym same)))) (p.in_time heard role below))
    ]

    total_now : Put (b e.to).written (c e.to).written (frame bytes) → AreHeard roles a
        → written_to_all c ≡ written_behind outputs (written_to_all a) [] (before ++ e ∷ [])
    total_now put heard =
        let told : (b e.to).written ≢ None = put_told (a e.to).written (b e.to).written (frames (bytes_to outputs e.to before)) (heard e.to to) (p.written e.to to) in
        put_below 32 e.to (λ role. (b role).written) (λ role. (c role).written) (frame bytes) (omega (arith, to, few)) k.written told put
        ∙ ap (λ n. n + length (frame bytes)) (p.total heard)
        ∙ sym (written_joined outputs tails (written_to_all a) [] before e bytes p.none there)

  -- what was taken of a message that isn't handed on was taken then too
  pub some_in_time : (after : List Ends)
      → Begins (b e.from).taken_at (c e.from).taken_at (written_to_all b) (drop (sends_of e.from before) (outputs e.from)) (tails e.from)
      → AreHeard roles a → SomeInTime roles a c outputs (before ++ e ∷ after) tails
  some_in_time after begins heard role below =
      let at = written_behind outputs (written_to_all a) [] before in
      let next = stamps_next outputs tails role at before e after in
      let size = next_size (drop (sends_of e.from before) (outputs e.from)) (tails e.from) in
      let whole : stamps outputs tails role (written_to_all a) (before ++ e ∷ after) ≡ stamps outputs tails role (written_to_all a) before ++ (own_stamps role e.from size at ++ next.0) =
      stamps_joined outputs tails role (written_to_all a) [] before (e ∷ after) p.none ∙ ap (λ t. stamps outputs tails role (written_to_all a) before ++ t) next.1 in
      subst (PutPrefix (a role).taken_at (c role).taken_at) (sym whole) (elim (one_or_other e.from role) [
        | inl own ↦
            let more : PutPrefix (b role).taken_at (c role).taken_at (own_stamps role e.from size at) =
            subst (PutPrefix (b role).taken_at (c role).taken_at) (sym (own_here role e.from size at own))
            (subst (λ (r : ℕ). PutPrefix (b r).taken_at (c r).taken_at (replicate size at)) own (subst (λ (n : ℕ). PutPrefix (b e.from).taken_at (c e.from).taken_at (replicate size n)) (p.total heard) begins)) in
            put_prefix-more (a role).taken_at (b role).taken_at (c role).taken_at (stamps outputs tails role (written_to_all a) before) (own_stamps role e.from size at) next.0 (p.in_time heard role below) more
        | inr other ↦
            let put : Put (a role).taken_at (c role).taken_at (stamps outputs tails role (written_to_all a) before) =
            subst (λ (t : Option (List ℕ)). Put (a role).taken_at t (stamps outputs tails role (written_to_all a) before)) (sym (k.taken role (omega (arith, below, few)) (λ same. other (sym same)))) (p.in_time heard role below) in
            put_prefix (a role).taken_at (c role).taken_at (stamps outputs tails role (written_to_all a) before) (own_stamps role e.from size at ++ next.0) put
      ])

  pub one_carried : (bytes : List ℕ) → Carries b c (drop (sends_of e.from before) (outputs e.from)) (tails e.from) e.from e.to bytes
      → Carried a c roles outputs tails (before ++ e ∷ []) × (report outputs (before ++ e ∷ []) ≡ report outputs before ++ record { action = length before + 1; bytes = bytes } ∷ [])
  one_carried bytes x =
      let first = drop_first (outputs e.from) (sends_of e.from before) bytes x.rest x.is in
      let there : bytes_of outputs before e ≡ Some bytes = first.0 in
      let not_missing : refusal_of outputs tails before e ≡ None = rw there refl in (
        record {
          none = first_after-none (refusal_of outputs tails) [] before e p.none not_missing;
          cuts = λ role below. elim (one_or_other e.from role) [
            | inl own ↦
                let cut : CutLeft ARRIVAL (c e.from).left (drop (suc (sends_of e.from before)) (outputs e.from)) (tails e.from) =
                subst (λ (bs : List (List ℕ)). CutLeft ARRIVAL (c e.from).left bs (tails e.from)) (sym first.1) x.cut in
                subst (λ (n : ℕ). CutLeft ARRIVAL (c role).left (drop n (outputs role)) (tails role)) (sym (sends_more-own role before e own))
                (subst (λ (r : ℕ). CutLeft ARRIVAL (c r).left (drop (suc (sends_of r before)) (outputs r)) (tails r)) own cut)
            | inr other ↦
                subst (λ (n : ℕ). CutLeft ARRIVAL (c role).left (drop n (outputs role)) (tails role)) (sym (sends_more-other role before e other))
                (subst (λ (l : Option (List ℕ)). CutLeft ARRIVAL l (drop (sends_of role before) (outputs role)) (tails role)) (sym (k.left role (omega (arith, below, few)) (λ same. other (sym same)))) (p.cuts role below))
          ];
          written = λ role below. elim (one_or_other e.to role) [
            | inl own ↦
                let put : Put (b role).written (c role).written (frame bytes) = subst (λ (r : ℕ). Put (b r).written (c r).written (frame bytes)) own x.put in
                subst (Put (a role).written (c role).written) (sym (frames_more outputs before e role ∙ ap (λ t. frames (bytes_to outputs role before) ++ t) (frames_own outputs before e bytes there role own)))
                (Put-joined (a role).written (b role).written (c role).written (frames (bytes_to outputs role before)) (frame bytes) (p.written role below) put)
            | inr other ↦
                subst (Put (a role).written (c role).written) (sym (frames_more outputs before e role ∙ ap (λ t. frames (bytes_to outputs role before) ++ t) (frames_other outputs before e bytes there role other) ∙ append-nil (frames (bytes_to outputs role before))))
                (subst (λ (w : Option (List ℕ)). Put (a role).written w (frames (bytes_to outputs role before))) (sym (k.written role (omega (arith, below, few)) (λ same. other (sym same)))) (p.written role below))
          ];
          in_time = in_time_now bytes there x.stamped;
          total = total_now bytes there x.stamped x.put;
        },
        report_more outputs before e bytes there,
      )

  -- where nothing was written to the receiver
  some_same : (after : List Ends) → (c e.to).written ≡ (b e.to).written → SomeWritten roles a c outputs (before ++ e ∷ after)
  some_same after same role below =
      let kept : (c role).written ≡ (b role).written = elim (one_or_other role e.to) [
        | inl own ↦ subst (λ (r : ℕ). (c r).written ≡ (b r).written) (sym own) same
        | inr other ↦ k.written role (omega (arith, below, few)) other
      ] in
      let put : Put (a role).written (c role).written (frames (bytes_to outputs role before)) =
      subst (λ (w : Option (List ℕ)). Put (a role).written w (frames (bytes_to outputs role before))) (sym kept) (p.written role below) in
      subst (PutPrefix (a role).written (c role).written) (sym (frames_at outputs before e role after)) (put_prefix (a role).written (c role).written (frames (bytes_to outputs role before)) _ put)

  -- where a prefix was
  some_part : (after : List Ends) → CarriesPart b c (drop (sends_of e.from before) (outputs e.from)) (tails e.from) e.to → SomeWritten roles a c outputs (before ++ e ∷ after)
  some_part after x role below =
      let first = drop_first (outputs e.from) (sends_of e.from before) x.b x.rest x.is in
      let there : bytes_of outputs before e ≡ Some x.b = first.0 in
      elim (one_or_other e.to role) [
        | inl own ↦
            let more : PutPrefix (b role).written (c role).written (frame x.b) = subst (λ (r : ℕ). PutPrefix (b r).written (c r).written (frame x.b)) own x.put in
            let whole : frames (bytes_to outputs role (before ++ e ∷ after)) ≡ frames (bytes_to outputs role before) ++ (frame x.b ++ frames_for role (after_of outputs before e after)) =
            frames_at outputs before e role after ∙ ap (λ t. frames (bytes_to outputs role before) ++ (t ++ frames_for role (after_of outputs before e after))) (frames_own outputs before e x.b there role own) in
            subst (PutPrefix (a role).written (c role).written) (sym whole)
            (put_prefix-more (a role).written (b role).written (c role).written (frames (bytes_to outputs role before)) (frame x.b) (frames_for role (after_of outputs before e after)) (p.written role below) more)
        | inr other ↦
            let kept : (c role).written ≡ (b role).written = k.written role (omega (arith, below, few)) (λ same. other (sym same)) in
            let put : Put (a role).written (c role).written (frames (bytes_to outputs role before)) =
            subst (λ (w : Option (List ℕ)). Put (a role).written w (frames (bytes_to outputs role before))) (sym kept) (p.written role below) in
            subst (PutPrefix (a role).written (c role).written) (sym (frames_at outputs before e role after)) (put_prefix (a role).written (c role).written (frames (bytes_to outputs role before)) _ put)
      ]

  -- where the message is missing
  is_missing : (after : List Ends) (refusal : RelayNo) → drop (sends_of e.from before) (outputs e.from) ≡ [] → refusal ≡ refusal_at (length before + 1) (tails e.from)
      → missing outputs tails (before ++ e ∷ after) ≡ Some refusal
  is_missing after refusal none is =
      let not_there : bytes_of outputs before e ≡ None = drop_none (outputs e.from) (sends_of e.from before) none in
      let refused : refusal_of outputs tails before e ≡ Some refusal = rw not_there (ap Some (sym is)) in
      first_after-at (refusal_of outputs tails) [] before e after p.none refusal refused

  pub one_uncarried : (after : List Ends) (refusal : RelayNo) → FailsCarrying b c (drop (sends_of e.from before) (outputs e.from)) (tails e.from) (length before + 1) e.to refusal
      → FailsCarryingSome a c roles outputs tails (before ++ e ∷ after) refusal
  one_uncarried after (no.Fault role) f = elim f [ inl same ↦ some_same after same | inr part ↦ some_part after part ]
  one_uncarried after no.NoMemory same = some_same after same
  one_uncarried after (no.Ended action) f = (is_missing after (no.Ended action) f.0 f.1, some_same after f.2)
  one_uncarried after (no.Cut action have need) f = (is_missing after (no.Cut action have need) f.0 f.1, some_same after f.2)
  one_uncarried after (no.Long action len) f = (is_missing after (no.Long action len) f.0 f.1, some_same after f.2)
  one_uncarried after (no.Bad role status) f = (is_missing after (no.Bad role status) f.0 f.1, some_same after f.2)
