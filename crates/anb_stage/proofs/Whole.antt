-- A relay's parts are one.
use Rattle.std.proofs.Common.{◌≡◌, ◌<◌, ◌≤◌, ℕ, List, [], length, Option, None, IfSome, refl, sym, ◌∙◌, subst, arith, inl, inr}
use Rattle.std.proofs.lemmas.List.{append-nil}
use Rattle.std.proofs.lemmas.Option.{slice_get_within}
use Rattle.anb_base.specs.Moves.{Put, PutPrefix}
use Rattle.anb_base.specs.declared.TheConstants.{ARRIVAL}
use Rattle.anb_base.proofs.Moving.{Rose-later, put_nothing}
use Rattle.anb_frame.specs.Frames.{frames}
use Rattle.anb_frame.specs.Cuts.{Tail, CutLeft}
use Rattle.anb_stage.specs.Children.{Child, lines, written_to_all}
use Rattle.anb_stage.specs.Relays.{bytes_to, missing, stamps, AllInTime, AreHeard, SomeInTime, AreCut, AreGood, AllWritten, SomeWritten, AllAsked, SomeAsked, HavePhases, IsFault, IsReported, Stays, IsRelayed, IsRefused}
use Rattle.anb_stage.specs.Steps.{SameFaults, SameTaken, SameWritten, Started, FailsStarting, Carried, FailsCarryingSome, CarryingKeeps, IsCaused, Finished, FailsFinishing}
use Rattle.anb_stage.specs.declared.ends.Ends.{Ends}
use Rattle.anb_stage.specs.declared.refusal.RelayNo.{RelayNo}
use Rattle.anb_stage.specs.declared.refusal.RelayNo.TheVariants as no
use Rattle.anb_stage.proofs.Messages.{put_prefix}
use Rattle.anb_stage.proofs.Roles.{quiet_joined, reported_later, stays_same, stays_joined}
use Rattle.anb_stage.proofs.Totals.{same_below}

prefix_none : (old new : Option (List ℕ)) (bytes : List ℕ) → new ≡ old → PutPrefix old new bytes
prefix_none old new bytes same = (0, omega arith, subst (λ n. Put old n []) (sym same) (put_nothing old))

prefix_all : (old new : Option (List ℕ)) (bytes : List ℕ) → Put old new bytes → PutPrefix old new bytes
prefix_all old new bytes put = subst (PutPrefix old new) (append-nil bytes) (put_prefix old new bytes [] put)

module _ (roles : ℕ) (few : roles ≤ 32) (words : List (List (List ℕ))) (many : length words ≡ roles) (actions : List Ends) where
  -- ---- before and within starting

  pub refused_before : (a : ℕ → Child) → ((role : ℕ) → role < roles → (a role).phase ≡ 0) → IsRefused roles a a words actions no.NoMemory
  refused_before a new = record {
    writes = λ outputs tails cut role below. prefix_none (a role).written (a role).written _ refl;
    in_time = λ outputs tails cut heard role below. prefix_none (a role).taken_at (a role).taken_at _ refl;
    asks = λ role own at. inr refl;
    phases = λ role below. let p = new role below in (omega (arith, p), omega (arith, p));
    bad = tt;
    cause = tt;
    reported = λ role below more. absurd (omega (arith, more));
    stays = stays_same a roles;
  }

  pub refused_starting : (a b : ℕ → Child) (r : RelayNo) → FailsStarting a b roles words r → IsRefused roles a b words actions r
  refused_starting a b (no.Fault role) s = record {
    writes = λ outputs tails cut. inl ((λ other below. prefix_none (a other).written (b other).written _ (s.written other (omega (arith, below, few)))), s.phases);
    in_time = λ outputs tails cut heard other below. prefix_none (a other).taken_at (b other).taken_at _ (s.taken other (omega (arith, below, few)));
    asks = s.asked;
    phases = tt;
    bad = tt;
    cause = (s.within, s.rose);
    reported = s.reported;
    stays = s.stays;
  }
  refused_starting a b no.NoMemory s = absurd s
  refused_starting a b (no.Ended n) s = absurd s
  refused_starting a b (no.Cut n have need) s = absurd s
  refused_starting a b (no.Long n len) s = absurd s
  refused_starting a b (no.Bad role status) s = absurd s

  -- ---- after starting

  module _ (a b : ℕ → Child) (s : Started a b roles words) where
    pub cut_after : (outputs : ℕ → List (List ℕ)) (tails : ℕ → Tail) → AreCut roles a outputs tails → AreCut roles b outputs tails
    cut_after outputs tails cut role below =
        subst (λ (l : Option (List ℕ)). CutLeft ARRIVAL l (outputs role) (tails role)) (sym (s.left role (omega (arith, below, few)))) (cut role below)

    heard_after : AreHeard roles a → AreHeard roles b
    heard_after heard role below none = heard role below (sym (s.written role (omega (arith, below, few))) ∙ none)

    total_after : written_to_all b ≡ written_to_all a
    total_after = same_below 32 (λ role. (a role).written) (λ role. (b role).written) s.written

    module _ (c : ℕ → Child) (k : CarryingKeeps b c roles) where
      asked_after : AllAsked roles a c words
      asked_after role own at =
          let below : role < roles = omega (arith, slice_get_within words role own at, many) in
          subst (λ (x : Option (List ℕ)). Put (a role).asked x (lines own)) (sym (k.asked role (omega (arith, below, few)))) (s.asked role own below at)

      some_asked : SomeAsked roles a c words
      some_asked role own at = inl (asked_after role own at)

      pub running_after : (role : ℕ) → role < roles → (c role).phase ≡ 1
      running_after role below = k.phases role (omega (arith, below, few)) ∙ s.phases role below

      phases_after : (least : ℕ) → least ≤ 1 → HavePhases roles a c least 1
      phases_after least small role below = let p = running_after role below in (omega (arith, p, small), omega (arith, p))

      stays_after : Stays a c roles
      stays_after = stays_joined a b c roles s.stays k.stays

      some_after : (outputs : ℕ → List (List ℕ)) → SomeWritten roles b c outputs actions → SomeWritten roles a c outputs actions
      some_after outputs some role below =
          subst (λ (w : Option (List ℕ)). PutPrefix w (c role).written (frames (bytes_to outputs role actions))) (s.written role (omega (arith, below, few))) (some role below)

      in_time_after : (outputs : ℕ → List (List ℕ)) (tails : ℕ → Tail) → SomeInTime roles b c outputs actions tails → SomeInTime roles a c outputs actions tails
      in_time_after outputs tails some role below =
          subst (λ (t : Option (List ℕ)). PutPrefix t (c role).taken_at (stamps outputs tails role (written_to_all a) actions)) (s.taken role (omega (arith, below, few)))
          (subst (λ (n : ℕ). PutPrefix (b role).taken_at (c role).taken_at (stamps outputs tails role n actions)) total_after (some role below))

      cause_after : (role : ℕ) → IsCaused b c roles (no.Fault role) → IsFault roles a c (no.Fault role)
      cause_after role caused = (caused.0, Rose-later (a role).faults (b role).faults (c role).faults (s.stays.faults role (omega (arith, caused.0, few))) caused.1)

      pub refused_carrying : (r : RelayNo) → ((outputs : ℕ → List (List ℕ)) (tails : ℕ → Tail) → AreCut roles b outputs tails → FailsCarryingSome b c roles outputs tails actions r)
          → ((outputs : ℕ → List (List ℕ)) (tails : ℕ → Tail) → AreCut roles b outputs tails → AreHeard roles b → SomeInTime roles b c outputs actions tails)
          → IsCaused b c roles r → IsReported b c r → IsRefused roles a c words actions r
      refused_carrying (no.Fault role) f t caused reported = record {
        reported = reported_later a b c _ s.quiet reported;
        in_time = λ outputs tails cut heard. in_time_after outputs tails (t outputs tails (cut_after outputs tails cut) (heard_after heard));
        writes = λ outputs tails cut. inl (some_after outputs (f outputs tails (cut_after outputs tails cut)), phases_after 0 (omega arith));
        asks = some_asked;
        phases = tt;
        bad = tt;
        cause = cause_after role caused;
        stays = stays_after;
      }
      refused_carrying no.NoMemory f t caused reported = record {
        reported = reported_later a b c _ s.quiet reported;
        in_time = λ outputs tails cut heard. in_time_after outputs tails (t outputs tails (cut_after outputs tails cut) (heard_after heard));
        writes = λ outputs tails cut. some_after outputs (f outputs tails (cut_after outputs tails cut));
        asks = some_asked;
        phases = phases_after 0 (omega arith);
        bad = tt;
        cause = tt;
        stays = stays_after;
      }
      refused_carrying (no.Ended n) f t caused reported = record {
        reported = reported_later a b c _ s.quiet reported;
        in_time = λ outputs tails cut heard. in_time_after outputs tails (t outputs tails (cut_after outputs tails cut) (heard_after heard));
        writes = λ outputs tails cut. let x = f outputs tails (cut_after outputs tails cut) in (x.0, some_after outputs x.1);
        asks = asked_after;
        phases = phases_after 1 (omega arith);
        bad = tt;
        cause = tt;
        stays = stays_after;
      }
      refused_carrying (no.Cut n have need) f t caused reported = record {
        reported = reported_later a b c _ s.quiet reported;
        in_time = λ outputs tails cut heard. in_time_after outputs tails (t outputs tails (cut_after outputs tails cut) (heard_after heard));
        writes = λ outputs tails cut. let x = f outputs tails (cut_after outputs tails cut) in (x.0, some_after outputs x.1);
        asks = asked_after;
        phases = phases_after 1 (omega arith);
        bad = tt;
        cause = tt;
        stays = stays_after;
      }
      refused_carrying (no.Long n len) f t caused reported = record {
        reported = reported_later a b c _ s.quiet reported;
        in_time = λ outputs tails cut heard. in_time_after outputs tails (t outputs tails (cut_after outputs tails cut) (heard_after heard));
        writes = λ outputs tails cut. let x = f outputs tails (cut_after outputs tails cut) in (x.0, some_after outputs x.1);
        asks = asked_after;
        phases = phases_after 1 (omega arith);
        bad = tt;
        cause = tt;
        stays = stays_after;
      }
      refused_carrying (no.Bad role status) f t caused reported = absurd caused

      -- ---- after carrying

      module _ (carried : (outputs : ℕ → List (List ℕ)) (tails : ℕ → Tail) → AreCut roles b outputs tails → Carried b c roles outputs tails actions) (quiet : SameFaults b c) (d : ℕ → Child) where
        all_after : SameWritten c d → (outputs : ℕ → List (List ℕ)) (tails : ℕ → Tail) → AreCut roles a outputs tails
            → (missing outputs tails actions ≡ None) × AllWritten roles a d outputs actions
        all_after same outputs tails cut =
            let x = carried outputs tails (cut_after outputs tails cut) in (
              x.none,
              λ role below.
                  subst (λ (w : Option (List ℕ)). Put w (d role).written (frames (bytes_to outputs role actions))) (s.written role (omega (arith, below, few)))
                  (subst (λ (w : Option (List ℕ)). Put (b role).written w (frames (bytes_to outputs role actions))) (sym (same role (omega (arith, below, few)))) (x.written role below)),
            )

        in_time_at_end : SameTaken c d → (outputs : ℕ → List (List ℕ)) (tails : ℕ → Tail) → AreCut roles a outputs tails → AreHeard roles a
            → AllInTime roles a d outputs actions tails
        in_time_at_end same outputs tails cut heard role below =
            let x = carried outputs tails (cut_after outputs tails cut) in
            subst (λ (t : Option (List ℕ)). Put t (d role).taken_at (stamps outputs tails role (written_to_all a) actions)) (s.taken role (omega (arith, below, few)))
            (subst (λ (t : Option (List ℕ)). Put (b role).taken_at t (stamps outputs tails role (written_to_all a) actions)) (sym (same role (omega (arith, below, few))))
            (subst (λ (n : ℕ). Put (b role).taken_at (c role).taken_at (stamps outputs tails role n actions)) total_after (x.in_time (heard_after heard) role below)))

        some_at_end : SameTaken c d → (outputs : ℕ → List (List ℕ)) (tails : ℕ → Tail) → AreCut roles a outputs tails → AreHeard roles a
            → SomeInTime roles a d outputs actions tails
        some_at_end same outputs tails cut heard role below =
            prefix_all (a role).taken_at (d role).taken_at (stamps outputs tails role (written_to_all a) actions) (in_time_at_end same outputs tails cut heard role below)

        asked_at_end : ((role : ℕ) → role < 32 → (d role).asked ≡ (c role).asked) → AllAsked roles a d words
        asked_at_end same role own at =
            let below : role < roles = omega (arith, slice_get_within words role own at, many) in
            subst (λ (x : Option (List ℕ)). Put (a role).asked x (lines own)) (sym (same role (omega (arith, below, few)))) (asked_after role own at)

        status_same : (role : ℕ) → role < roles → (c role).status ≡ (a role).status
        status_same role below = stays_after.statuses role (omega (arith, below, few))

        good_before : (count : ℕ) → count ≤ roles → AreGood c count → AreGood a count
        good_before count within good role below =
            subst (λ (o : Option ℕ). IfSome o (λ t. t ≡ 0)) (status_same role (omega (arith, below, within))) (good role below)

        pub succeeded : Finished c d roles roles → IsRelayed roles a d words actions
        succeeded f = record {
          relayed = all_after f.written;
          in_time = in_time_at_end f.taken;
          asked = asked_at_end f.asked;
          phases = λ role below. let p = f.done role below in (omega (arith, p), omega (arith, p));
          good = good_before roles (omega arith) f.good;
          quiet = quiet_joined a c d (quiet_joined a b c s.quiet quiet) f.quiet;
          stays = stays_joined a c d roles stays_after f.stays;
        }

        pub refused_finishing : (r : RelayNo) → FailsFinishing c d roles r → IsRefused roles a d words actions r
        refused_finishing (no.Fault role) f = record {
          writes = λ outputs tails cut. inr (all_after f.2.written outputs tails cut);
          in_time = some_at_end f.2.taken;
          reported = reported_later a c d _ (quiet_joined a b c s.quiet quiet) f.2.reported;
          asks = λ other own at. inl (asked_at_end f.2.asked other own at);
          phases = tt;
          bad = tt;
          cause = (f.0, Rose-later (a role).faults (c role).faults (d role).faults (stays_after.faults role (omega (arith, f.0, few))) f.1);
          stays = stays_joined a c d roles stays_after f.2.stays;
        }
        refused_finishing (no.Bad role status) f = record {
          writes = all_after f.2.written;
          in_time = some_at_end f.2.taken;
          reported = reported_later a c d _ (quiet_joined a b c s.quiet quiet) f.2.reported;
          asks = asked_at_end f.2.asked;
          phases = f.1;
          bad = (
            f.0.0,
            f.0.1,
            subst (λ (o : Option ℕ). IfSome o (λ t. t ≡ status)) (status_same role f.0.0) f.0.2,
            good_before role (omega (arith, f.0.0)) f.0.3,
          );
          cause = tt;
          stays = stays_joined a c d roles stays_after f.2.stays;
        }
        refused_finishing no.NoMemory f = absurd f
        refused_finishing (no.Ended n) f = absurd f
        refused_finishing (no.Cut n have need) f = absurd f
        refused_finishing (no.Long n len) f = absurd f
