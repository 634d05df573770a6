-- One child more is finished, or isn't.
use Rattle.std.proofs.Common.{◌≡◌, ◌≢◌, ◌<◌, ◌≤◌, ◌+◌, ℕ, Option, Some, None, IfSome, refl, sym, ap, ◌∙◌, subst, arith, inl, inr}
use Rattle.std.proofs.lemmas.Bool.{cases_lt, le-leb, lt-leb}
use Rattle.anb_base.specs.Moves.{Rose}
use Rattle.anb_base.proofs.Moving.{Rose-later}
use Rattle.anb_stage.specs.Children.{Child, KeptByFinish, OthersStay}
use Rattle.anb_stage.specs.Steps.{Finished, FailsFinishing}
use Rattle.anb_stage.specs.Relays.{Stays}
use Rattle.anb_stage.specs.declared.refusal.RelayNo.TheVariants as no
use Rattle.anb_stage.proofs.Roles.{one_or_other, lower, stays_same, stays_by_call}

pub none_finished : (a : ℕ → Child) (roles : ℕ) → ((role : ℕ) → role < roles → (a role).phase ≡ 1) → Finished a a 0 roles
none_finished a roles running = record {
  taken = λ role below. refl;
  quiet = λ role below. refl;
  done = λ role below. absurd (omega (arith, below));
  running = λ role above below. running role below;
  good = λ role below. absurd (omega (arith, below));
  asked = λ role below. refl;
  written = λ role below. refl;
  stays = stays_same a roles;
}

-- the status of one is another number, where both are told
status_of : (o p : Option ℕ) (n : ℕ) → o ≡ p → IfSome p (λ told. n ≡ told) → IfSome o (λ told. told ≡ n)
status_of None p n e i = tt
status_of (Some s) None n e i = cc
status_of (Some s) (Some t) n e i = let f : s ≡ t = cc in f ∙ sym i

module _ (a b c : ℕ → Child) (i roles : ℕ) (s : Finished a b i roles) (within : i < roles) (few : roles ≤ 32)
    (kept : KeptByFinish (b i) (c i)) (never_falls : (b i).faults ≤ (c i).faults) (others : OthersStay i b c) where
  asked_now : (role : ℕ) → role < 32 → (c role).asked ≡ (a role).asked
  asked_now role below = elim (one_or_other role i) [
    | inl e ↦ subst (λ (x : ℕ). (c x).asked ≡ (a x).asked) (sym e) (kept.asked ∙ s.asked i (omega (arith, within, few)))
    | inr d ↦ ap (λ (x : Child). x.asked) (others role d) ∙ s.asked role below
  ]

  taken_now : (role : ℕ) → role < 32 → (c role).taken_at ≡ (a role).taken_at
  taken_now role below = elim (one_or_other role i) [
    | inl e ↦ subst (λ (x : ℕ). (c x).taken_at ≡ (a x).taken_at) (sym e) (kept.taken_at ∙ s.taken i (omega (arith, within, few)))
    | inr d ↦ ap (λ (x : Child). x.taken_at) (others role d) ∙ s.taken role below
  ]

  written_now : (role : ℕ) → role < 32 → (c role).written ≡ (a role).written
  written_now role below = elim (one_or_other role i) [
    | inl e ↦ subst (λ (x : ℕ). (c x).written ≡ (a x).written) (sym e) (kept.written ∙ s.written i (omega (arith, within, few)))
    | inr d ↦ ap (λ (x : Child). x.written) (others role d) ∙ s.written role below
  ]

  stays_now : Stays a c roles
  stays_now = stays_by_call a b c roles roles i s.stays (omega arith) within never_falls kept.status (λ other small d. others other d)

  done_now : (c i).phase ≡ 2 → (role : ℕ) → role < i + 1 → (c role).phase ≡ 2
  done_now done role below = elim (one_or_other role i) [
    | inl e ↦ subst (λ (x : ℕ). (c x).phase ≡ 2) (sym e) done
    | inr d ↦ ap (λ (x : Child). x.phase) (others role d) ∙ s.done role (lower role i below d)
  ]

  running_now : (role : ℕ) → i + 1 ≤ role → role < roles → (c role).phase ≡ 1
  running_now role above below =
      ap (λ (x : Child). x.phase) (others role (λ e. omega (arith, above, e))) ∙ s.running role (omega (arith, above)) below

  told : (n : ℕ) → IfSome (b i).status (λ t. n ≡ t) → IfSome (a i).status (λ t. t ≡ n)
  told n is = status_of (a i).status (b i).status n (sym (s.stays.statuses i (omega (arith, within, few)))) is

  quiet_now : (c i).faults ≡ (b i).faults → (role : ℕ) → role < 32 → (c role).faults ≡ (a role).faults
  quiet_now quiet role below = elim (one_or_other role i) [
    | inl e ↦ subst (λ (x : ℕ). (c x).faults ≡ (a x).faults) (sym e) (quiet ∙ s.quiet i (omega (arith, within, few)))
    | inr d ↦ ap (λ (x : Child). x.faults) (others role d) ∙ s.quiet role below
  ]

  pub one_finished : (c i).faults ≡ (b i).faults → IfSome (b i).status (λ t. 0 ≡ t) → (c i).phase ≡ 2 → Finished a c (i + 1) roles
  one_finished quiet is done = record {
    taken = taken_now;
    quiet = quiet_now quiet;
    done = done_now done;
    running = running_now;
    good = λ role below. elim (one_or_other role i) [
      | inl e ↦ subst (λ (x : ℕ). IfSome (a x).status (λ t. t ≡ 0)) (sym e) (told 0 is)
      | inr d ↦ s.good role (lower role i below d)
    ];
    asked = asked_now;
    written = written_now;
    stays = stays_now;
  }

  pub one_unfinished : Rose (b i).faults (c i).faults → FailsFinishing a c roles (no.Fault i)
  one_unfinished rose = (
    within,
    Rose-later (a i).faults (b i).faults (c i).faults (s.stays.faults i (omega (arith, within, few))) rose,
    record {
      reported = λ role below more. elim (one_or_other role i) [
        | inl e ↦ ap no.Fault (sym e)
        | inr d ↦ let same : (c role).faults ≡ (a role).faults = ap (λ (x : Child). x.faults) (others role d) ∙ s.quiet role below in absurd (omega (arith, same, more))
      ];
      taken = taken_now;
      asked = asked_now;
      written = written_now;
      stays = stays_now;
    },
  )

  pub one_bad : (c i).faults ≡ (b i).faults → (n : ℕ) → n ≢ 0 → IfSome (b i).status (λ t. n ≡ t) → (c i).phase ≡ 2 → FailsFinishing a c roles (no.Bad i n)
  one_bad quiet n bad is done = (
    (within, bad, told n is, s.good),
    (λ role below. elim (cases_lt i role) [
      | inl above ↦ rw (lt-leb role i above) (running_now role (omega (arith, above)) below)
      | inr least ↦ rw (le-leb role i (omega (arith, least))) (done_now done role (omega (arith, least)))
    ]),
    record {
      reported = λ role below more. let same = quiet_now quiet role below in absurd (omega (arith, same, more));
      taken = taken_now;
      asked = asked_now;
      written = written_now;
      stays = stays_now;
    },
  )
