-- One child more is started, or isn't.
use Rattle.std.proofs.Common.{◌≡◌, ◌<◌, ◌≤◌, ◌+◌, ℕ, List, length, Option, Some, sym, ap, ◌∙◌, subst, arith, inl, inr}
use Rattle.std.specs.List.{slice_get}
use Rattle.std.proofs.lemmas.Bool.{cases_lt}
use Rattle.std.proofs.lemmas.Option.{slice_get_within}
use Rattle.anb_base.specs.Moves.{Put, Rose}
use Rattle.anb_stage.specs.Children.{Child, lines, KeptByStart, IsUnstarted, OthersStay}
use Rattle.anb_stage.specs.Relays.{Stays}
use Rattle.anb_stage.specs.Steps.{Started, StartFailed}
use Rattle.anb_stage.specs.declared.refusal.RelayNo.TheVariants as no
use Rattle.anb_stage.proofs.Roles.{one_or_other, lower, stays_by_call}

same_words : (a b : List (List ℕ)) (o : Option (List (List ℕ))) → o ≡ Some a → o ≡ Some b → a ≡ b
same_words a b o e f = let s : Some a ≡ Some b = sym e ∙ f in cc

module _ (a b c : ℕ → Child) (i : ℕ) (words : List (List (List ℕ))) (s : Started a b i words) (within : i < 32)
    (kept : KeptByStart (b i) (c i)) (never_falls : (b i).faults ≤ (c i).faults) (others : OthersStay i b c) where
  as_before : b i ≡ a i
  as_before = s.stays.others i (omega arith) within

  left_now : (role : ℕ) → role < 32 → (c role).left ≡ (a role).left
  left_now role below = elim (one_or_other role i) [
    | inl e ↦ subst (λ (x : ℕ). (c x).left ≡ (a x).left) (sym e) (kept.left ∙ s.left i within)
    | inr d ↦ ap (λ (x : Child). x.left) (others role d) ∙ s.left role below
  ]

  taken_now : (role : ℕ) → role < 32 → (c role).taken_at ≡ (a role).taken_at
  taken_now role below = elim (one_or_other role i) [
    | inl e ↦ subst (λ (x : ℕ). (c x).taken_at ≡ (a x).taken_at) (sym e) (kept.taken_at ∙ s.taken i within)
    | inr d ↦ ap (λ (x : Child). x.taken_at) (others role d) ∙ s.taken role below
  ]

  written_now : (role : ℕ) → role < 32 → (c role).written ≡ (a role).written
  written_now role below = elim (one_or_other role i) [
    | inl e ↦ subst (λ (x : ℕ). (c x).written ≡ (a x).written) (sym e) (kept.written ∙ s.written i within)
    | inr d ↦ ap (λ (x : Child). x.written) (others role d) ∙ s.written role below
  ]

  stays_now : (roles : ℕ) → i < roles → Stays a c roles
  stays_now roles below = stays_by_call a b c i roles i s.stays (omega (arith, below)) below never_falls kept.status (λ other small d. others other d)

  pub one_started : (own : List (List ℕ)) → slice_get words i ≡ Some own
      → Put (b i).asked (c i).asked (lines own) → (c i).phase ≡ 1 → (c i).faults ≡ (b i).faults → Started a c (i + 1) words
  one_started own at put phase quiet = record {
    quiet = λ role below. elim (one_or_other role i) [
      | inl e ↦ subst (λ (x : ℕ). (c x).faults ≡ (a x).faults) (sym e) (quiet ∙ s.quiet i within)
      | inr d ↦ ap (λ (x : Child). x.faults) (others role d) ∙ s.quiet role below
    ];
    asked = λ role its below its_at. elim (one_or_other role i) [
      | inl e ↦
          let same : own ≡ its = same_words own its (slice_get words i) at (subst (λ (x : ℕ). slice_get words x ≡ Some its) e its_at) in
          let p : Put (a i).asked (c i).asked (lines its) =
          subst (λ (x : Child). Put x.asked (c i).asked (lines its)) as_before (subst (λ w. Put (b i).asked (c i).asked (lines w)) same put) in
          subst (λ (x : ℕ). Put (a x).asked (c x).asked (lines its)) (sym e) p
      | inr d ↦ subst (λ (x : Child). Put (a role).asked x.asked (lines its)) (sym (others role d)) (s.asked role its (lower role i below d) its_at)
    ];
    phases = λ role below. elim (one_or_other role i) [
      | inl e ↦ subst (λ (x : ℕ). (c x).phase ≡ 1) (sym e) phase
      | inr d ↦ ap (λ (x : Child). x.phase) (others role d) ∙ s.phases role (lower role i below d)
    ];
    left = left_now;
    taken = taken_now;
    written = written_now;
    stays = stays_now (i + 1) (omega arith);
  }

  pub one_unstarted : (roles : ℕ) → i < roles → ((role : ℕ) → role < roles → (a role).phase ≡ 0) → roles ≤ 32
      → IsUnstarted (b i) (c i) → Rose (b i).faults (c i).faults → length words ≡ roles → StartFailed a c i roles words
  one_unstarted roles below new few unstarted rose many =
      let left_alone : (role : ℕ) → i ≤ role → role < 32 → ((c role).asked ≡ (a role).asked) × ((c role).phase ≡ (a role).phase) =
      λ role above small. elim (one_or_other role i) [
        | inl e ↦ subst (λ (x : ℕ). ((c x).asked ≡ (a x).asked) × ((c x).phase ≡ (a x).phase)) (sym e)
            (unstarted.asked ∙ ap (λ (x : Child). x.asked) as_before, unstarted.phase ∙ ap (λ (x : Child). x.phase) as_before)
        | inr d ↦ let same : c role ≡ a role = others role d ∙ s.stays.others role above small in
            (ap (λ (x : Child). x.asked) same, ap (λ (x : Child). x.phase) same)
      ] in
      let phase_of : (role : ℕ) → role < i → (c role).phase ≡ 1 =
      λ role less. ap (λ (x : Child). x.phase) (others role (λ e. omega (arith, less, e))) ∙ s.phases role less in
      record {
        within = below;
        reported = λ role small more. elim (one_or_other role i) [
          | inl e ↦ ap no.Fault (sym e)
          | inr d ↦ let same : (c role).faults ≡ (a role).faults = ap (λ (x : Child). x.faults) (others role d) ∙ s.quiet role small in absurd (omega (arith, same, more))
        ];
        rose = subst (λ (x : Child). Rose x.faults (c i).faults) as_before rose;
        asked = λ role own at. elim (cases_lt role i) [
          | inl less ↦ inl (subst (λ (x : Child). Put (a role).asked x.asked (lines own)) (sym (others role (λ e. omega (arith, less, e)))) (s.asked role own less at))
          | inr above ↦ inr (left_alone role above (omega (arith, slice_get_within words role own at, many, few))).0
        ];
        phases = λ role small. elim (cases_lt role i) [
          | inl less ↦ let p = phase_of role less in (omega (arith, p), omega (arith, p))
          | inr above ↦ let p = (left_alone role above (omega (arith, small, few))).1 in let q = new role small in (omega (arith, p, q), omega (arith, p, q))
        ];
        taken = taken_now;
        written = written_now;
        stays = stays_now roles below;
      }
