-- A role among others.
use Rattle.std.proofs.Common.{◌≡◌, ◌≢◌, ◌<◌, ◌≤◌, ◌+◌, ℕ, refl, sym, ap, ◌∙◌, subst, arith, inl, inr, ◌⊎◌}
use Rattle.std.proofs.lemmas.Bool.{cases_lt}
use Rattle.anb_stage.specs.Children.{Child}
use Rattle.anb_stage.specs.Steps.{OthersStayBelow, SameFaults}
use Rattle.anb_stage.specs.Relays.{IsReported, Stays}
use Rattle.anb_stage.specs.declared.refusal.RelayNo.{RelayNo}
use Rattle.anb_stage.specs.declared.refusal.RelayNo.TheVariants as no

pub one_or_other : (a b : ℕ) → (a ≡ b) ⊎ (a ≢ b)
one_or_other a b = elim (cases_lt a b) [
  | inl below ↦ inr (λ e. omega (arith, below, e))
  | inr above ↦ elim (cases_lt b a) [
    | inl over ↦ inr (λ e. omega (arith, over, e))
    | inr most ↦ inl (omega (arith, above, most))
  ]
]

pub lower : (role i : ℕ) → role < i + 1 → role ≢ i → role < i
lower role i below d = elim (cases_lt role i) [ inl h ↦ h | inr h ↦ absurd (d (omega (arith, below, h))) ]

-- nothing changes by no call
pub stays_same : (a : ℕ → Child) (roles : ℕ) → Stays a a roles
stays_same a roles = record { faults = λ role below. omega arith; statuses = λ role below. refl; others = λ role above below. refl }

-- a call for one role after what was before
pub stays_by_call : (a b c : ℕ → Child) (count roles role : ℕ) → Stays a b count → count ≤ roles → role < roles
    → (b role).faults ≤ (c role).faults → (c role).status ≡ (b role).status → OthersStayBelow role b c → Stays a c roles
stays_by_call a b c count roles role s more within faults status others = record {
  faults = λ other below. elim (one_or_other other role) [
    | inl e ↦ let f : (a role).faults ≤ (b role).faults = s.faults role (subst (λ (x : ℕ). x < 32) e below) in
        subst (λ (x : ℕ). (a x).faults ≤ (c x).faults) (sym e) (omega (arith, f, faults))
    | inr d ↦ subst (λ (x : Child). (a other).faults ≤ x.faults) (sym (others other below d)) (s.faults other below)
  ];
  statuses = λ other below. elim (one_or_other other role) [
    | inl e ↦ subst (λ (x : ℕ). (c x).status ≡ (a x).status) (sym e) (status ∙ s.statuses role (subst (λ (x : ℕ). x < 32) e below))
    | inr d ↦ ap (λ (x : Child). x.status) (others other below d) ∙ s.statuses other below
  ];
  others = λ other above below. others other below (λ e. omega (arith, e, within, above)) ∙ s.others other (omega (arith, more, above)) below;
}

pub stays_joined : (a b c : ℕ → Child) (roles : ℕ) → Stays a b roles → Stays b c roles → Stays a c roles
stays_joined a b c roles s t = record {
  faults = λ role below. omega (arith, s.faults role below, t.faults role below);
  statuses = λ role below. t.statuses role below ∙ s.statuses role below;
  others = λ role above below. t.others role above below ∙ s.others role above below;
}

-- ---- counts of faults

-- after a call for one role, which is refused as its fault, or left its count as it was
pub reported_fault : (a b : ℕ → Child) (role : ℕ) → OthersStayBelow role a b → IsReported a b (no.Fault role)
reported_fault a b role others other below more = elim (one_or_other other role) [
  | inl e ↦ ap no.Fault (sym e)
  | inr d ↦ let same : (b other).faults ≡ (a other).faults = ap (λ (x : Child). x.faults) (others other below d) in absurd (omega (arith, same, more))
]

pub quiet_call : (a b : ℕ → Child) (role : ℕ) → OthersStayBelow role a b → (b role).faults ≡ (a role).faults → SameFaults a b
quiet_call a b role others quiet other below = elim (one_or_other other role) [
  | inl e ↦ subst (λ (x : ℕ). (b x).faults ≡ (a x).faults) (sym e) quiet
  | inr d ↦ ap (λ (x : Child). x.faults) (others other below d)
]

pub quiet_joined : (a b c : ℕ → Child) → SameFaults a b → SameFaults b c → SameFaults a c
quiet_joined a b c p q role below = q role below ∙ p role below

-- where no count rose
pub reported_quiet : (a b : ℕ → Child) (r : RelayNo) → SameFaults a b → IsReported a b r
reported_quiet a b r quiet role below more = let same = quiet role below in absurd (omega (arith, same, more))

pub reported_later : (a b c : ℕ → Child) (r : RelayNo) → SameFaults a b → IsReported b c r → IsReported a c r
reported_later a b c r quiet reported role below more = let same = quiet role below in reported role below (omega (arith, same, more))
