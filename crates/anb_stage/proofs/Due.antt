-- A relay among children that are told is refused as is due.
use Rattle.std.proofs.Common.{◌≡◌, ◌≢◌, ◌+◌, ◌<◌, ℕ, zero, suc, Bool, true, false, List, [], ◌∷◌, ◌++◌, length, Option, Some, None, refl, subst, arith}
use Rattle.std.specs.Prelude.{◌==◌, not, IfSome, is_none}
use Rattle.std.specs.List.{range_with_len}
use Rattle.std.specs.Option.{option_or}
use Rattle.std.proofs.lemmas.Bool.Decides.{eqb_tells}
use Rattle.anb_frame.specs.Cuts.{Tail, End, Short, Long}
use Rattle.anb_protocol.specs.Choices.{first, first_after, refuse_if}
use Rattle.anb_stage.specs.Children.{Child}
use Rattle.anb_stage.specs.Relays.{AreGood, IsRefused, IsRelayed, bytes_of, missing, refusal_at, refusal_of}
use Rattle.anb_stage.specs.Due.{AreTold, IsDue, RelaysAreDue, bad_at, due_of}
use Rattle.anb_stage.specs.declared.ends.Ends.{Ends}
use Rattle.anb_stage.specs.declared.refusal.RelayNo.{RelayNo}
use Rattle.anb_stage.specs.declared.refusal.RelayNo.TheVariants as no

module _ (outputs : ℕ → List (List ℕ)) (tails : ℕ → Tail) (statuses : ℕ → ℕ) where
  good_at : (role : ℕ) → statuses role ≡ 0 → bad_at outputs tails statuses role ≡ None
  good_at role e = rw e refl

  is_bad : (role n : ℕ) → statuses role ≡ n → n ≢ 0 → bad_at outputs tails statuses role ≡ Some (no.Bad role n)
  is_bad role n e other = let differs : (n == 0) ≡ false = grind (arith, eqb_tells, other) in rw (e, differs) refl

  none_bad : (a n : ℕ) → ((role : ℕ) → role < a + n → statuses role ≡ 0) → first (bad_at outputs tails statuses) (range_with_len a n) ≡ None
  none_bad a zero good = refl
  none_bad a (suc n) good = rw (good_at a (good a (omega arith))) (none_bad (a + 1) n (λ role below. good role (omega (arith, below))))

  -- the first, k behind a
  first_bad : (a n k role status : ℕ) → a + k ≡ role → k < n → ((other : ℕ) → other < role → statuses other ≡ 0) → statuses role ≡ status → status ≢ 0
      → first (bad_at outputs tails statuses) (range_with_len a n) ≡ Some (no.Bad role status)
  first_bad a zero k role status at within good e other = absurd (omega (arith, within))
  first_bad a (suc n) zero role status at within good e other =
      let here : a ≡ role = omega (arith, at) in rw (here, is_bad role status e other) refl
  first_bad a (suc n) (suc k) role status at within good e other =
      rw (good_at a (good a (omega (arith, at)))) (first_bad (a + 1) n k role status (omega (arith, at)) (omega (arith, within)) good e other)

  module _ (roles : ℕ) (old : ℕ → Child) (told : AreTold outputs tails statuses roles old) where
    good_below : (n role : ℕ) → n < roles + 1 → AreGood old n → role < n → statuses role ≡ 0
    good_below n role few good below = subst (λ (o : Option ℕ). IfSome o (λ s. s ≡ 0)) (told.ends role (omega (arith, few, below))) (good role below)

    module _ (new : ℕ → Child) (words : List (List (List ℕ))) (actions : List Ends) where
      none_due : IsRelayed roles old new words actions → due_of outputs tails statuses roles actions ≡ None
      none_due is =
          let all = (is.relayed outputs tails told.cut).0 in
          rw all (none_bad 0 roles (λ role below. good_below roles role (omega arith) is.good (omega (arith, below))))

      is_due : (refusal : RelayNo) → IsRefused roles old new words actions refusal → IsDue outputs tails statuses roles actions refusal
      is_due (no.Fault role) is = tt
      is_due no.NoMemory is = tt
      is_due (no.Ended action) is = rw (is.writes outputs tails told.cut).0 refl
      is_due (no.Cut action have need) is = rw (is.writes outputs tails told.cut).0 refl
      is_due (no.Long action len) is = rw (is.writes outputs tails told.cut).0 refl
      is_due (no.Bad role status) is =
          let all = (is.writes outputs tails told.cut).0 in
          let ended : statuses role ≡ status = subst (λ (o : Option ℕ). IfSome o (λ s. s ≡ status)) (told.ends role is.bad.0) is.bad.2 in
          let below : (other : ℕ) → other < role → statuses other ≡ 0 = λ other lt. good_below role other (omega (arith, is.bad.0)) is.bad.3 lt in
          rw all (first_bad 0 roles role role status (omega arith) is.bad.0 below ended is.bad.1)

pub relays_are_due : RelaysAreDue
relays_are_due outputs tails statuses roles old new words actions told =
    (none_due outputs tails statuses roles old told new words actions, is_due outputs tails statuses roles old told new words actions)

-- ---- what is due is neither a fault of a child nor want of memory

abbrev pub IsOfOutputs : RelayNo → Type 0
IsOfOutputs (no.Fault role) = ⊥
IsOfOutputs no.NoMemory = ⊥
IsOfOutputs refusal = Unit {0}

either : (a b : Option RelayNo) → IfSome a IsOfOutputs → IfSome b IsOfOutputs → IfSome (option_or a b) IsOfOutputs
either None b p q = q
either (Some r) b p q = p

where_wrong : (wrong : Bool) (r : RelayNo) → IsOfOutputs r → IfSome (refuse_if wrong r) IsOfOutputs
where_wrong true r p = p
where_wrong false r p = tt

at_tail : (action : ℕ) (tail : Tail) → IsOfOutputs (refusal_at action tail)
at_tail action End = tt
at_tail action (Short have need) = tt
at_tail action (Long len) = tt

module _ (outputs : ℕ → List (List ℕ)) (tails : ℕ → Tail) (statuses : ℕ → ℕ) where
  of_missing : (before actions : List Ends) → IfSome (first_after (refusal_of outputs tails) before actions) IsOfOutputs
  of_missing before [] = tt
  of_missing before (a ∷ actions) =
      either (refusal_of outputs tails before a) _ (where_wrong (is_none (bytes_of outputs before a)) _ (at_tail (length before + 1) (tails a.from))) (of_missing (before ++ a ∷ []) actions)

  of_bad : (roles : List ℕ) → IfSome (first (bad_at outputs tails statuses) roles) IsOfOutputs
  of_bad [] = tt
  of_bad (role ∷ roles) = either (bad_at outputs tails statuses role) _ (where_wrong (not (statuses role == 0)) _ tt) (of_bad roles)

  pub due_of_outputs : (roles : ℕ) (actions : List Ends) → IfSome (due_of outputs tails statuses roles actions) IsOfOutputs
  due_of_outputs roles actions = either (missing outputs tails actions) _ (of_missing [] actions) (of_bad (range_with_len 0 roles))
