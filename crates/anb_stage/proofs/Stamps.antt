-- When the bytes of a relay are taken, action by action.
use Rattle.std.proofs.Common.{◌≡◌, ◌≢◌, ◌+◌, ℕ, List, [], ◌∷◌, ◌++◌, length, replicate, Option, Some, None, refl, sym, ap, ◌∙◌, append_assoc, append-nil}
use Rattle.std.proofs.lemmas.Bool.{eq-eqb}
use Rattle.anb_lemmas.proofs.Numbers.{nat_eq-differs}
use Rattle.anb_frame.specs.Frames.{frame}
use Rattle.anb_frame.specs.Cuts.{Tail}
use Rattle.anb_protocol.specs.Choices.{first_after}
use Rattle.anb_stage.specs.Relays.{bytes_of, own_stamps, refusal_of, stamps_behind}
use Rattle.anb_stage.specs.Steps.{written_behind}
use Rattle.anb_stage.specs.declared.ends.Ends.{Ends}

module _ (outputs : ℕ → List (List ℕ)) (tails : ℕ → Tail) where
  -- a message that isn't missing is there
  there : (before : List Ends) (a : Ends) (after : List Ends) → first_after (refusal_of outputs tails) before (a ∷ after) ≡ None
      → (bytes : List ℕ) × (bytes_of outputs before a ≡ Some bytes) × (first_after (refusal_of outputs tails) (before ++ a ∷ []) after ≡ None)
  there before a after none = by (bytes_of outputs before a) refl where
    by : (o : Option (List ℕ)) → bytes_of outputs before a ≡ o → (bytes : List ℕ) × (bytes_of outputs before a ≡ Some bytes) × (first_after (refusal_of outputs tails) (before ++ a ∷ []) after ≡ None)
    by None is = let never = rw is at none in absurd cc
    by (Some bytes) is = (bytes, is, rw is at none)

  -- the stamps of some actions, where none of their messages is missing, and of more behind them
  pub stamps_joined : (role written : ℕ) (before xs ys : List Ends) → first_after (refusal_of outputs tails) before xs ≡ None
      → stamps_behind outputs tails role written before (xs ++ ys)
      ≡ stamps_behind outputs tails role written before xs ++ stamps_behind outputs tails role (written_behind outputs written before xs) (before ++ xs) ys
  stamps_joined role written before [] ys none = ap (λ b. stamps_behind outputs tails role written b ys) (sym (append-nil before))
  stamps_joined role written before (a ∷ xs) ys none =
      let here = there before a xs none in
      let own = own_stamps role a.from (length (frame here.0)) written in
      let rest = stamps_joined role (written + length (frame here.0)) (before ++ a ∷ []) xs ys here.2 in
      let same : stamps_behind outputs tails role (written_behind outputs (written + length (frame here.0)) (before ++ a ∷ []) xs) ((before ++ a ∷ []) ++ xs) ys
      ≡ stamps_behind outputs tails role (written_behind outputs (written + length (frame here.0)) (before ++ a ∷ []) xs) (before ++ a ∷ xs) ys =
      ap (λ b. stamps_behind outputs tails role (written_behind outputs (written + length (frame here.0)) (before ++ a ∷ []) xs) b ys) (append_assoc before (a ∷ []) xs) in
      let front = stamps_behind outputs tails role (written + length (frame here.0)) (before ++ a ∷ []) xs in
      rw here.1 (
      ap (λ t. own ++ t) (rest ∙ ap (λ t. front ++ t) same)
      ∙ sym (append_assoc own front _)
      )

  pub written_joined : (written : ℕ) (before xs : List Ends) (a : Ends) (bytes : List ℕ) → first_after (refusal_of outputs tails) before xs ≡ None
      → bytes_of outputs (before ++ xs) a ≡ Some bytes
      → written_behind outputs written before (xs ++ a ∷ []) ≡ written_behind outputs written before xs + length (frame bytes)
  written_joined written before [] a bytes none is =
      let here : bytes_of outputs before a ≡ Some bytes = ap (λ b. bytes_of outputs b a) (sym (append-nil before)) ∙ is in rw here refl
  written_joined written before (x ∷ xs) a bytes none is =
      let here = there before x xs none in
      let last : bytes_of outputs ((before ++ x ∷ []) ++ xs) a ≡ Some bytes = ap (λ b. bytes_of outputs b a) (append_assoc before (x ∷ []) xs) ∙ is in
      rw here.1 (written_joined (written + length (frame here.0)) (before ++ x ∷ []) xs a bytes here.2 last)

-- ---- the stamps of one action

pub stamps_one : (outputs : ℕ → List (List ℕ)) (tails : ℕ → Tail) (role written : ℕ) (before : List Ends) (a : Ends) (bytes : List ℕ) → bytes_of outputs before a ≡ Some bytes
    → stamps_behind outputs tails role written before (a ∷ []) ≡ own_stamps role a.from (length (frame bytes)) written
stamps_one outputs tails role written before a bytes is = rw is (append-nil (own_stamps role a.from (length (frame bytes)) written))

pub own_here : (role from size written : ℕ) → from ≡ role → own_stamps role from size written ≡ replicate size written
own_here role from size written e = rw (eq-eqb from role e) refl

pub own_there : (role from size written : ℕ) → from ≢ role → own_stamps role from size written ≡ []
own_there role from size written d = rw (nat_eq-differs from role d) refl
