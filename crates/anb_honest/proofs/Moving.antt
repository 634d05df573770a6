-- What one move more changes.
use Rattle.std.proofs.Common.{◌≡◌, ℕ, ◌+◌, List, [], ◌∷◌, ◌++◌, Bool, true, false, cond, Option, Some, None, refl, sym, ap, ◌∙◌}
use Rattle.std.specs.Prelude.{filter, count_by, is_some, ◌==◌, ◌&&◌, ◌||◌}
use Rattle.std.specs.Option.{option_or}
use Rattle.std.proofs.lemmas.List.{append-nil, map-append}
use Rattle.std.proofs.lemmas.List.Elements.{filter-append}
use Rattle.std.proofs.lemmas.List.Sums.{sum_by_push}
use Rattle.anb_lemmas.proofs.Options.{or_none}
use Rattle.anb_protocol.specs.Schedules.{Turn, was_sent}
use Rattle.anb_honest.specs.Joint.{Move, turns_of, bytes_of, is_report, is_receipt, gave, took, told, told_by}

or_assoc : {A : Type 0} (a b d : Option A) → option_or (option_or a b) d ≡ option_or a (option_or b d)
or_assoc None b d = refl
or_assoc (Some x) b d = refl

-- the last report of an action is the message that is told
pub told_last : (moves : List Move) (m : Move) (action : ℕ) → told (moves ++ m ∷ []) action ≡ option_or (told_by m action) (told moves action)
told_last [] m action = sym (or_none (told_by m action))
told_last (x ∷ moves) m action =
    ap (λ o. option_or o (told_by x action)) (told_last moves m action) ∙ or_assoc (told_by m action) (told moves action) (told_by x action)

told_or_sent : (b : Bool) (o : Option (List ℕ)) (bytes : List ℕ) (v : Bool) → is_some o ≡ v → is_some (option_or o (cond b (Some bytes) None)) ≡ (b || v)
told_or_sent true None bytes v e = refl
told_or_sent true (Some x) bytes v e = refl
told_or_sent false None bytes v e = e
told_or_sent false (Some x) bytes v e = e

-- a message is told exactly where the action was sent
pub told_sent : (moves : List Move) (action : ℕ) → is_some (told moves action) ≡ was_sent (turns_of moves) action
told_sent [] action = refl
told_sent (m ∷ moves) action = told_or_sent (m.turn.sends && (m.turn.action == action)) (told moves action) m.bytes (was_sent (turns_of moves) action) (told_sent moves action)

pub turns_more : (moves : List Move) (m : Move) → turns_of (moves ++ m ∷ []) ≡ turns_of moves ++ m.turn ∷ []
turns_more moves m = map-append (λ (x : Move). x.turn) moves (m ∷ [])

pub count_last : (p : Turn → Bool) (ts : List Turn) (t : Turn) → count_by p (ts ++ t ∷ []) ≡ count_by p ts + cond (p t) 1 0
count_last p ts t = sum_by_push (λ x. cond (p x) 1 0) ts t

module _ (moves : List Move) (m : Move) (role : ℕ) where
  chosen : (test : Move → Bool) (b : Bool) → test m ≡ b → bytes_of (filter test (moves ++ m ∷ [])) ≡ bytes_of (filter test moves) ++ cond b (m.bytes ∷ []) []
  chosen test true e =
      ap bytes_of (filter-append test moves (m ∷ []) ∙ ap (λ v. filter test moves ++ cond v (m ∷ []) []) e)
      ∙ map-append (λ (x : Move). x.bytes) (filter test moves) (m ∷ [])
  chosen test false e =
      ap bytes_of (filter-append test moves (m ∷ []) ∙ ap (λ v. filter test moves ++ cond v (m ∷ []) []) e)
      ∙ map-append (λ (x : Move). x.bytes) (filter test moves) []

  pub gave_more : (b : Bool) → is_report role m ≡ b → gave (moves ++ m ∷ []) role ≡ gave moves role ++ cond b (m.bytes ∷ []) []
  gave_more b e = chosen (is_report role) b e

  pub took_more : (b : Bool) → is_receipt role m ≡ b → took (moves ++ m ∷ []) role ≡ took moves role ++ cond b (m.bytes ∷ []) []
  took_more b e = chosen (is_receipt role) b e

  pub gave_same : is_report role m ≡ false → gave (moves ++ m ∷ []) role ≡ gave moves role
  gave_same e = gave_more false e ∙ append-nil (gave moves role)

  pub took_same : is_receipt role m ≡ false → took (moves ++ m ∷ []) role ≡ took moves role
  took_same e = took_more false e ∙ append-nil (took moves role)
