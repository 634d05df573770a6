-- The turns of all senders and receivers, in order, are a complete schedule.
use Rattle.std.proofs.Common.{◌≡◌, ℕ, zero, suc, ◌+◌, ◌==◌, List, [], ◌∷◌, ◌++◌, length, Bool, true, false, cond, Some, None, refl, sym, ap, ◌∙◌, arith, inl, inr, append_assoc, length-append}
use Rattle.std.specs.Prelude.{slice_get, count_by, filter, flat_map, option_and_then, ◌||◌, ◌&&◌}
use Rattle.std.specs.List.{AllByRecursion, list_any}
use Rattle.std.proofs.lemmas.Bool.{cases_Bool, eqb-true, eq-eqb}
use Rattle.std.proofs.lemmas.List.{append-nil}
use Rattle.std.proofs.lemmas.List.Elements.{filter-append}
use Rattle.std.proofs.lemmas.List.Sums.{length-filter}
use Rattle.anb_protocol.specs.Choices.{each_after}
use Rattle.anb_protocol.specs.Protocols.{ActionValue, ProtocolValue}
use Rattle.anb_protocol.specs.Laws.{IsActionOf}
use Rattle.anb_protocol.specs.Schedules.{Turn, part_in, parts_of, next_of, was_sent, if_ready, turn_of, append_if, taken_after, IsComplete}
use Rattle.anb_stage.specs.Honest.{turns_of}
use Rattle.anb_stage.proofs.Messages.{each_after-at}
use Rattle.anb_lemmas.proofs.Each.{each_in_both}
use Rattle.anb_stage.proofs.HonestStage.{each_both}
use Rattle.anb_stage.proofs.HonestSends.{not_both}

is_of : ℕ → Turn → Bool
is_of role t = t.role == role

-- the two turns of an action, and those of all
turns_at : List ActionValue → ActionValue → List Turn
turns_at before a = record { role = a.from; action = length before + 1; sends = true } ∷ record { role = a.to; action = length before + 1; sends = false } ∷ []

abbrev taken_of : List ActionValue → List Turn
taken_of actions = each_after turns_at [] actions

count_is : {A : Type 0} (f : A → Bool) (xs : List A) → count_by f xs ≡ length (filter f xs)
count_is f xs = sym (length-filter f xs)

get_at_end : {A : Type 0} (xs ys : List A) (n : ℕ) → n ≡ length xs → slice_get (xs ++ ys) n ≡ slice_get ys 0
get_at_end [] ys n e = rw e refl
get_at_end (x ∷ xs) ys zero e = absurd (omega (arith, e))
get_at_end (x ∷ xs) ys (suc n) e = get_at_end xs ys n (omega (arith, e))

get_none : {A : Type 0} (xs : List A) (n : ℕ) → n ≡ length xs → slice_get xs n ≡ None
get_none [] n e = refl
get_none (x ∷ xs) zero e = absurd (omega (arith, e))
get_none (x ∷ xs) (suc n) e = get_none xs n (omega (arith, e))

module _ (p : ProtocolValue) where
  -- a role has as many turns as parts
  counts : (role : ℕ) (before acts : List ActionValue) → AllByRecursion (IsActionOf p) acts
      → length (filter (is_of role) (each_after turns_at before acts)) ≡ length (each_after (part_in role) before acts)
  unfolding is_of turns_at
  counts role before [] all = refl
  counts role before (a ∷ acts) all =
      let ih = counts role (before ++ a ∷ []) acts all.1 in
      elim (cases_Bool (a.from == role)) [
        | inl sends ↦ let other = not_both p a role all.0 sends in rw (sends, other) (omega (arith, ih))
        | inr silent ↦ elim (cases_Bool (a.to == role)) [
          | inl receives ↦ rw (silent, receives) (omega (arith, ih))
          | inr none ↦ rw (silent, none) ih
        ]
      ]

  -- what a role is to do next behind the first actions, in which it has all its turns so far
  next_at : (role : ℕ) (before after : List ActionValue) (a : ActionValue) (more : List Turn) → p.actions ≡ before ++ a ∷ after → AllByRecursion (IsActionOf p) before
      → length (filter (is_of role) more) ≡ 0 → ((a.from == role) || (a.to == role)) ≡ true
      → next_of p (taken_of before ++ more) role ≡ Some (record { role = role; action = length before + 1; sends = a.from == role })
  unfolding is_of turns_at
  next_at role before after a more split all none part =
      let parts = each_after (part_in role) [] before in
      let n : count_by (is_of role) (taken_of before ++ more) ≡ length parts =
      count_is (is_of role) (taken_of before ++ more) ∙ ap length (filter-append (is_of role) (taken_of before) more)
      ∙ omega (arith, length-append (filter (is_of role) (taken_of before)) (filter (is_of role) more), counts role [] before all, none) in
      let rest = part_in role before a ++ each_after (part_in role) (before ++ a ∷ []) after in
      ap (λ l. slice_get (each_after (part_in role) [] l) (count_by (is_of role) (taken_of before ++ more))) split
      ∙ ap (λ l. slice_get l (count_by (is_of role) (taken_of before ++ more))) (each_after-at (part_in role) [] before a after)
      ∙ get_at_end parts rest (count_by (is_of role) (taken_of before ++ more)) n
      ∙ ap (λ b. slice_get (cond b (record { role = role; action = length before + 1; sends = a.from == role } ∷ []) [] ++ each_after (part_in role) (before ++ a ∷ []) after) 0) part

  sent_of : List ActionValue → ActionValue → Turn
  sent_of before a = record { role = a.from; action = length before + 1; sends = true }

  heard_of : List ActionValue → ActionValue → Turn
  heard_of before a = record { role = a.to; action = length before + 1; sends = false }

  takes_send : (before after : List ActionValue) (a : ActionValue) → p.actions ≡ before ++ a ∷ after → AllByRecursion (IsActionOf p) before
      → turn_of p (taken_of before) a.from ≡ Some (sent_of before a)
  unfolding sent_of
  takes_send before after a split all =
      let own : (a.from == a.from) ≡ true = eq-eqb a.from a.from refl in
      let next = next_at a.from before after a [] split all refl (ap (λ b. b || (a.to == a.from)) own) in
      ap (option_and_then (if_ready (taken_of before)))
      (ap (λ ts. next_of p ts a.from) (sym (append-nil (taken_of before))) ∙ next ∙ ap (λ b. Some (record { role = a.from; action = length before + 1; sends = b })) own)

  any_last : (f : Turn → Bool) (ts : List Turn) (t : Turn) → f t ≡ true → list_any f (ts ++ t ∷ []) ≡ true
  any_last f [] t e = ap (λ b. b || false) e
  any_last f (u ∷ ts) t e = ap (λ b. f u || b) (any_last f ts t e) ∙ or_true (f u) where
    or_true : (b : Bool) → (b || true) ≡ true
    or_true true = refl
    or_true false = refl

  other_role : (a : ActionValue) → IsActionOf p a → (a.from == a.to) ≡ false
  other_role a is = elim (cases_Bool (a.from == a.to)) [
    | inl same ↦ absurd (is.apart (eqb-true a.from a.to same))
    | inr differ ↦ differ
  ]

  takes_receive : (before after : List ActionValue) (a : ActionValue) → p.actions ≡ before ++ a ∷ after → AllByRecursion (IsActionOf p) before → IsActionOf p a
      → turn_of p (taken_of before ++ sent_of before a ∷ []) a.to ≡ Some (heard_of before a)
  unfolding sent_of heard_of is_of
  takes_receive before after a split all is =
      let ts = taken_of before ++ record { role = a.from; action = length before + 1; sends = true } ∷ [] in
      let differ = other_role a is in
      let own : (a.to == a.to) ≡ true = eq-eqb a.to a.to refl in
      let none : length (filter (is_of a.to) (record { role = a.from; action = length before + 1; sends = true } ∷ [])) ≡ 0 = rw differ refl in
      let next = next_at a.to before after a (record { role = a.from; action = length before + 1; sends = true } ∷ []) split all none (rw (differ, own) refl) in
      let was : was_sent ts (length before + 1) ≡ true = any_last (λ (t : Turn). t.sends && (t.action == (length before + 1))) (taken_of before) (record { role = a.from; action = length before + 1; sends = true }) (eq-eqb (length before + 1) (length before + 1) refl) in
      ap (option_and_then (if_ready ts)) (next ∙ ap (λ b. Some (record { role = a.to; action = length before + 1; sends = b })) differ)
      ∙ ap (λ b. cond b (Some (record { role = a.to; action = length before + 1; sends = false })) None) was

  one_action : (before after : List ActionValue) (a : ActionValue) (turns : List ℕ) → p.actions ≡ before ++ a ∷ after → AllByRecursion (IsActionOf p) before → IsActionOf p a
      → taken_after p (taken_of before) (a.from ∷ a.to ∷ turns) ≡ taken_after p (taken_of (before ++ a ∷ [])) turns
  unfolding sent_of heard_of turns_at
  one_action before after a turns split all is =
      let sends = ap (λ o. taken_after p (append_if (taken_of before) o) (a.to ∷ turns)) (takes_send before after a split all) in
      let receives = ap (λ o. taken_after p (append_if (taken_of before ++ sent_of before a ∷ []) o) turns) (takes_receive before after a split all is) in
      let both : (taken_of before ++ sent_of before a ∷ []) ++ heard_of before a ∷ [] ≡ taken_of (before ++ a ∷ []) =
      append_assoc (taken_of before) (sent_of before a ∷ []) (heard_of before a ∷ []) ∙ sym (each_both turns_at [] before (a ∷ [])) in
      sends ∙ receives ∙ ap (λ ts. taken_after p ts turns) both

  all_actions : (before acts : List ActionValue) → p.actions ≡ before ++ acts → AllByRecursion (IsActionOf p) before → AllByRecursion (IsActionOf p) acts
      → taken_after p (taken_of before) (flat_map (λ (a : ActionValue). a.from ∷ a.to ∷ []) acts) ≡ taken_of p.actions
  all_actions before [] split all rest = ap taken_of (sym (append-nil before) ∙ sym split)
  all_actions before (a ∷ acts) split all rest =
      one_action before acts a (flat_map (λ (b : ActionValue). b.from ∷ b.to ∷ []) acts) split all rest.0
      ∙ all_actions (before ++ a ∷ []) acts (split ∙ sym (append_assoc before (a ∷ []) acts)) (each_in_both (IsActionOf p) before (a ∷ []) all (rest.0, tt)) rest.1

  pub relays_are_complete : AllByRecursion (IsActionOf p) p.actions → IsComplete p (turns_of p)
  unfolding is_of
  relays_are_complete all role within =
      ap (λ ts. next_of p ts role) (all_actions [] p.actions refl tt all)
      ∙ get_none (parts_of p role) (count_by (is_of role) (taken_of p.actions)) (count_is (is_of role) (taken_of p.actions) ∙ counts role [] p.actions all)
