-- What is known of a role at its turn.
use Rattle.std.proofs.Common.{◌≡◌, ℕ, ◌+◌, ◌<◌, ◌≤◌, List, length, get_or, Bool, true, false, cond, Option, Some, None, refl, sym, ap, ◌∙◌, subst, inl, inr, arith}
use Rattle.std.specs.Prelude.{slice_get, is_some, option_map, option_and_then, IfSome, IfOk, Result, Ok, Err, ◌||◌}
use Rattle.anb_term.proofs.Lists.{slice_get-there}
use Rattle.std.proofs.lemmas.Option.{get_or_from_slice_get, slice_get_read, slice_get-map}
use Rattle.anb_lemmas.proofs.Each.{each_got}
use Rattle.anb_machine.specs.Machines.{gives}
use Rattle.anb_protocol.specs.Schedules.{Turn, parts_of, next_of, if_ready, turn_of, was_sent}
use Rattle.anb_honest.specs.declared.player.Player.{Player}
use Rattle.anb_honest.specs.declared.player.Part.{Part}
use Rattle.anb_honest.specs.declared.stage.Stage.{Stage}
use Rattle.anb_honest.specs.Joint.{Cast, Course, turns_of, told}
use Rattle.anb_honest.specs.Acting.{TellsNow, HearsNow}
use Rattle.anb_honest.specs.Inside.{IsPlayer, IsShort, Stands, turn_at, turn_value}
use Rattle.anb_honest.proofs.Parts.{IsPartOf, parts_of_role}
use Rattle.anb_honest.proofs.Moving.{told_sent}
use Rattle.anb_honest.proofs.Standing.{acts_next, next_is, room_next}
use Rattle.anb_honest.proofs.Turning.{ready_next, ready_sent}

pub ok_map : {T E : Type 0} {P Q : T → Type 0} (r : Result T E) → IfOk r P → ((x : T) → P x → Q x) → IfOk r Q
ok_map (Ok x) p f = f x p
ok_map (Err e) p f = tt

-- the role at a place of the table
module _ (c : Cast) (s : Course) (stage : Stage) (st : Stands c s stage) (role : ℕ) (pl : Player) (within : role < length stage.players.items) (at : pl ≡ get_or stage.players.items role pl) where
  pub there : slice_get stage.players.items role ≡ Some pl
  there = slice_get_read stage.players.items (length stage.players.items) role pl refl within at

  pub is_player : IsPlayer c s.moves role pl
  is_player = subst (λ o. IfSome o (IsPlayer c s.moves role)) there (st.players role)

  -- nothing is left
  pub nothing_due : slice_get pl.parts.items pl.done ≡ None → None ≡ turn_of c.protocol (turns_of s.moves) role
  nothing_due e = ap (option_and_then (if_ready (turns_of s.moves))) (ap (option_map (turn_value role)) (sym e) ∙ next_is c s.moves role pl is_player)

  module _ (part : Part) (next : slice_get pl.parts.items pl.done ≡ Some part) where
    next_part : next_of c.protocol (turns_of s.moves) role ≡ Some (turn_value role part)
    next_part = sym (next_is c s.moves role pl is_player) ∙ ap (option_map (turn_value role)) next

    part_is : IsPartOf role (length c.protocol.actions) (turn_value role part)
    part_is =
        let p = is_player in
        each_got (IsPartOf role (length c.protocol.actions)) (parts_of c.protocol role) pl.done (turn_value role part) (parts_of_role c.protocol role)
        (ap (λ l. slice_get l pl.done) (sym p.parts) ∙ slice_get-map (turn_value role) pl.parts.items pl.done ∙ ap (option_map (turn_value role)) next)

    pub part_least : 1 ≤ part.action
    part_least = let p = part_is in p.least

    pub part_most : part.action ≤ length stage.told.items
    part_most = let p = part_is in let q : part.action ≤ length c.protocol.actions = p.most in let e = st.slots in omega (arith, q, e)

    turn_is : turn_of c.protocol (turns_of s.moves) role ≡ if_ready (turns_of s.moves) (turn_value role part)
    turn_is = ap (option_and_then (if_ready (turns_of s.moves))) next_part

    -- it is taken where it is a send, or its message is there
    pub due_send : part.sends ≡ true → Some (turn_value role part) ≡ turn_of c.protocol (turns_of s.moves) role
    due_send e = sym (turn_is ∙ ap (λ b. cond (b || was_sent (turns_of s.moves) part.action) (Some (turn_value role part)) None) e)

    module _ (k : ℕ) (slot : Option (List ℕ)) (is : k + 1 ≡ part.action) (slot_at : slice_get stage.told.items k ≡ Some slot) where
      slot_sent : is_some slot ≡ was_sent (turns_of s.moves) part.action
      slot_sent =
          let h : slot ≡ told s.moves (k + 1) = subst (λ o. IfSome o (λ x. x ≡ told s.moves (k + 1))) slot_at (st.told k) in
          ap is_some h ∙ told_sent s.moves (k + 1) ∙ ap (was_sent (turns_of s.moves)) is

      pub due_told : part.sends ≡ false → is_some slot ≡ true → Some (turn_value role part) ≡ turn_of c.protocol (turns_of s.moves) role
      due_told e f =
          sym (turn_is ∙ ap (λ b. cond (b || was_sent (turns_of s.moves) part.action) (Some (turn_value role part)) None) e
          ∙ ap (λ b. cond b (Some (turn_value role part)) None) (sym slot_sent ∙ f))

      pub due_untold : part.sends ≡ false → is_some slot ≡ false → None ≡ turn_of c.protocol (turns_of s.moves) role
      due_untold e f =
          sym (turn_is ∙ ap (λ b. cond (b || was_sent (turns_of s.moves) part.action) (Some (turn_value role part)) None) e
          ∙ ap (λ b. cond b (Some (turn_value role part)) None) (sym slot_sent ∙ f))

  -- at its turn
  module _ (action : ℕ) (sends : Bool) (due : turn_of c.protocol (turns_of s.moves) role ≡ Some (turn_at role action sends)) where
    pub due_next : next_of c.protocol (turns_of s.moves) role ≡ Some (turn_at role action sends)
    due_next = ready_next (turns_of s.moves) (next_of c.protocol (turns_of s.moves) role) (turn_at role action sends) due

    pub room_due : pl.done < length pl.parts.items
    room_due = room_next c s.moves role pl is_player (turn_at role action sends) due_next

    due_part : IsPartOf role (length c.protocol.actions) (turn_at role action sends)
    due_part =
        let p = is_player in
        each_got (IsPartOf role (length c.protocol.actions)) (parts_of c.protocol role) pl.done (turn_at role action sends) (parts_of_role c.protocol role)
        (ap (slice_get (parts_of c.protocol role)) p.done ∙ due_next)

    pub due_least : 1 ≤ action
    due_least = let p = due_part in p.least

    pub due_most : action ≤ length stage.told.items
    due_most = let p = due_part in let q : action ≤ length c.protocol.actions = p.most in let e = st.slots in omega (arith, q, e)

  pub tells_now : (action : ℕ) → turn_of c.protocol (turns_of s.moves) role ≡ Some (turn_at role action true) → TellsNow (gives pl.machine)
  tells_now action due = elim (acts_next c s.moves role pl is_player (turn_at role action true) (due_next action true due)) [
    | inl x ↦ inl x
    | inr a ↦ inr (a.0, a.1, a.2, tt)
  ]

  pub hears_now : (action : ℕ) → turn_of c.protocol (turns_of s.moves) role ≡ Some (turn_at role action false) → HearsNow (gives pl.machine)
  hears_now action due = elim (acts_next c s.moves role pl is_player (turn_at role action false) (due_next action false due)) [
    | inl x ↦ inl x
    | inr a ↦ inr (a.0, a.1, λ x. tt)
  ]

-- the action of a turn that is due
pub due_within : (c : Cast) (s : Course) (stage : Stage) → Stands c s stage → (role action : ℕ) (sends : Bool) → role < length stage.players.items
    → turn_of c.protocol (turns_of s.moves) role ≡ Some (turn_at role action sends) → (1 ≤ action) × (action ≤ length stage.told.items)
due_within c s stage st role action sends within due =
    let p = slice_get-there stage.players.items role within in
    let at = sym (get_or_from_slice_get stage.players.items role p.0 p.0 p.1) in
    (due_least c s stage st role p.0 within at action sends due, due_most c s stage st role p.0 within at action sends due)

-- what is received is there
pub message_there : (c : Cast) (s : Course) (stage : Stage) → Stands c s stage → (role action k : ℕ) (slot : Option (List ℕ)) → k + 1 ≡ action → slice_get stage.told.items k ≡ Some slot
    → turn_of c.protocol (turns_of s.moves) role ≡ Some (turn_at role action false) → (is_some slot ≡ true) × (slot ≡ told s.moves action)
message_there c s stage st role action k slot is at due =
    let h : slot ≡ told s.moves (k + 1) = subst (λ o. IfSome o (λ x. x ≡ told s.moves (k + 1))) at (st.told k) in
    let e : slot ≡ told s.moves action = h ∙ ap (told s.moves) is in
    (ap is_some e ∙ told_sent s.moves action ∙ ready_sent (turns_of s.moves) (next_of c.protocol (turns_of s.moves) role) (turn_at role action false) due refl, e)

pub message_short : (c : Cast) (s : Course) (stage : Stage) → Stands c s stage → (k : ℕ) (slot : Option (List ℕ)) → slice_get stage.told.items k ≡ Some slot → IsShort slot
message_short c s stage st k slot at = subst (λ o. IfSome o IsShort) at (st.short k)

pub at_receive : (role : ℕ) (part : Part) (o : Option Turn) → part.sends ≡ false → Some (turn_value role part) ≡ o → o ≡ Some (turn_at role part.action false)
at_receive role part o e h = sym h ∙ ap (λ b. Some (turn_at role part.action b)) e
