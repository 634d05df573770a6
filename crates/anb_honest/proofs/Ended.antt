-- The end of a joint run after its last turn.
use Rattle.std.proofs.Common.{◌≡◌, ℕ, zero, suc, ◌+◌, ◌≤◌, List, [], ◌∷◌, ◌++◌, length, take, Bool, true, false, cond, Option, Some, None, refl, sym, ap, ◌∙◌, subst, arith}
use Rattle.std.specs.Prelude.{filter_map, slice_get, is_none, unwrap_or, option_map, IfSome, ◌==◌, ◌&&◌}
use Rattle.std.specs.Option.{option_or}
use Rattle.std.specs.List.{list_all, range_with_len, cons_option}
use Rattle.std.proofs.lemmas.List.{take_all}
use Rattle.std.proofs.lemmas.Bool.Decides.{nat_tests}
use Rattle.anb_lemmas.proofs.Lists.{take_suc_got}
use Rattle.anb_base.specs.declared.content.Sent.{Sent}
use Rattle.anb_term.proofs.Lists.{slice_get-there}
use Rattle.anb_protocol.specs.Choices.{first}
use Rattle.anb_protocol.specs.Schedules.{next_of}
use Rattle.anb_honest.specs.declared.player.Player.{Player}
use Rattle.anb_honest.specs.declared.stage.Stage.{Stage}
use Rattle.anb_outcomes.specs.declared.rehearsals.Report.{Report}
use Rattle.anb_honest.specs.declared.report.RehearseEnd.{RehearseEnd}
use Rattle.anb_honest.specs.declared.report.RehearseEnd.TheVariants.{AllDone, Part as Partly, Stopped}
use Rattle.anb_honest.specs.Joint.{Cast, Course, Move, turns_of, told, stuck, is_complete, reported, all_reported, report, end_behind}
use Rattle.anb_honest.specs.Acting.{is_done}
use Rattle.anb_honest.specs.Inside.{IsPlayer, Stands, turn_value, first_stopped, sent_from}
use Rattle.anb_honest.proofs.Standing.{stuck_is, next_is}

shifted : (c : Cast) (moves : List Move) (pl : Player) (players : List Player) (k : ℕ) → ((j : ℕ) → IfSome (slice_get (pl ∷ players) j) (IsPlayer c moves (k + j)))
    → (j : ℕ) → IfSome (slice_get players j) (IsPlayer c moves (k + 1 + j))
shifted c moves pl players k all j = let n : k + suc j ≡ k + 1 + j = omega arith in subst (λ q. IfSome (slice_get players j) (IsPlayer c moves q)) n (all (suc j))

-- the first role that is stuck
pub stopped_first : (c : Cast) (moves : List Move) (players : List Player) (k : ℕ) → ((j : ℕ) → IfSome (slice_get players j) (IsPlayer c moves (k + j)))
    → first_stopped k players ≡ first (λ role. option_map (Stopped role) (stuck c moves role)) (range_with_len k (length players))
stopped_first c moves [] k all = refl
stopped_first c moves (pl ∷ players) k all =
    let n : k + 0 ≡ k = omega arith in
    let is : IsPlayer c moves k pl = subst (λ q. IsPlayer c moves q pl) n (all 0) in
    ap (λ h. option_or (option_map (Stopped k) h) (first_stopped (k + 1) players)) (sym (stuck_is c moves k pl is))
    ∙ ap (option_or (option_map (Stopped k) (stuck c moves k))) (stopped_first c moves players (k + 1) (shifted c moves pl players k all))

-- whether a role is done
zero_apart : (n : ℕ) → false ≡ (0 == suc n)
zero_apart n = grind (arith, nat_tests)

suc_same : (m n : ℕ) → (m == n) ≡ (suc m == suc n)
suc_same m n = grind (arith, nat_tests)

none_at : {A : Type 0} (xs : List A) (n : ℕ) → n ≤ length xs → is_none (slice_get xs n) ≡ (n == length xs)
none_at [] n h = let e : n ≡ 0 = omega arith in rw e refl
none_at (x ∷ xs) zero h = zero_apart (length xs)
none_at (x ∷ xs) (suc n) h = none_at xs n (omega arith) ∙ suc_same n (length xs)

is_mapped : {A B : Type 0} (f : A → B) (o : Option A) → is_none (option_map f o) ≡ is_none o
is_mapped f None = refl
is_mapped f (Some x) = refl

pub done_is : (c : Cast) (moves : List Move) (role : ℕ) (pl : Player) → IsPlayer c moves role pl → is_none (next_of c.protocol (turns_of moves) role) ≡ is_done pl
done_is c moves role pl is =
    ap is_none (sym (next_is c moves role pl is)) ∙ is_mapped (turn_value role) (slice_get pl.parts.items pl.done) ∙ none_at pl.parts.items pl.done is.within

all_last : {A : Type 0} (f : A → Bool) (xs : List A) (x : A) → list_all f (xs ++ x ∷ []) ≡ (list_all f xs && f x)
all_last f [] x = by (f x) where
  by : (b : Bool) → (b && true) ≡ b
  by true = refl
  by false = refl
all_last f (y ∷ xs) x = by (f y) (all_last f xs x) where
  by : (b : Bool) → list_all f (xs ++ x ∷ []) ≡ (list_all f xs && f x) → (b && list_all f (xs ++ x ∷ [])) ≡ ((b && list_all f xs) && f x)
  by true ih = ih
  by false ih = refl

complete_front : (c : Cast) (moves : List Move) (players : List Player) → ((j : ℕ) → IfSome (slice_get players j) (IsPlayer c moves j)) → (n : ℕ) → n ≤ length players
    → is_complete c (turns_of moves) n ≡ list_all is_done (take n players)
complete_front c moves players all zero h = refl
complete_front c moves players all (suc n) h =
    let there = slice_get-there players n (omega arith) in
    let is : IsPlayer c moves n there.0 = subst (λ o. IfSome o (IsPlayer c moves n)) there.1 (all n) in
    ap (λ b. b && is_none (next_of c.protocol (turns_of moves) n)) (complete_front c moves players all n (omega arith))
    ∙ ap (λ b. list_all is_done (take n players) && b) (done_is c moves n there.0 is)
    ∙ sym (all_last is_done (take n players) there.0) ∙ ap (list_all is_done) (sym (take_suc_got players n there.0 there.1))

pub complete_is : (c : Cast) (moves : List Move) (players : List Player) → ((j : ℕ) → IfSome (slice_get players j) (IsPlayer c moves j)) → length players ≡ length c.protocol.roles
    → is_complete c (turns_of moves) (length c.protocol.roles) ≡ list_all is_done players
complete_is c moves players all count =
    ap (is_complete c (turns_of moves)) (sym count) ∙ complete_front c moves players all (length players) (omega arith)
    ∙ ap (list_all is_done) (take_all (length players) players (omega arith))

-- the messages
sent_one : (c : Cast) (moves : List Move) (k : ℕ) (slot : Option (List ℕ)) (slots : List (Option (List ℕ))) (rest : List Sent) → slot ≡ told moves k → sent_from (k + 1) slots ≡ rest
    → sent_from k (slot ∷ slots) ≡ cons_option (reported c (told moves) k) rest
sent_one c moves k None slots rest is e = e ∙ ap (λ o. cons_option (option_map (λ bytes. record { action = k; bytes = bytes }) o) rest) is
sent_one c moves k (Some b) slots rest is e =
    ap (λ l. record { action = k; bytes = b } ∷ l) e ∙ ap (λ o. cons_option (option_map (λ bytes. record { action = k; bytes = bytes }) o) rest) is

sent_is : (c : Cast) (moves : List Move) (slots : List (Option (List ℕ))) (k : ℕ) → ((j : ℕ) → IfSome (slice_get slots j) (λ slot. slot ≡ told moves (j + k)))
    → sent_from k slots ≡ filter_map (reported c (told moves)) (range_with_len k (length slots))
sent_is c moves [] k all = refl
sent_is c moves (slot ∷ slots) k all =
    sent_one c moves k slot slots (filter_map (reported c (told moves)) (range_with_len (k + 1) (length slots))) (let n : 0 + k ≡ k = omega arith in all 0 ∙ ap (told moves) n)
    (sent_is c moves slots (k + 1) (λ j. let n : suc j + k ≡ j + (k + 1) = omega arith in subst (λ q. IfSome (slice_get slots j) (λ x. x ≡ told moves q)) n (all (suc j))))

pub same_report : (a a' b b' d d' : ℕ) (l l' : List Sent) → a ≡ a' → b ≡ b' → d ≡ d' → l ≡ l'
    → ◌≡◌ {A = Report} (record { turns = a; taken = b; passed = d; sent = l }) (record { turns = a'; taken = b'; passed = d'; sent = l' })
same_report a a' b b' d d' l l' p q r t = cc

module _ (c : Cast) (s : Course) (stage : Stage) (st : Stands c s stage) where
  firsts : first_stopped 0 stage.players.items ≡ first (λ role. option_map (Stopped role) (stuck c s.moves role)) (range_with_len 0 (length c.protocol.roles))
  firsts =
      stopped_first c s.moves stage.players.items 0 (λ j. let n : j ≡ 0 + j = omega arith in subst (λ q. IfSome (slice_get stage.players.items j) (IsPlayer c s.moves q)) n (st.players j))
      ∙ ap (λ n. first (λ role. option_map (Stopped role) (stuck c s.moves role)) (range_with_len 0 n)) st.count

  pub ends_stuck : (end : RehearseEnd) → Some end ≡ first_stopped 0 stage.players.items → end ≡ end_behind c s
  ends_stuck end e =
      ap (λ o. unwrap_or o (cond (is_complete c (turns_of s.moves) (length c.protocol.roles)) (AllDone (report c s)) (Partly (report c s)))) (e ∙ firsts)

  pub ends_told : (b : Bool) (r : Report) → None ≡ first_stopped 0 stage.players.items → b ≡ list_all is_done stage.players.items
      → r.turns ≡ stage.taken + stage.passed → r.taken ≡ stage.taken → r.passed ≡ stage.passed → r.sent ≡ sent_from 1 stage.told.items
      → cond b (AllDone r) (Partly r) ≡ end_behind c s
  ends_told b r none all turns taken passed sent =
      let complete : b ≡ is_complete c (turns_of s.moves) (length c.protocol.roles) = all ∙ sym (complete_is c s.moves stage.players.items st.players st.count) in
      let messages : r.sent ≡ all_reported c (told s.moves) =
      sent ∙ sent_is c s.moves stage.told.items 1 st.told ∙ ap (λ n. filter_map (reported c (told s.moves)) (range_with_len 1 n)) st.slots in
      let t1 : r.turns ≡ length s.moves + s.passed = turns ∙ ap (λ n. n + stage.passed) st.taken ∙ ap (λ n. length s.moves + n) st.passed in
      let t2 : r.taken ≡ length s.moves = taken ∙ st.taken in
      let t3 : r.passed ≡ s.passed = passed ∙ st.passed in
      let same : r ≡ report c s =
      same_report r.turns (length s.moves + s.passed) r.taken (length s.moves) r.passed s.passed r.sent (all_reported c (told s.moves)) t1 t2 t3 messages in
      ap (λ v. cond v (AllDone r) (Partly r)) complete
      ∙ ap (λ x. cond (is_complete c (turns_of s.moves) (length c.protocol.roles)) (AllDone x) (Partly x)) same
      ∙ ap (λ o. unwrap_or o (cond (is_complete c (turns_of s.moves) (length c.protocol.roles)) (AllDone (report c s)) (Partly (report c s)))) (none ∙ firsts)
