-- Roles and joint runs on their way, after one move more.
use Rattle.std.proofs.Common.{◌≡◌, ℕ, ◌+◌, ◌<◌, ◌≤◌, List, [], ◌∷◌, ◌++◌, length, map, drop, Bool, true, false, cond, Option, Some, None, refl, sym, ap, ◌∙◌, subst, inl, inr, ◌⊎◌, arith, append_assoc}
use Rattle.std.specs.Prelude.{count_by, IfSome, slice_get, slice_set, option_map, ◌==◌}
use Rattle.std.proofs.Math.Seq.{drop-append_seam}
use Rattle.std.proofs.lemmas.Bool.{eqb-true, eq-eqb, both_ways}
use Rattle.std.proofs.lemmas.List.{append-nil}
use Rattle.std.proofs.lemmas.Option.{slice_get-map, slice_get_within}
use Rattle.anb_base.specs.declared.TheConstants.{ARRIVAL}
use Rattle.anb_plays.specs.Plays.{Played, stopped, waiting, ends, says, SendsFirst}
use Rattle.anb_plays.proofs.Grows.{sends_saying, sends_on}
use Rattle.anb_machine.specs.Machines.{gives}
use Rattle.std.proofs.lemmas.Bool.Decides.{nat_tests}
use Rattle.anb_lemmas.proofs.Lists.{drop_at_got, set_gets, set_apart}
use Rattle.anb_protocol.specs.Schedules.{Turn, parts_of, next_of}
use Rattle.anb_honest.specs.declared.player.Player.{Player}
use Rattle.anb_honest.specs.Joint.{Cast, Move, turns_of, gave, took, told, run_over, run_of, unreported, halt_behind, stuck}
use Rattle.anb_honest.specs.Acting.{StopsNow, KeepsOrder, ActsFirst, halt_of}
use Rattle.anb_honest.specs.Inside.{IsPlayer, IsShort, turn_at, turn_value}
use Rattle.anb_honest.proofs.Moving.{told_last, turns_more, count_last, gave_more, gave_same, took_more, took_same}
use Rattle.anb_honest.proofs.Ordering.{order_same}

-- ---- one role

module _ (c : Cast) (moves : List Move) (role : ℕ) (pl : Player) (is : IsPlayer c moves role pl) where
  now_gives : SendsFirst (run_of c moves role) (gave moves role) (gives pl.machine [])
  now_gives = ap (run_over c role) (sym (append-nil (took moves role))) ∙ is.comes []

  pub unreported_is : unreported c moves role ≡ (gives pl.machine []).sent
  unreported_is =
      ap (λ (q : Played (List ℕ)). drop (length (gave moves role)) q.sent) now_gives ∙ drop-append_seam (gave moves role) (gives pl.machine []).sent

  end_is : (run_of c moves role).end ≡ (gives pl.machine []).end
  end_is = ap (λ (q : Played (List ℕ)). q.end) now_gives

  pub stuck_is : stuck c moves role ≡ halt_of pl
  stuck_is = ap (λ l. halt_behind l (run_of c moves role).end) unreported_is ∙ ap (halt_behind (gives pl.machine []).sent) end_is

  pub next_is : option_map (turn_value role) (slice_get pl.parts.items pl.done) ≡ next_of c.protocol (turns_of moves) role
  next_is =
      sym (slice_get-map (turn_value role) pl.parts.items pl.done) ∙ ap (λ l. slice_get l pl.done) is.parts
      ∙ ap (slice_get (parts_of c.protocol role)) is.done

  -- what the machine does next
  pub acts_next : (t : Turn) → next_of c.protocol (turns_of moves) role ≡ Some t
      → StopsNow (gives pl.machine) ⊎ ActsFirst t.sends (gives pl.machine) (KeepsOrder (drop (pl.done + 1) (parts_of c.protocol role)))
  acts_next t next =
      let at : slice_get (parts_of c.protocol role) pl.done ≡ Some t = ap (slice_get (parts_of c.protocol role)) is.done ∙ next in
      subst (λ l. KeepsOrder l (gives pl.machine)) (drop_at_got (parts_of c.protocol role) pl.done t at) is.order

mapped_some : {A B : Type 0} (f : A → B) (o : Option A) (y : B) → option_map f o ≡ Some y → (x : A) × (o ≡ Some x)
mapped_some f None y e = cc
mapped_some f (Some x) y e = (x, refl)

-- there is room for what is next
pub room_next : (c : Cast) (moves : List Move) (role : ℕ) (pl : Player) → IsPlayer c moves role pl → (t : Turn)
    → next_of c.protocol (turns_of moves) role ≡ Some t → pl.done < length pl.parts.items
room_next c moves role pl is t next =
    let there = mapped_some (turn_value role) (slice_get pl.parts.items pl.done) t (next_is c moves role pl is ∙ next) in
    slice_get_within pl.parts.items pl.done there.0 there.1

same_role : (role action : ℕ) (sends : Bool) (b : List ℕ) → ((turn_at role action sends).role == role) ≡ true
same_role role action sends b = eq-eqb role role refl

says_later : (b d : List ℕ) (p q : Played (List ℕ)) → says b p ≡ says d q → p ≡ q
says_later b d p q e = ap (λ (r : Played (List ℕ)). record r { sent = drop 1 r.sent }) e

module _ (c : Cast) (moves : List Move) (role action : ℕ) (b : List ℕ) (pl new : Player) (is : IsPlayer c moves role pl) where
  move : Bool → Move
  move sends = record { turn = turn_at role action sends; bytes = b }

  counted : (sends : Bool) → count_by (λ (t : Turn). t.role == role) (turns_of (moves ++ move sends ∷ [])) ≡ count_by (λ (t : Turn). t.role == role) (turns_of moves) + 1
  unfolding move
  counted sends =
      ap (count_by (λ (t : Turn). t.role == role)) (turns_more moves (move sends)) ∙ count_last (λ (t : Turn). t.role == role) (turns_of moves) (turn_at role action sends)
      ∙ ap (λ v. count_by (λ (t : Turn). t.role == role) (turns_of moves) + cond v 1 0) (eq-eqb role role refl)

  -- it reported a message
  pub told_player : new.parts.items ≡ pl.parts.items → new.done ≡ pl.done + 1 → next_of c.protocol (turns_of moves) role ≡ Some (turn_at role action true)
      → ((arrivals : List (List ℕ)) → gives pl.machine arrivals ≡ says b (gives new.machine arrivals))
      → IsPlayer c (moves ++ record { turn = turn_at role action true; bytes = b } ∷ []) role new
  unfolding move
  told_player parts count next says_so =
      let taken : took (moves ++ move true ∷ []) role ≡ took moves role = took_same moves (move true) role (rw (eq-eqb role role refl) refl) in
      let given : gave (moves ++ move true ∷ []) role ≡ gave moves role ++ b ∷ [] = gave_more moves (move true) role true (rw (eq-eqb role role refl) refl) in
      record {
        parts = ap (map (turn_value role)) parts ∙ is.parts;
        done = count ∙ ap (λ n. n + 1) is.done ∙ sym (counted true);
        within = (let room = room_next c moves role pl is (turn_at role action true) next in let long = ap length parts in omega arith);
        comes = λ more.
            subst (λ l. SendsFirst (run_over c role (l ++ more)) (gave (moves ++ move true ∷ []) role) (gives new.machine more)) (sym taken)
            (subst (λ l. SendsFirst (run_over c role (took moves role ++ more)) l (gives new.machine more)) (sym given)
            (sends_saying (run_over c role (took moves role ++ more)) (gives pl.machine more) (gives new.machine more) (gave moves role) b (is.comes more) (says_so more)));
        order = subst (λ n. KeepsOrder (drop n (parts_of c.protocol role)) (gives new.machine)) (sym count)
            (elim (acts_next c moves role pl is (turn_at role action true) next) [
              | inl s ↦ (let e : says b (gives new.machine []) ≡ ends (stopped s.0.event s.0.at) [] = sym (says_so []) ∙ s.1 [] in let f = ap (λ (q : Played (List ℕ)). q.sent) e in cc)
              | inr a ↦ order_same (drop (pl.done + 1) (parts_of c.protocol role)) a.1 (gives new.machine) (λ xs. says_later a.0 b (a.1 xs) (gives new.machine xs) (sym (a.2 xs) ∙ says_so xs)) a.3
            ]);
      }

  -- it took a message
  pub heard_player : new.parts.items ≡ pl.parts.items → new.done ≡ pl.done + 1 → next_of c.protocol (turns_of moves) role ≡ Some (turn_at role action false)
      → (e : ℕ) → gives pl.machine [] ≡ ends (waiting e) []
      → ((arrivals : List (List ℕ)) → gives pl.machine (b ∷ arrivals) ≡ gives new.machine arrivals)
      → IsPlayer c (moves ++ record { turn = turn_at role action false; bytes = b } ∷ []) role new
  unfolding move
  heard_player parts count next e waits heard =
      let taken : took (moves ++ move false ∷ []) role ≡ took moves role ++ b ∷ [] = took_more moves (move false) role true (rw (eq-eqb role role refl) refl) in
      let given : gave (moves ++ move false ∷ []) role ≡ gave moves role = gave_same moves (move false) role (rw (eq-eqb role role refl) refl) in
      record {
        parts = ap (map (turn_value role)) parts ∙ is.parts;
        done = count ∙ ap (λ n. n + 1) is.done ∙ sym (counted false);
        within = (let room = room_next c moves role pl is (turn_at role action false) next in let long = ap length parts in omega arith);
        comes = λ more.
            subst (λ l. SendsFirst (run_over c role (l ++ more)) (gave (moves ++ move false ∷ []) role) (gives new.machine more)) (sym taken)
            (subst (λ l. SendsFirst (run_over c role ((took moves role ++ b ∷ []) ++ more)) l (gives new.machine more)) (sym given)
            (subst (λ l. SendsFirst (run_over c role l) (gave moves role) (gives new.machine more)) (sym (append_assoc (took moves role) (b ∷ []) more))
            (sends_on (run_over c role (took moves role ++ b ∷ more)) (gives pl.machine (b ∷ more)) (gives new.machine more) (gave moves role) (is.comes (b ∷ more)) (heard more))));
        order = subst (λ n. KeepsOrder (drop n (parts_of c.protocol role)) (gives new.machine)) (sym count)
            (elim (acts_next c moves role pl is (turn_at role action false) next) [
              | inl s ↦ (let q : ends (waiting e) [] ≡ ends (stopped s.0.event s.0.at) [] = sym waits ∙ s.1 [] in let f = ap (λ (x : Played (List ℕ)). x.end) q in cc)
              | inr a ↦ order_same (drop (pl.done + 1) (parts_of c.protocol role)) (λ xs. gives pl.machine (b ∷ xs)) (gives new.machine) heard (a.2 b)
            ]);
      }

-- another role did something
pub other_player : (c : Cast) (moves : List Move) (m : Move) (role : ℕ) (pl : Player) → (m.turn.role == role) ≡ false → IsPlayer c moves role pl → IsPlayer c (moves ++ m ∷ []) role pl
other_player c moves m role pl other is =
    let taken : took (moves ++ m ∷ []) role ≡ took moves role = took_same moves m role (rw other refl) in
    let given : gave (moves ++ m ∷ []) role ≡ gave moves role = gave_same moves m role (rw other refl) in
    let count : count_by (λ (t : Turn). t.role == role) (turns_of (moves ++ m ∷ [])) ≡ count_by (λ (t : Turn). t.role == role) (turns_of moves) =
    ap (count_by (λ (t : Turn). t.role == role)) (turns_more moves m) ∙ count_last (λ (t : Turn). t.role == role) (turns_of moves) m.turn
    ∙ ap (λ v. count_by (λ (t : Turn). t.role == role) (turns_of moves) + cond v 1 0) other ∙ omega arith in
    record {
      parts = is.parts;
      done = is.done ∙ sym count;
      within = is.within;
      comes = λ more.
          subst (λ l. SendsFirst (run_over c role (l ++ more)) (gave (moves ++ m ∷ []) role) (gives pl.machine more)) (sym taken)
          (subst (λ l. SendsFirst (run_over c role (took moves role ++ more)) l (gives pl.machine more)) (sym given) (is.comes more));
      order = is.order;
    }

-- ---- all roles

pub players_moved : (c : Cast) (moves : List Move) (m : Move) (players : List Player) (role : ℕ) (new : Player) → m.turn.role ≡ role → role < length players
    → ((q : ℕ) → IfSome (slice_get players q) (IsPlayer c moves q)) → IsPlayer c (moves ++ m ∷ []) role new
    → (q : ℕ) → IfSome (slice_get (slice_set players role new) q) (IsPlayer c (moves ++ m ∷ []) q)
players_moved c moves m players role new own within all is q = by (role == q) refl where
  other : (o : Option Player) → (m.turn.role == q) ≡ false → IfSome o (IsPlayer c moves q) → IfSome o (IsPlayer c (moves ++ m ∷ []) q)
  other None e h = tt
  other (Some pl) e h = other_player c moves m q pl e h

  by : (b : Bool) → (role == q) ≡ b → IfSome (slice_get (slice_set players role new) q) (IsPlayer c (moves ++ m ∷ []) q)
  by true e =
      let g : role ≡ q = eqb-true role q e in
      subst (λ j. IfSome (slice_get (slice_set players role new) j) (IsPlayer c (moves ++ m ∷ []) j)) g
      (subst (λ o. IfSome o (IsPlayer c (moves ++ m ∷ []) role)) (sym (set_gets players role new within)) is)
  by false e =
      subst (λ o. IfSome o (IsPlayer c (moves ++ m ∷ []) q)) (sym (set_apart players role q new (λ g. both_ways (role == q) e (eq-eqb role q (sym g)))))
      (other (slice_get players q) (ap (λ n. n == q) own ∙ e) (all q))

-- the table of messages, with one message more
pub slots_told : (moves : List Move) (role k : ℕ) (b : List ℕ) (slots : List (Option (List ℕ))) → k < length slots
    → ((j : ℕ) → IfSome (slice_get slots j) (λ slot. slot ≡ told moves (j + 1)))
    → (j : ℕ) → IfSome (slice_get (slice_set slots k (Some b)) j) (λ slot. slot ≡ told (moves ++ record { turn = turn_at role (k + 1) true; bytes = b } ∷ []) (j + 1))
slots_told moves role k b slots within all j = by (k == j) refl where
  m : Move
  m = record { turn = turn_at role (k + 1) true; bytes = b }

  there : told (moves ++ record { turn = turn_at role (k + 1) true; bytes = b } ∷ []) (k + 1) ≡ Some b
  there = told_last moves (record { turn = turn_at role (k + 1) true; bytes = b }) (k + 1) ∙ rw (eq-eqb (k + 1) (k + 1) refl) refl

  elsewhere : (o : Option (Option (List ℕ))) → ((k + 1) == (j + 1)) ≡ false → IfSome o (λ slot. slot ≡ told moves (j + 1))
      → IfSome o (λ slot. slot ≡ told (moves ++ record { turn = turn_at role (k + 1) true; bytes = b } ∷ []) (j + 1))
  elsewhere None e h = tt
  elsewhere (Some slot) e h = h ∙ sym (told_last moves (record { turn = turn_at role (k + 1) true; bytes = b }) (j + 1) ∙ rw e refl)

  differ : (k == j) ≡ false → ((k + 1) == (j + 1)) ≡ false
  differ e = grind (arith, nat_tests, e)

  by : (v : Bool) → (k == j) ≡ v → IfSome (slice_get (slice_set slots k (Some b)) j) (λ slot. slot ≡ told (moves ++ record { turn = turn_at role (k + 1) true; bytes = b } ∷ []) (j + 1))
  by true e =
      let g : k ≡ j = eqb-true k j e in
      subst (λ i. IfSome (slice_get (slice_set slots k (Some b)) i) (λ slot. slot ≡ told (moves ++ record { turn = turn_at role (k + 1) true; bytes = b } ∷ []) (i + 1))) g
      (subst (λ o. IfSome o (λ slot. slot ≡ told (moves ++ record { turn = turn_at role (k + 1) true; bytes = b } ∷ []) (k + 1))) (sym (set_gets slots k (Some b) within)) (sym there))
  by false e =
      subst (λ o. IfSome o (λ slot. slot ≡ told (moves ++ record { turn = turn_at role (k + 1) true; bytes = b } ∷ []) (j + 1))) (sym (set_apart slots k j (Some b) (λ g. both_ways (k == j) e (eq-eqb k j (sym g)))))
      (elsewhere (slice_get slots j) (differ e) (all j))

pub slots_short : (k : ℕ) (b : List ℕ) (slots : List (Option (List ℕ))) → k < length slots → length b ≤ ARRIVAL
    → ((j : ℕ) → IfSome (slice_get slots j) IsShort) → (j : ℕ) → IfSome (slice_get (slice_set slots k (Some b)) j) IsShort
slots_short k b slots within short all j = by (k == j) refl where
  by : (v : Bool) → (k == j) ≡ v → IfSome (slice_get (slice_set slots k (Some b)) j) IsShort
  by true e =
      let g : k ≡ j = eqb-true k j e in
      subst (λ i. IfSome (slice_get (slice_set slots k (Some b)) i) IsShort) g (subst (λ o. IfSome o IsShort) (sym (set_gets slots k (Some b) within)) short)
  by false e = subst (λ o. IfSome o IsShort) (sym (set_apart slots k j (Some b) (λ g. both_ways (k == j) e (eq-eqb k j (sym g))))) (all j)

-- a receive tells nothing new
pub slots_heard : (moves : List Move) (role action : ℕ) (b : List ℕ) (slots : List (Option (List ℕ)))
    → ((j : ℕ) → IfSome (slice_get slots j) (λ slot. slot ≡ told moves (j + 1)))
    → (j : ℕ) → IfSome (slice_get slots j) (λ slot. slot ≡ told (moves ++ record { turn = turn_at role action false; bytes = b } ∷ []) (j + 1))
slots_heard moves role action b slots all j = by (slice_get slots j) (all j) where
  by : (o : Option (Option (List ℕ))) → IfSome o (λ slot. slot ≡ told moves (j + 1)) → IfSome o (λ slot. slot ≡ told (moves ++ record { turn = turn_at role action false; bytes = b } ∷ []) (j + 1))
  by None h = tt
  by (Some slot) h = h ∙ sym (told_last moves (record { turn = turn_at role action false; bytes = b }) (j + 1))
