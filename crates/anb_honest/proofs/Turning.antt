-- What one turn makes of a joint run.
use Rattle.std.proofs.Common.{◌≡◌, ℕ, ◌+◌, ◌<◌, ◌≤◌, List, [], ◌∷◌, ◌++◌, length, Bool, true, false, cond, Option, Some, None, refl, sym, ap, ◌∙◌, subst, arith, length-append}
use Rattle.std.specs.Prelude.{IfSome, slice_get, slice_set, option_map, option_and_then, unwrap_or, ◌||◌}
use Rattle.std.specs.Option.{option_or, option_map_or}
use Rattle.std.proofs.lemmas.Option.{slice_get_within}
use Rattle.anb_base.specs.declared.TheConstants.{ARRIVAL}
use Rattle.anb_plays.specs.Plays.{Played, End, stopped, waiting, done, ends, says}
use Rattle.anb_machine.specs.Machines.{gives}
use Rattle.anb_machine.specs.declared.turn.Halt.{Halt}
use Rattle.std.proofs.lemmas.Bool.Decides.{nat_tests}
use Rattle.anb_lemmas.proofs.Lists.{set_long}
use Rattle.anb_protocol.specs.Schedules.{Turn, next_of, if_ready, turn_of, was_sent}
use Rattle.anb_honest.specs.declared.player.Player.{Player}
use Rattle.anb_honest.specs.declared.stage.Stage.{Stage}
use Rattle.anb_honest.specs.declared.report.RehearseEnd.{RehearseEnd}
use Rattle.anb_honest.specs.declared.report.RehearseEnd.TheVariants.{Stopped, LongMessage}
use Rattle.anb_honest.specs.Joint.{Cast, Course, Move, turns_of, told, unreported, halt_behind, stuck, is_long, long_end, moves_on, passes, turn_with}
use Rattle.anb_honest.specs.Acting.{StopsWith}
use Rattle.anb_honest.specs.Inside.{IsPlayer, IsShort, Stands, GoesOn, Takes, turn_at}
use Rattle.anb_honest.proofs.Standing.{unreported_is, stuck_is, told_player, heard_player, players_moved, slots_told, slots_short, slots_heard}

-- a turn that is taken is the role's next
pub ready_next : (taken : List Turn) (o : Option Turn) (t : Turn) → option_and_then (if_ready taken) o ≡ Some t → o ≡ Some t
ready_next taken None t e = cc
ready_next taken (Some u) t e = by (u.sends || was_sent taken u.action) e where
  by : (b : Bool) → cond b (Some u) None ≡ Some t → Some u ≡ Some t
  by true f = f
  by false f = cc

-- and what is received was sent
pub ready_sent : (taken : List Turn) (o : Option Turn) (t : Turn) → option_and_then (if_ready taken) o ≡ Some t → t.sends ≡ false → was_sent taken t.action ≡ true
ready_sent taken None t e f = cc
ready_sent taken (Some u) t e f = by u.sends (was_sent taken u.action) refl refl e where
  by : (b v : Bool) → u.sends ≡ b → was_sent taken u.action ≡ v → cond (b || v) (Some u) None ≡ Some t → was_sent taken t.action ≡ true
  by true v hb hv g = (let s : u ≡ t = cc in let q : u.sends ≡ false = subst (λ (x : Turn). x.sends ≡ false) (sym s) f in cc)
  by false true hb hv g = (let s : u ≡ t = cc in subst (λ (x : Turn). was_sent taken x.action ≡ true) s hv)
  by false false hb hv g = cc

-- ---- the definition's turn, by what is known of it

module _ (c : Cast) (s : Course) (role action : ℕ) (others : Course → RehearseEnd) where
  told_turn : Option Halt → Option (List ℕ) → RehearseEnd
  told_turn h m =
      unwrap_or (option_or (option_map (Stopped role) h) (option_and_then (long_end action) m))
      (others (option_map_or (moves_on s (turn_at role action true)) m s))

  heard_turn : Option Halt → Option (List ℕ) → RehearseEnd
  heard_turn h m = unwrap_or (option_or (option_map (Stopped role) h) None) (others (option_map_or (moves_on s (turn_at role action false)) m s))

  pub turn_told : (b : List ℕ) → stuck c s.moves role ≡ None → slice_get (unreported c s.moves role) 0 ≡ Some b → is_long b ≡ false
      → turn_with c s (Some (turn_at role action true)) others ≡ others (moves_on s (turn_at role action true) b)
  unfolding told_turn
  turn_told b h m short =
      ap (λ x. told_turn x (slice_get (unreported c s.moves role) 0)) h ∙ ap (told_turn None) m
      ∙ ap (λ v. unwrap_or (cond v (Some (LongMessage action (length b))) None) (others (moves_on s (turn_at role action true) b))) short

  pub turn_long : (b : List ℕ) → stuck c s.moves role ≡ None → slice_get (unreported c s.moves role) 0 ≡ Some b → is_long b ≡ true
      → turn_with c s (Some (turn_at role action true)) others ≡ LongMessage action (length b)
  unfolding told_turn
  turn_long b h m long =
      ap (λ x. told_turn x (slice_get (unreported c s.moves role) 0)) h ∙ ap (told_turn None) m
      ∙ ap (λ v. unwrap_or (cond v (Some (LongMessage action (length b))) None) (others (moves_on s (turn_at role action true) b))) long

  pub turn_heard : (b : List ℕ) → stuck c s.moves role ≡ None → told s.moves action ≡ Some b
      → turn_with c s (Some (turn_at role action false)) others ≡ others (moves_on s (turn_at role action false) b)
  unfolding heard_turn
  turn_heard b h m = ap (λ x. heard_turn x (told s.moves action)) h ∙ ap (heard_turn None) m

  pub turn_stuck : (sends : Bool) (halt : Halt) → stuck c s.moves role ≡ Some halt → turn_with c s (Some (turn_at role action sends)) others ≡ Stopped role halt
  unfolding told_turn heard_turn
  turn_stuck true halt h = ap (λ x. told_turn x (slice_get (unreported c s.moves role) 0)) h
  turn_stuck false halt h = ap (λ x. heard_turn x (told s.moves action)) h

no_halt : (b : List ℕ) (bs : List (List ℕ)) (end : End) → halt_behind (b ∷ bs) end ≡ None
no_halt b bs (stopped e at) = refl
no_halt b bs (waiting e) = refl
no_halt b bs done = refl

short_is : (b : List ℕ) → length b ≤ ARRIVAL → is_long b ≡ false
short_is b h = grind (arith, nat_tests, h)

long_is : (b : List ℕ) → ARRIVAL < length b → is_long b ≡ true
long_is b h = grind (arith, nat_tests, h)

more_moves : (moves : List Move) (m : Move) (passed : ℕ) → length (moves ++ m ∷ []) + passed ≡ length moves + passed + 1
more_moves moves m passed = omega (arith, length-append moves (m ∷ []))

-- ---- a stage

module _ (c : Cast) (s : Course) (stage : Stage) (st : Stands c s stage) (role : ℕ) (pl : Player) (there : slice_get stage.players.items role ≡ Some pl) where
  pub player_is : IsPlayer c s.moves role pl
  player_is = subst (λ o. IfSome o (IsPlayer c s.moves role)) there (st.players role)

  -- its machine says a message first
  module _ (b : List ℕ) (later : Played (List ℕ)) (says_so : gives pl.machine [] ≡ says b later) where
    free_of : stuck c s.moves role ≡ None
    free_of = stuck_is c s.moves role pl player_is ∙ ap (λ (q : Played (List ℕ)). halt_behind q.sent q.end) says_so ∙ no_halt b later.sent later.end

    next_message : slice_get (unreported c s.moves role) 0 ≡ Some b
    next_message = ap (λ l. slice_get l 0) (unreported_is c s.moves role pl player_is) ∙ ap (λ (q : Played (List ℕ)). slice_get q.sent 0) says_so

    pub told_too_long : (action : ℕ) (new : Stage) → ARRIVAL < length b → Takes c s (Some (turn_at role action true)) new (Some (LongMessage action (length b)))
    told_too_long action new long others = turn_long c s role action others b free_of next_message (long_is b long)

    told_on : (action : ℕ) → length b ≤ ARRIVAL → (others : Course → RehearseEnd) → turn_with c s (Some (turn_at role action true)) others ≡ others (moves_on s (turn_at role action true) b)
    told_on action short others = turn_told c s role action others b free_of next_message (short_is b short)

  pub is_stopped : (action : ℕ) (sends : Bool) (halt : Halt) (new : Stage) → StopsWith (gives pl.machine) halt
      → Takes c s (Some (turn_at role action sends)) new (Some (Stopped role halt))
  is_stopped action sends halt new stops others =
      turn_stuck c s role action others sends halt (stuck_is c s.moves role pl player_is ∙ ap (λ (q : Played (List ℕ)). halt_behind q.sent q.end) (stops []))

  waits_free : (e : ℕ) → gives pl.machine [] ≡ ends (waiting e) [] → stuck c s.moves role ≡ None
  waits_free e w = stuck_is c s.moves role pl player_is ∙ ap (λ (q : Played (List ℕ)). halt_behind q.sent q.end) w

  -- the role reported a message
  tells_at : (k : ℕ) (b : List ℕ) (pl' : Player) (new : Stage) → turn_of c.protocol (turns_of s.moves) role ≡ Some (turn_at role (k + 1) true)
      → ((arrivals : List (List ℕ)) → gives pl.machine arrivals ≡ says b (gives pl'.machine arrivals))
      → pl'.parts.items ≡ pl.parts.items → pl'.done ≡ pl.done + 1 → length b ≤ ARRIVAL → k < length stage.told.items
      → new.players.items ≡ slice_set stage.players.items role pl' → new.told.items ≡ slice_set stage.told.items k (Some b)
      → new.taken ≡ stage.taken + 1 → new.passed ≡ stage.passed → GoesOn c s (Some (turn_at role (k + 1) true)) new
  tells_at k b pl' new due says_so parts count short within players slots taken passed =
      let next = ready_next (turns_of s.moves) (next_of c.protocol (turns_of s.moves) role) (turn_at role (k + 1) true) due in
      let m : Move = record { turn = turn_at role (k + 1) true; bytes = b } in
      let own = told_player c s.moves role (k + 1) b pl pl' player_is parts count next says_so in
      let all = players_moved c s.moves m stage.players.items role pl' refl (slice_get_within stage.players.items role pl there) st.players own in
      let tolds = slots_told s.moves role k b stage.told.items within st.told in
      let shorts = slots_short k b stage.told.items within short st.short in
      record {
        next = moves_on s (turn_at role (k + 1) true) b;
        stands = record {
          roles = st.roles;
          actions = st.actions;
          count = ap length players ∙ set_long stage.players.items role pl' ∙ st.count;
          players = subst (λ l. (q : ℕ) → IfSome (slice_get l q) (IsPlayer c (s.moves ++ m ∷ []) q)) (sym players) all;
          slots = ap length slots ∙ set_long stage.told.items k (Some b) ∙ st.slots;
          told = subst (λ l. (j : ℕ) → IfSome (slice_get l j) (λ slot. slot ≡ told (s.moves ++ m ∷ []) (j + 1))) (sym slots) tolds;
          short = subst (λ l. (j : ℕ) → IfSome (slice_get l j) IsShort) (sym slots) shorts;
          taken = omega (arith, taken, st.taken, length-append s.moves (m ∷ []));
          passed = passed ∙ st.passed;
        };
        on = told_on b (gives pl'.machine []) (says_so []) (k + 1) short;
        counted = more_moves s.moves m s.passed;
      }

  pub tells : (action k : ℕ) (b : List ℕ) (pl' : Player) (new : Stage) → k + 1 ≡ action → turn_of c.protocol (turns_of s.moves) role ≡ Some (turn_at role action true)
      → ((arrivals : List (List ℕ)) → gives pl.machine arrivals ≡ says b (gives pl'.machine arrivals))
      → pl'.parts.items ≡ pl.parts.items → pl'.done ≡ pl.done + 1 → length b ≤ ARRIVAL → k < length stage.told.items
      → new.players.items ≡ slice_set stage.players.items role pl' → new.told.items ≡ slice_set stage.told.items k (Some b)
      → new.taken ≡ stage.taken + 1 → new.passed ≡ stage.passed → GoesOn c s (Some (turn_at role action true)) new
  tells action k b pl' new is due says_so parts count short within players slots taken passed =
      subst (λ a. GoesOn c s (Some (turn_at role a true)) new) is
      (tells_at k b pl' new (due ∙ ap (λ a. Some (turn_at role a true)) (sym is)) says_so parts count short within players slots taken passed)

  -- the role took a message
  pub hears : (action : ℕ) (b : List ℕ) (pl' : Player) (new : Stage) → turn_of c.protocol (turns_of s.moves) role ≡ Some (turn_at role action false)
      → told s.moves action ≡ Some b → (e : ℕ) → gives pl.machine [] ≡ ends (waiting e) []
      → ((arrivals : List (List ℕ)) → gives pl.machine (b ∷ arrivals) ≡ gives pl'.machine arrivals)
      → pl'.parts.items ≡ pl.parts.items → pl'.done ≡ pl.done + 1
      → new.players.items ≡ slice_set stage.players.items role pl' → new.told.items ≡ stage.told.items
      → new.taken ≡ stage.taken + 1 → new.passed ≡ stage.passed → GoesOn c s (Some (turn_at role action false)) new
  hears action b pl' new due message e waits heard parts count players slots taken passed =
      let next = ready_next (turns_of s.moves) (next_of c.protocol (turns_of s.moves) role) (turn_at role action false) due in
      let m : Move = record { turn = turn_at role action false; bytes = b } in
      let own = heard_player c s.moves role action b pl pl' player_is parts count next e waits heard in
      let all = players_moved c s.moves m stage.players.items role pl' refl (slice_get_within stage.players.items role pl there) st.players own in
      let tolds = slots_heard s.moves role action b stage.told.items st.told in
      record {
        next = moves_on s (turn_at role action false) b;
        stands = record {
          roles = st.roles;
          actions = st.actions;
          count = ap length players ∙ set_long stage.players.items role pl' ∙ st.count;
          players = subst (λ l. (q : ℕ) → IfSome (slice_get l q) (IsPlayer c (s.moves ++ m ∷ []) q)) (sym players) all;
          slots = ap length slots ∙ st.slots;
          told = subst (λ l. (j : ℕ) → IfSome (slice_get l j) (λ slot. slot ≡ told (s.moves ++ m ∷ []) (j + 1))) (sym slots) tolds;
          short = subst (λ l. (j : ℕ) → IfSome (slice_get l j) IsShort) (sym slots) st.short;
          taken = omega (arith, taken, st.taken, length-append s.moves (m ∷ []));
          passed = passed ∙ st.passed;
        };
        on = λ others. turn_heard c s role action others b (waits_free e waits) message;
        counted = more_moves s.moves m s.passed;
      }

-- a turn that is passed over
pub passed_over : (c : Cast) (s : Course) (stage new : Stage) → Stands c s stage → new.players.items ≡ stage.players.items → new.told.items ≡ stage.told.items
    → new.taken ≡ stage.taken → new.passed ≡ stage.passed + 1 → GoesOn c s None new
passed_over c s stage new st players slots taken passed = record {
  next = passes s;
  stands = record {
    roles = st.roles;
    actions = st.actions;
    count = ap length players ∙ st.count;
    players = subst (λ l. (q : ℕ) → IfSome (slice_get l q) (IsPlayer c s.moves q)) (sym players) st.players;
    slots = ap length slots ∙ st.slots;
    told = subst (λ l. (j : ℕ) → IfSome (slice_get l j) (λ slot. slot ≡ told s.moves (j + 1))) (sym slots) st.told;
    short = subst (λ l. (j : ℕ) → IfSome (slice_get l j) IsShort) (sym slots) st.short;
    taken = taken ∙ st.taken;
    passed = passed ∙ ap (λ n. n + 1) st.passed;
  };
  on = λ others. refl;
  counted = omega arith;
}
