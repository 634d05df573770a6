-- The joint run of codes that fit is that of honest roles.
use Rattle.std.proofs.Common.{◌≡◌, ℕ, zero, suc, ◌+◌, ◌-◌, ◌<◌, ◌≤◌, List, [], ◌∷◌, ◌++◌, length, map, take, drop, Bool, true, false, cond, Option, Some, None, refl, sym, ap, ◌∙◌, subst, arith, append_assoc, length-append}
use Rattle.std.specs.Prelude.{filter, filter_map, count_by, slice_get, unwrap_or, option_map, option_and_then, ◌==◌, ◌&&◌, ◌||◌}
use Rattle.std.specs.Option.{option_map_or, option_or}
use Rattle.std.specs.List.{AllByRecursion, range_with_len, cons_option}
use Rattle.std.proofs.lemmas.Bool.{eqb-true}
use Rattle.std.proofs.lemmas.List.{append-nil, length-map, map-append}
use Rattle.anb_lemmas.proofs.Bools.{last_of_and}
use Rattle.anb_term.proofs.Lists.{slice_get-there}
use Rattle.anb_algebra.specs.ByteMeaning.{has_operator}
use Rattle.anb_seal.specs.Streams.{draw_of}
use Rattle.anb_plays.specs.Plans.{known}
use Rattle.anb_plays.specs.Plays.{Played, Play, done, ends}
use Rattle.anb_plays.specs.Honest.{honest_play, heard}
use Rattle.anb_plays.specs.Runs.{without_place}
use Rattle.anb_plays.specs.Statements.{HonestPlays}
use Rattle.anb_code.specs.CodeValue.{CodeValue}
use Rattle.anb_compile.specs.Laws.{FittingCodesPlay}
use Rattle.anb_compile.proofs.Protocols.{known_of_plan}
use Rattle.anb_compile.proofs.Events.{known_events}
use Rattle.anb_machine.specs.ByteRuns.{run_bytes}
use Rattle.anb_machine.specs.declared.turn.Halt.{Halt}
use Rattle.anb_protocol.specs.Choices.{first}
use Rattle.anb_protocol.specs.Laws.{HoldsOf, HonestAgrees}
use Rattle.anb_protocol.specs.Protocols.{ProtocolValue}
use Rattle.anb_protocol.specs.Texts.{known_by, known_terms}
use Rattle.anb_protocol.specs.Plans.{plan_of}
use Rattle.anb_protocol.specs.Plays.{events_of, honest_bytes, meaning_of, IsSendable, IsPlay}
use Rattle.anb_protocol.specs.Schedules.{Turn, next_of, turn_of, append_if, taken, was_sent}
use Rattle.anb_outcomes.specs.declared.rehearsals.Report.{Report}
use Rattle.anb_honest.specs.declared.report.RehearseEnd.{RehearseEnd}
use Rattle.anb_honest.specs.declared.report.RehearseEnd.TheVariants.{AllDone, Part, Stopped}
use Rattle.anb_honest.specs.Joint.{Cast, Course, Move, turns_of, bytes_of, is_report, is_receipt, gave, took, told, told_by, run_of, unreported, stuck, message_of, long_end, passes, moves_on, turn_with, walk, end_behind, init_of, is_complete, all_reported, reported, report, outset, joint}
use Rattle.anb_honest.specs.Honest.{AreHonest, term_at, is_heard, honest_message, honest_sent, long_turn, honest_end, honest_known, honest_taken, play_so_far}
use Rattle.anb_honest.specs.Laws.{IsFitting}
use Rattle.anb_honest.specs.Inside.{part_of}
use Rattle.anb_honest.proofs.Parts.{parts_are}
use Rattle.anb_honest.proofs.Turning.{ready_next, ready_sent}
use Rattle.anb_honest.proofs.Begun.{mapped_twice}
use Rattle.anb_honest.proofs.Ended.{same_report}
use Rattle.anb_honest.proofs.Scheduling.{is_of, hears, tells, InOrder, none_in_order, more_in_order, part_taken, new_with, new_turns, taken_is, taken_in_order, filter_both, plan_has, heard_first, told_next}
use Rattle.anb_honest.proofs.Playing.{never_stops, initial_honest, first_honest, events_formed, heard_all_formed, known_formed, atoms_good}

drop_first : {A : Type 0} (xs : List A) (n : ℕ) → slice_get (drop n xs) 0 ≡ slice_get xs n
drop_first [] zero = refl
drop_first [] (suc n) = refl
drop_first (x ∷ xs) zero = refl
drop_first (x ∷ xs) (suc n) = drop_first xs n

-- ---- one role's play

module _ (c : Cast) (atoms : ℕ → List ℕ) (are : AreHonest c atoms) (sendable : IsSendable c.protocol) (holds : HoldsOf c.protocol) (plays : HonestPlays (meaning_of c.protocol)) where
  pub play_is : (role n : ℕ) → role < length c.protocol.roles
      → IsPlay c.protocol role (map (honest_bytes c.protocol atoms) (known_by c.protocol role)) c.seed role
      (map (honest_bytes c.protocol atoms) (take n (heard (events_of c.protocol role)))) (honest_play (meaning_of c.protocol) atoms (events_of c.protocol role) n)
  play_is role n within =
      let p = c.protocol in
      let plan = events_of p role in
      let formed = events_formed (has_operator p.formats) p role holds.formed in
      let play = plays (draw_of c.seed role) atoms plan n (atoms_good c atoms are) (sendable role within) formed (λ i t e. are.made role i t within e) in
      let knows : known plan ≡ known_by p role = known_events (plan_of p role) ∙ known_of_plan p role in
      subst (λ ks. Play (meaning_of p) (draw_of c.seed role) plan (map (honest_bytes p atoms) ks) (map (honest_bytes p atoms) (take n (heard plan))) (honest_play (meaning_of p) atoms plan n)) knows play

-- ---- a role's part in the turns so far

module _ (p : ProtocolValue) (ts : List Turn) (order : InOrder p ts) (role : ℕ) where
  done_so_far : ℕ
  done_so_far = count_by (is_of role) ts

  own_parts : filter (is_of role) ts ≡ take (count_by (is_of role) ts) (filter_map (part_of role) (plan_of p role))
  own_parts = order role ∙ ap (take (count_by (is_of role) ts)) (sym (parts_are p role))

  heard_parts : filter (is_heard role) ts ≡ filter hears (take (count_by (is_of role) ts) (filter_map (part_of role) (plan_of p role)))
  heard_parts = filter_both (is_of role) hears ts ∙ ap (filter hears) own_parts

  told_parts : filter (λ (t : Turn). (t.role == role) && t.sends) ts ≡ filter tells (take (count_by (is_of role) ts) (filter_map (part_of role) (plan_of p role)))
  told_parts = filter_both (is_of role) tells ts ∙ ap (filter tells) own_parts

  -- the terms that the role took are the first that its plan hears
  pub terms_heard : map (λ (t : Turn). term_at p t.action) (filter (is_heard role) ts) ≡ take (length (filter (is_heard role) ts)) (heard (events_of p role))
  terms_heard =
      ap (map (λ (t : Turn). term_at p t.action)) heard_parts ∙ heard_first p role (plan_of p role) (count_by (is_of role) ts) (plan_has p role)
      ∙ ap (λ l. take (length l) (heard (events_of p role))) (sym heard_parts)

-- ---- the joint run

module _ (c : Cast) (atoms : ℕ → List ℕ) where
  abbrev pub move_of : Turn → Move
  move_of t = record { turn = t; bytes = honest_message c atoms t.action }

  turns_back : (ts : List Turn) → turns_of (map move_of ts) ≡ ts
  turns_back [] = refl
  turns_back (t ∷ ts) = ap (λ l. t ∷ l) (turns_back ts)

  took_honest : (role : ℕ) (ts : List Turn) → took (map move_of ts) role ≡ map (λ (t : Turn). honest_message c atoms t.action) (filter (is_heard role) ts)
  took_honest role [] = refl
  took_honest role (t ∷ ts) = by (is_heard role t) (took_honest role ts) where
    by : (b : Bool) → took (map move_of ts) role ≡ map (λ (x : Turn). honest_message c atoms x.action) (filter (is_heard role) ts)
        → bytes_of (cond b (record { turn = t; bytes = honest_message c atoms t.action } ∷ filter (is_receipt role) (map move_of ts)) (filter (is_receipt role) (map move_of ts)))
        ≡ map (λ (x : Turn). honest_message c atoms x.action) (cond b (t ∷ filter (is_heard role) ts) (filter (is_heard role) ts))
    by true ih = ap (λ l. honest_message c atoms t.action ∷ l) ih
    by false ih = ih

  gave_count : (role : ℕ) (ts : List Turn) → length (gave (map move_of ts) role) ≡ length (filter (λ (t : Turn). (t.role == role) && t.sends) ts)
  gave_count role [] = refl
  gave_count role (t ∷ ts) = by ((t.role == role) && t.sends) (gave_count role ts) where
    by : (b : Bool) → length (gave (map move_of ts) role) ≡ length (filter (λ (x : Turn). (x.role == role) && x.sends) ts)
        → length (bytes_of (cond b (record { turn = t; bytes = honest_message c atoms t.action } ∷ filter (is_report role) (map move_of ts)) (filter (is_report role) (map move_of ts))))
        ≡ length (cond b (t ∷ filter (λ (x : Turn). (x.role == role) && x.sends) ts) (filter (λ (x : Turn). (x.role == role) && x.sends) ts))
    by true ih = ap suc ih
    by false ih = ih

  told_honest : (ts : List Turn) (action : ℕ) → told (map move_of ts) action ≡ honest_sent c atoms ts action
  told_honest [] action = refl
  told_honest (t ∷ ts) action =
      ap (λ o. option_or o (told_by (record { turn = t; bytes = honest_message c atoms t.action }) action)) (told_honest ts action)
      ∙ by (was_sent ts action) (t.sends && (t.action == action)) refl
    where
      by : (w b : Bool) → (t.sends && (t.action == action)) ≡ b
          → option_or (cond w (Some (honest_message c atoms action)) None) (cond b (Some (honest_message c atoms t.action)) None) ≡ cond (b || w) (Some (honest_message c atoms action)) None
      by true true e = refl
      by true false e = refl
      by false true e = (let g : t.action ≡ action = eqb-true t.action action (last_of_and t.sends (t.action == action) e) in ap (λ a. Some (honest_message c atoms a)) g)
      by false false e = refl

  same_reported : (f g : ℕ → Option (List ℕ)) (ks : List ℕ) → ((k : ℕ) → f k ≡ g k) → filter_map (reported c f) ks ≡ filter_map (reported c g) ks
  same_reported f g [] e = refl
  same_reported f g (k ∷ ks) e =
      ap (λ o. cons_option (option_map (λ bytes. record { action = k; bytes = bytes }) o) (filter_map (reported c f) ks)) (e k)
      ∙ ap (cons_option (reported c g k)) (same_reported f g ks e)

  abbrev rep : ℕ → List Turn → Report
  rep n ts = record { turns = n; taken = length ts; passed = n - length ts; sent = all_reported c (honest_sent c atoms ts) }

  abbrev closing : ℕ → List Turn → RehearseEnd
  closing n ts = cond (is_complete c ts (length c.protocol.roles)) (AllDone (rep n ts)) (Part (rep n ts))

  -- where the joint run stands after these turns
  pub record Good (s : Course) (ts : List Turn) : Type 0 where
    pub moves : s.moves ≡ map move_of ts
    pub order : InOrder c.protocol ts

  module _ (are : AreHonest c atoms) (fit : IsFitting c) (sendable : IsSendable c.protocol) (holds : HoldsOf c.protocol)
      (plays : HonestPlays (meaning_of c.protocol)) (agrees : HonestAgrees c.protocol) (fitting : FittingCodesPlay c.protocol) where
    -- each role's run is honest
    module _ (s : Course) (ts : List Turn) (good : Good s ts) (role : ℕ) (within : role < length c.protocol.roles) where
      n : ℕ
      n = length (filter (is_heard role) ts)

      took_is : took s.moves role ≡ map (honest_bytes c.protocol atoms) (take (length (filter (is_heard role) ts)) (heard (events_of c.protocol role)))
      took_is =
          ap (λ l. took l role) good.moves ∙ took_honest role ts
          ∙ sym (mapped_twice (honest_bytes c.protocol atoms) (λ (t : Turn). term_at c.protocol t.action) (filter (is_heard role) ts))
          ∙ ap (map (honest_bytes c.protocol atoms)) (terms_heard c.protocol ts good.order role)

      run_is : without_place (run_of c s.moves role) ≡ honest_play (meaning_of c.protocol) atoms (events_of c.protocol role) (length (filter (is_heard role) ts))
      run_is =
          let p = c.protocol in
          let there = slice_get-there c.codes role (omega (arith, fit.count)) in
          let init = map (honest_bytes p atoms) (known_by p role) in
          let arrivals = map (honest_bytes p atoms) (take (length (filter (is_heard role) ts)) (heard (events_of p role))) in
          let q = honest_play (meaning_of p) atoms (events_of p role) (length (filter (is_heard role) ts)) in
          let over : run_of c s.moves role ≡ run_bytes there.0 init c.seed role arrivals =
          ap (λ o. option_map_or (λ (x : CodeValue). run_bytes x (init_of c role) c.seed role (took s.moves role)) o (ends done [])) there.1
          ∙ ap (λ i. run_bytes there.0 i c.seed role (took s.moves role)) (initial_honest c atoms are role) ∙ ap (run_bytes there.0 init c.seed role) took_is in
          let strings = (agrees atoms (known_by p role) are.strings (known_formed (has_operator p.formats) p role holds.formed)).0 in
          let heard_strings = (agrees atoms (take (length (filter (is_heard role) ts)) (heard (events_of p role))) are.strings (heard_all_formed (has_operator p.formats) p role (length (filter (is_heard role) ts)) holds.formed)).0 in
          let law = fitting role there.0 init c.seed role arrivals (fit.each role there.0 there.1) (length-map (known_by p role) (honest_bytes p atoms)) strings heard_strings in
          ap without_place over ∙ sym (law.1 q (play_is c atoms are sendable holds plays role (length (filter (is_heard role) ts)) within))

      pub none_stuck : stuck c s.moves role ≡ None
      none_stuck = never_stops (meaning_of c.protocol) atoms (events_of c.protocol role) 0 (length (filter (is_heard role) ts)) (unreported c s.moves role) (run_of c s.moves role).end (ap (λ (q : Played (List ℕ)). q.end) run_is)

      pub message_next : (t : Turn) → turn_of c.protocol ts role ≡ Some t → t.sends ≡ true → slice_get (unreported c s.moves role) 0 ≡ Some (honest_message c atoms t.action)
      message_next t e sends =
          let p = c.protocol in
          let ps = filter_map (part_of role) (plan_of p role) in
          let k = count_by (is_of role) ts in
          let at : slice_get ps k ≡ Some t = ap (λ l. slice_get l k) (parts_are p role) ∙ ready_next ts (next_of p ts role) t e in
          let sent : (run_of c s.moves role).sent ≡ (honest_play (meaning_of p) atoms (events_of p role) (length (filter (is_heard role) ts))).sent = ap (λ (q : Played (List ℕ)). q.sent) run_is in
          let count : length (gave s.moves role) ≡ length (filter tells (take k ps)) = ap (λ l. length (gave l role)) good.moves ∙ gave_count role ts ∙ ap length (told_parts p ts good.order role) in
          let heards : length (filter (is_heard role) ts) ≡ length (filter hears (take k ps)) = ap length (heard_parts p ts good.order role) in
          drop_first (run_of c s.moves role).sent (length (gave s.moves role)) ∙ ap (λ l. slice_get l (length (gave s.moves role))) sent
          ∙ ap (λ h. slice_get (honest_play (meaning_of p) atoms (events_of p role) h).sent (length (gave s.moves role))) heards
          ∙ ap (slice_get (honest_play (meaning_of p) atoms (events_of p role) (length (filter hears (take k ps)))).sent) count
          ∙ told_next p role (meaning_of p) atoms (plan_of p role) k 0 t (plan_has p role) at sends

    turn_is : (s : Course) (t : Turn) (b : List ℕ) (others : Course → RehearseEnd) → stuck c s.moves t.role ≡ None → message_of c s.moves t ≡ Some b
        → turn_with c s (Some t) others ≡ unwrap_or (cond t.sends (long_end t.action b) None) (others (moves_on s t b))
    turn_is s t b others h m =
        let E : Option Halt → Option (List ℕ) → RehearseEnd = λ x msg.
        unwrap_or (option_or (option_map (Stopped t.role) x) (cond t.sends (option_and_then (long_end t.action) msg) None)) (others (option_map_or (moves_on s t) msg s)) in
        ap (λ x. E x (message_of c s.moves t)) h ∙ ap (E None) m

    message_is : (s : Course) (ts : List Turn) → Good s ts → (t : Turn) → turn_of c.protocol ts t.role ≡ Some t → t.role < length c.protocol.roles → (b : Bool) → t.sends ≡ b
        → cond b (slice_get (unreported c s.moves t.role) 0) (told s.moves t.action) ≡ Some (honest_message c atoms t.action)
    message_is s ts good t e within true h = message_next s ts good t.role within t e h
    message_is s ts good t e within false h =
        ap (λ l. told l t.action) good.moves ∙ told_honest ts t.action
        ∙ ap (λ v. cond v (Some (honest_message c atoms t.action)) None) (ready_sent ts (next_of c.protocol ts t.role) t e h)

    takes : (s : Course) (ts : List Turn) → Good s ts → (t : Turn) → turn_of c.protocol ts t.role ≡ Some t → t.role < length c.protocol.roles → (others : Course → RehearseEnd)
        → turn_with c s (Some t) others ≡ unwrap_or (long_turn c atoms t) (others (moves_on s t (honest_message c atoms t.action)))
    takes s ts good t e within others =
        turn_is s t (honest_message c atoms t.action) others (none_stuck s ts good t.role within) (message_is s ts good t e within t.sends refl)

    moved : (s : Course) (ts : List Turn) (role : ℕ) (t : Turn) → Good s ts → turn_of c.protocol ts role ≡ Some t → Good (moves_on s t (honest_message c atoms t.action)) (ts ++ t ∷ [])
    moved s ts role t good e = record {
      moves = ap (λ l. l ++ record { turn = t; bytes = honest_message c atoms t.action } ∷ []) good.moves ∙ sym (map-append move_of ts (t ∷ []));
      order = more_in_order c.protocol ts role t good.order e;
    }

    all_free : (s : Course) (ts : List Turn) → Good s ts → (roles : List ℕ) → AllByRecursion (λ role. role < length c.protocol.roles) roles
        → first (λ role. option_map (Stopped role) (stuck c s.moves role)) roles ≡ None
    all_free s ts good [] all = refl
    all_free s ts good (role ∷ roles) all =
        ap (λ h. option_or (option_map (Stopped role) h) (first (λ r. option_map (Stopped r) (stuck c s.moves r)) roles)) (none_stuck s ts good role all.0)
        ∙ all_free s ts good roles all.1

    below : (k n m : ℕ) → k + n ≤ m → AllByRecursion (λ role. role < m) (range_with_len k n)
    below k zero m h = tt
    below k (suc n) m h = (omega arith, below (k + 1) n m (omega arith))

    ended : (s : Course) (ts : List Turn) (total : ℕ) → Good s ts → length s.moves + s.passed ≡ total → end_behind c s ≡ closing total ts
    ended s ts total good count =
        let turns : turns_of s.moves ≡ ts = ap turns_of good.moves ∙ turns_back ts in
        let long : length s.moves ≡ length ts = ap length good.moves ∙ length-map ts move_of in
        let same : report c s ≡ rep total ts =
        same_report (length s.moves + s.passed) total (length s.moves) (length ts) s.passed (total - length ts) (all_reported c (told s.moves)) (all_reported c (honest_sent c atoms ts))
        count long (omega arith) (same_reported (told s.moves) (honest_sent c atoms ts) (range_with_len 1 (length c.protocol.actions)) (λ k. ap (λ l. told l k) good.moves ∙ told_honest ts k)) in
        ap (λ o. unwrap_or o (cond (is_complete c (turns_of s.moves) (length c.protocol.roles)) (AllDone (report c s)) (Part (report c s))))
        (all_free s ts good (range_with_len 0 (length c.protocol.roles)) (below 0 (length c.protocol.roles) (length c.protocol.roles) (omega arith)))
        ∙ ap (λ l. cond (is_complete c l (length c.protocol.roles)) (AllDone (report c s)) (Part (report c s))) turns
        ∙ ap (λ r. cond (is_complete c ts (length c.protocol.roles)) (AllDone r) (Part r)) same

    or_first : (o : Option RehearseEnd) (rest : Option RehearseEnd) (x y : RehearseEnd) → x ≡ unwrap_or rest y → unwrap_or o x ≡ unwrap_or (option_or o rest) y
    or_first None rest x y e = e
    or_first (Some z) rest x y e = refl

    walks : (turns : List ℕ) (s : Course) (ts : List Turn) (total : ℕ) → Good s ts → length s.moves + s.passed + length turns ≡ total
        → AllByRecursion (λ role. role < length c.protocol.roles) turns
        → walk c s turns ≡ unwrap_or (first (long_turn c atoms) (new_turns c.protocol ts turns)) (closing total (ts ++ new_turns c.protocol ts turns))
    walks [] s ts total good count all = ended s ts total good (omega (arith, count)) ∙ ap (closing total) (sym (append-nil ts))
    walks (role ∷ turns) s ts total good count all =
        ap (λ l. turn_with c s (turn_of c.protocol l role) (λ next. walk c next turns)) (ap turns_of good.moves ∙ turns_back ts)
        ∙ by (turn_of c.protocol ts role) refl (λ s' ts'. walks turns s' ts' total)
      where
        by : (o : Option Turn) → turn_of c.protocol ts role ≡ o
            → ((s' : Course) (ts' : List Turn) → Good s' ts' → length s'.moves + s'.passed + length turns ≡ total → AllByRecursion (λ r. r < length c.protocol.roles) turns
            → walk c s' turns ≡ unwrap_or (first (long_turn c atoms) (new_turns c.protocol ts' turns)) (closing total (ts' ++ new_turns c.protocol ts' turns)))
            → turn_with c s o (λ next. walk c next turns)
            ≡ unwrap_or (first (long_turn c atoms) (new_with o (new_turns c.protocol (append_if ts o) turns))) (closing total (ts ++ new_with o (new_turns c.protocol (append_if ts o) turns)))
        by None e ih = ih (passes s) ts (record { moves = good.moves; order = good.order }) (omega (arith, count)) all.1
        by (Some t) e ih =
            let part = part_taken c.protocol ts role t e in
            let here : turn_of c.protocol ts t.role ≡ Some t = subst (λ r. turn_of c.protocol ts r ≡ Some t) (sym part.own) e in
            let within : t.role < length c.protocol.roles = subst (λ r. r < length c.protocol.roles) (sym part.own) all.0 in
            let b = honest_message c atoms t.action in
            let rest = new_turns c.protocol (ts ++ t ∷ []) turns in
            let on = ih (moves_on s t b) (ts ++ t ∷ []) (moved s ts role t good e) (omega (arith, count, length-append s.moves (record { turn = t; bytes = b } ∷ []))) all.1 in
            takes s ts good t here within (λ next. walk c next turns)
            ∙ or_first (long_turn c atoms t) (first (long_turn c atoms) rest) (walk c (moves_on s t b) turns) (closing total (ts ++ t ∷ rest))
            (on ∙ ap (λ l. unwrap_or (first (long_turn c atoms) rest) (closing total l)) (append_assoc ts (t ∷ []) rest))

    pub rehearsed : (turns : List ℕ) → AllByRecursion (λ role. role < length c.protocol.roles) turns → joint c turns ≡ honest_end c atoms turns
    rehearsed turns all =
        let went = walks turns outset [] (length turns) (record { moves = refl; order = none_in_order c.protocol }) (omega arith) all in
        let is : taken c.protocol turns ≡ new_turns c.protocol [] turns = taken_is c.protocol [] turns in
        ap (λ o. unwrap_or o (walk c outset turns)) (first_honest c atoms are)
        ∙ ap (unwrap_or (first (λ t. long_end 0 (honest_bytes c.protocol atoms t)) (known_terms c.protocol)))
        (went ∙ ap (λ l. unwrap_or (first (long_turn c atoms) l) (closing (length turns) l)) (sym is))

-- ---- plays

module _ (c : Cast) (atoms : ℕ → List ℕ) (are : AreHonest c atoms) (sendable : IsSendable c.protocol) (holds : HoldsOf c.protocol) (plays : HonestPlays (meaning_of c.protocol)) where
  pub play_honest : (role : ℕ) (turns : List ℕ) → role < length c.protocol.roles
      → IsPlay c.protocol role (honest_known c atoms role) c.seed role (honest_taken c atoms role turns) (play_so_far c atoms role turns)
  play_honest role turns within =
      let p = c.protocol in
      let ts = taken p turns in
      let n = length (filter (is_heard role) ts) in
      let order = taken_in_order p [] turns (none_in_order p) in
      let is : map (honest_bytes p atoms) (take n (heard (events_of p role))) ≡ honest_taken c atoms role turns =
      ap (map (honest_bytes p atoms)) (sym (terms_heard p ts order role)) ∙ mapped_twice (honest_bytes p atoms) (λ (t : Turn). term_at p t.action) (filter (is_heard role) ts) in
      subst (λ l. IsPlay p role (honest_known c atoms role) c.seed role l (play_so_far c atoms role turns)) is (play_is c atoms are sendable holds plays role n within)
