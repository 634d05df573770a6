-- Each role of a drill walks through its plan: it has what it must send.
use Rattle.std.proofs.Common.{◌≡◌, ◌⊎◌, ℕ, zero, suc, ◌+◌, ◌-◌, ◌%◌, ◌<◌, ◌≤◌, List, [], ◌∷◌, ◌++◌, length, map, Bool, true, false, cond, not, Some, refl, sym, ap, ◌∙◌, subst, arith, inl, inr, if◌then◌else◌}
use Rattle.std.specs.Prelude.{slice_get, ◌==◌, ◌&&◌, ◌||◌}
use Rattle.std.specs.Option.{option_map_or}
use Rattle.std.specs.List.{flat_map, range_with_len}
use Rattle.std.proofs.lemmas.Bool.{eqb-true, eqb-false, or_right}
use Rattle.std.proofs.lemmas.List.FromFn.{map-range_with_len_more}
use Rattle.std.proofs.lemmas.Bool.Decides.{nat_tests}
use Rattle.std.proofs.lemmas.List.{map-append}
use Rattle.anb_format.specs.Formats.{FormatValue}
use Rattle.anb_term.specs.declared.term.Op.{Op}
use Rattle.anb_term.specs.Agree.{HasRecipe}
use Rattle.anb_term.specs.Tree.{Tree, leaf}
use Rattle.anb_term.specs.Value.{label}
use Rattle.anb_algebra.specs.ByteMeaning.{has_operator}
use Rattle.anb_plays.specs.Plans.{Event, know, recv, known, CanSend, Sendable}
use Rattle.anb_gen.specs.Drill.{drill_narration, number_name}
use Rattle.anb_protocol.specs.declared.parts.Atom.{Atom}
use Rattle.anb_protocol.specs.Choices.{each_after}
use Rattle.anb_protocol.specs.Checks.{is_agent}
use Rattle.anb_protocol.specs.Protocols.{ActionValue, ProtocolValue, protocol_of}
use Rattle.anb_protocol.specs.Texts.{atoms_in, atoms_in_each, known_by, known_terms}
use Rattle.anb_protocol.specs.Plans.{PlanEvent, to_know, to_make, to_send, to_receive, events_at, is_made, made, messages, names_number_or_key, occurs, plan_of}
use Rattle.anb_protocol.specs.Plays.{event_of, events_of, IsSendable}
use Rattle.anb_protocol.proofs.PlanLaws.{events_are}
use Rattle.anb_drill.proofs.Names.{numbers}
use Rattle.anb_drill.proofs.Numbered.{all_actions, all_made, exchanged, first_action, last_action, last_atoms, mark, pair, sealed}
use Rattle.anb_drill.proofs.Sending.{exchange_has, has, is_among_made, last_has, made_has, number_had, pair_formats, seal_has, sends_first, still}
use Rattle.anb_drill.proofs.WellFormed.{known_to_both, knows_are, many, number_atoms, protocol_roles_are}

-- the protocol of a drill
abbrev pub drilled : ℕ → ProtocolValue
drilled n = protocol_of (drill_narration n)

pub formats_are_pairs : (n : ℕ) → (drilled n).formats ≡ pair_formats
unfolding protocol_of drill_narration
formats_are_pairs n = refl

-- ---- atoms

number_at : (from count j : ℕ) (ys : List Atom) → j < count → slice_get (map mark (numbers from count) ++ ys) j ≡ Some (mark (number_name (from + j)))
number_at from zero j ys less = absurd (omega (arith, less))
number_at from (suc count) zero ys less = let e : from ≡ from + 0 = omega arith in ap (λ i. Some (mark (number_name i))) e
number_at from (suc count) (suc j) ys less =
    let e : from + 1 + j ≡ from + suc j = omega arith in number_at (from + 1) count j ys (omega (arith, less)) ∙ ap (λ i. Some (mark (number_name i))) e

pub behind : {A : Type 0} (xs ys : List A) (i : ℕ) → slice_get (xs ++ ys) (length xs + i) ≡ slice_get ys i
behind [] ys i = let e : 0 + i ≡ i = omega arith in ap (slice_get ys) e
behind (x ∷ xs) ys i = let e : suc (length xs) + i ≡ suc (length xs + i) = omega arith in ap (slice_get (x ∷ (xs ++ ys))) e ∙ behind xs ys i

is_number : (n i : ℕ) → i ≤ n → names_number_or_key (drilled n) (2 + i) ≡ true
unfolding protocol_of drill_narration
is_number n i within =
    let at : slice_get (number_atoms n ++ last_atoms) i ≡ Some (mark (number_name (0 + i))) = number_at 0 (n + 1) i last_atoms (omega (arith, within)) in
    let e : 2 + i ≡ suc (suc i) = omega arith in
    ap (λ k. option_map_or (λ (x : Atom). not (is_agent x.sort)) (slice_get (drilled n).atoms k) false) e ∙ ap (λ o. option_map_or (λ (x : Atom). not (is_agent x.sort)) o false) at

is_last : (n : ℕ) → names_number_or_key (drilled n) (n + 4) ≡ true
unfolding protocol_of drill_narration
is_last n =
    let e : n + 4 ≡ suc (suc (length (number_atoms n) + 1)) = omega (arith, many n) in
    ap (λ k. option_map_or (λ (x : Atom). not (is_agent x.sort)) (slice_get (drilled n).atoms k) false) e
    ∙ ap (λ o. option_map_or (λ (x : Atom). not (is_agent x.sort)) o false) (behind (number_atoms n) last_atoms 1)

-- ---- what is new

none_of : (n a : ℕ) → (0 ≡ a → ⊥) → (1 ≡ a → ⊥) → (n + 3 ≡ a → ⊥) → occurs (known_terms (drilled n)) a ≡ false
none_of n a b d e =
    let f : (0 == a) ≡ false = grind (arith, nat_tests, b) in
    let g : (1 == a) ≡ false = grind (arith, nat_tests, d) in
    let h : (n + 3 == a) ≡ false = grind (arith, nat_tests, e) in
    ap (λ (k : List (List Tree)). has (atoms_in_each (flat_map (λ (ts : List Tree). ts) k)) a) (knows_are n) ∙ rw (f, g, h) refl

-- the messages before an exchange
abbrev pub before_exchange : ℕ → ℕ → List ActionValue
before_exchange n j = first_action n ∷ map (exchanged n) (range_with_len 1 j)

abbrev pub one_way : ℕ → ℕ → Bool → ActionValue
one_way n i b = if b then record { from = 0; to = 1; message = sealed (n + 3) (pair i) } else record { from = 1; to = 0; message = sealed (n + 3) (pair i) }

pub message_of : (n i : ℕ) → (exchanged n i).message ≡ sealed (n + 3) (pair i)
message_of n i = by (i % 2 == 1) where
  by : (b : Bool) → (one_way n i b).message ≡ sealed (n + 3) (pair i)
  by true = refl
  by false = refl

none_sent : (n a from count : ℕ) → 1 ≤ from → from + count + 2 ≤ a → a < n + 3 → has (atoms_in_each (messages (map (exchanged n) (range_with_len from count)))) a ≡ false
none_sent n a from zero above below within = refl
none_sent n a from (suc count) above below within =
    let f : (n + 3 == a) ≡ false = grind (arith, nat_tests, within) in
    let g : (2 + from == a) ≡ false = grind (arith, nat_tests, below) in
    let h : (2 + (from - 1) == a) ≡ false = grind (arith, nat_tests, below, above) in
    ap (λ t. has (atoms_in t ++ atoms_in_each (messages (map (exchanged n) (range_with_len (from + 1) count)))) a) (message_of n from)
    ∙ rw (f, g, h) (none_sent n a (from + 1) count (omega arith) (omega (arith, below)) within)

all_new : (q k m : Bool) → q ≡ true → k ≡ false → m ≡ false → (q && not k && not m) ≡ true
all_new q k m e f g = rw (e, f, g) refl

-- number i is new at exchange i
number_new : (n i : ℕ) → 1 ≤ i → i ≤ n → is_made (drilled n) (before_exchange n (i - 1)) (2 + i) ≡ true
number_new n i above within =
    let f : (n + 4 == 2 + i) ≡ false = grind (arith, nat_tests, within) in
    let g : (2 == 2 + i) ≡ false = grind (arith, nat_tests, above) in
    all_new _ _ _ (is_number n i within) (none_of n (2 + i) (λ e. omega (arith, e)) (λ e. omega (arith, e, above)) (λ e. omega (arith, e, within)))
    (rw (f, g) (none_sent n (2 + i) 1 (i - 1) (omega arith) (omega (arith, above)) (omega (arith, within))))

pub number_made : (n i : ℕ) → 1 ≤ i → i ≤ n → has (made (drilled n) (before_exchange n (i - 1)) (exchanged n i).message) (2 + i) ≡ true
number_made n i above within =
    is_among_made (drilled n) (before_exchange n (i - 1)) (exchanged n i).message (2 + i) (ap (λ t. has (atoms_in t) (2 + i)) (message_of n i) ∙ stands) (number_new n i above within)
  where
    itself : (2 + i == 2 + i) ≡ true
    itself = grind (arith, nat_tests)

    stands : has (atoms_in (sealed (n + 3) (pair i))) (2 + i) ≡ true
    stands = or_right (n + 3 == 2 + i) _ (ap (λ b. b || (2 + (i - 1) == 2 + i || false)) itself)

-- and the key and the first number at the opening
pub key_made : (n : ℕ) → has (made (drilled n) [] (first_action n).message) (n + 4) ≡ true
key_made n =
    is_among_made (drilled n) [] (first_action n).message (n + 4) (ap (λ b. b || (2 == n + 4 || false)) itself)
    (all_new _ _ _ (is_last n) (none_of n (n + 4) (λ e. omega (arith, e)) (λ e. omega (arith, e)) (λ e. omega (arith, e))) refl)
  where
    itself : (n + 4 == n + 4) ≡ true
    itself = grind (arith, nat_tests)

pub first_made : (n : ℕ) → has (made (drilled n) [] (first_action n).message) 2 ≡ true
first_made n =
    is_among_made (drilled n) [] (first_action n).message 2 (or_right (n + 4 == 2) (true || false) refl)
    (all_new _ _ _ (is_number n 0 (omega arith)) (none_of n 2 (λ e. omega (arith, e)) (λ e. omega (arith, e)) (λ e. omega (arith, e))) refl)

-- ---- the walk

-- what a role has when so many exchanges are done
record Carries (r n : ℕ) (frame : List Tree) (j : ℕ) : Type 0 where
  key : HasRecipe (has_operator pair_formats) frame (leaf (n + 3))
  secret : r ≡ 0 → HasRecipe (has_operator pair_formats) frame (leaf (n + 4))
  number : (1 ≤ j) ⊎ (r ≡ 0) → HasRecipe (has_operator pair_formats) frame (leaf (2 + j))

carries_on : (r n : ℕ) (frame later : List Tree) (i : ℕ) → 1 ≤ i → Carries r n frame (i - 1) → HasRecipe (has_operator pair_formats) (frame ++ later) (leaf (2 + i)) → Carries r n (frame ++ later) i
carries_on r n frame later i above c one = record { key = still frame later (leaf (n + 3)) c.key; secret = λ e. still frame later (leaf (n + 4)) (c.secret e); number = λ _. one }

module _ (n : ℕ) (r : ℕ) where
  abbrev acts_of : List ActionValue → ActionValue → List PlanEvent
  acts_of before a = events_at (drilled n) r before a

  -- an exchange that the role sends
  send_exchange : (frame : List Tree) (i : ℕ) (rest : List Event) → 1 ≤ i → i ≤ n → (1 ≤ i - 1) ⊎ (r ≡ 0) → Carries r n frame (i - 1)
      → ((later : List Tree) → Carries r n (frame ++ later) i → CanSend (has_operator pair_formats) (frame ++ later) rest)
      → CanSend (has_operator pair_formats) frame
      (map event_of (map (λ x. to_make (leaf x)) (made (drilled n) (before_exchange n (i - 1)) (exchanged n i).message) ++ to_send (length (before_exchange n (i - 1)) + 1) (exchanged n i).message ∷ []) ++ rest)
  send_exchange frame i rest above within can c later =
      let names = made (drilled n) (before_exchange n (i - 1)) (exchanged n i).message in
      let one = made_has frame names (2 + i) (number_made n i above within) in
      let before = still frame (map leaf names) (leaf (2 + (i - 1))) (c.number can) in
      let key = still frame (map leaf names) (leaf (n + 3)) c.key in
      sends_first (has_operator pair_formats) frame names (length (before_exchange n (i - 1)) + 1) (exchanged n i).message rest
      (subst (λ (t : Tree). HasRecipe (has_operator pair_formats) (frame ++ map leaf names) t) (sym (message_of n i)) (exchange_has (frame ++ map leaf names) n i key one before))
      (later (map leaf names) (carries_on r n frame (map leaf names) i above c one))

  -- one that it receives
  hear_exchange : (frame : List Tree) (i : ℕ) (rest : List Event) → 1 ≤ i → Carries r n frame (i - 1)
      → ((later : List Tree) → Carries r n (frame ++ later) i → CanSend (has_operator pair_formats) (frame ++ later) rest)
      → CanSend (has_operator pair_formats) frame (recv (exchanged n i).message ∷ rest)
  hear_exchange frame i rest above c later =
      let here = subst (λ (t : Tree). HasRecipe (has_operator pair_formats) (frame ++ (exchanged n i).message ∷ []) t) (message_of n i) (last_has frame (exchanged n i).message) in
      let key = still frame ((exchanged n i).message ∷ []) (leaf (n + 3)) c.key in
      later ((exchanged n i).message ∷ []) (carries_on r n frame ((exchanged n i).message ∷ []) i above c (number_had (frame ++ (exchanged n i).message ∷ []) n i key here))

-- ---- all of it

one_more_before : (n i : ℕ) → 1 ≤ i → before_exchange n (i - 1) ++ exchanged n i ∷ [] ≡ before_exchange n (i + 1 - 1)
one_more_before n i above =
    let e : i + 1 - 1 ≡ i - 1 + 1 = omega (arith, above) in
    ap (λ l. first_action n ∷ l) (sym (map-range_with_len_more (exchanged n) 1 (i - 1) i (omega (arith, above)))) ∙ ap (λ j. before_exchange n j) (sym e)

-- the roles of a drill's exchange
pub ways : (n i : ℕ) → (((exchanged n i).from ≡ 0) × ((exchanged n i).to ≡ 1)) ⊎ (((exchanged n i).from ≡ 1) × ((exchanged n i).to ≡ 0) × ((i % 2 == 1) ≡ false))
ways n i = by (i % 2 == 1) refl where
  by : (b : Bool) → (i % 2 == 1) ≡ b → (((one_way n i b).from ≡ 0) × ((one_way n i b).to ≡ 1)) ⊎ (((one_way n i b).from ≡ 1) × ((one_way n i b).to ≡ 0) × ((i % 2 == 1) ≡ false))
  by true e = inl (refl, refl)
  by false e = inr (refl, refl, e)

not_first : (i : ℕ) → 1 ≤ i → (i % 2 == 1) ≡ false → 1 ≤ i - 1
not_first zero above e = absurd (omega (arith, above))
not_first (suc zero) above e = absurd (cc)
not_first (suc (suc i)) above e = omega arith

module _ (n : ℕ) (r : ℕ) where
  abbrev rest_of : List ActionValue → List ActionValue → List Event
  rest_of before acts = map event_of (each_after (events_at (drilled n) r) before acts)

  -- at an action the role sends, receives, or is idle; both roles of a drill are in each
  one_action : (frame : List Tree) (before acts : List ActionValue) (a : ActionValue) → (b d : Bool) → (a.from == r) ≡ b → (a.to == r) ≡ d → (b || d) ≡ true
      → (b ≡ true → CanSend (has_operator pair_formats) frame (map event_of (map (λ x. to_make (leaf x)) (made (drilled n) before a.message) ++ to_send (length before + 1) a.message ∷ []) ++ rest_of (before ++ a ∷ []) acts))
      → (b ≡ false → CanSend (has_operator pair_formats) frame (recv a.message ∷ rest_of (before ++ a ∷ []) acts))
      → CanSend (has_operator pair_formats) frame (rest_of before (a ∷ acts))
  one_action frame before acts a b d e f some sends hears =
      subst (λ (es : List Event). CanSend (has_operator pair_formats) frame es) (sym (map-append event_of (events_at (drilled n) r before a) (each_after (events_at (drilled n) r) (before ++ a ∷ []) acts)))
      (subst (λ (v : Bool). CanSend (has_operator pair_formats) frame (map event_of (cond v (map (λ x. to_make (leaf x)) (made (drilled n) before a.message) ++ to_send (length before + 1) a.message ∷ []) (cond (a.to == r) (to_receive (length before + 1) a.message ∷ []) [])) ++ rest_of (before ++ a ∷ []) acts)) (sym e)
      (subst (λ (v : Bool). CanSend (has_operator pair_formats) frame (map event_of (cond b (map (λ x. to_make (leaf x)) (made (drilled n) before a.message) ++ to_send (length before + 1) a.message ∷ []) (cond v (to_receive (length before + 1) a.message ∷ []) [])) ++ rest_of (before ++ a ∷ []) acts)) (sym f)
      (by b d some sends hears)))
    where
      by : (b d : Bool) → (b || d) ≡ true
          → (b ≡ true → CanSend (has_operator pair_formats) frame (map event_of (map (λ x. to_make (leaf x)) (made (drilled n) before a.message) ++ to_send (length before + 1) a.message ∷ []) ++ rest_of (before ++ a ∷ []) acts))
          → (b ≡ false → CanSend (has_operator pair_formats) frame (recv a.message ∷ rest_of (before ++ a ∷ []) acts))
          → CanSend (has_operator pair_formats) frame (map event_of (cond b (map (λ x. to_make (leaf x)) (made (drilled n) before a.message) ++ to_send (length before + 1) a.message ∷ []) (cond d (to_receive (length before + 1) a.message ∷ []) [])) ++ rest_of (before ++ a ∷ []) acts)
      by true d some sends hears = sends refl
      by false true some sends hears = hears refl
      by false false some sends hears = absurd (cc)

  -- the closing
  at_last : (frame : List Tree) (before : List ActionValue) → (r ≡ 0) ⊎ (r ≡ 1) → Carries r n frame n → CanSend (has_operator pair_formats) frame (rest_of before (last_action n ∷ []))
  at_last frame before role c = one_action frame before [] (last_action n) (0 == r) (1 == r) refl refl (in_it role) sends hears where
    in_it : (r ≡ 0) ⊎ (r ≡ 1) → ((0 == r) || (1 == r)) ≡ true
    in_it (inl e) = rw e refl
    in_it (inr e) = rw e refl

    sends : (0 == r) ≡ true → CanSend (has_operator pair_formats) frame (map event_of (map (λ x. to_make (leaf x)) (made (drilled n) before (leaf (n + 4))) ++ to_send (length before + 1) (leaf (n + 4)) ∷ []) ++ [])
    sends e =
        let names = made (drilled n) before (leaf (n + 4)) in
        sends_first (has_operator pair_formats) frame names (length before + 1) (leaf (n + 4)) [] (still frame (map leaf names) (leaf (n + 4)) (c.secret (sym (eqb-true 0 r e)))) tt

    hears : (0 == r) ≡ false → CanSend (has_operator pair_formats) frame (recv (leaf (n + 4)) ∷ [])
    hears e = tt

  abbrev others : ℕ → ℕ → List Event
  others i count = rest_of (before_exchange n (i - 1) ++ exchanged n i ∷ []) (map (exchanged n) (range_with_len (i + 1) count) ++ last_action n ∷ [])

  from_exchange : (frame : List Tree) (i count : ℕ) → (r ≡ 0) ⊎ (r ≡ 1) → 1 ≤ i → i + count ≡ n + 1 → Carries r n frame (i - 1)
      → CanSend (has_operator pair_formats) frame (rest_of (before_exchange n (i - 1)) (map (exchanged n) (range_with_len i count) ++ last_action n ∷ []))
  from_exchange frame i zero role above all c =
      let e : i - 1 ≡ n = omega (arith, all) in
      at_last frame (before_exchange n (i - 1)) role (subst (λ (j : ℕ). Carries r n frame j) e c)
  from_exchange frame i (suc count) role above all c =
      one_action frame (before_exchange n (i - 1)) (map (exchanged n) (range_with_len (i + 1) count) ++ last_action n ∷ []) (exchanged n i) ((exchanged n i).from == r) ((exchanged n i).to == r) refl refl (in_it role (ways n i))
      (λ sends. send_exchange n r frame i (others i count) above (omega (arith, all)) (able sends (ways n i)) c (λ later d. goes_on later (from_exchange (frame ++ later) (i + 1) count role (omega arith) (omega (arith, all)) (counted later d))))
      (λ hears. hear_exchange n r frame i (others i count) above c (λ later d. goes_on later (from_exchange (frame ++ later) (i + 1) count role (omega arith) (omega (arith, all)) (counted later d))))
    where
      counted : (later : List Tree) → Carries r n (frame ++ later) i → Carries r n (frame ++ later) (i + 1 - 1)
      counted later d = let e : i ≡ i + 1 - 1 = omega arith in subst (λ (j : ℕ). Carries r n (frame ++ later) j) e d

      goes_on : (later : List Tree) → CanSend (has_operator pair_formats) (frame ++ later) (rest_of (before_exchange n (i + 1 - 1)) (map (exchanged n) (range_with_len (i + 1) count) ++ last_action n ∷ []))
          → CanSend (has_operator pair_formats) (frame ++ later) (others i count)
      goes_on later d = subst (λ (before : List ActionValue). CanSend (has_operator pair_formats) (frame ++ later) (rest_of before (map (exchanged n) (range_with_len (i + 1) count) ++ last_action n ∷ []))) (sym (one_more_before n i above)) d

      in_it : (r ≡ 0) ⊎ (r ≡ 1) → (((exchanged n i).from ≡ 0) × ((exchanged n i).to ≡ 1)) ⊎ (((exchanged n i).from ≡ 1) × ((exchanged n i).to ≡ 0) × ((i % 2 == 1) ≡ false)) → (((exchanged n i).from == r) || ((exchanged n i).to == r)) ≡ true
      in_it (inl e) (inl way) = rw (e, way.0) refl
      in_it (inl e) (inr way) = rw (e, way.0, way.1) refl
      in_it (inr e) (inl way) = rw (e, way.0, way.1) refl
      in_it (inr e) (inr way) = rw (e, way.0) refl

      able : ((exchanged n i).from == r) ≡ true → (((exchanged n i).from ≡ 0) × ((exchanged n i).to ≡ 1)) ⊎ (((exchanged n i).from ≡ 1) × ((exchanged n i).to ≡ 0) × ((i % 2 == 1) ≡ false)) → (1 ≤ i - 1) ⊎ (r ≡ 0)
      able e (inl way) = inr (sym (eqb-true (exchanged n i).from r e) ∙ way.0)
      able e (inr way) = inl (not_first i above way.2)

-- ---- the whole plan

module _ (n : ℕ) (r : ℕ) (role : (r ≡ 0) ⊎ (r ≡ 1)) (more : List Tree) where
  abbrev begins : List Tree
  begins = known_to_both n ++ more

  key_known : HasRecipe (has_operator pair_formats) begins (leaf (n + 3))
  key_known = (label 2, refl)

  whole_plan : CanSend (has_operator pair_formats) begins (rest_of n r [] (all_actions n))
  whole_plan = one_action n r begins [] (map (exchanged n) (range_with_len 1 n) ++ last_action n ∷ []) (first_action n) (0 == r) (1 == r) refl refl (in_it role) sends hears where
    in_it : (r ≡ 0) ⊎ (r ≡ 1) → ((0 == r) || (1 == r)) ≡ true
    in_it (inl e) = rw e refl
    in_it (inr e) = rw e refl

    names : List ℕ
    names = made (drilled n) [] (first_action n).message

    behind_opening : (frame : List Tree) → Carries r n frame 0 → CanSend (has_operator pair_formats) frame (rest_of n r (first_action n ∷ []) (map (exchanged n) (range_with_len 1 n) ++ last_action n ∷ []))
    behind_opening frame c = from_exchange n r frame 1 n role (omega arith) (omega arith) c

    sends : (0 == r) ≡ true → CanSend (has_operator pair_formats) begins (map event_of (map (λ x. to_make (leaf x)) names ++ to_send 1 (first_action n).message ∷ []) ++ rest_of n r (first_action n ∷ []) (map (exchanged n) (range_with_len 1 n) ++ last_action n ∷ []))
    sends e =
        let l = made_has begins names (n + 4) (key_made n) in
        let one = made_has begins names 2 (first_made n) in
        sends_first (has_operator pair_formats) begins names 1 (first_action n).message _ (seal_has (begins ++ map leaf names) (n + 4) (leaf 2) l one)
        (behind_opening (begins ++ map leaf names) (record { key = still begins (map leaf names) (leaf (n + 3)) key_known; secret = λ _. l; number = λ _. one }))

    hears : (0 == r) ≡ false → CanSend (has_operator pair_formats) begins (recv (first_action n).message ∷ rest_of n r (first_action n ∷ []) (map (exchanged n) (range_with_len 1 n) ++ last_action n ∷ []))
    hears e =
        let other = eqb-false 0 r e in
        behind_opening (begins ++ (first_action n).message ∷ []) (record {
          key = still begins ((first_action n).message ∷ []) (leaf (n + 3)) key_known;
          secret = λ is. absurd (other (sym is));
          number = λ either. elim either [ inl more_than ↦ absurd (omega (arith, more_than)) | inr is ↦ absurd (other (sym is)) ];
        })

skip_known : (has_op : Op → Bool) (frame ts : List Tree) (es : List Event) → CanSend has_op frame es → CanSend has_op frame (map know ts ++ es)
skip_known has_op frame [] es can = can
skip_known has_op frame (t ∷ ts) es can = skip_known has_op frame ts es can

known_front : (ts : List Tree) (es : List Event) → known (map know ts ++ es) ≡ ts ++ known es
known_front [] es = refl
known_front (t ∷ ts) es = ap (λ l. t ∷ l) (known_front ts es)

events_known : (ts : List Tree) (es : List PlanEvent) → map event_of (map to_know ts ++ es) ≡ map know ts ++ map event_of es
events_known [] es = refl
events_known (t ∷ ts) es = ap (λ l. know t ∷ l) (events_known ts es)

known_is : (n r : ℕ) → (r ≡ 0) ⊎ (r ≡ 1) → known_by (drilled n) r ≡ known_to_both n
known_is n r (inl e) = ap (known_by (drilled n)) e ∙ ap (λ (k : List (List Tree)). option_map_or (λ (ts : List Tree). ts) (slice_get k 0) []) (knows_are n)
known_is n r (inr e) = ap (known_by (drilled n)) e ∙ ap (λ (k : List (List Tree)). option_map_or (λ (ts : List Tree). ts) (slice_get k 1) []) (knows_are n)

pub can_send_plan : (n : ℕ) → n ≤ 200 → (r : ℕ) → (r ≡ 0) ⊎ (r ≡ 1) → Sendable (has_operator pair_formats) (events_of (drilled n) r)
can_send_plan n most r role =
    let rest = rest_of n r [] (all_actions n) in
    let is : events_of (drilled n) r ≡ map know (known_to_both n) ++ rest =
    events_are (drilled n) r ∙ ap (λ (ts : List Tree). map know ts ++ map event_of (each_after (events_at (drilled n) r) [] (drilled n).actions)) (known_is n r role)
    ∙ ap (λ (acts : List ActionValue). map know (known_to_both n) ++ rest_of n r [] acts) (all_made n most) in
    subst (λ (plan : List Event). Sendable (has_operator pair_formats) plan) (sym is)
    (subst (λ (frame : List Tree). CanSend (has_operator pair_formats) frame (map know (known_to_both n) ++ rest)) (sym (known_front (known_to_both n) rest))
    (skip_known (has_operator pair_formats) (known_to_both n ++ known rest) (known_to_both n) rest (whole_plan n r role (known rest))))

pub two_roles : (r : ℕ) → r < 2 → (r ≡ 0) ⊎ (r ≡ 1)
two_roles zero less = inl refl
two_roles (suc zero) less = inr refl
two_roles (suc (suc r)) less = absurd (omega (arith, less))

pub sendable : (n : ℕ) → n ≤ 200 → IsSendable (drilled n)
sendable n most role less =
    let two : length (drilled n).roles ≡ 2 = ap length (protocol_roles_are n) in
    subst (λ (formats : List FormatValue). Sendable (has_operator formats) (events_of (drilled n) role)) (sym (formats_are_pairs n)) (can_send_plan n most role (two_roles role (omega (arith, less, two))))
