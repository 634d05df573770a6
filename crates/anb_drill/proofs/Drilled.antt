-- Honest roles do all of a drill, with so many bytes.
use Rattle.std.proofs.Common.{◌≡◌, ◌⊎◌, ℕ, zero, suc, ◌+◌, ◌-◌, ◌*◌, ◌%◌, ◌<◌, ◌≤◌, List, [], ◌∷◌, ◌++◌, length, map, Bool, true, false, cond, Some, None, refl, sym, ap, ◌∙◌, subst, arith, inl, inr, append_assoc, append-nil, length-append, if◌then◌else◌}
use Rattle.std.specs.Prelude.{slice_get, nat_eq, nat_lt, filter_map, unwrap_or, option_map, ◌==◌, ◌||◌}
use Rattle.std.specs.Option.{option_map_or, option_or}
use Rattle.std.specs.List.{AllByRecursion, cons_option, flat_map, range_with_len, sum_by}
use Rattle.std.proofs.lemmas.Bool.{eqb-true}
use Rattle.std.proofs.lemmas.Bool.Decides.{nat_tests}
use Rattle.std.proofs.lemmas.List.{length-map}
use Rattle.std.proofs.lemmas.List.FromFn.{length-map-range_with_len}
use Rattle.std.proofs.lemmas.List.Sums.{sum_by-append, sum_by-cons}
use Rattle.std.proofs.lemmas.Grind.{flat_map-append}
use Rattle.sha2.proofs.Facts256.{length-sha256}
use Rattle.anb_base.specs.declared.TheConstants.{ARRIVAL}
use Rattle.anb_base.specs.declared.content.Sent.{Sent}
use Rattle.anb_base.specs.declared.content.Suite.TheVariants.{One}
use Rattle.anb_lemmas.proofs.Each.{each_in_both}
use Rattle.anb_format.specs.Fields.{leb128, leb128_within}
use Rattle.anb_format.specs.Formats.{FormatValue, format_bytes}
use Rattle.anb_term.specs.Value.{Meaning}
use Rattle.anb_seal.specs.Primitives.{hash_of, sealed as sealed_bytes, key_for}
use Rattle.anb_seal.proofs.Closed.{length-closed}
use Rattle.anb_term.specs.Tree.{Tree, leaf}
use Rattle.anb_algebra.specs.ByteMeaning.{byte_meaning}
use Rattle.anb_code.specs.CodeValue.{CodeValue}
use Rattle.anb_plays.specs.Honest.{honest}
use Rattle.anb_syntax.specs.Grammar.{ActionItem}
use Rattle.anb_gen.specs.Drill.{back, closing, drill_narration, exchange, exchange_message, forth, pair_format}
use Rattle.anb_gen.specs.Turns.{action_turns, turns_of}
use Rattle.anb_protocol.specs.Choices.{each_after, first}
use Rattle.anb_protocol.specs.Names.{distinct}
use Rattle.anb_protocol.specs.Protocols.{ActionValue, protocol_of}
use Rattle.anb_protocol.specs.Plays.{honest_bytes, meaning_of}
use Rattle.anb_protocol.specs.Schedules.{Turn, next_of, taken, was_sent}
use Rattle.anb_protocol.specs.Texts.{atom_name, atoms_in_each, known_names, known_terms}
use Rattle.anb_honest.specs.declared.report.RehearseEnd.TheVariants.{AllDone, Part, LongMessage}
use Rattle.anb_honest.specs.Honest.{AreHonest, honest_end, honest_message, honest_report, honest_sent, long_turn, term_at}
use Rattle.anb_honest.specs.Joint.{Cast, all_reported, cast, is_complete, known_atoms, long_end, reported}
use Rattle.anb_drill.specs.Laws.{AsksFor, IsDrilled}
use Rattle.anb_drill.proofs.Drawing.{key_drawn, number_drawn}
use Rattle.anb_drill.proofs.Numbered.{all_actions, all_made, exchanged, first_action, last_action, pair, sealed}
use Rattle.anb_drill.proofs.Scheduled.{IsBetween, both, done_by, how_many_taken, none_left, sides, taken_all}
use Rattle.anb_drill.proofs.Sending.{distinct_has, has, pair_formats}
use Rattle.anb_drill.proofs.Walking.{drilled, formats_are_pairs, message_of, one_way, ways}
use Rattle.anb_drill.proofs.WellFormed.{known_to_both, knows_are, protocol_roles_are}

-- ---- turns

abbrev Turned : ℕ → ActionItem → ActionValue → Type 0
Turned n item a = action_turns item ≡ sides a

exchange_turned : (n i : ℕ) → Turned n (exchange i) (exchanged n i)
exchange_turned n i = by (i % 2 == 1) where
  by : (b : Bool) → action_turns (if b then forth (exchange_message i) else back (exchange_message i)) ≡ sides (one_way n i b)
  by true = refl
  by false = refl

turned_range : (n from count : ℕ) → flat_map action_turns (map exchange (range_with_len from count)) ≡ flat_map sides (map (exchanged n) (range_with_len from count))
turned_range n from zero = refl
turned_range n from (suc count) =
    ap (λ l. l ++ flat_map action_turns (map exchange (range_with_len (from + 1) count))) (exchange_turned n from) ∙ ap (λ l. sides (exchanged n from) ++ l) (turned_range n (from + 1) count)

pub turns_are : (n : ℕ) → n ≤ 200 → turns_of (drill_narration n) ≡ flat_map sides (drilled n).actions
unfolding drill_narration
turns_are n most =
    ap (λ l. 0 ∷ 1 ∷ l) (flat_map-append action_turns (map exchange (range_with_len 1 n)) (closing ∷ []) ∙ ap (λ l. l ++ 0 ∷ 1 ∷ []) (turned_range n 1 n) ∙ sym (flat_map-append sides (map (exchanged n) (range_with_len 1 n)) (last_action n ∷ [])))
    ∙ ap (flat_map sides) (sym (all_made n most))

between : (n : ℕ) (from count : ℕ) → AllByRecursion IsBetween (map (exchanged n) (range_with_len from count))
between n from zero = tt
between n from (suc count) = (one (ways n from), between n (from + 1) count) where
  one : (((exchanged n from).from ≡ 0) × ((exchanged n from).to ≡ 1)) ⊎ (((exchanged n from).from ≡ 1) × ((exchanged n from).to ≡ 0) × ((from % 2 == 1) ≡ false)) → IsBetween (exchanged n from)
  one (inl way) = inl way
  one (inr way) = inr (way.0, way.1)

pub all_between : (n : ℕ) → n ≤ 200 → AllByRecursion IsBetween (drilled n).actions
all_between n most =
    subst (λ (l : List ActionValue). AllByRecursion IsBetween l) (sym (all_made n most))
    (inl (refl, refl), each_in_both IsBetween (map (exchanged n) (range_with_len 1 n)) (last_action n ∷ []) (between n 1 n) (inl (refl, refl), tt))

-- ---- lengths

suite_is : (n : ℕ) → (drilled n).suite ≡ One
unfolding protocol_of drill_narration
suite_is n = refl

meaning_is : (n : ℕ) → meaning_of (drilled n) ≡ byte_meaning pair_formats One
meaning_is n = ap (λ (f : List FormatValue). byte_meaning f (drilled n).suite) (formats_are_pairs n) ∙ ap (byte_meaning pair_formats) (suite_is n)

sealed_long : (k m : List ℕ) → length (sealed_bytes One k m) ≡ length m + 32
unfolding sealed_bytes
sealed_long k m = length-closed One (key_for One 1 k) (key_for One 2 k) [] m

hash_long : (m : List ℕ) → length (hash_of One m) ≡ 32
hash_long m = length-sha256 m

pair_long : (x y : List ℕ) → length x ≡ 32 → length y ≡ 32 → length (format_bytes pair_format.pieces (x ∷ y ∷ [])) ≡ 67
unfolding leb128_within
pair_long x y e f =
    let a : leb128 (length x) ≡ 32 ∷ [] = ap leb128 e in
    let b : leb128 (length y) ≡ 32 ∷ [] = ap leb128 f in
    let all : format_bytes pair_format.pieces (x ∷ y ∷ []) ≡ 80 ∷ (((32 ∷ []) ++ x) ++ (((32 ∷ []) ++ y) ++ [])) = ap (λ l. 80 ∷ ((l ++ x) ++ ((leb128 (length y) ++ y) ++ []))) a ∙ ap (λ l. 80 ∷ (((32 ∷ []) ++ x) ++ ((l ++ y) ++ []))) b in
    ap length all ∙ (let s : length (80 ∷ (((32 ∷ []) ++ x) ++ (((32 ∷ []) ++ y) ++ []))) ≡ 67 = omega (arith, length-append ((32 ∷ []) ++ x) (((32 ∷ []) ++ y) ++ []), length-append ((32 ∷ []) ++ y) [], e, f) in s)

module _ (n : ℕ) (most : n ≤ 200) (codes : List CodeValue) (values : List (List ℕ)) (seed : List ℕ) (atoms : ℕ → List ℕ) (are : AreHonest (cast (drilled n) codes values seed) atoms) where
  abbrev c : Cast
  c = cast (drilled n) codes values seed

  abbrev bytes_of : Tree → List ℕ
  bytes_of t = honest_bytes (drilled n) atoms t

  abbrev bytes_by : Tree → List ℕ
  bytes_by t = honest (byte_meaning pair_formats One) atoms t

  same_bytes : (t : Tree) → bytes_of t ≡ bytes_by t
  same_bytes t = ap (λ (m : Meaning (List ℕ)). honest m atoms t) (meaning_is n)

  first_long : length (bytes_of (first_action n).message) ≡ 64
  first_long =
      let l = sealed_long (atoms (n + 4)) (atoms 2) in
      let d = number_drawn n most codes values seed atoms are 0 (omega arith) in
      ap length (same_bytes (first_action n).message) ∙ l ∙ (let s : length (atoms 2) + 32 ≡ 64 = omega (arith, d) in s)

  exchange_long : (i : ℕ) → i ≤ n → length (bytes_of (exchanged n i).message) ≡ 99
  exchange_long i within =
      let d = number_drawn n most codes values seed atoms are i within in
      let p = pair_long (atoms (2 + i)) (hash_of One (atoms (2 + (i - 1)))) d (hash_long (atoms (2 + (i - 1)))) in
      let l = sealed_long (atoms (n + 3)) (format_bytes pair_format.pieces (atoms (2 + i) ∷ hash_of One (atoms (2 + (i - 1))) ∷ [])) in
      ap (λ t. length (bytes_of t)) (message_of n i) ∙ ap length (same_bytes (sealed (n + 3) (pair i))) ∙ l ∙ (let s : length (format_bytes pair_format.pieces (atoms (2 + i) ∷ hash_of One (atoms (2 + (i - 1))) ∷ [])) + 32 ≡ 99 = omega (arith, p) in s)

  last_long : length (bytes_of (last_action n).message) ≡ 32
  last_long = key_drawn n most codes values seed atoms are

  abbrev size_of : ActionValue → ℕ
  size_of a = length (bytes_of a.message)

  exchanges_size : (from count : ℕ) → from + count ≤ n + 1 → sum_by size_of (map (exchanged n) (range_with_len from count)) ≡ 99 * count
  exchanges_size from zero all = omega arith
  exchanges_size from (suc count) all =
      let s = sum_by-cons size_of (exchanged n from) (map (exchanged n) (range_with_len (from + 1) count)) in
      let one = exchange_long from (omega (arith, all)) in
      let rest = exchanges_size (from + 1) count (omega (arith, all)) in
      omega (arith, s, one, rest)

  all_size : sum_by size_of (drilled n).actions ≡ 96 + 99 * n
  all_size =
      let s = sum_by-cons size_of (first_action n) (map (exchanged n) (range_with_len 1 n) ++ last_action n ∷ []) in
      let t = sum_by-append size_of (map (exchanged n) (range_with_len 1 n)) (last_action n ∷ []) in
      let u = sum_by-cons size_of (last_action n) [] in
      let v : sum_by size_of [] ≡ 0 = refl in
      let e = exchanges_size 1 n (omega arith) in
      ap (sum_by size_of) (all_made n most) ∙ (let all : sum_by size_of (all_actions n) ≡ 96 + 99 * n = omega (arith, s, t, u, v, e, first_long, last_long) in all)

  abbrev IsSmall : ActionValue → Type 0
  IsSmall a = size_of a ≤ 99

  small_exchanges : (from count : ℕ) → from + count ≤ n + 1 → AllByRecursion IsSmall (map (exchanged n) (range_with_len from count))
  small_exchanges from zero all = tt
  small_exchanges from (suc count) all = (let one = exchange_long from (omega (arith, all)) in omega (arith, one), small_exchanges (from + 1) count (omega (arith, all)))

  all_small : AllByRecursion IsSmall (drilled n).actions
  all_small =
      subst (λ (l : List ActionValue). AllByRecursion IsSmall l) (sym (all_made n most))
      (omega (arith, first_long), each_in_both IsSmall (map (exchanged n) (range_with_len 1 n)) (last_action n ∷ []) (small_exchanges 1 n (omega arith)) (omega (arith, last_long), tt))

  -- ---- the report

  itself : (k : ℕ) → (k == k) ≡ true
  itself k = grind (arith, nat_tests)

  term_of : (before acts : List ActionValue) (a : ActionValue) → (drilled n).actions ≡ before ++ a ∷ acts → term_at (drilled n) (length before + 1) ≡ a.message
  term_of before acts a is =
      let e : length before + 1 - 1 ≡ length before = omega arith in
      ap (λ k. option_map_or (λ (x : ActionValue). x.message) (slice_get (drilled n).actions k) (leaf 0)) e
      ∙ ap (λ l. option_map_or (λ (x : ActionValue). x.message) (slice_get l (length before)) (leaf 0)) is ∙ ap (λ o. option_map_or (λ (x : ActionValue). x.message) o (leaf 0)) (stands before acts a)
    where
      stands : (xs ys : List ActionValue) (x : ActionValue) → slice_get (xs ++ x ∷ ys) (length xs) ≡ Some x
      stands [] ys x = refl
      stands (y ∷ xs) ys x = stands xs ys x

  abbrev sent_at : ℕ → Sent
  sent_at k = record { action = k; bytes = honest_message c atoms k }

  abbrev message_size : Sent → ℕ
  message_size s = length s.bytes

  sizes : (before acts : List ActionValue) → (drilled n).actions ≡ before ++ acts → sum_by message_size (map sent_at (range_with_len (length before + 1) (length acts))) ≡ sum_by size_of acts
  sizes before [] is = refl
  sizes before (a ∷ acts) is =
      let next : length (before ++ a ∷ []) + 1 ≡ length before + 1 + 1 = omega (arith, length-append before (a ∷ [])) in
      let s = sum_by-cons message_size (sent_at (length before + 1)) (map sent_at (range_with_len (length before + 1 + 1) (length acts))) in
      let t = sum_by-cons size_of a acts in
      let one : length (honest_message c atoms (length before + 1)) ≡ size_of a = ap (λ (m : Tree). length (bytes_of m)) (term_of before acts a is) in
      let rest = ap (λ k. sum_by message_size (map sent_at (range_with_len k (length acts)))) (sym next) ∙ sizes (before ++ a ∷ []) acts (is ∙ sym (append_assoc before (a ∷ []) acts)) in
      omega (arith, s, t, one, rest)

  abbrev turns_taken : List Turn
  turns_taken = done_by (drilled n).actions

  or_left : (a b : Bool) → a ≡ true → (a || b) ≡ true
  or_left true b e = refl
  or_left false b e = cc

  or_right : (a b : Bool) → b ≡ true → (a || b) ≡ true
  or_right true b e = refl
  or_right false b e = e

  each_sent : (before acts : List ActionValue) (j : ℕ) → j < length acts → was_sent (each_after both before acts) (length before + 1 + j) ≡ true
  each_sent before [] j less = absurd (omega (arith, less))
  each_sent before (a ∷ acts) zero less =
      let e : length before + 1 ≡ length before + 1 + 0 = omega arith in
      ap (was_sent (each_after both before (a ∷ acts))) (sym e) ∙ or_left (length before + 1 == length before + 1) _ (itself (length before + 1))
  each_sent before (a ∷ acts) (suc j) less =
      let e : length before + 1 + suc j ≡ length (before ++ a ∷ []) + 1 + j = omega (arith, length-append before (a ∷ [])) in
      or_right (length before + 1 == length before + 1 + suc j) _ (ap (was_sent (each_after both (before ++ a ∷ []) acts)) e ∙ each_sent (before ++ a ∷ []) acts j (omega (arith, less)))

  all_told : (from count : ℕ) → ((j : ℕ) → j < count → was_sent turns_taken (from + j) ≡ true) → filter_map (reported c (honest_sent c atoms turns_taken)) (range_with_len from count) ≡ map sent_at (range_with_len from count)
  all_told from zero sent = refl
  all_told from (suc count) sent =
      let e : from + 0 ≡ from = omega arith in
      let here : was_sent turns_taken from ≡ true = ap (was_sent turns_taken) (sym e) ∙ sent 0 (omega arith) in
      ap (λ b. cons_option (option_map (λ bytes. record { action = from; bytes = bytes }) (cond b (Some (honest_message c atoms from)) None)) (filter_map (reported c (honest_sent c atoms turns_taken)) (range_with_len (from + 1) count))) here
      ∙ ap (λ l. sent_at from ∷ l) (all_told (from + 1) count (λ j less. let z : from + 1 + j ≡ from + suc j = omega arith in ap (was_sent turns_taken) z ∙ sent (suc j) (omega (arith, less))))

  report_is : all_reported c (honest_sent c atoms turns_taken) ≡ map sent_at (range_with_len 1 (length (drilled n).actions))
  report_is = all_told 1 (length (drilled n).actions) (λ j less. each_sent [] (drilled n).actions j less)

  how_many_actions : length (drilled n).actions ≡ n + 2
  how_many_actions =
      ap length (all_made n most)
      ∙ (let s : length (all_actions n) ≡ n + 2 = omega (arith, length-append (map (exchanged n) (range_with_len 1 n)) (last_action n ∷ []), length-map-range_with_len (exchanged n) 1 n) in s)

  -- ---- nothing is too long

  not_long : (action : ℕ) (bytes : List ℕ) → length bytes ≤ ARRIVAL → long_end action bytes ≡ None
  not_long action bytes less = let e : nat_lt ARRIVAL (length bytes) ≡ false = grind (arith, nat_tests, less) in ap (λ b. cond b (Some (LongMessage action (length bytes))) None) e

  none_long : (before acts : List ActionValue) → (drilled n).actions ≡ before ++ acts → AllByRecursion IsSmall acts → first (long_turn c atoms) (each_after both before acts) ≡ None
  none_long before [] is small = refl
  none_long before (a ∷ acts) is small =
      let few = small.0 in
      let one : length (honest_message c atoms (length before + 1)) ≡ size_of a = ap (λ (m : Tree). length (bytes_of m)) (term_of before acts a is) in
      ap (λ o. option_or o (option_or None (first (long_turn c atoms) (each_after both (before ++ a ∷ []) acts)))) (not_long (length before + 1) (honest_message c atoms (length before + 1)) (omega (arith, one, few)))
      ∙ none_long (before ++ a ∷ []) acts (is ∙ sym (append_assoc before (a ∷ []) acts)) small.1

  module _ (short : AllByRecursion (λ (v : List ℕ). length v ≤ ARRIVAL) values) where
    place_in : (xs : List ℕ) (a : ℕ) → has xs a ≡ true → (i : ℕ) × (slice_get xs i ≡ Some a)
    place_in [] a e = absurd (cc)
    place_in (x ∷ xs) a e = by (x == a) refl e (place_in xs a) where
      by : (b : Bool) → (x == a) ≡ b → (b || has xs a) ≡ true → (has xs a ≡ true → (i : ℕ) × (slice_get xs i ≡ Some a)) → (i : ℕ) × (slice_get (x ∷ xs) i ≡ Some a)
      by true s e later = (0, ap Some (eqb-true x a s))
      by false s e later = let l = later e in (suc l.0, l.1)

    short_at : (xs : List (List ℕ)) (i : ℕ) (v : List ℕ) → AllByRecursion (λ (x : List ℕ). length x ≤ ARRIVAL) xs → slice_get xs i ≡ Some v → length v ≤ ARRIVAL
    short_at [] i v all e = cc
    short_at (x ∷ xs) zero v all e = let same : x ≡ v = cc in subst (λ (y : List ℕ). length y ≤ ARRIVAL) same all.0
    short_at (x ∷ xs) (suc i) v all e = short_at xs i v all.1 e

    given_short : (a : ℕ) → has (atoms_in_each (known_terms (drilled n))) a ≡ true → length (atoms a) ≤ ARRIVAL
    given_short a stands =
        let place = place_in (known_atoms (drilled n)) a (distinct_has [] (atoms_in_each (known_terms (drilled n))) a refl stands) in
        short_at values place.0 (atoms a) short (are.known place.0 a place.1)

    terms_are : known_terms (drilled n) ≡ known_to_both n ++ known_to_both n
    terms_are = ap (flat_map (λ (ts : List Tree). ts)) (knows_are n) ∙ ap (λ l. known_to_both n ++ l) (append-nil (known_to_both n))

    known_short : (a : ℕ) → has (0 ∷ 1 ∷ (n + 3) ∷ 0 ∷ 1 ∷ (n + 3) ∷ []) a ≡ true → length (atoms a) ≤ ARRIVAL
    known_short a e = given_short a (ap (λ (ts : List Tree). has (atoms_in_each ts) a) terms_are ∙ e)

    a_short : length (atoms 0) ≤ ARRIVAL
    a_short = known_short 0 refl

    b_short : length (atoms 1) ≤ ARRIVAL
    b_short = known_short 1 refl

    k_short : length (atoms (n + 3)) ≤ ARRIVAL
    k_short = known_short (n + 3) (or_right (0 == n + 3) _ (or_right (1 == n + 3) _ (or_left (n + 3 == n + 3) _ (itself (n + 3)))))

    none_known_long : first (λ t. long_end 0 (honest_bytes (drilled n) atoms t)) (known_terms (drilled n)) ≡ None
    none_known_long =
        ap (first (λ t. long_end 0 (honest_bytes (drilled n) atoms t))) terms_are
        ∙ rw (not_long 0 (atoms 0) a_short, not_long 0 (atoms 1) b_short, not_long 0 (atoms (n + 3)) k_short) refl

    abbrev drill_turns : List ℕ
    drill_turns = turns_of (drill_narration n)

    taken_is : taken (drilled n) drill_turns ≡ turns_taken
    taken_is = ap (taken (drilled n)) (turns_are n most) ∙ taken_all (drilled n) (all_between n most)

    no_one_left : (r : ℕ) → (r ≡ 0) ⊎ (r ≡ 1) → next_of (drilled n) turns_taken r ≡ None
    no_one_left r role = ap (λ ts. next_of (drilled n) ts r) (sym (taken_all (drilled n) (all_between n most))) ∙ none_left (drilled n) (all_between n most) r role

    all_complete : is_complete c turns_taken (length (drilled n).roles) ≡ true
    all_complete =
        ap (λ (names : List (List ℕ)). is_complete c turns_taken (length names)) (protocol_roles_are n) ∙ rw (no_one_left 0 (inl refl), no_one_left 1 (inr refl)) refl

    pub ends : honest_end c atoms drill_turns ≡ AllDone (honest_report c atoms drill_turns)
    ends =
        ap (λ o. unwrap_or o (unwrap_or (first (long_turn c atoms) (taken (drilled n) drill_turns)) (cond (is_complete c (taken (drilled n) drill_turns) (length (drilled n).roles)) (AllDone (honest_report c atoms drill_turns)) (Part (honest_report c atoms drill_turns))))) none_known_long
        ∙ ap (λ ts. unwrap_or (first (long_turn c atoms) ts) (cond (is_complete c ts (length (drilled n).roles)) (AllDone (honest_report c atoms drill_turns)) (Part (honest_report c atoms drill_turns)))) taken_is
        ∙ ap (λ o. unwrap_or o (cond (is_complete c turns_taken (length (drilled n).roles)) (AllDone (honest_report c atoms drill_turns)) (Part (honest_report c atoms drill_turns)))) (none_long [] (drilled n).actions refl all_small)
        ∙ ap (λ b. cond b (AllDone (honest_report c atoms drill_turns)) (Part (honest_report c atoms drill_turns))) all_complete

    flat_twice : (acts : List ActionValue) → length (flat_map sides acts) ≡ 2 * length acts
    flat_twice [] = refl
    flat_twice (a ∷ acts) = let rest = flat_twice acts in omega (arith, rest)

    turn_count : length drill_turns ≡ 2 * (n + 2)
    turn_count = ap length (turns_are n most) ∙ flat_twice (drilled n).actions ∙ ap (λ k. 2 * k) how_many_actions

    taken_count : length (taken (drilled n) drill_turns) ≡ 2 * (n + 2)
    taken_count = ap length taken_is ∙ how_many_taken (drilled n).actions ∙ ap (λ k. 2 * k) how_many_actions

    sent_is : (honest_report c atoms drill_turns).sent ≡ map sent_at (range_with_len 1 (length (drilled n).actions))
    sent_is = ap (λ ts. all_reported c (honest_sent c atoms ts)) taken_is ∙ report_is

    pub is_drilled : IsDrilled n (honest_report c atoms drill_turns)
    is_drilled = record {
      turns = turn_count;
      taken = taken_count;
      passed = (let all = turn_count in let some = taken_count in omega (arith, all, some));
      actions = ap length sent_is ∙ length-map-range_with_len sent_at 1 (length (drilled n).actions) ∙ how_many_actions;
      bytes = ap (sum_by message_size) sent_is ∙ sizes [] (drilled n).actions refl ∙ all_size;
    }

-- ---- what a drill is rehearsed with

twice_sides : (acts : List ActionValue) → length (flat_map sides acts) ≡ 2 * length acts
twice_sides [] = refl
twice_sides (a ∷ acts) = let rest = twice_sides acts in omega (arith, rest)

actions_count : (n : ℕ) → n ≤ 200 → length (drilled n).actions ≡ n + 2
actions_count n most =
    ap length (all_made n most)
    ∙ (let s : length (all_actions n) ≡ n + 2 = omega (arith, length-append (map (exchanged n) (range_with_len 1 n)) (last_action n ∷ []), length-map-range_with_len (exchanged n) 1 n) in s)

known_count : (n : ℕ) → length (known_names (drilled n)) ≡ 3
known_count n =
    let a : (0 == n + 3) ≡ false = grind (arith, nat_tests) in
    let b : (1 == n + 3) ≡ false = grind (arith, nat_tests) in
    let f : (n + 3 == n + 3) ≡ true = grind (arith, nat_tests) in
    length-map (known_atoms (drilled n)) (atom_name (drilled n))
    ∙ ap (λ (k : List (List Tree)). length (distinct nat_eq (atoms_in_each (flat_map (λ (ts : List Tree). ts) k)))) (knows_are n) ∙ rw (a, b, f) refl

below_two : (acts : List ActionValue) → AllByRecursion IsBetween acts → AllByRecursion (λ role. role < 2) (flat_map sides acts)
below_two [] all = tt
below_two (a ∷ acts) all = (first_below all.0, (second_below all.0, below_two acts all.1)) where
  first_below : IsBetween a → a.from < 2
  first_below (inl way) = let e = way.0 in omega (arith, e)
  first_below (inr way) = let e = way.0 in omega (arith, e)

  second_below : IsBetween a → a.to < 2
  second_below (inl way) = let e = way.1 in omega (arith, e)
  second_below (inr way) = let e = way.1 in omega (arith, e)

pub asks_for : (n : ℕ) → n ≤ 200 → AsksFor n
asks_for n most = record {
  names = known_count n;
  roles = subst (λ (names : List (List ℕ)). AllByRecursion (λ role. role < length names) (turns_of (drill_narration n))) (sym (protocol_roles_are n))
      (subst (λ (turns : List ℕ). AllByRecursion (λ role. role < 2) turns) (sym (turns_are n most)) (below_two (drilled n).actions (all_between n most)));
  turns = ap length (turns_are n most) ∙ twice_sides (drilled n).actions ∙ ap (λ k. 2 * k) (actions_count n most);
}
