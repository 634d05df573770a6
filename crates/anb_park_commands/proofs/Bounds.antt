-- How long the record of a session can be.
use Rattle.std.proofs.Common.{◌≡◌, ℕ, zero, suc, ◌+◌, ◌*◌, ◌≤◌, Bool, true, false, List, [], ◌∷◌, ◌++◌, length, map, cond, All, refl, arith, length-append}
use Rattle.std.specs.Prelude.{slice_get, ◌==◌}
use Rattle.std.specs.List.{flat_map, sum_by}
use Rattle.std.specs.Option.{option_map_or}
use Rattle.std.proofs.lemmas.List.{length-map}
use Rattle.std.proofs.lemmas.List.Sums.{sum_by-cons}
use Rattle.std.proofs.lemmas.List.Elements.{All-head, All-tail}
use Rattle.anb_frame.specs.Frames.{frame, frames, length_bytes}
use Rattle.anb_frame.proofs.Lengths.{length-length_bytes}
use Rattle.anb_term.specs.Tree.{Tree, leaf, node, tree_size, nodes}
use Rattle.anb_protocol.specs.Choices.{each_after}
use Rattle.anb_protocol.specs.Laws.{HoldsOf}
use Rattle.anb_protocol.specs.Plans.{PlanEvent, to_know, to_make, to_send, to_receive, events_at, made, messages, own_events, plan_of}
use Rattle.anb_protocol.specs.Plays.{event_of, events_of}
use Rattle.anb_protocol.specs.Protocols.{ActionValue, ProtocolValue}
use Rattle.anb_protocol.specs.Texts.{known_by, known_terms, known_texts, term_text}
use Rattle.anb_park_commands.proofs.Walking.{count_receives}

-- ---- frames

pub length_frames : (bs : List (List ℕ)) → length (frames bs) ≡ 4 * length bs + sum_by length bs
length_frames [] = refl
length_frames (b ∷ bs) =
    omega (arith, length-append (frame b) (frames bs), length-append (length_bytes (length b)) b, length-length_bytes (length b), length_frames bs, sum_by-cons {X = List ℕ} length b bs)

pub sum_short : (most : ℕ) (bs : List (List ℕ)) → All (λ b. length b ≤ most) bs → sum_by length bs ≤ most * length bs
sum_short most [] all = omega arith
sum_short most (b ∷ bs) all =
    let first = All-head (λ (x : List ℕ). length x ≤ most) b bs all in
    let rest = sum_short most bs (All-tail (λ (x : List ℕ). length x ≤ most) b bs all) in
    let product : most * suc (length bs) ≡ most + most * length bs = grind arith in
    omega (arith, first, rest, product, sum_by-cons {X = List ℕ} length b bs)

-- ---- how many arrivals a role waits for

abbrev receives_in : List PlanEvent → ℕ
receives_in es = count_receives (map event_of es)

receives_append : (es fs : List PlanEvent) → receives_in (es ++ fs) ≡ receives_in es + receives_in fs
receives_append [] fs = omega arith
receives_append (to_know t ∷ es) fs = receives_append es fs
receives_append (to_make t ∷ es) fs = receives_append es fs
receives_append (to_send n t ∷ es) fs = receives_append es fs
receives_append (to_receive n t ∷ es) fs = omega (arith, receives_append es fs)

none_known : (ts : List Tree) → receives_in (map to_know ts) ≡ 0
none_known [] = refl
none_known (t ∷ ts) = none_known ts

none_made : (names : List ℕ) (number : ℕ) (t : Tree) → receives_in (map (λ x. to_make (leaf x)) names ++ to_send number t ∷ []) ≡ 0
none_made [] number t = refl
none_made (x ∷ names) number t = none_made names number t

one_own : (role number : ℕ) (names : List ℕ) (a : ActionValue) → receives_in (own_events role number names a) ≤ 1
one_own role number names a = by (a.from == role) (a.to == role) where
  by : (sends receives : Bool) → receives_in (cond sends (map (λ x. to_make (leaf x)) names ++ to_send number a.message ∷ []) (cond receives (to_receive number a.message ∷ []) [])) ≤ 1
  by true receives = omega (arith, none_made names number a.message)
  by false true = omega arith
  by false false = omega arith

one_each : (p : ProtocolValue) (role : ℕ) (before actions : List ActionValue) → receives_in (each_after (events_at p role) before actions) ≤ length actions
one_each p role before [] = omega arith
one_each p role before (a ∷ actions) =
    let own = one_own role (length before + 1) (made p before a.message) a in
    let rest = one_each p role (before ++ a ∷ []) actions in
    omega (arith, receives_append (events_at p role before a) (each_after (events_at p role) (before ++ a ∷ []) actions), own, rest)

pub few_receives : (p : ProtocolValue) (role : ℕ) → count_receives (events_of p role) ≤ length p.actions
unfolding plan_of
few_receives p role =
    omega (arith, receives_append (map to_know (known_by p role)) (each_after (events_at p role) [] p.actions), none_known (known_by p role), one_each p role [] p.actions)

-- ---- how much it knows

one_at_least : (t : Tree) → 1 ≤ tree_size t
one_at_least (leaf n) = omega arith
one_at_least (node o ts) = omega arith

count_nodes : (ts us : List Tree) → length ts ≤ nodes (ts ++ us)
count_nodes [] us = omega arith
count_nodes (t ∷ ts) us = omega (arith, one_at_least t, count_nodes ts us)

one_of_all : (ls : List (List Tree)) (i : ℕ) → length (option_map_or (λ (ts : List Tree). ts) (slice_get ls i) []) ≤ length (flat_map (λ (ts : List Tree). ts) ls)
one_of_all [] i = omega arith
one_of_all (ts ∷ ls) zero = omega (arith, length-append ts (flat_map (λ (us : List Tree). us) ls))
one_of_all (ts ∷ ls) (suc i) = omega (arith, one_of_all ls i, length-append ts (flat_map (λ (us : List Tree). us) ls))

pub few_known : (p : ProtocolValue) (role : ℕ) → HoldsOf p → length (known_texts p role) ≤ 65536
few_known p role holds =
    omega (arith, length-map (known_by p role) (term_text p), one_of_all p.knows role, count_nodes (known_terms p) (messages p.actions), holds.nodes)
