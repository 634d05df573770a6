-- A plan, action by action.
use Rattle.std.proofs.Common.{◌≡◌, ℕ, ◌+◌, ◌<◌, ◌≤◌, List, [], ◌∷◌, ◌++◌, length, map, take, drop, get_or, ap, sym, ◌∙◌, subst, arith, append_assoc, append-nil}
use Rattle.std.specs.Prelude.{filter, Bool}
use Rattle.std.proofs.lemmas.List.{take_more, length-take-le, drop_all}
use Rattle.anb_protocol.specs.Choices.{each_after}
use Rattle.anb_protocol.specs.Protocols.{ActionValue, ProtocolValue}
use Rattle.anb_protocol.specs.Texts.{atom_name, atoms_in, known_by}
use Rattle.anb_protocol.specs.Plans.{PlanEvent, events_at, made, names_made_at, names_number_or_key, own_events, plan_of, to_know}
use Rattle.anb_protocol.specs.Seen.{AreSeen, marked, new_among}
use Rattle.anb_protocol.proofs.Afters.{each_step}
use Rattle.anb_protocol.proofs.SeenLemmas.{new-made, seen_more}

-- the flags after the action at a place
pub seen_next : (p : ProtocolValue) (acts : List ActionValue) (i : ℕ) (x : ActionValue) (flags later : List Bool) → i < length acts → x ≡ get_or acts i x
    → AreSeen p (take i acts) flags → later ≡ marked flags (atoms_in x.message) → AreSeen p (take (i + 1) acts) later
seen_next p acts i x flags later h e seen m =
    let t : take (i + 1) acts ≡ take i acts ++ x ∷ [] = take_more acts i x h ∙ ap (λ y. take i acts ++ y ∷ []) (sym e) in
    let P : List ActionValue → Type 0 = λ before. AreSeen p before later in
    let Q : List Bool → Type 0 = λ fs. AreSeen p (take i acts ++ x ∷ []) fs in
    subst P (sym t) (subst Q (sym m) (seen_more p (take i acts) flags x seen))

-- the events up to the next action
pub plan_next : (p : ProtocolValue) (role : ℕ) (acts : List ActionValue) (i : ℕ) (x : ActionValue) (flags : List Bool) (names : List ℕ) (before after total : List PlanEvent)
    → i < length acts → x ≡ get_or acts i x → AreSeen p (take i acts) flags
    → names ≡ filter (names_number_or_key p) (new_among flags (atoms_in x.message))
    → after ≡ before ++ own_events role (i + 1) names x
    → before ++ each_after (events_at p role) (take i acts) (drop i acts) ≡ total
    → after ++ each_after (events_at p role) (take (i + 1) acts) (drop (i + 1) acts) ≡ total
plan_next p role acts i x flags names before after total h e seen n a t =
    let rest = each_after (events_at p role) (take (i + 1) acts) (drop (i + 1) acts) in
    let long : i ≡ length (take i acts) = sym (length-take-le i acts (omega arith)) in
    let same : own_events role (i + 1) names x ≡ events_at p role (take i acts) x =
    ap (λ ns. own_events role (i + 1) ns x) (n ∙ new-made p (take i acts) flags seen x.message) ∙ ap (λ k. own_events role (k + 1) (made p (take i acts) x.message) x) long in
    ap (λ l. l ++ rest) (a ∙ ap (λ l. before ++ l) same) ∙ append_assoc before (events_at p role (take i acts) x) rest
    ∙ ap (λ l. before ++ l) (sym (each_step (events_at p role) acts i x h e)) ∙ t

-- what senders make up to the next action
pub made_next : (p : ProtocolValue) (acts : List ActionValue) (i : ℕ) (x : ActionValue) (flags : List Bool) (atoms : List ℕ) (names : List (List ℕ)) (before after total : List (List (List ℕ)))
    → i < length acts → x ≡ get_or acts i x → AreSeen p (take i acts) flags
    → atoms ≡ filter (names_number_or_key p) (new_among flags (atoms_in x.message))
    → names ≡ map (atom_name p) atoms
    → after ≡ before ++ names ∷ []
    → before ++ each_after (names_made_at p) (take i acts) (drop i acts) ≡ total
    → after ++ each_after (names_made_at p) (take (i + 1) acts) (drop (i + 1) acts) ≡ total
made_next p acts i x flags atoms names before after total h e seen n m a t =
    let rest = each_after (names_made_at p) (take (i + 1) acts) (drop (i + 1) acts) in
    let same : names ∷ [] ≡ names_made_at p (take i acts) x = ap (λ ns. ns ∷ []) (m ∙ ap (map (atom_name p)) (n ∙ new-made p (take i acts) flags seen x.message)) in
    ap (λ l. l ++ rest) (a ∙ ap (λ l. before ++ l) same) ∙ append_assoc before (names_made_at p (take i acts) x) rest
    ∙ ap (λ l. before ++ l) (sym (each_step (names_made_at p) acts i x h e)) ∙ t

-- behind the last action
pub plan_all : (p : ProtocolValue) (role : ℕ) (i : ℕ) (events : List PlanEvent) → length p.actions ≤ i
    → events ++ each_after (events_at p role) (take i p.actions) (drop i p.actions) ≡ map to_know (known_by p role) ++ each_after (events_at p role) [] p.actions
    → events ≡ plan_of p role
unfolding plan_of
plan_all p role i events h e =
    sym (append-nil events) ∙ ap (λ l. events ++ each_after (events_at p role) (take i p.actions) l) (sym (drop_all i p.actions h)) ∙ e
