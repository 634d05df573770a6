-- The labels of a conversation are terms of the protocol.
use Rattle.std.proofs.Common.{◌≡◌, ◌+◌, List, [], ◌∷◌, map, refl, ap}
use Rattle.std.specs.List.{AllByRecursion}
use Rattle.anb_term.specs.Tree.{Tree, trees_of, tree_size, trees_size, nodes}
use Rattle.anb_protocol.specs.Plans.{PlanEvent, to_know, to_make, to_send, to_receive, term_in}
use Rattle.anb_protocol.specs.Plays.{event_of}
use Rattle.anb_protocol.specs.Protocols.{ProtocolValue}
use Rattle.anb_protocol.specs.Texts.{IsTermOf}
use Rattle.anb_accept.specs.Conversations.{overheard, to_hear}

-- the same events
pub as_events : (es : List PlanEvent) → map event_of (map to_hear es) ≡ overheard (map event_of es)
as_events [] = refl
as_events (to_know t ∷ es) = ap (λ l. event_of (to_know t) ∷ l) (as_events es)
as_events (to_make t ∷ es) = ap (λ l. event_of (to_make t) ∷ l) (as_events es)
as_events (to_send i t ∷ es) = ap (λ l. event_of (to_receive i t) ∷ l) (as_events es)
as_events (to_receive i t ∷ es) = ap (λ l. event_of (to_receive i t) ∷ l) (as_events es)

-- with the same terms
pub all_terms : (p : ProtocolValue) (es : List PlanEvent) → AllByRecursion (λ e. IsTermOf p (term_in e)) es → AllByRecursion (λ e. IsTermOf p (term_in e)) (map to_hear es)
all_terms p [] all = tt
all_terms p (to_know t ∷ es) all = (all.0, all_terms p es all.1)
all_terms p (to_make t ∷ es) all = (all.0, all_terms p es all.1)
all_terms p (to_send i t ∷ es) all = (all.0, all_terms p es all.1)
all_terms p (to_receive i t ∷ es) all = (all.0, all_terms p es all.1)

pub size_is : (ts : List Tree) → trees_size (trees_of ts) ≡ nodes ts
size_is [] = refl
size_is (t ∷ ts) = ap (λ n. tree_size t + n) (size_is ts)
