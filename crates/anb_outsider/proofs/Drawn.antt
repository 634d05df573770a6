-- The names that are drawn.
use Rattle.std.proofs.Common.{◌≡◌, ℕ, zero, suc, ◌+◌, ◌<◌, List, [], ◌∷◌, ◌++◌, length, map, take, Bool, true, false, Some, None, refl, sym, ap, ◌∙◌, subst, arith}
use Rattle.std.specs.Prelude.{slice_get, ◌==◌, ◌||◌}
use Rattle.std.specs.List.{AllByRecursion, list_any}
use Rattle.std.proofs.lemmas.Bool.{eq-eqb, eqb-true}
use Rattle.anb_term.specs.Tree.{Tree, leaf, node}
use Rattle.anb_plays.specs.Plans.{Event, know, fresh, send, recv}
use Rattle.anb_protocol.specs.Plans.{PlanEvent, to_know, to_make, to_send, to_receive, term_in}
use Rattle.anb_protocol.specs.Plays.{event_of}
use Rattle.anb_protocol.specs.Protocols.{ProtocolValue}
use Rattle.anb_protocol.specs.Texts.{IsTermOf}
use Rattle.anb_outsider.specs.Recordings.{drawn, is_drawn, messages_in}

-- each is a name of the protocol
pub drawn_named : (p : ProtocolValue) (es : List PlanEvent) → AllByRecursion (λ e. IsTermOf p (term_in e)) es → (i n : ℕ) → slice_get (drawn (map event_of es)) i ≡ Some n → n < length p.atoms
drawn_named p [] all i n h = cc
drawn_named p (to_know t ∷ es) all i n h = drawn_named p es all.1 i n h
drawn_named p (to_make (leaf m) ∷ es) all zero n h = let s : m ≡ n = cc in subst (λ k. k < length p.atoms) s all.0
drawn_named p (to_make (leaf m) ∷ es) all (suc i) n h = drawn_named p es all.1 i n h
drawn_named p (to_make (node o ts) ∷ es) all i n h = drawn_named p es all.1 i n h
drawn_named p (to_send j t ∷ es) all i n h = drawn_named p es all.1 i n h
drawn_named p (to_receive j t ∷ es) all i n h = drawn_named p es all.1 i n h

Among : List ℕ → ℕ → Type 0
Among ns n = (i : ℕ) × (slice_get ns i ≡ Some n)

among_more : (m n : ℕ) (ns : List ℕ) (b : Bool) → (m == n) ≡ b → (b || list_any (λ k. k == n) ns) ≡ true → (list_any (λ k. k == n) ns ≡ true → Among ns n) → Among (m ∷ ns) n
unfolding Among
among_more m n ns true e h others = (0, ap Some (eqb-true m n e))
among_more m n ns false e h others = let r = others h in (suc r.0, r.1)

among : (ns : List ℕ) (n : ℕ) → list_any (λ m. m == n) ns ≡ true → Among ns n
unfolding Among
among [] n h = let z : ◌≡◌ {A = ℕ} 1 0 = cc in absurd (omega (arith, z))
among (m ∷ ns) n h = among_more m n ns (m == n) refl h (among ns n)

pub drawn_at : (plan : List Event) (n : ℕ) → is_drawn plan n ≡ true → (i : ℕ) × (slice_get (drawn plan) i ≡ Some n)
unfolding Among
drawn_at plan n h = among (drawn plan) n h

either : (b d : Bool) → d ≡ true → (b || d) ≡ true
either true d e = refl
either false d e = e

is_among : (ns : List ℕ) (i n : ℕ) → slice_get ns i ≡ Some n → list_any (λ m. m == n) ns ≡ true
is_among [] i n h = cc
is_among (m ∷ ns) zero n h = let s : m ≡ n = cc in ap (λ b. b || list_any (λ k. k == n) ns) (eq-eqb m n s)
is_among (m ∷ ns) (suc i) n h = either (m == n) (list_any (λ k. k == n) ns) (is_among ns i n h)

pub is_drawn_at : (plan : List Event) (i n : ℕ) → slice_get (drawn plan) i ≡ Some n → is_drawn plan n ≡ true
is_drawn_at plan i n h = is_among (drawn plan) i n h
