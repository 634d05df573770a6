use Rattle.std.proofs.Common.{◌≡◌, ◌-◌, ◌+◌, ◌*◌, length, map}
use Rattle.anb_syntax.specs.Views.{tree_of}
use Rattle.anb_read.specs.Productions.{term_at, comma_term_at, many_within, with_front, is_comma}
use Rattle.anb_read.specs.Places.{toks}
use Rattle.anb_read.proofs.terms.+term.Given as goal

abbrev pub decreases-term : goal.decreases-term
decreases-term l = 8 * l.levels

abbrev pub decreases-comma_term : goal.decreases-comma_term
decreases-comma_term l = 8 * l.levels + 1

abbrev pub decreases-more_terms : goal.decreases-more_terms
decreases-more_terms l = 8 * l.levels + 2

abbrev pub decreases-some_terms : goal.decreases-some_terms
decreases-some_terms l = 8 * l.levels + 3

abbrev pub decreases-terms : goal.decreases-terms
decreases-terms l = 8 * l.levels + 4

abbrev pub decreases-pair : goal.decreases-pair
decreases-pair l = 8 * l.levels + 5

abbrev pub decreases-named : goal.decreases-named
decreases-named l = 8 * l.levels + 7

abbrev pub decreases-hashed : goal.decreases-hashed
decreases-hashed l = 8 * l.levels + 7

abbrev pub decreases-under_key : goal.decreases-under_key
decreases-under_key l = 8 * l.levels + 7

abbrev pub decreases-wrapped : goal.decreases-wrapped
decreases-wrapped l = 8 * l.levels + 7

abbrev pub invariant-more_terms-loop : goal.invariant-more_terms-loop
invariant-more_terms-loop l =
    with_front (map tree_of l.items.items) (many_within is_comma (comma_term_at (term_at l.levels)) (length l.places - l.counter) (toks l.text l.rest))
    ≡ with_front (map tree_of l.fn.items.items) (many_within is_comma (comma_term_at (term_at l.levels)) (length l.places) (toks l.text l.places))
