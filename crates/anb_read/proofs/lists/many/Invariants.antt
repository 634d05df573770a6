use Rattle.std.proofs.Common.{◌≡◌, ◌-◌, length, map}
use Rattle.anb_read.specs.Productions.{many_within, with_front}
use Rattle.anb_read.specs.Places.{toks}
use Rattle.anb_read.proofs.lists.many.Given as goal

abbrev pub invariant-loop : goal.invariant-loop
invariant-loop g l =
    with_front (map g.T.Listed.view l.items.items) (many_within g.T.Listed.starts g.T.Listed.item_at (length l.places - l.counter) (toks l.text l.rest))
    ≡ with_front (map g.T.Listed.view l.fn.items.items) (many_within g.T.Listed.starts g.T.Listed.item_at (length l.places) (toks l.text l.places))
