-- A shut list shows that a term has no recipe.
use Rattle.std.proofs.Common.{List, drop, inl}
use Rattle.anb_lemmas.proofs.Each.{each_by}
use Rattle.anb_term.specs.Operator.{keys}
use Rattle.anb_term.specs.Tree.{Tree, leaf, node, list_of}
use Rattle.anb_term.specs.Composes.{Among, Composes}
use Rattle.anb_close.specs.Closed.{IsClosed, EveryRecipeComposes}
use Rattle.anb_close.proofs.Wider.{wider}
use Rattle.anb_reason.specs.Shut.{IsShut, ShutHasNone}

pub among_composes : (S : List Tree) (t : Tree) → Among S t → Composes S t
among_composes S (leaf n) h = h
among_composes S (node o ts) h = inl h

shut_closed : (frame S : List Tree) (t : Tree) → IsShut frame S t → IsClosed S
shut_closed frame S t shut o us here u ks = each_by (Among S) (Composes S) (among_composes S) (drop (keys o) (list_of us)) (shut.parts o us here u ks)

pub shut_has_none : EveryRecipeComposes → ShutHasNone
shut_has_none every has frame S t shut r =
    shut.apart (every S frame (shut_closed frame S t shut) (each_by (Among S) (Composes S) (among_composes S) frame shut.labels) r.0 t (wider has frame r.0 t r.1))
