-- A variable, where it stands in the pool.
use Rattle.std.proofs.Common.{◌≡◌, ℕ, ◌+◌, List, length, map, get_or, Some, sym, ap, ◌∙◌, arith}
use Rattle.std.specs.Prelude.{slice_get, unwrap_or}
use Rattle.anb_lemmas.proofs.Lists.{got_within, item_at}
use Rattle.anb_lemmas.proofs.Results.{if_ok_map}
use Rattle.anb_term.specs.Tree.{Tree, leaf}
use Rattle.anb_term.specs.View.{tree_of}
use Rattle.anb_term.proofs.Lists.{slice_get-map}
use Rattle.anb_intern.specs.declared.node.NodeId.{NodeId}
use Rattle.anb_unify.specs.Substitutions.{put_in}
use Rattle.anb_unify.specs.Classes.{Stands}
use Rattle.anb_unify.specs.Reading.{read}
use Rattle.anb_unify.specs.Solving.{first_variables, read_at}
use Rattle.anb_unify.proofs.Steps.{at_long, variables_long, variable_at, id_at}
use Rattle.anb_unify.proofs.solving.read_one.Goals as goal

variable_stands : (ts : List Tree) (put : ℕ → Tree) (x v : ℕ) (t : Tree) → slice_get ts x ≡ Some (leaf v) → put v ≡ t → Stands ts put x t
variable_stands ts put x v t e h u au = let s : leaf v ≡ u = cc in ap (put_in put) (sym s) ∙ h

pub bounds-variables-number : goal.bounds-variables-number
bounds-variables-number c = omega (arith, c.requires.within, at_long c.args.pool.now c.args.variables.now (first_variables c.args.names (length c.args.narrated.now)) c.requires.variables, variables_long c.args.names (length c.args.narrated.now))

pub pattern-requires : goal.pattern-requires
pattern-requires c =
    let n = c.args.number in
    let d : NodeId = record { 0 = 0 } in
    let at = id_at c.args.pool.now c.args.variables.now (first_variables c.args.names (length c.args.narrated.now)) n d (leaf (c.args.names + n)) c.requires.variables (variable_at c.args.names (length c.args.narrated.now) n c.requires.within) in
    let p = c.requires.readable in
    let e = item_at c.args.narrated.now n c.index-narrated-number.result c.requires.within c.index-narrated-number.is in
    record {
      within = got_within c.args.pool.now (get_or c.args.variables.now n d).0 _ at;
      readable = record {
        rep = p.rep;
        settles = p.settles;
        put = p.put;
        kept = p.kept;
        is = variable_stands c.args.pool.now p.put (get_or c.args.variables.now n d).0 (c.args.names + n) (tree_of c.index-narrated-number.result) at (p.each n (tree_of c.index-narrated-number.result) (slice_get-map tree_of c.args.narrated.now n c.index-narrated-number.result e));
      };
    }

pub returns : goal.returns
returns c rep settled =
    let n = c.args.number in
    let x = leaf (c.args.names + n) in
    let d : NodeId = record { 0 = 0 } in
    let at = id_at c.args.pool.now c.args.variables.now (first_variables c.args.names (length c.args.narrated.now)) n d x c.requires.variables (variable_at c.args.names (length c.args.narrated.now) n c.requires.within) in
    let e = item_at c.args.narrated.now n c.index-narrated-number.result c.requires.within c.index-narrated-number.is in
    let same : unwrap_or (slice_get (map tree_of c.args.narrated.now) n) (leaf 0) ≡ tree_of c.index-narrated-number.result =
    ap (λ o. unwrap_or o (leaf 0)) (slice_get-map tree_of c.args.narrated.now n c.index-narrated-number.result e) in
    if_ok_map c.pattern.result (λ p. tree_of p ≡ read rep x (tree_of c.index-narrated-number.result)) (λ p. tree_of p ≡ read_at rep c.args.names (map tree_of c.args.narrated.now) n)
    (λ p q. q ∙ ap (read rep x) (sym same)) (c.pattern.ensures rep x settled at)
