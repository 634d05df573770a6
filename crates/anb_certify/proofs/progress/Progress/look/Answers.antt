use Rattle.std.proofs.Common.{◌≡◌, ◌≤◌, ℕ, List, Bool, true, Some, length, map, subst, arith}
use Rattle.std.specs.Prelude.{slice_get}
use Rattle.anb_lemmas.proofs.Results.{on_ok_any}
use Rattle.anb_intern.specs.Nodes.{operands_at}
use Rattle.anb_certify.specs.Progress.{AreQuiet}
use Rattle.anb_certify.specs.Works.{did_of}
use Rattle.anb_certify.proofs.Progressing.{enough, set_by_parts}
use Rattle.anb_certify.proofs.Results.{if_ok}
use Rattle.anb_certify.proofs.progress.Progress.look.Goals as goal

pub returns-clause-found : goal.returns-clause-found
returns-clause-found c = on_ok_any _ c.in_ok-take_in.ensures.found

pub returns-clause-grouped : goal.returns-clause-grouped
returns-clause-grouped c = on_ok_any _ c.in_ok-take_in.ensures.grouped

pub returns-clause-enough : goal.returns-clause-enough
returns-clause-enough c =
    let ids = c.args.ids.now in
    let did = map did_of c.args.done.now in
    let ts = operands_at c.args.pool.now ids in
    let now = c.take_in.new.self in
    let found = c.in_ok-take_in.ensures.found in
    let old = c.args.self.now.flags.items in
    let B : List Bool → Type 0 = λ l. (i : ℕ) (b : Bool) → length old ≤ i → slice_get l i ≡ Some b → b ≡ true in
    let later = subst B c.deref.ensures.value (λ i b l e. c.all_set.ensures c.if-not-all_set.false i b (omega (arith, l, c.len-before.ensures, c.args.self.now.flags.ok.0)) e) in
    let set = set_by_parts old now.flags.items c.requires.before.1 c.in_ok-take_in.ensures.kept later in
    if_ok c.are_quiet.result
    (λ x q e. (
      set,
      let Q : List ℕ → Type 0 = λ l. AreQuiet ts l in
          enough ts did now.firsts.items now.flags.items now.known.items now.pending.items c.in_ok-take_in.ensures.grouped found.flags_long found.settled set found.known found.covered (subst Q c.deref-2.ensures.value (q e)),
    )) c.are_quiet.ensures
