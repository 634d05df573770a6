-- What was put, unified and read.
use Rattle.std.proofs.Common.{◌≡◌, length, map, sym, subst}
use Rattle.std.proofs.lemmas.List.{length-map}
use Rattle.anb_lemmas.proofs.Results.{if_ok_map}
use Rattle.anb_term.specs.View.{tree_of}
use Rattle.anb_unify.specs.Equations.{IsMostGeneral, atoms_of, AreVariables}
use Rattle.anb_unify.specs.Views.{equation_value}
use Rattle.anb_unify.specs.Reading.{Settles}
use Rattle.anb_unify.specs.Solving.{AreAt, first_variables, terms_of_equations, CanBeRead, read_at}
use Rattle.anb_unify.proofs.Steps.{at_grown, own_classes, own_solved}
use Rattle.anb_unify.proofs.Finishing.{solved_on, can_be_read, stands_for, settled, is_most_general}
use Rattle.anb_unify.proofs.solving.most_general.Goals as goal

pub unify_sides-requires : goal.unify_sides-requires
unify_sides-requires c = record {
  classes = own_classes c.args.names c.put_sides.new.pool c.in_ok-parents.parents.items c.in_ok-parents.ensures;
  solved = own_solved c.args.names c.put_sides.new.pool c.in_ok-parents.parents.items c.in_ok-parents.ensures;
  variables = subst (λ l. AreAt c.put_sides.new.pool l (first_variables c.args.names (length c.args.narrated.now))) (sym c.deref.ensures.value)
      (at_grown c.put_variables.new.pool c.put_sides.new.pool c.in_ok-variables.variables.items (first_variables c.args.names (length c.args.narrated.now)) c.in_ok-sides.ensures.grown c.in_ok-variables.ensures);
  sides = subst (λ l. AreAt c.put_sides.new.pool l (terms_of_equations (map equation_value c.args.equations.now))) (sym c.deref-2.ensures.value) c.in_ok-sides.ensures.at;
  narrated = c.requires.narrated;
  equations = c.requires.equations;
}

pub read_each-requires : goal.read_each-requires
read_each-requires c =
    let qs = map equation_value c.args.equations.now in
    let ps = c.roots_of.new.parents.items in
    let solved = solved_on c.args.names c.put_sides.new.pool qs c.unify_sides.new.parents.items ps c.in_ok-roots.ensures.stay c.unify_sides.ensures.solved in
    record {
      readable = subst (λ l. CanBeRead c.args.names c.put_sides.new.pool l (map tree_of c.args.narrated.now)) (sym c.deref-3.ensures.value)
          (can_be_read c.args.names c.put_sides.new.pool ps c.in_ok-roots.roots.items c.in_ok-roots.ensures.classes c.len.ensures.distinct qs solved c.in_ok-roots.ensures.long c.in_ok-roots.ensures.roots (map tree_of c.args.narrated.now) c.requires.narrated);
      variables = subst (λ l. AreAt c.put_sides.new.pool l (first_variables c.args.names (length c.args.narrated.now))) (sym c.deref-4.ensures.value)
          (at_grown c.put_variables.new.pool c.put_sides.new.pool c.in_ok-variables.variables.items (first_variables c.args.names (length c.args.narrated.now)) c.in_ok-sides.ensures.grown c.in_ok-variables.ensures);
      at = c.requires.at;
    }

pub returns : goal.returns
returns c =
    let names = c.args.names in
    let ts = c.put_sides.new.pool in
    let qs = map equation_value c.args.equations.now in
    let ps = c.roots_of.new.parents.items in
    let roots = c.in_ok-roots.roots.items in
    let narrated = map tree_of c.args.narrated.now in
    let solved = solved_on names ts qs c.unify_sides.new.parents.items ps c.in_ok-roots.ensures.stay c.unify_sides.ensures.solved in
    let is = settled names ts ps roots c.in_ok-roots.ensures.classes c.len.ensures.distinct qs solved c.in_ok-roots.ensures.long c.in_ok-roots.ensures.roots in
    let rep = stands_for names ts ps roots c.in_ok-roots.ensures.classes c.len.ensures.distinct qs solved c.in_ok-roots.ensures.long c.in_ok-roots.ensures.roots in
    let many = sym (length-map c.args.narrated.now tree_of) in
    let variables_at = at_grown c.put_variables.new.pool ts c.in_ok-variables.variables.items (first_variables names (length c.args.narrated.now)) c.in_ok-sides.ensures.grown c.in_ok-variables.ensures in
    if_ok_map c.read_each.result (λ patterns. map tree_of patterns.items ≡ map (read_at rep names narrated) c.args.at.now)
    (λ patterns. IsMostGeneral names qs (atoms_of names c.args.at.now) (map tree_of patterns.items))
    (λ patterns e. is_most_general names ts ps roots c.in_ok-roots.ensures.classes c.len.ensures.distinct qs solved c.in_ok-roots.ensures.long c.in_ok-roots.ensures.roots narrated c.requires.narrated c.len.ensures.before
    c.in_ok-variables.variables.items c.in_ok-sides.sides.items (subst (λ n. AreAt ts c.in_ok-variables.variables.items (first_variables names n)) many variables_at) c.in_ok-sides.ensures.at
    c.args.at.now (subst (λ n. AreVariables n c.args.at.now) many c.requires.at) (map tree_of patterns.items) e)
    (c.read_each.ensures rep (subst (λ l. Settles names ts l rep) (sym c.deref-3.ensures.value) is))
