use Rattle.std.proofs.Common.{◌≡◌, ap, sym, ◌∙◌, subst, option_map, Some, None}
use Rattle.anb_term.specs.View.{tree_of}
use Rattle.anb_close.specs.Rows.{made_for}
use Rattle.anb_close.proofs.Rows.{made_small}
use Rattle.anb_close.specs.MadeView.{made_tree}
use Rattle.anb_close.specs.Entries.{rows, IsKnown}
use Rattle.anb_close.proofs.Closing.{known}
use Rattle.anb_close.proofs.Sound.{no_recipe, some_recipe}
use Rattle.anb_close.proofs.closure.Closure.compose.Goals as goal

pub returns-in-None : goal.returns-in-None
returns-in-None c =
    let t = tree_of c.args.t.now in
    let k = subst IsKnown c.self.view_is (known _ _ c.self.invariant.0.rest c.self.invariant.0.few) in
    let e : None ≡ made_for (rows c.args.self.now) t = sym (ap (option_map made_tree) c.in-None.is) ∙ c.in_ok-made.ensures ∙ ap (λ es. made_for (rows es) t) c.self.view_is in
    record { chosen = e; refused = λ has. no_recipe has c.args.self.now t k (sym e); given = λ has l f. tt; small = tt }

pub returns-in-Some : goal.returns-in-Some
returns-in-Some c =
    let t = tree_of c.args.t.now in
    let k = subst IsKnown c.self.view_is (known _ _ c.self.invariant.0.rest c.self.invariant.0.few) in
    let m = made_tree c.in-Some.m in
    let e : Some m ≡ made_for (rows c.args.self.now) t = sym (ap (option_map made_tree) c.in-Some.is) ∙ c.in_ok-made.ensures ∙ ap (λ es. made_for (rows es) t) c.self.view_is in
    record {
      chosen = e;
      refused = λ has. tt;
      given = λ has l f. some_recipe has c.args.self.now t m k l f (sym e);
      small = made_small (rows c.args.self.now) t m (sym e);
    }
