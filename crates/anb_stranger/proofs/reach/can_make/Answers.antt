-- The line, where there is one.
use Rattle.std.proofs.Common.{◌≡◌, map, Bool, true, false, IfOk, sym, subst}
use Rattle.anb_term.specs.View.{tree_of}
use Rattle.anb_close.proofs.Growing.{formed_at}
use Rattle.anb_stranger.specs.Steps.{MakesOne}
use Rattle.anb_stranger.proofs.Lines.{there, absent}
use Rattle.anb_stranger.proofs.reach.can_make.Goals as goal

pub makes-requires : goal.makes-requires
makes-requires c =
    let x = c.in-Some.line.now in
    formed_at (λ o. true) (map tree_of c.args.lines.now) c.args.at (tree_of x) c.requires (there c.args.lines.now c.args.at x c.in-Some.ensures.lookup.0 c.in-Some.ensures.lookup.1)

pub returns-in-Some-clause-yes : goal.returns-in-Some-clause-yes
returns-in-Some-clause-yes c = λ has f g.
    let x = c.in-Some.line.now in
    let at = there c.args.lines.now c.args.at x c.in-Some.ensures.lookup.0 c.in-Some.ensures.lookup.1 in
    subst (λ o. IfOk c.makes.result (λ (b : Bool). b ≡ true → MakesOne has c.args.having.now o)) (sym at) (c.makes.ensures.yes has f (formed_at has (map tree_of c.args.lines.now) c.args.at (tree_of x) g at))

pub returns-in-Some-clause-no : goal.returns-in-Some-clause-no
returns-in-Some-clause-no c = λ has.
    let x = c.in-Some.line.now in
    let at = there c.args.lines.now c.args.at x c.in-Some.ensures.lookup.0 c.in-Some.ensures.lookup.1 in
    subst (λ o. IfOk c.makes.result (λ (b : Bool). b ≡ false → MakesOne has c.args.having.now o → ⊥)) (sym at) (c.makes.ensures.no has)

pub returns-in-None-clause-yes : goal.returns-in-None-clause-yes
returns-in-None-clause-yes c = λ has f g e. subst (MakesOne has c.args.having.now) (sym (absent c.args.lines.now c.args.at c.in-None.ensures.lookup.0)) tt
