use Rattle.std.proofs.Common.{◌≡◌, ap, sym, ◌∙◌, option_map, Some, None, List}
use Rattle.anb_term.specs.Tree.{Tree, leaf, trees_of}
use Rattle.anb_term.specs.View.{tree_of}
use Rattle.anb_close.specs.Rows.{made_for, mades_for}
use Rattle.anb_close.specs.MadeView.{made_tree}
use Rattle.anb_close.specs.Entries.{rows}
use Rattle.anb_basis.proofs.Comparing.{formed_here, some_here, compared, atom_not, undone_not, none_not, rebuilt}
use Rattle.anb_basis.proofs.adding.compared_with.Goals as goal

pub compose-requires : goal.compose-requires
compose-requires c = formed_here c.args.closure.now c.entries.ensures.known c.args.i c.args.term.now c.requires

pub returns-in-None : goal.returns-in-None
returns-in-None c t k = some_here c.args.closure.now c.entries.ensures.known c.args.i c.args.term.now c.requires (sym (ap (option_map made_tree) c.in-None.is) ∙ c.in_ok-compose.ensures.chosen)

pub returns-in-Some-Build : goal.returns-in-Some-Build
returns-in-Some-Build c =
    let e = sym (ap (option_map made_tree) (c.in-Some-Build.is ∙ ap Some c.in-Some-Build.field-0-is)) ∙ c.in_ok-compose.ensures.chosen in
    compared c.args.closure.now c.entries.ensures.known c.args.i c.args.term.now c.requires _ e (λ q. let s : ⊥ = cc in s)

pub returns-then-i-j : goal.returns-then-i-j
returns-then-i-j c =
    let e = sym (ap (option_map made_tree) (c.in-Some-Entry.is ∙ ap Some c.in-Some-Entry.field-0-is)) ∙ c.in_ok-compose.ensures.chosen in
    compared c.args.closure.now c.entries.ensures.known c.args.i c.args.term.now c.requires (leaf c.in-Some-Entry.j) e (λ q. c.if-i-j.true (let s : c.args.i ≡ c.in-Some-Entry.j = cc in s))

pub returns-in-Atom : goal.returns-in-Atom
returns-in-Atom c =
    let e = sym (ap (option_map made_tree) (c.in-Some-Entry.is ∙ ap Some c.in-Some-Entry.field-0-is)) ∙ c.in_ok-compose.ensures.chosen in
    let lone : Some (leaf c.args.i) ≡ made_for (rows c.args.closure.now) (tree_of c.args.term.now) = ap (λ n. Some (leaf n)) c.if-i-j.false ∙ e in
    atom_not c.args.closure.now c.entries.ensures.known c.args.i c.args.term.now c.requires lone c.in-Atom.field-0 c.in-Atom.is

pub returns-then-undoes : goal.returns-then-undoes
returns-then-undoes c =
    let e = sym (ap (option_map made_tree) (c.in-Some-Entry.is ∙ ap Some c.in-Some-Entry.field-0-is)) ∙ c.in_ok-compose.ensures.chosen in
    let lone : Some (leaf c.args.i) ≡ made_for (rows c.args.closure.now) (tree_of c.args.term.now) = ap (λ n. Some (leaf n)) c.if-i-j.false ∙ e in
    undone_not c.args.closure.now c.entries.ensures.known c.args.i c.args.term.now c.requires lone c.in-Node.op c.in-Node.operands c.in-Node.is (sym c.undoes.ensures ∙ c.if-undoes.true)

pub returns-in-None-2 : goal.returns-in-None-2
returns-in-None-2 c =
    let e = sym (ap (option_map made_tree) (c.in-Some-Entry.is ∙ ap Some c.in-Some-Entry.field-0-is)) ∙ c.in_ok-compose.ensures.chosen in
    let lone : Some (leaf c.args.i) ≡ made_for (rows c.args.closure.now) (tree_of c.args.term.now) = ap (λ n. Some (leaf n)) c.if-i-j.false ∙ e in
    let v : None ≡ mades_for (rows c.args.closure.now) (trees_of c.in-Node.operands) = sym (ap (option_map (λ (ms : List Tree). trees_of ms)) c.in-None-2.is) ∙ c.in_ok-compose_all-in-Node.ensures ∙ ap (λ ts. mades_for (rows c.args.closure.now) (trees_of ts)) c.as_slice.ensures in
    none_not c.args.closure.now c.entries.ensures.known c.args.i c.args.term.now c.requires lone c.in-Node.op c.in-Node.operands c.in-Node.is v

pub returns-in-Some : goal.returns-in-Some
returns-in-Some c =
    let e = sym (ap (option_map made_tree) (c.in-Some-Entry.is ∙ ap Some c.in-Some-Entry.field-0-is)) ∙ c.in_ok-compose.ensures.chosen in
    let lone : Some (leaf c.args.i) ≡ made_for (rows c.args.closure.now) (tree_of c.args.term.now) = ap (λ n. Some (leaf n)) c.if-i-j.false ∙ e in
    let v : Some (trees_of c.in-Some.made) ≡ mades_for (rows c.args.closure.now) (trees_of c.in-Node.operands) = sym (ap (option_map (λ (ms : List Tree). trees_of ms)) c.in-Some.is) ∙ c.in_ok-compose_all-in-Node.ensures ∙ ap (λ ts. mades_for (rows c.args.closure.now) (trees_of ts)) c.as_slice.ensures in
    rebuilt c.args.closure.now c.entries.ensures.known c.args.i c.args.term.now c.requires lone c.in-Node.op c.in-Node.operands c.in-Some.made c.in-Node.is (sym c.undoes.ensures ∙ c.if-undoes.false) v
