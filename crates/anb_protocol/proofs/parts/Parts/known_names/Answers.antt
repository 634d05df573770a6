use Rattle.std.proofs.Common.{◌≡◌, List, ℕ, Bool, length, map, ap, ◌∙◌, subst, replicate, false}
use Rattle.std.specs.Prelude.{nat_eq, IfOk}
use Rattle.anb_protocol.specs.Names.{distinct}
use Rattle.anb_protocol.specs.Texts.{atom_name, atoms_in_each, known_terms}
use Rattle.anb_protocol.specs.Seen.{new_among}
use Rattle.anb_protocol.specs.Views.{value_of}
use Rattle.anb_protocol.proofs.AtomLemmas.{atoms_below_each}
use Rattle.anb_protocol.proofs.SeenLemmas.{new_all}
use Rattle.anb_protocol.proofs.parts.Parts.known_names.Goals as goal

pub returns : goal.returns
returns c =
    let p = value_of c.args.self.now in
    let atoms = atoms_in_each (known_terms p) in
    let is : c.in_ok-new.new.items ≡ distinct nat_eq atoms =
    c.in_ok-new.ensures.new ∙ ap (λ (fs : List Bool). new_among fs c.deref.result.now) c.in_ok-flags.ensures
    ∙ ap (λ (xs : List ℕ). new_among (replicate (length p.atoms) false) xs) (c.deref.ensures.value ∙ c.in_ok-atoms.ensures)
    ∙ new_all (length p.atoms) atoms (atoms_below_each p (known_terms p) c.requires) in
    let P : List ℕ → Type 0 = λ xs. IfOk c.atom_texts.result (λ names. names.items ≡ map (atom_name p) xs) in
    subst P (c.deref-2.ensures.value ∙ is) c.atom_texts.ensures
