use Rattle.std.proofs.Common.{◌≡◌, ◌<◌, ◌++◌, List, length, get_or, ap, ◌∙◌, arith}
use Rattle.anb_term.specs.Tree.{Tree, trees_of}
use Rattle.anb_protocol.specs.Texts.{atoms_in_all}
use Rattle.anb_protocol.proofs.AtomLemmas.{atoms_next}
use Rattle.anb_protocol.proofs.parts.Parts.known_atoms.Goals as goal

pub loop-terms-preserved : goal.loop-terms-preserved
loop-terms-preserved c =
    let knows = c.args.self.now.knows.items in
    let i = c.loop-terms.terms-index in
    let ts = c.terms-item.result in
    let here : i < length knows = omega (arith, c.loop-terms-test.true, ap length c.deref-terms-items.ensures.value) in
    let is : ts ≡ get_or knows i ts = rw c.deref-terms-items.ensures.value at c.terms-item.is in
    let put = c.in_ok-put_all_atoms.ensures ∙ ap (λ (us : List Tree). c.loop-terms.atoms.items ++ atoms_in_all (trees_of us)) c.as_slice.ensures in
    atoms_next knows i ts c.loop-terms.atoms.items _ _ here is put c.loop-terms.invariant
