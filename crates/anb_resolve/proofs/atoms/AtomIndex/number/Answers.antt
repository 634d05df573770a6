use Rattle.std.proofs.Common.{◌≡◌, ap, ◌∙◌, arith}
use Rattle.std.specs.Prelude.{unwrap_or}
use Rattle.std.specs.Str.{bytes_eq}
use Rattle.anb_index.specs.Places.{place_of}
use Rattle.anb_protocol.specs.declared.parts.Atom.{Atom}
use Rattle.anb_protocol.specs.Protocols.{atom_number}
use Rattle.anb_resolve.proofs.AtomNames.{atom_numbered}
use Rattle.anb_protocol.proofs.PlaceLemmas.{place_low}
use Rattle.anb_resolve.proofs.atoms.AtomIndex.number.Goals as goal

pub overflow_cast-result : goal.overflow_cast-result
overflow_cast-result c =
    let x = c.args.name.now in
    let is : c.in-Some.place ≡ atom_number c.args.self.now x =
    ap (λ o. unwrap_or o 0) c.in-Some.ensures ∙ ap (λ t. unwrap_or (place_of c.self.inside.names t) 0) c.as_str.ensures ∙ ap (λ ns. unwrap_or (place_of ns x) 0) c.self.invariant.0 ∙ atom_numbered c.self.inside.atoms.now x
    ∙ ap (λ all. atom_number all x) c.self.view_is in
    let low = place_low (λ (a : Atom). bytes_eq a.name x) 0 c.args.self.now in
    omega (arith, is, low, c.requires)

pub returns-in-Some : goal.returns-in-Some
returns-in-Some c =
    let x = c.args.name.now in
    ap (λ o. unwrap_or o 0) c.in-Some.ensures ∙ ap (λ t. unwrap_or (place_of c.self.inside.names t) 0) c.as_str.ensures ∙ ap (λ ns. unwrap_or (place_of ns x) 0) c.self.invariant.0 ∙ atom_numbered c.self.inside.atoms.now x
    ∙ ap (λ all. atom_number all x) c.self.view_is

pub returns-in-None : goal.returns-in-None
returns-in-None c =
    let x = c.args.name.now in
    ap (λ o. unwrap_or o 0) c.in-None.ensures ∙ ap (λ t. unwrap_or (place_of c.self.inside.names t) 0) c.as_str.ensures ∙ ap (λ ns. unwrap_or (place_of ns x) 0) c.self.invariant.0 ∙ atom_numbered c.self.inside.atoms.now x
    ∙ ap (λ all. atom_number all x) c.self.view_is
