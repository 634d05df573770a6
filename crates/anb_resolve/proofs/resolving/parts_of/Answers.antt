use Rattle.std.proofs.Common.{List, ℕ, map, ap, ◌∙◌, refl}
use denote.Ref.{Bor}
use Rattle.anb_format.specs.Formats.{FormatValue}
use Rattle.anb_syntax.specs.Views.{narration_of}
use Rattle.anb_protocol.specs.declared.parts.Atom.{Atom}
use Rattle.anb_protocol.specs.Protocols.{action_of}
use Rattle.anb_protocol.specs.Views.{pointed}
use Rattle.anb_protocol.proofs.Building.{is_protocol, knows_by}
use Rattle.anb_resolve.proofs.resolving.parts_of.Goals as goal

pub returns : goal.returns
returns c =
    let n = narration_of c.args.n.now in
    let all = c.args.atoms.items in
    let formats = c.args.formats.items in
    let names = c.in_ok-roles.roles.items in
    let roles_are = c.in_ok-roles.ensures ∙ ap (λ (ns : List (Bor (List ℕ))). pointed ns) c.deref.ensures.value ∙ c.in_ok-role_names.ensures in
    let atoms_are = c.in_ok-index.ensures ∙ c.deref-2.ensures.value in
    let knows_are = c.in_ok-knows.ensures ∙ ap (λ (as' : List Atom). knows_by as' c.deref-3.result.now n.knows c.deref-4.result.now) atoms_are
    ∙ ap (λ (fs : List FormatValue). knows_by all fs n.knows c.deref-4.result.now) c.deref-3.ensures.value ∙ ap (λ (rs : List (List ℕ)). knows_by all formats n.knows rs) c.deref-4.ensures.value in
    let actions_are = c.in_ok-actions.ensures ∙ ap (λ (as' : List Atom). map (action_of as' c.deref-5.result.now c.deref-6.result.now) n.actions) atoms_are
    ∙ ap (λ (fs : List FormatValue). map (action_of all fs c.deref-6.result.now) n.actions) c.deref-5.ensures.value ∙ ap (λ (rs : List (List ℕ)). map (action_of all formats rs) n.actions) c.deref-6.ensures.value in
    is_protocol n _ c.in_ok-copy.ensures refl c.requires.formats roles_are c.requires.atoms knows_are actions_are
