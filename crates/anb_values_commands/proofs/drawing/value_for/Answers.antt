use Rattle.std.proofs.Common.{◌≡◌, ◌∙◌, List, ℕ, Bool, cond, sym, ap}
use Rattle.anb_index.specs.Places.{among}
use Rattle.anb_lemmas.proofs.Results.{if_ok_map}
use Rattle.anb_protocol.specs.Checks.{names_agent}
use Rattle.anb_resolve.proofs.AtomNames.{agents_named}
use Rattle.anb_seal.specs.Streams.{draw_of}
use Rattle.anb_values_commands.proofs.drawing.value_for.Goals as goal

pub returns-then-contains : goal.returns-then-contains
returns-then-contains c =
    if_ok_map c.copied.result _ _ (λ value is. λ p same.
    let name = c.args.name.now in
    let agent : names_agent p.atoms name ≡ _ = sym (agents_named p.atoms name) ∙ ap (λ ns. among ns name) (sym same) ∙ sym c.contains.ensures ∙ c.if-contains.true in
    is ∙ c.as_bytes.ensures.value ∙ ap (λ (b : Bool). cond b name (draw_of c.args.seed.now 0 c.args.i)) (sym agent)) c.copied.ensures

pub returns-else-contains : goal.returns-else-contains
returns-else-contains c =
    if_ok_map c.copied-else-contains.result _ _ (λ value is. λ p same.
    let name = c.args.name.now in
    let other : names_agent p.atoms name ≡ _ = sym (agents_named p.atoms name) ∙ ap (λ ns. among ns name) (sym same) ∙ sym c.contains.ensures ∙ c.if-contains.false in
    is ∙ c.draw.ensures ∙ ap (λ (b : Bool). cond b name (draw_of c.args.seed.now 0 c.args.i)) (sym other)) c.copied-else-contains.ensures
