use Rattle.std.proofs.Common.{◌≤◌, ◌∙◌, ℕ, List, [], length, All, ap, sym, subst}
use Rattle.std.specs.Prelude.{option_copied}
use Rattle.std.proofs.lemmas.List.{length-map}
use Rattle.anb_base.specs.declared.TheConstants.{ARRIVAL}
use Rattle.anb_honest.specs.Joint.{cast, given_bytes}
use Rattle.anb_protocol.specs.Texts.{known_by, term_text}
use Rattle.anb_values_commands.proofs.Owned.{none_is_long}
use Rattle.anb_probe_commands.proofs.files.check_beginning.Goals as goal

pub first_long-requires : goal.first_long-requires
first_long-requires c =
    let p = c.args.protocol.now in
    let known = known_by p c.args.role in
    let k = cast p [] c.args.values.now [] in
    ap length (c.deref-2.ensures.value ∙ c.in-Ok-known_values.ensures [] []) ∙ length-map known (given_bytes k)
    ∙ sym (ap length (c.deref.ensures.value ∙ c.in-Ok.ensures) ∙ length-map known (term_text p))

pub returns-clause-short : goal.returns-clause-short
returns-clause-short c =
    let p = c.args.protocol.now in
    let known = known_by p c.args.role in
    let k = cast p [] c.args.values.now [] in
    let count =
    ap length (c.deref-2.ensures.value ∙ c.in-Ok-known_values.ensures [] []) ∙ length-map known (given_bytes k)
    ∙ sym (ap length (c.deref.ensures.value ∙ c.in-Ok.ensures) ∙ length-map known (term_text p)) in
    subst (All (λ (v : List ℕ). length v ≤ ARRIVAL)) (c.deref-2.ensures.value ∙ c.in-Ok-known_values.ensures [] [])
    (none_is_long c.deref.result.now c.deref-2.result.now count (sym c.first_long.ensures ∙ ap option_copied c.in-None.is))
