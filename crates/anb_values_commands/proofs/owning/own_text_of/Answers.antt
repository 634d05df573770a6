use Rattle.std.proofs.Common.{◌≡◌, ◌≢◌, ◌≤◌, ◌∙◌, ℕ, List, [], length, All, ap, sym, subst, arith}
use Rattle.std.specs.Prelude.{AllPairs, option_copied}
use Rattle.std.specs.List.{AllByRecursion}
use Rattle.std.proofs.lemmas.List.{length-map}
use Rattle.anb_lemmas.proofs.Lists.{item_at}
use Rattle.anb_base.specs.declared.TheConstants.{ARRIVAL}
use Rattle.anb_honest.specs.Joint.{cast, given_bytes}
use Rattle.anb_values.specs.Lines.{IsLabel}
use Rattle.anb_protocol.specs.Texts.{known_by, term_text}
use Rattle.anb_text_commands.proofs.Spelling.{known_labels}
use Rattle.anb_values_commands.specs.RoleValuesCommand.{first_long}
use Rattle.anb_values_commands.proofs.Owned.{fit, none_is_long, own_given}
use Rattle.anb_values_commands.proofs.owning.own_text_of.Goals as goal

pub first_long-requires : goal.first_long-requires
first_long-requires c =
    let p = c.args.protocol.now in
    let known = known_by p c.args.role in
    let k = cast p [] c.args.values.now [] in
    ap length (c.deref-2.ensures.value ∙ c.in-Ok-known_values.ensures [] []) ∙ length-map known (given_bytes k)
    ∙ sym (ap length (c.deref.ensures.value ∙ c.in-Ok.ensures) ∙ length-map known (term_text p))

pub values_text-requires-clause-labels : goal.values_text-requires-clause-labels
values_text-requires-clause-labels c =
    subst (AllByRecursion IsLabel) (sym (c.deref-3.ensures.value ∙ c.in-Ok.ensures)) (known_labels c.args.protocol.now c.name.ensures.protocol c.args.role)

pub values_text-requires-clause-differ : goal.values_text-requires-clause-differ
values_text-requires-clause-differ c =
    subst (λ (names : List (List ℕ)). AllPairs (λ (one other : List ℕ). one ≢ other) names) (sym (c.deref-3.ensures.value ∙ c.in-Ok.ensures))
    (c.known_texts_differ.ensures c.args.protocol.now c.args.role c.name.ensures.protocol)

pub values_text-requires-clause-count : goal.values_text-requires-clause-count
values_text-requires-clause-count c =
    let p = c.args.protocol.now in
    let known = known_by p c.args.role in
    let k = cast p [] c.args.values.now [] in
    ap length (c.deref-4.ensures.value ∙ c.in-Ok-known_values.ensures [] []) ∙ length-map known (given_bytes k)
    ∙ sym (ap length (c.deref-3.ensures.value ∙ c.in-Ok.ensures) ∙ length-map known (term_text p))

pub values_text-requires-clause-short : goal.values_text-requires-clause-short
values_text-requires-clause-short c =
    let p = c.args.protocol.now in
    let known = known_by p c.args.role in
    let k = cast p [] c.args.values.now [] in
    let count = ap length (c.deref-2.ensures.value ∙ c.in-Ok-known_values.ensures [] []) ∙ length-map known (given_bytes k)
    ∙ sym (ap length (c.deref.ensures.value ∙ c.in-Ok.ensures) ∙ length-map known (term_text p)) in
    subst (All (λ (v : List ℕ). length v ≤ ARRIVAL)) (c.deref-2.ensures.value ∙ sym c.deref-4.ensures.value)
    (none_is_long c.deref.result.now c.deref-2.result.now count (sym c.first_long.ensures ∙ ap option_copied c.in_default.is))

pub returns-in-Ok-values_text-clause-given : goal.returns-in-Ok-values_text-clause-given
returns-in-Ok-values_text-clause-given c =
    let p = c.args.protocol.now in
    own_given p c.args.role (fit c.args.values.now c.args.seed) c.deref-3.result.now c.deref-4.result.now c.role_seed-seed.result c.index-roles-role.result c.in-Ok-values_text.text
    (c.deref-3.ensures.value ∙ c.in-Ok.ensures) (c.deref-4.ensures.value ∙ c.in-Ok-known_values.ensures [] []) c.role_seed-seed.ensures
    (item_at p.roles c.args.role c.index-roles-role.result c.requires (rw c.roles.ensures at c.index-roles-role.is))
    (ap (λ l. first_long l c.deref-4.result.now) (c.deref-3.ensures.value ∙ sym c.deref.ensures.value) ∙ ap (first_long c.deref.result.now) (c.deref-4.ensures.value ∙ sym c.deref-2.ensures.value)
    ∙ sym c.first_long.ensures ∙ ap option_copied c.in_default.is) c.in-Ok-values_text.ensures
