use Rattle.std.proofs.Common.{◌≡◌, ◌≢◌, ℕ, List, AllPairs, Some, subst, ◌∙◌, arith}
use Rattle.std.specs.Prelude.{slice_get}
use Rattle.anb_lemmas.proofs.Results.{if_ok_map}
use Rattle.anb_lemmas.proofs.Lists.{item_at}
use Rattle.anb_protocol.specs.Protocols.{ProtocolValue}
use Rattle.anb_protocol.specs.Texts.{known_texts}
use Rattle.anb_choice.specs.Views.{branched_of}
use Rattle.anb_command.proofs.Preparing.{if_ok_items}
use Rattle.anb_branch_commands.proofs.Seats.{known_first, numbered_first}
use Rattle.anb_branch_commands.proofs.valuing.texts_known.Goals as goal

pub known-requires : goal.known-requires
known-requires c =
    let one = c.one-item.result in
    let first = subst (λ (arms : List ProtocolValue). slice_get arms 0 ≡ Some one) c.as_slice.ensures.value (item_at c.as_slice.result.now 0 one (omega (arith, c.in-len1-up.len_at_least)) c.one-item.is) in
    numbered_first (branched_of c.args.b.now) c.args.role.now one c.as_bytes.result.now c.role_of.result c.unwrap_or.result first c.requires (c.as_bytes.ensures.value ∙ c.as_str.ensures) c.role_of.ensures.value c.unwrap_or.ensures

pub returns-in-len1-up-clause-texts : goal.returns-in-len1-up-clause-texts
returns-in-len1-up-clause-texts c =
    let one = c.one-item.result in
    let first = subst (λ (arms : List ProtocolValue). slice_get arms 0 ≡ Some one) c.as_slice.ensures.value (item_at c.as_slice.result.now 0 one (omega (arith, c.in-len1-up.len_at_least)) c.one-item.is) in
    let known = known_first (branched_of c.args.b.now) c.args.role.now one c.as_bytes.result.now c.role_of.result c.unwrap_or.result first (c.as_bytes.ensures.value ∙ c.as_str.ensures) c.role_of.ensures.value c.unwrap_or.ensures in
    if_ok_map c.known.result _ _ (λ names is. is ∙ known) c.known.ensures

pub returns-in-len1-up-clause-differ : goal.returns-in-len1-up-clause-differ
returns-in-len1-up-clause-differ c =
    if_ok_items c.known.result (λ names. names.items) (known_texts c.one-item.result c.unwrap_or.result) (AllPairs (λ (one other : List ℕ). one ≢ other)) c.known.ensures
    (c.known_texts_differ.ensures c.one-item.result c.unwrap_or.result c.name.ensures.protocol)
