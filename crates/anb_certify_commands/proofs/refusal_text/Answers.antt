use Rattle.std.proofs.Common.{◌≡◌, List, ℕ, ◌++◌, length, Some, ap, ◌∙◌, subst, arith}
use Rattle.std.specs.Prelude.{slice_get}
use Rattle.anb_term.proofs.Lists.{slice_get-at}
use Rattle.anb_certify_commands.proofs.Lines.{refusal_put}
use Rattle.anb_certify_commands.proofs.refusal_text.Goals as goal

pub returns : goal.returns
returns c =
    let sender = c.index-roles-refusal.result in
    let refusal = c.args.refusal.now in
    let here : slice_get c.roles.result.now refusal.role ≡ Some sender = slice_get-at c.roles.result.now refusal.role sender (omega (arith, c.requires.reason.role, ap length c.roles.ensures)) c.index-roles-refusal.is in
    let P : List (List ℕ) → Type 0 = λ roles. slice_get roles refusal.role ≡ Some sender in
    record {
      refusal = refusal;
      sender = sender;
      reason = c.requires.reason;
      is_sender = subst P c.roles.ensures here;
      is = c.new.ensures ∙ refusal_put c.args.protocol.now sender refusal _ _ _ _ _ _ _ _ _ _ _ c.new-out.ensures.items (c.in_ok-put.ensures ∙ ap (λ l. c.new-out.result.items ++ l) c.as_str.ensures) c.in_ok-put-2.ensures c.in_ok-put-3.ensures
          c.in_ok-put-4.ensures c.in_ok-put-5.ensures c.in_ok-put-6.ensures c.in_ok-put_terms.ensures (c.as_str-2.ensures ∙ c.in_ok-message.ensures) c.format.ensures.text c.as_slice.ensures;
    }
