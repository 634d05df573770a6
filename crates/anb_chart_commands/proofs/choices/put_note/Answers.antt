use Rattle.std.proofs.Common.{◌≡◌, ◌-◌, List, ℕ, [], ◌∷◌, ◌++◌, length, take, drop, ap, sym, ◌∙◌, arith, length-drop}
use Rattle.std.specs.Prelude.{codes}
use Rattle.std.specs.List.{flat_map}
use Rattle.std.proofs.lemmas.List.{append-nil, drop_all, take_all}
use Rattle.anb_lemmas.proofs.Lists.{drop_next}
use Rattle.anb_protocol.specs.Views.{action_value}
use Rattle.anb_chart.specs.Charts.{note_line, participant}
use Rattle.anb_chart.proofs.Lines.{further, note_put}
use Rattle.anb_chart_commands.proofs.choices.put_note.Goals as goal

pub returns : goal.returns
returns c =
    let p = c.args.protocol.now in
    let a = c.args.action.now in
    let old = c.args.out.now.items in
    let from = participant p a.from in
    let names : List (List ℕ) = c.args.names.now in
    let first : List ℕ = c.first-item.result in
    let rest : List (List ℕ) = take (length names - 1) (drop 1 names) in
    let all : rest ≡ drop 1 names = take_all (length names - 1) (drop 1 names) (omega (arith, length-drop 1 names)) in
    let split : names ≡ first ∷ rest = drop_next names 0 first (omega (arith, c.in-len1-up.len_at_least)) c.first-item.is ∙ ap (λ (l : List (List ℕ)). first ∷ l) (sym all) in
    let name : c.as_bytes.result.now ≡ first = c.as_bytes.ensures.value ∙ c.as_str.ensures in
    let done = drop_all c.loop-name.name-index rest (omega arith) in
    let start : c.extend_from_slice-3.new.self.items ≡ (((old ++ codes "    Note over ") ++ from) ++ codes ": new ") ++ first =
    c.in_ok-extend_from_slice-3.ensures.items ∙ ap (λ l. c.extend_from_slice-2.new.self.items ++ l) name
    ∙ ap (λ l. l ++ first) (c.in_ok-extend_from_slice-2.ensures.items ∙ ap (λ l. l ++ codes ": new ") (c.in_ok-put_participant.ensures ∙ ap (λ l. l ++ from) c.in_ok-extend_from_slice.ensures.items)) in
    let loop : c.loop-name.out.items ≡ c.extend_from_slice-3.new.self.items ++ flat_map further rest =
    sym (append-nil c.loop-name.out.items) ∙ ap (λ l. c.loop-name.out.items ++ flat_map further l) (sym done) ∙ c.loop-name.invariant in
    c.in_ok-push.ensures.items ∙ ap (λ l. l ++ 10 ∷ []) (loop ∙ ap (λ l. l ++ flat_map further rest) start)
    ∙ note_put old from first rest ∙ ap (λ (l : List (List ℕ)). old ++ note_line p (action_value a) l) (sym split)
