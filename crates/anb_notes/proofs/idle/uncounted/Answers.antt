-- One name more.
use Rattle.std.proofs.Common.{◌≡◌, ◌+◌, ◌<◌, ◌++◌, [], ◌∷◌, cond, drop, length, get_or, sym, ap, ◌∙◌, arith, append_assoc}
use Rattle.std.specs.Prelude.{filter}
use Rattle.std.proofs.lemmas.List.{append-nil, drop_all}
use Rattle.anb_lemmas.proofs.Each.{each_at}
use Rattle.anb_notes.specs.Idle.{stands_in_none}
use Rattle.anb_notes.proofs.Waiting.{filter_one, next_at}
use Rattle.anb_notes.proofs.idle.uncounted.Goals as goal

pub is_uncounted-requires : goal.is_uncounted-requires
is_uncounted-requires c = each_at (λ x. x < length c.args.counts.now) c.args.names.now c.loop-name.name-index 0 c.requires (omega arith)

pub loop-name-preserved : goal.loop-name-preserved
loop-name-preserved c patterns are =
    let names = c.args.names.now in
    let i = c.loop-name.name-index in
    let x = get_or names i 0 in
    let keep = stands_in_none patterns in
    let out = c.loop-name.out.items in
    let rest = filter keep (drop (i + 1) names) in
    let one = cond (keep x) (x ∷ []) [] in
    let put : c.put_if.new.names.items ≡ out ++ one = c.in_ok-put_if.ensures ∙ ap (λ b. out ++ cond b (x ∷ []) []) (c.is_uncounted.ensures patterns are) in
    ap (λ l. l ++ rest) put ∙ append_assoc out one rest ∙ ap (λ l. out ++ l) (sym (filter_one keep x (drop (i + 1) names))) ∙ ap (λ l. out ++ filter keep l) (sym (next_at names i (omega arith)))
    ∙ c.loop-name.invariant patterns are

pub returns : goal.returns
returns c patterns are =
    let names = c.args.names.now in
    let i = c.loop-name.name-index in
    let out = c.loop-name.out.items in
    sym (append-nil out) ∙ ap (λ l. out ++ filter (stands_in_none patterns) l) (sym (drop_all i names (omega arith))) ∙ c.loop-name.invariant patterns are
