-- One message more.
use Rattle.std.proofs.Common.{◌≡◌, ℕ, zero, suc, ◌+◌, ◌≤◌, ◌++◌, ◌∷◌, List, [], Bool, true, false, cond, map, drop, sym, ap, ◌∙◌, arith, append_assoc}
use Rattle.anb_lemmas.proofs.Lists.{map_drop_next}
use Rattle.anb_term.specs.Tree.{Tree}
use Rattle.anb_term.specs.View.{tree_of}
use Rattle.anb_protocol.specs.Views.{action_value}
use Rattle.anb_pattern.specs.Taken.{accepted, accepted_at, is_received}
use Rattle.anb_pattern.proofs.taken.put_accepted.Goals as goal
use Rattle.anb_pattern.proofs.taken.put_accepted.Goals.{then-is_received, else-is_received}

drop_after : (n : ℕ) (ts : List Tree) → drop (n + 1) ts ≡ drop 1 (drop n ts)
drop_after zero ts = let m : zero + 1 ≡ 1 = omega arith in ap (λ k. drop k ts) m
drop_after (suc n) [] = let m : suc n + 1 ≡ suc (n + 1) = omega arith in ap (λ (k : ℕ). drop k []) m
drop_after (suc n) (t ∷ ts) = let m : suc n + 1 ≡ suc (n + 1) = omega arith in ap (λ k. drop k (t ∷ ts)) m ∙ drop_after n ts

due_after : (b : Bool) (n m : ℕ) (ts : List Tree) → m ≡ cond b (n + 1) n → drop m ts ≡ cond b (drop 1 (drop n ts)) (drop n ts)
due_after true n m ts e = ap (λ k. drop k ts) e ∙ drop_after n ts
due_after false n m ts e = ap (λ k. drop k ts) e

at_most : (b : Bool) (n k : ℕ) → cond b (n + 1) n ≡ k → k ≤ n + 1
at_most true n k e = omega (arith, e)
at_most false n k e = omega (arith, e)

pub loop-action-preserved : goal.loop-action-preserved
loop-action-preserved c =
    let p = c.args.protocol.now in
    let role = c.args.role in
    let ts = map tree_of c.args.patterns.now in
    let actions = c.args.actions.now in
    let k = c.loop-action.action-index in
    let x = c.action-item.result in
    let a = action_value x in
    let v = c.loop-action.invariant in
    let next = c.loop-action.next in
    let out = c.loop-action.out.items in
    let one = accepted_at p role (drop next ts) a in
    let later = map action_value (drop (k + 1) actions) in
    let b = is_received role a in
    let became : c.if-is_received.next ≡ cond b (next + 1) next = elim c.if-is_received.branch [
      | then-is_received w ↦ w.next-is ∙ ap (λ d. cond d (next + 1) next) (sym (sym c.is_received.ensures ∙ w.if-is_received.true))
      | else-is_received w ↦ w.next-is ∙ ap (λ d. cond d (next + 1) next) (sym (sym c.is_received.ensures ∙ w.if-is_received.false))
    ] in
    record {
      few = omega (arith, at_most b next c.if-is_received.next (sym became), v.few);
      due = ap (λ l. l ++ accepted p role (drop c.if-is_received.next ts) later) c.in_ok-put_accepted_at.ensures ∙ append_assoc out one (accepted p role (drop c.if-is_received.next ts) later)
          ∙ ap (λ d. out ++ (one ++ accepted p role d later)) (due_after b next c.if-is_received.next ts became)
          ∙ ap (λ l. out ++ accepted p role (drop next ts) l) (sym (map_drop_next action_value actions k x (omega arith) c.action-item.is)) ∙ v.due;
    }
