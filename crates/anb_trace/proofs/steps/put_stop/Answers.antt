use Rattle.std.proofs.Common.{◌≡◌, ◌+◌, ◌++◌, ◌∷◌, [], ℕ, List, sym, ap, ◌∙◌}
use Rattle.std.specs.Prelude.{codes, decimal}
use Rattle.anb_trace.specs.Tracing.{subject_in}
use Rattle.anb_trace.specs.Words.{why}
use Rattle.anb_trace.proofs.Placing.{stop_joined}
use Rattle.anb_trace.proofs.steps.put_stop.Goals as goal

pub returns : goal.returns
returns c =
    let old = c.args.out.now.items in
    let event : List ℕ = decimal c.args.standing.now.events in
    let place : List ℕ = decimal (c.args.at + 1) in
    let r : List ℕ = why (subject_in c.args.subject.now) c.args.standing.now.registers.items c.args.instr.now in
    let a : List ℕ = codes "stopped at event " ++ event in
    let b : List ℕ = codes ", instruction " ++ (place ++ codes ": ") in
    let stopped : c.put_stopped.new.out.items ≡ old ++ a = c.in_ok-put_stopped.ensures in
    let placed : c.put_place.new.out.items ≡ c.put_stopped.new.out.items ++ b = c.in_ok-put_place.ensures in
    let reason : c.put_reason.new.out.items ≡ c.put_place.new.out.items ++ r = rw (sym c.deref.ensures.value) c.in_ok-put_reason.ensures in
    let end : c.push.new.self.items ≡ c.put_reason.new.out.items ++ 10 ∷ [] = c.in_ok-push.ensures.items in
    end ∙ ap (λ l. l ++ 10 ∷ []) (reason ∙ ap (λ l. l ++ r) (placed ∙ ap (λ l. l ++ b) stopped))
    ∙ stop_joined old (codes "stopped at event ") event (codes ", instruction ") place (codes ": ") r
