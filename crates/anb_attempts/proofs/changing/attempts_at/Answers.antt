use Rattle.std.proofs.Common.{List, [], ◌∷◌, ◌++◌, take, get_or, sym, subst, arith}
use Rattle.std.specs.List.{AllZip}
use Rattle.anb_lemmas.proofs.Each.{zip_and_last}
use Rattle.anb_spoil.specs.declared.changes.Change.{Change}
use Rattle.anb_spoil.specs.declared.changes.Change.TheVariants.{LastByte}
use Rattle.anb_verdict.specs.Places.{place_value}
use Rattle.anb_attempts.specs.declared.attempts.Attempt.{Attempt}
use Rattle.anb_attempts.specs.Attempts.{IsAttempt}
use Rattle.anb_attempts.proofs.Turns.{taken_next}
use Rattle.anb_attempts.proofs.changing.attempts_at.Goals as goal

pub loop-change-preserved : goal.loop-change-preserved
loop-change-preserved c =
    let xs = c.args.changes.now in
    let i = c.loop-change.change-index in
    let R : Change → Attempt → Type 0 = IsAttempt c.args.p.now c.args.role c.args.scene (place_value c.args.place.now) c.args.reading in
    let one = c.in_ok-attempt.ensures c.args.p.now c.args.role c.in_ok-other.ensures in
    let more = zip_and_last R (take i xs) c.loop-change.attempts.items _ c.in_ok-attempt.attempt c.loop-change.invariant one in
    subst (λ (l : List Change). AllZip R l c.push.new.self.items) (sym (taken_next xs i LastByte (omega arith)))
    (subst (AllZip R (take i xs ++ get_or xs i LastByte ∷ [])) (sym c.in_ok-push.ensures.items) more)
