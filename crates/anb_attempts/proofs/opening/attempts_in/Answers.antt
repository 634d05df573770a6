use Rattle.std.proofs.Common.{List, [], ◌∷◌, ◌++◌, take, get_or, sym, subst, arith}
use Rattle.std.specs.List.{AllZip}
use Rattle.anb_lemmas.proofs.Each.{zip_and_last}
use Rattle.anb_spoil.specs.declared.changes.Change.TheVariants.{LastByte}
use Rattle.anb_spoil.specs.declared.wrongs.Wrong.{Wrong}
use Rattle.anb_spoil.specs.declared.wrongs.Wrong.TheVariants.{Changed}
use Rattle.anb_verdict.specs.Places.{place_value}
use Rattle.anb_attempts.specs.declared.attempts.Attempt.{Attempt}
use Rattle.anb_attempts.specs.Attempts.{IsOpeningAttempt}
use Rattle.anb_attempts.proofs.Turns.{taken_next}
use Rattle.anb_attempts.proofs.opening.attempts_in.Goals as goal

pub loop-way-preserved : goal.loop-way-preserved
loop-way-preserved c =
    let xs = c.args.ways.now in
    let i = c.loop-way.way-index in
    let d : Wrong = Changed LastByte in
    let R : Wrong → Attempt → Type 0 = IsOpeningAttempt c.args.p.now c.args.role c.args.scene (place_value c.args.place.now) in
    let more = zip_and_last R (take i xs) c.loop-way.attempts.items _ c.in_ok-attempt.attempt c.loop-way.invariant c.in_ok-attempt.ensures in
    subst (λ (l : List Wrong). AllZip R l c.push.new.self.items) (sym (taken_next xs i d (omega arith)))
    (subst (AllZip R (take i xs ++ get_or xs i d ∷ [])) (sym c.in_ok-push.ensures.items) more)
