-- A mutant is told in an attempt of a suite.
use Rattle.std.proofs.Common.{◌≡◌, ◌≢◌, ℕ, Bool, true, false, sym, ap, ◌∙◌, subst}
use Rattle.anb_code.specs.Meaning.{acts_of}
use Rattle.anb_partner.specs.Laws.{PartnersPlay}
use Rattle.anb_partner.specs.Plans.{Script}
use Rattle.anb_protocol.specs.Plays.{honest_bytes, meaning_of}
use Rattle.anb_protocol.specs.Protocols.{ProtocolValue}
use Rattle.anb_term.specs.Statements.{NewAtomAgrees}
use Rattle.anb_term.specs.View.{tree_of}
use Rattle.anb_tries.specs.Laws.{Attempt, IsAttempt}
use Rattle.anb_verdict.specs.Verdicts.{is_good}
use Rattle.anb_dues.specs.Laws.{IsTriedOf}
use Rattle.anb_dues.proofs.Stopping.{Grounds}
use Rattle.anb_mutants.specs.Laws.{IsApart, IsHeardOut, IsOfCheck, RunsLess}
use Rattle.anb_mutants.proofs.Talking.{name_of, names_are, scened}
use Rattle.anb_mutants.proofs.Telling.{told, told_apart}

pub mutant_told : (p : ProtocolValue) → PartnersPlay p → (a : Attempt) → IsAttempt a → (of : IsTriedOf p a) → Grounds p of.role (acts_of of.code) → IsHeardOut a → (check : ℕ) → IsOfCheck p a of check → (drops : ℕ → Bool) → drops check ≡ true → RunsLess a of.code drops
    → is_good a.verdict ≡ false
mutant_told p law a is of g out check known drops dropped mutant =
    let at = known.at in
    let h = scened p law a of g check at.case at.is_case at.scene in
    told a is of.code check at.case h out drops dropped mutant
    (name_of a is (acts_of of.code) h.base h.names mutant.draw mutant.drawn) (names_are a is (acts_of of.code) h.base h.names mutant.draw mutant.drawn) known.event known.due (at.scene.due.known known.event (sym of.is.due ∙ known.due)).0

pub mutant_seen : (p : ProtocolValue) → PartnersPlay p → NewAtomAgrees (meaning_of p) → (a : Attempt) (at : IsAttempt a) (of : IsTriedOf p a) → Grounds p of.role (acts_of of.code) → IsHeardOut a → (check : ℕ) (drops : ℕ → Bool) → drops check ≡ true → (mutant : RunsLess a of.code drops)
    → IsApart p a at of check mutant.draw → is_good a.verdict ≡ false
mutant_seen p law new_atom a at of g out check drops dropped mutant apart =
    let here = apart.here in
    let h = scened p law a of g check here.case here.is_case here.scene in
    let same : p ≡ a.script.protocol = sym (ap (λ (s : Script). s.protocol) of.is.script) in
    told_apart a at of.code check here.case h out drops dropped mutant apart.atoms apart.names
    (subst (λ (q : ProtocolValue). honest_bytes q apart.atoms (tree_of here.case.one) ≢ honest_bytes q apart.atoms (tree_of here.case.other)) same apart.differ)
    (subst (λ (q : ProtocolValue). NewAtomAgrees (meaning_of q)) same new_atom) apart.told
