-- A verified code is certified or has a refusal.
use Rattle.std.proofs.Common.{◌≡◌, ◌≢◌, ℕ, zero, suc, ◌+◌, ◌<◌, ◌≤◌, List, [], ◌∷◌, ◌++◌, length, Bool, true, false, Option, Some, None, refl, sym, ap, ◌∙◌, subst, arith, inl, inr}
use Rattle.std.specs.Prelude.{slice_get}
use Rattle.anb_lemmas.proofs.Numbers.{below_or_last}
use Rattle.anb_base.specs.declared.TheConstants.{ARRIVAL, WIDE}
use Rattle.anb_term.specs.FreeAlgebra.{terms}
use Rattle.anb_term.specs.Tree.{Tree, tree_eqb}
use Rattle.anb_term.specs.TreeSame.{tree_itself, tree_same}
use Rattle.anb_term.proofs.Lists.{slice_get-there}
use Rattle.anb_plays.specs.Plans.{Event, know, fresh, send, recv}
use Rattle.anb_plays.specs.Codes.{Act, takes, draws, receives, sends, works, Work}
use Rattle.anb_plays.specs.Exec.{worked}
use Rattle.anb_code.specs.CodeValue.{CodeValue}
use Rattle.anb_code.specs.Laws.{VerifiedIsRunnable}
use Rattle.anb_code.specs.Meaning.{acts_of}
use Rattle.anb_code.specs.Verified.{IsVerifiedCode}
use Rattle.anb_protocol.specs.Plans.{plan_of}
use Rattle.anb_protocol.specs.Plays.{events_of}
use Rattle.anb_protocol.specs.Protocols.{ProtocolValue}
use Rattle.anb_outcomes.specs.declared.certificates.CertifyNo.{CertifyNo}
use Rattle.anb_outcomes.specs.declared.certificates.CertifyNo.TheVariants.{Frame, Untrue, Sent, Loose, NoMemory}
use Rattle.anb_certify.specs.Certified.{HasNames, IsCertified, Refuses, stray}
use Rattle.anb_certify.specs.Numbered.{TableValue, IsLoose}
use Rattle.anb_certify.specs.Statements.{EachIsEither}
use Rattle.anb_certify.specs.Tied.{AreEnough, KeepsRules}
use Rattle.anb_certify.specs.Walking.{Stands}
use Rattle.anb_certify.proofs.Ending.{starts}
use Rattle.anb_certify.proofs.Walking.{done_work, ends_loose, ends_well, fresh_on, heard, know_on, receive_loose, receive_on, send_loose, send_on, send_there, sent, untrue}

-- all registers keep the rules, or one is the first that breaks them
enough_or_loose : (v : TableValue) → (AreEnough v.did v.terms → ⊥) → ((i : ℕ) → IsLoose v.did v.terms i → ⊥) → ⊥
enough_or_loose v never tight = go (length v.terms) (omega arith) never where
  go : (k : ℕ) → k ≤ length v.terms → (((i : ℕ) → i < k → KeepsRules v.did v.terms i) → ⊥) → ⊥
  go zero h f = f (λ i less. absurd (omega (arith, less)))
  go (suc k) h f = go k (omega (arith, h)) (λ all. tight k (record {
    within = omega (arith, h);
    breaks = λ keeps. f (λ i less. elim (below_or_last i k (omega (arith, less))) [
      | inl earlier ↦ all i earlier
      | inr same ↦ subst (λ j. KeepsRules v.did v.terms j) (sym same) keeps
    ]);
    first = all;
  }))

module _ (p : ProtocolValue) (role : ℕ) (code : CodeValue) (uncertified : IsCertified p role code → ⊥) (unrefused : (no : CertifyNo) → no ≢ NoMemory → Refuses p role code no → ⊥) where
  at_work : (acts : List Act) (es : List Event) (n : ℕ) (v : TableValue) (w : Work) (o : Option (List Tree)) → worked terms v.terms w ≡ o → Stands p role code (works w ∷ acts) es n v
      → ((u : TableValue) → Stands p role code acts es (n + 1) u → ⊥) → ⊥
  at_work acts es n v w None is s on = unrefused (Untrue n) (λ e. cc) (untrue p role code acts es n v w s is)
  at_work acts es n v w (Some ws) is s on =
      let u : TableValue = record { terms = v.terms ++ ws; did = v.did ++ (length v.terms, w) ∷ [] } in
      on u (done_work p role code acts es n v u w (record { wrote = ws; worked = is; terms = refl; did = refl }) s)

  at_send : (acts : List Act) (r : ℕ) (t : Tree) (es : List Event) (n : ℕ) (v : TableValue) (x : Tree) (b : Bool) → slice_get v.terms r ≡ Some x → tree_eqb x t ≡ b → Stands p role code (sends r ∷ acts) (send t ∷ es) n v
      → (Stands p role code acts es (n + 1) v → ⊥) → ⊥
  at_send acts r t es n v x true at is s on =
      let here : slice_get v.terms r ≡ Some t = at ∙ ap Some (tree_same x t is) in
      enough_or_loose v (λ enough. on (send_on p role code acts r t es n v here enough s)) (λ i loose. unrefused (Loose n i) (λ e. cc) (send_loose p role code acts r t es n v i here loose s))
  at_send acts r t es n v x false at is s on =
      unrefused (Sent n) (λ e. cc) (sent p role code acts r t es n v (λ here. let same : x ≡ t = (let both : Some x ≡ Some t = sym at ∙ here in cc) in let never : false ≡ true = sym is ∙ ap (λ (y : Tree). tree_eqb y t) same ∙ tree_itself t in cc) s)

  walk : (acts : List Act) (es : List Event) (n : ℕ) (v : TableValue) → Stands p role code acts es n v → ⊥
  walk [] es n v s =
      enough_or_loose v (λ enough. uncertified (s.framed, ends_well p role code es n v enough s)) (λ i loose. unrefused (Loose n i) (λ e. cc) (ends_loose p role code es n v i loose s))
  walk (works w ∷ acts) es n v s = at_work acts es n v w (worked terms v.terms w) refl s (walk acts es (n + 1))
  walk (takes ∷ acts) (know t ∷ es) n v s = walk acts es (n + 1) (heard v t) (know_on p role code takes acts t es n v refl s)
  walk (draws ∷ acts) (fresh t ∷ es) n v s = walk acts es (n + 1) (heard v t) (fresh_on p role code draws acts t es n v refl s)
  walk (receives ∷ acts) (recv t ∷ es) n v s =
      enough_or_loose v (λ enough. walk acts es (n + 1) (heard v t) (receive_on p role code receives acts t es n v refl enough s))
      (λ i loose. unrefused (Loose n i) (λ e. cc) (receive_loose p role code receives acts t es n v i refl loose s))
  walk (sends r ∷ acts) (send t ∷ es) n v s =
      let x = slice_get-there v.terms r (send_there p role code acts r t es n v s) in
      at_send acts r t es n v x.0 (tree_eqb x.0 t) x.1 refl s (walk acts es (n + 1) v)
  walk (act ∷ acts) es n v s = absurd s.order

  named : VerifiedIsRunnable → IsVerifiedCode ARRIVAL WIDE code → HasNames p role code → (o : Option ℕ) → stray p code.instrs (plan_of p role) 1 ≡ o → ⊥
  named runs verified names None is = walk (acts_of code) (events_of p role) 1 (record { terms = []; did = [] }) (starts p role code (record { terms = []; did = [] }) (names, is) runs verified refl refl)
  named runs verified names (Some n) is = unrefused (Frame n) (λ e. cc) (inr (names, is))

pub each_is_either : VerifiedIsRunnable → EachIsEither
each_is_either runs p role code verified uncertified unrefused =
    unrefused (Frame 0) (λ e. cc) (inl ((λ names. named p role code uncertified unrefused runs verified names (stray p code.instrs (plan_of p role) 1) refl), refl))
