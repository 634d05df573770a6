use Rattle.std.proofs.Common.{arith, ◌≡◌, ◌≤◌, ◌<◌, ◌++◌, ◌∷◌, ℕ, List, [], length, ap, sym, subst, ◌∙◌, Some}
use Rattle.std.specs.Prelude.{slice_get, slice_set}
use Rattle.std.proofs.lemmas.Option.{slice_get-get_or}
use Rattle.std.proofs.lemmas.List.Elements.{All-set}
use Rattle.anb_lemmas.proofs.Results.{on_ok_any}
use Rattle.anb_lemmas.proofs.Lists.{set_long}
use Rattle.anb_machine.specs.ByteRuns.{run_bytes}
use Rattle.anb_host.specs.declared.event.HostEvent.{HostEvent}
use Rattle.anb_host.specs.Own.{session_of, own, answer}
use Rattle.anb_host.specs.Hosts.{HostValue, plays_of, Stands, StandsFor}
use Rattle.anb_host.specs.Inside.{host_of, IsWaiting}
use Rattle.anb_host.proofs.Standing.{each_same, answered, set_back, Each}
use Rattle.anb_host.proofs.host.Host.answer.Goals as goal

pub returns-then-s-len-clause-stands : goal.returns-then-s-len-clause-stands
returns-then-s-len-clause-stands c =
    on_ok_any c.refusal.result (λ past st.
    let P : HostValue → Type 0 = λ v. StandsFor v past → StandsFor v (past ++ c.args.event ∷ []) in
    let beyond : length c.self.inside.sessions.items ≤ session_of c.args.event = omega (arith, c.if-s-len.true, c.session-s.ensures, c.len.ensures, c.self.inside.sessions.ok.0) in
    subst P c.self.view_is (each_same (plays_of (host_of c.self.inside)) c.self.inside.sessions.items past c.args.event beyond) st)

at : (c : goal.Joined-index_mut-answer) → slice_get c.self.inside.sessions.items c.session-s.result ≡ Some c.replace-session.result
at c =
    let xs = c.self.inside.sessions.items in
    let within : c.session-s.result < length xs = omega (arith, c.self.invariant.many) in
    slice_get-get_or xs c.session-s.result c.index_mut.result.now within ∙ ap Some (sym c.index_mut.ensures.value) ∙ ap Some (sym c.replace-session.ensures.value)

main : (c : goal.Joined-index_mut-answer) (past : List HostEvent) → StandsFor (host_of c.self.inside) past
    → (c.in_ok-answer.answer.told.items ≡ answer (plays_of (host_of c.self.inside)) past c.args.event)
    × Each (plays_of (host_of c.self.inside)) (slice_set (slice_set c.self.inside.sessions.items c.session-s.result c.replace-session.new.dest) c.session-s.result c.in_ok-answer.answer.session) (past ++ c.args.event ∷ [])
main c past st =
    answered (plays_of (host_of c.self.inside)) c.self.inside.sessions.items c.args.event c.session-s.result c.replace-session.new.dest c.replace-session.result c.in_ok-answer.answer.session c.in_ok-answer.answer.told.items
    c.session-s.ensures (at c) (subst Answers c.deref.ensures.value c.in_ok-answer.ensures.own) past st where
      Answers : List (List ℕ) → Type 0
      Answers init =
          let play = run_bytes c.self.inside.code.now init c.self.inside.seed (session_of c.args.event) in
          (es : List HostEvent) → Stands play es c.replace-session.result
          → (c.in_ok-answer.answer.told.items ≡ own play (session_of c.args.event) es c.args.event) × Stands play (es ++ c.args.event ∷ []) c.in_ok-answer.answer.session

pub invariant_of-self-2 : goal.invariant_of-self-2
invariant_of-self-2 c =
    let xs = c.self.inside.sessions.items in
    let k = c.session-s.result in
    let u = c.replace-session.new.dest in
    record {
      takes = c.self.invariant.takes;
      fit = c.self.invariant.fit;
      many = set_long (slice_set xs k u) k c.in_ok-answer.answer.session ∙ set_long xs k u ∙ c.self.invariant.many;
      waiting =
          All-set IsWaiting (slice_set xs k u) k c.in_ok-answer.answer.session c.in_ok-answer.ensures.waiting
          (All-set IsWaiting xs k u (subst IsWaiting (sym c.replace-session.ensures.after) tt) c.self.invariant.waiting);
    }

pub returns-clause-own : goal.returns-clause-own
returns-clause-own c = λ past. subst (λ v. StandsFor v past → c.in_ok-answer.answer.told.items ≡ answer (plays_of v) past c.args.event) c.self.view_is (λ st. (main c past st).0)

pub returns-clause-stands : goal.returns-clause-stands
returns-clause-stands c = λ past st. (main c past (subst (λ v. StandsFor v past) (sym c.self.view_is) st)).1

pub returns-clause-refused : goal.returns-clause-refused
returns-clause-refused c = λ refused.
    let xs = c.self.inside.sessions.items in
    let k = c.session-s.result in
    ap (λ l. record (host_of c.self.inside) { sessions = l })
    (ap (λ v. slice_set (slice_set xs k c.replace-session.new.dest) k v) (c.in_ok-answer.ensures.refused refused) ∙ set_back xs k c.replace-session.new.dest c.replace-session.result (at c)) ∙ c.self.view_is
