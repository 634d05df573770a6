-- A walk over a code, one instruction after another.
use Rattle.std.proofs.Common.{◌≡◌, ℕ, ◌+◌, List, [], ◌∷◌, ◌++◌, length, map, Bool, true, false, cond, refl, sym, ap, ◌∙◌, arith, append_assoc}
use Rattle.std.specs.Prelude.{◌==◌, ◌&&◌}
use Rattle.std.proofs.lemmas.List.{append-nil}
use Rattle.anb_term.specs.Tree.{Tree}
use Rattle.anb_plays.specs.Plans.{Event, know, fresh, send, recv, known}
use Rattle.anb_plays.specs.Codes.{Act, takes, draws, receives, sends, works, equal}
use Rattle.anb_plays.specs.Exec.{count_written}
use Rattle.anb_plays.specs.Honest.{made}
use Rattle.anb_unify.specs.Equations.{EquationValue}
use Rattle.anb_unify.specs.Views.{equation_value}
use Rattle.anb_probe.specs.Cases.{drawn, is_comparison, without, less}
use Rattle.anb_distinguish.specs.Equations.{equations_from, equations_of, held_from, received_from}
use Rattle.anb_suite.specs.declared.walking.Walk.{Walk}
use Rattle.anb_suite.specs.Walks.{sent_in, count_by_act, count_drawn, HasStepped, IsWalkedTo, IsWalked, IsBegun, IsBegunTo, HasHeld}

no_more : (n : ℕ) → n + 0 ≡ n
no_more n = omega arith

-- ---- one act, and the others

module _ (N : ℕ) (draw : ℕ → Tree) where
  equations_cons : (act : Act) (acts : List Act) (n i : ℕ) → equations_from N draw (act ∷ []) n i ++ equations_from N draw acts (n + count_by_act act) (i + count_drawn act) ≡ equations_from N draw (act ∷ acts) n i
  equations_cons takes acts n i = ap (λ k. equations_from N draw acts k (i + 0)) (no_more n) ∙ ap (equations_from N draw acts n) (no_more i)
  equations_cons draws acts n i = refl
  equations_cons receives acts n i = ap (equations_from N draw acts (n + 1)) (no_more i)
  equations_cons (sends r) acts n i = ap (λ k. equations_from N draw acts k (i + 0)) (no_more n) ∙ ap (equations_from N draw acts n) (no_more i)
  equations_cons (works w) acts n i = ap (λ k. equations_from N draw (works w ∷ []) n i ++ equations_from N draw acts (n + count_written w) k) (no_more i)

received_cons : (act : Act) (acts : List Act) (n : ℕ) → received_from (act ∷ []) n ++ received_from acts (n + count_by_act act) ≡ received_from (act ∷ acts) n
received_cons takes acts n = ap (received_from acts) (no_more n)
received_cons draws acts n = refl
received_cons receives acts n = refl
received_cons (sends r) acts n = ap (received_from acts) (no_more n)
received_cons (works w) acts n = refl

sent_cons : (act : Act) (acts : List Act) → sent_in (act ∷ []) ++ sent_in acts ≡ sent_in (act ∷ acts)
sent_cons takes acts = refl
sent_cons draws acts = refl
sent_cons receives acts = refl
sent_cons (sends r) acts = refl
sent_cons (works w) acts = refl

-- what was appended stands before what is left
joined : {A : Type 0} (old new more rest : List A) → new ≡ old ++ more → new ++ rest ≡ old ++ (more ++ rest)
joined old new more rest e = ap (λ l. l ++ rest) e ∙ append_assoc old more rest

module _ (N : ℕ) (draw : ℕ → Tree) (E : List EquationValue) (R S : List ℕ) where
  pub stepped : (act : Act) (lacking acts : List Act) (old new : Walk) → HasStepped N draw act old new → IsWalkedTo N draw E R S (act ∷ lacking) (act ∷ acts) old → IsWalkedTo N draw E R S lacking acts new
  stepped act lacking acts old new s w = record {
    equations_are = ap (λ k. map equation_value new.equations.items ++ equations_from N draw lacking k new.drawn) s.next
        ∙ ap (λ k. map equation_value new.equations.items ++ equations_from N draw lacking (old.next + count_by_act act) k) s.drawn
        ∙ joined (map equation_value old.equations.items) (map equation_value new.equations.items) (equations_from N draw (act ∷ []) old.next old.drawn) _ s.equations
        ∙ ap (λ l. map equation_value old.equations.items ++ l) (equations_cons N draw act lacking old.next old.drawn)
        ∙ w.equations_are;
    received_are = ap (λ k. new.received.items ++ received_from acts k) s.next
        ∙ joined old.received.items new.received.items (received_from (act ∷ []) old.next) _ s.received
        ∙ ap (λ l. old.received.items ++ l) (received_cons act acts old.next)
        ∙ w.received_are;
    sent_are = joined old.sent.items new.sent.items (sent_in (act ∷ [])) (sent_in acts) s.sent
        ∙ ap (λ l. old.sent.items ++ l) (sent_cons act acts)
        ∙ w.sent_are;
  }

  pub skipped : (a b : ℕ) (lacking acts : List Act) (walk : Walk) → IsWalkedTo N draw E R S lacking (works (equal a b) ∷ acts) walk → IsWalkedTo N draw E R S lacking acts walk
  skipped a b lacking acts walk w = record {
    equations_are = w.equations_are;
    received_are = ap (λ k. walk.received.items ++ received_from acts k) (sym (no_more walk.next)) ∙ w.received_are;
    sent_are = w.sent_are;
  }

-- ---- the check

module _ (check : ℕ) where
  abbrev drops : ℕ → Bool
  drops n = n == check

  never : (b : Bool) → (b && false) ≡ false
  never true = refl
  never false = refl

  pub kept : (act : Act) (acts : List Act) (i : ℕ) → (i + 1 == check) ≡ false → without drops i (act ∷ acts) ≡ act ∷ without drops (i + 1) acts
  kept act acts i e = ap (λ b. cond (is_comparison act && b) [] (act ∷ []) ++ without drops (i + 1) acts) e ∙ ap (λ b. cond b [] (act ∷ []) ++ without drops (i + 1) acts) (never (is_comparison act))

  pub dropped : (a b : ℕ) (acts : List Act) (i : ℕ) → (i + 1 == check) ≡ true → without drops i (works (equal a b) ∷ acts) ≡ without drops (i + 1) acts
  dropped a b acts i e = ap (λ t. cond (true && t) [] (works (equal a b) ∷ []) ++ without drops (i + 1) acts) e

  pub walked_all : (N : ℕ) (plan : List Event) (acts : List Act) (walk : Walk) → IsWalkedTo N (drawn plan) (equations_of N (known plan) (drawn plan) (less check acts)) (received_from acts (length (known plan))) (sent_in acts) [] [] walk → IsWalked N plan acts check walk
  walked_all N plan acts walk w = record {
    equations = sym (append-nil (map equation_value walk.equations.items)) ∙ w.equations_are;
    received = sym (append-nil walk.received.items) ∙ w.received_are;
    sent = sym (append-nil walk.sent.items) ∙ w.sent_are;
  }

  pub walked_none : (N : ℕ) (plan : List Event) (acts : List Act) (walk : Walk) → IsBegun plan walk
      → IsWalkedTo N (drawn plan) (equations_of N (known plan) (drawn plan) (less check acts)) (received_from acts (length (known plan))) (sent_in acts) (without drops 0 acts) acts walk
  walked_none N plan acts walk b = record {
    equations_are = ap (λ l. l ++ equations_from N (drawn plan) (less check acts) walk.next walk.drawn) b.equations
        ∙ ap (λ k. held_from (known plan) 0 ++ equations_from N (drawn plan) (less check acts) k walk.drawn) b.next
        ∙ ap (λ k. held_from (known plan) 0 ++ equations_from N (drawn plan) (less check acts) (length (known plan)) k) b.drawn;
    received_are = ap (λ l. l ++ received_from acts walk.next) b.received ∙ ap (received_from acts) b.next;
    sent_are = ap (λ l. l ++ sent_in acts) b.sent;
  }

-- ---- what is known

pub held_more : (e : Event) (plan rest : List Event) (old new : Walk) → HasHeld (e ∷ []) old new → IsBegunTo plan (e ∷ rest) old → IsBegunTo plan rest new
held_more (know t) plan rest old new h b = record {
  equations = ap (λ k. map equation_value new.equations.items ++ held_from (known rest) k) h.next
      ∙ joined (map equation_value old.equations.items) (map equation_value new.equations.items) (held_from (t ∷ []) old.next) _ h.equations ∙ b.equations;
  received = h.received ∙ b.received;
  sent = h.sent ∙ b.sent;
  next = omega (arith, h.next, b.next);
  drawn = h.drawn ∙ b.drawn;
}
held_more (fresh t) plan rest old new h b = record {
  equations = ap (λ k. map equation_value new.equations.items ++ held_from (known rest) k) (h.next ∙ no_more old.next)
      ∙ joined (map equation_value old.equations.items) (map equation_value new.equations.items) [] _ h.equations ∙ b.equations;
  received = h.received ∙ b.received;
  sent = h.sent ∙ b.sent;
  next = omega (arith, h.next, b.next);
  drawn = h.drawn ∙ b.drawn;
}
held_more (send t) plan rest old new h b = record {
  equations = ap (λ k. map equation_value new.equations.items ++ held_from (known rest) k) (h.next ∙ no_more old.next)
      ∙ joined (map equation_value old.equations.items) (map equation_value new.equations.items) [] _ h.equations ∙ b.equations;
  received = h.received ∙ b.received;
  sent = h.sent ∙ b.sent;
  next = omega (arith, h.next, b.next);
  drawn = h.drawn ∙ b.drawn;
}
held_more (recv t) plan rest old new h b = record {
  equations = ap (λ k. map equation_value new.equations.items ++ held_from (known rest) k) (h.next ∙ no_more old.next)
      ∙ joined (map equation_value old.equations.items) (map equation_value new.equations.items) [] _ h.equations ∙ b.equations;
  received = h.received ∙ b.received;
  sent = h.sent ∙ b.sent;
  next = omega (arith, h.next, b.next);
  drawn = h.drawn ∙ b.drawn;
}

pub held_all : (plan : List Event) (walk : Walk) → IsBegunTo plan [] walk → IsBegun plan walk
held_all plan walk b = record {
  equations = sym (append-nil (map equation_value walk.equations.items)) ∙ b.equations;
  received = b.received;
  sent = b.sent;
  next = sym (no_more walk.next) ∙ b.next;
  drawn = b.drawn;
}

-- ---- what is made

pub made_cons : (e : Event) (rest : List Event) → made (e ∷ []) ++ made rest ≡ made (e ∷ rest)
made_cons (know t) rest = refl
made_cons (fresh t) rest = refl
made_cons (send t) rest = refl
made_cons (recv t) rest = refl
