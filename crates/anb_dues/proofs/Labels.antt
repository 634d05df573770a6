-- The labels of a partner's plan are over the protocol's operators.
use Rattle.std.proofs.Common.{ℕ, ◌+◌, Bool, List, [], ◌∷◌, ◌++◌, length, map, Option, Some, None, sym, subst}
use Rattle.anb_term.specs.Tree.{Tree, trees_of, AreFormed}
use Rattle.anb_term.specs.declared.term.Op.{Op}
use Rattle.anb_plays.specs.Honest.{LabelsAreFormed}
use Rattle.anb_protocol.specs.Plans.{PlanEvent, to_know, to_make, to_send, to_receive, plan_of}
use Rattle.anb_protocol.specs.Plays.{event_of}
use Rattle.anb_protocol.specs.Texts.{known_by}
use Rattle.anb_partner.specs.Plans.{Script, handed_terms, has_atom, hook, mirrored, partner_plan}
use Rattle.anb_tries.proofs.Along.{either}
use Rattle.anb_tries.proofs.Placed.{plan_apart}

module _ (has : Op → Bool) where
  abbrev Labels : List PlanEvent → Type 0
  Labels es = LabelsAreFormed has (map event_of es)

  behind_known : (ts : List Tree) (es : List PlanEvent) → AreFormed has (trees_of ts) → Labels es → Labels (map to_know ts ++ es)
  behind_known [] es all f = f
  behind_known (t ∷ ts) es all f = (all.0, behind_known ts es all.1 f)

  behind_handed : (ts : List Tree) (es : List PlanEvent) → AreFormed has (trees_of ts) → Labels es → Labels (map (to_receive 0) ts ++ es)
  behind_handed [] es all f = f
  behind_handed (t ∷ ts) es all f = (all.0, behind_handed ts es all.1 f)

  at_hook : (spare line : ℕ) (right : Option Tree) (es : List PlanEvent) → Labels es → Labels (hook spare line right ++ es)
  at_hook spare line None es f = f
  at_hook spare line (Some r) es f = (tt, f)

  mirror_formed : (spare : ℕ) (right : Option Tree) (line : ℕ) (es : List PlanEvent) (ins ms : List Tree) → AreFormed has (trees_of ms) → Labels (mirrored spare right line es ins ms)
  mirror_formed spare right line [] ins ms all = tt
  mirror_formed spare right line (to_know t ∷ es) ins ms all = mirror_formed spare right line es ins ms all
  mirror_formed spare right line (to_make t ∷ es) ins ms all = mirror_formed spare right line es ins ms all
  mirror_formed spare right line (to_send i t ∷ es) ins [] all = tt
  mirror_formed spare right line (to_send i t ∷ es) ins (m ∷ ms) all = (all.0, mirror_formed spare right (line + 1) es ins ms all.1)
  mirror_formed spare right line (to_receive i t ∷ es) [] ms all = tt
  mirror_formed spare right line (to_receive i t ∷ es) (a ∷ ins) ms all =
      let next = to_send line a ∷ mirrored spare None (line + 1) es ins ms in
      either (λ l. Labels l) (has_atom spare a) (hook spare line right ++ next) (to_send line a ∷ mirrored spare right (line + 1) es ins ms)
      (at_hook spare line right next (mirror_formed spare None (line + 1) es ins ms all)) (mirror_formed spare right (line + 1) es ins ms all)

  -- where what the role knows, what all others have and what the role says are
  pub partner_formed : (s : Script) → AreFormed has (trees_of (known_by s.protocol s.role)) → AreFormed has (trees_of (handed_terms s.protocol s.role)) → AreFormed has (trees_of s.messages)
      → LabelsAreFormed has (map event_of (partner_plan s))
  partner_formed s knows hands messages =
      let mirror = mirrored (length s.protocol.atoms) s.right 1 (plan_of s.protocol s.role) s.arrivals s.messages in
      subst Labels (sym (plan_apart s))
      (behind_known (known_by s.protocol s.role) (map (to_receive 0) (handed_terms s.protocol s.role) ++ mirror) knows
      (behind_handed (handed_terms s.protocol s.role) mirror hands (mirror_formed (length s.protocol.atoms) s.right 1 (plan_of s.protocol s.role) s.arrivals s.messages messages)))
