-- Parts of terms, and actions of a role.
use Rattle.std.proofs.Common.{◌≡◌, ℕ, zero, suc, ◌-◌, ◌==◌, List, [], ◌∷◌, ◌++◌, map, Bool, true, false, Option, Some, None, slice_get, refl, sym, ap, ◌∙◌, subst}
use Rattle.std.specs.Prelude.{if◌then◌else◌}
use Rattle.std.specs.List.{AllByRecursion}
use Rattle.anb_term.specs.Tree.{Tree, trees_of, list_of}
use Rattle.anb_term.specs.TreeSame.{list_of-trees_of}
use Rattle.anb_protocol.specs.Plans.{messages}
use Rattle.anb_protocol.specs.Protocols.{ActionValue, ProtocolValue}
use Rattle.anb_protocol.specs.Texts.{IsTermOf, AreTermsOf}
use Rattle.anb_verdict.specs.Places.{is_own, own_of}

-- an operand by the list of all
pub operand_got : (ts : List Tree) (i : ℕ) (x : Option Tree) → slice_get ts i ≡ x → slice_get (list_of (trees_of ts)) i ≡ x
operand_got ts i x got = ap (λ l. slice_get l i) (list_of-trees_of ts) ∙ got

pub term_got : (p : ProtocolValue) (ts : List Tree) (i : ℕ) (u : Tree) → AreTermsOf p (trees_of ts) → slice_get ts i ≡ Some u → IsTermOf p u
term_got p [] i u all got = absurd (cc)
term_got p (t ∷ ts) zero u all got = (let e : t ≡ u = cc in subst (IsTermOf p) e all.0)
term_got p (t ∷ ts) (suc i) u all got = term_got p ts i u all.1 got

-- the message of an action of a role's is a term
pub own_term : (p : ProtocolValue) (role : ℕ) (actions : List ActionValue) (n : ℕ) (a : ActionValue) → AllByRecursion (IsTermOf p) (messages actions) → own_of role actions n ≡ Some a → IsTermOf p a.message
own_term p role [] n a all got = absurd (cc)
own_term p role (b ∷ actions) n a all got = by (is_own role b) (n == 1) (λ g. own_term p role actions (n - 1) a all.1 g) (λ g. own_term p role actions n a all.1 g) got where
  by : (own last : Bool) → (own_of role actions (n - 1) ≡ Some a → IsTermOf p a.message) → (own_of role actions n ≡ Some a → IsTermOf p a.message)
      → (if own then (if last then Some b else own_of role actions (n - 1)) else own_of role actions n) ≡ Some a → IsTermOf p a.message
  by true true before here got = (let e : b ≡ a = cc in subst (λ (x : ActionValue). IsTermOf p x.message) e all.0)
  by true false before here got = before got
  by false last before here got = here got
