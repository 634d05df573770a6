-- The codes of all roles, one after another.
use Rattle.std.proofs.Common.{◌≡◌, ℕ, ◌+◌, ◌<◌, ◌≤◌, List, [], ◌∷◌, ◌++◌, Option, Some, None, length, sym, subst, ◌∙◌, arith, below_more, inl, inr}
use Rattle.std.specs.Prelude.{slice_get}
use Rattle.anb_term.specs.Tree.{nodes}
use Rattle.anb_term.proofs.Lists.{slice_get-last}
use Rattle.anb_code.specs.CodeValue.{CodeValue}
use Rattle.anb_protocol.specs.Protocols.{ProtocolValue}
use Rattle.anb_protocol.specs.Plans.{plan_of}
use Rattle.anb_compile.specs.declared.compiling.Unsent.{Unsent}
use Rattle.anb_compile.specs.Fitting.{FitsRole}
use Rattle.anb_compile.specs.Unsent.{IsUnsent, SendsAll, labels_of}
use Rattle.anb_compile.specs.Counted.{count_demands, count_builds, count_subterms}
use Rattle.anb_compile.specs.Refusing.{IsSoonest, IsSooner}

-- what is known of a role's code
abbrev pub IsCode : ProtocolValue → ℕ → CodeValue → Type 0
IsCode p role code = FitsRole p role code × (count_demands code ≤ nodes (labels_of (plan_of p role))) × (count_builds code ≤ count_subterms (plan_of p role))

pub one_more_code : (p : ProtocolValue) (codes new : List CodeValue) (n : ℕ) (code : CodeValue) → length codes ≡ n → new ≡ codes ++ code ∷ [] → IsCode p n code → ((r : ℕ) (x : CodeValue) → slice_get codes r ≡ Some x → IsCode p r x)
    → (r : ℕ) (x : CodeValue) → slice_get new r ≡ Some x → IsCode p r x
one_more_code p codes new n code long is has all r x at =
    let P : List CodeValue → Type 0 = λ l. slice_get l r ≡ Some x in
    elim (slice_get-last codes code x r (subst P is at)) [
      | inl h ↦ all r x h
      | inr h ↦
          let R : ℕ → Type 0 = λ k. IsCode p k x in
          subst R (sym (h.0 ∙ long)) (subst (IsCode p n) h.1 has)
    ]

-- the next role can send all
pub still_soonest : (p : ProtocolValue) (n : ℕ) (first : Option Unsent) → SendsAll p n → IsSoonest p n first → IsSoonest p (n + 1) first
still_soonest p n None sends s = λ role action h. below_more (λ k. IsUnsent p k action → ⊥) n (λ k l. s k action l) (sends action) role h
still_soonest p n (Some u) sends s = (omega (arith, s.0), s.1, λ role action h less. below_more (λ k. IsUnsent p k action → ⊥) n (λ k l. s.2 k action l less) (sends action) role h)

-- the first one so far stays it
pub first_stays : (u next : Unsent) → u.action ≤ next.action → IsSooner (Some u) next u
first_stays u next sooner p s f = (
  omega (arith, s.0),
  s.1,
  λ role action h less. below_more (λ k. IsUnsent p k action → ⊥) next.role (λ k l. s.2 k action l less) (f.first action (omega (arith, less, sooner))) role h,
)

-- the next role's comes first where there was none, or it is sooner
pub no_first : (next : Unsent) → IsSooner None next next
no_first next p s f = (
  omega arith,
  f.unsent,
  λ role action h less. below_more (λ k. IsUnsent p k action → ⊥) next.role (λ k l. s k action l) (f.first action less) role h,
)

pub next_is_sooner : (u next : Unsent) → next.action < u.action → IsSooner (Some u) next next
next_is_sooner u next sooner p s f = (
  omega arith,
  f.unsent,
  λ role action h less. below_more (λ k. IsUnsent p k action → ⊥) next.role (λ k l. s.2 k action l (omega (arith, less, sooner))) (f.first action less) role h,
)
