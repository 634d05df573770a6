-- What a role begins with, and what its partner is handed, are bytes where those of all names are.
use Rattle.std.proofs.Common.{ℕ, List, [], ◌∷◌, length, map}
use Rattle.std.specs.List.{AllByRecursion, range_with_len}
use Rattle.anb_base.specs.Bytes.{IsBytes, IsBytes-pass, is_bytes-IsBytes}
use Rattle.anb_term.specs.Tree.{Tree}
use Rattle.anb_algebra.specs.ByteLawful.{bytes_are_lawful}
use Rattle.anb_plays.proofs.Honest.{is_value}
use Rattle.anb_compile.proofs.Protocols.{all_known}
use Rattle.anb_protocol.specs.Plans.{PlanEvent, to_know, to_make, to_send, to_receive, plan_of, term_in}
use Rattle.anb_protocol.specs.Plays.{honest_bytes, meaning_of}
use Rattle.anb_protocol.specs.Protocols.{ProtocolValue}
use Rattle.anb_protocol.specs.Texts.{IsTermOf, known_by, known_terms}
use Rattle.anb_protocol.proofs.KnowLemmas.{formed}
use Rattle.anb_partner.specs.Plans.{begins, handed_terms}
use Rattle.anb_dues.proofs.Naming.{handed_each}

module _ (p : ProtocolValue) where
  abbrev AllOurs : List Tree → Type 0
  AllOurs ts = AllByRecursion (IsTermOf p) ts

  begins_ours : (es : List PlanEvent) → AllByRecursion (λ e. IsTermOf p (term_in e)) es → AllOurs (begins es)
  begins_ours [] all = tt
  begins_ours (to_know t ∷ es) all = (all.0, begins_ours es all.1)
  begins_ours (to_make t ∷ es) all = (all.0, begins_ours es all.1)
  begins_ours (to_send i t ∷ es) all = begins_ours es all.1
  begins_ours (to_receive i t ∷ es) all = begins_ours es all.1

  module _ (plans : (role : ℕ) → AllByRecursion (λ e. IsTermOf p (term_in e)) (plan_of p role)) (role : ℕ) where
    pub handed_ours : AllOurs (handed_terms p role)
    handed_ours = handed_each (IsTermOf p) p role (λ other apart. begins_ours (plan_of p other) (plans other)) (range_with_len 0 (length p.roles))

  pub known_ours : AllOurs (known_terms p) → (role : ℕ) → AllOurs (known_by p role)
  known_ours all role = all_known (IsTermOf p) p.knows role all

  -- bytes of terms of the protocol
  module _ (atoms : ℕ → List ℕ) (bytes : (n : ℕ) → IsBytes (atoms n)) where
    pub term_bytes : (ts : List Tree) → AllOurs ts → AllByRecursion IsBytes (map (honest_bytes p atoms) ts)
    term_bytes [] all = tt
    term_bytes (t ∷ ts) all = (
      IsBytes-pass (honest_bytes p atoms t) (is_value (meaning_of p) (bytes_are_lawful p.formats p.suite) atoms (λ n. is_bytes-IsBytes (atoms n) (bytes n)) t (formed p t all.0)),
      term_bytes ts all.1,
    )
