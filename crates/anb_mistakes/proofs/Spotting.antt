-- What is beyond no limit.
use Rattle.std.proofs.Common.{◌≡◌, ◌≢◌, ℕ, List, refl}
use Rattle.anb_syntax.specs.Grammar.{Narration}
use Rattle.anb_syntax.specs.Words.{Tok}
use Rattle.anb_protocol.specs.declared.refusals.Kind.{Kind}
use Rattle.anb_protocol.specs.declared.refusals.ResolveNo.{ResolveNo}
use Rattle.anb_protocol.specs.declared.refusals.ResolveNo.TheVariants as resolving
use Rattle.anb_mistakes.specs.Spots.{fault_spot, spot}

pub no_limit : (n : Narration) (why : ResolveNo) (ts : List Tok) → ((k : Kind) (count : ℕ) → why ≢ resolving.Limit k count) → fault_spot n why ts ≡ spot n why ts
no_limit n (resolving.Limit k count) ts none = absurd (none k count refl)
no_limit n _ ts none = refl
