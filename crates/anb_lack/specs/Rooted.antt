-- For proofs alone: what the roots of the code stand for.
use Rattle.std.specs.Prelude.{◌≡◌, List, length, map, option_map, Option, Some, None}
use Rattle.anb_term.specs.Tree.{Tree}
use Rattle.anb_term.specs.View.{tree_of}
use Rattle.anb_intern.specs.Nodes.{operands_at, AreUnder}
use Rattle.anb_protocol.specs.Protocols.{ProtocolValue}
use Rattle.anb_protocol.specs.Texts.{IsTermOf}
use Rattle.anb_lack.specs.declared.roots.Lock.{Lock}
use Rattle.anb_lack.specs.declared.roots.Locked.{Locked}
use Rattle.anb_lack.specs.declared.roots.Root.{Root}
use Rattle.anb_lack.specs.Opened.{inside}
use Rattle.anb_lack.specs.Roots.{LockValue, RootValue}

abbrev pub lock_value : Lock → LockValue
lock_value l = record { term = tree_of l.term; key = tree_of l.key; from = l.from }

abbrev pub locked_values : List Locked → List LockValue
locked_values ls = map (λ (l : Locked). lock_value l.lock) ls

-- these are the numbers of what stands in it
abbrev pub HasInside : List Tree → Locked → Type 0
HasInside pool l = AreUnder (length pool) l.inside.items × (operands_at pool l.inside.items ≡ inside (tree_of l.lock.term))

abbrev pub root_value : Root → RootValue
root_value r = record { part = tree_of r.part; lock = option_map lock_value r.lock; key = tree_of r.key }

-- its terms are the protocol's
abbrev pub LockHasTerms : ProtocolValue → LockValue → Type 0
LockHasTerms p l = IsTermOf p l.term × IsTermOf p l.key

abbrev pub MayHaveTerms : ProtocolValue → Option LockValue → Type 0
MayHaveTerms p None = Unit {0}
MayHaveTerms p (Some l) = LockHasTerms p l

abbrev pub HasTerms : ProtocolValue → RootValue → Type 0
HasTerms p r = IsTermOf p r.part × MayHaveTerms p r.lock × IsTermOf p r.key
