-- for proofs alone: what a handle owns.
use Rattle.std.specs.Prelude.{Bool, true, false, Option, Some, None}
use base.Fml.{Fml, ftrue}
use denote.RawPtr.{Ptr}
use Rattle.libc.specs.Heap.{chunk}
use Rattle.std_alloc.specs.Box.Ownership.{box_owns}
use Rattle.anb_c.specs.declared.session.Session.{Session}
use Rattle.anb_c.specs.contracts.session.Session.{the_row}

-- where it holds something, that, and the right to free its block
abbrev pub holds : Option Session → Ptr → Fml
holds None p = ftrue
holds (Some x) p = box_owns (λ ty ptr. chunk ty ptr) the_row p x

abbrev pub is_some : Option Session → Bool
is_some None = false
is_some (Some x) = true
