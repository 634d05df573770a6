-- What the uses of names in the code stand for.
use Rattle.anb_resolve.specs.declared.uses.Use as code
use Rattle.anb_resolve.specs.declared.uses.Use.TheVariants as uses
use Rattle.anb_protocol.specs.Names.{Use, as_role, as_atom, as_format}

abbrev pub use_of : code.Use → Use
use_of (uses.Role x) = as_role x.now
use_of (uses.Atom x) = as_atom x.now
use_of (uses.Format x count) = as_format x.now count
