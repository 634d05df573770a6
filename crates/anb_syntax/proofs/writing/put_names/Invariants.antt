use Rattle.std.proofs.Common.{◌≡◌, ◌++◌, drop, cond}
use Rattle.std.specs.List.{flat_map}
use Rattle.anb_syntax.specs.Canon.{all_bytes, lay_names, lay_comma_name}
use Rattle.anb_syntax.proofs.writing.put_names.Given as goal

abbrev pub invariant-loop-name : goal.invariant-loop-name
invariant-loop-name l =
    let rest = drop l.name-index l.names.items in
    l.out.items ++ all_bytes (cond l.first (lay_names rest) (flat_map lay_comma_name rest)) ≡ l.initial.out.items ++ all_bytes (lay_names l.names.items)
