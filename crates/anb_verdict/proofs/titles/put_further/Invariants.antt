use Rattle.std.proofs.Common.{◌≡◌, ◌++◌, drop}
use Rattle.std.specs.Prelude.{string_bytes}
use Rattle.anb_verdict.specs.Texts.{further_parts}
use Rattle.anb_verdict.proofs.titles.put_further.Given as goal

abbrev pub invariant-loop-place : goal.invariant-loop-place
invariant-loop-place l = string_bytes l.out ++ further_parts l.p l.role (drop l.place-index l.places) ≡ string_bytes l.initial.out ++ further_parts l.p l.role l.places
