use Rattle.std.proofs.Common.{◌≡◌, ℕ, ◌≤◌, cond, ltb, length, Some, None, sym, ◌∙◌, arith}
use Rattle.std.proofs.lemmas.Bool.Decides.{nat_tests}
use Rattle.std.proofs.lemmas.List.Sums.{prefix_len-le-length}
use Rattle.anb_code.specs.Spelling.{place_of}
use Rattle.anb_code.proofs.spelling.place_of.Goals as goal

at_the_end : (place many : ℕ) → place ≤ many → cond (ltb place many) (Some place) None ≡ None → many ≡ place
at_the_end place many within none = grind (arith, nat_tests)

pub returns-in-None : goal.returns-in-None
returns-in-None c =
    at_the_end (place_of c.args.formats.now c.args.name.now) (length c.args.formats.now) (prefix_len-le-length _ c.args.formats.now) (sym c.position.ensures ∙ c.in-None.is)
