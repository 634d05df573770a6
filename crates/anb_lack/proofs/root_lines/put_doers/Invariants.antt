use Rattle.std.proofs.Common.{◌≡◌, ◌++◌, ℕ, Bool, length, drop}
use Rattle.anb_lack.specs.Roots.{doers}
use Rattle.anb_lack.specs.Rows.{IsColumn}
use Rattle.anb_lack.proofs.root_lines.put_doers.Given as goal

abbrev pub invariant-loop-role : goal.invariant-loop-role
invariant-loop-role l = (does : ℕ → Bool) → IsColumn l.i (length l.names) does l.rows
    → l.out.items ++ doers does l.verb l.key l.role (drop l.role l.names) ≡ l.initial.out.items ++ doers does l.verb l.key 0 l.names
