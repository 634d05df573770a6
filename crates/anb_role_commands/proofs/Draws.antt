-- A code that fits a role's plan draws where the plan makes a name.
use Rattle.std.proofs.Common.{zero-add, cond, arith, ◌≡◌, ℕ, ◌+◌, Bool, true, false, List, [], ◌∷◌, map, refl, ap, ◌∙◌}
use Rattle.std.specs.Prelude.{◌||◌, nat_lt}
use Rattle.std.specs.List.{list_any}
use Rattle.std.proofs.lemmas.Bool.{lt-ltb}
use Rattle.std.proofs.lemmas.List.Sums.{sum_by-cons}
use Rattle.anb_code.specs.CodeValue.{CodeValue}
use Rattle.anb_code.specs.Meaning.{act_of}
use Rattle.anb_code.specs.Taking.{count_fresh, is_fresh}
use Rattle.anb_code.specs.declared.instr.Instr.{Instr}
use Rattle.anb_code.specs.declared.instr.Instr.TheVariants.{Take, Fresh, Recv, Send, Hash, Mac, Seal, Unseal, Wrap, Unwrap, Build, Parse, Equal}
use Rattle.anb_compile.specs.Fitting.{FitsRole}
use Rattle.anb_format.specs.Formats.{FormatValue}
use Rattle.anb_plays.specs.Fits.{Along, AnyBorder, AnySend, AnyWork, Place}
use Rattle.anb_protocol.specs.Plans.{PlanEvent, to_know, to_make, to_send, to_receive, is_to_make, plan_of}
use Rattle.anb_protocol.specs.Plays.{event_of}
use Rattle.anb_protocol.specs.Protocols.{ProtocolValue}
use Rattle.anb_command.specs.Errands.{draws}
use Rattle.anb_role_commands.specs.Jobs.{makes_names}

-- some instruction draws where some event makes a name
any_draws : (formats : List FormatValue) (instrs : List Instr) (plan : List PlanEvent) (s : Place)
    → Along AnySend AnyWork AnyBorder (map (act_of formats) instrs) (map event_of plan) s → list_any is_fresh instrs ≡ list_any is_to_make plan
any_draws formats [] [] s along = refl
any_draws formats [] (e ∷ plan) s along = absurd along
any_draws formats (Hash r ∷ instrs) plan s along = any_draws formats instrs plan _ along.1
any_draws formats (Mac k b ∷ instrs) plan s along = any_draws formats instrs plan _ along.1
any_draws formats (Seal k b ∷ instrs) plan s along = any_draws formats instrs plan _ along.1
any_draws formats (Unseal k c ∷ instrs) plan s along = any_draws formats instrs plan _ along.1
any_draws formats (Wrap k d b ∷ instrs) plan s along = any_draws formats instrs plan _ along.1
any_draws formats (Unwrap k d c ∷ instrs) plan s along = any_draws formats instrs plan _ along.1
any_draws formats (Build f rs ∷ instrs) plan s along = any_draws formats instrs plan _ along.1
any_draws formats (Parse f r ∷ instrs) plan s along = any_draws formats instrs plan _ along.1
any_draws formats (Equal a b ∷ instrs) plan s along = any_draws formats instrs plan _ along.1
any_draws formats (Take text ∷ instrs) (to_know t ∷ plan) s along = any_draws formats instrs plan _ along
any_draws formats (Take text ∷ instrs) (to_make t ∷ plan) s along = absurd along
any_draws formats (Take text ∷ instrs) (to_send i t ∷ plan) s along = absurd along
any_draws formats (Take text ∷ instrs) (to_receive i t ∷ plan) s along = absurd along
any_draws formats (Take text ∷ instrs) [] s along = absurd along
any_draws formats (Fresh ∷ instrs) (to_make t ∷ plan) s along = refl
any_draws formats (Fresh ∷ instrs) (to_know t ∷ plan) s along = absurd along
any_draws formats (Fresh ∷ instrs) (to_send i t ∷ plan) s along = absurd along
any_draws formats (Fresh ∷ instrs) (to_receive i t ∷ plan) s along = absurd along
any_draws formats (Fresh ∷ instrs) [] s along = absurd along
any_draws formats (Recv ∷ instrs) (to_receive i t ∷ plan) s along = any_draws formats instrs plan _ along.1
any_draws formats (Recv ∷ instrs) (to_make t ∷ plan) s along = absurd along
any_draws formats (Recv ∷ instrs) (to_know t ∷ plan) s along = absurd along
any_draws formats (Recv ∷ instrs) (to_send i t ∷ plan) s along = absurd along
any_draws formats (Recv ∷ instrs) [] s along = absurd along
any_draws formats (Send r ∷ instrs) (to_send i t ∷ plan) s along = any_draws formats instrs plan _ along.2
any_draws formats (Send r ∷ instrs) (to_make t ∷ plan) s along = absurd along
any_draws formats (Send r ∷ instrs) (to_know t ∷ plan) s along = absurd along
any_draws formats (Send r ∷ instrs) (to_receive i t ∷ plan) s along = absurd along
any_draws formats (Send r ∷ instrs) [] s along = absurd along

above : (b : Bool) (n : ℕ) (rest : Bool) → nat_lt 0 n ≡ rest → nat_lt 0 (cond b 1 0 + n) ≡ b || rest
above true n rest same = lt-ltb 0 (1 + n) (omega arith)
above false n rest same = ap (λ k. nat_lt 0 k) (zero-add n) ∙ same

-- a count is above 0 where some item counts
count_any : (instrs : List Instr) → nat_lt 0 (count_fresh instrs) ≡ list_any is_fresh instrs
count_any [] = refl
count_any (i ∷ instrs) =
    ap (λ k. nat_lt 0 k) (sum_by-cons (λ (x : Instr). cond (is_fresh x) 1 0) i instrs) ∙ above (is_fresh i) (count_fresh instrs) (list_any is_fresh instrs) (count_any instrs)

pub draws_as_made : (p : ProtocolValue) (role : ℕ) (code : CodeValue) → FitsRole p role code → draws code ≡ makes_names p role
draws_as_made p role code fits = count_any code.instrs ∙ any_draws code.formats code.instrs (plan_of p role) _ fits.fits.order
