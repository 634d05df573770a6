use Rattle.std.proofs.Common.{ℕ, List, subst}
use Rattle.anb_mistakes.specs.Unsent.{IsUnsentText}
use Rattle.anb_check_commands.proofs.verdict.lack_said.Goals as goal

pub returns : goal.returns
returns c =
    let name = c.args.name.now in
    let x = c.args.text.now in
    let lack = c.in_ok-lack.lack in
    let said = c.in_ok-said.said in
    let lines : IsUnsentText name x c.args.action lack.line.items c.deref-2.result.now said = subst (λ (l : List ℕ). IsUnsentText name x c.args.action l c.deref-2.result.now said) c.deref.ensures.value c.in_ok-said.ensures in
    (lack.line.items, lack.lists.items, c.in_ok-lack.ensures, subst (λ (l : List ℕ). IsUnsentText name x c.args.action lack.line.items l said) c.deref-2.ensures.value lines)
