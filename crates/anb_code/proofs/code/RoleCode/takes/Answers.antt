use Rattle.std.proofs.Common.{◌≡◌, count_by, ap, ◌∙◌}
use Rattle.anb_code.specs.CodeValue.{CodeValue}
use Rattle.anb_code.specs.Taking.{is_taking}
use Rattle.anb_code.proofs.Taking.{count_by-takes}
use Rattle.anb_code.proofs.code.RoleCode.takes.Goals as goal

pub returns : goal.returns
returns c =
    let same : c.deref.result.now ≡ c.args.self.now.instrs = c.deref.ensures.value ∙ ap (λ (code : CodeValue). code.instrs) c.self.view_is in
    c.count_takes.ensures ∙ ap (count_by is_taking) same ∙ count_by-takes c.args.self.now.instrs
