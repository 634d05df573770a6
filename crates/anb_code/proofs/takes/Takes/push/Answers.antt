use Rattle.std.proofs.Common.{◌≡◌, true, List, ℕ, ap, sym, ◌∙◌}
use Rattle.std.specs.Option.{is_some}
use Rattle.std.proofs.lemmas.Map.Text.{btree_map_updates_str}
use Rattle.anb_code.specs.RawValue.{RawInstrValue}
use Rattle.anb_code.specs.Table.{is_take}
use Rattle.anb_code.proofs.TakenTexts.{others_push, texts_push}
use Rattle.anb_code.proofs.takes.Takes.push.Goals as goal

pub returns-in-Ok : goal.returns-in-Ok
returns-in-Ok c = λ before known.
    let instr = c.args.instr.now in
    let take : is_take instr.what ≡ true = sym c.is_take.ensures ∙ c.if-is_take.true in
    let name : c.as_str.result.now ≡ instr.name = c.as_str.ensures ∙ ap (λ (i : RawInstrValue). i.name) c.instr.view_is in
    record {
      others = known.others ∙ sym (others_push before instr take);
      texts = λ text. ap is_some (btree_map_updates_str c.as_str.result.now c.args.self.now.texts c.insert.new.self _ c.in-Ok.ensures.updates text)
          ∙ texts_push before instr c.as_str.result.now text _ _ name take (known.texts text);
    }
