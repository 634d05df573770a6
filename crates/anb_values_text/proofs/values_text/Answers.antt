use Rattle.std.proofs.Common.{◌≡◌, ◌∙◌, ◌++◌, ℕ, List, Ok, ap, sym, subst}
use Rattle.anb_values.specs.Fit.{Fit}
use Rattle.anb_values.specs.declared.fitted.Fitted.{Fitted}
use Rattle.anb_values_text.specs.Texts.{lines_text, seed_text, values_text}
use Rattle.anb_values_text.proofs.Again.{each_writable, written_is_read}
use Rattle.anb_values_text.proofs.values_text.Goals as goal

pub returns : goal.returns
returns c =
    let labels = c.args.labels.now in
    let values = c.args.values.now in
    let fitted : Fitted = record { values = values; seed = c.args.seed } in
    let is : c.new.result ≡ values_text labels values c.args.seed =
    c.new.ensures ∙ c.in_ok-put_seed.ensures ∙ ap (λ t. t ++ seed_text c.args.seed) (c.in_ok-put_lines.ensures ∙ ap (λ t. t ++ lines_text labels values) c.new-out.ensures.items) in
    record {
      is = is;
      reads = subst (λ (t : List ℕ). Fit t labels (Ok fitted)) (sym is)
          (written_is_read labels values c.args.seed c.requires.labels c.requires.differ c.requires.count (each_writable values c.all_bytes.ensures c.requires.short) c.is_seed.ensures);
    }
